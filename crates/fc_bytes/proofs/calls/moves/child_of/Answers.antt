use Rattle.{fc_bytes.specs.{board_bytes}, std.proofs.Common.{refl}}
use Rattle.fc_bytes.proofs.calls.moves.child_of.Goals as goal

pub returns-in-Ok-clause-done : goal.returns-in-Ok-clause-done
returns-in-Ok-clause-done g c = λ _. (
  board_bytes c.step.new.self,
  (
    c.in-Some.played,
    c.step.new.self,
    c.in-Some-one_card.one,
    c.in-Some.ensures.board,
    c.in-Some-one_card.ensures.one_card,
    c.in-Ok.ensures.step,
    (c.in-Ok.ensures.well_formed, refl),
  ),
  (
    c.step.new.self,
    c.canon_passage-found.result,
    (c.in-Ok.ensures.well_formed, refl),
    c.canon_passage-found.ensures.chosen,
    c.of_carried.ensures,
    c.of.ensures,
  ),
)
