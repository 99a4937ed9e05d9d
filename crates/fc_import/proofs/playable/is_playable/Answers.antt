use Rattle.std.proofs.{Common.{[], arith, refl}, lemmas.List.Elements.{All-from_get_or}}
use Rattle.fc_import.specs.Import.{IsBuilt}
use Rattle.fc_import.proofs.playable.is_playable.Goals as goal

pub returns : goal.returns
returns g c = (
  (λ yes.
      All-from_get_or (IsBuilt g.R.Rule.game) c.args.board.now.columns []
      (λ place inside. c.loop-index.invariant place (omega (arith, inside, c.loop-index-test.false, c.heights.ensures.well_formed.piles.eight_columns)))),
  (λ all. refl),
)
