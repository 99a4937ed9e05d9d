use Rattle.{fc_text.proofs.SeeingLemmas.{counted_seen}, std.proofs.Common.{[], arith, refl}}
use Rattle.fc_text.proofs.board.reader.mark_cell.Goals as goal

pub returns-in-None : goal.returns-in-None
returns-in-None c = rw c.in-None.is (refl, counted_seen _ _ [] (λ card in_deck. omega arith))
