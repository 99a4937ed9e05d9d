use Rattle.{fc_text.proofs.ReadMovesLemmas.{IsLeft}, std.proofs.Common.{length}}
use Rattle.fc_text.proofs.moves.read.read_pairs.Given as goal

abbrev pub invariant-loop-named : goal.invariant-loop-named
invariant-loop-named g l = IsLeft (g.M.Notated.is_token g.R.Rule.game) l.text l.left l.moves.items

abbrev pub decreases-loop-named : goal.decreases-loop-named
decreases-loop-named g l = length l.left
