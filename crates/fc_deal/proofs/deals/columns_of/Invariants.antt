use Rattle.fc_deal.proofs.ColumnLemmas.{AreDealt}
use Rattle.fc_deal.proofs.deals.columns_of.Given as goal

abbrev pub invariant-loop-place : goal.invariant-loop-place
invariant-loop-place l = AreDealt l.cards l.place l.columns
