use Rattle.{fc_text.proofs.KeptLemmas.{few_cards, IsKept-column, no_column, takes_column}, std.proofs.Common.{arith}}
use Rattle.fc_text.proofs.board.reader.Reader.take_column.Goals as goal

pub overflow_cast-self : goal.overflow_cast-self
overflow_cast-self g c = let few = few_cards c.self.inside.kept c.self.invariant in omega arith

pub invariant_of-self : goal.invariant_of-self
invariant_of-self g c = IsKept-column c.self.inside.kept c.self.invariant (omega arith)

pub returns : goal.returns
returns g c = rw (← c.self.view_is) (record { taken = takes_column c.self.inside.kept c.self.invariant g.R.Rule.game (omega arith) })

pub returns-then-self-ge8 : goal.returns-then-self-ge8
returns-then-self-ge8 g c = rw (← c.self.view_is) (record { taken = no_column c.self.inside.kept c.self.invariant g.R.Rule.game (omega arith) })
