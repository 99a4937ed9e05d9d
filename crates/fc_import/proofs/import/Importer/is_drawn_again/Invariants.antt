use Rattle.std.proofs.Common.{◌≡◌}
use Rattle.fc_import.proofs.import.Importer.is_drawn_again.Given as goal

-- nothing is taken yet
abbrev pub invariant-loop-strips : goal.invariant-loop-strips
invariant-loop-strips g l = l.self.made ≡ l.fn.self.made
