use Rattle.fc_laws.proofs.ClassHashLemmas.{one_class_hash}
use Rattle.fc_laws.proofs.class_hashes.equivalent_boards_have_one_class_hash.Goals as goal

pub returns : goal.returns
returns g c = one_class_hash g.met.R.Rule.rule_laws
