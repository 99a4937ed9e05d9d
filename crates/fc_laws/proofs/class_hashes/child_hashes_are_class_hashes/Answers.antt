use Rattle.fc_laws.proofs.ClassHashLemmas.{hash_of_child}
use Rattle.fc_laws.proofs.class_hashes.child_hashes_are_class_hashes.Goals as goal

pub returns : goal.returns
returns g c = λ board after move sums well step are.
    hash_of_child g.R.Rule.game g.R.Rule.renamings board after move step sums well are
