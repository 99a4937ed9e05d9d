use Rattle.fc_collect.proofs.JoiningLemmas.{begun-begins, finished-begins, output-failed, output-joined, output-none}
use Rattle.fc_collect.proofs.JoiningLemmas.{whole-begins}
use Rattle.fc_laws.proofs.collections.records.output_is_joined.Goals as goal

pub returns : goal.returns
returns c = record {
  joined = output-joined;
  finished = finished-begins;
  begun = begun-begins;
  whole = whole-begins;
  failed = output-failed;
  failed_early = output-none;
}
