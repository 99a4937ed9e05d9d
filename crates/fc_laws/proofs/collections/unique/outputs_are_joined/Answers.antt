use Rattle.std.proofs.Common.{◌∙◌, [], ap, sym}
use Rattle.fc_collect.proofs.JoiningLemmas.{finished_records-failed, finished_records-none, records-joined}
use Rattle.fc_collect.proofs.PrintingLemmas.{outputs_after-append}
use Rattle.fc_collect.proofs.RecordLemmas.{finished_records-append, records_of-append}
use Rattle.fc_collect.specs.Records.{finished_records, outputs_after, records_of}
use Rattle.fc_laws.proofs.collections.unique.outputs_are_joined.Goals as goal

pub returns : goal.returns
returns c = record {
  joined =
      λ output_of x y ended. (
        _,
        sym (ap (outputs_after output_of []) (records-joined x y ended) ∙ outputs_after-append output_of [] (records_of x) _),
      );
  finished =
      λ output_of x y. (
        _,
        sym (ap (outputs_after output_of []) (finished_records-append x y)
            ∙ outputs_after-append output_of [] (finished_records x) _),
      );
  begun =
      λ output_of x y. (_, sym (ap (outputs_after output_of []) (records_of-append x y) ∙ outputs_after-append output_of [] (finished_records x) _));
  failed = λ output_of x y ended one. ap (outputs_after output_of []) (finished_records-failed x y ended one);
  failed_early = λ output_of x none. ap (outputs_after output_of []) (finished_records-none x none);
}
