use Rattle.{fc_collect.proofs.PrintingLemmas.{outputs_after-append, outputs_alone}, std.proofs.Common.{[], append-nil}}
use Rattle.fc_laws.proofs.collections.unique.outputs_follow_one_another.Goals as goal

pub returns : goal.returns
returns c = record {
  one = λ output_of earlier text. append-nil (output_of earlier text);
  more = outputs_after-append;
  alone = λ output_of texts. outputs_alone output_of [] texts;
}
