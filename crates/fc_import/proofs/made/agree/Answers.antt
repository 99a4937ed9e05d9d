use Rattle.std.proofs.Common.{◌∙◌, ap, ap₂, map}
use Rattle.{fc_import.{proofs.TakingLemmas.{without_ends}, specs.Import.{agree}}, fc_text.specs.Left.{tokens_left}}
use Rattle.fc_import.proofs.made.agree.Goals as goal

pub loop-token-init : goal.loop-token-init
loop-token-init c = ap₂ agree
    (ap (map (λ left. left.0.bytes)) c.new-left.ensures.words ∙ without_ends _)
    (ap (map (λ left. left.0.bytes)) (ap tokens_left c.into_iter-token-iterator.ensures.into_iter_gives ∙ c.new-token-items.ensures.words) ∙ without_ends _)
