use Rattle.std.proofs.Common.{◌∙◌, ap, sym}
use Rattle.fc_text.proofs.TokenLemmas.{source_named-fits, source_read, target_named-fits}
use Rattle.fc_text.{proofs.TokenLemmas.{target_read}}
use Rattle.fc_text.specs.reader.{source_named, target_named}
use Rattle.fc_laws.proofs.texts.notation.characters_name_piles.Goals as goal

pub returns-clause-sources : goal.returns-clause-sources
returns-clause-sources c = λ game letter source few. (
  (λ (fits, is). ap (source_named game) (sym is) ∙ source_read game few source fits),
  source_named-fits game letter source,
)

pub returns-clause-targets : goal.returns-clause-targets
returns-clause-targets c = λ game letter target few. (
  (λ (fits, is). ap (target_named game) (sym is) ∙ target_read game few target fits),
  target_named-fits game letter target,
)
