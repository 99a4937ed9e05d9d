use Rattle.{fc_card.proofs.CodeLemmas.{renamed_code-card}, std.proofs.Common.{refl}}
use Rattle.fc_laws.proofs.cards.codes_are_renamed_as_cards.Goals as goal

pub returns : goal.returns
returns c = record { card = renamed_code-card; none = λ renaming. refl }
