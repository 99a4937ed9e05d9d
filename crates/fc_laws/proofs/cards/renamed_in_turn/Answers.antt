use Rattle.fc_card.specs.laws.RenamingLaws.{renamed_card-product}
use Rattle.fc_laws.proofs.cards.renamed_in_turn.Goals as goal

pub returns : goal.returns
returns c = renamed_card-product
