use Rattle.fc_card.proofs.CodeLemmas.{codes-named}
use Rattle.fc_laws.proofs.cards.codes_name_cards.Goals as goal

pub returns : goal.returns
returns c = codes-named
