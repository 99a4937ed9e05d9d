use Rattle.std.proofs.Common.{◌+◌, ap₂}
use Rattle.fc_text.proofs.LetterLemmas.{card_of_parts, letters_found}
use Rattle.fc_text.proofs.letters.printed_card.Goals as goal

pub returns-clause-letters : goal.returns-clause-letters
returns-clause-letters c =
    card_of_parts c.from_number.result c.args.rank c.args.suit (c.rank_part.result + c.suit_part.result) c.from_number.ensures
    (ap₂ (λ rank suit. rank + suit) c.rank_part.ensures.part c.suit_part.ensures.part)

pub returns-clause-found : goal.returns-clause-found
returns-clause-found c = λ card in_deck letters.
    letters_found c.from_number.result c.args.rank c.args.suit (c.rank_part.result + c.suit_part.result) card c.from_number.ensures
    (ap₂ (λ rank suit. rank + suit) c.rank_part.ensures.part c.suit_part.ensures.part) in_deck letters
