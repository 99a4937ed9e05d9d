use Rattle.std.proofs.Common.{◌<◌, arith}
use Rattle.fc_card.{proofs.CardSetLemmas.{suit_bits-is_up_to}, specs.{suit_number}}
use Rattle.fc_card.specs.declared.suit.Suit.{Suit, TheVariants.{C, D, H, S}}
use Rattle.fc_card.proofs.card_set.bits_up_to.Goals as goal

few : (suit : Suit) → suit_number suit < 4
few C = omega arith
few D = omega arith
few H = omega arith
few S = omega arith

pub returns-clause-bits : goal.returns-clause-bits
returns-clause-bits c = rw (c.number.ensures, c.from.ensures) (λ card in_deck. suit_bits-is_up_to (suit_number c.args.suit) c.args.height card (few c.args.suit) c.requires in_deck)
