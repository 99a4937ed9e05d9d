-- What numbers and lists of numbers stand for.
use Rattle.std.specs.Prelude.{List, ℕ}

-- a card of the deck by its number: 0 to 51, from the ace of clubs to the king of spades
abbrev pub Card : Type 0
Card = ℕ

-- the cards of a pile, the last one on top
abbrev pub Pile : Type 0
Pile = List Card

-- for each new place of a pile its old place
abbrev pub Order : Type 0
Order = List ℕ

-- for each of the suits C D H S the number of its image
abbrev pub Renaming : Type 0
Renaming = List ℕ

-- the bytes of a text
abbrev pub Text : Type 0
Text = List ℕ
