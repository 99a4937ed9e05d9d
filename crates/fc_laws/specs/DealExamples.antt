-- Two deals as they are published, in the order in which they are dealt: row by row over the eight columns.
use Rattle.std.specs.Prelude.{◌∷◌, [], List}
use Rattle.fc_card.specs.Types.{Card}

-- JD 2D 9H JC 5D 7H 7C 5H and so on
abbrev pub cards_of_deal_1 : List Card
cards_of_deal_1 =
    41 ∷ 5 ∷ 34 ∷ 40 ∷ 17 ∷ 26 ∷ 24 ∷ 18 ∷
    49 ∷ 48 ∷ 35 ∷ 19 ∷ 1 ∷ 44 ∷ 50 ∷ 10 ∷
    7 ∷ 51 ∷ 33 ∷ 45 ∷ 43 ∷ 3 ∷ 2 ∷ 8 ∷
    12 ∷ 16 ∷ 39 ∷ 46 ∷ 14 ∷ 0 ∷ 13 ∷ 27 ∷
    11 ∷ 37 ∷ 15 ∷ 38 ∷ 30 ∷ 4 ∷ 42 ∷ 25 ∷
    21 ∷ 31 ∷ 29 ∷ 47 ∷ 20 ∷ 9 ∷ 28 ∷ 36 ∷
    23 ∷ 32 ∷ 6 ∷ 22 ∷ []

-- 7D AD 5C 3S 5S 8C 2D AH and so on
abbrev pub cards_of_deal_617 : List Card
cards_of_deal_617 =
    25 ∷ 1 ∷ 16 ∷ 11 ∷ 19 ∷ 28 ∷ 5 ∷ 2 ∷
    37 ∷ 27 ∷ 45 ∷ 0 ∷ 21 ∷ 30 ∷ 3 ∷ 50 ∷
    38 ∷ 44 ∷ 10 ∷ 33 ∷ 23 ∷ 29 ∷ 9 ∷ 36 ∷
    49 ∷ 18 ∷ 35 ∷ 8 ∷ 31 ∷ 26 ∷ 13 ∷ 43 ∷
    12 ∷ 47 ∷ 32 ∷ 34 ∷ 24 ∷ 22 ∷ 4 ∷ 7 ∷
    15 ∷ 39 ∷ 6 ∷ 17 ∷ 40 ∷ 20 ∷ 42 ∷ 46 ∷
    41 ∷ 51 ∷ 48 ∷ 14 ∷ []
