-- The names of the parts of a board. From: Freecell Solver's board text, and how sites and books name them.
use Rattle.std.specs.{List.{list_any}, Prelude.{◌||◌, ◌∷◌, [], Bool, codes, List}}
use Rattle.std.specs.Str.{str_eq_ignore_ascii_case}
use Rattle.fc_card.specs.Types.{Text}

abbrev pub foundations_names : List Text
foundations_names = codes "foundations" ∷ codes "foundation" ∷ codes "founds" ∷ codes "found" ∷ codes "decks" ∷ codes "deck" ∷ codes "home" ∷ []

abbrev pub cells_names : List Text
cells_names = codes "freecells" ∷ codes "freecell" ∷ codes "fc" ∷ codes "cells" ∷ codes "cell" ∷ codes "reserve" ∷ codes "reserves" ∷ []

-- of one column, before its number
abbrev pub column_names : List Text
column_names = codes "column" ∷ codes "col" ∷ codes "stack" ∷ codes "pile" ∷ codes "cascade" ∷ []

-- of all columns, in a line of its own
abbrev pub columns_names : List Text
columns_names = codes "columns" ∷ codes "tableau" ∷ codes "stacks" ∷ codes "piles" ∷ codes "cascades" ∷ codes "board" ∷ []

-- in any case
abbrev pub is_among : (word : Text) → (names : List Text) → Bool
is_among word names = list_any (str_eq_ignore_ascii_case word) names

-- a name of piles
abbrev pub is_pile_name : Text → Bool
is_pile_name word = is_among word (codes "free" ∷ cells_names) || is_among word foundations_names || is_among word column_names
