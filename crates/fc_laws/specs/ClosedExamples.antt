-- Positions from which play reaches few boards.
use Rattle.std.specs.Prelude.{◌∷◌, [], Some}
use Rattle.fc_board.specs.{Boards.{Board}, Moves.{move_between}}
use Rattle.fc_board.specs.declared.moves.{Move.{Move}, Place.TheVariants.{Column as ToColumn, Home}}
use Rattle.fc_board.specs.declared.moves.Source.TheVariants.{Column as FromColumn}

-- -------- Three boards of FreeCell with all cells full: the ace of hearts goes home, then the queen of clubs on the king of hearts, and nothing else goes.

-- the ace of hearts is the last card of column 1, on the king of hearts
abbrev pub ace_to_go : Board
ace_to_go = record {
  heights = 0 ∷ 0 ∷ 0 ∷ 0 ∷ [];
  cells = Some 11 ∷ Some 23 ∷ Some 37 ∷ Some 49 ∷ [];
  columns =
      (15 ∷ 40 ∷ 39 ∷ 14 ∷ 50 ∷ 2 ∷ [])
      ∷ (4 ∷ 13 ∷ 3 ∷ 31 ∷ 51 ∷ 44 ∷ [])
      ∷ (42 ∷ 7 ∷ 12 ∷ 17 ∷ 30 ∷ 5 ∷ [])
      ∷ (28 ∷ 45 ∷ 34 ∷ 26 ∷ 48 ∷ 35 ∷ [])
      ∷ (6 ∷ 22 ∷ 19 ∷ 33 ∷ 20 ∷ 21 ∷ [])
      ∷ (38 ∷ 25 ∷ 0 ∷ 47 ∷ 24 ∷ 32 ∷ [])
      ∷ (9 ∷ 27 ∷ 41 ∷ 16 ∷ 43 ∷ 18 ∷ [])
      ∷ (46 ∷ 36 ∷ 29 ∷ 1 ∷ 8 ∷ 10 ∷ [])
      ∷ [];
}

-- the ace is home
abbrev pub queen_to_go : Board
queen_to_go = record ace_to_go {
  heights = 0 ∷ 0 ∷ 1 ∷ 0 ∷ [];
  columns =
      (15 ∷ 40 ∷ 39 ∷ 14 ∷ 50 ∷ [])
      ∷ (4 ∷ 13 ∷ 3 ∷ 31 ∷ 51 ∷ 44 ∷ [])
      ∷ (42 ∷ 7 ∷ 12 ∷ 17 ∷ 30 ∷ 5 ∷ [])
      ∷ (28 ∷ 45 ∷ 34 ∷ 26 ∷ 48 ∷ 35 ∷ [])
      ∷ (6 ∷ 22 ∷ 19 ∷ 33 ∷ 20 ∷ 21 ∷ [])
      ∷ (38 ∷ 25 ∷ 0 ∷ 47 ∷ 24 ∷ 32 ∷ [])
      ∷ (9 ∷ 27 ∷ 41 ∷ 16 ∷ 43 ∷ 18 ∷ [])
      ∷ (46 ∷ 36 ∷ 29 ∷ 1 ∷ 8 ∷ 10 ∷ [])
      ∷ [];
}

-- the queen is on the king
abbrev pub nothing_to_go : Board
nothing_to_go = record ace_to_go {
  heights = 0 ∷ 0 ∷ 1 ∷ 0 ∷ [];
  columns =
      (15 ∷ 40 ∷ 39 ∷ 14 ∷ 50 ∷ 44 ∷ [])
      ∷ (4 ∷ 13 ∷ 3 ∷ 31 ∷ 51 ∷ [])
      ∷ (42 ∷ 7 ∷ 12 ∷ 17 ∷ 30 ∷ 5 ∷ [])
      ∷ (28 ∷ 45 ∷ 34 ∷ 26 ∷ 48 ∷ 35 ∷ [])
      ∷ (6 ∷ 22 ∷ 19 ∷ 33 ∷ 20 ∷ 21 ∷ [])
      ∷ (38 ∷ 25 ∷ 0 ∷ 47 ∷ 24 ∷ 32 ∷ [])
      ∷ (9 ∷ 27 ∷ 41 ∷ 16 ∷ 43 ∷ 18 ∷ [])
      ∷ (46 ∷ 36 ∷ 29 ∷ 1 ∷ 8 ∷ 10 ∷ [])
      ∷ [];
}

abbrev pub ace_home : Move
ace_home = move_between (FromColumn 0) Home

abbrev pub queen_on_king : Move
queen_on_king = move_between (FromColumn 1) (ToColumn 0)
