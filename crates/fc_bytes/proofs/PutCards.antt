-- How many cards the columns hold.
use Rattle.std.proofs.Common.{◌∷◌, ◌≡◌, ◌≤◌, [], arith, length, length-append, List, map, refl, ℕ}
use Rattle.std.{proofs.lemmas.List.{length-map}, specs.{List.{flat_map}, Option.{option_to_list}}}
use Rattle.fc_board.{proofs.BoardLemmas.{length-cards_in_play}, specs.{Boards.{Board, IsWellFormed}, Games.{Game}}}
use Rattle.fc_bytes.specs.inside.{card_byte}

length-cards : (columns : List (List ℕ)) → length (flat_map (map card_byte) columns) ≡ length (flat_map (λ column. column) columns)
length-cards [] = refl
length-cards (column ∷ columns) =
    let one = length-append (map card_byte column) (flat_map (map card_byte) columns) in
    let two = length-append column (flat_map (λ column. column) columns) in
    let three = length-map column card_byte in
    let four = length-cards columns in
    omega arith

pub cards_fit : (game : Game) (board : Board) → IsWellFormed game board → length (flat_map (map card_byte) board.columns) ≤ 52
cards_fit game board well =
    let cards = length-cards_in_play game board well in
    let both = length-append (flat_map option_to_list board.cells) (flat_map (λ column. column) board.columns) in
    omega (arith, length-cards board.columns, cards, both)
