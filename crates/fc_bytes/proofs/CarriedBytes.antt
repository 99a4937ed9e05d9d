-- The cards of columns in a new order, renamed as bytes.
use Rattle.std.proofs.Common.{◌++◌, ◌∙◌, ◌∷◌, ◌≡◌, ◌≤◌, [], ap, ap₂, arith, length, List, map, refl, sym, take, ℕ}
use Rattle.std.proofs.lemmas.{List.{Folds.{flat_map-map}, length-map, take-map}, Simd.{map-map}}
use Rattle.std.specs.List.{flat_map}
use Rattle.{fc_card.specs.{pick, renamed_card, renamed_code}, fc_text.proofs.BoardViewLemmas.{number-renamed}}
use Rattle.fc_board.proofs.{CarriedLemmas.{carried-IsWellFormed}, PassageLemmas.{map-pick}}
use Rattle.fc_board.specs.{Boards.{Board, IsWellFormed}, Games.{Game}, inside.{AreBounds, columns_between}}
use Rattle.fc_board.specs.Passages.{carried, IsPassage, Passage, renamed_column}
use Rattle.fc_bytes.proofs.{LaidBytes.{between-mapped, lengths-mapped}, PutCards.{cards_fit}}
use Rattle.fc_bytes.specs.inside.{card_byte}

-- ---- bytes are renamed as codes are
renamed_bytes : (renaming column : List ℕ) → map (renamed_code renaming) (map card_byte column) ≡ map card_byte (renamed_column renaming column)
renamed_bytes renaming [] = refl
renamed_bytes renaming (card ∷ column) = ap₂ (λ (byte : ℕ) (bytes : List ℕ). byte ∷ bytes) (number-renamed renaming card) (renamed_bytes renaming column)

renamed_flat : (renaming : List ℕ) (columns : List (List ℕ)) →
    flat_map (map (λ card. renamed_code renaming (card_byte card))) columns
    ≡ flat_map (map card_byte) (map (renamed_column renaming) columns)
renamed_flat renaming [] = refl
renamed_flat renaming (column ∷ columns) =
    let first = sym (map-map (renamed_code renaming) card_byte column)
    ∙ renamed_bytes renaming column in
    let rest = renamed_flat renaming columns in
    λ i. first i ++ rest i

-- ---- the columns of a board, renamed where they lie, and in the order of a passage
pub record AreRenamed (game : Game) (passage : Passage) (board : Board) (cards from to bounds : List ℕ) : Type 0 where
  pub is : IsPassage game passage
  pub well : IsWellFormed game board
  pub up : AreBounds bounds 52
  pub lie : columns_between cards bounds ≡ board.columns
  pub long : length from ≡ 80
  pub bytes : take 52 from ≡ map card_byte cards
  pub renamed : to ≡ map (renamed_code passage.renaming) from

module _ {game : Game} {passage : Passage} {board : Board} {cards from to bounds : List ℕ}
    (are : AreRenamed game passage board cards from to bounds) where
  abbrev byte : ℕ → ℕ
  byte card = renamed_code passage.renaming (card_byte card)

  abbrev ordered : List (List ℕ)
  ordered = pick board.columns passage.columns

  picked : pick (columns_between to bounds) passage.columns ≡ map (map byte) ordered
  picked =
      let room : 52 ≤ length to = omega (
        arith,
        ap length are.renamed,
        length-map from (renamed_code passage.renaming),
        are.long,
      ) in
      let bytes : take 52 to ≡ map byte cards = ap (take 52) are.renamed
      ∙ take-map (renamed_code passage.renaming) 52 from
      ∙ ap (map (renamed_code passage.renaming)) are.bytes
      ∙ map-map (renamed_code passage.renaming) card_byte cards in
      ap (λ columns. pick columns passage.columns)
      (between-mapped byte cards to bounds are.up room bytes ∙ ap (map (map byte)) are.lie)
      ∙ sym (map-pick (map byte) board.columns passage.columns)

  renamed-picked : map (renamed_column passage.renaming) ordered ≡ (carried passage board).columns
  renamed-picked = map-pick (renamed_column passage.renaming) board.columns passage.columns

  pub carried_flat : flat_map (λ column. column) (pick (columns_between to bounds) passage.columns)
      ≡ flat_map (map card_byte) (carried passage board).columns
  carried_flat =
      ap (flat_map (λ column. column)) picked ∙ flat_map-map (λ column. column) (map byte) ordered
      ∙ renamed_flat passage.renaming ordered ∙ ap (flat_map (map card_byte)) renamed-picked

  pub carried_lengths : map length (pick (columns_between to bounds) passage.columns)
      ≡ map length (carried passage board).columns
  carried_lengths =
      ap (map length) picked ∙ lengths-mapped byte ordered
      ∙ sym (lengths-mapped (renamed_card passage.renaming) ordered) ∙ ap (map length) renamed-picked

  pub carried_fit : length (flat_map (λ column. column)
      (pick (columns_between to bounds) passage.columns)) ≤ 52
  carried_fit =
      let well = carried-IsWellFormed game passage board are.is are.well in
      omega (arith, cards_fit game (carried passage board) well, ap length carried_flat)
