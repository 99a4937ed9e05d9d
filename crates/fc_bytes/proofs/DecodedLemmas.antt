-- What is read of a board's bytes is the board.
use Rattle.std.proofs.Common.{◌++◌, ◌+◌, ◌-◌, ◌<◌, ◌∙◌, ◌∷◌, ◌≡◌, ◌≤◌, [], All, ap, ap₂, arith, drop, get_or, inl, inr}
use Rattle.std.proofs.Common.{is_some, IsNone, length, length-append, List, map, None, Option, refl, replicate}
use Rattle.std.proofs.{Common.{slice_index, Some, subst, sym, take, ℕ}, lemmas.Bool.{cases_lt, Decides.{nat_tests}}}
use Rattle.std.proofs.lemmas.List.{append_assoc, drop-drop, drop-map}
use Rattle.std.proofs.lemmas.List.{Elements.{All-from_get_or, All-get_or, All-head, All-tail}, ext_get_or}
use Rattle.std.proofs.lemmas.List.FromFn.{get_or-map-range_with_len, length-map-range_with_len, take-map-range_with_len}
use Rattle.std.proofs.lemmas.List.{get_or-drop, get_or-map, get_or-replicate, get_or_past, length-drop, length-map}
use Rattle.std.proofs.lemmas.List.{length-replicate, take-map}
use Rattle.std.proofs.Math.ListN.{get_or-append, get_or-map as get_or-map_any}
use Rattle.std.{proofs.Math.Seq.{drop-append_seam, get_or-append_right, take-append_seam}, specs.List.{flat_map}}
use Rattle.std.specs.{Option.{unwrap_or}, Prelude.{min}}
use Rattle.{fc_bytes.specs.declared.board.BoardBytes.{BoardBytes}, fc_card.specs.{IsCard, places}}
use Rattle.fc_board.{proofs.BoardLemmas.{in_cells, in_columns, parts_same}, specs.Boards.{Board, IsWellFormed}}
use Rattle.fc_board.specs.{Games.{Game}, inside.{board_of_laid, columns_from}, laws.ListWords.{IsCell}}
use Rattle.fc_board.specs.Steps.{cell_at, height_of}
use Rattle.fc_bytes.specs.{board_bytes, cell_byte, HoldsBoard, inside.{card_byte, card_decoded, cell_decoded}}
use Rattle.fc_bytes.specs.{inside.{columns_decoded, decoded, ends_decoded, next_count}, padded}

-- ---- lists by their places
-- the first items of a longer row are the list
pub first_places : {X : Type 0} (f : ℕ → X) (xs : List X) (d : X) (count most : ℕ) → length xs ≡ count → count ≤ most →
    ((i : ℕ) → i < count → f i ≡ get_or xs i d) → take count (map f (places most)) ≡ xs
first_places f xs d count most n few same =
    take-map-range_with_len f 0 most count few
    ∙ ext_get_or d (map f (places count)) xs (length-map-range_with_len f 0 count ∙ sym n) (λ i h.
    let inside : i < count = omega (arith, length-map-range_with_len f 0 count) in
    get_or-map-range_with_len f 0 count i i d inside (omega arith) ∙ same i inside)

-- all places of a list are the list
pub all_places : {X : Type 0} (f : ℕ → X) (xs : List X) (d : X) (count : ℕ) → length xs ≡ count → ((i : ℕ) → i < count → f i ≡ get_or xs i d) → map f (places count) ≡ xs
all_places f xs d count n same =
    ext_get_or d (map f (places count)) xs (length-map-range_with_len f 0 count ∙ sym n) (λ i h.
    let inside : i < count = omega (arith, length-map-range_with_len f 0 count) in
    get_or-map-range_with_len f 0 count i i d inside (omega arith) ∙ same i inside)

-- what is at each of eight places is the list, and 0 after it
length-padded : (xs : List ℕ) → length xs ≤ 8 → length (padded 8 xs) ≡ 8
length-padded xs few =
    omega (arith, length-append xs (drop (length xs) (replicate 8 0)), length-drop (length xs) (replicate {A = ℕ} 8 0), length-replicate {A = ℕ} 8 0)

at_place : (xs : List ℕ) (place : ℕ) → place < 8 → get_or xs place 0 ≡ get_or (padded 8 xs) place 0
at_place xs place inside = elim (cases_lt place (length xs)) [
  | inl there ↦ sym (get_or-append xs (drop (length xs) (replicate 8 0)) 0 place there)
  | inr past ↦
      let same : length xs + (place - length xs) ≡ place = omega arith in
      get_or_past xs place 0 past
      ∙ sym (get_or-append_right xs (drop (length xs) (replicate 8 0)) place 0 past
      ∙ get_or-drop (length xs) (replicate 8 0) (place - length xs) 0
      ∙ ap (λ place. get_or (replicate 8 0) place 0) same
      ∙ get_or-replicate 8 place 0 0 inside)
]

pub padded_places : (xs : List ℕ) → length xs ≤ 8 → map (slice_index xs) (places 8) ≡ padded 8 xs
padded_places xs few = all_places (slice_index xs) (padded 8 xs) 0 8 (length-padded xs few) (λ place inside. at_place xs place inside)

-- past the count there is nothing
none_past : (f : ℕ → Option ℕ) (count most : ℕ) → count ≤ most → ((i : ℕ) → count ≤ i → f i ≡ None) → All IsNone (drop count (map f (places most)))
none_past f count most few same = All-from_get_or IsNone (drop count (map f (places most))) None (λ i h.
    let long = length-map-range_with_len f 0 most in
    let left = length-drop count (map f (places most)) in
    let inside : count + i < most = omega arith in
    let here = get_or-drop count (map f (places most)) i None ∙ get_or-map-range_with_len f 0 most (count + i) (count + i) None inside (omega arith) ∙ same (count + i) (omega arith) in
    ap is_some here)

-- ---- cards
pub card_back : (card : ℕ) → IsCard card → cell_decoded (card_byte card) ≡ Some card
card_back card deck = grind (arith, nat_tests)

cell_back : (cell : Option ℕ) → IsCell cell → cell_decoded (cell_byte cell) ≡ cell
cell_back None is = refl
cell_back (Some card) is = card_back card is

cards_back : (cards : List ℕ) → All IsCard cards → map card_decoded (map card_byte cards) ≡ cards
cards_back [] deck = refl
cards_back (card ∷ cards) deck =
    ap₂ (λ (card : ℕ) (cards : List ℕ). card ∷ cards) (ap (λ read. unwrap_or read 0) (card_back card (All-head IsCard card cards deck)))
    (cards_back cards (All-tail IsCard card cards deck))

-- ---- columns
-- what the first column takes, and what it leaves
one_column : (column : List ℕ) (counts left : List ℕ) → All IsCard column →
    columns_decoded (length column ∷ counts) (map card_byte column ++ left) ≡ column ∷ columns_decoded counts left
one_column column counts left deck =
    let bytes = map card_byte column in
    let long : length bytes ≡ length column = length-map column card_byte in
    let count : next_count (length column) (bytes ++ left) ≡ length bytes = omega (arith, long, length-append bytes left) in
    ap (λ n. map card_decoded (take n (bytes ++ left)) ∷ columns_decoded counts (drop n (bytes ++ left))) count
    ∙ ap₂ (λ (taken rest : List ℕ). map card_decoded taken ∷ columns_decoded counts rest) (take-append_seam bytes left) (drop-append_seam bytes left)
    ∙ ap (λ (cards : List ℕ). cards ∷ columns_decoded counts left) (cards_back column deck)

columns_back : (columns : List (List ℕ)) (left : List ℕ) → All (All IsCard) columns →
    columns_decoded (map length columns) (flat_map (map card_byte) columns ++ left) ≡ columns
columns_back [] left deck = refl
columns_back (column ∷ columns) left deck =
    ap (columns_decoded (length column ∷ map length columns)) (append_assoc (map card_byte column) (flat_map (map card_byte) columns) left)
    ∙ one_column column (map length columns) (flat_map (map card_byte) columns ++ left) (All-head (All IsCard) column columns deck)
    ∙ ap (λ (rest : List (List ℕ)). column ∷ rest) (columns_back columns left (All-tail (All IsCard) column columns deck))

-- ---- boards
module _ (game : Game) (board : Board) (well : IsWellFormed game board) (few : game.cells ≤ 8) where
  pub heights_back : map (height_of board) (places 4) ≡ board.heights
  heights_back = all_places (height_of board) board.heights 0 4 well.piles.four_foundations (λ i h. refl)

  is_cell : (place : ℕ) → IsCell (cell_at board place)
  is_cell place = elim (cases_lt place (length board.cells)) [
    | inl inside ↦ All-get_or IsCell board.cells place None inside (in_cells game board well)
    | inr past ↦ subst IsCell (sym (get_or_past board.cells place None past)) tt
  ]

  pub all_cells : map (λ cell. cell_byte (cell_at board cell)) (places 8) ≡ padded 8 (map cell_byte board.cells)
  all_cells =
      all_places (λ cell. cell_byte (cell_at board cell)) (padded 8 (map cell_byte board.cells)) 0 8
      (length-padded (map cell_byte board.cells) (omega (arith, length-map board.cells cell_byte, well.piles.all_cells)))
      (λ i h. sym (get_or-map_any cell_byte board.cells i None) ∙ at_place (map cell_byte board.cells) i h)

  cells_read : map cell_decoded (padded 8 (map cell_byte board.cells)) ≡ map (cell_at board) (places 8)
  cells_read =
      ap (map cell_decoded) (sym all_cells)
      ∙ ext_get_or None (map cell_decoded (map (λ cell. cell_byte (cell_at board cell)) (places 8))) (map (cell_at board) (places 8)) refl (λ i h.
      get_or-map cell_decoded (map (λ cell. cell_byte (cell_at board cell)) (places 8)) i 0 None h
      ∙ ap cell_decoded (get_or-map-range_with_len (λ cell. cell_byte (cell_at board cell)) 0 8 i i 0 h (omega arith))
      ∙ cell_back (cell_at board i) (is_cell i)
      ∙ sym (get_or-map-range_with_len (cell_at board) 0 8 i i None h (omega arith)))

  pub cells_back : take game.cells (map cell_decoded (board_bytes board).cells) ≡ board.cells
  cells_back = ap (take game.cells) cells_read ∙ first_places (cell_at board) board.cells None game.cells 8 well.piles.all_cells few (λ i h. refl)

  pub no_more_cells : All IsNone (drop game.cells (map cell_decoded (board_bytes board).cells))
  no_more_cells = subst (λ cells. All IsNone (drop game.cells cells)) (sym cells_read)
      (none_past (cell_at board) game.cells 8 few (λ i h. get_or_past board.cells i None (omega (arith, well.piles.all_cells))))

  pub board_decoded : decoded game.cells (board_bytes board) ≡ board
  board_decoded = parts_same (decoded game.cells (board_bytes board)) board refl cells_back (columns_back board.columns _ (in_columns game board well))

-- ---- eight items, one by one
pub eight_cells : (bytes : List ℕ) (a b c d e f g h : Option ℕ) → length bytes ≡ 8 →
    a ≡ cell_decoded (get_or bytes 0 0) → b ≡ cell_decoded (get_or bytes 1 0) → c ≡ cell_decoded (get_or bytes 2 0) → d ≡ cell_decoded (get_or bytes 3 0) →
    e ≡ cell_decoded (get_or bytes 4 0) → f ≡ cell_decoded (get_or bytes 5 0) → g ≡ cell_decoded (get_or bytes 6 0) → h ≡ cell_decoded (get_or bytes 7 0) →
    (a ∷ b ∷ c ∷ d ∷ e ∷ f ∷ g ∷ h ∷ []) ≡ map cell_decoded bytes
eight_cells bytes a b c d e f g h eight at-a at-b at-c at-d at-e at-f at-g at-h =
    let all = all_places (λ i. cell_decoded (get_or bytes i 0)) (map cell_decoded bytes) None 8 (length-map bytes cell_decoded ∙ eight)
    (λ i h. sym (get_or-map cell_decoded bytes i 0 None (omega (arith, eight)))) in
    rw (at-a, at-b, at-c, at-d, at-e, at-f, at-g, at-h) all

-- ---- bytes
module _ (game : Game) (bytes : BoardBytes) (board : Board) (few : game.cells ≤ 8) (holds : HoldsBoard game bytes board) where
  pub held_rest : All IsNone (drop game.cells (map cell_decoded bytes.cells))
  held_rest = subst (λ bytes. All IsNone (drop game.cells (map cell_decoded bytes.cells))) (sym holds.1) (no_more_cells game board holds.0 few)

  pub held_board : decoded game.cells bytes ≡ board
  held_board = ap (decoded game.cells) holds.1 ∙ board_decoded game board holds.0 few

-- equal bytes hold equal boards
pub one_board : (game : Game) (bytes : BoardBytes) (board other : Board) → game.cells ≤ 8 → HoldsBoard game bytes board → HoldsBoard game bytes other → board ≡ other
one_board game bytes board other few holds holds' = sym (held_board game bytes board few holds) ∙ held_board game bytes other few holds'

-- ---- where one of the steps fails, the bytes hold no board
pub empty_rest : (game : Game) (count : ℕ) (bytes : BoardBytes) (board : Board) (cells : List (Option ℕ)) → game.cells ≡ count → count ≤ 8 →
    cells ≡ map cell_decoded bytes.cells → HoldsBoard game bytes board → All IsNone (drop count cells)
empty_rest game count bytes board cells n few read holds =
    subst (λ cells. All IsNone (drop count cells)) (sym read) (subst (λ count. All IsNone (drop count (map cell_decoded bytes.cells))) n (held_rest game bytes board (omega arith) holds))

-- columns that lie end to end, each up to its end
pub columns_read : (start : ℕ) (counts bytes : List ℕ) → start ≤ 52 → length bytes ≡ 52 →
    columns_from start (map card_decoded bytes) (ends_decoded start counts) ≡ columns_decoded counts (drop start bytes)
columns_read start [] bytes inside size = refl
columns_read start (count ∷ counts) bytes inside size =
    let end = min (start + count) 52 in
    let n = next_count count (drop start bytes) in
    let many : end - start ≡ n = omega (arith, length-drop start bytes, size) in
    let on : start + n ≡ end = omega (arith, length-drop start bytes, size) in
    ap₂ (λ (column : List ℕ) (columns : List (List ℕ)). column ∷ columns)
    (ap (take (end - start)) (drop-map card_decoded start bytes)
    ∙ take-map card_decoded (end - start) (drop start bytes)
    ∙ ap (λ n. map card_decoded (take n (drop start bytes))) many)
    (columns_read end counts bytes (omega arith) size
    ∙ ap (columns_decoded counts) (ap (λ at. drop at bytes) (sym on) ∙ sym (drop-drop n start bytes)))

pub in_game_held : (game : Game) (count : ℕ) (bytes : BoardBytes) (board : Board) (heights : List ℕ) (cells : List (Option ℕ)) (cards ends : List ℕ) →
    game.cells ≡ count → count ≤ 8 → heights ≡ bytes.heights → cells ≡ map cell_decoded bytes.cells → cards ≡ map card_decoded bytes.cards → ends ≡ ends_decoded 0 bytes.lengths → length cards ≡ 52 →
    HoldsBoard game bytes board → board_of_laid count heights cells (columns_from 0 cards ends) ≡ board
in_game_held game count bytes board heights cells cards ends n few read_heights read_cells read_cards read_ends size holds =
    parts_same (board_of_laid count heights cells (columns_from 0 cards ends)) (decoded count bytes) read_heights (ap (take count) read_cells)
    (ap₂ (columns_from 0) read_cards read_ends
    ∙ columns_read 0 bytes.lengths bytes.cards (omega arith) (sym (length-map bytes.cards card_decoded) ∙ ap length (sym read_cards) ∙ size))
    ∙ ap (λ count. decoded count bytes) (sym n)
    ∙ held_board game bytes board (omega arith) holds
