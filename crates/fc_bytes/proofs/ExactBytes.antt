-- Bytes are those of the board that is read of them exactly where each stands for what is read.
use Rattle.std.proofs.Common.{◌++◌, ◌+◌, ◌-◌, ◌<◌, ◌∙◌, ◌∷◌, ◌≡◌, ◌≤◌, [], All, ap, ap₂, arith, drop, get_or, inl, inr}
use Rattle.std.proofs.Common.{IsNone, length, length-append, List, map, None, Option, refl, replicate, Some, subst, sym}
use Rattle.std.proofs.{Common.{take, true≢false, ℕ}, lemmas.{Bool.{cases_lt}, List.{drop-map, Elements.{All-append}}}}
use Rattle.std.proofs.lemmas.List.Elements.{All-drop, All-from_get_or, All-get_or, All-head, All-map, All-replicate}
use Rattle.std.proofs.lemmas.List.{Elements.{All-tail}, ext_get_or, get_or-drop, get_or-map, get_or-replicate}
use Rattle.std.proofs.lemmas.List.{get_or-take, length-drop, length-map, length-replicate, length-take-le}
use Rattle.std.proofs.{lemmas.List.{Sums.{sum_by-cons}, take-append-drop, take-map}, Math.ListN.{get_or-append}}
use Rattle.std.{proofs.Math.Seq.{get_or-append_right, take-add}, specs.{List.{flat_map, sum}, Option.{unwrap_or}}}
use Rattle.{fc_bytes.specs.declared.board.BoardBytes.{BoardBytes}, fc_card.specs.{IsCard}}
use Rattle.fc_board.{proofs.BoardLemmas.{All-left, All-right, in_cells, in_columns}, specs.Boards.{Board}}
use Rattle.fc_board.specs.{Games.{Game}, inside.{board_of_laid, columns_from}, laws.ListWords.{IsCell}}
use Rattle.fc_bytes.proofs.{DecodedLemmas.{card_back, columns_read, empty_rest}, PutCards.{cards_fit}}
use Rattle.fc_bytes.specs.{board_bytes, cell_byte, HoldsBoard, inside.{AreLaid, card_byte, card_decoded, cell_decoded}}
use Rattle.fc_bytes.specs.{inside.{columns_decoded, ends_decoded, IsCardByte, IsExact, IsLaid, next_count}, padded}

-- ---- bytes that stand for what is read are its bytes
cell_some : (byte : ℕ) → 0 < byte → byte ≤ 52 → cell_decoded byte ≡ Some (byte - 1)
cell_some byte there few =
    let is : byte - 1 + 1 ≡ byte = omega arith in
    ap cell_decoded (sym is) ∙ card_back (byte - 1) (omega arith)

card_there : (byte : ℕ) → IsCardByte byte → card_byte (card_decoded byte) ≡ byte
card_there byte is =
    let back : byte - 1 + 1 ≡ byte = omega (arith, is.0) in
    ap (λ read. card_byte (unwrap_or read 0)) (cell_some byte is.0 is.1) ∙ back

cell_there : (byte : ℕ) → byte ≤ 52 → cell_byte (cell_decoded byte) ≡ byte
cell_there byte few = elim (cases_lt 0 byte) [
  | inl there ↦
      let back : byte - 1 + 1 ≡ byte = omega arith in
      ap cell_byte (cell_some byte there few) ∙ back
  | inr past ↦
      let zero : byte ≡ 0 = omega arith in
      subst (λ byte. cell_byte (cell_decoded byte) ≡ byte) (sym zero) refl
]

none_zero : (byte : ℕ) → byte ≤ 52 → IsNone (cell_decoded byte) → byte ≡ 0
none_zero byte few none = elim (cases_lt 0 byte) [
  | inl there ↦ absurd (true≢false (subst IsNone (cell_some byte there few) none))
  | inr past ↦ omega arith
]

cards_there : (bytes : List ℕ) → All IsCardByte bytes → map card_byte (map card_decoded bytes) ≡ bytes
cards_there [] are = refl
cards_there (byte ∷ bytes) are =
    ap₂ (λ (byte : ℕ) (bytes : List ℕ). byte ∷ bytes) (card_there byte (All-head IsCardByte byte bytes are)) (cards_there bytes (All-tail IsCardByte byte bytes are))

cells_there : (bytes : List ℕ) → All (λ byte. byte ≤ 52) bytes → map cell_byte (map cell_decoded bytes) ≡ bytes
cells_there [] are = refl
cells_there (byte ∷ bytes) are =
    ap₂ (λ (byte : ℕ) (bytes : List ℕ). byte ∷ bytes) (cell_there byte (All-head (λ byte. byte ≤ 52) byte bytes are))
    (cells_there bytes (All-tail (λ byte. byte ≤ 52) byte bytes are))

-- ---- columns that take no more cards than there are
columns_lengths : (counts bytes : List ℕ) → sum counts ≤ length bytes → map length (columns_decoded counts bytes) ≡ counts
columns_lengths [] bytes room = refl
columns_lengths (count ∷ counts) bytes room =
    let all = sum_by-cons (λ x. x) count counts in
    let n = next_count count bytes in
    let here : n ≡ count = omega (arith, all) in
    let left : sum counts ≤ length (drop n bytes) = omega (arith, all, here, length-drop n bytes) in
    ap₂ (λ (count : ℕ) (counts : List ℕ). count ∷ counts)
    (length-map (take n bytes) card_decoded ∙ length-take-le n bytes (omega (arith, all, here)) ∙ here)
    (columns_lengths counts (drop n bytes) left)

columns_cards : (counts bytes : List ℕ) → sum counts ≤ length bytes → All IsCardByte (take (sum counts) bytes) →
    flat_map (map card_byte) (columns_decoded counts bytes) ≡ take (sum counts) bytes
columns_cards [] bytes room are = refl
columns_cards (count ∷ counts) bytes room are =
    let all = sum_by-cons (λ x. x) count counts in
    let n = next_count count bytes in
    let here : n ≡ count = omega (arith, all) in
    let left : sum counts ≤ length (drop n bytes) = omega (arith, all, here, length-drop n bytes) in
    let both : take (sum (count ∷ counts)) bytes ≡ take n bytes ++ take (sum counts) (drop n bytes) =
    ap (λ k. take k bytes) (all ∙ ap (λ k. k + sum counts) (sym here)) ∙ take-add n (sum counts) bytes in
    let split = subst (All IsCardByte) both are in
    ap₂ (λ (front back : List ℕ). front ++ back)
    (cards_there (take n bytes) (All-left IsCardByte (take n bytes) (take (sum counts) (drop n bytes)) split))
    (columns_cards counts (drop n bytes) left (All-right IsCardByte (take n bytes) (take (sum counts) (drop n bytes)) split))
    ∙ sym both

-- ---- what is read comes first, and 0 after it
zeros_there : (bytes : List ℕ) (size count : ℕ) → length bytes ≡ size → All (λ byte. byte ≡ 0) (drop count bytes) →
    drop count (replicate size 0) ≡ drop count bytes
zeros_there bytes size count long zeros =
    let short = length-drop count (replicate {A = ℕ} size 0) in
    let short' = length-drop count bytes in
    let full = length-replicate {A = ℕ} size 0 in
    ext_get_or 0 (drop count (replicate size 0)) (drop count bytes) (omega (arith, short, short', full, long)) (λ i h.
    get_or-drop count (replicate size 0) i 0
    ∙ get_or-replicate size (count + i) 0 0 (omega (arith, short, full))
    ∙ sym (All-get_or (λ byte. byte ≡ 0) (drop count bytes) i 0 (omega (arith, short, short', full, long)) zeros))

pub padded_there : (bytes : List ℕ) (size count : ℕ) → length bytes ≡ size → count ≤ size → All (λ byte. byte ≡ 0) (drop count bytes) →
    padded size (take count bytes) ≡ bytes
padded_there bytes size count long few zeros =
    ap (λ k. take count bytes ++ drop k (replicate size 0)) (length-take-le count bytes (omega (arith, long)))
    ∙ ap (λ back. take count bytes ++ back) (zeros_there bytes size count long zeros)
    ∙ take-append-drop count bytes

laid_cards : (total : ℕ) (bytes : List ℕ) → total ≤ length bytes → AreLaid total bytes → All IsCardByte (take total bytes)
laid_cards total bytes room laid = All-from_get_or IsCardByte (take total bytes) 0 (λ i h.
    let long = length-take-le total bytes room in
    let inside : i < total = omega (arith, long) in
    let is = laid i (omega (arith, long, room)) in
    subst IsCardByte (sym (get_or-take total bytes i 0 inside)) (is.1.0 inside, is.0))

laid_zeros : (total : ℕ) (bytes : List ℕ) → AreLaid total bytes → All (λ byte. byte ≡ 0) (drop total bytes)
laid_zeros total bytes laid = All-from_get_or (λ byte. byte ≡ 0) (drop total bytes) 0 (λ i h.
    let long = length-drop total bytes in
    let is = laid (total + i) (omega (arith, long)) in
    get_or-drop total bytes i 0 ∙ elim (cases_lt 0 (get_or bytes (total + i) 0)) [
      | inl there ↦ omega (arith, is.1.1 there)
      | inr past ↦ omega arith
    ])

none_zeros : (count : ℕ) (bytes : List ℕ) → All (λ byte. byte ≤ 52) bytes → All IsNone (drop count (map cell_decoded bytes)) → All (λ byte. byte ≡ 0) (drop count bytes)
none_zeros count bytes few none = All-from_get_or (λ byte. byte ≡ 0) (drop count bytes) 0 (λ i h.
    let short = length-drop count bytes in
    let inside : count + i < length bytes = omega (arith, short) in
    let read = get_or-drop count (map cell_decoded bytes) i None ∙ get_or-map cell_decoded bytes (count + i) 0 None inside in
    let none_here = All-get_or IsNone (drop count (map cell_decoded bytes)) i None
    (omega (arith, short, length-drop count (map cell_decoded bytes), length-map bytes cell_decoded)) none in
    get_or-drop count bytes i 0
    ∙ none_zero (get_or bytes (count + i) 0) (All-get_or (λ byte. byte ≤ 52) bytes (count + i) 0 inside few) (subst IsNone read none_here))

same_bytes : (bytes other : BoardBytes) → bytes.heights ≡ other.heights → bytes.cells ≡ other.cells → bytes.lengths ≡ other.lengths → bytes.cards ≡ other.cards → bytes ≡ other
same_bytes bytes other heights cells lengths cards = λ i. record { heights = heights i; cells = cells i; lengths = lengths i; cards = cards i }

pub exact_held : (count : ℕ) (bytes : BoardBytes) (heights : List ℕ) (cells : List (Option ℕ)) (cards ends : List ℕ) →
    heights ≡ bytes.heights → cells ≡ map cell_decoded bytes.cells → cards ≡ map card_decoded bytes.cards → ends ≡ ends_decoded 0 bytes.lengths →
    length cells ≡ 8 → length cards ≡ 52 → count ≤ 8 → All IsNone (drop count cells) → IsExact bytes →
    bytes ≡ board_bytes (board_of_laid count heights cells (columns_from 0 cards ends))
exact_held count bytes heights cells cards ends read_heights read_cells read_cards read_ends eight size few none exact =
    let long : length bytes.cards ≡ 52 = sym (length-map bytes.cards card_decoded) ∙ ap length (sym read_cards) ∙ size in
    let long_cells : length bytes.cells ≡ 8 = sym (length-map bytes.cells cell_decoded) ∙ ap length (sym read_cells) ∙ eight in
    let total = sum bytes.lengths in
    let room : total ≤ length bytes.cards = omega (arith, long, exact.room) in
    let columns : columns_from 0 cards ends ≡ columns_decoded bytes.lengths bytes.cards =
    ap₂ (columns_from 0) read_cards read_ends ∙ columns_read 0 bytes.lengths bytes.cards (omega arith) long in
    let front : map cell_byte (take count cells) ≡ take count bytes.cells =
    sym (take-map cell_byte count cells) ∙ ap (λ cells. take count (map cell_byte cells)) read_cells ∙ ap (take count) (cells_there bytes.cells exact.cells) in
    sym (same_bytes (board_bytes (board_of_laid count heights cells (columns_from 0 cards ends))) bytes read_heights
    (ap (padded 8) front
    ∙ padded_there bytes.cells 8 count long_cells few
    (none_zeros count bytes.cells exact.cells (subst (λ cells. All IsNone (drop count cells)) read_cells none)))
    (ap (map length) columns ∙ columns_lengths bytes.lengths bytes.cards room)
    (ap (λ columns. padded 52 (flat_map (map card_byte) columns)) columns
    ∙ ap (padded 52) (columns_cards bytes.lengths bytes.cards room (laid_cards total bytes.cards room exact.cards))
    ∙ padded_there bytes.cards 52 total long exact.room (laid_zeros total bytes.cards exact.cards)))

-- ---- the bytes of a board stand for what is read of them
cell_exact : (cell : Option ℕ) → IsCell cell → cell_byte cell ≤ 52
cell_exact None is = omega arith
cell_exact (Some card) is = omega (arith, is)

cells_exact : (cells : List (Option ℕ)) → All IsCell cells → All (λ byte. byte ≤ 52) (padded 8 (map cell_byte cells))
cells_exact cells are =
    All-append (λ byte. byte ≤ 52) (map cell_byte cells) (drop (length (map cell_byte cells)) (replicate 8 0))
    (All-map (λ byte. byte ≤ 52) cell_byte cells (All-from_get_or (λ cell. cell_byte cell ≤ 52) cells None (λ i h.
    cell_exact (get_or cells i None) (All-get_or IsCell cells i None h are))))
    (All-drop (λ byte. byte ≤ 52) (length (map cell_byte cells)) (replicate 8 0) (All-replicate (λ byte. byte ≤ 52) 8 0 (omega arith)))

column_exact : (column : List ℕ) → All IsCard column → All IsCardByte (map card_byte column)
column_exact column deck = All-map IsCardByte card_byte column (All-from_get_or (λ card. IsCardByte (card_byte card)) column 0 (λ i h.
    let is = All-get_or IsCard column i 0 h deck in
    (omega arith, omega (arith, is))))

pub columns_exact : (columns : List (List ℕ)) → All (All IsCard) columns → All IsCardByte (flat_map (map card_byte) columns)
columns_exact [] deck = All-from_get_or IsCardByte [] 0 (λ i h. (omega arith, omega arith))
columns_exact (column ∷ columns) deck =
    All-append IsCardByte (map card_byte column) (flat_map (map card_byte) columns) (column_exact column (All-head (All IsCard) column columns deck))
    (columns_exact columns (All-tail (All IsCard) column columns deck))

sum_lengths : (columns : List (List ℕ)) → length (flat_map (map card_byte) columns) ≡ sum (map length columns)
sum_lengths [] = refl
sum_lengths (column ∷ columns) =
    length-append (map card_byte column) (flat_map (map card_byte) columns)
    ∙ ap₂ (λ (n m : ℕ). n + m) (length-map column card_byte) (sum_lengths columns)
    ∙ sym (sum_by-cons (λ x. x) (length column) (map length columns))

laid : (cards : List ℕ) → length cards ≤ 52 → All IsCardByte cards → AreLaid (length cards) (padded 52 cards)
laid cards few are = λ place inside. elim (cases_lt place (length cards)) [
  | inl there ↦
      let is = All-get_or IsCardByte cards place 0 there are in
      subst (IsLaid (length cards) place) (sym (get_or-append cards (drop (length cards) (replicate 52 0)) 0 place there)) (is.1, ((λ _. is.0), (λ _. there)))
  | inr past ↦
      let zeros : List ℕ = replicate 52 0 in
      let long : length (padded 52 cards) ≡ 52 = omega (arith, length-append cards (drop (length cards) zeros), length-drop (length cards) zeros, length-replicate {A = ℕ} 52 0) in
      let zero : get_or (padded 52 cards) place 0 ≡ 0 =
      get_or-append_right cards (drop (length cards) zeros) place 0 past
      ∙ get_or-drop (length cards) zeros (place - length cards) 0
      ∙ get_or-replicate 52 (length cards + (place - length cards)) 0 0 (omega (arith, inside, long)) in
      subst (IsLaid (length cards) place) (sym zero) (omega arith, ((λ there. omega (arith, there)), (λ there. omega (arith, there))))
]

pub exact_of_held : (game : Game) (bytes : BoardBytes) (board : Board) → HoldsBoard game bytes board → IsExact bytes
exact_of_held game bytes board holds =
    let cards = flat_map (map card_byte) board.columns in
    let fit = cards_fit game board holds.0 in
    subst IsExact (sym holds.1) (record {
      cells = cells_exact board.cells (in_cells game board holds.0);
      room = subst (λ total. total ≤ 52) (sum_lengths board.columns) fit;
      cards = subst (λ total. AreLaid total (padded 52 cards)) (sum_lengths board.columns) (laid cards fit (columns_exact board.columns (in_columns game board holds.0)));
    })

-- the bytes past the game's cells are 0, and so no cell is read there
pub zero_rest : (game : Game) (count : ℕ) (bytes : BoardBytes) (board : Board) → game.cells ≡ count → count ≤ 8 → HoldsBoard game bytes board →
    All (λ byte. byte ≡ 0) (drop count bytes.cells)
zero_rest game count bytes board n few holds =
    let exact = exact_of_held game bytes board holds in
    none_zeros count bytes.cells exact.cells (empty_rest game count bytes board (map cell_decoded bytes.cells) n few refl holds)

pub zeros_none : (count : ℕ) (bytes : List ℕ) (cells : List (Option ℕ)) → cells ≡ map cell_decoded bytes → All (λ byte. byte ≡ 0) (drop count bytes) → All IsNone (drop count cells)
zeros_none count bytes cells read zeros =
    subst (All IsNone) (sym (ap (drop count) read ∙ drop-map cell_decoded count bytes))
    (All-map IsNone cell_decoded (drop count bytes) (All-from_get_or (λ byte. IsNone (cell_decoded byte)) (drop count bytes) 0 (λ i h.
    subst (λ byte. IsNone (cell_decoded byte)) (sym (All-get_or (λ byte. byte ≡ 0) (drop count bytes) i 0 h zeros)) refl)))
