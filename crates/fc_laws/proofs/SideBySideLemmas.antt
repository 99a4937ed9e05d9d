-- The lines of a printed board side by side are ordered as the texts of the boards are.
use Rattle.std.proofs.Common.{◌++◌, ◌-◌, ◌<◌, ◌==◌, ◌∙◌, ◌∷◌, ◌≡◌, ◌≤◌, ◌⊎◌, [], All, ap, arith, codes, get_or}
use Rattle.std.proofs.Common.{if◌then◌else◌, inl, inr, leb, length, List, Option, refl, subst, suc, sym, take, true, ℕ}
use Rattle.std.proofs.lemmas.Bool.{Decides.{leb_tells}, eqb-true, leb-true, ne_eqb}
use Rattle.std.proofs.lemmas.Cmp.{nat_list_cmp_total, tied_itself}
use Rattle.std.proofs.lemmas.List.Elements.{All-cons, All-head, All-nil, All-tail, All-weaker}
use Rattle.std.proofs.lemmas.{List.Sums.{AllPass-from_list_all}, Map.Lookups.{exact_bytes}}
use Rattle.std.specs.{Cmp.{Lexicographic.{slice_cmp}, nat_cmp_is}, declared.cmp.Ordering.{Ordering}}
use Rattle.std.specs.{declared.cmp.Ordering.TheVariants.{Equal, Greater, Less}, List.{flat_map, list_all}}
use Rattle.std.specs.Ordering.{nat_cmp, ordering_then}
use Rattle.{fc_canon.proofs.KeyLemmas.{height_at}, fc_card.specs.{IsCard}}
use Rattle.fc_board.{proofs.BoardLemmas.{in_cells, in_columns}, specs.{Boards.{Board, IsWellFormed}, Games.{Game}}}
use Rattle.fc_text.proofs.PrintedTextLemmas.{card_prints, cell_prints, heights_print, PrintsWord}
use Rattle.fc_text.specs.{Bytes.{blank, colon, line_feed}, Printed.{card_word, cell_word, cells_line, column_line}}
use Rattle.fc_text.specs.Printed.{foundations_line, height_word, printed_suits, text_of}
use Rattle.fc_record.{proofs.PrintedPartLemmas.{lines_of_board}, specs.{RecordTexts.{ends_line}, Tables.{side_by_side}}}

-- ---- texts whose bytes are line feeds or printed, and whose blanks are followed by other bytes

abbrev IsPrintedByte : ℕ → Type 0
IsPrintedByte byte = (byte ≡ line_feed) ⊎ (32 ≤ byte)

abbrev IsTidy : List ℕ → Type 0
IsTidy [] = Unit {0}
IsTidy (byte ∷ rest) = IsPrintedByte byte × (byte ≡ blank → 33 ≤ get_or rest 0 0) × IsTidy rest

tidy-append : (text other : List ℕ) → IsTidy text → IsTidy other → IsTidy (text ++ other)
tidy-append [] other tidy tidy' = tidy'
tidy-append (byte ∷ []) other (is, follows, rest) tidy' = (is, λ e. absurd (let none = follows e in omega arith), tidy')
tidy-append (byte ∷ next ∷ text) other (is, follows, rest) tidy' = (is, follows, tidy-append (next ∷ text) other rest tidy')

tidy-solid : (text : List ℕ) → All (λ byte. 33 ≤ byte) text → IsTidy text
tidy-solid [] solid = tt
tidy-solid (byte ∷ text) solid =
    let high = All-head (λ byte. 33 ≤ byte) byte text solid in
    (inr (omega arith), λ e. absurd (omega (arith, e)), tidy-solid text (All-tail (λ byte. 33 ≤ byte) byte text solid))

-- words written out are tidy
tidy-codes : (text : List ℕ) → list_all (λ byte. leb 33 byte) text ≡ true → IsTidy text
tidy-codes text e =
    tidy-solid text (All-weaker (λ byte. leb 33 byte ≡ true) (λ byte. 33 ≤ byte) (λ byte is. leb-true 33 byte is) text
    (AllPass-from_list_all (λ byte. leb 33 byte) text e))

tidy-feed : IsTidy (line_feed ∷ [])
tidy-feed = (inl refl, λ e. absurd (omega (arith, e)), tt)

module _ {X Y : Type 0} (full print : X → List ℕ) (spelled : List ℕ → Option Y) (item : X → Y) where
  tidy-words : (xs : List X) → All (PrintsWord full print spelled item) xs → IsTidy (flat_map full xs)
  tidy-words [] are = tt
  tidy-words (x ∷ xs) are =
      let p = All-head (PrintsWord full print spelled item) x xs are in
      let solid = p.solid in
      let word : IsTidy (blank ∷ (p.first ∷ p.others)) =
      (inr (omega arith), λ e. All-head (λ byte. 33 ≤ byte) p.first p.others solid, tidy-solid (p.first ∷ p.others) solid) in
      tidy-append (full x) (flat_map full xs) (rw (p.blank_first, p.bytes) word)
      (tidy-words xs (All-tail (PrintsWord full print spelled item) x xs are))

tidy-lines : {X : Type 0} (line : X → List ℕ) (xs : List X) → All (λ x. IsTidy (line x)) xs → IsTidy (flat_map line xs)
tidy-lines line [] are = tt
tidy-lines line (x ∷ xs) are =
    tidy-append (line x) (flat_map line xs) (All-head (λ x. IsTidy (line x)) x xs are) (tidy-lines line xs (All-tail (λ x. IsTidy (line x)) x xs are))

-- ---- the text of a board

module _ (game : Game) (board : Board) (well : IsWellFormed game board) where
  tidy-column : (column : List ℕ) → All IsCard column → IsTidy (column_line column)
  tidy-column column cards =
      tidy-append (colon ∷ flat_map card_word column) (line_feed ∷ []) (
        inr (omega arith),
        (λ e. absurd (omega (arith, e))),
        tidy-words card_word _ _ _ column (All-weaker IsCard _ card_prints column cards),
      ) tidy-feed

  -- the whole text: foundations, cells and columns
  tidy-text : IsTidy (text_of board)
  tidy-text =
      tidy-append (foundations_line board.heights ++ cells_line board.cells) (flat_map column_line board.columns)
      (tidy-append (foundations_line board.heights) (cells_line board.cells)
      (tidy-append (codes "Foundations:" ++ flat_map (height_word board.heights) printed_suits) (line_feed ∷ [])
      (tidy-append (codes "Foundations:") (flat_map (height_word board.heights) printed_suits) (tidy-codes (codes "Foundations:") refl)
      (tidy-words (height_word board.heights) _ _ _ printed_suits
      (heights_print board.heights (λ suit. height_at board.heights suit well.heights)))) tidy-feed)
      (tidy-append (codes "Freecells:" ++ flat_map cell_word board.cells) (line_feed ∷ [])
      (tidy-append (codes "Freecells:") (flat_map cell_word board.cells) (tidy-codes (codes "Freecells:") refl)
      (tidy-words cell_word _ _ _ board.cells (All-weaker _ _ cell_prints board.cells (in_cells game board well)))) tidy-feed))
      (tidy-lines column_line board.columns
      (All-weaker (All IsCard) (λ column. IsTidy (column_line column)) tidy-column board.columns (in_columns game board well)))

-- ---- all but the last line feed

-- a text that ends a line ends with a line feed
last_feed : (text : List ℕ) → 0 < length text → ends_line text ≡ true → take (length text - 1) text ++ line_feed ∷ [] ≡ text
last_feed [] some ends = absurd (omega arith)
last_feed (byte ∷ []) some ends = rw (eqb-true byte line_feed ends)
last_feed (byte ∷ next ∷ rest) some ends =
    let one_more : length (byte ∷ next ∷ rest) - 1 ≡ suc (length (next ∷ rest) - 1) = omega arith in
    rw (one_more, last_feed (next ∷ rest) (omega arith) ends)

tidy-front : (front : List ℕ) → IsTidy (front ++ line_feed ∷ []) → IsTidy front
tidy-front [] tidy = tt
tidy-front (byte ∷ []) (is, follows, rest) = (is, (λ e. absurd (let low = follows e in omega arith)), tt)
tidy-front (byte ∷ next ∷ rest) (is, follows, later) = (is, follows, tidy-front (next ∷ rest) later)

-- ---- in order

-- what is put for a byte
abbrev within : ℕ → List ℕ
within byte = if byte == line_feed then blank ∷ blank ∷ [] else byte ∷ []

abbrev spread : List ℕ → List ℕ
spread text = flat_map within text

spread_feed : (byte : ℕ) (text : List ℕ) → byte ≡ line_feed → spread (byte ∷ text) ≡ blank ∷ blank ∷ spread text
spread_feed byte text e = rw e

spread_other : (byte : ℕ) (text : List ℕ) → 32 ≤ byte → spread (byte ∷ text) ≡ byte ∷ spread text
spread_other byte text high = rw (ne_eqb byte line_feed (λ e. absurd (omega (arith, e, high))))

abbrev compared : List ℕ → List ℕ → Ordering
compared text other = slice_cmp nat_cmp text other

-- the first byte decides
lower_first : (byte other : ℕ) (text rest : List ℕ) → byte < other → compared (byte ∷ text) (other ∷ rest) ≡ Less
lower_first byte other text rest low = ap (λ answer. ordering_then answer (compared text rest)) (sym (nat_cmp_is byte other Less low))

other_way : (text other : List ℕ) → compared text other ≡ Less → compared other text ≡ Greater
other_way text other less = rw (nat_list_cmp_total.antisymm other text, less)

-- two blanks are less than what follows a line feed's place in another text
blanks_first : (byte : ℕ) (text other : List ℕ) → 32 ≤ byte → IsTidy (byte ∷ other) → compared (blank ∷ blank ∷ text) (byte ∷ spread other) ≡ Less
blanks_first byte text other high (is, follows, tidy) =
    elim (leb_tells 33 byte) [
      | inl (test, above) ↦ lower_first blank byte (blank ∷ text) (spread other) (omega arith)
      | inr (test, below) ↦ let same : byte ≡ blank = omega arith in
          ap (λ byte. compared (blank ∷ blank ∷ text) (byte ∷ spread other)) same ∙ after_blank other (follows same) tidy
    ]
  where
    after_blank : (other : List ℕ) → 33 ≤ get_or other 0 0 → IsTidy other → compared (blank ∷ text) (spread other) ≡ Less
    after_blank [] above tidy = absurd (omega arith)
    after_blank (next ∷ rest) above tidy = rw (spread_other next rest (omega arith), lower_first blank next text (spread rest) (omega arith))

nothing_first : (text : List ℕ) → IsTidy text → 0 < length text
    → (compared [] (spread text) ≡ Less) × (compared (line_feed ∷ []) (text ++ line_feed ∷ []) ≡ Less)
nothing_first [] tidy some = absurd (omega arith)
nothing_first (byte ∷ text) (inl e, follows, tidy) some =
    (ap (compared []) (spread_feed byte text e), ap (λ byte. compared (line_feed ∷ []) (byte ∷ text ++ line_feed ∷ [])) e ∙ some_more text)
  where
    some_more : (text : List ℕ) → compared [] (text ++ line_feed ∷ []) ≡ Less
    some_more [] = refl
    some_more (byte ∷ text) = refl
nothing_first (byte ∷ text) (inr high, follows, tidy) some =
    (ap (compared []) (spread_other byte text high), lower_first line_feed byte [] (text ++ line_feed ∷ []) (omega arith))

spread-cmp : (text other : List ℕ) → IsTidy text → IsTidy other
    → compared (spread text) (spread other) ≡ compared (text ++ line_feed ∷ []) (other ++ line_feed ∷ [])
spread-cmp [] [] tidy tidy' = refl
spread-cmp [] (byte ∷ other) tidy tidy' = let less = nothing_first (byte ∷ other) tidy' (omega arith) in less.0 ∙ sym less.1
spread-cmp (byte ∷ text) [] tidy tidy' =
    let less = nothing_first (byte ∷ text) tidy (omega arith) in
    other_way [] (spread (byte ∷ text)) less.0 ∙ sym (other_way (line_feed ∷ []) (byte ∷ text ++ line_feed ∷ []) less.1)
spread-cmp (byte ∷ text) (byte' ∷ other) (inl e, follows, tidy) (inl e', follows', tidy') =
    rw (spread_feed byte text e, spread_feed byte' other e', spread-cmp text other tidy tidy', e', e)
spread-cmp (byte ∷ text) (byte' ∷ other) (inl e, follows, tidy) (inr high, follows', tidy') = rw (
  spread_feed byte text e,
  spread_other byte' other high,
  blanks_first byte' (spread text) other high (inr high, follows', tidy'),
  lower_first byte byte' (text ++ line_feed ∷ []) (other ++ line_feed ∷ []) (omega arith),
)
spread-cmp (byte ∷ text) (byte' ∷ other) (inr high, follows, tidy) (inl e', follows', tidy') = rw (
  spread_other byte text high,
  spread_feed byte' other e',
  other_way (blank ∷ blank ∷ spread other) (byte ∷ spread text) (blanks_first byte (spread other) text high (inr high, follows, tidy)),
  other_way (byte' ∷ other ++ line_feed ∷ []) (byte ∷ text ++ line_feed ∷ [])
      (lower_first byte' byte (other ++ line_feed ∷ []) (text ++ line_feed ∷ []) (omega arith)),
)
spread-cmp (byte ∷ text) (byte' ∷ other) (inr high, follows, tidy) (inr high', follows', tidy') =
    rw (spread_other byte text high, spread_other byte' other high', spread-cmp text other tidy tidy')

-- ---- printed boards

-- a text that is printed of a well-formed board of some game
abbrev pub IsBoardText : List ℕ → Type 0
IsBoardText text = (game : Game) × (board : Board) × IsWellFormed game board × (text_of board ≡ text)

front_of : (text : List ℕ) → IsBoardText text → IsTidy (take (length text - 1) text) × (take (length text - 1) text ++ line_feed ∷ [] ≡ text)
front_of text (game, board, well, same) =
    rw (← same) (tidy-front (take (length (text_of board) - 1) (text_of board)) (subst IsTidy (sym ends) (tidy-text game board well)), ends)
  where
    ends : take (length (text_of board) - 1) (text_of board) ++ line_feed ∷ [] ≡ text_of board
    ends = last_feed (text_of board) (omega arith) (lines_of_board game board well).ends

pub side_by_side-cmp : (text other : List ℕ) → IsBoardText text → IsBoardText other
    → compared (side_by_side text) (side_by_side other) ≡ compared text other
side_by_side-cmp text other is is' =
    let (tidy, ends) = front_of text is in
    let (tidy', ends') = front_of other is' in
    rw (spread-cmp (take (length text - 1) text) (take (length other - 1) other) tidy tidy', ends, ends')

pub side_by_side-apart : (text other : List ℕ) → IsBoardText text → IsBoardText other → side_by_side text ≡ side_by_side other → text ≡ other
side_by_side-apart text other is is' e =
    exact_bytes text other (sym (side_by_side-cmp text other is is') ∙ ap (λ text. compared text (side_by_side other)) e ∙ tied (side_by_side other))
  where
    tied : (text : List ℕ) → compared text text ≡ Equal
    tied text = tied_itself nat_list_cmp_total text

spread-high : (text : List ℕ) → IsTidy text → All (λ byte. 32 ≤ byte) (spread text)
spread-high [] tidy = All-nil (λ byte. 32 ≤ byte)
spread-high (byte ∷ text) (inl e, follows, tidy) =
    rw (spread_feed byte text e) (All-cons (λ byte. 32 ≤ byte) blank (blank ∷ spread text) (omega arith)
    (All-cons (λ byte. 32 ≤ byte) blank (spread text) (omega arith) (spread-high text tidy)))
spread-high (byte ∷ text) (inr high, follows, tidy) =
    rw (spread_other byte text high) (All-cons (λ byte. 32 ≤ byte) byte (spread text) high (spread-high text tidy))

pub side_by_side-high : (text : List ℕ) → IsBoardText text → All (λ byte. 32 ≤ byte) (side_by_side text)
side_by_side-high text is = spread-high (take (length text - 1) text) (front_of text is).0
