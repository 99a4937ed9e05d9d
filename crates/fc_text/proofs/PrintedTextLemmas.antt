-- The printed text of a board spells it: its lines, their words, and what these spell.
use Rattle.std.proofs.Common.{◌&&◌, ◌++◌, ◌+◌, ◌-◌, ◌<◌, ◌∙◌, ◌∷◌, ◌≡◌, ◌≤◌, [], All, ap, append-nil, append_assoc}
use Rattle.std.proofs.Common.{arith, Bool, codes, cond, drop, eqb, false, get_or, inl, inr, leb, length, List, map}
use Rattle.std.proofs.Common.{None, Option, refl, replicate, slice_index, Some, subst, suc, sym, true, zero, ℕ}
use Rattle.std.proofs.lemmas.Bool.{agree_below, agree_below_at, and_parts, Decides.{leb_tells, nat_tests}}
use Rattle.std.proofs.lemmas.Bool.{ne_eqb, or_from}
use Rattle.std.proofs.lemmas.List.Elements.{All-append, All-cons, All-get_or, All-head, All-nil, All-tail, All-weaker}
use Rattle.std.proofs.lemmas.{List.{get_or_past, Sums.{AllPass-from_list_all}}, Option.{same_Some}}
use Rattle.std.specs.{List.{flat_map, list_all, prefix_len}, Option.{option_map}}
use Rattle.fc_card.proofs.Letters.{answers, answers-true}
use Rattle.fc_card.specs.{card_text, IsCard, rank_letter, rank_of, suit_letter, suit_of}
use Rattle.fc_board.proofs.BoardLemmas.{count_of-cons, in_cells, in_columns}
use Rattle.fc_board.specs.{Boards.{Board, IsHeight, IsWellFormed}, Games.{Game}, laws.ListWords.{IsCell}}
use Rattle.fc_text.proofs.{LineLemmas.{first_line, InLine}, SpelledLemmas.{count_of_suits}}
use Rattle.fc_text.{proofs.WordLemmas.{EndsWord, first_word}, specs.Bytes.{blank, colon, dash, is_gap, line_feed}}
use Rattle.fc_text.specs.{Lines.{lines_from, trim_carriage_return, words_from}, Printed.{card_word, cell_word}}
use Rattle.fc_text.specs.Printed.{cells_line, column_line, foundations_line, height_letter, height_word, printed_suits}
use Rattle.fc_text.specs.Printed.{text_of}
use Rattle.fc_text.specs.Rows.{columns_left, Content, is_empty, Line, line_of, line_of_front, Row, rows_of, rows_within}
use Rattle.fc_text.specs.Spelling.{card_spelled, cell_spelled, count_of_suit, foundation_spelled, height_spelled}
use Rattle.fc_text.specs.Spelling.{is_empty_mark, lines_of, padded_with, Spells, words_of}
use Rattle.fc_text.specs.declared.board.reader.Section.{Section, TheVariants.{Column, Foundations, Freecells}}
use Rattle.fc_text.specs.declared.board.spelling.Foundation.{Foundation}

-- ---- bytes of printed text: no control characters, and within words no blanks

abbrev Plain : ℕ → Type 0
Plain byte = 32 ≤ byte

abbrev Solid : ℕ → Type 0
Solid byte = 33 ≤ byte

other_byte : (byte other : ℕ) → other < byte → eqb byte other ≡ false
other_byte byte other h = ne_eqb byte other (λ e. absurd (omega arith))

solid_gap : (byte : ℕ) → Solid byte → is_gap byte ≡ false
solid_gap byte h = or_from (eqb byte 32) (eqb byte 9) (other_byte byte 32 (omega arith)) (other_byte byte 9 (omega arith))

-- ---- lines

plain_line : (line : List ℕ) → All Plain line → All InLine line
plain_line line are = All-weaker Plain InLine (λ byte h e. absurd (omega arith)) line are

-- a plain line ends in no carriage return
pub no_return : (line : List ℕ) → All Plain line → trim_carriage_return line ≡ line
no_return [] are = refl
no_return (byte ∷ []) are =
    ap (λ b. cond b [] (byte ∷ [])) (other_byte byte 13 (let h = All-head Plain byte [] are in omega arith))
no_return (byte ∷ next ∷ rest) are = ap (λ line. byte ∷ line) (no_return (next ∷ rest) (All-tail Plain byte (next ∷ rest) are))

-- ---- words

solid_word : (bytes : List ℕ) → All Solid bytes → All (λ byte. is_gap byte ≡ false) bytes
solid_word bytes are = All-weaker Solid (λ byte. is_gap byte ≡ false) solid_gap bytes are

-- ---- words that are printed one after another, each after a blank

-- a value is printed as a blank and a word of solid bytes, and the word spells its item
pub record PrintsWord {X Y : Type 0} (full print : X → List ℕ) (spelled : List ℕ → Option Y) (item : X → Y) (x : X) : Type 0 where
  pub first : ℕ
  pub others : List ℕ
  pub blank_first : full x ≡ blank ∷ print x
  pub bytes : print x ≡ first ∷ others
  pub solid : All Solid (first ∷ others)
  pub spells : spelled (print x) ≡ Some (item x)

module _ {X Y : Type 0} (full print : X → List ℕ) (spelled : List ℕ → Option Y) (item : X → Y) where
  abbrev Prints : X → Type 0
  Prints x = PrintsWord full print spelled item x

  more_words : (xs : List X) → All Prints xs → EndsWord is_gap (flat_map full xs)
  more_words [] are = tt
  more_words (x ∷ xs) are = subst (λ text. EndsWord is_gap (text ++ flat_map full xs)) (sym (All-head Prints x xs are).blank_first) refl

  pub spell_items : (xs : List X) (place : ℕ) → All Prints xs → map (λ word. spelled word.bytes) (words_from is_gap place (flat_map full xs)) ≡ map (λ x. Some (item x)) xs
  spell_items [] place are = refl
  spell_items (x ∷ xs) place are =
      let p = All-head Prints x xs are in
      let later = All-tail Prints x xs are in
      let text : flat_map full (x ∷ xs) ≡ blank ∷ (p.first ∷ p.others ++ flat_map full xs) =
      ap (λ front. front ++ flat_map full xs) (p.blank_first ∙ ap (λ word. blank ∷ word) p.bytes) in
      let cut = first_word is_gap (place + 1) p.first p.others (flat_map full xs) (solid_word (p.first ∷ p.others) p.solid) (more_words xs later) in
      ap (λ bytes. map (λ word. spelled word.bytes) (words_from is_gap place bytes)) text
      ∙ ap (map (λ word. spelled word.bytes)) cut
      ∙ ap (λ o. o ∷ map (λ word. spelled word.bytes) (words_from is_gap (place + 1 + length (p.first ∷ p.others)) (flat_map full xs))) (ap spelled (sym p.bytes) ∙ p.spells)
      ∙ ap (λ os. Some (item x) ∷ os) (spell_items xs (place + 1 + length (p.first ∷ p.others)) later)

  -- such words are plain
  pub plain_words : (xs : List X) → All Prints xs → All Plain (flat_map full xs)
  plain_words [] are = All-nil Plain
  plain_words (x ∷ xs) are =
      let p = All-head Prints x xs are in
      All-append Plain (full x) (flat_map full xs)
      (subst (All Plain) (sym (p.blank_first ∙ ap (λ word. blank ∷ word) p.bytes))
      (All-cons Plain blank (p.first ∷ p.others) (omega arith) (solid_plain (p.first ∷ p.others) p.solid)))
      (plain_words xs (All-tail Prints x xs are))
    where
      solid_plain : (bytes : List ℕ) → All Solid bytes → All Plain bytes
      solid_plain [] are = All-nil Plain
      solid_plain (byte ∷ bytes) are =
          All-cons Plain byte bytes (let h = All-head Solid byte bytes are in omega arith) (solid_plain bytes (All-tail Solid byte bytes are))

-- ---- cards, cells and heights

solid_from : (byte : ℕ) → leb 33 byte ≡ true → Solid byte
solid_from byte test = grind (arith, nat_tests)

abbrev solid_letters : ℕ → Bool
solid_letters card = leb 33 (rank_letter (rank_of card)) && leb 33 (suit_letter (suit_of card))

all_solid : agree_below solid_letters (λ _. true) 52 ≡ true
all_solid = refl

card_solid : (card : ℕ) → IsCard card → All Solid (card_text card)
card_solid card is =
    let (rank, suit) = and_parts (leb 33 (rank_letter (rank_of card))) (leb 33 (suit_letter (suit_of card))) (agree_below_at solid_letters (λ _. true) 52 card all_solid is) in
    All-cons Solid (rank_letter (rank_of card)) (suit_letter (suit_of card) ∷ []) (solid_from (rank_letter (rank_of card)) rank)
    (All-cons Solid (suit_letter (suit_of card)) [] (solid_from (suit_letter (suit_of card)) suit) (All-nil Solid))

all_spelled_back : agree_below (λ card. answers (card_spelled (card_text card)) card) (λ _. true) 52 ≡ true
all_spelled_back = refl

pub card_spelled-text : (card : ℕ) → IsCard card → card_spelled (card_text card) ≡ Some card
card_spelled-text card is =
    answers-true (card_spelled (card_text card)) card (agree_below_at (λ card. answers (card_spelled (card_text card)) card) (λ _. true) 52 card all_spelled_back is)

no_empty_mark : agree_below (λ card. is_empty_mark (card_text card)) (λ _. false) 52 ≡ true
no_empty_mark = refl

-- a card in a column
pub card_prints : (card : ℕ) → IsCard card → PrintsWord card_word card_text card_spelled (λ card. card) card
card_prints card is = record {
  first = rank_letter (rank_of card);
  others = suit_letter (suit_of card) ∷ [];
  blank_first = refl;
  bytes = refl;
  solid = card_solid card is;
  spells = card_spelled-text card is;
}

abbrev pub cell_text : Option ℕ → List ℕ
cell_text None = dash ∷ []
cell_text (Some card) = card_text card

-- a cell
pub cell_prints : (cell : Option ℕ) → IsCell cell → PrintsWord cell_word cell_text cell_spelled (λ cell. cell) cell
cell_prints None is = record {
  first = dash;
  others = [];
  blank_first = refl;
  bytes = refl;
  solid = All-cons Solid dash [] (omega arith) (All-nil Solid);
  spells = refl;
}
cell_prints (Some card) is = record {
  first = rank_letter (rank_of card);
  others = suit_letter (suit_of card) ∷ [];
  blank_first = refl;
  bytes = refl;
  solid = card_solid card is;
  spells =
      ap (λ b. cond b (Some None) (option_map (λ card. Some card) (card_spelled (card_text card)))) (agree_below_at (λ card. is_empty_mark (card_text card)) (λ _. false) 52 card no_empty_mark is)
      ∙ ap (option_map (λ card. Some card)) (card_spelled-text card is);
}

all_heights_back : agree_below (λ height. answers (height_spelled (height_letter height ∷ [])) height && leb 33 (height_letter height)) (λ _. true) 14 ≡ true
all_heights_back = refl

height_back : (height : ℕ) → height ≤ 13 → (height_spelled (height_letter height ∷ []) ≡ Some height) × Solid (height_letter height)
height_back height low =
    let (back, solid) = and_parts (answers (height_spelled (height_letter height ∷ [])) height) (leb 33 (height_letter height))
    (agree_below_at (λ height. answers (height_spelled (height_letter height ∷ [])) height && leb 33 (height_letter height)) (λ _. true) 14 height all_heights_back (omega arith)) in
    (answers-true (height_spelled (height_letter height ∷ [])) height back, solid_from (height_letter height) solid)

abbrev pub height_text : List ℕ → ℕ → List ℕ
height_text heights suit = suit_letter suit ∷ dash ∷ height_letter (slice_index heights suit) ∷ []

abbrev pub foundation_at : List ℕ → ℕ → Foundation
foundation_at heights suit = record { suit = suit; height = slice_index heights suit }

-- a foundation, of a suit whose letter spells it
pub height_prints : (heights : List ℕ) (suit : ℕ) → slice_index heights suit ≤ 13 → Solid (suit_letter suit)
    → ((height : ℕ) → height_spelled (height_letter height ∷ []) ≡ Some height
    → foundation_spelled (suit_letter suit ∷ dash ∷ height_letter height ∷ []) ≡ Some (record { suit = suit; height = height }))
    → PrintsWord (height_word heights) (height_text heights) foundation_spelled (foundation_at heights) suit
height_prints heights suit low solid back =
    let (height, solid_height) = height_back (slice_index heights suit) low in
    record {
      first = suit_letter suit;
      others = dash ∷ height_letter (slice_index heights suit) ∷ [];
      blank_first = refl;
      bytes = refl;
      solid = All-cons Solid (suit_letter suit) (dash ∷ height_letter (slice_index heights suit) ∷ []) solid
          (All-cons Solid dash (height_letter (slice_index heights suit) ∷ []) (omega arith) (All-cons Solid (height_letter (slice_index heights suit)) [] solid_height (All-nil Solid)));
      spells = back (slice_index heights suit) height;
    }

abbrev printed_foundation : ℕ → Option ℕ → Option Foundation
printed_foundation suit height = option_map (λ height. record { suit = suit; height = height }) height

pub heights_print : (heights : List ℕ) → ((suit : ℕ) → slice_index heights suit ≤ 13)
    → All (PrintsWord (height_word heights) (height_text heights) foundation_spelled (foundation_at heights)) printed_suits
heights_print heights low =
    let P = PrintsWord (height_word heights) (height_text heights) foundation_spelled (foundation_at heights) in
    All-cons P 2 (0 ∷ 1 ∷ 3 ∷ []) (height_prints heights 2 (low 2) (omega arith) (λ height e. ap (printed_foundation 2) e))
    (All-cons P 0 (1 ∷ 3 ∷ []) (height_prints heights 0 (low 0) (omega arith) (λ height e. ap (printed_foundation 0) e))
    (All-cons P 1 (3 ∷ []) (height_prints heights 1 (low 1) (omega arith) (λ height e. ap (printed_foundation 1) e))
    (All-cons P 3 [] (height_prints heights 3 (low 3) (omega arith) (λ height e. ap (printed_foundation 3) e))
    (All-nil P))))

-- ---- the three kinds of lines

abbrev pub heights_bytes : List ℕ → List ℕ
heights_bytes heights = codes "Foundations:" ++ flat_map (height_word heights) printed_suits

abbrev pub cells_bytes : List (Option ℕ) → List ℕ
cells_bytes cells = codes "Freecells:" ++ flat_map cell_word cells

abbrev pub column_bytes : List ℕ → List ℕ
column_bytes column = colon ∷ flat_map card_word column

-- what the lines hold
abbrev heights_row : ℕ → List ℕ → Row
heights_row start heights = record { section = Foundations; start = start; words = words_from is_gap (start + 12) (flat_map (height_word heights) printed_suits) }

abbrev cells_row : ℕ → List (Option ℕ) → Row
cells_row start cells = record { section = Freecells; start = start; words = words_from is_gap (start + 10) (flat_map cell_word cells) }

abbrev card_row : ℕ → List ℕ → Row
card_row start column = record { section = Column; start = start; words = words_from is_gap (start + 1) (flat_map card_word column) }

plain_codes : (name : List ℕ) → list_all (λ byte. leb 32 byte) name ≡ true → All Plain name
plain_codes name test = All-weaker (λ byte. leb 32 byte ≡ true) Plain plain_from name (AllPass-from_list_all (λ byte. leb 32 byte) name test)
  where
    plain_from : (byte : ℕ) → leb 32 byte ≡ true → Plain byte
    plain_from byte test = grind (arith, nat_tests)

-- the place does not matter where it is given twice
from_front : (start : ℕ) (bytes : List ℕ) → All Plain bytes → prefix_len is_gap bytes ≡ 0 → line_of (record { start = start; bytes = bytes }) ≡ line_of_front start bytes
from_front start bytes are first =
    ap (λ bytes. line_of_front (start + prefix_len is_gap bytes) (drop (prefix_len is_gap bytes) bytes)) (no_return bytes are)
    ∙ ap (λ n. line_of_front (start + n) (drop n bytes)) first
    ∙ ap (λ s. line_of_front s bytes) (omega arith)

row_at : (section : Section) (start first then : ℕ) (rest : List ℕ) → first ≡ then
    → Content (record { section = section; start = start; words = words_from is_gap first rest }) ≡ Content (record { section = section; start = start; words = words_from is_gap then rest })
row_at section start first then rest e = ap (λ place. Content (record { section = section; start = start; words = words_from is_gap place rest })) e

plain_heights : (heights : List ℕ) → All Plain (flat_map (height_word heights) printed_suits) → All Plain (heights_bytes heights)
plain_heights heights are = All-append Plain (codes "Foundations:") (flat_map (height_word heights) printed_suits) (plain_codes (codes "Foundations:") refl) are

plain_cells : (cells : List (Option ℕ)) → All Plain (flat_map cell_word cells) → All Plain (cells_bytes cells)
plain_cells cells are = All-append Plain (codes "Freecells:") (flat_map cell_word cells) (plain_codes (codes "Freecells:") refl) are

plain_column : (column : List ℕ) → All Plain (flat_map card_word column) → All Plain (column_bytes column)
plain_column column are = All-cons Plain colon (flat_map card_word column) (omega arith) are

heights_line_row : (start : ℕ) (heights : List ℕ) → All Plain (flat_map (height_word heights) printed_suits)
    → line_of (record { start = start; bytes = heights_bytes heights }) ≡ Content (heights_row start heights)
heights_line_row start heights are =
    from_front start (heights_bytes heights) (plain_heights heights are) refl
    ∙ row_at Foundations start (start + 11 + 1) (start + 12) (flat_map (height_word heights) printed_suits) (omega arith)

cells_line_row : (start : ℕ) (cells : List (Option ℕ)) → All Plain (flat_map cell_word cells)
    → line_of (record { start = start; bytes = cells_bytes cells }) ≡ Content (cells_row start cells)
cells_line_row start cells are =
    from_front start (cells_bytes cells) (plain_cells cells are) refl
    ∙ row_at Freecells start (start + 9 + 1) (start + 10) (flat_map cell_word cells) (omega arith)

column_line_row : (start : ℕ) (column : List ℕ) → All Plain (flat_map card_word column)
    → line_of (record { start = start; bytes = column_bytes column }) ≡ Content (card_row start column)
column_line_row start column are = from_front start (column_bytes column) (plain_column column are) refl

-- ---- the lines of the whole text

abbrev PlainColumn : List ℕ → Type 0
PlainColumn column = All Plain (flat_map card_word column)

abbrev card_rows : ℕ → List (List ℕ) → List Row
card_rows place [] = []
card_rows place (column ∷ columns) = card_row place column ∷ card_rows (place + length (column_bytes column) + 1) columns

abbrev held : List Row → List Line
held rows = map (λ row. Content row) rows

column_lines_rows : (place : ℕ) (columns : List (List ℕ)) → All PlainColumn columns → map line_of (lines_from place (flat_map column_line columns)) ≡ held (card_rows place columns)
column_lines_rows place [] are = refl
column_lines_rows place (column ∷ columns) are =
    let plain = All-head PlainColumn column columns are in
    let text : flat_map column_line (column ∷ columns) ≡ column_bytes column ++ line_feed ∷ flat_map column_line columns =
    ap (λ bytes. colon ∷ bytes) (append_assoc (flat_map card_word column) (line_feed ∷ []) (flat_map column_line columns)) in
    ap (λ bytes. map line_of (lines_from place bytes)) text
    ∙ ap (map line_of) (first_line place (column_bytes column) (flat_map column_line columns) (plain_line (column_bytes column) (plain_column column plain)))
    ∙ ap (λ line. line ∷ map line_of (lines_from (place + length (column_bytes column) + 1) (flat_map column_line columns))) (column_line_row place column plain)
    ∙ ap (λ lines. Content (card_row place column) ∷ lines) (column_lines_rows (place + length (column_bytes column) + 1) columns (All-tail PlainColumn column columns are))

all_held : (left : ℕ) (rows : List Row) → rows_within left (held rows) ≡ rows
all_held left [] = refl
all_held zero (row ∷ rows) = ap (λ more. row ∷ more) (all_held (columns_left row.section zero) rows)
all_held (suc left) (row ∷ rows) = ap (λ more. row ∷ more) (all_held (columns_left row.section (suc left)) rows)

-- the rows of a printed text
module _ (board : Board) where
  abbrev heights_text : List ℕ
  heights_text = heights_bytes board.heights

  abbrev cells_text : List ℕ
  cells_text = cells_bytes board.cells

  abbrev second : ℕ
  second = 0 + length heights_text + 1

  abbrev third : ℕ
  third = second + length cells_text + 1

  abbrev pub printed_rows : List Row
  printed_rows = heights_row 0 board.heights ∷ cells_row second board.cells ∷ card_rows third board.columns

  pub text_lines : text_of board ≡ heights_text ++ line_feed ∷ (cells_text ++ line_feed ∷ flat_map column_line board.columns)
  text_lines =
      append_assoc (foundations_line board.heights) (cells_line board.cells) (flat_map column_line board.columns)
      ∙ lines_joined (codes "Foundations:") (flat_map (height_word board.heights) printed_suits) (cells_line board.cells ++ flat_map column_line board.columns)
      ∙ ap (λ rest. heights_text ++ line_feed ∷ rest) (lines_joined (codes "Freecells:") (flat_map cell_word board.cells) (flat_map column_line board.columns))
    where
      lines_joined : (name words rest : List ℕ) → (name ++ words ++ line_feed ∷ []) ++ rest ≡ (name ++ words) ++ line_feed ∷ rest
      lines_joined name words rest = append_assoc (name ++ words) (line_feed ∷ []) rest

  pub rows_of-text : All Plain (flat_map (height_word board.heights) printed_suits) → All Plain (flat_map cell_word board.cells) → All PlainColumn board.columns
      → rows_of (text_of board) ≡ printed_rows
  rows_of-text heights cells columns =
      let rest = cells_text ++ line_feed ∷ flat_map column_line board.columns in
      let first_cut = first_line 0 heights_text rest (plain_line heights_text (plain_heights board.heights heights)) in
      let second_cut = first_line second cells_text (flat_map column_line board.columns) (plain_line cells_text (plain_cells board.cells cells)) in
      let lines : map line_of (lines_from 0 (text_of board)) ≡ held printed_rows =
      ap (λ text. map line_of (lines_from 0 text)) text_lines
      ∙ ap (map line_of) first_cut
      ∙ ap (λ more. line_of (record { start = 0; bytes = heights_text }) ∷ map line_of more) second_cut
      ∙ ap (λ line. line ∷ line_of (record { start = second; bytes = cells_text }) ∷ map line_of (lines_from third (flat_map column_line board.columns))) (heights_line_row 0 board.heights heights)
      ∙ ap (λ line. Content (heights_row 0 board.heights) ∷ line ∷ map line_of (lines_from third (flat_map column_line board.columns))) (cells_line_row second board.cells cells)
      ∙ ap (λ more. Content (heights_row 0 board.heights) ∷ Content (cells_row second board.cells) ∷ more) (column_lines_rows third board.columns columns) in
      ap (λ lines. rows_within 8 (drop (prefix_len is_empty lines) lines)) lines ∙ all_held 8 printed_rows

-- ---- the printed text spells its board

no_heights_rows : (place : ℕ) (columns : List (List ℕ)) → lines_of Foundations (card_rows place columns) ≡ []
no_heights_rows place [] = refl
no_heights_rows place (column ∷ columns) = no_heights_rows (place + length (column_bytes column) + 1) columns

no_cells_rows : (place : ℕ) (columns : List (List ℕ)) → lines_of Freecells (card_rows place columns) ≡ []
no_cells_rows place [] = refl
no_cells_rows place (column ∷ columns) = no_cells_rows (place + length (column_bytes column) + 1) columns

columns_rows : (place : ℕ) (columns : List (List ℕ)) → lines_of Column (card_rows place columns) ≡ card_rows place columns
columns_rows place [] = refl
columns_rows place (column ∷ columns) = ap (λ rows. card_row place column ∷ rows) (columns_rows (place + length (column_bytes column) + 1) columns)

spelled_items : {X Y : Type 0} (item : X → Y) (xs : List X) → map (λ x. Some (item x)) xs ≡ map (λ y. Some y) (map item xs)
spelled_items item [] = refl
spelled_items item (x ∷ xs) = ap (λ ys. Some (item x) ∷ ys) (spelled_items item xs)

abbrev CardPrints : ℕ → Type 0
CardPrints card = PrintsWord card_word card_text card_spelled (λ card. card) card

abbrev CellPrints : Option ℕ → Type 0
CellPrints cell = PrintsWord cell_word cell_text cell_spelled (λ cell. cell) cell

columns_print : (columns : List (List ℕ)) → All (All IsCard) columns → All (All CardPrints) columns
columns_print columns are = All-weaker (All IsCard) (All CardPrints) (λ column cards. All-weaker IsCard CardPrints card_prints column cards) columns are

column_rows_spelled : (place : ℕ) (columns : List (List ℕ)) → All (All CardPrints) columns
    → map (λ row. map (λ word. card_spelled word.bytes) row.words) (card_rows place columns) ≡ map (map (λ card. Some card)) columns
column_rows_spelled place [] are = refl
column_rows_spelled place (column ∷ columns) are =
    ap (λ line. line ∷ map (λ row. map (λ word. card_spelled word.bytes) row.words) (card_rows (place + length (column_bytes column) + 1) columns))
    (spell_items card_word card_text card_spelled (λ card. card) column (place + 1) (All-head (All CardPrints) column columns are))
    ∙ ap (λ lines. map (λ card. Some card) column ∷ lines) (column_rows_spelled (place + length (column_bytes column) + 1) columns (All-tail (All CardPrints) column columns are))

-- four heights are known by their places
four_heights : (heights : List ℕ) (a b c d : ℕ) → length heights ≡ 4 → Some a ≡ Some (get_or heights 0 0) → Some b ≡ Some (get_or heights 1 0)
    → Some c ≡ Some (get_or heights 2 0) → Some d ≡ Some (get_or heights 3 0) → Some (a ∷ b ∷ c ∷ d ∷ []) ≡ Some heights
four_heights [] a b c d e p q r s = absurd (omega arith)
four_heights (w ∷ []) a b c d e p q r s = absurd (omega arith)
four_heights (w ∷ x ∷ []) a b c d e p q r s = absurd (omega arith)
four_heights (w ∷ x ∷ y ∷ []) a b c d e p q r s = absurd (omega arith)
four_heights (w ∷ x ∷ y ∷ z ∷ []) a b c d e p q r s = cc
four_heights (w ∷ x ∷ y ∷ z ∷ v ∷ vs) a b c d e p q r s = absurd (omega arith)

suits_apart : (suit : ℕ) → cond (eqb 2 suit) 1 0 + (cond (eqb 0 suit) 1 0 + (cond (eqb 1 suit) 1 0 + (cond (eqb 3 suit) 1 0 + 0))) ≤ 1
suits_apart suit = grind (arith, nat_tests)

module _ (game : Game) (board : Board) (well : IsWellFormed game board) where
  abbrev printed_foundations : List Foundation
  printed_foundations = map (foundation_at board.heights) printed_suits

  one_suit : (suit : ℕ) → count_of_suit suit printed_foundations ≤ 1
  one_suit suit =
      let count = count_of_suits suit printed_foundations in
      let a = count_of-cons suit 2 (0 ∷ 1 ∷ 3 ∷ []) in
      let b = count_of-cons suit 0 (1 ∷ 3 ∷ []) in
      let c = count_of-cons suit 1 (3 ∷ []) in
      let d = count_of-cons suit 3 [] in
      let bound = suits_apart suit in
      omega arith

  low_heights : (suit : ℕ) → slice_index board.heights suit ≤ 13
  low_heights suit =
      elim (leb_tells 4 suit) [
        | inl (test, past) ↦ none (get_or_past board.heights suit 0 (omega (arith, well.piles.four_foundations)))
        | inr (test, within) ↦ All-get_or IsHeight board.heights suit 0 (omega (arith, well.piles.four_foundations)) well.heights
      ]
    where
      none : slice_index board.heights suit ≡ 0 → slice_index board.heights suit ≤ 13
      none e = omega arith

  heights_printed : All (PrintsWord (height_word board.heights) (height_text board.heights) foundation_spelled (foundation_at board.heights)) printed_suits
  heights_printed = heights_print board.heights low_heights

  cells_printed : All CellPrints board.cells
  cells_printed = All-weaker IsCell CellPrints cell_prints board.cells (in_cells game board well)

  columns_printed : All (All CardPrints) board.columns
  columns_printed = columns_print board.columns (in_columns game board well)

  its_rows : rows_of (text_of board) ≡ printed_rows board
  its_rows =
      rows_of-text board (plain_words (height_word board.heights) (height_text board.heights) foundation_spelled (foundation_at board.heights) printed_suits heights_printed)
      (plain_words cell_word cell_text cell_spelled (λ cell. cell) board.cells cells_printed)
      (All-weaker (All CardPrints) PlainColumn (λ column are. plain_words card_word card_text card_spelled (λ card. card) column are) board.columns columns_printed)

  -- no line of the text but its last byte is a line feed, and it begins with an F or a colon
  pub bytes_in_lines : All InLine (heights_bytes board.heights) × All InLine (cells_bytes board.cells) × All (λ column. All InLine (column_bytes column)) board.columns
  bytes_in_lines = (
    plain_line (heights_bytes board.heights) (plain_heights board.heights (plain_words (height_word board.heights) (height_text board.heights) foundation_spelled (foundation_at board.heights) printed_suits heights_printed)),
    plain_line (cells_bytes board.cells) (plain_cells board.cells (plain_words cell_word cell_text cell_spelled (λ cell. cell) board.cells cells_printed)),
    All-weaker (All CardPrints) (λ column. All InLine (column_bytes column))
        (λ column are. plain_line (column_bytes column) (plain_column column (plain_words card_word card_text card_spelled (λ card. card) column are))) board.columns columns_printed,
  )

  abbrev third_place : ℕ
  third_place = third board

  heights_words : words_of Foundations (printed_rows board) ≡ words_from is_gap 12 (flat_map (height_word board.heights) printed_suits)
  heights_words =
      ap (λ rows. flat_map (λ row. row.words) (heights_row 0 board.heights ∷ rows)) (no_heights_rows third_place board.columns)
      ∙ append-nil (words_from is_gap 12 (flat_map (height_word board.heights) printed_suits))

  cells_words : words_of Freecells (printed_rows board) ≡ words_from is_gap (second board + 10) (flat_map cell_word board.cells)
  cells_words =
      ap (λ rows. flat_map (λ row. row.words) (cells_row (second board) board.cells ∷ rows)) (no_cells_rows third_place board.columns)
      ∙ append-nil (words_from is_gap (second board + 10) (flat_map cell_word board.cells))

  all_given : {X : Type 0} (places : ℕ) (empty : X) (items : List X) → length items ≡ places → items ≡ padded_with places empty items
  all_given places empty items e =
      sym (ap (λ count. items ++ replicate count empty) (nothing_left places (length items) e) ∙ append-nil items)
    where
      nothing_left : (places taken : ℕ) → taken ≡ places → places - taken ≡ 0
      nothing_left places taken e = omega arith

  abbrev at_most_one : Section → List Row → Type 0
  at_most_one section rows = length (lines_of section rows) ≤ 1

  pub text_spells : Spells game (text_of board) board
  text_spells = record {
    foundations = printed_foundations;
    cells = board.cells;
    columns = board.columns;
    one_foundations_line = subst (at_most_one Foundations) (sym its_rows)
        (subst (λ rows. length (heights_row 0 board.heights ∷ rows) ≤ 1) (sym (no_heights_rows third_place board.columns)) (omega arith));
    foundations_spelled = ap (λ rows. map (λ word. foundation_spelled word.bytes) (words_of Foundations rows)) its_rows
        ∙ ap (map (λ word. foundation_spelled word.bytes)) heights_words
        ∙ spell_items (height_word board.heights) (height_text board.heights) foundation_spelled (foundation_at board.heights) printed_suits 12 heights_printed
        ∙ spelled_items (foundation_at board.heights) printed_suits;
    distinct_suits = one_suit;
    heights_given = sym (same_Some _ _ (four_heights board.heights (get_or board.heights 0 0) (get_or board.heights 1 0) (get_or board.heights 2 0) (get_or board.heights 3 0)
        well.piles.four_foundations refl refl refl refl));
    one_cells_line = subst (at_most_one Freecells) (sym its_rows)
        (subst (λ rows. length (cells_row (second board) board.cells ∷ rows) ≤ 1) (sym (no_cells_rows third_place board.columns)) (omega arith));
    cells_spelled = ap (λ rows. map (λ word. cell_spelled word.bytes) (words_of Freecells rows)) its_rows
        ∙ ap (map (λ word. cell_spelled word.bytes)) cells_words
        ∙ spell_items cell_word cell_text cell_spelled (λ cell. cell) board.cells (second board + 10) cells_printed;
    cells_fit = omega (arith, well.piles.all_cells);
    cells_given = all_given game.cells None board.cells well.piles.all_cells;
    columns_fit = omega (arith, well.piles.eight_columns);
    columns_spelled = ap (λ rows. map (λ row. map (λ word. card_spelled word.bytes) row.words) (lines_of Column rows)) its_rows
        ∙ ap (map (λ row. map (λ word. card_spelled word.bytes) row.words)) (columns_rows third_place board.columns)
        ∙ column_rows_spelled third_place board.columns columns_printed;
    columns_given = all_given 8 [] board.columns well.piles.eight_columns;
    well_formed = well;
  }
