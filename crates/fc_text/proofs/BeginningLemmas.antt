-- Printed piles at the front of a text: they are the only ones that it begins with.
use Rattle.std.proofs.Common.{◌*◌, ◌++◌, ◌+◌, ◌<◌, ◌==◌, ◌∙◌, ◌∷◌, ◌≡◌, ◌≤◌, [], All, ap, append_assoc, ap₂, arith}
use Rattle.std.proofs.Common.{drop, get_or, length, length-append, List, None, Option, position, refl, slice_index}
use Rattle.std.proofs.{Common.{Some, sym, take, take-append-drop, true, ℕ}, lemmas.Bool.{agree_below, agree_below_at}}
use Rattle.std.proofs.lemmas.{Grind.{flat_map-append}, List.{drop_all, drop_more}}
use Rattle.std.proofs.lemmas.{List.{Elements.{All-get_or, All-head, All-tail}, take_all}, Option.{same_Some}}
use Rattle.std.specs.List.{flat_map}
use Rattle.std.proofs.NetLemmas.Arrays.{four_items}
use Rattle.fc_card.{proofs.Letters.{answers, answers-true, same_card_text}, specs.{card_text, IsCard}}
use Rattle.fc_board.{proofs.BoardLemmas.{in_cells, in_columns}, specs.Boards.{Board, IsHeight, IsWellFormed}}
use Rattle.fc_board.specs.{Games.{Game}, inside.{size_of}, laws.ListWords.{IsCell}}
use Rattle.fc_text.proofs.{ConcatenationLemmas.{no_dash}, TextLemmas.{length-card_words}}
use Rattle.fc_text.specs.{Bytes.{blank, colon, line_feed}, Printed.{card_word, cell_word, cells_line, column_line}}
use Rattle.fc_text.specs.Printed.{foundations_line, height_letter, height_letters, text_of}

-- the lines of a board before other text
pub text_before : (board : Board) (rest : List ℕ)
    → text_of board ++ rest ≡ foundations_line board.heights ++ (cells_line board.cells ++ (flat_map column_line board.columns ++ rest))
text_before board rest =
    let heights = foundations_line board.heights in
    let cells = cells_line board.cells in
    let columns = flat_map column_line board.columns in
    append_assoc heights (cells ++ columns) rest ∙ ap (λ later. heights ++ later) (append_assoc cells columns rest)

-- ---- heights
abbrev height_read : ℕ → Option ℕ
height_read letter = position (λ known. known == letter) height_letters

all_heights_read : agree_below (λ height. answers (height_read (height_letter height)) height) (λ _. true) 14 ≡ true
all_heights_read = refl

height_back : (height : ℕ) → IsHeight height → height_read (height_letter height) ≡ Some height
height_back height is =
    answers-true (height_read (height_letter height)) height
    (agree_below_at (λ height. answers (height_read (height_letter height)) height) (λ _. true) 14 height all_heights_read (omega arith))

same_height : (height other : ℕ) → IsHeight height → IsHeight other → height_letter height ≡ height_letter other → height ≡ other
same_height height other is is' e = same_Some height other (sym (height_back height is) ∙ ap height_read e ∙ height_back other is')

-- a text begins with one line of foundations
pub same_heights : (heights others rest later : List ℕ) → length heights ≡ 4 → length others ≡ 4 → All IsHeight heights → All IsHeight others
    → foundations_line heights ++ rest ≡ foundations_line others ++ later → (heights ≡ others) × (rest ≡ later)
same_heights heights others rest later four four' are are' e = (
  four_items heights four
      ∙ (λ i. height 0 19 (omega arith) (ap (λ text. get_or text 19 0) e) i ∷ height 1 23 (omega arith) (ap (λ text. get_or text 23 0) e) i
      ∷ height 2 15 (omega arith) (ap (λ text. get_or text 15 0) e) i ∷ height 3 27 (omega arith) (ap (λ text. get_or text 27 0) e) i ∷ [])
      ∙ sym (four_items others four'),
  ap (drop 29) e,
)
  where
    height : (suit place : ℕ) → suit ≤ 3 → height_letter (slice_index heights suit) ≡ height_letter (slice_index others suit)
        → get_or heights suit 0 ≡ get_or others suit 0
    height suit place within same =
        same_height (slice_index heights suit) (slice_index others suit)
        (All-get_or IsHeight heights suit 0 (omega (arith, four)) are) (All-get_or IsHeight others suit 0 (omega (arith, four')) are') same

-- the letter at this place of the text is that of no other height
abbrev pub Guesses : List ℕ → ℕ → Option ℕ → Type 0
Guesses text place found = (height : ℕ) → IsHeight height → get_or text place 0 ≡ height_letter height → found ≡ Some height

-- the heights of a printed line are those that its letters name
pub guessed_heights : (text heights rest : List ℕ) (clubs diamonds hearts spades : ℕ) → length heights ≡ 4 → All IsHeight heights
    → text ≡ foundations_line heights ++ rest
    → Guesses text 19 (Some clubs) → Guesses text 23 (Some diamonds) → Guesses text 15 (Some hearts) → Guesses text 27 (Some spades)
    → text ≡ foundations_line (clubs ∷ diamonds ∷ hearts ∷ spades ∷ []) ++ rest
guessed_heights text heights rest clubs diamonds hearts spades four are is one two three last =
    is ∙ ap (λ heights. foundations_line heights ++ rest)
    (four_items heights four ∙ sym (λ i. guess 0 clubs 19 (omega arith) one refl i ∷ guess 1 diamonds 23 (omega arith) two refl i
    ∷ guess 2 hearts 15 (omega arith) three refl i ∷ guess 3 spades 27 (omega arith) last refl i ∷ []))
  where
    guess : (suit height place : ℕ) → suit < 4 → Guesses text place (Some height)
        → get_or (foundations_line heights ++ rest) place 0 ≡ height_letter (slice_index heights suit) → height ≡ get_or heights suit 0
    guess suit height place within ensured letter =
        same_Some height (slice_index heights suit)
        (ensured (slice_index heights suit) (All-get_or IsHeight heights suit 0 (omega (arith, four)) are) (ap (λ text. get_or text place 0) is ∙ letter))

-- ---- cells
one_cell : (cell other : Option ℕ) (rest later : List ℕ) → IsCell cell → IsCell other → cell_word cell ++ rest ≡ cell_word other ++ later
    → (cell ≡ other) × (rest ≡ later)
one_cell None None rest later is is' e = (refl, ap (drop 2) e)
one_cell None (Some card) rest later is is' e = absurd (no_dash card is' (sym (ap (λ text. get_or text 1 0) e)))
one_cell (Some card) None rest later is is' e = absurd (no_dash card is (ap (λ text. get_or text 1 0) e))
one_cell (Some card) (Some other) rest later is is' e = (ap Some (same_card_text card other is is' (ap (λ text. take 2 (drop 1 text)) e)), ap (drop 3) e)

-- a text that begins with these cells, and with others, which are as many or more: they are the first of the others
pub first_cells : (cells others : List (Option ℕ)) (rest later : List ℕ) → length cells ≤ length others → All IsCell cells → All IsCell others
    → flat_map cell_word cells ++ rest ≡ flat_map cell_word others ++ later
    → (cells ≡ take (length cells) others) × (rest ≡ flat_map cell_word (drop (length cells) others) ++ later)
first_cells [] others rest later few are are' e = (refl, e)
first_cells (cell ∷ cells) [] rest later few are are' e = absurd (omega arith)
first_cells (cell ∷ cells) (other ∷ others) rest later few are are' e =
    let words = flat_map cell_word cells in
    let words' = flat_map cell_word others in
    let first = one_cell cell other (words ++ rest) (words' ++ later) (All-head IsCell cell cells are) (All-head IsCell other others are')
    (sym (append_assoc (cell_word cell) words rest) ∙ e ∙ append_assoc (cell_word other) words' later) in
    let more = first_cells cells others rest later (omega arith) (All-tail IsCell cell cells are) (All-tail IsCell other others are') first.1 in
    (ap₂ (λ cell cells. cell ∷ cells) first.0 more.0, more.1)

-- a line of cells, of which the first are taken
module _ (text : List ℕ) (taken others : List (Option ℕ)) (left rest : List ℕ) (few : length taken ≤ length others) (are : All IsCell taken) (are' : All IsCell others)
    (begins : text ≡ flat_map cell_word taken ++ left) (line : text ≡ flat_map cell_word others ++ line_feed ∷ rest) where
  left_cells : left ≡ flat_map cell_word (drop (length taken) others) ++ line_feed ∷ rest
  left_cells = (first_cells taken others left (line_feed ∷ rest) few are are' (sym begins ∙ line)).1

  -- where there is one more it is the next one
  pub next_cell : length taken < length others → (cell : Option ℕ) × (later : List ℕ) × IsCell cell × (left ≡ cell_word cell ++ later)
  next_cell more =
      let at = length taken in
      let cell = get_or others at None in
      let words = flat_map cell_word (drop (at + 1) others) in (
        cell,
        words ++ line_feed ∷ rest,
        All-get_or IsCell others at None more are',
        left_cells ∙ ap (λ cells. flat_map cell_word cells ++ line_feed ∷ rest) (drop_more others at None more)
            ∙ append_assoc (cell_word cell) words (line_feed ∷ rest),
      )

  -- and where there is none the line ends
  pub no_more_cells : length taken ≡ length others → left ≡ line_feed ∷ rest
  no_more_cells all = left_cells ∙ ap (λ cells. flat_map cell_word cells ++ line_feed ∷ rest) (drop_all (length taken) others (omega arith))

-- ---- columns
-- the cards that are before a line feed are the first of those that fill the line
pub first_cards : (cards others rest later : List ℕ) → flat_map card_word cards ++ rest ≡ flat_map card_word others ++ line_feed ∷ later
    → rest ≡ flat_map card_word (drop (length cards) others) ++ line_feed ∷ later
first_cards [] others rest later e = e
first_cards (card ∷ cards) [] rest later e = absurd (cc)
first_cards (card ∷ cards) (other ∷ others) rest later e = first_cards cards others rest later (ap (drop 3) e)

-- where a word follows it is a card's, and its two letters are there
pub next_card : (more left rest : List ℕ) → All IsCard more → left ≡ flat_map card_word more ++ line_feed ∷ rest → get_or left 0 0 ≡ blank
    → (card : ℕ) × IsCard card × (card_text card ≡ get_or left 1 0 ∷ get_or left 2 0 ∷ [])
next_card [] left rest are is first = let end : get_or left 0 0 ≡ line_feed = ap (λ text. get_or text 0 0) is in absurd (cc)
next_card (card ∷ more) left rest are is first = (card, All-head IsCard card more are, sym (ap (λ text. get_or text 1 0 ∷ get_or text 2 0 ∷ []) is))

-- where none follows the line ends
pub no_more_cards : (more left rest : List ℕ) → left ≡ flat_map card_word more ++ line_feed ∷ rest → ¬ (get_or left 0 0 ≡ blank)
    → get_or left 0 0 ≡ line_feed
no_more_cards [] left rest is none = ap (λ text. get_or text 0 0) is
no_more_cards (card ∷ more) left rest is none = absurd (none (ap (λ text. get_or text 0 0) is))

line_of_cards : (cards others rest later : List ℕ) → All IsCard cards → All IsCard others
    → flat_map card_word cards ++ line_feed ∷ rest ≡ flat_map card_word others ++ line_feed ∷ later → (cards ≡ others) × (rest ≡ later)
line_of_cards [] [] rest later are are' e = (refl, ap (drop 1) e)
line_of_cards [] (other ∷ others) rest later are are' e = absurd (cc)
line_of_cards (card ∷ cards) [] rest later are are' e = absurd (cc)
line_of_cards (card ∷ cards) (other ∷ others) rest later are are' e =
    let first = same_card_text card other (All-head IsCard card cards are) (All-head IsCard other others are') (ap (λ text. take 2 (drop 1 text)) e) in
    let more = line_of_cards cards others rest later (All-tail IsCard card cards are) (All-tail IsCard other others are') (ap (drop 3) e) in
    (ap₂ (λ card cards. card ∷ cards) first more.0, more.1)

-- the line of a column before other text
pub line_before : (column rest : List ℕ) → column_line column ++ rest ≡ colon ∷ (flat_map card_word column ++ line_feed ∷ rest)
line_before column rest = ap (λ line. colon ∷ line) (append_assoc (flat_map card_word column) (line_feed ∷ []) rest)

one_column : (column other rest later : List ℕ) → All IsCard column → All IsCard other → column_line column ++ rest ≡ column_line other ++ later
    → (column ≡ other) × (rest ≡ later)
one_column column other rest later are are' e =
    line_of_cards column other rest later are are' (ap (drop 1) (sym (line_before column rest) ∙ e ∙ line_before other later))

-- a text that begins with these columns, and with others, which are as many or more: they are the first of the others
pub first_columns : (columns others : List (List ℕ)) (rest later : List ℕ) → length columns ≤ length others → All (All IsCard) columns
    → All (All IsCard) others
    → flat_map column_line columns ++ rest ≡ flat_map column_line others ++ later
    → (columns ≡ take (length columns) others) × (rest ≡ flat_map column_line (drop (length columns) others) ++ later)
first_columns [] others rest later few are are' e = (refl, e)
first_columns (column ∷ columns) [] rest later few are are' e = absurd (omega arith)
first_columns (column ∷ columns) (other ∷ others) rest later few are are' e =
    let lines = flat_map column_line columns in
    let lines' = flat_map column_line others in
    let first = one_column column other (lines ++ rest) (lines' ++ later) (All-head (All IsCard) column columns are) (All-head (All IsCard) other others are')
    (sym (append_assoc (column_line column) lines rest) ∙ e ∙ append_assoc (column_line other) lines' later) in
    let more = first_columns columns others rest later (omega arith) (All-tail (All IsCard) column columns are) (All-tail (All IsCard) other others are') first.1 in
    (ap₂ (λ column columns. column ∷ columns) first.0 more.0, more.1)

-- columns of which the first are taken
module _ (text : List ℕ) (taken others : List (List ℕ)) (left rest : List ℕ) (more : length taken < length others) (are : All (All IsCard) taken) (are' : All (All IsCard) others)
    (begins : text ≡ flat_map column_line taken ++ left) (lines : text ≡ flat_map column_line others ++ rest) where
  all_first : (taken ≡ take (length taken) others) × (left ≡ flat_map column_line (drop (length taken) others) ++ rest)
  all_first = first_columns taken others left rest (omega arith) are are' (sym begins ∙ lines)

  -- the next column, and what its cards are together with those before
  pub next_column : (column : List ℕ) × (later : List ℕ) × All IsCard column × (left ≡ column_line column ++ later) × (size_of taken + length column ≤ size_of others)
  next_column =
      let at = length taken in
      let column = get_or others at [] in
      let columns = drop (at + 1) others in
      let there = drop_more others at [] more in (
        column,
        flat_map column_line columns ++ rest,
        All-get_or (All IsCard) others at [] more are',
        all_first.1 ∙ ap (λ columns. flat_map column_line columns ++ rest) there ∙ append_assoc (column_line column) (flat_map column_line columns) rest,
        room (take at others) column columns (sym all_first.0) (sym (take-append-drop at others) ∙ ap (λ later. take at others ++ later) there),
      )
    where
      room : (front : List (List ℕ)) (column : List ℕ) (columns : List (List ℕ)) → front ≡ taken → others ≡ front ++ column ∷ columns
          → size_of taken + length column ≤ size_of others
      room front column columns same is =
          let all : size_of others ≡ size_of front + size_of (column ∷ columns) =
          ap size_of is ∙ ap length (flat_map-append (λ column. column) front (column ∷ columns)) ∙ length-append (flat_map (λ column. column) front) (column ++ flat_map (λ column. column) columns) in
          let first = length-append column (flat_map (λ column. column) columns) in
          let size = ap size_of same in
          omega arith

-- a line has two bytes, and three for each card
pub length_lines : (columns : List (List ℕ)) → length (flat_map column_line columns) ≡ 2 * length columns + 3 * size_of columns
length_lines [] = refl
length_lines (column ∷ columns) =
    let more = length_lines columns in
    let words = length-card_words column in
    let line = length-append (flat_map card_word column) (line_feed ∷ []) in
    let lines = length-append (column_line column) (flat_map column_line columns) in
    let size = length-append column (flat_map (λ column. column) columns) in
    omega arith

-- ---- boards
-- what is in the printed text of a board can be read back
pub record HasPiles (count : ℕ) (board : Board) : Type 0 where
  pub four : length board.heights ≡ 4
  pub heights : All IsHeight board.heights
  pub all_cells : length board.cells ≡ count
  pub cells : All IsCell board.cells
  pub eight : length board.columns ≡ 8
  pub cards : All (All IsCard) board.columns

pub piles_of : (game : Game) (board : Board) → IsWellFormed game board → HasPiles game.cells board
piles_of game board well = record {
  four = well.piles.four_foundations;
  heights = well.heights;
  all_cells = well.piles.all_cells;
  cells = in_cells game board well;
  eight = well.piles.eight_columns;
  cards = in_columns game board well;
}

pub same_cells : (cells others : List (Option ℕ)) (rest later : List ℕ) → length cells ≡ length others → All IsCell cells → All IsCell others
    → cells_line cells ++ rest ≡ cells_line others ++ later → (cells ≡ others) × (rest ≡ later)
same_cells cells others rest later long are are' e =
    let words = first_cells cells others (line_feed ∷ rest) (line_feed ∷ later) (omega arith) are are'
    (sym (append_assoc (flat_map cell_word cells) (line_feed ∷ []) rest) ∙ ap (drop 10) e ∙ append_assoc (flat_map cell_word others) (line_feed ∷ []) later) in
    let none = drop_all (length cells) others (omega arith) in
    (words.0 ∙ take_all (length cells) others (omega arith), ap (drop 1) (words.1 ∙ ap (λ cells. flat_map cell_word cells ++ line_feed ∷ later) none))

pub same_columns : (columns others : List (List ℕ)) (rest later : List ℕ) → length columns ≡ length others → All (All IsCard) columns
    → All (All IsCard) others
    → flat_map column_line columns ++ rest ≡ flat_map column_line others ++ later → (columns ≡ others) × (rest ≡ later)
same_columns columns others rest later long are are' e =
    let lines = first_columns columns others rest later (omega arith) are are' e in
    let none = drop_all (length columns) others (omega arith) in
    (lines.0 ∙ take_all (length columns) others (omega arith), lines.1 ∙ ap (λ columns. flat_map column_line columns ++ later) none)

-- a text begins with the printed text of one board at most
pub one_board : (count : ℕ) (board other : Board) (rest later : List ℕ) → HasPiles count board → HasPiles count other
    → text_of board ++ rest ≡ text_of other ++ later
    → (board ≡ other) × (rest ≡ later)
one_board count board other rest later has has' e =
    let heights = same_heights board.heights other.heights _ _ has.four has'.four has.heights has'.heights (sym (text_before board rest) ∙ e ∙ text_before other later) in
    let cells = same_cells board.cells other.cells _ _ (has.all_cells ∙ sym has'.all_cells) has.cells has'.cells heights.1 in
    let columns = same_columns board.columns other.columns rest later (has.eight ∙ sym has'.eight) has.cards has'.cards cells.1 in
    ((λ i. record { heights = heights.0 i; cells = cells.0 i; columns = columns.0 i }), columns.1)

-- what is after the heights and the cells of a board's text
pub columns_after : (count : ℕ) (board : Board) (heights : List ℕ) (cells : List (Option ℕ)) (left rest : List ℕ) → HasPiles count board
    → length heights ≡ 4 → All IsHeight heights → length cells ≡ count → All IsCell cells
    → foundations_line heights ++ (cells_line cells ++ left) ≡ text_of board ++ rest
    → (heights ≡ board.heights) × (cells ≡ board.cells) × (left ≡ flat_map column_line board.columns ++ rest)
columns_after count board heights cells left rest has four within all in_deck e =
    let first = same_heights heights board.heights _ _ four has.four within has.heights (e ∙ text_before board rest) in
    let next = same_cells cells board.cells _ _ (all ∙ sym has.all_cells) in_deck has.cells first.1 in
    (first.0, next.0, next.1)
