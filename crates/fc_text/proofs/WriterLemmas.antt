-- Lemmas on texts that a loop prints, one element of a list after another.
use Rattle.std.proofs.Common.{◌*◌, ◌++◌, ◌+◌, ◌<◌, ◌∙◌, ◌∷◌, ◌≡◌, ◌≤◌, [], ap, append-nil, append_assoc, ap₂, arith}
use Rattle.std.proofs.Common.{Bool, drop, get_or, length, length-append, List, None, Option, Some, sym, take, ℕ}
use Rattle.std.proofs.lemmas.List.{drop_more, flat_map_more, length-take-le, take-take, take_all, take_more}
use Rattle.std.{proofs.Math.{ListN.{drop_of_length-le}, Seq.{take-append-add}}, specs.List.{flat_map}}
use Rattle.std.specs.{Option.{option_to_list}, Prelude.{codes}}
use Rattle.fc_board.{proofs.BoardLemmas.{columns_together}, specs.Boards.{Board, IsWellFormed}}
use Rattle.fc_board.specs.Games.{Game, RuleLaws}
use Rattle.fc_text.{proofs.TextLemmas.{length-by_piles, length-column_line}, specs.Bytes.{blank, line_feed}}
use Rattle.fc_text.specs.Printed.{card_word, cell_word, cells_line, column_line, foundations_line, text_of}
use Rattle.fc_text.specs.writer.{IsPrintable}

-- what is printed next fits into the whole
pub length-printed_next : {X : Type 0} (f : X → List ℕ) (xs : List X) (i : ℕ) (d : X) (old whole : List ℕ) → i < length xs
    → old ++ flat_map f (drop i xs) ≡ whole → length old + length (f (get_or xs i d)) ≤ length whole
length-printed_next f xs i d old whole within before =
    let next : flat_map f (drop i xs) ≡ f (get_or xs i d) ++ flat_map f (drop (i + 1) xs) = ap (flat_map f) (drop_more xs i d within) in
    let all : length old + (length (f (get_or xs i d)) + length (flat_map f (drop (i + 1) xs))) ≡ length whole =
    ap (λ n. length old + n) (sym (ap length next ∙ length-append (f (get_or xs i d)) (flat_map f (drop (i + 1) xs))))
    ∙ sym (length-append old (flat_map f (drop i xs))) ∙ ap length before in
    omega arith

-- ---- cards
-- ---- what the writers of boards have printed, and what is still to come

-- the word of a card without the blank that was put after it
pub without_blank : (old new : List ℕ) (start end card : ℕ) → start ≤ length old → end ≡ start + 4 → take end new ≡ take start old ++ (card_word card ++ blank ∷ [])
    → take (start + 3) new ≡ take start old ++ card_word card
without_blank old new start end card within is printed =
    sym (take-take (start + 3) end new (omega arith)) ∙ ap (take (start + 3)) printed
    ∙ ap (λ n. take (n + 3) (take start old ++ (card_word card ++ blank ∷ []))) (sym (length-take-le start old within))
    ∙ take-append-add (take start old) (card_word card ++ blank ∷ []) 3

-- ---- cells
-- the first cells are printed after the front, which ends at the start
pub record ArePrinted (front bytes : List ℕ) (start end : ℕ) (cells : List (Option ℕ)) (index : ℕ) : Type 0 where
  pub text : take end bytes ≡ (front ++ codes "Freecells:") ++ flat_map cell_word (take index cells)
  pub room : end ≤ start + 10 + 3 * index
  pub size : length bytes ≡ 256

-- one cell more
pub ArePrinted-next : (front bytes next : List ℕ) (start end stop : ℕ) (cells : List (Option ℕ)) (index : ℕ) (cell : Option ℕ) → index < length cells → cell ≡ get_or cells index None
    → take stop next ≡ take end bytes ++ cell_word cell → stop ≤ end + 3 → length next ≡ 256 → ArePrinted front bytes start end cells index → ArePrinted front next start stop cells (index + 1)
ArePrinted-next front bytes next start end stop cells index cell inside is gains stops size are = record {
  text = gains ∙ ap₂ (λ text cell. text ++ cell_word cell) are.text is ∙ flat_map_more cell_word (front ++ codes "Freecells:") (take index cells) (get_or cells index None) ∙
      ap (λ cells. (front ++ codes "Freecells:") ++ flat_map cell_word cells) (sym (take_more cells index None inside));
  room = omega (arith, are.room, stops);
  size = size;
}

-- the line is the front of all cells and a line feed
pub whole_line : (front : List ℕ) (cells : List (Option ℕ)) (index : ℕ) (old new : List ℕ) → length cells ≤ index
    → old ≡ (front ++ codes "Freecells:") ++ flat_map cell_word (take index cells) → new ≡ old ++ line_feed ∷ [] → new ≡ front ++ cells_line cells
whole_line front cells index old new all before gains =
    gains ∙ ap (λ text. text ++ line_feed ∷ []) (before ∙ ap (λ ys. (front ++ codes "Freecells:") ++ flat_map cell_word ys) (take_all index cells all))
    ∙ ap (λ text. text ++ line_feed ∷ []) (append_assoc front (codes "Freecells:") (flat_map cell_word cells))
    ∙ append_assoc front (codes "Freecells:" ++ flat_map cell_word cells) (line_feed ∷ [])

-- ---- columns
-- the columns from the index on are still to print, and there are eight
pub record AwaitsColumns (board : Board) (printed : List ℕ) (index : ℕ) : Type 0 where
  pub text : printed ++ flat_map column_line (drop index board.columns) ≡ text_of board
  pub eight : 0 < index → length board.columns ≡ 8

-- the bytes before the end await the columns from the index on
pub record AreAwaiting (board : Board) (bytes : List ℕ) (end index : ℕ) : Type 0 where
  pub awaits : AwaitsColumns board (take end bytes) index
  pub within : end ≤ 256
  pub size : length bytes ≡ 256

-- a cell has one card at most
few_held : (cells : List (Option ℕ)) → length (flat_map option_to_list cells) ≤ length cells
few_held [] = omega arith
few_held (None ∷ cells) = let rest = few_held cells in omega arith
few_held (Some card ∷ cells) = let rest = few_held cells in omega arith

length-printable : (board : Board) → IsPrintable board → length (text_of board) ≤ 256
length-printable board is = omega (arith, length-by_piles board, few_held board.cells, is.few_cells, is.eight_columns, is.few_cards)

pub printable : (game : Game) (board : Board) → game.cells ≤ 8 → IsWellFormed game board → IsPrintable board
printable game board few well = record {
  few_cells = omega (arith, few, well.piles.all_cells);
  eight_columns = well.piles.eight_columns;
  few_cards = columns_together game board well;
}

-- the next column has room, since the whole text has
has_room : (board : Board) (printed : List ℕ) (index : ℕ) → AwaitsColumns board printed index → IsPrintable board → index < 8
    → (column : List ℕ) → column ≡ get_or board.columns index [] → length printed + 3 * length column + 2 ≤ 256
has_room board printed index awaits is within column here =
    let inside : index < length board.columns = omega (arith, is.eight_columns) in
    let fits = length-printed_next column_line board.columns index [] printed (text_of board) inside awaits.text in
    let line = length-column_line (get_or board.columns index []) in
    let whole = length-printable board is in
    let same = ap length here in
    omega arith

pub few_cells : {game : Game} {renamings : List (List ℕ)} {cells count : ℕ} {kings_only : Bool} → RuleLaws game renamings cells count kings_only → game.cells ≤ 8
few_cells laws = omega (arith, laws.cells_are, laws.at_most_eight)

pub room_after : (board : Board) (bytes : List ℕ) (end index : ℕ) → AreAwaiting board bytes end index → IsPrintable board → index < 8
    → (column : List ℕ) → column ≡ get_or board.columns index [] → end + 3 * length column + 2 ≤ 256
room_after board bytes end index are is within column here =
    let room = has_room board (take end bytes) index are.awaits is within column here in
    let size = length-take-le end bytes (omega (arith, are.within, are.size)) in
    omega (arith, room, size)

-- the columns come after the lines of the foundations and the cells
pub AreAwaiting-none : (board : Board) (first next : List ℕ) (end stop : ℕ) → take end first ≡ foundations_line board.heights → take stop next ≡ take end first ++ cells_line board.cells → stop ≤ 256
    → length next ≡ 256 → AreAwaiting board next stop 0
AreAwaiting-none board first next end stop heights cells within size = record {
  awaits = record {
    text = ap (λ front. front ++ flat_map column_line board.columns) (cells ∙ ap (λ front. front ++ cells_line board.cells) heights) ∙
        append_assoc (foundations_line board.heights) (cells_line board.cells) (flat_map column_line board.columns);
    eight = λ some. absurd (omega (arith, some));
  };
  within = within;
  size = size;
}

-- one column more
pub AwaitsColumns-next : (board : Board) (printed next : List ℕ) (index : ℕ) → index < 8 → length board.columns ≡ 8 → next ≡ printed ++ column_line (get_or board.columns index []) →
    AwaitsColumns board printed index → AwaitsColumns board next (index + 1)
AwaitsColumns-next board printed next index inside eight gains awaits = record {
  text = ap (λ front. front ++ flat_map column_line (drop (index + 1) board.columns)) gains ∙
      append_assoc printed (column_line (get_or board.columns index [])) (flat_map column_line (drop (index + 1) board.columns)) ∙
      ap (λ columns. printed ++ flat_map column_line columns) (sym (drop_more board.columns index [] (omega (arith, inside, eight)))) ∙ awaits.text;
  eight = λ _. eight;
}

pub AreAwaiting-next : (board : Board) (bytes next : List ℕ) (end index stop : ℕ) (column : List ℕ) → IsPrintable board → index < 8
    → column ≡ get_or board.columns index [] → take stop next ≡ take end bytes ++ column_line column → stop ≡ end + 3 * length column + 2 → length next ≡ 256
    → AreAwaiting board bytes end index → AreAwaiting board next stop (index + 1)
AreAwaiting-next board bytes next end index stop column is inside here gains stops size are = record {
  awaits = AwaitsColumns-next board (take end bytes) (take stop next) index inside is.eight_columns (gains ∙ ap (λ column. take end bytes ++ column_line column) here) are.awaits;
  within = let room = room_after board bytes end index are is inside column here in omega (arith, room, stops);
  size = size;
}

-- all columns are printed at the end
pub all_printed : (board : Board) (printed : List ℕ) (index : ℕ) → AwaitsColumns board printed index → length board.columns ≤ index → printed ≡ text_of board
all_printed board printed index awaits all =
    sym (append-nil printed) ∙ ap (λ columns. printed ++ flat_map column_line columns) (sym (drop_of_length-le board.columns all)) ∙ awaits.text
