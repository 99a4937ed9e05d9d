-- The words of a line, and the cards and moves that they name: said once, for what is promised of lines and for the scanner that reads them.
use Rattle.std.specs.Char.{is_ascii_alphabetic, is_ascii_alphanumeric, is_ascii_digit}
use Rattle.std.specs.Char.{is_ascii_lowercase}
use Rattle.std.specs.List.{before_first, flat_map, fold, list_all, list_any, prefix_len}
use Rattle.std.specs.{Option.{is_none, is_some, option_or, option_to_list}, Prelude.{◌&&◌, ◌*◌}}
use Rattle.std.specs.Prelude.{◌++◌, ◌+◌, ◌-◌, ◌<◌, ◌==◌, ◌||◌, ◌∷◌, ◌≡◌, ◌≤◌, ◌⊎◌, [], Bool, codes}
use Rattle.std.specs.Prelude.{count_by, drop, false, if◌then◌else◌, length, List, map, min, nat_le}
use Rattle.std.specs.Prelude.{nat_lt, None, not, Option, slice_index, slice_index_or, Some, take}
use Rattle.std.specs.{Prelude.{true, ℕ}, Str.{bytes_eq, str_to_ascii_lowercase}}
use Rattle.{fc_board.specs.Games.{Game}, fc_card.specs.Types.{Card, Text}}
use Rattle.fc_text.specs.Bytes.{blank, colon, dash, is_gap, number_sign}
use Rattle.fc_text.specs.Lines.{Piece, with_end, words_from}
use Rattle.fc_text.specs.Notation.{cell_letters, column_digits, count_letter, home_letter}
use Rattle.fc_text.specs.{reader.{run_named}, Spelling.{card_spelled}}
use Rattle.fc_record.specs.{Grammar.{begins_with}, RecordTexts.{header_mark}}
use Rattle.fc_import.specs.Names.{is_among, is_pile_name}

-- -------- The words of a line: letters and digits together. From: how sites, books and solvers write boards and moves.

-- a byte of ASCII that is no letter and no digit
abbrev pub parts_words : ℕ → Bool
parts_words byte = not (is_ascii_alphanumeric byte || nat_le 128 byte)

-- the line before a comment, which the first number sign begins, but before a digit, as in `Column #1`
abbrev pub uncommented : Text → Text
uncommented [] = []
uncommented (byte ∷ rest) =
    let front = before_first (λ byte. byte == number_sign) (byte ∷ rest) in
    if is_ascii_digit (slice_index rest (length front)) then byte ∷ rest else front

-- each with the place of its end
abbrev pub words_of : Text → List (Piece × ℕ)
words_of line = map with_end (words_from parts_words 0 (uncommented line))

-- -------- The cards that they name. From: how sites, books and solvers write them.

-- a word names a card as a board's text spells it, or with its suit first
abbrev pub named_card : Text → Option Card
named_card word = option_or (card_spelled word) (card_spelled (drop 1 word ++ take 1 word))

abbrev pub cards_in : Text → List Card
cards_in line = flat_map (λ word. option_to_list (named_card word.0.bytes)) (words_of line)

-- a header names none
abbrev pub named_cards : Text → List Card
named_cards line = if begins_with header_mark line then [] else cards_in line

-- -------- The moves that they name: `2a`, `23v2`, `2->6`, `5 to a`, with numbers and labels before them, as `12. 2a` and `Solution: 2a`. From: standard FreeCell move notation, and how sites and programs write it.

-- what words name so far: the moves, each after a blank; the pile that a move is from whose target comes next, and its arrow; whether each word is of a move; how sure it is that one is: not by digits or letters alone (0), by one that is a card too (1), or else (2); and whether a sure one came before any other word
pub record Said : Type 0 where
  pub moves : Text
  pub from : Option ℕ
  pub arrow : ℕ
  pub all : Bool
  pub sure : ℕ
  pub led : Bool

abbrev pub nothing_said : Said
nothing_said = record { moves = []; from = None; arrow = 0; all = true; sure = 0; led = false }

-- the arrow that comes next: `>` for one with a point, as `->` and `=>`, a dash, `=`, or the `t` of `to` and a blank; else 0
abbrev pub arrow_of : (next : Text) → ℕ
arrow_of next =
    let mark = slice_index next 0 in
    if mark == dash || mark == 0x3D then (if slice_index next 1 == 0x3E then 0x3E else mark)
    else if mark == 0x3E || bytes_eq (take 3 next) (codes "to ") then mark else 0

-- a point, or `to`
abbrev pub is_going : (arrow : ℕ) → Bool
is_going arrow = arrow == 0x3E || arrow == 0x74

abbrev pub is_number : Text → Bool
is_number word = list_all is_ascii_digit word

-- what a solution may be called, before a colon
abbrev pub solution_names : List Text
solution_names = codes "solution" ∷ codes "moves" ∷ codes "move" ∷ []

-- a number, or a name of a solution, with a colon after it; or a number with a dot or a bracket
abbrev pub is_label : (word after : Text) → Bool
is_label word after =
    let mark = slice_index after 0 in
    if is_number word then mark == colon || mark == 0x2E || mark == 0x29
    else mark == colon && is_among word solution_names

-- a digit and a letter
abbrev pub is_sure : Text → Bool
is_sure word = not (is_number word) && not (list_all is_ascii_alphabetic word)

-- how sure a word is a move
abbrev pub sureness : Text → ℕ
sureness word = if not (is_sure word) then 0 else if is_some (named_card word) then 1 else 2

-- the move is the next one
abbrev pub with_move : Said → (word : Text) → (sure : ℕ) → Said
with_move said word sure = record {
  moves = said.moves ++ (blank ∷ str_to_ascii_lowercase word);
  from = None;
  arrow = 0;
  all = said.all;
  sure = min 2 (said.sure + sure);
  led = said.led || (nat_lt 0 sure && said.all);
}

-- moves that are not parted, as `3a3b5c`
abbrev pub is_glued : Game → Text → Bool
is_glued game word = nat_le 4 (length word) && is_sure (take 2 word) && is_some (run_named game (take 2 word)) && is_some (run_named game (take 2 (drop 2 word)))

-- a card in capitals
abbrev pub is_capital_card : Text → Bool
is_capital_card word = is_some (named_card word) && not (list_any is_ascii_lowercase word)

-- one that goes somewhere, as `KC to a`
abbrev pub is_card_move : (word next : Text) → Bool
is_card_move word next = is_capital_card word && is_going (arrow_of next)

-- each two letters are a card
abbrev pub are_cards : Text → Bool
are_cards [] = true
are_cards (rank ∷ suit ∷ letters) = is_some (named_card (rank ∷ suit ∷ [])) && are_cards letters
are_cards letters = false

-- three cards or more that are not parted, as `JDKD2S`
abbrev pub are_glued : Text → Bool
are_glued word = nat_le 6 (length word) && are_cards word

-- a move, or cards, in a form that is not read
abbrev pub is_unread : Game → (word next : Text) → Bool
is_unread game word next = is_some (run_named game word) || is_glued game word || is_card_move word next || are_glued word

-- the next word is of no move, or of one in a form that is not read
abbrev pub with_other : Said → (unread : Bool) → Said
with_other said unread = record said { from = None; arrow = 0; all = false; led = said.led || unread }

-- a word where no target comes next
abbrev pub after_first : Game → Said → (word next : Text) → Said
after_first game said word next =
    if is_some (run_named game word) && not (arrow_of next == 0x3E) && not (is_card_move word next) then with_move said word (sureness word)
    else if length word == 1 && not (arrow_of next == 0) then record said { from = Some (slice_index word 0); arrow = arrow_of next }
    else with_other said (is_unread game word next)

-- the letters of a pile and of the target after an arrow: after a point or `to` they are no card
abbrev pub after_letters : Game → Said → (letters : Text) → Said
after_letters game said letters =
    let is_told = said.arrow == 0x3E || (said.arrow == 0x74 && is_sure letters) in
    if is_some (run_named game letters) then with_move said letters (if is_told then 2 else sureness letters) else with_other said false

-- the word begins a target that is not read: the name of a pile or, where a digit and `to` or an arrow with a point come before it, any but a number, as in `3 to the cell`
abbrev pub is_target : (from arrow : ℕ) → (word : Text) → Bool
is_target from arrow word =
    is_pile_name word || (is_ascii_digit from && is_going arrow && not (is_number word))

-- a word where the target of a move from this pile comes next: no other target may come after it
abbrev pub after_arrow : Game → Said → (from : ℕ) → (word next : Text) → Said
after_arrow game said from word next =
    if bytes_eq word (codes "to") then said
    else if length word == 1 && not (is_going (arrow_of next)) then after_letters game said (from ∷ word)
    else with_other said (length word == 1 || is_target from said.arrow word)

abbrev pub after_next : Game → Said → Option ℕ → (word next : Text) → Said
after_next game said None word next = after_first game said word next
after_next game said (Some from) word next = after_arrow game said from word next

-- where dots come next, moves are left out
abbrev pub before_dots : Said → (next : Text) → Said
before_dots said next = if bytes_eq (take 3 next) (codes "...") then with_other said false else said

abbrev pub after_word : Game → (text : Text) → Said → Piece × ℕ → Said
after_word game text said word =
    let after = drop word.1 text in
    let next = drop (prefix_len is_gap after) after in
    if is_label word.0.bytes after && is_none said.from then said else before_dots (after_next game said said.from word.0.bytes next) next

-- -------- The move that a line of Freecell Solver's says, as `Move 2 cards from stack 0 to stack 5`. From: what `fc-solve -m` prints.

-- the column of `stack 0`, the cell of `freecell 0`, and `the foundations`
abbrev pub pile_said : (kind number : Text) → ℕ
pile_said kind number =
    let place = slice_index number 0 - 0x30 in
    if bytes_eq kind (codes "stack") then slice_index_or column_digits place 0x3F
    else if bytes_eq kind (codes "freecell") then slice_index_or cell_letters place 0x3F
    else if bytes_eq kind (codes "the") then home_letter
    else 0x3F

-- the number of cards, where it is said to be 2 to 9
abbrev pub count_said : Text → Option ℕ
count_said (digit ∷ []) = if nat_le 0x32 digit && nat_le digit 0x39 then Some digit else None
count_said _ = None

abbrev pub move_said : (count from_kind from_number to_kind to_number : Text) → Text
move_said count from_kind from_number to_kind to_number =
    let source = pile_said from_kind from_number in
    let target = pile_said to_kind to_number in
    source ∷ target ∷ (if is_ascii_digit source && is_ascii_digit target then flat_map (λ digit. count_letter ∷ digit ∷ []) (option_to_list (count_said count)) else [])

abbrev pub word_at : List (Piece × ℕ) → ℕ → Text
word_at words place = slice_index_or (map (λ word. word.0.bytes) words) place []

-- `Move`, a number and `cards`, `from` and a pile, `to` and a pile
abbrev pub is_said : List (Piece × ℕ) → Bool
is_said words =
    bytes_eq (word_at words 0) (codes "Move") && bytes_eq (word_at words 3) (codes "from") && bytes_eq (word_at words 6) (codes "to") && length words == 9

-- the word, after a blank, if it is a move
abbrev pub if_move : Game → Text → Text
if_move game word = if is_some (run_named game word) then blank ∷ word else []

abbrev pub solver_said : Game → List (Piece × ℕ) → Text
solver_said game words =
    if is_said words then if_move game (move_said (word_at words 1) (word_at words 4) (word_at words 5) (word_at words 7) (word_at words 8)) else []

-- -------- All that a line says of moves. From: this project's profile.

abbrev pub said_in : Game → Text → Said
said_in game line =
    let solver = solver_said game (words_of line) in
    if length solver == 0 then fold (after_word game (uncommented line)) nothing_said (words_of line)
    else record nothing_said { moves = solver; sure = 1; led = true }

-- a word alone that is a number
abbrev pub is_number_alone : List (Piece × ℕ) → Bool
is_number_alone words = length words == 1 && list_all (λ word. is_number word.0.bytes) words

-- the word is a move with a small letter, or a sign of one
abbrev pub is_small_move : Game → Text → Bool
is_small_move game word = (length word == 1 || is_some (run_named game word)) && list_any is_ascii_lowercase word

-- no word is the number after a number sign, and none a card in capitals beside moves with small letters, as in `7b (8C)`
abbrev pub is_plain : Game → (line : Text) → Bool
is_plain game line =
    list_all (λ byte. not (byte == number_sign)) (uncommented line)
    && not (list_any (λ word. is_capital_card word.0.bytes) (words_of line) && list_any (λ word. is_small_move game word.0.bytes) (words_of line))

-- the line begins as fcanon's lists do, or each of its words is of a move; a number alone is none
abbrev pub is_list : Game → Text → Bool
is_list game line =
    let said = said_in game line in
    slice_index line 0 == 0x3E || (said.all && is_none said.from && nat_lt 0 (length said.moves) && not (is_number_alone (words_of line)) && is_plain game line)

-- -------- A solution in Freecell Solver's words, with boards between its moves. From: what `fc-solve -sam` prints.

-- the text begins with a move in words, or before its letters
abbrev pub is_in_words : (text : Text) → Bool
is_in_words text = bytes_eq (take 5 text) (codes "Move ") || bytes_eq (take 5 text) (codes "Move:")

-- one sign, a ten, the name of a line, or a card in capitals
abbrev pub is_drawn_word : Text → Bool
is_drawn_word word =
    length word == 1 || bytes_eq word (codes "10") || bytes_eq word (codes "Foundations") || bytes_eq word (codes "Freecells")
    || is_capital_card word

-- a line of a drawn board
abbrev pub is_drawn : (line : Text) → Bool
is_drawn line = list_all (λ word. is_drawn_word word.0.bytes) (words_of line)

-- the line lists moves: in a solution in words, no line of a drawn board does
abbrev pub lists_moves : Game → (in_words : Bool) → (line : Text) → Bool
lists_moves game in_words line = is_list game line && not (in_words && is_drawn line)

-- -------- How many moves a line names, and whether they may be cut into signs. From: this project's profile.

-- the word is a move with a digit and a letter
abbrev pub is_sure_move : Game → Text → Bool
is_sure_move game word = is_sure word && is_some (run_named game word)

-- two single signs together, or the first of two words
abbrev pub joined : (first second : Text) → Text
joined first second = if length first == 1 && length second == 1 then first ++ second else first

-- the line begins with a move, which may be cut into two signs, or has one after a number or a name of a solution
abbrev pub begins_with_move : Game → List (Piece × ℕ) → Bool
begins_with_move game words =
    is_sure_move game (joined (word_at words 0) (word_at words 1))
    || ((is_number (word_at words 0) || is_among (word_at words 0) solution_names) && is_sure_move game (joined (word_at words 1) (word_at words 2)))

-- a letter of piles and of suits
abbrev pub is_suit_too : Text → Bool
is_suit_too word = is_among word (codes "c" ∷ codes "d" ∷ codes "h" ∷ [])

-- two signs that come one after the other are a move, and may be no card
abbrev pub has_cut_move : Game → (before : Text) → List (Piece × ℕ) → Bool
has_cut_move game before [] = false
has_cut_move game before (word ∷ words) =
    (length before == 1 && is_sure_move game (joined before word.0.bytes) && not (is_suit_too before || is_suit_too word.0.bytes))
    || has_cut_move game word.0.bytes words

-- how many moves its words name, among others too
abbrev pub moves_in : Game → Text → ℕ
moves_in game line = count_by (λ byte. byte == blank) (said_in game line).moves

-- -------- What a line may be that no board and no list is made of. From: this project's profile.

-- a line of other words names few moves: less than four, by at most half of its words, but for a number alone; none that is sure, but for one that is a card too, and that neither first nor after a number or a name of a solution that is; none cut into two signs, but for such a one; and none in a form that is not read
pub record HasFewMoves (game : Game) (line : Text) : Type 0 where
  pub few : moves_in game line < 4
  pub half : (2 * moves_in game line ≤ length (words_of line)) ⊎ (is_number_alone (words_of line) ≡ true)
  pub sure : (said_in game line).sure ≤ 1
  pub led : (said_in game line).led ≡ false
  pub begun : begins_with_move game (words_of line) ≡ false
  pub uncut : has_cut_move game [] (words_of line) ≡ false

-- a line passes in silence that names no card, is no list, and names few moves: so a solution never does
pub record IsQuiet (game : Game) (line : Text) : Type 0 where
  pub no_card : named_cards line ≡ []
  pub no_list : is_list game line ≡ false
  pub few_moves : HasFewMoves game line

-- at most half of the words of the line name cards
abbrev pub HasFewCards : (line : Text) → Type 0
HasFewCards line = 2 * length (named_cards line) ≤ length (words_of line)

-- a line is left out with a note that has few cards, is no list, and names few moves
pub record IsProse (game : Game) (line : Text) : Type 0 where
  pub few : HasFewCards line
  pub no_list : is_list game line ≡ false
  pub few_moves : HasFewMoves game line
