-- The letters of sources and targets, read back: a word names at most one move of a game.
use Rattle.std.proofs.Common.{◌%◌, ◌*◌, ◌+◌, ◌/◌, ◌<◌, ◌==◌, ◌||◌, ◌↔◌, ◌∙◌, ◌∷◌, ◌≡◌, ◌≤◌, [], All, ap, ap₂, arith}
use Rattle.std.proofs.Common.{Bool, cond, false, get_or-take, IfSome, inl, inr, length, length-take, List, ltb, None}
use Rattle.std.proofs.Common.{not, Option, refl, slice_index, Some, subst, suc, sym, take, true, zero, ℕ}
use Rattle.std.proofs.lemmas.Bool.{agree_below, agree_below_at, both_ways, eqb-true, lt-ltb, not-true, or_cases}
use Rattle.std.proofs.lemmas.List.{Elements.{All-cons, All-head, All-nil, All-tail}, Quantifiers.{position-Some}}
use Rattle.std.{proofs.lemmas.Option.{option_and_then_some, same_Some}, specs.Char.{to_ascii_lowercase}}
use Rattle.std.specs.{Option.{option_and_then, option_map, option_or}, Str.{str_to_ascii_lowercase}}
use Rattle.fc_card.proofs.Letters.{answers, answers-true}
use Rattle.fc_board.{proofs.ListCarried.{mapped_some}, specs.Games.{Game}}
use Rattle.fc_board.specs.Moves.{Fits, move_between, PlaceFits, SourceFits}
use Rattle.fc_board.specs.declared.moves.{Move.{Move}, Place.{Place}}
use Rattle.fc_board.specs.declared.moves.{Place.TheVariants.{Cell as ToCell, Column as ToColumn, Home}, Source.{Source}}
use Rattle.fc_board.specs.declared.moves.Source.TheVariants.{Cell as FromCell, Column as FromColumn}
use Rattle.fc_text.specs.{Bytes.{blank, carriage_return, line_feed, tab}, Notation.{cell_letters, column_digits}}
use Rattle.fc_text.specs.Notation.{home_letter, IsToken, separates_tokens, source_character, target_character, token}
use Rattle.fc_text.specs.reader.{index_among, IsInOnePiece, move_named, move_of_two, source_named, target_named}

-- ---- the letters in tables
abbrev column_digit : ℕ → ℕ
column_digit column = slice_index column_digits column

abbrev cell_letter : ℕ → ℕ
cell_letter cell = slice_index cell_letters cell

abbrev found : Option ℕ → Bool
found (Some place) = true
found None = false

found-false : (answer : Option ℕ) → not (found answer) ≡ true → answer ≡ None
found-false (Some place) h = cc
found-false None h = refl

columns_in_table : agree_below (λ column. answers (index_among column_digits (column_digit column)) column) (λ _. true) 8 ≡ true
columns_in_table = refl

pub column_read : (column : ℕ) → column < 8 → index_among column_digits (column_digit column) ≡ Some column
column_read column small =
    answers-true _ column (agree_below_at (λ column. answers (index_among column_digits (column_digit column)) column) (λ _. true) 8 column columns_in_table small)

cells_no_columns : agree_below (λ cell. not (found (index_among column_digits (cell_letter cell)))) (λ _. true) 8 ≡ true
cells_no_columns = refl

cell_no_column : (cell : ℕ) → cell < 8 → index_among column_digits (cell_letter cell) ≡ None
cell_no_column cell small =
    found-false _ (agree_below_at (λ cell. not (found (index_among column_digits (cell_letter cell)))) (λ _. true) 8 cell cells_no_columns small)

-- for each count of cells up to eight, and each of eight cells
abbrev cell_reads : ℕ → ℕ → Bool
cell_reads cells cell = not (ltb cell cells) || answers (index_among (take cells cell_letters) (cell_letter cell)) cell

cells_in_table : agree_below (λ code. cell_reads (code / 8) (code % 8)) (λ _. true) 72 ≡ true
cells_in_table = refl

cell_read : (cells cell : ℕ) → cells ≤ 8 → cell < cells → index_among (take cells cell_letters) (cell_letter cell) ≡ Some cell
cell_read cells cell few small =
    let code = 8 * cells + cell in
    let row : code / 8 ≡ cells = omega arith in
    let column : code % 8 ≡ cell = omega arith in
    let there = agree_below_at (λ code. cell_reads (code / 8) (code % 8)) (λ _. true) 72 code cells_in_table (omega arith) in
    let here : cell_reads cells cell ≡ true = sym (ap₂ cell_reads row column) ∙ there in
    elim (or_cases (not (ltb cell cells)) (answers (index_among (take cells cell_letters) (cell_letter cell)) cell) here) [
      | inl past ↦ absurd (both_ways (ltb cell cells) (not-true (ltb cell cells) past) (lt-ltb cell cells small))
      | inr read ↦ answers-true _ cell read
    ]

home_in_no_table : agree_below (λ cells. not (found (index_among (take cells cell_letters) home_letter))) (λ _. true) 9 ≡ true
home_in_no_table = refl

home_no_cell : (cells : ℕ) → cells ≤ 8 → index_among (take cells cell_letters) home_letter ≡ None
home_no_cell cells few =
    found-false _ (agree_below_at (λ cells. not (found (index_among (take cells cell_letters) home_letter))) (λ _. true) 9 cells home_in_no_table (omega arith))

-- a letter that is found is there
pub letter_there : (letters : List ℕ) (letter place : ℕ) → index_among letters letter ≡ Some place
    → place < length letters × slice_index letters place ≡ letter
letter_there letters letter place e =
    let (inside, is, _) = position-Some (λ known. known == letter) letters place 0 e in
    (inside, eqb-true (slice_index letters place) letter is)

cell_letter_there : (cells letter cell : ℕ) → index_among (take cells cell_letters) letter ≡ Some cell → cell < cells × cell_letter cell ≡ letter
cell_letter_there cells letter cell e =
    let (inside, is) = letter_there (take cells cell_letters) letter cell e in
    let long = length-take cells cell_letters in
    let small : cell < cells = omega arith in
    (small, sym (get_or-take cells cell_letters cell 0 small) ∙ is)

-- ---- the first of the letters
-- the answer, where it is less than this number
abbrev kept_below : ℕ → Option ℕ → Option ℕ
kept_below zero answer = None
kept_below (suc many) None = None
kept_below (suc many) (Some zero) = Some zero
kept_below (suc many) (Some (suc place)) = option_map suc (kept_below many (Some place))

kept_below-some : (many place : ℕ) → place < many → kept_below many (Some place) ≡ Some place
kept_below-some zero place small = absurd (omega (arith, small))
kept_below-some (suc many) zero small = refl
kept_below-some (suc many) (suc place) small = ap (option_map suc) (kept_below-some many place (omega (arith, small)))

kept_below-beyond : (many place : ℕ) → ¬ (place < many) → kept_below many (Some place) ≡ None
kept_below-beyond zero place large = refl
kept_below-beyond (suc many) zero large = absurd (large (omega arith))
kept_below-beyond (suc many) (suc place) large = ap (option_map suc) (kept_below-beyond many place (λ small. large (omega (arith, small))))

kept_below-none : (many : ℕ) → kept_below many None ≡ None
kept_below-none zero = refl
kept_below-none (suc many) = refl

abbrev same_answer : Option ℕ → Option ℕ → Bool
same_answer None None = true
same_answer None (Some other) = false
same_answer (Some place) None = false
same_answer (Some place) (Some other) = place == other

same_answer-true : (answer other : Option ℕ) → same_answer answer other ≡ true → answer ≡ other
same_answer-true None None same = refl
same_answer-true None (Some other) same = cc
same_answer-true (Some place) None same = cc
same_answer-true (Some place) (Some other) same = ap (λ found. Some found) (eqb-true place other same)

-- for each count of cells up to eight, and each byte: its index among the first of the letters is that among all, where it is less than their number
abbrev reads_among : ℕ → ℕ → Bool
reads_among cells letter = same_answer (index_among (take cells cell_letters) letter) (kept_below cells (index_among cell_letters letter))

among_in_table : agree_below (λ code. reads_among (code / 256) (code % 256)) (λ _. true) 2304 ≡ true
among_in_table = refl

among_first : (cells letter : ℕ) → cells ≤ 8 → letter < 256
    → index_among (take cells cell_letters) letter ≡ kept_below cells (index_among cell_letters letter)
among_first cells letter few small =
    let code = 256 * cells + letter in
    let row : code / 256 ≡ cells = omega arith in
    let column : code % 256 ≡ letter = omega arith in
    let there = agree_below_at (λ code. reads_among (code / 256) (code % 256)) (λ _. true) 2304 code among_in_table (omega arith) in
    same_answer-true (index_among (take cells cell_letters) letter) (kept_below cells (index_among cell_letters letter)) (sym (ap₂ reads_among row column) ∙ there)

module _ (cells letter : ℕ) (few : cells ≤ 8) (small : letter < 256) where
  pub among_first-some : (cell : ℕ) → Some cell ≡ index_among cell_letters letter → cell < cells
      → index_among (take cells cell_letters) letter ≡ Some cell
  among_first-some cell e less = among_first cells letter few small ∙ ap (kept_below cells) (sym e) ∙ kept_below-some cells cell less

  pub among_first-beyond : (cell : ℕ) → Some cell ≡ index_among cell_letters letter → ¬ (cell < cells)
      → index_among (take cells cell_letters) letter ≡ None
  among_first-beyond cell e large = among_first cells letter few small ∙ ap (kept_below cells) (sym e) ∙ kept_below-beyond cells cell large

  pub among_first-none : None ≡ index_among cell_letters letter → index_among (take cells cell_letters) letter ≡ None
  among_first-none e = among_first cells letter few small ∙ ap (kept_below cells) (sym e) ∙ kept_below-none cells

-- ---- sources and targets, read back
pub source_read : (game : Game) → game.cells ≤ 8 → (source : Source) → SourceFits game source
    → source_named game (source_character source) ≡ Some source
source_read game few (FromColumn column) fits = rw (column_read column fits)
source_read game few (FromCell cell) fits = rw (cell_no_column cell (omega arith), cell_read game.cells cell few fits)

pub target_read : (game : Game) → game.cells ≤ 8 → (target : Place) → PlaceFits game target
    → target_named game (target_character target) ≡ Some target
target_read game few (ToColumn column) fits = rw (column_read column fits)
target_read game few (ToCell cell) fits = rw (cell_no_column cell (omega arith), cell_read game.cells cell few fits)
target_read game few Home fits = rw (home_no_cell game.cells few)

source_answered : (game : Game) (letter : ℕ) (column cell : Option ℕ) (source : Source) → index_among column_digits letter ≡ column
    → index_among (take game.cells cell_letters) letter ≡ cell
    → option_or (option_map (λ column. FromColumn column) column) (option_map (λ cell. FromCell cell) cell) ≡ Some source
    → SourceFits game source × source_character source ≡ letter
source_answered game letter (Some column) cell source e f (h) =
    let same : FromColumn column ≡ source = same_Some _ _ h in
    subst (λ source. SourceFits game source × source_character source ≡ letter) same (letter_there column_digits letter column e)
source_answered game letter None (Some cell) source e f h =
    let same : FromCell cell ≡ source = same_Some _ _ h in
    subst (λ source. SourceFits game source × source_character source ≡ letter) same (cell_letter_there game.cells letter cell f)
source_answered game letter None None source e f h = absurd (cc)

pub source_named-fits : (game : Game) (letter : ℕ) (source : Source) → source_named game letter ≡ Some source
    → SourceFits game source × source_character source ≡ letter
source_named-fits game letter source h = source_answered game letter (index_among column_digits letter) (index_among (take game.cells cell_letters) letter) source refl refl h

target_answered : (game : Game) (letter : ℕ) (column cell : Option ℕ) (is_home : Bool) (target : Place) → index_among column_digits letter ≡ column
    → index_among (take game.cells cell_letters) letter ≡ cell
    → (letter == home_letter) ≡ is_home
    → option_or (option_map (λ column. ToColumn column) column) (option_or (option_map (λ cell. ToCell cell) cell) (cond is_home (Some Home) None)) ≡ Some target
    → PlaceFits game target × target_character target ≡ letter
target_answered game letter (Some column) cell is_home target e f g h =
    let same : ToColumn column ≡ target = same_Some _ _ h in
    subst (λ target. PlaceFits game target × target_character target ≡ letter) same (letter_there column_digits letter column e)
target_answered game letter None (Some cell) is_home target e f g h =
    let same : ToCell cell ≡ target = same_Some _ _ h in
    subst (λ target. PlaceFits game target × target_character target ≡ letter) same (cell_letter_there game.cells letter cell f)
target_answered game letter None None true target e f g h =
    let same : Home ≡ target = same_Some _ _ h in
    subst (λ target. PlaceFits game target × target_character target ≡ letter) same (tt, sym (eqb-true letter home_letter g))
target_answered game letter None None false target e f g h = absurd (cc)

pub target_named-fits : (game : Game) (letter : ℕ) (target : Place) → target_named game letter ≡ Some target
    → PlaceFits game target × target_character target ≡ letter
target_named-fits game letter target h =
    target_answered game letter (index_among column_digits letter) (index_among (take game.cells cell_letters) letter) (letter == home_letter) target refl refl refl h

-- ---- tests that each letter passes
columns_pass : (test : ℕ → Bool) → agree_below (λ column. test (column_digit column)) (λ _. true) 8 ≡ true → (column : ℕ) → column < 8
    → test (column_digit column) ≡ true
columns_pass test all column small = agree_below_at (λ column. test (column_digit column)) (λ _. true) 8 column all small

cells_pass : (test : ℕ → Bool) → agree_below (λ cell. test (cell_letter cell)) (λ _. true) 8 ≡ true → (cell : ℕ) → cell < 8
    → test (cell_letter cell) ≡ true
cells_pass test all cell small = agree_below_at (λ cell. test (cell_letter cell)) (λ _. true) 8 cell all small

record AllLettersPass (test : ℕ → Bool) : Type 0 where
  of_columns : agree_below (λ column. test (column_digit column)) (λ _. true) 8 ≡ true
  of_cells : agree_below (λ cell. test (cell_letter cell)) (λ _. true) 8 ≡ true
  of_home : test home_letter ≡ true

source_passes : (test : ℕ → Bool) → AllLettersPass test → (game : Game) → game.cells ≤ 8 → (source : Source) → SourceFits game source
    → test (source_character source) ≡ true
source_passes test all game few (FromColumn column) fits = columns_pass test all.of_columns column fits
source_passes test all game few (FromCell cell) fits = cells_pass test all.of_cells cell (omega arith)

target_passes : (test : ℕ → Bool) → AllLettersPass test → (game : Game) → game.cells ≤ 8 → (target : Place) → PlaceFits game target
    → test (target_character target) ≡ true
target_passes test all game few (ToColumn column) fits = columns_pass test all.of_columns column fits
target_passes test all game few (ToCell cell) fits = cells_pass test all.of_cells cell (omega arith)
target_passes test all game few Home fits = all.of_home

-- ---- tokens
all_in_words : AllLettersPass (λ letter. not (separates_tokens letter))
all_in_words = record { of_columns = refl; of_cells = refl; of_home = refl }

-- no letter of a token separates words
token_in_one_piece : (game : Game) → game.cells ≤ 8 → (move : Move) → Fits game move
    → separates_tokens (source_character move.from) ≡ false × separates_tokens (target_character move.to) ≡ false
token_in_one_piece game few move fits = (
  not-true (separates_tokens (source_character move.from)) (source_passes (λ letter. not (separates_tokens letter)) all_in_words game few move.from fits.0),
  not-true (separates_tokens (target_character move.to)) (target_passes (λ letter. not (separates_tokens letter)) all_in_words game few move.to fits.1),
)

-- the bytes are one word
abbrev pub IsSolid : List ℕ → Type 0
IsSolid bytes = (0 < length bytes) × All (λ byte. separates_tokens byte ≡ false) bytes

pub token-IsSolid : (game : Game) → game.cells ≤ 8 → (move : Move) → Fits game move → IsSolid (token move)
token-IsSolid game few move fits =
    let (from, to) = token_in_one_piece game few move fits in (
      omega arith,
      All-cons (λ byte. separates_tokens byte ≡ false) (source_character move.from) (target_character move.to ∷ []) from
          (All-cons (λ byte. separates_tokens byte ≡ false) (target_character move.to) [] to (All-nil (λ byte. separates_tokens byte ≡ false))),
    )

-- what separates words has no lower case
separator_stays : (byte : ℕ) → separates_tokens byte ≡ true → separates_tokens (to_ascii_lowercase byte) ≡ true
separator_stays byte e = elim (or_cases (byte == blank || byte == tab || byte == line_feed) (byte == carriage_return) e) [
  | inr is ↦ same byte carriage_return is refl
  | inl e ↦ elim (or_cases (byte == blank || byte == tab) (byte == line_feed) e) [
    | inr is ↦ same byte line_feed is refl
    | inl e ↦ elim (or_cases (byte == blank) (byte == tab) e) [
      | inr is ↦ same byte tab is refl
      | inl is ↦ same byte blank is refl
    ]
  ]
]
  where
    same : (byte other : ℕ) → (byte == other) ≡ true → separates_tokens (to_ascii_lowercase other) ≡ true
        → separates_tokens (to_ascii_lowercase byte) ≡ true
    same byte other is e = subst (λ byte. separates_tokens (to_ascii_lowercase byte) ≡ true) (sym (eqb-true byte other is)) e

letter_stays : (byte : ℕ) → separates_tokens (to_ascii_lowercase byte) ≡ false → separates_tokens byte ≡ false
letter_stays byte e = by_test (separates_tokens byte) refl
  where
    by_test : (b : Bool) → separates_tokens byte ≡ b → separates_tokens byte ≡ false
    by_test false is = is
    by_test true is = absurd (let on = separator_stays byte is in both_ways (separates_tokens (to_ascii_lowercase byte)) e on)

-- a word that is one piece in lower case is one piece
pub piece_in_either_case : (word : List ℕ) → IsInOnePiece (str_to_ascii_lowercase word) → IsInOnePiece word
piece_in_either_case [] are = All-nil (λ byte. separates_tokens byte ≡ false)
piece_in_either_case (byte ∷ word) are =
    All-cons (λ byte. separates_tokens byte ≡ false) byte word
    (letter_stays byte (All-head (λ byte. separates_tokens byte ≡ false) (to_ascii_lowercase byte) (str_to_ascii_lowercase word) are))
    (piece_in_either_case word (All-tail (λ byte. separates_tokens byte ≡ false) (to_ascii_lowercase byte) (str_to_ascii_lowercase word) are))

pub token_in_either_case : (game : Game) → game.cells ≤ 8 → (word : List ℕ) (answer : Option Move) → IfSome answer (IsToken game word)
    → IfSome answer (λ _. IsInOnePiece word)
token_in_either_case game few word None is = tt
token_in_either_case game few word (Some move) (fits, e) = piece_in_either_case word (subst IsInOnePiece (sym e) (token-IsSolid game few move fits).1)

all_lower : AllLettersPass (λ letter. to_ascii_lowercase letter == letter)
all_lower = record { of_columns = refl; of_cells = refl; of_home = refl }

pub lower_token : (game : Game) → game.cells ≤ 8 → (move : Move) → Fits game move → str_to_ascii_lowercase (token move) ≡ token move
lower_token game few move fits =
    let is_lower = λ (letter : ℕ). to_ascii_lowercase letter == letter in
    let from = source_character move.from in
    let to = target_character move.to in rw (
      eqb-true (to_ascii_lowercase from) from (source_passes is_lower all_lower game few move.from fits.0),
      eqb-true (to_ascii_lowercase to) to (target_passes is_lower all_lower game few move.to fits.1),
    )

-- the letter h in lower case is home
pub target_of_home : (game : Game) (letter : ℕ) → game.cells ≤ 8 → letter ≡ home_letter → Some Home ≡ target_named game (to_ascii_lowercase letter)
target_of_home game letter few e = sym (ap (λ letter. target_named game (to_ascii_lowercase letter)) e ∙ target_read game few Home tt)

-- the token of a fitting move names it
pub token-IsToken : (game : Game) → game.cells ≤ 8 → (move : Move) → Fits game move → IsToken game (token move) move
token-IsToken game few move fits = (fits, lower_token game few move fits)

pub token_read : (game : Game) → game.cells ≤ 8 → (move : Move) → Fits game move → move_of_two game (token move) ≡ Some move
token_read game few move fits =
    ap (option_and_then (λ from. option_map (λ to. move_between from to) (target_named game (target_character move.to)))) (source_read game few move.from fits.0)
    ∙ ap (option_map (λ to. move_between move.from to)) (target_read game few move.to fits.1)

pub IsToken-named : (game : Game) → game.cells ≤ 8 → (word : List ℕ) (move : Move) → IsToken game word move → move_named game word ≡ Some move
IsToken-named game few word move (fits, e) = ap (move_of_two game) e ∙ token_read game few move fits

pub lettered_fits : (game : Game) (letters : List ℕ) (move : Move) → move_of_two game letters ≡ Some move → Fits game move × (letters ≡ token move)
lettered_fits game [] move h = absurd (cc)
lettered_fits game (source ∷ []) move h = absurd (cc)
lettered_fits game (source ∷ target ∷ []) move h =
    option_and_then_some {P = Fits game move × (source ∷ target ∷ [] ≡ token move)}
    (λ from. option_map (λ to. move_between from to) (target_named game target)) (source_named game source) move h (λ from of_source of_target.
    let (to, at_target, is_move) = mapped_some (move_between from) (target_named game target) move of_target in
    let (source_fits, is_source) = source_named-fits game source from of_source in
    let (target_fits, is_target) = target_named-fits game target to at_target in
    subst (λ move. Fits game move × (source ∷ target ∷ [] ≡ token move)) is_move
    ((source_fits, target_fits), ap₂ (λ a b. a ∷ b ∷ []) (sym is_source) (sym is_target)))
lettered_fits game (source ∷ target ∷ third ∷ rest) move h = absurd (cc)

pub named-IsToken : (game : Game) (word : List ℕ) (move : Move) → move_named game word ≡ Some move → IsToken game word move
named-IsToken game word move h = lettered_fits game (str_to_ascii_lowercase word) move h

-- a word names just the item that it is read as
abbrev pub Reads : {Item : Type 0} → (List ℕ → Item → Type 0) → (List ℕ → Option Item) → Type 0
Reads {Item} Names named = (word : List ℕ) (item : Item) → Names word item ↔ named word ≡ Some item

-- what a word is read as is what it is a token of, and where it is read as nothing it is a token of nothing
pub read-some : {Item : Type 0} (Names : List ℕ → Item → Type 0) (named : List ℕ → Option Item) → Reads Names named
    → (word : List ℕ) (answer : Option Item) → answer ≡ named word → IfSome answer (Names word)
read-some Names named reads word (Some item) e = (reads word item).1 (sym e)
read-some Names named reads word None e = tt

pub read-none : {Item : Type 0} (Names : List ℕ → Item → Type 0) (named : List ℕ → Option Item) → Reads Names named
    → (word : List ℕ) (answer : Option Item) → answer ≡ named word → answer ≡ None
    → (item : Item) → ¬ Names word item
read-none Names named reads word answer e none item is = let found = (reads word item).0 is in let both = sym none ∙ e ∙ found in cc

pub moves-Reads : (game : Game) → game.cells ≤ 8 → Reads (IsToken game) (move_named game)
moves-Reads game few word move = (IsToken-named game few word move, named-IsToken game word move)

pub one_move : (game : Game) → game.cells ≤ 8 → (word : List ℕ) (move other : Move) → IsToken game word move → IsToken game word other → move ≡ other
one_move game few word move other is is' = same_Some move other (sym (IsToken-named game few word move is) ∙ IsToken-named game few word other is')
