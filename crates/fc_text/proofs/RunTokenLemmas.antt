-- Tokens of moves of several cards, read back: a word names at most one such move of a game.
use Rattle.std.proofs.Common.{◌&&◌, ◌++◌, ◌+◌, ◌<◌, ◌==◌, ◌∙◌, ◌∷◌, ◌≡◌, ◌≤◌, [], ap, ap₂, arith, Bool, cond, false}
use Rattle.std.proofs.Common.{IfSome, IsFalse, length, List, map, nat_le, None, not, Option, refl, slice_index, Some}
use Rattle.std.proofs.Common.{subst, suc, sym, take, true, zero, ℕ}
use Rattle.std.proofs.lemmas.Bool.{agree_below, agree_below_at, and_parts, eqb-true, leb-true, not-true}
use Rattle.std.proofs.lemmas.List.{Elements.{All-cons, All-head, All-nil, All-tail}, length-map, map-append}
use Rattle.std.{proofs.lemmas.Option.{cond_some, option_and_then_some, same_Some}, specs.Char.{to_ascii_lowercase}}
use Rattle.std.specs.{List.{AllZip, join_with_byte}, Option.{option_and_then, option_map}, Str.{str_to_ascii_lowercase}}
use Rattle.fc_card.proofs.Letters.{answers, answers-true}
use Rattle.fc_board.{proofs.ListCarried.{mapped_some}, specs.Games.{Game}}
use Rattle.fc_board.specs.Moves.{both_columns, is_column_to_column, move_between, PlaceFits, RunFits, SourceFits}
use Rattle.fc_board.specs.declared.moves.{Move.{Move}, Place.{Place}}
use Rattle.fc_board.specs.declared.moves.{Place.TheVariants.{Cell as ToCell, Column as ToColumn, Home}, Source.{Source}}
use Rattle.fc_board.specs.declared.moves.Source.TheVariants.{Cell as FromCell, Column as FromColumn}
use Rattle.fc_board.specs.declared.run_move.RunMove.{RunMove, TheVariants.{One, Run}}
use Rattle.fc_text.proofs.TokenLemmas.{IsSolid, letter_there, lettered_fits, lower_token, piece_in_either_case, Reads}
use Rattle.fc_text.{proofs.TokenLemmas.{token-IsSolid, token_read}, specs.{Bytes.{blank}, Lines.{words}}}
use Rattle.fc_text.specs.Notation.{column_digits, count_letter, count_suffix, hexadecimal_digits, IsRunToken, IsToken}
use Rattle.fc_text.specs.{Notation.{Listed, run_token, separates_tokens, token}, reader.{as_run, count_named}}
use Rattle.fc_text.specs.reader.{index_among, IsInOnePiece, move_named, move_of_two, print_moves, print_runs}
use Rattle.fc_text.specs.reader.{run_between, run_named, run_of_word, with_count}

-- ---- numbers of cards
abbrev column_digit : ℕ → ℕ
column_digit column = slice_index column_digits column

abbrev digit_of : ℕ → ℕ
digit_of count = slice_index hexadecimal_digits count

counts_in_table : agree_below (λ before. answers (count_named (digit_of (before + 1))) (before + 1)) (λ _. true) 13 ≡ true
counts_in_table = refl

abbrev counts_back : ℕ → Type 0
counts_back count = count_named (digit_of count) ≡ Some count

count_read : (count : ℕ) → 1 ≤ count → count ≤ 13 → counts_back count
count_read zero some few = absurd (omega arith)
count_read (suc before) some few =
    let there : counts_back (before + 1) = answers-true _ (before + 1) (agree_below_at (λ before. answers (count_named (digit_of (before + 1))) (before + 1)) (λ _. true) 13 before counts_in_table (omega arith)) in
    let same : before + 1 ≡ suc before = omega arith in
    subst counts_back same there

-- a digit that is read is that of the number, which is one of a run
count_there : (digit count : ℕ) → count_named digit ≡ Some count → (1 ≤ count) × (count ≤ 13) × (digit_of count ≡ digit)
count_there digit count e =
    option_and_then_some {P = (1 ≤ count) × (count ≤ 13) × (digit_of count ≡ digit)}
    (λ count. cond (nat_le 1 count && nat_le count 13) (Some count) None) (index_among hexadecimal_digits digit) count e (λ found at kept.
    let (passes, same) = cond_some (nat_le 1 found && nat_le found 13) found count kept in
    let (some, few) = and_parts (nat_le 1 found) (nat_le found 13) passes in
    let (inside, is) = letter_there hexadecimal_digits digit found at in
    subst (λ count. (1 ≤ count) × (count ≤ 13) × (digit_of count ≡ digit)) same (leb-true 1 found some, leb-true found 13 few, is))

-- ---- moves from pile to pile
one_between : (from : Source) (to : Place) → both_columns from to ≡ false → run_between from to ≡ One (move_between from to)
one_between (FromColumn from) (ToColumn to) e = absurd (cc)
one_between (FromColumn from) (ToCell to) e = refl
one_between (FromColumn from) Home e = refl
one_between (FromCell from) (ToColumn to) e = refl
one_between (FromCell from) (ToCell to) e = refl
one_between (FromCell from) Home e = refl

same_token : (from : Source) (to : Place) → run_token (run_between from to) ≡ token (move_between from to)
same_token (FromColumn from) (ToColumn to) = refl
same_token (FromColumn from) (ToCell to) = refl
same_token (FromColumn from) Home = refl
same_token (FromCell from) (ToColumn to) = refl
same_token (FromCell from) (ToCell to) = refl
same_token (FromCell from) Home = refl

-- what a fitting move is as a move of several cards fits too
plain_fits : (game : Game) (from : Source) (to : Place) → SourceFits game from → PlaceFits game to → RunFits game (run_between from to)
plain_fits game (FromColumn from) (ToColumn to) source target = (source, target, tt)
plain_fits game (FromColumn from) (ToCell to) source target = ((source, target), refl)
plain_fits game (FromColumn from) Home source target = ((source, target), refl)
plain_fits game (FromCell from) (ToColumn to) source target = ((source, target), refl)
plain_fits game (FromCell from) (ToCell to) source target = ((source, target), refl)
plain_fits game (FromCell from) Home source target = ((source, target), refl)

-- with a number of cards
counted_between : (game : Game) (from : Source) (to : Place) (count : ℕ) (move : RunMove) → SourceFits game from → PlaceFits game to → 1 ≤ count → count ≤ 13
    → with_count (run_between from to) count ≡ Some move → RunFits game move × (token (move_between from to) ++ count_letter ∷ digit_of count ∷ [] ≡ run_token move)
counted_between game (FromColumn from) (ToColumn to) count move source target some few e =
    let same = same_Some (Run from to (Some count)) move e in
    subst (λ move. RunFits game move × (token (move_between (FromColumn from) (ToColumn to)) ++ count_letter ∷ digit_of count ∷ [] ≡ run_token move)) same
    ((source, target, (some, few)), refl)
counted_between game (FromColumn from) (ToCell to) count move source target some few e = absurd (cc)
counted_between game (FromColumn from) Home count move source target some few e = absurd (cc)
counted_between game (FromCell from) (ToColumn to) count move source target some few e = absurd (cc)
counted_between game (FromCell from) (ToCell to) count move source target some few e = absurd (cc)
counted_between game (FromCell from) Home count move source target some few e = absurd (cc)

-- ---- tokens, read back
-- two columns, and a number of cards after them
columns_read : (game : Game) → game.cells ≤ 8 → (from to : ℕ) → from < 8 → to < 8
    → move_of_two game (token (move_between (FromColumn from) (ToColumn to))) ≡ Some (move_between (FromColumn from) (ToColumn to))
columns_read game few from to source target = token_read game few (move_between (FromColumn from) (ToColumn to)) (source, target)

run_token-read : (game : Game) → game.cells ≤ 8 → (move : RunMove) → RunFits game move → run_of_word game (run_token move) ≡ Some move
run_token-read game few (One move) (fits, touches) =
    ap (option_map as_run) (token_read game few move fits) ∙ ap (λ run. Some run) (one_between move.from move.to touches)
run_token-read game few (Run from to None) (source, target, counts) = ap (option_map as_run) (columns_read game few from to source target)
run_token-read game few (Run from to (Some count)) (source, target, (some, most)) =
    ap (option_and_then (λ move. option_and_then (with_count (as_run move)) (count_named (digit_of count)))) (columns_read game few from to source target)
    ∙ ap (option_and_then (with_count (Run from to None))) (count_read count some most)

pub IsRunToken-named : (game : Game) → game.cells ≤ 8 → (word : List ℕ) (move : RunMove) → IsRunToken game word move → run_named game word ≡ Some move
IsRunToken-named game few word move (fits, e) = ap (run_of_word game) e ∙ run_token-read game few move fits

abbrev AreRead : Game → List ℕ → RunMove → Type 0
AreRead game letters move = RunFits game move × (letters ≡ run_token move)

two_read : (game : Game) (source target : ℕ) (move : RunMove) → run_of_word game (source ∷ target ∷ []) ≡ Some move → AreRead game (source ∷ target ∷ []) move
two_read game source target move h =
    let (one, at, is) = mapped_some as_run (move_of_two game (source ∷ target ∷ [])) move h in
    let (fits, same) = lettered_fits game (source ∷ target ∷ []) one at in
    subst (AreRead game (source ∷ target ∷ [])) is (plain_fits game one.from one.to fits.0 fits.1, same ∙ sym (same_token one.from one.to))

four_read : (game : Game) (source target letter digit : ℕ) (move : RunMove) (is_v : Bool) → (letter == count_letter) ≡ is_v
    → cond is_v (option_and_then (λ move. option_and_then (with_count (as_run move)) (count_named digit)) (move_of_two game (source ∷ target ∷ []))) None ≡ Some move
    → AreRead game (source ∷ target ∷ letter ∷ digit ∷ []) move
four_read game source target letter digit move false e h = absurd (cc)
four_read game source target letter digit move true e h =
    option_and_then_some {P = AreRead game (source ∷ target ∷ letter ∷ digit ∷ []) move} (λ move. option_and_then (with_count (as_run move)) (count_named digit))
    (move_of_two game (source ∷ target ∷ [])) move h (λ one at counted.
    option_and_then_some {P = AreRead game (source ∷ target ∷ letter ∷ digit ∷ []) move} (with_count (as_run one)) (count_named digit) move counted (λ count of_digit is.
    let (fits, same) = lettered_fits game (source ∷ target ∷ []) one at in
    let (some, few, digit_is) = count_there digit count of_digit in
    let (run_fits, token_is) = counted_between game one.from one.to count move fits.0 fits.1 some few is in (
      run_fits,
      ap₂ (λ letter digit. source ∷ target ∷ letter ∷ digit ∷ []) (eqb-true letter count_letter e) (sym digit_is)
          ∙ ap (λ front. front ++ count_letter ∷ digit_of count ∷ []) same ∙ token_is,
    )))

letters_read : (game : Game) (letters : List ℕ) (move : RunMove) → run_of_word game letters ≡ Some move → AreRead game letters move
letters_read game [] move h = absurd (cc)
letters_read game (source ∷ []) move h = absurd (cc)
letters_read game (source ∷ target ∷ []) move h = two_read game source target move h
letters_read game (source ∷ target ∷ letter ∷ []) move h = absurd (cc)
letters_read game (source ∷ target ∷ letter ∷ digit ∷ []) move h = four_read game source target letter digit move (letter == count_letter) refl h
letters_read game (source ∷ target ∷ letter ∷ digit ∷ other ∷ rest) move h = absurd (cc)

pub named-IsRunToken : (game : Game) (word : List ℕ) (move : RunMove) → run_named game word ≡ Some move → IsRunToken game word move
named-IsRunToken game word move h = letters_read game (str_to_ascii_lowercase word) move h

pub runs-Reads : (game : Game) → game.cells ≤ 8 → Reads (IsRunToken game) (run_named game)
runs-Reads game few word move = (IsRunToken-named game few word move, named-IsRunToken game word move)

pub one_run : (game : Game) → game.cells ≤ 8 → (word : List ℕ) (move other : RunMove) → IsRunToken game word move → IsRunToken game word other → move ≡ other
one_run game few word move other is is' = same_Some move other (sym (IsRunToken-named game few word move is) ∙ IsRunToken-named game few word other is')

-- ---- printed tokens
abbrev digit_passes : ℕ → Bool
digit_passes digit = not (separates_tokens digit) && (to_ascii_lowercase digit == digit)

digits_in_table : agree_below (λ count. digit_passes (digit_of count)) (λ _. true) 14 ≡ true
digits_in_table = refl

digit_is_good : (count : ℕ) → count ≤ 13 → (separates_tokens (digit_of count) ≡ false) × (to_ascii_lowercase (digit_of count) ≡ digit_of count)
digit_is_good count few =
    let (apart, lower) = and_parts _ _ (agree_below_at (λ count. digit_passes (digit_of count)) (λ _. true) 14 count digits_in_table (omega arith)) in
    (not-true _ apart, eqb-true _ _ lower)

abbrev Stays : ℕ → Type 0
Stays byte = separates_tokens byte ≡ false

pub run_solid : (game : Game) → game.cells ≤ 8 → (move : RunMove) → RunFits game move → IsSolid (run_token move)
run_solid game few (One move) (fits, touches) = token-IsSolid game few move fits
run_solid game few (Run from to None) (source, target, counts) = token-IsSolid game few (move_between (FromColumn from) (ToColumn to)) (source, target)
run_solid game few (Run from to (Some count)) (source, target, (some, most)) =
    let (first, all) = token-IsSolid game few (move_between (FromColumn from) (ToColumn to)) (source, target) in
    let first_digit = All-head Stays (column_digit from) (column_digit to ∷ []) all in
    let second_digit = All-head Stays (column_digit to) [] (All-tail Stays (column_digit from) (column_digit to ∷ []) all) in (
      omega arith,
      All-cons Stays (column_digit from) (column_digit to ∷ count_letter ∷ digit_of count ∷ []) first_digit
          (All-cons Stays (column_digit to) (count_letter ∷ digit_of count ∷ []) second_digit
          (All-cons Stays count_letter (digit_of count ∷ []) refl
          (All-cons Stays (digit_of count) [] (digit_is_good count most).0 (All-nil Stays)))),
    )

run_lower : (game : Game) → game.cells ≤ 8 → (move : RunMove) → RunFits game move → str_to_ascii_lowercase (run_token move) ≡ run_token move
run_lower game few (One move) (fits, touches) = lower_token game few move fits
run_lower game few (Run from to None) (source, target, counts) = lower_token game few (move_between (FromColumn from) (ToColumn to)) (source, target)
run_lower game few (Run from to (Some count)) (source, target, (some, most)) =
    ap₂ (λ front digit. front ++ count_letter ∷ digit ∷ []) (lower_token game few (move_between (FromColumn from) (ToColumn to)) (source, target)) (digit_is_good count most).1

pub run_token-IsRunToken : (game : Game) → game.cells ≤ 8 → (move : RunMove) → RunFits game move → IsRunToken game (run_token move) move
run_token-IsRunToken game few move fits = (fits, run_lower game few move fits)

-- ---- words as they are read
abbrev lower : ℕ → ℕ
lower letter = to_ascii_lowercase letter

with_suffix : (game : Game) (source target letter digit : ℕ) (move : Move) → lower letter ≡ 118 → move_named game (source ∷ target ∷ []) ≡ Some move
    → run_named game (source ∷ target ∷ letter ∷ digit ∷ []) ≡ option_and_then (with_count (as_run move)) (count_named (lower digit))
with_suffix game source target letter digit move is_v at =
    ap (λ letter. cond (letter == count_letter) (option_and_then (λ move. option_and_then (with_count (as_run move)) (count_named (lower digit))) (move_named game (source ∷ target ∷ []))) None) is_v
    ∙ ap (option_and_then (λ move. option_and_then (with_count (as_run move)) (count_named (lower digit)))) at

-- a word of four characters with v
pub suffix_read : (game : Game) (word : List ℕ) (digit : ℕ) (move : Move) (is_v : Bool) → length word ≡ 4 → is_v ≡ (lower (slice_index word 2) == count_letter) → is_v ≡ true
    → digit ≡ lower (slice_index word 3) → move_named game (take 2 word) ≡ Some move → run_named game word ≡ option_and_then (with_count (as_run move)) (count_named digit)
suffix_read game (source ∷ target ∷ third ∷ fourth ∷ []) digit move is_v long e is f at =
    with_suffix game source target third fourth move (eqb-true (lower third) count_letter (sym e ∙ is)) at ∙ ap (λ digit. option_and_then (with_count (as_run move)) (count_named digit)) (sym f)
suffix_read game [] digit move is_v long e is f at = absurd (omega arith)
suffix_read game (source ∷ []) digit move is_v long e is f at = absurd (omega arith)
suffix_read game (source ∷ target ∷ []) digit move is_v long e is f at = absurd (omega arith)
suffix_read game (source ∷ target ∷ third ∷ []) digit move is_v long e is f at = absurd (omega arith)
suffix_read game (source ∷ target ∷ third ∷ fourth ∷ fifth ∷ rest) digit move is_v long e is f at = absurd (omega arith)

-- a word of four characters without v
pub no_suffix_read : (game : Game) (word : List ℕ) (is_v : Bool) → length word ≡ 4 → is_v ≡ (lower (slice_index word 2) == count_letter) → is_v ≡ false → run_named game word ≡ None
no_suffix_read game (source ∷ target ∷ third ∷ fourth ∷ []) is_v long e no_v =
    ap (λ test. cond test (option_and_then (λ move. option_and_then (with_count (as_run move)) (count_named (lower fourth))) (move_named game (source ∷ target ∷ []))) None)
    (sym e ∙ no_v)
no_suffix_read game [] is_v long e no_v = absurd (omega arith)
no_suffix_read game (source ∷ []) is_v long e no_v = absurd (omega arith)
no_suffix_read game (source ∷ target ∷ []) is_v long e no_v = absurd (omega arith)
no_suffix_read game (source ∷ target ∷ third ∷ []) is_v long e no_v = absurd (omega arith)
no_suffix_read game (source ∷ target ∷ third ∷ fourth ∷ fifth ∷ rest) is_v long e no_v = absurd (omega arith)

-- a word of another length that names no move of one card
pub no_move_read : (game : Game) (word : List ℕ) → ¬ (length word ≡ 4) → move_named game word ≡ None → run_named game word ≡ None
no_move_read game [] long none = refl
no_move_read game (source ∷ []) long none = refl
no_move_read game (source ∷ target ∷ []) long none = ap (option_map as_run) none
no_move_read game (source ∷ target ∷ third ∷ []) long none = refl
no_move_read game (source ∷ target ∷ third ∷ fourth ∷ []) long none = absurd (long refl)
no_move_read game (source ∷ target ∷ third ∷ fourth ∷ fifth ∷ rest) long none = refl

-- ---- tokens of one card as tokens of several
-- a token of one card's move is one of the same move of several cards
pub token-as_run : (game : Game) (word : List ℕ) (move : Move) → IsToken game word move → IsRunToken game word (as_run move)
token-as_run game word move ((source, target), e) =
    (plain_fits game move.from move.to source target, e ∙ sym (same_token move.from move.to))

tokens-as_runs : (moves : List Move) → map run_token (map as_run moves) ≡ map token moves
tokens-as_runs [] = refl
tokens-as_runs (move ∷ moves) = ap₂ (λ word words. word ∷ words) (same_token move.from move.to) (tokens-as_runs moves)

pub print-as_runs : (moves : List Move) → print_runs (map as_run moves) ≡ print_moves moves
print-as_runs moves = ap (join_with_byte blank) (tokens-as_runs moves)

pub one-IsToken : (game : Game) (word : List ℕ) (move : Move) → IsRunToken game word (One move) → IsToken game word move × IsFalse (is_column_to_column move)
one-IsToken game word move ((fits, touches), e) = ((fits, e), touches)

pub run-IsToken : (game : Game) (word : List ℕ) (from to : ℕ) → IsRunToken game word (Run from to None) → IsToken game word (move_between (FromColumn from) (ToColumn to))
run-IsToken game word from to ((source, target, counts), e) = ((source, target), e)

each_as_run : (game : Game) (found : List (List ℕ)) (moves : List Move) → AllZip (IsToken game) found moves → AllZip (IsRunToken game) found (map as_run moves)
each_as_run game [] [] zip = tt
each_as_run game [] (move ∷ moves) zip = absurd zip
each_as_run game (word ∷ found) [] zip = absurd zip
each_as_run game (word ∷ found) (move ∷ moves) (is, zip) = (token-as_run game word move is, each_as_run game found moves zip)

pub listed-as_runs : (game : Game) (text : List ℕ) (moves : List Move) → Listed (IsToken game) text moves → Listed (IsRunToken game) text (map as_run moves)
listed-as_runs game text moves listed = record {
  tokens = each_as_run game (words separates_tokens text) moves listed.tokens;
  at_most = let long = length-map moves as_run in let few = listed.at_most in omega arith;
}

pub count-IsRunToken : (game : Game) (word : List ℕ) (from to count : ℕ) → 1 ≤ count → count ≤ 13 → IsRunToken game word (Run from to None)
    → IsRunToken game (word ++ count_suffix (Some count)) (Run from to (Some count))
count-IsRunToken game word from to count some few ((source, target, counts), e) = (
  (source, target, (some, few)),
  map-append to_ascii_lowercase word (count_suffix (Some count)) ∙ ap₂ (λ front digit. front ++ count_letter ∷ digit ∷ []) e (digit_is_good count few).1,
)

pub run_token_in_either_case : (game : Game) → game.cells ≤ 8 → (word : List ℕ) (answer : Option RunMove) → IfSome answer (IsRunToken game word) → IfSome answer (λ _. IsInOnePiece word)
run_token_in_either_case game few word None is = tt
run_token_in_either_case game few word (Some move) (fits, e) = piece_in_either_case word (subst IsInOnePiece (sym e) (run_solid game few move fits).1)
