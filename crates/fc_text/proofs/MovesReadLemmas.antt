-- What is read of a text of moves is the moves that it lists, its bad token or its first word too many.
use Rattle.std.proofs.Common.{◌++◌, ◌<◌, ◌↔◌, ◌∙◌, ◌∷◌, ◌≡◌, ◌≤◌, ◌⊎◌, [], All, ap, ap₂, arith, cond, Err, inl, inr}
use Rattle.std.proofs.Common.{length, List, map, None, Ok, Option, refl, Result, slice_get, Some, subst, suc, sym, take}
use Rattle.std.proofs.{Common.{zero, ℕ}, lemmas.List.{Elements.{All-head, All-tail, All-weaker}, take_all}}
use Rattle.std.{proofs.lemmas.Option.{slice_get_past}, specs.List.{AllZip, cons_option, filter_map, find}}
use Rattle.std.specs.Option.{is_none}
use Rattle.fc_board.specs.{declared.{moves.Move.{Move}, run_move.RunMove.{RunMove}}, Games.{Game}}
use Rattle.fc_text.proofs.{ListedLemmas.{each_from_zip, items_as_words, one_of_three}, RunTokenLemmas.{runs-Reads}}
use Rattle.fc_text.{proofs.TokenLemmas.{moves-Reads, Reads}, specs.{Lines.{Piece, words_from}, Notation.{BadToken}}}
use Rattle.fc_text.specs.Notation.{BadTokenAt, fault_or_moves, HasToken, IsRunToken, IsToken, Listed, listed_by}
use Rattle.fc_text.specs.Notation.{ListFault, most_moves, separates_tokens, TooMany, TooManyAt}
use Rattle.fc_text.specs.{reader.{move_named, run_named}, Readings.{moves_read, runs_read}}

-- ---- what names nothing, among the first of a list
module _ {X Y : Type 0} (name : X → Option Y) where
  abbrev Named : X → Type 0
  Named x = (y : Y) × (name x ≡ Some y)

  none_unnamed : (xs : List X) → All Named xs → find (λ x. is_none (name x)) xs ≡ None
  none_unnamed [] all = refl
  none_unnamed (x ∷ xs) all =
      ap (λ answer. cond (is_none answer) (Some x) (find (λ x. is_none (name x)) xs)) (All-head Named x xs all).1
      ∙ none_unnamed xs (All-tail Named x xs all)

  none_before : (n : ℕ) (good later : List X) → length good ≡ n → All Named good → find (λ x. is_none (name x)) (take n (good ++ later)) ≡ None
  none_before zero [] later long all = refl
  none_before (suc n) [] later long all = absurd (omega arith)
  none_before zero (x ∷ good) later long all = absurd (omega arith)
  none_before (suc n) (x ∷ good) later long all =
      ap (λ answer. cond (is_none answer) (Some x) (find (λ x. is_none (name x)) (take n (good ++ later)))) (All-head Named x good all).1
      ∙ none_before n good later (omega arith) (All-tail Named x good all)

  first_unnamed : (n : ℕ) (good : List X) (bad : X) (later : List X) → length good < n → All Named good → name bad ≡ None
      → find (λ x. is_none (name x)) (take n (good ++ bad ∷ later)) ≡ Some bad
  first_unnamed zero good bad later few all none = absurd (omega arith)
  first_unnamed (suc n) [] bad later few all none =
      ap (λ answer. cond (is_none answer) (Some bad) (find (λ x. is_none (name x)) (take n later))) none
  first_unnamed (suc n) (x ∷ good) bad later few all none =
      ap (λ answer. cond (is_none answer) (Some x) (find (λ x. is_none (name x)) (take n (good ++ bad ∷ later)))) (All-head Named x good all).1
      ∙ first_unnamed n good bad later (omega arith) (All-tail Named x good all) none

at_place : {X : Type 0} (n : ℕ) (good : List X) (next : X) (later : List X) → length good ≡ n → slice_get (good ++ next ∷ later) n ≡ Some next
at_place zero [] next later long = refl
at_place (suc n) [] next later long = absurd (omega arith)
at_place zero (x ∷ good) next later long = absurd (omega arith)
at_place (suc n) (x ∷ good) next later long = at_place n good next later (omega arith)

-- ---- words that are read
abbrev texts_of : Piece → List ℕ
texts_of word = word.bytes

fault_or_moves-same : {Item : Type 0} (bad beyond bad' beyond' : Option Piece) (items items' : List Item) → bad ≡ bad' → beyond ≡ beyond' → items ≡ items'
    → fault_or_moves bad beyond items ≡ fault_or_moves bad' beyond' items'
fault_or_moves-same bad beyond bad' beyond' items items' e f g =
    ap₂ (λ bad beyond. fault_or_moves bad beyond items) e f ∙ ap (fault_or_moves bad' beyond') g

-- what a text does where this is the answer
record Answers {Item : Type 0} (Names : List ℕ → Item → Type 0) (text : List ℕ) (answer : Result (List Item) ListFault) : Type 0 where
  lists : (items : List Item) → answer ≡ Ok items → Listed Names text items
  bad_token : (place : ℕ) → answer ≡ Err (BadToken place) → BadTokenAt Names text place
  too_many : (place : ℕ) → answer ≡ Err (TooMany place) → TooManyAt Names text place

module _ {Item : Type 0} (Names : List ℕ → Item → Type 0) (named : List ℕ → Option Item) (reads : Reads Names named) where
  abbrev named_by : Piece → Option Item
  named_by word = named word.bytes

  all_named : (words : List Piece) → All (HasToken Names) words → All (Named named_by) words
  all_named words = All-weaker (HasToken Names) (Named named_by) (λ word has. (has.0, (reads word.bytes has.0).0 has.1)) words

  not_named : (word : Piece) → ¬ HasToken Names word → named word.bytes ≡ None
  not_named word never = by_answer (named word.bytes) refl
    where
      by_answer : (answer : Option Item) → named word.bytes ≡ answer → answer ≡ None
      by_answer None e = refl
      by_answer (Some item) e = absurd (never (item, (reads word.bytes item).1 e))

  items_of : (words : List Piece) (items : List Item) → AllZip Names (map texts_of words) items → filter_map named_by words ≡ items
  items_of [] [] zip = refl
  items_of [] (item ∷ items) zip = absurd zip
  items_of (word ∷ words) [] zip = absurd zip
  items_of (word ∷ words) (item ∷ items) (is, zip) = ap₂ cons_option ((reads word.bytes item).0 is) (items_of words items zip)

  module _ (text : List ℕ) where
    abbrev answer : Result (List Item) ListFault
    answer = listed_by named (words_from separates_tokens 0 text)

    pub read-Listed : (items : List Item) → Listed Names text items → answer ≡ Ok items
    read-Listed items listed =
        let words = words_from separates_tokens 0 text in
        let all = each_from_zip texts_of Names words items listed.tokens in
        let long = items_as_words Names text items listed.tokens in
        let short = listed.at_most in
        fault_or_moves-same _ _ None None _ items
        (ap (find (λ word. is_none (named word.bytes))) (take_all most_moves words (omega arith)) ∙ none_unnamed named_by words (all_named words all))
        (slice_get_past words most_moves (omega arith))
        (items_of words items listed.tokens)

    pub read-BadTokenAt : (place : ℕ) → BadTokenAt Names text place → answer ≡ Err (BadToken place)
    read-BadTokenAt place is =
        ap (listed_by named) is.words_are
        ∙ ap (λ bad. fault_or_moves bad (slice_get (is.good ++ is.word ∷ is.later) most_moves) (filter_map named_by (is.good ++ is.word ∷ is.later)))
        (first_unnamed named_by most_moves is.good is.word is.later is.is_fault.0 (all_named is.good is.all_good) (not_named is.word is.is_fault.1))
        ∙ ap (λ start. Err (BadToken start)) is.starts

    pub read-TooManyAt : (place : ℕ) → TooManyAt Names text place → answer ≡ Err (TooMany place)
    read-TooManyAt place is =
        ap (listed_by named) is.words_are
        ∙ ap₂ (λ bad beyond. fault_or_moves bad beyond (filter_map named_by (is.good ++ is.word ∷ is.later)))
        (none_before named_by most_moves is.good (is.word ∷ is.later) is.is_fault (all_named is.good is.all_good))
        (at_place most_moves is.good is.word is.later is.is_fault)
        ∙ ap (λ start. Err (TooMany start)) is.starts

    -- ---- the ways back
    answers_so : ((items : List Item) × Listed Names text items) ⊎ ((place : ℕ) × BadTokenAt Names text place) ⊎ ((place : ℕ) × TooManyAt Names text place)
        → Answers Names text answer
    answers_so (inl (items, is)) = subst (Answers Names text) (sym (read-Listed items is)) (record {
      lists = λ other e. subst (Listed Names text) (cc) is;
      bad_token = λ place e. cc;
      too_many = λ place e. cc;
    })
    answers_so (inr (inl (place, is))) = subst (Answers Names text) (sym (read-BadTokenAt place is)) (record {
      lists = λ items e. cc;
      bad_token = λ other e. subst (BadTokenAt Names text) (cc) is;
      too_many = λ other e. cc;
    })
    answers_so (inr (inr (place, is))) = subst (Answers Names text) (sym (read-TooManyAt place is)) (record {
      lists = λ items e. cc;
      bad_token = λ other e. cc;
      too_many = λ other e. subst (TooManyAt Names text) (cc) is;
    })

    answers_truly : Answers Names text answer
    answers_truly = answers_so (one_of_three Names named reads text)

    pub read_listed-exactly : (items : List Item) → answer ≡ Ok items ↔ Listed Names text items
    read_listed-exactly items = (answers_truly.lists items, read-Listed items)

    pub read_bad_token-exactly : (place : ℕ) → answer ≡ Err (BadToken place) ↔ BadTokenAt Names text place
    read_bad_token-exactly place = (answers_truly.bad_token place, read-BadTokenAt place)

    pub read_too_many-exactly : (place : ℕ) → answer ≡ Err (TooMany place) ↔ TooManyAt Names text place
    read_too_many-exactly place = (answers_truly.too_many place, read-TooManyAt place)

-- ---- moves of one card
pub moves_read-BadTokenAt : (game : Game) (text : List ℕ) (place : ℕ) → game.cells ≤ 8 → BadTokenAt (IsToken game) text place
    → moves_read game text ≡ Err (BadToken place)
moves_read-BadTokenAt game text place few = read-BadTokenAt (IsToken game) (move_named game) (moves-Reads game few) text place

pub moves_read-TooManyAt : (game : Game) (text : List ℕ) (place : ℕ) → game.cells ≤ 8 → TooManyAt (IsToken game) text place
    → moves_read game text ≡ Err (TooMany place)
moves_read-TooManyAt game text place few = read-TooManyAt (IsToken game) (move_named game) (moves-Reads game few) text place

pub listed-exactly : (game : Game) (text : List ℕ) (moves : List Move) → game.cells ≤ 8 → moves_read game text ≡ Ok moves ↔ Listed (IsToken game) text moves
listed-exactly game text moves few = read_listed-exactly (IsToken game) (move_named game) (moves-Reads game few) text moves

-- ---- moves of several cards
pub runs_read-BadTokenAt : (game : Game) (text : List ℕ) (place : ℕ) → game.cells ≤ 8 → BadTokenAt (IsRunToken game) text place
    → runs_read game text ≡ Err (BadToken place)
runs_read-BadTokenAt game text place few = read-BadTokenAt (IsRunToken game) (run_named game) (runs-Reads game few) text place

pub runs_read-TooManyAt : (game : Game) (text : List ℕ) (place : ℕ) → game.cells ≤ 8 → TooManyAt (IsRunToken game) text place
    → runs_read game text ≡ Err (TooMany place)
runs_read-TooManyAt game text place few = read-TooManyAt (IsRunToken game) (run_named game) (runs-Reads game few) text place

pub runs_listed-exactly : (game : Game) (text : List ℕ) (moves : List RunMove) → game.cells ≤ 8 → runs_read game text ≡ Ok moves ↔ Listed (IsRunToken game) text moves
runs_listed-exactly game text moves few = read_listed-exactly (IsRunToken game) (run_named game) (runs-Reads game few) text moves
