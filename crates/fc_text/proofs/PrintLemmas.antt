-- Lists as they are printed: one token after another, at the end of what was printed.
use Rattle.std.proofs.Common.{◌*◌, ◌++◌, ◌+◌, ◌-◌, ◌<◌, ◌∙◌, ◌∷◌, ◌≡◌, ◌≤◌, [], All, ap, append-nil, append_assoc}
use Rattle.std.proofs.Common.{arith, get_or, length, length-append, length-take, List, map, refl, subst, suc, sym, take}
use Rattle.std.proofs.{Common.{zero, ℕ}, lemmas.List.{Elements.{All-head, All-tail}, Sums.{sum_by-cons}, take_more}}
use Rattle.std.specs.List.{AllZip, join_with_byte, sum_by}
use Rattle.std.proofs.Math.Nat.{zero-add}
use Rattle.fc_board.{proofs.BoardLemmas.{All-left}, specs.{Games.{Game}, Moves.{Fits, RunFits}}}
use Rattle.fc_board.specs.declared.{moves.Move.{Move}, run_move.RunMove.{RunMove}}
use Rattle.fc_text.proofs.ListedLemmas.{each_from_zip, one_zip}
use Rattle.fc_text.proofs.RunTokenLemmas.{one_run, run_solid, run_token-IsRunToken}
use Rattle.fc_text.proofs.TokenLemmas.{IsSolid, one_move, token-IsSolid, token-IsToken}
use Rattle.fc_text.{proofs.WordLemmas.{EndsWord, first_word}, specs.{Bytes.{blank}, Lines.{Piece, words, words_from}}}
use Rattle.fc_text.specs.Notation.{HasToken, IsRunToken, IsToken, Listed, most_moves, run_token, separates_tokens}
use Rattle.fc_text.specs.{Notation.{token, TooManyAt}, reader.{print_moves, print_runs}}

module _ {Item : Type 0} (token_of : Item → List ℕ) where
  abbrev printed : List Item → List ℕ
  printed items = join_with_byte blank (map token_of items)

  -- a blank after items
  abbrev gap_after : List Item → List ℕ
  gap_after [] = []
  gap_after (item ∷ items) = blank ∷ []

  printed-push : (items : List Item) (item : Item) → printed (items ++ item ∷ []) ≡ printed items ++ (gap_after items ++ token_of item)
  printed-push [] item = refl
  printed-push (first ∷ []) item = refl
  printed-push (first ∷ second ∷ items) item =
      ap (λ later. token_of first ++ (blank ∷ later)) (printed-push (second ∷ items) item)
      ∙ sym (append_assoc (token_of first) (blank ∷ printed (second ∷ items)) (blank ∷ token_of item))

  pub printed_first : (items : List Item) (index : ℕ) (item : Item) → index ≤ 0 → index < length items
      → printed (take (index + 1) items) ≡ printed (take index items) ++ token_of (get_or items index item)
  printed_first items zero item none more = ap printed (take_more items 0 item more) ∙ printed-push (take 0 items) (get_or items 0 item)
  printed_first items (suc index) item none more = absurd (omega arith)

  pub printed_next : (items : List Item) (index : ℕ) (item : Item) → 0 < index → index < length items
      → printed (take (index + 1) items) ≡ printed (take index items) ++ (blank ∷ token_of (get_or items index item))
  printed_next (first ∷ items) (suc index) item some more =
      ap printed (take_more (first ∷ items) (suc index) item more) ∙ printed-push (take (suc index) (first ∷ items)) (get_or (first ∷ items) (suc index) item)
  printed_next [] index item some more = absurd (omega arith)
  printed_next items zero item some more = absurd (omega arith)

  -- the loop's next turn: the token of this item goes after what is printed, and after a blank where something is
  module _ (old : List ℕ) (items : List Item) (index : ℕ) (one : Item) (before whole : List ℕ) (more : index < length items) (at : get_or items index one ≡ one)
      (so_far : before ≡ old ++ printed (take index items)) where
    pub first_put : index ≡ 0 → whole ≡ before ++ token_of one → whole ≡ old ++ printed (take (index + 1) items)
    first_put none put =
        put ∙ ap (λ text. text ++ token_of one) so_far
        ∙ append_assoc old (printed (take index items)) (token_of one)
        ∙ ap (λ text. old ++ text) (ap (λ item. printed (take index items) ++ token_of item) (sym at) ∙ sym (printed_first items index one (omega (arith, none)) more))

    pub next_put : ¬ (index ≡ 0) → whole ≡ before ++ (blank ∷ token_of one) → whole ≡ old ++ printed (take (index + 1) items)
    next_put some put =
        put ∙ ap (λ text. text ++ (blank ∷ token_of one)) so_far
        ∙ append_assoc old (printed (take index items)) (blank ∷ token_of one)
        ∙ ap (λ text. old ++ text) (ap (λ item. printed (take index items) ++ (blank ∷ token_of item)) (sym at) ∙ sym (printed_next items index one (omega (arith, some)) more))

-- ---- the words of a printed list are the tokens of its items, so it lists just these
abbrev piece : ℕ → List ℕ → Piece
piece place bytes = record { start = place; bytes = bytes }

solid_first : (place : ℕ) (bytes rest : List ℕ) → IsSolid bytes → EndsWord separates_tokens rest
    → words_from separates_tokens place (bytes ++ rest) ≡ piece place bytes ∷ words_from separates_tokens (place + length bytes) rest
solid_first place [] rest (some, solid) ends = absurd (omega arith)
solid_first place (byte ∷ bytes) rest (some, solid) ends = first_word separates_tokens place byte bytes rest solid ends

-- each item that may be printed has a token, and the token names the item
record AreTokens {Item : Type 0} (Names : List ℕ → Item → Type 0) (token_of : Item → List ℕ) (CanPrint : Item → Type 0) : Type 0 where
  solid : (item : Item) → CanPrint item → IsSolid (token_of item)
  name : (item : Item) → CanPrint item → Names (token_of item) item

module _ {Item : Type 0} (Names : List ℕ → Item → Type 0) (token_of : Item → List ℕ) (CanPrint : Item → Type 0) (are : AreTokens Names token_of CanPrint) where
  -- the tokens of a printed list, from a place on
  abbrev token_words : ℕ → List Item → List Piece
  token_words place [] = []
  token_words place (item ∷ items) = piece place (token_of item) ∷ token_words (place + length (token_of item) + 1) items

  words_from-printed : (place : ℕ) (items : List Item) → All CanPrint items → words_from separates_tokens place (printed token_of items) ≡ token_words place items
  words_from-printed place [] can = refl
  words_from-printed place (item ∷ []) can =
      ap (words_from separates_tokens place) (sym (append-nil (token_of item)))
      ∙ solid_first place (token_of item) [] (are.solid item (All-head CanPrint item [] can)) tt
  words_from-printed place (item ∷ next ∷ items) can =
      solid_first place (token_of item) (blank ∷ printed token_of (next ∷ items)) (are.solid item (All-head CanPrint item (next ∷ items) can)) refl
      ∙ ap (λ later. piece place (token_of item) ∷ later)
      (words_from-printed (place + length (token_of item) + 1) (next ∷ items) (All-tail CanPrint item (next ∷ items) can))

  bytes_of_tokens : (place : ℕ) (items : List Item) → map (λ word. word.bytes) (token_words place items) ≡ map token_of items
  bytes_of_tokens place [] = refl
  bytes_of_tokens place (item ∷ items) = ap (λ later. token_of item ∷ later) (bytes_of_tokens (place + length (token_of item) + 1) items)

  words-printed : (items : List Item) → All CanPrint items → words separates_tokens (printed token_of items) ≡ map token_of items
  words-printed items can = ap (map (λ word. word.bytes)) (words_from-printed 0 items can) ∙ bytes_of_tokens 0 items

  tokens_name : (items : List Item) → All CanPrint items → AllZip Names (map token_of items) items
  tokens_name [] can = tt
  tokens_name (item ∷ items) can = (are.name item (All-head CanPrint item items can), tokens_name items (All-tail CanPrint item items can))

  printed_words_name : (items : List Item) → All CanPrint items → AllZip Names (words separates_tokens (printed token_of items)) items
  printed_words_name items can = subst (λ found. AllZip Names found items) (sym (words-printed items can)) (tokens_name items can)

  printed-Listed : (items : List Item) → All CanPrint items → length items ≤ most_moves → Listed Names (printed token_of items) items
  printed-Listed items can short = record { tokens = printed_words_name items can; at_most = short }

  printed-injective : ((word : List ℕ) (item other : Item) → Names word item → Names word other → item ≡ other)
      → (items other : List Item) → All CanPrint items → All CanPrint other → printed token_of items ≡ printed token_of other → items ≡ other
  printed-injective one items other can can' e =
      one_zip Names one (words separates_tokens (printed token_of other)) items other
      (subst (λ text. AllZip Names (words separates_tokens text) items) e (printed_words_name items can))
      (printed_words_name other can')

  -- ---- too many
  -- how many bytes the tokens take, each with a blank after it
  abbrev width : List Item → ℕ
  width [] = 0
  width (item ∷ items) = length (token_of item) + 1 + width items

  split_at : (count place : ℕ) (items : List Item) → count < length items
      → (good : List Piece) × (next : Piece) × (later : List Piece) × (token_words place items ≡ good ++ next ∷ later) × (length good ≡ count) × (next.start ≡ place + width (take count items))
  split_at count place [] more = absurd (omega arith)
  split_at zero place (item ∷ items) more = ([], piece place (token_of item), token_words (place + length (token_of item) + 1) items, refl, refl, omega arith)
  split_at (suc count) place (item ∷ items) more =
      let (good, next, later, found, long, start) = split_at count (place + length (token_of item) + 1) items (omega arith) in
      (piece place (token_of item) ∷ good, next, later, ap (λ l. piece place (token_of item) ∷ l) found, omega arith, omega arith)

  width-printed : (items : List Item) → 0 < length items → width items ≡ length (printed token_of items) + 1
  width-printed [] some = absurd (omega arith)
  width-printed (item ∷ []) some = omega arith
  width-printed (item ∷ next ∷ items) some =
      let rest = width-printed (next ∷ items) (omega arith) in
      let long = length-append (token_of item) (blank ∷ printed token_of (next ∷ items)) in
      omega arith

  printed-TooManyAt : (items : List Item) → All CanPrint items → most_moves < length items → TooManyAt Names (printed token_of items) (width (take most_moves items))
  printed-TooManyAt items can more =
      let (good, next, later, found, long, start) = split_at most_moves 0 items more in
      let words_are = words_from-printed 0 items can ∙ found in
      let all = each_from_zip (λ (word : Piece). word.bytes) Names (words_from separates_tokens 0 (printed token_of items)) items (printed_words_name items can) in
      record {
        good = good;
        word = next;
        later = later;
        words_are = words_are;
        all_good = All-left (HasToken Names) good (next ∷ later) (subst (All (HasToken Names)) words_are all);
        is_fault = long;
        starts = subst (λ at. next.start ≡ at) (zero-add (width (take most_moves items))) start;
      }

-- ---- moves of one card
moves_are : (game : Game) → game.cells ≤ 8 → AreTokens (IsToken game) token (Fits game)
moves_are game few = record { solid = token-IsSolid game few; name = token-IsToken game few }

pub print-Listed : (game : Game) (moves : List Move) → game.cells ≤ 8 → All (Fits game) moves → length moves ≤ most_moves → Listed (IsToken game) (print_moves moves) moves
print-Listed game moves few fits short = printed-Listed (IsToken game) token (Fits game) (moves_are game few) moves fits short

pub print-injective : (game : Game) (moves other : List Move) → game.cells ≤ 8 → All (Fits game) moves → All (Fits game) other → print_moves moves ≡ print_moves other → moves ≡ other
print-injective game moves other few = printed-injective (IsToken game) token (Fits game) (moves_are game few) (one_move game few) moves other

pub length-print : (moves : List Move) → length (print_moves moves) ≡ 3 * length moves - 1
length-print [] = refl
length-print (move ∷ []) = refl
length-print (move ∷ next ∷ moves) = let rest = length-print (next ∷ moves) in omega arith

pub print-TooManyAt : (game : Game) (moves : List Move) → game.cells ≤ 8 → All (Fits game) moves → most_moves < length moves → TooManyAt (IsToken game) (print_moves moves) 12288
print-TooManyAt game moves few fits more =
    subst (TooManyAt (IsToken game) (print_moves moves)) (three_each most_moves moves (omega arith))
    (printed-TooManyAt (IsToken game) token (Fits game) (moves_are game few) moves fits more)
  where
    three_each : (count : ℕ) (moves : List Move) → count ≤ length moves → width (IsToken game) token (Fits game) (moves_are game few) (take count moves) ≡ 3 * count
    three_each zero moves enough = refl
    three_each (suc count) [] enough = absurd (omega arith)
    three_each (suc count) (move ∷ moves) enough = let rest = three_each count moves (omega arith) in omega arith

-- ---- moves of several cards
runs_are : (game : Game) → game.cells ≤ 8 → AreTokens (IsRunToken game) run_token (RunFits game)
runs_are game few = record { solid = run_solid game few; name = run_token-IsRunToken game few }

pub print_runs-Listed : (game : Game) (moves : List RunMove) → game.cells ≤ 8 → All (RunFits game) moves → length moves ≤ most_moves
    → Listed (IsRunToken game) (print_runs moves) moves
print_runs-Listed game moves few fits short = printed-Listed (IsRunToken game) run_token (RunFits game) (runs_are game few) moves fits short

pub print_runs-injective : (game : Game) (moves other : List RunMove) → game.cells ≤ 8 → All (RunFits game) moves → All (RunFits game) other
    → print_runs moves ≡ print_runs other → moves ≡ other
print_runs-injective game moves other few = printed-injective (IsRunToken game) run_token (RunFits game) (runs_are game few) (one_run game few) moves other

pub print_runs-TooManyAt : (game : Game) (moves : List RunMove) → game.cells ≤ 8 → All (RunFits game) moves → most_moves < length moves
    → TooManyAt (IsRunToken game) (print_runs moves) (length (print_runs (take most_moves moves)) + 1)
print_runs-TooManyAt game moves few fits more =
    subst (TooManyAt (IsRunToken game) (print_runs moves))
    (width-printed (IsRunToken game) run_token (RunFits game) (runs_are game few) (take most_moves moves)
    (let long = length-take most_moves moves in omega arith))
    (printed-TooManyAt (IsRunToken game) run_token (RunFits game) (runs_are game few) moves fits more)

pub length-print_runs : (moves : List RunMove) → 0 < length moves → length (print_runs moves) + 1 ≡ sum_by (λ move. length (run_token move) + 1) moves
length-print_runs [] some = absurd (omega arith)
length-print_runs (move ∷ []) some = let one = sum_by-cons (λ (move : RunMove). length (run_token move) + 1) move [] in omega arith
length-print_runs (move ∷ next ∷ moves) some =
    let rest = length-print_runs (next ∷ moves) (omega arith) in
    let long = length-append (run_token move) (blank ∷ print_runs (next ∷ moves)) in
    let all = sum_by-cons (λ (move : RunMove). length (run_token move) + 1) move (next ∷ moves) in
    omega arith
