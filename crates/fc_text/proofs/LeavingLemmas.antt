-- The loops of a reader: what is left of the items of a text after a line, and of a line after a word.
use Rattle.std.proofs.Common.{◌++◌, ◌+◌, ◌-◌, ◌<◌, ◌∙◌, ◌∷◌, ◌≡◌, ◌≤◌, [], ap, arith, drop, Err, false, get_or, length}
use Rattle.std.proofs.Common.{List, map, None, not, Ok, Result, Some, subst, sym, take, ℕ}
use Rattle.std.proofs.lemmas.{Grind.{flat_map-append}, List.{length-drop, length-take}}
use Rattle.std.{proofs.Math.{ListN.{drop_of_length-le}, Seq.{take-length}}, specs.List.{flat_map, prefix_len}}
use Rattle.std.specs.Option.{option_or}
use Rattle.fc_board.specs.Games.{Game}
use Rattle.fc_text.proofs.{KnownLemmas.{after-append}, TakingLemmas.{fault-append, rows_first, word_at, WordAt}}
use Rattle.fc_text.specs.{Bytes.{is_gap}, Faults.{Item, items_of_row}, Lines.{Piece, words_from}, reader.{after_items}}
use Rattle.fc_text.specs.reader.{first_known_fault, has_room, is_begun, IsHead, items_left, items_of_line}
use Rattle.fc_text.specs.reader.{items_of_words, Known, Leaves, LeavesWords, rows_left, rows_of_line, TakesItems}
use Rattle.fc_text.specs.Rows.{line_of, row_of}
use Rattle.fc_text.specs.declared.{board.reader.Section.{Section}, fault.BoardFault.{BoardFault}}

-- ---- some items, and those that are left

-- once the front is taken, the rest is left
pub front_taken : (game : Game) (old : Known) (xs ys : List Item) (new : Known)
    → first_known_fault game old xs ≡ None → new ≡ after_items old xs → Leaves game old (xs ++ ys) new ys
front_taken game old xs ys new none e = record {
  faults = fault-append game old xs ys
      ∙ ap (λ fault. option_or fault (first_known_fault game (after_items old xs) ys)) none
      ∙ ap (λ known. first_known_fault game known ys) (sym e);
  knows = after-append old xs ys ∙ ap (λ known. after_items known ys) (sym e);
}

-- a fault of the front is that of all
pub front_at_fault : (game : Game) (old : Known) (xs ys : List Item) (fault : BoardFault)
    → first_known_fault game old xs ≡ Some fault → first_known_fault game old (xs ++ ys) ≡ Some fault
front_at_fault game old xs ys fault e =
    fault-append game old xs ys ∙ ap (λ fault. option_or fault (first_known_fault game (after_items old xs) ys)) e

-- so much was left, and of that this is left
pub left_of_left : {game : Game} {first : Known} {items : List Item} {old : Known} {more : List Item} {new : Known} {left : List Item}
    → Leaves game first items old more → Leaves game old more new left → Leaves game first items new left
left_of_left before after = record {
  faults = before.faults ∙ after.faults;
  knows = before.knows ∙ after.knows;
}

-- what the rest gives is what all give
pub all_taken : {X : Type 0} (game : Game) (first middle last : Known) (items left : List Item) (result : Result X BoardFault)
    → Leaves game first items middle left → TakesItems game middle left last result → TakesItems game first items last result
all_taken game first middle last items left (Ok taken) leaves takes = (leaves.faults ∙ takes.0, takes.1 ∙ sym leaves.knows)
all_taken game first middle last items left (Err fault) leaves takes = leaves.faults ∙ takes

-- ---- line by line

-- the items of the first line, and those that are left after it, of lines as they are cut from their text
line_split : (old : Known) (left : List Piece) (line : Piece) (next : List Piece) → left ≡ line ∷ next
    → items_left old (map line_of left) ≡ items_of_line old (line_of line) ++ items_left (after_items old (items_of_line old (line_of line))) (map line_of next)
line_split old left line next e =
    ap (λ left. items_left old (map line_of left)) e
    ∙ ap (flat_map items_of_row) (rows_first old (line_of line) (map line_of next))
    ∙ flat_map-append items_of_row (rows_of_line (is_begun old) (has_room old) (line_of line)) (rows_left (after_items old (items_of_line old (line_of line))) (map line_of next))

pub next_line_taken : (game : Game) (old new : Known) (left : List Piece) (line : Piece) (next : List Piece) → left ≡ line ∷ next
    → first_known_fault game old (items_of_line old (line_of line)) ≡ None → new ≡ after_items old (items_of_line old (line_of line))
    → Leaves game old (items_left old (map line_of left)) new (items_left new (map line_of next))
next_line_taken game old new left line next e none known =
    subst (λ items. Leaves game old items new (items_left new (map line_of next)))
    (sym (line_split old left line next e ∙ ap (λ known. items_of_line old (line_of line) ++ items_left known (map line_of next)) (sym known)))
    (front_taken game old (items_of_line old (line_of line)) (items_left new (map line_of next)) new none known)

pub next_line_at_fault : (game : Game) (old : Known) (left : List Piece) (line : Piece) (next : List Piece) (fault : BoardFault) → left ≡ line ∷ next
    → first_known_fault game old (items_of_line old (line_of line)) ≡ Some fault
    → first_known_fault game old (items_left old (map line_of left)) ≡ Some fault
next_line_at_fault game old left line next fault e found =
    ap (first_known_fault game old) (line_split old left line next e)
    ∙ front_at_fault game old (items_of_line old (line_of line)) (items_left (after_items old (items_of_line old (line_of line))) (map line_of next)) fault found

-- ---- word by word

-- the words of a line from this index on
abbrev pub words_at : Section → ℕ → List ℕ → ℕ → List Item
words_at section start bytes at = items_of_words section (words_from is_gap (start + at) (drop at bytes))

-- all bytes from an index on
pub rest_of : (bytes : List ℕ) (at : ℕ) → take (length bytes - at) (drop at bytes) ≡ drop at bytes
rest_of bytes at = ap (λ n. take n (drop at bytes)) (sym (length-drop at bytes)) ∙ take-length (drop at bytes)

-- the word at an index, as the loop cuts it
abbrev word_item : Section → ℕ → List ℕ → ℕ → ℕ → Item
word_item section start bytes at k = record { section = section; place = start + at; word = Some (take (at + k - at) (drop at bytes)) }

word_split : (section : Section) (start : ℕ) (bytes : List ℕ) (at k : ℕ) → at < length bytes → is_gap (get_or bytes at 0) ≡ false
    → k ≡ prefix_len (λ byte. not (is_gap byte)) (take (length bytes - at) (drop at bytes))
    → words_at section start bytes at ≡ word_item section start bytes at k ∷ words_at section start bytes (at + k)
word_split section start bytes at k inside gap e =
    ap (items_of_words section) (subst (WordAt start bytes at) (sym (e ∙ ap (prefix_len (λ byte. not (is_gap byte))) (rest_of bytes at))) (word_at start bytes at inside gap)).words
    ∙ ap (λ n. record { section = section; place = start + at; word = Some (take n (drop at bytes)) } ∷ words_at section start bytes (at + k)) (let same : k ≡ at + k - at = omega arith in same)

-- one turn of the loop over words
pub word_turn : (game : Game) (old new : Known) (section : Section) (start : ℕ) (bytes : List ℕ) (at k : ℕ) → at < length bytes → is_gap (get_or bytes at 0) ≡ false
    → k ≡ prefix_len (λ byte. not (is_gap byte)) (take (length bytes - at) (drop at bytes))
    → first_known_fault game old (word_item section start bytes at k ∷ []) ≡ None → new ≡ after_items old (word_item section start bytes at k ∷ [])
    → Leaves game old (words_at section start bytes at) new (words_at section start bytes (at + k))
word_turn game old new section start bytes at k inside gap e none known =
    subst (λ items. Leaves game old items new (words_at section start bytes (at + k))) (sym (word_split section start bytes at k inside gap e))
    (front_taken game old (word_item section start bytes at k ∷ []) (words_at section start bytes (at + k)) new none known)

-- the turn that ends with a fault
pub word_fault : (game : Game) (old : Known) (section : Section) (start : ℕ) (bytes : List ℕ) (at k : ℕ) (fault : BoardFault) → at < length bytes → is_gap (get_or bytes at 0) ≡ false
    → k ≡ prefix_len (λ byte. not (is_gap byte)) (take (length bytes - at) (drop at bytes))
    → first_known_fault game old (word_item section start bytes at k ∷ []) ≡ Some fault → first_known_fault game old (words_at section start bytes at) ≡ Some fault
word_fault game old section start bytes at k fault inside gap e found =
    ap (first_known_fault game old) (word_split section start bytes at k inside gap e)
    ∙ front_at_fault game old (word_item section start bytes at k ∷ []) (words_at section start bytes (at + k)) fault found

-- no word is left at the end
pub no_words : (section : Section) (start : ℕ) (bytes : List ℕ) (at : ℕ) → length bytes ≤ at → words_at section start bytes at ≡ []
no_words section start bytes at h = ap (λ bytes. items_of_words section (words_from is_gap (start + at) bytes)) (drop_of_length-le bytes h)

pub words_first : (section : Section) (start : ℕ) (bytes : List ℕ) → items_of_words section (words_from is_gap start bytes) ≡ words_at section start bytes 0
words_first section start bytes = ap (λ place. items_of_words section (words_from is_gap place bytes)) (omega arith)

-- ---- a row

-- the beginning of a line is taken, and then its words
pub row_taken : {X : Type 0} (game : Game) (old between new : Known) (start head : ℕ) (bytes : List ℕ) (section : Section) (result : Result X BoardFault)
    → IsHead start bytes section head
    → (let item : Item = record { section = section; place = start; word = None } in
    first_known_fault game old (item ∷ []) ≡ None → between ≡ after_items old (item ∷ [])
    → TakesItems game between (items_of_words section (words_from is_gap (start + head) (take (length bytes - head) (drop head bytes)))) new result
    → TakesItems game old (items_of_row (row_of start bytes)) new result)
row_taken game old between new start head bytes section result found none e takes =
    let item : Item = record { section = section; place = start; word = None } in
    let words = items_of_words section (words_from is_gap (start + head) (take (length bytes - head) (drop head bytes))) in
    let split : item ∷ words ≡ items_of_row (row_of start bytes) =
    ap (λ rest. items_of_row (record { section = section; start = start; words = words_from is_gap (start + head) rest })) (rest_of bytes head) ∙ ap items_of_row (sym found) in
    subst (λ items. TakesItems game old items new result) split
    (all_taken game old between new (item ∷ words) words result (front_taken game old (item ∷ []) words between none e) takes)

-- ---- cards that are taken from the front of a line, one after another

-- the words that are left are taken after those of the front
pub then_left : {X : Type 0} (game : Game) (section : Section) (first middle last : Known) (bytes left : List ℕ) (start further : ℕ) (result : Result X BoardFault)
    → LeavesWords game section first bytes middle left → further ≡ start + (length bytes - length left)
    → TakesItems game middle (items_of_words section (words_from is_gap further left)) last result
    → TakesItems game first (items_of_words section (words_from is_gap start bytes)) last result
then_left game section first middle last bytes left start further result leaves e takes =
    all_taken game first middle last _ (items_of_words section (words_from is_gap further left)) result
    (subst (λ place. Leaves game first (items_of_words section (words_from is_gap start bytes)) middle (items_of_words section (words_from is_gap place left))) (sym e) (leaves.items start)) takes

-- where the rest begins, of a line whose words come after its head
pub further : (bytes : List ℕ) (head start left : ℕ) → head ≤ length bytes → left ≤ length (take (length bytes - head) (drop head bytes))
    → start + (length bytes - left) ≡ start + head + (length (take (length bytes - head) (drop head bytes)) - left)
further bytes head start left within fits =
    let cut = length-take (length bytes - head) (drop head bytes) in
    let rest = length-drop head bytes in
    omega (arith, within, fits, cut, rest)
