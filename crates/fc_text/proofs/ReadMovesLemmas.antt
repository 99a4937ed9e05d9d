-- Lists as they are read: word by word from the front.
use Rattle.std.proofs.Common.{◌++◌, ◌+◌, ◌-◌, ◌∙◌, ◌∷◌, ◌≡◌, ◌≤◌, [], All, ap, append-nil, arith, drop, drop-drop, Err}
use Rattle.std.proofs.Common.{false, get_or, IfErr, IfSome, is_none, length, length-append, List, map, None, Ok, Option}
use Rattle.std.proofs.Common.{refl, Result, Some, subst, sym, take, ℕ}
use Rattle.std.proofs.lemmas.{List.{append_assoc, length-drop, length-map}, Slice.Zip.{AllZip-long}}
use Rattle.std.specs.List.{AllZip}
use Rattle.fc_text.proofs.{ListedLemmas.{each_from_zip}, WordLemmas.{after_separator, first_word}}
use Rattle.fc_text.specs.{Bytes.{blank}, Lines.{Piece, with_end, words_from}}
use Rattle.fc_text.specs.Notation.{BadTokenAt, HasToken, Listed, most_moves, separates_tokens, TooManyAt}
use Rattle.fc_text.specs.reader.{BeginsWithPair, BeginsWithToken, IsInOnePiece, IsReadTo, ReadSoFar}

abbrev pieces : List (Piece × ℕ) → List Piece
pieces left = map (λ word. word.0) left

pieces_with_end : (words : List Piece) → pieces (map with_end words) ≡ words
pieces_with_end [] = refl
pieces_with_end (word ∷ words) = ap (λ later. word ∷ later) (pieces_with_end words)

zip_push : {A B C : Type 0} (R : B → C → Type 0) (f : A → B) (xs : List A) (ys : List C) (x : A) (y : C) → AllZip R (map f xs) ys → R (f x) y → AllZip R (map f (xs ++ x ∷ [])) (ys ++ y ∷ [])
zip_push R f [] [] x y zip r = (r, tt)
zip_push R f [] (z ∷ ys) x y zip r = absurd zip
zip_push R f (w ∷ xs) [] x y zip r = absurd zip
zip_push R f (w ∷ xs) (z ∷ ys) x y (first, zip) r = (first, zip_push R f xs ys x y zip r)

pub if_err : {X E : Type 0} (answer : Result X E) (P : Type 0) → P → IfErr answer (λ _. P)
if_err (Ok x) P holds = tt
if_err (Err e) P holds = holds

module _ {Item : Type 0} (Names : List ℕ → Item → Type 0) where
  -- ---- tokens of two bytes at the front

  -- two bytes between blanks are the first word
  pair_first : (bytes : List ℕ) (item : Item) → 4 ≤ length bytes → get_or bytes 0 0 ≡ blank → get_or bytes 3 0 ≡ blank
      → Names (take 2 (drop 1 bytes)) item → IsInOnePiece (take 2 (drop 1 bytes)) → BeginsWithPair Names bytes item
  pair_first [] item long gap next names solid = absurd (omega (arith, long))
  pair_first (a ∷ []) item long gap next names solid = absurd (omega (arith, long))
  pair_first (a ∷ b ∷ []) item long gap next names solid = absurd (omega (arith, long))
  pair_first (a ∷ b ∷ c ∷ []) item long gap next names solid = absurd (omega (arith, long))
  pair_first (a ∷ b ∷ c ∷ d ∷ rest) item long gap next names solid = record {
    word = b ∷ c ∷ [];
    names = names;
    long = omega (arith, long);
    words = λ start.
        after_separator separates_tokens start a (b ∷ c ∷ d ∷ rest) (ap separates_tokens gap)
        ∙ first_word separates_tokens (start + 1) b (c ∷ []) (d ∷ rest) solid (ap separates_tokens next)
        ∙ ap (λ place. record { start = start + 1; bytes = b ∷ c ∷ [] } ∷ words_from separates_tokens place (d ∷ rest)) (two_on start);
  }
    where
      two_on : (start : ℕ) → start + 1 + 2 ≡ start + 3
      two_on start = omega arith

  pub pair_named : (bytes : List ℕ) (answer : Option Item) → 4 ≤ length bytes → get_or bytes 0 0 ≡ blank → get_or bytes 3 0 ≡ blank
      → IfSome answer (Names (take 2 (drop 1 bytes))) → IfSome answer (λ _. IsInOnePiece (take 2 (drop 1 bytes))) → IfSome answer (BeginsWithPair Names bytes)
  pair_named bytes None long gap next names solid = tt
  pair_named bytes (Some item) long gap next names solid = pair_first bytes item long gap next names solid

  pub begins_with_token : (text : List ℕ) (answer : Option Item) → IfSome answer (BeginsWithPair Names text) → is_none answer ≡ false → BeginsWithToken Names text
  begins_with_token text None begins some = cc
  begins_with_token text (Some item) begins some =
      (record { start = 1; bytes = begins.word }, words_from separates_tokens 3 (drop 3 text), begins.words 0, (item, begins.names))

  pub begins_not_empty : (text : List ℕ) → BeginsWithToken Names text → words_from separates_tokens 0 text ≡ [] → ⊥
  begins_not_empty text (first, others, e, is) none = cc

  -- ---- word by word

  module _ (words : List Piece) (left next : List (Piece × ℕ)) (word : Piece × ℕ) (items : List Item) (read : ReadSoFar Names words (pieces left) items) (e : left ≡ word ∷ next) where
    words_around : words ≡ read.good ++ word.0 ∷ pieces next
    words_around = read.words_are ∙ ap (λ left. read.good ++ pieces left) e

    pub some_word : words ≡ [] → ⊥
    some_word none =
        let together = ap length (sym none ∙ words_around) ∙ length-append read.good (word.0 ∷ pieces next) in
        omega (arith, together)

    all_good : All (HasToken Names) read.good
    all_good = each_from_zip (λ (word : Piece). word.bytes) Names read.good items read.named

    good_as_items : length read.good ≡ length items
    good_as_items = sym (AllZip-long Names (map (λ word. word.bytes) read.good) items read.named ∙ length-map read.good (λ (word : Piece). word.bytes))

    -- with one more item
    pub read_next : (item : Item) → ¬ (length items ≡ most_moves) → Names word.0.bytes item → ReadSoFar Names words (pieces next) (items ++ item ∷ [])
    read_next item more is = record {
      good = read.good ++ word.0 ∷ [];
      words_are = words_around ∙ sym (append_assoc read.good (word.0 ∷ []) (pieces next));
      named = zip_push Names (λ (word : Piece). word.bytes) read.good items word.0 item read.named is;
      at_most = let long = length-append items (item ∷ []) in let few = read.at_most in omega (arith, more);
    }

  module _ (text : List ℕ) (left next : List (Piece × ℕ)) (word : Piece × ℕ) (items : List Item) (read : ReadSoFar Names (words_from separates_tokens 0 text) (pieces left) items) (e : left ≡ word ∷ next) where
    pub read_too_many : length items ≡ most_moves → TooManyAt Names text word.0.start
    read_too_many full = record {
      good = read.good;
      word = word.0;
      later = pieces next;
      words_are = words_around (words_from separates_tokens 0 text) left next word items read e;
      all_good = all_good (words_from separates_tokens 0 text) left next word items read e;
      is_fault = good_as_items (words_from separates_tokens 0 text) left next word items read e ∙ full;
      starts = refl;
    }

    pub read_bad : ¬ (length items ≡ most_moves) → ((item : Item) → ¬ Names word.0.bytes item) → BadTokenAt Names text word.0.start
    read_bad more none = record {
      good = read.good;
      word = word.0;
      later = pieces next;
      words_are = words_around (words_from separates_tokens 0 text) left next word items read e;
      all_good = all_good (words_from separates_tokens 0 text) left next word items read e;
      is_fault = (
        let long = good_as_items (words_from separates_tokens 0 text) left next word items read e in let most = read.at_most in omega (arith, more),
        λ (item, is). none item is,
      );
      starts = refl;
    }

  -- ---- from the front, by what is left

  -- the items are what the words before the bytes that are left are tokens of
  pub record IsLeft (text left : List ℕ) (items : List Item) : Type 0 where
    pub shorter : length left ≤ length text
    pub rest : left ≡ drop (length text - length left) text
    pub read : ReadSoFar Names (words_from separates_tokens 0 text) (words_from separates_tokens (length text - length left) left) items

  -- one more token of two bytes
  pub pair_read : (text left : List ℕ) (items : List Item) (item : Item) → IsLeft text left items → BeginsWithPair Names left item → ¬ (length items ≡ most_moves)
      → IsLeft text (drop 3 left) (items ++ item ∷ [])
  pair_read text left items item is begins more =
      let at = length text - length left in
      let word : Piece = record { start = at + 1; bytes = begins.word } in
      let words = words_from separates_tokens 0 text in
      let next = words_from separates_tokens (at + 3) (drop 3 left) in
      let shorter = length-drop 3 left in
      let further : at + 3 ≡ length text - length (drop 3 left) = omega (arith, shorter, is.shorter, begins.long) in
      let read = read_next words (map with_end (word ∷ next)) (map with_end next) (with_end word) items
      (subst (λ left. ReadSoFar Names words left items) (begins.words at ∙ sym (pieces_with_end (word ∷ next))) is.read) refl item more begins.names in
      record {
        shorter = omega (arith, shorter, is.shorter);
        rest = ap (drop 3) is.rest ∙ drop-drop 3 at text ∙ ap (λ n. drop n text) further;
        read =
            subst (λ place. ReadSoFar Names words (words_from separates_tokens place (drop 3 left)) (items ++ item ∷ [])) further
            (subst (λ left. ReadSoFar Names words left (items ++ item ∷ [])) (pieces_with_end next) read);
      }

  pub reads_from : (text : List ℕ) (at : ℕ) (left : List (Piece × ℕ)) (items : List Item) → IsReadTo Names text at items
      → left ≡ map with_end (words_from separates_tokens at (drop at text)) → ReadSoFar Names (words_from separates_tokens 0 text) (pieces left) items
  reads_from text at left items is e =
      subst (λ left. ReadSoFar Names (words_from separates_tokens 0 text) left items) (sym (ap pieces e ∙ pieces_with_end (words_from separates_tokens at (drop at text)))) is.read

  -- before the first word
  pub none_read : (text : List ℕ) (left : List (Piece × ℕ)) → left ≡ map with_end (words_from separates_tokens 0 text) → ReadSoFar Names (words_from separates_tokens 0 text) (pieces left) []
  none_read text left e = record {
    good = [];
    words_are = sym (ap pieces e ∙ pieces_with_end (words_from separates_tokens 0 text));
    named = tt;
    at_most = omega arith;
  }

  -- after the last word
  pub read_all : (text : List ℕ) (left : List (Piece × ℕ)) (items : List Item) → ReadSoFar Names (words_from separates_tokens 0 text) (pieces left) items → left ≡ [] → Listed Names text items
  read_all text left items read none = record {
    tokens = subst (λ words. AllZip Names (map (λ word. word.bytes) words) items) (sym (read.words_are ∙ ap (λ left. read.good ++ pieces left) none ∙ append-nil read.good)) read.named;
    at_most = read.at_most;
  }
