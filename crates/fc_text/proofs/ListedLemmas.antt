-- Each text is one of three: it lists moves, and then one list, or it has a bad token at one place, or it has too many words from one place on.
use Rattle.std.proofs.Common.{◌++◌, ◌<◌, ◌∙◌, ◌∷◌, ◌≡◌, ◌≤◌, ◌⊎◌, [], All, ap, ap₂, arith, inl, inr, length}
use Rattle.std.proofs.Common.{length-append, List, map, None, Option, refl, Some, subst, suc, sym, zero, ℕ}
use Rattle.std.proofs.lemmas.List.{Elements.{All-cons, All-head, All-nil, All-tail}, length-map}
use Rattle.std.{proofs.lemmas.Slice.Zip.{AllZip-long}, specs.List.{AllZip}}
use Rattle.fc_board.specs.{Games.{Game}, Moves.{Fits, RunFits}}
use Rattle.fc_board.specs.declared.{moves.Move.{Move}, run_move.RunMove.{RunMove}}
use Rattle.fc_text.proofs.{TokenLemmas.{one_move, Reads}, WordLemmas.{words_from-AreWords}}
use Rattle.fc_text.specs.{Lines.{IsWord, Piece, words, words_from}, Notation.{BadTokenAt, HasToken, IsRunToken}}
use Rattle.fc_text.specs.Notation.{IsToken, Listed, most_moves, separates_tokens, TooManyAt}

-- ---- two lists place by place
module _ {X A B : Type 0} (f : X → A) (R : A → B → Type 0) where
  -- what holds of each element picks a list
  pub zip_from_each : (xs : List X) → All (λ x. (b : B) × R (f x) b) xs → (ys : List B) × AllZip R (map f xs) ys
  zip_from_each [] each = ([], tt)
  zip_from_each (x ∷ xs) each =
      let (y, r) = All-head (λ x. (b : B) × R (f x) b) x xs each in
      let (ys, rs) = zip_from_each xs (All-tail (λ x. (b : B) × R (f x) b) x xs each) in
      (y ∷ ys, (r, rs))

  pub each_from_zip : (xs : List X) (ys : List B) → AllZip R (map f xs) ys → All (λ x. (b : B) × R (f x) b) xs
  each_from_zip [] ys zip = All-nil (λ x. (b : B) × R (f x) b)
  each_from_zip (x ∷ xs) [] zip = absurd zip
  each_from_zip (x ∷ xs) (y ∷ ys) (r, rs) = All-cons (λ x. (b : B) × R (f x) b) x xs (y, r) (each_from_zip xs ys rs)

pub one_zip : {A B : Type 0} (R : A → B → Type 0) → ((a : A) (b c : B) → R a b → R a c → b ≡ c) → (xs : List A) (ys zs : List B) → AllZip R xs ys → AllZip R xs zs → ys ≡ zs
one_zip R one [] [] [] zip zip' = refl
one_zip R one [] [] (z ∷ zs) zip zip' = absurd zip'
one_zip R one [] (y ∷ ys) zs zip zip' = absurd zip
one_zip R one (x ∷ xs) [] zs zip zip' = absurd zip
one_zip R one (x ∷ xs) (y ∷ ys) [] zip zip' = absurd zip'
one_zip R one (x ∷ xs) (y ∷ ys) (z ∷ zs) (r, rs) (r', rs') = ap₂ (λ w ws. w ∷ ws) (one x y z r r') (one_zip R one xs ys zs rs rs')

-- ---- the first element without the property, among the first n
module _ {X : Type 0} (P : X → Type 0) where
  record Bad (n : ℕ) (xs good : List X) (bad : X) (later : List X) : Type 0 where
    are : xs ≡ good ++ bad ∷ later
    all_good : All P good
    is_bad : ¬ P bad
    among_first : length good < n

  record Next (n : ℕ) (xs good : List X) (next : X) (later : List X) : Type 0 where
    are : xs ≡ good ++ next ∷ later
    all_good : All P good
    full : length good ≡ n

  abbrev OneOfThree : ℕ → List X → Type 0
  OneOfThree n xs = (All P xs × length xs ≤ n)
      ⊎ ((good : List X) × (bad : X) × (later : List X) × Bad n xs good bad later)
      ⊎ ((good : List X) × (next : X) × (later : List X) × Next n xs good next later)

  sorted_out : ((x : X) → P x ⊎ ¬ P x) → (n : ℕ) (xs : List X) → OneOfThree n xs
  sorted_out decide n [] = inl (All-nil P, omega arith)
  sorted_out decide zero (x ∷ xs) = inr (inr ([], x, xs, record { are = refl; all_good = All-nil P; full = refl }))
  sorted_out decide (suc n) (x ∷ xs) = elim (decide x) [
    | inr bad ↦ inr (inl ([], x, xs, record { are = refl; all_good = All-nil P; is_bad = bad; among_first = omega arith }))
    | inl good ↦ elim (sorted_out decide n xs) [
      | inl (all, few) ↦ inl (All-cons P x xs good all, omega arith)
      | inr refused ↦ elim refused [
        | inl (before, bad, later, is) ↦ let among = is.among_first in
            inr (inl (x ∷ before, bad, later, record { are = ap (λ l. x ∷ l) is.are; all_good = All-cons P x before good is.all_good; is_bad = is.is_bad; among_first = omega arith }))
        | inr (before, next, later, is) ↦ let full = is.full in
            inr (inr (x ∷ before, next, later, record { are = ap (λ l. x ∷ l) is.are; all_good = All-cons P x before good is.all_good; full = omega arith }))
      ]
    ]
  ]

  at_seam : (good : List X) (bad : X) (later : List X) → All P (good ++ bad ∷ later) → P bad
  at_seam [] bad later all = All-head P bad later all
  at_seam (g ∷ good) bad later all = at_seam good bad later (All-tail P g (good ++ bad ∷ later) all)

  same_bad : (good : List X) (bad : X) (later good' : List X) (bad' : X) (later' : List X) → good ++ bad ∷ later ≡ good' ++ bad' ∷ later'
      → All P good → All P good' → ¬ P bad → ¬ P bad' → bad ≡ bad'
  same_bad [] bad later [] bad' later' e all all' is is' = cc
  same_bad [] bad later (g ∷ good') bad' later' e all all' is is' =
      let same : g ≡ bad = cc in absurd (is (subst P same (All-head P g good' all')))
  same_bad (g ∷ good) bad later [] bad' later' e all all' is is' =
      let same : g ≡ bad' = cc in absurd (is' (subst P same (All-head P g good all)))
  same_bad (g ∷ good) bad later (g' ∷ good') bad' later' e all all' is is' =
      same_bad good bad later good' bad' later' (cc) (All-tail P g good all) (All-tail P g' good' all') is is'

  bad_is_not_past : (good : List X) (bad : X) (later good' : List X) (next : X) (later' : List X) → good ++ bad ∷ later ≡ good' ++ next ∷ later'
      → All P good' → length good < length good' → P bad
  bad_is_not_past good bad later [] next later' e all less = absurd (omega arith)
  bad_is_not_past [] bad later (g ∷ good') next later' e all less = let same : g ≡ bad = cc in subst P same (All-head P g good' all)
  bad_is_not_past (g ∷ good) bad later (g' ∷ good') next later' e all less =
      bad_is_not_past good bad later good' next later' (cc) (All-tail P g' good' all) (omega arith)

  same_next : (good : List X) (next : X) (later good' : List X) (next' : X) (later' : List X) → good ++ next ∷ later ≡ good' ++ next' ∷ later'
      → length good ≡ length good' → next ≡ next'
  same_next [] next later [] next' later' e long = cc
  same_next [] next later (g ∷ good') next' later' e long = absurd (omega arith)
  same_next (g ∷ good) next later [] next' later' e long = absurd (omega arith)
  same_next (g ∷ good) next later (g' ∷ good') next' later' e long = same_next good next later good' next' later' (cc) (omega arith)

-- ---- texts
abbrev bytes_of : Piece → List ℕ
bytes_of word = word.bytes

-- what is before a word starts within the text
word_in_text : (text : List ℕ) (good : List Piece) (word : Piece) (later : List Piece) → words_from separates_tokens 0 text ≡ good ++ word ∷ later → word.start < length text
word_in_text text good word later are =
    let all = subst (All (IsWord separates_tokens 0 text)) are (words_from-AreWords separates_tokens 0 text).all_words in
    let is = at_seam (IsWord separates_tokens 0 text) good word later all in
    let some = is.some_bytes in
    let start = is.is_piece.starts in
    let long = ap length is.is_piece.text_is ∙ length-append is.is_piece.before (word.bytes ++ is.is_piece.after) in
    let longer = length-append word.bytes is.is_piece.after in
    omega arith

module _ {Item : Type 0} (Names : List ℕ → Item → Type 0) where
  pub items_as_words : (text : List ℕ) (items : List Item) → AllZip Names (words separates_tokens text) items → length items ≡ length (words_from separates_tokens 0 text)
  items_as_words text items zip = AllZip-long Names (words separates_tokens text) items zip ∙ length-map (words_from separates_tokens 0 text) bytes_of

  pub one_bad_token : (text : List ℕ) (place other : ℕ) → BadTokenAt Names text place → BadTokenAt Names text other → place ≡ other
  one_bad_token text place other is is' =
      let same = same_bad (HasToken Names) is.good is.word is.later is'.good is'.word is'.later (sym is.words_are ∙ is'.words_are) is.all_good is'.all_good is.is_fault.1 is'.is_fault.1 in
      sym is.starts ∙ ap (λ word. word.start) same ∙ is'.starts

  pub one_word_too_many : (text : List ℕ) (place other : ℕ) → TooManyAt Names text place → TooManyAt Names text other → place ≡ other
  one_word_too_many text place other is is' =
      let same = same_next (HasToken Names) is.good is.word is.later is'.good is'.word is'.later (sym is.words_are ∙ is'.words_are) (is.is_fault ∙ sym is'.is_fault) in
      sym is.starts ∙ ap (λ word. word.start) same ∙ is'.starts

  pub listed_or_bad : (text : List ℕ) (items : List Item) (place : ℕ) → Listed Names text items → ¬ BadTokenAt Names text place
  listed_or_bad text items place listed is =
      let all = each_from_zip bytes_of Names (words_from separates_tokens 0 text) items listed.tokens in
      is.is_fault.1 (at_seam (HasToken Names) is.good is.word is.later (subst (All (HasToken Names)) is.words_are all))

  pub listed_or_too_many : (text : List ℕ) (items : List Item) (place : ℕ) → Listed Names text items → ¬ TooManyAt Names text place
  listed_or_too_many text items place listed is =
      let long = items_as_words text items listed.tokens in
      let parts = ap length is.words_are ∙ length-append is.good (is.word ∷ is.later) in
      let full = is.is_fault in
      let few = listed.at_most in
      absurd (omega arith)

  pub bad_or_too_many : (text : List ℕ) (place other : ℕ) → BadTokenAt Names text place → ¬ TooManyAt Names text other
  bad_or_too_many text place other is is' =
      is.is_fault.1 (bad_is_not_past (HasToken Names) is.good is.word is.later is'.good is'.word is'.later (sym is.words_are ∙ is'.words_are) is'.all_good
      (let first = is.is_fault.0 in let full = is'.is_fault in omega arith))

  pub bad_token_in_text : (text : List ℕ) (place : ℕ) → BadTokenAt Names text place → place < length text
  bad_token_in_text text place is = let e = is.starts in let inside = word_in_text text is.good is.word is.later is.words_are in omega arith

  pub word_too_many_in_text : (text : List ℕ) (place : ℕ) → TooManyAt Names text place → place < length text
  word_too_many_in_text text place is = let e = is.starts in let inside = word_in_text text is.good is.word is.later is.words_are in omega arith

  -- what holds of each item that a word names holds of listed items
  module _ (P : Item → Type 0) (holds : (word : List ℕ) (item : Item) → Names word item → P item) where
    each_holds : (found : List (List ℕ)) (items : List Item) → AllZip Names found items → All P items
    each_holds [] [] zip = All-nil P
    each_holds [] (item ∷ items) zip = absurd zip
    each_holds (word ∷ found) [] zip = absurd zip
    each_holds (word ∷ found) (item ∷ items) (is, zip) = All-cons P item items (holds word item is) (each_holds found items zip)

    pub listed-hold : (text : List ℕ) (items : List Item) → Listed Names text items → All P items
    listed-hold text items listed = each_holds (words separates_tokens text) items listed.tokens

  pub one_listing : ((word : List ℕ) (item other : Item) → Names word item → Names word other → item ≡ other)
      → (text : List ℕ) (items other : List Item) → Listed Names text items → Listed Names text other → items ≡ other
  one_listing one text items other is is' = one_zip Names one (words separates_tokens text) items other is.tokens is'.tokens

  -- ---- words that are read
  module _ (named : List ℕ → Option Item) (reads : Reads Names named) where
    has_token : (word : Piece) → HasToken Names word ⊎ ¬ HasToken Names word
    has_token word = by_answer (named word.bytes) refl
      where
        by_answer : (answer : Option Item) → named word.bytes ≡ answer → HasToken Names word ⊎ ¬ HasToken Names word
        by_answer None e = inr (λ (item, is). let found = (reads word.bytes item).0 is in cc)
        by_answer (Some item) e = inl (item, (reads word.bytes item).1 e)

    pub one_of_three : (text : List ℕ)
        → ((items : List Item) × Listed Names text items) ⊎ ((place : ℕ) × BadTokenAt Names text place) ⊎ ((place : ℕ) × TooManyAt Names text place)
    one_of_three text =
        elim (sorted_out (HasToken Names) has_token most_moves (words_from separates_tokens 0 text)) [
          | inl (all, short) ↦
              let (items, zip) = zip_from_each bytes_of Names (words_from separates_tokens 0 text) all in
              let long = items_as_words text items zip in
              inl (items, record { tokens = zip; at_most = omega arith })
          | inr refused ↦ elim refused [
            | inl (good, bad, later, is) ↦ inr (inl (
              bad.start,
              record {
                good = good;
                word = bad;
                later = later;
                words_are = is.are;
                all_good = is.all_good;
                is_fault = (is.among_first, is.is_bad);
                starts = refl;
              },
            ))
            | inr (good, next, later, is) ↦ inr (inr (
              next.start,
              record {
                good = good;
                word = next;
                later = later;
                words_are = is.are;
                all_good = is.all_good;
                is_fault = is.full;
                starts = refl;
              },
            ))
          ]
        ]

-- ---- moves of one card
pub one_list : (game : Game) (text : List ℕ) (moves other : List Move) → game.cells ≤ 8 → Listed (IsToken game) text moves → Listed (IsToken game) text other → moves ≡ other
one_list game text moves other few = one_listing (IsToken game) (one_move game few) text moves other

pub Listed-Fit : (game : Game) (text : List ℕ) (moves : List Move) → Listed (IsToken game) text moves → All (Fits game) moves
Listed-Fit game = listed-hold (IsToken game) (Fits game) (λ word move is. is.0)

-- ---- moves of several cards
pub Listed-RunFit : (game : Game) (text : List ℕ) (moves : List RunMove) → Listed (IsRunToken game) text moves → All (RunFits game) moves
Listed-RunFit game = listed-hold (IsRunToken game) (RunFits game) (λ word move is. is.0)
