-- The words that are found byte by byte are all words of the text, and no other list has all of them in order; and the words of texts that begin with one.
use Rattle.std.proofs.Common.{◌++◌, ◌+◌, ◌<◌, ◌∙◌, ◌∷◌, ◌≡◌, ◌≢◌, ◌≤◌, ◌⊎◌, [], All, ap, ap₂, arith, Bool, cond, false}
use Rattle.std.proofs.Common.{inl, inr, length, length-append, List, map, refl, subst, suc, sym, true, zero, ℕ}
use Rattle.std.proofs.lemmas.Bool.{both_ways, cases_Bool, cases_eq, eq-eqb, ne_eqb}
use Rattle.std.proofs.lemmas.List.Elements.{All-cons, All-contains, All-head, All-nil, All-tail, All-weaker}
use Rattle.std.{proofs.lemmas.List.Kept.{AllPairs-cons}, specs.List.{AllPairs, Contains}}
use Rattle.fc_text.proofs.PieceLemmas.{front, front_piece, later_piece, not_nothing, of_no_length, same_after, StartAt}
use Rattle.fc_text.specs.Lines.{AreWords, in_word, IsPieceOf, IsWord, moved, Piece, words_from}

-- ---- lists in order
at_head_or_later : {X : Type 0} (y x : X) (ys : List X) → Contains (y ∷ ys) x → (y ≡ x) ⊎ Contains ys x
at_head_or_later y x ys (zero, inside, e) = inl e
at_head_or_later y x ys (suc k, inside, e) = inr (k, omega arith, e)

at_head : {X : Type 0} (x : X) (xs : List X) → Contains (x ∷ xs) x
at_head x xs = (0, omega arith, refl)

later_on : {X : Type 0} (y x : X) (ys : List X) → Contains ys x → Contains (y ∷ ys) x
later_on y x ys (k, inside, e) = (suc k, omega arith, e)

before_later : {X : Type 0} (R : X → X → Type 0) (x : X) (xs : List X) → AllPairs R (x ∷ xs) → (z : X) → Contains xs z → R x z
before_later R x xs pairs z found = All-contains (R x) xs z (λ k d inside. pairs 0 (suc k) d (omega arith) (omega arith)) found

-- two lists in one order with the same elements are one list
pub same_in_order : {X : Type 0} (R : X → X → Type 0) → ((x y : X) → R x y → R y x → ⊥) → (xs ys : List X) → AllPairs R xs → AllPairs R ys
    → ((x : X) → Contains xs x → Contains ys x) → ((y : X) → Contains ys y → Contains xs y) → xs ≡ ys
same_in_order R one_way [] [] in_order in_order' there back = refl
same_in_order R one_way [] (y ∷ ys) in_order in_order' there back = let (k, inside, _) = back y (at_head y ys) in absurd (omega arith)
same_in_order R one_way (x ∷ xs) [] in_order in_order' there back = let (k, inside, _) = there x (at_head x xs) in absurd (omega arith)
same_in_order {X} R one_way (x ∷ xs) (y ∷ ys) in_order in_order' there back =
    let first : x ≡ y = elim (at_head_or_later y x ys (there x (at_head x xs))) [
      | inl same ↦ sym same
      | inr later ↦ elim (at_head_or_later x y xs (back y (at_head y ys))) [
        | inl same ↦ same
        | inr other ↦ absurd (one_way x y (before_later R x xs in_order y other) (before_later R y ys in_order' x later))
      ]
    ] in
    let rest = same_in_order R one_way xs ys
    (λ i j d less inside. in_order (suc i) (suc j) d (omega arith) (omega arith))
    (λ i j d less inside. in_order' (suc i) (suc j) d (omega arith) (omega arith))
    (λ z found. elim (at_head_or_later y z ys (there z (later_on x z xs found))) [
      | inl same ↦ let after : R x x = subst (R x) (sym (first ∙ same)) (before_later R x xs in_order z found) in absurd (one_way x x after after)
      | inr later ↦ later
    ])
    (λ z found. elim (at_head_or_later x z xs (back z (later_on y z ys found))) [
      | inl same ↦ let after : R y y = subst (R y) (sym same ∙ first) (before_later R y ys in_order' z found) in absurd (one_way y y after after)
      | inr later ↦ later
    ]) in
    ap₂ (λ z zs. z ∷ zs) first rest

-- ---- a byte before words

pub joined : (place byte : ℕ) (word : Piece) (words : List Piece) → word.start ≡ place + 1
    → in_word place byte (word ∷ words) ≡ record { start = place; bytes = byte ∷ word.bytes } ∷ words
joined place byte word words e =
    ap (λ b. cond b (record { start = place; bytes = byte ∷ word.bytes } ∷ words) (record { start = place; bytes = byte ∷ [] } ∷ word ∷ words))
    (eq-eqb word.start (place + 1) e)

pub alone : (place byte : ℕ) (word : Piece) (words : List Piece) → word.start ≢ place + 1
    → in_word place byte (word ∷ words) ≡ record { start = place; bytes = byte ∷ [] } ∷ word ∷ words
alone place byte word words e =
    ap (λ b. cond b (record { start = place; bytes = byte ∷ word.bytes } ∷ words) (record { start = place; bytes = byte ∷ [] } ∷ word ∷ words))
    (ne_eqb word.start (place + 1) e)

module _ (separates : ℕ → Bool) where
  pub after_separator : (place byte : ℕ) (rest : List ℕ) → separates byte ≡ true
      → words_from separates place (byte ∷ rest) ≡ words_from separates (place + 1) rest
  after_separator place byte rest e = ap (λ b. cond b (words_from separates (place + 1) rest) (in_word place byte (words_from separates (place + 1) rest))) e

  pub in_word-first : (place byte : ℕ) (rest : List ℕ) → separates byte ≡ false
      → words_from separates place (byte ∷ rest) ≡ in_word place byte (words_from separates (place + 1) rest)
  in_word-first place byte rest e = ap (λ b. cond b (words_from separates (place + 1) rest) (in_word place byte (words_from separates (place + 1) rest))) e

  -- ---- one word

  before_other : (place : ℕ) (rest : List ℕ) (word : Piece) → IsWord separates place rest word → place ≤ word.start
  before_other place rest word is = let e = is.is_piece.starts in omega arith

  -- a word after a byte, which separates if it is next to it
  word_after : (place byte : ℕ) (rest : List ℕ) (word : Piece) → (word.start ≡ place + 1 → separates byte ≡ true)
      → IsWord separates (place + 1) rest word → IsWord separates place (byte ∷ rest) word
  word_after place byte rest word next is = record {
    is_piece = later_piece place byte rest word is.is_piece;
    some_bytes = is.some_bytes;
    in_one_piece = is.in_one_piece;
    cut_before = cut is.is_piece.before is.cut_before (λ e. next (is.is_piece.starts ∙ ap (λ before. place + 1 + length before) e ∙ omega arith));
    cut_after = is.cut_after;
  }
    where
      cut : (before : List ℕ) → ((earlier : List ℕ) (last : ℕ) → before ≡ earlier ++ last ∷ [] → separates last ≡ true)
          → (before ≡ [] → separates byte ≡ true)
          → (earlier : List ℕ) (last : ℕ) → byte ∷ before ≡ earlier ++ last ∷ [] → separates last ≡ true
      cut before cut_before next [] last e = let same : byte ≡ last = cc in ap separates (sym same) ∙ next (cc)
      cut before cut_before next (first ∷ earlier) last e = cut_before earlier last (cc)

  -- a word that starts after the first byte is one of what follows it, and that byte separates if it is next to the word
  word_of_rest : (place byte : ℕ) (rest : List ℕ) (word : Piece) → place < word.start → IsWord separates place (byte ∷ rest) word
      → IsWord separates (place + 1) rest word × (word.start ≡ place + 1 → separates byte ≡ true)
  word_of_rest place byte rest word later is = parts is.is_piece.before is.is_piece.after is.is_piece.text_is is.is_piece.starts is.cut_before is.cut_after
    where
      parts : (before after : List ℕ) → byte ∷ rest ≡ before ++ (word.bytes ++ after) → word.start ≡ place + length before
          → ((earlier : List ℕ) (last : ℕ) → before ≡ earlier ++ last ∷ [] → separates last ≡ true)
          → ((first : ℕ) (later : List ℕ) → after ≡ first ∷ later → separates first ≡ true)
          → IsWord separates (place + 1) rest word × (word.start ≡ place + 1 → separates byte ≡ true)
      parts [] after text_is starts cut_before cut_after = absurd (omega arith)
      parts (first ∷ before) after text_is starts cut_before cut_after = (
        record {
          is_piece = record { before = before; after = after; text_is = cc; starts = omega arith };
          some_bytes = is.some_bytes;
          in_one_piece = is.in_one_piece;
          cut_before = λ earlier last e. cut_before (first ∷ earlier) last (ap (λ bytes. first ∷ bytes) e);
          cut_after = cut_after;
        },
        λ next. let same : first ≡ byte = cc in ap separates (sym same) ∙ cut_before [] first (ap (λ bytes. first ∷ bytes) (of_no_length before (omega arith))),
      )

  -- the first byte of a word does not separate
  first_in_word : (place byte : ℕ) (rest : List ℕ) (word : Piece) → word.start ≡ place → IsWord separates place (byte ∷ rest) word
      → separates byte ≡ false
  first_in_word place byte rest word here is = at_first word.bytes is.is_piece.after is.some_bytes is.in_one_piece (front place (byte ∷ rest) word is.is_piece here)
    where
      at_first : (bytes after : List ℕ) → 0 < length bytes → All (λ byte. separates byte ≡ false) bytes → byte ∷ rest ≡ bytes ++ after
          → separates byte ≡ false
      at_first [] after some are e = absurd (omega arith)
      at_first (first ∷ bytes) after some are e = let same : byte ≡ first = cc in ap separates same ∙ All-head (λ byte. separates byte ≡ false) first bytes are

  -- two runs at the front of one text, each up to a byte that separates, are one run
  pub same_run : (bytes others after follows : List ℕ) → bytes ++ after ≡ others ++ follows
      → All (λ byte. separates byte ≡ false) bytes → All (λ byte. separates byte ≡ false) others
      → ((byte : ℕ) (later : List ℕ) → after ≡ byte ∷ later → separates byte ≡ true)
      → ((byte : ℕ) (later : List ℕ) → follows ≡ byte ∷ later → separates byte ≡ true)
      → bytes ≡ others
  same_run [] [] after follows e are are' cut cut' = refl
  same_run [] (byte ∷ others) after follows e are are' cut cut' =
      absurd (both_ways (separates byte) (All-head (λ byte. separates byte ≡ false) byte others are') (cut byte (others ++ follows) e))
  same_run (byte ∷ bytes) [] after follows e are are' cut cut' =
      absurd (both_ways (separates byte) (All-head (λ byte. separates byte ≡ false) byte bytes are) (cut' byte (bytes ++ after) (sym e)))
  same_run (byte ∷ bytes) (byte' ∷ others) after follows e are are' cut cut' =
      let rest = All-tail (λ byte. separates byte ≡ false) byte bytes are in
      let rest' = All-tail (λ byte. separates byte ≡ false) byte' others are' in
      ap₂ (λ first run. first ∷ run) (cc) (same_run bytes others after follows (cc) rest rest' cut cut')

  -- two words with one start are one word
  one_word : (place : ℕ) (text : List ℕ) (word other : Piece) → word.start ≡ other.start → IsWord separates place text word
      → IsWord separates place text other → word ≡ other
  one_word place text word other e is is' =
      let starts = is.is_piece.starts in
      let starts' = is'.is_piece.starts in
      let text_is = sym is.is_piece.text_is ∙ is'.is_piece.text_is in
      let tails = same_after is.is_piece.before is'.is_piece.before (word.bytes ++ is.is_piece.after) (other.bytes ++ is'.is_piece.after) text_is (omega arith) in
      same_piece word.start other.start word.bytes other.bytes e
      (same_run word.bytes other.bytes is.is_piece.after is'.is_piece.after tails is.in_one_piece is'.in_one_piece is.cut_after is'.cut_after)
    where
      same_piece : (start start' : ℕ) (bytes bytes' : List ℕ) → start ≡ start' → bytes ≡ bytes'
          → let piece : Piece = record { start = start; bytes = bytes } in piece ≡ record { start = start'; bytes = bytes' }
      same_piece start start' bytes bytes' e f = ap₂ (λ start bytes. let piece : Piece = record { start = start; bytes = bytes } in piece) e f

  -- ---- all words

  abbrev Before : Piece → Piece → Type 0
  Before word later = word.start < later.start

  -- a word of what follows the byte at this place that is not next to it
  abbrev Apart : ℕ → List ℕ → Piece → Type 0
  Apart place rest word = IsWord separates (place + 1) rest word × (place + 1 < word.start)

  no_words : (place : ℕ) → AreWords separates place [] []
  no_words place = record {
    all_words = All-nil (IsWord separates place []);
    in_order = λ i j d less inside. absurd (omega arith);
    complete = λ word is.
        let some = is.some_bytes in
        let long = ap length is.is_piece.text_is ∙ length-append is.is_piece.before (word.bytes ++ is.is_piece.after) in
        let longer = length-append word.bytes is.is_piece.after in
        absurd (omega arith);
  }

  words_after : (place byte : ℕ) (rest : List ℕ) (words : List Piece) → separates byte ≡ true → AreWords separates (place + 1) rest words
      → AreWords separates place (byte ∷ rest) words
  words_after place byte rest words cut are = record {
    all_words = All-weaker (IsWord separates (place + 1) rest) (IsWord separates place (byte ∷ rest)) (λ word is. word_after place byte rest word (λ e. cut) is) words are.all_words;
    in_order = are.in_order;
    complete = λ word is. elim (cases_eq word.start place) [
      | inl here ↦ absurd (both_ways (separates byte) (first_in_word place byte rest word here is) cut)
      | inr other ↦ let from = before_other place (byte ∷ rest) word is in are.complete word (word_of_rest place byte rest word (omega arith) is).0
    ];
  }

  -- a word at the front, and the words that start later
  with_first : (place byte : ℕ) (rest : List ℕ) (first : Piece) (words : List Piece) → separates byte ≡ false → first.start ≡ place
      → IsWord separates place (byte ∷ rest) first
      → All (Apart place rest) words → AllPairs Before words
      → ((word : Piece) → IsWord separates (place + 1) rest word → place + 1 < word.start → Contains words word)
      → AreWords separates place (byte ∷ rest) (first ∷ words)
  with_first place byte rest first words on here is later in_order complete = record {
    all_words = All-cons (IsWord separates place (byte ∷ rest)) first words is
        (All-weaker (Apart place rest) (IsWord separates place (byte ∷ rest)) (λ word (is, far). word_after place byte rest word (λ e. absurd (omega arith)) is) words later);
    in_order = AllPairs-cons Before first words (All-weaker (Apart place rest) (Before first) (λ word (is, far). omega arith) words later) in_order;
    complete = λ word is'. elim (cases_eq word.start place) [
      | inl same ↦ (0, omega arith, one_word place (byte ∷ rest) first word (here ∙ sym same) is is')
      | inr other ↦
          let from = before_other place (byte ∷ rest) word is' in
          let (of_rest, next) = word_of_rest place byte rest word (omega arith) is' in
          later_on first word words (complete word of_rest (elim (cases_eq word.start (place + 1)) [
            | inl e ↦ absurd (both_ways (separates byte) on (next e))
            | inr far ↦ omega arith
          ]))
    ];
  }

  next_byte : (place byte : ℕ) (rest : List ℕ) → separates byte ≡ false → (words : List Piece) → words_from separates place (byte ∷ rest) ≡ words
      → ¬ (words ≡ []) × StartAt place words
  next_byte place byte rest on words e = starts (words_from separates (place + 1) rest) words (sym (in_word-first place byte rest on) ∙ e)
    where
      starts : (others words : List Piece) → in_word place byte others ≡ words → ¬ (words ≡ []) × StartAt place words
      starts [] words e = subst (λ words. ¬ (words ≡ []) × StartAt place words) e ((λ e. absurd (cc)), refl)
      starts (word ∷ others) words e = elim (cases_eq word.start (place + 1)) [
        | inl same ↦ subst (λ words. ¬ (words ≡ []) × StartAt place words) (sym (joined place byte word others same) ∙ e) ((λ e. absurd (cc)), refl)
        | inr other ↦ subst (λ words. ¬ (words ≡ []) × StartAt place words) (sym (alone place byte word others other) ∙ e) ((λ e. absurd (cc)), refl)
      ]

  -- a byte that does not separate, before words that are not next to it
  alone_is : (place byte : ℕ) (rest : List ℕ) → separates byte ≡ false → ((next : ℕ) (later : List ℕ) → rest ≡ next ∷ later → separates next ≡ true)
      → IsWord separates place (byte ∷ rest) (record { start = place; bytes = byte ∷ [] })
  alone_is place byte rest on cut = record {
    is_piece = front_piece place (byte ∷ []) rest;
    some_bytes = omega arith;
    in_one_piece = All-cons (λ byte. separates byte ≡ false) byte [] on (All-nil (λ byte. separates byte ≡ false));
    cut_before = λ earlier last e. absurd (not_nothing earlier last e);
    cut_after = cut;
  }

  joined_is : (place byte : ℕ) (rest : List ℕ) (word : Piece) → separates byte ≡ false → word.start ≡ place + 1
      → IsWord separates (place + 1) rest word
      → IsWord separates place (byte ∷ rest) (record { start = place; bytes = byte ∷ word.bytes })
  joined_is place byte rest word on next is = record {
    is_piece = record { before = []; after = is.is_piece.after; text_is = ap (λ rest. byte ∷ rest) (front (place + 1) rest word is.is_piece next); starts = omega arith };
    some_bytes = omega arith;
    in_one_piece = All-cons (λ byte. separates byte ≡ false) byte word.bytes on is.in_one_piece;
    cut_before = λ earlier last e. absurd (not_nothing earlier last e);
    cut_after = is.cut_after;
  }

  byte_before : (place byte : ℕ) (rest : List ℕ) (words : List Piece) → separates byte ≡ false
      → ((next : ℕ) (later : List ℕ) → rest ≡ next ∷ later → separates next ≡ false → ¬ (words ≡ []) × StartAt (place + 1) words)
      → AreWords separates (place + 1) rest words → AreWords separates place (byte ∷ rest) (in_word place byte words)
  byte_before place byte rest [] on next are =
      with_first place byte rest (record { start = place; bytes = byte ∷ [] }) [] on refl
      (alone_is place byte rest on (λ first later e. elim (cases_Bool (separates first)) [
        | inl cut ↦ cut
        | inr not_cut ↦ absurd ((next first later e not_cut).0 refl)
      ]))
      (All-nil (Apart place rest)) are.in_order (λ word is far. are.complete word is)
  byte_before place byte rest (word ∷ words) on next are = elim (cases_eq word.start (place + 1)) [
    | inl same ↦
        subst (AreWords separates place (byte ∷ rest)) (sym (joined place byte word words same))
        (with_first place byte rest (record { start = place; bytes = byte ∷ word.bytes }) words on refl
        (joined_is place byte rest word on same (All-head (IsWord separates (place + 1) rest) word words are.all_words))
        (later_all words (All-tail (IsWord separates (place + 1) rest) word words are.all_words) (λ other found. let far = before_later Before word words are.in_order other found in omega arith))
        (λ i j d less inside. are.in_order (suc i) (suc j) d (omega arith) (omega arith))
        (λ other is far. elim (at_head_or_later word other words (are.complete other is)) [
          | inl first ↦ let start = ap (λ word. word.start) first in absurd (omega arith)
          | inr found ↦ found
        ]))
    | inr other ↦
        let from = before_other (place + 1) rest word (All-head (IsWord separates (place + 1) rest) word words are.all_words) in
        subst (AreWords separates place (byte ∷ rest)) (sym (alone place byte word words other))
        (with_first place byte rest (record { start = place; bytes = byte ∷ [] }) (word ∷ words) on refl
        (alone_is place byte rest on (λ first later e. elim (cases_Bool (separates first)) [
          | inl cut ↦ cut
          | inr not_cut ↦ absurd (other (next first later e not_cut).1)
        ]))
        (later_all (word ∷ words) are.all_words (λ another found. elim (at_head_or_later word another words found) [
          | inl first ↦ let start = ap (λ word. word.start) first in omega arith
          | inr found ↦ let far = before_later Before word words are.in_order another found in omega arith
        ]))
        are.in_order (λ another is far. are.complete another is))
  ]
    where
      later_all : (words : List Piece) → All (IsWord separates (place + 1) rest) words
          → ((word : Piece) → Contains words word → place + 1 < word.start)
          → All (Apart place rest) words
      later_all [] are far = All-nil (Apart place rest)
      later_all (word ∷ words) are far =
          All-cons (Apart place rest) word words
          (All-head (IsWord separates (place + 1) rest) word words are, far word (at_head word words))
          (later_all words (All-tail (IsWord separates (place + 1) rest) word words are) (λ other found. far other (later_on word other words found)))

  pub words_from-AreWords : (place : ℕ) (text : List ℕ) → AreWords separates place text (words_from separates place text)
  words_from-AreWords place [] = no_words place
  words_from-AreWords place (byte ∷ rest) = elim (cases_Bool (separates byte)) [
    | inl cut ↦
        subst (AreWords separates place (byte ∷ rest)) (sym (after_separator place byte rest cut))
        (words_after place byte rest (words_from separates (place + 1) rest) cut (words_from-AreWords (place + 1) rest))
    | inr on ↦
        subst (AreWords separates place (byte ∷ rest)) (sym (in_word-first place byte rest on))
        (byte_before place byte rest (words_from separates (place + 1) rest) on
        (λ next later e not_cut. next_byte (place + 1) next later not_cut (words_from separates (place + 1) rest) (ap (words_from separates (place + 1)) (sym e)))
        (words_from-AreWords (place + 1) rest))
  ]

  pub words-are_pieces : (place : ℕ) (text : List ℕ) → All (IsPieceOf place text) (words_from separates place text)
  words-are_pieces place text =
      All-weaker (IsWord separates place text) (IsPieceOf place text) (λ word is. is.is_piece) (words_from separates place text) (words_from-AreWords place text).all_words

  pub AreWords-unique : (place : ℕ) (text : List ℕ) (found other : List Piece) → AreWords separates place text found
      → AreWords separates place text other → found ≡ other
  AreWords-unique place text found other are are' =
      same_in_order Before (λ word later a b. omega arith) found other are.in_order are'.in_order
      (λ word at. are'.complete word (All-contains (IsWord separates place text) found word are.all_words at))
      (λ word at. are.complete word (All-contains (IsWord separates place text) other word are'.all_words at))

  -- ---- moved words

  in_word-moved : (places place byte : ℕ) (words : List Piece)
      → in_word (places + place) byte (map (moved places) words) ≡ map (moved places) (in_word place byte words)
  in_word-moved places place byte [] = refl
  in_word-moved places place byte (word ∷ words) = elim (cases_eq word.start (place + 1)) [
    | inl same ↦
        joined (places + place) byte (moved places word) (map (moved places) words) (omega arith)
        ∙ ap (map (moved places)) (sym (joined place byte word words same))
    | inr other ↦
        alone (places + place) byte (moved places word) (map (moved places) words) (λ e. other (omega arith))
        ∙ ap (map (moved places)) (sym (alone place byte word words other))
  ]

  pub words_from-moved : (places place : ℕ) (text : List ℕ)
      → words_from separates (places + place) text ≡ map (moved places) (words_from separates place text)
  words_from-moved places place [] = refl
  words_from-moved places place (byte ∷ rest) =
      let later : words_from separates (places + place + 1) rest ≡ map (moved places) (words_from separates (place + 1) rest) =
      ap (λ place. words_from separates place rest) (omega arith) ∙ words_from-moved places (place + 1) rest in
      elim (cases_Bool (separates byte)) [
        | inl cut ↦
            after_separator (places + place) byte rest cut ∙ later
            ∙ ap (map (moved places)) (sym (after_separator place byte rest cut))
        | inr on ↦
            in_word-first (places + place) byte rest on ∙ ap (in_word (places + place) byte) later
            ∙ in_word-moved places place byte (words_from separates (place + 1) rest)
            ∙ ap (map (moved places)) (sym (in_word-first place byte rest on))
      ]

  -- ---- texts that begin with a word

  -- nothing, or a byte that separates
  abbrev pub EndsWord : List ℕ → Type 0
  EndsWord [] = Unit {0}
  EndsWord (byte ∷ rest) = separates byte ≡ true

  pub first_word : (place byte : ℕ) (word rest : List ℕ) → All (λ byte. separates byte ≡ false) (byte ∷ word) → EndsWord rest
      → words_from separates place (byte ∷ word ++ rest) ≡ record { start = place; bytes = byte ∷ word } ∷ words_from separates (place + length (byte ∷ word)) rest
  first_word place byte [] rest are ends =
      in_word-first place byte rest (All-head (λ byte. separates byte ≡ false) byte [] are) ∙ alone_before rest ends
    where
      far : (words : List Piece) → All (λ word. place + 1 < word.start) words
          → in_word place byte words ≡ record { start = place; bytes = byte ∷ [] } ∷ words
      far [] later = refl
      far (word ∷ words) later = let start = All-head (λ word. place + 1 < word.start) word words later in alone place byte word words (λ e. absurd (omega arith))

      alone_before : (rest : List ℕ) → EndsWord rest
          → in_word place byte (words_from separates (place + 1) rest) ≡ record { start = place; bytes = byte ∷ [] } ∷ words_from separates (place + 1) rest
      alone_before [] ends = refl
      alone_before (next ∷ rest) ends =
          let later = after_separator (place + 1) next rest ends in
          ap (in_word place byte) later
          ∙ far (words_from separates (place + 1 + 1) rest)
          (All-weaker (IsWord separates (place + 1 + 1) rest) (λ word. place + 1 < word.start) (λ word is. let from = before_other (place + 1 + 1) rest word is in omega arith)
          (words_from separates (place + 1 + 1) rest) (words_from-AreWords (place + 1 + 1) rest).all_words)
          ∙ ap (λ words. record { start = place; bytes = byte ∷ [] } ∷ words) (sym later)
  first_word place byte (next ∷ word) rest are ends =
      in_word-first place byte (next ∷ word ++ rest) (All-head (λ byte. separates byte ≡ false) byte (next ∷ word) are)
      ∙ ap (in_word place byte) (first_word (place + 1) next word rest (All-tail (λ byte. separates byte ≡ false) byte (next ∷ word) are) ends)
      ∙ joined place byte (record { start = place + 1; bytes = next ∷ word }) (words_from separates (place + 1 + length (next ∷ word)) rest) refl
      ∙ ap (λ p. record { start = place; bytes = byte ∷ next ∷ word } ∷ words_from separates p rest) (omega arith)
