-- The first word of what is left of a text, and what follows it; and where each word is.
use Rattle.std.proofs.Common.{◌++◌, ◌+◌, ◌-◌, ◌<◌, ◌∙◌, ◌∷◌, ◌≡◌, ◌≤◌, [], All, ap, ap₂, arith, Bool, cond, drop}
use Rattle.std.proofs.Common.{drop-drop, false, length, List, map, min, not, refl, subst, suc, sym, take, true, ℕ}
use Rattle.std.proofs.lemmas.List.{drop_at, Elements.{All-cons, All-map, All-nil, All-weaker}, length-take}
use Rattle.std.{proofs.lemmas.List.{Sums.{prefix_len-le-length}, take-append-drop, take_at}, specs.List.{prefix_len}}
use Rattle.fc_text.proofs.WordLemmas.{after_separator, EndsWord, first_word, words-are_pieces}
use Rattle.fc_text.specs.Lines.{IsAtSpan, IsPieceOf, Piece, with_end, words_from}

suc_one : (k : ℕ) → suc k ≡ 1 + k
suc_one k = omega arith

module _ (separates : ℕ → Bool) where
  abbrev in_word_byte : ℕ → Bool
  in_word_byte byte = not (separates byte)

  abbrev Solid : List ℕ → Type 0
  Solid bytes = All (λ byte. separates byte ≡ false) bytes

  -- ---- a gap at the front

  after_gap : (place : ℕ) (bytes : List ℕ)
      → words_from separates place bytes ≡ words_from separates (place + prefix_len separates bytes) (drop (prefix_len separates bytes) bytes)
  after_gap place [] = refl
  after_gap place (byte ∷ rest) = by_test (separates byte) refl (after_gap (place + 1) rest)
    where
      by_test : (b : Bool) → separates byte ≡ b
          → words_from separates (place + 1) rest ≡ words_from separates (place + 1 + prefix_len separates rest) (drop (prefix_len separates rest) rest)
          → words_from separates place (byte ∷ rest) ≡ words_from separates (place + cond b (1 + prefix_len separates rest) 0) (drop (cond b (1 + prefix_len separates rest) 0) (byte ∷ rest))
      by_test true e later =
          let k = prefix_len separates rest in
          let further : place + (1 + k) ≡ place + 1 + k = omega arith in
          rw (after_separator separates place byte rest e, later, further, ← suc_one k)
      by_test false e later = let same : place + 0 ≡ place = omega arith in rw same

  -- what follows a gap is nothing where no word begins there
  nothing_left : (bytes : List ℕ) → prefix_len in_word_byte (drop (prefix_len separates bytes) bytes) ≡ 0
      → drop (prefix_len separates bytes) bytes ≡ []
  nothing_left [] none = refl
  nothing_left (byte ∷ rest) none = by_test (separates byte) refl (nothing_left rest) none
    where
      by_test : (b : Bool) → separates byte ≡ b
          → (prefix_len in_word_byte (drop (prefix_len separates rest) rest) ≡ 0 → drop (prefix_len separates rest) rest ≡ [])
          → prefix_len in_word_byte (drop (cond b (1 + prefix_len separates rest) 0) (byte ∷ rest)) ≡ 0
          → drop (cond b (1 + prefix_len separates rest) 0) (byte ∷ rest) ≡ []
      by_test true e later none =
          let same : drop (1 + prefix_len separates rest) (byte ∷ rest) ≡ drop (prefix_len separates rest) rest = ap (λ n. drop n (byte ∷ rest)) (sym (suc_one (prefix_len separates rest))) in
          same ∙ later (ap (prefix_len in_word_byte) (sym same) ∙ none)
      by_test false e later none =
          let some : 1 + prefix_len in_word_byte rest ≡ 0 = ap (λ b. cond (not b) (1 + prefix_len in_word_byte rest) 0) (sym e) ∙ none in
          absurd (omega arith)

  -- ---- a word at the front

  solid_front : (bytes : List ℕ) → Solid (take (prefix_len in_word_byte bytes) bytes)
  solid_front [] = All-nil (λ byte. separates byte ≡ false)
  solid_front (byte ∷ rest) = by_test (separates byte) refl (solid_front rest)
    where
      by_test : (b : Bool) → separates byte ≡ b → Solid (take (prefix_len in_word_byte rest) rest)
          → Solid (take (cond (not b) (1 + prefix_len in_word_byte rest) 0) (byte ∷ rest))
      by_test true e are = All-nil (λ byte. separates byte ≡ false)
      by_test false e are =
          subst (λ n. Solid (take n (byte ∷ rest))) (suc_one (prefix_len in_word_byte rest))
          (All-cons (λ byte. separates byte ≡ false) byte (take (prefix_len in_word_byte rest) rest) e are)

  gap_follows : (bytes : List ℕ) → EndsWord separates (drop (prefix_len in_word_byte bytes) bytes)
  gap_follows [] = tt
  gap_follows (byte ∷ rest) = by_test (separates byte) refl (gap_follows rest)
    where
      by_test : (b : Bool) → separates byte ≡ b → EndsWord separates (drop (prefix_len in_word_byte rest) rest)
          → EndsWord separates (drop (cond (not b) (1 + prefix_len in_word_byte rest) 0) (byte ∷ rest))
      by_test true e ends = e
      by_test false e ends = subst (λ n. EndsWord separates (drop n (byte ∷ rest))) (suc_one (prefix_len in_word_byte rest)) ends

  -- a word of so many bytes comes first
  abbrev ComesFirst : ℕ → List ℕ → ℕ → Type 0
  ComesFirst place bytes k = words_from separates place bytes ≡ record { start = place; bytes = take k bytes } ∷ words_from separates (place + k) (drop k bytes)

  word_first : (place : ℕ) (bytes : List ℕ) → 0 < prefix_len in_word_byte bytes → ComesFirst place bytes (prefix_len in_word_byte bytes)
  word_first place [] some = absurd (omega arith)
  word_first place (byte ∷ rest) some = by_test (separates byte) refl some (solid_front rest) (gap_follows rest)
    where
      k : ℕ
      k = prefix_len in_word_byte rest

      size : length (byte ∷ take k rest) ≡ suc k
      size = ap suc (length-take k rest) ∙ least k (length rest) (prefix_len-le-length in_word_byte rest)
        where
          least : (m n : ℕ) → m ≤ n → suc (min m n) ≡ suc m
          least m n h = omega arith

      by_test : (b : Bool) → separates byte ≡ b → 0 < cond (not b) (1 + k) 0 → Solid (take k rest) → EndsWord separates (drop k rest)
          → ComesFirst place (byte ∷ rest) (cond (not b) (1 + k) 0)
      by_test true e some are ends = absurd (omega arith)
      by_test false e some are ends =
          subst (ComesFirst place (byte ∷ rest)) (suc_one k)
          (ap (λ bytes. words_from separates place (byte ∷ bytes)) (sym (take-append-drop k rest))
          ∙ first_word separates place byte (take k rest) (drop k rest) (All-cons (λ byte. separates byte ≡ false) byte (take k rest) e are) ends
          ∙ ap (λ n. record { start = place; bytes = byte ∷ take k rest } ∷ words_from separates (place + n) (drop k rest)) size)

  -- ---- what is left of a text from a place on

  module _ (text : List ℕ) (at start k : ℕ) (starts : start ≡ at + prefix_len separates (drop at text)) (long : k ≡ prefix_len in_word_byte (drop start text)) where
    follows : drop (prefix_len separates (drop at text)) (drop at text) ≡ drop start text
    follows = drop-drop (prefix_len separates (drop at text)) at text ∙ ap (λ n. drop n text) (sym starts)

    from_start : words_from separates at (drop at text) ≡ words_from separates start (drop start text)
    from_start = after_gap at (drop at text) ∙ ap₂ (words_from separates) (sym starts) follows

    pub next_word : 0 < k → words_from separates at (drop at text) ≡ record { start = start; bytes = take k (drop start text) } ∷ words_from separates (start + k) (drop (start + k) text)
    next_word some =
        from_start
        ∙ subst (ComesFirst start (drop start text)) (sym long) (word_first start (drop start text) (subst (λ n. 0 < n) long some))
        ∙ ap (λ rest. record { start = start; bytes = take k (drop start text) } ∷ words_from separates (start + k) rest) (drop-drop k start text)

    pub no_next_word : k ≡ 0 → (words_from separates at (drop at text) ≡ []) × (words_from separates (start + k) (drop (start + k) text) ≡ [])
    no_next_word none =
        let ended : drop start text ≡ [] = sym follows ∙ nothing_left (drop at text) (ap (prefix_len in_word_byte) follows ∙ sym long ∙ none) in
        let nothing : words_from separates start (drop start text) ≡ [] = ap (words_from separates start) ended in
        let same : start ≡ start + k = omega (arith, none) in
        (from_start ∙ nothing, ap (λ n. words_from separates n (drop n text)) (sym same) ∙ nothing)

    -- the same, with the place of the word's end
    pub next_with_end : 0 < k → map with_end (words_from separates at (drop at text))
        ≡ (record { start = start; bytes = take (start + k - start) (drop start text) }, start + k) ∷ map with_end (words_from separates (start + k) (drop (start + k) text))
    next_with_end some =
        ap (map with_end) (next_word some)
        ∙ ap₂ (λ n m. (record { start = start; bytes = take n (drop start text) }, start + m) ∷ map with_end (words_from separates (start + k) (drop (start + k) text))) (back start k) size
      where
        back : (a n : ℕ) → n ≡ a + n - a
        back a n = omega arith

        size : length (take k (drop start text)) ≡ k
        size = let short = prefix_len-le-length in_word_byte (drop start text) in length-take k (drop start text) ∙ omega (arith, short, long)

-- ---- where the words are

at_span : (text : List ℕ) (word : Piece) → IsPieceOf 0 text word → IsAtSpan text (with_end word)
at_span text word is =
    let starts = is.starts in
    sym (ap₂ take (span word.start (length word.bytes)) (ap₂ drop (omega (arith, starts)) is.text_is ∙ drop_at is.before (word.bytes ++ is.after) (length is.before) refl) ∙ take_at word.bytes is.after (length word.bytes) refl)
  where
    span : (a n : ℕ) → a + n - a ≡ n
    span a n = omega arith

pub all_at_spans : (separates : ℕ → Bool) (text : List ℕ) → All (IsAtSpan text) (map with_end (words_from separates 0 text))
all_at_spans separates text =
    All-map (IsAtSpan text) with_end (words_from separates 0 text)
    (All-weaker (IsPieceOf 0 text) (λ word. IsAtSpan text (with_end word)) (at_span text) (words_from separates 0 text) (words-are_pieces separates 0 text))
