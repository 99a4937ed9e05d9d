-- A line's first word of a card, two letters or `10` and a letter, and what follows it.
use Rattle.std.proofs.Common.{◌++◌, ◌+◌, ◌-◌, ◌||◌, ◌∙◌, ◌∷◌, ◌≡◌, ◌≢◌, ◌≤◌, ◌⊎◌, [], All, ap, ap₂, arith, drop, eqb}
use Rattle.std.proofs.Common.{false, get_or, inl, inr, length, length-append, List, None, Option, refl, Some, subst}
use Rattle.std.proofs.{Common.{suc, sym, take, true, ℕ}, lemmas.Bool.Decides.{eqb_tells}}
use Rattle.std.proofs.{lemmas.List.Elements.{All-cons, All-nil, All-tail}, Math.Seq.{take-length}}
use Rattle.std.specs.Option.{option_and_then, option_map}
use Rattle.fc_card.specs.{card_of}
use Rattle.fc_text.{proofs.{TakingLemmas.{word_after_gap}, WordLemmas.{first_word}}, specs.Bytes.{blank, is_gap}}
use Rattle.fc_text.specs.{Lines.{words_from}, reader.{AfterBlank, BeginsWithCard}}
use Rattle.fc_text.specs.Spelling.{card_spelled, rank_spelled, suit_spelled}

abbrev Gapless : List ℕ → Type 0
Gapless bytes = All (λ byte. is_gap byte ≡ false) bytes

-- a card's word at the end
last_card : (card byte : ℕ) (word : List ℕ) → card_spelled (byte ∷ word) ≡ Some card → Gapless (byte ∷ word) → BeginsWithCard (byte ∷ word ++ []) card []
last_card card byte word spelled are = record {
  word = byte ∷ word;
  spelled = spelled;
  shorter = omega arith;
  words = λ start. first_word is_gap start byte word [] are tt;
}

-- a card's word with a blank after it
next_card : (card byte : ℕ) (word rest : List ℕ) → card_spelled (byte ∷ word) ≡ Some card → Gapless (byte ∷ word) → BeginsWithCard (byte ∷ word ++ blank ∷ rest) card rest
next_card card byte word rest spelled are = record {
  word = byte ∷ word;
  spelled = spelled;
  shorter = omega (arith, long);
  words = λ start.
      first_word is_gap start byte word (blank ∷ rest) are refl
      ∙ ap (λ words. record { start = start; bytes = byte ∷ word } ∷ words)
      (word_after_gap (start + length (byte ∷ word)) blank rest refl ∙ ap (λ place. words_from is_gap place rest) (omega (arith, long)));
}
  where
    long : length (word ++ blank ∷ rest) ≡ length word + suc (length rest)
    long = length-append word (blank ∷ rest)

-- a card's word and what comes after it
then_rest : (card byte : ℕ) (word bytes rest : List ℕ) → card_spelled (byte ∷ word) ≡ Some card → Gapless (byte ∷ word) → AfterBlank bytes rest
    → BeginsWithCard (byte ∷ word ++ bytes) card rest
then_rest card byte word [] rest spelled are after = subst (BeginsWithCard (byte ∷ word ++ []) card) (sym after) (last_card card byte word spelled are)
then_rest card byte word (first ∷ bytes) rest spelled are after =
    subst (λ first. BeginsWithCard (byte ∷ word ++ first ∷ bytes) card rest) (sym after.0)
    (subst (BeginsWithCard (byte ∷ word ++ blank ∷ bytes) card) (sym after.1) (next_card card byte word bytes spelled are))

absurd_none : (card : ℕ) → Some card ≡ None → ⊥
absurd_none card e = absurd (cc)

-- what follows a blank, as it is cut
all_of : (bytes : List ℕ) (n : ℕ) → n ≡ length bytes → take n bytes ≡ bytes
all_of bytes n e = ap (λ n. take n bytes) e ∙ take-length bytes

pub blank_first : (bytes : List ℕ) → 1 ≤ length bytes → get_or bytes 0 0 ≡ 32 → AfterBlank bytes (take (length bytes - 1) (drop 1 bytes))
blank_first [] h e = absurd (omega arith)
blank_first (byte ∷ bytes) h e = (e, all_of bytes _ (omega arith))

-- letters that spell a card are no gaps
gapless_rank : (rank suit card : ℕ) → card_spelled (rank ∷ suit ∷ []) ≡ Some card → is_gap rank ≡ false
gapless_rank rank suit card spelled = by_blank (eqb_tells rank 32) (eqb_tells rank 9)
  where
    unlike : (gap : ℕ) → rank_spelled (gap ∷ []) ≡ None → rank ≡ gap → ⊥
    unlike gap none e =
        absurd_none card (sym spelled ∙ ap (option_and_then (λ rank. option_map (λ suit. card_of (rank + 1) suit) (suit_spelled (suit ∷ [])))) (ap (λ rank. rank_spelled (rank ∷ [])) e ∙ none))

    by_blank : ((eqb rank 32 ≡ true) × (rank ≡ 32)) ⊎ ((eqb rank 32 ≡ false) × (rank ≢ 32)) → ((eqb rank 9 ≡ true) × (rank ≡ 9)) ⊎ ((eqb rank 9 ≡ false) × (rank ≢ 9)) → is_gap rank ≡ false
    by_blank (inl (test, e)) tab = absurd (unlike 32 refl e)
    by_blank (inr (test, other)) (inl (tab_test, e)) = absurd (unlike 9 refl e)
    by_blank (inr (test, other)) (inr (tab_test, further)) = ap₂ (λ a b. a || b) test tab_test

gapless_suit : (rank suit card : ℕ) → card_spelled (rank ∷ suit ∷ []) ≡ Some card → is_gap suit ≡ false
gapless_suit rank suit card spelled = by_blank (eqb_tells suit 32) (eqb_tells suit 9)
  where
    nothing : (o : Option ℕ) → option_and_then (λ rank. option_map (λ suit. card_of (rank + 1) suit) None) o ≡ None
    nothing None = refl
    nothing (Some rank) = refl

    unlike : (gap : ℕ) → suit_spelled (gap ∷ []) ≡ None → suit ≡ gap → ⊥
    unlike gap none e =
        absurd_none card
        (sym spelled
        ∙ ap (λ suit. option_and_then (λ rank. option_map (λ suit. card_of (rank + 1) suit) suit) (rank_spelled (rank ∷ []))) (ap (λ suit. suit_spelled (suit ∷ [])) e ∙ none)
        ∙ nothing (rank_spelled (rank ∷ [])))

    by_blank : ((eqb suit 32 ≡ true) × (suit ≡ 32)) ⊎ ((eqb suit 32 ≡ false) × (suit ≢ 32)) → ((eqb suit 9 ≡ true) × (suit ≡ 9)) ⊎ ((eqb suit 9 ≡ false) × (suit ≢ 9)) → is_gap suit ≡ false
    by_blank (inl (test, e)) tab = absurd (unlike 32 refl e)
    by_blank (inr (test, other)) (inl (tab_test, e)) = absurd (unlike 9 refl e)
    by_blank (inr (test, other)) (inr (tab_test, further)) = ap₂ (λ a b. a || b) test tab_test

gapless : (rank suit card : ℕ) → card_spelled (rank ∷ suit ∷ []) ≡ Some card → Gapless (rank ∷ suit ∷ [])
gapless rank suit card spelled =
    All-cons (λ byte. is_gap byte ≡ false) rank (suit ∷ []) (gapless_rank rank suit card spelled)
    (All-cons (λ byte. is_gap byte ≡ false) suit [] (gapless_suit rank suit card spelled) (All-nil (λ byte. is_gap byte ≡ false)))

gapless_ten : (suit card : ℕ) → card_spelled (84 ∷ suit ∷ []) ≡ Some card → Gapless (49 ∷ 48 ∷ suit ∷ [])
gapless_ten suit card spelled =
    All-cons (λ byte. is_gap byte ≡ false) 49 (48 ∷ suit ∷ []) refl
    (All-cons (λ byte. is_gap byte ≡ false) 48 (suit ∷ []) refl (All-tail (λ byte. is_gap byte ≡ false) 84 (suit ∷ []) (gapless 84 suit card spelled)))

-- a card of two letters and the blank after it
pub first_and_blank : (card : ℕ) (bytes : List ℕ) → card_spelled (get_or bytes 0 0 ∷ get_or bytes 1 0 ∷ []) ≡ Some card
    → 3 ≤ length bytes → get_or bytes 2 0 ≡ 32 → BeginsWithCard bytes card (take (length bytes - 3) (drop 3 bytes))
first_and_blank card [] spelled h gap = absurd (omega (arith, h))
first_and_blank card (rank ∷ []) spelled h gap = absurd (omega (arith, h))
first_and_blank card (rank ∷ suit ∷ bytes) spelled h gap =
    subst (BeginsWithCard (rank ∷ suit ∷ bytes) card) (ap (λ n. take n (drop 1 bytes)) (let e : length bytes - 1 ≡ length (rank ∷ suit ∷ bytes) - 3 = omega arith in e))
    (then_rest card rank (suit ∷ []) bytes (take (length bytes - 1) (drop 1 bytes)) spelled (gapless rank suit card spelled) (blank_first bytes (omega (arith, h)) gap))

-- a card of two letters at the end
pub two_at_end : (card : ℕ) (bytes : List ℕ) → card_spelled (get_or bytes 0 0 ∷ get_or bytes 1 0 ∷ []) ≡ Some card
    → length bytes ≡ 2 → BeginsWithCard bytes card (take (length bytes - 2) (drop 2 bytes))
two_at_end card [] spelled h = absurd (omega (arith, h))
two_at_end card (rank ∷ []) spelled h = absurd (omega (arith, h))
two_at_end card (rank ∷ suit ∷ []) spelled h = last_card card rank (suit ∷ []) spelled (gapless rank suit card spelled)
two_at_end card (rank ∷ suit ∷ third ∷ bytes) spelled h = absurd (omega (arith, h))

-- a ten of two digits, as it is cut
pub first_ten : (card : ℕ) (bytes rest : List ℕ) → card_spelled (84 ∷ get_or bytes 2 0 ∷ []) ≡ Some card
    → 3 ≤ length bytes → get_or bytes 0 0 ≡ 49 → get_or bytes 1 0 ≡ 48 → AfterBlank (take (length bytes - 3) (drop 3 bytes)) rest → BeginsWithCard bytes card rest
first_ten card [] rest spelled h one zero after = absurd (omega (arith, h))
first_ten card (first ∷ []) rest spelled h one zero after = absurd (omega (arith, h))
first_ten card (first ∷ second ∷ []) rest spelled h one zero after = absurd (omega (arith, h))
first_ten card (first ∷ second ∷ suit ∷ bytes) rest spelled h one zero after =
    subst (λ first. BeginsWithCard (first ∷ second ∷ suit ∷ bytes) card rest) (sym one)
    (subst (λ second. BeginsWithCard (49 ∷ second ∷ suit ∷ bytes) card rest) (sym zero)
    (then_rest card 49 (48 ∷ suit ∷ []) bytes rest spelled (gapless_ten suit card spelled) (subst (λ bytes. AfterBlank bytes rest) (all_of bytes _ (omega arith)) after)))
