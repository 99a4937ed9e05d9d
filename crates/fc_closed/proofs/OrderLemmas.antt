-- Bytes that are compared as one number, and part by part.
use Rattle.std.proofs.Common.{◌*◌, ◌++◌, ◌+◌, ◌<◌, ◌^◌, ◌↔◌, ◌∙◌, ◌∷◌, ◌≡◌, ◌≤◌, [], ap, ap₂, arith, Bool, inl, inr}
use Rattle.std.proofs.Common.{IsTrue, length, length-append, List, ltb, refl, suc, sym, ℕ}
use Rattle.std.proofs.lemmas.{Bool.{lt-ltb, ltb-true}, Cmp.{nat_list_cmp_total, ranked}, List.{append_assoc}}
use Rattle.std.proofs.{lemmas.List.Elements.{All-head, All-tail}, Math.Nat.{mul-le-mul_right, suc-mul}}
use Rattle.std.specs.{Cmp.Lexicographic.{slice_cmp}, declared.cmp.Ordering.{Ordering}}
use Rattle.std.specs.{declared.cmp.Ordering.TheVariants.{Equal, Greater, Less}, Int.{from_be_bytes, w32, w64}}
use Rattle.std.specs.{Ordering.{is_lt, nat_cmp, ordering_then}, Prelude.{All}}
use Rattle.fc_text.{proofs.TextLemmas.{cases_text, less_before_all, not_both, same_front}, specs.Bytes.{IsLess}}
use Rattle.fc_text.specs.reader.{IsProperPrefix}
use Rattle.{fc_bytes.specs.{all_bytes, declared.board.BoardBytes.{BoardBytes}}, fc_canon.proofs.CanonLoop.{is_less}}

-- ---- as one number
-- the number with these bytes, the first one its highest
abbrev pub value : List ℕ → ℕ
value [] = 0
value (byte ∷ bytes) = byte * 256 ^ length bytes + value bytes

abbrev pub AreBytes : List ℕ → Type 0
AreBytes bytes = All (λ byte. byte < 256) bytes

value_below : (bytes : List ℕ) → AreBytes bytes → value bytes < 256 ^ length bytes
value_below [] are = omega arith
value_below (byte ∷ bytes) are =
    let rest = value_below bytes (All-tail (λ byte. byte < 256) byte bytes are) in
    let small : byte < 256 = All-head (λ byte. byte < 256) byte bytes are in
    let next : suc byte ≤ 256 = omega (arith, small) in
    let room : suc byte * 256 ^ length bytes ≤ 256 * 256 ^ length bytes = mul-le-mul_right (256 ^ length bytes) next in
    let one_more = suc-mul byte (256 ^ length bytes) in
    let power : 256 ^ suc (length bytes) ≡ 256 * 256 ^ length bytes = omega arith in
    omega (arith, rest, room, one_more, power)

value_less : (bytes other : List ℕ) → length bytes ≡ length other → AreBytes bytes → AreBytes other →
    IsLess bytes other → value bytes < value other
value_less [] [] long are are' less = absurd (cc)
value_less [] (y ∷ ys) long are are' less = absurd (omega (arith, long))
value_less (x ∷ xs) [] long are are' less = absurd (omega (arith, long))
value_less (x ∷ xs) (y ∷ ys) long are are' less =
    let same_long : length xs ≡ length ys = omega (arith, long) in
    let rests = All-tail (λ byte. byte < 256) x xs are in
    let rests' = All-tail (λ byte. byte < 256) y ys are' in
    by same_long (value_below xs rests) (nat_cmp x y) refl less (value_less xs ys same_long rests rests')
  where
    by : length xs ≡ length ys → value xs < 256 ^ length xs → (answer : Ordering) → answer ≡ nat_cmp x y →
        ordering_then answer (slice_cmp nat_cmp xs ys) ≡ Less →
        (IsLess xs ys → value xs < value ys) → value (x ∷ xs) < value (y ∷ ys)
    by same_long below Less is h later =
        let lower : x < y = ranked x y Less is in
        let next : suc x ≤ y = omega (arith, lower) in
        let room : suc x * 256 ^ length ys ≤ y * 256 ^ length ys = mul-le-mul_right (256 ^ length ys) next in
        let one_more = suc-mul x (256 ^ length ys) in
        let same = ap (λ n. 256 ^ n) same_long in
        let same' = ap (λ n. x * 256 ^ n) same_long in
        omega (arith, below, room, one_more, same, same')
    by same_long below Equal is h later =
        let one : x ≡ y = ranked x y Equal is in
        let rest = later h in
        let same = ap (λ n. x * 256 ^ n) same_long ∙ ap (λ x. x * 256 ^ length ys) one in
        omega (arith, rest, same)
    by same_long below Greater is h later = absurd (cc)

pub less_by_value : (bytes other : List ℕ) → length bytes ≡ length other → AreBytes bytes → AreBytes other →
    IsLess bytes other ↔ (value bytes < value other)
less_by_value bytes other long are are' = (
  value_less bytes other long are are',
  λ lower. elim (cases_text bytes other) [
    | inl same ↦ let no = ap value same in absurd (omega (arith, no, lower))
    | inr (inl less) ↦ less
    | inr (inr above) ↦ let no = value_less other bytes (sym long) are' are above in absurd (omega (arith, no, lower))
  ],
)

-- ---- part by part
no_prefix : (bytes other : List ℕ) → length bytes ≡ length other → IsProperPrefix bytes other → ⊥
no_prefix bytes other long ([], some, e) = some refl
no_prefix bytes other long (x ∷ rest, some, e) =
    let n = length-append bytes (x ∷ rest) in let m = ap length e in absurd (omega arith)

-- bytes that differ decide, whatever follows them
pub decided : (bytes other after next : List ℕ) → length bytes ≡ length other → ¬ (bytes ≡ other) →
    IsLess bytes other ↔ IsLess (bytes ++ after) (other ++ next)
decided bytes other after next long apart = (
  λ less. less_before_all bytes other after next less (no_prefix bytes other long),
  λ less. elim (cases_text bytes other) [
    | inl same ↦ absurd (apart same)
    | inr (inl below) ↦ below
    | inr (inr above) ↦ absurd (not_both nat_list_cmp_total (bytes ++ after) (other ++ next) less (less_before_all other bytes next after above (no_prefix other bytes (sym long))))
  ],
)

-- equal bytes decide nothing
pub undecided : (bytes other after next : List ℕ) → bytes ≡ other →
    IsLess after next ↔ IsLess (bytes ++ after) (other ++ next)
undecided bytes other after next same =
    let front = same_front bytes after next in
    let there = ap (λ front. slice_cmp nat_cmp (bytes ++ after) (front ++ next)) same in
    (λ less. sym there ∙ front ∙ less, λ less. sym front ∙ there ∙ less)

-- ---- parts that are compared as numbers
module _ (n m : ℕ) (bytes other after next : List ℕ) (is : n ≡ value bytes) (is' : m ≡ value other) (long : length bytes ≡ length other)
    (are : AreBytes bytes) (are' : AreBytes other) where
  -- where the numbers differ, the lesser one is that of the lesser bytes
  pub told_apart : ¬ (n ≡ m) → (n < m) ↔ IsLess (bytes ++ after) (other ++ next)
  told_apart apart =
      let by_value = less_by_value bytes other long are are' in
      let parts = decided bytes other after next long (λ same. apart (is ∙ ap value same ∙ sym is')) in (
        λ lower. parts.0 (by_value.1 (omega (arith, lower, is, is'))),
        λ less. let lower = by_value.0 (parts.1 less) in omega (arith, lower, is, is'),
      )

  -- where they are one, what follows decides
  pub told_alike : n ≡ m → IsLess after next ↔ IsLess (bytes ++ after) (other ++ next)
  told_alike alike = undecided bytes other after next (elim (cases_text bytes other) [
    | inl same ↦ same
    | inr (inl below) ↦ let lower = value_less bytes other long are are' below in absurd (omega (arith, lower, alike, is, is'))
    | inr (inr above) ↦ let lower = value_less other bytes (sym long) are' are above in absurd (omega (arith, lower, alike, is, is'))
  ])

-- ---- the numbers that arrays of bytes are
pub four_bytes : (bytes : List ℕ) → length bytes ≡ 4 → from_be_bytes w32 bytes ≡ value bytes
four_bytes (a ∷ b ∷ c ∷ d ∷ []) four =
    let as_sum : from_be_bytes w32 (a ∷ b ∷ c ∷ d ∷ []) ≡ a * 16777216 + b * 65536 + c * 256 + d = refl in
    let as_value : value (a ∷ b ∷ c ∷ d ∷ []) ≡ a * 16777216 + (b * 65536 + (c * 256 + (d * 1 + 0))) = refl in
    omega (arith, as_sum, as_value)
four_bytes [] four = absurd (omega (arith, four))
four_bytes (a ∷ []) four = absurd (omega (arith, four))
four_bytes (a ∷ b ∷ []) four = absurd (omega (arith, four))
four_bytes (a ∷ b ∷ c ∷ []) four = absurd (omega (arith, four))
four_bytes (a ∷ b ∷ c ∷ d ∷ e ∷ more) four = absurd (omega (arith, four))

pub eight_bytes : (bytes : List ℕ) → length bytes ≡ 8 → from_be_bytes w64 bytes ≡ value bytes
eight_bytes (a ∷ b ∷ c ∷ d ∷ e ∷ f ∷ g ∷ h ∷ []) eight =
    let as_sum : from_be_bytes w64 (a ∷ b ∷ c ∷ d ∷ e ∷ f ∷ g ∷ h ∷ []) ≡ a * 256 ^ 7 + b * 256 ^ 6 + c * 256 ^ 5 + d * 4294967296 + e * 16777216 + f * 65536 + g * 256 + h = refl in
    let as_value : value (a ∷ b ∷ c ∷ d ∷ e ∷ f ∷ g ∷ h ∷ []) ≡ a * 256 ^ 7 + (b * 256 ^ 6 + (c * 256 ^ 5 + (d * 4294967296 + (e * 16777216 + (f * 65536 + (g * 256 + (h * 1 + 0))))))) = refl in
    omega (arith, as_sum, as_value)
eight_bytes [] eight = absurd (omega (arith, eight))
eight_bytes (a ∷ []) eight = absurd (omega (arith, eight))
eight_bytes (a ∷ b ∷ []) eight = absurd (omega (arith, eight))
eight_bytes (a ∷ b ∷ c ∷ []) eight = absurd (omega (arith, eight))
eight_bytes (a ∷ b ∷ c ∷ d ∷ []) eight = absurd (omega (arith, eight))
eight_bytes (a ∷ b ∷ c ∷ d ∷ e ∷ []) eight = absurd (omega (arith, eight))
eight_bytes (a ∷ b ∷ c ∷ d ∷ e ∷ f ∷ []) eight = absurd (omega (arith, eight))
eight_bytes (a ∷ b ∷ c ∷ d ∷ e ∷ f ∷ g ∷ []) eight = absurd (omega (arith, eight))
eight_bytes (a ∷ b ∷ c ∷ d ∷ e ∷ f ∷ g ∷ h ∷ i ∷ more) eight = absurd (omega (arith, eight))

-- ---- the 72 bytes of two boards
pub four_told : (n m : ℕ) (bytes other after next : List ℕ) → n ≡ from_be_bytes w32 bytes →
    m ≡ from_be_bytes w32 other → length bytes ≡ 4 → length other ≡ 4 →
    AreBytes bytes → AreBytes other → (¬ (n ≡ m) → (n < m) ↔ IsLess (bytes ++ after) (other ++ next)) × (n ≡ m → IsLess after next ↔ IsLess (bytes ++ after) (other ++ next))
four_told n m bytes other after next is is' four four' are are' =
    let is_value = is ∙ four_bytes bytes four in
    let is_value' = is' ∙ four_bytes other four' in
    let long = four ∙ sym four' in (
      told_apart n m bytes other after next is_value is_value' long are are',
      told_alike n m bytes other after next is_value is_value' long are are',
    )

pub eight_told : (n m : ℕ) (bytes other after next : List ℕ) → n ≡ from_be_bytes w64 bytes →
    m ≡ from_be_bytes w64 other → length bytes ≡ 8 → length other ≡ 8 →
    AreBytes bytes → AreBytes other → (¬ (n ≡ m) → (n < m) ↔ IsLess (bytes ++ after) (other ++ next)) × (n ≡ m → IsLess after next ↔ IsLess (bytes ++ after) (other ++ next))
eight_told n m bytes other after next is is' eight eight' are are' =
    let is_value = is ∙ eight_bytes bytes eight in
    let is_value' = is' ∙ eight_bytes other eight' in
    let long = eight ∙ sym eight' in (
      told_apart n m bytes other after next is_value is_value' long are are',
      told_alike n m bytes other after next is_value is_value' long are are',
    )

pub then_so : {A B C : Type 0} → A ↔ B → B ↔ C → A ↔ C
then_so (there, back) (onward, again) = (λ a. onward (there a), λ c. back (again c))

pub test_less : (n m : ℕ) → IsTrue (ltb n m) ↔ (n < m)
test_less n m = (ltb-true n m, lt-ltb n m)

pub test_texts : (answer : Bool) (text other : List ℕ) → answer ≡ is_lt (slice_cmp nat_cmp text other) →
    IsTrue answer ↔ IsLess text other
test_texts answer text other is =
    (λ yes. is_less (slice_cmp nat_cmp text other) (sym is ∙ yes), λ less. is ∙ ap is_lt less)

-- the parts one after another
abbrev pub in_parts : BoardBytes → List ℕ
in_parts board = board.heights ++ (board.cells ++ (board.lengths ++ board.cards))

pub all_in_parts : (board : BoardBytes) → all_bytes board ≡ in_parts board
all_in_parts board =
    append_assoc (board.heights ++ board.cells) board.lengths board.cards ∙ append_assoc board.heights board.cells (board.lengths ++ board.cards)

pub by_parts : {A : Type 0} (one other : BoardBytes) → A ↔ IsLess (in_parts one) (in_parts other) →
    A ↔ IsLess (all_bytes one) (all_bytes other)
by_parts one other (there, back) =
    let same = ap₂ (slice_cmp nat_cmp) (all_in_parts one) (all_in_parts other) in
    (λ a. same ∙ there a, λ less. back (sym same ∙ less))
