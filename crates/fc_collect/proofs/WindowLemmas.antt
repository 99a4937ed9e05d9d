-- Lemmas on what calls add to counts.
use borrow.Rule.Slice.PartMut.{put_mid}
use Rattle.std.proofs.Common.{◌++◌, ◌+◌, ◌-◌, ◌<◌, ◌==◌, ◌^◌, ◌∙◌, ◌∷◌, ◌≡◌, ◌≢◌, ◌≤◌, [], ap, arith, drop, length}
use Rattle.std.proofs.Common.{length-append, length-drop, length-take-le, List, nat_lt, Option, refl, subst, sym, take}
use Rattle.std.proofs.{Common.{true, ℕ}, lemmas.{Bool.Decides.{nat_tests}}}
use Rattle.std.proofs.{lemmas.List.{take-append-le}, Math.Seq.{take-append-add}}
use Rattle.std.specs.{Io.KnownBytes.{Consumes, IsAtEnd}}
use Rattle.fc_collect.specs.{inside.{FillsWindow}, Streams.{counts_of, GrowsBy, HasRoom, moves_none, one_more_if}}
use Rattle.fc_collect.specs.declared.streams.counted.Counted.{Counted}

-- no more where a call moved some bytes
pub one_more_if-moved : (count moved : ℕ) (bytes : List ℕ) → moved ≢ 0 → one_more_if (moves_none moved bytes) count ≡ count
one_more_if-moved count moved [] some = refl
one_more_if-moved count moved (byte ∷ bytes) some = grind (arith, nat_tests)

-- one more where a read gave some bytes, below the greatest value
one_more_if-given : (count given : ℕ) → given ≢ 0 → count < 2 ^ 64 - 1 → one_more_if (nat_lt 0 given) count ≡ count + 1
one_more_if-given count given some low = grind (arith, nat_tests)

-- a read gave the end
pub GrowsBy-ended : {R : Type 0} (first old new : Counted R) (turns given : ℕ) → HasRoom first → given ≡ 0
    → GrowsBy first old (record { failures = 0; fills = turns; ends = 0; flushes = 0 }) → (counts_of new).failures ≡ (counts_of old).failures
    → (counts_of new).fills ≡ one_more_if (nat_lt 0 given) (counts_of old).fills → (counts_of new).ends ≡ one_more_if (given == 0) (counts_of old).ends → (counts_of new).flushes ≡ (counts_of old).flushes
    → GrowsBy first new (record { failures = 0; fills = turns; ends = 1; flushes = 0 })
GrowsBy-ended first old new turns given low none so_far failures fills ends flushes =
    let same : (counts_of new).fills ≡ (counts_of old).fills = subst (λ n. (counts_of new).fills ≡ one_more_if (nat_lt 0 n) (counts_of old).fills) none fills in
    let more : (counts_of new).ends ≡ one_more_if true (counts_of old).ends = subst (λ n. (counts_of new).ends ≡ one_more_if (n == 0) (counts_of old).ends) none ends in
    record {
      failures = failures ∙ so_far.failures;
      fills = same ∙ so_far.fills;
      ends = omega (arith, more, so_far.ends, low.ends);
      flushes = flushes ∙ so_far.flushes;
    }

one_more_if-not : (count given : ℕ) → given ≢ 0 → one_more_if (given == 0) count ≡ count
one_more_if-not count given some = grind (arith, nat_tests)

-- a read gave some bytes
pub GrowsBy-given : {R : Type 0} (first old new : Counted R) (turns given : ℕ) → HasRoom first → turns < 2 ^ 60 → given ≢ 0
    → GrowsBy first old (record { failures = 0; fills = turns; ends = 0; flushes = 0 }) → (counts_of new).failures ≡ (counts_of old).failures
    → (counts_of new).fills ≡ one_more_if (nat_lt 0 given) (counts_of old).fills → (counts_of new).ends ≡ one_more_if (given == 0) (counts_of old).ends → (counts_of new).flushes ≡ (counts_of old).flushes
    → GrowsBy first new (record { failures = 0; fills = turns + 1; ends = 0; flushes = 0 })
GrowsBy-given first old new turns given low few some so_far failures fills ends flushes =
    let more = one_more_if-given (counts_of old).fills given some (omega (arith, so_far.fills, low.fills)) in
    record {
      failures = failures ∙ so_far.failures;
      fills = omega (arith, fills, more, so_far.fills);
      ends = ends ∙ one_more_if-not (counts_of old).ends given some ∙ so_far.ends;
      flushes = flushes ∙ so_far.flushes;
    }

-- ---- a window: what it holds after bytes went in at its end, or went away in front

-- what is at the front once a read put some more after it
pub take-put_mid_more : (buffer new : List ℕ) (count more k : ℕ) → count ≤ length buffer → more ≤ length new
    → take (count + more) (put_mid count k buffer new) ≡ take count buffer ++ take more new
take-put_mid_more buffer new count more k within room =
    let front = take count buffer in
    let long : length front ≡ count = length-take-le count buffer within in
    let rest = drop k (drop count buffer) in
    ap (λ n. take (n + more) (front ++ (new ++ rest))) (sym long) ∙ take-append-add front (new ++ rest) more
    ∙ ap (λ l. front ++ l) (take-append-le more new rest room)

pub filled_held : (bytes now buf held : List ℕ) (count given k : ℕ) (before after : Option (List ℕ)) → count ≤ length bytes → given ≤ length buf → 0 < length buf
    → now ≡ bytes → take count bytes ≡ held → Consumes before after (take given buf) → (given ≡ 0 → 0 < length buf → IsAtEnd after)
    → FillsWindow held (take (count + given) (put_mid count k now buf)) before after given
filled_held bytes now buf held count given k before after within few some is_now is_held consumed ended = record {
  given = take given buf;
  follows = take-put_mid_more now buf count given k (subst (λ l. count ≤ length l) (sym is_now) within) few ∙ ap (λ l. take count l ++ take given buf) is_now ∙ ap (λ l. l ++ take given buf) is_held;
  long = length-take-le given buf few;
  consumed = consumed;
  ended = λ none. ended none some;
}

-- a write to a part keeps the length
pub length_put : (now buf : List ℕ) (count k : ℕ) → count + k ≤ length now → length buf ≡ k → length (put_mid count k now buf) ≡ length now
length_put now buf count k within long =
    omega (arith, length-append (take count now) (buf ++ drop k (drop count now)), length-append buf (drop k (drop count now)), length-drop k (drop count now), length-drop count now, length-take-le count now (omega arith))
