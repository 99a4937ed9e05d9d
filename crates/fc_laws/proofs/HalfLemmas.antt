-- What half of a count is over helper columns.
use Rattle.std.proofs.Common.{◌*◌, ◌^◌, ◌∙◌, ◌∷◌, ◌≡◌, ◌≤◌, [], arith, inl, inr, length, List, suc, sym, zero, ℕ}
use Rattle.std.proofs.lemmas.Bool.{cases_lt}
use Rattle.fc_board.{proofs.ExpansionLemmas.{double_pow, half_else, half_when, pow_some}, specs.Moves.{half}}

pub half-kind : (reach count : ℕ) (helpers : List ℕ) →
    (times : ℕ) × (times ≤ length helpers) × (half reach count helpers ≡ reach * 2 ^ times)
half-kind reach count [] = (0, omega arith, omega arith)
half-kind reach count (helper ∷ helpers) = elim (cases_lt (2 * reach) count) [
  | inl many ↦
      let (times, few, same) = half-kind (2 * reach) count helpers in
      (suc times, omega (arith, few), half_else reach count helper helpers many ∙ same ∙ sym (double_pow reach times))
  | inr few ↦ (0, omega arith, omega (arith, half_when reach count helper helpers few))
]

pub half-enough : (reach count : ℕ) (helpers : List ℕ) →
    count ≤ 2 * (reach * 2 ^ length helpers) → count ≤ 2 * half reach count helpers
half-enough reach count [] within = omega (arith, within)
half-enough reach count (helper ∷ helpers) within = elim (cases_lt (2 * reach) count) [
  | inl many ↦
      let rest = half-enough (2 * reach) count helpers (omega (arith, within, double_pow reach (length helpers))) in
      omega (arith, rest, half_else reach count helper helpers many)
  | inr few ↦ omega (arith, few, half_when reach count helper helpers few)
]

pub half-least : (reach count : ℕ) (helpers : List ℕ) (times : ℕ) →
    count ≤ 2 * (reach * 2 ^ times) → half reach count helpers ≤ reach * 2 ^ times
half-least reach count [] times within = pow_some reach times
half-least reach count (helper ∷ helpers) zero within = elim (cases_lt (2 * reach) count) [
  | inl many ↦ absurd (omega (arith, within, many))
  | inr few ↦ omega (arith, half_when reach count helper helpers few)
]
half-least reach count (helper ∷ helpers) (suc times) within = elim (cases_lt (2 * reach) count) [
  | inl many ↦
      let further = double_pow reach times in
      let rest = half-least (2 * reach) count helpers times (omega (arith, within, further)) in
      omega (arith, rest, further, half_else reach count helper helpers many)
  | inr few ↦ omega (arith, pow_some reach (suc times), half_when reach count helper helpers few)
]
