use Rattle.std.proofs.{Common.{◌≡◌, ◌≤◌, arith, refl, ℕ}, lemmas.Bool.{both_ways}}
use Rattle.fc_text.proofs.SeeingLemmas.{counted_seen, not_seen, seen_again, was_seen}
use Rattle.fc_text.proofs.board.reader.mark_card.Goals as goal

some : (n : ℕ) → (n ≡ 0 → ⊥) → 1 ≤ n
some n other = omega (arith, other)

none : (n : ℕ) → n ≡ 0 → 1 ≤ n → ⊥
none n e some = omega (arith, e, some)

pub returns-then-not-insert : goal.returns-then-not-insert
returns-then-not-insert c =
    let counted = some _ (λ none. both_ways _ c.if-not-insert.true (c.insert.ensures.first.1 none)) in
    (was_seen _ c.args.card c.insert.ensures.in_deck counted, refl, seen_again _ _ c.args.card counted c.insert.ensures.counted)

pub returns : goal.returns
returns c = (
  not_seen _ c.args.card c.insert.ensures.in_deck (none _ (c.insert.ensures.first.0 c.if-not-insert.false)),
  counted_seen _ _ _ c.insert.ensures.counted,
)
