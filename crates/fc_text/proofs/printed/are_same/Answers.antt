use Rattle.std.proofs.Common.{◌&&◌, ◌++◌, ◌==◌, ◌∙◌, ◌∷◌, ◌≡◌, [], ap, ap₂, arith, Bool, get_or, List, sym, true}
use Rattle.std.proofs.{Common.{ℕ}, lemmas.{Bool.{and_parts, Decides.{nat_tests}, eqb-true}, List.{take_all, take_more}}}
use Rattle.fc_text.proofs.printed.are_same.Goals as goal

both_true : (one other : Bool) → one ≡ true → other ≡ true → (one && other) ≡ true
both_true one other p q = ap₂ (λ one other. one && other) p q

same_byte : (these those : List ℕ) (at : ℕ) → these ≡ those → (get_or these at 0 == get_or those at 0) ≡ true
same_byte these those at e = let here : get_or these at 0 ≡ get_or those at 0 = ap (λ bytes. get_or bytes at 0) e in grind (arith, nat_tests)

pub loop-at-preserved : goal.loop-at-preserved
loop-at-preserved g c =
    let these = c.args.these.now in
    let those = c.args.those.now in
    let at = c.loop-at.at in (
      λ same.
          let both = and_parts c.loop-at.same (get_or these at 0 == get_or those at 0) same in
          take_more these at 0 (omega (arith, c.told-these, c.loop-at-test.true))
          ∙ ap₂ (λ front byte. front ++ byte ∷ []) (c.loop-at.invariant.0 both.0) (eqb-true (get_or these at 0) (get_or those at 0) both.1)
          ∙ sym (take_more those at 0 (omega (arith, c.told-those, c.loop-at-test.true))),
      λ alike. both_true c.loop-at.same (get_or these at 0 == get_or those at 0) (c.loop-at.invariant.1 alike) (same_byte these those at alike),
    )

pub returns-clause-alike : goal.returns-clause-alike
returns-clause-alike g c = λ same.
    sym (take_all c.loop-at.at c.args.these.now (omega (arith, c.told-these, c.loop-at-test.false)))
    ∙ c.loop-at.invariant.0 same
    ∙ take_all c.loop-at.at c.args.those.now (omega (arith, c.told-those, c.loop-at-test.false))
