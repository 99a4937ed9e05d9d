use Rattle.std.proofs.{Common.{◌∙◌, ◌≡◌, arith, true}, lemmas.List.{get_or_default}}
use Rattle.fc_closed.proofs.SearchLemmas.{absent}
use Rattle.fc_closed.proofs.search.is_among.Goals as goal

pub returns-then-at-keys-clause-absent : goal.returns-then-at-keys-clause-absent
returns-then-at-keys-clause-absent c = λ other up.
    let keys = c.args.keys.now in
    let key = c.args.key.now in
    let at = c.first_place-at.result in
    absent keys key at up (c.first_place-at.ensures.before up) (c.first_place-at.ensures.after up)
    (λ inside same. let yes : c.is_same.result ≡ true = c.is_same.ensures.1 (get_or_default keys at _ key inside ∙ same) in cc)

pub returns-else-at-keys-clause-absent : goal.returns-else-at-keys-clause-absent
returns-else-at-keys-clause-absent c = λ other up.
    absent c.args.keys.now c.args.key.now c.first_place-at.result up (c.first_place-at.ensures.before up) (c.first_place-at.ensures.after up)
    (λ inside same. absurd (omega (arith, inside, c.if-at-keys.false)))
