use Rattle.std.proofs.Common.{◌++◌, ◌-◌, ◌∙◌, ◌≡◌, ap, arith, drop, length, sym, take-append-drop}
use Rattle.std.proofs.lemmas.List.{length-drop, take_all}
use Rattle.fc_text.proofs.printed.strip_prefix.Goals as goal

pub returns-clause-taken : goal.returns-clause-taken
returns-clause-taken g c =
    let text = c.args.text.now.now in
    let front = c.args.front.now in
    let same : c.in_ok-head.head.now ≡ front = c.are_same.ensures.alike c.if-not-are_same.false in
    sym (take-append-drop g.row.N text)
    ∙ ap (λ head. head ++ drop g.row.N text) (sym c.in_ok-head.ensures.cases.same ∙ same)
    ∙ ap (λ rest. front ++ rest) (sym (take_all (length text - g.row.N) (drop g.row.N text) (omega (arith, length-drop g.row.N text))))
