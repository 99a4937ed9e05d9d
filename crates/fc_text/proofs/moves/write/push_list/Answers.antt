use Rattle.std.proofs.{Common.{◌++◌, ◌∙◌, ◌∷◌, ◌≡◌, ap, get_or, map, sym}, lemmas.List.{take_all}}
use Rattle.std.specs.List.{join_with_byte}
use Rattle.fc_text.{proofs.PrintLemmas.{first_put, next_put}, specs.Bytes.{blank}}
use Rattle.fc_text.proofs.moves.write.push_list.Goals as goal
use Rattle.fc_text.proofs.moves.write.push_list.Goals.{else-index-eq0+in_ok-push_next, then-index-eq0+in_ok-push_token}

pub loop-index-preserved : goal.loop-index-preserved
loop-index-preserved g c =
    let at : get_or c.args.moves.now c.loop-index.index c.index-moves-index.result ≡ c.index-moves-index.result = sym c.index-moves-index.is in
    elim c.if-index-eq0.branch [
      | then-index-eq0+in_ok-push_token w ↦
          let put : c.if-index-eq0.text.items ≡ c.loop-index.text.items ++ g.M.Notated.token_of c.index-moves-index.result = ap (λ text. text.items) w.text-is ∙ w.in_ok-push_token.ensures in
          first_put g.M.Notated.token_of c.args.text.now.items c.args.moves.now c.loop-index.index c.index-moves-index.result _ _ c.loop-index-test.true at c.loop-index.invariant
          w.if-index-eq0.true put
      | else-index-eq0+in_ok-push_next w ↦
          let put : c.if-index-eq0.text.items ≡ c.loop-index.text.items ++ (blank ∷ g.M.Notated.token_of c.index-moves-index.result) = ap (λ text. text.items) w.text-is ∙ w.in_ok-push_next.ensures in
          next_put g.M.Notated.token_of c.args.text.now.items c.args.moves.now c.loop-index.index c.index-moves-index.result _ _ c.loop-index-test.true at c.loop-index.invariant
          w.if-index-eq0.false put
    ]

pub returns-clause-printed : goal.returns-clause-printed
returns-clause-printed g c =
    c.loop-index.invariant
    ∙ ap (λ moves. c.args.text.now.items ++ join_with_byte blank (map g.M.Notated.token_of moves)) (take_all c.loop-index.index c.args.moves.now c.loop-index-test.false)
