use Rattle.std.proofs.Common.{◌++◌, ◌∷◌, ◌≡◌, [], arith, drop, false, is_none, length, rules, subst, sym}
use Rattle.std.proofs.lemmas.List.{take_rest}
use Rattle.fc_text.{proofs.ReadMovesLemmas.{begins_with_token, if_err, IsLeft, pair_read}, specs.Notation.{most_moves}}
use Rattle.fc_text.proofs.moves.read.read_pairs.Goals as goal

pub returns-in_err-reserve-clause-some : goal.returns-in_err-reserve-clause-some
returns-in_err-reserve-clause-some g c =
    let some : is_none c.first_pair.result ≡ false = search rules in
    if_err c.from_residual.result _ (begins_with_token (g.M.Notated.is_token g.R.Rule.game) c.args.text.now c.first_pair.result c.first_pair.ensures some)

pub loop-named-preserved : goal.loop-named-preserved
loop-named-preserved g c =
    let more : ¬ (length c.loop-named.moves.items ≡ most_moves) = λ full. omega (arith, c.loop-named.moves.ok.0, c.len.ensures, c.if-len-ge-MOST_MOVES.false, full) in
    let pushed : c.push.new.self.items ≡ c.loop-named.moves.items ++ c.in-Some.named ∷ [] = search rules in
    subst (λ left. IsLeft (g.M.Notated.is_token g.R.Rule.game) c.args.text.now left c.push.new.self.items) (sym (take_rest c.loop-named.left.now 3))
    (subst (λ items. IsLeft (g.M.Notated.is_token g.R.Rule.game) c.args.text.now (drop 3 c.loop-named.left.now) items) (sym pushed)
    (pair_read (g.M.Notated.is_token g.R.Rule.game) c.args.text.now c.loop-named.left.now c.loop-named.moves.items c.in-Some.named c.loop-named.invariant c.in-Some.ensures more))
