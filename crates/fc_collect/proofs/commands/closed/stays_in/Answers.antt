use Rattle.std.proofs.Common.{◌∙◌, ◌≡◌, ◌≤◌, ap, arith, subst, sym}
use Rattle.fc_board.{proofs.RunPlayLemmas.{after_step}, specs.Steps.{refusal, Step}}
use Rattle.{fc_bytes.proofs.MovesDecoded.{one_move}, fc_collect.proofs.ClosedLemmas.{kept_after}}
use Rattle.fc_collect.proofs.commands.closed.stays_in.Goals as goal

pub step_allowed-requires-clause-allowed : goal.step_allowed-requires-clause-allowed
step_allowed-requires-clause-allowed g c =
    let laws = g.met.R.Rule.rule_laws in
    let few : g.R.Rule.game.cells ≤ 8 = omega (arith, laws.cells_are, laws.at_most_eight) in
    let (one, holds, allowed) = c.requires in
    let same : one ≡ c.in-Some.one = one_move g.R.Rule.game c.args.mv one c.in-Some.one few holds c.in-Some.ensures.one_card in
    ap (λ board. refusal g.R.Rule.game board c.in-Some.one) c.copy-after.ensures.same ∙ ap (refusal g.R.Rule.game c.args.board.now) (sym same) ∙ allowed.1

pub returns : goal.returns
returns g c = λ all member one are on holds.
    let game = g.R.Rule.game in
    let laws = g.met.R.Rule.rule_laws in
    let few : game.cells ≤ 8 = omega (arith, laws.cells_are, laws.at_most_eight) in
    let after = c.step_allowed.new.self in
    let same : c.in-Some.one ≡ one = one_move game c.args.mv c.in-Some.one one few c.in-Some.ensures.one_card holds in
    let step = subst (λ board. Step game board c.in-Some.one after) c.copy-after.ensures.same c.step_allowed.ensures.step in
    let leads = after_step game c.args.board.now after one (subst (λ move. Step game c.args.board.now move after) same step) in
    let keyed = c.key_and_passage-key.ensures in
    kept_after c.args.keys.now.keys c.key_and_passage-key.result.0 g.R.Rule.VARIANT c.args.board.now after all member one c.is_kept.result are on leads keyed.well_formed keyed.variant keyed.codes c.is_kept.ensures
