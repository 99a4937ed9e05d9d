use Rattle.std.proofs.Common.{◌++◌, ◌+◌, ◌-◌, ◌<◌, ◌∙◌, ◌∷◌, ◌≡◌, ◌⊎◌, [], ap, ap₂, arith, cond, inl, inr, map, Some}
use Rattle.std.{proofs.{Common.{sym}, lemmas.List.{append-nil}}, specs.Option.{is_none}}
use Rattle.{fc_board.specs.Steps.{column_at, longest_run, run_refusal}, fc_card.specs.{rank_of}}
use Rattle.fc_board.specs.declared.run_move.RunMove.TheVariants.{Run}
use Rattle.fc_bytes.proofs.calls.run_moves.push_run_onto.Goals.{then-count-lt2-via-else-count-lt2+then-from-pair}
use Rattle.fc_bytes.proofs.calls.run_moves.push_run_onto.Goals.{then-count-lt2-via-then-count-lt2}
use Rattle.fc_bytes.proofs.{ChildrenLemmas.{bytes_if}, RunMoves.{none_onto, one_onto}}
use Rattle.fc_bytes.specs.{legal_runs_between, run_bytes}
use Rattle.fc_bytes.proofs.calls.run_moves.push_run_onto.Goals as goal

pub returns-then-count-lt2-clause-runs : goal.returns-then-count-lt2-clause-runs
returns-then-count-lt2-clause-runs g c =
    let game = g.R.Rule.game in
    let board = c.args.board.now in
    let old = c.args.runs.now.items in
    let ranks = rank_of c.args.last - rank_of c.args.card in
    let is : c.saturating_sub-count.result ≡ ranks =
    c.saturating_sub-count.ensures
    ∙ ap₂ (λ high low. high - low) (c.number.ensures.value ∙ c.rank.ensures) (c.number-2.ensures.value ∙ c.rank-2.ensures) in
    let out : (ranks < 2) ⊎ (longest_run game (column_at board c.args.pair.from) < ranks) =
    elim c.then-count-lt2.branch [
      | then-count-lt2-via-then-count-lt2 w ↦ inl (omega (arith, is, w.if-count-lt2.true))
      | then-count-lt2-via-else-count-lt2+then-from-pair w ↦ inr (omega (arith, is, w.from.ensures, w.if-from-pair.true, c.requires.longest))
    ] in
    sym (append-nil old) ∙ ap (λ listed. old ++ map run_bytes listed)
    (sym (none_onto game board c.args.pair.from c.args.pair.to c.requires.columns.0 c.requires.columns.1 c.args.card c.args.last c.requires.card c.requires.last out))

pub returns-clause-runs : goal.returns-clause-runs
returns-clause-runs g c =
    let game = g.R.Rule.game in
    let board = c.args.board.now in
    let old = c.args.runs.now.items in
    let count = c.saturating_sub-count.result in
    let one = Run c.args.pair.from c.args.pair.to (Some count) in
    let allowed = is_none (run_refusal game board one) in
    let is : count ≡ rank_of c.args.last - rank_of c.args.card =
    c.saturating_sub-count.ensures
    ∙ ap₂ (λ high low. high - low) (c.number.ensures.value ∙ c.rank.ensures) (c.number-2.ensures.value ∙ c.rank-2.ensures) in
    let back : count - 2 + 2 ≡ count = omega (arith, c.if-count-lt2.false) in
    let few : count - 2 < 12 =
    omega (arith, c.saturating_sub-count.ensures, c.number.ensures.at_most_thirteen, c.number-2.ensures.at_least_one) in
    let listed : legal_runs_between game board c.args.pair.from c.args.pair.to ≡ cond allowed (one ∷ []) [] =
    one_onto game board c.args.pair.from c.args.pair.to c.requires.columns.0 c.requires.columns.1 c.args.card c.args.last c.requires.card c.requires.last
    (count - 2) few (back ∙ is)
    ∙ ap (λ n. cond (is_none (run_refusal game board (Run c.args.pair.from c.args.pair.to (Some n)))) (Run c.args.pair.from c.args.pair.to (Some n) ∷ []) []) back in
    c.push_run.ensures.runs ∙ ap (λ back. old ++ back) (sym (ap (map run_bytes) listed ∙ bytes_if run_bytes one allowed))
