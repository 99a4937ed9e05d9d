use Rattle.std.proofs.Common.{◌≤◌, arith, Some, subst, sym}
use Rattle.fc_board.proofs.{RunStepLemmas.{not_refused_exactly}, StepLemmas.{not_refused_at_step, step_from}}
use Rattle.fc_board.specs.{Moves.{RunFits}, Steps.{RunStep}}
use Rattle.fc_board.specs.declared.run_move.RunMove.TheVariants.{Run}
use Rattle.fc_bytes.proofs.{LegalMoves.{exactly_legal}, RunMoves.{exactly}}
use Rattle.fc_laws.proofs.ListingLemmas.{moves_in_order, runs_in_order}
use Rattle.fc_laws.proofs.bytes.each_legal_move_is_listed_once.Goals as goal

pub returns-clause-one_card : goal.returns-clause-one_card
returns-clause-one_card g c = λ board move. (
  λ there. let (fits, allowed) =
      (exactly_legal g.R.Rule.game board move).0 there in step_from g.R.Rule.game board move fits allowed,
  λ (after, step). (exactly_legal g.R.Rule.game board move).1
      (step.fits, not_refused_at_step g.R.Rule.game board after move step),
)

pub returns-clause-in_order : goal.returns-clause-in_order
returns-clause-in_order g c = let laws = g.met.R.Rule.rule_laws in
    let few : g.R.Rule.game.cells ≤ 8 = omega (arith, laws.cells_are, laws.at_most_eight) in
    λ board. moves_in_order g.R.Rule.game board few

pub returns-clause-runs : goal.returns-clause-runs
returns-clause-runs g c = λ board run. (
  λ there.
      let (from, to, count, is, several, fits, allowed) = (exactly g.R.Rule.game board run).0 there in
      (from, to, count, is, several, (not_refused_exactly g.R.Rule.game board run fits).0 allowed),
  λ (from, to, count, is, several, (after, step)).
      let goes : RunStep g.R.Rule.game board (Run from to (Some count)) after =
      subst (λ run. RunStep g.R.Rule.game board run after) is step in
      let fits : RunFits g.R.Rule.game run = subst (RunFits g.R.Rule.game) (sym is) goes.0 in
      (exactly g.R.Rule.game board run).1 (
        from,
        to,
        count,
        is,
        several,
        fits,
        (not_refused_exactly g.R.Rule.game board run fits).1 (after, step),
      ),
)

pub returns-clause-runs_in_order : goal.returns-clause-runs_in_order
returns-clause-runs_in_order g c = runs_in_order g.R.Rule.game
