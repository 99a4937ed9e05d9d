use Rattle.fc_board.{proofs.RunStepLemmas.{expanded_ok}, specs.declared.run_move.RunMove.TheVariants.{One, Run}}
use Rattle.fc_board.proofs.board.Board.expand.Goals as goal

pub returns-in-One-clause-expands : goal.returns-in-One-clause-expands
returns-in-One-clause-expands g c =
    let laws = g.met.R.Rule.rule_laws in
    expanded_ok g.R.Rule.game g.R.Rule.KINGS_ONLY laws.builds_one_rank laws.fills_by_rank c.args.self.now c.args.mv (One c.in-One.mv)
    c.expand_one.result (rw c.self.view_is at c.self.invariant.0) c.requires.fits c.in-One.is
    c.expand_one.ensures.moves c.expand_one.ensures.allowed

pub returns-in-Run-clause-expands : goal.returns-in-Run-clause-expands
returns-in-Run-clause-expands g c =
    let laws = g.met.R.Rule.rule_laws in
    expanded_ok g.R.Rule.game g.R.Rule.KINGS_ONLY laws.builds_one_rank laws.fills_by_rank c.args.self.now c.args.mv
    (Run c.in-Run.from c.in-Run.to c.in-Run.count) c.expand_run.result (rw c.self.view_is at c.self.invariant.0)
    c.requires.fits c.in-Run.is c.expand_run.ensures.moves c.expand_run.ensures.allowed
