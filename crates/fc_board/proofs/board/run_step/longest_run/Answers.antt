use Rattle.std.proofs.Common.{◌∙◌, arith, sym}
use Rattle.fc_board.proofs.RunLemmas.{all_there, last_is_run, longer_there, stops_there}
use Rattle.fc_board.proofs.board.run_step.longest_run.Goals as goal

pub loop-index-init : goal.loop-index-init
loop-index-init g c = last_is_run g.R.Rule.game c.args.column.now

pub loop-index-preserved : goal.loop-index-preserved
loop-index-preserved g c =
    longer_there g.R.Rule.game c.args.column.now c.loop-index.index c.index-column-index.result c.index-column-index-in-loop-index.result
    c.loop-index-test.true
    (omega (arith, c.loop-index.auto.index)) c.index-column-index.is c.index-column-index-in-loop-index.is c.loop-index.invariant
    (sym c.builds.ensures ∙ c.if-not-builds.false)

pub returns-then-not-builds : goal.returns-then-not-builds
returns-then-not-builds g c =
    stops_there g.R.Rule.game c.args.column.now c.loop-index.index c.index-column-index.result c.index-column-index-in-loop-index.result
    c.loop-index-test.true
    (omega (arith, c.loop-index.auto.index)) c.index-column-index.is c.index-column-index-in-loop-index.is c.loop-index.invariant
    (sym c.builds.ensures ∙ c.if-not-builds.true)

pub returns : goal.returns
returns g c = all_there g.R.Rule.game c.args.column.now c.loop-index.index c.loop-index-test.false c.loop-index.invariant
