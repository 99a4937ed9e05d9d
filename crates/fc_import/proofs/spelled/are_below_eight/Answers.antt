use Rattle.std.proofs.{Common.{◌<◌, arith}, lemmas.Bool.{ltb-true}}
use Rattle.fc_import.proofs.FewLineLemmas.{few_lines}
use Rattle.fc_import.proofs.spelled.are_below_eight.Goals as goal

pub returns : goal.returns
returns c = λ few.
    let small : c.line_feeds.result < 7 = ltb-true c.line_feeds.result 7 few in
    let lines = few_lines 0 c.args.lines.now c.saturating_sub.result (omega (arith, c.saturating_sub.ensures)) in
    omega (arith, small, c.line_feeds.ensures, lines)
