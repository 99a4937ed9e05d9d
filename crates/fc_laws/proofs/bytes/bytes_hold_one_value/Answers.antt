use Rattle.std.proofs.Common.{◌≤◌, arith}
use Rattle.fc_bytes.proofs.{DecodedLemmas.{one_board}, MovesDecoded.{one_move, one_run}}
use Rattle.fc_bytes.proofs.PassageDecoded.{one_passage, same_boards, same_passages}
use Rattle.fc_laws.proofs.bytes.bytes_hold_one_value.Goals as goal

pub returns-clause-one_board : goal.returns-clause-one_board
returns-clause-one_board g c = let laws = g.met.R.Rule.rule_laws in
    let few : g.R.Rule.game.cells ≤ 8 = omega (arith, laws.cells_are, laws.at_most_eight) in
    λ bytes board other. one_board g.R.Rule.game bytes board other few

pub returns-clause-boards : goal.returns-clause-boards
returns-clause-boards g c = let laws = g.met.R.Rule.rule_laws in
    let few : g.R.Rule.game.cells ≤ 8 = omega (arith, laws.cells_are, laws.at_most_eight) in
    same_boards g.R.Rule.game few

pub returns-clause-one_passage : goal.returns-clause-one_passage
returns-clause-one_passage g c = let laws = g.met.R.Rule.rule_laws in
    let few : g.R.Rule.game.cells ≤ 8 = omega (arith, laws.cells_are, laws.at_most_eight) in
    λ bytes passage other. one_passage g.R.Rule.game bytes passage other few

pub returns-clause-passages : goal.returns-clause-passages
returns-clause-passages g c = let laws = g.met.R.Rule.rule_laws in
    let few : g.R.Rule.game.cells ≤ 8 = omega (arith, laws.cells_are, laws.at_most_eight) in
    same_passages g.R.Rule.game few

pub returns-clause-one_move : goal.returns-clause-one_move
returns-clause-one_move g c = let laws = g.met.R.Rule.rule_laws in
    let few : g.R.Rule.game.cells ≤ 8 = omega (arith, laws.cells_are, laws.at_most_eight) in
    λ bytes move other. one_move g.R.Rule.game bytes move other few

pub returns-clause-one_run : goal.returns-clause-one_run
returns-clause-one_run g c = let laws = g.met.R.Rule.rule_laws in
    let few : g.R.Rule.game.cells ≤ 8 = omega (arith, laws.cells_are, laws.at_most_eight) in
    λ bytes run other. one_run g.R.Rule.game bytes run other few
