use Rattle.std.proofs.Common.{◌≤◌, arith}
use Rattle.fc_text.proofs.{RunTokenLemmas.{run_token_in_either_case, runs-Reads}, TokenLemmas.{read-none, read-some}}
use Rattle.fc_text.specs.{Notation.{IsRunToken}, reader.{run_named}}
use Rattle.fc_text.proofs.moves.RunMoveNotated.from_word.Goals as goal

pub returns-clause-token : goal.returns-clause-token
returns-clause-token g c =
    let laws = g.met.R.Rule.rule_laws in
    let few : g.R.Rule.game.cells ≤ 8 = omega (arith, laws.cells_are, laws.at_most_eight) in
    read-some (IsRunToken g.R.Rule.game) (run_named g.R.Rule.game) (runs-Reads g.R.Rule.game few) c.args.word.now _ c.run_named.ensures

pub returns-clause-no_token : goal.returns-clause-no_token
returns-clause-no_token g c =
    let laws = g.met.R.Rule.rule_laws in
    let few : g.R.Rule.game.cells ≤ 8 = omega (arith, laws.cells_are, laws.at_most_eight) in
    read-none (IsRunToken g.R.Rule.game) (run_named g.R.Rule.game) (runs-Reads g.R.Rule.game few) c.args.word.now _ c.run_named.ensures

pub returns-clause-in_one_piece : goal.returns-clause-in_one_piece
returns-clause-in_one_piece g c =
    let laws = g.met.R.Rule.rule_laws in
    let few : g.R.Rule.game.cells ≤ 8 = omega (arith, laws.cells_are, laws.at_most_eight) in
    run_token_in_either_case g.R.Rule.game few c.args.word.now _ (returns-clause-token g c)
