use Rattle.std.proofs.Common.{◌≤◌, arith}
use Rattle.fc_text.proofs.TokenLemmas.{moves-Reads, read-none, read-some, token_in_either_case}
use Rattle.fc_text.specs.{Notation.{IsToken}, reader.{move_named}}
use Rattle.fc_text.proofs.moves.MoveNotated.from_word.Goals as goal

pub returns-clause-token : goal.returns-clause-token
returns-clause-token g c =
    let laws = g.met.R.Rule.rule_laws in
    let few : g.R.Rule.game.cells ≤ 8 = omega (arith, laws.cells_are, laws.at_most_eight) in
    read-some (IsToken g.R.Rule.game) (move_named g.R.Rule.game) (moves-Reads g.R.Rule.game few) c.args.word.now _ c.move_named.ensures

pub returns-clause-no_token : goal.returns-clause-no_token
returns-clause-no_token g c =
    let laws = g.met.R.Rule.rule_laws in
    let few : g.R.Rule.game.cells ≤ 8 = omega (arith, laws.cells_are, laws.at_most_eight) in
    read-none (IsToken g.R.Rule.game) (move_named g.R.Rule.game) (moves-Reads g.R.Rule.game few) c.args.word.now _ c.move_named.ensures

pub returns-clause-in_one_piece : goal.returns-clause-in_one_piece
returns-clause-in_one_piece g c =
    let laws = g.met.R.Rule.rule_laws in
    let few : g.R.Rule.game.cells ≤ 8 = omega (arith, laws.cells_are, laws.at_most_eight) in
    token_in_either_case g.R.Rule.game few c.args.word.now _ (returns-clause-token g c)
