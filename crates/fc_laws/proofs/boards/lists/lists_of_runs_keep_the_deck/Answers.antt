use Rattle.fc_board.proofs.{DeckLemmas.{stays_well_formed}, ListLemmas.{kept_by_all}}
use Rattle.fc_board.{proofs.RunPlayLemmas.{list_expanded, never_lower}, specs.Boards.{IsWellFormed}}
use Rattle.fc_board.specs.{Play.{expansions}, Steps.{Step}}
use Rattle.fc_laws.proofs.boards.lists.lists_of_runs_keep_the_deck.Goals as goal

pub returns-clause-well_formed : goal.returns-clause-well_formed
returns-clause-well_formed g c = λ board after tokens well plays.
    let game = g.R.Rule.game in
    let laws = g.met.R.Rule.rule_laws in
    kept_by_all (Step game) (IsWellFormed game) (stays_well_formed game) board after (expansions game board tokens) well
    (list_expanded game g.R.Rule.KINGS_ONLY laws.builds_one_rank laws.fills_by_rank board after tokens well plays)

pub returns-clause-heights : goal.returns-clause-heights
returns-clause-heights g c = λ board after tokens suit well plays.
    let game = g.R.Rule.game in
    let laws = g.met.R.Rule.rule_laws in
    never_lower game board after (expansions game board tokens) suit
    (list_expanded game g.R.Rule.KINGS_ONLY laws.builds_one_rank laws.fills_by_rank board after tokens well plays)
