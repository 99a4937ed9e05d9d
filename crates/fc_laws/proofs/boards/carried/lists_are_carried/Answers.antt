use Rattle.fc_board.proofs.AlikeLemmas.{list_legal-exactly, list_plays-exactly, list_refused-exactly, list_wins-exactly}
use Rattle.fc_board.proofs.RenamingLemmas.{fills-renamed_card}
use Rattle.fc_laws.proofs.boards.carried.lists_are_carried.Goals as goal

pub returns-clause-plays : goal.returns-clause-plays
returns-clause-plays g c = λ passage board other moves is well.
    let laws = g.met.R.Rule.rule_laws in
    list_plays-exactly (fills-renamed_card laws) g.R.Rule.KINGS_ONLY laws.builds_one_rank laws.fills_by_rank is board other moves well

pub returns-clause-legal : goal.returns-clause-legal
returns-clause-legal g c = λ passage board moves is well.
    let laws = g.met.R.Rule.rule_laws in
    list_legal-exactly (fills-renamed_card laws) g.R.Rule.KINGS_ONLY laws.builds_one_rank laws.fills_by_rank is board moves well

pub returns-clause-wins : goal.returns-clause-wins
returns-clause-wins g c = λ passage board moves is well.
    let laws = g.met.R.Rule.rule_laws in
    list_wins-exactly (fills-renamed_card laws) g.R.Rule.KINGS_ONLY laws.builds_one_rank laws.fills_by_rank is board moves well

pub returns-clause-refused : goal.returns-clause-refused
returns-clause-refused g c = λ passage board moves index fault is well.
    let laws = g.met.R.Rule.rule_laws in
    list_refused-exactly (fills-renamed_card laws) g.R.Rule.KINGS_ONLY laws.builds_one_rank laws.fills_by_rank is board moves index fault well
