use Rattle.std.proofs.Common.{◌∙◌, ap, Err, sym}
use Rattle.fc_text.proofs.WriterLemmas.{few_cells}
use Rattle.fc_import.proofs.PrintedLemmas.{only_memory, only_memory_runs, same_moves, same_runs}
use Rattle.fc_import.proofs.made.read_list.Goals as goal

pub returns-in-Ok-clause-found : goal.returns-in-Ok-clause-found
returns-in-Ok-clause-found g c = λ list form names.
    c.one_card.ensures
    ∙ same_moves g.R.Rule.game (few_cells g.met.R.Rule.rule_laws) c.args.words.now list names
    (sym c.in-OneCard.is ∙ form) c.in-Ok.moves.items c.in-Ok.ensures.listed

pub returns-in-Err-clause-memory : goal.returns-in-Err-clause-memory
returns-in-Err-clause-memory g c = λ list form names.
    only_memory g.R.Rule.game (few_cells g.met.R.Rule.rule_laws) c.args.words.now list names (sym c.in-OneCard.is
    ∙ form) c.in-Err.fault
    (λ place is. c.in-Err.ensures.bad_token place (ap Err is)) (λ place is. c.in-Err.ensures.too_many place (ap Err is))

pub returns-in-Ok-read_runs-clause-found : goal.returns-in-Ok-read_runs-clause-found
returns-in-Ok-read_runs-clause-found g c = λ list form names.
    c.runs.ensures
    ∙ same_runs g.R.Rule.game (few_cells g.met.R.Rule.rule_laws) c.args.words.now list names (sym c.in-Runs.is
    ∙ form) c.in-Ok-read_runs.moves.items c.in-Ok-read_runs.ensures.listed

pub returns-in-Err-read_runs-clause-memory : goal.returns-in-Err-read_runs-clause-memory
returns-in-Err-read_runs-clause-memory g c = λ list form names.
    only_memory_runs g.R.Rule.game (few_cells g.met.R.Rule.rule_laws) c.args.words.now list names
    (sym c.in-Runs.is ∙ form) c.in-Err-read_runs.fault
    (λ place is. c.in-Err-read_runs.ensures.bad_token place (ap Err is))
    (λ place is. c.in-Err-read_runs.ensures.too_many place (ap Err is))
