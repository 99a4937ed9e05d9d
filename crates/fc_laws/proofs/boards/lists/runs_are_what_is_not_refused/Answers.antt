use Rattle.std.proofs.Common.{sym}
use Rattle.fc_board.proofs.{RunPlayLemmas.{step-RunFits, token_after}, RunStepLemmas.{not_refused_exactly}}
use Rattle.fc_laws.proofs.boards.lists.runs_are_what_is_not_refused.Goals as goal

pub returns-clause-exactly : goal.returns-clause-exactly
returns-clause-exactly c = λ game board after token. (
  λ step. (let fits = step-RunFits game board after token step in
      (fits, (not_refused_exactly game board token fits).1 (after, step), sym (token_after game board after token step))),
  λ (fits, free, there). (let (other, step) = (not_refused_exactly game board token fits).0 free in
      rw (there, token_after game board other token step) step),
)

pub returns-clause-exists : goal.returns-clause-exists
returns-clause-exists c = not_refused_exactly
