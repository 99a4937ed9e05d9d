use Rattle.std.{proofs.Common.{◌∙◌, ap, cond}, specs.Prelude.{◌+◌, ◌∷◌, drop}}
use Rattle.{fc_board.specs.Moves.{OneCard, Runs}, fc_record.specs.Grammar.{list_mark, list_with}}
use Rattle.fc_text.proofs.MovesReadLemmas.{moves_read-BadTokenAt, moves_read-TooManyAt, runs_read-BadTokenAt}
use Rattle.fc_text.{proofs.MovesReadLemmas.{runs_read-TooManyAt}, specs.Readings.{moves_read, runs_read}}
use Rattle.fc_collect.proofs.AcceptanceLemmas.{IsList-from_read, read-from_IsList}
use Rattle.fc_laws.proofs.collections.lines.lists_are_refused_at_their_words.Goals as goal

pub returns : goal.returns
returns c = record {
  listed = λ game place line list few. (IsList-from_read game few place line list, read-from_IsList game few place line list);
  bad_token = λ game place at text few one bad.
      ap (λ b. cond b (list_with Runs (place + 2) (runs_read game (drop 2 (list_mark ∷ text))))
      (list_with OneCard (place + 1) (moves_read game text))) one
      ∙ ap (list_with OneCard (place + 1)) (moves_read-BadTokenAt game text at few bad);
  too_many = λ game place at text few one many.
      ap (λ b. cond b (list_with Runs (place + 2) (runs_read game (drop 2 (list_mark ∷ text))))
      (list_with OneCard (place + 1) (moves_read game text))) one
      ∙ ap (list_with OneCard (place + 1)) (moves_read-TooManyAt game text at few many);
  bad_run = λ game place at text few bad. ap (list_with Runs (place + 2)) (runs_read-BadTokenAt game text at few bad);
  too_many_runs = λ game place at text few many. ap (list_with Runs (place + 2)) (runs_read-TooManyAt game text at few many);
}
