use Rattle.std.proofs.Common.{◌∙◌, ap, Err, sym}
use Rattle.fc_collect.proofs.HeaderSaysLemmas.{BadHeaderAt-from_err, err-from_BadHeaderAt, HeaderSays-from_ok}
use Rattle.fc_collect.proofs.HeaderSaysLemmas.{ok-from_HeaderSays, says_or_is_bad}
use Rattle.fc_laws.proofs.collections.lines.headers_say_their_game_and_name.Goals as goal

pub returns : goal.returns
returns c = record {
  says = λ variant bytes heading. (HeaderSays-from_ok variant bytes heading, λ says. ok-from_HeaderSays says);
  bad = λ variant bytes fault. (
    BadHeaderAt-from_err variant bytes fault,
    λ (place, same, bad). err-from_BadHeaderAt bad variant ∙ ap Err (sym same),
  );
  either = says_or_is_bad;
}
