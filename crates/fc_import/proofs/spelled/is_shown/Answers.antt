use Rattle.{fc_text.specs.Spelling.{Spells}, std.proofs.Common.{subst}}
use Rattle.fc_import.proofs.TakingLemmas.{none_read, read_alone}
use Rattle.fc_import.proofs.spelled.is_shown.Goals as goal

pub returns-in-Ok : goal.returns-in-Ok
returns-in-Ok g c =
    let game = g.R.Rule.game in
    let lines = c.args.lines.now in (
      (λ is. subst (Spells game lines) (c.is_same.ensures.0 is) c.in-Ok.ensures.board),
      (λ spelled.
          c.is_same.ensures.1
          (read_alone game lines c.in-Ok.read c.args.board.now c.in-Ok.ensures.board spelled)),
    )

pub returns-in-Err : goal.returns-in-Err
returns-in-Err g c = (
  (λ is. absurd (cc)),
  (λ spelled. absurd (none_read g.R.Rule.game c.args.lines.now c.args.board.now c.in-Err.field-0 c.in-Err.ensures.fault spelled)),
)
