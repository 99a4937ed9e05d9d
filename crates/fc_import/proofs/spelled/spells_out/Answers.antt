use Rattle.std.proofs.Common.{◌∙◌, ◌≡◌, false, inr, sym, true}
use Rattle.fc_import.proofs.TakingLemmas.{spelled_by_lines}
use Rattle.fc_import.proofs.spelled.spells_out.Goals as goal

pub returns-clause-is : goal.returns-clause-is
returns-clause-is g c = (
  (λ is. inr (c.in_ok-has_lines.ensures.has.0 is)),
  (λ spelled.
      let lines = spelled_by_lines g.R.Rule.game c.args.lines.now c.args.board.now
      (λ read. let e : false ≡ true = sym c.if-is_shown.false ∙ c.requires.shown.1 read in cc) spelled in
      c.in_ok-has_lines.ensures.has.1 lines),
)
