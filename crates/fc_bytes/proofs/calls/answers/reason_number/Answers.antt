use Rattle.std.{proofs.Common.{◌+◌, ◌-◌, ◌∙◌, ◌≡◌, ap, arith}, specs.Prelude.{slice_get}}
use Rattle.fc_board.specs.Steps.{step_faults}
use Rattle.fc_bytes.proofs.calls.answers.reason_number.Goals as goal

-- the reason is at its number among all
pub returns-clause-number : goal.returns-clause-number
returns-clause-number c =
    let back : (32 + c.number.result) - 32 ≡ c.number.result = omega arith in
    ap (slice_get step_faults) back ∙ c.number.ensures
