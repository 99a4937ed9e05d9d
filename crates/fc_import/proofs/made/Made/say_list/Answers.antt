use Rattle.std.proofs.Common.{◌∙◌, ◌≡◌, false, inr, sym, true}
use Rattle.fc_import.proofs.made.Made.say_list.Goals as goal

pub returns-clause-said : goal.returns-clause-said
returns-clause-said g c =
    let (said, note, grows) = c.in_ok-push_note.ensures in (
      said,
      grows,
      inr (
        (λ needs. absurd (let e : false ≡ true = sym c.if-branch.false ∙ c.in_ok-list_needs_no_note.ensures.1 needs in cc)),
        note,
      ),
    )
