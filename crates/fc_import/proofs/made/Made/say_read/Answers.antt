use Rattle.std.proofs.Common.{◌∙◌, ◌≡◌, false, inr, refl, sym, true}
use Rattle.fc_import.proofs.TakingLemmas.{board_needs_none}
use Rattle.fc_import.proofs.made.Made.say_read.Goals as goal

pub returns-clause-said : goal.returns-clause-said
returns-clause-said g c = λ is.
    let (said, note, grows) = c.in_ok-push_note.ensures in
    record {
      said = said;
      notes = grows;
      is = inr (
        (λ silent.
            let spelled = (board_needs_none c.args.self.now.options.noted g.R.Rule.game c.args.piece.now c.args.board.now
            c.in_ok-is_spelled.ensures.well_formed silent).0 in
            absurd (let e : false ≡ true = sym c.if-is_spelled.false ∙ c.in_ok-is_spelled.ensures.is.1 spelled in cc)),
        note,
      );
      state = refl;
      written = refl;
    }
