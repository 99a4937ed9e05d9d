use Rattle.std.{proofs.Common.{◌++◌, ◌∙◌, ◌∷◌, [], ap, refl, take}, specs.Prelude.{codes}}
use Rattle.fc_text.specs.Bytes.{line_feed}
use Rattle.fc_import.{proofs.TakingLemmas.{all_print, put_five}, specs.inside.{place_of, printing}}
use Rattle.fc_import.specs.Notes.{line_after, place_text}
use Rattle.fc_import.proofs.walk.Walk.push_note.Goals as goal

pub returns : goal.returns
returns c =
    let place = place_of c.args.self.now in
    let at = c.place_in.result in
    let column = c.column_after.result in
    let words = printing c.args.words.now in (
      codes "fcanon: " ++ place_text place (line_after place.line (take at c.args.piece.now)) column ++ codes ": " ++ words ++ line_feed ∷ [],
      record { at = at; column = column; words = words; within = c.place_in.ensures.within; printing = all_print c.args.words.now; is = refl },
      put_five c.args.notes.now.items (codes "fcanon: ") _ (codes ": ") words (line_feed ∷ []) _ _ _ _ _ c.in_ok-extend_from_slice.ensures.items
          (c.in_ok-push_place.ensures ∙ ap (λ line. c.extend_from_slice.new.self.items ++ place_text place line column) c.line_after.ensures)
          c.in_ok-extend_from_slice-2.ensures.items c.in_ok-push_printing.ensures c.in_ok-push.ensures.items,
    )
