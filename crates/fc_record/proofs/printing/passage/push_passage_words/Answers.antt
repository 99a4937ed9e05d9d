use Rattle.std.proofs.{Common.{◌++◌, ◌∙◌, ◌≡◌, ap, map, OnOk, rules, slice_index, take}, lemmas.Result.{on_ok_weaker}}
use Rattle.{fc_card.specs.{renaming_text}, fc_text.specs.Notation.{cell_letters, column_digits}}
use Rattle.fc_record.{proofs.LineLemmas.{seven_parts}, specs.Printing.{passage_words}}
use Rattle.fc_record.proofs.printing.passage.push_passage_words.Goals as goal

pub returns : goal.returns
returns g c =
    let renaming = c.put-end-2.ensures.text ∙ ap (λ letters. take c.put-end.result c.put-end.new.text ++ letters) (c.renaming_letters.ensures ∙ ap renaming_text c.renaming.ensures.value) in
    let columns = c.put_places-end.ensures.text ∙ ap (λ order. take c.put-end-3.result c.put-end-3.new.text ++ map (slice_index column_digits) order) c.columns.ensures.value in
    let cells = c.put_places-end-2.ensures.text ∙ ap (λ order. take c.put-end-4.result c.put-end-4.new.text ++ map (slice_index cell_letters) order) c.cells.ensures.value in
    let line : take c.put-end-5.result c.put-end-5.new.text ≡ passage_words c.args.passage.now =
    seven_parts _ _ _ _ _ _ _ _ _ _ _ _ _ _ c.put-end.ensures.text renaming c.put-end-3.ensures.text columns c.put-end-4.ensures.text cells c.put-end-5.ensures.text in
    let ensured : OnOk c.extend_from_slice.result (c.extend_from_slice.new.self.items ≡ c.args.out.now.items ++ take c.put-end-5.result c.put-end-5.new.text) = search rules in
    record { printed = on_ok_weaker c.extend_from_slice.result (λ ensured. ensured ∙ ap (λ line. c.args.out.now.items ++ line) line) ensured }
