use Rattle.arrayvec.{proofs.ArrayVecLemmas.{items-with_items}, specs.ArrayVec.{array_vec_len}}
use Rattle.std.proofs.Common.{◌∙◌, ◌≡◌, ap, rules, sym, take}
use Rattle.fc_text.proofs.view.BoardView.text.Goals as goal

pub returns : goal.returns
returns g c =
    let full : array_vec_len c.from-text.result ≡ 256 = search rules in
    c.truncate.ensures.items ∙ ap (take c.put_board-end.result) (items-with_items c.from-text.result c.put_board-end.new.text (c.put_board-end.ensures.size ∙ sym full)) ∙ c.put_board-end.ensures.text
