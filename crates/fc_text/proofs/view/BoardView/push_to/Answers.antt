-- The board is put after what was there, and what is left of the room is cut off.
use Rattle.std.proofs.Common.{◌++◌, ◌+◌, ◌∙◌, ◌≡◌, ◌≤◌, ap, ap₂, arith, length, List, rules, sym, take, ℕ}
use Rattle.std.proofs.lemmas.List.{length-append, length-take, take-append-le, take-take, take_all}
use Rattle.std.proofs.Math.Seq.{take-append-add}
use Rattle.fc_text.proofs.view.BoardView.push_to.Given as given
use Rattle.fc_text.proofs.view.BoardView.push_to.Goals as goal

-- what is put after a front, where all of it is kept
put_after : (front put after left : List ℕ) (start end kept : ℕ) → length front ≡ start → end ≤ length put → start + end ≤ kept
    → take (start + end) (take kept ((front ++ (put ++ after)) ++ left)) ≡ front ++ take end put
put_after front put after left start end kept is within room =
    take-take (start + end) kept ((front ++ (put ++ after)) ++ left) room
    ∙ take-append-le (start + end) (front ++ (put ++ after)) left (omega (arith, length-append front (put ++ after), length-append put after, is, within))
    ∙ ap (λ first. take (first + end) (front ++ (put ++ after))) (sym is)
    ∙ take-append-add front (put ++ after) end
    ∙ ap (λ text. front ++ text) (take-append-le end put after within)

length_before : (g : given.Over) (c : goal.After-truncate g) → length c.args.text.now.items ≡ c.len-start.result
length_before g c = search rules

-- what was there is there still, after room was made
kept : (g : given.Over) (c : goal.After-truncate g) → take c.len-start.result c.as_mut_slice.result.now ≡ c.args.text.now.items
kept g c =
    ap (take c.len-start.result) (c.as_mut_slice.ensures.value ∙ c.in_ok-resize.ensures.items)
    ∙ take-append-le c.len-start.result (take (c.len-start.result + 256) c.args.text.now.items) _ (omega (arith, length-take (c.len-start.result + 256) c.args.text.now.items, length_before g c))
    ∙ take-take c.len-start.result (c.len-start.result + 256) c.args.text.now.items (omega arith)
    ∙ take_all c.len-start.result c.args.text.now.items (omega (arith, length_before g c))

pub returns : goal.returns
returns g c = record {
  printed = c.truncate.ensures.items
      ∙ put_after (take c.len-start.result c.as_mut_slice.result.now) c.put_board-end.new.text _ _ c.len-start.result c.put_board-end.result _
      (ap length (kept g c) ∙ length_before g c) (omega (arith, c.put_board-end.ensures.within, c.put_board-end.ensures.size)) (omega (arith, c.in_ok-resize.ensures.len, c.put_board-end.ensures.within))
      ∙ ap₂ (λ front put. front ++ put) (kept g c) c.put_board-end.ensures.text;
}
