-- A turn prints the line of one more list.
use Rattle.std.proofs.Common.{◌++◌, ◌+◌, ◌<◌, ◌∙◌, ◌≡◌, add-one, ap, append-nil, append_assoc, get_or, length}
use Rattle.std.proofs.{Common.{List, sym, take, take-suc, ℕ}, lemmas.Grind.{flat_map-append}}
use Rattle.std.specs.List.{flat_map}
use Rattle.{fc_board.specs.Moves.{MoveList}, fc_record.specs.Printing.{list_line}}
use Rattle.fc_record.proofs.printing.lists.push_lists.Goals as goal

-- the lines of one more list
one_more : (lists : List MoveList) (i : ℕ) (list : MoveList) → i < length lists → list ≡ get_or lists i list
    → flat_map list_line (take (i + 1) lists) ≡ flat_map list_line (take i lists) ++ list_line list
one_more lists i list within is =
    ap (λ n. flat_map list_line (take n lists)) (add-one i) ∙ ap (flat_map list_line) (take-suc lists i list within) ∙ flat_map-append list_line (take i lists) _
    ∙ ap (λ line. flat_map list_line (take i lists) ++ line) (append-nil _ ∙ ap list_line (sym is))

pub loop-list-preserved : goal.loop-list-preserved
loop-list-preserved c =
    c.in_ok-push_list.ensures.printed ∙ ap (λ text. text ++ list_line c.list-item.result) c.loop-list.invariant ∙ append_assoc c.args.out.now.items _ _
    ∙ ap (λ text. c.args.out.now.items ++ text) (sym (one_more c.args.lists.now c.loop-list.list-index c.list-item.result c.loop-list-test.true c.list-item.is))
