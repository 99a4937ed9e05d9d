use Rattle.std.proofs.Common.{◌++◌, ◌∙◌, ap, is_lt}
use Rattle.fc_closed.proofs.OrderLemmas.{by_parts, eight_told, four_told, test_less, test_texts, then_so}
use Rattle.fc_closed.proofs.search.is_less.Goals as goal

pub returns-then-heights-other_heights : goal.returns-then-heights-other_heights
returns-then-heights-other_heights c =
    let one = c.args.one.now in
    let other = c.args.other.now in
    let h = c.number_of_four-heights in
    let h' = c.number_of_four-other_heights in
    let heights = four_told h.result h'.result one.heights other.heights (one.cells ++ (one.lengths ++ one.cards)) (other.cells ++ (other.lengths ++ other.cards))
    h.ensures.number h'.ensures.number h.ensures.size h'.ensures.size h.ensures.bytes h'.ensures.bytes in
    by_parts one other (then_so (test_less h.result h'.result) (heights.0 c.if-heights-other_heights.true))

pub returns-then-cells-other_cells : goal.returns-then-cells-other_cells
returns-then-cells-other_cells c =
    let one = c.args.one.now in
    let other = c.args.other.now in
    let h = c.number_of_four-heights in
    let h' = c.number_of_four-other_heights in
    let n = c.number_of_eight-cells in
    let n' = c.number_of_eight-other_cells in
    let heights = four_told h.result h'.result one.heights other.heights (one.cells ++ (one.lengths ++ one.cards)) (other.cells ++ (other.lengths ++ other.cards))
    h.ensures.number h'.ensures.number h.ensures.size h'.ensures.size h.ensures.bytes h'.ensures.bytes in
    let cells = eight_told n.result n'.result one.cells other.cells (one.lengths ++ one.cards) (other.lengths ++ other.cards)
    n.ensures.number n'.ensures.number n.ensures.size n'.ensures.size n.ensures.bytes n'.ensures.bytes in
    by_parts one other (then_so (then_so (test_less n.result n'.result) (cells.0 c.if-cells-other_cells.true)) (heights.1 c.if-heights-other_heights.false))

pub returns-then-lengths-other_lengths : goal.returns-then-lengths-other_lengths
returns-then-lengths-other_lengths c =
    let one = c.args.one.now in
    let other = c.args.other.now in
    let h = c.number_of_four-heights in
    let h' = c.number_of_four-other_heights in
    let n = c.number_of_eight-cells in
    let n' = c.number_of_eight-other_cells in
    let m = c.number_of_eight-lengths in
    let m' = c.number_of_eight-other_lengths in
    let heights = four_told h.result h'.result one.heights other.heights (one.cells ++ (one.lengths ++ one.cards)) (other.cells ++ (other.lengths ++ other.cards))
    h.ensures.number h'.ensures.number h.ensures.size h'.ensures.size h.ensures.bytes h'.ensures.bytes in
    let cells = eight_told n.result n'.result one.cells other.cells (one.lengths ++ one.cards) (other.lengths ++ other.cards)
    n.ensures.number n'.ensures.number n.ensures.size n'.ensures.size n.ensures.bytes n'.ensures.bytes in
    let lengths = eight_told m.result m'.result one.lengths other.lengths one.cards other.cards
    m.ensures.number m'.ensures.number m.ensures.size m'.ensures.size m.ensures.bytes m'.ensures.bytes in
    by_parts one other (then_so (then_so (then_so (test_less m.result m'.result) (lengths.0 c.if-lengths-other_lengths.true)) (cells.1 c.if-cells-other_cells.false)) (heights.1 c.if-heights-other_heights.false))

pub returns : goal.returns
returns c =
    let one = c.args.one.now in
    let other = c.args.other.now in
    let h = c.number_of_four-heights in
    let h' = c.number_of_four-other_heights in
    let n = c.number_of_eight-cells in
    let n' = c.number_of_eight-other_cells in
    let m = c.number_of_eight-lengths in
    let m' = c.number_of_eight-other_lengths in
    let heights = four_told h.result h'.result one.heights other.heights (one.cells ++ (one.lengths ++ one.cards)) (other.cells ++ (other.lengths ++ other.cards))
    h.ensures.number h'.ensures.number h.ensures.size h'.ensures.size h.ensures.bytes h'.ensures.bytes in
    let cells = eight_told n.result n'.result one.cells other.cells (one.lengths ++ one.cards) (other.lengths ++ other.cards)
    n.ensures.number n'.ensures.number n.ensures.size n'.ensures.size n.ensures.bytes n'.ensures.bytes in
    let lengths = eight_told m.result m'.result one.lengths other.lengths one.cards other.cards
    m.ensures.number m'.ensures.number m.ensures.size m'.ensures.size m.ensures.bytes m'.ensures.bytes in
    let cards = test_texts c.is_lt.result one.cards other.cards (c.is_lt.ensures ∙ ap is_lt c.cmp.ensures) in
    by_parts one other (then_so (then_so (then_so cards (lengths.1 c.if-lengths-other_lengths.false)) (cells.1 c.if-cells-other_cells.false)) (heights.1 c.if-heights-other_heights.false))
