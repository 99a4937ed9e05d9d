use Rattle.std.proofs.Common.{◌∙◌, ◌≡◌, All, ap, arith, drop, get_or, length, refl, rules, subst, sym, take}
use Rattle.std.{proofs.lemmas.Bool.{iff_false}, specs.List.{sum}}
use Rattle.{fc_board.{proofs.ColumnsLemmas.{column_within}, specs.Boards.{HasEachCardOnce}}, fc_card.specs.{AreBitsOf}}
use Rattle.fc_bytes.proofs.{BitsDecoded.{ends_at}, DecodedLemmas.{in_game_held}}
use Rattle.fc_bytes.{proofs.ExactBytes.{exact_held, exact_of_held, zero_rest, zeros_none}, specs.{board_bytes}}
use Rattle.fc_bytes.proofs.board.BoardBytes.board.Goals as goal

pub returns-then-not-is_exact-clause-no_board : goal.returns-then-not-is_exact-clause-no_board
returns-then-not-is_exact-clause-no_board g c = λ _ board holds.
    iff_false c.is_exact.ensures c.if-not-is_exact.true (exact_of_held g.R.Rule.game c.args.self.now board holds)

pub returns-then-not-are_zero-clause-no_board : goal.returns-then-not-are_zero-clause-no_board
returns-then-not-are_zero-clause-no_board g c = λ _ board holds.
    let laws = g.met.R.Rule.rule_laws in
    iff_false c.are_zero.ensures c.if-not-are_zero.true
    (zero_rest g.R.Rule.game c.CELLS.result c.args.self.now board (laws.cells_are ∙ sym c.CELLS.ensures) (omega (arith, c.CELLS.ensures, laws.at_most_eight)) holds)

pub shared_whole_as_front-of_bits : goal.shared_whole_as_front-of_bits
shared_whole_as_front-of_bits g c = omega (arith, column_within 0 c.ends_of-ends.result 52 7 c.ends_of-ends.ensures.ascend (search rules), c.from.ensures)

pub of_bits-in_columns-requires : goal.of_bits-in_columns-requires
of_bits-in_columns-requires g c =
    let exact = c.if-not-is_exact.ensures.0 refl in
    let ends = c.ends_of-ends.ensures.ends in
    let eight : length c.ends_of-ends.result ≡ 8 = omega (arith, c.ends_of-ends.type_inv) in
    let last : sum c.args.self.now.lengths ≡ c.from.result =
    sym (c.from.ensures ∙ ap (λ ends. get_or ends 7 0) ends ∙ ends_at c.args.self.now.lengths (sym (ap length ends) ∙ eight) exact.room) in
    subst (λ n. AreBitsOf (take n c.cards_of-cards.result) c.bits_of-bits.result) last
    (c.bits_of-bits.ensures (sum c.args.self.now.lengths) c.cards_of-cards.result exact.cards exact.room c.cards_of-cards.ensures.cards)

pub from_laid-requires-clause-cells : goal.from_laid-requires-clause-cells
from_laid-requires-clause-cells g c =
    let zeros = subst (λ count. All (λ byte. byte ≡ 0) (drop count c.args.self.now.cells)) c.CELLS.ensures (c.if-not-are_zero.ensures.0 refl) in
    zeros_none g.R.Rule.CELLS c.args.self.now.cells c.cells_of-cells.result c.cells_of-cells.ensures.cells zeros

pub returns-in_default-clause-no_board : goal.returns-in_default-clause-no_board
returns-in_default-clause-no_board g c = λ _ board holds.
    let laws = g.met.R.Rule.rule_laws in
    let is = in_game_held g.R.Rule.game g.R.Rule.CELLS c.args.self.now board c.in_ok-heights.heights c.cells_of-cells.result c.cards_of-cards.result c.ends_of-ends.result laws.cells_are laws.at_most_eight
    c.in_ok-heights.ensures.1 c.cells_of-cells.ensures.cells c.cards_of-cards.ensures.cards c.ends_of-ends.ensures.ends c.cards_of-cards.ensures.size holds in
    iff_false c.in_default.ensures.deck refl (subst HasEachCardOnce (sym is) holds.0.one_place)

pub returns-clause-board : goal.returns-clause-board
returns-clause-board g c =
    let laws = g.met.R.Rule.rule_laws in
    let cells = c.cells_of-cells.result in
    let zeros = subst (λ count. All (λ byte. byte ≡ 0) (drop count c.args.self.now.cells)) c.CELLS.ensures (c.if-not-are_zero.ensures.0 refl) in
    let none = zeros_none g.R.Rule.CELLS c.args.self.now.cells cells c.cells_of-cells.ensures.cells zeros in (
      c.in-Ok.ensures.well_formed,
      exact_held g.R.Rule.CELLS c.args.self.now c.in_ok-heights.heights cells c.cards_of-cards.result c.ends_of-ends.result
          c.in_ok-heights.ensures.1 c.cells_of-cells.ensures.cells c.cards_of-cards.ensures.cards c.ends_of-ends.ensures.ends
          c.cells_of-cells.ensures.size c.cards_of-cards.ensures.size laws.at_most_eight none (c.if-not-is_exact.ensures.0 refl)
          ∙ ap board_bytes (sym c.in-Ok.ensures.parts),
    )
