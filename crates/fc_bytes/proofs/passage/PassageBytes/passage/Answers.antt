use Rattle.std.proofs.Common.{◌∙◌, ◌≡◌, ◌≤◌, ap, arith, length, refl, rules, subst, sym, take}
use Rattle.std.{proofs.lemmas.Bool.{iff_false}, specs.List.{Contains}}
use Rattle.fc_card.specs.{IsOrder, IsRenaming}
use Rattle.fc_bytes.proofs.PassageDecoded.{held_cells, held_columns, held_rest_zero, held_suits, parts_held}
use Rattle.fc_bytes.specs.{passage_bytes}
use Rattle.fc_bytes.proofs.passage.PassageBytes.passage.Goals as goal

pub returns-then-not-are_zero-clause-no_passage : goal.returns-then-not-are_zero-clause-no_passage
returns-then-not-are_zero-clause-no_passage g c = λ _ passage holds.
    let laws = g.met.R.Rule.rule_laws in
    let few : c.CELLS.result ≤ 8 = omega (arith, c.CELLS.ensures, laws.at_most_eight) in
    iff_false c.are_zero.ensures c.if-not-are_zero.true
    (held_rest_zero g.R.Rule.game c.args.self.now passage holds c.CELLS.result (laws.cells_are ∙ sym c.CELLS.ensures) few)

pub returns-in_err-renaming-clause-no_passage : goal.returns-in_err-renaming-clause-no_passage
returns-in_err-renaming-clause-no_passage g c = λ _ passage holds.
    c.in_err-renaming.ensures (subst IsRenaming (sym (held_suits g.R.Rule.game c.args.self.now passage holds)) holds.0.renames)

pub returns-in_err-columns-clause-no_passage : goal.returns-in_err-columns-clause-no_passage
returns-in_err-columns-clause-no_passage g c = λ _ passage holds.
    let is = held_columns g.R.Rule.game c.args.self.now passage holds in
    c.in_err-columns.ensures (subst IsOrder (sym is) holds.0.orders.of_columns, omega (arith, ap length is, holds.0.orders.eight_columns))

pub returns-in_err-cells-clause-no_passage : goal.returns-in_err-cells-clause-no_passage
returns-in_err-cells-clause-no_passage g c = λ _ passage holds.
    let laws = g.met.R.Rule.rule_laws in
    let few : c.CELLS-2.result ≤ 8 = omega (arith, c.CELLS-2.ensures, laws.at_most_eight) in
    let is = held_cells g.R.Rule.game c.args.self.now passage holds c.CELLS-2.result (laws.cells_are ∙ sym c.CELLS-2.ensures) few in
    c.in_err-cells.ensures (subst IsOrder (sym is) holds.0.orders.of_cells, omega (arith, ap length is, holds.0.orders.all_cells, laws.cells_are, laws.at_most_eight))

pub returns-in_err-passage-clause-no_passage : goal.returns-in_err-passage-clause-no_passage
returns-in_err-passage-clause-no_passage g c = λ _ passage holds.
    let laws = g.met.R.Rule.rule_laws in
    let few : c.CELLS-2.result ≤ 8 = omega (arith, c.CELLS-2.ensures, laws.at_most_eight) in
    let renaming = c.in_ok-renaming.ensures.1 ∙ held_suits g.R.Rule.game c.args.self.now passage holds in
    let columns = c.in_ok-columns.ensures.1 ∙ held_columns g.R.Rule.game c.args.self.now passage holds in
    let cells = c.in_ok-cells.ensures.1 ∙ held_cells g.R.Rule.game c.args.self.now passage holds c.CELLS-2.result (laws.cells_are ∙ sym c.CELLS-2.ensures) few in
    c.in_err-passage.ensures.parts (
      subst (Contains g.R.Rule.renamings) (sym renaming) (laws.keeping_are_listed passage.renaming holds.0.renames holds.0.keeps),
      ap length columns ∙ holds.0.orders.eight_columns,
      ap length cells ∙ holds.0.orders.all_cells ∙ laws.cells_are,
    )

pub returns-clause-passage : goal.returns-clause-passage
returns-clause-passage g c =
    let laws = g.met.R.Rule.rule_laws in
    let few : c.CELLS.result ≤ 8 = omega (arith, c.CELLS.ensures, laws.at_most_eight) in
    let same : c.CELLS-2.result ≡ c.CELLS.result = c.CELLS-2.ensures ∙ sym c.CELLS.ensures in
    let eight : length c.args.self.now.cells ≡ 8 = search rules in (
      c.in_ok-passage.ensures.passage,
      parts_held c.args.self.now c.in_ok-renaming.renaming c.in_ok-columns.columns c.in_ok-cells.cells c.CELLS.result
          c.in_ok-renaming.ensures.1 c.in_ok-columns.ensures.1 (c.in_ok-cells.ensures.1 ∙ ap (λ count. take count c.args.self.now.cells) same)
          eight few (c.if-not-are_zero.ensures.0 refl)
          ∙ ap passage_bytes (sym c.in_ok-passage.ensures.parts.1),
    )
