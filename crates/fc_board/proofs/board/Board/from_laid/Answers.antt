use Rattle.std.proofs.Common.{◌∙◌, ◌≡◌, arith, length, List, refl, rules, slice_index, sym, take, ℕ}
use Rattle.std.specs.List.{flat_map}
use Rattle.fc_board.proofs.{BoardLemmas.{game_cells}, ColumnsLemmas.{all_cards_laid, length-columns_from}}
use Rattle.fc_board.proofs.CountedLemmas.{fault-not_once, IsDeckFault-found, IsWellFormed-each_once}
use Rattle.fc_board.specs.inside.{AscendTo, columns_from}
use Rattle.fc_board.proofs.board.Board.from_laid.Goals as goal

-- the cards up to the last end are those of the columns
laid : (cards ends : List ℕ) → length cards ≡ 52 → length ends ≡ 8 → AscendTo 0 ends 52 →
    take (slice_index ends 7) cards ≡ flat_map (λ column. column) (columns_from 0 cards ends)
laid cards ends deck eight ascend = sym (all_cards_laid cards ends 52 eight ascend (omega (arith, deck)))

pub of_laid-requires-clause-well_formed : goal.of_laid-requires-clause-well_formed
of_laid-requires-clause-well_formed g c =
    let laws = g.met.R.Rule.rule_laws in
    let cards = c.args.cards in
    let ends = c.args.ends in
    let deck : length cards ≡ 52 = search rules in
    let eight : length ends ≡ 8 = search rules in
    let four : length c.args.heights ≡ 4 = search rules in
    let cells : length c.args.cells ≡ 8 = search rules in
    IsWellFormed-each_once g.R.Rule.game g.R.Rule.CELLS c.args.heights c.args.cells (columns_from 0 cards ends) (take (slice_index ends 7) cards) four
    (game_cells c.args.cells g.R.Rule.CELLS g.R.Rule.game.cells cells laws.at_most_eight laws.cells_are) (length-columns_from 0 cards ends ∙ eight)
    c.in-None.ensures.heights c.requires.cells (laid cards ends deck eight c.requires.ends) c.in-None.ensures.cells c.requires.in_columns.in_deck
    (c.in-None.ensures.fault (take (slice_index ends 7) cards) c.requires.in_columns)

pub returns-in-Some-clause-fault : goal.returns-in-Some-clause-fault
returns-in-Some-clause-fault g c =
    let cards = c.args.cards in
    let ends = c.args.ends in
    let deck : length cards ≡ 52 = search rules in
    let eight : length ends ≡ 8 = search rules in
    IsDeckFault-found g.R.Rule.CELLS c.args.heights c.args.cells (columns_from 0 cards ends) (take (slice_index ends 7) cards) c.in-Some.fault c.requires.cells
    (laid cards ends deck eight c.requires.ends) (c.in-Some.ensures.fault (take (slice_index ends 7) cards) c.requires.in_columns)

pub returns-in-Some-clause-deck : goal.returns-in-Some-clause-deck
returns-in-Some-clause-deck g c = (λ unlike. absurd (cc), λ once. absurd (fault-not_once _ _ (returns-in-Some-clause-fault g c) once))

pub returns-in-None-clause-deck : goal.returns-in-None-clause-deck
returns-in-None-clause-deck g c = (λ same. (rw c.of_laid.ensures.parts at c.of_laid.ensures.well_formed).one_place, λ once. refl)
