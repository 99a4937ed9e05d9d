use Rattle.std.{proofs.Common.{◌≡◌, ap, map, refl, rules}, specs.List.{flat_map}}
use Rattle.fc_board.proofs.{board.Board.from_parts.Given.{Over}, BoardLemmas.{game_cells}}
use Rattle.fc_board.proofs.CountedLemmas.{cards_of_vectors, fault-not_once, IsDeckFault-found, IsWellFormed-vectors}
use Rattle.fc_board.{proofs.CountedLemmas.{room_in_vectors}, specs.Boards.{board_of_parts, IsWellFormed}}
use Rattle.fc_board.specs.inside.{board_of_laid}
use Rattle.fc_board.proofs.board.Board.from_parts.Goals as goal

pub of-requires : goal.of-requires
of-requires g c =
    let laws = g.met.R.Rule.rule_laws in
    room_in_vectors g.R.Rule.game g.R.Rule.CELLS c.args.heights c.args.cells c.args.columns
    (IsWellFormed-vectors g.R.Rule.game g.R.Rule.CELLS c.args.heights c.args.cells c.args.columns (search rules)
    (game_cells c.args.cells g.R.Rule.CELLS g.R.Rule.game.cells (search rules) laws.at_most_eight laws.cells_are) (search rules)
    c.in-None.ensures.heights c.requires c.in-None.ensures.cells c.cards_of_columns-in_columns.ensures.in_deck (c.in-None.ensures.fault _ c.cards_of_columns-in_columns.ensures))

well : (g : Over) (c : goal.After-of g) → IsWellFormed g.R.Rule.game (board_of_parts g.R.Rule.CELLS c.args.heights c.args.cells c.args.columns)
well g c =
    let laws = g.met.R.Rule.rule_laws in
    IsWellFormed-vectors g.R.Rule.game g.R.Rule.CELLS c.args.heights c.args.cells c.args.columns (search rules)
    (game_cells c.args.cells g.R.Rule.CELLS g.R.Rule.game.cells (search rules) laws.at_most_eight laws.cells_are) (search rules)
    c.in-None.ensures.heights c.requires c.in-None.ensures.cells c.cards_of_columns-in_columns.ensures.in_deck (c.in-None.ensures.fault _ c.cards_of_columns-in_columns.ensures)

-- the columns as they lie in the board are those that were given
laid : (g : Over) (c : goal.After-of g) →
    board_of_laid g.R.Rule.CELLS c.args.heights c.args.cells c.of.result ≡ board_of_parts g.R.Rule.CELLS c.args.heights c.args.cells c.args.columns
laid g c = ap (board_of_laid g.R.Rule.CELLS c.args.heights c.args.cells) c.of.ensures

pub invariant_of-result : goal.invariant_of-result
invariant_of-result g c = (rw (laid g c) (well g c), c.requires)

pub returns-in-Some-clause-fault : goal.returns-in-Some-clause-fault
returns-in-Some-clause-fault g c =
    IsDeckFault-found g.R.Rule.CELLS c.args.heights c.args.cells (map (λ column. column.items) c.args.columns) (flat_map (λ column. column.items) c.args.columns) c.in-Some.fault c.requires (cards_of_vectors c.args.columns)
    (c.in-Some.ensures.fault (flat_map (λ column. column.items) c.args.columns) c.cards_of_columns-in_columns.ensures)

pub returns-in-Some-clause-deck : goal.returns-in-Some-clause-deck
returns-in-Some-clause-deck g c = (λ unlike. absurd (cc), λ once. absurd (fault-not_once _ _ (returns-in-Some-clause-fault g c) once))

pub returns-in-None-clause-deck : goal.returns-in-None-clause-deck
returns-in-None-clause-deck g c = (λ same. (well g c).one_place, λ once. refl)

pub returns-in-None-clause-well_formed : goal.returns-in-None-clause-well_formed
returns-in-None-clause-well_formed g c = rw (laid g c) (well g c)
