use Rattle.std.proofs.{Common.{◌∙◌, ◌≤◌, ap, subst, sym}, lemmas.List.Elements.{All-from_get_or}}
use Rattle.fc_board.specs.Boards.{IsWellFormed}
use Rattle.fc_bytes.proofs.{DecodedLemmas.{in_game_held}, ExactBytes.{exact_of_held, zero_rest, zeros_none}}
use Rattle.fc_bytes.specs.{board_bytes}
use Rattle.fc_bytes.proofs.board.BoardBytes.known_board.Goals as goal

-- the bytes of a board stand for what is read of them
pub cells_of-cells-requires : goal.cells_of-cells-requires
cells_of-cells-requires g c = (exact_of_held g.R.Rule.game c.args.self.now c.requires.0 c.requires.1).cells

pub cards_of-cards-requires : goal.cards_of-cards-requires
cards_of-cards-requires g c =
    let exact = exact_of_held g.R.Rule.game c.args.self.now c.requires.0 c.requires.1 in
    All-from_get_or (λ byte. byte ≤ 52) c.args.self.now.cards 0 (λ i h. (exact.cards i h).0)

pub ends_of-requires : goal.ends_of-requires
ends_of-requires g c = (exact_of_held g.R.Rule.game c.args.self.now c.requires.0 c.requires.1).room

-- no cell is read past the game's
pub of_laid-requires-clause-cells : goal.of_laid-requires-clause-cells
of_laid-requires-clause-cells g c =
    let laws = g.met.R.Rule.rule_laws in
    zeros_none g.R.Rule.CELLS c.args.self.now.cells c.cells_of-cells.result c.cells_of-cells.ensures.cells
    (zero_rest g.R.Rule.game g.R.Rule.CELLS c.args.self.now c.requires.0 laws.cells_are laws.at_most_eight c.requires.1)

-- what is read is the board that they hold
pub of_laid-requires-clause-well_formed : goal.of_laid-requires-clause-well_formed
of_laid-requires-clause-well_formed g c =
    let laws = g.met.R.Rule.rule_laws in
    subst (IsWellFormed g.R.Rule.game)
    (sym (in_game_held g.R.Rule.game g.R.Rule.CELLS c.args.self.now c.requires.0
    c.in-Some.heights c.cells_of-cells.result c.cards_of-cards.result c.ends_of.result laws.cells_are laws.at_most_eight
    c.in-Some.ensures.1 c.cells_of-cells.ensures.cells c.cards_of-cards.ensures.cards c.ends_of.ensures.ends
    c.cards_of-cards.ensures.size c.requires.1))
    c.requires.1.0

pub returns : goal.returns
returns g c =
    let laws = g.met.R.Rule.rule_laws in
    let is = in_game_held g.R.Rule.game g.R.Rule.CELLS c.args.self.now c.requires.0
    c.in-Some.heights c.cells_of-cells.result c.cards_of-cards.result c.ends_of.result laws.cells_are laws.at_most_eight
    c.in-Some.ensures.1 c.cells_of-cells.ensures.cells c.cards_of-cards.ensures.cards c.ends_of.ensures.ends
    c.cards_of-cards.ensures.size c.requires.1 in
    (c.of_laid.ensures.well_formed, c.requires.1.1 ∙ ap board_bytes (sym (c.of_laid.ensures.parts ∙ is)))
