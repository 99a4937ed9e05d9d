use Rattle.{fc_board.specs.Boards.{cards_in_play}, std.proofs.Common.{refl}}
use Rattle.fc_laws.{proofs.ExampleLemmas.{cards_below_52, each_once, heights_at_most_13}, specs.BoardExamples.{deal_1}}
use Rattle.fc_laws.proofs.texts.deal_1_is_printed.Goals as goal

pub returns-clause-well_formed : goal.returns-clause-well_formed
returns-clause-well_formed c = record {
  piles = record {
    four_foundations = refl;
    all_cells = refl;
    eight_columns = refl;
  };
  heights = heights_at_most_13 deal_1.heights refl;
  cards = cards_below_52 (cards_in_play deal_1) refl;
  one_place = each_once deal_1 refl;
}
