use Rattle.{fc_board.proofs.CountedLemmas.{fault_found}, std.specs.{List.{flat_map}, Option.{option_to_list}}}
use Rattle.fc_board.proofs.deck.deck_fault.Goals as goal

pub returns-clause-fault : goal.returns-clause-fault
returns-clause-fault c = λ cards are.
    fault_found c.args.heights.now (flat_map option_to_list c.args.cells.now) cards c.args.in_columns c.count_home.new.cards c.count_cells.new.cards c.fault_of.result are
    c.count_home.ensures.counted c.count_cells.ensures.counted c.fault_of.ensures
