use Rattle.{fc_board.specs.Games.{game_of}, std.proofs.Common.{append-nil}}
use Rattle.{fc_laws.proofs.ExpandLemmas.{checked-more, expanded-more}, fc_record.specs.Printing.{name_of, verdict_line}}
use Rattle.fc_laws.proofs.collections.lists.lists_are_numbered_from_1.Goals as goal

pub returns : goal.returns
returns c = record {
  first = λ number heading board list. append-nil (verdict_line (name_of number heading.name) (game_of heading.variant) board 1 list);
  checked = checked-more;
  expanded = expanded-more;
}
