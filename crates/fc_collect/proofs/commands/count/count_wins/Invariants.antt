use Rattle.std.proofs.Common.{◌≡◌, ◌≤◌, filter, length, take}
use Rattle.{fc_board.specs.Play.{list_verdict}, fc_record.specs.Tables.{is_win}}
use Rattle.fc_collect.proofs.commands.count.count_wins.Given as goal

abbrev pub invariant-loop-list : goal.invariant-loop-list
invariant-loop-list g l = record {
  so_far : l.count ≡ length (filter (λ list. is_win (list_verdict g.R.Rule.game l.board list)) (take l.list-index l.lists));
  few : l.count ≤ l.list-index;
}
