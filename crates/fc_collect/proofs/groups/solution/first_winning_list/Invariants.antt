use Rattle.std.{proofs.Common.{◌≡◌, None}, specs.List.{find}}
use Rattle.{fc_board.specs.Play.{list_verdict}, fc_record.specs.Tables.{is_win}}
use Rattle.fc_collect.proofs.groups.solution.first_winning_list.Given as goal

abbrev pub invariant-loop-list : goal.invariant-loop-list
invariant-loop-list g l = find (λ moves. is_win (list_verdict g.R.Rule.game l.board moves)) l.yielded ≡ None
