use Rattle.{fc_text.specs.reader.{LeavesWords}, std.proofs.Common.{length}}
use Rattle.fc_text.specs.declared.board.reader.Section.TheVariants.{Column}
use Rattle.fc_text.proofs.board.read_cards.Given as goal

abbrev pub invariant-loop-card : goal.invariant-loop-card
invariant-loop-card g l = LeavesWords g.R.Rule.game Column l.initial.reader l.words l.reader l.left

abbrev pub decreases-loop-card : goal.decreases-loop-card
decreases-loop-card g l = length l.left
