use Rattle.fc_collect.proofs.CommentLemmas.{accepted-comment_after}
use Rattle.fc_laws.proofs.collections.lines.comments_say_nothing.Goals as goal

pub returns : goal.returns
returns c = accepted-comment_after
