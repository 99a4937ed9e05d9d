use Rattle.std.proofs.Common.{◌∙◌, sym}
use Rattle.fc_text.proofs.KeptLemmas.{length-known}
use Rattle.fc_text.proofs.board.reader.Reader.is_begun.Goals as goal
use Rattle.fc_text.proofs.board.reader.Reader.is_begun.Goals.{else-self, then-self}

pub returns-else-self-2 : goal.returns-else-self-2
returns-else-self-2 g c = elim c.if-self.branch [
  | then-self w ↦ absurd (cc)
  | else-self w ↦ rw (← c.self.view_is, length-known c.self.inside.kept c.self.invariant, w.if-self.false, sym w.value-is ∙ c.if-self-2.false)
]
