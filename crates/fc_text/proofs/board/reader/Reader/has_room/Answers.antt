use Rattle.fc_text.proofs.KeptLemmas.{length-known}
use Rattle.fc_text.proofs.board.reader.Reader.has_room.Goals as goal

pub returns : goal.returns
returns g c = rw (← c.self.view_is, length-known c.self.inside.kept c.self.invariant)
