use Rattle.fc_text.proofs.SeeingLemmas.{missing_seen}
use Rattle.fc_text.proofs.board.reader.Reader.lowest_missing.Goals as goal

pub returns : goal.returns
returns g c = rw (← c.self.view_is) (missing_seen c.self.inside.kept.seen c.lowest_missing.result c.lowest_missing.ensures)
