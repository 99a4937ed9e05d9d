use Rattle.{fc_text.{proofs.SeeingLemmas.{none_seen}, specs.reader.{nothing_known}}, std.proofs.Common.{ap}}
use Rattle.fc_text.proofs.board.reader.Reader.new.Goals as goal

pub returns : goal.returns
returns g c = ap (λ seen. record nothing_known { seen = seen }) (none_seen c.new.result c.new.ensures)
