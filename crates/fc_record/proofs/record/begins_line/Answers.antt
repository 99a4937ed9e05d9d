use Rattle.{fc_record.proofs.TextLineLemmas.{ends_line-take}, std.proofs.Common.{arith, sym}}
use Rattle.fc_record.proofs.record.begins_line.Goals as goal

pub returns : goal.returns
returns c = sym (ends_line-take c.args.bytes.now c.args.at (omega arith) (omega arith))
