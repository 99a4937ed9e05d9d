use Rattle.std.{proofs.Common.{◌++◌, ◌≡◌, map, take}, specs.List.{join_with_byte}}
use Rattle.fc_text.specs.Bytes.{blank}
use Rattle.fc_text.proofs.moves.write.push_list.Given as goal

abbrev pub invariant-loop-index : goal.invariant-loop-index
invariant-loop-index g l = l.text.items ≡ l.fn.text.items ++ join_with_byte blank (map g.M.Notated.token_of (take l.index l.moves))
