use Rattle.std.proofs.{Common.{arith}, lemmas.List.FromFn.{get_or-map-range_with_len}}
use Rattle.fc_bytes.proofs.board.place_as_byte.Goals as goal

pub returns : goal.returns
returns c = get_or-map-range_with_len (λ place. place) 0 52 c.args.place c.args.place 0 c.requires (omega arith)
