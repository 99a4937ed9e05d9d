use Rattle.{fc_text.proofs.ReadMovesLemmas.{pair_named}, std.proofs.Common.{rules}}
use Rattle.fc_text.proofs.moves.read.first_pair.Goals as goal

pub returns : goal.returns
returns g c =
    pair_named (g.M.Notated.is_token g.R.Rule.game) c.args.bytes.now c.from_word.result c.in-32.len_at_least (search rules) (search rules)
    c.from_word.ensures.token c.from_word.ensures.in_one_piece
