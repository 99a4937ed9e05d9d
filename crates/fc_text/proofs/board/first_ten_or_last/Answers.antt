use Rattle.{fc_text.proofs.FirstCardLemmas.{two_at_end}, std.proofs.Common.{arith}}
use Rattle.fc_text.proofs.board.first_ten_or_last.Goals as goal

pub returns-in_ok-spelled_card-in-len2 : goal.returns-in_ok-spelled_card-in-len2
returns-in_ok-spelled_card-in-len2 c =
    two_at_end c.in_ok-spelled_card-in-len2.field-0 c.args.bytes.now c.in_ok-spelled_card-in-len2.ensures (omega (arith, c.in-len2.len_at_least, c.in-len2.len_below))
