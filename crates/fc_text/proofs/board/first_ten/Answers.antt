use Rattle.{fc_text.proofs.FirstCardLemmas.{first_ten}, std.proofs.Common.{rules}}
use Rattle.fc_text.proofs.board.first_ten.Goals as goal

pub returns : goal.returns
returns c = first_ten c.in_ok-card.card c.args.bytes.now _ c.in_ok-card.ensures c.in-49.len_at_least (search rules) (search rules) c.in_ok-after_blank.ensures
