use Rattle.{fc_text.proofs.FirstCardLemmas.{first_and_blank}, std.proofs.Common.{rules}}
use Rattle.fc_text.proofs.board.first_card.Goals as goal

pub returns-in-Some : goal.returns-in-Some
returns-in-Some c = first_and_blank c.in-Some.card c.args.bytes.now c.in-Some.ensures (search rules) (search rules)
