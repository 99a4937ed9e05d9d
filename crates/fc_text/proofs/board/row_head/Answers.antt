use Rattle.{fc_text.proofs.FrontLemmas.{bare_front}, std.proofs.Common.{rules, sym}}
use Rattle.fc_text.proofs.board.row_head.Goals as goal

pub returns-in-len1-up-clause-row : goal.returns-in-len1-up-clause-row
returns-in-len1-up-clause-row c = λ start. bare_front start c.args.bytes.now (search rules) (sym c.if-not-begins_head.ensures)
