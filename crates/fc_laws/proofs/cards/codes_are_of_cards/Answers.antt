use Rattle.{fc_card.proofs.CodeLemmas.{card_code-apart, card_code-cmp}, std.proofs.Common.{arith}}
use Rattle.fc_laws.proofs.cards.codes_are_of_cards.Goals as goal

pub returns-clause-apart : goal.returns-clause-apart
returns-clause-apart c = card_code-apart c.args.card c.args.other (omega arith) (omega arith)

pub returns-clause-byte_order : goal.returns-clause-byte_order
returns-clause-byte_order c = card_code-cmp c.args.card c.args.other (omega arith) (omega arith)
