use Rattle.fc_text.{proofs.NextTokenLemmas.{all_at_spans}, specs.Notation.{separates_tokens}}
use Rattle.fc_text.proofs.tokens.Tokens.new.Goals as goal

pub returns-clause-spans : goal.returns-clause-spans
returns-clause-spans c = all_at_spans separates_tokens c.args.text.now
