use Rattle.fc_tool.proofs.RequestLemmas.{countable_answer}
use Rattle.fc_tool.proofs.program.Asked.by.Goals as goal

pub invariant_of-result : goal.invariant_of-result
invariant_of-result c = countable_answer _ c.read_words-answer.result c.read_words-answer.ensures
