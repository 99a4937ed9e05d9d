use Rattle.fc_text.proofs.TakingLemmas.{word_at}
use Rattle.fc_laws.proofs.texts.reading.first_word_ends_first.Goals as goal

pub returns-clause-word : goal.returns-clause-word
returns-clause-word c = λ start at bytes inside e. (word_at start bytes at inside e).words
