use Rattle.fc_text.proofs.RunTokenLemmas.{count-IsRunToken}
use Rattle.fc_laws.proofs.texts.runs.runs_take_each_count.Goals as goal

pub returns : goal.returns
returns c = count-IsRunToken
