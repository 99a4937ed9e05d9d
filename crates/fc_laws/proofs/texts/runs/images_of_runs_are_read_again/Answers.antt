use Rattle.fc_laws.proofs.OverLemmas.{run_image-Listed}
use Rattle.fc_laws.proofs.texts.runs.images_of_runs_are_read_again.Goals as goal

pub returns : goal.returns
returns c = run_image-Listed
