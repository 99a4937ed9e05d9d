use Rattle.fc_laws.proofs.OverLemmas.{image-Listed}
use Rattle.fc_laws.proofs.texts.notation.images_are_read_again.Goals as goal

pub returns : goal.returns
returns c = image-Listed
