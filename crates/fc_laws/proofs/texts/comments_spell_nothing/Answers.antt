use Rattle.fc_text.proofs.BlankLineLemmas.{spelled-comment_after}
use Rattle.fc_laws.proofs.texts.comments_spell_nothing.Goals as goal

pub returns : goal.returns
returns c = spelled-comment_after
