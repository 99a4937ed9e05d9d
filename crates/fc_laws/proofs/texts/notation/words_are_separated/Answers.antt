use Rattle.std.proofs.Common.{◌++◌, ◌∷◌, [], codes, lit<, lit≤, refl}
use Rattle.fc_board.specs.Games.{freecell}
use Rattle.fc_laws.proofs.ExampleLemmas.{bad_by_names, word_at}
use Rattle.fc_laws.proofs.texts.notation.words_are_separated.Goals as goal

pub returns-clause-comma : goal.returns-clause-comma
returns-clause-comma c = bad_by_names freecell (codes "3a,1a") [] (word_at 0 (codes "3a,1a")) [] [] (lit≤ tt) refl refl refl (lit< tt)

pub returns-clause-form_feed : goal.returns-clause-form_feed
returns-clause-form_feed c =
    bad_by_names freecell (codes "3a" ++ 12 ∷ codes "1a") [] (word_at 0 (codes "3a" ++ 12 ∷ codes "1a")) [] [] (lit≤ tt) refl refl refl (lit< tt)
