use Rattle.std.proofs.Common.{◌≤◌, refl, subst, sym}
use Rattle.fc_text.{proofs.LetterLemmas.{at_letter, at_most}, specs.reader.{clubs_number}}
use Rattle.fc_text.proofs.board.spelling.clubs_number.Goals as goal

pub returns-clause-code : goal.returns-clause-code
returns-clause-code c = at_letter clubs_number c.from.result c.args.letter c.from.ensures c.ranges.letter.fits

pub returns-clause-within : goal.returns-clause-within
returns-clause-within c =
    subst (λ n. n ≤ 64) (sym (at_letter clubs_number c.from.result c.args.letter c.from.ensures c.ranges.letter.fits)) (at_most clubs_number 64 c.args.letter refl c.ranges.letter.fits)
