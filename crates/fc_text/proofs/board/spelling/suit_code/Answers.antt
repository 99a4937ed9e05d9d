use Rattle.std.proofs.Common.{◌≤◌, refl, subst, sym}
use Rattle.fc_text.{proofs.LetterLemmas.{at_letter, at_most}, specs.reader.{suit_code}}
use Rattle.fc_text.proofs.board.spelling.suit_code.Goals as goal

pub returns-clause-code : goal.returns-clause-code
returns-clause-code c = at_letter suit_code c.from.result c.args.letter c.from.ensures c.ranges.letter.fits

pub returns-clause-within : goal.returns-clause-within
returns-clause-within c =
    subst (λ n. n ≤ 64) (sym (at_letter suit_code c.from.result c.args.letter c.from.ensures c.ranges.letter.fits)) (at_most suit_code 64 c.args.letter refl c.ranges.letter.fits)
