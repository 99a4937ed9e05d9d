use Rattle.std.proofs.Common.{◌≤◌, refl, subst, sym}
use Rattle.fc_text.{proofs.LetterLemmas.{at_letter, at_most}, specs.reader.{rank_part}}
use Rattle.fc_text.proofs.letters.rank_part.Goals as goal

pub returns-clause-part : goal.returns-clause-part
returns-clause-part c = at_letter rank_part c.from.result c.args.letter c.from.ensures c.ranges.letter.fits

pub returns-clause-within : goal.returns-clause-within
returns-clause-within c =
    subst (λ n. n ≤ 64) (sym (at_letter rank_part c.from.result c.args.letter c.from.ensures c.ranges.letter.fits)) (at_most rank_part 64 c.args.letter refl c.ranges.letter.fits)
