use Rattle.std.{proofs.Common.{◌++◌, ◌∙◌, ◌≡◌, ap, arith, length, subst, sym, true}, specs.Fmt.{decimal}}
use Rattle.fc_record.{proofs.HeadingLemmas.{word_numbered}, specs.Grammar.{is_name}}
use Rattle.fc_import.proofs.naming.title_or_number.Goals as goal

pub returns-clause-name : goal.returns-clause-name
returns-clause-name c =
    let printed = c.in_ok-push_number.ensures.printed ∙ ap (λ front. front ++ decimal c.args.number)
    c.new-name.ensures.items in
    let digits = word_numbered c.args.number (omega (arith, c.ranges.number.fits)) in
    subst (λ items. is_name items ≡ true) (sym printed) digits.is_one

pub returns-clause-some : goal.returns-clause-some
returns-clause-some c = λ none.
    let printed = c.in_ok-push_number.ensures.printed ∙ ap (λ front. front ++ decimal c.args.number)
    c.new-name.ensures.items in
    let digits = word_numbered c.args.number (omega (arith, c.ranges.number.fits)) in
    let short : length (decimal c.args.number) ≡ 0 = ap length (sym printed ∙ none) in
    absurd (omega (arith, digits.some, short))
