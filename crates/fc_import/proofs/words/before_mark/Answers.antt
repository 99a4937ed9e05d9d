use Rattle.std.proofs.{Common.{◌==◌, ◌≤◌, ap, arith, length, sym, take}, lemmas.List.{take_all}}
use Rattle.std.specs.List.{position_or_len}
use Rattle.fc_text.proofs.LetterLemmas.{first_byte-none, first_byte-some}
use Rattle.fc_import.proofs.words.before_mark.Goals as goal

pub returns-in-Some : goal.returns-in-Some
returns-in-Some c = ap (λ place. take place c.args.text.now) (sym (first_byte-some (λ byte. byte == c.args.mark) c.args.text.now c.in-Some.place c.in-Some.ensures))

pub returns-in-None : goal.returns-in-None
returns-in-None c =
    let text = c.args.text.now in
    let past : length text ≤ position_or_len (λ byte. byte == c.args.mark) text = omega (arith, first_byte-none (λ byte. byte == c.args.mark) text c.in-None.ensures) in
    sym (take_all _ text past)
