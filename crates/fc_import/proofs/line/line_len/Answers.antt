use Rattle.{fc_text.specs.{Bytes.{line_feed}, Lines.{lines_from}}, memchr.specs.Find.{is_byte, Nowhere, Passes}}
use Rattle.std.proofs.Common.{◌+◌, ◌-◌, ◌==◌, ◌∙◌, ◌≡◌, ◌≤◌, ap, arith, get_or, length, subst, suc, sym, take}
use Rattle.std.proofs.lemmas.List.{take_all}
use Rattle.fc_record.proofs.TextLineLemmas.{ends_line-take}
use Rattle.fc_import.proofs.PieceLemmas.{first_feed, one_line, some_feed}
use Rattle.fc_import.proofs.line.line_len.Goals as goal

pub returns-in-Some-clause-lines : goal.returns-in-Some-clause-lines
returns-in-Some-clause-lines c =
    let text = c.args.text.now in
    let place = c.in-Some.place in
    let last : place + 1 - 1 ≡ place = omega arith in
    record {
      some = omega arith;
      within = omega (arith, c.in-Some.ensures.0.high);
      whole = λ less. ends_line-take text (place + 1) (omega arith) (omega (arith, less))
          ∙ ap (λ at. get_or text at 0 == line_feed) last ∙ c.in-Some.ensures.1;
    }

pub returns-in-Some-clause-one : goal.returns-in-Some-clause-one
returns-in-Some-clause-one c =
    let more : suc c.in-Some.place ≡ c.in-Some.place + 1 = omega arith in
    subst (λ len. length (lines_from 0 (take len c.args.text.now)) ≤ 1) more
    (one_line 0 c.args.text.now c.in-Some.place c.in-Some.ensures.0.before)

pub returns-in-None-clause-one : goal.returns-in-None-clause-one
returns-in-None-clause-one c =
    let text = c.args.text.now in
    let same = take_all (suc (length text)) text (omega arith) ∙ sym (take_all (length text) text (omega arith)) in
    subst (λ text. length (lines_from 0 text) ≤ 1) same (one_line 0 text (length text) c.in-None.ensures)

pub returns-in-Some-clause-first : goal.returns-in-Some-clause-first
returns-in-Some-clause-first c = λ line rest are is.
    ap (λ place. place + 1) (first_feed line rest c.in-Some.place are
    (subst (λ text. Passes (is_byte line_feed) text c.in-Some.place) is c.in-Some.ensures.1)
    (subst (λ text. Nowhere (Passes (is_byte line_feed) text) 0 c.in-Some.place) is c.in-Some.ensures.0.before))

pub returns-in-None-clause-first : goal.returns-in-None-clause-first
returns-in-None-clause-first c = λ line rest are is.
    absurd (some_feed line rest (subst (λ text. Nowhere (Passes (is_byte line_feed) text) 0
    (length text)) is c.in-None.ensures))
