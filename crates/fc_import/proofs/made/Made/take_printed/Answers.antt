use Rattle.std.proofs.Common.{◌++◌, ◌∙◌, ◌≡◌, ap, append_assoc, arith, Err, get_or, IfOk, IfSome, length, List, None}
use Rattle.std.proofs.Common.{Ok, Option, refl, Result, Some, subst, subst₂, sym, ℕ}
use Rattle.fc_board.specs.{Boards.{Board}, declared.rule.Variant.{Variant}, Games.{Game}}
use Rattle.{fc_record.specs.Printing.{header_text, list_line}, fc_text.specs.Printed.{text_of}}
use Rattle.fc_import.proofs.FrontLemmas.{in_front}
use Rattle.fc_import.proofs.PrintedLemmas.{begins, Begins, front_of_header, front_of_list, with_list, with_record}
use Rattle.fc_import.specs.{Import.{IsPrinted}, inside.{KeepsFirst, TakesAsItIs}}
use Rattle.fc_import.specs.declared.made.Made.{Made}
use Rattle.fc_import.proofs.made.Made.take_printed.Goals as goal

-- what was found was taken
both : {E L : Type 0} (P Q : ℕ → Type 0) (len : ℕ) (result : Result (Option ℕ) E)
    → IfOk result (λ taken. IfSome taken P)
    → IfOk result (λ taken. (taken ≡ Some len) × L) → (P len → L → Q len)
    → IfOk result (λ taken. (len : ℕ) × (taken ≡ Some len) × Q len)
both P Q len (Ok taken) all (is, last) then = (len, is, then (subst (λ taken. IfSome taken P) is all) last)
both P Q len (Err fault) all found then = tt

-- and the text goes on after it
goes_on_after : {R : Type 0} (variant : Variant) (game : Game) (front rest text : List ℕ) (old new : Made R)
    (board : Board)
    → TakesAsItIs variant game text (length front) old new → new.last ≡ Some board → text ≡ front ++ rest
    → IsPrinted variant game (Some board) rest
    → KeepsFirst variant game text (length front) old new
goes_on_after variant game front rest text old new board taken last is more = record {
  written = taken.written;
  notes = taken.notes;
  goes_on = subst₂ (IsPrinted variant game) (sym last) (sym (in_front front rest text (length front) is refl).1) more;
}

pub returns-then-text-eq64-clause-found : goal.returns-then-text-eq64-clause-found
returns-then-text-eq64-clause-found g c = λ printed. by (begins g.R.Rule.VARIANT g.R.Rule.game old.last text printed
    c.requires)
  where
    text : List ℕ
    text = c.args.text.now

    old : Made g.row.R.Denot
    old = c.args.self.now

    new : Made g.row.R.Denot
    new = c.take_record.new.self

    by : Begins g.R.Rule.VARIANT g.R.Rule.game old.last text
        → IfOk c.take_record.result (λ taken. (len : ℕ) × (taken ≡ Some len) × KeepsFirst {R = g.row.R.Denot}
        g.R.Rule.VARIANT g.R.Rule.game text len old new)
    by (with_record name board rest one some well more is) =
        let front = header_text g.R.Rule.VARIANT name ++ text_of board in
        let goes_on = goes_on_after {R = g.row.R.Denot} g.R.Rule.VARIANT g.R.Rule.game front rest text old new board in
        both (λ len. TakesAsItIs {R = g.row.R.Denot} g.R.Rule.VARIANT g.R.Rule.game text len old new)
        (λ len. KeepsFirst {R = g.row.R.Denot} g.R.Rule.VARIANT g.R.Rule.game text len old new)
        (length front) c.take_record.result
        c.take_record.ensures.taken (c.take_record.ensures.found name board rest one some well is)
        (λ taken last. goes_on taken last
        (is ∙ sym (append_assoc (header_text g.R.Rule.VARIANT name) (text_of board) rest)) more)
    by (with_list board list rest last legal few more is) =
        absurd (let e = ap (λ text. get_or text 0 0) is ∙ front_of_list list rest in omega
        (arith, e, c.if-text-eq64.true))

pub returns-then-text-eq62-clause-found : goal.returns-then-text-eq62-clause-found
returns-then-text-eq62-clause-found g c = λ printed. by (begins g.R.Rule.VARIANT g.R.Rule.game old.last text printed
    c.requires)
  where
    text : List ℕ
    text = c.args.text.now

    old : Made g.row.R.Denot
    old = c.args.self.now

    new : Made g.row.R.Denot
    new = c.take_list.new.self

    by : Begins g.R.Rule.VARIANT g.R.Rule.game old.last text
        → IfOk c.take_list.result (λ taken. (len : ℕ) × (taken ≡ Some len) × KeepsFirst {R = g.row.R.Denot}
        g.R.Rule.VARIANT g.R.Rule.game text len old new)
    by (with_record name board rest one some well more is) =
        absurd (let e = ap (λ text. get_or text 0 0) is ∙ front_of_header g.R.Rule.VARIANT name
        (text_of board ++ rest) in omega (arith, e, c.if-text-eq62.true))
    by (with_list board list rest last legal few more is) =
        let goes_on = goes_on_after {R = g.row.R.Denot} g.R.Rule.VARIANT g.R.Rule.game
        (list_line list) rest text old new board in
        both (λ len. TakesAsItIs {R = g.row.R.Denot} g.R.Rule.VARIANT g.R.Rule.game text len old new)
        (λ len. KeepsFirst {R = g.row.R.Denot} g.R.Rule.VARIANT g.R.Rule.game text len old new)
        (length (list_line list)) c.take_list.result
        c.take_list.ensures.taken (c.take_list.ensures.found board list rest last legal few is)
        (λ taken last. goes_on taken last is more)

pub returns-clause-found : goal.returns-clause-found
returns-clause-found g c = λ printed. by (begins g.R.Rule.VARIANT g.R.Rule.game c.args.self.now.last
    c.args.text.now printed c.requires)
  where
    by : Begins g.R.Rule.VARIANT g.R.Rule.game c.args.self.now.last c.args.text.now → (len : ℕ) × (None ≡ Some len)
        × KeepsFirst {R = g.row.R.Denot} g.R.Rule.VARIANT g.R.Rule.game c.args.text.now len c.args.self.now
        c.args.self.now
    by (with_record name board rest one some well more is) =
        let e = ap (λ text. get_or text 0 0) is ∙ front_of_header g.R.Rule.VARIANT name
        (text_of board ++ rest) in absurd (omega (arith, e, c.if-text-eq64.false))
    by (with_list board list rest last legal few more is) =
        let e = ap (λ text. get_or text 0 0) is ∙ front_of_list list rest in absurd
        (omega (arith, e, c.if-text-eq62.false))
