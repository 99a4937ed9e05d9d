use Rattle.std.proofs.{Common.{◌++◌, ◌∙◌, ◌∷◌, ◌≡◌, [], ap₂, arith, length, List, refl, sym, ℕ}, lemmas.Bool.{eqb-true}}
use Rattle.{fc_import.proofs.FrontLemmas.{header_name_read}, fc_record.specs.Printing.{header_text}}
use Rattle.fc_import.proofs.printed.printed_name.Goals as goal

nothing_else : (items : List ℕ) → length items ≡ 0 → items ≡ []
nothing_else [] none = refl
nothing_else (byte ∷ items) none = absurd (omega (arith, none))

pub returns-then-is_empty-clause-found : goal.returns-then-is_empty-clause-found
returns-then-is_empty-clause-found c = λ name one some is.
    let read = c.in_ok-name.ensures ∙ header_name_read c.args.variant name c.args.line.now (one, some) is in
    let none = eqb-true _ 0 (sym c.is_empty.ensures ∙ c.if-is_empty.true) in
    absurd (some (sym read ∙ nothing_else c.in_ok-name.name.items (sym c.in_ok-name.name.ok.0 ∙ none)))

pub returns-else-is_equal-clause-found : goal.returns-else-is_equal-clause-found
returns-else-is_equal-clause-found c = λ name one some is.
    let read = c.in_ok-name.ensures ∙ header_name_read c.args.variant name c.args.line.now (one, some) is in
    let printed = c.as_slice-2.ensures.value ∙ c.in_ok-push_header.ensures.printed
    ∙ ap₂ (λ front name. front ++ header_text c.args.variant name) c.in_ok-header.ensures.items
    (c.as_slice.ensures.value ∙ read) in
    sym c.if-is_equal.false ∙ c.is_equal.ensures.1 (is ∙ sym printed)
