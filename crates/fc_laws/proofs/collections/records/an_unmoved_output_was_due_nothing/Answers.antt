use Rattle.std.proofs.Common.{◌++◌, ◌∙◌, ◌∷◌, ◌≡◌, [], append-nil, List, Ok, refl, Some, sym, ℕ}
use Rattle.std.{proofs.lemmas.List.{append_cancel_left}, specs.List.{flat_map}}
use Rattle.fc_board.{proofs.AmongLemmas.{tail_empty}, specs.declared.rule.Variant.{Variant}}
use Rattle.fc_text.specs.Printed.{text_of}
use Rattle.fc_record.specs.Grammar.{Accepted, Reading, reading_of, Refused}
use Rattle.fc_record.specs.Printing.{heading_line, list_line, printed, printed_by, show_lines}
use Rattle.fc_record.specs.RecordTexts.{RecordText}
use Rattle.fc_collect.specs.{Records.{records_from}, Runs.{ending_of_kind, output_of_kind, TransfersWithin}}
use Rattle.fc_collect.specs.declared.{commands.RunKind.{RunKind, TheVariants.{Show}}, streams.faults.Summary.{Summary}}
use Rattle.fc_collect.specs.declared.streams.limits.Limits.{Limits}
use Rattle.fc_laws.proofs.collections.records.an_unmoved_output_was_due_nothing.Goals as goal

left_empty : (text more : List ℕ) → text ++ more ≡ [] → text ≡ []
left_empty [] more e = refl
left_empty (byte ∷ text) more e = absurd (cc)

nothing_due : (limits : Limits) (kind : RunKind) (variant : Variant) (read held : List ℕ) (summary : Summary)
    → TransfersWithin limits kind variant (record { input = Some read; left = Some []; before = Some held; after = Some held }) (Ok summary)
    → output_of_kind kind variant (records_from limits read) ++ ending_of_kind kind variant (records_from limits read) ≡ []
nothing_due limits kind variant read held summary run =
    let (ended, out) = run.fits in
    rw (run.consumed, append-nil run.read) (sym out.whole ∙ append_cancel_left held run.written [] (sym run.appended ∙ sym (append-nil held)))

-- what `show` prints for a record is not empty
shown_some : (text : RecordText) (reading : Reading) → printed_by show_lines text reading ≡ [] → ⊥
shown_some text (Refused name fault) e = absurd (cc)
shown_some text (Accepted heading contents) e =
    let front = left_empty (heading_line text.number heading ++ text_of contents.board) (flat_map list_line contents.lists) e in
    let board = tail_empty (heading_line text.number heading) (text_of contents.board) front in
    absurd (cc)

none_shown : (variant : Variant) (records : List RecordText) → flat_map (printed show_lines variant) records ≡ [] → records ≡ []
none_shown variant [] e = refl
none_shown variant (text ∷ rest) e =
    absurd (shown_some text (reading_of variant text.bytes)
    (left_empty (printed show_lines variant text) (flat_map (printed show_lines variant) rest) e))

pub returns-clause-due : goal.returns-clause-due
returns-clause-due c = nothing_due

pub returns-clause-show : goal.returns-clause-show
returns-clause-show c limits variant read held summary run =
    none_shown variant (records_from limits read)
    (left_empty (flat_map (printed show_lines variant) (records_from limits read)) [] (nothing_due limits Show variant read held summary run))
