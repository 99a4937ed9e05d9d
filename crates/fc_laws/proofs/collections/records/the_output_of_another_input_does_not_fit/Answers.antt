use Rattle.std.proofs.Common.{◌++◌, ◌∙◌, ◌≡◌, ◌≤◌, [], All, append-nil, arith, length, List, Ok, Some, sym, ℕ}
use Rattle.std.proofs.lemmas.List.{append_cancel_left, Elements.{All-weaker}}
use Rattle.{fc_board.specs.declared.rule.Variant.{Variant}, fc_record.specs.Printing.{printed, show_lines}}
use Rattle.fc_collect.proofs.{PrintedRecordLemmas.{shown-records}, ReadAgainLemmas.{among-All}}
use Rattle.fc_collect.specs.{Limits.{most_countable, standard}, Promises.{IsSmall, IsWithinLimits}}
use Rattle.fc_collect.specs.Records.{cut, nothing, output_of_records, records_from, records_of}
use Rattle.fc_collect.specs.Runs.{ending_of_kind, output_of_kind, refused_of_kind, TransfersWithin}
use Rattle.fc_collect.specs.declared.{commands.RunKind.{RunKind, TheVariants.{Show}}, streams.faults.Summary.{Summary}}
use Rattle.fc_collect.specs.declared.streams.limits.Limits.{Limits}
use Rattle.fc_laws.proofs.collections.records.the_output_of_another_input_does_not_fit.Goals as goal

module _ (limits : Limits) (kind : RunKind) (variant : Variant) where
  -- what is due for these bytes
  abbrev due : List ℕ → List ℕ
  due read = output_of_kind kind variant (records_from limits read) ++ ending_of_kind kind variant (records_from limits read)

  -- what a run wrote and counted, by what it read
  record Wrote (read held after : List ℕ) (summary : Summary) : Type 0 where
    within : IsWithinLimits limits read
    written : after ≡ held ++ due read
    records : summary.records ≡ length (records_from limits read)
    refused : summary.refused ≡ refused_of_kind kind variant (records_from limits read)

  wrote : (read held after : List ℕ) (summary : Summary)
      → TransfersWithin limits kind variant (record { input = Some read; left = Some []; before = Some held; after = Some after }) (Ok summary)
      → Wrote read held after summary
  wrote read held after summary run =
      let (ended, out) = run.fits in
      rw (run.consumed, append-nil run.read)
      (record { within = out.within; written = rw (run.appended, out.whole); records = out.records; refused = out.refused })

-- records within the limits have numbers that can be counted
few : (read : List ℕ) → IsWithinLimits standard read → All (λ text. text.number ≤ most_countable) (records_of read)
few read within =
    among-All (λ text. text.number ≤ most_countable) (cut nothing read)
    (All-weaker (IsSmall standard) (λ text. text.number ≤ most_countable) (λ text small. omega (arith, small.number)) (cut nothing read) within.texts)

pub returns-clause-show : goal.returns-clause-show
returns-clause-show c variant read another held after summary counts run again =
    let first = wrote standard Show variant read held after summary run in
    let next = wrote standard Show variant another held after counts again in
    let printed = output_of_records (printed show_lines variant) in
    let same = append_cancel_left held (printed read ++ []) (printed another ++ []) (sym first.written ∙ next.written) in
    let one = append-nil (printed read) in
    let other = append-nil (printed another) in
    rw (← shown-records variant read (few read first.within), ← one, same, other, shown-records variant another (few another next.within))
