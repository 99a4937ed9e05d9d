-- Lemmas on a run whose output begins with a header, and on one that prints each record by itself.
use Rattle.std.proofs.Common.{◌++◌, ◌∙◌, ◌≡◌, [], ap, append_assoc, arith, Err, List, Ok, Option, refl, Result, subst}
use Rattle.std.{proofs.{Common.{sym, ℕ}, KnownBytes.{Appends-trans, Consumes-nil}}, specs.Io.KnownBytes.{Appends}}
use Rattle.std.specs.List.{flat_map}
use Rattle.fc_record.specs.RecordTexts.{RecordText}
use Rattle.fc_collect.{proofs.{PrintingLemmas.{outputs_alone}, RunLemmas.{limits_none}}, specs.inside.{output_counts}}
use Rattle.fc_collect.specs.{Limits.{AreCountable}, Promises.{Begins, Printing, ReadsAsCounted, ResultFits, Transfer}}
use Rattle.fc_collect.specs.Promises.{Transfers, whole_of, WritesAsCounted, WritesText}
use Rattle.fc_collect.specs.{Records.{outputs_after, records_from}, Runs.{RunsWithin}}
use Rattle.fc_collect.specs.Streams.{bytes_of, GrowsBy, inner_of, Stream, StreamBytes}
use Rattle.fc_collect.specs.declared.streams.{counted.Counted.{Counted}, faults.RunFault.{RunFault}}
use Rattle.fc_collect.specs.declared.streams.faults.RunFault.TheVariants.{Memory, Read, ReaderNeverEnds, TooLarge}
use Rattle.fc_collect.specs.declared.streams.faults.{RunFault.TheVariants.{Write}, Summary.{Summary}}
use Rattle.fc_collect.specs.declared.streams.limits.Limits.{Limits}

-- the header is printed before all else
abbrev pub headed : (header : List ℕ) → Printing → Printing
headed header printing = record printing { output = λ records. header ++ printing.output records }

module _ (limits : Limits) (header : List ℕ) (printing : Printing) where
  whole_headed : (read : List ℕ) → header ++ whole_of limits printing read ≡ whole_of limits (headed header printing) read
  whole_headed read = sym (append_assoc header (printing.output (records_from limits read)) (printing.ending (records_from limits read)))

  begun : (read written : List ℕ) → Begins written (whole_of limits printing read) → Begins (header ++ written) (whole_of limits (headed header printing) read)
  begun read written (rest, e) = (rest, append_assoc header written rest ∙ ap (λ l. header ++ l) e ∙ whole_headed read)

  fits_headed : (bytes : Transfer) (result : Result Summary RunFault) → ResultFits limits printing bytes result
      → ResultFits limits (headed header printing) (record bytes { written = header ++ bytes.written }) result
  fits_headed bytes (Ok summary) (ended, out) = (
    ended,
    record {
      within = out.within;
      whole = ap (λ l. header ++ l) out.whole ∙ whole_headed bytes.read;
      records = out.records;
      refused = out.refused;
    },
  )
  fits_headed bytes (Err Read) (within, is) = (within, ap (λ l. header ++ l) is)
  fits_headed bytes (Err ReaderNeverEnds) (within, is) = (within, ap (λ l. header ++ l) is)
  fits_headed bytes (Err TooLarge) (passes, begins) = (passes, begun bytes.read bytes.written begins)
  fits_headed bytes (Err Write) (within, begins) = (within, begun bytes.read bytes.written begins)
  fits_headed bytes (Err Memory) (within, begins) = (within, begun bytes.read bytes.written begins)

  -- the header went out, and then the run
  pub Transfers-headed : (streams : StreamBytes) (before : Option (List ℕ)) (result : Result Summary RunFault)
      → Appends before streams.before header → Transfers (ResultFits limits printing) streams result
      → Transfers (ResultFits limits (headed header printing)) (record streams { before = before }) result
  Transfers-headed streams before result first ensured = record {
    read = ensured.read;
    written = header ++ ensured.written;
    consumed = ensured.consumed;
    appended = Appends-trans before streams.before streams.after header ensured.written first ensured.appended;
    fits = fits_headed (record { read = ensured.read; left = streams.left; written = ensured.written }) result ensured.fits;
  }

  -- so the output grew by both
  pub Runs-headed : {R W : Type 0} (input : Stream R) (output : Stream W) (before : Counted W) (result : Result Summary RunFault)
      → GrowsBy before output.old (record { failures = 0; fills = 0; ends = 0; flushes = 0 })
      → WritesText {A = Unit {0}} header (output.bytes (inner_of before)) (output.bytes (inner_of output.old)) (Ok tt)
      → RunsWithin limits (ResultFits limits printing) input output result
      → RunsWithin limits (ResultFits limits (headed header printing)) input (record output { old = before }) result
  Runs-headed input output before result none first run = record {
    read_counted = run.read_counted;
    write_counted = record {
      grows = record {
        failures = omega (arith, none.failures, run.write_counted.grows.failures);
        fills = omega (arith, none.fills, run.write_counted.grows.fills);
        ends = omega (arith, none.ends, run.write_counted.grows.ends);
        flushes = omega (arith, none.flushes, run.write_counted.grows.flushes);
      };
      flushed = run.write_counted.flushed;
    };
    wrote = Transfers-headed (bytes_of input output) (output.bytes (inner_of before)) result
        (subst (Appends (output.bytes (inner_of before)) (output.bytes (inner_of output.old))) first.fits first.appended) run.wrote;
  }

  -- the header could not be written whole
  pub Runs-unheaded : {R W : Type 0} → AreCountable limits → (bytes : R → Option (List ℕ)) (input : Counted R) (output : Stream W) (fault : RunFault)
      → GrowsBy output.old output.new (output_counts {A = Unit {0}} (Err fault))
      → WritesText {A = Unit {0}} header (output.bytes (inner_of output.old)) (output.bytes (inner_of output.new)) (Err fault)
      → RunsWithin limits (ResultFits limits (headed header printing)) (record { bytes = bytes; old = input; new = input }) output (Err fault)
  Runs-unheaded some bytes input output Write grows wrote = record {
    read_counted = record {
      counts = record { failures = 0; fills = 0; ends = 0; flushes = 0 };
      grows = record { failures = omega arith; fills = omega arith; ends = omega arith; flushes = omega arith };
      few = omega arith;
      fits = refl;
    };
    write_counted = record { grows = grows; flushed = tt };
    wrote = record {
      read = [];
      written = wrote.written;
      consumed = Consumes-nil (bytes (inner_of input));
      appended = wrote.appended;
      fits = (limits_none limits some, begins wrote.fits);
    };
  }
    where
      begins : Begins wrote.written header → Begins wrote.written (whole_of limits (headed header printing) [])
      begins (rest, e) = (
        rest ++ whole_of limits printing [],
        sym (append_assoc wrote.written rest (whole_of limits printing [])) ∙ ap (λ l. l ++ whole_of limits printing []) e ∙ whole_headed [],
      )
  Runs-unheaded some bytes input output Read grows wrote = absurd wrote.fits
  Runs-unheaded some bytes input output Memory grows wrote = absurd wrote.fits
  Runs-unheaded some bytes input output TooLarge grows wrote = absurd wrote.fits
  Runs-unheaded some bytes input output ReaderNeverEnds grows wrote = absurd wrote.fits

-- ---- where what is printed for a record goes by none before it

pub Runs-alone : {R W : Type 0} (limits : Limits) (output_of : RecordText → List ℕ) (ending : List RecordText → List ℕ) (refused : List RecordText → ℕ)
    (input : Stream R) (output : Stream W) (result : Result Summary RunFault)
    → ReadsAsCounted limits input.old input.new result → WritesAsCounted output.old output.new result
    → Transfers (ResultFits limits (record { output = outputs_after (λ seen. output_of) []; ending = ending; refused = refused })) (bytes_of input output) result
    → RunsWithin limits (ResultFits limits (record { output = flat_map output_of; ending = ending; refused = refused })) input output result
Runs-alone limits output_of ending refused input output result read write wrote =
    let same : outputs_after (λ seen. output_of) [] ≡ flat_map output_of = λ i texts. outputs_alone output_of [] texts i in
    record {
      read_counted = read;
      write_counted = write;
      wrote = subst (λ printed. Transfers (ResultFits limits (record { output = printed; ending = ending; refused = refused })) (bytes_of input output) result) same wrote;
    }
