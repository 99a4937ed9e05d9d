-- Lemmas on the turns of a run.
use Rattle.std.proofs.Common.{◌++◌, ◌+◌, ◌<◌, ◌∙◌, ◌∷◌, ◌≡◌, ◌≤◌, [], All, ap, append-nil, append_assoc, arith, Bool}
use Rattle.std.proofs.Common.{cond, drop, Err, length, length-append, List, Ok, Option, refl, Result, subst, sym, take}
use Rattle.std.proofs.{Common.{true, ℕ}, KnownBytes.{Appends-nil, Appends-trans, Consumes-nil, Consumes-trans}}
use Rattle.std.proofs.lemmas.List.{Elements.{All-append, All-cons, All-head, All-nil}, Sums.{sum_by-append}}
use Rattle.std.{proofs.Math.Seq.{drop-append_seam, take-append_seam}, specs.Io.KnownBytes.{Appends, Consumes}}
use Rattle.std.specs.List.{count_by}
use Rattle.std.proofs.lemmas.List.{nil_from_length}
use Rattle.fc_board.{proofs.BoardLemmas.{All-left, All-right}, specs.declared.rule.Variant.{Variant}}
use Rattle.fc_record.specs.{Grammar.{Contents, Heading}, Printing.{is_refused}, RecordTexts.{RecordText}}
use Rattle.fc_record.specs.declared.record.RecordFault.{RecordFault}
use Rattle.fc_collect.proofs.{PrintingLemmas.{outputs_after-append}, RecordLemmas.{begun-append, begun-number}}
use Rattle.fc_collect.proofs.RecordLemmas.{begun-place, cut-append, finished_among-append, records_among-last}
use Rattle.fc_collect.specs.{Closed.{refused_with}, Groups.{Member}, inside.{begun_in, ConsumedRead, cut_in}}
use Rattle.fc_collect.specs.inside.{FillsWindow, Finished, finished_in, Finishes, IsAllowed, last_output, printed_after}
use Rattle.fc_collect.specs.{inside.{records_in, SendsSome, TakeUpFault, text_at}, Limits.{AreCountable}}
use Rattle.fc_collect.specs.Promises.{Begins, IsSmall, IsWithinLimits, OutputOf, Printing, ReadsAsCounted, ResultCounts}
use Rattle.fc_collect.specs.{Promises.{ResultFits, Transfers, whole_of}, Records.{begun, cut, finished, finished_from}}
use Rattle.fc_collect.specs.Records.{first_of, if_record, outputs_after, records_among}
use Rattle.fc_collect.specs.Streams.{counts_of, GrowsBy, HasRoom, inner_of, one_more_if, StreamBytes}
use Rattle.fc_collect.specs.declared.{engine.progress.Progress.{Progress}, streams.counted.Counted.{Counted}}
use Rattle.fc_collect.specs.declared.streams.faults.RunFault.{RunFault, TheVariants.{Memory, Read, ReaderNeverEnds}}
use Rattle.fc_collect.specs.declared.streams.faults.{RunFault.TheVariants.{TooLarge, Write}, Summary.{Summary}}
use Rattle.fc_collect.specs.declared.streams.limits.Limits.{Limits}

-- ---- a run, and what it has between two turns

-- a run by its limits, what is printed for a record after those before it, which records are refused, and how many count as refused
pub record Run : Type 0 where
  pub limits : Limits
  pub output_of : List RecordText → RecordText → List ℕ
  pub refuses : RecordText → Bool
  pub refused : List RecordText → ℕ

-- the run of a command with these lines, where records without a header have this variant
abbrev pub run_of : (refusal : RecordText → Option (List ℕ) → RecordFault → List ℕ) → (lines : List Member → ℕ → Heading → Contents → List ℕ) → (fails : List Member → Bool) → Variant → Limits → Run
run_of refusal lines fails variant limits = record {
  limits = limits;
  output_of = printed_after refusal lines variant;
  refuses = is_refused variant;
  refused = refused_with fails variant;
}

-- what is printed for the records that a header ends
abbrev pub output_to : Run → (read : List ℕ) → List ℕ
output_to run read = outputs_after run.output_of [] (finished_from run.limits read)

-- what is printed, where this is at the end
abbrev pub printing_by : Run → (ending : List RecordText → List ℕ) → Printing
printing_by run ending = record { output = outputs_after run.output_of []; ending = ending; refused = run.refused }

-- what is printed for all records, as they come and at the end
abbrev pub all_output : Run → (ending : List RecordText → List ℕ) → (read : List ℕ) → List ℕ
all_output run ending = whole_of run.limits (printing_by run ending)

-- both streams, with what the input has left and what is written to the output
pub record Ends (R W : Type 0) : Type 0 where
  pub input : Counted R
  pub left : Option (List ℕ)
  pub output : Counted W
  pub written : Option (List ℕ)

-- both streams, as they are now
abbrev pub ends_of : {R W : Type 0} → (remaining : R → Option (List ℕ)) → (contents : W → Option (List ℕ)) → Counted R → Counted W → Ends R W
ends_of remaining contents input output = record { input = input; left = remaining (inner_of input); output = output; written = contents (inner_of output) }

-- the bytes of both streams, from the start on
abbrev pub bytes_from : {R W : Type 0} → Ends R W → (left after : Option (List ℕ)) → StreamBytes
bytes_from start left after = record { input = start.left; left = left; before = start.written; after = after }

-- the streams, the place in the collection, and what is held and pending, after so many turns
pub record State (R W : Type 0) : Type 0 where
  pub ends : Ends R W
  pub progress : Progress
  pub held : List ℕ
  pub pending : List ℕ
  pub turns : ℕ

-- what was read so far is within limits, its finished records are printed, written and kept, and what is held is begun
pub record Running {R W : Type 0} (run : Run) (keeps : List RecordText → Type 0) (start : Ends R W) (now : State R W) : Type 0 where
  pub read : List ℕ
  pub consumed : Consumes start.left now.ends.left read
  pub written : Appends start.written now.ends.written (output_to run read)
  pub none : now.pending ≡ []
  pub within : IsWithinLimits run.limits read
  pub holds : keeps (finished_from run.limits read)
  pub refused : now.progress.refused ≡ count_by run.refuses (finished_from run.limits read)
  pub fewer : now.progress.refused < now.progress.number
  pub begins : begun (first_of run.limits) read ≡ text_at now.progress now.held
  pub reads : GrowsBy start.input now.ends.input (record { failures = 0; fills = now.turns; ends = 0; flushes = 0 })
  pub writes : GrowsBy start.output now.ends.output (record { failures = 0; fills = 0; ends = 0; flushes = 0 })

-- ---- counts

pub counts_none : (limits : Limits) {R : Type 0} (input : Counted R) → ReadsAsCounted {A = Summary} limits input input (Err Memory)
counts_none limits input = record {
  counts = record { failures = 0; fills = 0; ends = 0; flushes = 0 };
  grows = record { failures = omega arith; fills = omega arith; ends = omega arith; flushes = omega arith };
  few = omega arith;
  fits = refl;
}

-- a read failed
pub counts_failed : (limits : Limits) {R : Type 0} (first old new : Counted R) (turns : ℕ) → HasRoom first → turns < limits.reads
    → GrowsBy first old (record { failures = 0; fills = turns; ends = 0; flushes = 0 }) → (counts_of new).failures ≡ one_more_if true (counts_of old).failures
    → (counts_of new).fills ≡ (counts_of old).fills → (counts_of new).ends ≡ (counts_of old).ends → (counts_of new).flushes ≡ (counts_of old).flushes → ReadsAsCounted {A = Summary} limits first new (Err Read)
counts_failed limits first old new turns low few so_far failures fills ends flushes = record {
  counts = record { failures = 1; fills = turns; ends = 0; flushes = 0 };
  grows = record {
    failures = omega (arith, failures, so_far.failures, low.failures);
    fills = fills ∙ so_far.fills;
    ends = ends ∙ so_far.ends;
    flushes = flushes ∙ so_far.flushes;
  };
  few = omega arith;
  fits = (refl, refl);
}

-- the input has ended
pub finish_counts : (limits : Limits) {R : Type 0} (first new : Counted R) (turns : ℕ) (output : List ℕ) (refused : ℕ) (progress : Progress) (text : RecordText) (before after : Option (List ℕ)) (result : Result Summary RunFault)
    → turns < limits.reads → GrowsBy first new (record { failures = 0; fills = turns; ends = 1; flushes = 0 }) → Finishes limits.number output refused progress text before after result
    → ReadsAsCounted limits first new result
finish_counts limits first new turns output refused progress text before after result few grows fits = record {
  counts = record { failures = 0; fills = turns; ends = 1; flushes = 0 };
  grows = grows;
  few = omega arith;
  fits = by_result result fits;
}
  where
    by_result : (result : Result Summary RunFault) → Finishes limits.number output refused progress text before after result → ResultCounts limits result (record { failures = 0; fills = turns; ends = 1; flushes = 0 })
    by_result (Ok summary) fits = (refl, refl)
    by_result (Err Read) fits = absurd fits.0
    by_result (Err Write) fits = refl
    by_result (Err Memory) fits = refl
    by_result (Err TooLarge) fits = absurd fits.0
    by_result (Err ReaderNeverEnds) fits = absurd fits.0

-- what a read gave was not taken up
pub take_up_counts : (limits : Limits) {R : Type 0} (first new : Counted R) (turns : ℕ) (output : List RecordText → List ℕ) (progress : Progress) (held : List ℕ) (searched : ℕ) (before after : Option (List ℕ)) (fault : RunFault)
    → turns < limits.reads → GrowsBy first new (record { failures = 0; fills = turns + 1; ends = 0; flushes = 0 }) → TakeUpFault limits output progress held searched before after fault
    → ReadsAsCounted {A = Summary} limits first new (Err fault)
take_up_counts limits first new turns output progress held searched before after fault few grows fits = record {
  counts = record { failures = 0; fills = turns + 1; ends = 0; flushes = 0 };
  grows = grows;
  few = omega arith;
  fits = by_fault fault fits;
}
  where
    by_fault : (fault : RunFault) → TakeUpFault limits output progress held searched before after fault → ResultCounts {A = Summary} limits (Err fault) (record { failures = 0; fills = turns + 1; ends = 0; flushes = 0 })
    by_fault Read fits = absurd fits
    by_fault Write fits = refl
    by_fault Memory fits = refl
    by_fault TooLarge fits = (refl, refl)
    by_fault ReaderNeverEnds fits = absurd fits

-- ---- what is held

-- what is begun is small
pub small_begun : (limits : Limits) (read held : List ℕ) (progress : Progress) → IsWithinLimits limits read → begun (first_of limits) read ≡ text_at progress held → IsSmall limits (text_at progress held)
small_begun limits read held progress within begins = subst (IsSmall limits) begins (All-head (IsSmall limits) (begun (first_of limits) read) [] (All-right (IsSmall limits) (finished (first_of limits) read) (begun (first_of limits) read ∷ []) within.texts))

-- its number is that after the finished records
pub begun_number : (limits : Limits) (read held : List ℕ) (progress : Progress) → begun (first_of limits) read ≡ text_at progress held
    → progress.number ≡ limits.number + length (finished_from limits read)
begun_number limits read held progress begins = ap (λ (text : RecordText). text.number) (sym begins) ∙ begun-number (first_of limits) read

-- so no lower than that of the first record
pub begun_later : (limits : Limits) (read held : List ℕ) (progress : Progress) → begun (first_of limits) read ≡ text_at progress held → limits.number ≤ progress.number
begun_later limits read held progress begins = omega (arith, begun_number limits read held progress begins)

-- what is held ends where what was read ends
pub held_total : (limits : Limits) (read held : List ℕ) (progress : Progress) → begun (first_of limits) read ≡ text_at progress held → progress.start + length held ≡ limits.place + length read
held_total limits read held progress begins =
    let e : (begun (first_of limits) read).start + length (begun (first_of limits) read).bytes ≡ limits.place + length read = omega (arith, begun-place (first_of limits) read) in
    ap (λ (text : RecordText). text.start + length text.bytes) (sym begins) ∙ e

-- a read put bytes after what is held
record Joins (limits : Limits) (read given held joined : List ℕ) (progress : Progress) (searched : ℕ) : Type 0 where
  begins : begun (first_of limits) read ≡ text_at progress held
  follows : joined ≡ held ++ given
  all : searched ≡ length held

-- what is said of the joined bytes is so of what was read and then given
module _ {limits : Limits} {read given held joined : List ℕ} {progress : Progress} {searched : ℕ} (joins : Joins limits read given held joined progress searched) where
  -- a fact on what is held is one on what is begun and what was given
  as_begun : (P : RecordText → List ℕ → Type 0) → P (text_at progress (take searched joined)) (drop searched joined) → P (begun (first_of limits) read) given
  as_begun P h =
      let front : take searched joined ≡ held = ap (take searched) joins.follows ∙ ap (λ n. take n (held ++ given)) joins.all ∙ take-append_seam held given in
      let back : drop searched joined ≡ given = ap (drop searched) joins.follows ∙ ap (λ n. drop n (held ++ given)) joins.all ∙ drop-append_seam held given in
      let first : text_at progress (take searched joined) ≡ begun (first_of limits) read = ap (text_at progress) front ∙ sym joins.begins in
      subst (λ text. P text given) first (subst (P (text_at progress (take searched joined))) back h)

  finished_joined : finished_in progress joined searched ≡ finished (begun (first_of limits) read) given
  finished_joined = as_begun (λ text more. finished_in progress joined searched ≡ finished text more) refl

  begun_joined : begun_in progress joined searched ≡ begun (first_of limits) (read ++ given)
  begun_joined = as_begun (λ text more. begun_in progress joined searched ≡ begun text more) refl ∙ sym (begun-append (first_of limits) read given)

  cut_joined : finished (first_of limits) read ++ cut_in progress joined searched ≡ cut (first_of limits) (read ++ given)
  cut_joined =
      ap (λ l. finished (first_of limits) read ++ l) (as_begun (λ text more. cut_in progress joined searched ≡ cut text more) refl)
      ∙ sym (cut-append (first_of limits) read given)

  records_joined : finished_from limits read ++ records_in progress joined searched ≡ finished_from limits (read ++ given)
  records_joined = ap (λ l. finished_from limits read ++ records_among l) finished_joined ∙ sym (finished_among-append (first_of limits) read given)

  total_joined : progress.start + length joined ≡ limits.place + length (read ++ given)
  total_joined = omega (arith, held_total limits read held progress joins.begins, length-append read given, ap length joins.follows, length-append held given)

  limits_joined : IsWithinLimits limits read → IsAllowed limits progress joined searched → IsWithinLimits limits (read ++ given)
  limits_joined within allowed = record {
    bytes = omega (arith, total_joined, allowed.bytes);
    texts = subst (All (IsSmall limits)) cut_joined (All-append (IsSmall limits) (finished (first_of limits) read) _ (All-left (IsSmall limits) (finished (first_of limits) read) _ within.texts) allowed.texts);
  }

  allowed_joined : IsWithinLimits limits (read ++ given) → IsAllowed limits progress joined searched
  allowed_joined within = record {
    bytes = omega (arith, total_joined, within.bytes);
    texts = All-right (IsSmall limits) (finished (first_of limits) read) _ (subst (All (IsSmall limits)) (sym cut_joined) within.texts);
  }

-- ---- bytes

-- nothing passes no limit
pub limits_none : (limits : Limits) → AreCountable limits → IsWithinLimits limits []
limits_none limits some = record { bytes = omega (arith, some.place); texts = All-cons (IsSmall limits) (first_of limits) [] (record { bytes = omega arith; number = some.some }) (All-nil (IsSmall limits)) }

pub bytes_none : (run : Run) → AreCountable run.limits → (ending : List RecordText → List ℕ) (input output : Option (List ℕ))
    → Transfers (ResultFits run.limits (printing_by run ending)) (record { input = input; left = input; before = output; after = output }) (Err Memory)
bytes_none run some ending input output = record {
  read = [];
  written = [];
  consumed = Consumes-nil input;
  appended = Appends-nil output;
  fits = (limits_none run.limits some, (all_output run ending [], refl));
}

-- the whole output ends with what is printed last
whole_last : (run : Run) (ending : List RecordText → List ℕ) (read : List ℕ)
    → all_output run ending read ≡ output_to run read ++ last_output (outputs_after run.output_of (finished_from run.limits read)) ending (finished_from run.limits read) (begun (first_of run.limits) read)
whole_last run ending read =
    ap (λ l. outputs_after run.output_of [] l ++ ending l) (records_among-last (first_of run.limits) read)
    ∙ ap (λ l. l ++ ending (finished_from run.limits read ++ if_record (begun (first_of run.limits) read)))
    (outputs_after-append run.output_of [] (finished_from run.limits read) (if_record (begun (first_of run.limits) read)))
    ∙ append_assoc (output_to run read) _ _

-- what begins the finished output and some of what is printed last begins the whole
begins_whole : (run : Run) (ending : List RecordText → List ℕ) (read front : List ℕ) → Begins front (output_to run read) → Begins front (all_output run ending read)
begins_whole run ending read front (rest, e) =
    let last = last_output (outputs_after run.output_of (finished_from run.limits read)) ending (finished_from run.limits read) (begun (first_of run.limits) read) in
    (rest ++ last, sym (append_assoc front rest last) ∙ ap (λ l. l ++ last) e ∙ sym (whole_last run ending read))

-- one more turn
pub next_turn : {R W : Type 0} (run : Run) (keeps keeps' : List RecordText → Type 0) (start : Ends R W) (old now : State R W) (joined : List ℕ) (given searched : ℕ)
    → Running run keeps start old
    → FillsWindow old.held joined old.ends.left now.ends.left given → searched ≡ length old.held
    → ((seen : List RecordText) → keeps seen
    → ConsumedRead run.limits (outputs_after run.output_of seen) run.refuses keeps keeps' old.progress now.progress joined searched now.held now.pending old.ends.written now.ends.written)
    → GrowsBy start.input now.ends.input (record { failures = 0; fills = now.turns; ends = 0; flushes = 0 })
    → GrowsBy old.ends.output now.ends.output (record { failures = 0; fills = 0; ends = 0; flushes = 0 })
    → Running run keeps' start now
next_turn run keeps keeps' start old now joined given searched so_far filled all treated reads writes = record {
  read = read ++ more;
  consumed = Consumes-trans start.left old.ends.left now.ends.left read more so_far.consumed filled.consumed;
  written = subst (Appends start.written now.ends.written) (sym (outputs_after-append run.output_of [] (finished_from run.limits read) _) ∙ ap (outputs_after run.output_of []) (records_joined joins))
      (Appends-trans start.written old.ends.written now.ends.written _ _ so_far.written taken.written);
  none = taken.none;
  within = limits_joined joins so_far.within taken.allowed;
  holds = subst keeps' (records_joined joins) (taken.counts.keeps (finished_from run.limits read) so_far.holds);
  refused =
      taken.counts.refused ∙ ap (λ n. n + count_by run.refuses (records_in old.progress joined searched)) so_far.refused
      ∙ sym (sum_by-append (λ text. cond (run.refuses text) 1 0) (finished_from run.limits read) _)
      ∙ ap (count_by run.refuses) (records_joined joins);
  fewer = taken.fewer;
  begins = sym (begun_joined joins) ∙ taken.begun;
  reads = reads;
  writes = record {
    failures = omega (arith, writes.failures, so_far.writes.failures);
    fills = omega (arith, writes.fills, so_far.writes.fills);
    ends = omega (arith, writes.ends, so_far.writes.ends);
    flushes = omega (arith, writes.flushes, so_far.writes.flushes);
  };
}
  where
    read : List ℕ
    read = so_far.read

    more : List ℕ
    more = filled.given

    joins : Joins run.limits read more old.held joined old.progress searched
    joins = record { begins = so_far.begins; follows = filled.follows; all = all }

    taken : ConsumedRead run.limits (outputs_after run.output_of (finished_from run.limits read)) run.refuses keeps keeps' old.progress now.progress joined searched now.held now.pending old.ends.written now.ends.written
    taken = treated (finished_from run.limits read) so_far.holds

-- a fault of a turn
pub take_up_bytes : {R W : Type 0} (run : Run) (ending : List RecordText → List ℕ) (keeps : List RecordText → Type 0) (start : Ends R W) (old : State R W)
    (left after : Option (List ℕ)) (joined : List ℕ) (given searched : ℕ) (fault : RunFault)
    → Running run keeps start old
    → FillsWindow old.held joined old.ends.left left given → searched ≡ length old.held
    → ((seen : List RecordText) → keeps seen → TakeUpFault run.limits (outputs_after run.output_of seen) old.progress joined searched old.ends.written after fault)
    → Transfers (ResultFits run.limits (printing_by run ending)) (bytes_from start left after) (Err fault)
take_up_bytes run ending keeps start old left after joined given searched fault so_far filled all fits = by_fault fault (fits (finished_from run.limits so_far.read) so_far.holds)
  where
    read : List ℕ
    read = so_far.read

    more : List ℕ
    more = filled.given

    joins : Joins run.limits read more old.held joined old.progress searched
    joins = record { begins = so_far.begins; follows = filled.follows; all = all }

    consumed : Consumes start.left left (read ++ more)
    consumed = Consumes-trans start.left old.ends.left left read more so_far.consumed filled.consumed

    -- some of what the turn prints, after what went out before it
    follows : (front : List ℕ) → Begins front (outputs_after run.output_of (finished_from run.limits read) (records_in old.progress joined searched)) → Begins (output_to run read ++ front) (all_output run ending (read ++ more))
    follows front (rest, e) = begins_whole run ending (read ++ more) _ (
      rest,
      append_assoc (output_to run read) front rest
          ∙ ap (λ l. output_to run read ++ l) e
          ∙ sym (outputs_after-append run.output_of [] (finished_from run.limits read) _)
          ∙ ap (outputs_after run.output_of []) (records_joined joins),
    )

    none : Begins [] (outputs_after run.output_of (finished_from run.limits read) (records_in old.progress joined searched))
    none = (_, refl)

    Begun : List ℕ → Type 0
    Begun written = IsWithinLimits run.limits (read ++ more) × Begins written (all_output run ending (read ++ more))

    some_out : (fault : RunFault) → ((written : List ℕ) → Begun written → ResultFits run.limits (printing_by run ending) (record { read = read ++ more; left = left; written = written }) (Err fault))
        → IsAllowed run.limits old.progress joined searched × SendsSome (outputs_after run.output_of (finished_from run.limits read) (records_in old.progress joined searched)) [] old.ends.written after → Transfers (ResultFits run.limits (printing_by run ending)) (bytes_from start left after) (Err fault)
    some_out fault fits f = record {
      read = read ++ more;
      written = output_to run read ++ f.1.written;
      consumed = consumed;
      appended = Appends-trans _ _ _ _ _ so_far.written f.1.appended;
      fits = fits (output_to run read ++ f.1.written) (limits_joined joins so_far.within f.0, follows f.1.written f.1.begins);
    }

    by_fault : (fault : RunFault) → TakeUpFault run.limits (outputs_after run.output_of (finished_from run.limits read)) old.progress joined searched old.ends.written after fault → Transfers (ResultFits run.limits (printing_by run ending)) (bytes_from start left after) (Err fault)
    by_fault Read f = absurd f
    by_fault Write f = some_out Write (λ written fits. fits) f
    by_fault Memory f = some_out Memory (λ written fits. fits) f
    by_fault TooLarge f = record {
      read = read ++ more;
      written = output_to run read ++ [];
      consumed = consumed;
      appended = Appends-trans _ _ _ _ _ so_far.written f.1;
      fits = (λ within. f.0 (allowed_joined joins within), follows [] none);
    }
    by_fault ReaderNeverEnds f = absurd f

-- ---- the end

pub filled_none : (held joined : List ℕ) (left left' : Option (List ℕ)) (given : ℕ) → given ≡ 0 → FillsWindow held joined left left' given → joined ≡ held
filled_none held joined left left' given none filled =
    filled.follows ∙ ap (λ l. held ++ l) (nil_from_length filled.given (filled.long ∙ none)) ∙ append-nil held

pub finish_bytes : {R W : Type 0} (run : Run) (ending : List RecordText → List ℕ) (keeps : List RecordText → Type 0) (start : Ends R W) (old : State R W)
    (left after : Option (List ℕ)) (joined shown : List ℕ) (given : ℕ) (result : Result Summary RunFault)
    → Running run keeps start old
    → given ≡ 0 → FillsWindow old.held joined old.ends.left left given → shown ≡ joined
    → ((seen : List RecordText) → keeps seen → old.progress.number ≡ run.limits.number + length seen → old.progress.refused ≡ count_by run.refuses seen
    → Finishes run.limits.number (last_output (outputs_after run.output_of seen) ending seen (text_at old.progress shown)) (run.refused (seen ++ if_record (text_at old.progress shown))) old.progress (text_at old.progress shown) old.ends.written after result)
    → Transfers (ResultFits run.limits (printing_by run ending)) (bytes_from start left after) result
finish_bytes run ending keeps start old left after joined shown given result so_far none filled is_shown fits =
    by_result result (subst (λ text. Finishes run.limits.number (last_output (outputs_after run.output_of seen) ending seen text) (run.refused (seen ++ if_record text)) old.progress text old.ends.written after result)
    is_last (fits seen so_far.holds (begun_number run.limits so_far.read old.held old.progress so_far.begins) so_far.refused))
  where
    read : List ℕ
    read = so_far.read

    seen : List RecordText
    seen = finished_from run.limits read

    last : RecordText
    last = begun (first_of run.limits) read

    is_last : text_at old.progress shown ≡ last
    is_last = ap (text_at old.progress) (is_shown ∙ filled_none old.held joined old.ends.left left given none filled) ∙ sym so_far.begins

    consumed : Consumes start.left left read
    consumed = subst (Consumes start.left left) (ap (λ l. read ++ l) (nil_from_length filled.given (filled.long ∙ none)) ∙ append-nil read) (Consumes-trans start.left old.ends.left left read filled.given so_far.consumed filled.consumed)

    output : List ℕ
    output = last_output (outputs_after run.output_of seen) ending seen last

    begins : (front : List ℕ) → Begins front output → Begins (output_to run read ++ front) (all_output run ending read)
    begins front (rest, e) = (rest, append_assoc (output_to run read) front rest ∙ ap (λ l. output_to run read ++ l) e ∙ sym (whole_last run ending read))

    whole : (summary : Summary) → Finished run.limits.number output (run.refused (seen ++ if_record last)) old.progress last old.ends.written after summary
        → OutputOf run.limits (printing_by run ending) read (output_to run read ++ output) summary
    whole summary f = record {
      within = so_far.within;
      whole = sym (whole_last run ending read);
      records =
          let number = begun_number run.limits read old.held old.progress so_far.begins in
          let more : length (seen ++ if_record last) ≡ length seen + length (if_record last) = length-append seen (if_record last) in
          let same : summary.records ≡ length (seen ++ if_record last) = omega (arith, f.records, number, more) in
          same ∙ ap length (sym (records_among-last (first_of run.limits) read));
      refused = f.refused_so ∙ ap run.refused (sym (records_among-last (first_of run.limits) read));
    }

    Begun : List ℕ → Type 0
    Begun written = IsWithinLimits run.limits read × Begins written (all_output run ending read)

    some_out : (fault : RunFault) → ((written : List ℕ) → Begun written → ResultFits run.limits (printing_by run ending) (record { read = read; left = left; written = written }) (Err fault))
        → SendsSome output [] old.ends.written after → Transfers (ResultFits run.limits (printing_by run ending)) (bytes_from start left after) (Err fault)
    some_out fault fits f = record {
      read = read;
      written = output_to run read ++ f.written;
      consumed = consumed;
      appended = Appends-trans _ _ _ _ _ so_far.written f.appended;
      fits = fits (output_to run read ++ f.written) (so_far.within, begins f.written f.begins);
    }

    by_result : (result : Result Summary RunFault) → Finishes run.limits.number output (run.refused (seen ++ if_record last)) old.progress last old.ends.written after result → Transfers (ResultFits run.limits (printing_by run ending)) (bytes_from start left after) result
    by_result (Ok summary) f = record {
      read = read;
      written = output_to run read ++ output;
      consumed = consumed;
      appended = Appends-trans _ _ _ _ _ so_far.written f.written;
      fits = (filled.ended none, whole summary f);
    }
    by_result (Err Read) f = absurd f.0
    by_result (Err Write) f = some_out Write (λ written fits. fits) f.1
    by_result (Err Memory) f = some_out Memory (λ written fits. fits) f.1
    by_result (Err TooLarge) f = absurd f.0
    by_result (Err ReaderNeverEnds) f = absurd f.0
