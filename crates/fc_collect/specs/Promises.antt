-- What a run promises of its counts and of its bytes.
use Rattle.std.specs.{Io.KnownBytes.{Appends, Consumes, IsAtEnd}, Prelude.{◌++◌, ◌+◌, ◌≡◌, ◌≤◌}}
use Rattle.std.specs.Prelude.{All, Err, length, List, Ok, OnOk, Option, Result, true, ℕ}
use Rattle.{fc_card.specs.Types.{Text}, fc_record.specs.RecordTexts.{RecordText}}
use Rattle.fc_collect.specs.Limits.{most_record_bytes}
use Rattle.fc_collect.specs.Records.{cut, finished_from, first_of, records_from}
use Rattle.fc_collect.specs.Streams.{CallCounts, GrowsBy, is_flushed, StreamBytes}
use Rattle.fc_collect.specs.declared.streams.{counted.Counted.{Counted}, faults.RunFault.{RunFault}}
use Rattle.fc_collect.specs.declared.streams.faults.RunFault.TheVariants.{Read, ReaderNeverEnds}
use Rattle.fc_collect.specs.declared.streams.faults.RunFault.TheVariants.{TooLarge, Write}
use Rattle.fc_collect.specs.declared.streams.{faults.Summary.{Summary}, limits.Limits.{Limits}}

-- -------- What a run reads to its end, and which records. From: this project's profile.

-- a record, or what comes before the first header, has no byte too many, and is not one record too many
pub record IsSmall (limits : Limits) (text : RecordText) : Type 0 where
  pub bytes : length text.bytes ≤ most_record_bytes
  pub number : text.number ≤ limits.records

-- what a run reads passes no limit of size
-- said again: pieces_are_placed.within
pub record IsWithinLimits (limits : Limits) (read : Text) : Type 0 where
  pub bytes : limits.place + length read ≤ limits.bytes
  pub texts : All (IsSmall limits) (cut (first_of limits) read)

-- -------- What writes promise of the bytes that go out: a whole text, or some front of it where a write fails. From: this project's profile.

-- what they add to its failures at a fault
abbrev pub fault_failures : RunFault → ℕ
fault_failures Write = 1
fault_failures fault = 0

-- what writes and a flush at their end add to the counts of their output
abbrev pub flushed_counts : {A : Type 0} → Result A RunFault → CallCounts
flushed_counts (Ok _) = record { failures = 0; fills = 0; ends = 0; flushes = 1 }
flushed_counts (Err fault) = record { failures = fault_failures fault; fills = 0; ends = 0; flushes = 0 }

-- where they succeeded, the output was flushed once, after its last write
pub record WritesAsCounted {W A : Type 0} (old new : Counted W) (result : Result A RunFault) : Type 0 where
  pub grows : GrowsBy old new (flushed_counts result)
  pub flushed : OnOk result (is_flushed new ≡ true)

-- the text begins with these bytes
abbrev pub Begins : Text → Text → Type 0
Begins front text = (rest : Text) × (front ++ rest ≡ text)

-- the whole text was written, or some front of it where a write failed, and there is no other fault
abbrev pub WritingFits : {A : Type 0} → Text → Text → Result A RunFault → Type 0
WritingFits text written (Ok _) = written ≡ text
WritingFits text written (Err Write) = Begins written text
WritingFits text written (Err fault) = ⊥

-- some bytes were written
pub record WritesText {A : Type 0} (text : Text) (before after : Option Text) (result : Result A RunFault) : Type 0 where
  pub written : Text
  pub appended : Appends before after written
  pub fits : WritingFits text written result

-- -------- What a run over the records of a collection promises of its counts and of its bytes, by its result, within these limits. From: this project's profile.

-- ---- counts

-- what the result says of what a run added to the counts of its input: it succeeds where the input gave its end once
abbrev pub ResultCounts : {A : Type 0} → Limits → Result A RunFault → CallCounts → Type 0
ResultCounts limits (Ok _) counts = (counts.failures ≡ 0) × (counts.ends ≡ 1)
ResultCounts limits (Err Read) counts = (counts.failures ≡ 1) × (counts.ends ≡ 0)
ResultCounts limits (Err TooLarge) counts = (counts.failures ≡ 0) × (counts.ends ≡ 0)
ResultCounts limits (Err ReaderNeverEnds) counts = (counts.failures ≡ 0) × (counts.fills ≡ limits.reads) × (counts.ends ≡ 0)
ResultCounts limits (Err fault) counts = counts.failures ≡ 0

-- the input's counts grow as the result says, by no more reads than a run makes
pub record ReadsAsCounted {R A : Type 0} (limits : Limits) (old new : Counted R) (result : Result A RunFault) : Type 0 where
  pub counts : CallCounts
  pub grows : GrowsBy old new counts
  pub few : counts.failures + counts.fills + counts.ends ≤ limits.reads
  pub fits : ResultCounts limits result counts

-- ---- bytes

-- what a run transferred: the bytes that went in, those that its input has left, and the bytes that went out
pub record Transfer : Type 0 where
  pub read : Text
  pub left : Option Text
  pub written : Text

-- what is printed for records as they come, and at the end for all of them; and how many count as refused
pub record Printing : Type 0 where
  pub output : List RecordText → Text
  pub ending : List RecordText → Text
  pub refused : List RecordText → ℕ

-- all that is printed for the records of these bytes
abbrev pub whole_of : Limits → Printing → (read : Text) → Text
whole_of limits printing read = printing.output (records_from limits read) ++ printing.ending (records_from limits read)

-- what was read passes no limit, all that is printed for its records was written, and they were counted
pub record OutputOf (limits : Limits) (printing : Printing) (read written : Text) (summary : Summary) : Type 0 where
  pub within : IsWithinLimits limits read
  pub whole : written ≡ whole_of limits printing read
  pub records : summary.records ≡ length (records_from limits read)
  pub refused : summary.refused ≡ printing.refused (records_from limits read)

-- how each result goes with what was transferred. A run that stops in reading has written what is printed for the records that a header ends; at another fault the output may end anywhere
abbrev pub ResultFits : Limits → Printing → Transfer → Result Summary RunFault → Type 0
ResultFits limits printing bytes (Ok summary) = IsAtEnd bytes.left × OutputOf limits printing bytes.read bytes.written summary
ResultFits limits printing bytes (Err Read) = IsWithinLimits limits bytes.read × (bytes.written ≡ printing.output (finished_from limits bytes.read))
ResultFits limits printing bytes (Err ReaderNeverEnds) = IsWithinLimits limits bytes.read × (bytes.written ≡ printing.output (finished_from limits bytes.read))
ResultFits limits printing bytes (Err TooLarge) = (¬ IsWithinLimits limits bytes.read) × Begins bytes.written (whole_of limits printing bytes.read)
ResultFits limits printing bytes (Err fault) = IsWithinLimits limits bytes.read × Begins bytes.written (whole_of limits printing bytes.read)

-- some bytes went in and some went out, and they fit the result
pub record Transfers (Fits : Transfer → Result Summary RunFault → Type 0) (streams : StreamBytes) (result : Result Summary RunFault) : Type 0 where
  pub read : Text
  pub written : Text
  pub consumed : Consumes streams.input streams.left read
  pub appended : Appends streams.before streams.after written
  pub fits : Fits (record { read = read; left = streams.left; written = written }) result
