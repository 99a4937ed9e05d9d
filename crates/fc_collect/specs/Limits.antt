-- What a run is given, and the words for its faults.
use Rattle.std.specs.{declared.hash.FoldHasher.{FoldHasher}, Hash.FoldHasher.{initial, write}}
use Rattle.std.specs.{Hash.{u64}, List.{fold}, Prelude.{◌^◌, ◌≤◌, codes, ℕ}}
use Rattle.fc_card.specs.Types.{Text}
use Rattle.fc_collect.specs.declared.streams.faults.RunFault.{RunFault, TheVariants.{Read}}
use Rattle.fc_collect.specs.declared.streams.faults.RunFault.TheVariants.{ReaderNeverEnds, TooLarge}
use Rattle.fc_collect.specs.declared.streams.faults.RunFault.TheVariants.{Write}
use Rattle.fc_collect.specs.declared.streams.limits.{KeyHasher.{KeyHasher}, Limits.{Limits}}
use Rattle.fc_collect.specs.declared.streams.faults.RunFault.TheVariants as run

-- ======== How large a collection may be that a run reads to its end. From: this project's profile.

-- the most records of a collection
abbrev pub most_records : ℕ
most_records = 65536

-- the most bytes of a collection
abbrev pub most_bytes : ℕ
most_bytes = 16777216

-- the most reads of a run, the one that finds the end included
abbrev pub most_reads : ℕ
most_reads = 1048576

-- the most bytes of a record, and of what comes before the first header
abbrev pub most_record_bytes : ℕ
most_record_bytes = 65536

-- the limits of a run that is given no others
-- said again: limits_are_numbers
abbrev pub standard : Limits
standard = record { number = 1; place = 0; records = most_records; bytes = most_bytes; reads = most_reads }

-- the greatest number that a run counts up to, of any kind
abbrev pub most_countable : ℕ
most_countable = 2 ^ 60

-- the largest limits of a whole collection
abbrev pub largest : Limits
largest = record { number = 1; place = 0; records = most_countable; bytes = most_countable; reads = most_countable }

-- limits that a run can count up to, with which it takes a record at least
pub record AreCountable (limits : Limits) : Type 0 where
  pub one : 1 ≤ limits.number
  pub some : limits.number ≤ limits.records
  pub place : limits.place ≤ limits.bytes
  pub records : limits.records ≤ most_countable
  pub bytes : limits.bytes ≤ most_countable
  pub reads : limits.reads ≤ most_countable

-- ======== What the hashes of a run's keys begin with.

-- the state that each hash of a key begins with
abbrev pub begun_of : KeyHasher → FoldHasher
begun_of hasher = hasher.begun

-- std's first state, to which a seed was written
abbrev pub begun_with : ℕ → FoldHasher
begun_with seed = fold write initial (u64 seed)

-- ======== The words for the faults of a run. From: this project's profile.

-- the words for why a run gave up
abbrev pub fault_words : RunFault → Text
fault_words run.Read = codes "read fault"
fault_words run.Write = codes "write fault"
fault_words run.Memory = codes "out of memory"
fault_words run.TooLarge = codes "input too large"
fault_words run.ReaderNeverEnds = codes "reader never ends"
