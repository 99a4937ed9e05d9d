-- What a counting reader or writer shows, the stream inside it, four counts and whether it is flushed, and what calls make of these; and streams before and after.
use Rattle.std.specs.Prelude.{◌+◌, ◌-◌, ◌<◌, ◌==◌, ◌^◌, ◌∷◌, ◌≡◌, [], Bool, Err, false}
use Rattle.std.specs.Prelude.{if◌then◌else◌, List, min, Ok, Option, Result, ℕ}
use Rattle.{fc_card.specs.Types.{Text}, fc_collect.specs.declared.streams.counted.Counted.{Counted}}

abbrev pub inner_of : {T : Type 0} → Counted T → T
inner_of counted = counted.inner

-- how many calls failed, gave bytes, gave the end and flushed
pub record CallCounts : Type 0 where
  pub failures : ℕ
  pub fills : ℕ
  pub ends : ℕ
  pub flushes : ℕ

abbrev pub counts_of : {T : Type 0} → Counted T → CallCounts
counts_of counted = record { failures = counted.failures; fills = counted.fills; ends = counted.ends; flushes = counted.flushes }

-- no write was called after the last flush that succeeded
abbrev pub is_flushed : {T : Type 0} → Counted T → Bool
is_flushed counted = counted.is_flushed

-- one more where a test holds, and at most the greatest u64
abbrev pub one_more_if : Bool → ℕ → ℕ
one_more_if test count = if test then min (count + 1) (2 ^ 64 - 1) else count

-- how many bytes a call moved, none where it failed
abbrev pub moved_by : {E : Type 0} → Result ℕ E → ℕ
moved_by (Ok moved) = moved
moved_by (Err _) = 0

-- a call moves no byte of a slice that has some
abbrev pub moves_none : ℕ → List ℕ → Bool
moves_none moved [] = false
moves_none moved (_ ∷ _) = moved == 0

-- the counts grow by these
pub record GrowsBy {T : Type 0} (old new : Counted T) (counts : CallCounts) : Type 0 where
  pub failures : (counts_of new).failures ≡ (counts_of old).failures + counts.failures
  pub fills : (counts_of new).fills ≡ (counts_of old).fills + counts.fills
  pub ends : (counts_of new).ends ≡ (counts_of old).ends + counts.ends
  pub flushes : (counts_of new).flushes ≡ (counts_of old).flushes + counts.flushes

-- the counts are so low that no run comes near their greatest value
pub record HasRoom {T : Type 0} (counted : Counted T) : Type 0 where
  pub failures : (counts_of counted).failures < 2 ^ 63
  pub fills : (counts_of counted).fills < 2 ^ 63
  pub ends : (counts_of counted).ends < 2 ^ 63
  pub flushes : (counts_of counted).flushes < 2 ^ 63

-- a stream before and after, and the bytes that its inside tells of: those that an input has left, or those that an output holds
pub record Stream (T : Type 0) : Type 0 where
  pub bytes : T → Option Text
  pub old : Counted T
  pub new : Counted T

abbrev pub stream : {T : Type 0} → (T → Option Text) → Counted T → Counted T → Stream T
stream bytes old new = record { bytes = bytes; old = old; new = new }

-- the bytes that the input had and those that it has left, those that the output held and those that it holds
pub record StreamBytes : Type 0 where
  pub input : Option Text
  pub left : Option Text
  pub before : Option Text
  pub after : Option Text

abbrev pub bytes_of : {R W : Type 0} → Stream R → Stream W → StreamBytes
bytes_of input output = record {
  input = input.bytes (inner_of input.old);
  left = input.bytes (inner_of input.new);
  before = output.bytes (inner_of output.old);
  after = output.bytes (inner_of output.new);
}
