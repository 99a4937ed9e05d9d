-- What the stages of an import promise one another.
use Rattle.std.specs.{Io.KnownBytes.{Appends, Consumes, IsAtEnd}, Prelude.{◌++◌, ◌+◌, ◌<◌, ◌||◌}}
use Rattle.std.specs.Prelude.{◌↔◌, ◌≡◌, ◌≢◌, ◌≤◌, [], ⊤, Bool, drop, Err, false, if◌then◌else◌}
use Rattle.std.specs.Prelude.{length, List, map, Ok, Option, Result, take, true, ℕ}
use Rattle.{fc_board.specs.declared.rule.Variant.{Variant}, fc_card.specs.Types.{Card, Pile, Text}}
use Rattle.fc_board.specs.{Boards.{Board}, Games.{Game}, Moves.{MoveList, OneCard, Runs}}
use Rattle.fc_record.specs.RecordTexts.{ends_line}
use Rattle.fc_collect.specs.{Limits.{most_bytes}, Promises.{Begins}, Streams.{CallCounts}}
use Rattle.fc_collect.specs.declared.streams.faults.RunFault.{RunFault, TheVariants.{Memory, Read}}
use Rattle.fc_collect.specs.declared.streams.faults.RunFault.TheVariants.{ReaderNeverEnds, TooLarge}
use Rattle.fc_collect.specs.declared.streams.faults.RunFault.TheVariants.{Write}
use Rattle.fc_collect.specs.declared.streams.faults.Summary.{Summary}
use Rattle.fc_import.specs.Import.{BoardNeedsNoNote, Imported, IsNoBoard, IsPrinted, Makes, Reading}
use Rattle.fc_import.specs.Notes.{after_heading, IsNote, Place, SaysUnless, State}
use Rattle.fc_import.specs.{Scan.{IsProse, IsQuiet}, Words.{ended, is_between}}
use Rattle.fc_import.specs.declared.made.Form.{Form}
use Rattle.fc_import.specs.declared.made.Form.TheVariants.{OneCard as InOneCard, Runs as InRuns}
use Rattle.fc_import.specs.declared.{made.Made.{Made}, options.ImportOptions.{ImportOptions}}
use Rattle.fc_import.specs.declared.quiet.Aside.{Aside, TheVariants.{NoBoard, Prose, Quiet}}
use Rattle.fc_import.specs.declared.walk.Walk.{Walk}

-- -------- Signs that are read as they are.

-- a byte of ASCII that ends no line, or a line feed
abbrev pub is_alone : ℕ → Bool
is_alone byte = is_between 0 10 byte || is_between 14 127 byte

-- -------- Cards of a line, a column or a row.

-- with an end after them, if they are to have one
abbrev pub part : (is_ended : Bool) → List Card → List ℕ
part is_ended cards = if is_ended then ended cards else cards

-- a line of which no board and no list is made is this
abbrev pub IsAside : Aside → Game → (line : Text) → Type 0
IsAside Quiet game line = IsQuiet game line
IsAside Prose game line = IsProse game line
IsAside NoBoard game line = IsNoBoard game line

-- -------- Boards of the laws.

-- a board of these columns alone
abbrev pub of_columns : List Pile → Board
of_columns columns = record { heights = []; cells = []; columns = columns }

-- -------- What taking one piece of a text adds.

abbrev pub place_of : Walk → Place
place_of walk = record { name = walk.name.items; header = walk.header; line = walk.line }

abbrev pub state_of : {R : Type 0} → Made R → State
state_of made = record { options = made.options; last = made.last; begun = made.begun; goes_on = made.goes_on; other_game = made.other_game; place = place_of made.walk; named = made.named; tally = made.tally }

-- this was made of the text
abbrev pub IsMade : {R : Type 0} → Variant → ImportOptions → Game → Text → Made R → Type 0
IsMade variant options game text made = Imported variant options game text (state_of made) made.written.items made.notes.items

-- the piece is read as what was written and said more
abbrev pub Takes : {R : Type 0} → Variant → Game → (piece : Text) → (old new : Made R) → Type 0
Takes variant game piece old new =
    (more : Text) × (says : Text) × Reading variant game (state_of old) piece (state_of new) more says
    × (new.written.items ≡ old.written.items ++ more) × (new.notes.items ≡ old.notes.items ++ says)

-- what is to be said of a board that the lines are read as is said, and nothing written
pub record Says {R : Type 0} (game : Game) (piece : Text) (board : Board) (old new : Made R) : Type 0 where
  pub said : Text
  pub notes : new.notes.items ≡ old.notes.items ++ said
  pub is : SaysUnless (BoardNeedsNoNote old.options.noted game piece board) (place_of old.walk) piece said
  pub state : state_of new ≡ state_of old
  pub written : new.written.items ≡ old.written.items

-- the name of a header is taken, and nothing written or said
pub record TakesName {R : Type 0} (variant : Variant) (line : Text) (old new : Made R) : Type 0 where
  pub state : state_of new ≡ after_heading variant (state_of old) line
  pub written : new.written.items ≡ old.written.items
  pub notes : new.notes.items ≡ old.notes.items

-- so many bytes are whole lines at the front of the text
pub record AreWhole (text : Text) (len : ℕ) : Type 0 where
  pub some : 0 < len
  pub within : len ≤ length text
  pub whole : len < length text → ends_line (take len text) ≡ true

-- the bytes are taken after all that was taken before
abbrev pub GoesOn : {R : Type 0} → Variant → Game → (bytes : Text) → (old new : Made R) → Type 0
GoesOn variant game bytes old new =
    (options : ImportOptions) (before : Text) → ends_line before ≡ true → IsMade variant options game before old → IsMade variant options game (before ++ bytes) new

-- so many bytes at the front of the text are taken, which are whole lines
pub record TakesFirst {R : Type 0} (variant : Variant) (game : Game) (text : Text) (len : ℕ) (old new : Made R) : Type 0 where
  pub lines : AreWhole text len
  pub takes : GoesOn variant game (take len text) old new

-- they are written as they are, in silence
pub record TakesAsItIs {R : Type 0} (variant : Variant) (game : Game) (text : Text) (len : ℕ) (old new : Made R) : Type 0 where
  pub takes : TakesFirst variant game text len old new
  pub written : new.written.items ≡ old.written.items ++ take len text
  pub notes : new.notes.items ≡ old.notes.items

-- and the text goes on as fcanon prints it
pub record KeepsFirst {R : Type 0} (variant : Variant) (game : Game) (text : Text) (len : ℕ) (old new : Made R) : Type 0 where
  pub written : new.written.items ≡ old.written.items ++ take len text
  pub notes : new.notes.items ≡ old.notes.items
  pub goes_on : IsPrinted variant game new.last (drop len text)

-- the form of a list
abbrev pub form_of : MoveList → Form
form_of (OneCard moves) = InOneCard
form_of (Runs moves) = InRuns

-- one note more was put
abbrev pub PutsNote : Place → (piece old new : Text) → Type 0
PutsNote place piece old new = (said : Text) × IsNote place piece said × (new ≡ old ++ said)

-- -------- What the stages of a run promise: reading, and writing what was made.

-- what one read adds to the counts
abbrev pub more_counts : Result Bool RunFault → CallCounts
more_counts (Ok false) = record { failures = 0; fills = 0; ends = 1; flushes = 0 }
more_counts (Err Read) = record { failures = 1; fills = 0; ends = 0; flushes = 0 }
more_counts result = record { failures = 0; fills = 1; ends = 0; flushes = 0 }

-- how what one read gave goes with its result: it was put after these bytes, or it was the end, or it was not taken
abbrev pub MoreFits : (given old new : Text) → (left : Option Text) → Result Bool RunFault → Type 0
MoreFits given old new left (Ok true) = (new ≡ old ++ given) × (length new ≤ most_bytes)
MoreFits given old new left (Ok false) = (given ≡ []) × (new ≡ old) × IsAtEnd left
MoreFits given old new left (Err TooLarge) = most_bytes < length old + length given
MoreFits given old new left (Err Write) = ⊥
MoreFits given old new left (Err ReaderNeverEnds) = ⊥
MoreFits given old new left (Err fault) = length old + length given ≤ most_bytes

pub record ReadsMore (input left : Option Text) (old new : Text) (result : Result Bool RunFault) : Type 0 where
  pub given : Text
  pub consumed : Consumes input left given
  pub fits : MoreFits given old new left result

-- how what was read goes with how reading ended: these bytes are all of it, or there was a fault
abbrev pub ReadingFits : (read bytes : Text) → (left : Option Text) → Result ⊤ RunFault → Type 0
ReadingFits read bytes left (Ok _) = (bytes ≡ read) × (length read ≤ most_bytes) × IsAtEnd left
ReadingFits read bytes left (Err fault) = (fault ≢ Write) × ((fault ≡ TooLarge) ↔ (most_bytes < length read))

pub record ReadsToEnd (input left : Option Text) (bytes : Text) (result : Result ⊤ RunFault) : Type 0 where
  pub read : Text
  pub consumed : Consumes input left read
  pub fits : ReadingFits read bytes left result

-- how what was written and said of these bytes goes with the result, once they were read: what was made of them or, where a write failed, a beginning of it; else nothing, as there was no memory
abbrev pub MadeFits : Variant → ImportOptions → (bytes written said : Text) → Result Summary RunFault → Type 0
MadeFits variant options bytes written said (Ok summary) = Makes variant options bytes written said summary
MadeFits variant options bytes written said (Err Write) = (made : Text) × (summary : Summary) × Makes variant options bytes made said summary × Begins written made
MadeFits variant options bytes written said (Err Memory) = (written ≡ []) × (said ≡ [])
MadeFits variant options bytes written said (Err fault) = ⊥

-- what was made of these bytes went out
pub record WritesMade (variant : Variant) (options : ImportOptions) (bytes : Text) (before after : Option Text) (said : Text) (result : Result Summary RunFault) : Type 0 where
  pub written : Text
  pub appended : Appends before after written
  pub fits : MadeFits variant options bytes written said result

-- the bytes, with a question mark for each that does not print
abbrev pub printing : Text → Text
printing words = map (λ byte. if is_between 0x20 0x7E byte then byte else 0x3F) words
