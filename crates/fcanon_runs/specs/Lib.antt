-- The numbers by which C knows games, tasks and formats, and what a run over memory hands over.
use Rattle.std.specs.Prelude.{◌++◌, ◌<◌, ◌==◌, ◌∷◌, ◌≡◌, ◌≤◌, ◌⊎◌, [], drop, if◌then◌else◌, length}
use Rattle.std.specs.Prelude.{slice_index_or, ℕ}
use Rattle.{fc_board.specs.Games.{variant_at}, fc_card.specs.Types.{Text}}
use Rattle.{fc_board.specs.declared.rule.Variant.{Variant}, fc_import.specs.Import.{Makes}}
use Rattle.fc_collect.specs.Limits.{largest, most_bytes, standard}
use Rattle.fc_collect.specs.{Promises.{Begins, IsWithinLimits}, Runs.{count_format}}
use Rattle.fc_collect.specs.declared.{
  commands.{Format.{Format, TheVariants.{Header, Json, Lines}}, RunKind.{RunKind}},
  commands.RunKind.TheVariants.{Canon, Check, Closed, Count, Expand, Group, Same, Share, Show},
  commands.RunKind.TheVariants.{Symmetries, Table, Unique},
  streams.faults.RunFault.{RunFault, TheVariants.{Memory, Read, ReaderNeverEnds, TooLarge, Write}},
  streams.{faults.Summary.{Summary}, limits.Limits.{Limits}},
}
use Rattle.fc_import.specs.declared.options.LinesAre.{LinesAre, TheVariants.{Columns, Rows, Unsaid}}
use Rattle.fc_import.specs.declared.options.Noted.TheVariants.{Doubts}
use Rattle.fcanon_runs.specs.declared.import.{Imported.{Imported}, ImportRequest.{ImportRequest}}
use Rattle.fcanon_runs.specs.declared.output.Written.{Written}

-- ======== The numbers by which C knows games, tasks, formats and faults. From: this project's profile.

-- 0 is lines, 1 a table with a header, and 2 JSON
abbrev pub format_at : ℕ → Format
format_at number = slice_index_or (Lines ∷ Header ∷ Json ∷ []) number Lines

-- 0 is `show`, 1 `canon`, and so on in this order; of these `table`, `count` and `closed` have a format
abbrev pub kind_at : (task format : ℕ) → RunKind
kind_at task format =
    slice_index_or (Show ∷ Canon ∷ Check ∷ Group ∷ Share ∷ Expand ∷ Unique ∷ Table (format_at format) ∷ Same ∷ Symmetries ∷ Count (count_format (format_at format)) ∷ Closed (count_format (format_at format)) ∷ []) task Show

-- 1 is columns, 2 rows, and with any other number it is not said
abbrev pub lines_at : ℕ → LinesAre
lines_at number = slice_index_or (Unsaid ∷ Columns ∷ Rows ∷ []) number Unsaid

-- a run that is not to take any size takes what one does that is given no limits
abbrev pub limits_at : ℕ → Limits
limits_at any_size = if any_size == 0 then standard else largest

-- 12 for want of memory, 13 for too large an input, and 14 for an input that was not read to its end
abbrev pub fault_answer : RunFault → ℕ
fault_answer Memory = 12
fault_answer Write = 12
fault_answer TooLarge = 13
fault_answer Read = 14
fault_answer ReaderNeverEnds = 14

-- ======== What a run over memory hands over. From: this project's profile.

-- the counts without the length
abbrev pub counted : Written → Summary
counted written = record { records = written.records; refused = written.refused }

-- the output begins with a text as is asked for, and is as it was after it
pub record HandsOver (IsOutput : Text → Summary → Type 0) (before after : Text) (written : Written) : Type 0 where
  pub text : Text
  pub is_output : IsOutput text (counted written)
  pub long : length text ≡ written.length
  pub front : after ≡ text ++ drop written.length before

-- a text as is asked for has the length that is written, and is longer than the output
pub record NeedsRoom (IsOutput : Text → Summary → Type 0) (before : Text) (written : Written) : Type 0 where
  pub text : Text
  pub is_output : IsOutput text (counted written)
  pub long : length text ≡ written.length
  pub longer : length before < written.length

-- an input that is refused as too large has a beginning that no run takes within these limits
abbrev pub FaultOf : Limits → Text → ℕ → Type 0
FaultOf limits input answer = answer ≡ 13 → (front : Text) × Begins front input × (¬ IsWithinLimits limits front)

-- ======== What an import of memory hands over. From: this project's profile.

-- this text is made of the input, whose lines of cards are said to be these, and this is said of it
pub record ImportOf (variant : Variant) (lines : LinesAre) (input text said : Text) (summary : Summary) : Type 0 where
  pub few : length input ≤ most_bytes
  pub makes : Makes variant (record { lines_are = lines; noted = Doubts }) input text said summary

-- what a request asks for is made of the input, and is as long as is written
pub record IsImported (request : ImportRequest) (input text said : Text) (imported : Imported) : Type 0 where
  pub is_import : ImportOf (variant_at request.game) (lines_at request.lines) input text said
      (counted imported.written)
  pub long : length text ≡ imported.written.length
  pub said_long : length said ≡ imported.noted

-- the output begins with what is made of the input, and the notes with what is said of it; both are as they were after that
pub record HandsOverImport (request : ImportRequest) (input before after notes_before notes_after : Text) (imported : Imported) : Type 0 where
  pub text : Text
  pub said : Text
  pub is_imported : IsImported request input text said imported
  pub front : after ≡ text ++ drop imported.written.length before
  pub said_front : notes_after ≡ said ++ drop imported.noted notes_before

-- what is made of the input, or what is said of it, is longer than its place
pub record NeedsRoomForImport (request : ImportRequest) (input before notes_before : Text) (imported : Imported) : Type 0 where
  pub text : Text
  pub said : Text
  pub is_imported : IsImported request input text said imported
  pub longer : (length before < imported.written.length) ⊎ (length notes_before < imported.noted)

-- an input that is refused as too large has more bytes than an import takes
abbrev pub ImportFaultOf : Text → Type 0
ImportFaultOf input = most_bytes < length input
