-- Collections in parts.
use Rattle.std.specs.List.{flat_map}
use Rattle.std.specs.Prelude.{◌++◌, ◌+◌, ◌∷◌, ◌≡◌, [], if◌then◌else◌, List, true, ℕ}
use Rattle.{fc_card.specs.Types.{Text}, fc_text.specs.Lines.{lines_from, Piece}}
use Rattle.fc_record.specs.{Grammar.{begins_with}, RecordTexts.{ends_line, header_mark, RecordText}}
use Rattle.fc_collect.specs.Records.{limits_after, records_from}
use Rattle.fc_collect.specs.declared.streams.limits.Limits.{Limits}

-- -------- The lines of a collection that begin with `@`, and the numbers and places of records after other records. From: this project's profile.

-- where a line begins that is a header
abbrev pub header_start : Piece → Text
header_start line = if begins_with header_mark line.bytes then line.start ∷ [] else []

-- where the headers of a collection begin: its lines whose first byte is `@`
abbrev pub header_starts : Text → Text
header_starts collection = flat_map header_start (lines_from 0 collection)

-- the text, numbered and placed as after so many records and bytes
abbrev pub placed_after : ℕ → ℕ → RecordText → RecordText
placed_after records bytes text = record { number = records + text.number; start = bytes + text.start; bytes = text.bytes }

-- -------- A collection that is read piece by piece. From: this project's profile.

-- a piece begins with a header, and its last line has ended
pub record IsPiece (piece : Text) : Type 0 where
  pub rest : Text
  pub begins : piece ≡ header_mark ∷ rest
  pub ended : ends_line piece ≡ true

-- what is printed for pieces one after another, each within limits that say at which number and place it begins
abbrev pub outputs_of_pieces : (RecordText → Text) → Limits → List Text → Text
outputs_of_pieces output_of limits [] = []
outputs_of_pieces output_of limits (piece ∷ rest) = flat_map output_of (records_from limits piece) ++ outputs_of_pieces output_of (limits_after limits piece) rest
