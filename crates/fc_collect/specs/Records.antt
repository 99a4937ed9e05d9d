-- The records of a collection, and what is printed for all of them.
use Rattle.std.specs.{List.{flat_map, list_any}, Prelude.{◌&&◌, ◌++◌, ◌+◌, ◌==◌, ◌∷◌, [], Bool}}
use Rattle.std.specs.Prelude.{if◌then◌else◌, length, List, not, ℕ}
use Rattle.{fc_card.specs.Types.{Text}, fc_collect.specs.declared.streams.limits.Limits.{Limits}}
use Rattle.fc_text.specs.{Lines.{lines_from}, Rows.{is_empty, line_of}}
use Rattle.fc_record.specs.RecordTexts.{ends_line, header_mark, RecordText}

-- -------- The records of a collection: a line that begins with `@` begins a new one, and what comes before the first such line is a record too if a line of it is neither blank nor a comment. Each record with its number and its place. From: this project's profile.

-- a line of these bytes is neither blank nor a comment
abbrev pub has_content : Text → Bool
has_content bytes = list_any (λ line. not (is_empty (line_of line))) (lines_from 0 bytes)

-- ---- cut byte by byte

-- this byte after the text begins a header
abbrev pub begins_header : RecordText → ℕ → Bool
begins_header text byte = ends_line text.bytes && byte == header_mark

-- the number of what follows: lines that hold nothing take none
abbrev pub next_number : RecordText → ℕ
next_number text = if has_content text.bytes then text.number + 1 else text.number

-- the text that a header begins after this one
abbrev pub next_text : RecordText → RecordText
next_text text = record { number = next_number text; start = text.start + length text.bytes; bytes = header_mark ∷ [] }

-- the text with one byte more
abbrev pub longer : RecordText → ℕ → RecordText
longer text byte = record { number = text.number; start = text.start; bytes = text.bytes ++ byte ∷ [] }

-- what is begun after one byte more
abbrev pub begun_by : RecordText → ℕ → RecordText
begun_by text byte = if begins_header text byte then next_text text else longer text byte

-- what one byte more finishes
abbrev pub finished_by : RecordText → ℕ → List RecordText
finished_by text byte = if begins_header text byte then text ∷ [] else []

-- what is begun after these bytes
abbrev pub begun : RecordText → Text → RecordText
begun text [] = text
begun text (byte ∷ rest) = begun (begun_by text byte) rest

-- what these bytes finish
abbrev pub finished : RecordText → Text → List RecordText
finished text [] = []
finished text (byte ∷ rest) = finished_by text byte ++ finished (begun_by text byte) rest

-- all of them, the last one too
-- said again: texts_are_the_collection, texts_begin_at_headers
abbrev pub cut : RecordText → Text → List RecordText
cut text bytes = finished text bytes ++ begun text bytes ∷ []

-- before the first byte of a collection
abbrev pub nothing : RecordText
nothing = record { number = 1; start = 0; bytes = [] }

-- before the first byte of what a run reads
abbrev pub first_of : Limits → RecordText
first_of limits = record { number = limits.number; start = limits.place; bytes = [] }

-- ---- records

-- the text, if it is a record
abbrev pub if_record : RecordText → List RecordText
if_record text = if has_content text.bytes then text ∷ [] else []

-- those that are records
abbrev pub records_among : List RecordText → List RecordText
records_among texts = flat_map if_record texts

-- the records of a collection
abbrev pub records_of : Text → List RecordText
records_of collection = records_among (cut nothing collection)

-- those of them that a header ends
-- said again: output_is_joined
abbrev pub finished_records : Text → List RecordText
finished_records collection = records_among (finished nothing collection)

-- the records of what a run reads, numbered and placed in the collection that it is a part of
-- said again: pieces_are_placed.records
abbrev pub records_from : Limits → Text → List RecordText
records_from limits read = records_among (cut (first_of limits) read)

-- those of them that a header ends
-- said again: pieces_are_placed.finished
abbrev pub finished_from : Limits → Text → List RecordText
finished_from limits read = records_among (finished (first_of limits) read)

-- the limits of what comes after this part of the collection
abbrev pub limits_after : Limits → Text → Limits
limits_after limits read = record limits { number = limits.number + length (records_from limits read); place = limits.place + length read }

-- -------- What is printed for a collection, where this is printed for a record as it comes and that at the end for all of them. From: this project's profile.

-- what is printed for the records as they come
abbrev pub output_of_records : (RecordText → Text) → Text → Text
output_of_records output_of collection = flat_map output_of (records_of collection)

-- what is printed for the whole collection
abbrev pub whole_output : (RecordText → Text) → (List RecordText → Text) → Text → Text
whole_output output_of ending collection = output_of_records output_of collection ++ ending (records_of collection)

-- what is printed for the records that a header ends
abbrev pub finished_output : (RecordText → Text) → Text → Text
finished_output output_of collection = flat_map output_of (finished_records collection)

-- what is printed for records after these earlier ones, where what is printed for each goes by those before it
-- said again: outputs_follow_one_another
abbrev pub outputs_after : (List RecordText → RecordText → Text) → List RecordText → List RecordText → Text
outputs_after output_of earlier [] = []
outputs_after output_of earlier (text ∷ texts) = output_of earlier text ++ outputs_after output_of (earlier ++ text ∷ []) texts
