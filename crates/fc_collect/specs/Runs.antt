-- What a run of each kind promises.
use Rattle.std.specs.{List.{count_by, flat_map}, Prelude.{◌++◌, ◌∷◌, [], codes, if◌then◌else◌}}
use Rattle.std.specs.Prelude.{List, None, Option, Result, Some, ℕ}
use Rattle.{fc_board.specs.Passages.{Passage}, fc_card.specs.Types.{Text}}
use Rattle.{fc_board.specs.declared.rule.Variant.{Variant}, fc_text.specs.Bytes.{line_feed}}
use Rattle.fc_record.specs.{Grammar.{Contents, Heading}, Printing.{canon_lines, check_lines}}
use Rattle.fc_record.specs.Printing.{expand_lines, is_refused, name_of, passage_words, printed}
use Rattle.fc_record.specs.Printing.{printed_with, show_lines, symmetry_lines}
use Rattle.fc_record.specs.RecordTexts.{RecordText}
use Rattle.fc_record.specs.Tables.{refusal_object, table_header, table_line, table_object}
use Rattle.fc_collect.specs.Closed.{finding_line, finding_object, finding_of, has_flaw}
use Rattle.fc_collect.specs.{Closed.{refused_with}, Groups.{belong_together, figures, figures_line}}
use Rattle.fc_collect.specs.Groups.{figures_object, group_lines, grouped, Member, members_among}
use Rattle.fc_collect.specs.Groups.{passage_between, share_lines, summary_of, unique_output}
use Rattle.fc_collect.specs.Promises.{Printing, ReadsAsCounted, ResultFits, Transfer, Transfers}
use Rattle.fc_collect.specs.{Promises.{WritesAsCounted}, Records.{outputs_after}}
use Rattle.fc_collect.specs.Streams.{bytes_of, Stream, StreamBytes}
use Rattle.fc_collect.specs.declared.{
  commands.{CountFormat.{CountFormat, TheVariants.{Words}}, Format.{Format}},
  commands.{Format.TheVariants.{Header, Json, Lines}, RunKind.{RunKind, TheVariants.{Canon}}},
  commands.RunKind.TheVariants.{Check, Closed, Count, Expand, Group, Same, Share, Show, Symmetries},
  commands.RunKind.TheVariants.{Table, Unique},
  streams.{faults.{RunFault.{RunFault}, Summary.{Summary}}, limits.Limits.{Limits}},
}
use Rattle.fc_collect.specs.declared.commands.CountFormat.TheVariants as count

-- -------- What `same` prints for each accepted record after the first: the passage from the first one's board, or that there is none. From: this project's profile.

-- the passage from the first member's board to that of another, where they belong together
abbrev pub passage_to : Member → Member → Option Passage
passage_to first member = if belong_together first member then Some (passage_between first member) else None

-- the passage in the words of `canon`, or that there is none
abbrev pub passage_found : Option Passage → Text
passage_found (Some passage) = passage_words passage
passage_found None = codes " apart" ++ line_feed ∷ []

-- nothing for the first member, and for each later one its name and the passage from the first
abbrev pub same_lines : List Member → ℕ → Heading → Contents → Text
same_lines [] number heading contents = []
same_lines (first ∷ others) number heading contents =
    name_of number heading.name ++ passage_found (passage_to first (record { number = number; heading = heading; contents = contents }))

-- what is printed for records as they come, where records without a header have this variant
abbrev pub same_output : Variant → List RecordText → Text
same_output variant records = outputs_after (λ earlier. printed (same_lines (members_among variant earlier)) variant) [] records

-- -------- What a run of each kind writes, by the variant of records without a header. From: this project's profile.

-- a line for each record that is refused, and nothing for the others
abbrev pub refusals : Variant → List RecordText → Text
refusals variant = flat_map (printed (λ number heading contents. []) variant)

-- an object for each
abbrev pub refusal_objects : Variant → List RecordText → Text
refusal_objects variant = flat_map (printed_with refusal_object (λ number heading contents. []) variant)

-- for records as they come. The kinds without a line here print at the end, and before it refusals alone
abbrev pub output_of_kind : RunKind → Variant → List RecordText → Text
output_of_kind Show variant = flat_map (printed show_lines variant)
output_of_kind Canon variant = flat_map (printed canon_lines variant)
output_of_kind Check variant = flat_map (printed check_lines variant)
output_of_kind Expand variant = flat_map (printed expand_lines variant)
output_of_kind Symmetries variant = flat_map (printed symmetry_lines variant)
output_of_kind Unique variant = unique_output variant
output_of_kind Same variant = same_output variant
output_of_kind (Table Lines) variant = flat_map (printed table_line variant)
output_of_kind (Table Header) variant = λ records. table_header ++ flat_map (printed table_line variant) records
output_of_kind (Table Json) variant = flat_map (printed_with refusal_object table_object variant)
output_of_kind (Count count.Json) variant = refusal_objects variant
output_of_kind (Closed count.Json) variant = refusal_objects variant
output_of_kind kind variant = refusals variant

-- the format of figures where a table has this one
abbrev pub count_format : Format → CountFormat
count_format Lines = Words
count_format Header = Words
count_format Json = count.Json

-- at the end, for all of them; most kinds print nothing then
abbrev pub ending_of_kind : RunKind → Variant → List RecordText → Text
ending_of_kind Group variant = grouped group_lines variant
ending_of_kind Share variant = grouped share_lines variant
ending_of_kind (Count Words) variant = λ records. figures_line (figures (summary_of variant records) (members_among variant records))
ending_of_kind (Count count.Json) variant = λ records. figures_object (figures (summary_of variant records) (members_among variant records))
ending_of_kind (Closed Words) variant = λ records. finding_line (finding_of (summary_of variant records) (members_among variant records))
ending_of_kind (Closed count.Json) variant = λ records. finding_object (finding_of (summary_of variant records) (members_among variant records))
ending_of_kind kind variant = λ records. []

-- how many records count as refused: where `closed` finds a flaw, one more than are refused
abbrev pub refused_of_kind : RunKind → Variant → List RecordText → ℕ
refused_of_kind (Closed format) variant = refused_with has_flaw variant
refused_of_kind kind variant = count_by (is_refused variant)

-- -------- What a run promises. From: this project's profile.

-- what a run of this kind prints, and how many records count as refused
abbrev pub printing_of : RunKind → Variant → Printing
printing_of kind variant = record { output = output_of_kind kind variant; ending = ending_of_kind kind variant; refused = refused_of_kind kind variant }

-- what it transfers within these limits
abbrev pub TransfersWithin : Limits → RunKind → Variant → StreamBytes → Result Summary RunFault → Type 0
TransfersWithin limits kind variant = Transfers (ResultFits limits (printing_of kind variant))

-- what a run promises: how the counts of its streams grow, and that what it transfers fits its result
pub record RunsWithin {R W : Type 0} (limits : Limits) (Fits : Transfer → Result Summary RunFault → Type 0) (input : Stream R) (output : Stream W) (result : Result Summary RunFault) : Type 0 where
  pub read_counted : ReadsAsCounted limits input.old input.new result
  pub write_counted : WritesAsCounted output.old output.new result
  pub wrote : Transfers Fits (bytes_of input output) result
