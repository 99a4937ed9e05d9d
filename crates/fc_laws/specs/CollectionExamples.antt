-- Collections as keepers of FreeCell boards write them, and what is printed for them.
use Rattle.std.specs.List.{flat_map, join_with_byte}
use Rattle.std.specs.Prelude.{◌++◌, ◌∷◌, [], codes, List, Option, replicate, ℕ}
use Rattle.{fc_board.specs.declared.rule.Variant.TheVariants.{FreeCell}, fc_card.specs.Types.{Text}}
use Rattle.fc_text.specs.Bytes.{carriage_return, line_feed, tab}
use Rattle.fc_record.specs.Grammar.{Contents, Heading}
use Rattle.fc_record.specs.Printing.{canon_lines, check_lines, expand_lines, printed, show_lines}
use Rattle.fc_record.specs.Tables.{refusal_object, table_line, table_object}
use Rattle.fc_record.specs.declared.record.RecordFaultKind.TheVariants.{BadHeader}
use Rattle.fc_collect.specs.Groups.{group_lines, grouped, Member, share_lines, unique_output}
use Rattle.fc_collect.specs.{Limits.{largest}, Records.{records_from, records_of, whole_output}}
use Rattle.fc_collect.specs.Runs.{ending_of_kind, output_of_kind}
use Rattle.fc_collect.specs.declared.commands.RunKind.{RunKind}
use Rattle.fc_laws.specs.{CanonicalExamples.{clubs_king_text}, TextExamples.{all_home, lines_text}}

-- what is printed for a collection with these lines, where records without a header are of FreeCell
abbrev pub printed_for : (ℕ → Heading → Contents → Text) → Text → Text
printed_for lines collection = flat_map (printed lines FreeCell) (records_of collection)

abbrev pub output_of_show : Text → Text
output_of_show collection = printed_for show_lines collection

abbrev pub output_of_check : Text → Text
output_of_check collection = printed_for check_lines collection

abbrev pub output_of_expand : Text → Text
output_of_expand collection = printed_for expand_lines collection

abbrev pub output_of_canon : Text → Text
output_of_canon collection = printed_for canon_lines collection

abbrev pub output_of_table : Text → Text
output_of_table collection = printed_for table_line collection

abbrev pub output_of_json_table : Text → Text
output_of_json_table collection = printed_for table_object collection

-- what is printed with these lines for each group
abbrev pub printed_in_groups : (List Member → Text) → Text → Text
printed_in_groups lines collection = whole_output (printed (λ number heading contents. []) FreeCell) (grouped lines FreeCell) collection

abbrev pub output_of_group : Text → Text
output_of_group collection = printed_in_groups group_lines collection

abbrev pub output_of_share : Text → Text
output_of_share collection = printed_in_groups share_lines collection

-- what is printed of each group's first record
abbrev pub output_of_unique : Text → Text
output_of_unique collection = unique_output FreeCell (records_of collection)

-- what a run of this kind writes
abbrev pub output_of_run : RunKind → Text → Text
output_of_run kind collection =
    output_of_kind kind FreeCell (records_of collection) ++ ending_of_kind kind FreeCell (records_of collection)

-- what it writes of a piece of a collection that begins with the record of this number, at this byte
abbrev pub output_of_piece : RunKind → ℕ → ℕ → Text → Text
output_of_piece kind number place piece =
    let records = records_from (record largest { number = number; place = place }) piece in
    output_of_kind kind FreeCell records ++ ending_of_kind kind FreeCell records

-- two boards that are one another's images, of which the second has a solution
abbrev pub group_of_two : Text
group_of_two = lines_text (codes "@ freecell one" ∷ codes "Foundations: H-K C-K D-Q S-K" ∷ codes ": KD"
    ∷ codes "@ freecell two" ∷ codes "Foundations: H-K C-Q D-K S-K" ∷ codes ":" ∷ codes ":" ∷ codes ": KC" ∷ codes "> 3h" ∷ [])

-- the won board with the empty list
abbrev pub won_with_empty_list : Text
won_with_empty_list = lines_text (all_home ∷ codes ">" ∷ [])

abbrev pub bad_variant : Text
bad_variant = lines_text (codes "@ spider x" ∷ codes ": KC" ∷ [])

-- a column after a list
abbrev pub stray_column : Text
stray_column = lines_text (all_home ∷ codes ">" ∷ codes ": KC" ∷ [])

-- a board between two that are won misses a king
abbrev pub refused_in_group : Text
refused_in_group = lines_text (codes "@ freecell a" ∷ all_home ∷ codes "@ freecell b" ∷ codes "Foundations: H-K C-K D-K S-Q" ∷ codes "@ freecell a" ∷ all_home ∷ [])

-- ---- what is printed for them

abbrev pub won_passage : Text
won_passage = codes "# renaming CDHS columns 12345678 cells abcd"

abbrev pub group_of_two_shown : Text
group_of_two_shown = lines_text (codes "@ freecell one" ∷ codes "Foundations: H-K C-K D-Q S-K" ∷ codes "Freecells: - - - -"
    ∷ codes ": KD" ∷ codes ":" ∷ codes ":" ∷ codes ":" ∷ codes ":" ∷ codes ":" ∷ codes ":" ∷ codes ":"
    ∷ codes "@ freecell two" ∷ codes "Foundations: H-K C-Q D-K S-K" ∷ codes "Freecells: - - - -"
    ∷ codes ":" ∷ codes ":" ∷ codes ": KC" ∷ codes ":" ∷ codes ":" ∷ codes ":" ∷ codes ":" ∷ codes ":" ∷ codes "> 3h" ∷ [])

abbrev pub blank_lines_made_canonical : Text
blank_lines_made_canonical = lines_text (codes "Foundations: H-K C-K D-K S-T" ∷ codes "Freecells: - - - -"
    ∷ codes ":" ∷ codes ":" ∷ codes ":" ∷ codes ":" ∷ codes ":" ∷ codes ": JS" ∷ codes ": KS" ∷ codes ": QS"
    ∷ codes "# renaming SDHC columns 35678412 cells abcd" ∷ [])

abbrev pub group_of_two_shared : Text
group_of_two_shared = lines_text (codes "@ freecell one" ∷ codes "Foundations: H-K C-K D-Q S-K" ∷ codes "Freecells: - - - -"
    ∷ codes ": KD" ∷ codes ":" ∷ codes ":" ∷ codes ":" ∷ codes ":" ∷ codes ":" ∷ codes ":" ∷ codes ":" ∷ codes "> 1h"
    ∷ codes "@ freecell two" ∷ codes "Foundations: H-K C-Q D-K S-K" ∷ codes "Freecells: - - - -"
    ∷ codes ":" ∷ codes ":" ∷ codes ": KC" ∷ codes ":" ∷ codes ":" ∷ codes ":" ∷ codes ":" ∷ codes ":" ∷ codes "> 3h" ∷ [])

-- the columns of a line, with a tab between two
abbrev pub in_columns : List Text → Text
in_columns fields = join_with_byte tab fields

-- the canonical text of both boards in one line
abbrev pub group_of_two_board : Text
group_of_two_board = codes "Foundations: H-K C-K D-K S-Q  Freecells: - - - -  :  :  :  :  :  :  :  : KS"

abbrev pub group_of_two_tabulated : Text
group_of_two_tabulated = lines_text (
    in_columns (codes "one" ∷ codes "freecell" ∷ group_of_two_board ∷ codes "DSCH" ∷ codes "23456781" ∷ codes "abcd" ∷ codes "0" ∷ codes "-" ∷ [])
    ∷ in_columns (codes "two" ∷ codes "freecell" ∷ group_of_two_board ∷ codes "SDHC" ∷ codes "12456783" ∷ codes "abcd" ∷ codes "1" ∷ codes "1" ∷ []) ∷ [])

abbrev pub group_of_two_in_json : Text
group_of_two_in_json =
    codes "{\"name\":\"one\",\"variant\":\"freecell\",\"board\":\"" ++ group_of_two_board ++ codes "\",\"renaming\":\"DSCH\",\"columns\":\"23456781\",\"cells\":\"abcd\",\"lists\":0,\"win\":null}\n"
    ++ codes "{\"name\":\"two\",\"variant\":\"freecell\",\"board\":\"" ++ group_of_two_board ++ codes "\",\"renaming\":\"SDHC\",\"columns\":\"12456783\",\"cells\":\"abcd\",\"lists\":1,\"win\":1}\n"

-- two won boards of two games
abbrev pub two_variants : Text
two_variants = lines_text (codes "@ freecell a" ∷ all_home ∷ codes "@ bakers_game b" ∷ all_home ∷ [])

-- ---- headers and lists

-- a header of Eight Off, and one whose word follows the mark at once
abbrev pub seven_header : Text
seven_header = lines_text (codes "@ eight_off seven" ∷ [])

-- a header with blanks, a tab and a carriage return, and no word
abbrev pub empty_header : Text
empty_header = codes "@ " ++ tab ∷ carriage_return ∷ line_feed ∷ []

-- a header of FreeCell with a name of so many bytes
abbrev pub header_with_name_of : ℕ → Text
header_with_name_of bytes = codes "@ freecell " ++ replicate bytes 120

-- a name with a byte that is not printed, and a word after it
abbrev pub bad_name_and_word : Text
bad_name_and_word = codes "@ freecell " ++ 127 ∷ codes " b"

-- a king to go home from the third column
abbrev pub solved_list : Text
solved_list = lines_text (codes "Foundations: H-K C-Q D-K S-K" ∷ codes "Freecells: - - - -" ∷ codes ":" ∷ codes ":" ∷ codes ": KC" ∷ codes "> 3H" ∷ [])

abbrev pub solved_list_made_canonical : Text
solved_list_made_canonical = clubs_king_text ++ lines_text (codes "# renaming SDHC columns 12456783 cells abcd" ∷ codes "> 8h" ∷ [])

-- the king of spades is to go home before the queen
abbrev pub king_before_queen : Text
king_before_queen = lines_text (codes "@ eight_off seven" ∷ codes "Foundations: H-K C-K D-K S-J" ∷ codes "Freecells: QS - - - - - - KS" ∷ codes "> ah" ∷ codes "# by hand" ∷ codes "> kh ah" ∷ [])

-- a list with a word that is no move
abbrev pub bad_word_in_a_list : Text
bad_word_in_a_list = lines_text (all_home ∷ codes "> 1a" ∷ codes ">1a 1e" ∷ [])

-- ---- a collection in which all differs

-- a front of comments, boards of the three games, two that are not next to one another and are one another's images, and records with two faults; a list that is refused at its third move, and one of moves of several cards
abbrev pub mixed : Text
mixed = lines_text (
    codes "# a front" ∷ [] ∷ codes "@ FreeCell !A" ∷ codes "Foundations: H-K C-Q D-K S-K" ∷ codes ":" ∷ codes ":" ∷ codes ": KC"
    ∷ codes "> 3a a3 4h" ∷ [] ∷ codes "> 3h" ∷ codes "@ bakers_game b~" ∷ codes "Foundations: H-Q C-J D-K S-K" ∷ codes ": KC"
    ∷ codes ": QC" ∷ codes ": KH" ∷ codes "> 2h 1h 3h" ∷ codes "@ freecell" ∷ codes "Foundations: H-K C-K D-Q S-K" ∷ codes ": KD"
    ∷ codes "> 1a ah" ∷ codes "@ freecell bad" ∷ codes "Foundations: H-K C-K D-K S-Q" ∷ codes "> zz" ∷ codes "@ freecell worse"
    ∷ codes "Foundations: H-K C-K D-K S-K" ∷ codes "> 1a zz" ∷ codes "> 99" ∷ codes "@ EIGHT_OFF e" ∷ codes "Foundations: H-K C-K D-K S-J"
    ∷ codes "Freecells: KS - QS" ∷ codes "> ch ah" ∷ codes ">> 12"
    ∷ [])

-- what each command prints for it
abbrev pub mixed_shown : Text
mixed_shown = lines_text (
    codes "@ freecell !A" ∷ codes "Foundations: H-K C-Q D-K S-K" ∷ codes "Freecells: - - - -" ∷ codes ":" ∷ codes ":" ∷ codes ": KC"
    ∷ codes ":" ∷ codes ":" ∷ codes ":" ∷ codes ":" ∷ codes ":" ∷ codes "> 3a a3 4h" ∷ codes "> 3h" ∷ codes "@ bakers_game b~"
    ∷ codes "Foundations: H-Q C-J D-K S-K" ∷ codes "Freecells: - - - -" ∷ codes ": KC" ∷ codes ": QC" ∷ codes ": KH" ∷ codes ":"
    ∷ codes ":" ∷ codes ":" ∷ codes ":" ∷ codes ":" ∷ codes "> 2h 1h 3h" ∷ codes "@ freecell 3" ∷ codes "Foundations: H-K C-K D-Q S-K"
    ∷ codes "Freecells: - - - -" ∷ codes ": KD" ∷ codes ":" ∷ codes ":" ∷ codes ":" ∷ codes ":" ∷ codes ":" ∷ codes ":" ∷ codes ":"
    ∷ codes "> 1a ah" ∷ codes "# refused bad at 249: missing card KS" ∷ codes "# refused worse at 305: bad token" ∷ codes "@ eight_off e"
    ∷ codes "Foundations: H-K C-K D-K S-J" ∷ codes "Freecells: KS - QS - - - - -" ∷ codes ":" ∷ codes ":" ∷ codes ":" ∷ codes ":"
    ∷ codes ":" ∷ codes ":" ∷ codes ":" ∷ codes ":" ∷ codes "> ch ah" ∷ codes ">> 12"
    ∷ [])

abbrev pub mixed_expanded : Text
mixed_expanded = lines_text (
    codes "@ freecell !A" ∷ codes "Foundations: H-K C-Q D-K S-K" ∷ codes "Freecells: - - - -" ∷ codes ":" ∷ codes ":" ∷ codes ": KC"
    ∷ codes ":" ∷ codes ":" ∷ codes ":" ∷ codes ":" ∷ codes ":" ∷ codes "# list 1 illegal 2 empty source" ∷ codes "> 3h" ∷ codes "@ bakers_game b~"
    ∷ codes "Foundations: H-Q C-J D-K S-K" ∷ codes "Freecells: - - - -" ∷ codes ": KC" ∷ codes ": QC" ∷ codes ": KH" ∷ codes ":"
    ∷ codes ":" ∷ codes ":" ∷ codes ":" ∷ codes ":" ∷ codes "> 2h 1h 3h" ∷ codes "@ freecell 3" ∷ codes "Foundations: H-K C-K D-Q S-K"
    ∷ codes "Freecells: - - - -" ∷ codes ": KD" ∷ codes ":" ∷ codes ":" ∷ codes ":" ∷ codes ":" ∷ codes ":" ∷ codes ":" ∷ codes ":"
    ∷ codes "> 1a ah" ∷ codes "# refused bad at 249: missing card KS" ∷ codes "# refused worse at 305: bad token" ∷ codes "@ eight_off e"
    ∷ codes "Foundations: H-K C-K D-K S-J" ∷ codes "Freecells: KS - QS - - - - -" ∷ codes ":" ∷ codes ":" ∷ codes ":" ∷ codes ":"
    ∷ codes ":" ∷ codes ":" ∷ codes ":" ∷ codes ":" ∷ codes "> ch ah" ∷ codes "# list 2 illegal 0 empty source"
    ∷ [])

abbrev pub mixed_made_canonical : Text
mixed_made_canonical = lines_text (
    codes "@ freecell !A" ∷ codes "Foundations: H-K C-K D-K S-Q" ∷ codes "Freecells: - - - -" ∷ codes ":" ∷ codes ":" ∷ codes ":"
    ∷ codes ":" ∷ codes ":" ∷ codes ":" ∷ codes ":" ∷ codes ": KS" ∷ codes "# renaming SDHC columns 12456783 cells abcd"
    ∷ codes "> 8a a8 3h" ∷ codes "> 8h" ∷ codes "@ bakers_game b~" ∷ codes "Foundations: H-J C-K D-K S-Q" ∷ codes "Freecells: - - - -"
    ∷ codes ":" ∷ codes ":" ∷ codes ":" ∷ codes ":" ∷ codes ":" ∷ codes ": KH" ∷ codes ": KS" ∷ codes ": QH"
    ∷ codes "# renaming HCSD columns 45678132 cells abcd" ∷ codes "> 8h 6h 7h" ∷ codes "@ freecell 3"
    ∷ codes "Foundations: H-K C-K D-K S-Q" ∷ codes "Freecells: - - - -" ∷ codes ":" ∷ codes ":" ∷ codes ":" ∷ codes ":" ∷ codes ":"
    ∷ codes ":" ∷ codes ":" ∷ codes ": KS" ∷ codes "# renaming DSCH columns 23456781 cells abcd" ∷ codes "> 8a ah"
    ∷ codes "# refused bad at 249: missing card KS" ∷ codes "# refused worse at 305: bad token" ∷ codes "@ eight_off e"
    ∷ codes "Foundations: H-J C-K D-K S-K" ∷ codes "Freecells: - - - - - - KH QH" ∷ codes ":" ∷ codes ":" ∷ codes ":" ∷ codes ":"
    ∷ codes ":" ∷ codes ":" ∷ codes ":" ∷ codes ":" ∷ codes "# renaming CDSH columns 12345678 cells bdefgkac" ∷ codes "> kh gh" ∷ codes ">> 12"
    ∷ [])

abbrev pub mixed_checked : Text
mixed_checked = lines_text (
    codes "!A 1 illegal 2 empty source" ∷ codes "!A 2 wins 1" ∷ codes "b~ 1 wins 3" ∷ codes "3 1 wins 2"
    ∷ codes "# refused bad at 249: missing card KS" ∷ codes "# refused worse at 305: bad token" ∷ codes "e 1 wins 2" ∷ codes "e 2 illegal 0 empty source"
    ∷ [])

abbrev pub mixed_in_groups : Text
mixed_in_groups = lines_text (
    codes "# refused bad at 249: missing card KS" ∷ codes "# refused worse at 305: bad token" ∷ codes "@ freecell !A"
    ∷ codes "# members 2: !A 3" ∷ codes "Foundations: H-K C-K D-K S-Q" ∷ codes "Freecells: - - - -" ∷ codes ":" ∷ codes ":" ∷ codes ":"
    ∷ codes ":" ∷ codes ":" ∷ codes ":" ∷ codes ":" ∷ codes ": KS" ∷ codes "@ bakers_game b~" ∷ codes "# members 1: b~"
    ∷ codes "Foundations: H-J C-K D-K S-Q" ∷ codes "Freecells: - - - -" ∷ codes ":" ∷ codes ":" ∷ codes ":" ∷ codes ":" ∷ codes ":"
    ∷ codes ": KH" ∷ codes ": KS" ∷ codes ": QH" ∷ codes "@ eight_off e" ∷ codes "# members 1: e" ∷ codes "Foundations: H-J C-K D-K S-K"
    ∷ codes "Freecells: - - - - - - KH QH" ∷ codes ":" ∷ codes ":" ∷ codes ":" ∷ codes ":" ∷ codes ":" ∷ codes ":" ∷ codes ":" ∷ codes ":"
    ∷ [])

abbrev pub mixed_shared : Text
mixed_shared = lines_text (
    codes "# refused bad at 249: missing card KS" ∷ codes "# refused worse at 305: bad token" ∷ codes "@ freecell !A"
    ∷ codes "Foundations: H-K C-Q D-K S-K" ∷ codes "Freecells: - - - -" ∷ codes ":" ∷ codes ":" ∷ codes ": KC" ∷ codes ":" ∷ codes ":"
    ∷ codes ":" ∷ codes ":" ∷ codes ":" ∷ codes "> 3h" ∷ codes "@ freecell 3" ∷ codes "Foundations: H-K C-K D-Q S-K"
    ∷ codes "Freecells: - - - -" ∷ codes ": KD" ∷ codes ":" ∷ codes ":" ∷ codes ":" ∷ codes ":" ∷ codes ":" ∷ codes ":" ∷ codes ":"
    ∷ codes "> 1h" ∷ codes "@ bakers_game b~" ∷ codes "Foundations: H-Q C-J D-K S-K" ∷ codes "Freecells: - - - -" ∷ codes ": KC"
    ∷ codes ": QC" ∷ codes ": KH" ∷ codes ":" ∷ codes ":" ∷ codes ":" ∷ codes ":" ∷ codes ":" ∷ codes "> 2h 1h 3h" ∷ codes "@ eight_off e"
    ∷ codes "Foundations: H-K C-K D-K S-J" ∷ codes "Freecells: KS - QS - - - - -" ∷ codes ":" ∷ codes ":" ∷ codes ":" ∷ codes ":"
    ∷ codes ":" ∷ codes ":" ∷ codes ":" ∷ codes ":" ∷ codes "> ch ah"
    ∷ [])

abbrev pub mixed_tabulated : Text
mixed_tabulated = lines_text (
    in_columns (codes "!A" ∷ codes "freecell" ∷ group_of_two_board ∷ codes "SDHC" ∷ codes "12456783" ∷ codes "abcd" ∷ codes "2" ∷ codes "2" ∷ [])
    ∷ in_columns (codes "b~" ∷ codes "bakers_game" ∷ codes "Foundations: H-J C-K D-K S-Q  Freecells: - - - -  :  :  :  :  :  : KH  : KS  : QH"
    ∷ codes "HCSD" ∷ codes "45678132" ∷ codes "abcd" ∷ codes "1" ∷ codes "1" ∷ [])
    ∷ in_columns (codes "3" ∷ codes "freecell" ∷ group_of_two_board ∷ codes "DSCH" ∷ codes "23456781" ∷ codes "abcd" ∷ codes "1" ∷ codes "1" ∷ [])
    ∷ codes "# refused bad at 249: missing card KS" ∷ codes "# refused worse at 305: bad token"
    ∷ in_columns (codes "e" ∷ codes "eight_off" ∷ codes "Foundations: H-J C-K D-K S-K  Freecells: - - - - - - KH QH  :  :  :  :  :  :  :  :"
    ∷ codes "CDSH" ∷ codes "12345678" ∷ codes "bdefgkac" ∷ codes "2" ∷ codes "1" ∷ [])
    ∷ [])

abbrev pub mixed_made_unique : Text
mixed_made_unique = lines_text (
    codes "@ freecell !A" ∷ codes "Foundations: H-K C-Q D-K S-K" ∷ codes "Freecells: - - - -" ∷ codes ":" ∷ codes ":" ∷ codes ": KC"
    ∷ codes ":" ∷ codes ":" ∷ codes ":" ∷ codes ":" ∷ codes ":" ∷ codes "> 3a a3 4h" ∷ codes "> 3h" ∷ codes "@ bakers_game b~"
    ∷ codes "Foundations: H-Q C-J D-K S-K" ∷ codes "Freecells: - - - -" ∷ codes ": KC" ∷ codes ": QC" ∷ codes ": KH" ∷ codes ":"
    ∷ codes ":" ∷ codes ":" ∷ codes ":" ∷ codes ":" ∷ codes "> 2h 1h 3h"
    ∷ codes "# refused bad at 249: missing card KS" ∷ codes "# refused worse at 305: bad token" ∷ codes "@ eight_off e"
    ∷ codes "Foundations: H-K C-K D-K S-J" ∷ codes "Freecells: KS - QS - - - - -" ∷ codes ":" ∷ codes ":" ∷ codes ":" ∷ codes ":"
    ∷ codes ":" ∷ codes ":" ∷ codes ":" ∷ codes ":" ∷ codes "> ch ah" ∷ codes ">> 12"
    ∷ [])

abbrev pub mixed_compared : Text
mixed_compared = lines_text (
    codes "b~ apart" ∷ codes "3 renaming DCSH columns 31245678 cells abcd"
    ∷ codes "# refused bad at 249: missing card KS" ∷ codes "# refused worse at 305: bad token" ∷ codes "e apart"
    ∷ [])

abbrev pub mixed_symmetries : Text
mixed_symmetries = lines_text (
    codes "!A renaming CDHS" ∷ codes "!A renaming CHDS" ∷ codes "b~ renaming CDHS" ∷ codes "b~ renaming CSHD" ∷ codes "3 renaming CDHS" ∷ codes "3 renaming SDHC"
    ∷ codes "# refused bad at 249: missing card KS" ∷ codes "# refused worse at 305: bad token"
    ∷ codes "e renaming CDHS" ∷ codes "e renaming CHDS" ∷ codes "e renaming DCHS" ∷ codes "e renaming DHCS" ∷ codes "e renaming HCDS" ∷ codes "e renaming HDCS"
    ∷ [])

abbrev pub mixed_counted : Text
mixed_counted = lines_text (
    codes "# refused bad at 249: missing card KS" ∷ codes "# refused worse at 305: bad token"
    ∷ codes "records 6 refused 2 groups 3 doubles 1 lists 6 wins 4 solved 3"
    ∷ [])

-- what JSON has for a bad header at byte 111, in record 7, which begins at byte 100
abbrev pub seventh_refused : Option Text → Text
seventh_refused name =
    refusal_object (record { number = 7; start = 100; bytes = [] }) name (record { place = 11; kind = BadHeader })

-- the signs that names may have, with these for a quote and a backslash
abbrev pub signs_with : Text → Text → Text
signs_with quote backslash =
    codes "!" ++ quote ++ codes "#$%&'()*+,-./0123456789:;<=>?@ABCDEFGHIJKLMNOPQRSTUVWXYZ["
    ++ backslash ++ codes "]^_`abcdefghijklmnopqrstuvwxyz{|}~"

abbrev pub refused_in_group_counted : Text
refused_in_group_counted = lines_text (
    codes "{\"refused\":\"b\",\"place\":84,\"reason\":\"missing card KS\"}" ∷ codes "{\"records\":3,\"refused\":1,\"groups\":1,\"doubles\":1,\"lists\":0,\"wins\":0,\"solved\":0}"
    ∷ [])
