-- What clap's specification computes for command lines that are written out.
use Rattle.clap.specs.declared.{builder.value_parser.ValueParser.{ValueParser}, error.kind.ErrorKind.{ErrorKind}}
use Rattle.clap.specs.{Kinds.{or_else}, Words.{fault_of, IsAmong, Kinds, subcommand_of, Text}}
use Rattle.std.proofs.Common.{◌||◌, ◌∙◌, ◌∷◌, ◌≡◌, ◌≢◌, [], ap, Bool, codes, if◌then◌else◌, inl, inr, List, map, Option}
use Rattle.std.{proofs.Common.{option_and_then, refl, Some, subst, sym, true}, specs.{Borrow.{Bor}, List.{list_any}}}
use Rattle.std.specs.Str.{bytes_eq}
use Rattle.clap.specs.declared.builder.value_parser.ValueParser.TheVariants as parser
use Rattle.clap.{proofs.OnLiterals.{clap_on_literals}, specs.declared.error.kind.ErrorKind.TheVariants.{DisplayHelp}}
use Rattle.clap.specs.declared.error.kind.ErrorKind.TheVariants.{InvalidValue}
use Rattle.clap.specs.declared.error.kind.ErrorKind.TheVariants.{MissingRequiredArgument, UnknownArgument}
use Rattle.clap.specs.declared.error.kind.ErrorKind.TheVariants.{ValueValidation}
use Rattle.fc_board.specs.declared.rule.Variant.{TheVariants.{BakersGame, EightOff, FreeCell}, Variant}
use Rattle.fc_collect.specs.{declared.commands.Format.TheVariants.{Header, Json}, Limits.{largest}}
use Rattle.fc_import.specs.declared.options.{LinesAre.{LinesAre, TheVariants.{Columns, Rows}}, Noted.{Noted}}
use Rattle.fc_import.specs.declared.options.Noted.TheVariants.{Changes, Strict}
use Rattle.fc_tool.specs.{command_of, deal_request, dealt_names, limits_from, plain_options, plain_request, program}
use Rattle.fc_tool.specs.{reading_request, request_of, TakesAlone, variant_names}
use Rattle.fc_tool.specs.declared.request.{Request.{Request}, Task.{Task, TheVariants.{Canon, Check, Closed, Count}}}
use Rattle.fc_tool.specs.declared.request.Task.TheVariants.{Deal, Expand, Group, Import, Same, Share, Show, Symmetries}
use Rattle.fc_tool.specs.declared.request.Task.TheVariants.{Table, Unique}

-- the request of the command that the words name
abbrev pub asked_by : ValueParser → ValueParser → List Text → Option Request
asked_by choices dealt words = option_and_then request_of (subcommand_of (program choices dealt) words)

-- the word that gives a variant
abbrev variant_word : Variant → Text
variant_word FreeCell = codes "--variant=freecell"
variant_word BakersGame = codes "--variant=bakers_game"
variant_word EightOff = codes "--variant=eight_off"

abbrev variant_name : Variant → Text
variant_name FreeCell = codes "freecell"
variant_name BakersGame = codes "bakers_game"
variant_name EightOff = codes "eight_off"

pub by_default : (task : Task) → task ≢ Deal → (choices dealt : ValueParser) (called : Text)
    → asked_by choices dealt (called ∷ command_of task ∷ []) ≡ Some (plain_request task FreeCell)
unfolding clap_on_literals
by_default Show reads choices dealt called = refl
by_default Canon reads choices dealt called = refl
by_default Check reads choices dealt called = refl
by_default Group reads choices dealt called = refl
by_default Share reads choices dealt called = refl
by_default Expand reads choices dealt called = refl
by_default Unique reads choices dealt called = refl
by_default Table reads choices dealt called = refl
by_default Count reads choices dealt called = refl
by_default Closed reads choices dealt called = refl
by_default Symmetries reads choices dealt called = refl
by_default Same reads choices dealt called = refl
by_default Import reads choices dealt called = refl
by_default Deal reads choices dealt called = absurd (reads refl)

pub by_variant : (task : Task) → task ≢ Deal → (variant : Variant) (choices dealt : ValueParser) (called : Text)
    → asked_by choices dealt (called ∷ command_of task ∷ variant_word variant ∷ []) ≡ Some (plain_request task variant)
unfolding clap_on_literals
by_variant Show reads FreeCell choices dealt called = refl
by_variant Show reads BakersGame choices dealt called = refl
by_variant Show reads EightOff choices dealt called = refl
by_variant Canon reads FreeCell choices dealt called = refl
by_variant Canon reads BakersGame choices dealt called = refl
by_variant Canon reads EightOff choices dealt called = refl
by_variant Check reads FreeCell choices dealt called = refl
by_variant Check reads BakersGame choices dealt called = refl
by_variant Check reads EightOff choices dealt called = refl
by_variant Group reads FreeCell choices dealt called = refl
by_variant Group reads BakersGame choices dealt called = refl
by_variant Group reads EightOff choices dealt called = refl
by_variant Share reads FreeCell choices dealt called = refl
by_variant Expand reads FreeCell choices dealt called = refl
by_variant Share reads BakersGame choices dealt called = refl
by_variant Expand reads BakersGame choices dealt called = refl
by_variant Share reads EightOff choices dealt called = refl
by_variant Expand reads EightOff choices dealt called = refl
by_variant Unique reads FreeCell choices dealt called = refl
by_variant Unique reads BakersGame choices dealt called = refl
by_variant Unique reads EightOff choices dealt called = refl
by_variant Table reads FreeCell choices dealt called = refl
by_variant Count reads FreeCell choices dealt called = refl
by_variant Closed reads FreeCell choices dealt called = refl
by_variant Symmetries reads FreeCell choices dealt called = refl
by_variant Same reads FreeCell choices dealt called = refl
by_variant Table reads BakersGame choices dealt called = refl
by_variant Count reads BakersGame choices dealt called = refl
by_variant Closed reads BakersGame choices dealt called = refl
by_variant Symmetries reads BakersGame choices dealt called = refl
by_variant Same reads BakersGame choices dealt called = refl
by_variant Table reads EightOff choices dealt called = refl
by_variant Count reads EightOff choices dealt called = refl
by_variant Closed reads EightOff choices dealt called = refl
by_variant Symmetries reads EightOff choices dealt called = refl
by_variant Same reads EightOff choices dealt called = refl
by_variant Import reads FreeCell choices dealt called = refl
by_variant Import reads BakersGame choices dealt called = refl
by_variant Import reads EightOff choices dealt called = refl
by_variant Deal reads variant choices dealt called = absurd (reads refl)

pub by_any_size : (task : Task) → task ≢ Deal → task ≢ Import → (choices dealt : ValueParser) (called : Text)
    → asked_by choices dealt (called ∷ command_of task ∷ codes "--any-size" ∷ []) ≡ Some (reading_request task FreeCell largest)
unfolding clap_on_literals
by_any_size Show reads collects choices dealt called = refl
by_any_size Canon reads collects choices dealt called = refl
by_any_size Check reads collects choices dealt called = refl
by_any_size Group reads collects choices dealt called = refl
by_any_size Share reads collects choices dealt called = refl
by_any_size Expand reads collects choices dealt called = refl
by_any_size Unique reads collects choices dealt called = refl
by_any_size Table reads collects choices dealt called = refl
by_any_size Count reads collects choices dealt called = refl
by_any_size Closed reads collects choices dealt called = refl
by_any_size Symmetries reads collects choices dealt called = refl
by_any_size Same reads collects choices dealt called = refl
by_any_size Import reads collects choices dealt called = absurd (collects refl)
by_any_size Deal reads collects choices dealt called = absurd (reads refl)

pub by_any_size_for : (task : Task) → task ≢ Deal → task ≢ Import → (choices dealt : ValueParser) (called : Text)
    → asked_by choices dealt (called ∷ command_of task ∷ codes "--any-size" ∷ codes "--variant=eight_off" ∷ []) ≡ Some (reading_request task EightOff largest)
unfolding clap_on_literals
by_any_size_for Show reads collects choices dealt called = refl
by_any_size_for Canon reads collects choices dealt called = refl
by_any_size_for Check reads collects choices dealt called = refl
by_any_size_for Group reads collects choices dealt called = refl
by_any_size_for Share reads collects choices dealt called = refl
by_any_size_for Expand reads collects choices dealt called = refl
by_any_size_for Unique reads collects choices dealt called = refl
by_any_size_for Table reads collects choices dealt called = refl
by_any_size_for Count reads collects choices dealt called = refl
by_any_size_for Closed reads collects choices dealt called = refl
by_any_size_for Symmetries reads collects choices dealt called = refl
by_any_size_for Same reads collects choices dealt called = refl
by_any_size_for Import reads collects choices dealt called = absurd (collects refl)
by_any_size_for Deal reads collects choices dealt called = absurd (reads refl)

pub by_start : (task : Task) → task ≢ Deal → task ≢ Import → task ≢ Same → task ≢ Count → task ≢ Closed → (choices dealt : ValueParser) (called : Text)
    → asked_by choices dealt (called ∷ command_of task ∷ codes "--from-record=3" ∷ codes "--from-byte=100" ∷ []) ≡ Some (reading_request task FreeCell (limits_from 3 100))
unfolding clap_on_literals
by_start Show reads collects whole all shut choices dealt called = refl
by_start Canon reads collects whole all shut choices dealt called = refl
by_start Check reads collects whole all shut choices dealt called = refl
by_start Group reads collects whole all shut choices dealt called = refl
by_start Share reads collects whole all shut choices dealt called = refl
by_start Expand reads collects whole all shut choices dealt called = refl
by_start Unique reads collects whole all shut choices dealt called = refl
by_start Table reads collects whole all shut choices dealt called = refl
by_start Count reads collects whole all shut choices dealt called = absurd (all refl)
by_start Closed reads collects whole all shut choices dealt called = absurd (shut refl)
by_start Symmetries reads collects whole all shut choices dealt called = refl
by_start Same reads collects whole all shut choices dealt called = absurd (whole refl)
by_start Import reads collects whole all shut choices dealt called = absurd (collects refl)
by_start Deal reads collects whole all shut choices dealt called = absurd (reads refl)

pub by_first_record : (task : Task) → task ≢ Deal → task ≢ Import → task ≢ Same → task ≢ Count → task ≢ Closed → (choices dealt : ValueParser) (called : Text)
    → asked_by choices dealt (called ∷ command_of task ∷ codes "--from-record" ∷ codes "65537" ∷ []) ≡ Some (reading_request task FreeCell (limits_from 65537 0))
unfolding clap_on_literals
by_first_record Show reads collects whole all shut choices dealt called = refl
by_first_record Canon reads collects whole all shut choices dealt called = refl
by_first_record Check reads collects whole all shut choices dealt called = refl
by_first_record Group reads collects whole all shut choices dealt called = refl
by_first_record Share reads collects whole all shut choices dealt called = refl
by_first_record Expand reads collects whole all shut choices dealt called = refl
by_first_record Unique reads collects whole all shut choices dealt called = refl
by_first_record Table reads collects whole all shut choices dealt called = refl
by_first_record Count reads collects whole all shut choices dealt called = absurd (all refl)
by_first_record Closed reads collects whole all shut choices dealt called = absurd (shut refl)
by_first_record Symmetries reads collects whole all shut choices dealt called = refl
by_first_record Same reads collects whole all shut choices dealt called = absurd (whole refl)
by_first_record Import reads collects whole all shut choices dealt called = absurd (collects refl)
by_first_record Deal reads collects whole all shut choices dealt called = absurd (reads refl)

pub by_two_words : (task : Task) → task ≢ Deal → (choices dealt : ValueParser) (called : Text)
    → asked_by choices dealt (called ∷ command_of task ∷ codes "--variant" ∷ codes "eight_off" ∷ []) ≡ Some (plain_request task EightOff)
unfolding clap_on_literals
by_two_words Show reads choices dealt called = refl
by_two_words Canon reads choices dealt called = refl
by_two_words Check reads choices dealt called = refl
by_two_words Group reads choices dealt called = refl
by_two_words Share reads choices dealt called = refl
by_two_words Expand reads choices dealt called = refl
by_two_words Unique reads choices dealt called = refl
by_two_words Table reads choices dealt called = refl
by_two_words Count reads choices dealt called = refl
by_two_words Closed reads choices dealt called = refl
by_two_words Symmetries reads choices dealt called = refl
by_two_words Same reads choices dealt called = refl
by_two_words Import reads choices dealt called = refl
by_two_words Deal reads choices dealt called = absurd (reads refl)

pub fault_of_help : (choices dealt : ValueParser) (called : Text) → fault_of (program choices dealt) (called ∷ codes "--help" ∷ []) ≡ DisplayHelp ∷ []
unfolding clap_on_literals
fault_of_help choices dealt called = refl

pub fault_of_piece : (choices dealt : ValueParser) (called : Text) → fault_of (program choices dealt) (called ∷ codes "same" ∷ codes "--from-record=3" ∷ []) ≡ UnknownArgument ∷ []
unfolding clap_on_literals
fault_of_piece choices dealt called = refl

pub fault_of_counted_piece : (choices dealt : ValueParser) (called : Text) → fault_of (program choices dealt) (called ∷ codes "count" ∷ codes "--from-record=3" ∷ []) ≡ UnknownArgument ∷ []
unfolding clap_on_literals
fault_of_counted_piece choices dealt called = refl

pub fault_of_closed_piece : (choices dealt : ValueParser) (called : Text) → fault_of (program choices dealt) (called ∷ codes "closed" ∷ codes "--from-record=3" ∷ []) ≡ UnknownArgument ∷ []
unfolding clap_on_literals
fault_of_closed_piece choices dealt called = refl

pub by_json : (choices dealt : ValueParser) (called : Text)
    → asked_by choices dealt (called ∷ codes "count" ∷ codes "--json" ∷ []) ≡ Some (record (plain_request Count FreeCell) { options = record plain_options { format = Json } })
unfolding clap_on_literals
by_json choices dealt called = refl

pub by_closed_json : (choices dealt : ValueParser) (called : Text)
    → asked_by choices dealt (called ∷ codes "closed" ∷ codes "--json" ∷ []) ≡ Some (record (plain_request Closed FreeCell) { options = record plain_options { format = Json } })
unfolding clap_on_literals
by_closed_json choices dealt called = refl

pub by_table_json : (choices dealt : ValueParser) (called : Text)
    → asked_by choices dealt (called ∷ codes "table" ∷ codes "--json" ∷ []) ≡ Some (record (plain_request Table FreeCell) { options = record plain_options { format = Json } })
unfolding clap_on_literals
by_table_json choices dealt called = refl

pub by_header : (choices dealt : ValueParser) (called : Text)
    → asked_by choices dealt (called ∷ codes "table" ∷ codes "--header" ∷ []) ≡ Some (record (plain_request Table FreeCell) { options = record plain_options { format = Header } })
unfolding clap_on_literals
by_header choices dealt called = refl

pub by_header_json : (choices dealt : ValueParser) (called : Text)
    → asked_by choices dealt (called ∷ codes "table" ∷ codes "--header" ∷ codes "--json" ∷ []) ≡ Some (record (plain_request Table FreeCell) { options = record plain_options { format = Json } })
unfolding clap_on_literals
by_header_json choices dealt called = refl

pub fault_of_header : (choices dealt : ValueParser) (called : Text) → fault_of (program choices dealt) (called ∷ codes "count" ∷ codes "--header" ∷ []) ≡ UnknownArgument ∷ []
unfolding clap_on_literals
fault_of_header choices dealt called = refl

pub fault_of_json : (choices dealt : ValueParser) (called : Text) → fault_of (program choices dealt) (called ∷ codes "group" ∷ codes "--json" ∷ []) ≡ UnknownArgument ∷ []
unfolding clap_on_literals
fault_of_json choices dealt called = refl

pub fault_of_byte : (choices dealt : ValueParser) (called : Text) → fault_of (program choices dealt) (called ∷ codes "same" ∷ codes "--from-byte=100" ∷ []) ≡ UnknownArgument ∷ []
unfolding clap_on_literals
fault_of_byte choices dealt called = refl

-- one kind is not none
pub some_kind : (kinds : Kinds) (kind : ErrorKind) → kinds ≡ kind ∷ [] → kinds ≡ [] → ⊥
some_kind kinds kind is none = let both = sym is ∙ none in absurd (cc)

pub among_one : (found kind : ErrorKind) → IsAmong found (kind ∷ []) → found ≡ kind
among_one found kind (inl is) = is
among_one found kind (inr none) = absurd none

-- a kind among one is that kind
pub only_kind : (kinds : Kinds) (found kind : ErrorKind) → kinds ≡ kind ∷ [] → IsAmong found kinds → found ≡ kind
only_kind kinds found kind is among = among_one found kind (subst (IsAmong found) is among)

-- ---- deals

pub by_deal_1 : (choices dealt : ValueParser) (called : Text) → asked_by choices dealt (called ∷ codes "deal" ∷ codes "1" ∷ []) ≡ Some (deal_request FreeCell 1)
unfolding clap_on_literals
by_deal_1 choices dealt called = refl

pub by_deal_0 : (choices dealt : ValueParser) (called : Text) → asked_by choices dealt (called ∷ codes "deal" ∷ codes "0" ∷ []) ≡ Some (deal_request FreeCell 0)
unfolding clap_on_literals
by_deal_0 choices dealt called = refl

pub by_largest_number : (choices dealt : ValueParser) (called : Text) → asked_by choices dealt (called ∷ codes "deal" ∷ codes "4294967295" ∷ []) ≡ Some (deal_request FreeCell 4294967295)
unfolding clap_on_literals
by_largest_number choices dealt called = refl

pub by_deal_617 : (choices dealt : ValueParser) (called : Text) → asked_by choices dealt (called ∷ codes "deal" ∷ codes "617" ∷ codes "--variant=bakers_game" ∷ []) ≡ Some (deal_request BakersGame 617)
unfolding clap_on_literals
by_deal_617 choices dealt called = refl

pub fault_of_word : (choices dealt : ValueParser) (called : Text) → fault_of (program choices dealt) (called ∷ codes "deal" ∷ codes "x" ∷ []) ≡ ValueValidation ∷ []
unfolding clap_on_literals
fault_of_word choices dealt called = refl

pub fault_of_large_number : (choices dealt : ValueParser) (called : Text) → fault_of (program choices dealt) (called ∷ codes "deal" ∷ codes "4294967296" ∷ []) ≡ ValueValidation ∷ []
unfolding clap_on_literals
fault_of_large_number choices dealt called = refl

-- whether a name is among those that a parser takes
has_name : (name : Text) (given : List (Bor Text)) → list_any (λ other. bytes_eq other.now name) given ≡ list_any (λ other. bytes_eq other name) (map (λ other. other.now) given)
has_name name [] = refl
has_name name (first ∷ rest) = ap (λ others. bytes_eq first.now name || others) (has_name name rest)

-- the fault of a name that is taken or not, and what a parse makes of it
abbrev name_fault : Bool → Kinds
name_fault taken = if taken then [] else InvalidValue ∷ []

abbrev without_number : Bool → Kinds
without_number taken = or_else (or_else (or_else (or_else (name_fault taken) []) []) (MissingRequiredArgument ∷ [])) []

abbrev with_number : Bool → Kinds
with_number taken = or_else (or_else (or_else (or_else (or_else (name_fault taken) []) []) []) []) []

fault_of_default : (choices : ValueParser) (given : Bor (List (Bor Text))) (called : Text) → fault_of (program choices (parser.Names given)) (called ∷ codes "deal" ∷ [])
    ≡ without_number (list_any (λ other. bytes_eq other.now (codes "freecell")) given.now)
unfolding clap_on_literals
fault_of_default choices given called = refl

fault_of_variant : (choices : ValueParser) (given : Bor (List (Bor Text))) (called : Text) → fault_of (program choices (parser.Names given)) (called ∷ codes "deal" ∷ codes "1" ∷ codes "--variant=eight_off" ∷ [])
    ≡ with_number (list_any (λ other. bytes_eq other.now (codes "eight_off")) given.now)
unfolding clap_on_literals
fault_of_variant choices given called = refl

-- a parser that takes names alone holds them
given_names : (names : List Text) (of : ValueParser) → TakesAlone names of → (given : Bor (List (Bor Text))) × (of ≡ parser.Names given) × (map (λ name. name.now) given.now ≡ names)
given_names names (parser.Names given) named = (given, refl, named)
given_names names parser.String named = absurd named
given_names names parser.Falsey named = absurd named
given_names names parser.NonEmptyString named = absurd named
given_names names parser.Bool named = absurd named
given_names names parser.Boolish named = absurd named
given_names names (parser.Signed low high) named = absurd named
given_names names (parser.Unsigned low high) named = absurd named
given_names names parser.Float named = absurd named
given_names names parser.Char named = absurd named
given_names names (parser.Values values) named = absurd named

pub fault_of_no_number : (choices dealt : ValueParser) (called : Text) → TakesAlone dealt_names dealt → fault_of (program choices dealt) (called ∷ codes "deal" ∷ []) ≡ MissingRequiredArgument ∷ []
fault_of_no_number choices dealt called named =
    let names = given_names dealt_names dealt named in
    ap (λ of. fault_of (program choices of) (called ∷ codes "deal" ∷ [])) names.1
    ∙ fault_of_default choices names.0 called
    ∙ ap without_number (has_name (codes "freecell") names.0.now ∙ ap (list_any (λ other. bytes_eq other (codes "freecell"))) names.2)

pub fault_of_eight_off : (choices dealt : ValueParser) (called : Text) → TakesAlone dealt_names dealt
    → fault_of (program choices dealt) (called ∷ codes "deal" ∷ codes "1" ∷ codes "--variant=eight_off" ∷ []) ≡ InvalidValue ∷ []
fault_of_eight_off choices dealt called named =
    let names = given_names dealt_names dealt named in
    ap (λ of. fault_of (program choices of) (called ∷ codes "deal" ∷ codes "1" ∷ codes "--variant=eight_off" ∷ [])) names.1
    ∙ fault_of_variant choices names.0 called
    ∙ ap with_number (has_name (codes "eight_off") names.0.now ∙ ap (list_any (λ other. bytes_eq other (codes "eight_off"))) names.2)

-- ---- the words of examples are accepted

-- the faults of words whose variant is a name that is taken or not
abbrev named : Bool → Kinds
named taken = or_else (or_else (or_else (or_else (name_fault taken) []) []) []) []

-- whether a parser that takes these names takes one of them
takes_name : (name : Text) (names : List Text) (given : Bor (List (Bor Text))) → map (λ name. name.now) given.now ≡ names
    → list_any (λ other. bytes_eq other.now name) given.now ≡ list_any (λ other. bytes_eq other name) names
takes_name name names given are = has_name name given.now ∙ ap (list_any (λ other. bytes_eq other name)) are

fault_of_task : (task : Task) → task ≢ Deal → (given : Bor (List (Bor Text))) (dealt : ValueParser) (called : Text)
    → fault_of (program (parser.Names given) dealt) (called ∷ command_of task ∷ [])
    ≡ named (list_any (λ other. bytes_eq other.now (codes "freecell")) given.now)
unfolding clap_on_literals
fault_of_task Show reads given dealt called = refl
fault_of_task Canon reads given dealt called = refl
fault_of_task Check reads given dealt called = refl
fault_of_task Group reads given dealt called = refl
fault_of_task Share reads given dealt called = refl
fault_of_task Expand reads given dealt called = refl
fault_of_task Unique reads given dealt called = refl
fault_of_task Table reads given dealt called = refl
fault_of_task Count reads given dealt called = refl
fault_of_task Closed reads given dealt called = refl
fault_of_task Symmetries reads given dealt called = refl
fault_of_task Same reads given dealt called = refl
fault_of_task Import reads given dealt called = refl
fault_of_task Deal reads given dealt called = absurd (reads refl)

fault_of_deal_1 : (choices : ValueParser) (given : Bor (List (Bor Text))) (called : Text) → fault_of (program choices (parser.Names given)) (called ∷ codes "deal" ∷ codes "1" ∷ [])
    ≡ named (list_any (λ other. bytes_eq other.now (codes "freecell")) given.now)
unfolding clap_on_literals
fault_of_deal_1 choices given called = refl

fault_of_task_for : (task : Task) → task ≢ Deal → (variant : Variant) (given : Bor (List (Bor Text))) (dealt : ValueParser) (called : Text)
    → fault_of (program (parser.Names given) dealt) (called ∷ command_of task ∷ variant_word variant ∷ [])
    ≡ with_number (list_any (λ other. bytes_eq other.now (variant_name variant)) given.now)
unfolding clap_on_literals
fault_of_task_for Show reads FreeCell given dealt called = refl
fault_of_task_for Show reads BakersGame given dealt called = refl
fault_of_task_for Show reads EightOff given dealt called = refl
fault_of_task_for Canon reads FreeCell given dealt called = refl
fault_of_task_for Canon reads BakersGame given dealt called = refl
fault_of_task_for Canon reads EightOff given dealt called = refl
fault_of_task_for Check reads FreeCell given dealt called = refl
fault_of_task_for Check reads BakersGame given dealt called = refl
fault_of_task_for Check reads EightOff given dealt called = refl
fault_of_task_for Group reads FreeCell given dealt called = refl
fault_of_task_for Group reads BakersGame given dealt called = refl
fault_of_task_for Group reads EightOff given dealt called = refl
fault_of_task_for Share reads FreeCell given dealt called = refl
fault_of_task_for Expand reads FreeCell given dealt called = refl
fault_of_task_for Share reads BakersGame given dealt called = refl
fault_of_task_for Expand reads BakersGame given dealt called = refl
fault_of_task_for Share reads EightOff given dealt called = refl
fault_of_task_for Expand reads EightOff given dealt called = refl
fault_of_task_for Unique reads FreeCell given dealt called = refl
fault_of_task_for Unique reads BakersGame given dealt called = refl
fault_of_task_for Unique reads EightOff given dealt called = refl
fault_of_task_for Table reads FreeCell given dealt called = refl
fault_of_task_for Count reads FreeCell given dealt called = refl
fault_of_task_for Closed reads FreeCell given dealt called = refl
fault_of_task_for Symmetries reads FreeCell given dealt called = refl
fault_of_task_for Same reads FreeCell given dealt called = refl
fault_of_task_for Table reads BakersGame given dealt called = refl
fault_of_task_for Count reads BakersGame given dealt called = refl
fault_of_task_for Closed reads BakersGame given dealt called = refl
fault_of_task_for Symmetries reads BakersGame given dealt called = refl
fault_of_task_for Same reads BakersGame given dealt called = refl
fault_of_task_for Table reads EightOff given dealt called = refl
fault_of_task_for Count reads EightOff given dealt called = refl
fault_of_task_for Closed reads EightOff given dealt called = refl
fault_of_task_for Symmetries reads EightOff given dealt called = refl
fault_of_task_for Same reads EightOff given dealt called = refl
fault_of_task_for Import reads FreeCell given dealt called = refl
fault_of_task_for Import reads BakersGame given dealt called = refl
fault_of_task_for Import reads EightOff given dealt called = refl
fault_of_task_for Deal reads variant given dealt called = absurd (reads refl)

fault_of_any_size : (task : Task) → task ≢ Deal → task ≢ Import → (given : Bor (List (Bor Text))) (dealt : ValueParser) (called : Text)
    → fault_of (program (parser.Names given) dealt) (called ∷ command_of task ∷ codes "--any-size" ∷ [])
    ≡ named (list_any (λ other. bytes_eq other.now (codes "freecell")) given.now)
unfolding clap_on_literals
fault_of_any_size Show reads collects given dealt called = refl
fault_of_any_size Canon reads collects given dealt called = refl
fault_of_any_size Check reads collects given dealt called = refl
fault_of_any_size Group reads collects given dealt called = refl
fault_of_any_size Share reads collects given dealt called = refl
fault_of_any_size Expand reads collects given dealt called = refl
fault_of_any_size Unique reads collects given dealt called = refl
fault_of_any_size Table reads collects given dealt called = refl
fault_of_any_size Count reads collects given dealt called = refl
fault_of_any_size Closed reads collects given dealt called = refl
fault_of_any_size Symmetries reads collects given dealt called = refl
fault_of_any_size Same reads collects given dealt called = refl
fault_of_any_size Import reads collects given dealt called = absurd (collects refl)
fault_of_any_size Deal reads collects given dealt called = absurd (reads refl)

pub any_size_accepted : (task : Task) → task ≢ Deal → task ≢ Import → (choices dealt : ValueParser) (called : Text) → TakesAlone variant_names choices
    → fault_of (program choices dealt) (called ∷ command_of task ∷ codes "--any-size" ∷ []) ≡ []
any_size_accepted task reads collects choices dealt called takes =
    let names = given_names variant_names choices takes in
    ap (λ of. fault_of (program of dealt) (called ∷ command_of task ∷ codes "--any-size" ∷ [])) names.1
    ∙ fault_of_any_size task reads collects names.0 dealt called ∙ ap named (takes_name (codes "freecell") variant_names names.0 names.2)

abbrev with_start : Bool → Kinds
with_start taken = or_else (or_else (or_else (or_else (or_else (or_else [] []) (name_fault taken)) []) []) []) []

fault_of_start : (task : Task) → task ≢ Deal → task ≢ Import → task ≢ Same → task ≢ Count → task ≢ Closed → (given : Bor (List (Bor Text))) (dealt : ValueParser) (called : Text)
    → fault_of (program (parser.Names given) dealt) (called ∷ command_of task ∷ codes "--from-record=3" ∷ codes "--from-byte=100" ∷ [])
    ≡ with_start (list_any (λ other. bytes_eq other.now (codes "freecell")) given.now)
unfolding clap_on_literals
fault_of_start Show reads collects whole all shut given dealt called = refl
fault_of_start Canon reads collects whole all shut given dealt called = refl
fault_of_start Check reads collects whole all shut given dealt called = refl
fault_of_start Group reads collects whole all shut given dealt called = refl
fault_of_start Share reads collects whole all shut given dealt called = refl
fault_of_start Expand reads collects whole all shut given dealt called = refl
fault_of_start Unique reads collects whole all shut given dealt called = refl
fault_of_start Table reads collects whole all shut given dealt called = refl
fault_of_start Count reads collects whole all shut given dealt called = absurd (all refl)
fault_of_start Closed reads collects whole all shut given dealt called = absurd (shut refl)
fault_of_start Symmetries reads collects whole all shut given dealt called = refl
fault_of_start Same reads collects whole all shut given dealt called = absurd (whole refl)
fault_of_start Import reads collects whole all shut given dealt called = absurd (collects refl)
fault_of_start Deal reads collects whole all shut given dealt called = absurd (reads refl)

pub start_accepted : (task : Task) → task ≢ Deal → task ≢ Import → task ≢ Same → task ≢ Count → task ≢ Closed → (choices dealt : ValueParser) (called : Text) → TakesAlone variant_names choices
    → fault_of (program choices dealt) (called ∷ command_of task ∷ codes "--from-record=3" ∷ codes "--from-byte=100" ∷ []) ≡ []
start_accepted task reads collects whole all shut choices dealt called takes =
    let names = given_names variant_names choices takes in
    ap (λ of. fault_of (program of dealt) (called ∷ command_of task ∷ codes "--from-record=3" ∷ codes "--from-byte=100" ∷ [])) names.1
    ∙ fault_of_start task reads collects whole all shut names.0 dealt called ∙ ap with_start (takes_name (codes "freecell") variant_names names.0 names.2)

pub fault_of_record_0 : (task : Task) → task ≢ Deal → task ≢ Import → task ≢ Same → task ≢ Count → task ≢ Closed → (choices dealt : ValueParser) (called : Text)
    → fault_of (program choices dealt) (called ∷ command_of task ∷ codes "--from-record=0" ∷ []) ≡ ValueValidation ∷ []
unfolding clap_on_literals
fault_of_record_0 Show reads collects whole all shut choices dealt called = refl
fault_of_record_0 Canon reads collects whole all shut choices dealt called = refl
fault_of_record_0 Check reads collects whole all shut choices dealt called = refl
fault_of_record_0 Group reads collects whole all shut choices dealt called = refl
fault_of_record_0 Share reads collects whole all shut choices dealt called = refl
fault_of_record_0 Expand reads collects whole all shut choices dealt called = refl
fault_of_record_0 Unique reads collects whole all shut choices dealt called = refl
fault_of_record_0 Table reads collects whole all shut choices dealt called = refl
fault_of_record_0 Count reads collects whole all shut choices dealt called = absurd (all refl)
fault_of_record_0 Closed reads collects whole all shut choices dealt called = absurd (shut refl)
fault_of_record_0 Symmetries reads collects whole all shut choices dealt called = refl
fault_of_record_0 Same reads collects whole all shut choices dealt called = absurd (whole refl)
fault_of_record_0 Import reads collects whole all shut choices dealt called = absurd (collects refl)
fault_of_record_0 Deal reads collects whole all shut choices dealt called = absurd (reads refl)

pub fault_of_largest_byte : (task : Task) → task ≢ Deal → task ≢ Import → task ≢ Same → task ≢ Count → task ≢ Closed → (choices dealt : ValueParser) (called : Text)
    → fault_of (program choices dealt) (called ∷ command_of task ∷ codes "--from-byte=1152921504606846977" ∷ []) ≡ ValueValidation ∷ []
unfolding clap_on_literals
fault_of_largest_byte Show reads collects whole all shut choices dealt called = refl
fault_of_largest_byte Canon reads collects whole all shut choices dealt called = refl
fault_of_largest_byte Check reads collects whole all shut choices dealt called = refl
fault_of_largest_byte Group reads collects whole all shut choices dealt called = refl
fault_of_largest_byte Share reads collects whole all shut choices dealt called = refl
fault_of_largest_byte Expand reads collects whole all shut choices dealt called = refl
fault_of_largest_byte Unique reads collects whole all shut choices dealt called = refl
fault_of_largest_byte Table reads collects whole all shut choices dealt called = refl
fault_of_largest_byte Count reads collects whole all shut choices dealt called = absurd (all refl)
fault_of_largest_byte Closed reads collects whole all shut choices dealt called = absurd (shut refl)
fault_of_largest_byte Symmetries reads collects whole all shut choices dealt called = refl
fault_of_largest_byte Same reads collects whole all shut choices dealt called = absurd (whole refl)
fault_of_largest_byte Import reads collects whole all shut choices dealt called = absurd (collects refl)
fault_of_largest_byte Deal reads collects whole all shut choices dealt called = absurd (reads refl)

variant_taken : (variant : Variant) → list_any (λ other. bytes_eq other (variant_name variant)) variant_names ≡ true
variant_taken FreeCell = refl
variant_taken BakersGame = refl
variant_taken EightOff = refl

pub task_accepted : (task : Task) → task ≢ Deal → (choices dealt : ValueParser) (called : Text) → TakesAlone variant_names choices
    → fault_of (program choices dealt) (called ∷ command_of task ∷ []) ≡ []
task_accepted task reads choices dealt called takes =
    let names = given_names variant_names choices takes in
    ap (λ of. fault_of (program of dealt) (called ∷ command_of task ∷ [])) names.1
    ∙ fault_of_task task reads names.0 dealt called ∙ ap named (takes_name (codes "freecell") variant_names names.0 names.2)

pub variant_accepted : (task : Task) → task ≢ Deal → (variant : Variant) (choices dealt : ValueParser) (called : Text) → TakesAlone variant_names choices
    → fault_of (program choices dealt) (called ∷ command_of task ∷ variant_word variant ∷ []) ≡ []
variant_accepted task reads variant choices dealt called takes =
    let names = given_names variant_names choices takes in
    ap (λ of. fault_of (program of dealt) (called ∷ command_of task ∷ variant_word variant ∷ [])) names.1
    ∙ fault_of_task_for task reads variant names.0 dealt called
    ∙ ap with_number (takes_name (variant_name variant) variant_names names.0 names.2 ∙ variant_taken variant)

pub deal_accepted : (choices dealt : ValueParser) (called : Text) → TakesAlone dealt_names dealt → fault_of (program choices dealt) (called ∷ codes "deal" ∷ codes "1" ∷ []) ≡ []
deal_accepted choices dealt called takes =
    let names = given_names dealt_names dealt takes in
    ap (λ of. fault_of (program choices of) (called ∷ codes "deal" ∷ codes "1" ∷ [])) names.1
    ∙ fault_of_deal_1 choices names.0 called ∙ ap named (takes_name (codes "freecell") dealt_names names.0 names.2)

-- no kind is among none
pub among_none : (kinds : Kinds) (found : ErrorKind) → kinds ≡ [] → IsAmong found kinds → ⊥
among_none kinds found none among = subst (IsAmong found) none among

abbrev pub import_as : LinesAre → Request
import_as lines_are = record (plain_request Import FreeCell) { options = record plain_options { lines_are = lines_are } }

pub by_columns : (choices dealt : ValueParser) (called : Text) → asked_by choices dealt (called ∷ codes "import" ∷ codes "--columns" ∷ []) ≡ Some (import_as Columns)
unfolding clap_on_literals
by_columns choices dealt called = refl

pub by_rows : (choices dealt : ValueParser) (called : Text) → asked_by choices dealt (called ∷ codes "import" ∷ codes "--rows" ∷ []) ≡ Some (import_as Rows)
unfolding clap_on_literals
by_rows choices dealt called = refl

pub by_rows_columns : (choices dealt : ValueParser) (called : Text) → asked_by choices dealt (called ∷ codes "import" ∷ codes "--rows" ∷ codes "--columns" ∷ []) ≡ Some (import_as Columns)
unfolding clap_on_literals
by_rows_columns choices dealt called = refl

abbrev pub import_noting : Noted → Request
import_noting noted = record (plain_request Import FreeCell) { options = record plain_options { noted = noted } }

pub by_explain : (choices dealt : ValueParser) (called : Text)
    → asked_by choices dealt (called ∷ codes "import" ∷ codes "--explain" ∷ []) ≡ Some (import_noting Changes)
unfolding clap_on_literals
by_explain choices dealt called = refl

pub by_strict : (choices dealt : ValueParser) (called : Text)
    → asked_by choices dealt (called ∷ codes "import" ∷ codes "--strict" ∷ []) ≡ Some (import_noting Strict)
unfolding clap_on_literals
by_strict choices dealt called = refl

pub by_strict_explain : (choices dealt : ValueParser) (called : Text)
    → asked_by choices dealt (called ∷ codes "import" ∷ codes "--strict" ∷ codes "--explain" ∷ []) ≡ Some
    (import_noting Strict)
unfolding clap_on_literals
by_strict_explain choices dealt called = refl

pub fault_of_strict : (choices dealt : ValueParser) (called : Text)
    → fault_of (program choices dealt) (called ∷ codes "show" ∷ codes "--strict" ∷ []) ≡ UnknownArgument ∷ []
unfolding clap_on_literals
fault_of_strict choices dealt called = refl

pub fault_of_rows : (choices dealt : ValueParser) (called : Text) → fault_of (program choices dealt) (called ∷ codes "show" ∷ codes "--rows" ∷ []) ≡ UnknownArgument ∷ []
unfolding clap_on_literals
fault_of_rows choices dealt called = refl
