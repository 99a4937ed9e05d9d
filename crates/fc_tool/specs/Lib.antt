-- The command line of fcanon, and how the program ends.
use Rattle.clap.specs.declared.builder.action.ArgAction.TheVariants.{SetTrue}
use Rattle.clap.specs.declared.{builder.value_parser.ValueParser.{ValueParser}, error.Error.{Error}}
use Rattle.clap.specs.declared.error.kind.ErrorKind.TheVariants.{DisplayHelp, DisplayVersion}
use Rattle.clap.specs.{Simple.{new_shape, on_top}, ValueTests.{is_signed_in}, Words.{App, fault_of}}
use Rattle.clap.specs.Words.{first_of, IsAmong, kind_of, new_app, new_rule, Row, Rule, Shape}
use Rattle.clap.specs.Words.{subcommand_of, Text, with_subcommand}
use Rattle.std.specs.{List.{find, fold}, Prelude.{◌++◌, ◌==◌, ◌∷◌, ◌≡◌, ◌⊎◌, [], ⊤, Bool, codes}}
use Rattle.std.specs.Prelude.{Err, false, IfSome, if◌then◌else◌, is_ok, List, map, None, Ok, Option}
use Rattle.std.specs.Prelude.{option_and_then, option_map, pos, Result, Some, true, ℕ}
use Rattle.std.specs.Str.{bytes_eq, Parse.{digits_value, without_leading_sign}}
use Rattle.fc_board.specs.Games.{Game, game_of, variant_word, variants}
use Rattle.fc_board.specs.declared.rule.Variant.TheVariants.{BakersGame, EightOff, FreeCell}
use Rattle.fc_board.specs.declared.rule.Variant.{Variant}
use Rattle.fc_text.specs.{Bytes.{line_feed}, Printed.{text_of}}
use Rattle.{fc_deal.specs.{deal, dealt_board, IsDealNumber}, fc_import.specs.Import.{ImportFits}}
use Rattle.fc_collect.specs.Limits.{AreCountable, fault_words, largest, most_countable, standard}
use Rattle.fc_collect.specs.Promises.{ResultFits, Transfer, WritesAsCounted, WritesText}
use Rattle.fc_collect.specs.Runs.{count_format, printing_of, RunsWithin}
use Rattle.fc_collect.specs.Streams.{inner_of, Stream}
use Rattle.fc_collect.specs.declared.commands.Format.{Format, TheVariants.{Header, Json, Lines}}
use Rattle.fc_collect.specs.declared.commands.RunKind.{RunKind}
use Rattle.fc_collect.specs.declared.streams.faults.{RunFault.{RunFault}, Summary.{Summary}}
use Rattle.fc_collect.specs.declared.streams.limits.Limits.{Limits}
use Rattle.fc_import.specs.declared.options.LinesAre.{LinesAre, TheVariants.{Columns, Rows, Unsaid}}
use Rattle.fc_import.specs.declared.options.Noted.{Noted, TheVariants.{Changes, Doubts, Strict}}
use Rattle.fc_tool.specs.declared.program.{DealtGame.{DealtGame}, Job.{Job}}
use Rattle.fc_tool.specs.declared.request.{Options.{Options}, Request.{Request}, Task.{Task}}
use Rattle.fc_tool.specs.declared.request.Task.TheVariants.{Canon, Check, Closed, Count, Deal}
use Rattle.fc_tool.specs.declared.request.Task.TheVariants.{Expand, Group, Import, Same, Share}
use Rattle.fc_tool.specs.declared.request.Task.TheVariants.{Show, Symmetries, Table, Unique}
use Rattle.fc_tool.specs.declared.request.WordsFault.{TheVariants.{Memory, Parser}, WordsFault}
use Rattle.clap.specs.declared.builder.value_parser.ValueParser.TheVariants as parser
use Rattle.fc_collect.specs.declared.commands.RunKind.TheVariants as runs
use Rattle.fc_tool.specs.declared.program.DealtGame.TheVariants as dealt
use Rattle.fc_tool.specs.declared.program.Job.TheVariants as job
use Rattle.fc_collect.specs.declared.streams.faults.RunFault.TheVariants as run

-- ======== What the words of a command line ask for, by clap's own specification of a parse: fcanon's command line as one of its values, and what the command that was met and its option mean. From: this project's profile.

-- ---- the command line

-- how the command line writes the three games
abbrev pub variant_names : List Text
variant_names = map variant_word variants

-- and those of them that are dealt by number
abbrev pub dealt_names : List Text
dealt_names = map variant_word (FreeCell ∷ BakersGame ∷ [])

-- the parser of a value takes these names and no other text
abbrev pub TakesAlone : List Text → ValueParser → Type 0
TakesAlone names (parser.Names given) = map (λ name. name.now) given.now ≡ names
TakesAlone names other = ⊥

-- the option `--variant`, which is freecell where it is not given
abbrev pub variant_option : ValueParser → Rule
variant_option choices =
    record (new_rule (codes "variant")) { long = Some (codes "variant"); value_names = 1; parser = Some choices; defaults = variant_word FreeCell ∷ [] }

-- an option of this name that takes no value
abbrev pub flag_option : Text → Text → Rule
flag_option id name = record (new_rule id) { long = Some name; action = Some SetTrue }

-- the options `--any-size`, `--json` and `--header`
abbrev pub any_size_option : Rule
any_size_option = flag_option (codes "any_size") (codes "any-size")

abbrev pub json_option : Rule
json_option = flag_option (codes "json") (codes "json")

abbrev pub header_option : Rule
header_option = flag_option (codes "header") (codes "header")

-- an option of this name that takes a number from `least` up to what a run can count to
abbrev pub start_option : Text → Text → ℕ → Rule
start_option id name least =
    record (new_rule id) { long = Some name; value_names = 1; parser = Some (parser.Signed (pos least) (pos most_countable)) }

-- the options `--from-record` and `--from-byte`
abbrev pub from_record_option : Rule
from_record_option = start_option (codes "from_record") (codes "from-record") 1

abbrev pub from_byte_option : Rule
from_byte_option = start_option (codes "from_byte") (codes "from-byte") 0

-- the argument `N`, which must be given and is a u32
abbrev pub number_argument : Rule
number_argument = record (new_rule (codes "number")) { value_names = 1; parser = Some (parser.Signed (pos 0) (pos 4294967295)); required = true }

-- the options of a command that reads a whole collection, and no piece of one
abbrev pub whole_options : ValueParser → List Rule
whole_options choices = variant_option choices ∷ any_size_option ∷ []

-- and of one that also reads a piece
abbrev pub piece_options : ValueParser → List Rule
piece_options choices = variant_option choices ∷ any_size_option ∷ from_record_option ∷ from_byte_option ∷ []

-- the options of the command that makes a collection
abbrev pub import_options : ValueParser → List Rule
import_options choices =
    variant_option choices ∷ flag_option (codes "columns") (codes "columns") ∷ flag_option (codes "rows") (codes "rows")
    ∷ flag_option (codes "explain") (codes "explain") ∷ flag_option (codes "strict") (codes "strict") ∷ []

-- what the command of each task takes, of which `deal` has choices of its own
abbrev pub rules_of : (choices dealt : ValueParser) → Task → List Rule
rules_of choices dealt Import = import_options choices
rules_of choices dealt Deal = variant_option dealt ∷ number_argument ∷ []
rules_of choices dealt Same = whole_options choices
rules_of choices dealt Count = whole_options choices ++ json_option ∷ []
rules_of choices dealt Closed = whole_options choices ++ json_option ∷ []
rules_of choices dealt Table = piece_options choices ++ json_option ∷ header_option ∷ []
rules_of choices dealt task = piece_options choices

-- the command of a task
abbrev pub command_of : Task → Text
command_of Show = codes "show"
command_of Canon = codes "canon"
command_of Check = codes "check"
command_of Group = codes "group"
command_of Share = codes "share"
command_of Expand = codes "expand"
command_of Unique = codes "unique"
command_of Table = codes "table"
command_of Same = codes "same"
command_of Symmetries = codes "symmetries"
command_of Count = codes "count"
command_of Closed = codes "closed"
command_of Import = codes "import"
command_of Deal = codes "deal"

-- all tasks, in the order of their commands in the help
abbrev pub tasks : List Task
tasks = Show ∷ Canon ∷ Check ∷ Group ∷ Share ∷ Expand ∷ Unique ∷ Table ∷ Same ∷ Symmetries ∷ Count ∷ Closed ∷ Import ∷ Deal ∷ []

-- fcanon without its commands: it wants one, and where nothing is given it says how it is used
abbrev pub bare_program : App
bare_program = on_top (λ top. record top { has_version = true; arg_required_else_help = true; subcommand_required = true }) (new_app (codes "fcanon"))

-- a command of this name that takes this
abbrev pub command_with : List Rule → Text → Shape
command_with rules name = record (new_shape name) { rules = rules }

-- fcanon with the commands of these tasks
abbrev pub program_of : List Task → (choices dealt : ValueParser) → App
program_of tasks choices dealt = fold (λ line task. with_subcommand line (command_with (rules_of choices dealt task) (command_of task))) bare_program tasks

-- and of all
abbrev pub program : (choices dealt : ValueParser) → App
program = program_of tasks

-- ---- what its words mean

-- the task that a command names
abbrev pub task_named : Text → Option Task
task_named name = find (λ task. bytes_eq name (command_of task)) tasks

-- the variant that a value of `--variant` names
abbrev pub variant_of_argument : Text → Option Variant
variant_of_argument name = find (λ variant. bytes_eq name (variant_word variant)) variants

-- the variant that the rows of a command's own arguments give
abbrev pub variant_in : List Row → Option Variant
variant_in rows = option_and_then variant_of_argument (first_of (codes "variant") rows)

-- the number from `least` to `most` that a text writes, which a sign may begin
abbrev pub number_between : ℕ → ℕ → Text → Option ℕ
number_between least most text = if is_signed_in (pos least) (pos most) text then Some (digits_value 10 (without_leading_sign text)) else None

-- the number of a deal that the rows of a command's own arguments give
abbrev pub number_in : List Row → Option ℕ
number_in rows = option_and_then (number_between 0 4294967295) (first_of (codes "number") rows)

-- whether the option that gives this text was there
abbrev pub is_true : Option Text → Bool
is_true None = false
is_true (Some text) = bytes_eq text (codes "true")

abbrev pub any_size_in : List Row → Bool
any_size_in rows = is_true (first_of (codes "any_size") rows)

-- the format that the rows ask for, JSON where that and a header are
abbrev pub format_in : List Row → Format
format_in rows = if is_true (first_of (codes "json") rows) then Json else (if is_true (first_of (codes "header") rows) then Header else Lines)

-- where a piece begins, by the text that says so: at the least number where there is none
abbrev pub start_named : ℕ → Option Text → Option ℕ
start_named least None = Some least
start_named least (Some text) = number_between least most_countable text

-- limits of any size, from this record and this byte on
abbrev pub limits_from : ℕ → ℕ → Limits
limits_from number place = record largest { number = number; place = place }

-- the limits that options ask for: whether any size is, and where a piece begins. A piece that says so is one of a collection of any size
abbrev pub limits_named : Bool → Option Text → Option Text → Option Limits
limits_named false None None = Some standard
limits_named any_size record_text byte_text = option_and_then (λ number. option_map (limits_from number) (start_named 0 byte_text)) (start_named 1 record_text)

-- the limits that the rows of a command's own arguments ask for
abbrev pub limits_in : List Row → Option Limits
limits_in rows = limits_named (any_size_in rows) (first_of (codes "from_record") rows) (first_of (codes "from_byte") rows)

-- what lines of cards are where they may be columns or rows: columns where both are said
abbrev pub lines_in : List Row → LinesAre
lines_in rows = if is_true (first_of (codes "columns") rows) then Columns else (if is_true (first_of (codes "rows") rows) then Rows else Unsaid)

-- what is noted of an import: each change where that is asked for, and strictly where that is
abbrev pub noted_in : List Row → Noted
noted_in rows = if is_true (first_of (codes "strict") rows) then Strict else (if is_true (first_of (codes "explain") rows) then Changes else Doubts)

-- those of a command that is given none
abbrev pub plain_options : Options
plain_options = record { format = Lines; limits = standard; lines_are = Unsaid; noted = Doubts }

-- a task for a variant within limits, without a number
abbrev pub reading_request : Task → Variant → Limits → Request
reading_request task variant limits = record { task = task; variant = variant; number = None; options = record plain_options { limits = limits } }

-- within the limits of a run that is given no others
abbrev pub plain_request : Task → Variant → Request
plain_request task variant = reading_request task variant standard

-- the deal of a number for a variant
abbrev pub deal_request : Variant → ℕ → Request
deal_request variant number = record { task = Deal; variant = variant; number = Some number; options = plain_options }

-- the request for a task and a variant, by the rows of the command's own arguments: a number belongs to a deal alone, and Eight Off is not dealt
abbrev pub request_for : List Row → Task → Variant → Option Request
request_for rows Deal EightOff = None
request_for rows Deal variant = option_map (deal_request variant) (number_in rows)
request_for rows Import variant = Some (record (plain_request Import variant) { options = record plain_options { lines_are = lines_in rows; noted = noted_in rows } })
request_for rows task variant = option_map (λ limits. record (plain_request task variant) { options = record plain_options { format = format_in rows; limits = limits } }) (limits_in rows)

-- the request of a command, by its name and its rows
abbrev pub request_of : Text × List Row → Option Request
request_of command = option_and_then (λ task. option_and_then (request_for command.1 task) (variant_in command.1)) (task_named command.0)

-- ---- what is answered

-- the answer to words of this command line: the request of the command that they name, where clap finds no fault in them; else a fault of a kind that clap finds, unless memory ran out
abbrev pub Answers : App → List Text → Result (Option Request) WordsFault → Type 0
Answers line words (Ok request) = (fault_of line words ≡ []) × (request ≡ option_and_then request_of (subcommand_of line words))
Answers line words (Err Memory) = ⊤
Answers line words (Err (Parser error)) = IsAmong (kind_of error) (fault_of line words)

-- the answer to words of fcanon's command line
pub record Reads (words : List Text) (result : Result (Option Request) WordsFault) : Type 0 where
  pub choices : ValueParser
  pub dealt : ValueParser
  pub named : TakesAlone variant_names choices
  pub dealt_named : TakesAlone dealt_names dealt
  pub answer : Answers (program choices dealt) words result

-- ======== How the program ends. From: this project's profile.

-- ---- what it does for a request

-- the run over a collection that a task is, a table in this format; `import` and `deal` are none
abbrev pub run_of_task : Format → Task → Option RunKind
run_of_task format Show = Some runs.Show
run_of_task format Canon = Some runs.Canon
run_of_task format Check = Some runs.Check
run_of_task format Group = Some runs.Group
run_of_task format Share = Some runs.Share
run_of_task format Expand = Some runs.Expand
run_of_task format Unique = Some runs.Unique
run_of_task format Table = Some (runs.Table format)
run_of_task format Same = Some runs.Same
run_of_task format Symmetries = Some runs.Symmetries
run_of_task format Count = Some (runs.Count (count_format format))
run_of_task format Closed = Some (runs.Closed (count_format format))
run_of_task format Import = None
run_of_task format Deal = None

-- the deal of a number for a game, of which Eight Off is not dealt
abbrev pub deal_job : Variant → ℕ → Option Job
deal_job FreeCell number = Some (job.Deal dealt.FreeCell number)
deal_job BakersGame number = Some (job.Deal dealt.BakersGame number)
deal_job EightOff number = None

-- what a task does for a game, with the number of a deal and with options: nothing where a deal has no number
abbrev pub job_of_task : Task → Variant → Option ℕ → Options → Option Job
job_of_task Import variant number options = Some (job.Import variant options.lines_are options.noted)
job_of_task Deal variant number options = option_and_then (deal_job variant) number
job_of_task task variant number options = option_map (λ kind. job.Run kind variant options.limits) (run_of_task options.format task)

abbrev pub job_of : Request → Option Job
job_of request = job_of_task request.task request.variant request.number request.options

-- ---- how it ends

-- the exit status: 0 where nothing counts as refused, 1 where something does, 3 at a fault
abbrev pub status_of : Result Summary RunFault → ℕ
status_of (Ok summary) = if summary.refused == 0 then 0 else 1
status_of (Err fault) = 3

-- a line on standard error
abbrev pub error_line : Text → Text
error_line words = codes "fcanon: " ++ words ++ line_feed ∷ []

-- the line on standard error after a run or a write: none where it succeeded
abbrev pub fault_line : {A : Type 0} → Result A RunFault → Text
fault_line (Ok _) = []
fault_line (Err fault) = error_line (fault_words fault)

-- the words asked for help or for the version
abbrev pub AsksForText : Error → Type 0
AsksForText error = (kind_of error ≡ DisplayHelp) ⊎ (kind_of error ≡ DisplayVersion)

-- how the program ended: its output before and after, its exit status, and the text for standard error
pub record Ended (W : Type 0) : Type 0 where
  pub output : Stream W
  pub status : ℕ
  pub message : Text

-- the text was to go to the stream, and this came of it
pub record WritesTo {T A : Type 0} (stream : Stream T) (text : Text) (result : Result A RunFault) : Type 0 where
  pub counted : WritesAsCounted stream.old stream.new result
  pub bytes : WritesText text (stream.bytes (inner_of stream.old)) (stream.bytes (inner_of stream.new)) result

-- the text went to the stream, which was flushed once; or a beginning of it did, and then a write or the flush failed
abbrev pub TriesToWrite : {T : Type 0} → Stream T → (text : Text) → Type 0
TriesToWrite stream text = (result : Result ⊤ RunFault) × WritesTo stream text result

-- the text was to be written to the output: the status is 0 where it was, 3 at a fault
abbrev pub EndsWriting : {W : Type 0} → (text : Text) → Ended W → Type 0
EndsWriting text ended = (result : Result ⊤ RunFault) × (ended.status ≡ (if is_ok result then 0 else 3))
    × (ended.message ≡ fault_line result) × WritesTo ended.output text result

-- the printed board of a deal went to the output where its number is in range, and else nothing did
abbrev pub EndsDealing : {W : Type 0} → Game → (number : ℕ) → Ended W → Type 0
EndsDealing game number ended =
    (IsDealNumber number × EndsWriting (text_of (dealt_board game.cells (deal number))) ended)
    ⊎ ((¬ IsDealNumber number) × (ended.output.new ≡ ended.output.old) × (ended.status ≡ 2)
    × (ended.message ≡ error_line (codes "deal number out of range")))

-- and for each game that is dealt
abbrev pub EndsDeal : {W : Type 0} → DealtGame → (number : ℕ) → Ended W → Type 0
EndsDeal dealt.FreeCell = EndsDealing (game_of FreeCell)
EndsDeal dealt.BakersGame = EndsDealing (game_of BakersGame)

-- the parser gave no command: the text that was asked for went to the output, or the words were refused, or there was no memory for the parser's text
abbrev pub EndsParsing : {W : Type 0} → Error → Ended W → Type 0
EndsParsing error ended =
    (AsksForText error × ((text : Text) × EndsWriting text ended))
    ⊎ ((¬ AsksForText error) × (ended.output.new ≡ ended.output.old) × (ended.status ≡ 2))
    ⊎ ((ended.output.new ≡ ended.output.old) × (ended.status ≡ 3) × (ended.message ≡ error_line (fault_words run.Memory)))

-- a run read the input and wrote to the output, within these limits; what it says of the input comes before the line of a fault
abbrev pub EndsRun : {R W : Type 0} → Limits → (said : Text) → (Transfer → Result Summary RunFault → Type 0) → Stream R → Ended W → Type 0
EndsRun limits said Fits input ended = (result : Result Summary RunFault) × (ended.status ≡ status_of result)
    × (ended.message ≡ said ++ fault_line result) × RunsWithin limits Fits input ended.output result

-- how a job ended, or that there was none
abbrev pub EndsJob : {R W : Type 0} → Option Job → Stream R → Ended W → Type 0
EndsJob (Some (job.Run kind variant limits)) input ended = EndsRun limits [] (ResultFits limits (printing_of kind variant)) input ended
EndsJob (Some (job.Import variant lines_are noted)) input ended = (said : Text) × EndsRun standard said (ImportFits variant (record { lines_are = lines_are; noted = noted }) said) input ended
EndsJob (Some (job.Deal game number)) input ended = (input.new ≡ input.old) × EndsDeal game number ended
EndsJob None input ended = (input.new ≡ input.old) × (ended.output.new ≡ ended.output.old) × (ended.status ≡ 2)

-- how the program ended, by what its words were read as. A request that they are read as has a job
abbrev pub EndsBy : {R W : Type 0} → Result (Option Request) WordsFault → Stream R → Ended W → Type 0
EndsBy (Ok request) input ended = EndsJob (option_and_then job_of request) input ended
EndsBy (Err Memory) input ended =
    (input.new ≡ input.old) × (ended.output.new ≡ ended.output.old) × (ended.status ≡ 3) × (ended.message ≡ error_line (fault_words run.Memory))
EndsBy (Err (Parser error)) input ended = (input.new ≡ input.old) × EndsParsing error ended

-- the program read these words, and ended with this status, by what they ask for
pub record EndsProgram {R W E : Type 0} (words : List Text) (input : Stream R) (output : Stream W) (errors : Stream E) (status : ℕ) : Type 0 where
  pub answer : Result (Option Request) WordsFault
  pub message : Text
  pub reads : Reads words answer
  pub ends : EndsBy answer input (record { output = output; status = status; message = message })
  pub said : TriesToWrite errors message

-- the request that words are read as, if they are one's
abbrev pub requested : Result (Option Request) WordsFault → Option Request
requested (Ok request) = request
requested (Err fault) = None

-- it is for an import
abbrev pub AsksForImport : Result (Option Request) WordsFault → Type 0
AsksForImport answer = (request : Request) × (requested answer ≡ Some request) × (request.task ≡ Import)

-- the words ask for an import, which says on standard error what it changes and leaves out
abbrev pub AsksToImport : List Text → Type 0
AsksToImport words = (answer : Result (Option Request) WordsFault) × Reads words answer × AsksForImport answer

-- ---- what the code promises on the way there

-- a run can count up to the limits of the request
abbrev pub IsCountable : Result (Option Request) WordsFault → Type 0
IsCountable answer = IfSome (requested answer) (λ request. AreCountable request.options.limits)

-- and to those of the job
abbrev pub CountsUpTo : Option Job → Type 0
CountsUpTo (Some (job.Run kind variant limits)) = AreCountable limits
CountsUpTo job = ⊤

-- the job is an import
abbrev pub IsImport : Option Job → Type 0
IsImport (Some (job.Import variant lines_are noted)) = ⊤
IsImport job = ⊥
