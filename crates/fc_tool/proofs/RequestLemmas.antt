-- What is so of each request that words make: it has a job, and a run can count up to its limits.
use Rattle.clap.specs.Words.{first_of, Row, subcommand_of, Text}
use Rattle.std.proofs.Common.{◌∙◌, ◌≡◌, ◌≤◌, ap, arith, Bool, codes, Err, false, is_some, IsSome, List, None, Ok}
use Rattle.std.proofs.Common.{Option, option_and_then, option_map, refl, Result, Some, subst, sym, true, ℕ}
use Rattle.std.proofs.lemmas.Option.{option_and_then_some, same_Some}
use Rattle.fc_board.specs.declared.rule.Variant.{TheVariants.{BakersGame, EightOff, FreeCell}, Variant}
use Rattle.fc_collect.specs.Limits.{AreCountable, most_countable, standard}
use Rattle.fc_collect.specs.declared.{commands.{Format.{Format}, RunKind.{RunKind}}, streams.limits.Limits.{Limits}}
use Rattle.fc_tool.{proofs.WordLemmas.{bounded}, specs.{any_size_in, deal_request, format_in, IsCountable, job_of}}
use Rattle.fc_tool.specs.{job_of_task, limits_from, limits_in, limits_named, number_in, plain_options, plain_request}
use Rattle.fc_tool.specs.{program, Reads, request_for, request_of, run_of_task, start_named, task_named, variant_in}
use Rattle.fc_tool.specs.declared.request.{Options.{Options}, Request.{Request}, Task.{Task, TheVariants.{Canon}}}
use Rattle.fc_tool.specs.declared.request.Task.TheVariants.{Check, Closed, Count, Deal, Expand, Group, Import, Same}
use Rattle.fc_tool.specs.declared.request.Task.TheVariants.{Share, Show, Symmetries, Table, Unique}
use Rattle.fc_tool.specs.declared.request.WordsFault.{WordsFault}
use Rattle.fc_tool.specs.declared.program.Job.TheVariants as job

pub record IsSound (request : Request) : Type 0 where
  pub has_job : IsSome (job_of request)
  pub countable : AreCountable request.options.limits

-- ---- limits

countable_standard : AreCountable standard
countable_standard = record { one = omega arith; some = omega arith; place = omega arith; records = omega arith; bytes = omega arith; reads = omega arith }

countable_from : (number place : ℕ) → 1 ≤ number → number ≤ most_countable → place ≤ most_countable → AreCountable (limits_from number place)
countable_from number place one some small =
    record { one = one; some = some; place = small; records = omega arith; bytes = omega arith; reads = omega arith }

started : (least number : ℕ) (text : Option Text) → least ≤ most_countable → start_named least text ≡ Some number → (least ≤ number) × (number ≤ most_countable)
started least number None small is = let same : least ≡ number = same_Some _ _ is in rw (sym same) (omega arith, small)
started least number (Some text) small is = bounded least most_countable text number is

from_texts : (first_record first_byte : Option Text) (limits : Limits)
    → option_and_then (λ number. option_map (limits_from number) (start_named 0 first_byte)) (start_named 1 first_record) ≡ Some limits → AreCountable limits
from_texts first_record first_byte limits is =
    option_and_then_some (λ number. option_map (limits_from number) (start_named 0 first_byte)) (start_named 1 first_record) limits is
    (λ number starts rest. by number starts (start_named 0 first_byte) refl rest)
  where
    by : (number : ℕ) → start_named 1 first_record ≡ Some number → (place : Option ℕ) → start_named 0 first_byte ≡ place
        → option_map (limits_from number) place ≡ Some limits → AreCountable limits
    by number starts (Some place) begins rest =
        let first = started 1 number first_record (omega arith) starts in
        let byte = started 0 place first_byte (omega arith) begins in
        subst AreCountable (same_Some _ _ rest) (countable_from number place first.0 first.1 byte.1)
    by number starts None begins rest = absurd (cc)

countable_named : (any_size : Bool) (first_record first_byte : Option Text) (limits : Limits) → limits_named any_size first_record first_byte ≡ Some limits → AreCountable limits
countable_named false None None limits is = subst AreCountable (same_Some _ _ is) countable_standard
countable_named false None (Some byte) limits is = from_texts None (Some byte) limits is
countable_named false (Some number) None limits is = from_texts (Some number) None limits is
countable_named false (Some number) (Some byte) limits is = from_texts (Some number) (Some byte) limits is
countable_named true first_record first_byte limits is = from_texts first_record first_byte limits is

countable_in : (rows : List Row) (limits : Limits) → limits_in rows ≡ Some limits → AreCountable limits
countable_in rows = countable_named (any_size_in rows) (first_of (codes "from_record") rows) (first_of (codes "from_byte") rows)

-- ---- jobs

-- a task that is a run has this job
pub run_is : (task : Task) (kind : RunKind) (variant : Variant) (number : Option ℕ) (options : Options) → run_of_task options.format task ≡ Some kind
    → job_of_task task variant number options ≡ Some (job.Run kind variant options.limits)
run_is Import kind variant number options is = absurd (cc)
run_is Deal kind variant number options is = absurd (cc)
run_is Show kind variant number options is = ap (option_map (λ kind. job.Run kind variant options.limits)) is
run_is Canon kind variant number options is = ap (option_map (λ kind. job.Run kind variant options.limits)) is
run_is Check kind variant number options is = ap (option_map (λ kind. job.Run kind variant options.limits)) is
run_is Group kind variant number options is = ap (option_map (λ kind. job.Run kind variant options.limits)) is
run_is Share kind variant number options is = ap (option_map (λ kind. job.Run kind variant options.limits)) is
run_is Expand kind variant number options is = ap (option_map (λ kind. job.Run kind variant options.limits)) is
run_is Unique kind variant number options is = ap (option_map (λ kind. job.Run kind variant options.limits)) is
run_is Table kind variant number options is = ap (option_map (λ kind. job.Run kind variant options.limits)) is
run_is Same kind variant number options is = ap (option_map (λ kind. job.Run kind variant options.limits)) is
run_is Symmetries kind variant number options is = ap (option_map (λ kind. job.Run kind variant options.limits)) is
run_is Count kind variant number options is = ap (option_map (λ kind. job.Run kind variant options.limits)) is
run_is Closed kind variant number options is = ap (option_map (λ kind. job.Run kind variant options.limits)) is

-- a request for a run has a job
has_run : (task : Task) (kind : RunKind) (variant : Variant) (options : Options) → run_of_task options.format task ≡ Some kind → IsSome (job_of_task task variant None options)
has_run task kind variant options is = ap is_some (run_is task kind variant None options is)

abbrev with_limits : Format → Task → Variant → Limits → Request
with_limits format task variant limits = record (plain_request task variant) { options = record plain_options { format = format; limits = limits } }

sound_run : (format : Format) (task : Task) (kind : RunKind) (variant : Variant) (limits : Option Limits) (request : Request) → run_of_task format task ≡ Some kind
    → ((found : Limits) → limits ≡ Some found → AreCountable found) → option_map (with_limits format task variant) limits ≡ Some request → IsSound request
sound_run format task kind variant (Some found) request is countable asked =
    subst IsSound (same_Some _ _ asked) (record { has_job = has_run task kind variant (record plain_options { format = format; limits = found }) is; countable = countable found refl })
sound_run format task kind variant None request is countable asked = absurd (cc)

sound_deal : (variant : Variant) (number : Option ℕ) (request : Request) → ((number : ℕ) → IsSome (job_of (deal_request variant number)))
    → option_map (deal_request variant) number ≡ Some request → IsSound request
sound_deal variant (Some number) request dealt is = subst IsSound (same_Some _ _ is) (record { has_job = dealt number; countable = countable_standard })
sound_deal variant None request dealt is = absurd (cc)

sound_for : (rows : List Row) (task : Task) (variant : Variant) (request : Request) → request_for rows task variant ≡ Some request → IsSound request
sound_for rows Deal EightOff request is = absurd (cc)
sound_for rows Deal FreeCell request is = sound_deal FreeCell (number_in rows) request (λ number. refl) is
sound_for rows Deal BakersGame request is = sound_deal BakersGame (number_in rows) request (λ number. refl) is
sound_for rows Import variant request is = subst IsSound (same_Some _ _ is) (record { has_job = refl; countable = countable_standard })
sound_for rows Show variant request is = sound_run (format_in rows) Show _ variant (limits_in rows) request refl (countable_in rows) is
sound_for rows Canon variant request is = sound_run (format_in rows) Canon _ variant (limits_in rows) request refl (countable_in rows) is
sound_for rows Check variant request is = sound_run (format_in rows) Check _ variant (limits_in rows) request refl (countable_in rows) is
sound_for rows Group variant request is = sound_run (format_in rows) Group _ variant (limits_in rows) request refl (countable_in rows) is
sound_for rows Share variant request is = sound_run (format_in rows) Share _ variant (limits_in rows) request refl (countable_in rows) is
sound_for rows Expand variant request is = sound_run (format_in rows) Expand _ variant (limits_in rows) request refl (countable_in rows) is
sound_for rows Unique variant request is = sound_run (format_in rows) Unique _ variant (limits_in rows) request refl (countable_in rows) is
sound_for rows Table variant request is = sound_run (format_in rows) Table _ variant (limits_in rows) request refl (countable_in rows) is
sound_for rows Same variant request is = sound_run (format_in rows) Same _ variant (limits_in rows) request refl (countable_in rows) is
sound_for rows Symmetries variant request is = sound_run (format_in rows) Symmetries _ variant (limits_in rows) request refl (countable_in rows) is
sound_for rows Count variant request is = sound_run (format_in rows) Count _ variant (limits_in rows) request refl (countable_in rows) is
sound_for rows Closed variant request is = sound_run (format_in rows) Closed _ variant (limits_in rows) request refl (countable_in rows) is

sound_of : (name : Text) (rows : List Row) (request : Request) → request_of (name, rows) ≡ Some request → IsSound request
sound_of name rows request is =
    option_and_then_some (λ task. option_and_then (request_for rows task) (variant_in rows)) (task_named name) request is
    (λ task named rest. option_and_then_some (request_for rows task) (variant_in rows) request rest
    (λ variant given found. sound_for rows task variant request found))

pub sound_request : (words : List Text) (answer : Option Request) (request : Request) → Reads words (Ok answer) → answer ≡ Some request → IsSound request
sound_request words answer request reads is =
    option_and_then_some request_of (subcommand_of (program reads.choices reads.dealt) words) request (sym reads.answer.1 ∙ is)
    (λ command met found. sound_of command.0 command.1 request found)

-- a run can count up to the limits of what words are read as
pub countable_answer : (words : List Text) (answer : Result (Option Request) WordsFault) → Reads words answer → IsCountable answer
countable_answer words (Ok (Some request)) reads = (sound_request words (Some request) request reads refl).countable
countable_answer words (Ok None) reads = tt
countable_answer words (Err fault) reads = tt
