use Rattle.{clap.specs.Words.{Text}, fc_board.specs.declared.rule.Variant.TheVariants.{FreeCell}}
use Rattle.std.proofs.Common.{◌++◌, ◌<◌, ◌∙◌, ◌∷◌, ◌≡◌, ◌≢◌, [], ap, append-nil, arith, Err, List, None, Ok, Option}
use Rattle.std.proofs.{Common.{Result, Some, subst, sym, ℕ}, lemmas.Option.{same_Some}}
use Rattle.fc_collect.specs.{Limits.{standard}, Records.{records_from}}
use Rattle.fc_collect.specs.Runs.{ending_of_kind, output_of_kind, TransfersWithin}
use Rattle.fc_collect.specs.Streams.{bytes_of, inner_of, Stream}
use Rattle.fc_collect.specs.declared.commands.{Format.TheVariants.{Lines}, RunKind.{RunKind}}
use Rattle.fc_collect.specs.declared.streams.faults.{RunFault.{RunFault}, Summary.{Summary}}
use Rattle.fc_tool.proofs.RequestLemmas.{run_is}
use Rattle.fc_tool.specs.declared.program.Job.TheVariants as job
use Rattle.clap.specs.Words.{kind_of}
use Rattle.fc_tool.{proofs.CommandLines.{among_none, by_default, task_accepted}, specs.{command_of, Ended, EndsBy}}
use Rattle.fc_tool.specs.{EndsJob, job_of, plain_options, plain_request, Reads, run_of_task, status_of}
use Rattle.fc_tool.specs.declared.request.{Request.{Request}, Task.{Task, TheVariants.{Deal}}}
use Rattle.fc_tool.specs.declared.request.WordsFault.{TheVariants.{Memory, Parser}, WordsFault}
use Rattle.fc_tool.proofs.laws.a_program_that_ends_well_has_written_what_is_due.Goals as goal

-- what is printed for these bytes
abbrev due : RunKind → List ℕ → List ℕ
due kind read = output_of_kind kind FreeCell (records_from standard read) ++ ending_of_kind kind FreeCell (records_from standard read)

-- a run that succeeds has read all and written what is due
transferred : (kind : RunKind) (read held : List ℕ) (left after : Option (List ℕ)) (summary : Summary)
    → TransfersWithin standard kind FreeCell (record { input = Some read; left = left; before = Some held; after = after }) (Ok summary)
    → after ≡ Some (held ++ due kind read)
transferred kind read held None after summary run = absurd run.consumed
transferred kind read held (Some rest) None summary run = absurd run.appended
transferred kind read held (Some rest) (Some after) summary run =
    let (ended, out) = run.fits in
    let all : read ≡ run.read = run.consumed ∙ ap (λ rest. run.read ++ rest) ended ∙ append-nil run.read in
    ap Some (run.appended ∙ ap (λ written. held ++ written) out.whole ∙ ap (λ read. held ++ due kind read) (sym all))

never : (task : Task) (kind : RunKind) → run_of_task Lines task ≡ Some kind → task ≢ Deal
never task kind is same = absurd (let none = subst (λ task. run_of_task Lines task ≡ Some kind) same is in cc)

module _ {R W : Type 0} (input : Stream R) (output : Stream W) (status : ℕ) (message : List ℕ)
    (task : Task) (kind : RunKind) (called : Text) (is_run : run_of_task Lines task ≡ Some kind) (read held : List ℕ)
    (low : status < 2) (given : input.bytes (inner_of input.old) ≡ Some read) (holds : output.bytes (inner_of output.old) ≡ Some held) where
  abbrev IsDue : Type 0
  IsDue = output.bytes (inner_of output.new) ≡ Some (held ++ due kind read)

  abbrev ended : Ended W
  ended = record { output = output; status = status; message = message }

  requested : EndsJob (Some (job.Run kind FreeCell standard)) input ended → IsDue
  requested (result, is_status, said, run) = by result is_status run.wrote
    where
      by : (result : Result Summary RunFault) → status ≡ status_of result → TransfersWithin standard kind FreeCell (bytes_of input output) result → IsDue
      by (Ok summary) is_status transfers =
          transferred kind read held (bytes_of input output).left (bytes_of input output).after summary
          (subst (λ given. TransfersWithin standard kind FreeCell (record (bytes_of input output) { input = given; before = Some held }) (Ok summary)) given
          (subst (λ holds. TransfersWithin standard kind FreeCell (record (bytes_of input output) { before = holds }) (Ok summary)) holds transfers))
      by (Err fault) is_status transfers = absurd (omega (arith, low, is_status))

  answered : (answer : Result (Option Request) WordsFault) → Reads (called ∷ command_of task ∷ []) answer → EndsBy answer input ended → IsDue
  answered (Ok None) reads (same, same', is_status) = absurd (omega (arith, low, is_status))
  answered (Ok (Some request)) reads ends =
      let is : request ≡ plain_request task FreeCell = same_Some _ _ (reads.answer.1 ∙ by_default task (never task kind is_run) reads.choices reads.dealt called) in
      requested (subst (λ job. EndsJob job input ended) (ap job_of is ∙ run_is task kind FreeCell None plain_options is_run) ends)
  answered (Err Memory) reads (same, same', is_status, said) = absurd (omega (arith, low, is_status))
  answered (Err (Parser error)) reads ends =
      absurd (among_none _ (kind_of error) (task_accepted task (never task kind is_run) reads.choices reads.dealt called reads.named) reads.answer)

pub returns : goal.returns
returns g c task kind called status read held is_run program low given holds =
    answered (record { bytes = g.Rd.Read.remaining; old = c.args.before.now.input; new = c.args.after.now.input })
    (record { bytes = g.Wr.Write.contents; old = c.args.before.now.output; new = c.args.after.now.output })
    status program.message task kind called is_run read held low given holds program.answer program.reads program.ends
