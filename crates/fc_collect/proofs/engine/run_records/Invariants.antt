-- Between two turns all finished records are printed and written.
use Rattle.fc_collect.{proofs.RunLemmas.{ends_of, run_of, Running}, specs.inside.{Remembers}}
use Rattle.fc_collect.proofs.engine.run_records.Given as goal

abbrev pub invariant-loop-turn : goal.invariant-loop-turn
invariant-loop-turn g l =
    Running (run_of g.C.Refusal.PrintsRefusal.text g.C.Command.lines g.C.Command.fails l.config.variant l.config.limits)
    (Remembers g.C.Command.keeps l.config.variant l.printed.kept)
    (ends_of g.Rd.Read.remaining g.Wr.Write.contents l.fn.input l.fn.output)
    (record {
      ends = ends_of g.Rd.Read.remaining g.Wr.Write.contents l.input l.output;
      progress = l.printed.progress;
      held = l.window;
      pending = l.printed.pending.items;
      turns = l._turn;
    })
