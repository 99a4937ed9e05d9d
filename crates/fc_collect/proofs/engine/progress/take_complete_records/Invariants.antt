-- The records among the texts so far are printed.
use Rattle.std.proofs.Common.{◌+◌, ◌-◌, ◌<◌, length, List}
use Rattle.fc_record.specs.{Printing.{is_refused}, RecordTexts.{RecordText}}
use Rattle.fc_collect.{proofs.WalkLemmas.{Walks}, specs.inside.{printed_after, Remembers, Sends, Treats}}
use Rattle.fc_collect.specs.{Records.{outputs_after, records_among}, Streams.{GrowsBy, inner_of}}
use Rattle.fc_collect.proofs.engine.progress.take_complete_records.Given as goal

abbrev pub invariant-loop-len : goal.invariant-loop-len
invariant-loop-len g l = record {
  done : List RecordText;
  walks : Walks l.fn.printed.progress l.held l.fn.searched l.printed.progress l.front l.from done;
  sent : (seen : List RecordText) → Remembers g.C.Command.keeps l.fn.config.variant l.fn.printed.kept seen
      → Sends (outputs_after (printed_after g.C.Refusal.PrintsRefusal.text g.C.Command.lines l.fn.config.variant) seen (records_among done)) l.fn.printed.pending.items l.printed.pending.items
      (g.Wr.Write.contents (inner_of l.fn.output)) (g.Wr.Write.contents (inner_of l.output));
  printed : Treats (is_refused l.fn.config.variant) (Remembers g.C.Command.keeps l.fn.config.variant l.fn.printed.kept) (Remembers g.C.Command.keeps l.fn.config.variant l.printed.kept) l.fn.printed.progress l.printed.progress (records_among done);
  fewer : l.printed.progress.refused < l.printed.progress.number;
  counts : GrowsBy l.fn.output l.output (record { failures = 0; fills = 0; ends = 0; flushes = 0 });
}

abbrev pub decreases-loop-len : goal.decreases-loop-len
decreases-loop-len g l = length l.held - (l.front + l.from)
