use Rattle.std.proofs.{Common.{◌<◌, ◌∙◌, ◌≤◌, arith, drop, get_or, length, subst, sym, take}, lemmas.Bool.{ne_eqb}}
use Rattle.std.proofs.{lemmas.List.{take_rest}, Math.Seq.{take-add}}
use Rattle.{fc_record.specs.RecordTexts.{header_mark}, fc_text.specs.Lines.{lines_from}}
use Rattle.fc_import.proofs.PieceLemmas.{begins_at, begins_front, no_header_after, no_header_alone, whole_after}
use Rattle.fc_import.specs.{Import.{HasNoHeader}, inside.{AreWhole}}
use Rattle.fc_import.proofs.import.lines_len.Goals as goal

pub loop-len-init : goal.loop-len-init
loop-len-init c =
    let text = c.args.text.now in
    let len = c.line_len-len.result in
    record {
      lines = c.line_len-len.ensures.lines;
      no_header = no_header_alone (take len text) c.line_len-len.ensures.one (begins_front text len c.line_len-len.ensures.lines.some ∙ c.requires.no_header);
    }

pub loop-len-preserved : goal.loop-len-preserved
loop-len-preserved c =
    let text = c.args.text.now in
    let at = c.loop-len.len in
    let len = c.line_len-len-in-loop-len.result in
    let before = c.loop-len.invariant in
    let inside : at < length text = omega (arith, c.loop-len-test.true) in
    let lines = subst (λ rest. AreWhole rest len) (take_rest text at) c.line_len-len-in-loop-len.ensures.lines in
    let one = subst (λ rest. length (lines_from 0 (take len rest)) ≤ 1) (take_rest text at) c.line_len-len-in-loop-len.ensures.one in
    let none = no_header_alone (take len (drop at text)) one (begins_front (drop at text) len lines.some ∙ begins_at text at ∙ ne_eqb (get_or text at 0) header_mark c.if-text-len-ne64.true) in
    record {
      lines = whole_after text at len inside before.lines lines;
      no_header = subst HasNoHeader (sym (take-add at len text)) (no_header_after (take at text) (take len (drop at text)) (before.lines.whole inside) before.no_header none);
    }
