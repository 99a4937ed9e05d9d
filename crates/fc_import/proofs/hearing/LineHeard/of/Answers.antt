use Rattle.std.proofs.Common.{◌∙◌, ap, if◌then◌else◌}
use Rattle.fc_import.{proofs.QuietLemmas.{said_more}, specs.{Scan.{after_word, uncommented}, Seen.{piece_of, said_of}}}
use Rattle.fc_import.proofs.hearing.LineHeard.of.Goals as goal

pub loop-word-preserved : goal.loop-word-preserved
loop-word-preserved g c =
    let is_said = c.in_ok-is_said.is_said in
    let old = said_of c.loop-word.moves.items c.loop-word.heard in
    said_more _ _ _ c.in-Some.ensures.steps (after_word g.R.Rule.game (uncommented c.args.line.now)) is_said old _ _ c.loop-word.invariant
    (c.in_ok-heard.ensures ∙ ap (λ text. if is_said then old else after_word g.R.Rule.game text old (piece_of c.in-Some.word)) c.uncommented-text.ensures)
