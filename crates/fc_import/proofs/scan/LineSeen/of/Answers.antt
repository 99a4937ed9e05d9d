use Rattle.{fc_import.proofs.QuietLemmas.{cards_more}, std.proofs.Common.{ap, arith, length, rules}}
use Rattle.fc_import.proofs.scan.LineSeen.of.Goals as goal

pub loop-word-preserved : goal.loop-word-preserved
loop-word-preserved c =
    let steps = c.in-Some.ensures.steps in
    let long = ap length steps in
    let kept = c.loop-word.invariant.words in
    let small = c.loop-word.invariant.small in
    let more = c.saturating_add-words.ensures in
    record {
      cards = cards_more _ _ _ steps _ _ _ _ c.loop-word.invariant.cards c.in_ok-push_word.ensures;
      words = omega (arith, long, kept, small, more);
      small = omega (arith, more);
      numbers = search rules;
    }

pub returns-clause-seen : goal.returns-clause-seen
returns-clause-seen c =
    let none = ap length c.in-None.ensures.steps.0 in
    let kept = c.loop-word.invariant.words in
    let small = c.loop-word.invariant.small in
    record {
      words = omega (arith, none, kept, small);
      numbers = search rules;
    }
