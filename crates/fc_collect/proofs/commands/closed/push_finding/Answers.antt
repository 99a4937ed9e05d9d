-- The first board that has a flaw is named, or there is none.
use Rattle.std.proofs.{Common.{◌++◌, ◌<◌, ◌∙◌, ap, ap₂, arith, length, sym}, lemmas.List.{get_or_default}}
use Rattle.std.specs.Option.{is_some, unwrap_or}
use Rattle.fc_collect.proofs.ClosedLemmas.{classes_counted, flaw_found, is_kept, no_flaw, none_flawed}
use Rattle.fc_collect.specs.{Closed.{Flawed, flawless}, Groups.{groups_of}}
use Rattle.fc_collect.specs.declared.commands.closed.KeptBoard.{KeptBoard}
use Rattle.fc_collect.proofs.commands.closed.push_finding.Goals as goal

pub returns-in-Some-clause-printed : goal.returns-in-Some-clause-printed
returns-in-Some-clause-printed g c members keeps =
    let value = c.as_slice-boards.ensures.value in
    let inside : c.loop-at.at < length c.args.kept.now.boards.items = omega (arith, ap length value, c.loop-at-test.true) in
    let kept = is_kept c.args.kept.now members keeps c.loop-at.at (c.loop-at.invariant.1 members keeps) c.index-boards-at.result inside _ value c.index-boards-at.is in
    let found = flaw_found c.args.kept.now members keeps c.loop-at.at (c.loop-at.invariant.1 members keeps) c.index-boards-at.result inside _ c.in-Some.flaw kept.name (c.in-Some.ensures members _ keeps.keys kept) in
    let again = get_or_default c.as_slice-boards.result.now c.loop-at.at c.index-boards-at-in-Some.result c.index-boards-at.result c.loop-at-test.true ∙ sym c.index-boards-at.is in
    let called = c.as_slice.ensures.value ∙ ap (λ (held : KeptBoard). held.name.items) again in
    c.in_ok-print_flawed.ensures.printed
    ∙ ap₂ (λ old name. old ++ g.P.PrintsFinding.text (Flawed name c.in-Some.flaw)) c.loop-at.invariant.0 called
    ∙ ap (λ finding. c.args.out.now.items ++ g.P.PrintsFinding.text (unwrap_or finding (flawless c.args.summary (length (groups_of members))))) (sym found)

pub returns-in-Some-clause-found : goal.returns-in-Some-clause-found
returns-in-Some-clause-found g c members keeps =
    let value = c.as_slice-boards.ensures.value in
    let inside : c.loop-at.at < length c.args.kept.now.boards.items = omega (arith, ap length value, c.loop-at-test.true) in
    let kept = is_kept c.args.kept.now members keeps c.loop-at.at (c.loop-at.invariant.1 members keeps) c.index-boards-at.result inside _ value c.index-boards-at.is in
    sym (ap is_some (flaw_found c.args.kept.now members keeps c.loop-at.at (c.loop-at.invariant.1 members keeps) c.index-boards-at.result inside _ c.in-Some.flaw kept.name (c.in-Some.ensures members _ keeps.keys kept)))

pub loop-at-preserved : goal.loop-at-preserved
loop-at-preserved g c = (
  c.loop-at.invariant.0,
  λ members keeps.
      let value = c.as_slice-boards.ensures.value in
      let inside : c.loop-at.at < length c.args.kept.now.boards.items = omega (arith, ap length value, c.loop-at-test.true) in
      let kept = is_kept c.args.kept.now members keeps c.loop-at.at (c.loop-at.invariant.1 members keeps) c.index-boards-at.result inside _ value c.index-boards-at.is in
      no_flaw c.args.kept.now members keeps c.loop-at.at (c.loop-at.invariant.1 members keeps) c.index-boards-at.result inside (c.in_default.ensures members _ keeps.keys kept),
)

pub returns-clause-printed : goal.returns-clause-printed
returns-clause-printed g c members keeps =
    let value = c.as_slice-boards.ensures.value in
    let none = none_flawed c.args.kept.now members keeps c.loop-at.at (c.loop-at.invariant.1 members keeps) (omega (arith, ap length value, c.loop-at-test.false)) in
    c.in_ok-print_flawless.ensures.printed
    ∙ ap (λ old. old ++ g.P.PrintsFinding.text (flawless c.args.summary c.len.result)) c.loop-at.invariant.0
    ∙ ap (λ classes. c.args.out.now.items ++ g.P.PrintsFinding.text (flawless c.args.summary classes)) (c.len.ensures.len ∙ classes_counted c.args.kept.now.keys.keys members keeps.keys)
    ∙ ap (λ finding. c.args.out.now.items ++ g.P.PrintsFinding.text (unwrap_or finding (flawless c.args.summary (length (groups_of members))))) (sym none)

pub returns-clause-found : goal.returns-clause-found
returns-clause-found g c members keeps =
    let value = c.as_slice-boards.ensures.value in
    sym (ap is_some (none_flawed c.args.kept.now members keeps c.loop-at.at (c.loop-at.invariant.1 members keeps) (omega (arith, ap length value, c.loop-at-test.false))))
