-- The walk leads over each text, and each is small, or one is found that is not.
use Rattle.std.proofs.Common.{◌++◌, ◌↔◌, ◌∷◌, [], ap₂, drop, IsTrue, subst}
use Rattle.std.proofs.lemmas.List.{Elements.{All-append, All-cons, All-nil}, take_rest}
use Rattle.fc_collect.proofs.WalkLemmas.{small_last, small_more, taken, untrue, walks_last, walks_more, walks_on}
use Rattle.fc_collect.specs.{inside.{text_at}, Promises.{IsSmall}}
use Rattle.fc_collect.proofs.engine.progress.are_each_small.Goals as goal

pub returns-then-not-is_small : goal.returns-then-not-is_small
returns-then-not-is_small c =
    let held = c.args.held.now in
    let front = c.loop-len.front in
    let (done, walks, each) = c.loop-len.invariant in
    let (more, same) = walks_more c.args.progress c.loop-len.at held _ _ c.args.searched front c.loop-len.from c.in-Some.len done
    walks (take_rest held front) c.in-Some.ensures (taken held front c.in-Some.len) in
    (λ is_true. absurd (cc), λ small. absurd (untrue c.is_small.result c.if-not-is_small.true (c.is_small.ensures.1 (small_more c.args.limits c.args.progress held c.args.searched done more _ same small))))

pub loop-len-preserved : goal.loop-len-preserved
loop-len-preserved c =
    let held = c.args.held.now in
    let front = c.loop-len.front in
    let (done, walks, small) = c.loop-len.invariant in (
      done ++ _ ∷ [],
      walks_on c.args.progress c.loop-len.at c.pass.new.progress held _ _ c.args.searched front c.loop-len.from c.in-Some.len done
          walks (take_rest held front) c.in-Some.ensures (taken held front c.in-Some.len) c.pass.ensures.passed,
      All-append (IsSmall c.args.limits) done _ small (All-cons (IsSmall c.args.limits) _ [] (c.is_small.ensures.0 c.if-not-is_small.false) (All-nil (IsSmall c.args.limits))),
    )

pub returns : goal.returns
returns c =
    let held = c.args.held.now in
    let front = c.loop-len.front in
    let (done, walks, small) = c.loop-len.invariant in
    let (finished, begun) = walks_last c.args.progress c.loop-len.at held _ c.args.searched front c.loop-len.from done walks (take_rest held front) c.in_default.ensures in
    small_last c.args.limits (text_at c.loop-len.at (drop front held)) done _ (IsTrue c.is_small-2.result) (ap₂ (λ texts text. texts ++ text ∷ []) finished begun) small
    (subst (λ l. IsTrue c.is_small-2.result ↔ IsSmall c.args.limits (text_at c.loop-len.at l)) (take_rest held front) c.is_small-2.ensures)
