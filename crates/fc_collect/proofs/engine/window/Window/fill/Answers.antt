use Rattle.std.proofs.Common.{◌+◌, ◌-◌, ◌∙◌, ◌≡◌, ◌≤◌, ap, arith, length, length-take-le, List, subst, sym, take, ℕ}
use Rattle.std.proofs.lemmas.List.{with_items_is}
use Rattle.fc_collect.{proofs.WindowLemmas.{filled_held, length_put}, specs.inside.{FillsWindow}}
use Rattle.fc_collect.specs.Streams.{inner_of}
use Rattle.fc_collect.proofs.engine.window.Window.fill.Goals as goal
use borrow.Rule.Slice.PartMut.{put_mid}

pub returns-clause-bytes : goal.returns-clause-bytes
returns-clause-bytes g c =
    let i = c.self.inside in
    let now = c.deref_mut.result.now in
    let k = i.count + 65536 - i.count in
    let filled = put_mid i.count k now c.read.new.buf in
    let P : List ℕ → Type 0 = λ l. FillsWindow c.args.self.now (take (i.count + c.in_ok-given.given) l) (g.Rd.Read.remaining (inner_of c.args.input.now)) (g.Rd.Read.remaining (inner_of c.read.new.self)) c.in_ok-given.given in
    let small : i.count ≤ 65536 = omega (arith, ap length c.self.view_is, length-take-le i.count i.bytes.items (omega arith)) in
    let whole : length filled ≡ i.bytes.len = length_put now c.read.new.buf i.count k (omega (arith, ap length c.deref_mut.ensures.value)) (omega (arith, c.read.auto.buf)) ∙ ap length c.deref_mut.ensures.value ∙ sym i.bytes.ok.0 in
    subst P (sym (with_items_is i.bytes filled whole))
    (filled_held i.bytes.items now c.read.new.buf c.args.self.now i.count c.in_ok-given.given k _ _ (omega arith) (omega (arith, c.in_ok-given.ensures.bound)) (omega (arith, c.read.auto.buf)) c.deref_mut.ensures.value c.self.view_is c.in_ok-given.ensures.bytes.0 c.in_ok-given.ensures.bytes.1)
