use Rattle.std.proofs.{Common.{◌+◌, ◌∙◌, ◌≡◌, ap, arith, inl, inr, sym, true}, lemmas.Bool.{and_parts}}
use Rattle.std.{proofs.lemmas.{Bool.Decides.{leb_tells}, List.Elements.{All-from_get_or}}, specs.Prelude.{slice_index}}
use Rattle.fc_import.specs.inside.{is_alone}
use Rattle.fc_import.proofs.signs.are_alone.Goals as goal

pub loop-byte-preserved : goal.loop-byte-preserved
loop-byte-preserved c = λ both place inside.
    let parts = and_parts c.loop-byte.are_alone c.is_alone-are_alone.result both in
    elim (leb_tells (place + 1) c.loop-byte.byte-index) [
      | inl before ↦ c.loop-byte.invariant parts.0 place (omega (arith, before.1))
      | inr after ↦
          let last : place ≡ c.loop-byte.byte-index = omega (arith, after.1, inside) in
          ap (λ place. is_alone (slice_index c.args.text.now place)) last ∙ sym c.is_alone-are_alone.ensures ∙ parts.1
    ]

pub returns : goal.returns
returns c = λ yes.
    All-from_get_or (λ byte. is_alone byte ≡ true) c.args.text.now 0
    (λ place inside. c.loop-byte.invariant yes place (omega (arith, inside, c.loop-byte-test.false)))
