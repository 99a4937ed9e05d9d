use Rattle.std.proofs.Common.{◌≡◌, All, subst, sym, true}
use Rattle.fc_import.{proofs.SignLemmas.{all_stay}, specs.inside.{is_alone}}
use Rattle.fc_import.proofs.signs.read_text.Goals as goal

pub returns-then-are_alone : goal.returns-then-are_alone
returns-then-are_alone c =
    sym (all_stay c.args.bytes.items (subst (λ text. All (λ byte. is_alone byte ≡ true) text) c.as_slice.ensures.value (c.are_alone.ensures c.if-are_alone.true)))
