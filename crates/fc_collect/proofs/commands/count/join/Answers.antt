-- The key says whether the group is there: the member joins it, or begins one.
use Rattle.std.proofs.Common.{◌++◌, ◌∙◌, ◌∷◌, ◌≡◌, [], ap, get_or, set, subst}
use Rattle.fc_collect.{proofs.TallyLemmas.{solved-begun, solved-joined}, specs.inside.{IsPlaceAmong}}
use Rattle.fc_collect.proofs.commands.count.join.Goals as goal

pub returns-in-Some : goal.returns-in-Some
returns-in-Some c =
    let ensured = c.in_ok-place.ensures in
    let before = c.index_mut-kept.result.now in
    record {
      kept = λ members member has own solved gathers.
          solved-joined c.args.groups.now _ members member c.args.key c.in-Some.place before c.args.solved own has ensured.keys solved
          (subst (IsPlaceAmong _ _) c.in-Some.is ensured.place) (subst (λ groups. before ≡ get_or groups c.in-Some.place before) ensured.groups c.index_mut-kept.ensures.value)
          (ap (λ groups. set groups c.in-Some.place c.either.result) ensured.groups ∙ ap (set c.args.groups.now.groups.items c.in-Some.place) c.either.ensures) gathers;
    }

pub returns-in_ok-push-in-None : goal.returns-in_ok-push-in-None
returns-in_ok-push-in-None c =
    let ensured = c.in_ok-place.ensures in
    record {
      kept = λ members member has own solved gathers.
          solved-begun c.args.groups.now _ members member c.args.key c.args.solved own has ensured.keys solved
          (subst (IsPlaceAmong _ _) c.in-None.is ensured.place) (c.in_ok-push-in-None.ensures.items ∙ ap (λ groups. groups ++ c.args.solved ∷ []) ensured.groups) gathers;
    }
