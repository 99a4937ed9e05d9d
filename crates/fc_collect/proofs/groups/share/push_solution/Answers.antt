use Rattle.std.proofs.{Common.{◌++◌, ◌∙◌, ◌≡◌, ap, refl, sym}, lemmas.Result.{on_ok_weaker}}
use Rattle.fc_collect.{proofs.ShareLemmas.{image-printed, owner-line}, specs.inside.Held.{held, variant_of}}
use Rattle.fc_collect.specs.declared.groups.by_game.ByGame.{ByGame, TheVariants.{BakersGame, EightOff, FreeCell}}
use Rattle.fc_board.specs.declared.rule.Variant.TheVariants as variant
use Rattle.fc_collect.proofs.groups.share.push_solution.Goals as goal
use Rattle.fc_collect.proofs.groups.share.push_solution.Goals.{in_default-via-in-BakersGame+in_default}
use Rattle.fc_collect.proofs.groups.share.push_solution.Goals.{in_default-via-in-EightOff+in_default}
use Rattle.fc_collect.proofs.groups.share.push_solution.Goals.{in_default-via-in-FreeCell+in_default}

pub returns-then-solution-member : goal.returns-then-solution-member
returns-then-solution-member c =
    record {
      printed = on_ok_weaker c.push_list.result (λ ensured said owner holds keeps alike.
          ensured ∙ ap (λ line. c.args.out.now.items ++ line) (owner-line said owner c.args.member.now c.args.solution.now holds keeps c.if-solution-member.true)) c.push_list.ensures.printed;
    }

pub returns-in-FreeCell-FreeCell : goal.returns-in-FreeCell-FreeCell
returns-in-FreeCell-FreeCell c =
    let at = c.in-FreeCell-FreeCell in
    record { printed = image-printed c.push_image.result c.args.member.now c.args.solution.now _ _ at.to at.back _ _ c.if-solution-member.false (ap held at.is-0) (ap held at.is-1) c.then.ensures.value c.in_ok-list.ensures c.push_image.ensures.printed }

pub returns-in-BakersGame-BakersGame : goal.returns-in-BakersGame-BakersGame
returns-in-BakersGame-BakersGame c =
    let at = c.in-BakersGame-BakersGame in
    record { printed = image-printed c.push_image-in-BakersGame-BakersGame.result c.args.member.now c.args.solution.now _ _ at.to at.back _ _ c.if-solution-member.false (ap held at.is-0) (ap held at.is-1) c.then-in-BakersGame-BakersGame.ensures.value c.in_ok-list.ensures c.push_image-in-BakersGame-BakersGame.ensures.printed }

pub returns-in-EightOff-EightOff : goal.returns-in-EightOff-EightOff
returns-in-EightOff-EightOff c =
    let at = c.in-EightOff-EightOff in
    record { printed = image-printed c.push_image-in-EightOff-EightOff.result c.args.member.now c.args.solution.now _ _ at.to at.back _ _ c.if-solution-member.false (ap held at.is-0) (ap held at.is-1) c.then-in-EightOff-EightOff.ensures.value c.in_ok-list.ensures c.push_image-in-EightOff-EightOff.ensures.printed }

-- a value whose variant is named is of its game
named : {A : Type 0} (value : ByGame A A A) → (variant_of value ≡ variant.FreeCell → value ≡ FreeCell (held value))
    × (variant_of value ≡ variant.BakersGame → value ≡ BakersGame (held value)) × (variant_of value ≡ variant.EightOff → value ≡ EightOff (held value))
named (FreeCell value) = ((λ e. refl), (λ e. cc), (λ e. cc))
named (BakersGame value) = ((λ e. cc), (λ e. refl), (λ e. cc))
named (EightOff value) = ((λ e. cc), (λ e. cc), (λ e. refl))

pub returns-in_default : goal.returns-in_default
returns-in_default c =
    record {
      printed = λ said owner holds keeps alike.
          let same = holds.variant ∙ alike ∙ sym keeps.variant in
          let is = named c.args.member.now.back in
          absurd (elim c.in_default.branch [
            | in_default-via-in-FreeCell+in_default w ↦ w.in_default.not-FreeCell-1 _ (is.0 (same ∙ ap variant_of w.in_default.is-0))
            | in_default-via-in-BakersGame+in_default w ↦ w.in_default.not-BakersGame-1 _ (is.1 (same ∙ ap variant_of w.in_default.is-0))
            | in_default-via-in-EightOff+in_default w ↦ w.in_default.not-EightOff-1 _ (is.2 (same ∙ ap variant_of w.in_default.is-0))
          ]);
    }
