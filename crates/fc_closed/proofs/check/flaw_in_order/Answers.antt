use Rattle.std.proofs.{Common.{◌<◌, ◌≡◌, ◌≤◌, arith, subst, true}, lemmas.List.{get_or_default}}
use Rattle.{fc_board.specs.Boards.{Board}, fc_bytes.specs.{HasKey, HoldsBoard}}
use Rattle.fc_closed.proofs.KeysLemmas.{not_above_at, one_key, so_at}
use Rattle.fc_closed.proofs.check.flaw_in_order.Goals as goal

pub returns-then-not-is_same-clause-flaw : goal.returns-then-not-is_same-clause-flaw
returns-then-not-is_same-clause-flaw g c = λ are.
    let game = g.R.Rule.game in
    let laws = g.met.R.Rule.rule_laws in
    let few : game.cells ≤ 8 = omega (arith, laws.cells_are, laws.at_most_eight) in
    let holds = c.in-Some.ensures.board in (
      are,
      so_at c.args.keys.now c.args.place _ (λ key. ((board : Board) × HoldsBoard game key board) × ¬ HasKey game g.R.Rule.renamings key key) c.requires (
        (c.in-Some.board, holds),
        λ own.
            let same = c.is_same.ensures.1 (one_key game g.R.Rule.renamings few _ c.key_of.result _ (c.key_of.ensures _ holds) own) in
            let no = c.if-not-is_same.true in cc,
      ),
    )

pub returns-then-not-is_less-clause-flaw : goal.returns-then-not-is_less-clause-flaw
returns-then-not-is_less-clause-flaw g c = λ are.
    let game = g.R.Rule.game in
    let holds = c.in-Some.ensures.board in
    let later : 0 < c.args.place = omega (arith, c.if-place-ne0.true) in (
      are,
      so_at c.args.keys.now c.args.place _ (λ key. HasKey game g.R.Rule.renamings key key) c.requires
          (subst (HasKey game g.R.Rule.renamings _) (c.is_same.ensures.0 c.if-not-is_same.false) (c.key_of.ensures _ holds)),
      not_above_at c.args.keys.now c.args.place _ _ c.requires later (λ less.
          let yes : c.is_less.result ≡ true = c.is_less.ensures.1 less in let no = c.if-not-is_less.true in cc),
    )

pub returns-clause-key : goal.returns-clause-key
returns-clause-key g c = λ _ default.
    let game = g.R.Rule.game in
    let holds = c.in-Some.ensures.board in
    subst (λ key. HasKey game g.R.Rule.renamings key key) (get_or_default c.args.keys.now c.args.place _ default c.requires)
    (subst (HasKey game g.R.Rule.renamings _) (c.is_same.ensures.0 c.if-not-is_same.false) (c.key_of.ensures _ holds))
