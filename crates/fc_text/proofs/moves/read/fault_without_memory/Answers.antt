use Rattle.std.proofs.Common.{◌++◌, ◌+◌, ◌∙◌, ◌∷◌, ◌≡◌, [], ap, arith, length, length-append, refl, rules, subst}
use Rattle.fc_text.proofs.ListedLemmas.{bad_or_too_many, listed_or_bad, one_bad_token}
use Rattle.fc_text.proofs.ReadMovesLemmas.{none_read, read_all, read_bad, read_next, read_too_many}
use Rattle.fc_text.specs.Notation.{BadTokenAt, most_moves}
use Rattle.fc_text.specs.declared.fault.MovesFault.TheVariants.{BadToken}
use Rattle.fc_text.proofs.moves.read.fault_without_memory.Goals as goal

pub loop-token-init : goal.loop-token-init
loop-token-init g c = record { items = []; many = refl; read = none_read (g.M.Notated.is_token g.R.Rule.game) c.args.text.now _ (search rules) }

pub returns-then-good-eq-MOST_MOVES-clause-found : goal.returns-then-good-eq-MOST_MOVES-clause-found
returns-then-good-eq-MOST_MOVES-clause-found g c = λ place bad.
    let names = g.M.Notated.is_token g.R.Rule.game in
    let items = c.loop-token.invariant.items in
    let many = c.loop-token.invariant.many in
    absurd (bad_or_too_many names c.args.text.now place c.in-Some.token.start bad
    (read_too_many names c.args.text.now _ _ _ items c.loop-token.invariant.read c.in-Some.ensures.steps (omega (arith, c.if-good-eq-MOST_MOVES.true))))

pub returns-in_default-clause-bad_token : goal.returns-in_default-clause-bad_token
returns-in_default-clause-bad_token g c = λ place e.
    let names = g.M.Notated.is_token g.R.Rule.game in
    let many = c.loop-token.invariant.many in
    let more : ¬ (length c.loop-token.invariant.items ≡ most_moves) = λ full. c.if-good-eq-MOST_MOVES.false (omega (arith, full)) in
    let same : c.in-Some.token.start ≡ place = cc in
    subst (BadTokenAt names c.args.text.now) same
    (read_bad names c.args.text.now _ _ _ c.loop-token.invariant.items c.loop-token.invariant.read c.in-Some.ensures.steps more (c.from_word.ensures.no_token c.in_default.is))

pub returns-in_default-clause-found : goal.returns-in_default-clause-found
returns-in_default-clause-found g c = λ place bad.
    let names = g.M.Notated.is_token g.R.Rule.game in
    let many = c.loop-token.invariant.many in
    let more : ¬ (length c.loop-token.invariant.items ≡ most_moves) = λ full. c.if-good-eq-MOST_MOVES.false (omega (arith, full)) in
    ap BadToken (one_bad_token names c.args.text.now c.in-Some.token.start place
    (read_bad names c.args.text.now _ _ _ c.loop-token.invariant.items c.loop-token.invariant.read c.in-Some.ensures.steps more (c.from_word.ensures.no_token c.in_default.is)) bad)

pub loop-token-preserved : goal.loop-token-preserved
loop-token-preserved g c =
    let items = c.loop-token.invariant.items in
    let many = c.loop-token.invariant.many in
    let more : ¬ (length items ≡ most_moves) = λ full. c.if-good-eq-MOST_MOVES.false (omega (arith, full)) in record {
      items = items ++ c.in-Some-from_word._named ∷ [];
      many = length-append items (c.in-Some-from_word._named ∷ []) ∙ ap (λ n. n + 1) many;
      read = read_next (g.M.Notated.is_token g.R.Rule.game) _ _ _ _ items c.loop-token.invariant.read c.in-Some.ensures.steps c.in-Some-from_word._named more c.in-Some-from_word.ensures.token;
    }

pub returns-clause-found : goal.returns-clause-found
returns-clause-found g c = λ place bad.
    let names = g.M.Notated.is_token g.R.Rule.game in
    let items = c.loop-token.invariant.items in
    absurd (listed_or_bad names c.args.text.now items place (read_all names c.args.text.now _ items c.loop-token.invariant.read c.in-None.ensures.steps.0) bad)
