use Rattle.std.proofs.Common.{◌++◌, ◌∷◌, ◌≡◌, ◌≤◌, [], ap, arith, Err, length, rules, subst}
use Rattle.std.proofs.lemmas.List.Elements.{All-weaker}
use Rattle.{fc_board.specs.Games.{eight_off}, fc_text.specs.declared.fault.MovesFault.TheVariants.{BadToken}}
use Rattle.fc_text.proofs.ListedLemmas.{bad_or_too_many, listed-hold, listed_or_bad, one_bad_token}
use Rattle.fc_text.proofs.ReadMovesLemmas.{begins_not_empty, read_all, read_bad, read_next, read_too_many, reads_from}
use Rattle.fc_text.{proofs.ReadMovesLemmas.{some_word}, specs.Notation.{BadTokenAt, most_moves, TooManyAt}}
use Rattle.fc_text.proofs.moves.read.read_list.Goals as goal

pub loop-token-init : goal.loop-token-init
loop-token-init g c =
    reads_from (g.M.Notated.is_token g.R.Rule.game) c.args.text.now c.in-Ok.at _ _ c.in-Ok.ensures.read (search rules)

pub returns-then-len-eq-MOST_MOVES-clause-too_many : goal.returns-then-len-eq-MOST_MOVES-clause-too_many
returns-then-len-eq-MOST_MOVES-clause-too_many g c place e =
    let full : length c.loop-token.moves.items ≡ most_moves = omega (arith, c.loop-token.moves.ok.0, c.len.ensures, c.if-len-eq-MOST_MOVES.true) in
    let same : c.in-Some.token.start ≡ place = cc in
    subst (TooManyAt (g.M.Notated.is_token g.R.Rule.game) c.args.text.now) same
    (read_too_many (g.M.Notated.is_token g.R.Rule.game) c.args.text.now _ _ _ c.loop-token.moves.items c.loop-token.invariant c.in-Some.ensures.steps full)

pub returns-in_default-from_word-clause-bad_token : goal.returns-in_default-from_word-clause-bad_token
returns-in_default-from_word-clause-bad_token g c place e =
    let more : ¬ (length c.loop-token.moves.items ≡ most_moves) = λ full. c.if-len-eq-MOST_MOVES.false (omega (arith, c.loop-token.moves.ok.0, c.len.ensures, full)) in
    let same : c.in-Some.token.start ≡ place = cc in
    subst (BadTokenAt (g.M.Notated.is_token g.R.Rule.game) c.args.text.now) same
    (read_bad (g.M.Notated.is_token g.R.Rule.game) c.args.text.now _ _ _ c.loop-token.moves.items c.loop-token.invariant c.in-Some.ensures.steps more
    (c.from_word.ensures.no_token c.in_default-from_word.is))

pub loop-token-preserved : goal.loop-token-preserved
loop-token-preserved g c =
    let more : ¬ (length c.loop-token.moves.items ≡ most_moves) = λ full. c.if-len-eq-MOST_MOVES.false (omega (arith, c.loop-token.moves.ok.0, c.len.ensures, full)) in
    let pushed : c.push_among.new.items.items ≡ c.loop-token.moves.items ++ c.in-Some-from_word.named ∷ [] = search rules in
    rw pushed (read_next (g.M.Notated.is_token g.R.Rule.game) _ _ _ _ c.loop-token.moves.items c.loop-token.invariant c.in-Some.ensures.steps c.in-Some-from_word.named more c.in-Some-from_word.ensures.token)

pub returns-then-len-eq-MOST_MOVES-clause-no_words : goal.returns-then-len-eq-MOST_MOVES-clause-no_words
returns-then-len-eq-MOST_MOVES-clause-no_words g c none =
    absurd (some_word (g.M.Notated.is_token g.R.Rule.game) _ _ _ _ c.loop-token.moves.items c.loop-token.invariant c.in-Some.ensures.steps none)

pub returns-in_default-from_word-clause-no_words : goal.returns-in_default-from_word-clause-no_words
returns-in_default-from_word-clause-no_words g c none =
    absurd (some_word (g.M.Notated.is_token g.R.Rule.game) _ _ _ _ c.loop-token.moves.items c.loop-token.invariant c.in-Some.ensures.steps none)

pub returns-then-is_err-clause-no_words : goal.returns-then-is_err-clause-no_words
returns-then-is_err-clause-no_words g c none =
    absurd (some_word (g.M.Notated.is_token g.R.Rule.game) _ _ _ _ c.loop-token.moves.items c.loop-token.invariant c.in-Some.ensures.steps none)

pub returns-in_default-clause-no_words : goal.returns-in_default-clause-no_words
returns-in_default-clause-no_words g c none = absurd (begins_not_empty (g.M.Notated.is_token g.R.Rule.game) c.args.text.now (search rules) none)

pub returns-then-len-eq-MOST_MOVES-clause-found : goal.returns-then-len-eq-MOST_MOVES-clause-found
returns-then-len-eq-MOST_MOVES-clause-found g c = λ place bad.
    let names = g.M.Notated.is_token g.R.Rule.game in
    let full : length c.loop-token.moves.items ≡ most_moves = omega (arith, c.loop-token.moves.ok.0, c.len.ensures, c.if-len-eq-MOST_MOVES.true) in
    absurd (bad_or_too_many names c.args.text.now place c.in-Some.token.start bad
    (read_too_many names c.args.text.now _ _ _ c.loop-token.moves.items c.loop-token.invariant c.in-Some.ensures.steps full))

pub returns-in_default-from_word-clause-found : goal.returns-in_default-from_word-clause-found
returns-in_default-from_word-clause-found g c = λ place bad.
    let names = g.M.Notated.is_token g.R.Rule.game in
    let more : ¬ (length c.loop-token.moves.items ≡ most_moves) = λ full. c.if-len-eq-MOST_MOVES.false (omega (arith, c.loop-token.moves.ok.0, c.len.ensures, full)) in
    ap (λ place. Err (BadToken place)) (one_bad_token names c.args.text.now c.in-Some.token.start place
    (read_bad names c.args.text.now _ _ _ c.loop-token.moves.items c.loop-token.invariant c.in-Some.ensures.steps more (c.from_word.ensures.no_token c.in_default-from_word.is)) bad)

pub returns-clause-found : goal.returns-clause-found
returns-clause-found g c = λ place bad.
    let names = g.M.Notated.is_token g.R.Rule.game in
    absurd (listed_or_bad names c.args.text.now c.loop-token.moves.items place (read_all names c.args.text.now _ c.loop-token.moves.items c.loop-token.invariant c.in-None.ensures.steps.0) bad)

-- where memory is refused
pub returns-in_default-clause-found : goal.returns-in_default-clause-found
returns-in_default-clause-found g c = λ place bad. ap Err (c.fault_without_memory.ensures.found place bad)

pub returns-then-is_err-clause-found : goal.returns-then-is_err-clause-found
returns-then-is_err-clause-found g c = λ place bad. ap Err (c.fault_without_memory-then-is_err.ensures.found place bad)

-- ---- what is listed fits
pub returns-clause-fits : goal.returns-clause-fits
returns-clause-fits g c =
    let names = g.M.Notated.is_token g.R.Rule.game in
    listed-hold names (g.M.Playable.fits_game g.R.Rule.game) (g.met.M.Notated.tokens_fit g.R.Rule.game) c.args.text.now c.loop-token.moves.items
    (read_all names c.args.text.now _ c.loop-token.moves.items c.loop-token.invariant c.in-None.ensures.steps.0)

pub returns-clause-fits_eight_off : goal.returns-clause-fits_eight_off
returns-clause-fits_eight_off g c =
    let laws = g.met.R.Rule.rule_laws in
    let few : g.R.Rule.game.cells ≤ 8 = omega (arith, laws.cells_are, laws.at_most_eight) in
    All-weaker (g.M.Playable.fits_game g.R.Rule.game) (g.M.Playable.fits_game eight_off) (g.met.M.Notated.fits_eight_off g.R.Rule.game few) c.loop-token.moves.items
    (returns-clause-fits g c)
