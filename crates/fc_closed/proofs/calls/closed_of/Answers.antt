use Rattle.{fc_closed.specs.{IsFirstFlaw}, std.proofs.Common.{refl, subst}}
use Rattle.fc_closed.proofs.calls.closed_of.Goals as goal

pub returns-in-Ok-clause-unsolvable : goal.returns-in-Ok-clause-unsolvable
returns-in-Ok-clause-unsolvable g c = λ _. c.in-Ok.ensures.unsolvable refl

pub returns-in-Err-clause-no_board : goal.returns-in-Err-clause-no_board
returns-in-Err-clause-no_board g c = λ is.
    subst (IsFirstFlaw g.R.Rule.game g.R.Rule.renamings c.args.keys.now c.in-Err.found.place) (c.number_of.ensures.no_board is) c.in-Err.ensures.flaw

pub returns-in-Err-clause-not_canonical : goal.returns-in-Err-clause-not_canonical
returns-in-Err-clause-not_canonical g c = λ is.
    subst (IsFirstFlaw g.R.Rule.game g.R.Rule.renamings c.args.keys.now c.in-Err.found.place) (c.number_of.ensures.not_canonical is) c.in-Err.ensures.flaw

pub returns-in-Err-clause-not_above : goal.returns-in-Err-clause-not_above
returns-in-Err-clause-not_above g c = λ is.
    subst (IsFirstFlaw g.R.Rule.game g.R.Rule.renamings c.args.keys.now c.in-Err.found.place) (c.number_of.ensures.not_above is) c.in-Err.ensures.flaw

pub returns-in-Err-clause-won : goal.returns-in-Err-clause-won
returns-in-Err-clause-won g c = λ is.
    subst (IsFirstFlaw g.R.Rule.game g.R.Rule.renamings c.args.keys.now c.in-Err.found.place) (c.number_of.ensures.won is) c.in-Err.ensures.flaw

pub returns-in-Err-clause-open : goal.returns-in-Err-clause-open
returns-in-Err-clause-open g c = λ is.
    subst (IsFirstFlaw g.R.Rule.game g.R.Rule.renamings c.args.keys.now c.in-Err.found.place) (c.number_of.ensures.open is) c.in-Err.ensures.flaw
