use Rattle.std.proofs.{Common.{◌≡◌, arith, refl, Some, subst}, lemmas.Grind.{common_steps}}
use Rattle.fc_board.{proofs.ListLemmas.{HasPlayed-more, refused_next}, specs.Boards.{IsWellFormed}}
use Rattle.fc_board.proofs.board.Board.play_list.Goals as goal

pub loop-index-init : goal.loop-index-init
loop-index-init g c = record { plays = refl; well_formed = subst (IsWellFormed g.R.Rule.game) c.self.view_is c.self.invariant.0 }

pub loop-index-preserved : goal.loop-index-preserved
loop-index-preserved g c =
    let Leads = g.M.Playable.leads g.R.Rule.game in
    HasPlayed-more Leads g.R.Rule.game c.args.self.now c.loop-index.self c.step_on.new.board c.args.moves.now c.loop-index.index _ c.loop-index-test.true c.loop-index.invariant
    (subst (λ mv. Leads c.loop-index.self mv c.step_on.new.board) c.index-moves-index.is c.in_default.ensures.step) c.in_default.ensures.well_formed

pub returns-in-Err-clause-refused : goal.returns-in-Err-clause-refused
returns-in-Err-clause-refused g c =
    let game = g.R.Rule.game in
    let reason = g.M.Playable.reason game in
    refused_next (g.M.Playable.leads game) (g.M.Playable.fits_game game) reason c.args.self.now c.loop-index.self c.args.moves.now c.loop-index.index _ c.in-Err.fault
    c.loop-index-test.true c.requires.fits c.loop-index.invariant.plays (subst (λ mv. reason c.loop-index.self mv ≡ Some c.in-Err.fault) c.index-moves-index.is c.in-Err.ensures.refused)

pub returns-in-Err-clause-played_before : goal.returns-in-Err-clause-played_before
returns-in-Err-clause-played_before g c = rw c.in-Err.ensures.unchanged c.loop-index.invariant.plays

pub returns-clause-played : goal.returns-clause-played
returns-clause-played g c = grind (arith, common_steps)
