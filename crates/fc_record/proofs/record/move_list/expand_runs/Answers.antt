use Rattle.std.proofs.Common.{◌++◌, ◌+◌, ◌∙◌, ◌≡◌, ap, append-nil, append_assoc, drop, subst, sym, take_all}
use Rattle.std.{proofs.lemmas.List.{drop_all, drop_more}, specs.Prelude.{Err, IfErr, Ok, OnOk, Result}}
use Rattle.fc_board.proofs.{ListLemmas.{HasPlayed-more, refused_next, verdict-Stops}, RunPlayLemmas.{several}}
use Rattle.fc_board.specs.{Boards.{IsWellFormed}, laws.ListWords.{RunPlays}, Moves.{ListFits, OneCard, RunFits, Runs}}
use Rattle.fc_board.specs.{Play.{expansion_of, expansions}, Steps.{run_refusal, RunStep}}
use Rattle.fc_record.proofs.LineLemmas.{expansions-next, one_card_moves-Fit, played-verdict}
use Rattle.fc_record.proofs.record.move_list.expand_runs.Given as given
use Rattle.fc_record.proofs.record.move_list.expand_runs.Goals as goal

pub loop-index-init : goal.loop-index-init
loop-index-init g c = record {
  expanded = ap (λ moves. moves ++ expansions g.R.Rule.game c.copy-after.result c.args.runs.now) c.new-moves.ensures.items
      ∙ ap (λ board. expansions g.R.Rule.game board c.args.runs.now) c.copy-after.ensures.same;
  played = record { plays = c.copy-after.ensures.same; well_formed = c.copy-after.ensures.well_formed };
}

-- what holds where a step was made, and where it was refused
so : {T E P : Type 0} {made : Result T E} {value : T} → made ≡ Ok value → OnOk made P → P
so {P = P} is holds = subst (λ made. OnOk made P) is holds

so_refused : {T E : Type 0} (P : E → Type 0) {made : Result T E} {fault : E} → made ≡ Err fault → IfErr made P → P fault
so_refused P is holds = subst (λ made. IfErr made P) is holds

pub loop-index-preserved : goal.loop-index-preserved
loop-index-preserved g c =
    let game = g.R.Rule.game in
    let runs = c.args.runs.now in
    let place = c.loop-index.index in
    let after = c.loop-index.after in
    let next = c.push_step.new.board in
    let left = drop_more runs place _ c.loop-index-test.true in
    let moves = so c.in-Ok.is c.in_ok-made.ensures.moves in
    let step = so c.in-Ok.is c.in_ok-made.ensures.step in
    record {
      expanded =
          ap (λ moves. moves ++ expansions game next (drop (place + 1) runs)) moves
          ∙ append_assoc c.loop-index.moves.items (expansion_of game after _) (expansions game next (drop (place + 1) runs))
          ∙ ap (λ more. c.loop-index.moves.items ++ more) (sym (expansions-next game after next _ (drop (place + 1) runs) step))
          ∙ ap (λ left. c.loop-index.moves.items ++ expansions game after left) (sym left)
          ∙ c.loop-index.invariant.expanded;
      played = HasPlayed-more (RunStep game) game c.args.board.now after next runs place _ c.loop-index-test.true c.loop-index.invariant.played step c.push_step.ensures.well_formed;
    }

pub returns-in-Err-clause-expanded : goal.returns-in-Err-clause-expanded
returns-in-Err-clause-expanded g c =
    let game = g.R.Rule.game in
    let runs = c.args.runs.now in
    let place = c.loop-index.index in
    let fault = c.in-Err.fault in
    verdict-Stops (several game) c.args.board.now runs place fault
    (refused_next (RunStep game) (RunFits game) (run_refusal game) c.args.board.now c.loop-index.after runs place _ fault c.loop-index-test.true c.requires c.loop-index.invariant.played.plays (so_refused _ c.in-Err.is c.in_ok-made.ensures.refused))

-- the whole list is played
played : (g : given.Over) (c : goal.After-one_card g) → RunPlays g.R.Rule.game c.args.board.now c.args.runs.now c.loop-index.after
played g c =
    subst (λ some. RunPlays g.R.Rule.game c.args.board.now some c.loop-index.after) (take_all c.loop-index.index c.args.runs.now c.loop-index-test.false) c.loop-index.invariant.played.plays

-- the moves are those that it is short for
ensured : (g : given.Over) (c : goal.After-one_card g) → c.one_card.result ≡ OneCard (expansions g.R.Rule.game c.args.board.now c.args.runs.now)
ensured g c =
    c.one_card.ensures
    ∙ ap OneCard (sym (append-nil c.loop-index.moves.items)
    ∙ ap (λ left. c.loop-index.moves.items ++ expansions g.R.Rule.game c.loop-index.after left) (sym (drop_all c.loop-index.index c.args.runs.now c.loop-index-test.false))
    ∙ c.loop-index.invariant.expanded)

pub returns-clause-expanded : goal.returns-clause-expanded
returns-clause-expanded g c =
    let verdict = played-verdict g.R.Rule.game c.args.board.now c.loop-index.after c.args.runs.now c.requires (played g c) in
    record { won = verdict.0; verdict = verdict.1; moves = ensured g c }

pub returns-clause-fits : goal.returns-clause-fits
returns-clause-fits g c =
    let game = g.R.Rule.game in
    let well = subst (IsWellFormed game) c.copy-after.ensures.same c.copy-after.ensures.well_formed in
    subst (ListFits game) (sym (ensured g c))
    (one_card_moves-Fit g.met.R.Rule.rule_laws c.args.board.now (Runs c.args.runs.now) well c.requires (c.loop-index.after, played g c))
