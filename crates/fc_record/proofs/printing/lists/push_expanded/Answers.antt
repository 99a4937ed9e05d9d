-- The line is the one for the verdict on the list.
use Rattle.std.proofs.{Common.{◌++◌, ◌∙◌, ap, subst}, lemmas.Result.{on_ok_weaker}}
use Rattle.fc_record.{proofs.LineLemmas.{expansion-line, refusal-line}, specs.inside.{Expanded}}
use Rattle.fc_record.proofs.printing.lists.push_expanded.Goals as goal

pub returns-in-Ok : goal.returns-in-Ok
returns-in-Ok g c =
    let game = g.R.Rule.game in
    let board = c.args.board.now in
    let list = c.args.list.now in
    let is = subst (Expanded game board list) c.in-Ok.is c.in_ok-expansion.ensures.expanded in
    record {
      printed = on_ok_weaker c.push_within.result (λ ensured. ensured ∙ ap (λ line. c.args.out.now.items ++ line) (expansion-line game board c.args.number list c.in-Ok.expansion is)) c.push_within.ensures.printed;
    }

pub returns-in-Err : goal.returns-in-Err
returns-in-Err g c =
    let game = g.R.Rule.game in
    let board = c.args.board.now in
    let list = c.args.list.now in
    let fault = c.in-Err.fault in
    let refused = subst (Expanded game board list) c.in-Err.is c.in_ok-expansion.ensures.expanded in
    record {
      printed = on_ok_weaker c.push_illegal.result (λ ensured. ensured ∙ ap (λ line. c.args.out.now.items ++ line) (refusal-line game board c.args.number list fault.index fault.fault refused)) c.push_illegal.ensures.printed;
    }
