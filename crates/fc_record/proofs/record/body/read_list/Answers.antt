-- A list is read in the form that its marks say.
use Rattle.std.proofs.Common.{◌+◌, ◌-◌, ◌∙◌, ◌≡◌, ◌≤◌, ap, arith, Bool, drop, false, if◌then◌else◌, length, List, Ok}
use Rattle.std.proofs.{Common.{Result, sym, take, true, ℕ}, lemmas.List.{take_rest}}
use Rattle.fc_board.specs.{Games.{Game}, Moves.{MoveList, OneCard, Runs}}
use Rattle.fc_text.proofs.{RunTokenLemmas.{runs-Reads}, TokenLemmas.{moves-Reads}}
use Rattle.fc_text.specs.{Notation.{IsRunToken, IsToken}, reader.{move_named, run_named}}
use Rattle.fc_text.specs.Readings.{moves_read, runs_read}
use Rattle.fc_record.proofs.ContentsLemmas.{IfFaultOf-weaker, said-fault, said-listed}
use Rattle.fc_record.specs.Grammar.{has_two_marks, list_read, list_with}
use Rattle.fc_record.specs.declared.record.RecordFault.{RecordFault}
use Rattle.fc_record.proofs.record.body.read_list.Given as given
use Rattle.fc_record.proofs.record.body.read_list.Goals as goal

-- what the line says, by whether it has two marks
abbrev by_marks : Game → ℕ → List ℕ → Bool → Result MoveList RecordFault
by_marks game place line twice =
    if twice then list_with Runs (place + 2) (runs_read game (drop 2 line))
    else list_with OneCard (place + 1) (moves_read game (drop 1 line))

by_runs : (game : Game) (place : ℕ) (line : List ℕ) → has_two_marks line ≡ true
    → list_with Runs (place + 2) (runs_read game (take (length line - 2) (drop 2 line))) ≡ list_read game place line
by_runs game place line twice =
    ap (λ text. list_with Runs (place + 2) (runs_read game text)) (take_rest line 2) ∙ sym (ap (by_marks game place line) twice)

by_moves : (game : Game) (place : ℕ) (line : List ℕ) → has_two_marks line ≡ false
    → list_with OneCard (place + 1) (moves_read game (take (length line - 1) (drop 1 line))) ≡ list_read game place line
by_moves game place line once =
    ap (λ text. list_with OneCard (place + 1) (moves_read game text)) (take_rest line 1) ∙ sym (ap (by_marks game place line) once)

few : (g : given.Over) → g.R.Rule.game.cells ≤ 8
few g = let laws = g.met.R.Rule.rule_laws in omega (arith, laws.cells_are, laws.at_most_eight)

pub returns-in-Ok-clause-list : goal.returns-in-Ok-clause-list
returns-in-Ok-clause-list g c =
    let game = g.R.Rule.game in
    let says = by_runs game c.args.place c.args.line.now (sym c.has_two_marks.ensures ∙ c.if-has_two_marks.true) in
    said-listed (IsRunToken game) (run_named game) (runs-Reads game (few g)) Runs _ _ _ says _ c.in-Ok.ensures.listed
    ∙ ap Ok (sym c.runs.ensures)

pub returns-in-Err-clause-fault : goal.returns-in-Err-clause-fault
returns-in-Err-clause-fault g c =
    let game = g.R.Rule.game in
    let says = by_runs game c.args.place c.args.line.now (sym c.has_two_marks.ensures ∙ c.if-has_two_marks.true) in
    let so = said-fault (IsRunToken game) (run_named game) (runs-Reads game (few g)) Runs _ _ _ says in
    IfFaultOf-weaker _ _ so c.in-Err.unread c.in-Err.ensures.fault

pub returns-in-Ok-read_after-clause-list : goal.returns-in-Ok-read_after-clause-list
returns-in-Ok-read_after-clause-list g c =
    let game = g.R.Rule.game in
    let says = by_moves game c.args.place c.args.line.now (sym c.has_two_marks.ensures ∙ c.if-has_two_marks.false) in
    said-listed (IsToken game) (move_named game) (moves-Reads game (few g)) OneCard _ _ _ says _ c.in-Ok-read_after.ensures.listed
    ∙ ap Ok (sym c.one_card.ensures)

pub returns-in-Err-read_after-clause-fault : goal.returns-in-Err-read_after-clause-fault
returns-in-Err-read_after-clause-fault g c =
    let game = g.R.Rule.game in
    let says = by_moves game c.args.place c.args.line.now (sym c.has_two_marks.ensures ∙ c.if-has_two_marks.false) in
    let so = said-fault (IsToken game) (move_named game) (moves-Reads game (few g)) OneCard _ _ _ says in
    IfFaultOf-weaker _ _ so c.in-Err-read_after.unread c.in-Err-read_after.ensures.fault
