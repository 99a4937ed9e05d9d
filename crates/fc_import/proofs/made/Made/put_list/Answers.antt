use Rattle.std.proofs.Common.{◌++◌, ◌∙◌, ◌≡◌, ◌≤◌, ap, IfSome, inr, Some, subst}
use Rattle.{fc_board.specs.{Boards.{Board}, Moves.{move_count}, Play.{Legal}}, fc_text.specs.Notation.{most_moves}}
use Rattle.{fc_import.specs.declared.tally.Fate.TheVariants.{AList}, fc_record.specs.Printing.{list_line}}
use Rattle.fc_import.{proofs.TakingLemmas.{taken}, specs.{Import.{a_list, Names}, Notes.{after}}}
use Rattle.fc_import.proofs.made.Made.put_list.Goals as goal

pub returns-clause-taken : goal.returns-clause-taken
returns-clause-taken g c = λ is.
    let list = c.in-Some.list in
    let (says, grows, how) = c.in_ok-say_list.ensures.said in
    let (board, last, legal) = subst (λ found. IfSome found (λ list. (board : Board) × (c.args.self.now.last ≡ Some board) × Legal g.R.Rule.game board list)) c.in-Some.is c.in_ok-list.ensures.legal in
    let few = subst (λ found. IfSome found (λ list. move_count list ≤ most_moves)) c.in-Some.is c.in_ok-list.ensures.few in
    taken {R = g.row.R.Denot} g.R.Rule.VARIANT g.R.Rule.game c.args.piece.now c.args.self.now c.go_on.new.self _
    (c.go_on.ensures.state ∙ ap (λ state. after state c.args.piece.now state.last AList) c.in_ok-say_list.ensures.state) (list_line list) says
    (a_list board list says (c.is_apart.ensures.0 c.if-not-is_apart.false) last legal few (inr (record { text = c.args.moves.now; agrees = c.in_ok-is_named.ensures c.if-not-branch.false; names = subst (λ found. IfSome found (Names g.R.Rule.game c.args.moves.now)) c.in-Some.is c.in_ok-list.ensures.names })) how)
    (c.go_on.ensures.written ∙ c.in_ok-push_list.ensures.printed ∙ ap (λ text. text ++ list_line list) c.in_ok-say_list.ensures.written) (c.go_on.ensures.notes ∙ grows)
