use Rattle.std.{proofs.Common.{◌++◌, ◌↔◌, ◌∙◌, ◌∷◌, ◌≡◌, [], ap, codes, List, sym, true, ℕ}, specs.Fmt.{decimal}}
use Rattle.std.specs.Prelude.{slice_index_or}
use Rattle.fc_board.specs.{Games.{game_of}, Moves.{move_count, MoveList}, Play.{list_verdict, Verdict}}
use Rattle.{fc_record.specs.{Printing.{verdict_line}, Tables.{is_win}}, fc_text.specs.Bytes.{blank, line_feed}}
use Rattle.fc_collect.specs.Groups.{Member, name_of_member}
use Rattle.fc_laws.proofs.{SolutionLemmas.{won-by}, VerdictLineLemmas.{line_of, verdict_Won, winning_words}}
use Rattle.fc_laws.proofs.collections.figures.wins_are_those_that_check_names.Goals as goal

module _ (member : Member) (list : MoveList) (number : ℕ) where
  abbrev verdict : Verdict
  verdict = list_verdict (game_of member.heading.variant) member.contents.board list

  abbrev front : List ℕ
  front = name_of_member member ++ blank ∷ decimal number

  named-exactly : (is_win verdict ≡ true)
      ↔ (verdict_line (name_of_member member) (game_of member.heading.variant) member.contents.board number list
      ≡ front ++ codes " wins " ++ decimal (move_count list) ++ line_feed ∷ [])
  named-exactly = (
    (λ wins. ap (line_of front (move_count list)) (won-by verdict wins) ∙ sym (winning_words front (move_count list))),
    (λ e. ap is_win (verdict_Won front (move_count list) verdict (e ∙ winning_words front (move_count list)))),
  )

pub returns : goal.returns
returns c summary members numbers are = (
  (λ member list. is_win (list_verdict (game_of member.heading.variant) member.contents.board list)),
  ap (λ numbers. slice_index_or numbers 5 0) (sym are),
  named-exactly,
)
