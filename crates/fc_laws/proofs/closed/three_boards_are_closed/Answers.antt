use Rattle.std.proofs.{Common.{◌∷◌, [], arith, inl, inr, refl, subst, sym}, lemmas.List.Elements.{All-cons, All-nil}}
use Rattle.fc_board.proofs.{RenamingLemmas.{fills-renamed_card}, StepCarried.{step-carried}, StepLemmas.{step_of}}
use Rattle.fc_board.specs.{Boards.{IsWellFormed}, Games.{freecell}, laws.RenamingTests.{freecell_laws}}
use Rattle.fc_board.specs.{Passages.{carried, carried_move}, Play.{IsWon}, Steps.{Step}}
use Rattle.fc_canon.proofs.CanonicalLemmas.{Equivalent-sym}
use Rattle.fc_closed.{proofs.ClosedLemmas.{unsolvable}, specs.{IsClosed}}
use Rattle.fc_laws.proofs.ClosedRowLemmas.{is_among, no_step, not_won, one_of_three, one_of_two, one_step, the_one}
use Rattle.fc_laws.proofs.ExampleLemmas.{well_formed_by_tests}
use Rattle.fc_laws.specs.ClosedExamples.{ace_home, ace_to_go, nothing_to_go, queen_on_king, queen_to_go}
use Rattle.fc_laws.proofs.closed.three_boards_are_closed.Goals as goal

ace_well : IsWellFormed freecell ace_to_go
ace_well = well_formed_by_tests freecell ace_to_go refl refl refl refl refl refl

queen_well : IsWellFormed freecell queen_to_go
queen_well = well_formed_by_tests freecell queen_to_go refl refl refl refl refl refl

nothing_well : IsWellFormed freecell nothing_to_go
nothing_well = well_formed_by_tests freecell nothing_to_go refl refl refl refl refl refl

first : Step freecell ace_to_go ace_home queen_to_go
first = step_of freecell ace_to_go ace_home 2 (omega arith, tt) refl refl

next : Step freecell queen_to_go queen_on_king nothing_to_go
next = step_of freecell queen_to_go queen_on_king 44 (omega arith, omega arith) refl refl

three : IsClosed freecell (ace_to_go ∷ queen_to_go ∷ nothing_to_go ∷ [])
three = record {
  none_won = λ board inside. elim (one_of_three ace_to_go queen_to_go nothing_to_go board inside) [
    | inl is ↦ subst (λ board. ¬ IsWon board) is (not_won ace_to_go refl)
    | inr (inl is) ↦ subst (λ board. ¬ IsWon board) is (not_won queen_to_go refl)
    | inr (inr is) ↦ subst (λ board. ¬ IsWon board) is (not_won nothing_to_go refl)
  ];
  stays = λ board after move inside step. elim (one_of_three ace_to_go queen_to_go nothing_to_go board inside) [
    | inl is ↦
        is_among freecell (ace_to_go ∷ queen_to_go ∷ nothing_to_go ∷ []) queen_to_go after queen_well (1, omega arith, refl)
        (one_step freecell ace_to_go queen_to_go after move ace_home refl first (subst (λ board. Step freecell board move after) (sym is) step))
    | inr (inl is) ↦
        is_among freecell (ace_to_go ∷ queen_to_go ∷ nothing_to_go ∷ []) nothing_to_go after nothing_well (2, omega arith, refl)
        (one_step freecell queen_to_go nothing_to_go after move queen_on_king refl next (subst (λ board. Step freecell board move after) (sym is) step))
    | inr (inr is) ↦ absurd (no_step freecell nothing_to_go after move refl (subst (λ board. Step freecell board move after) (sym is) step))
  ];
}

pub returns-clause-well_formed : goal.returns-clause-well_formed
returns-clause-well_formed c =
    All-cons (IsWellFormed freecell) ace_to_go (queen_to_go ∷ nothing_to_go ∷ []) ace_well (All-cons (IsWellFormed freecell) queen_to_go (nothing_to_go ∷ []) queen_well
    (All-cons (IsWellFormed freecell) nothing_to_go [] nothing_well (All-nil (IsWellFormed freecell))))

pub returns-clause-first : goal.returns-clause-first
returns-clause-first c = first

pub returns-clause-three : goal.returns-clause-three
returns-clause-three c = three

pub returns-clause-last_alone : goal.returns-clause-last_alone
returns-clause-last_alone c = record {
  none_won =
      λ board inside. subst (λ board. ¬ IsWon board) (the_one nothing_to_go board inside) (not_won nothing_to_go refl);
  stays = λ board after move inside step.
      absurd (no_step freecell nothing_to_go after move refl (subst (λ board. Step freecell board move after) (sym (the_one nothing_to_go board inside)) step));
}

-- a board with a step is not equivalent to one without
pub returns-clause-without_last : goal.returns-clause-without_last
returns-clause-without_last c = λ closed.
    let (member, inside, there) = closed.stays queen_to_go nothing_to_go queen_on_king (1, omega arith, refl) next in
    let (passage, carries) = Equivalent-sym freecell nothing_to_go member nothing_well.piles there in
    elim (one_of_two ace_to_go queen_to_go member inside) [
      | inl is ↦
          no_step freecell nothing_to_go (carried passage queen_to_go) (carried_move passage ace_home) refl
          (subst (λ board. Step freecell board (carried_move passage ace_home) (carried passage queen_to_go)) (sym carries.there)
          (subst (λ member. Step freecell (carried passage member) (carried_move passage ace_home) (carried passage queen_to_go)) is
          (step-carried carries.is_passage (fills-renamed_card freecell_laws) ace_to_go queen_to_go ace_home ace_well first)))
      | inr is ↦
          no_step freecell nothing_to_go (carried passage nothing_to_go) (carried_move passage queen_on_king) refl
          (subst (λ board. Step freecell board (carried_move passage queen_on_king) (carried passage nothing_to_go)) (sym carries.there)
          (subst (λ member. Step freecell (carried passage member) (carried_move passage queen_on_king) (carried passage nothing_to_go)) is
          (step-carried carries.is_passage (fills-renamed_card freecell_laws) queen_to_go nothing_to_go queen_on_king queen_well next)))
    ]

pub returns-clause-unsolvable : goal.returns-clause-unsolvable
returns-clause-unsolvable c =
    unsolvable freecell_laws (ace_to_go ∷ queen_to_go ∷ nothing_to_go ∷ []) three ace_to_go ace_well (0, omega arith, refl)
