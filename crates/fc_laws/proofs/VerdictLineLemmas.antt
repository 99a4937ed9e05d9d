-- What a line of check says of a list is what the list does.
use Rattle.std.proofs.Common.{◌++◌, ◌<◌, ◌==◌, ◌^◌, ◌↔◌, ◌∙◌, ◌∷◌, ◌≡◌, ◌≤◌, [], All, ap, append_assoc, ap₂, arith}
use Rattle.std.proofs.Common.{codes, drop, if◌then◌else◌, length, List, refl, slice_index, sym, ℕ}
use Rattle.std.proofs.lemmas.{Fmt.{decimal_injective}, List.{append_cancel_left, Elements.{All-head, All-tail}}}
use Rattle.std.{proofs.lemmas.Option.{slice_get_within}, specs.Fmt.{decimal}}
use Rattle.fc_board.proofs.MoveListLemmas.{list_allowed-exactly, list_legal_not_refused, list_refused-exactly}
use Rattle.fc_board.{proofs.MoveListLemmas.{list_won-exactly}, specs.{Boards.{Board}, Games.{Game}}}
use Rattle.fc_board.specs.Moves.{ListFits, move_count, MoveList, OneCard, Runs}
use Rattle.fc_board.specs.Play.{Legal, list_verdict, OnlyLegal, Plays, Refused, RefusedAt, Verdict, Wins, Won}
use Rattle.fc_board.specs.Steps.{step_reason}
use Rattle.fc_board.specs.declared.fault.StepFault.{StepFault}
use Rattle.fc_board.specs.declared.fault.StepFault.TheVariants as step
use Rattle.fc_text.specs.Bytes.{blank, line_feed}
use Rattle.fc_record.{proofs.HeadingLemmas.{decimal-high}, specs.Printing.{verdict_line, verdict_words}}

-- ---- verdicts on lists in either form

-- a legal list is not refused
pub not_both : (game : Game) (board after : Board) (list : MoveList) (index : ℕ) (fault : StepFault) → ListFits game list
    → Plays game board list after
    → list_verdict game board list ≡ Refused index fault → ⊥
not_both game board after list index fault fits plays e =
    list_legal_not_refused game board list (after, plays) index fault ((list_refused-exactly game board list index fault fits).0 e)

-- ---- the words for a verdict

-- the fault that a reason names, by two of its bytes
fault_named : List ℕ → StepFault
fault_named text = by_bytes (slice_index text 4) (slice_index text 0)
  where
    by_bytes : ℕ → ℕ → StepFault
    by_bytes fifth first =
        if fifth == 121 then step.EmptySource
        else if fifth == 101 then step.TargetTaken
        else if fifth == 115 then step.KingsOnly
        else if fifth == 98 then step.NotBuilding
        else if fifth == 110 then step.NotNext
        else if fifth == 117 then step.NoRun
        else if fifth == 103 then step.WrongCount
        else if first == 115 then step.SamePile
        else step.OverCapacity

named_fault : (fault : StepFault) → fault_named (step_reason fault ++ line_feed ∷ []) ≡ fault
unfolding fault_named
named_fault step.SamePile = refl
named_fault step.EmptySource = refl
named_fault step.TargetTaken = refl
named_fault step.KingsOnly = refl
named_fault step.NotBuilding = refl
named_fault step.NotNext = refl
named_fault step.NoRun = refl
named_fault step.OverCapacity = refl
named_fault step.WrongCount = refl

-- what is before the first blank, and after it
at_blank : (xs ys xs' ys' : List ℕ) → All (λ byte. 48 ≤ byte) xs → All (λ byte. 48 ≤ byte) ys → xs ++ blank ∷ xs' ≡ ys ++ blank ∷ ys'
    → (xs ≡ ys) × (xs' ≡ ys')
at_blank [] [] xs' ys' are are' e = (refl, ap (drop 1) e)
at_blank [] (y ∷ ys) xs' ys' are are' e =
    let high = All-head (λ byte. 48 ≤ byte) y ys are' in
    let same : blank ≡ y = cc in absurd (omega (arith, high, same))
at_blank (x ∷ xs) [] xs' ys' are are' e =
    let high = All-head (λ byte. 48 ≤ byte) x xs are in
    let same : x ≡ blank = cc in absurd (omega (arith, high, same))
at_blank (x ∷ xs) (y ∷ ys) xs' ys' are are' e =
    let first : x ≡ y = cc in
    let rest = at_blank xs ys xs' ys' (All-tail (λ byte. 48 ≤ byte) x xs are) (All-tail (λ byte. 48 ≤ byte) y ys are') (ap (drop 1) e) in
    (rw (first, rest.0), rest.1)

module _ (front : List ℕ) (count : ℕ) where
  -- the line that says this
  abbrev pub line_of : Verdict → List ℕ
  line_of verdict = (front ++ verdict_words count verdict) ++ line_feed ∷ []

  pub same_words : (verdict other : Verdict) → line_of verdict ≡ line_of other
      → verdict_words count verdict ++ line_feed ∷ [] ≡ verdict_words count other ++ line_feed ∷ []
  same_words verdict other e =
      append_cancel_left front (verdict_words count verdict ++ line_feed ∷ []) (verdict_words count other ++ line_feed ∷ [])
      (sym (append_assoc front (verdict_words count verdict) (line_feed ∷ [])) ∙ e ∙ append_assoc front (verdict_words count other) (line_feed ∷ []))

  second_byte : (verdict other : Verdict) → line_of verdict ≡ line_of other
      → slice_index (verdict_words count verdict ++ line_feed ∷ []) 1 ≡ slice_index (verdict_words count other ++ line_feed ∷ []) 1
  second_byte verdict other e = ap (λ text. slice_index text 1) (same_words verdict other e)

  pub winning_words : front ++ codes " wins " ++ decimal count ++ line_feed ∷ [] ≡ line_of Won
  winning_words = rw (append_assoc front (codes " wins ") (decimal count))

  pub verdict_Won : (verdict : Verdict) → line_of verdict ≡ line_of Won → verdict ≡ Won
  verdict_Won Won e = refl
  verdict_Won OnlyLegal e = absurd (let same : 108 ≡ 119 = second_byte OnlyLegal Won e in omega (arith, same))
  verdict_Won (Refused index fault) e = absurd (let same : 105 ≡ 119 = second_byte (Refused index fault) Won e in omega (arith, same))

  verdict_OnlyLegal : (verdict : Verdict) → line_of verdict ≡ line_of OnlyLegal → verdict ≡ OnlyLegal
  verdict_OnlyLegal Won e = absurd (let same : 119 ≡ 108 = second_byte Won OnlyLegal e in omega (arith, same))
  verdict_OnlyLegal OnlyLegal e = refl
  verdict_OnlyLegal (Refused index fault) e = absurd (let same : 105 ≡ 108 = second_byte (Refused index fault) OnlyLegal e in omega (arith, same))

  pub verdict_Refused : (verdict : Verdict) (index : ℕ) (fault : StepFault)
      → ((other : ℕ) (reason : StepFault) → verdict ≡ Refused other reason → other < 2 ^ 64) → index < 2 ^ 64
      → line_of verdict ≡ line_of (Refused index fault) → verdict ≡ Refused index fault
  verdict_Refused Won index fault small small' e = absurd (let same : 119 ≡ 105 = second_byte Won (Refused index fault) e in omega (arith, same))
  verdict_Refused OnlyLegal index fault small small' e =
      absurd (let same : 108 ≡ 105 = second_byte OnlyLegal (Refused index fault) e in omega (arith, same))
  verdict_Refused (Refused other reason) index fault small small' e =
      let (numbers, reasons) =
      at_blank (decimal other) (decimal index) (step_reason reason ++ line_feed ∷ []) (step_reason fault ++ line_feed ∷ [])
      (decimal-high other) (decimal-high index)
      (after other reason ∙ ap (drop 9) (same_words (Refused other reason) (Refused index fault) e) ∙ sym (after index fault)) in
      ap₂ Refused (decimal_injective other index (small other reason refl) small' numbers)
      (sym (named_fault reason) ∙ ap fault_named reasons ∙ named_fault fault)
    where
      after : (index : ℕ) (fault : StepFault)
          → decimal index ++ blank ∷ (step_reason fault ++ line_feed ∷ []) ≡ drop 9 (verdict_words count (Refused index fault) ++ line_feed ∷ [])
      after index fault = sym (append_assoc (decimal index) (blank ∷ step_reason fault) (line_feed ∷ []))

-- a list is refused at one of its moves
within_list : (game : Game) (board : Board) (list : MoveList) (index : ℕ) (fault : StepFault) → RefusedAt game board list index fault
    → index < move_count list
within_list game board (OneCard moves) index fault at = slice_get_within moves index at.move at.there
within_list game board (Runs moves) index fault at = slice_get_within moves index at.move at.there

-- so the index is small where the list is
pub small_index : (game : Game) (board : Board) (list : MoveList) → ListFits game list → move_count list < 2 ^ 64
    → (other : ℕ) (reason : StepFault) → list_verdict game board list ≡ Refused other reason → other < 2 ^ 64
small_index game board list fits few other reason e =
    let there = within_list game board list other reason ((list_refused-exactly game board list other reason fits).0 e) in omega (arith, there, few)

-- ---- the line of check for a list

module _ (game : Game) (board : Board) (list : MoveList) (fits : ListFits game list) (four : length board.heights ≡ 4) (name : List ℕ)
    (number : ℕ) where
  abbrev front : List ℕ
  front = name ++ blank ∷ decimal number

  abbrev verdict : Verdict
  verdict = list_verdict game board list

  pub says-wins : (verdict_line name game board number list ≡ front ++ codes " wins " ++ decimal (move_count list) ++ line_feed ∷ [])
      ↔ Wins game board list
  says-wins = (
    λ e. (list_won-exactly game board list fits four).0 (verdict_Won front (move_count list) verdict (e ∙ winning_words front (move_count list))),
    λ wins. ap (line_of front (move_count list)) ((list_won-exactly game board list fits four).1 wins) ∙ sym (winning_words front (move_count list)),
  )

  pub says-legal : (verdict_line name game board number list ≡ front ++ codes " legal " ++ decimal (move_count list) ++ line_feed ∷ [])
      ↔ (Legal game board list × ¬ Wins game board list)
  says-legal = (
    λ e. (list_allowed-exactly game board list fits four).0 (verdict_OnlyLegal front (move_count list) verdict (e ∙ words)),
    λ is. ap (line_of front (move_count list)) ((list_allowed-exactly game board list fits four).1 is) ∙ sym words,
  )
    where
      words : front ++ codes " legal " ++ decimal (move_count list) ++ line_feed ∷ [] ≡ line_of front (move_count list) OnlyLegal
      words = rw (append_assoc front (codes " legal ") (decimal (move_count list)))

  pub says-illegal : (index : ℕ) (fault : StepFault) → move_count list < 2 ^ 64 → index < move_count list
      → (verdict_line name game board number list ≡ front ++ codes " illegal " ++ decimal index ++ blank ∷ step_reason fault ++ line_feed ∷ [])
      ↔ RefusedAt game board list index fault
  says-illegal index fault few within = (
    λ e. (list_refused-exactly game board list index fault fits).0
        (verdict_Refused front (move_count list) verdict index fault (small_index game board list fits few) (omega (arith, few, within)) (e ∙ words)),
    λ at. ap (line_of front (move_count list)) ((list_refused-exactly game board list index fault fits).1 at) ∙ sym words,
  )
    where
      words : front ++ codes " illegal " ++ decimal index ++ blank ∷ step_reason fault ++ line_feed ∷ []
          ≡ line_of front (move_count list) (Refused index fault)
      words = rw (
        append_assoc (front ++ codes " illegal ") (decimal index) (blank ∷ step_reason fault),
        append_assoc front (codes " illegal ") (decimal index ++ blank ∷ step_reason fault),
        ← append_assoc (codes " illegal ") (decimal index) (blank ∷ step_reason fault),
      )
