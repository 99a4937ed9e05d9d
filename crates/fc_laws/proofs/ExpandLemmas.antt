-- What expand prints for a list.
use Rattle.std.proofs.Common.{◌++◌, ◌+◌, ◌<◌, ◌↔◌, ◌∙◌, ◌∷◌, ◌≡◌, ◌≤◌, ◌⊎◌, [], All, ap, append-nil, append_assoc}
use Rattle.std.proofs.Common.{arith, Bool, codes, Contains, false, if◌then◌else◌, inl, inr, length, List, nat_le, refl}
use Rattle.std.proofs.Common.{slice_index, sym, true, true≢false, ℕ}
use Rattle.std.proofs.lemmas.{Bool.{le-leb, leb-false, leb-true, lt-leb}, List.{append_cancel_left}}
use Rattle.std.{proofs.lemmas.List.Elements.{All-append, All-cons}, specs.Fmt.{decimal}}
use Rattle.fc_board.proofs.ListLemmas.{verdict-OnlyLegal, verdict-Wins}
use Rattle.fc_board.proofs.MoveListLemmas.{list_allowed-exactly, list_refused-exactly, list_won-exactly}
use Rattle.fc_board.{proofs.RunPlayLemmas.{list_expanded, one_card, wins_expanded}, specs.Boards.{Board, IsWellFormed}}
use Rattle.fc_board.specs.{Games.{Game, game_of, RuleLaws}, Moves.{ListFits, move_count, MoveList, OneCard, Runs}}
use Rattle.fc_board.specs.Play.{Legal, list_verdict, OnlyLegal, Plays, Refused, RefusedAt, Verdict, Won}
use Rattle.fc_board.specs.Steps.{step_reason}
use Rattle.fc_board.specs.declared.fault.StepFault.{StepFault}
use Rattle.fc_board.specs.declared.fault.StepFault.TheVariants as step
use Rattle.fc_board.specs.laws.RenamingTests.{bakers_game_laws, eight_off_laws, freecell_laws}
use Rattle.fc_board.specs.declared.{moves.Move.{Move}, rule.Variant.TheVariants.{BakersGame, EightOff, FreeCell}}
use Rattle.fc_board.specs.declared.rule.Variant.{Variant}
use Rattle.fc_text.{proofs.LineLemmas.{InLine}, specs.{Bytes.{blank, line_feed, number_sign}, Notation.{most_moves}}}
use Rattle.fc_text.specs.Printed.{text_of}
use Rattle.fc_record.{proofs.LineLemmas.{played-ListLegal}, specs.Grammar.{begins_with, Heading, list_mark}}
use Rattle.fc_record.specs.Printing.{check_lines, comment_line, expand_lines, expanded_by, expanded_line, heading_line}
use Rattle.fc_record.specs.Printing.{list_line, name_of, numbered_lines, one_card_moves, verdict_line, verdict_words}
use Rattle.fc_collect.proofs.MemberLemmas.{CanPrint, member-Can, member-IsWellFormed}
use Rattle.fc_collect.{proofs.ReadAgainLemmas.{codes_in_line, decimal_in_line}, specs.Groups.{Member, members_among}}
use Rattle.fc_collect.specs.Records.{records_of}
use Rattle.fc_laws.proofs.VerdictLineLemmas.{not_both, small_index, verdict_Refused}

-- ---- a list and its expansion

module _ {game : Game} {renamings : List (List ℕ)} {cells count : ℕ} {kings_only : Bool}
    (laws : RuleLaws game renamings cells count kings_only) (board : Board) (well : IsWellFormed game board) where
  leads : (after : Board) (list : MoveList) → Plays game board list after → Plays game board (OneCard (one_card_moves game board list)) after
  leads after (OneCard moves) plays = plays
  leads after (Runs moves) plays = list_expanded game kings_only laws.builds_one_rank laws.fills_by_rank board after moves well plays

  same_verdict : (list : MoveList) → ListFits game list → Legal game board list
      → list_verdict game board (OneCard (one_card_moves game board list)) ≡ list_verdict game board list
  same_verdict (OneCard moves) fits legal = refl
  same_verdict (Runs moves) fits (after, plays) = by (list_verdict game board (Runs moves)) refl
    where
      four : length board.heights ≡ 4
      four = well.piles.four_foundations

      by : (ensured : Verdict) → list_verdict game board (Runs moves) ≡ ensured
          → list_verdict game board (OneCard (one_card_moves game board (Runs moves))) ≡ list_verdict game board (Runs moves)
      by Won e =
          let wins =
          (wins_expanded game kings_only laws.builds_one_rank laws.fills_by_rank board moves well).0
          ((list_won-exactly game board (Runs moves) fits four).0 e) in
          verdict-Wins (one_card game) board wins.1.0 (one_card_moves game board (Runs moves)) wins.1.1 wins.1.2 ∙ sym e
      by OnlyLegal e =
          let allowed = (list_allowed-exactly game board (Runs moves) fits four).0 e in
          verdict-OnlyLegal (one_card game) board after (one_card_moves game board (Runs moves)) four (leads after (Runs moves) plays)
          (λ won. allowed.1 (after, plays, won)) ∙ sym e
      by (Refused index fault) e = absurd (not_both game board after (Runs moves) index fault fits plays e)

module _ where
  pub expansion-leads : (own : Variant) (board : Board) → IsWellFormed (game_of own) board → (after : Board) (list : MoveList)
      → Plays (game_of own) board list after
      → Plays (game_of own) board (OneCard (one_card_moves (game_of own) board list)) after
  expansion-leads FreeCell = leads freecell_laws
  expansion-leads BakersGame = leads bakers_game_laws
  expansion-leads EightOff = leads eight_off_laws

  pub verdict-kept : (own : Variant) (board : Board) → IsWellFormed (game_of own) board → (list : MoveList) → ListFits (game_of own) list
      → Legal (game_of own) board list
      → list_verdict (game_of own) board (OneCard (one_card_moves (game_of own) board list)) ≡ list_verdict (game_of own) board list
  verdict-kept FreeCell = same_verdict freecell_laws
  verdict-kept BakersGame = same_verdict bakers_game_laws
  verdict-kept EightOff = same_verdict eight_off_laws

-- ---- comments

reason_in_line : (fault : StepFault) → All InLine (step_reason fault)
reason_in_line step.SamePile = codes_in_line (codes "same pile") refl
reason_in_line step.EmptySource = codes_in_line (codes "empty source") refl
reason_in_line step.TargetTaken = codes_in_line (codes "target taken") refl
reason_in_line step.KingsOnly = codes_in_line (codes "kings only") refl
reason_in_line step.NotBuilding = codes_in_line (codes "not building") refl
reason_in_line step.NotNext = codes_in_line (codes "not next") refl
reason_in_line step.NoRun = codes_in_line (codes "no run") refl
reason_in_line step.OverCapacity = codes_in_line (codes "over capacity") refl
reason_in_line step.WrongCount = codes_in_line (codes "wrong count") refl

refusal_in_line : (index : ℕ) (fault : StepFault) → All InLine (verdict_words 0 (Refused index fault))
refusal_in_line index fault =
    All-append InLine (codes " illegal " ++ decimal index) (blank ∷ step_reason fault)
    (All-append InLine (codes " illegal ") (decimal index) (codes_in_line (codes " illegal ") refl) (decimal_in_line index))
    (All-cons InLine blank (step_reason fault) (λ e. absurd (omega (arith, e))) (reason_in_line fault))

-- the line is a comment
abbrev pub IsCommentLine : List ℕ → Type 0
IsCommentLine line = (comment : List ℕ) × All InLine comment × (line ≡ number_sign ∷ comment ++ line_feed ∷ [])

comment_is : (number : ℕ) (words : List ℕ) → All InLine words → IsCommentLine (comment_line number words)
comment_is number words in_line = (
  codes " list " ++ decimal number ++ words,
  All-append InLine (codes " list " ++ decimal number) words
      (All-append InLine (codes " list ") (decimal number) (codes_in_line (codes " list ") refl) (decimal_in_line number)) in_line,
  refl,
)

-- ---- what is printed for a list

module _ (own : Variant) (board : Board) (well : IsWellFormed (game_of own) board) where
  abbrev game : Game
  game = game_of own

  -- the list with moves of one card
  abbrev pub as_one_card : MoveList → MoveList
  as_one_card list = OneCard (one_card_moves game board list)

  -- it is legal, and its moves of one card are no more than those of a list may be
  abbrev pub CanExpand : MoveList → Type 0
  CanExpand list = Legal game board list × (length (one_card_moves game board list) ≤ most_moves)

  pub line-verdict : (number : ℕ) (list : MoveList) → ListFits game list
      → (CanExpand list × (expanded_line game board number list ≡ list_line (as_one_card list)))
      ⊎ ((CanExpand list → ⊥) × IsCommentLine (expanded_line game board number list))
  line-verdict number list fits = by_verdict (list_verdict game board list) refl
    where
      moves : List Move
      moves = one_card_moves game board list

      by_length : Legal game board list → (b : Bool) → nat_le (length moves) most_moves ≡ b
          → (CanExpand list × ((if b then list_line (OneCard moves) else comment_line number (codes " too long")) ≡ list_line (OneCard moves)))
          ⊎ ((CanExpand list → ⊥) × IsCommentLine (if b then list_line (OneCard moves) else comment_line number (codes " too long")))
      by_length legal true e = inl ((legal, leb-true (length moves) most_moves e), refl)
      by_length legal false e =
          inr (
            (λ can. true≢false (sym (le-leb (length moves) most_moves can.1) ∙ e)),
            comment_is number (codes " too long") (codes_in_line (codes " too long") refl),
          )

      by_verdict : (ensured : Verdict) → list_verdict game board list ≡ ensured
          → (CanExpand list × (expanded_by number ensured moves ≡ list_line (OneCard moves)))
          ⊎ ((CanExpand list → ⊥) × IsCommentLine (expanded_by number ensured moves))
      by_verdict Won e = by_length (played-ListLegal game board list well fits true (sym e)) (nat_le (length moves) most_moves) refl
      by_verdict OnlyLegal e = by_length (played-ListLegal game board list well fits false (sym e)) (nat_le (length moves) most_moves) refl
      by_verdict (Refused index fault) e =
          inr (
            (λ ((after, plays), short). not_both game board after list index fault fits plays e),
            comment_is number (verdict_words 0 (Refused index fault)) (refusal_in_line index fault),
          )

-- ---- lists of the accepted records

module _ (variant : Variant) (collection : List ℕ) (member : Member) (there : Contains (members_among variant (records_of collection)) member) where
  abbrev own : Variant
  own = member.heading.variant

  abbrev board : Board
  board = member.contents.board

  well : IsWellFormed (game_of own) board
  well = member-IsWellFormed variant (records_of collection) member there

  pub listed-exactly : (number : ℕ) (list : MoveList) → Contains member.contents.lists list
      → (expanded_line (game_of own) board number list ≡ list_line (OneCard (one_card_moves (game_of own) board list)))
      ↔ (Legal (game_of own) board list × (length (one_card_moves (game_of own) board list) ≤ 4096))
  listed-exactly number list listed =
      by (line-verdict own board well number list (member-Can variant (records_of collection) member list there listed).0)
    where
      by : (CanExpand own board well list × (expanded_line (game_of own) board number list ≡ list_line (as_one_card own board well list)))
          ⊎ ((CanExpand own board well list → ⊥) × IsCommentLine (expanded_line (game_of own) board number list))
          → (expanded_line (game_of own) board number list ≡ list_line (as_one_card own board well list)) ↔ CanExpand own board well list
      by (inl (can, line)) = ((λ e. can), (λ can. line))
      by (inr (never, (comment, in_line, line))) =
          ((λ e. absurd (true≢false (sym (ap (begins_with list_mark) (sym line ∙ e))))), (λ can. absurd (never can)))

  pub comment-exactly : (number : ℕ) (list : MoveList) → Contains member.contents.lists list
      → (begins_with number_sign (expanded_line (game_of own) board number list) ≡ true)
      ↔ (¬ (Legal (game_of own) board list × (length (one_card_moves (game_of own) board list) ≤ 4096)))
  comment-exactly number list listed =
      by (line-verdict own board well number list (member-Can variant (records_of collection) member list there listed).0)
    where
      by : (CanExpand own board well list × (expanded_line (game_of own) board number list ≡ list_line (as_one_card own board well list)))
          ⊎ ((CanExpand own board well list → ⊥) × IsCommentLine (expanded_line (game_of own) board number list))
          → (begins_with number_sign (expanded_line (game_of own) board number list) ≡ true) ↔ (¬ CanExpand own board well list)
      by (inl (can, line)) = ((λ e. absurd (true≢false (sym e ∙ ap (begins_with number_sign) line))), (λ never. absurd (never can)))
      by (inr (never, (comment, in_line, line))) = ((λ e. never), (λ never. ap (begins_with number_sign) line))

  pub verdict-same : (list : MoveList) → Contains member.contents.lists list → Legal (game_of own) board list
      → list_verdict (game_of own) board (OneCard (one_card_moves (game_of own) board list)) ≡ list_verdict (game_of own) board list
  verdict-same list listed = verdict-kept own board well list (member-Can variant (records_of collection) member list there listed).0

  pub leads-there : (after : Board) (list : MoveList) → Plays (game_of own) board list after
      → Plays (game_of own) board (OneCard (one_card_moves (game_of own) board list)) after
  leads-there = expansion-leads own board well

  -- ---- comments

  abbrev comment_front : ℕ → List ℕ
  comment_front number = codes "# list " ++ decimal number

  -- a list is no comment, nor is the comment on a long list one on an illegal list
  no_comment : (number : ℕ) (words : List ℕ) (moves : List Move) → list_line (OneCard moves) ≡ comment_line number words → ⊥
  no_comment number words moves e = let same : 62 ≡ 35 = ap (λ text. slice_index text 0) e in omega (arith, same)

  no_long : (number index : ℕ) (fault : StepFault)
      → comment_line number (codes " too long") ≡ comment_line number (verdict_words 0 (Refused index fault)) → ⊥
  no_long number index fault e =
      let front = comment_front number in
      let illegal = verdict_words 0 (Refused index fault) in
      let rest = append_cancel_left front (codes " too long" ++ line_feed ∷ []) (illegal ++ line_feed ∷ [])
      (sym (append_assoc front (codes " too long") (line_feed ∷ [])) ∙ e ∙ append_assoc front illegal (line_feed ∷ [])) in
      let same : 116 ≡ 105 = ap (λ text. slice_index text 1) rest in omega (arith, same)

  -- by the length, of moves that are allowed
  abbrev by_length : ℕ → List Move → Bool → List ℕ
  by_length number moves b = if b then list_line (OneCard moves) else comment_line number (codes " too long")

  never_illegal : (number index : ℕ) (fault : StepFault) (moves : List Move) (b : Bool)
      → by_length number moves b ≡ comment_line number (verdict_words 0 (Refused index fault)) → ⊥
  never_illegal number index fault moves true e = no_comment number (verdict_words 0 (Refused index fault)) moves e
  never_illegal number index fault moves false e = no_long number index fault e

  module _ (list : MoveList) (listed : Contains member.contents.lists list) where
    can : CanPrint (game_of own) list
    can = member-Can variant (records_of collection) member list there listed

    abbrev moves : List Move
    moves = one_card_moves (game_of own) board list

    pub illegal-exactly : (number index : ℕ) (fault : StepFault) → index < move_count list
        → (expanded_line (game_of own) board number list
        ≡ codes "# list " ++ decimal number ++ codes " illegal " ++ decimal index ++ blank ∷ step_reason fault ++ line_feed ∷ [])
        ↔ RefusedAt (game_of own) board list index fault
    illegal-exactly number index fault within = (
      λ e. (list_refused-exactly (game_of own) board list index fault can.0).0 (ahead (list_verdict (game_of own) board list) refl (e ∙ words)),
      λ at. ap (λ ensured. expanded_by number ensured moves) ((list_refused-exactly (game_of own) board list index fault can.0).1 at) ∙ sym words,
    )
      where
        words : codes "# list " ++ decimal number ++ codes " illegal " ++ decimal index ++ blank ∷ step_reason fault ++ line_feed ∷ []
            ≡ comment_line number (verdict_words 0 (Refused index fault))
        words =
            ap (λ text. text ++ line_feed ∷ [])
            (append_assoc (comment_front number ++ codes " illegal ") (decimal index) (blank ∷ step_reason fault)
            ∙ append_assoc (comment_front number) (codes " illegal ") (decimal index ++ blank ∷ step_reason fault)
            ∙ ap (λ words. comment_front number ++ words) (sym (append_assoc (codes " illegal ") (decimal index) (blank ∷ step_reason fault))))

        ahead : (ensured : Verdict) → list_verdict (game_of own) board list ≡ ensured
            → expanded_by number ensured moves ≡ comment_line number (verdict_words 0 (Refused index fault))
            → ensured ≡ Refused index fault
        ahead Won is e = absurd (never_illegal number index fault moves (nat_le (length moves) most_moves) e)
        ahead OnlyLegal is e = absurd (never_illegal number index fault moves (nat_le (length moves) most_moves) e)
        ahead (Refused other reason) is e =
            verdict_Refused (comment_front number) 0 (Refused other reason) index fault
            (λ place why same. small_index (game_of own) board list can.0 (omega (arith, can.1)) place why (is ∙ same))
            (omega (arith, can.1, within)) e

    pub long-exactly : (number : ℕ)
        → (expanded_line (game_of own) board number list ≡ codes "# list " ++ decimal number ++ codes " too long" ++ line_feed ∷ [])
        ↔ (Legal (game_of own) board list × (4096 < length moves))
    long-exactly number = by_verdict (list_verdict (game_of own) board list) refl
      where
        by_test : Legal (game_of own) board list → (b : Bool) → nat_le (length moves) most_moves ≡ b
            → (by_length number moves b ≡ comment_line number (codes " too long")) ↔ (Legal (game_of own) board list × (4096 < length moves))
        by_test legal true e = (
          (λ same. absurd (no_comment number (codes " too long") moves same)),
          (λ (legal, long). absurd (true≢false (sym e ∙ lt-leb (length moves) most_moves long))),
        )
        by_test legal false e = ((λ same. (legal, leb-false (length moves) most_moves e)), (λ long. refl))

        by_verdict : (ensured : Verdict) → list_verdict (game_of own) board list ≡ ensured
            → (expanded_by number ensured moves ≡ comment_line number (codes " too long")) ↔ (Legal (game_of own) board list × (4096 < length moves))
        by_verdict Won e = by_test (played-ListLegal (game_of own) board list well can.0 true (sym e)) (nat_le (length moves) most_moves) refl
        by_verdict OnlyLegal e = by_test (played-ListLegal (game_of own) board list well can.0 false (sym e)) (nat_le (length moves) most_moves) refl
        by_verdict (Refused index fault) e = (
          (λ same. absurd (no_long number index fault (sym same))),
          (λ ((after, plays), long). absurd (not_both (game_of own) board after list index fault can.0 plays e)),
        )

-- ---- one list more

pub numbered-more : (line : ℕ → MoveList → List ℕ) (number : ℕ) (lists : List MoveList) (list : MoveList)
    → numbered_lines line number (lists ++ list ∷ []) ≡ numbered_lines line number lists ++ line (number + length lists) list
numbered-more line number [] list = append-nil (line number list) ∙ ap (λ n. line n list) (omega arith)
numbered-more line number (first ∷ lists) list =
    let after : number + 1 + length lists ≡ number + length (first ∷ lists) = omega arith in
    let last = line (number + length (first ∷ lists)) list in
    rw (
      numbered-more line (number + 1) lists list,
      after,
      append_assoc (line number first) (numbered_lines line (number + 1) lists) last,
    )

pub checked-more : (number : ℕ) (heading : Heading) (board : Board) (lists : List MoveList) (list : MoveList) → 0 < length lists
    → check_lines number heading (record { board = board; lists = lists ++ list ∷ [] })
    ≡ check_lines number heading (record { board = board; lists = lists })
    ++ verdict_line (name_of number heading.name) (game_of heading.variant) board (length lists + 1) list
checked-more number heading board [] list some = absurd (omega (arith, some))
checked-more number heading board (first ∷ lists) list some =
    let line = verdict_line (name_of number heading.name) (game_of heading.variant) board in
    let next : 1 + length (first ∷ lists) ≡ length (first ∷ lists) + 1 = omega arith in
    rw (numbered-more line 1 (first ∷ lists) list, next)

pub expanded-more : (number : ℕ) (heading : Heading) (board : Board) (lists : List MoveList) (list : MoveList)
    → expand_lines number heading (record { board = board; lists = lists ++ list ∷ [] })
    ≡ expand_lines number heading (record { board = board; lists = lists }) ++ expanded_line (game_of heading.variant) board (length lists + 1) list
expanded-more number heading board lists list =
    let line = expanded_line (game_of heading.variant) board in
    let front = heading_line number heading ++ text_of board in
    let next : 1 + length lists ≡ length lists + 1 = omega arith in
    rw (numbered-more line 1 lists list, next, append_assoc front (numbered_lines line 1 lists) (line (length lists + 1) list))
