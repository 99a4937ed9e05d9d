-- While the first card of a run stays, each confined step leaves every other card of it in a cell, first in a column that was empty, or right after the card that it goes on.
use Rattle.std.proofs.Common.{◌++◌, ◌+◌, ◌-◌, ◌<◌, ◌∙◌, ◌∷◌, ◌≡◌, ◌≢◌, [], ap, arith, eqb, get_or, inl, inr, length}
use Rattle.std.proofs.Common.{List, map, None, Option, refl, set, Some, subst, sym, ℕ}
use Rattle.std.proofs.lemmas.Bool.{both_ways, cases_eq, eq-eqb}
use Rattle.std.proofs.lemmas.List.{append_assoc, get_or-set_other, length-map, map-set, set-get_or}
use Rattle.std.proofs.lemmas.Option.{same_Some, slice_get-get_or}
use Rattle.fc_card.specs.{rank_of}
use Rattle.fc_board.proofs.AmongLemmas.{AllAmong, among_right, Clears, highest, IsInReach, last_split, newly, newly_few}
use Rattle.fc_board.proofs.{AmongLemmas.{only_one, tail_empty}, BaseLemmas.{holds_all, stays_low}}
use Rattle.fc_board.proofs.BasesMoved.{first_put, first_taken, Taken}
use Rattle.fc_board.proofs.ColumnFates.{from_it, grows_or_shrinks, stays_there, to_it}
use Rattle.fc_board.proofs.DeckLemmas.{inside_columns, sizes_taken, split_last, stays_well_formed}
use Rattle.fc_board.proofs.MovedCard.{lies_in_cell, lies_in_column, other_cells, other_columns}
use Rattle.fc_board.proofs.{RunLemmas.{lower_in_run, neighbours, same_by_rank}, StandLemmas.{bases, first_card}}
use Rattle.fc_board.proofs.StandLemmas.{head_at, heads, heads_empty, Holds, reach_of, same_columns, Setting, Stands}
use Rattle.fc_board.{proofs.StandLemmas.{Stands.{first_there, in_cell, on_it}, Support, support}, specs.Boards.{Board}}
use Rattle.fc_board.specs.{Games.{Builds, Fills, Game}, laws.ListWords.{IsRun, MovesPlay}, Steps.{after_move}}
use Rattle.fc_board.specs.Steps.{after_taking, Among, card_at, cell_at, column_at, Confined, is_same_pile, IsOpenPlace}
use Rattle.fc_board.specs.Steps.{IsOpenSource, last_card, MayFollow, put_on, Step, taken_from, without_last}
use Rattle.fc_board.specs.declared.moves.{Move.{Move}, Place.{Place}}
use Rattle.fc_board.specs.declared.moves.{Place.TheVariants.{Cell as ToCell, Column as ToColumn, Home}, Source.{Source}}
use Rattle.fc_board.specs.declared.moves.Source.TheVariants.{Cell as FromCell, Column as FromColumn}

among_split : (x : ℕ) (xs : List ℕ) → Among x xs → (before follows : List ℕ) × (xs ≡ before ++ x ∷ follows)
among_split x [] among = absurd among
among_split x (y ∷ xs) (inl same) = ([], xs, ap (λ z. z ∷ xs) (sym same))
among_split x (y ∷ xs) (inr rest) = let (before, follows, e) = among_split x xs rest in (y ∷ before, follows, ap (λ l. y ∷ l) e)

none_in_empty : (xs : List ℕ) (x : ℕ) → [] ≡ xs ++ x ∷ [] → ⊥
none_in_empty xs x e = let h = tail_empty xs (x ∷ []) (sym e) in cc

some_last : (xs ys : List ℕ) (x : ℕ) → xs ++ x ∷ ys ≡ [] → ⊥
some_last [] ys x e = cc
some_last (y ∷ xs) ys x e = cc

beside_source : (board : Board) (source : Source) (column : ℕ) → source ≢ FromColumn column →
    column_at (taken_from board source) column ≡ column_at board column
beside_source board (FromColumn other) column apart =
    get_or-set_other board.columns other column (without_last (column_at board other)) [] (λ same. apart (ap FromColumn (sym same)))
beside_source board (FromCell cell) column apart = refl

pub empty_from_last : (column : List ℕ) → last_card column ≡ None → column ≡ []
empty_from_last [] e = refl
empty_from_last (card ∷ column) e = cc (slice_get-get_or (card ∷ column) (length (card ∷ column) - 1) card (omega arith))

pub in_reach_of : (game : Game) (s : Setting game) (board : Board) (above : ℕ) → Support game s board above →
    IsInReach (reach_of s) s.floor (bases (heads s.start.columns) (heads board.columns)) (rank_of above)
in_reach_of game s board above sup = (
  sup.low,
  sup.among,
  sup.lower,
  omega (
    arith,
    holds_all (rank_of above) sup.low (map rank_of (newly s.start.cells board.cells)) sup.held,
    length-map (newly s.start.cells board.cells) rank_of,
    newly_few s.start.cells board.cells,
  ),
)

module _ (game : Game) (s : Setting game) (board after : Board) (move : Move) (h : Holds game s board) (step : Step game board move after)
    (open_source : IsOpenSource s.start s.source s.target move.from) (open_place : IsOpenPlace s.start s.source s.target move.to) where
  -- the first card could only go if it had a base, or the floor, in its reach
  pub first_stays : s.floor + highest (reach_of s) s.most + reach_of s < rank_of s.first → step.card ≡ s.first → ⊥
  first_stays too_many same =
      let sup = support game s board h s.later [] s.first move.from refl (step.offered.1 ∙ ap Some same) in
      let (low, among, lower, near) = in_reach_of game s board s.first sup in
      elim among [
        | inl at ↦ omega arith
        | inr there ↦ omega (arith, stays_low (reach_of s) s.most s.floor (bases (heads s.start.columns) (heads board.columns)) h.clears low there)
      ]

  module _ (is : Among step.card s.later) where
    lower_rank : rank_of step.card < rank_of s.first
    lower_rank = lower_in_run game s.by_rank s.first s.later s.run step.card is

    not_first : s.first ≡ step.card → ⊥
    not_first same = let e = ap rank_of same in omega (arith, lower_rank)

    not_on_goal : Builds game step.card s.goal → ⊥
    not_on_goal builds = let a = s.by_rank step.card s.goal builds in let b = s.by_rank s.first s.goal s.goes in omega (arith, lower_rank)

    last_of_target : last_card (column_at board s.target) ≡ Some s.goal
    last_of_target = ap last_card h.on_target ∙ s.goes_to

    on_source_after : (rest : List ℕ) × (column_at after s.source ≡ (s.under ++ s.first ∷ []) ++ rest) × AllAmong rest s.later
    on_source_after =
        let (rest, e, all) = h.on_source in
        grows_or_shrinks game board after move h.well step s.source (s.under ++ s.first ∷ []) rest s.later e
        (λ xs ends. elim (last_split s.under (s.first ∷ []) xs step.card ends) [
          | inl none ↦ cc
          | inr more ↦ not_first (only_one s.first step.card more.0 more.1)
        ])
        all is

    helpers_after : (column : ℕ) → column_at s.start column ≡ [] → AllAmong (column_at after column) s.later
    helpers_after column empty =
        let (rest, e, all) = grows_or_shrinks game board after move h.well step column [] (column_at board column) s.later refl
        (λ xs ends. none_in_empty xs step.card ends) (h.spare_columns column empty) is in
        λ x among. all x (rw e at among)

    on_target_after : column_at after s.target ≡ column_at s.start s.target
    on_target_after = elim (from_it move.from s.target) [
      | inl from ↦
          let same : step.card ≡ s.goal = same_Some step.card s.goal (sym step.offered.1 ∙ ap (card_at board) from ∙ last_of_target) in
          let a = ap rank_of same in let b = s.by_rank s.first s.goal s.goes in absurd (omega (arith, lower_rank))
      | inr beside ↦ elim (to_it move.to s.target) [
        | inl to ↦
            let goes : MayFollow game step.card (last_card (column_at board s.target)) = rw to at step.goes in
            absurd (not_on_goal (rw last_of_target at goes))
        | inr apart ↦ other_columns game board after move step s.target beside apart ∙ h.on_target
      ]
    ]

    -- the last card of the column on which the card is put is one of the run
    last_of_run : (column last : ℕ) → move.to ≡ ToColumn column → last_card (column_at board column) ≡ Some last → Builds game step.card last →
        Among last (s.first ∷ s.later)
    last_of_run column last to found builds =
        let ends = split_last (column_at board column) last found in
        elim (rw to at open_place) [
          | inl (inl source) ↦
              let (rest, e, all) = h.on_source in
              elim (last_split (s.under ++ s.first ∷ []) rest (without_last (column_at board column)) last
              (sym e ∙ ap (column_at board) (sym source) ∙ ends)) [
                | inl none ↦
                    (elim (last_split s.under (s.first ∷ []) (without_last (column_at board column)) last
                    (sym (take_none (s.under ++ s.first ∷ []) rest none) ∙ sym e ∙ ap (column_at board) (sym source) ∙ ends)) [
                      | inl none' ↦ cc
                      | inr more ↦ inl (sym (only_one s.first last more.0 more.1))
                    ])
                | inr more ↦ inr (all last (rw more.1 (among_right last more.0 (last ∷ []) (inl refl))))
              ]
          | inl (inr target) ↦
              let same : last ≡ s.goal = same_Some last s.goal (sym found ∙ ap (λ k. last_card (column_at board k)) target ∙ last_of_target) in
              absurd (not_on_goal (rw same at builds))
          | inr empty ↦ inr (h.spare_columns column empty last
              (rw ends (among_right last (without_last (column_at board column)) (last ∷ []) (inl refl))))
        ]
      where
        take_none : (xs ys : List ℕ) → ys ≡ [] → xs ++ ys ≡ xs
        take_none [] ys e = e
        take_none (x ∷ xs) ys e = rw (take_none xs ys e)

    stands_on : (before : List ℕ) (above : ℕ) (lower : List ℕ) → s.first ∷ s.later ≡ before ++ above ∷ step.card ∷ lower → (column last : ℕ) →
        move.to ≡ ToColumn column →
        last_card (column_at board column) ≡ Some last → Builds game step.card last → Stands s.start after above step.card
    stands_on before above lower e column last to found builds =
        let a = s.by_rank step.card last builds in
        let b = s.by_rank step.card above (neighbours game s.by_rank before above step.card lower (subst (IsRun game) e s.run)) in
        let there : Among above (s.first ∷ s.later) = subst (Among above) (sym e) (among_right above before (above ∷ step.card ∷ lower) (inl refl)) in
        let same : last ≡ above = same_by_rank game s.by_rank (s.first ∷ s.later) s.run last above (last_of_run column last to found builds) there
        (omega arith) in
        let front = without_last (column_at board column) in
        on_it column front []
        (lies_in_column game board after move step h.well column to ∙ ap (λ l. l ++ step.card ∷ [])
        (split_last (column_at board column) last found ∙ ap (λ x. front ++ x ∷ []) same) ∙
        append_assoc front (above ∷ []) (step.card ∷ []))

    stands_in_column : (before : List ℕ) (above : ℕ) (lower : List ℕ) → s.first ∷ s.later ≡ before ++ above ∷ step.card ∷ lower → (column : ℕ) →
        move.to ≡ ToColumn column →
        (found : Option ℕ) → last_card (column_at board column) ≡ found → MayFollow game step.card found → Stands s.start after above step.card
    stands_in_column before above lower e column to (Some last) found builds = stands_on before above lower e column last to found builds
    stands_in_column before above lower e column to None found fills =
        let empty = empty_from_last (column_at board column) found in
        elim (rw to at open_place) [
          | inl (inl source) ↦ absurd (source_not_empty (sym (ap (column_at board) source) ∙ empty))
          | inl (inr target) ↦ absurd (cc (sym found ∙ ap (λ k. last_card (column_at board k)) target ∙ last_of_target))
          | inr was ↦ first_there column [] was (lies_in_column game board after move step h.well column to ∙ ap (λ l. l ++ step.card ∷ []) empty)
        ]
      where
        source_not_empty : column_at board s.source ≡ [] → ⊥
        source_not_empty none =
            let (rest, e, all) = h.on_source in
            some_last s.under rest s.first (sym (append_assoc s.under (s.first ∷ []) rest) ∙ sym e ∙ none)

    new_stand : (before : List ℕ) (above : ℕ) (lower : List ℕ) → s.first ∷ s.later ≡ before ++ above ∷ step.card ∷ lower → (place : Place) →
        move.to ≡ place → Stands s.start after above step.card
    new_stand before above lower e (ToColumn column) to =
        stands_in_column before above lower e column to (last_card (column_at board column)) refl (rw to at step.goes)
    new_stand before above lower e (ToCell cell) to =
        in_cell cell (rw to at open_place) (lies_in_cell game board after move step h.well cell to).1
    new_stand before above lower e Home to = absurd (rw to at open_place)

    old_stand : (above card : ℕ) → card ≢ step.card → Stands s.start board above card → Stands s.start after above card
    old_stand above card other (in_cell cell was is) =
        in_cell cell was (other_cells game board after move step cell
        (λ from. other (same_Some card step.card (sym is ∙ ap (card_at board) (sym from) ∙ step.offered.1)))
        (λ to. let free : cell_at board cell ≡ None = rw to at step.goes in cc) ∙ is)
    old_stand above card other (first_there column rest was is) =
        let (more, e) = stays_there game board after move h.well step column [] card rest is other in first_there column more was e
    old_stand above card other (on_it column before rest is) =
        let (more, e) = stays_there game board after move h.well step column (before ++ above ∷ []) card rest
        (is ∙ sym (append_assoc before (above ∷ []) (card ∷ rest))) other in
        on_it column before more (e ∙ append_assoc before (above ∷ []) (card ∷ more))

    stands_after : (before : List ℕ) (above card : ℕ) (lower : List ℕ) → s.first ∷ s.later ≡ before ++ above ∷ card ∷ lower →
        Stands s.start after above card
    stands_after before above card lower e = elim (cases_eq card step.card) [
      | inl same ↦ subst (Stands s.start after above) (sym same)
          (new_stand before above lower (e ∙ ap (λ c. before ++ above ∷ c ∷ lower) same) move.to refl)
      | inr other ↦ old_stand above card other (h.stands before above card lower e)
    ]

    reached : IsInReach (reach_of s) s.floor (bases (heads s.start.columns) (heads board.columns)) (rank_of step.card)
    reached =
        let (before, lower, e) = among_split step.card (s.first ∷ s.later) (inr is) in
        in_reach_of game s board step.card (support game s board h lower before step.card move.from e step.offered.1)

    abbrev AreTaken : List ℕ → Type 0
    AreTaken news = Taken (reach_of s) s.most s.floor (rank_of step.card) (bases (heads s.start.columns) (heads board.columns)) news

    taken_by_rest : (column : ℕ) → column < length board.columns → column_at board column ≡ without_last (column_at board column) ++ step.card ∷ [] →
        (rest : List ℕ) → without_last (column_at board column) ≡ rest →
        AreTaken (bases (heads s.start.columns) (set (heads board.columns) column (first_card rest)))
    taken_by_rest column inside ends [] e =
        first_taken (heads s.start.columns) (heads board.columns) column step.card (reach_of s) s.most s.floor (same_columns game s board h) (let l = length-map board.columns first_card in omega arith)
        (head_at board.columns column ∙ ap first_card (ends ∙ ap (λ l. l ++ step.card ∷ []) e)) reached h.clears
        (get_or (heads s.start.columns) column None) refl
    taken_by_rest column inside ends (x ∷ rest) e =
        let here : get_or (heads board.columns) column None ≡ Some x = head_at board.columns column
        ∙ ap first_card (ends ∙ ap (λ l. l ++ step.card ∷ []) e) in
        let same = ap (λ l. bases (heads s.start.columns) l)
        (ap (set (heads board.columns) column) (sym here) ∙ set-get_or (heads board.columns) column None) in
        rw same (record { clears = h.clears; in_reach = reached })

    taken_bases : (source : Source) → card_at board source ≡ Some step.card →
        AreTaken (bases (heads s.start.columns) (heads (taken_from board source).columns))
    taken_bases (FromCell cell) found = record { clears = h.clears; in_reach = reached }
    taken_bases (FromColumn column) found =
        subst (λ l. AreTaken (bases (heads s.start.columns) l))
        (sym (map-set first_card board.columns column (without_last (column_at board column))))
        (taken_by_rest column (inside_columns board.columns column step.card found) (split_last (column_at board column) step.card found)
        (without_last (column_at board column)) refl)

    abbrev middle : Board
    middle = taken_from board move.from

    other_pile : (column : ℕ) → move.to ≡ ToColumn column → move.from ≢ FromColumn column
    other_pile column to from =
        both_ways (eqb column column) (sym (ap (λ f. is_same_pile f move.to) from ∙ ap (is_same_pile (FromColumn column)) to) ∙ step.offered.0)
        (eq-eqb column column refl)

    fills_it : (column : ℕ) → move.to ≡ ToColumn column → column_at middle column ≡ [] → Fills game step.card
    fills_it column to e =
        let empty = sym (beside_source board move.from column (other_pile column to)) ∙ e in
        let goes : MayFollow game step.card (last_card (column_at board column)) = rw to at step.goes in
        rw empty at goes

    put_by_rest : (column : ℕ) → column < length middle.columns → move.to ≡ ToColumn column → (rest : List ℕ) → column_at middle column ≡ rest →
        Clears (reach_of s) s.most s.floor (bases (heads s.start.columns) (set (heads middle.columns) column (first_card (rest ++ step.card ∷ []))))
    put_by_rest column inside to [] e =
        let taken = taken_bases move.from step.offered.1 in
        let sizes = sizes_taken board move.from in
        first_put (heads s.start.columns) (heads middle.columns) column step.card (reach_of s) s.most s.floor
        (same_columns game s board h ∙ length-map board.columns first_card ∙ sym (sizes.2) ∙ sym (length-map middle.columns first_card))
        (let l = length-map middle.columns first_card in omega arith) (head_at middle.columns column ∙ ap first_card e) taken.in_reach taken.clears
        (get_or (heads s.start.columns) column None) refl
        (λ was. rw (heads_empty s.start.columns) (s.room step.card is (fills_it column to e)))
    put_by_rest column inside to (x ∷ rest) e =
        let here : get_or (heads middle.columns) column None ≡ Some x = head_at middle.columns column ∙ ap first_card e in
        let same = ap (λ l. bases (heads s.start.columns) l)
        (ap (set (heads middle.columns) column) (sym here) ∙ set-get_or (heads middle.columns) column None) in
        rw same (taken_bases move.from step.offered.1).clears

    put_bases : (place : Place) → move.to ≡ place →
        Clears (reach_of s) s.most s.floor (bases (heads s.start.columns) (heads (put_on middle step.card place).columns))
    put_bases (ToColumn column) to =
        let fits : column < 8 = rw to at step.fits.1 in
        let sizes = sizes_taken board move.from in
        let eight = h.well.piles.eight_columns in
        subst (λ l. Clears (reach_of s) s.most s.floor (bases (heads s.start.columns) l))
        (sym (map-set first_card middle.columns column (column_at middle column ++ step.card ∷ [])))
        (put_by_rest column (omega arith) to (column_at middle column) refl)
    put_bases (ToCell cell) to = (taken_bases move.from step.offered.1).clears
    put_bases Home to = (taken_bases move.from step.offered.1).clears

    pub holds_after : Holds game s after
    holds_after = record {
      well = stays_well_formed game board after move h.well step;
      on_source = on_source_after;
      on_target = on_target_after;
      spare_columns = helpers_after;
      stands = stands_after;
      clears =
          rw step.moved (put_bases move.to refl);
    }

-- each confined list leaves the first card where it is
pub stays_through : (game : Game) (s : Setting game) → s.floor + highest (reach_of s) s.most + reach_of s < rank_of s.first →
    (board after : Board) (moves : List Move) → Holds game s board →
    Confined s.start s.source s.target (s.first ∷ s.later) board moves → MovesPlay game board moves after → Holds game s after
stays_through game s too_many board after [] h confined plays = rw plays h
stays_through game s too_many board after (move ∷ moves) h (open_source, open_place, (card, found, among), rest) (between, step, plays) =
    let same : step.card ≡ card = same_Some step.card card (sym step.offered.1 ∙ found) in
    let next : Holds game s between = elim (subst (λ c. Among c (s.first ∷ s.later)) (sym same) among) [
      | inl first ↦ absurd (first_stays game s board between move h step open_source open_place too_many first)
      | inr later ↦ holds_after game s board between move h step open_source open_place later
    ] in
    let there : after_move board move ≡ between = ap (after_taking board move.from move.to) step.offered.1 ∙ sym step.moved in
    stays_through game s too_many between after moves next (rw there at rest)
    plays
