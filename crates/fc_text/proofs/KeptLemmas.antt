-- Lemmas on what a reader keeps: its fields stay as they are to be when a line or a word is taken.
use Rattle.std.proofs.Common.{◌++◌, ◌+◌, ◌<◌, ◌||◌, ◌∙◌, ◌∷◌, ◌≡◌, ◌≤◌, [], All, ap, append-nil, arith, Bool, cond}
use Rattle.std.proofs.Common.{count_by, drop, drop-drop, eqb, Err, false, get_or, inl, inr, length, List, None, Ok}
use Rattle.std.proofs.Common.{Option, refl, Result, set, Some, suc, sym, take, true, zero, ℕ}
use Rattle.std.proofs.lemmas.{Bool.{cases_eq, eq-eqb, le-leb, lt-leb}, List.{drop-set-lt, Elements.{All-drop}}}
use Rattle.std.proofs.lemmas.List.{get_or-set_other, length-set, length-take-le}
use Rattle.std.proofs.lemmas.List.{Sums.{count_by-le-length, sum_by-cons, sum_by-set}, take_more_set}
use Rattle.std.specs.{List.{list_any}, Option.{IsNone, option_to_list}}
use Rattle.std.proofs.{lemmas.Bool.{or_left}, Math.Bool.{or-false}}
use Rattle.fc_board.specs.{Games.{Game}, inside.{AreBounds, columns_between}}
use Rattle.fc_text.proofs.FinishLemmas.{AreBounds-begun, AreBounds-card, columns_between-begun, columns_from-card}
use Rattle.fc_text.proofs.FinishLemmas.{length-columns_between}
use Rattle.fc_text.proofs.{SeeingLemmas.{also_seen_at, length-also_seen, length-seen_of}, SoundLemmas.{below_to}}
use Rattle.fc_text.specs.{Faults.{cards_at_home}, reader.{add_to_last, after_part, also_seen, bounds_known, bounds_of}}
use Rattle.fc_text.specs.reader.{is_named_suit, is_seen, IsKept, known_of, known_part_fault, Lays, seen_of, Sees}
use Rattle.fc_text.specs.Spelling.{card_spelled, cell_spelled, foundation_spelled}
use Rattle.fc_text.specs.declared.board.reader.{Kept.{Kept}, Section.{Section}}
use Rattle.fc_text.specs.declared.board.reader.Section.TheVariants.{Column, Foundations, Freecells}
use Rattle.fc_text.specs.declared.{board.spelling.Foundation.{Foundation}, fault.BoardFaultKind.{BoardFaultKind}}
use Rattle.fc_text.specs.declared.fault.BoardFaultKind.TheVariants.{RepeatedCard, TooManyColumns}

-- ---- cards that were seen

abbrev count_true : List Bool → ℕ
count_true seen = count_by (λ was. was) seen

-- how many cards were counted
abbrev count_seen : List ℕ → ℕ
count_seen counts = count_true (seen_of counts)

abbrev one_if : Bool → ℕ
one_if was = cond was 1 0

-- each that was seen is seen among these too
count_more : (old new : List Bool) → length new ≡ length old
    → ((card : ℕ) → card < length old → get_or old card false ≡ true → get_or new card false ≡ true)
    → count_true old ≤ count_true new
count_more [] new long each = omega arith
count_more (was ∷ old) [] long each = absurd (omega (arith, long))
count_more (was ∷ old) (is ∷ new) long each =
    let rest = count_more old new (omega (arith, long)) (λ card inside seen. each (suc card) (omega (arith, inside)) seen) in
    omega (arith, sum_by-cons one_if was old, sum_by-cons one_if is new, rest, first was is (each 0 (omega arith)))
  where
    first : (was is : Bool) → (was ≡ true → is ≡ true) → one_if was ≤ one_if is
    first false is stays = omega arith
    first true is stays = omega (arith, ap one_if (stays refl))

-- as many cards or more are seen
pub count-grows : {X : Type 0} (old new cards : List ℕ) (result : Result X BoardFaultKind)
    → Sees (seen_of old) cards (seen_of new) result → count_seen old ≤ count_seen new
count-grows old new cards (Ok taken) h =
    let seen = seen_of old in
    let size = length-seen_of old in
    rw h.1 (count_more seen (also_seen seen cards) (length-also_seen seen cards ∙ sym size)
    (λ card inside was. also_seen_at seen cards card (omega (arith, inside, size)) ∙ or_left (is_seen seen card) (list_any (λ other. eqb other card) cards) was))
count-grows old new cards (Err kind) h = rw h.2 (omega arith)

-- a card that was not seen is one more
one_more : (seen : List Bool) (card : ℕ) → length seen ≡ 52 → card < 52 → get_or seen card false ≡ false
    → count_true seen + 1 ≤ count_true (also_seen seen (card ∷ []))
one_more seen card long inside unlike =
    let step = sum_by-set one_if seen card true false (omega (arith, inside, long)) in
    let none : one_if (get_or seen card false) ≡ 0 = ap one_if unlike in
    let size = length-set seen card true in
    omega (
      arith,
      step,
      none,
      count_more (set seen card true) (also_seen seen (card ∷ [])) (length-also_seen seen (card ∷ []) ∙ sym (size ∙ long))
          (λ other within was. also_seen_at seen (card ∷ []) other (omega (arith, within, size, long)) ∙ elim (cases_eq card other) [
            | inl same ↦ is_last (is_seen seen other) (eqb card other) (eq-eqb card other same)
            | inr apart ↦ or_left (is_seen seen other) (eqb card other || false) (sym (get_or-set_other seen card other true false (λ e. apart (sym e))) ∙ was)
          ]),
    )
  where
    is_last : (a b : Bool) → b ≡ true → (a || (b || false)) ≡ true
    is_last true b e = refl
    is_last false true e = refl
    is_last false false e = e

-- ---- what is kept

-- the part is not at fault after what is kept, and then this is known
abbrev pub Takes : Game → Kept → Section → Option (List ℕ) → Kept → Type 0
Takes game old section part new = (known_part_fault game (known_of old) section part ≡ None) × (known_of new ≡ after_part (known_of old) section part)

-- a height is named, and these cards are seen
abbrev pub with_height : Kept → ℕ → ℕ → List ℕ → Kept
with_height kept suit height seen = record kept { heights = set kept.heights suit (Some height); seen = seen }

-- the next cell holds this, and these cards are seen
abbrev pub with_cell : Kept → Option ℕ → List ℕ → Kept
with_cell kept cell seen = record kept { cells = set kept.cells kept.cell_words cell; cell_words = kept.cell_words + 1; seen = seen }

-- one more column begins
abbrev pub with_column : Kept → Kept
with_column kept = record kept { bounds = set kept.bounds kept.column_lines kept.card_count; column_lines = kept.column_lines + 1 }

-- these cards lie, so many, and these are seen
abbrev pub with_cards : Kept → List ℕ → ℕ → List ℕ → Kept
with_cards kept cards count seen = record kept { cards = cards; card_count = count; seen = seen }

abbrev begun : Kept → List ℕ
begun kept = take kept.column_lines kept.bounds

module _ {cell_count : ℕ} (kept : Kept) (is : IsKept cell_count kept) where
  pub IsKept-height : (suit height : ℕ) (seen : List ℕ) → count_seen kept.seen ≤ count_seen seen
      → IsKept cell_count (with_height kept suit height seen)
  IsKept-height suit height seen more =
      let four = length-set kept.heights suit (Some height) ∙ is.four_heights in
      let few : kept.card_count ≤ count_seen seen = omega (arith, more, is.cards_are_seen) in
      assumption (four, few)

  pub IsKept-cell : (cell : Option ℕ) (seen : List ℕ) → count_seen kept.seen ≤ count_seen seen → kept.cell_words < cell_count
      → IsKept cell_count (with_cell kept cell seen)
  IsKept-cell cell seen more room =
      let words = kept.cell_words in
      let eight = length-set kept.cells words cell ∙ is.eight_cells in
      let fit : words + 1 ≤ cell_count = omega (arith, room) in
      let few : kept.card_count ≤ count_seen seen = omega (arith, more, is.cards_are_seen) in
      let later = All-drop IsNone 1 (drop words kept.cells) is.other_cells_empty in
      let empty : All IsNone (drop (words + 1) (set kept.cells words cell)) = rw (drop-set-lt (words + 1) kept.cells words cell (omega arith), ← drop-drop 1 words kept.cells) later in
      assumption (eight, fit, empty, few)

  -- no more cards lie than the deck has
  pub few_cards : kept.card_count ≤ 52
  few_cards = omega (arith, is.cards_are_seen, count_by-le-length (λ was. was) (seen_of kept.seen), length-seen_of kept.seen)

  -- as many columns are known as were begun
  pub length-known : length (columns_between kept.cards (bounds_of kept)) ≡ kept.column_lines
  length-known = rw (length-columns_between kept.cards (begun kept), length-take-le kept.column_lines kept.bounds (omega (arith, is.nine_bounds, is.column_lines_fit)))

  bounds_next : kept.column_lines < 8 → bounds_of (with_column kept) ≡ bounds_of kept ++ kept.card_count ∷ []
  bounds_next room = rw (take_more_set kept.bounds kept.column_lines kept.card_count (omega (arith, is.nine_bounds, room)))

  pub IsKept-column : kept.column_lines < 8 → IsKept cell_count (with_column kept)
  IsKept-column room =
      let nine = length-set kept.bounds kept.column_lines kept.card_count ∙ is.nine_bounds in
      let fit : kept.column_lines + 1 ≤ 8 = omega (arith, room) in
      let are : AreBounds (bounds_of (with_column kept)) 52 = rw (bounds_next room) (AreBounds-begun (begun kept) kept.card_count 52 is.are_bounds) in
      assumption (nine, fit, are)

  pub takes_column : (game : Game) → kept.column_lines < 8 → Takes game kept Column None (with_column kept)
  takes_column game room = (
    rw (length-known, below_to 8 kept.column_lines (omega (arith, room))),
    rw (bounds_next room, columns_between-begun kept.cards (begun kept) kept.card_count),
  )

  pub no_column : (game : Game) → 8 ≤ kept.column_lines → known_part_fault game (known_of kept) Column None ≡ Some TooManyColumns
  no_column game full = rw (length-known, le-leb 8 kept.column_lines full)

-- ---- a word of the cells

-- there is room for a cell
module _ {cell_count : ℕ} (kept : Kept) (is : IsKept cell_count kept) (game : Game) (are : game.cells ≡ cell_count) (few : cell_count ≤ 8) (room : kept.cell_words < cell_count) where
  known_room : length (take kept.cell_words kept.cells) < game.cells
  known_room = let used = length-take-le kept.cell_words kept.cells (omega (arith, is.eight_cells, few, room)) in omega (arith, used, room, are)

  -- the word spells this one
  module _ (word : List ℕ) (cell : Option ℕ) (spelled : cell_spelled word ≡ Some cell) where
    cell_fault : (seen : Bool) → list_any (is_seen (seen_of kept.seen)) (option_to_list cell) ≡ seen
        → known_part_fault game (known_of kept) Freecells (Some word) ≡ cond seen (Some RepeatedCard) None
    cell_fault seen was = rw (lt-leb game.cells (length (take kept.cell_words kept.cells)) known_room, spelled, append-nil (option_to_list cell), was)

    pub takes_cell : (seen : List ℕ) → Sees {X = Unit {0}} (seen_of kept.seen) (option_to_list cell) (seen_of seen) (Ok tt) → Takes game kept Freecells (Some word) (with_cell kept cell seen)
    takes_cell seen (none, sees) = (
      cell_fault false none,
      rw (take_more_set kept.cells kept.cell_words cell (omega (arith, is.eight_cells, few, room)), spelled, append-nil (option_to_list cell), sees),
    )

    pub repeats_cell : list_any (is_seen (seen_of kept.seen)) (option_to_list cell) ≡ true
        → known_part_fault game (known_of kept) Freecells (Some word) ≡ Some RepeatedCard
    repeats_cell was = cell_fault true was

-- ---- a word of the foundations

-- the word spells this foundation, and its suit was not named before
module _ (kept : Kept) (game : Game) (word : List ℕ) (foundation : Foundation) (spelled : foundation_spelled word ≡ Some foundation) (unnamed : is_named_suit kept.heights foundation.suit ≡ false) where
  home_fault : (seen : Bool) → list_any (is_seen (seen_of kept.seen)) (cards_at_home foundation) ≡ seen
      → known_part_fault game (known_of kept) Foundations (Some word) ≡ cond seen (Some RepeatedCard) None
  home_fault seen was = rw (spelled, unnamed, append-nil (cards_at_home foundation), was)

  pub takes_home : (seen : List ℕ) → Sees {X = Unit {0}} (seen_of kept.seen) (cards_at_home foundation) (seen_of seen) (Ok tt)
      → Takes game kept Foundations (Some word) (with_height kept foundation.suit foundation.height seen)
  takes_home seen (none, sees) = (home_fault false none, rw (spelled, append-nil (cards_at_home foundation), sees))

  pub repeats_home : list_any (is_seen (seen_of kept.seen)) (cards_at_home foundation) ≡ true
      → known_part_fault game (known_of kept) Foundations (Some word) ≡ Some RepeatedCard
  repeats_home was = home_fault true was

-- ---- a card at the end of the last column

pub add-append : (columns : List (List ℕ)) (column : List ℕ) (card : ℕ)
    → add_to_last (columns ++ column ∷ []) card ≡ columns ++ (column ++ card ∷ []) ∷ []
add-append [] column card = refl
add-append (first ∷ []) column card = refl
add-append (first ∷ next ∷ columns) column card = ap (λ later. first ∷ later) (add-append (next ∷ columns) column card)

-- what is kept and known of the columns after a card
record KeepsCard (old : List ℕ) (count : ℕ) (bounds : List ℕ) (lines card : ℕ) (new : List ℕ) (next : ℕ) : Type 0 where
  size : length new ≡ length old
  more : next ≤ count + 1
  are_bounds : AreBounds (bounds_known bounds lines next) 52
  columns : columns_between new (bounds_known bounds lines next) ≡ add_to_last (columns_between old (bounds_known bounds lines count)) card

keeps_card : (old : List ℕ) (count : ℕ) (bounds : List ℕ) (lines card : ℕ) (new : List ℕ) (next : ℕ) → length bounds ≡ 9 → count < length old
    → count < 52
    → AreBounds (bounds_known bounds lines count) 52 → Lays old count lines card new next → KeepsCard old count bounds lines card new next
keeps_card old count bounds zero card new next nine inside few are lays =
    rw (lays.0, lays.1) (record { size = length-set old count card; more = omega arith; are_bounds = are; columns = refl })
keeps_card old count [] (suc last) card new next nine inside few are lays = absurd (omega arith)
keeps_card old count (first ∷ bounds) (suc last) card new next nine inside few are lays = rw (lays.0, lays.1) (record {
  size = length-set old count card;
  more = omega arith;
  are_bounds = AreBounds-card first (take last bounds) count 52 (omega arith) are;
  columns = columns_from-card first old (take last bounds) count card 52 are.1 inside;
})

-- a card that was not seen
module _ {cell_count : ℕ} (kept : Kept) (is : IsKept cell_count kept) (card : ℕ) (in_deck : card < 52) (none : list_any (is_seen (seen_of kept.seen)) (card ∷ []) ≡ false) where
  abbrev later : List Bool
  later = also_seen (seen_of kept.seen) (card ∷ [])

  one_seen : count_seen kept.seen + 1 ≤ count_true later
  one_seen = one_more (seen_of kept.seen) card (length-seen_of kept.seen) in_deck (sym (or-false (is_seen (seen_of kept.seen) card)) ∙ none)

  -- there is room for it
  pub room_for_card : kept.card_count < 52
  room_for_card =
      let most = count_by-le-length (λ was. was) later in
      omega (arith, one_seen, most, length-also_seen (seen_of kept.seen) (card ∷ []), is.cards_are_seen)

  -- it is laid on the last column, and is seen
  module _ (cards : List ℕ) (count : ℕ) (seen : List ℕ) (lays : Lays kept.cards kept.card_count kept.column_lines card cards count) (sees : seen_of seen ≡ later) where
    keeps : KeepsCard kept.cards kept.card_count kept.bounds kept.column_lines card cards count
    keeps = keeps_card _ _ _ _ _ _ _ is.nine_bounds (omega (arith, room_for_card, is.room_for_deck)) room_for_card is.are_bounds lays

    pub IsKept-card : IsKept cell_count (with_cards kept cards count seen)
    IsKept-card =
        let room = keeps.size ∙ is.room_for_deck in
        let few : count ≤ count_seen seen = rw sees (omega (arith, one_seen, keeps.more, is.cards_are_seen)) in
        assumption (room, keeps.are_bounds, few)

    pub takes_card : (game : Game) (word : List ℕ) → card_spelled word ≡ Some card
        → Takes game kept Column (Some word) (with_cards kept cards count seen)
    takes_card game word spelled = (rw (spelled, none), rw (spelled, sees, keeps.columns))
