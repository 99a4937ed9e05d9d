-- Lemmas on what is wrong with a deck, by how often each card was counted.
use Rattle.arrayvec.specs.ArrayVec.{ArrayVec}
use Rattle.std.proofs.Common.{◌&&◌, ◌++◌, ◌+◌, ◌<◌, ◌==◌, ◌∙◌, ◌∷◌, ◌≡◌, ◌≤◌, ◌⊎◌, [], All, ap, append-nil, arith, cond}
use Rattle.std.proofs.Common.{drop, get_or, inl, inr, length, List, map, MatchOption, min, None, Option, refl}
use Rattle.std.proofs.Common.{slice_index, Some, suc, sym, take, take-append-drop, zero, ℕ}
use Rattle.std.proofs.lemmas.{Bool.{cases_eq, cases_lt}, List.Concat.{flat_map-append}}
use Rattle.std.proofs.lemmas.List.{Elements.{All-append, All-head, All-tail}, Folds.{flat_map-map}, length-map}
use Rattle.std.specs.{List.{flat_map}, Option.{IsNone, option_to_list}, Prelude.{nat_le}}
use Rattle.fc_card.proofs.CardSetLemmas.{AreCounted, AreCounted-append, AreCountsOf-append, count_of-append}
use Rattle.fc_card.specs.{AreCountsOf, Counts, CountsEachOnce, CountsUpTo, is_up_to, IsCard, IsLowest, NoCard, rank_of}
use Rattle.fc_card.specs.{suit_of}
use Rattle.fc_board.{proofs.BoardLemmas.{columns_together, up_to}, specs.Boards.{board_of_parts, cards_in_play}}
use Rattle.fc_board.specs.{Boards.{is_home, IsDeckFault, IsFaultOf, IsHeight, IsWellFormed}, Games.{Game}}
use Rattle.fc_board.specs.inside.{board_of_laid, CountsHome, EachOnce, times_on_board}
use Rattle.fc_board.specs.declared.fault.DeckFault.{DeckFault, TheVariants.{MissingCard, RepeatedCard}}

-- the lowest card with one property is that with any other that the same cards have
IsLowest-same : (P Q : ℕ → Type 0) (card : ℕ) → ((other : ℕ) → IsCard other → P other → Q other) → ((other : ℕ) → IsCard other → Q other → P other)
    → IsLowest P card → IsLowest Q card
IsLowest-same P Q card to from is = record {
  in_deck = is.in_deck;
  property = to card is.in_deck is.property;
  lowest = λ other h q. is.lowest other h (from other h q);
}

NoCard-same : (P Q : ℕ → Type 0) → ((other : ℕ) → IsCard other → Q other → P other) → NoCard P → NoCard Q
NoCard-same P Q from none = λ card h q. none card h (from card h q)

two_up : (x y : ℕ) → min y 2 ≡ min x 2 → 2 ≤ y → 2 ≤ x
two_up x y e h = omega arith

two_down : (x y : ℕ) → min y 2 ≡ min x 2 → 2 ≤ x → 2 ≤ y
two_down x y e h = omega arith

none_up : (x y : ℕ) → min y 2 ≡ min x 2 → y ≡ 0 → x ≡ 0
none_up x y e h = omega arith

none_down : (x y : ℕ) → min y 2 ≡ min x 2 → x ≡ 0 → y ≡ 0
none_down x y e h = omega arith

-- counts that are right up to two give the same fault
pub IsFaultOf-from_counts : (counts places : ℕ → ℕ) (fault : DeckFault) → ((card : ℕ) → IsCard card → min (counts card) 2 ≡ min (places card) 2)
    → IsFaultOf counts fault → IsFaultOf places fault
IsFaultOf-from_counts counts places (RepeatedCard card) stops is =
    IsLowest-same (λ other. 2 ≤ counts other) (λ other. 2 ≤ places other) card
    (λ other h. two_up (places other) (counts other) (stops other h)) (λ other h. two_down (places other) (counts other) (stops other h)) is
IsFaultOf-from_counts counts places (MissingCard card) stops is = (
  NoCard-same (λ other. 2 ≤ counts other) (λ other. 2 ≤ places other) (λ other h. two_down (places other) (counts other) (stops other h)) is.0,
  IsLowest-same (λ other. counts other ≡ 0) (λ other. places other ≡ 0) card
      (λ other h. none_up (places other) (counts other) (stops other h)) (λ other h. none_down (places other) (counts other) (stops other h)) is.1,
)

not_two : (n : ℕ) → n ≡ 1 → 2 ≤ n → ⊥
not_two n e h = omega arith

not_none : (n : ℕ) → n ≡ 1 → n ≡ 0 → ⊥
not_none n e h = omega arith

-- where something is wrong, some card is not in exactly one place
pub fault-not_once : (places : ℕ → ℕ) (fault : DeckFault) → IsFaultOf places fault → ((card : ℕ) → IsCard card → places card ≡ 1) → ⊥
fault-not_once places (RepeatedCard card) is once = not_two (places card) (once card is.in_deck) is.property
fault-not_once places (MissingCard card) is once = not_none (places card) (once card is.1.in_deck) is.1.property

neither : (n : ℕ) → (2 ≤ n → ⊥) → (n ≡ 0 → ⊥) → n ≡ 1
neither n few some = omega arith

-- where no card is repeated and none is missing, each is in one place
pub once-from_none : (places : ℕ → ℕ) → NoCard (λ card. 2 ≤ places card) → NoCard (λ card. places card ≡ 0) → (card : ℕ) → IsCard card →
    places card ≡ 1
once-from_none places few some card h = neither (places card) (few card h) (some card h)

-- ---- one fault at most, and one where the deck is not whole

one_lowest : (P : ℕ → Type 0) (card other : ℕ) → IsLowest P card → IsLowest P other → card ≡ other
one_lowest P card other is too = omega (arith, is.lowest other too.in_deck too.property, too.lowest card is.in_deck is.property)

pub one_fault : (places : ℕ → ℕ) (fault other : DeckFault) → IsFaultOf places fault → IsFaultOf places other → fault ≡ other
one_fault places (RepeatedCard card) (RepeatedCard other) is too = ap RepeatedCard (one_lowest (λ n. 2 ≤ places n) card other is too)
one_fault places (RepeatedCard card) (MissingCard other) is too = absurd (too.0 card is.in_deck is.property)
one_fault places (MissingCard card) (RepeatedCard other) is too = absurd (is.0 other too.in_deck too.property)
one_fault places (MissingCard card) (MissingCard other) is too = ap MissingCard (one_lowest (λ n. places n ≡ 0) card other is.1 too.1)

-- of the cards before the count the first with the property, or none has it
abbrev FirstOrNone : (ℕ → Type 0) → ℕ → Type 0
FirstOrNone P count = ((card : ℕ) × (card < count) × P card × ((other : ℕ) → P other → card ≤ other)) ⊎ ((other : ℕ) → other < count → P other → ⊥)

first_or_none : (P : ℕ → Type 0) → ((card : ℕ) → P card ⊎ (P card → ⊥)) → (count : ℕ) → FirstOrNone P count
first_or_none P decide zero = inr (λ other h p. absurd (omega arith))
first_or_none P decide (suc count) = elim (first_or_none P decide count) [
  | inl found ↦ inl (found.0, omega (arith, found.1), found.2, found.3)
  | inr none ↦ elim (decide count) [
    | inl here ↦ inl (
      count,
      omega arith,
      here,
      λ other p. elim (cases_lt other count) [
        | inl before ↦ absurd (none other before p)
        | inr after ↦ after
      ],
    )
    | inr unlike ↦ inr (λ other h p. elim (cases_eq other count) [
      | inl same ↦ unlike (rw same at p)
      | inr apart ↦ none other (omega arith) p
    ])
  ]
]

is_repeated : (places : ℕ → ℕ) (card : ℕ) → (2 ≤ places card) ⊎ (2 ≤ places card → ⊥)
is_repeated places card = elim (cases_lt (places card) 2) [
  | inl few ↦ inr (λ many. absurd (omega arith))
  | inr many ↦ inl many
]

pub once-from_no_fault : (places : ℕ → ℕ) → ((fault : DeckFault) → IsFaultOf places fault → ⊥) → (card : ℕ) → IsCard card → places card ≡ 1
once-from_no_fault places whole = elim (first_or_none (λ card. 2 ≤ places card) (is_repeated places) 52) [
  | inl twice ↦ absurd (whole (RepeatedCard twice.0) (record { in_deck = twice.1; property = twice.2; lowest = λ other h. twice.3 other }))
  | inr few ↦ elim (first_or_none (λ card. places card ≡ 0) (λ card. cases_eq (places card) 0) 52) [
    | inl missing ↦
        absurd (whole (MissingCard missing.0) (few, record { in_deck = missing.1; property = missing.2; lowest = λ other h. missing.3 other }))
    | inr some ↦ once-from_none places few some
  ]
]

-- ---- one pile after another
-- ---- how often the cards of a board were counted

-- one more element of a list, each of whose elements stands for cards
more_cards : {X : Type 0} (f : X → List ℕ) (xs : List X) (i : ℕ) (x : X) → i < length xs → x ≡ get_or xs i x →
    flat_map f (take i xs) ++ f x ≡ flat_map f (take (i + 1) xs)
more_cards f xs i x inside is =
    rw (← append-nil (f x)) (sym (flat_map-append f (take i xs) (x ∷ [])) ∙ ap (flat_map f) (up_to xs i x inside is))

pub AreCounted-next : {X : Type 0} (f : X → List ℕ) (xs : List X) (i : ℕ) (x : X) (a b c : List ℕ) → i < length xs → x ≡ get_or xs i x
    → AreCounted a b (flat_map f (take i xs)) → AreCounted b c (f x) → AreCounted a c (flat_map f (take (i + 1) xs))
AreCounted-next f xs i x a b c inside is p q = rw (more_cards f xs i x inside is) at (AreCounted-append a b c _ _ p q)

pub AreCountsOf-next : {X : Type 0} (f : X → List ℕ) (xs : List X) (i : ℕ) (x : X) (a b : List ℕ) → i < length xs → x ≡ get_or xs i x
    → AreCountsOf a (flat_map f (take i xs)) → Counts a b (f x) → All IsCard (f x) → AreCountsOf b (flat_map f (take (i + 1) xs))
AreCountsOf-next f xs i x a b inside is p counted in_deck = rw (more_cards f xs i x inside is) at (AreCountsOf-append a b _ _ p counted in_deck)

-- ---- foundations
-- the tests of the suits together are that of the card's suit
abbrev IsSumOfSuits : List ℕ → ℕ → ℕ → ℕ → ℕ → ℕ → ℕ → Type 0
IsSumOfSuits heights clubs diamonds hearts spades rank suit =
    cond {A = ℕ} (suit == 0 && nat_le rank clubs) 1 0 + cond (suit == 1 && nat_le rank diamonds) 1 0
    + cond (suit == 2 && nat_le rank hearts) 1 0 + cond (suit == 3 && nat_le rank spades) 1 0
    ≡ cond {A = ℕ} (nat_le rank (slice_index heights suit)) 1 0

-- a card is home where it is one of the first cards of its suit
pub home_by_suits : (heights : List ℕ) (clubs diamonds hearts spades card : ℕ) → slice_index heights 0 ≡ clubs → slice_index heights 1 ≡ diamonds →
    slice_index heights 2 ≡ hearts → slice_index heights 3 ≡ spades
    → cond {A = ℕ} (is_up_to 0 clubs card) 1 0 + cond (is_up_to 1 diamonds card) 1 0 + cond (is_up_to 2 hearts card) 1 0 + cond (is_up_to 3 spades card) 1 0 ≡ cond {A = ℕ} (is_home heights card) 1 0
home_by_suits heights clubs diamonds hearts spades card c d h s = elim (cases_eq (suit_of card) 0) [
  | inl same ↦ by_suit 0 same (rw c (omega arith))
  | inr not_club ↦ elim (cases_eq (suit_of card) 1) [
    | inl same ↦ by_suit 1 same (rw d (omega arith))
    | inr not_diamond ↦ elim (cases_eq (suit_of card) 2) [
      | inl same ↦ by_suit 2 same (rw h (omega arith))
      | inr not_heart ↦ by_suit 3 (omega (arith, not_club, not_diamond, not_heart)) (rw s (omega arith))
    ]
  ]
]
  where
    by_suit : (suit : ℕ) → suit_of card ≡ suit → IsSumOfSuits heights clubs diamonds hearts spades (rank_of card) suit →
        IsSumOfSuits heights clubs diamonds hearts spades (rank_of card) (suit_of card)
    by_suit suit same sum = rw same sum

pub CountsHome-by_suits : (heights old clubs diamonds hearts spades : List ℕ) (c d h s : ℕ)
    → slice_index heights 0 ≡ c → slice_index heights 1 ≡ d → slice_index heights 2 ≡ h → slice_index heights 3 ≡ s
    → CountsUpTo old clubs 0 c → CountsUpTo clubs diamonds 1 d → CountsUpTo diamonds hearts 2 h → CountsUpTo hearts spades 3 s → CountsHome old spades heights
CountsHome-by_suits heights old clubs diamonds hearts spades c d h s c_is d_is h_is s_is with_clubs with_diamonds with_hearts with_spades card in_deck =
    omega (arith, with_clubs card in_deck, with_diamonds card in_deck, with_hearts card in_deck, with_spades card in_deck, home_by_suits heights c d h s card c_is d_is h_is s_is)

-- ---- a whole board
-- what is wrong with the deck by the counts, or that nothing is
pub fault_found : (heights cells cards in_columns with_home all : List ℕ) (fault : Option DeckFault) → AreCountsOf in_columns cards →
    CountsHome in_columns with_home heights → Counts with_home all cells
    → MatchOption fault (CountsEachOnce all) (IsFaultOf (slice_index all))
    → MatchOption fault (EachOnce heights (cells ++ cards)) (IsFaultOf (times_on_board heights (cells ++ cards)))
fault_found heights cells cards in_columns with_home all fault are home more ensured = by_fault fault ensured
  where
    counted : (card : ℕ) → IsCard card → min (slice_index all card) 2 ≡ min (times_on_board heights (cells ++ cards) card) 2
    counted card in_deck = omega (arith, are.counted card in_deck, home card in_deck, more card in_deck, count_of-append card cells cards)

    by_fault : (fault : Option DeckFault) → MatchOption fault (CountsEachOnce all) (IsFaultOf (slice_index all))
        → MatchOption fault (EachOnce heights (cells ++ cards)) (IsFaultOf (times_on_board heights (cells ++ cards)))
    by_fault None once = λ card in_deck. omega (arith, counted card in_deck, once card in_deck)
    by_fault (Some fault) is = IsFaultOf-from_counts (slice_index all) (times_on_board heights (cells ++ cards)) fault counted is

no_cards : (cells : List (Option ℕ)) → All IsNone cells → flat_map option_to_list cells ≡ []
no_cards [] hold_nothing = refl
no_cards (None ∷ cells) hold_nothing = no_cards cells (All-tail IsNone None cells hold_nothing)
no_cards (Some card ∷ cells) hold_nothing = let here = All-head IsNone (Some card) cells hold_nothing in cc

-- where the game's cells are the first ones and all others are empty, the cards are in the game's
in_game_cells : (count : ℕ) (cells : List (Option ℕ)) → All IsNone (drop count cells) →
    flat_map option_to_list cells ≡ flat_map option_to_list (take count cells)
in_game_cells count cells hold_nothing =
    sym (ap (flat_map option_to_list) (take-append-drop count cells)) ∙ flat_map-append option_to_list (take count cells) (drop count cells) ∙
    ap (λ rest. flat_map option_to_list (take count cells) ++ rest) (no_cards (drop count cells) hold_nothing) ∙
    append-nil (flat_map option_to_list (take count cells))

-- the cards in these cells and these columns are those in play
pub in_play : (count : ℕ) (heights : List ℕ) (cells : List (Option ℕ)) (columns : List (List ℕ)) (cards : List ℕ) → All IsNone (drop count cells) →
    cards ≡ flat_map (λ column. column) columns
    → flat_map option_to_list cells ++ cards ≡ cards_in_play (board_of_laid count heights cells columns)
in_play count heights cells columns cards hold_nothing laid =
    rw (in_game_cells count cells hold_nothing, laid)

pub cards_of_vectors : (columns : List (ArrayVec ℕ)) →
    flat_map (λ column. column.items) columns ≡ flat_map (λ column. column) (map (λ column. column.items) columns)
cards_of_vectors columns = sym (flat_map-map (λ column. column) (λ (column : ArrayVec ℕ). column.items) columns)

-- where each card is once, the parts are a well-formed board
pub IsWellFormed-each_once : (game : Game) (count : ℕ) (heights : List ℕ) (cells : List (Option ℕ)) (columns : List (List ℕ)) (cards : List ℕ)
    → length heights ≡ 4 → length (take count cells) ≡ game.cells → length columns ≡ 8 → All IsHeight heights → All IsNone (drop count cells)
    → cards ≡ flat_map (λ column. column) columns → All IsCard (flat_map option_to_list cells) → All IsCard cards
    → EachOnce heights (flat_map option_to_list cells ++ cards) → IsWellFormed game (board_of_laid count heights cells columns)
IsWellFormed-each_once game count heights cells columns cards four all eight high hold_nothing laid in_cells in_columns once =
    let same = in_play count heights cells columns cards hold_nothing laid in
    record {
      piles = record { four_foundations = four; all_cells = all; eight_columns = eight };
      heights = high;
      cards = rw same at (All-append IsCard (flat_map option_to_list cells) cards in_cells in_columns);
      one_place = rw same at once;
    }

-- the same where the columns are vectors
pub IsWellFormed-vectors : (game : Game) (count : ℕ) (heights : List ℕ) (cells : List (Option ℕ)) (columns : List (ArrayVec ℕ))
    → length heights ≡ 4 → length (take count cells) ≡ game.cells → length columns ≡ 8 → All IsHeight heights → All IsNone (drop count cells)
    → All IsCard (flat_map option_to_list cells) → All IsCard (flat_map (λ column. column.items) columns)
    → EachOnce heights (flat_map option_to_list cells ++ flat_map (λ column. column.items) columns) → IsWellFormed game (board_of_parts count heights cells columns)
IsWellFormed-vectors game count heights cells columns four all eight high hold_nothing in_cells in_columns once =
    IsWellFormed-each_once game count heights cells (map (λ column. column.items) columns) (flat_map (λ column. column.items) columns) four all
    (length-map columns (λ (column : ArrayVec ℕ). column.items) ∙ eight) high hold_nothing (cards_of_vectors columns) in_cells in_columns once

-- what is wrong with the deck is wrong with the board
pub IsDeckFault-found : (count : ℕ) (heights : List ℕ) (cells : List (Option ℕ)) (columns : List (List ℕ)) (cards : List ℕ) (fault : DeckFault) →
    All IsNone (drop count cells)
    → cards ≡ flat_map (λ column. column) columns → IsFaultOf (times_on_board heights (flat_map option_to_list cells ++ cards)) fault
    → IsDeckFault (board_of_laid count heights cells columns) fault
IsDeckFault-found count heights cells columns cards fault hold_nothing laid is =
    rw (in_play count heights cells columns cards hold_nothing laid) at is

-- the cards in the vectors of a well-formed board are no more than the deck
pub room_in_vectors : (game : Game) (count : ℕ) (heights : List ℕ) (cells : List (Option ℕ)) (columns : List (ArrayVec ℕ))
    → IsWellFormed game (board_of_parts count heights cells columns) → length (flat_map (λ column. column.items) columns) ≤ 52
room_in_vectors game count heights cells columns well =
    rw (flat_map-map (λ column. column) (λ (column : ArrayVec ℕ). column.items) columns) at (columns_together game (board_of_parts count heights cells columns) well)
