-- A text has no fault exactly where it spells a board, which is then the one that its words give.
use Rattle.std.proofs.Common.{◌+◌, ◌-◌, ◌<◌, ◌∙◌, ◌∷◌, ◌≡◌, ◌≤◌, ◌⊎◌, [], All, ap, append-nil, arith, Bool, cond, eqb}
use Rattle.std.proofs.Common.{false, get_or, inl, inr, leb, length, length-append, List, map, None, not, Option, refl}
use Rattle.std.proofs.{Common.{replicate, Some, subst, sym, true, ℕ}, lemmas.Bool.Decides.{leb_tells}}
use Rattle.std.proofs.lemmas.{Bool.{not-false, true_from_ne_false}, List.Elements.{All-append, All-cons}}
use Rattle.std.proofs.lemmas.List.Elements.{All-from_get_or, All-get_or, All-head, All-map, All-nil, All-tail}
use Rattle.std.proofs.lemmas.List.{FromFn.{get_or-range_with_len, length-range_with_len}, length-map, length-replicate}
use Rattle.std.specs.{List.{find, flat_map, list_any, range_with_len}, Option.{option_map, option_or, option_to_list}}
use Rattle.std.proofs.Math.Nat.{zero-add}
use Rattle.fc_card.specs.{count_of, IsCard, rank_of, suit_of}
use Rattle.fc_board.proofs.BoardLemmas.{count_of-append, parts_same}
use Rattle.fc_board.specs.Boards.{Board, cards_in_play, count_of_places, is_home, IsHeight, IsWellFormed}
use Rattle.fc_board.specs.Games.{Game}
use Rattle.fc_text.proofs.{CardLemmas.{cards_held, count_first}, RowLemmas.{count_lines, count_numbers, count_words}}
use Rattle.fc_text.proofs.{RowLemmas.{formed_from, forms_of, in_section, WordsFormed}, SoundLemmas.{absent}}
use Rattle.fc_text.proofs.SoundLemmas.{faultless-from_Sound, none_from, present, Sound, Sound-from_faultless, Sound-nil}
use Rattle.fc_text.proofs.SpelledLemmas.{cards_spelled, count_home, count_of_suits, empty_cells, empty_columns}
use Rattle.fc_text.proofs.SpelledLemmas.{flat_spelled, height_at, height_of-bound, line_cards, lines_all, lines_cards}
use Rattle.fc_text.proofs.SpelledLemmas.{lines_one_by_one, one_by_one, OneByOne-all, spelled-AreFoundations}
use Rattle.fc_text.{proofs.SpelledLemmas.{suits_spelled}, specs.Faults.{cards_at_home, cards_of_item, cards_of_word}}
use Rattle.fc_text.specs.Faults.{first_fault, first_faulty, Item, items_of, items_of_row, lowest_missing, missing_card}
use Rattle.fc_text.specs.{Faults.{suits_of_item, suits_of_word}, Lines.{Piece}, Rows.{Row, rows_of}}
use Rattle.fc_text.specs.Spelling.{all_spelled, board_of, cell_spelled, count_of_suit, foundation_spelled, height_in}
use Rattle.fc_text.specs.Spelling.{heights_of, lines_of, OneByOne, padded_with, Spells, words_of}
use Rattle.fc_text.specs.declared.board.reader.Section.{Section, TheVariants.{Column, Foundations, Freecells}}
use Rattle.fc_text.specs.declared.board.spelling.Foundation.{Foundation}

-- ---- what the words of a text give, by its rows

module _ (rows : List Row) where
  abbrev pub foundations_in : List Foundation
  foundations_in = all_spelled foundation_spelled (words_of Foundations rows)

  abbrev pub cells_in : List (Option ℕ)
  cells_in = all_spelled cell_spelled (words_of Freecells rows)

  abbrev pub columns_in : List (List ℕ)
  columns_in = map line_cards (lines_of Column rows)

  no_suits : (words : List Piece) (suit : ℕ) → count_of suit (flat_map (λ (word : Piece). []) words) ≡ 0
  no_suits [] suit = refl
  no_suits (word ∷ words) suit = no_suits words suit

  -- the suits that the items name
  pub count_suits : (suit : ℕ) → count_of suit (flat_map suits_of_item (flat_map items_of_row rows)) ≡ count_of_suit suit foundations_in
  count_suits suit =
      let all = count_numbers suits_of_word suit rows in
      let named = ap (count_of suit) (suits_spelled (words_of Foundations rows)) ∙ count_of_suits suit foundations_in in
      let cells = no_suits (words_of Freecells rows) suit in
      let columns = no_suits (words_of Column rows) suit in
      omega arith

  -- the cards that the items name
  pub count_cards : (card : ℕ) → count_of card (flat_map cards_of_item (flat_map items_of_row rows))
      ≡ count_of card (flat_map cards_at_home foundations_in) + count_of card (flat_map option_to_list cells_in) + count_of card (flat_map (λ column. column) columns_in)
  count_cards card =
      let all = count_numbers cards_of_word card rows in
      let home = ap (count_of card) (flat_spelled foundation_spelled cards_at_home (words_of Foundations rows)) in
      let cells = ap (count_of card) (flat_spelled cell_spelled option_to_list (words_of Freecells rows)) in
      let columns = ap (count_of card) (cards_spelled (words_of Column rows) ∙ lines_cards (lines_of Column rows)) in
      omega arith

-- in how many places of the board a card is that the words give
pub count_of_board : (game : Game) (text : List ℕ) (card : ℕ) → count_of_suit (suit_of card) (foundations_in (rows_of text)) ≤ 1
    → count_of_places (board_of game text) card ≡ count_of card (flat_map cards_of_item (items_of text))
count_of_board game text card once =
    let foundations = foundations_in (rows_of text) in
    let cells = cells_in (rows_of text) in
    let columns = columns_in (rows_of text) in
    let all = count_cards (rows_of text) card in
    let home : count_of card (flat_map cards_at_home foundations) ≡ cond (is_home (heights_of foundations) card) 1 0 =
    count_home foundations card (spelled-AreFoundations (words_of Foundations (rows_of text))) once
    ∙ ap (λ height. cond (leb (rank_of card) height) 1 0) (sym (height_at foundations (suit_of card) (omega arith))) in
    let in_cells = ap (count_of card) (empty_cells cells (game.cells - length cells)) in
    let in_columns = ap (count_of card) (empty_columns columns (8 - length columns)) in
    let in_play = count_of-append card (flat_map option_to_list (padded_with game.cells None cells)) (flat_map (λ column. column) (padded_with 8 [] columns)) in
    omega arith

-- ---- the items are sound and name every card: then the text spells its board

none_found : {X : Type 0} (p : X → Bool) (xs : List X) → find p xs ≡ None → All (λ x. p x ≡ false) xs
none_found p [] e = All-nil (λ x. p x ≡ false)
none_found p (x ∷ xs) e =
    let (here, later) = none_from (p x) x (find p xs) e in
    All-cons (λ x. p x ≡ false) x xs here (none_found p xs later)

all_none : {X : Type 0} (p : X → Bool) (xs : List X) → All (λ x. p x ≡ false) xs → find p xs ≡ None
all_none p [] are = refl
all_none p (x ∷ xs) are =
    ap (λ b. cond b (Some x) (find p xs)) (All-head (λ x. p x ≡ false) x xs are) ∙ all_none p xs (All-tail (λ x. p x ≡ false) x xs are)

abbrev is_among : List ℕ → ℕ → Bool
is_among cards card = list_any (λ other. eqb other card) cards

-- none is missing exactly where each is there
pub none_missing : (cards : List ℕ) → lowest_missing cards ≡ None → (card : ℕ) → IsCard card → 1 ≤ count_of card cards
none_missing cards e card small =
    let all = none_found (λ card. not (is_among cards card)) (range_with_len 0 52) e in
    let at = get_or-range_with_len 0 52 card 0 small in
    let here : not (is_among cards (get_or (range_with_len 0 52) card 0)) ≡ false =
    All-get_or (λ card. not (is_among cards card) ≡ false) (range_with_len 0 52) card 0 (omega (arith, length-range_with_len 0 52)) all in
    present card cards (not-false (is_among cards card) (ap (λ c. not (is_among cards c)) (sym (at ∙ zero-add card)) ∙ here))

pub all_present : (cards : List ℕ) → ((card : ℕ) → IsCard card → 1 ≤ count_of card cards) → lowest_missing cards ≡ None
all_present cards there =
    all_none (λ card. not (is_among cards card)) (range_with_len 0 52)
    (All-from_get_or (λ card. not (is_among cards card) ≡ false) (range_with_len 0 52) 0 (λ i inside.
    let at = get_or-range_with_len 0 52 i 0 (omega (arith, length-range_with_len 0 52)) in
    let small : get_or (range_with_len 0 52) i 0 < 52 = omega (arith, length-range_with_len 0 52) in
    let some = there (get_or (range_with_len 0 52) i 0) small in
    ap not (true_from_ne_false (is_among cards (get_or (range_with_len 0 52) i 0)) (λ gone.
    let none = absent (get_or (range_with_len 0 52) i 0) cards gone in absurd (omega arith)))))

-- ---- the cards of words are cards

section_cards : (section : Section) (words : List Piece) → All IsCard (in_section cards_of_word section words)
section_cards section [] = All-nil IsCard
section_cards section (word ∷ words) =
    All-append IsCard (cards_of_word section word.bytes) (in_section cards_of_word section words) (cards_held section word.bytes).0 (section_cards section words)

item_cards : (items : List Item) → All IsCard (flat_map cards_of_item items)
item_cards [] = All-nil IsCard
item_cards (item ∷ items) = All-append IsCard (cards_of_item item) (flat_map cards_of_item items) (own item.section item.word) (item_cards items)
  where
    own : (section : Section) (word : Option (List ℕ)) → All IsCard (flat_map (cards_of_word section) (option_to_list word))
    own section None = All-nil IsCard
    own section (Some word) = subst (All IsCard) (sym (append-nil (cards_of_word section word))) (cards_held section word).0

-- what is no card is none of the cards
not_card : (cards : List ℕ) (card : ℕ) → All IsCard cards → 52 ≤ card → count_of card cards ≡ 0
not_card [] card are high = refl
not_card (x ∷ xs) card are high =
    let small = All-head IsCard x xs are in
    elim (count_first x card xs) [
      | inl (same, e) ↦ absurd (omega arith)
      | inr (other, e) ↦ e ∙ not_card xs card (All-tail IsCard x xs are) high
    ]

-- ---- lengths

length_one_by_one : {X : Type 0} (spelled : List ℕ → Option X) (words : List Piece) (items : List X) → OneByOne spelled words items → length items ≡ length words
length_one_by_one spelled words items e = sym (length-map items (λ item. Some item)) ∙ sym (ap length e) ∙ length-map words (λ word. spelled word.bytes)

length_padded : {X : Type 0} (places : ℕ) (empty : X) (items : List X) → length items ≤ places → length (padded_with places empty items) ≡ places
length_padded places empty items fit =
    let sum = length-append items (replicate (places - length items) empty) in
    let more = length-replicate (places - length items) empty in
    omega arith

-- ---- from no fault to a board

module _ (game : Game) (text : List ℕ) where
  abbrev rows : List Row
  rows = rows_of text

  no_cell_past : Sound game (items_of text) → length (words_of Freecells rows) ≤ game.cells
  no_cell_past sound = let count = count_words rows in let bound = sound.cell_words in omega arith

  cells_one_by_one : Sound game (items_of text) → OneByOne cell_spelled (words_of Freecells rows) (cells_in rows)
  cells_one_by_one sound = one_by_one cell_spelled (words_of Freecells rows) (forms_of Freecells rows sound.forms)

  cells_within : Sound game (items_of text) → length (cells_in rows) ≤ game.cells
  cells_within sound =
      let long = length_one_by_one cell_spelled (words_of Freecells rows) (cells_in rows) (cells_one_by_one sound) in
      let bound = no_cell_past sound in
      omega arith

  columns_within : Sound game (items_of text) → length (columns_in rows) ≤ 8
  columns_within sound =
      let count = count_lines Column rows in
      let long = length-map (lines_of Column rows) line_cards in
      let bound = sound.column_lines in
      omega arith

  heights_within : All IsHeight (heights_of (foundations_in rows))
  heights_within =
      All-map IsHeight (height_in (foundations_in rows)) (0 ∷ 1 ∷ 2 ∷ 3 ∷ []) (everywhere (0 ∷ 1 ∷ 2 ∷ 3 ∷ []))
    where
      everywhere : (suits : List ℕ) → All (λ suit. height_in (foundations_in rows) suit ≤ 13) suits
      everywhere [] = All-nil (λ suit. height_in (foundations_in rows) suit ≤ 13)
      everywhere (suit ∷ suits) =
          All-cons (λ suit. height_in (foundations_in rows) suit ≤ 13) suit suits
          (height_of-bound (foundations_in rows) suit (spelled-AreFoundations (words_of Foundations rows))) (everywhere suits)

  in_play_cards : All IsCard (cards_in_play (board_of game text))
  in_play_cards =
      let cells = cells_in rows in
      let columns = columns_in rows in
      All-append IsCard (flat_map option_to_list (padded_with game.cells None cells)) (flat_map (λ column. column) (padded_with 8 [] columns))
      (subst (All IsCard) (flat_spelled cell_spelled option_to_list (words_of Freecells rows) ∙ sym (empty_cells cells (game.cells - length cells)))
      (section_cards Freecells (words_of Freecells rows)))
      (subst (All IsCard) (cards_spelled (words_of Column rows) ∙ lines_cards (lines_of Column rows) ∙ sym (empty_columns columns (8 - length columns)))
      (section_cards Column (words_of Column rows)))

  pub suits_once : Sound game (items_of text) → (suit : ℕ) → count_of_suit suit (foundations_in rows) ≤ 1
  suits_once sound suit = let count = count_suits rows suit in let bound = sound.suits suit in omega arith

  board_well_formed : Sound game (items_of text) → ((card : ℕ) → IsCard card → 1 ≤ count_of card (flat_map cards_of_item (items_of text)))
      → IsWellFormed game (board_of game text)
  board_well_formed sound there = record {
    piles = record {
      four_foundations = refl;
      all_cells = length_padded game.cells None (cells_in rows) (cells_within sound);
      eight_columns = length_padded 8 [] (columns_in rows) (columns_within sound);
    };
    heights = heights_within;
    cards = in_play_cards;
    one_place = λ card small.
        let count = count_of_board game text card (suits_once sound (suit_of card)) in
        let few = sound.cards card in
        let some = there card small in
        omega arith;
  }

  spelled_by : Sound game (items_of text) → ((card : ℕ) → IsCard card → 1 ≤ count_of card (flat_map cards_of_item (items_of text)))
      → Spells game text (board_of game text)
  spelled_by sound there = record {
    foundations = foundations_in rows;
    cells = cells_in rows;
    columns = columns_in rows;
    one_foundations_line = let count = count_lines Foundations rows in let bound = sound.foundations_lines in omega arith;
    foundations_spelled = one_by_one foundation_spelled (words_of Foundations rows) (forms_of Foundations rows sound.forms);
    distinct_suits = suits_once sound;
    heights_given = refl;
    one_cells_line = let count = count_lines Freecells rows in let bound = sound.cells_lines in omega arith;
    cells_spelled = cells_one_by_one sound;
    cells_fit = cells_within sound;
    cells_given = refl;
    columns_fit = columns_within sound;
    columns_spelled = lines_one_by_one (lines_of Column rows) (forms_of Column rows sound.forms);
    columns_given = refl;
    well_formed = board_well_formed sound there;
  }

  or_none : {X : Type 0} (o p : Option X) → option_or o p ≡ None → (o ≡ None) × (p ≡ None)
  or_none None p e = (refl, e)
  or_none (Some x) p e = absurd (cc)

  map_none : {X Y : Type 0} (f : X → Y) (o : Option X) → option_map f o ≡ None → o ≡ None
  map_none f None e = refl
  map_none f (Some x) e = absurd (cc)

  pub Spells-from_faultless : first_fault game text ≡ None → Spells game text (board_of game text)
  Spells-from_faultless e =
      let (faultless, whole) = or_none (first_faulty game [] (items_of text)) (missing_card text) e in
      spelled_by (Sound-from_faultless game [] (items_of text) (Sound-nil game) faultless)
      (none_missing (flat_map cards_of_item (items_of text)) (map_none _ (lowest_missing (flat_map cards_of_item (items_of text))) whole))

  -- ---- and back

  pub Spells-board_of : (board : Board) → Spells game text board → board ≡ board_of game text
  Spells-board_of board s =
      let foundations = OneByOne-all foundation_spelled (words_of Foundations rows) s.foundations s.foundations_spelled in
      let cells = OneByOne-all cell_spelled (words_of Freecells rows) s.cells s.cells_spelled in
      let columns = lines_all (lines_of Column rows) s.columns s.columns_spelled in
      parts_same board (board_of game text)
      (s.heights_given ∙ ap heights_of foundations.1)
      (s.cells_given ∙ ap (padded_with game.cells None) cells.1)
      (s.columns_given ∙ ap (padded_with 8 []) columns.1)

  words_formed : (board : Board) → Spells game text board → (section : Section) → WordsFormed section (words_of section rows)
  words_formed board s Foundations = (OneByOne-all foundation_spelled (words_of Foundations rows) s.foundations s.foundations_spelled).0
  words_formed board s Freecells = (OneByOne-all cell_spelled (words_of Freecells rows) s.cells s.cells_spelled).0
  words_formed board s Column = (lines_all (lines_of Column rows) s.columns s.columns_spelled).0

  distinct : (board : Board) → Spells game text board → (suit : ℕ) → count_of_suit suit (foundations_in rows) ≤ 1
  distinct board s suit =
      subst (λ foundations. count_of_suit suit foundations ≤ 1)
      (OneByOne-all foundation_spelled (words_of Foundations rows) s.foundations s.foundations_spelled).1 (s.distinct_suits suit)

  each_once : (board : Board) → Spells game text board → (card : ℕ) → IsCard card → count_of card (flat_map cards_of_item (items_of text)) ≡ 1
  each_once board s card small =
      sym (count_of_board game text card (distinct board s (suit_of card)))
      ∙ ap (λ b. count_of_places b card) (sym (Spells-board_of board s)) ∙ s.well_formed.one_place card small

  items_sound : (board : Board) → Spells game text board → Sound game (items_of text)
  items_sound board s = record {
    foundations_lines = let count = count_lines Foundations rows in let bound = s.one_foundations_line in omega arith;
    cells_lines = let count = count_lines Freecells rows in let bound = s.one_cells_line in omega arith;
    column_lines =
        let count = count_lines Column rows in
        let long = length-map (lines_of Column rows) line_cards in
        let same = ap length (lines_all (lines_of Column rows) s.columns s.columns_spelled).1 in
        let bound = s.columns_fit in omega arith;
    cell_words =
        let count = count_words rows in
        let long = length_one_by_one cell_spelled (words_of Freecells rows) s.cells s.cells_spelled in
        let bound = s.cells_fit in omega arith;
    forms = formed_from rows (words_formed board s);
    suits = λ suit. let count = count_suits rows suit in let bound = distinct board s suit in omega arith;
    cards = λ card. few card (leb_tells 52 card);
  }
    where
      few : (card : ℕ) → ((leb 52 card ≡ true) × (52 ≤ card)) ⊎ ((leb 52 card ≡ false) × (card < 52)) → count_of card (flat_map cards_of_item (items_of text)) ≤ 1
      few card (inl (test, high)) = let none = not_card (flat_map cards_of_item (items_of text)) card (item_cards (items_of text)) high in omega arith
      few card (inr (test, small)) = let one = each_once board s card small in omega arith

  both_none : {X : Type 0} (o p : Option X) → o ≡ None → p ≡ None → option_or o p ≡ None
  both_none None p e f = f
  both_none (Some x) p e f = absurd (cc)

  pub faultless-from_Spells : (board : Board) → Spells game text board → first_fault game text ≡ None
  faultless-from_Spells board s =
      both_none (first_faulty game [] (items_of text)) (missing_card text)
      (faultless-from_Sound game [] (items_of text) (items_sound board s))
      (ap (option_map _) (all_present (flat_map cards_of_item (items_of text)) (λ card small. let one = each_once board s card small in omega arith)))
