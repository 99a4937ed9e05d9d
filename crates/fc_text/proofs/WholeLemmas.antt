-- Once a whole text is read, what is known is the board that its words give, and what its deck misses is the last fault.
use Rattle.std.proofs.Common.{◌++◌, ◌<◌, ◌∙◌, ◌∷◌, ◌≡◌, [], ap, append-nil, append_assoc, arith, Bool, cond, eqb, false}
use Rattle.std.proofs.Common.{get_or, inl, inr, length, List, map, None, not, Option, refl, Some, subst, sym, true, ℕ}
use Rattle.std.proofs.lemmas.{Bool.{cases_Bool}, List.{Concat.{flat_map-append}, Elements.{filter_map-append}}}
use Rattle.std.proofs.lemmas.List.{Folds.{find_at}, FromFn.{get_or-range_with_len, length-range_with_len}}
use Rattle.std.proofs.lemmas.{List.Sums.{position_or_len_is}, Option.{slice_get-get_or}}
use Rattle.std.specs.List.{cons_option, flat_map, list_any, position_or_len, range_with_len, slice_get}
use Rattle.std.specs.Option.{option_map, option_or, option_to_list}
use Rattle.fc_card.specs.{count_of, IsLowest, NoCard, suit_of}
use Rattle.fc_board.{proofs.BoardLemmas.{parts_same}, specs.Boards.{Board, count_of_places, HasEachCardOnce}}
use Rattle.fc_board.specs.Games.{Game}
use Rattle.fc_text.{
  proofs.{KeptLemmas.{add-append}, KnownLemmas.{cells_known, cells_of_word, columns_from, columns_known}},
  proofs.KnownLemmas.{foundations_of_word, heights_known, length-heights, same_first_fault, seen_known},
  proofs.{ReadingLemmas.{all_present, count_of_board, Spells-from_faultless, suits_once}, RowLemmas.{words_of-cons}},
  proofs.{SoundLemmas.{present, Sound, Sound-from_faultless, Sound-nil}, SpelledLemmas.{line_cards}},
  specs.Faults.{cards_of_item, first_fault, Item, items_of, items_of_row, lowest_missing, missing_card},
  specs.{Lines.{lines_from, Piece}, reader.{after_items, board_known, first_known_fault, is_seen, items_left}},
  specs.{reader.{items_of_words, Known, known_height, nothing_known, with_card}, Rows.{line_of, Row, rows_of}},
  specs.Spelling.{all_spelled, board_of, card_spelled, cell_spelled, foundation_spelled, height_in, heights_of},
  specs.Spelling.{is_section, lines_of, padded_with, Spells, words_of},
}
use Rattle.fc_text.specs.declared.board.reader.Section.{Section, TheVariants.{Column, Foundations, Freecells}}
use Rattle.fc_text.specs.declared.{board.spelling.Foundation.{Foundation}, fault.BoardFault.{BoardFault}}
use Rattle.fc_text.specs.declared.fault.BoardFaultKind.TheVariants.{MissingCard}

-- ---- the foundations and the cells that the items name are those that the words of their lines spell

module _ {X : Type 0} (ensured : Section → List ℕ → List X) (section : Section) (spelled : List ℕ → Option X)
    (of_section : (held : Section) (word : List ℕ) → ensured held word ≡ cond (is_section section held) (option_to_list (spelled word)) []) where
  abbrev kept_of : List Item → List X
  kept_of items = flat_map (λ item. flat_map (ensured item.section) (option_to_list item.word)) items

  one_more : (o : Option X) (items : List X) → option_to_list o ++ items ≡ cons_option o items
  one_more None items = refl
  one_more (Some x) items = refl

  row_kept : (held : Section) (b : Bool) → is_section section held ≡ b → (words : List Piece)
      → kept_of (items_of_words held words) ≡ all_spelled spelled (cond b words [])
  row_kept held true e [] = refl
  row_kept held false e [] = refl
  row_kept held true e (word ∷ words) =
      ap (λ front. front ++ kept_of (items_of_words held words)) (append-nil (ensured held word.bytes) ∙ of_section held word.bytes ∙ ap (λ b. cond b (option_to_list (spelled word.bytes)) []) e)
      ∙ ap (λ rest. option_to_list (spelled word.bytes) ++ rest) (row_kept held true e words)
      ∙ one_more (spelled word.bytes) (all_spelled spelled words)
  row_kept held false e (word ∷ words) =
      ap (λ front. front ++ kept_of (items_of_words held words)) (append-nil (ensured held word.bytes) ∙ of_section held word.bytes ∙ ap (λ b. cond b (option_to_list (spelled word.bytes)) []) e)
      ∙ row_kept held false e words

  pub spelled_kept : (rows : List Row) → kept_of (flat_map items_of_row rows) ≡ all_spelled spelled (words_of section rows)
  spelled_kept [] = refl
  spelled_kept (row ∷ rows) =
      flat_map-append (λ item. flat_map (ensured item.section) (option_to_list item.word)) (items_of_row row) (flat_map items_of_row rows)
      ∙ ap (λ front. front ++ kept_of (flat_map items_of_row rows)) (row_kept row.section (is_section section row.section) refl row.words)
      ∙ ap (λ rest. all_spelled spelled (cond (is_section section row.section) row.words []) ++ rest) (spelled_kept rows)
      ∙ sym (filter_map-append (λ word. spelled word.bytes) (cond (is_section section row.section) row.words []) (words_of section rows))
      ∙ ap (all_spelled spelled) (sym (words_of-cons section row rows))

foundations_kept : (held : Section) (word : List ℕ) → foundations_of_word held word ≡ cond (is_section Foundations held) (option_to_list (foundation_spelled word)) []
foundations_kept Foundations word = refl
foundations_kept Freecells word = refl
foundations_kept Column word = refl

cells_kept : (held : Section) (word : List ℕ) → cells_of_word held word ≡ cond (is_section Freecells held) (option_to_list (cell_spelled word)) []
cells_kept Foundations word = refl
cells_kept Freecells word = refl
cells_kept Column word = refl

-- ---- the columns

cards_kept : (columns : List (List ℕ)) (cards : List ℕ) (words : List Piece) (items : List Item)
    → columns_from (columns ++ cards ∷ []) (items_of_words Column words ++ items) ≡ columns_from (columns ++ (cards ++ all_spelled card_spelled words) ∷ []) items
cards_kept columns cards [] items = ap (λ cards. columns_from (columns ++ cards ∷ []) items) (sym (append-nil cards))
cards_kept columns cards (word ∷ words) items = by_word (card_spelled word.bytes) (λ more. cards_kept columns more words items)
  where
    by_word : (o : Option ℕ)
        → ((more : List ℕ) → columns_from (columns ++ more ∷ []) (items_of_words Column words ++ items) ≡ columns_from (columns ++ (more ++ all_spelled card_spelled words) ∷ []) items)
        → columns_from (with_card (columns ++ cards ∷ []) o) (items_of_words Column words ++ items) ≡ columns_from (columns ++ (cards ++ cons_option o (all_spelled card_spelled words)) ∷ []) items
    by_word None later = later cards
    by_word (Some card) later =
        ap (λ columns. columns_from columns (items_of_words Column words ++ items)) (add-append columns cards card)
        ∙ later (cards ++ card ∷ [])
        ∙ ap (λ cards. columns_from (columns ++ cards ∷ []) items) (append_assoc cards (card ∷ []) (all_spelled card_spelled words))

heights_skipped : (columns : List (List ℕ)) (words : List Piece) (items : List Item) → columns_from columns (items_of_words Foundations words ++ items) ≡ columns_from columns items
heights_skipped columns [] items = refl
heights_skipped columns (word ∷ words) items = heights_skipped columns words items

cells_skipped : (columns : List (List ℕ)) (words : List Piece) (items : List Item) → columns_from columns (items_of_words Freecells words ++ items) ≡ columns_from columns items
cells_skipped columns [] items = refl
cells_skipped columns (word ∷ words) items = cells_skipped columns words items

columns_kept : (columns : List (List ℕ)) (rows : List Row) → columns_from columns (flat_map items_of_row rows) ≡ columns ++ map line_cards (lines_of Column rows)
columns_kept columns [] = sym (append-nil columns)
columns_kept columns (row ∷ rows) = by_section row.section row.start row.words (λ columns. columns_kept columns rows)
  where
    by_section : (section : Section) (start : ℕ) (words : List Piece)
        → ((columns : List (List ℕ)) → columns_from columns (flat_map items_of_row rows) ≡ columns ++ map line_cards (lines_of Column rows))
        → (let row : Row = record { section = section; start = start; words = words } in
        columns_from columns (items_of_row row ++ flat_map items_of_row rows) ≡ columns ++ map line_cards (lines_of Column (row ∷ rows)))
    by_section Foundations start words later = heights_skipped columns words (flat_map items_of_row rows) ∙ later columns
    by_section Freecells start words later = cells_skipped columns words (flat_map items_of_row rows) ∙ later columns
    by_section Column start words later =
        cards_kept columns [] words (flat_map items_of_row rows)
        ∙ later (columns ++ all_spelled card_spelled words ∷ [])
        ∙ append_assoc columns (all_spelled card_spelled words ∷ []) (map line_cards (lines_of Column rows))

-- ---- the heights

heights_kept : (foundations : List Foundation) (heights : List (Option ℕ)) → length heights ≡ 4
    → ((suit : ℕ) → suit < 4 → known_height (get_or heights suit None) ≡ height_in foundations suit) → map known_height heights ≡ heights_of foundations
heights_kept foundations (a ∷ b ∷ c ∷ d ∷ []) four height =
    ap (λ h. h ∷ known_height b ∷ known_height c ∷ known_height d ∷ []) (height 0 (omega arith))
    ∙ ap (λ h. height_in foundations 0 ∷ h ∷ known_height c ∷ known_height d ∷ []) (height 1 (omega arith))
    ∙ ap (λ h. height_in foundations 0 ∷ height_in foundations 1 ∷ h ∷ known_height d ∷ []) (height 2 (omega arith))
    ∙ ap (λ h. height_in foundations 0 ∷ height_in foundations 1 ∷ height_in foundations 2 ∷ h ∷ []) (height 3 (omega arith))
heights_kept foundations [] four height = absurd (omega arith)
heights_kept foundations (a ∷ []) four height = absurd (omega arith)
heights_kept foundations (a ∷ b ∷ []) four height = absurd (omega arith)
heights_kept foundations (a ∷ b ∷ c ∷ []) four height = absurd (omega arith)
heights_kept foundations (a ∷ b ∷ c ∷ d ∷ e ∷ rest) four height = absurd (omega arith)

-- ---- the board

sound_items : (game : Game) (text : List ℕ) → first_known_fault game nothing_known (items_of text) ≡ None → Sound game (items_of text)
sound_items game text none = Sound-from_faultless game [] (items_of text) (Sound-nil game) (sym (same_first_fault game [] (items_of text) (Sound-nil game)) ∙ none)

pub known_board : (game : Game) (text : List ℕ) → first_known_fault game nothing_known (items_of text) ≡ None
    → board_known game (after_items nothing_known (items_of text)) ≡ board_of game text
known_board game text none =
    parts_same (board_known game known) (board_of game text)
    (heights_kept (all_spelled foundation_spelled (words_of Foundations rows)) known.heights (length-heights nothing_known (items_of text))
    (λ suit small. heights_known game (items_of text) (sound_items game text none) suit small
    ∙ ap (λ foundations. height_in foundations suit) (spelled_kept foundations_of_word Foundations foundation_spelled foundations_kept rows)))
    (ap (padded_with game.cells None) (cells_known nothing_known (items_of text) ∙ spelled_kept cells_of_word Freecells cell_spelled cells_kept rows))
    (ap (padded_with 8 []) (columns_known nothing_known (items_of text) ∙ columns_kept [] rows))
  where
    rows : List Row
    rows = rows_of text

    known : Known
    known = after_items nothing_known (items_of text)

-- ---- the deck

-- in how many places of the board a card is
places : (game : Game) (text : List ℕ) → first_known_fault game nothing_known (items_of text) ≡ None → (card : ℕ)
    → count_of_places (board_of game text) card ≡ count_of card (flat_map cards_of_item (items_of text))
places game text none card = count_of_board game text card (suits_once game text (sound_items game text none) (suit_of card))

-- the first fault is what the deck misses
last_fault : (game : Game) (text : List ℕ) → first_known_fault game nothing_known (items_of text) ≡ None → first_fault game text ≡ missing_card text
last_fault game text none =
    ap (λ o. option_or o (missing_card text)) (sym (same_first_fault game [] (items_of text) (Sound-nil game)) ∙ none)

pub read_whole : (game : Game) (text : List ℕ) → first_known_fault game nothing_known (items_of text) ≡ None
    → HasEachCardOnce (board_of game text) → Spells game text (board_of game text)
read_whole game text none once =
    Spells-from_faultless game text
    (last_fault game text none
    ∙ ap (option_map _) (all_present (flat_map cards_of_item (items_of text)) (λ card small. let count = places game text none card in let one = once card small in omega arith)))

abbrev is_missing : List ℕ → ℕ → Bool
is_missing cards card = not (list_any (λ other. eqb other card) cards)

-- the lowest card that was not seen is missed
lowest_is : (cards : List ℕ) (seen : List Bool) (card : ℕ) → ((other : ℕ) → other < 52 → is_seen seen other ≡ list_any (λ other'. eqb other' other) cards)
    → IsLowest (λ card. is_seen seen card ≡ false) card → lowest_missing cards ≡ Some card
lowest_is cards seen card ensured is =
    find_at (is_missing cards) deck ∙ ap (slice_get deck) place ∙ slice_get-get_or deck card 0 inside ∙ ap Some (at card is.in_deck)
  where
    deck : List ℕ
    deck = range_with_len 0 52

    inside : card < length deck
    inside = omega (arith, length-range_with_len 0 52, is.in_deck)

    at : (i : ℕ) → i < 52 → get_or deck i 0 ≡ i
    at i low = get_or-range_with_len 0 52 i 0 low ∙ omega arith

    earlier : (i : ℕ) → i < card → is_missing cards (get_or deck i 0) ≡ false
    earlier i low =
        let small : i < 52 = omega (arith, low, is.in_deck) in
        ap (is_missing cards) (at i small) ∙ ap not (sym (ensured i small)) ∙ elim (cases_Bool (is_seen seen i)) [
          | inl seen ↦ ap not seen
          | inr unseen ↦ absurd (omega (arith, is.lowest i small unseen, low))
        ]

    place : position_or_len (is_missing cards) deck ≡ card
    place =
        position_or_len_is (is_missing cards) deck card 0 (omega (arith, inside)) earlier
        (λ within. ap (is_missing cards) (at card is.in_deck) ∙ ap not (sym (ensured card is.in_deck) ∙ is.property))

-- ---- what the reader says, from where nothing was known

pub read_to_fault : (game : Game) (text : List ℕ) (first : Known) (fault : BoardFault) → first ≡ nothing_known
    → first_known_fault game first (items_left first (map line_of (lines_from 0 text))) ≡ Some fault → first_fault game text ≡ Some fault
read_to_fault game text first fault start found =
    ap (λ o. option_or o (missing_card text))
    (sym (same_first_fault game [] (items_of text) (Sound-nil game))
    ∙ subst (λ first. first_known_fault game first (items_left first (map line_of (lines_from 0 text))) ≡ Some fault) start found)

-- the text is read to its end with this knowledge
pub record ReadWhole (game : Game) (text : List ℕ) (first known : Known) : Type 0 where
  pub start : first ≡ nothing_known
  pub faultless : first_known_fault game first (items_left first (map line_of (lines_from 0 text))) ≡ None
  pub all : known ≡ after_items first (items_left first (map line_of (lines_from 0 text)))

module _ (game : Game) (text : List ℕ) (first known : Known) (read : ReadWhole game text first known) where
  no_fault : first_known_fault game nothing_known (items_of text) ≡ None
  no_fault = subst (λ first. first_known_fault game first (items_left first (map line_of (lines_from 0 text))) ≡ None) read.start read.faultless

  board_is : board_known game known ≡ board_of game text
  board_is =
      ap (board_known game) (read.all ∙ ap (λ first. after_items first (items_left first (map line_of (lines_from 0 text)))) read.start)
      ∙ known_board game text no_fault

  pub read_to_board : (board : Board) → board ≡ board_known game known → HasEachCardOnce (board_known game known) → Spells game text board
  read_to_board board parts once =
      subst (Spells game text) (sym (parts ∙ board_is)) (read_whole game text no_fault (subst HasEachCardOnce board_is once))

  seen_is : (card : ℕ) → card < 52 → is_seen known.seen card ≡ list_any (λ other. eqb other card) (flat_map cards_of_item (items_of text))
  seen_is card inside =
      ap (λ known. is_seen known.seen card) (read.all ∙ ap (λ first. after_items first (items_left first (map line_of (lines_from 0 text)))) read.start)
      ∙ seen_known (items_of text) card inside

  -- where each card was seen, the board is well-formed
  pub whole_deck : NoCard (λ card. is_seen known.seen card ≡ false) → HasEachCardOnce (board_known game known)
  whole_deck all = subst HasEachCardOnce (sym board_is) once
    where
      among : (card : ℕ) → card < 52 → list_any (λ other. eqb other card) (flat_map cards_of_item (items_of text)) ≡ true
      among card inside = elim (cases_Bool (is_seen known.seen card)) [
        | inl seen ↦ sym (seen_is card inside) ∙ seen
        | inr unseen ↦ absurd (all card inside unseen)
      ]

      once : HasEachCardOnce (board_of game text)
      once card inside =
          let most = (sound_items game text no_fault).cards card in
          let least = present card (flat_map cards_of_item (items_of text)) (among card inside) in
          places game text no_fault card ∙ omega (arith, most, least)

  pub read_to_missing : (card : ℕ) → IsLowest (λ card. is_seen known.seen card ≡ false) card → first_fault game text ≡ Some (record { place = length text; kind = MissingCard card })
  read_to_missing card lowest = last_fault game text no_fault ∙ ap (option_map _) (lowest_is (flat_map cards_of_item (items_of text)) known.seen card seen_is lowest)
