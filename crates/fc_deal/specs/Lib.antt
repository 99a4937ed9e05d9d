-- Microsoft's numbered deals, and their boards.
use Rattle.std.specs.{List.{filter, range_with_len, swap_remove}, Prelude.{◌%◌, ◌*◌, ◌+◌, ◌/◌}}
use Rattle.std.specs.Prelude.{◌==◌, ◌^◌, ◌∷◌, ◌≤◌, [], length, List, map, None, replicate}
use Rattle.std.specs.Prelude.{slice_index, suc, zero, ℕ}
use Rattle.{fc_board.specs.Boards.{Board}, fc_card.specs.{places, Types.{Card, Pile}}}

-- -------- Microsoft's numbered deals. From: the numbering of Microsoft FreeCell, whose numbers come from the generator of its C library.

-- the generator's next state
abbrev pub next_state : ℕ → ℕ
next_state state = (state * 214013 + 2531011) % 2 ^ 31

-- the number that a state gives
abbrev pub drawn : ℕ → ℕ
drawn state = state / 65536

-- the place in a deck of so many cards from which a state takes a card
abbrev pub place_drawn : ℕ → ℕ → ℕ
place_drawn state cards = drawn state % cards

-- the cards in the order in which they are dealt from a deck of so many, where each time the last card takes the place of the one that was dealt
abbrev pub dealt : ℕ → ℕ → List Card → List Card
dealt zero state deck = []
dealt (suc left) state deck =
    let next = next_state state in
    let place = place_drawn next (suc left) in
    let card = slice_index deck place in
    card ∷ dealt left next (swap_remove deck place card)

-- the whole deck by number: AC AD AH AS 2C and so on up to KS
abbrev pub deck : List Card
deck = range_with_len 0 52

-- the 52 cards of a deal, in the order in which they are dealt
unfoldable pub deal : ℕ → List Card
deal number = dealt 52 number deck

-- the numbers that are dealt
abbrev pub IsDealNumber : ℕ → Type 0
IsDealNumber number = (1 ≤ number) × (number ≤ 2147483647)

-- -------- The board of a deal. From: Microsoft FreeCell, which deals all cards row by row over eight columns.

-- which of so many cards are dealt to this column, by their places in the deal: every eighth one
abbrev pub places_dealt_to : ℕ → ℕ → List ℕ
places_dealt_to column count = filter (λ place. place % 8 == column) (places count)

-- the cards of this column, the last one dealt last
abbrev pub dealt_column : List Card → ℕ → Pile
dealt_column cards column = map (slice_index cards) (places_dealt_to column (length cards))

-- the board with these cards on its eight columns, so many cells, which are empty, and nothing home
abbrev pub dealt_board : ℕ → List Card → Board
dealt_board cells cards = record {
  heights = replicate 4 0;
  cells = replicate cells None;
  columns = map (dealt_column cards) (places 8);
}
