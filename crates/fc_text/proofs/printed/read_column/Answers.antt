use Rattle.std.proofs.Common.{◌%◌, ◌*◌, ◌++◌, ◌+◌, ◌-◌, ◌<◌, ◌^◌, ◌∙◌, ◌∷◌, ◌≡◌, ◌≤◌, [], ap, append-nil, append_assoc}
use Rattle.std.proofs.Common.{ap₂, arith, drop, get_or, get_or-drop, get_or-take, length, List, refl, rules, set}
use Rattle.std.proofs.{Common.{slice_range, subst, sym, take, take-append-drop, ℕ}, lemmas.Grind.{flat_map-append}}
use Rattle.std.proofs.lemmas.List.{drop-drop, drop_all, drop_more, Elements.{All-drop}}
use Rattle.std.{proofs.lemmas.List.{length-set, take-set-le, take_more_set}, specs.{Int.Bits.{bit_or}, List.{flat_map}}}
use Rattle.fc_card.{proofs.BitsLemmas.{AreBitsOf-push}, specs.{AreBitsOf, card_text, IsCard}}
use Rattle.fc_board.proofs.ColumnsLemmas.{length-range}
use Rattle.fc_text.proofs.BeginningLemmas.{first_cards, line_before, next_card, no_more_cards}
use Rattle.fc_text.proofs.{PieceLemmas.{longer_range}, printed.read_column.Goals.{else-loop-count-test}}
use Rattle.fc_text.proofs.printed.read_column.Goals.{then-loop-count-test+in_default, then-loop-count-test+in_default-2}
use Rattle.fc_text.proofs.printed.read_column.{Goals.{then-loop-count-test+in_default-3}, Invariants.{AreTaken}}
use Rattle.fc_text.specs.{Bytes.{colon, line_feed}, Printed.{card_word, column_line}}
use Rattle.fc_text.proofs.printed.read_column.Goals as goal

-- one more card is taken
next_taken : (text old cards : List ℕ) (start count most bits_before bits card : ℕ) → AreTaken text old cards start count most bits_before bits → count < most → most ≤ 52 → IsCard card
    → drop (3 * count + 1) text ≡ card_word card ++ drop (3 * count + 4) text
    → AreTaken text old (set cards count card) start (count + 1) most bits_before (bit_or bits (1 * 2 ^ card % 18446744073709551616))
next_taken text old cards start count most bits_before bits card taken below room in_deck is =
    let words = flat_map card_word (slice_range cards start count) in
    let up = taken.up in
    let deck = taken.deck in
    let longer : slice_range (set cards count card) start (count + 1) ≡ slice_range cards start count ++ card ∷ [] = longer_range cards start count card up (omega arith) in
    record {
      words_are =
          taken.words_are ∙ ap (λ ys. words ++ ys) is
          ∙ sym (append_assoc words (card_word card) (drop (3 * count + 4) text))
          ∙ ap (λ front. (words ++ front) ++ drop (3 * count + 4) text) (sym (append-nil (card_word card)))
          ∙ ap (λ front. front ++ drop (3 * count + 4) text) (sym (flat_map-append card_word (slice_range cards start count) (card ∷ [])))
          ∙ ap (λ cards. flat_map card_word cards ++ drop (3 * count + 4) text) (sym longer)
          ∙ ap (λ n. flat_map card_word (slice_range (set cards count card) start (count + 1)) ++ drop n text) (let e : 3 * count + 4 ≡ 3 * (count + 1) + 1 = omega arith in e);
      up = omega arith;
      few = omega arith;
      deck = length-set cards count card ∙ deck;
      before = take-set-le start cards count card up ∙ taken.before;
      bits_are = λ are. subst (λ cards. AreBitsOf cards (bit_or bits (1 * 2 ^ card % 18446744073709551616))) (sym (take_more_set cards count card (omega (arith, deck))))
          (AreBitsOf-push (take count cards) bits card in_deck (taken.bits_are are));
    }

-- three bytes are the word of the card
three_bytes : (word : List ℕ) (card rank suit : ℕ) → length word ≡ 3 → get_or word 0 0 ≡ 32 → card_text card ≡ rank ∷ suit ∷ [] → get_or word 1 0 ≡ rank → get_or word 2 0 ≡ suit → word ≡ card_word card
three_bytes [] card rank suit long blank letters first second = absurd (omega arith)
three_bytes (a ∷ []) card rank suit long blank letters first second = absurd (omega arith)
three_bytes (a ∷ b ∷ []) card rank suit long blank letters first second = absurd (omega arith)
three_bytes (a ∷ b ∷ c ∷ []) card rank suit long blank letters first second = (λ i. blank i ∷ first i ∷ second i ∷ []) ∙ ap (λ (text : List ℕ). 32 ∷ text) (sym letters)
three_bytes (a ∷ b ∷ c ∷ d ∷ rest) card rank suit long blank letters first second = absurd (omega arith)

-- the text from this place on begins with the word
word_in_front : (text word : List ℕ) (from to card : ℕ) → to ≡ from + 3 → word ≡ slice_range text from to → word ≡ card_word card → drop from text ≡ card_word card ++ drop to text
word_in_front text word from to card size there is =
    sym (take-append-drop 3 (drop from text))
    ∙ ap (λ n. take n (drop from text) ++ drop 3 (drop from text)) (let e : 3 ≡ to - from = omega arith in e)
    ∙ ap (λ front. front ++ drop 3 (drop from text)) (sym there ∙ is)
    ∙ ap (λ rest. card_word card ++ rest) (drop-drop 3 from text ∙ ap (λ n. drop n text) (sym size))

pub loop-count-preserved : goal.loop-count-preserved
loop-count-preserved c =
    let text = c.args.text.now in
    let count = c.loop-count.count in
    let word = slice_range text (3 * count + 1) (3 * count + 4) in
    let long : length word ≡ 3 = search rules in
    let blank : get_or word 0 0 ≡ 32 = search rules in
    rw c.number.ensures.value (next_taken text c.args.cards.now c.loop-count.cards c.args.before.count count c.args.most c.args.before.bits c.loop-count.bits c.in_ok-card.card c.loop-count.invariant c.loop-count-test.true c.requires.few.1 c.in_ok-card.ensures.in_deck
    (word_in_front text word (3 * count + 1) (3 * count + 4) c.in_ok-card.card (omega arith) refl (three_bytes word c.in_ok-card.card _ _ long blank c.in_ok-card.ensures.letters refl refl)))

-- between a colon and a line feed the cards are the line of the column
column_in_front : (text old cards : List ℕ) (start count most bits_before bits : ℕ) → AreTaken text old cards start count most bits_before bits → 3 * most + 2 ≤ length text
    → get_or text (3 * start) 0 ≡ colon → get_or text (3 * count + 1) 0 ≡ line_feed
    → drop (3 * start) text ≡ column_line (slice_range cards start count) ++ drop (3 * count + 2) text
column_in_front text old cards start count most bits_before bits taken room first last =
    let words = flat_map card_word (slice_range cards start count) in
    let rest = drop (3 * count + 2) text in
    let up = taken.up in
    let few = taken.few in
    let next : 3 * count + 1 + 1 ≡ 3 * count + 2 = omega arith in
    let end : drop (3 * count + 1) text ≡ line_feed ∷ rest =
    drop_more text (3 * count + 1) 0 (omega arith) ∙ ap (λ byte. byte ∷ drop (3 * count + 1 + 1) text) last ∙ ap (λ n. line_feed ∷ drop n text) next in
    drop_more text (3 * start) 0 (omega arith)
    ∙ ap (λ byte. byte ∷ drop (3 * start + 1) text) first
    ∙ ap (λ later. colon ∷ later) (taken.words_are ∙ ap (λ later. words ++ later) end ∙ sym (append_assoc words (line_feed ∷ []) rest))

pub returns-clause-line : goal.returns-clause-line
returns-clause-line c =
    column_in_front c.args.text.now c.args.cards.now c.loop-count.cards c.args.before.count c.loop-count.count c.args.most c.args.before.bits c.loop-count.bits c.loop-count.invariant c.requires.room (omega arith) (omega arith)

-- ---- the line of a column is read whole
-- after the cards that are taken there are the others of the line, and its end
left_cards : (text old cards column rest : List ℕ) (start count most bits_before bits : ℕ) → AreTaken text old cards start count most bits_before bits
    → drop (3 * start) text ≡ column_line column ++ rest
    → drop (3 * count + 1) text ≡ flat_map card_word (drop (length (slice_range cards start count)) column) ++ line_feed ∷ rest
left_cards text old cards column rest start count most bits_before bits taken line =
    first_cards (slice_range cards start count) column (drop (3 * count + 1) text) rest
    (sym taken.words_are ∙ sym (drop-drop 1 (3 * start) text) ∙ ap (drop 1) (line ∙ line_before column rest))

-- the bytes of a word of the text are its next ones
byte_of_word : (text : List ℕ) (from to k : ℕ) → k < to - from → get_or (slice_range text from to) k 0 ≡ get_or (drop from text) k 0
byte_of_word text from to k inside = get_or-take (to - from) (drop from text) k 0 inside

pub returns-in_err-card-clause-found : goal.returns-in_err-card-clause-found
returns-in_err-card-clause-found c = λ column rest are few line.
    let text = c.args.text.now in
    let count = c.loop-count.count in
    let from = 3 * count + 1 in
    let to = 3 * count + 4 in
    let taken = slice_range c.loop-count.cards c.args.before.count count in
    let left = left_cards text c.args.cards.now c.loop-count.cards column rest c.args.before.count count c.args.most c.args.before.bits c.loop-count.bits c.loop-count.invariant line in
    let first : get_or (slice_range text from to) 0 0 ≡ 32 = search rules in
    let (card, in_deck, letters) = next_card (drop (length taken) column) (drop from text) rest (All-drop IsCard (length taken) column are) left
    (sym (byte_of_word text from to 0 (omega arith)) ∙ first) in
    let some = c.in_err-card.ensures.found card in_deck
    (letters ∙ ap₂ (λ rank suit. rank ∷ suit ∷ []) (sym (byte_of_word text from to 1 (omega arith))) (sym (byte_of_word text from to 2 (omega arith)))) in
    absurd (cc)

pub returns-then-text-count-ne10-clause-found : goal.returns-then-text-count-ne10-clause-found
returns-then-text-count-ne10-clause-found c = λ column rest are few line.
    let text = c.args.text.now in
    let count = c.loop-count.count in
    let from = 3 * count + 1 in
    let to = 3 * count + 4 in
    let start = c.args.before.count in
    let taken = slice_range c.loop-count.cards start count in
    let left = left_cards text c.args.cards.now c.loop-count.cards column rest start count c.args.most c.args.before.bits c.loop-count.bits c.loop-count.invariant line in
    let up = c.loop-count.invariant.up in
    let most = c.loop-count.invariant.few in
    let deck = c.loop-count.invariant.deck in
    let no_end : get_or (drop from text) 0 0 ≡ line_feed → ⊥ = λ end. c.if-text-count-ne10.true (ap (λ n. get_or text n 0) (let e : from ≡ from + 0 = omega arith in e) ∙ sym (get_or-drop from text 0 0) ∙ end) in
    elim c.loop-count-test.branch [
      | else-loop-count-test w ↦
          let all = length-range c.loop-count.cards start count up (omega (arith, c.requires.few.1)) in
          let none = drop_all (length taken) column (omega (arith, w.loop-count-test.false)) in
          absurd (no_end (ap (λ bytes. get_or bytes 0 0) (left ∙ ap (λ cards. flat_map card_word cards ++ line_feed ∷ rest) none)))
      | then-loop-count-test+in_default w ↦
          let long = length-range text from to (omega arith) (omega (arith, c.requires.room, w.loop-count-test.true)) in
          absurd (omega (arith, long, w.in_default.len_below))
      | then-loop-count-test+in_default-2 w ↦
          let other : get_or (slice_range text from to) 0 0 ≡ 32 → ⊥ = search rules in
          absurd (no_end (no_more_cards (drop (length taken) column) (drop from text) rest left (λ first. other (byte_of_word text from to 0 (omega arith) ∙ first))))
      | then-loop-count-test+in_default-3 w ↦
          let long = length-range text from to (omega arith) (omega (arith, c.requires.room, w.loop-count-test.true)) in
          absurd (omega (arith, long, w.in_default.len_at_least))
    ]
