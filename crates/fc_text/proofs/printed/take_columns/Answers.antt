use Rattle.std.proofs.Common.{◌*◌, ◌++◌, ◌+◌, ◌-◌, ◌<◌, ◌∙◌, ◌∷◌, ◌≡◌, ◌≤◌, [], All, ap, append-nil, append_assoc, ap₂}
use Rattle.std.proofs.Common.{arith, drop, length, length-append, List, slice_range, slice_set, subst, sym, take}
use Rattle.std.proofs.{Common.{take-append-drop, ℕ}, lemmas.{Grind.{flat_map-append}, List.{drop-drop, drop-take}}}
use Rattle.std.proofs.lemmas.List.Elements.{All-append, All-cons, All-nil}
use Rattle.std.{proofs.lemmas.List.{length-drop, take-take, take_all, take_rest}, specs.List.{flat_map}}
use Rattle.fc_card.specs.{AreBitsOf, IsCard}
use Rattle.fc_board.proofs.BoardLemmas.{All-right}
use Rattle.fc_board.proofs.ColumnsLemmas.{all_ascend, all_laid, AreLaid, last_laid, length-range, one_laid}
use Rattle.fc_board.specs.inside.{size_of}
use Rattle.fc_text.proofs.{BeginningLemmas.{length_lines, next_column}, printed.take_columns.Goals.{After-loop-at}}
use Rattle.fc_text.{proofs.printed.take_columns.Invariants.{AreTaken}, specs.Printed.{column_line}}
use Rattle.fc_text.proofs.printed.take_columns.Goals as goal

-- the cards up to the next end are those up to the last one, and the column between the two
front_and_column : (old new : List ℕ) (count next : ℕ) → count ≤ next → take count new ≡ take count old → take next new ≡ take count old ++ slice_range new count next
front_and_column old new count next up same =
    sym (take-append-drop count (take next new))
    ∙ ap (λ front. front ++ drop count (take next new)) (take-take count next new up ∙ same)
    ∙ ap (λ column. take count old ++ column)
    (ap (λ n. drop count (take n new)) (let e : next ≡ count + (next - count) = omega arith in e) ∙ drop-take count (next - count) new)

-- the line of one column is the next one of the text
next_line : (text cards : List ℕ) (at count next : ℕ) → 2 * at ≤ length text
    → drop (3 * count) (slice_range text (2 * at) (length text)) ≡ column_line (slice_range cards count next) ++ drop (3 * next + 2) (slice_range text (2 * at) (length text))
    → drop (2 * at + 3 * count) text ≡ column_line (slice_range cards count next) ++ drop (2 * (at + 1) + 3 * next) text
next_line text cards at count next within is =
    sym (drop-drop (3 * count) (2 * at) text) ∙ ap (drop (3 * count)) (sym whole) ∙ is
    ∙ ap (λ rest. column_line (slice_range cards count next) ++ rest)
    (ap (drop (3 * next + 2)) whole ∙ drop-drop (3 * next + 2) (2 * at) text ∙ ap (λ n. drop n text) (let e : 2 * at + (3 * next + 2) ≡ 2 * (at + 1) + 3 * next = omega arith in e))
  where
    whole : slice_range text (2 * at) (length text) ≡ drop (2 * at) text
    whole = take_all (length text - 2 * at) (drop (2 * at) text) (omega (arith, length-drop (2 * at) text))

-- the cards of the columns are as many as are laid
one_more : (columns : List (List ℕ)) (column : List ℕ) (count next : ℕ) → count ≡ size_of columns → length column ≡ next - count → count ≤ next → next ≡ size_of (columns ++ column ∷ [])
one_more columns column count next counted size up =
    let all = ap length (flat_map-append (λ column. column) columns (column ∷ [])) in
    let parts = length-append (flat_map (λ column. column) columns) (column ++ []) in
    let last = length-append column [] in
    omega arith

-- one more column is read
next_taken : (text old new ends : List ℕ) (at count next most bits next_bits : ℕ) → at < 8 → AreTaken text old ends at count most bits →
    count ≤ next → next ≤ most → most ≤ 52 → length new ≡ 52 → take count new ≡ take count old → drop (2 * at + 3 * count) text ≡ column_line (slice_range new count next) ++ drop (2 * (at + 1) + 3 * next) text →
    (AreBitsOf (take count old) bits → AreBitsOf (take next new) next_bits) → AreTaken text new (slice_set ends at next) (at + 1) next most next_bits
next_taken text old new ends at count next most bits next_bits below taken up few room deck same is ensured =
    let column = slice_range new count next in
    let rest = drop (2 * (at + 1) + 3 * next) text in
    let size = length-range new count next up (omega arith) in record {
      columns = taken.columns ++ column ∷ [];
      laid = one_laid taken.columns old new ends at count next column below taken.laid (omega arith) (omega arith) deck (front_and_column old new count next up same);
      few = few;
      bits_are = ensured taken.bits_are;
      many = length-append taken.columns (column ∷ []) ∙ ap (λ n. n + 1) taken.many;
      in_deck = All-append (All IsCard) taken.columns (column ∷ []) taken.in_deck
          (All-cons (All IsCard) column [] (All-right IsCard (take count old) column
          (subst (All IsCard) (front_and_column old new count next up same) (ensured taken.bits_are).in_deck)) (All-nil (All IsCard)));
      counted = one_more taken.columns column count next taken.counted size up;
      lines =
          taken.lines ∙ ap (λ ys. flat_map column_line taken.columns ++ ys) is
          ∙ sym (append_assoc (flat_map column_line taken.columns) (column_line column) rest)
          ∙ ap (λ text. (flat_map column_line taken.columns ++ text) ++ rest) (sym (append-nil (column_line column)))
          ∙ ap (λ text. text ++ rest) (sym (flat_map-append column_line taken.columns (column ∷ [])));
    }

pub loop-at-preserved : goal.loop-at-preserved
loop-at-preserved c =
    let within : 2 * c.loop-at.at ≤ length c.args.text.now.now = omega (arith, c.loop-at-test.true, c.in_ok-checked_sub.ensures) in
    let room : c.min-most.result ≤ 52 = omega (arith, c.min-most.ensures) in
    next_taken c.args.text.now.now c.loop-at.cards c.read_column.new.cards c.loop-at.ends c.loop-at.at c.loop-at.laid.count c.in_ok-laid.laid.count c.min-most.result c.loop-at.laid.bits c.in_ok-laid.laid.bits c.loop-at-test.true c.loop-at.invariant
    c.in_ok-laid.ensures.end.0 c.in_ok-laid.ensures.end.1 room c.in_ok-laid.ensures.deck c.in_ok-laid.ensures.before
    (next_line c.args.text.now.now c.read_column.new.cards c.loop-at.at c.loop-at.laid.count c.in_ok-laid.laid.count within c.in_ok-laid.ensures.line) c.in_ok-laid.ensures.bits

laid : (c : After-loop-at) → AreLaid c.loop-at.invariant.columns c.loop-at.cards c.loop-at.ends 8 c.loop-at.laid.count
laid c = subst (λ at. AreLaid c.loop-at.invariant.columns c.loop-at.cards c.loop-at.ends at c.loop-at.laid.count) (omega arith) c.loop-at.invariant.laid

pub returns-clause-lines : goal.returns-clause-lines
returns-clause-lines c =
    let text = c.args.text.now.now in
    let columns = c.loop-at.invariant.columns in
    let end : 2 * c.loop-at.at + 3 * c.loop-at.laid.count ≡ 3 * c.loop-at.laid.count + 16 = omega (arith, c.loop-at-test.false, c.loop-at.auto.at-end) in
    c.loop-at.invariant.lines
    ∙ ap₂ (λ columns rest. flat_map column_line columns ++ rest)
    (sym (all_laid columns c.loop-at.cards c.loop-at.ends c.loop-at.laid.count (laid (goal.at.returns-clause-lines c).After-loop-at)))
    (ap (λ n. drop n text) end ∙ sym (take_rest text (3 * c.loop-at.laid.count + 16)))

pub returns-clause-ends : goal.returns-clause-ends
returns-clause-ends c = all_ascend c.loop-at.invariant.columns c.loop-at.cards c.loop-at.ends c.loop-at.laid.count (laid (goal.at.returns-clause-ends c).After-loop-at)

pub returns-clause-bits : goal.returns-clause-bits
returns-clause-bits c =
    let last = last_laid c.loop-at.invariant.columns c.loop-at.cards c.loop-at.ends c.loop-at.laid.count (laid (goal.at.returns-clause-bits c).After-loop-at) in
    subst (λ n. AreBitsOf (take n c.loop-at.cards) c.loop-at.laid.bits) (sym last) c.loop-at.invariant.bits_are

-- ---- columns that are there are read
pub returns-in_err-checked_sub-clause-found : goal.returns-in_err-checked_sub-clause-found
returns-in_err-checked_sub-clause-found c = λ columns rest eight are few is.
    let long = ap length is ∙ length-append (flat_map column_line columns) rest in
    let lines = length_lines columns in
    absurd (c.in_err-checked_sub.ensures (omega arith))

-- the line of the next column, in the text without the two bytes of each line before
next_line_there : (text column later : List ℕ) (at count : ℕ) → 2 * at ≤ length text → drop (2 * at + 3 * count) text ≡ column_line column ++ later
    → drop (3 * count) (slice_range text (2 * at) (length text)) ≡ column_line column ++ later
next_line_there text column later at count within is =
    ap (drop (3 * count)) (take_all (length text - 2 * at) (drop (2 * at) text) (omega (arith, length-drop (2 * at) text)))
    ∙ drop-drop (3 * count) (2 * at) text ∙ is

pub returns-in_err-laid-clause-found : goal.returns-in_err-laid-clause-found
returns-in_err-laid-clause-found c = λ columns rest eight are few is.
    let text = c.args.text.now.now in
    let at = c.loop-at.at in
    let count = c.loop-at.laid.count in
    let taken = c.loop-at.invariant.columns in
    let many = c.loop-at.invariant.many in
    let counted = c.loop-at.invariant.counted in
    let within : 2 * at ≤ length text = omega (arith, c.loop-at-test.true, c.in_ok-checked_sub.ensures) in
    let long = ap length is ∙ length-append (flat_map column_line columns) rest in
    let lines = length_lines columns in
    let (column, later, in_deck, next, size) = next_column text taken columns (drop (2 * at + 3 * count) text) rest (omega (arith, c.loop-at-test.true)) c.loop-at.invariant.in_deck are c.loop-at.invariant.lines is in
    let some = c.in_err-laid.ensures.found column later in_deck (omega (arith, c.min-most.ensures, c.in_ok-checked_sub.ensures)) (next_line_there text column later at count within next) in
    absurd (cc)
