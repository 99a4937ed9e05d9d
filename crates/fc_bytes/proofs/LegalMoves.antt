-- The listed moves are all that the game allows.
use Rattle.std.proofs.Common.{◌+◌, ◌-◌, ◌<◌, ◌↔◌, ◌∙◌, ◌∷◌, ◌≡◌, [], All, ap, ap₂, arith, Bool, cond, false, get_or}
use Rattle.std.proofs.Common.{inl, inr, length, List, map, nat_lt, refl, subst, suc, sym, true, zero, ℕ}
use Rattle.std.proofs.lemmas.{Bool.{cases_lt, le-ltb, lt-ltb}, List.Elements.{All-append, All-cons, All-contains}}
use Rattle.std.proofs.lemmas.List.Elements.{All-get_or, All-nil, Contains-append_left, Contains-append_right}
use Rattle.std.proofs.lemmas.List.{Elements.{Contains-push}, get_or-map, length-map}
use Rattle.std.specs.{List.{Contains, filter, flat_map}, Option.{is_none}}
use Rattle.{fc_bytes.specs.declared.moves.MoveBytes.{MoveBytes}, fc_card.specs.{places}}
use Rattle.fc_board.specs.{Boards.{Board}, Games.{Game}, Moves.{move_between, PlaceFits, SourceFits}, Steps.{refusal}}
use Rattle.fc_board.specs.declared.moves.{Move.{Move}, Place.{Place}}
use Rattle.fc_board.specs.declared.moves.{Place.TheVariants.{Cell as ToCell, Column as ToColumn, Home}, Source.{Source}}
use Rattle.fc_board.specs.declared.moves.Source.TheVariants.{Cell as FromCell, Column as FromColumn}
use Rattle.fc_bytes.{proofs.ChildrenLemmas.{none_of, source_more, tried_more}, specs.{HoldsMove, IsAllowed}}
use Rattle.fc_bytes.specs.{legal_moves, legal_moves_from, move_bytes, source_numbered, target_numbered}

pub tried_all : {X : Type 0} (p : X → Bool) (f : ℕ → X) (count k : ℕ) → k < count → p (f k) ≡ true → Contains (filter p (map f (places count))) (f k)
tried_all p f zero k below passes = absurd (omega (arith, below))
tried_all {X} p f (suc count) k below passes =
    let next : count + 1 ≡ suc count = omega arith in
    subst (λ n. Contains (filter p (map f (places n))) (f k)) next
    (subst (λ all. Contains all (f k)) (sym (tried_more p f count)) (elim (cases_lt k count) [
      | inl earlier ↦ Contains-append_left (filter p (map f (places count))) (cond (p (f count)) (f count ∷ []) []) (f k) (tried_all p f count k earlier passes)
      | inr past ↦
          let same : k ≡ count = omega (arith, below, past) in
          Contains-append_right (filter p (map f (places count))) (cond (p (f count)) (f count ∷ []) []) (f k)
          (subst (λ n. Contains (cond (p (f n)) (f n ∷ []) []) (f k)) same
          (subst (λ test. Contains (cond test (f k ∷ []) []) (f k)) (sym passes) (Contains-push [] (f k))))
    ]))

pub sourced_all : {X : Type 0} (f : ℕ → List X) (count k : ℕ) (item : X) → k < count → Contains (f k) item → Contains (flat_map f (places count)) item
sourced_all f zero k item below there = absurd (omega (arith, below))
sourced_all {X} f (suc count) k item below there =
    let next : count + 1 ≡ suc count = omega arith in
    subst (λ n. Contains (flat_map f (places n)) item) next
    (subst (λ all. Contains all item) (sym (source_more f count)) (elim (cases_lt k count) [
      | inl earlier ↦ Contains-append_left (flat_map f (places count)) (f count) item (sourced_all f count k item earlier there)
      | inr past ↦
          let same : k ≡ count = omega (arith, below, past) in
          Contains-append_right (flat_map f (places count)) (f count) item (subst (λ n. Contains (f n) item) same there)
    ]))

not_below : (cell : ℕ) → nat_lt (8 + cell) 8 ≡ false
not_below cell = le-ltb (8 + cell) 8 (omega arith)

source_there : (game : Game) (source : Source) → SourceFits game source → (k : ℕ) × (k < 8 + game.cells) × (source_numbered k ≡ source)
source_there game (FromColumn column) fits = (
  column,
  omega (arith, fits),
  ap (λ test. cond test (FromColumn column) (FromCell (column - 8))) (lt-ltb column 8 fits),
)
source_there game (FromCell cell) fits = (
  8 + cell,
  omega (arith, fits),
  let back : 8 + cell - 8 ≡ cell = omega arith in
      ap (λ test. cond test (FromColumn (8 + cell)) (FromCell (8 + cell - 8))) (not_below cell) ∙ ap (λ place. FromCell place) back,
)

target_there : (game : Game) (place : Place) → PlaceFits game place → (k : ℕ) × (k < 9 + game.cells) × (target_numbered game k ≡ place)
target_there game (ToColumn column) fits = (
  column,
  omega (arith, fits),
  ap (λ test. cond test (ToColumn column) (cond (nat_lt column (8 + game.cells)) (ToCell (column - 8)) Home)) (lt-ltb column 8 fits),
)
target_there game (ToCell cell) fits = (
  8 + cell,
  omega (arith, fits),
  let back : 8 + cell - 8 ≡ cell = omega arith in
      let inside : 8 + cell < 8 + game.cells = omega (arith, fits) in
      ap (λ test. cond test (ToColumn (8 + cell)) (cond (nat_lt (8 + cell) (8 + game.cells)) (ToCell (8 + cell - 8)) Home)) (not_below cell)
      ∙ ap (λ test. cond test (ToCell (8 + cell - 8)) Home) (lt-ltb (8 + cell) (8 + game.cells) inside)
      ∙ ap (λ place. ToCell place) back,
)
target_there game Home fits =
    let last = 8 + game.cells in (
      last,
      omega arith,
      ap (λ test. cond test (ToColumn last) (cond (nat_lt last last) (ToCell (last - 8)) Home)) (not_below game.cells)
          ∙ ap (λ test. cond test (ToCell (last - 8)) Home) (le-ltb last last (omega arith)),
    )

pub all_listed : (game : Game) (board : Board) (move : Move) → IsAllowed game board move → Contains (legal_moves game board) move
all_listed game board move ((from_fits, to_fits), allowed) =
    let (k, below, source) = source_there game move.from from_fits in
    let (t, inside, target) = target_there game move.to to_fits in
    let test : Move → Bool = λ move. is_none (refusal game board move) in
    let here : move_between (source_numbered k) (target_numbered game t) ≡ move = ap₂ move_between source target in
    sourced_all (legal_moves_from game board) (8 + game.cells) k move below
    (subst (Contains (legal_moves_from game board k)) here
    (tried_all test (λ to. move_between (source_numbered k) (target_numbered game to)) (9 + game.cells) t inside (ap test here ∙ ap is_none allowed)))

-- ---- and they are allowed
pub all_tried : {X : Type 0} (P : X → Type 0) (p : X → Bool) (f : ℕ → X) (count : ℕ) → ((k : ℕ) → k < count → p (f k) ≡ true → P (f k)) →
    All P (filter p (map f (places count)))
all_tried P p f zero each = All-nil P
all_tried P p f (suc count) each =
    let next : count + 1 ≡ suc count = omega arith in
    subst (λ n. All P (filter p (map f (places n)))) next
    (subst (All P) (sym (tried_more p f count))
    (All-append P (filter p (map f (places count))) (cond (p (f count)) (f count ∷ []) [])
    (all_tried P p f count (λ k below. each k (omega (arith, below))))
    (either (p (f count)) refl)))
  where
    either : (test : Bool) → p (f count) ≡ test → All P (cond test (f count ∷ []) [])
    either true says = All-cons P (f count) [] (each count (omega arith) says) (All-nil P)
    either false says = All-nil P

pub all_sourced : {X : Type 0} (P : X → Type 0) (f : ℕ → List X) (count : ℕ) → ((k : ℕ) → k < count → All P (f k)) → All P (flat_map f (places count))
all_sourced P f zero each = All-nil P
all_sourced P f (suc count) each =
    let next : count + 1 ≡ suc count = omega arith in
    subst (λ n. All P (flat_map f (places n))) next
    (subst (All P) (sym (source_more f count))
    (All-append P (flat_map f (places count)) (f count) (all_sourced P f count (λ k below. each k (omega (arith, below)))) (each count (omega arith))))

source_fits : (game : Game) (k : ℕ) → k < 8 + game.cells → SourceFits game (source_numbered k)
source_fits game k below = elim (cases_lt k 8) [
  | inl column ↦ subst (SourceFits game) (sym (ap (λ test. cond test (FromColumn k) (FromCell (k - 8))) (lt-ltb k 8 column))) column
  | inr cell ↦ subst (SourceFits game) (sym (ap (λ test. cond test (FromColumn k) (FromCell (k - 8))) (le-ltb k 8 (omega (arith, cell))))) (omega (arith, cell, below))
]

target_fits : (game : Game) (k : ℕ) → k < 9 + game.cells → PlaceFits game (target_numbered game k)
target_fits game k below = elim (cases_lt k 8) [
  | inl column ↦
      subst (PlaceFits game) (sym (ap (λ test. cond test (ToColumn k) (cond (nat_lt k (8 + game.cells)) (ToCell (k - 8)) Home)) (lt-ltb k 8 column))) column
  | inr past ↦
      subst (PlaceFits game) (sym (ap (λ test. cond test (ToColumn k) (cond (nat_lt k (8 + game.cells)) (ToCell (k - 8)) Home)) (le-ltb k 8 (omega (arith, past)))))
      (elim (cases_lt k (8 + game.cells)) [
        | inl cell ↦ subst (PlaceFits game) (sym (ap (λ test. cond test (ToCell (k - 8)) Home) (lt-ltb k (8 + game.cells) cell))) (omega (arith, cell, past))
        | inr home ↦ subst (PlaceFits game) (sym (ap (λ test. cond test (ToCell (k - 8)) Home) (le-ltb k (8 + game.cells) (omega (arith, home))))) tt
      ])
]

pub all_legal : (game : Game) (board : Board) → All (IsAllowed game board) (legal_moves game board)
all_legal game board =
    all_sourced (IsAllowed game board) (legal_moves_from game board) (8 + game.cells) (λ from below.
    all_tried (IsAllowed game board) (λ move. is_none (refusal game board move)) (λ to. move_between (source_numbered from) (target_numbered game to))
    (9 + game.cells) (λ to inside says. ((source_fits game from below, target_fits game to inside), none_of _ says)))

pub exactly_legal : (game : Game) (board : Board) (move : Move) → Contains (legal_moves game board) move ↔ IsAllowed game board move
exactly_legal game board move = (All-contains (IsAllowed game board) (legal_moves game board) move (all_legal game board), all_listed game board move)

-- what the bytes of a listed move hold
pub listed_there : (game : Game) (board : Board) (bytes : List MoveBytes) (at : ℕ) (blank : MoveBytes) (default : Move) → bytes ≡ map move_bytes (legal_moves game board) →
    at < length bytes → HoldsMove game (get_or bytes at blank) (get_or (legal_moves game board) at default) × IsAllowed game board (get_or (legal_moves game board) at default)
listed_there game board bytes at blank default are inside =
    let legal = legal_moves game board in
    let there : at < length legal = omega (arith, inside, ap length are ∙ length-map legal move_bytes) in
    let allowed = All-get_or (IsAllowed game board) legal at default there (all_legal game board) in
    ((allowed.0, ap (λ bytes. get_or bytes at blank) are ∙ get_or-map move_bytes legal at default blank there), allowed)
