-- Keys that are all shut are those of a closed list of boards, and where something is wrong they are not.
use Rattle.std.proofs.Common.{◌+◌, ◌-◌, ◌<◌, ◌↔◌, ◌∙◌, ◌∷◌, ◌≡◌, ◌≤◌, [], All, ap, ap₂, arith, Bool, get_or, inl, inr}
use Rattle.std.proofs.{Common.{length, List, map, refl, subst, sym, ℕ}, lemmas.Bool.{cases_lt}}
use Rattle.std.proofs.lemmas.List.Elements.{All-cons, All-contains, All-head, All-nil, All-tail, Contains-get_or}
use Rattle.std.{proofs.lemmas.List.{get_or-map, get_or_default, length-map}, specs.List.{Contains}}
use Rattle.std.specs.Prelude.{Err, IfErr, IsOk, Ok, Result}
use Rattle.fc_board.proofs.{DeckLemmas.{stays_well_formed}, StepLemmas.{not_refused_at_step, one_after}}
use Rattle.fc_board.specs.{Boards.{Board, IsWellFormed}, Games.{Game, RuleLaws}, Passages.{carried}, Play.{IsWon}}
use Rattle.fc_board.specs.Steps.{Step}
use Rattle.{fc_board.specs.declared.moves.Move.{Move}, fc_text.specs.Bytes.{IsLess}}
use Rattle.fc_canon.proofs.{CanonicalLemmas.{Equivalent-refl, Equivalent-sym}, LeastTextLemmas.{chosen-same}}
use Rattle.fc_canon.specs.{Equivalent}
use Rattle.fc_bytes.proofs.{DecodedLemmas.{one_board}, LegalMoves.{all_listed}}
use Rattle.fc_bytes.specs.{all_bytes, board_bytes, HasKey, HoldsBoard, IsKeyAfter, legal_moves}
use Rattle.fc_bytes.specs.declared.board.BoardBytes.{BoardBytes}
use Rattle.fc_closed.{proofs.ClosedLemmas.{together, unsolvable}, specs.{AreClosedKeys, AreKeys, AreKeysTo, AreShutTo}}
use Rattle.fc_closed.specs.{HoldBoards, IsAbove, IsClosed, IsDoubted, IsFirstFlaw, IsFlawInPlay, IsShut, IsSoAt}
use Rattle.fc_closed.specs.{IsUnsolvable, LeadsOut, ShowUnsolvable, StaysIn}
use Rattle.fc_closed.specs.declared.check.{Doubt.{Doubt, TheVariants.{NotAmong}}, Flaw.{Flaw}}
use Rattle.fc_closed.specs.declared.check.Flaw.TheVariants.{NoBoard, NotAbove, NotCanonical, Open, Won}

-- what maps to an item of the mapped list
pub mapped_from : {X Y : Type 0} (f : X → Y) (xs : List X) (y : Y) (d : X) → Contains (map f xs) y →
    (x : X) × Contains xs x × (f x ≡ y)
mapped_from f xs y d (k, below, is) =
    let inside : k < length xs = omega (arith, below, length-map xs f) in
    (get_or xs k d, Contains-get_or xs k d inside, sym (get_or-map f xs k d y inside) ∙ is)

-- a board that is not won, and the keys of what its moves lead to are all among the keys
abbrev ShutBoard : Game → List (List ℕ) → List BoardBytes → Board → Type 0
ShutBoard game renamings keys board =
    IsWellFormed game board × (¬ IsWon board) × ((move : Move) → Contains (legal_moves game board) move → StaysIn game renamings keys board move)

module _ (game : Game) (renamings : List (List ℕ)) (few : game.cells ≤ 8) (keys : List BoardBytes) where
  boards_of : (some : List BoardBytes) → All (IsShut game renamings keys) some →
      (boards : List Board) × (some ≡ map board_bytes boards) × All (ShutBoard game renamings keys) boards
  boards_of [] shut = ([], refl, All-nil (ShutBoard game renamings keys))
  boards_of (key ∷ some) shut =
      let (board, holds, lost, led) = All-head (IsShut game renamings keys) key some shut in
      let (boards, are, rest) = boards_of some (All-tail (IsShut game renamings keys) key some shut) in
      (board ∷ boards, ap₂ (λ (key : BoardBytes) (some : List BoardBytes). key ∷ some) holds.1 are, All-cons (ShutBoard game renamings keys) board boards (holds.0, lost, led) rest)

  module _ (boards : List Board) (are : keys ≡ map board_bytes boards) (shut : All (ShutBoard game renamings keys) boards) where
    stays : (board after : Board) (move : Move) → Contains boards board → Step game board move after →
        (member : Board) × Contains boards member × Equivalent game after member
    stays board after move inside step =
        let of_board = All-contains (ShutBoard game renamings keys) boards board shut inside in
        let listed = all_listed game board move (step.fits, not_refused_at_step game board after move step) in
        let (child, (next, way, step', chosen, holds), there) = of_board.2 move listed in
        let (member, among, is) = mapped_from board_bytes boards child board (subst (λ keys. Contains keys child) are there) in
        let of_member = All-contains (ShutBoard game renamings keys) boards member shut among in
        let same : carried way next ≡ member = one_board game child (carried way next) member few holds (of_member.0, sym is) in
        let same' : member ≡ carried way after = sym same ∙ ap (carried way) (one_after game board next after move step' step) in
        (member, among, (way, record { is_passage = chosen.is_passage; there = same' }))

    closed : IsClosed game boards
    closed = record {
      none_won = λ board inside. (All-contains (ShutBoard game renamings keys) boards board shut inside).1;
      stays = stays;
    }

  pub closed_keys : AreShutTo game renamings keys (length keys) →
      (boards : List Board) × HoldBoards game keys boards × IsClosed game boards
  closed_keys shut =
      let (boards, are, each) = boards_of keys shut in
      (boards, (are, λ k d below. (each k d below).0), closed boards are each)

-- ---- one key after a move, and one key of a board
pub one_key_after : (game : Game) (renamings : List (List ℕ)) (board : Board) (move : Move) (key other : BoardBytes) →
    IsWellFormed game board →
    IsKeyAfter game renamings board move key → IsKeyAfter game renamings board move other → key ≡ other
one_key_after game renamings board move key other well (after, way, step, chosen, holds) (after', way', step', chosen', holds') =
    let same : after ≡ after' = one_after game board after after' move step step' in
    let wells = stays_well_formed game board after move well step in
    let wells' = stays_well_formed game board after' move well step' in
    holds.1 ∙ ap board_bytes (chosen-same game renamings after after' way way' wells wells' chosen chosen' (equal_boards game after after' wells same)) ∙ sym holds'.1
  where
    equal_boards : (game : Game) (after after' : Board) → IsWellFormed game after → after ≡ after' →
        Equivalent game after after'
    equal_boards game after after' well same =
        subst (Equivalent game after) same (Equivalent-refl game after well.piles)

pub one_key : (game : Game) (renamings : List (List ℕ)) → game.cells ≤ 8 → (board key other : BoardBytes) →
    HasKey game renamings board key → HasKey game renamings board other → key ≡ other
one_key game renamings few board key other (held, way, holds, chosen, keyed) (held', way', holds', chosen', keyed') =
    let same : held ≡ held' = one_board game board held held' few holds holds' in
    let there = subst (Equivalent game held) same (Equivalent-refl game held holds.0.piles) in
    keyed.1 ∙ ap board_bytes (chosen-same game renamings held held' way way' holds.0 holds'.0 chosen chosen' there) ∙ sym keyed'.1

-- ---- keys at their places
pub so_at : (keys : List BoardBytes) (place : ℕ) (blank : BoardBytes) (IsSo : BoardBytes → Type 0) →
    place < length keys → IsSo (get_or keys place blank) → IsSoAt keys place IsSo
so_at keys place blank IsSo within so =
    (within, λ default. subst IsSo (get_or_default keys place blank default within) so)

pub not_above_at : (keys : List BoardBytes) (place : ℕ) (blank blank' : BoardBytes) → place < length keys → 0 < place →
    ¬ IsLess (all_bytes (get_or keys (place - 1) blank)) (all_bytes (get_or keys place blank')) → ¬ IsAbove keys place
not_above_at keys place blank blank' within later not_less above =
    let next : place - 1 + 1 ≡ place = omega (arith, later) in
    let inside : place - 1 < length keys = omega (arith, within) in
    let less = above (place - 1) blank next in
    not_less (subst (λ key. IsLess (all_bytes (get_or keys (place - 1) blank)) (all_bytes key)) (get_or_default keys place blank blank' within) less)

pub first_above : (keys : List BoardBytes) (place : ℕ) → place ≡ 0 → IsAbove keys place
first_above keys place first before default next = absurd (omega (arith, first, next))

-- one place more
pub keys_more : (game : Game) (renamings : List (List ℕ)) (keys : List BoardBytes) (at : ℕ) →
    AreKeysTo game renamings keys at →
    ((default : BoardBytes) → HasKey game renamings (get_or keys at default) (get_or keys at default)) → IsAbove keys at → AreKeysTo game renamings keys (at + 1)
keys_more game renamings keys at are own above place default below = elim (cases_lt place at) [
  | inl earlier ↦ are place default earlier
  | inr past ↦
      let here : at ≡ place = omega (arith, below, past) in
      subst (λ place. HasKey game renamings (get_or keys place default) (get_or keys place default) × IsAbove keys place) here (own default, above)
]

pub shut_more : (game : Game) (renamings : List (List ℕ)) (keys : List BoardBytes) (at : ℕ) →
    AreShutTo game renamings keys at →
    ((default : BoardBytes) → IsShut game renamings keys (get_or keys at default)) → AreShutTo game renamings keys (at + 1)
shut_more game renamings keys at are shut place default below = elim (cases_lt place at) [
  | inl earlier ↦ are place default earlier
  | inr past ↦
      let here : at ≡ place = omega (arith, below, past) in
      subst (λ place. IsShut game renamings keys (get_or keys place default)) here (shut default)
]

-- ---- what the boards of closed keys are
module _ (game : Game) (renamings : List (List ℕ)) (few : game.cells ≤ 8) (keys : List BoardBytes) (are : AreClosedKeys game renamings keys) where
  -- a key's board is one of the list
  member_of : (key : BoardBytes) (board : Board) → Contains keys key → HoldsBoard game key board → Contains are.1 board
  member_of key board inside holds =
      let (member, among, is) = mapped_from board_bytes are.1 key board (subst (λ keys. Contains keys key) are.2.0 inside) in
      let well = All-contains (IsWellFormed game) are.1 member are.2.1 among in
      subst (Contains are.1) (one_board game key member board few (well, sym is) holds) among

  pub held_not_won : (key : BoardBytes) (board : Board) → Contains keys key → HoldsBoard game key board → ¬ IsWon board
  held_not_won key board inside holds = are.3.none_won board (member_of key board inside holds)

  -- each key holds a board
  pub some_board : (key : BoardBytes) → Contains keys key → (board : Board) × HoldsBoard game key board
  some_board key (k, below, is) =
      let (held, way, holds, chosen, holds') = subst (λ key. HasKey game renamings key key) is (are.0 k key below).0 in
      (held, holds)

  -- a move does not lead out
  pub not_out : (key : BoardBytes) (board : Board) (move : Move) → Contains keys key → HoldsBoard game key board →
      ¬ LeadsOut game renamings keys board move
  not_out key board move inside holds (child, (after, way, step, chosen, holds_child), out) =
      let (member, among, there) = are.3.stays board after move (member_of key board inside holds) step in
      let (k, below, is) = among in
      let place : k < length keys = omega (arith, below, ap length are.2.0 ∙ length-map are.1 board_bytes) in
      let of_member : get_or keys k key ≡ board_bytes member = ap (λ keys. get_or keys k key) are.2.0 ∙ get_or-map board_bytes are.1 k board key below ∙ ap board_bytes (get_or_default are.1 k board member below ∙ is) in
      let (held, way', holds', chosen', keyed) = (are.0 k key place).0 in
      let well_member = All-contains (IsWellFormed game) are.1 member are.2.1 among in
      let same : held ≡ member = one_board game (get_or keys k key) held member few holds' (well_member, of_member) in
      let well = stays_well_formed game board after move holds.0 step in
      let one : carried way after ≡ carried way' held = chosen-same game renamings after held way way' well holds'.0 chosen chosen' (subst (Equivalent game after) (sym same) there) in
      let equal : get_or keys k key ≡ child = keyed.1 ∙ ap board_bytes (sym one) ∙ sym holds_child.1 in
      out (subst (Contains keys) equal (Contains-get_or keys k key place))

-- no list wins from the board of a closed key
pub key_unsolvable : {game : Game} {renamings : List (List ℕ)} {cells count : ℕ} {kings_only : Bool} →
    RuleLaws game renamings cells count kings_only → game.cells ≤ 8 →
    (keys : List BoardBytes) → AreClosedKeys game renamings keys → (key : BoardBytes) (board : Board) → Contains keys key → HoldsBoard game key board → IsUnsolvable game board
key_unsolvable {game} {renamings} laws few keys are key board inside holds =
    unsolvable laws are.1 are.3 board holds.0 (member_of game renamings few keys are key board inside holds)

-- nor from a board whose key is among them
pub shown_unsolvable : {game : Game} {renamings : List (List ℕ)} {cells count : ℕ} {kings_only : Bool} →
    RuleLaws game renamings cells count kings_only → game.cells ≤ 8 →
    (board : BoardBytes) (keys : List BoardBytes) → ShowUnsolvable game renamings board keys → (held : Board) × HoldsBoard game board held × IsUnsolvable game held
shown_unsolvable {game} laws few board keys (key, (held, way, holds, chosen, keyed), inside, are) =
    let over = Equivalent-sym game held (carried way held) holds.0.piles (way, record { is_passage = chosen.is_passage; there = refl }) in
    (held, holds, together laws (carried way held) held keyed.0 over (key_unsolvable laws few keys are key (carried way held) inside keyed))

-- ---- and so where something is wrong keys are not closed
key : BoardBytes
key = record { heights = []; cells = []; lengths = []; cards = [] }

module _ (game : Game) (renamings : List (List ℕ)) (few : game.cells ≤ 8) (keys : List BoardBytes) (place : ℕ) where
  pub not_closed : (flaw : Flaw) → IsFirstFlaw game renamings keys place flaw → ¬ AreClosedKeys game renamings keys
  not_closed NoBoard (before, (within, so)) are =
      let (board, holds) = some_board game renamings few keys are (get_or keys place key) (Contains-get_or keys place key within) in
      so key board holds
  not_closed NotCanonical (before, (within, so)) are = (so key).1 (are.0 place key within).0
  not_closed NotAbove (before, (within, so), above) are = above (are.0 place key within).1
  not_closed Won (all, before, (within, so)) are =
      let (board, holds, won) = so key in
      held_not_won game renamings few keys are (get_or keys place key) board (Contains-get_or keys place key within) holds won
  not_closed (Open move) (all, before, (within, so)) are =
      let (board, first, holds, lost, is, (k, there, out, none)) = so key in
      not_out game renamings few keys are (get_or keys place key) board first (Contains-get_or keys place key within) holds out

-- each key holds a board, and is above the one before it
pub holds_at : (game : Game) (renamings : List (List ℕ)) (keys : List BoardBytes) → AreKeys game renamings keys →
    (place : ℕ) (default : BoardBytes) → place < length keys →
    (board : Board) × HoldsBoard game (get_or keys place default) board
holds_at game renamings keys are place default within =
    let (held, way, holds, chosen, keyed) = (are place default within).0 in (held, holds)

pub ascend_at : (game : Game) (renamings : List (List ℕ)) (keys : List BoardBytes) → AreKeys game renamings keys →
    (place : ℕ) → place < length keys → IsAbove keys place
ascend_at game renamings keys are place within = (are place key within).1

-- what is wrong in play is what is first wrong, where all keys are in order and those before stay in
pub in_play : (game : Game) (renamings : List (List ℕ)) (keys : List BoardBytes) (place : ℕ) (blank : BoardBytes) →
    AreKeys game renamings keys →
    AreShutTo game renamings keys place → place < length keys → (flaw : Flaw) → IsFlawInPlay game renamings keys (get_or keys place blank) flaw →
    IsFirstFlaw game renamings keys place flaw
in_play game renamings keys place blank are shut within NoBoard so = absurd so
in_play game renamings keys place blank are shut within NotCanonical so = absurd so
in_play game renamings keys place blank are shut within NotAbove so = absurd so
in_play game renamings keys place blank are shut within Won so =
    (are, shut, so_at keys place blank (λ key. IsFlawInPlay game renamings keys key Won) within so)
in_play game renamings keys place blank are shut within (Open move) so =
    (are, shut, so_at keys place blank (λ key. IsFlawInPlay game renamings keys key (Open move)) within so)

-- where the key is not found, that alone is lacking
pub doubted : (game : Game) (renamings : List (List ℕ)) (board : BoardBytes) (keys : List BoardBytes) (key : BoardBytes) (result : Result (Unit {0}) Doubt) →
    AreClosedKeys game renamings keys → HasKey game renamings board key → IsOk result ↔ Contains keys key → IfErr result (λ doubt. doubt ≡ NotAmong) →
    IfErr result (IsDoubted game renamings board keys)
doubted game renamings board keys key (Ok done) are has found absent = tt
doubted game renamings board keys key (Err doubt) are has found absent =
    subst (IsDoubted game renamings board keys) (sym absent) (are, key, has, λ inside. let no = found.1 inside in absurd (cc))
