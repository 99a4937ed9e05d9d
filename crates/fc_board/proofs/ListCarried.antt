-- A list of moves and its images, whatever a move is: they play alike, move by move.
use Rattle.std.proofs.Common.{◌<◌, ◌↔◌, ◌∙◌, ◌∷◌, ◌≡◌, [], ap, ap₂, arith, length, List, map, None, Option, refl}
use Rattle.std.proofs.Common.{slice_get, slice_index, Some, subst, suc, sym, take, zero, ℕ}
use Rattle.std.proofs.lemmas.{List.{get_or_default, same_lists, take-map}, Option.{same_Some, slice_get-map}}
use Rattle.std.specs.Option.{option_map}
use Rattle.fc_card.specs.{AllBelow, inverse_order, IsRenaming, laws.OrderLaws.{get_or-pick, length-pick}}
use Rattle.fc_card.specs.laws.RenamingLaws.{inverse-IsRenaming}
use Rattle.fc_board.proofs.{ListLemmas.{kept_by_all}, PassageLemmas.{carried-back, inverse-IsPassage}}
use Rattle.fc_board.specs.{Boards.{Board, IsWellFormed}, Games.{Game}}
use Rattle.fc_board.specs.Passages.{carried, inverse_passage, IsPassage, Passage, renamed_heights}
use Rattle.fc_board.specs.Play.{IsWon, Played, Stops}
use Rattle.fc_board.specs.declared.fault.StepFault.{StepFault}

-- ---- won boards
abbrev all_kings : List ℕ
all_kings = 13 ∷ 13 ∷ 13 ∷ 13 ∷ []

king_there : (i : ℕ) → i < 4 → slice_index all_kings i ≡ 13
king_there zero h = refl
king_there (suc zero) h = refl
king_there (suc (suc zero)) h = refl
king_there (suc (suc (suc zero))) h = refl
king_there (suc (suc (suc (suc more)))) h = absurd (omega arith)

kings-renamed : (renaming : List ℕ) → IsRenaming renaming → renamed_heights renaming all_kings ≡ all_kings
kings-renamed renaming is =
    let back = inverse-IsRenaming renaming is in
    let four = back.four in
    let within : AllBelow (length all_kings) (inverse_order renaming) = λ i h. omega (arith, back.order.within i h) in
    let long = length-pick all_kings (inverse_order renaming) within in
    same_lists (renamed_heights renaming all_kings) all_kings (long ∙ four) (λ k d h.
    let inside : k < length (inverse_order renaming) = omega arith in
    get_or_default (renamed_heights renaming all_kings) k d 0 h ∙
    get_or-pick all_kings (inverse_order renaming) k 0 within inside ∙
    king_there (slice_index (inverse_order renaming) k) (within k inside) ∙
    sym (king_there k (omega arith)) ∙
    get_or_default all_kings k 0 d (omega arith))

pub won-carried : (game : Game) (passage : Passage) (board : Board) → IsPassage game passage → IsWon board → IsWon (carried passage board)
won-carried game passage board is won = ap (renamed_heights passage.renaming) won ∙ kings-renamed passage.renaming is.renames

-- a board is won where the board that a passage leads to is
won-back : (game : Game) (passage : Passage) (board : Board) → IsPassage game passage → IsWellFormed game board → IsWon (carried passage board) →
    IsWon board
won-back game passage board is well won =
    subst IsWon (carried-back passage board is well.piles) (won-carried game (inverse_passage passage) (carried passage board) (inverse-IsPassage passage is) won)

pub mapped_some : {U V : Type 0} (f : U → V) (found : Option U) (image : V) → option_map f found ≡ Some image →
    (item : U) × (found ≡ Some item) × (f item ≡ image)
mapped_some f None image e = cc
mapped_some f (Some item) image e = (item, refl, same_Some (f item) image e)

-- what holds of one move and its image
pub record CarriedLaws {Item : Type 0} (game : Game) (passage : Passage) (Leads : Board → Item → Board → Type 0) (FitsGame : Item → Type 0)
    (reason : Board → Item → Option StepFault) (image : Item → Item) : Type 0 where
  pub stays : (board after : Board) (move : Item) → IsWellFormed game board → Leads board move after → IsWellFormed game after
  pub there : (board after : Board) (move : Item) → IsWellFormed game board → Leads board move after
      → Leads (carried passage board) (image move) (carried passage after)
  pub back : (board other : Board) (move : Item) → IsWellFormed game board → Leads (carried passage board) (image move) other
      → (after : Board) × Leads board move after × (other ≡ carried passage after)
  pub refused : (board : Board) (move : Item) → IsWellFormed game board → FitsGame move →
      reason (carried passage board) (image move) ≡ reason board move
  pub fits : (move : Item) → FitsGame move → FitsGame (image move)
  pub fits_back : (move : Item) → FitsGame (image move) → FitsGame move

module _ {Item : Type 0} {game : Game} {passage : Passage} {Leads : Board → Item → Board → Type 0} {FitsGame : Item → Type 0}
    {reason : Board → Item → Option StepFault} {image : Item → Item} (laws : CarriedLaws game passage Leads FitsGame reason image)
    (is : IsPassage game passage) where
  well_after : (board after : Board) (moves : List Item) → IsWellFormed game board → Played Leads board moves after → IsWellFormed game after
  well_after = kept_by_all Leads (IsWellFormed game) laws.stays

  -- ---- what a list does, its image does
  plays-carried : (board after : Board) (moves : List Item) → IsWellFormed game board → Played Leads board moves after
      → Played Leads (carried passage board) (map image moves) (carried passage after)
  plays-carried board after [] well plays = ap (carried passage) plays
  plays-carried board after (move ∷ moves) well (between, step, rest) =
      (carried passage between, laws.there board between move well step, plays-carried between after moves (laws.stays board between move well step) rest)

  -- and what the image does, the list does
  plays-back : (board other : Board) (moves : List Item) → IsWellFormed game board → Played Leads (carried passage board) (map image moves) other
      → (after : Board) × Played Leads board moves after × (other ≡ carried passage after)
  plays-back board other [] well plays = (board, refl, plays)
  plays-back board other (move ∷ moves) well (next, step, rest) =
      let (between, step', there) = laws.back board next move well step in
      let (after, plays, end) = plays-back between other moves (laws.stays board between move well step')
      (rw there at rest) in
      (after, (between, step', plays), end)

  refused-carried : (board : Board) (moves : List Item) (index : ℕ) (fault : StepFault) → IsWellFormed game board
      → Stops Leads FitsGame reason board moves index fault → Stops Leads FitsGame reason (carried passage board) (map image moves) index fault
  refused-carried board moves index fault well at = record {
    before = carried passage at.before;
    played = subst (λ these. Played Leads (carried passage board) these (carried passage at.before)) (sym (take-map image index moves))
        (plays-carried board at.before (take index moves) well at.played);
    move = image at.move;
    there = slice_get-map image moves index ∙ ap (option_map image) at.there;
    fits = laws.fits at.move at.fits;
    refused = laws.refused at.before at.move (well_after board at.before (take index moves) well at.played) at.fits ∙ at.refused;
  }

  refused-back : (board : Board) (moves : List Item) (index : ℕ) (fault : StepFault) → IsWellFormed game board
      → Stops Leads FitsGame reason (carried passage board) (map image moves) index fault → Stops Leads FitsGame reason board moves index fault
  refused-back board moves index fault well at =
      let played : Played Leads (carried passage board) (map image (take index moves)) at.before =
      rw (take-map image index moves) at at.played in
      let (before, plays, there) = plays-back board at.before (take index moves) well played in
      let (move, found, same) = mapped_some image (slice_get moves index) at.move (sym (slice_get-map image moves index) ∙ at.there) in
      let fits : FitsGame move = laws.fits_back move (rw same at.fits) in record {
        before = before;
        played = plays;
        move = move;
        there = found;
        fits = fits;
        refused = sym (laws.refused before move (well_after board before (take index moves) well plays) fits) ∙ ap₂ reason (sym there) same ∙ at.refused;
      }

  -- ---- both ways
  pub plays-exactly : (board other : Board) (moves : List Item) → IsWellFormed game board
      → Played Leads (carried passage board) (map image moves) other ↔ ((after : Board) × Played Leads board moves after × (other ≡ carried passage after))
  plays-exactly board other moves well = (
    plays-back board other moves well,
    λ (after, plays, there). rw there (plays-carried board after moves well plays),
  )

  pub legal-exactly : (board : Board) (moves : List Item) → IsWellFormed game board
      → ((other : Board) × Played Leads (carried passage board) (map image moves) other) ↔ ((after : Board) × Played Leads board moves after)
  legal-exactly board moves well = (
    λ (other, plays). (let (after, plays', there) = plays-back board other moves well plays in (after, plays')),
    λ (after, plays). (carried passage after, plays-carried board after moves well plays),
  )

  pub wins-exactly : (board : Board) (moves : List Item) → IsWellFormed game board
      → ((other : Board) × Played Leads (carried passage board) (map image moves) other × IsWon other)
      ↔ ((after : Board) × Played Leads board moves after × IsWon after)
  wins-exactly board moves well = (
    λ (other, plays, won). (let (after, plays', there) = plays-back board other moves well plays in
        (after, plays', won-back game passage after is (well_after board after moves well plays') (rw there at won))),
    λ (after, plays, won). (carried passage after, plays-carried board after moves well plays, won-carried game passage after is won),
  )

  pub refused-exactly : (board : Board) (moves : List Item) (index : ℕ) (fault : StepFault) → IsWellFormed game board
      → Stops Leads FitsGame reason (carried passage board) (map image moves) index fault ↔ Stops Leads FitsGame reason board moves index fault
  refused-exactly board moves index fault well = (refused-back board moves index fault well, refused-carried board moves index fault well)
