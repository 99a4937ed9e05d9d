-- What is read of a passage's bytes is the passage.
use Rattle.std.proofs.Common.{◌+◌, ◌<◌, ◌↔◌, ◌∙◌, ◌≡◌, ◌≤◌, All, ap, arith, drop, get_or, inl, inr, length, List, refl}
use Rattle.std.proofs.{Common.{replicate, set, slice_index, subst, sym, take, ℕ}, lemmas.Bool.{cases_lt}}
use Rattle.std.proofs.lemmas.List.{drop-drop, drop-set-lt, Elements.{All-drop, All-replicate}}
use Rattle.std.proofs.lemmas.List.{get_or-drop, get_or-set_other, get_or-set_same, length-set}
use Rattle.std.proofs.Math.Seq.{drop-append_seam}
use Rattle.fc_board.proofs.{CarriedLemmas.{carried-IsWellFormed}, PassageLemmas.{same_passage}}
use Rattle.fc_board.specs.{Boards.{Board, IsWellFormed}, Games.{Game}, Passages.{carried, IsPassage, Passage}}
use Rattle.fc_text.specs.Printed.{text_of}
use Rattle.fc_canon.proofs.{CanonicalLemmas.{Equivalent-from_canonical}, LeastTextLemmas.{chosen-same}}
use Rattle.fc_canon.specs.{Canonical, Chosen, Equivalent}
use Rattle.fc_bytes.proofs.{DecodedLemmas.{first_places, one_board, padded_places}, ExactBytes.{padded_there}}
use Rattle.fc_bytes.specs.{board_bytes, HasKey, HaveKeys, HoldsPassage, padded, passage_bytes}
use Rattle.fc_bytes.specs.declared.{board.BoardBytes.{BoardBytes}, passage.PassageBytes.{PassageBytes}}

module _ (game : Game) (bytes : PassageBytes) (passage : Passage) (holds : HoldsPassage game bytes passage) where
  pub held_suits : bytes.suits ≡ passage.renaming
  held_suits = ap (λ (bytes : PassageBytes). bytes.suits) holds.1

  pub held_columns : bytes.columns ≡ passage.columns
  held_columns = ap (λ (bytes : PassageBytes). bytes.columns) holds.1

  pub held_cells : (count : ℕ) → game.cells ≡ count → count ≤ 8 → take count bytes.cells ≡ passage.cells
  held_cells count n few =
      ap (λ (bytes : PassageBytes). take count bytes.cells) holds.1
      ∙ ap (take count) (sym (padded_places passage.cells (omega (arith, holds.0.orders.all_cells, n, few))))
      ∙ first_places (slice_index passage.cells) passage.cells 0 count 8 (holds.0.orders.all_cells ∙ n) few (λ i h. refl)

  pub held_rest_zero : (count : ℕ) → game.cells ≡ count → count ≤ 8 → All (λ byte. byte ≡ 0) (drop count bytes.cells)
  held_rest_zero count n few =
      let long : length passage.cells ≡ count = holds.0.orders.all_cells ∙ n in
      subst (λ cells. All (λ byte. byte ≡ 0) (drop count cells)) (sym (ap (λ (bytes : PassageBytes). bytes.cells) holds.1))
      (subst (λ count. All (λ byte. byte ≡ 0) (drop count (padded 8 passage.cells))) long
      (subst (All (λ byte. byte ≡ 0)) (sym (drop-append_seam passage.cells (drop (length passage.cells) (replicate 8 0))))
      (All-drop (λ byte. byte ≡ 0) (length passage.cells) (replicate 8 0) (All-replicate (λ byte. byte ≡ 0) 8 0 refl))))

-- what is read, if it is a passage, has these bytes
pub parts_held : (bytes : PassageBytes) (renaming columns cells : List ℕ) (count : ℕ) → renaming ≡ bytes.suits → columns ≡ bytes.columns → cells ≡ take count bytes.cells → length bytes.cells ≡ 8 → count ≤ 8 →
    All (λ byte. byte ≡ 0) (drop count bytes.cells) → bytes ≡ passage_bytes (record { renaming = renaming; columns = columns; cells = cells })
parts_held bytes renaming columns cells count suits_are columns_are cells_are eight few zeros = sym (λ i. record {
  suits = suits_are i;
  columns = columns_are i;
  cells = (ap (padded 8) cells_are ∙ padded_there bytes.cells 8 count eight few zeros) i;
})

-- equal bytes hold equal passages
pub one_passage : (game : Game) (bytes : PassageBytes) (passage other : Passage) → game.cells ≤ 8 → HoldsPassage game bytes passage → HoldsPassage game bytes other → passage ≡ other
one_passage game bytes passage other few holds holds' =
    same_passage passage other
    (sym (held_suits game bytes passage holds) ∙ held_suits game bytes other holds')
    (sym (held_columns game bytes passage holds) ∙ held_columns game bytes other holds')
    (sym (held_cells game bytes passage holds game.cells refl few) ∙ held_cells game bytes other holds' game.cells refl few)

-- ---- equal bytes, equal values, and canonical bytes
pub same_boards : (game : Game) → game.cells ≤ 8 → (board other : Board) → IsWellFormed game board → IsWellFormed game other →
    (board_bytes board ≡ board_bytes other) ↔ (board ≡ other)
same_boards game few board other well well' = (
  (λ same. one_board game (board_bytes board) board other few (well, refl) (well', same)),
  (λ same. ap board_bytes same),
)

pub same_passages : (game : Game) → game.cells ≤ 8 → (passage other : Passage) → IsPassage game passage → IsPassage game other →
    (passage_bytes passage ≡ passage_bytes other) ↔ (passage ≡ other)
same_passages game few passage other is is' = (
  (λ same. one_passage game (passage_bytes passage) passage other few (is, refl) (is', same)),
  (λ same. ap passage_bytes same),
)

pub canonical_bytes : (game : Game) (renamings : List (List ℕ)) → game.cells ≤ 8 → (board other : Board) (first next : Passage) →
    IsWellFormed game board → IsWellFormed game other → Chosen game renamings board first → Chosen game renamings other next →
    (board_bytes (carried first board) ≡ board_bytes (carried next other)) ↔ Equivalent game board other
canonical_bytes game renamings few board other first next well well' chosen chosen' =
    let there = carried-IsWellFormed game first board chosen.is_passage well in
    let there' = carried-IsWellFormed game next other chosen'.is_passage well' in (
      (λ same. Equivalent-from_canonical game board other (text_of (carried next other)) well well'
          (subst (Canonical game board) (ap text_of ((same_boards game few (carried first board) (carried next other) there there').0 same)) chosen.reaches) chosen'.reaches),
      (λ equivalent. ap board_bytes (chosen-same game renamings board other first next well well' chosen chosen' equivalent)),
    )

-- ---- boards that become their keys one after another

-- what is left is as it was
pub left_there : (old now : List BoardBytes) (at : ℕ) (default : BoardBytes) → drop at now ≡ drop at old → get_or now at default ≡ get_or old at default
left_there old now at default left =
    let here : at + 0 ≡ at = omega arith in
    ap (λ k. get_or now k default) (sym here)
    ∙ sym (get_or-drop at now 0 default) ∙ ap (λ boards. get_or boards 0 default) left ∙ get_or-drop at old 0 default
    ∙ ap (λ k. get_or old k default) here

pub keys_next : (game : Game) (renamings : List (List ℕ)) (old now : List BoardBytes) (at : ℕ) (key : BoardBytes) → HaveKeys game renamings old now at → at < length old →
    ((default : BoardBytes) → HasKey game renamings (get_or now at default) key) → HaveKeys game renamings old (set now at key) (at + 1)
keys_next game renamings old now at key (long, left, keys) inside has = (
  length-set now at key ∙ long,
  drop-set-lt (at + 1) now at key (omega arith)
      ∙ sym (drop-drop 1 at now) ∙ ap (drop 1) left ∙ drop-drop 1 at old,
  λ k default below. elim (cases_lt k at) [
    | inl before ↦ subst (HasKey game renamings (get_or old k default)) (sym (get_or-set_other now at k key default (λ same. omega (arith, same)))) (keys k default before)
    | inr past ↦
        let same : at ≡ k = omega arith in
        subst (λ k. HasKey game renamings (get_or old k default) (get_or (set now at key) k default)) same
        (subst (HasKey game renamings (get_or old at default)) (sym (get_or-set_same now at key default (omega (arith, long))))
        (subst (λ board. HasKey game renamings board key) (left_there old now at default left) (has default)))
  ],
)
