-- Lemmas on columns that lie end to end while they are read: a column begun, a card more, and the columns that are not begun.
use Rattle.std.proofs.Common.{◌++◌, ◌+◌, ◌-◌, ◌<◌, ◌∙◌, ◌∷◌, ◌≡◌, ◌≤◌, [], All, ap, arith, drop, drop-drop, get_or}
use Rattle.std.proofs.Common.{length, length-append, List, map, None, Option, refl, replicate, set, slice_range, Some}
use Rattle.std.proofs.{Common.{subst, suc, sym, take, zero, ℕ}, lemmas.List.{drop-set-add}}
use Rattle.std.proofs.lemmas.List.{Elements.{All-drop, All-head, All-tail}, length-take-le, map-id, take-set-le}
use Rattle.std.specs.Option.{IsNone}
use Rattle.fc_board.{proofs.ColumnsLemmas.{length-columns_from}, specs.Games.{Game}}
use Rattle.fc_board.specs.inside.{AreBounds, AscendTo, board_of_laid, columns_between, columns_from}
use Rattle.fc_text.proofs.PieceLemmas.{longer_range}
use Rattle.fc_text.specs.reader.{add_to_last, board_known, bounds_known, ends_known, IsKept, known_height, known_of}
use Rattle.fc_text.specs.Spelling.{padded_with}
use Rattle.fc_text.specs.declared.board.reader.Kept.{Kept}

nothing_between : (cards : List ℕ) (n : ℕ) → slice_range cards n n ≡ []
nothing_between cards n = let e : n - n ≡ 0 = omega arith in rw e

pub length-columns_between : (cards bounds : List ℕ) (n : ℕ) → length (columns_between cards (bounds ++ n ∷ [])) ≡ length bounds
length-columns_between cards [] n = refl
length-columns_between cards (first ∷ bounds) n = omega (arith, length-columns_from first cards (bounds ++ n ∷ []), length-append bounds (n ∷ []))

-- ---- a column is begun

from-begun : (start : ℕ) (cards bounds : List ℕ) (n : ℕ)
    → columns_from start cards ((bounds ++ n ∷ []) ++ n ∷ []) ≡ columns_from start cards (bounds ++ n ∷ []) ++ [] ∷ []
from-begun start cards [] n = rw (nothing_between cards n)
from-begun start cards (next ∷ bounds) n = rw (from-begun next cards bounds n)

pub columns_between-begun : (cards bounds : List ℕ) (n : ℕ)
    → columns_between cards ((bounds ++ n ∷ []) ++ n ∷ []) ≡ columns_between cards (bounds ++ n ∷ []) ++ [] ∷ []
columns_between-begun cards [] n = rw (nothing_between cards n)
columns_between-begun cards (first ∷ bounds) n = from-begun first cards bounds n

AscendTo-begun : (start : ℕ) (bounds : List ℕ) (n most : ℕ) → AscendTo start (bounds ++ n ∷ []) most
    → AscendTo start ((bounds ++ n ∷ []) ++ n ∷ []) most
AscendTo-begun start [] n most up = (up.0, (omega arith, up.1))
AscendTo-begun start (next ∷ bounds) n most up = (up.0, AscendTo-begun next bounds n most up.1)

pub AreBounds-begun : (bounds : List ℕ) (n most : ℕ) → AreBounds (bounds ++ n ∷ []) most → AreBounds ((bounds ++ n ∷ []) ++ n ∷ []) most
AreBounds-begun [] n most are = (are.0, (omega arith, are.1))
AreBounds-begun (first ∷ bounds) n most are = (are.0, AscendTo-begun first bounds n most are.1)

-- ---- a card more in the last column

up_to_end : (start : ℕ) (bounds : List ℕ) (n most : ℕ) → AscendTo start (bounds ++ n ∷ []) most → start ≤ n
up_to_end start [] n most up = up.0
up_to_end start (next ∷ bounds) n most up = omega (arith, up.0, up_to_end next bounds n most up.1)

earlier_range : (cards : List ℕ) (from to n card : ℕ) → from ≤ to → to ≤ n → slice_range (set cards n card) from to ≡ slice_range cards from to
earlier_range cards from to n card up within =
    ap (λ place. take (to - from) (drop from (set cards place card))) (let e : n ≡ from + (n - from) = omega arith in e)
    ∙ ap (take (to - from)) (drop-set-add from cards (n - from) card)
    ∙ take-set-le (to - from) (drop from cards) (n - from) card (omega arith)

later_columns : (column : List ℕ) (start : ℕ) (cards bounds : List ℕ) (n card : ℕ)
    → add_to_last (column ∷ columns_from start cards (bounds ++ n ∷ [])) card ≡ column ∷ add_to_last (columns_from start cards (bounds ++ n ∷ [])) card
later_columns column start cards [] n card = refl
later_columns column start cards (next ∷ bounds) n card = refl

pub columns_from-card : (start : ℕ) (cards bounds : List ℕ) (n card most : ℕ) → AscendTo start (bounds ++ n ∷ []) most → n < length cards
    → columns_from start (set cards n card) (bounds ++ (n + 1) ∷ []) ≡ add_to_last (columns_from start cards (bounds ++ n ∷ [])) card
columns_from-card start cards [] n card most up inside = rw (longer_range cards start n card up.0 inside)
columns_from-card start cards (next ∷ bounds) n card most up inside = rw (
  later_columns (slice_range cards start next) next cards bounds n card,
  earlier_range cards start next n card up.0 (up_to_end next bounds n most up.1),
  columns_from-card next cards bounds n card most up.1 inside,
)

AscendTo-card : (start : ℕ) (bounds : List ℕ) (n most : ℕ) → n + 1 ≤ most → AscendTo start (bounds ++ n ∷ []) most
    → AscendTo start (bounds ++ (n + 1) ∷ []) most
AscendTo-card start [] n most room up = (omega (arith, up.0), room)
AscendTo-card start (next ∷ bounds) n most room up = (up.0, AscendTo-card next bounds n most room up.1)

pub AreBounds-card : (first : ℕ) (bounds : List ℕ) (n most : ℕ) → n + 1 ≤ most → AreBounds ((first ∷ bounds) ++ n ∷ []) most
    → AreBounds ((first ∷ bounds) ++ (n + 1) ∷ []) most
AreBounds-card first bounds n most room are = (are.0, AscendTo-card first bounds n most room are.1)

-- ---- the columns that are not begun end where the last one does

none_begun : (cards : List ℕ) (n k : ℕ) → columns_from n cards (replicate k n) ≡ replicate k []
none_begun cards n zero = refl
none_begun cards n (suc k) = λ i. nothing_between cards n i ∷ none_begun cards n k i

from-filled : (start : ℕ) (cards bounds : List ℕ) (n k : ℕ)
    → columns_from start cards (bounds ++ n ∷ replicate k n) ≡ columns_from start cards (bounds ++ n ∷ []) ++ replicate k []
from-filled start cards [] n k = rw (none_begun cards n k)
from-filled start cards (next ∷ bounds) n k = rw (from-filled next cards bounds n k)

pub columns_between-filled : (cards bounds : List ℕ) (n k : ℕ)
    → columns_between cards (bounds ++ n ∷ replicate k n) ≡ columns_between cards (bounds ++ n ∷ []) ++ replicate k []
columns_between-filled cards [] n k = none_begun cards n k
columns_between-filled cards (first ∷ bounds) n k = from-filled first cards bounds n k

all_at_end : (n k most : ℕ) → n ≤ most → AscendTo n (replicate k n) most
all_at_end n zero most few = few
all_at_end n (suc k) most few = (omega arith, all_at_end n k most few)

AscendTo-filled : (start : ℕ) (bounds : List ℕ) (n k most : ℕ) → AscendTo start (bounds ++ n ∷ []) most
    → AscendTo start (bounds ++ n ∷ replicate k n) most
AscendTo-filled start [] n k most up = (up.0, all_at_end n k most up.1)
AscendTo-filled start (next ∷ bounds) n k most up = (up.0, AscendTo-filled next bounds n k most up.1)

pub AreBounds-filled : (bounds : List ℕ) (n k most : ℕ) → AreBounds (bounds ++ n ∷ []) most → AreBounds (bounds ++ n ∷ replicate k n) most
AreBounds-filled [] n k most are = (are.0, all_at_end n k most are.1)
AreBounds-filled (first ∷ bounds) n k most are = (are.0, AscendTo-filled first bounds n k most are.1)

-- bounds begin with 0, and the others are the ends
pub columns_by_ends : (cards bounds : List ℕ) (most : ℕ) → AreBounds bounds most → columns_from 0 cards (drop 1 bounds) ≡ columns_between cards bounds
columns_by_ends cards [] most are = absurd are
columns_by_ends cards (first ∷ bounds) most are = rw are.0

pub ends_ascend : (bounds : List ℕ) (most : ℕ) → AreBounds bounds most → AscendTo 0 (drop 1 bounds) most
ends_ascend [] most are = absurd are
ends_ascend (first ∷ bounds) most are = rw are.0 at are.1

-- ---- the end of a text: the fields of a reader lie as the board that is known
all_empty : {X Y : Type 0} (f : X → Y) (empty : Y) (xs : List X) (count : ℕ) → count ≤ length xs → All (λ x. f x ≡ empty) xs
    → map f (take count xs) ≡ replicate count empty
all_empty f empty xs zero fit are = refl
all_empty f empty [] (suc count) fit are = absurd (omega arith)
all_empty f empty (x ∷ xs) (suc count) fit are =
    rw (All-head (λ x. f x ≡ empty) x xs are, all_empty f empty xs count (omega arith) (All-tail (λ x. f x ≡ empty) x xs are))

padded_array : {X Y : Type 0} (f : X → Y) (empty : Y) (xs : List X) (used count : ℕ) → used ≤ count → count ≤ length xs
    → All (λ x. f x ≡ empty) (drop used xs)
    → map f (take count xs) ≡ padded_with count empty (map f (take used xs))
padded_array f empty xs zero count fit long are = all_empty f empty xs count long are ∙ ap (λ n. replicate n empty) (omega arith)
padded_array f empty xs (suc used) zero fit long are = absurd (omega arith)
padded_array f empty [] (suc used) (suc count) fit long are = absurd (omega arith)
padded_array f empty (x ∷ xs) (suc used) (suc count) fit long are =
    ap (λ ys. f x ∷ ys) (padded_array f empty xs used count (omega arith) (omega arith) are)
    ∙ ap (λ n. f x ∷ (map f (take used xs) ++ replicate n empty)) (omega arith)

is_none : (o : Option ℕ) → IsNone o → o ≡ None
is_none None h = refl
is_none (Some x) h = absurd (cc)

-- ---- where the columns end

-- the bounds of those that were begun, and the others where the last one ends
abbrev all_bounds : List ℕ → ℕ → ℕ → List ℕ
all_bounds bounds lines count = take lines bounds ++ replicate (9 - lines) count

one_more : (bounds : List ℕ) (lines count : ℕ) → lines ≤ 8 → all_bounds bounds lines count ≡ take lines bounds ++ count ∷ replicate (8 - lines) count
one_more bounds lines count fit = let e : 9 - lines ≡ suc (8 - lines) = omega arith in rw e

all_are_bounds : (bounds : List ℕ) (lines count : ℕ) → lines ≤ 8 → AreBounds (bounds_known bounds lines count) 52
    → AreBounds (all_bounds bounds lines count) 52
all_are_bounds bounds lines count fit are =
    rw (one_more bounds lines count fit) (AreBounds-filled (take lines bounds) count (8 - lines) 52 are)

-- ---- the parts

cells_lie : (count : ℕ) (cells : List (Option ℕ)) (words : ℕ) → words ≤ count → count ≤ length cells → All IsNone (drop words cells)
    → take count cells ≡ padded_with count None (take words cells)
cells_lie count cells words fit long are =
    sym (map-id (take count cells))
    ∙ padded_array (λ cell. cell) None cells words count fit long (λ k d h. is_none (get_or (drop words cells) k d) (are k d h))
    ∙ ap (padded_with count None) (map-id (take words cells))

columns_lie : (cards : List ℕ) (count : ℕ) (bounds : List ℕ) (lines : ℕ) → length bounds ≡ 9 → lines ≤ 8
    → AreBounds (bounds_known bounds lines count) 52
    → columns_from 0 cards (ends_known bounds lines count) ≡ padded_with 8 [] (columns_between cards (bounds_known bounds lines count))
columns_lie cards count bounds lines nine fit are = rw (
  columns_by_ends cards (all_bounds bounds lines count) 52 (all_are_bounds bounds lines count fit are),
  one_more bounds lines count fit,
  columns_between-filled cards (take lines bounds) count (8 - lines),
  length-columns_between cards (take lines bounds) count,
  length-take-le lines bounds (omega arith),
)

-- ---- the whole board

module _ {cell_count : ℕ} (kept : Kept) (is : IsKept cell_count kept) where
  pub lies_as_known : (game : Game) → game.cells ≡ cell_count → cell_count ≤ 8 → (high : List ℕ) → high ≡ map known_height kept.heights
      → board_of_laid cell_count high kept.cells (columns_from 0 kept.cards (ends_known kept.bounds kept.column_lines kept.card_count)) ≡ board_known game (known_of kept)
  lies_as_known game are few high same = rw (
    same,
    are,
    cells_lie cell_count kept.cells kept.cell_words is.cell_words_fit (omega (arith, is.eight_cells, few)) is.other_cells_empty,
    columns_lie kept.cards kept.card_count kept.bounds kept.column_lines is.nine_bounds is.column_lines_fit is.are_bounds,
  )

  -- the ends ascend
  pub ends_up : AscendTo 0 (ends_known kept.bounds kept.column_lines kept.card_count) 52
  ends_up =
      let are = all_are_bounds kept.bounds kept.column_lines kept.card_count is.column_lines_fit is.are_bounds in
      ends_ascend (all_bounds kept.bounds kept.column_lines kept.card_count) 52 are

  -- the cells past the game's are empty
  pub past_cells : All IsNone (drop cell_count kept.cells)
  past_cells =
      let left = cell_count - kept.cell_words in
      let whole : kept.cell_words + left ≡ cell_count = omega (arith, is.cell_words_fit) in
      subst (λ n. All IsNone (drop n kept.cells)) whole
      (rw (← drop-drop left kept.cell_words kept.cells) (All-drop IsNone left (drop kept.cell_words kept.cells) is.other_cells_empty))
