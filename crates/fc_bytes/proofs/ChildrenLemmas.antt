-- Moves that a board allows, found one by one, and the canonical boards after them.
use Rattle.std.proofs.Common.{◌++◌, ◌+◌, ◌<◌, ◌∙◌, ◌∷◌, ◌≡◌, ◌≤◌, [], ap, ap₂, arith, Bool, cond, drop, false, get_or}
use Rattle.std.proofs.Common.{inl, inr, length, List, map, None, Option, refl, set, Some, subst, suc, sym, take, true}
use Rattle.std.proofs.{Common.{zero, ℕ}, lemmas.{Bool.{cases_lt}, Grind.{flat_map-append, take-set_at}}}
use Rattle.std.proofs.lemmas.List.{append-nil, append_assoc, drop-drop, drop-set-lt, Elements.{filter-append}}
use Rattle.std.proofs.lemmas.List.{FromFn.{map-range_with_len_more}, get_or-set_other, get_or-set_same, get_or-take}
use Rattle.std.proofs.{lemmas.List.{length-set, length-take-le, map-append}, Math.Seq.{take-suc}}
use Rattle.std.specs.{List.{filter, flat_map}, Option.{is_none}}
use Rattle.fc_card.{proofs.OrderLemmas.{places-more}, specs.{places}}
use Rattle.fc_board.specs.{Boards.{Board}, Games.{Game}, Moves.{move_between}}
use Rattle.fc_board.specs.Steps.{card_at, found_refusal, is_same_pile, refusal}
use Rattle.fc_board.specs.declared.{fault.StepFault.TheVariants.{EmptySource, SamePile}, moves.Move.{Move}}
use Rattle.fc_board.specs.declared.moves.{Place.{Place}, Source.{Source}}
use Rattle.fc_bytes.specs.{AreKeysAfter, IsKeyAfter, legal_moves_from, source_numbered, target_numbered}
use Rattle.fc_bytes.specs.declared.board.BoardBytes.{BoardBytes}

-- one place more is tried
pub tried_more : {X : Type 0} (p : X → Bool) (f : ℕ → X) (count : ℕ) →
    filter p (map f (places (count + 1))) ≡ filter p (map f (places count)) ++ cond (p (f count)) (f count ∷ []) []
tried_more p f count = ap (filter p) (map-range_with_len_more f 0 count count (omega arith)) ∙ filter-append p (map f (places count)) (f count ∷ [])

pub passed_more : {X : Type 0} (p : X → Bool) (f : ℕ → X) (count : ℕ) → p (f count) ≡ false →
    filter p (map f (places (count + 1))) ≡ filter p (map f (places count))
passed_more p f count fails =
    tried_more p f count ∙ ap (λ test. filter p (map f (places count)) ++ cond test (f count ∷ []) []) fails ∙ append-nil (filter p (map f (places count)))

-- the bytes of a move, if it is allowed
pub bytes_if : {X Y : Type 0} (bytes : X → Y) (one : X) (test : Bool) → map bytes (cond test (one ∷ []) []) ≡ cond test (bytes one ∷ []) []
bytes_if bytes one true = refl
bytes_if bytes one false = refl

-- one move more is pushed, if it is allowed
pub pushed_more : {X Y : Type 0} (p : X → Bool) (f : ℕ → X) (bytes : X → Y) (old items more : List Y) (count : ℕ) →
    items ≡ old ++ map bytes (filter p (map f (places count))) → more ≡ items ++ cond (p (f count)) (bytes (f count) ∷ []) [] →
    more ≡ old ++ map bytes (filter p (map f (places (count + 1))))
pushed_more p f bytes old items more count is pushed =
    let before = filter p (map f (places count)) in
    let next = cond (p (f count)) (f count ∷ []) [] in
    pushed ∙ ap (λ items. items ++ cond (p (f count)) (bytes (f count) ∷ []) []) is
    ∙ append_assoc old (map bytes before) (cond (p (f count)) (bytes (f count) ∷ []) [])
    ∙ ap (λ back. old ++ back) (sym (ap (map bytes) (tried_more p f count) ∙ map-append bytes before next ∙ ap (λ back. map bytes before ++ back) (bytes_if bytes (f count) (p (f count)))))

-- no later one passes
pub rest_fails : {X : Type 0} (p : X → Bool) (f : ℕ → X) (count more : ℕ) →
    ((k : ℕ) → count ≤ k → k < count + more → p (f k) ≡ false) → filter p (map f (places (count + more))) ≡ filter p (map f (places count))
rest_fails p f count zero fails = let same : count + 0 ≡ count = omega arith in ap (λ n. filter p (map f (places n))) same
rest_fails p f count (suc more) fails =
    let next : count + suc more ≡ count + more + 1 = omega arith in
    ap (λ n. filter p (map f (places n))) next
    ∙ passed_more p f (count + more) (fails (count + more) (omega arith) (omega arith))
    ∙ rest_fails p f count more (λ k from below. fails k from (omega (arith, below)))

-- one source more
pub source_more : {X : Type 0} (f : ℕ → List X) (count : ℕ) → flat_map f (places (count + 1)) ≡ flat_map f (places count) ++ f count
source_more f count =
    ap (flat_map f) (places-more count) ∙ flat_map-append f (places count) (count ∷ []) ∙ ap (λ back. flat_map f (places count) ++ back) (append-nil (f count))

-- the moves from one source more are pushed
pub source_pushed : {X Y : Type 0} (bytes : X → Y) (f : ℕ → List X) (items more : List Y) (count : ℕ) →
    items ≡ map bytes (flat_map f (places count)) → more ≡ items ++ map bytes (f count) →
    more ≡ map bytes (flat_map f (places (count + 1)))
source_pushed bytes f items more count is pushed =
    pushed ∙ ap (λ front. front ++ map bytes (f count)) is
    ∙ sym (ap (map bytes) (source_more f count) ∙ map-append bytes (flat_map f (places count)) (f count))

pub none_of : {X : Type 0} (found : Option X) → is_none found ≡ true → found ≡ None
none_of None says = refl
none_of (Some value) says = cc

-- one canonical board more
pub keys_more : (game : Game) (renamings : List (List ℕ)) (board : Board) (moves : List Move) (old now : List BoardBytes) (at : ℕ) (key : BoardBytes) →
    AreKeysAfter game renamings board (take at moves) old now → at < length moves → length moves ≤ length old →
    ((default : Move) → IsKeyAfter game renamings board (get_or moves at default) key) → AreKeysAfter game renamings board (take (at + 1) moves) old (set now at key)
keys_more game renamings board moves old now at key (long, left, keys) inside room has =
    let before : length (take at moves) ≡ at = length-take-le at moves (omega (arith, inside)) in
    let after : length (take (at + 1) moves) ≡ at + 1 = length-take-le (at + 1) moves (omega (arith, inside)) in
    let rest : drop at now ≡ drop at old = ap (λ n. drop n now) (sym before) ∙ left ∙ ap (λ n. drop n old) before in (
      length-set now at key ∙ long,
      ap (λ n. drop n (set now at key)) after ∙ drop-set-lt (at + 1) now at key (omega arith)
          ∙ sym (drop-drop 1 at now) ∙ ap (drop 1) rest ∙ drop-drop 1 at old ∙ ap (λ n. drop n old) (sym after),
      λ k move default below. elim (cases_lt k at) [
        | inl earlier ↦
            subst (λ move. IsKeyAfter game renamings board move (get_or (set now at key) k default))
            (get_or-take at moves k move earlier ∙ sym (get_or-take (at + 1) moves k move (omega (arith, earlier))))
            (subst (IsKeyAfter game renamings board (get_or (take at moves) k move)) (sym (get_or-set_other now at k key default (λ same. omega (arith, same))))
            (keys k move default (omega (arith, earlier, before))))
        | inr past ↦
            let same : at ≡ k = omega (arith, below, after, past) in
            subst (λ k. IsKeyAfter game renamings board (get_or (take (at + 1) moves) k move) (get_or (set now at key) k default)) same
            (subst (λ move. IsKeyAfter game renamings board move (get_or (set now at key) at default)) (sym (get_or-take (at + 1) moves at move (omega arith)))
            (subst (IsKeyAfter game renamings board (get_or moves at move)) (sym (get_or-set_same now at key default (omega (arith, long, inside, room)))) (has move)))
      ],
    )

-- one item more is written
pub written_more : {X Y : Type 0} (f : X → Y) (all : List X) (now : List Y) (at : ℕ) (default : X) (item : Y) →
    take at now ≡ map f (take at all) → at < length all → at < length now → item ≡ f (get_or all at default) →
    take (at + 1) (set now at item) ≡ map f (take (at + 1) all)
written_more {Y = Y} f all now at default item written inside room is =
    let next : suc at ≡ at + 1 = omega arith in
    take-set_at now at (at + 1) item refl room ∙ ap₂ (λ (front : List Y) (last : Y). front ++ last ∷ []) written is
    ∙ sym (map-append f (take at all) (get_or all at default ∷ []))
    ∙ ap (map f) (sym (take-suc all at default inside) ∙ ap (λ n. take n all) next)

-- a pile without a card allows no move
pub none_pass : {X : Type 0} (p : X → Bool) (f : ℕ → X) → ((k : ℕ) → p (f k) ≡ false) → (list : List ℕ) → filter p (map f list) ≡ []
none_pass p f fails [] = refl
none_pass p f fails (k ∷ list) =
    ap (λ test. cond test (f k ∷ filter p (map f list)) (filter p (map f list))) (fails k) ∙ none_pass p f fails list

refused_there : (game : Game) (board : Board) (from : Source) (place : Place) → card_at board from ≡ None →
    is_none (refusal game board (move_between from place)) ≡ false
refused_there game board from place none =
    ap (λ found. is_none (cond (is_same_pile from place) (Some SamePile) (found_refusal game board found place))) none ∙ either (is_same_pile from place)
  where
    either : (test : Bool) → is_none (cond test (Some SamePile) (Some EmptySource)) ≡ false
    either true = refl
    either false = refl

pub nothing_listed : (game : Game) (board : Board) (from : ℕ) → card_at board (source_numbered from) ≡ None → legal_moves_from game board from ≡ []
nothing_listed game board from none =
    none_pass (λ move. is_none (refusal game board move)) (λ to. move_between (source_numbered from) (target_numbered game to))
    (λ to. refused_there game board (source_numbered from) (target_numbered game to) none) (places (9 + game.cells))
