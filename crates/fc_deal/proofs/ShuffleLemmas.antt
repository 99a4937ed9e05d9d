-- While a deck is dealt in place, the cards that are left lie in front, and the dealt ones after them, the first one last.
use Rattle.std.proofs.Common.{◌++◌, ◌+◌, ◌-◌, ◌<◌, ◌∙◌, ◌∷◌, ◌≡◌, ◌≤◌, [], ap, arith, drop, get_or, length, length-set}
use Rattle.std.proofs.Common.{length-take, List, reverse, set, subst, suc, sym, take, zero, ℕ}
use Rattle.std.proofs.lemmas.{Grind.{reverse_onto}, List.{append_assoc, drop-set, drop-set-lt, drop_all}}
use Rattle.std.proofs.lemmas.List.Edits.{length-swap, swap_is}
use Rattle.std.proofs.lemmas.List.{ext_get_or, get_or-take, get_or_default, take-set, take-take, take_all}
use Rattle.std.{proofs.Math.Seq.{take-set-lt}, specs.List.{swap, swap_remove}}
use Rattle.fc_card.specs.laws.OrderLaws.{slice_index-places}
use Rattle.fc_deal.specs.{deal, dealt, deck, next_state, place_drawn}

-- so many of the cards are left of this seed's deal, and the generator is in this state
pub record IsPartDealt (seed left state : ℕ) (cards : List ℕ) : Type 0 where
  pub whole : length cards ≡ 52
  pub dealt_last : deal seed ≡ reverse (drop left cards) ++ dealt left state (take left cards)

dealt_from : (left state : ℕ) (cards : List ℕ) → length cards ≡ left → dealt left state cards ≡ reverse (drop left cards) ++ dealt left state (take left cards)
dealt_from left state cards e =
    sym (ap (λ rest. reverse rest ++ dealt left state (take left cards)) (drop_all left cards (omega arith)) ∙ ap (dealt left state) (take_all left cards (omega arith)))

pub IsPartDealt-new : (seed state : ℕ) (cards : List ℕ) → cards ≡ deck → state ≡ seed → IsPartDealt seed 52 state cards
unfolding deal
IsPartDealt-new seed state cards e f =
    let whole : length cards ≡ 52 = ap length e in
    record { whole = whole; dealt_last = sym (ap (λ start. dealt 52 start cards) f ∙ ap (dealt 52 seed) e) ∙ dealt_from 52 state cards whole }

-- the swap takes the card out of those that are left
front_after : (place left card : ℕ) (cards : List ℕ) → place < suc left → left < length cards →
    swap_remove (take (suc left) cards) place card ≡ take left (swap cards place left)
front_after place left card cards near within =
    let front = take (suc left) cards in
    let last = get_or cards left 0 in
    let size : length front - 1 ≡ left = omega (arith, length-take (suc left) cards) in
    let same_last : get_or front left card ≡ last = get_or-take (suc left) cards left card (omega arith) ∙ get_or_default cards left card 0 within in
    ap (λ k. take k (set front place (get_or front k card))) size
    ∙ ap (λ moved. take left (set front place moved)) same_last
    ∙ ap (take left) (sym (take-set-lt (suc left) cards place last near))
    ∙ take-take left (suc left) (set cards place last) (omega arith)
    ∙ sym (take-set (set cards place last) left (get_or cards place 0))
    ∙ ap (take left) (swap_is cards place left 0 (omega arith) within)

-- and puts it before those that were dealt
last_dealt : (place left : ℕ) (cards : List ℕ) → place < suc left → left < length cards →
    drop left (swap cards place left) ≡ get_or cards place 0 ∷ drop (suc left) cards
last_dealt place left cards near within =
    let last = get_or cards left 0 in
    let next : left + 1 ≡ suc left = omega arith in
    ap (drop left) (sym (swap_is cards place left 0 (omega arith) within))
    ∙ drop-set (set cards place last) left (get_or cards place 0) (omega (arith, length-set cards place last))
    ∙ ap (λ k. get_or cards place 0 ∷ drop k (set cards place last)) next
    ∙ ap (λ rest. get_or cards place 0 ∷ rest) (drop-set-lt (suc left) cards place last near)

reverse_then : (card : ℕ) (cards rest : List ℕ) → reverse (card ∷ cards) ++ rest ≡ reverse cards ++ card ∷ rest
reverse_then card cards rest = ap (λ front. front ++ rest) (reverse_onto cards card []) ∙ append_assoc (reverse cards) (card ∷ []) rest

one_dealt : (left state : ℕ) (cards : List ℕ) → left < length cards →
    let next = next_state state in
    let place = place_drawn next (suc left) in
    reverse (drop (suc left) cards) ++ dealt (suc left) state (take (suc left) cards)
    ≡ reverse (drop left (swap cards place left)) ++ dealt left next (take left (swap cards place left))
one_dealt left state cards within =
    let next = next_state state in
    let place = place_drawn next (suc left) in
    let near : place < suc left = omega arith in
    let front = take (suc left) cards in
    let card = get_or cards place 0 in
    let swapped = swap cards place left in
    ap (λ c. reverse (drop (suc left) cards) ++ c ∷ dealt left next (swap_remove front place c)) (get_or-take (suc left) cards place 0 near)
    ∙ ap (λ rest. reverse (drop (suc left) cards) ++ card ∷ dealt left next rest) (front_after place left card cards near within)
    ∙ sym (reverse_then card (drop (suc left) cards) (dealt left next (take left swapped)))
    ∙ ap (λ follows. reverse follows ++ dealt left next (take left swapped)) (sym (last_dealt place left cards near within))

swapped_once : (seed left state : ℕ) (cards : List ℕ) → left < 52 → IsPartDealt seed (suc left) state cards →
    IsPartDealt seed left (next_state state) (swap cards (place_drawn (next_state state) (suc left)) left)
swapped_once seed left state cards few part = record {
  whole = length-swap cards (place_drawn (next_state state) (suc left)) left ∙ part.whole;
  dealt_last = part.dealt_last ∙ one_dealt left state cards (omega (arith, part.whole));
}

pub IsPartDealt-swap : (seed left last state next place : ℕ) (cards after : List ℕ) → 0 < left → left ≤ 52 → IsPartDealt seed left state cards →
    last ≡ left - 1 → next ≡ next_state state → place ≡ place_drawn next (last + 1) → after ≡ swap cards place last → IsPartDealt seed last next after
IsPartDealt-swap seed zero last state next place cards after some few part at e f g = absurd (omega arith)
IsPartDealt-swap seed (suc left) last state next place cards after some few part at e f g =
    let here : left ≡ last = omega arith in
    let more : suc left ≡ last + 1 = omega arith in
    let drawn_here : place_drawn (next_state state) (suc left) ≡ place = ap (λ n. place_drawn (next_state state) n) more ∙ ap (λ n. place_drawn n (last + 1)) (sym e) ∙ sym f in
    let swapped_here : swap cards (place_drawn (next_state state) (suc left)) left ≡ after = ap (λ p. swap cards p left) drawn_here ∙ ap (swap cards place) here ∙ sym g in
    subst (λ n. IsPartDealt seed n next after) here
    (subst (λ n. IsPartDealt seed left n after) (sym e)
    (subst (IsPartDealt seed left (next_state state)) swapped_here (swapped_once seed left state cards (omega arith) part)))

pub is_deck : (cards : List ℕ) (number : ℕ) → length cards ≡ 52 → 52 ≤ number → ((place : ℕ) → place < number → get_or cards place 0 ≡ place) → cards ≡ deck
is_deck cards number whole all each =
    ext_get_or 0 cards deck whole (λ place h. each place (omega arith) ∙ sym (slice_index-places 52 place (omega arith)))
