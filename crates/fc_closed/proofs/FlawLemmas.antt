-- What is wrong with a list of keys is one thing, at one place.
use Rattle.std.proofs.Common.{◌<◌, ◌∙◌, ◌≡◌, ◌≤◌, ◌⊎◌, [], ap, arith, get_or, inl, inr, length, List, refl, subst, sym}
use Rattle.std.proofs.{Common.{ℕ}, lemmas.{Bool.{cases_lt}, Option.{get_or_from_slice_get, slice_get_within}}}
use Rattle.std.specs.List.{Contains}
use Rattle.fc_board.specs.{Boards.{Board}, declared.moves.Move.{Move}, Games.{Game}, Play.{IsWon}}
use Rattle.fc_canon.specs.{IsFirst}
use Rattle.fc_bytes.{proofs.DecodedLemmas.{one_board}, specs.{HasKey, HoldsBoard, legal_moves, move_bytes}}
use Rattle.fc_bytes.specs.declared.{board.BoardBytes.{BoardBytes}, moves.MoveBytes.{MoveBytes}}
use Rattle.fc_closed.{proofs.{KeysLemmas.{one_key}, OutLemmas.{in_not_out}}, specs.{AreKeys, AreKeysTo, AreShutTo}}
use Rattle.fc_closed.specs.{IsAbove, IsDoubted, IsFirstFlaw, IsFlawInPlay, IsShut, LeadsOut, ShowUnsolvable, StaysIn}
use Rattle.fc_closed.specs.declared.check.{Doubt.{Doubt}, Flaw.{Flaw}}
use Rattle.fc_closed.specs.declared.check.Flaw.TheVariants.{NoBoard, NotAbove, NotCanonical, Open, Won}
use Rattle.fc_closed.specs.declared.check.Doubt.TheVariants as doubt

blank : BoardBytes
blank = record { heights = []; cells = []; lengths = []; cards = [] }

module _ (game : Game) (renamings : List (List ℕ)) (few : game.cells ≤ 8) (keys : List BoardBytes) where
  at : ℕ → BoardBytes
  at place = get_or keys place blank

  -- a flaw is of a key alone and beside the one before it, or in play
  abbrev IsOfKey : ℕ → Type 0
  IsOfKey place =
      (place < length keys) × AreKeysTo game renamings keys place × ((HasKey game renamings (get_or keys place blank) (get_or keys place blank)) → IsAbove keys place → ⊥)

  abbrev IsOfPlay : ℕ → Flaw → Type 0
  IsOfPlay place flaw =
      (place < length keys) × AreKeys game renamings keys × AreShutTo game renamings keys place × IsFlawInPlay game renamings keys (get_or keys place blank) flaw

  held : (key : BoardBytes) → HasKey game renamings key key → (board : Board) × HoldsBoard game key board
  held key (board, way, holds, chosen, keyed) = (board, holds)

  no_board : (place : ℕ) → IsFirstFlaw game renamings keys place NoBoard → IsOfKey place
  no_board place (before, (within, so)) =
      (within, before, λ own above. let (board, holds) = held (get_or keys place blank) own in so blank board holds)

  not_canonical : (place : ℕ) → IsFirstFlaw game renamings keys place NotCanonical → IsOfKey place
  not_canonical place (before, (within, so)) = (within, before, λ own above. (so blank).1 own)

  not_above : (place : ℕ) → IsFirstFlaw game renamings keys place NotAbove → IsOfKey place
  not_above place (before, (within, so), apart) = (within, before, λ own above. apart above)

  in_won : (place : ℕ) → IsFirstFlaw game renamings keys place Won → IsOfPlay place Won
  in_won place (all, shut, (within, so)) = (within, all, shut, so blank)

  in_open : (place : ℕ) (move : MoveBytes) → IsFirstFlaw game renamings keys place (Open move) →
      IsOfPlay place (Open move)
  in_open place move (all, shut, (within, so)) = (within, all, shut, so blank)

  kinds : (place : ℕ) (flaw : Flaw) → IsFirstFlaw game renamings keys place flaw → IsOfKey place ⊎ IsOfPlay place flaw
  kinds place NoBoard flawed = inl (no_board place flawed)
  kinds place NotCanonical flawed = inl (not_canonical place flawed)
  kinds place NotAbove flawed = inl (not_above place flawed)
  kinds place Won flawed = inr (in_won place flawed)
  kinds place (Open move) flawed = inr (in_open place move flawed)

  key_later : (place other : ℕ) → IsOfKey place → IsOfKey other → ¬ (place < other)
  key_later place other (within, before, not_key) (within', before', not_key') earlier =
      let (own, above) = before' place blank earlier in not_key own above

  not_shut : (key : BoardBytes) (flaw : Flaw) → IsFlawInPlay game renamings keys key flaw →
      ¬ IsShut game renamings keys key
  not_shut key NoBoard so shut = so
  not_shut key NotCanonical so shut = so
  not_shut key NotAbove so shut = so
  not_shut key Won (board, holds, won) (other, holds', lost, led) =
      lost (subst IsWon (one_board game key board other few holds holds') won)
  not_shut key (Open move) (board, first, holds, lost', is, (k, there, out, none)) (other, holds', lost, led) =
      let same : other ≡ board = one_board game key other board few holds' holds in
      let stays : StaysIn game renamings keys board first =
      subst (λ board. (move : Move) → Contains (legal_moves game board) move → StaysIn game renamings keys board move) same led first (k, slice_get_within (legal_moves game board) k first there, get_or_from_slice_get (legal_moves game board) k first first there) in
      in_not_out game renamings keys board holds.0 (legal_moves game board) first stays out

  play_later : (place other : ℕ) (flaw next : Flaw) → IsOfPlay place flaw → IsOfPlay other next → ¬ (place < other)
  play_later place other flaw next (within, all, shut, so) (within', all', shut', so') earlier =
      not_shut (get_or keys place blank) flaw so (shut' place blank earlier)

  not_both : (place other : ℕ) (flaw : Flaw) → IsOfKey place → IsOfPlay other flaw → ⊥
  not_both place other flaw (within, before, not_key) (within', all, shut, so) =
      let (own, above) = all place blank within in not_key own above

  same_place : (place other : ℕ) → ¬ (place < other) → ¬ (other < place) → place ≡ other
  same_place place other not_less not_more = elim (cases_lt place other) [
    | inl less ↦ absurd (not_less less)
    | inr past ↦ elim (cases_lt other place) [
      | inl more ↦ absurd (not_more more)
      | inr same ↦ omega (arith, past, same)
    ]
  ]

  pub one_place : (place other : ℕ) (flaw next : Flaw) → IsFirstFlaw game renamings keys place flaw →
      IsFirstFlaw game renamings keys other next → place ≡ other
  one_place place other flaw next one two = elim (kinds place flaw one) [
    | inl key ↦ elim (kinds other next two) [
      | inl key' ↦ same_place place other (key_later place other key key') (key_later other place key' key)
      | inr play' ↦ absurd (not_both place other next key play')
    ]
    | inr play ↦ elim (kinds other next two) [
      | inl key' ↦ absurd (not_both other place flaw key' play)
      | inr play' ↦ same_place place other (play_later place other flaw next play play') (play_later other place next flaw play' play)
    ]
  ]

  -- the first move that leads out is one
  one_first : (board : Board) (moves : List Move) (first next : Move) →
      IsFirst (LeadsOut game renamings keys board) moves first →
      IsFirst (LeadsOut game renamings keys board) moves next → first ≡ next
  one_first board moves first next (k, there, out, none) (j, there', out', none') = elim (cases_lt k j) [
    | inl earlier ↦ absurd (none' k first earlier there out)
    | inr past ↦ elim (cases_lt j k) [
      | inl later ↦ absurd (none j next later there' out')
      | inr same ↦
          let here : k ≡ j = omega (arith, past, same) in
          sym (get_or_from_slice_get moves k first next there) ∙ ap (λ k. get_or moves k next) here ∙ get_or_from_slice_get moves j next next there'
    ]
  ]

  play_one : (key : BoardBytes) (flaw next : Flaw) → IsFlawInPlay game renamings keys key flaw →
      IsFlawInPlay game renamings keys key next → flaw ≡ next
  play_one key NoBoard next one two = absurd one
  play_one key NotCanonical next one two = absurd one
  play_one key NotAbove next one two = absurd one
  play_one key Won NoBoard one two = absurd two
  play_one key Won NotCanonical one two = absurd two
  play_one key Won NotAbove one two = absurd two
  play_one key Won Won one two = refl
  play_one key Won (Open move) (board, holds, won) (other, first, holds', lost, is, out) =
      absurd (lost (subst IsWon (one_board game key board other few holds holds') won))
  play_one key (Open move) NoBoard one two = absurd two
  play_one key (Open move) NotCanonical one two = absurd two
  play_one key (Open move) NotAbove one two = absurd two
  play_one key (Open move) Won (board, first, holds, lost, is, out) (other, holds', won) =
      absurd (lost (subst IsWon (one_board game key other board few holds' holds) won))
  play_one key (Open move) (Open next) (board, first, holds, lost, is, out) (other, second, holds', lost', is', out') =
      let same : other ≡ board = one_board game key other board few holds' holds in
      let one = one_first board (legal_moves game board) first second out (subst (λ board. IsFirst (LeadsOut game renamings keys board) (legal_moves game board) second) same out') in
      ap (λ move. Open move) (is ∙ ap move_bytes one ∙ sym is')

  -- at one place there is one flaw
  at_place : (place : ℕ) (flaw next : Flaw) → IsFirstFlaw game renamings keys place flaw →
      IsFirstFlaw game renamings keys place next → flaw ≡ next
  at_place place NoBoard NoBoard one two = refl
  at_place place NoBoard NotCanonical (before, (within, so)) (before', (within', so')) =
      let (board, holds) = (so' blank).0 in absurd (so blank board holds)
  at_place place NoBoard NotAbove (before, (within, so)) (before', (within', so'), above) =
      let (board, holds) = held (get_or keys place blank) (so' blank) in absurd (so blank board holds)
  at_place place NotCanonical NoBoard (before', (within', so')) (before, (within, so)) =
      let (board, holds) = (so' blank).0 in absurd (so blank board holds)
  at_place place NotCanonical NotCanonical one two = refl
  at_place place NotCanonical NotAbove (before, (within, so)) (before', (within', so'), above) =
      absurd ((so blank).1 (so' blank))
  at_place place NotAbove NoBoard (before', (within', so'), above) (before, (within, so)) =
      let (board, holds) = held (get_or keys place blank) (so' blank) in absurd (so blank board holds)
  at_place place NotAbove NotCanonical (before', (within', so'), above) (before, (within, so)) =
      absurd ((so blank).1 (so' blank))
  at_place place NotAbove NotAbove one two = refl
  at_place place NoBoard Won one two = absurd (not_both place place Won (no_board place one) (in_won place two))
  at_place place NoBoard (Open move) one two =
      absurd (not_both place place (Open move) (no_board place one) (in_open place move two))
  at_place place NotCanonical Won one two =
      absurd (not_both place place Won (not_canonical place one) (in_won place two))
  at_place place NotCanonical (Open move) one two =
      absurd (not_both place place (Open move) (not_canonical place one) (in_open place move two))
  at_place place NotAbove Won one two = absurd (not_both place place Won (not_above place one) (in_won place two))
  at_place place NotAbove (Open move) one two =
      absurd (not_both place place (Open move) (not_above place one) (in_open place move two))
  at_place place Won NoBoard two one = absurd (not_both place place Won (no_board place one) (in_won place two))
  at_place place (Open move) NoBoard two one =
      absurd (not_both place place (Open move) (no_board place one) (in_open place move two))
  at_place place Won NotCanonical two one =
      absurd (not_both place place Won (not_canonical place one) (in_won place two))
  at_place place (Open move) NotCanonical two one =
      absurd (not_both place place (Open move) (not_canonical place one) (in_open place move two))
  at_place place Won NotAbove two one = absurd (not_both place place Won (not_above place one) (in_won place two))
  at_place place (Open move) NotAbove two one =
      absurd (not_both place place (Open move) (not_above place one) (in_open place move two))
  at_place place Won Won (all, shut, (within, so)) (all', shut', (within', so')) =
      play_one (get_or keys place blank) Won Won (so blank) (so' blank)
  at_place place Won (Open move) (all, shut, (within, so)) (all', shut', (within', so')) =
      play_one (get_or keys place blank) Won (Open move) (so blank) (so' blank)
  at_place place (Open move) Won (all, shut, (within, so)) (all', shut', (within', so')) =
      play_one (get_or keys place blank) (Open move) Won (so blank) (so' blank)
  at_place place (Open move) (Open next) (all, shut, (within, so)) (all', shut', (within', so')) =
      play_one (get_or keys place blank) (Open move) (Open next) (so blank) (so' blank)

  pub one_flaw : (place other : ℕ) (flaw next : Flaw) → IsFirstFlaw game renamings keys place flaw →
      IsFirstFlaw game renamings keys other next → flaw ≡ next
  one_flaw place other flaw next one two =
      at_place place flaw next one (subst (λ place. IsFirstFlaw game renamings keys place next) (sym (one_place place other flaw next one two)) two)

-- ---- and one thing is lacking of what shows a board unsolvable
module _ (game : Game) (renamings : List (List ℕ)) (few : game.cells ≤ 8) (board : BoardBytes) (keys : List BoardBytes) where
  key_absent : (key other : BoardBytes) → HasKey game renamings board key → HasKey game renamings board other →
      ¬ Contains keys key → ¬ Contains keys other
  key_absent key other has has' absent inside =
      absent (subst (Contains keys) (one_key game renamings few board other key has' has) inside)

  pub not_shown : (lacking : Doubt) → IsDoubted game renamings board keys lacking →
      ¬ ShowUnsolvable game renamings board keys
  not_shown doubt.NoBoard none (key, (held, way, holds, chosen, keyed), inside, are) = none held holds
  not_shown doubt.NotClosed ((board', holds), apart) (key, has, inside, are) = apart are
  not_shown doubt.NotAmong (are, other, has', absent) (key, has, inside, are') =
      key_absent other key has' has absent inside

  pub one_doubt : (lacking other : Doubt) → IsDoubted game renamings board keys lacking →
      IsDoubted game renamings board keys other → lacking ≡ other
  one_doubt doubt.NoBoard doubt.NoBoard one two = refl
  one_doubt doubt.NoBoard doubt.NotClosed none ((held, holds), apart) = absurd (none held holds)
  one_doubt doubt.NoBoard doubt.NotAmong none (are, key, (held, way, holds, chosen, keyed), absent) =
      absurd (none held holds)
  one_doubt doubt.NotClosed doubt.NoBoard ((held, holds), apart) none = absurd (none held holds)
  one_doubt doubt.NotClosed doubt.NotClosed one two = refl
  one_doubt doubt.NotClosed doubt.NotAmong ((board', holds), apart) (are, key, has, absent) = absurd (apart are)
  one_doubt doubt.NotAmong doubt.NoBoard (are, key, (held, way, holds, chosen, keyed), absent) none =
      absurd (none held holds)
  one_doubt doubt.NotAmong doubt.NotClosed (are, key, has, absent) ((board', holds), apart) = absurd (apart are)
  one_doubt doubt.NotAmong doubt.NotAmong one two = refl
