-- Which passage leads from the first member to another.
use Rattle.std.proofs.Common.{◌++◌, ◌↔◌, ◌∙◌, ◌∷◌, ◌≡◌, ◌≢◌, [], ap, append_assoc, ap₂, Bool, cond, false, IfSome}
use Rattle.std.proofs.Common.{IsSome, List, None, Option, refl, Some, subst, sym, true, true≢false, ℕ}
use Rattle.std.proofs.lemmas.Option.{same_Some}
use Rattle.fc_board.specs.{Boards.{Board, IsWellFormed}, Games.{Game, game_of, renamings_of}}
use Rattle.fc_board.specs.Passages.{Carries, inverse_passage, Passage, passage_product}
use Rattle.fc_board.specs.declared.rule.Variant.{Variant}
use Rattle.fc_canon.{proofs.LeastTextLemmas.{chosen-between}, specs.{Chosen, chosen_passage, Equivalent, HasCanonText}}
use Rattle.fc_record.specs.{Grammar.{Contents, Heading}, Printing.{name_of}}
use Rattle.fc_collect.proofs.{GroupNameLemmas.{together-Equivalent}, KeyedLemmas.{chosen, one_variant}}
use Rattle.fc_collect.specs.{Groups.{belong_together, Member, passage_between, passage_of}, inside.{AnyCanon}}
use Rattle.fc_collect.specs.inside.{Held.{variant_of}, IsCanonOf, KeepsFirst, member_of, passage_held, text_held}
use Rattle.fc_collect.specs.Runs.{passage_found, passage_to, same_lines}

-- members of two variants
pub passage-apart : (first member : Member) → first.heading.variant ≢ member.heading.variant → passage_to first member ≡ None
passage-apart first member other = by (belong_together first member) refl
  where
    by : (b : Bool) → belong_together first member ≡ b → cond b (Some (passage_between first member)) None ≡ None
    by true e = absurd (other (sym (one_variant first member e)))
    by false e = refl

-- members of one variant: what is found where the boards are equivalent
module _ (first member : Member) (variant : Variant) (game : Game) (renamings : List (List ℕ)) (played : game ≡ game_of variant) (listed : renamings ≡ renamings_of variant)
    (own : first.heading.variant ≡ variant) (other : member.heading.variant ≡ variant) (well : IsWellFormed game first.contents.board) (well' : IsWellFormed game member.contents.board) where
  game_is : game ≡ game_of first.heading.variant
  game_is = played ∙ ap game_of (sym own)

  joined : (belong_together first member ≡ true) ↔ ((first.heading.variant ≡ member.heading.variant) × Equivalent (game_of first.heading.variant) first.contents.board member.contents.board)
  joined = together-Equivalent first member (subst (λ game. IsWellFormed game first.contents.board) game_is well)
      (subst (λ game. IsWellFormed game member.contents.board) (played ∙ ap game_of (sym other)) well')

  between_is : passage_product (chosen_passage renamings first.contents.board) (inverse_passage (chosen_passage renamings member.contents.board)) ≡ passage_between first member
  between_is = ap₂ (λ one two. passage_product (chosen_passage one first.contents.board) (inverse_passage (chosen_passage two member.contents.board)))
      (listed ∙ ap renamings_of (sym own)) (listed ∙ ap renamings_of (sym other))

  pub passage-found : (found : Option Passage) → IsSome found ↔ Equivalent game first.contents.board member.contents.board
      → IfSome found (λ passage. passage ≡ passage_product (chosen_passage renamings first.contents.board) (inverse_passage (chosen_passage renamings member.contents.board)))
      → found ≡ passage_to first member
  passage-found found equivalent between = by (belong_together first member) refl found equivalent between
    where
      by : (b : Bool) → belong_together first member ≡ b → (found : Option Passage) → IsSome found ↔ Equivalent game first.contents.board member.contents.board
          → IfSome found (λ passage. passage ≡ passage_product (chosen_passage renamings first.contents.board) (inverse_passage (chosen_passage renamings member.contents.board)))
          → found ≡ cond b (Some (passage_between first member)) None
      by true e (Some passage) equivalent between = ap (λ passage. Some passage) (between ∙ between_is)
      by true e None equivalent between =
          let some = equivalent.1 (subst (λ game. Equivalent game first.contents.board member.contents.board) (sym game_is) (joined.0 e).1) in absurd (true≢false (sym some))
      by false e (Some passage) equivalent between =
          let is = joined.1 (own ∙ sym other, subst (λ game. Equivalent game first.contents.board member.contents.board) game_is (equivalent.0 refl)) in absurd (true≢false (sym is ∙ e))
      by false e None equivalent between = refl

-- what is found from the canonical text that is kept of a member, and the passage to it
pub passage-same : (first member : Member) (variant : Variant) (game : Game) (renamings : List (List ℕ)) → game ≡ game_of variant → renamings ≡ renamings_of variant
    → first.heading.variant ≡ variant → member.heading.variant ≡ variant → (text text' : List ℕ) (passage passage' : Passage) → text ≡ text' → passage ≡ passage'
    → HasCanonText (game_of first.heading.variant) (renamings_of first.heading.variant) first.contents.board text' passage'
    → (next : Board) → member.contents.board ≡ next → IsWellFormed game next → (found : Option Passage)
    → ((board : Board) → HasCanonText game renamings board text passage → IsSome found ↔ Equivalent game board next)
    → ((board : Board) → HasCanonText game renamings board text passage
    → IfSome found (λ passage. passage ≡ passage_product (chosen_passage renamings board) (inverse_passage (chosen_passage renamings next)))) → found ≡ passage_to first member
passage-same first member variant game renamings played listed own other text text' passage passage' text_is passage_is canon next there well found equivalent between =
    let board = first.contents.board in
    let has : HasCanonText game renamings board text passage = rw (text_is, passage_is, played, listed, ← own) canon in
    passage-found first member variant game renamings played listed own other has.well_formed (subst (IsWellFormed game) (sym there) well) found
    (subst (λ next. IsSome found ↔ Equivalent game board next) (sym there) (equivalent board has))
    (subst (λ next. IfSome found (λ passage. passage ≡ passage_product (chosen_passage renamings board) (inverse_passage (chosen_passage renamings next)))) (sym there) (between board has))

-- what is kept of a member
pub canon-kept : (held : AnyCanon) (member : Member) (variant : Variant) (game : Game) (renamings : List (List ℕ)) → game ≡ game_of variant → renamings ≡ renamings_of variant
    → variant_of held ≡ variant → member.heading.variant ≡ variant → (board : Board) → member.contents.board ≡ board
    → HasCanonText game renamings board (text_held held) (passage_held held) → IsCanonOf held member
canon-kept held member variant game renamings played listed kept own board there canon = record {
  variant = kept ∙ sym own;
  canon = rw (own, ← played, ← listed, there) canon;
}

-- ---- laws

module _ (first member : Member) (well : IsWellFormed (game_of first.heading.variant) first.contents.board) (well' : IsWellFormed (game_of member.heading.variant) member.contents.board) where
  pub passage-carries : (passage : Passage) → passage_to first member ≡ Some passage → Carries (game_of first.heading.variant) passage first.contents.board member.contents.board
  passage-carries passage is = by (belong_together first member) refl is
    where
      by : (b : Bool) → belong_together first member ≡ b → cond b (Some (passage_between first member)) None ≡ Some passage
          → Carries (game_of first.heading.variant) passage first.contents.board member.contents.board
      by true e is =
          let alike = (together-Equivalent first member well well').0 e in
          let chosen' = subst (λ variant. Chosen (game_of variant) (renamings_of variant) member.contents.board (passage_of member)) (sym alike.0) (chosen member.heading.variant member.contents.board well') in
          subst (λ passage. Carries (game_of first.heading.variant) passage first.contents.board member.contents.board) (same_Some _ _ is)
          (chosen-between (game_of first.heading.variant) (renamings_of first.heading.variant) first.contents.board member.contents.board _ _ well
          (subst (λ variant. IsWellFormed (game_of variant) member.contents.board) (sym alike.0) well') (chosen first.heading.variant first.contents.board well) chosen' alike.1)
      by false e is = absurd (cc is)

  pub passage-none : (passage_to first member ≡ None)
      ↔ ¬ ((first.heading.variant ≡ member.heading.variant) × Equivalent (game_of first.heading.variant) first.contents.board member.contents.board)
  passage-none = by (belong_together first member) refl
    where
      by : (b : Bool) → belong_together first member ≡ b
          → (cond b (Some (passage_between first member)) None ≡ None) ↔ ¬ ((first.heading.variant ≡ member.heading.variant) × Equivalent (game_of first.heading.variant) first.contents.board member.contents.board)
      by true e = ((λ none. absurd (cc none)), (λ apart. absurd (apart ((together-Equivalent first member well well').0 e))))
      by false e = ((λ none pair. true≢false (sym ((together-Equivalent first member well well').1 pair) ∙ e)), (λ apart. refl))

-- ---- what is printed and kept

-- a later member gets its name and the passage from the first
pub same-printed : (kept : Option AnyCanon) (canon : AnyCanon) (members : List Member) (number : ℕ) (heading : Heading) (contents : Contents) (old one new : List ℕ) (found : Option Passage)
    → kept ≡ Some canon
    → ((first member : Member) → IsCanonOf canon first → member.heading.variant ≡ heading.variant → member.contents.board ≡ contents.board → found ≡ passage_to first member)
    → one ≡ old ++ name_of number heading.name → new ≡ one ++ passage_found found → KeepsFirst kept members → new ≡ old ++ same_lines members number heading contents
same-printed kept canon [] number heading contents old one new found is ensured named printed keeps = absurd (subst (λ kept. KeepsFirst kept []) is keeps)
same-printed kept canon (first ∷ others) number heading contents old one new found is ensured named printed keeps =
    let found_is = ensured first (member_of number heading contents) (subst (λ kept. KeepsFirst kept (first ∷ others)) is keeps) refl refl in
    printed ∙ ap₂ (λ front found. front ++ passage_found found) named found_is ∙ append_assoc old (name_of number heading.name) _

-- the first member's is kept
pub first-kept : (kept : Option AnyCanon) (members : List Member) (held : AnyCanon) (member : Member) → kept ≡ None → IsCanonOf held member → KeepsFirst kept members
    → KeepsFirst (Some held) (members ++ member ∷ [])
first-kept kept [] held member none canon keeps = canon
first-kept kept (first ∷ others) held member none canon keeps = absurd (subst (λ kept. KeepsFirst kept (first ∷ others)) none keeps)
