-- What is kept of a group is kept of it with one more member, and what is printed of it are the lines of its members.
use Rattle.std.proofs.Common.{◌++◌, ◌<◌, ◌∙◌, ◌∷◌, ◌≡◌, ◌≢◌, ◌≤◌, [], All, ap, append-nil, ap₂, arith, Bool, cond}
use Rattle.std.proofs.Common.{false, get_or, IfSome, if◌then◌else◌, is_some, length, List, None, Option, option_map}
use Rattle.std.proofs.Common.{refl, Some, subst, suc, sym, take, take_all, true, zero, ℕ}
use Rattle.std.proofs.lemmas.{Bool.{eq-eqb, ne_eqb}, List.{Elements.{All-weaker}, Folds.{find-append}}}
use Rattle.std.proofs.lemmas.{Result.{on_ok_weaker}, Slice.Zip.{all_zipped_more, AllZip-long}}
use Rattle.std.specs.{List.{AllZip, find, flat_map}, Option.{option_or, option_to_list}, Prelude.{OnOk, Result}}
use Rattle.fc_board.specs.{Moves.{MoveList}, Passages.{Passage, passage_product}}
use Rattle.{fc_board.specs.declared.rule.Variant.TheVariants.{FreeCell}, fc_text.specs.Printed.{text_of}}
use Rattle.fc_record.{proofs.LineLemmas.{three_parts}, specs.Printing.{header_text, image_line, list_line}}
use Rattle.fc_collect.{proofs.GroupLemmas.{AllZip-at}, specs.Groups.{Member, member_lines, name_of_member, owner_among}}
use Rattle.fc_collect.specs.Groups.{passage_between, passage_of, shared_line, solution_line, solution_of}
use Rattle.fc_collect.specs.inside.{group_key, Held.{held, variant_of}}
use Rattle.fc_collect.specs.inside.{KeepsMember, KeepsOwner, KeepsShared, KeepsSolution, SameGame}
use Rattle.fc_collect.specs.declared.groups.{GroupKey.{GroupKey}, solution.Shared.{Shared}}
use Rattle.fc_collect.specs.declared.groups.solution.{SharedMember.{SharedMember}, Solution.{Solution}}

-- ---- the first list that wins

module _ {X : Type 0} (test : X → Bool) where
  -- none of these passes, nor does the next
  pub find-none_more : (xs : List X) (x : X) → find test xs ≡ None → test x ≡ false → find test (xs ++ x ∷ []) ≡ None
  find-none_more xs x none fails = find-append test xs (x ∷ []) ∙ ap₂ option_or none (ap (λ b. cond b (Some x) None) fails)

  -- none of the first so many passes, and the next does
  pub find-first : (xs : List X) (place : ℕ) (x : X) → find test (take place xs) ≡ None → place < length xs → x ≡ get_or xs place x
      → test x ≡ true → find test xs ≡ Some x
  find-first [] place x none within here passes = absurd (omega (arith, within))
  find-first (first ∷ xs) zero x none within here passes =
      ap (λ y. cond (test y) (Some y) (find test xs)) (sym here) ∙ ap (λ b. cond b (Some x) (find test xs)) passes
  find-first (first ∷ xs) (suc place) x none within here passes = by (test first) none (λ others. find-first xs place x others (omega (arith, within)) here passes)
    where
      by : (b : Bool) → cond b (Some first) (find test (take place xs)) ≡ None
          → (find test (take place xs) ≡ None → find test xs ≡ Some x)
          → cond b (Some first) (find test xs) ≡ Some x
      by true none on = cc none
      by false none on = on none

-- ---- one more member

-- the first member of the group that has a solution, after which comes one more
abbrev pub owner_with : Option Member → Member → Option Member
owner_with owner member = option_or owner (if is_some (solution_of member) then Some member else None)

pub owner_among-more : (members : List Member) (member : Member) → owner_among (members ++ member ∷ []) ≡ owner_with (owner_among members) member
owner_among-more members member = find-append (λ member. is_some (solution_of member)) members (member ∷ [])

-- the solution of the first owner stays
pub owner-stays : (solution : Solution) (members : List Member) (member : Member) → KeepsOwner (Some solution) (owner_among members)
    → KeepsOwner (Some solution) (owner_among (members ++ member ∷ []))
owner-stays solution members member keeps = subst (KeepsOwner (Some solution)) (sym (owner_among-more members member)) (by (owner_among members) keeps)
  where
    by : (owner : Option Member) → KeepsOwner (Some solution) owner → KeepsOwner (Some solution) (owner_with owner member)
    by None keeps = absurd keeps
    by (Some owner) keeps = keeps

-- what a solution has beside its list, where it is taken from this member
abbrev pub TakenOf : Member → Solution → Type 0
TakenOf member solution =
    (solution.owner ≡ member.number) × (variant_of solution.passage ≡ member.heading.variant) × (held solution.passage ≡ passage_of member)

pub taken-of : (member : Member) (found : Option Solution) (passage : Passage) → passage ≡ passage_of member → IfSome found (λ solution. solution.owner ≡ member.number)
    → IfSome found (λ solution. variant_of solution.passage ≡ member.heading.variant) → IfSome found (λ solution. held solution.passage ≡ passage) → IfSome found (TakenOf member)
taken-of member None passage is numbered named kept = tt
taken-of member (Some solution) passage is numbered named kept = (numbered, named, kept ∙ is)

-- where there is none, the solution of the next member is taken
pub owner-taken : (found : Option Solution) (members : List Member) (member : Member) → KeepsOwner None (owner_among members)
    → option_map (λ solution. solution.list) found ≡ solution_of member
    → IfSome found (TakenOf member) → KeepsOwner found (owner_among (members ++ member ∷ []))
owner-taken found members member keeps first of_member =
    subst (KeepsOwner found) (sym (owner_among-more members member)) (by (owner_among members) keeps)
  where
    taken : (found : Option Solution) (moves : Option MoveList) → moves ≡ solution_of member → option_map (λ solution. solution.list) found ≡ moves
        → IfSome found (TakenOf member) → KeepsOwner found (if is_some moves then Some member else None)
    taken None None said first of_member = tt
    taken None (Some moves) said first of_member = cc first
    taken (Some solution) None said first of_member = cc first
    taken (Some solution) (Some moves) said first of_member =
        record { number = of_member.0; variant = of_member.1; passage = of_member.2; moves = sym said ∙ sym first }

    by : (owner : Option Member) → KeepsOwner None owner → KeepsOwner found (owner_with owner member)
    by None keeps = taken found (solution_of member) refl first of_member
    by (Some owner) keeps = absurd keeps

-- ---- the line of a solution

-- the one line that is printed of a solution
one_line : (said owner : Member) (kept : Solution) (line : List ℕ) → KeepsSolution kept owner → shared_line owner said kept.list ≡ line
    → solution_line said (Some owner) ≡ line
one_line said owner kept line keeps ensured =
    ap (λ moves. flat_map (shared_line owner said) (option_to_list moves)) keeps.moves ∙ append-nil (shared_line owner said kept.list) ∙ ensured

pub owner-line : (said owner : Member) (held : SharedMember) (kept : Solution) → KeepsMember held said → KeepsSolution kept owner → kept.owner ≡ held.number
    → list_line kept.list ≡ solution_line said (Some owner)
owner-line said owner held kept holds keeps same =
    let equal = eq-eqb owner.number said.number (sym keeps.number ∙ same ∙ holds.number) in
    sym (one_line said owner kept (list_line kept.list) keeps
    (ap (λ b. if b then list_line kept.list else image_line (passage_between owner said) kept.list) equal))

-- by the owner's passage and back by the member's
pub image-printed : {A E : Type 0} (result : Result A E) (member : SharedMember) (kept : Solution) (old new : List ℕ) (to back between : Passage) (list : MoveList)
    → kept.owner ≢ member.number → held kept.passage ≡ to → held member.back ≡ back → between ≡ passage_product to back → list ≡ kept.list
    → OnOk result (new ≡ old ++ image_line between list)
    → OnOk result ((said owner : Member) → KeepsMember member said → KeepsSolution kept owner → SameGame said owner → new ≡ old ++ solution_line said (Some owner))
image-printed result member kept old new to back between list other to_is back_is between_is list_is = on_ok_weaker result (λ printed said owner holds keeps alike.
    let unequal = ne_eqb owner.number said.number (λ same. other (keeps.number ∙ same ∙ sym holds.number)) in
    let passage = between_is ∙ ap₂ passage_product (sym to_is ∙ keeps.passage) (sym back_is ∙ holds.back) in
    printed ∙ ap (λ line. old ++ line) (ap₂ image_line passage list_is
    ∙ sym (one_line said owner kept _ keeps (ap (λ b. if b then list_line kept.list else image_line (passage_between owner said) kept.list) unequal))))

-- ---- the lines of a member

-- the header, the board and the solution
pub member-printed : (said : Member) (owner : Option Member) (member : SharedMember) (old one two new : List ℕ) → KeepsMember member said
    → one ≡ old ++ header_text (variant_of member.back) member.name.items → two ≡ one ++ text_of (held member.board) → new ≡ two ++ solution_line said owner
    → new ≡ old ++ member_lines owner said
member-printed said owner member old one two new holds with_header begun ended =
    three_parts old one two new (header_text said.heading.variant (name_of_member said)) (text_of said.contents.board) (solution_line said owner)
    (with_header ∙ ap₂ (λ variant name. old ++ header_text variant name) holds.variant holds.name) (begun ∙ ap (λ board. one ++ text_of board) holds.board) ended

-- what is printed for each owner is printed for the one that there is
pub solution-printed : (said : Member) (owner : Option Member) (held : SharedMember) (kept : Solution) (old new : List ℕ)
    → ((said owner : Member) → KeepsMember held said → KeepsSolution kept owner → SameGame said owner → new ≡ old ++ solution_line said (Some owner))
    → KeepsMember held said → KeepsOwner (Some kept) owner → IfSome owner (SameGame said) → new ≡ old ++ solution_line said owner
solution-printed said None held kept old new ensured holds keeps alike = absurd keeps
solution-printed said (Some owner) held kept old new ensured holds keeps alike = ensured said owner holds keeps alike

-- nothing is printed where there is no owner
pub none-printed : (said : Member) (owner : Option Member) (old : List ℕ) → KeepsOwner None owner → old ≡ old ++ solution_line said owner
none-printed said None old keeps = sym (append-nil old)
none-printed said (Some owner) old keeps = absurd keeps

-- ---- the lines of all members

pub find-All : {X : Type 0} (P : X → Type 0) (test : X → Bool) (xs : List X) → All P xs → IfSome (find test xs) P
find-All P test [] all = tt
find-All P test (x ∷ xs) all = by (test x) (find-All P test xs (λ place d within. all (suc place) d (omega (arith, within))))
  where
    by : (b : Bool) → IfSome (find test xs) P → IfSome (cond b (Some x) (find test xs)) P
    by true rest = all 0 x (omega arith)
    by false rest = rest

-- is where a list of members has none
pub nobody : Member
nobody = record {
  number = 0;
  heading = record { variant = FreeCell; has_header = false; name = None };
  contents = record { board = record { heights = []; cells = []; columns = [] }; lists = [] };
}

-- what is kept at a place is kept of the member there, which is of one game with the owner
pub member-there : (key : GroupKey) (kept : Shared) (held : SharedMember) (members : List Member) (place : ℕ)
    → KeepsShared kept members → All (λ member. group_key member ≡ key) members → place < length kept.members.items → held ≡ get_or kept.members.items place held
    → (place < length members) × KeepsMember held (get_or members place nobody) × IfSome (owner_among members) (SameGame (get_or members place nobody))
member-there key kept held members place keeps keyed within here =
    let long = AllZip-long KeepsMember kept.members.items members keeps.each in
    let said = get_or members place nobody in
    let inside : place < length members = omega (arith, within, long) in
    let alike : (other : Member) → group_key other ≡ key → SameGame said other = λ other e. ap (λ key. key.variant) (keyed place nobody inside ∙ sym e) in (
      inside,
      subst (λ held. KeepsMember held said) (sym here) (AllZip-at KeepsMember kept.members.items members place held nobody keeps.each within),
      find-All (SameGame said) (λ member. is_some (solution_of member)) members (All-weaker (λ member. group_key member ≡ key) (SameGame said) alike members keyed),
    )

-- past the last place all members are taken
pub members-taken : (kept : Shared) (members : List Member) (place : ℕ) → KeepsShared kept members → length kept.members.items ≤ place → take place members ≡ members
members-taken kept members place keeps past =
    let long = AllZip-long KeepsMember kept.members.items members keeps.each in
    take_all place members (omega (arith, long, past))

-- ---- a group with one more member

pub shared-stays : (old new : Shared) (held : SharedMember) (members : List Member) (member : Member) → KeepsMember held member → new.members.items ≡ old.members.items ++ held ∷ []
    → new.solution ≡ old.solution → is_some old.solution ≡ true → KeepsShared old members → KeepsShared new (members ++ member ∷ [])
shared-stays old new held members member holds more same found keeps =
    record {
      each = subst (λ items. AllZip KeepsMember items (members ++ member ∷ [])) (sym more) (all_zipped_more KeepsMember old.members.items members held member keeps.each holds);
      solution = subst (λ solution. KeepsOwner solution (owner_among (members ++ member ∷ []))) (sym same) (by old.solution found keeps.solution);
    }
  where
    by : (solution : Option Solution) → is_some solution ≡ true → KeepsOwner solution (owner_among members) → KeepsOwner solution (owner_among (members ++ member ∷ []))
    by None found keeps = cc found
    by (Some solution) found keeps = owner-stays solution members member keeps

pub shared-taken : (old new : Shared) (held : SharedMember) (members : List Member) (member : Member) → KeepsMember held member → new.members.items ≡ old.members.items ++ held ∷ []
    → is_some old.solution ≡ false → option_map (λ solution. solution.list) new.solution ≡ solution_of member → IfSome new.solution (TakenOf member)
    → KeepsShared old members → KeepsShared new (members ++ member ∷ [])
shared-taken old new held members member holds more none first of_member keeps =
    record {
      each = subst (λ items. AllZip KeepsMember items (members ++ member ∷ [])) (sym more) (all_zipped_more KeepsMember old.members.items members held member keeps.each holds);
      solution = owner-taken new.solution members member (by old.solution none keeps.solution) first of_member;
    }
  where
    by : (solution : Option Solution) → is_some solution ≡ false → KeepsOwner solution (owner_among members) → KeepsOwner None (owner_among members)
    by None none keeps = keeps
    by (Some solution) none keeps = cc none
