-- What one more member makes of what `count` keeps, and what the figures are of records.
use Rattle.{fc_board.specs.declared.rule.Variant.{Variant}, indexmap.specs.IndexSet.{insert_key}}
use Rattle.std.proofs.Common.{◌++◌, ◌+◌, ◌-◌, ◌||◌, ◌∙◌, ◌∷◌, ◌≡◌, ◌≤◌, [], ap, append-nil, append_assoc, ap₂, arith}
use Rattle.std.proofs.Common.{Bool, codes, cond, eqb, false, filter, get_or, is_some, length, length-append, List, None}
use Rattle.std.proofs.{Common.{not, Option, refl, set, Some, sym, true, ℕ}, lemmas.Bool.{ne_eqb}}
use Rattle.std.proofs.lemmas.{Grind.{flat_map-append}, List.{length-map, Sums.{sum_by-cons}}}
use Rattle.std.specs.List.{AllZip, count_by, find, flat_map, position_or_len}
use Rattle.fc_record.specs.{Grammar.{Accepted, Reading, reading_of, Refused}, Printing.{is_refused, refuses}}
use Rattle.fc_record.specs.RecordTexts.{RecordText}
use Rattle.fc_collect.proofs.GroupLemmas.{Gains, Gathers-begun, Gathers-joined, Gathers-length, has_one, leaders-more}
use Rattle.fc_collect.{proofs.ShareLemmas.{owner_among-more, owner_with}, specs.Groups.{belong_together, figures}}
use Rattle.fc_collect.specs.Groups.{groups_of, if_accepted, leaders_after, Member, members_among, owner_among}
use Rattle.fc_collect.specs.{Groups.{solution_of, wins_of}, inside.{figures_seen, Gathers, group_key, HasBoard}}
use Rattle.fc_collect.specs.inside.{IsPlaceAmong, KeepsSolved, KeepsTally, same_key}
use Rattle.fc_collect.specs.declared.{commands.count.{Figures.{Figures}, Tally.{Tally}}, groups.Gathered.{Gathered}}
use Rattle.fc_collect.specs.declared.{groups.GroupKey.{GroupKey}, streams.faults.Summary.{Summary}}

-- ---- what is kept

-- an item is found exactly where one at least passes
pub found-some : {X : Type 0} (test : X → Bool) (xs : List X) → is_some (find test xs) ≡ not (eqb (length (filter test xs)) 0)
found-some test [] = refl
found-some test (x ∷ xs) = by (test x) (found-some test xs)
  where
    by : (b : Bool) → is_some (find test xs) ≡ not (eqb (length (filter test xs)) 0)
        → is_some (cond b (Some x) (find test xs)) ≡ not (eqb (length (cond b (x ∷ filter test xs) (filter test xs))) 0)
    by true on = ap not (sym (ne_eqb (length (x ∷ filter test xs)) 0 (λ e. absurd (omega (arith, e)))))
    by false on = on

-- a group is solved by one more member, or was before
pub solved-more : (member : Member) (old solved : Bool) → solved ≡ is_some (solution_of member) → Gains KeepsSolved member old (old || solved)
solved-more member old solved own members keeps =
    ap₂ (λ a b. a || b) keeps own ∙ by (owner_among members) ∙ ap is_some (sym (owner_among-more members member))
  where
    one : (b : Bool) → b ≡ is_some (cond b (Some member) None)
    one true = refl
    one false = refl

    by : (owner : Option Member) → (is_some owner || is_some (solution_of member)) ≡ is_some (owner_with owner member)
    by None = one (is_some (solution_of member))
    by (Some owner) = refl

pub solved-one : (member : Member) (solved : Bool) → solved ≡ is_some (solution_of member) → KeepsSolved solved (member ∷ [])
solved-one member solved own = solved-more member false solved own [] refl

pub tally-more : (old new : Tally) (members : List Member) (member : Member) → Gathers KeepsSolved new.groups (members ++ member ∷ []) → new.members ≡ old.members + 1
    → new.lists ≡ old.lists + length member.contents.lists → new.wins ≡ old.wins + length (wins_of member) → KeepsTally old members → KeepsTally new (members ++ member ∷ [])
tally-more old new members member groups more lists wins keeps = record {
  groups = groups;
  members = more ∙ ap (λ n. n + 1) keeps.members ∙ sym (length-append members (member ∷ []));
  lists = lists ∙ ap (λ n. n + length member.contents.lists) keeps.lists ∙ sym (long (λ member. member.contents.lists));
  wins = wins ∙ ap (λ n. n + length (wins_of member)) keeps.wins ∙ sym (long wins_of);
}
  where
    long : {X : Type 0} (f : Member → List X) → length (flat_map f (members ++ member ∷ [])) ≡ length (flat_map f members) + length (f member)
    long f = ap length (flat_map-append f members (member ∷ []) ∙ ap (λ xs. flat_map f members ++ xs) (append-nil (f member))) ∙ length-append (flat_map f members) (f member)

-- the groups with one more member
pub solved-joined : (old new : Gathered Bool) (members : List Member) (member : Member) (key : GroupKey) (place : ℕ) (before solved : Bool)
    → key ≡ group_key member → HasBoard member → new.keys.keys ≡ insert_key same_key old.keys.keys key → solved ≡ is_some (solution_of member)
    → IsPlaceAmong (length old.groups.items) (position_or_len (same_key key) old.keys.keys) (Some place) → before ≡ get_or old.groups.items place before
    → new.groups.items ≡ set old.groups.items place (before || solved) → Gathers KeepsSolved old members → Gathers KeepsSolved new (members ++ member ∷ [])
solved-joined old new members member key place before solved own has keyed ensured found here grouped gathers =
    Gathers-joined KeepsSolved old new members member key own has keyed gathers place before (before || solved) found here grouped (solved-more member before solved ensured)

pub solved-begun : (old new : Gathered Bool) (members : List Member) (member : Member) (key : GroupKey) (solved : Bool)
    → key ≡ group_key member → HasBoard member → new.keys.keys ≡ insert_key same_key old.keys.keys key → solved ≡ is_some (solution_of member)
    → IsPlaceAmong (length old.groups.items) (position_or_len (same_key key) old.keys.keys) None
    → new.groups.items ≡ old.groups.items ++ solved ∷ [] → Gathers KeepsSolved old members → Gathers KeepsSolved new (members ++ member ∷ [])
solved-begun old new members member key solved own has keyed ensured found grouped gathers =
    Gathers-begun KeepsSolved old new members member key own has keyed gathers solved found grouped (solved-one member solved ensured)

-- ---- the figures

count-solved : (kept : List Bool) (groups : List (List Member)) → AllZip KeepsSolved kept groups
    → count_by (λ flag. flag) kept ≡ count_by (λ group. is_some (owner_among group)) groups
count-solved [] [] all = refl
count-solved [] (group ∷ groups) all = absurd all
count-solved (flag ∷ kept) [] all = absurd all
count-solved (flag ∷ kept) (group ∷ groups) all =
    sum_by-cons (λ flag. cond flag 1 0) flag kept ∙ ap₂ (λ b n. cond b 1 0 + n) all.0 (count-solved kept groups all.1)
    ∙ sym (sum_by-cons (λ group. cond (is_some (owner_among group)) 1 0) group groups)

pub figures-found : (tally : Tally) (summary : Summary) (members : List Member) (found : Figures) → KeepsTally tally members
    → found.records ≡ summary.records → found.refused ≡ summary.refused → found.groups ≡ length tally.groups.groups.items → found.doubles ≡ tally.members - length tally.groups.groups.items
    → found.lists ≡ tally.lists → found.wins ≡ tally.wins → found.solved ≡ count_by (λ flag. flag) tally.groups.groups.items → figures_seen found ≡ figures summary members
figures-found tally summary members found keeps records refused groups doubles lists wins solved =
    let many = sym (Gathers-length KeepsSolved tally.groups members keeps.groups).1 in
    let groups_are = groups ∙ many in
    let doubles_are = doubles ∙ ap₂ (λ a b. a - b) keeps.members many in
    let lists_are = lists ∙ keeps.lists in
    let wins_are = wins ∙ keeps.wins in
    let solved_are = solved ∙ count-solved tally.groups.groups.items (groups_of members) keeps.groups.groups in
    λ i. (codes "records", records i) ∷ (codes "refused", refused i) ∷ (codes "groups", groups_are i) ∷ (codes "doubles", doubles_are i)
    ∷ (codes "lists", lists_are i) ∷ (codes "wins", wins_are i) ∷ (codes "solved", solved_are i) ∷ []

-- ---- laws

-- each record is refused or a member
members-long : (variant : Variant) (records : List RecordText) → length (members_among variant records) + count_by (is_refused variant) records ≡ length records
members-long variant [] = refl
members-long variant (text ∷ records) =
    ap (λ n. length (members_among variant (text ∷ records)) + n) (sum_by-cons (λ text. cond (is_refused variant text) 1 0) text records)
    ∙ by (reading_of variant text.bytes) (members-long variant records)
  where
    rest : List Member
    rest = members_among variant records

    by : (reading : Reading) → length rest + count_by (is_refused variant) records ≡ length records
        → length (if_accepted text.number reading ++ rest) + (cond (refuses reading) 1 0 + count_by (is_refused variant) records) ≡ length (text ∷ records)
    by (Accepted heading contents) on = omega (arith, on)
    by (Refused name fault) on = omega (arith, on)

leaders-few : (earlier members : List Member) → length (leaders_after earlier members) ≤ length members
leaders-few earlier [] = omega arith
leaders-few earlier (member ∷ members) = by (has_one member earlier) (leaders-few (earlier ++ member ∷ []) members)
  where
    rest : List Member
    rest = leaders_after (earlier ++ member ∷ []) members

    by : (b : Bool) → length rest ≤ length members → length (cond b rest (member ∷ rest)) ≤ length (member ∷ members)
    by true on = omega (arith, on)
    by false on = omega (arith, on)

pub groups-long : (members : List Member) → length (groups_of members) ≡ length (leaders_after [] members)
groups-long members = length-map (leaders_after [] members) (λ leader. filter (belong_together leader) members)

pub records-counted : (variant : Variant) (records : List RecordText)
    → length records ≡ count_by (is_refused variant) records + (length (groups_of (members_among variant records)) + (length (members_among variant records) - length (groups_of (members_among variant records))))
records-counted variant records =
    let members = members_among variant records in
    omega (arith, members-long variant records, groups-long members, leaders-few [] members)

-- one more member begins a group or is a double
groups-one : (members : List Member) (member : Member) → length (groups_of (members ++ member ∷ [])) ≡ length (groups_of members) + cond (has_one member members) 0 1
groups-one members member =
    groups-long (members ++ member ∷ []) ∙ ap length (leaders-more member [] members) ∙ by (has_one member members) ∙ ap (λ n. n + cond (has_one member members) 0 1) (sym (groups-long members))
  where
    by : (b : Bool) → length (leaders_after [] members ++ cond b [] (member ∷ [])) ≡ length (leaders_after [] members) + cond b 0 1
    by true = length-append (leaders_after [] members) []
    by false = length-append (leaders_after [] members) (member ∷ [])

pub group-more : (members : List Member) (member : Member) → has_one member members ≡ false
    → (length (groups_of (members ++ member ∷ [])) ≡ length (groups_of members) + 1)
    × (length (members ++ member ∷ []) - length (groups_of (members ++ member ∷ [])) ≡ length members - length (groups_of members))
group-more members member none =
    let one = groups-one members member ∙ ap (λ b. length (groups_of members) + cond b 0 1) none in
    (one, omega (arith, one, length-append members (member ∷ []), groups-long members, leaders-few [] members))

pub double-more : (members : List Member) (member : Member) → has_one member members ≡ true
    → (length (groups_of (members ++ member ∷ [])) ≡ length (groups_of members))
    × (length (members ++ member ∷ []) - length (groups_of (members ++ member ∷ [])) ≡ (length members - length (groups_of members)) + 1)
double-more members member there =
    let same = groups-one members member ∙ ap (λ b. length (groups_of members) + cond b 0 1) there in
    let long = length-append members (member ∷ []) in
    (omega (arith, same), omega (arith, same, long, groups-long members, leaders-few [] members))

-- ---- what is printed

-- seven texts one after another, and one at the end
pub eight-pushed : (old a b c d e f g new t1 t2 t3 t4 t5 t6 t7 t8 : List ℕ) → a ≡ old ++ t1 → b ≡ a ++ t2 → c ≡ b ++ t3 → d ≡ c ++ t4 → e ≡ d ++ t5 → f ≡ e ++ t6 → g ≡ f ++ t7 → new ≡ g ++ t8
    → new ≡ old ++ ((t1 ++ (t2 ++ (t3 ++ (t4 ++ (t5 ++ (t6 ++ t7)))))) ++ t8)
eight-pushed old a b c d e f g new t1 t2 t3 t4 t5 t6 t7 t8 p1 p2 p3 p4 p5 p6 p7 p8 =
    let q6 = next e f g t6 t7 p6 p7 in
    let q5 = next d e g t5 (t6 ++ t7) p5 q6 in
    let q4 = next c d g t4 (t5 ++ (t6 ++ t7)) p4 q5 in
    let q3 = next b c g t3 (t4 ++ (t5 ++ (t6 ++ t7))) p3 q4 in
    let q2 = next a b g t2 (t3 ++ (t4 ++ (t5 ++ (t6 ++ t7)))) p2 q3 in
    let q1 = next old a g t1 (t2 ++ (t3 ++ (t4 ++ (t5 ++ (t6 ++ t7))))) p1 q2 in
    next old g new (t1 ++ (t2 ++ (t3 ++ (t4 ++ (t5 ++ (t6 ++ t7)))))) t8 q1 p8
  where
    next : (old one new t more : List ℕ) → one ≡ old ++ t → new ≡ one ++ more → new ≡ old ++ (t ++ more)
    next old one new t more begun ended = ended ∙ ap (λ l. l ++ more) begun ∙ append_assoc old t more
