-- What one more member makes of the groups, and of what is kept of them.
use Rattle.{fc_board.specs.Games.{variant_word}, indexmap.specs.IndexSet.{insert_key}}
use Rattle.std.proofs.Common.{◌++◌, ◌+◌, ◌<◌, ◌||◌, ◌∙◌, ◌∷◌, ◌≡◌, [], All, ap, append-nil, append_assoc, ap₂, arith}
use Rattle.std.proofs.Common.{Bool, cond, false, filter, get_or, if◌then◌else◌, length, List, map, None, not, one-add}
use Rattle.std.proofs.Common.{refl, set, slice_get, Some, subst, subst₂, suc, sym, true, true≢false, unwrap_or, zero, ℕ}
use Rattle.std.proofs.lemmas.List.Elements.{All-filter, All-head, All-nil, All-tail, All-weaker, filter-append}
use Rattle.std.proofs.lemmas.List.{Elements.{filter_passes}, Folds.{list_any-append}, length-map, map-append}
use Rattle.std.proofs.{lemmas.{List.Sums.{prefix_len-le-length}, Slice.Zip.{AllZip-long}}, Math.Bool.{or-false}}
use Rattle.std.specs.Cmp.{and_equiv, IsEquivalence, Lexicographic.{on_texts_equal}}
use Rattle.std.specs.List.{AllZip, list_any, position_or_len}
use Rattle.std.proofs.Math.Bool.{or-true}
use Rattle.fc_collect.proofs.KeyedLemmas.{boards-more, leaders-All, one_key, same-together}
use Rattle.fc_collect.specs.Groups.{belong_together, canonical_text, groups_of, leaders_after, Member}
use Rattle.fc_collect.specs.inside.{Gathers, group_key, HasBoard, IsPlaceAmong, same_key}
use Rattle.fc_collect.specs.declared.groups.{Gathered.{Gathered}, GroupKey.{GroupKey}}

-- ---- one more in a group

-- the groups with one more member: in the group at this place, or in a new one after the last
abbrev pub joined : {X : Type 0} → List (List X) → ℕ → X → List (List X)
joined [] place member = (member ∷ []) ∷ []
joined (group ∷ groups) zero member = (group ++ member ∷ []) ∷ groups
joined (group ∷ groups) (suc place) member = group ∷ joined groups place member

module _ {K X : Type 0} (keeps : K → List X → Type 0) where
  -- what is kept of a group is kept of it with this member more
  abbrev pub Gains : X → K → K → Type 0
  Gains member old new = (members : List X) → keeps old members → keeps new (members ++ member ∷ [])

  -- after the others of its group
  pub joined-there : (kept : List K) (groups : List (List X)) (place : ℕ) (d old new : K) (member : X) → place < length kept → AllZip keeps kept groups
      → old ≡ get_or kept place d → Gains member old new → AllZip keeps (set kept place new) (joined groups place member)
  joined-there [] groups place d old new member within all here gains = absurd (omega (arith, within))
  joined-there (first ∷ kept) [] place d old new member within all here gains = absurd all
  joined-there (first ∷ kept) (group ∷ groups) zero d old new member within all here gains =
      (gains group (subst (λ k. keeps k group) (sym here) all.0), all.1)
  joined-there (first ∷ kept) (group ∷ groups) (suc place) d old new member within all here gains =
      (all.0, joined-there kept groups place d old new member (omega (arith, within)) all.1 here gains)

  -- in a new group
  pub joined-last : (kept : List K) (groups : List (List X)) (place : ℕ) (new : K) (member : X) → place ≡ length kept → AllZip keeps kept groups
      → keeps new (member ∷ []) → AllZip keeps (kept ++ new ∷ []) (joined groups place member)
  joined-last [] [] place new member last all begun = (begun, tt)
  joined-last [] (group ∷ groups) place new member last all begun = absurd all
  joined-last (first ∷ kept) [] place new member last all begun = absurd all
  joined-last (first ∷ kept) (group ∷ groups) zero new member last all begun = absurd (omega (arith, last))
  joined-last (first ∷ kept) (group ∷ groups) (suc place) new member last all begun =
      (all.0, joined-last kept groups place new member (omega (arith, last)) all.1 begun)

-- ---- members that belong together

or_regroup : (a b c : Bool) → ((a || (b || false)) || c) ≡ (a || (b || c))
or_regroup true b c = refl
or_regroup false b c = ap (λ d. d || c) (or-false b)

pub together : IsEquivalence belong_together
together = and_equiv (on_texts_equal (λ member. variant_word member.heading.variant)) (on_texts_equal canonical_text)

-- one of them belongs together with this member
abbrev pub has_one : Member → List Member → Bool
has_one member members = list_any (λ other. belong_together other member) members

-- a member finds what another finds that it belongs to
pub has_one-same : (first next : Member) (members : List Member) → belong_together first next ≡ true → has_one next members ≡ has_one first members
has_one-same first next [] e = refl
has_one-same first next (member ∷ members) e =
    ap₂ (λ b c. b || c) (together.symm member next ∙ sym (together.congr first next member e) ∙ together.symm first member) (has_one-same first next members e)

pub has_one-append : (member : Member) (xs ys : List Member) → has_one member (xs ++ ys) ≡ (has_one member xs || has_one member ys)
has_one-append member xs ys = list_any-append (λ other. belong_together other member) xs ys

-- the groups that a member does not belong to get nothing
pub has_none : (member : Member) (members : List Member) → has_one member members ≡ false → filter (belong_together member) members ≡ []
has_none member [] none = refl
has_none member (other ∷ others) none = by (belong_together other member) refl none (has_none member others)
  where
    by : (b : Bool) → belong_together other member ≡ b → (b || has_one member others) ≡ false → (has_one member others ≡ false → filter (belong_together member) others ≡ [])
        → filter (belong_together member) (other ∷ others) ≡ []
    by true e none on = absurd (true≢false none)
    by false e none on = ap (λ b. cond b (other ∷ filter (belong_together member) others) (filter (belong_together member) others)) (together.symm member other ∙ e) ∙ on none

-- ---- leaders

-- a last member leads if none before it belongs to it
pub leaders-more : (member : Member) (earlier members : List Member)
    → leaders_after earlier (members ++ member ∷ []) ≡ leaders_after earlier members ++ (if has_one member (earlier ++ members) then [] else member ∷ [])
leaders-more member earlier [] = ap (λ others. if has_one member others then [] else member ∷ []) (sym (append-nil earlier))
leaders-more member earlier (first ∷ members) = by (has_one first earlier) (leaders-more member (earlier ++ first ∷ []) members)
  where
    rest : List Member
    rest = leaders_after (earlier ++ first ∷ []) members

    last : List Member → List Member
    last others = if has_one member others then [] else member ∷ []

    more : List Member
    more = leaders_after (earlier ++ first ∷ []) (members ++ member ∷ [])

    by : (b : Bool) → more ≡ rest ++ last ((earlier ++ first ∷ []) ++ members)
        → (if b then more else first ∷ more) ≡ (if b then rest else first ∷ rest) ++ last (earlier ++ first ∷ members)
    by true on = on ∙ ap (λ others. rest ++ last others) (append_assoc earlier (first ∷ []) members)
    by false on = ap (λ others. first ∷ others) (on ∙ ap (λ others. rest ++ last others) (append_assoc earlier (first ∷ []) members))

-- whom a member belongs to, their leader it belongs to
pub leaders-cover : (member : Member) (earlier members : List Member)
    → has_one member (earlier ++ members) ≡ (has_one member earlier || has_one member (leaders_after earlier members))
leaders-cover member earlier [] = has_one-append member earlier []
leaders-cover member earlier (first ∷ members) =
    ap (has_one member) (sym (append_assoc earlier (first ∷ []) members)) ∙ leaders-cover member (earlier ++ first ∷ []) members
    ∙ ap (λ b. b || has_one member rest) (has_one-append member earlier (first ∷ [])) ∙ by (has_one first earlier) refl
  where
    rest : List Member
    rest = leaders_after (earlier ++ first ∷ []) members

    led : (b : Bool) → belong_together first member ≡ b → has_one first earlier ≡ true → (has_one member earlier || (b || false)) ≡ has_one member earlier
    led true e there = or-true (has_one member earlier) ∙ sym (has_one-same first member earlier e ∙ there)
    led false e there = or-false (has_one member earlier)

    by : (b : Bool) → has_one first earlier ≡ b → ((has_one member earlier || (belong_together first member || false)) || has_one member rest)
        ≡ (has_one member earlier || has_one member (if b then rest else first ∷ rest))
    by true there = ap (λ b. b || has_one member rest) (led (belong_together first member) refl there)
    by false none = or_regroup (has_one member earlier) (belong_together first member) (has_one member rest)

-- a leader after these belongs together with none of them
pub leaders-new : (old : Member) (earlier members : List Member) → ((member : Member) → belong_together old member ≡ true → has_one member earlier ≡ true)
    → list_any (belong_together old) (leaders_after earlier members) ≡ false
leaders-new old earlier [] found = refl
leaders-new old earlier (first ∷ members) found = by (has_one first earlier) refl
    (leaders-new old (earlier ++ first ∷ []) members (λ member e. has_one-append member earlier (first ∷ []) ∙ ap (λ b. b || has_one member (first ∷ [])) (found member e)))
  where
    rest : List Member
    rest = leaders_after (earlier ++ first ∷ []) members

    apart : (b : Bool) → belong_together old first ≡ b → has_one first earlier ≡ false → b ≡ false
    apart true e none = absurd (true≢false (sym (found first e) ∙ none))
    apart false e none = refl

    by : (b : Bool) → has_one first earlier ≡ b → list_any (belong_together old) rest ≡ false → list_any (belong_together old) (if b then rest else first ∷ rest) ≡ false
    by true there on = on
    by false none on = ap (λ b. b || list_any (belong_together old) rest) (apart (belong_together old first) refl none) ∙ on

-- no two of them belong together
abbrev pub Apart : List Member → Type 0
Apart [] = Unit {0}
Apart (member ∷ members) = (list_any (belong_together member) members ≡ false) × Apart members

pub leaders-Apart : (earlier members : List Member) → Apart (leaders_after earlier members)
leaders-Apart earlier [] = tt
leaders-Apart earlier (first ∷ members) = by (has_one first earlier) (leaders-Apart (earlier ++ first ∷ []) members)
  where
    rest : List Member
    rest = leaders_after (earlier ++ first ∷ []) members

    last : (member : Member) → belong_together first member ≡ true → has_one member (earlier ++ first ∷ []) ≡ true
    last member e = has_one-append member earlier (first ∷ []) ∙ ap (λ b. has_one member earlier || (b || false)) e ∙ or-true (has_one member earlier)

    by : (b : Bool) → Apart rest → Apart (if b then rest else first ∷ rest)
    by true on = on
    by false on = (leaders-new first (earlier ++ first ∷ []) members last, on)

-- ---- groups

-- what a leader's group gets by one more member
abbrev gained : Member → Member → List Member
gained member leader = cond (belong_together leader member) (member ∷ []) []

-- those that are apart from the leader that the member belongs to get nothing
others-same : (f : Member → List Member) (first member : Member) (leaders : List Member) → belong_together first member ≡ true
    → list_any (belong_together first) leaders ≡ false → map (λ leader. f leader ++ gained member leader) leaders ≡ map f leaders
others-same f first member [] e none = refl
others-same f first member (leader ∷ leaders) e none = by (belong_together first leader) refl none (others-same f first member leaders e)
  where
    by : (b : Bool) → belong_together first leader ≡ b → (b || list_any (belong_together first) leaders) ≡ false
        → (list_any (belong_together first) leaders ≡ false → map (λ leader. f leader ++ gained member leader) leaders ≡ map f leaders)
        → map (λ leader. f leader ++ gained member leader) (leader ∷ leaders) ≡ map f (leader ∷ leaders)
    by true apart none on = absurd (true≢false none)
    by false apart none on =
        let away = together.symm leader member ∙ sym (together.congr first member leader e) ∙ apart in
        ap₂ (λ group groups. group ∷ groups) (ap (λ b. f leader ++ cond b (member ∷ []) []) away ∙ append-nil (f leader)) (on none)

-- it joins the one group that it belongs to, or begins a last one
joins : (f : Member → List Member) (member : Member) (leaders : List Member) → Apart leaders
    → map (λ leader. f leader ++ gained member leader) leaders ++ (if has_one member leaders then [] else (member ∷ []) ∷ [])
    ≡ joined (map f leaders) (position_or_len (λ leader. belong_together leader member) leaders) member
joins f member [] apart = refl
joins f member (leader ∷ leaders) apart = by (belong_together leader member) refl (joins f member leaders apart.1)
  where
    last : Bool → List (List Member)
    last b = if b then [] else (member ∷ []) ∷ []

    rest : ℕ
    rest = position_or_len (λ leader. belong_together leader member) leaders

    grown : List (List Member)
    grown = map (λ leader. f leader ++ gained member leader) leaders

    Says : Bool → Type 0
    Says b = ((f leader ++ cond b (member ∷ []) []) ∷ grown) ++ last (b || has_one member leaders) ≡ joined (map f (leader ∷ leaders)) (cond (not b) (1 + rest) 0) member

    by : (b : Bool) → belong_together leader member ≡ b → grown ++ last (has_one member leaders) ≡ joined (map f leaders) rest member → Says (belong_together leader member)
    by true e on = subst Says (sym e) (append-nil _ ∙ ap (λ groups. (f leader ++ member ∷ []) ∷ groups) (others-same f leader member leaders e apart.0))
    by false e on = subst Says (sym e) (ap₂ (λ group groups. group ∷ groups) (append-nil (f leader)) on
        ∙ sym (ap (λ place. joined (map f (leader ∷ leaders)) place member) (one-add rest)))

-- the groups with one more member
pub groups-more : (member : Member) (members : List Member)
    → groups_of (members ++ member ∷ []) ≡ joined (groups_of members) (position_or_len (λ leader. belong_together leader member) (leaders_after [] members)) member
groups-more member members =
    ap (map with_last) (leaders-more member [] members)
    ∙ map-append with_last leaders _
    ∙ ap₂ (λ groups more. groups ++ more) (λ i. map (λ leader. filter-append (belong_together leader) members (member ∷ []) i) leaders) (new (has_one member members) refl)
    ∙ ap (λ b. map grown leaders ++ (if b then [] else (member ∷ []) ∷ [])) (leaders-cover member [] members)
    ∙ joins (λ leader. filter (belong_together leader) members) member leaders (leaders-Apart [] members)
  where
    leaders : List Member
    leaders = leaders_after [] members

    with_last : Member → List Member
    with_last leader = filter (belong_together leader) (members ++ member ∷ [])

    grown : Member → List Member
    grown leader = filter (belong_together leader) members ++ gained member leader

    new : (b : Bool) → has_one member members ≡ b → map with_last (if b then [] else member ∷ []) ≡ (if b then [] else (member ∷ []) ∷ [])
    new true there = refl
    new false none = ap (λ group. group ∷ []) (filter-append (belong_together member) members (member ∷ [])
        ∙ ap₂ (λ group b. group ++ cond b (member ∷ []) []) (has_none member members none) (together.refl member))

-- ---- keys

-- the keys of leaders find a member that belongs to one
pub keys-has_one : (member : Member) (leaders : List Member) → HasBoard member → All HasBoard leaders
    → list_any (same_key (group_key member)) (map group_key leaders) ≡ has_one member leaders
keys-has_one member [] has all = refl
keys-has_one member (leader ∷ leaders) has all =
    ap₂ (λ b c. b || c) (same-together member leader has (All-head HasBoard leader leaders all) ∙ together.symm member leader) (keys-has_one member leaders has (All-tail HasBoard leader leaders all))

keys-place : (member : Member) (leaders : List Member) → HasBoard member → All HasBoard leaders
    → position_or_len (same_key (group_key member)) (map group_key leaders) ≡ position_or_len (λ leader. belong_together leader member) leaders
keys-place member [] has all = refl
keys-place member (leader ∷ leaders) has all =
    ap₂ (λ b n. cond (not b) (1 + n) 0) (same-together member leader has (All-head HasBoard leader leaders all) ∙ together.symm member leader) (keys-place member leaders has (All-tail HasBoard leader leaders all))

pub keys-more : (member : Member) (members : List Member) → HasBoard member → All HasBoard members
    → map group_key (leaders_after [] (members ++ member ∷ [])) ≡ insert_key same_key (map group_key (leaders_after [] members)) (group_key member)
keys-more member members has all =
    ap (map group_key) (leaders-more member [] members) ∙ by (has_one member members)
    ∙ ap (λ b. if b then keys else keys ++ group_key member ∷ []) (leaders-cover member [] members ∙ sym (keys-has_one member leaders has (leaders-All HasBoard [] members all)))
  where
    leaders : List Member
    leaders = leaders_after [] members

    keys : List GroupKey
    keys = map group_key leaders

    by : (b : Bool) → map group_key (leaders ++ (if b then [] else member ∷ [])) ≡ (if b then keys else keys ++ group_key member ∷ [])
    by true = ap (map group_key) (append-nil leaders)
    by false = map-append group_key leaders (member ∷ [])

-- ---- what is kept

-- there are as many keys as groups
pub Gathers-length : {K : Type 0} (keeps : K → List Member → Type 0) (state : Gathered K) (members : List Member) → Gathers keeps state members
    → (length state.groups.items ≡ length state.keys.keys) × (length (groups_of members) ≡ length state.groups.items)
Gathers-length keeps state members gathers =
    let all = AllZip-long keeps state.groups.items (groups_of members) gathers.groups in
    let keys = ap length gathers.keys ∙ length-map (leaders_after [] members) group_key in
    (sym all ∙ length-map (leaders_after [] members) (λ leader. filter (belong_together leader) members) ∙ sym keys, all)

-- it grows by what is kept of one more member of the group with this key
module _ {K : Type 0} (keeps : K → List Member → Type 0) (old new : Gathered K) (members : List Member) (member : Member) (key : GroupKey)
    (own : key ≡ group_key member) (has : HasBoard member) (keyed : new.keys.keys ≡ insert_key same_key old.keys.keys key) (gathers : Gathers keeps old members) where
  abbrev leaders : List Member
  leaders = leaders_after [] members

  -- the place of the group
  abbrev there : ℕ
  there = position_or_len (λ leader. belong_together leader member) leaders

  key-there : position_or_len (same_key key) old.keys.keys ≡ there
  key-there =
      ap (λ key. position_or_len (same_key key) old.keys.keys) own ∙ ap (position_or_len (same_key (group_key member))) gathers.keys
      ∙ keys-place member leaders has (leaders-All HasBoard [] members gathers.boards)

  Gathers-more : AllZip keeps new.groups.items (joined (groups_of members) there member) → Gathers keeps new (members ++ member ∷ [])
  Gathers-more all = record {
    boards = boards-more members member gathers.boards has;
    keys = keyed ∙ ap₂ (insert_key same_key) gathers.keys own ∙ sym (keys-more member members has gathers.boards);
    groups = subst (AllZip keeps new.groups.items) (sym (groups-more member members)) all;
  }

  -- of a group that is there
  pub Gathers-joined : (place : ℕ) (before after : K) → IsPlaceAmong (length old.groups.items) (position_or_len (same_key key) old.keys.keys) (Some place)
      → before ≡ get_or old.groups.items place before → new.groups.items ≡ set old.groups.items place after → Gains keeps member before after → Gathers keeps new (members ++ member ∷ [])
  Gathers-joined place before after found here grouped gains =
      Gathers-more (subst₂ (AllZip keeps) (sym grouped) (ap (λ n. joined (groups_of members) n member) (found.0 ∙ key-there))
      (joined-there keeps old.groups.items (groups_of members) place before before after member found.1 gathers.groups here gains))

  -- of a new group
  pub Gathers-begun : (first : K) → IsPlaceAmong (length old.groups.items) (position_or_len (same_key key) old.keys.keys) None
      → new.groups.items ≡ old.groups.items ++ first ∷ [] → keeps first (member ∷ []) → Gathers keeps new (members ++ member ∷ [])
  Gathers-begun first found grouped begun =
      let long = Gathers-length keeps old members gathers in
      let few = prefix_len-le-length (λ other. not (same_key key other)) old.keys.keys in
      Gathers-more (subst (λ items. AllZip keeps items (joined (groups_of members) there member)) (sym grouped)
      (joined-last keeps old.groups.items (groups_of members) there first member (omega (arith, found, long.0, few, key-there)) gathers.groups begun))

-- ---- a group and its key

pub AllZip-at : {X Y : Type 0} (R : X → Y → Type 0) (xs : List X) (ys : List Y) (place : ℕ) (d : X) (e : Y) → AllZip R xs ys → place < length xs → R (get_or xs place d) (get_or ys place e)
AllZip-at R [] ys place d e all within = absurd (omega (arith, within))
AllZip-at R (x ∷ xs) [] place d e all within = absurd all
AllZip-at R (x ∷ xs) (y ∷ ys) zero d e all within = all.0
AllZip-at R (x ∷ xs) (y ∷ ys) (suc place) d e all within = AllZip-at R xs ys place d e all.1 (omega (arith, within))

-- the members of the group at a place have the key there
keyed-at : (members leaders : List Member) (place : ℕ) (key : GroupKey) → All HasBoard members → All HasBoard leaders → slice_get (map group_key leaders) place ≡ Some key
    → All (λ member. HasBoard member × (group_key member ≡ key)) (get_or (map (λ leader. filter (belong_together leader) members) leaders) place [])
keyed-at members [] place key boards led at = All-nil (λ member. HasBoard member × (group_key member ≡ key))
keyed-at members (leader ∷ leaders) zero key boards led at =
    let group = filter (belong_together leader) members in
    let has = All-head HasBoard leader leaders led in
    let kept = All-filter (belong_together leader) HasBoard members boards in
    let passes = filter_passes (belong_together leader) members in
    All-weaker (λ member. HasBoard member × (belong_together leader member ≡ true)) (λ member. HasBoard member × (group_key member ≡ key))
    (λ member pair. (pair.0, one_key leader member has pair.0 pair.1 ∙ ap (λ found. unwrap_or found key) at)) group (λ i d h. (kept i d h, passes i d h))
keyed-at members (leader ∷ leaders) (suc place) key boards led at = keyed-at members leaders place key boards (All-tail HasBoard leader leaders led) at

-- what is kept at a place is kept of the members there, and they have the key there
pub Gathers-at : {K : Type 0} (keeps : K → List Member → Type 0) (state : Gathered K) (members : List Member) (place : ℕ) (key : GroupKey) (d : K) → Gathers keeps state members
    → place < length state.groups.items → Some key ≡ slice_get state.keys.keys place
    → keeps (get_or state.groups.items place d) (get_or (groups_of members) place []) × All (λ member. HasBoard member × (group_key member ≡ key)) (get_or (groups_of members) place [])
Gathers-at keeps state members place key d gathers within at = (
  AllZip-at keeps state.groups.items (groups_of members) place d [] gathers.groups within,
  keyed-at members (leaders_after [] members) place key gathers.boards (leaders-All HasBoard [] members gathers.boards) (sym (at ∙ ap (λ keys. slice_get keys place) gathers.keys)),
)
