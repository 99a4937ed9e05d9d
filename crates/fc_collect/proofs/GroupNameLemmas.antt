-- What was printed part by part is what is printed for a group.
use Rattle.{fc_text.specs.Bytes.{blank, line_feed}, indexmap.specs.IndexSet.{insert_key}}
use Rattle.std.proofs.Common.{◌&&◌, ◌++◌, ◌||◌, ◌↔◌, ◌∙◌, ◌∷◌, ◌≡◌, [], All, ap, append-nil, append_assoc, ap₂, arith}
use Rattle.std.proofs.Common.{Bool, codes, cond, Contains, decimal, false, filter, flat_map, length, List, map, not}
use Rattle.std.proofs.{Common.{refl, subst, sym, take, true, true≢false, ℕ}, lemmas.List.Folds.{list_any_at}}
use Rattle.std.proofs.{lemmas.Slice.Eq.{bytes_eq-Decides}, Math.Seq.{take-append_seam}}
use Rattle.std.specs.List.{join_with_byte, list_any}
use Rattle.fc_board.specs.{Boards.{Board, IsWellFormed}, Games.{game_of, renamings_of, variant_word}}
use Rattle.fc_board.specs.laws.RenamingTests.{bakers_game_laws, eight_off_laws, freecell_laws}
use Rattle.fc_board.specs.declared.rule.Variant.{TheVariants.{BakersGame, EightOff, FreeCell}, Variant}
use Rattle.fc_canon.{proofs.LeastTextLemmas.{one_least_text_where_equivalent}, specs.{Equivalent, least_text}}
use Rattle.fc_record.specs.{Grammar.{Contents, Heading}, Printing.{header_text, show_lines}}
use Rattle.fc_collect.proofs.GroupLemmas.{Apart, has_one, keys-has_one, keys-more, leaders-Apart, leaders-cover}
use Rattle.fc_collect.proofs.{GroupLemmas.{together}, KeyedLemmas.{boards-more, leaders-All, one_text, one_variant}}
use Rattle.fc_collect.specs.Groups.{belong_together, canonical_text, group_lines, leaders_after, Member, name_of_member}
use Rattle.fc_collect.specs.Groups.{unique_lines}
use Rattle.fc_collect.specs.inside.{AreKeys, AreNames, group_key, HasBoard, KeepsNames, member_of, name_word, same_key}
use Rattle.fc_collect.specs.declared.{commands.names.GroupNames.{GroupNames}, groups.GroupKey.{GroupKey}}

seven_parts : (old a b c d e f new header mark count colon names end text : List ℕ) → a ≡ old ++ header → b ≡ a ++ mark → c ≡ b ++ count → d ≡ c ++ colon
    → e ≡ d ++ names → f ≡ e ++ end → new ≡ f ++ text → new ≡ old ++ (header ++ ((mark ++ (count ++ (colon ++ (names ++ end)))) ++ text))
seven_parts old a b c d e f new header mark count colon names end text one two three four five six seven =
    seven ∙ ap (λ front. front ++ text) (six ∙ ap (λ front. front ++ end) (five ∙ ap (λ front. front ++ names) (four ∙ ap (λ front. front ++ colon)
    (three ∙ ap (λ front. front ++ count) (two ∙ ap (λ front. front ++ mark) one)))))
    ∙ simp append_assoc

as_defined : (old header mark count colon names end text : List ℕ)
    → old ++ (header ++ ((mark ++ (count ++ (colon ++ (names ++ end)))) ++ text)) ≡ old ++ (header ++ (mark ++ count ++ colon ++ names ++ end) ++ text)
as_defined old header mark count colon names end text = simp append_assoc

blank_between : (first : Member) (others : List Member)
    → name_of_member first ++ flat_map name_word others ≡ join_with_byte blank (map name_of_member (first ∷ others))
blank_between first [] = append-nil (name_of_member first)
blank_between first (next ∷ others) = ap (λ rest. name_of_member first ++ blank ∷ rest) (blank_between next others)

first_name : (kept : GroupNames) (first : Member) (others : List Member) → AreNames kept first others → take kept.first_len kept.names.items ≡ name_of_member first
first_name kept first others are =
    (λ i. take (are.first_len i) (are.names i)) ∙ take-append_seam (name_of_member first) (flat_map name_word others)

-- the lines for a group, by its key and the names of its members
pub group-printed : (key : GroupKey) (kept : GroupNames) (members : List Member) (old a b c d e f new : List ℕ)
    → KeepsNames kept members → All HasBoard members → All (λ member. group_key member ≡ key) members
    → a ≡ old ++ header_text key.variant (take kept.first_len kept.names.items) → b ≡ a ++ codes "# members " → c ≡ b ++ decimal kept.count → d ≡ c ++ codes ": "
    → e ≡ d ++ kept.names.items → f ≡ e ++ line_feed ∷ [] → ((member : Member) → HasBoard member → group_key member ≡ key → new ≡ f ++ canonical_text member) → new ≡ old ++ group_lines members
group-printed key kept [] old a b c d e f new keeps boards keyed one two three four five six printed = absurd keeps
group-printed key kept (member ∷ members) old a b c d e f new keeps boards keyed one two three four five six printed =
    let own : group_key member ≡ key = keyed 0 member (omega arith) in
    let seven = printed member (boards 0 member (omega arith)) own in
    let called = first_name kept member members keeps in
    let listed = keeps.names ∙ blank_between member members in
    let counted : kept.count ≡ length (member ∷ members) = omega (arith, keeps.count) in
    seven_parts old a b c d e f new _ _ _ _ _ _ _ one two three four five six seven
    ∙ (λ i. old ++ (header_text (sym own i).variant (called i) ++ ((codes "# members " ++ (decimal (counted i) ++ (codes ": " ++ (listed i ++ line_feed ∷ [])))) ++ canonical_text member)))
    ∙ as_defined old (header_text member.heading.variant (name_of_member member)) (codes "# members ") (decimal (length (member ∷ members))) (codes ": ")
    (join_with_byte blank (map name_of_member (member ∷ members))) (line_feed ∷ []) (canonical_text member)

-- ---- members belong together exactly where their boards are equivalent, and each has one leader
one_least : (variant : Variant) (board other : Board) → IsWellFormed (game_of variant) board → IsWellFormed (game_of variant) other
    → Equivalent (game_of variant) board other ↔ (least_text (renamings_of variant) board ≡ least_text (renamings_of variant) other)
one_least FreeCell = one_least_text_where_equivalent freecell_laws
one_least BakersGame = one_least_text_where_equivalent bakers_game_laws
one_least EightOff = one_least_text_where_equivalent eight_off_laws

-- the canonical text of the other in the variant of the first
text-in : (member other : Member) → member.heading.variant ≡ other.heading.variant → least_text (renamings_of member.heading.variant) other.contents.board ≡ canonical_text other
text-in member other same = ap (λ variant. least_text (renamings_of variant) other.contents.board) same

pub together-Equivalent : (member other : Member) → IsWellFormed (game_of member.heading.variant) member.contents.board
    → IsWellFormed (game_of other.heading.variant) other.contents.board
    → (belong_together member other ≡ true)
    ↔ ((member.heading.variant ≡ other.heading.variant) × Equivalent (game_of member.heading.variant) member.contents.board other.contents.board)
together-Equivalent member other well other_well = (ahead, back)
  where
    texts : member.heading.variant ≡ other.heading.variant
        → Equivalent (game_of member.heading.variant) member.contents.board other.contents.board
        ↔ (least_text (renamings_of member.heading.variant) member.contents.board ≡ least_text (renamings_of member.heading.variant) other.contents.board)
    texts same = one_least member.heading.variant member.contents.board other.contents.board well
        (subst (λ variant. IsWellFormed (game_of variant) other.contents.board) (sym same) other_well)

    ahead : belong_together member other ≡ true
        → (member.heading.variant ≡ other.heading.variant) × Equivalent (game_of member.heading.variant) member.contents.board other.contents.board
    ahead e =
        let same = sym (one_variant member other e) in
        (same, (texts same).1 (one_text member other e ∙ sym (text-in member other same)))

    back : (member.heading.variant ≡ other.heading.variant) × Equivalent (game_of member.heading.variant) member.contents.board other.contents.board
        → belong_together member other ≡ true
    back pair = ap₂ (λ a b. a && b) ((bytes_eq-Decides _ _).1 (ap variant_word pair.0))
        ((bytes_eq-Decides _ _).1 ((texts pair.0).0 pair.1 ∙ text-in member other pair.0))

-- ---- one leader

pub has_one-Contains : (members : List Member) (member : Member) → Contains members member → has_one member members ≡ true
has_one-Contains members member there =
    list_any_at (λ other. belong_together other member) members there.0 member there.1 (ap (λ other. belong_together other member) there.2 ∙ together.refl member)

no_leader : (member : Member) (leaders : List Member) → has_one member leaders ≡ false → filter (λ leader. belong_together leader member) leaders ≡ []
no_leader member [] none = refl
no_leader member (leader ∷ leaders) none = by (belong_together leader member) none (no_leader member leaders)
  where
    by : (b : Bool) → (b || has_one member leaders) ≡ false → (has_one member leaders ≡ false → filter (λ leader. belong_together leader member) leaders ≡ [])
        → cond b (leader ∷ filter (λ leader. belong_together leader member) leaders) (filter (λ leader. belong_together leader member) leaders) ≡ []
    by true none on = absurd (true≢false none)
    by false none on = on none

-- who belongs to a leader finds whom the leader finds
found_alike : (leader member : Member) (others : List Member) → belong_together leader member ≡ true → has_one member others ≡ list_any (belong_together leader) others
found_alike leader member [] e = refl
found_alike leader member (other ∷ others) e =
    ap₂ (λ a b. a || b) (together.symm other member ∙ sym (together.congr leader member other e)) (found_alike leader member others e)

pub one_apart : (member : Member) (leaders : List Member) → Apart leaders → has_one member leaders ≡ true → length (filter (λ leader. belong_together leader member) leaders) ≡ 1
one_apart member [] apart there = absurd (true≢false (sym there))
one_apart member (leader ∷ leaders) apart there = by (belong_together leader member) refl there (one_apart member leaders apart.1)
  where
    rest : List Member
    rest = filter (λ leader. belong_together leader member) leaders

    by : (b : Bool) → belong_together leader member ≡ b → (b || has_one member leaders) ≡ true → (has_one member leaders ≡ true → length rest ≡ 1) → length (cond b (leader ∷ rest) rest) ≡ 1
    by true e there on = ap (λ others. length (leader ∷ others)) (no_leader member leaders (found_alike leader member leaders e ∙ apart.0))
    by false e there on = on there

pub one_leader : (members : List Member) (member : Member) → Contains members member
    → length (filter (λ leader. belong_together leader member) (leaders_after [] members)) ≡ 1
one_leader members member there =
    one_apart member (leaders_after [] members) (leaders-Apart [] members) (sym (leaders-cover member [] members) ∙ has_one-Contains members member there)

-- ---- what is kept

-- ---- which records `unique` prints, and what is read of them again

-- they find a member that belongs to an earlier one
pub found-before : (keys : List GroupKey) (key : GroupKey) (members : List Member) (member : Member) → HasBoard member → AreKeys keys members → key ≡ group_key member
    → list_any (same_key key) keys ≡ has_one member members
found-before keys key members member has kept own =
    ap₂ (λ key keys. list_any (same_key key) keys) own kept.0 ∙ keys-has_one member (leaders_after [] members) has (leaders-All HasBoard [] members kept.1) ∙ sym (leaders-cover member [] members)

-- and with its key they are those of one member more
pub AreKeys-more : (old new : List GroupKey) (key : GroupKey) (members : List Member) (member : Member) → HasBoard member → key ≡ group_key member → new ≡ insert_key same_key old key
    → AreKeys old members → AreKeys new (members ++ member ∷ [])
AreKeys-more old new key members member has own inserted kept = (
  inserted ∙ ap₂ (λ keys key. insert_key same_key keys key) kept.0 own ∙ sym (keys-more member members has kept.1),
  boards-more members member kept.1 has,
)

module _ (keys : List GroupKey) (key : GroupKey) (is_new : Bool) (members : List Member) (number : ℕ) (heading : Heading) (contents : Contents)
    (has : HasBoard (member_of number heading contents)) (own : key ≡ group_key (member_of number heading contents)) (ensured : is_new ≡ not (list_any (same_key key) keys)) where
  by_key : AreKeys keys members → is_new ≡ not (has_one (member_of number heading contents) members)
  by_key kept = ensured ∙ ap not (found-before keys key members (member_of number heading contents) has kept own)

  -- a member that belongs to an earlier one gets no lines
  pub unique-none : AreKeys keys members → is_new ≡ false → unique_lines members number heading contents ≡ []
  unique-none kept later = by_test (has_one (member_of number heading contents) members) (sym (by_key kept) ∙ later)
    where
      by_test : (b : Bool) → not b ≡ false → cond b [] (show_lines number heading contents) ≡ []
      by_test true e = refl
      by_test false e = absurd (true≢false e)

  -- and any other those of `show`
  pub unique-one : AreKeys keys members → is_new ≡ true → unique_lines members number heading contents ≡ show_lines number heading contents
  unique-one kept first = by_test (has_one (member_of number heading contents) members) (sym (by_key kept) ∙ first)
    where
      by_test : (b : Bool) → not b ≡ true → cond b [] (show_lines number heading contents) ≡ show_lines number heading contents
      by_test true e = absurd (true≢false (sym e))
      by_test false e = refl
