-- What `closed` finds, found move by move and member by member.
use Rattle.std.proofs.Common.{◌++◌, ◌+◌, ◌<◌, ◌==◌, ◌↔◌, ◌∙◌, ◌≡◌, ◌≤◌, [], ap, append_assoc, ap₂, arith, Bool, cond}
use Rattle.std.proofs.Common.{drop, false, get_or, length, List, None, not, Option, refl, Some, subst, sym, true, ℕ}
use Rattle.std.proofs.lemmas.{List.{at_drop_more, drop_all, Elements.{All-nil}, length-map}, Slice.Zip.{AllZip-long}}
use Rattle.std.specs.{List.{find, list_all, list_any}, Option.{option_map, option_or}, Prelude.{IsTrue}}
use Rattle.fc_board.{proofs.{ListLemmas.{won-exactly}, RunPlayLemmas.{one_card}}, specs.Boards.{Board, IsWellFormed}}
use Rattle.fc_board.specs.{Games.{Game, game_of}, Moves.{Fits}, Play.{has_all_home, IsWon, OnlyLegal, Won as IsWin}}
use Rattle.fc_board.specs.Steps.{after_move}
use Rattle.fc_board.specs.declared.{moves.Move.{Move}, rule.Variant.{Variant}}
use Rattle.fc_bytes.specs.{declared.moves.MoveBytes.{MoveBytes}, legal_moves, move_bytes}
use Rattle.fc_collect.proofs.{GroupLemmas.{AllZip-at}, GroupNameLemmas.{found-before}, ShareLemmas.{nobody}}
use Rattle.fc_collect.proofs.TallyLemmas.{groups-long}
use Rattle.fc_collect.specs.Closed.{first_flawed, flaw_of, Flawed, leads_out, member_after, move_out, opened}
use Rattle.fc_collect.specs.{Groups.{groups_of, leaders_after, Member, name_of_member}, inside.{AreKeys, canonical_key}}
use Rattle.fc_collect.specs.inside.{group_key, HasBoard, IsOn, KeepsBoard, KeepsBoards, same_key}
use Rattle.fc_collect.specs.declared.commands.closed.{Flaw.{Flaw, TheVariants.{Open, Won}}, KeptBoard.{KeptBoard}}
use Rattle.fc_collect.specs.declared.{commands.closed.KeptBoards.{KeptBoards}, groups.GroupKey.{GroupKey}}

-- ---- a board that is won has all home

pub won_home : (board : Board) → IsWon board → has_all_home board ≡ true
won_home board won = ap (list_all (λ height. height == 13)) won

pub home_won : (game : Game) (board : Board) → IsWellFormed game board → has_all_home board ≡ true → IsWon board
home_won game board well home =
    let (after, same, won) = (won-exactly (one_card game) board [] (All-nil (Fits game)) well.piles.four_foundations).0 (ap (λ home. cond home IsWin OnlyLegal) home) in
    subst IsWon same won

pub all_home : (game : Game) (board : Board) (won : Bool) → IsWellFormed game board → IsTrue won ↔ IsWon board → has_all_home board ≡ won
all_home game board true well says = won_home board (says.0 refl)
all_home game board false well says = by (has_all_home board) refl
  where
    by : (home : Bool) → has_all_home board ≡ home → home ≡ false
    by false e = refl
    by true e = let no = says.1 (home_won game board well e) in cc

-- ---- a move

-- where the key of the board after a move is one of these, it stays in
pub kept_after : (keys : List GroupKey) (key : GroupKey) (variant : Variant) (board after : Board) (all : List Member) (member : Member) (move : Move) (kept : Bool)
    → AreKeys keys all → IsOn variant board member → after_move board move ≡ after → IsWellFormed (game_of variant) after
    → key.variant ≡ variant → key.board.codes.items ≡ canonical_key variant after → kept ≡ list_any (same_key key) keys
    → leads_out all member move ≡ not kept
kept_after keys key variant board after all member move kept are (named, held) leads well called codes found =
    let next = member_after member move in
    let same : next.contents.board ≡ after = ap (λ board. after_move board move) held ∙ leads in
    let has : HasBoard next = subst (λ variant. IsWellFormed (game_of variant) next.contents.board) (sym named) (subst (IsWellFormed (game_of variant)) (sym same) well) in
    let own : key ≡ group_key next = own_key (called ∙ sym named) (codes ∙ ap₂ canonical_key (sym named) (sym same)) in
    ap not (sym (found ∙ found-before keys key all next has are own))
  where
    own_key : key.variant ≡ member.heading.variant → key.board.codes.items ≡ canonical_key member.heading.variant (after_move member.contents.board move)
        → key ≡ group_key (member_after member move)
    own_key variant codes = λ i. record { variant = variant i; board = record { codes = record { items = codes i } } }

module _ (all : List Member) (member : Member) (legal : List Move) (at : ℕ) (blank : Move)
    (so_far : find (leads_out all member) legal ≡ find (leads_out all member) (drop at legal)) (inside : at < length legal) where
  here : find (leads_out all member) legal ≡ cond (leads_out all member (get_or legal at blank)) (Some (get_or legal at blank)) (find (leads_out all member) (drop (at + 1) legal))
  here = so_far ∙ at_drop_more (find (leads_out all member)) legal at blank inside

  pub found_out : (bytes : MoveBytes) → bytes ≡ move_bytes (get_or legal at blank) → leads_out all member (get_or legal at blank) ≡ true
      → Some (Open bytes) ≡ opened (find (leads_out all member) legal)
  found_out bytes same out =
      ap (λ bytes. Some (Open bytes)) same
      ∙ sym (ap opened (here ∙ ap (λ b. cond b (Some (get_or legal at blank)) (find (leads_out all member) (drop (at + 1) legal))) out))

  pub not_out : leads_out all member (get_or legal at blank) ≡ false → find (leads_out all member) legal ≡ find (leads_out all member) (drop (at + 1) legal)
  not_out stays = here ∙ ap (λ b. cond b (Some (get_or legal at blank)) (find (leads_out all member) (drop (at + 1) legal))) stays

pub none_out : (all : List Member) (member : Member) (legal : List Move) (at : ℕ) → find (leads_out all member) legal ≡ find (leads_out all member) (drop at legal)
    → length legal ≤ at → None ≡ opened (find (leads_out all member) legal)
none_out all member legal at so_far end = sym (ap opened (so_far ∙ ap (find (leads_out all member)) (drop_all at legal end)))

-- ---- a member

pub open_flaw : (all : List Member) (member : Member) (game : Game) (variant : Variant) (board : Board) (flaw : Option Flaw) → IsOn variant board member → game ≡ game_of variant
    → has_all_home board ≡ false → flaw ≡ opened (find (leads_out all member) (legal_moves game board)) → flaw ≡ flaw_of all member
open_flaw all member game variant board flaw (named, held) played home found =
    found
    ∙ ap₂ (λ game board. opened (find (leads_out all member) (legal_moves game board))) (played ∙ ap game_of (sym named)) (sym held)
    ∙ sym (ap (λ home. cond home (Some Won) (opened (move_out all member))) (ap has_all_home held ∙ home))

-- ---- all members

module _ (kept : KeptBoards) (members : List Member) (keeps : KeepsBoards kept members) (at : ℕ)
    (so_far : first_flawed members members ≡ first_flawed members (drop at members)) where
  module _ (held : KeptBoard) (inside : at < length kept.boards.items) where
    abbrev pub member : Member
    member = get_or members at nobody

    pub is_kept : (items : List KeptBoard) → items ≡ kept.boards.items → held ≡ get_or items at held → KeepsBoard held member
    is_kept items same here =
        subst (λ held. KeepsBoard held member) (sym (here ∙ ap (λ items. get_or items at held) same)) (AllZip-at KeepsBoard kept.boards.items members at held nobody keeps.each inside)

    one : first_flawed members members ≡ option_or (option_map (Flawed (name_of_member member)) (flaw_of members member)) (first_flawed members (drop (at + 1) members))
    one = so_far ∙ at_drop_more (first_flawed members) members at nobody (omega (arith, inside, AllZip-long KeepsBoard kept.boards.items members keeps.each))

    pub flaw_found : (name : List ℕ) (flaw : Flaw) → name ≡ name_of_member member → Some flaw ≡ flaw_of members member → first_flawed members members ≡ Some (Flawed name flaw)
    flaw_found name flaw called found =
        one ∙ ap₂ (λ name flaw. option_or (option_map (Flawed name) flaw) (first_flawed members (drop (at + 1) members))) (sym called) (sym found)

    pub no_flaw : None ≡ flaw_of members member → first_flawed members members ≡ first_flawed members (drop (at + 1) members)
    no_flaw none = one ∙ ap (λ flaw. option_or (option_map (Flawed (name_of_member member)) flaw) (first_flawed members (drop (at + 1) members))) (sym none)

  pub none_flawed : length kept.boards.items ≤ at → first_flawed members members ≡ None
  none_flawed end = so_far ∙ ap (first_flawed members) (drop_all at members (omega (arith, end, AllZip-long KeepsBoard kept.boards.items members keeps.each)))

pub classes_counted : (keys : List GroupKey) (members : List Member) → AreKeys keys members → length keys ≡ length (groups_of members)
classes_counted keys members are = ap length are.0 ∙ length-map (leaders_after [] members) group_key ∙ sym (groups-long members)

-- ---- what is printed, text after text

pub three-pushed : (old a b new t1 t2 t3 : List ℕ) → a ≡ old ++ t1 → b ≡ a ++ t2 → new ≡ b ++ t3 → new ≡ old ++ (t1 ++ (t2 ++ t3))
three-pushed old a b new t1 t2 t3 p q r = r ∙ ap (λ l. l ++ t3) (q ∙ ap (λ l. l ++ t2) p) ∙ simp append_assoc

pub five-pushed : (old a b c d new t1 t2 t3 t4 t5 : List ℕ) → a ≡ old ++ t1 → b ≡ a ++ t2 → c ≡ b ++ t3 → d ≡ c ++ t4 → new ≡ d ++ t5
    → new ≡ old ++ (t1 ++ ((t2 ++ (t3 ++ t4)) ++ t5))
five-pushed old a b c d new t1 t2 t3 t4 t5 p q r s t =
    t ∙ ap (λ l. l ++ t5) (s ∙ ap (λ l. l ++ t4) (r ∙ ap (λ l. l ++ t3) (q ∙ ap (λ l. l ++ t2) p))) ∙ simp append_assoc
