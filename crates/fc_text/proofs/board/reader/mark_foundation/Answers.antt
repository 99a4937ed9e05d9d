use Rattle.std.proofs.{Common.{◌≤◌, refl, subst, sym}, lemmas.Bool.{both_ways}}
use Rattle.fc_card.specs.{CountsNoneUpTo, CountsUpTo}
use Rattle.fc_text.proofs.SeeingLemmas.{counted_seen, home_counted, home_not_seen, home_was_seen}
use Rattle.fc_text.proofs.board.reader.mark_foundation.Goals as goal

pub returns-then-contains_up_to : goal.returns-then-contains_up_to
returns-then-contains_up_to c = (
  home_was_seen c.args.seen.now c.args.suit c.args.height c.requires (subst (λ n. n ≤ 13) c.get.ensures.value c.get.ensures.at_most_a_suit)
      (λ none. both_ways _ (c.contains_up_to.ensures.1 (subst (λ suit. CountsNoneUpTo c.args.seen.now suit c.get.result) (sym c.from_number-suit.ensures) (subst (CountsNoneUpTo c.args.seen.now c.args.suit) (sym c.get.ensures.value) none))) c.if-contains_up_to.true),
  refl,
  refl,
)

pub returns : goal.returns
returns c =
    let none = subst (λ suit. CountsNoneUpTo c.args.seen.now suit c.get.result) c.from_number-suit.ensures (c.contains_up_to.ensures.0 c.if-contains_up_to.false) in
    let more = subst (λ suit. CountsUpTo c.args.seen.now c.insert_up_to.new.self suit c.get-2.result) c.from_number-suit.ensures c.insert_up_to.ensures in
    let few = subst (λ n. n ≤ 13) c.get.ensures.value c.get.ensures.at_most_a_suit in (
      home_not_seen c.args.seen.now c.args.suit c.args.height c.requires few (subst (CountsNoneUpTo c.args.seen.now c.args.suit) c.get.ensures.value none),
      counted_seen _ _ _ (home_counted c.args.seen.now c.insert_up_to.new.self c.args.suit c.args.height c.requires
          (subst (CountsUpTo c.args.seen.now c.insert_up_to.new.self c.args.suit) c.get-2.ensures.value more)),
    )
