use Rattle.{fc_laws.proofs.VerdictLineLemmas.{says-illegal, says-legal, says-wins}, std.proofs.Common.{arith}}
use Rattle.fc_collect.{proofs.MemberLemmas.{member-Can, member-IsWellFormed}, specs.Records.{records_of}}
use Rattle.fc_laws.proofs.collections.lists.check_says_what_lists_do.Goals as goal

pub returns : goal.returns
returns c = record {
  wins = λ variant collection name member number list there listed.
      says-wins _ member.contents.board list (member-Can variant (records_of collection) member list there listed).0
      (member-IsWellFormed variant (records_of collection) member there).piles.four_foundations name number;
  legal = λ variant collection name member number list there listed.
      says-legal _ member.contents.board list (member-Can variant (records_of collection) member list there listed).0
      (member-IsWellFormed variant (records_of collection) member there).piles.four_foundations name number;
  illegal = λ variant collection name member number index list fault there listed.
      let can = member-Can variant (records_of collection) member list there listed in
      says-illegal _ member.contents.board list can.0
      (member-IsWellFormed variant (records_of collection) member there).piles.four_foundations name number index fault (omega (arith, can.1));
}
