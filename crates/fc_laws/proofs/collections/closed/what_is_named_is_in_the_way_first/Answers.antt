use Rattle.std.{proofs.lemmas.List.Elements.{All-contains_itself, All-weaker}, specs.List.{Contains}}
use Rattle.fc_collect.specs.Groups.{Member, members_among, summary_of}
use Rattle.fc_laws.proofs.ClosedFindingLemmas.{each_flawless, wells}
use Rattle.fc_laws.proofs.FlawedLemmas.{first_flawed_named, refused_first, shut_in}
use Rattle.fc_laws.proofs.collections.closed.what_is_named_is_in_the_way_first.Goals as goal
use Rattle.fc_laws.specs.Findings.{IsShutIn}

pub returns-clause-named : goal.returns-clause-named
returns-clause-named c variant records name flaw found =
    first_flawed_named (members_among variant records) (wells variant records)
    (summary_of variant records) name flaw found

pub returns-clause-refused : goal.returns-clause-refused
returns-clause-refused c variant records count found =
    let members = members_among variant records in
    let (none, counted, some) = refused_first (summary_of variant records) members count found in (
      counted,
      some,
      All-weaker (Contains members) (IsShutIn members)
          (λ (member : Member) there. shut_in members (wells variant records) member there
          (each_flawless members members none member there)) members (All-contains_itself members),
    )
