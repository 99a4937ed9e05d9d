-- What is written says what was found.
use Rattle.std.proofs.{Common.{◌++◌, ◌∙◌, ap₂, sym}, lemmas.List.Elements.{All-contains_itself, All-weaker}}
use Rattle.std.specs.List.{Contains}
use Rattle.{fc_board.specs.Games.{game_of}, fc_closed.specs.{IsUnsolvable}}
use Rattle.fc_collect.specs.{Closed.{finding_line}, Groups.{Member, members_among}, Records.{records_from}}
use Rattle.fc_laws.proofs.ClosedFindingLemmas.{counted_none, found_where, member_unsolvable, no_refusals, none_counted}
use Rattle.fc_laws.proofs.ClosedFindingLemmas.{written_closed}
use Rattle.fc_laws.proofs.collections.closed.what_is_written_closed_is_unsolvable.Goals as goal

pub returns-clause-unsolvable : goal.returns-clause-unsolvable
returns-clause-unsolvable c limits variant read written rest summary out begins =
    let records = records_from limits read in
    let (refused, none) = written_closed variant records rest (sym out.whole ∙ begins) in
    let members = members_among variant records in
    All-weaker (Contains members) (λ (member : Member). IsUnsolvable (game_of member.heading.variant) member.contents.board)
    (member_unsolvable variant records none) members (All-contains_itself members)

pub returns-clause-none_refused : goal.returns-clause-none_refused
returns-clause-none_refused c limits variant read written rest summary out begins =
    (written_closed variant (records_from limits read) rest (sym out.whole ∙ begins)).0

pub returns-clause-status : goal.returns-clause-status
returns-clause-status c limits variant read written summary out =
    let records = records_from limits read in (
      λ well.
          let (refused, none) = none_counted variant records (sym out.refused ∙ well) in
          let found = found_where variant records refused none in (
            _,
            out.whole ∙ ap₂ (λ front found. front ++ finding_line found) (no_refusals variant records refused) found,
          ),
      λ (rest, begins).
          let (refused, none) = written_closed variant records rest (sym out.whole ∙ begins) in out.refused ∙ counted_none variant records refused none,
    )
