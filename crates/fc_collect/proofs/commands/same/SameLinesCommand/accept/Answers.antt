-- A later member is printed by the first one, whose canonical text is kept.
use Rattle.std.proofs.{Common.{refl}, lemmas.Result.{on_ok_weaker}}
use Rattle.fc_record.specs.Grammar.{contents_seen, heading_seen}
use Rattle.fc_collect.{proofs.SameLemmas.{canon-kept, first-kept, same-printed}, specs.inside.{member_of}}
use Rattle.fc_collect.proofs.commands.same.SameLinesCommand.accept.Goals as goal

pub returns-in-Some-clause-printed : goal.returns-in-Some-clause-printed
returns-in-Some-clause-printed g c =
    on_ok_weaker c.push_found.result (λ printed members keeps.
    same-printed c.args.kept.now c.in-Some.first members c.args.accepted.number (heading_seen g.R.Rule.VARIANT c.args.accepted.heading) (contents_seen c.args.accepted.contents) _ _ _ c.passage_to.result
    c.in-Some.is c.passage_to.ensures c.in_ok-push_name-in-Some.ensures.printed printed keeps) c.push_found.ensures.printed

pub returns-clause-kept : goal.returns-clause-kept
returns-clause-kept g c = λ members keeps.
    let named = g.met.R.Rule.named in
    let member = member_of c.args.accepted.number (heading_seen g.R.Rule.VARIANT c.args.accepted.heading) (contents_seen c.args.accepted.contents) in
    let canon = c.any_canon.ensures in
    first-kept c.args.kept.now members c.any_canon.result member c.in-None.is
    (canon-kept c.any_canon.result member g.R.Rule.VARIANT g.R.Rule.game g.R.Rule.renamings (named.game_is _ refl) (named.renamings_are _ refl) canon.variant refl _ refl canon.canon) keeps
