use Rattle.std.{proofs.Common.{◌-◌, ◌∙◌, ap, length, refl}, specs.List.{count_by}}
use Rattle.fc_collect.proofs.TallyLemmas.{figures-found}
use Rattle.fc_collect.proofs.commands.count.Tally.figures.Goals as goal

pub returns : goal.returns
returns c members keeps =
    let kept = c.args.self.now in
    let flags = c.as_slice-groups.ensures.value in
    figures-found kept c.args.summary members (record {
      records = c.args.summary.records;
      refused = c.args.summary.refused;
      groups = length c.as_slice-groups.result.now;
      doubles = c.saturating_sub.result;
      lists = kept.lists;
      wins = kept.wins;
      solved = c.count_true.result;
    }) keeps refl refl (ap length flags) (c.saturating_sub.ensures ∙ ap (λ flags. kept.members - length flags) flags) refl refl (c.count_true.ensures ∙ ap (count_by (λ flag. flag)) flags)
