use Rattle.{fc_collect.proofs.KeyedLemmas.{compared}, indexmap.specs.IndexSet.{insert_key}}
use Rattle.std.{proofs.Common.{◌∙◌, ap, not}, specs.List.{list_any}}
use Rattle.fc_collect.proofs.commands.unique.keep_key.Goals as goal

pub returns-in-Ok-clause-added : goal.returns-in-Ok-clause-added
returns-in-Ok-clause-added c = c.in-Ok.ensures.added ∙ ap (λ same. not (list_any (same c.args.key) c.args.keys.now.keys)) compared

pub returns-in-Ok-clause-keys : goal.returns-in-Ok-clause-keys
returns-in-Ok-clause-keys c = c.in-Ok.ensures.keys ∙ ap (λ same. insert_key same c.args.keys.now.keys c.args.key) compared
