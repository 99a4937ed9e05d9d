use Rattle.fc_import.proofs.TakingLemmas.{begun}
use Rattle.fc_import.proofs.made.Made.new.Goals as goal

pub returns-clause-made : goal.returns-clause-made
returns-clause-made g c =
    begun g.R.Rule.VARIANT c.args.options g.R.Rule.game _ _ _ _ c.new-3.ensures.items c.new.ensures.items
    c.new-2.ensures.items c.of.ensures
