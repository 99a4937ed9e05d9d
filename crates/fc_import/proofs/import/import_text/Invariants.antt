use Rattle.std.proofs.Common.{◌-◌, ◌<◌, ◌≡◌, ◌≤◌, [], drop, length, None, take, true}
use Rattle.{fc_import.specs.{Import.{IsPrinted}, inside.{IsMade}}, fc_record.specs.RecordTexts.{ends_line}}
use Rattle.fc_import.proofs.import.import_text.Given as goal

abbrev pub invariant-loop-at : goal.invariant-loop-at
invariant-loop-at g l = record {
  within : l.at ≤ length l.text;
  whole : l.at < length l.text → ends_line (take l.at l.text) ≡ true;
  kept : IsPrinted g.R.Rule.VARIANT g.R.Rule.game None l.text
      → IsPrinted g.R.Rule.VARIANT g.R.Rule.game l.importer.made.last (drop l.at l.text)
      × (l.importer.made.written.items ≡ take l.at l.text) × (l.importer.made.notes.items ≡ []);
  so_far : IsMade g.R.Rule.VARIANT l.initial.importer.made.options g.R.Rule.game (take l.at l.text) l.importer.made;
}

abbrev pub decreases-loop-at : goal.decreases-loop-at
decreases-loop-at g l = length l.text - l.at
