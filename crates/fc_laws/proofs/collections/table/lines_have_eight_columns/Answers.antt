use Rattle.{fc_text.specs.Bytes.{tab}, std.{proofs.Common.{refl}, specs.List.{join_with_byte}}}
use Rattle.{fc_laws.proofs.TableLawLemmas.{eight_columns}, fc_record.specs.Tables.{column_names}}
use Rattle.fc_laws.proofs.collections.table.lines_have_eight_columns.Goals as goal

pub returns-clause-header : goal.returns-clause-header
returns-clause-header c = (join_with_byte tab column_names, refl, refl)

pub returns-clause-fields : goal.returns-clause-fields
returns-clause-fields c = eight_columns
