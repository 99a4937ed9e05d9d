-- Where what is printed for a record goes by none before it, records are printed each by itself.
use Rattle.std.{proofs.Common.{◌∙◌, [], ap}, specs.List.{count_by}}
use Rattle.fc_record.specs.Printing.{canon_lines, check_lines, expand_lines, is_refused, printed, printed_with}
use Rattle.fc_record.specs.{Printing.{show_lines, symmetry_lines}, Tables.{refusal_object}}
use Rattle.fc_collect.{proofs.HeadedLemmas.{Runs-alone}, specs.{Closed.{has_flaw, refused_with}, Runs.{ending_of_kind}}}
use Rattle.fc_collect.specs.declared.commands.{CountFormat.TheVariants.{Json, Words}, RunKind.TheVariants.{Canon}}
use Rattle.fc_collect.specs.declared.commands.RunKind.TheVariants.{Check, Closed, Count, Expand, Group, Share, Show}
use Rattle.fc_collect.specs.declared.commands.RunKind.TheVariants.{Symmetries}
use Rattle.fc_collect.proofs.commands.run_within.Goals as goal

pub returns-in-Show : goal.returns-in-Show
returns-in-Show g c =
    let ensured = c.run_records.ensures in
    rw c.in-Show.is
    (Runs-alone c.args.config.limits (printed show_lines c.args.config.variant) (ending_of_kind Show c.args.config.variant) (count_by (is_refused c.args.config.variant)) _ _
    c.run_records.result ensured.read_counted ensured.write_counted ensured.wrote)

pub returns-in-Canon : goal.returns-in-Canon
returns-in-Canon g c =
    let ensured = c.run_records-in-Canon.ensures in
    rw c.in-Canon.is
    (Runs-alone c.args.config.limits (printed canon_lines c.args.config.variant) (ending_of_kind Canon c.args.config.variant) (count_by (is_refused c.args.config.variant)) _ _
    c.run_records-in-Canon.result ensured.read_counted ensured.write_counted ensured.wrote)

pub returns-in-Check : goal.returns-in-Check
returns-in-Check g c =
    let ensured = c.run_records-in-Check.ensures in
    rw c.in-Check.is
    (Runs-alone c.args.config.limits (printed check_lines c.args.config.variant) (ending_of_kind Check c.args.config.variant) (count_by (is_refused c.args.config.variant)) _ _
    c.run_records-in-Check.result ensured.read_counted ensured.write_counted ensured.wrote)

pub returns-in-Expand : goal.returns-in-Expand
returns-in-Expand g c =
    let ensured = c.run_records-in-Expand.ensures in
    rw c.in-Expand.is
    (Runs-alone c.args.config.limits (printed expand_lines c.args.config.variant) (ending_of_kind Expand c.args.config.variant) (count_by (is_refused c.args.config.variant)) _ _
    c.run_records-in-Expand.result ensured.read_counted ensured.write_counted ensured.wrote)

pub returns-in-Symmetries : goal.returns-in-Symmetries
returns-in-Symmetries g c =
    let ensured = c.run_records-in-Symmetries.ensures in
    rw c.in-Symmetries.is
    (Runs-alone c.args.config.limits (printed symmetry_lines c.args.config.variant) (ending_of_kind Symmetries c.args.config.variant) (count_by (is_refused c.args.config.variant)) _ _
    c.run_records-in-Symmetries.result ensured.read_counted ensured.write_counted ensured.wrote)

pub returns-in-Group : goal.returns-in-Group
returns-in-Group g c =
    let ensured = c.run_records-in-Group.ensures in
    rw c.in-Group.is
    (Runs-alone c.args.config.limits (printed (λ number heading contents. []) c.args.config.variant) (ending_of_kind Group c.args.config.variant) (count_by (is_refused c.args.config.variant)) _ _
    c.run_records-in-Group.result ensured.read_counted ensured.write_counted ensured.wrote)

pub returns-in-Share : goal.returns-in-Share
returns-in-Share g c =
    let ensured = c.run_records-in-Share.ensures in
    rw c.in-Share.is
    (Runs-alone c.args.config.limits (printed (λ number heading contents. []) c.args.config.variant) (ending_of_kind Share c.args.config.variant) (count_by (is_refused c.args.config.variant)) _ _
    c.run_records-in-Share.result ensured.read_counted ensured.write_counted ensured.wrote)

pub returns-in-Unique : goal.returns-in-Unique
returns-in-Unique g c =
    let ensured = c.run_records-in-Unique.ensures in
    rw c.in-Unique.is (record { read_counted = ensured.read_counted; write_counted = ensured.write_counted; wrote = ensured.wrote })

pub returns-in-Same : goal.returns-in-Same
returns-in-Same g c =
    let ensured = c.run_records-in-Same.ensures in
    rw c.in-Same.is (record { read_counted = ensured.read_counted; write_counted = ensured.write_counted; wrote = ensured.wrote })

pub returns-in-Count-Words : goal.returns-in-Count-Words
returns-in-Count-Words g c =
    let ensured = c.run_records-in-Count-Words.ensures in
    let format = rw c.in-Count-Words.is at c.in-Count-Words.field-0-is in
    rw (c.in-Count-Words.is ∙ ap Count format)
    (Runs-alone c.args.config.limits (printed (λ number heading contents. []) c.args.config.variant) (ending_of_kind (Count Words) c.args.config.variant) (count_by (is_refused c.args.config.variant)) _ _
    c.run_records-in-Count-Words.result ensured.read_counted ensured.write_counted ensured.wrote)

pub returns-in-Count-Json : goal.returns-in-Count-Json
returns-in-Count-Json g c =
    let ensured = c.run_records-in-Count-Json.ensures in
    let format = rw c.in-Count-Json.is at c.in-Count-Json.field-0-is in
    rw (c.in-Count-Json.is ∙ ap Count format)
    (Runs-alone c.args.config.limits (printed_with refusal_object (λ number heading contents. []) c.args.config.variant) (ending_of_kind (Count Json) c.args.config.variant) (count_by (is_refused c.args.config.variant)) _ _
    c.run_records-in-Count-Json.result ensured.read_counted ensured.write_counted ensured.wrote)

pub returns-in-Closed-Words : goal.returns-in-Closed-Words
returns-in-Closed-Words g c =
    let ensured = c.run_records-in-Closed-Words.ensures in
    let format = rw c.in-Closed-Words.is at c.in-Closed-Words.field-0-is in
    rw (c.in-Closed-Words.is ∙ ap Closed format)
    (Runs-alone c.args.config.limits (printed (λ number heading contents. []) c.args.config.variant) (ending_of_kind (Closed Words) c.args.config.variant) (refused_with has_flaw c.args.config.variant) _ _
    c.run_records-in-Closed-Words.result ensured.read_counted ensured.write_counted ensured.wrote)

pub returns-in-Closed-Json : goal.returns-in-Closed-Json
returns-in-Closed-Json g c =
    let ensured = c.run_records-in-Closed-Json.ensures in
    let format = rw c.in-Closed-Json.is at c.in-Closed-Json.field-0-is in
    rw (c.in-Closed-Json.is ∙ ap Closed format)
    (Runs-alone c.args.config.limits (printed_with refusal_object (λ number heading contents. []) c.args.config.variant) (ending_of_kind (Closed Json) c.args.config.variant) (refused_with has_flaw c.args.config.variant) _ _
    c.run_records-in-Closed-Json.result ensured.read_counted ensured.write_counted ensured.wrote)
