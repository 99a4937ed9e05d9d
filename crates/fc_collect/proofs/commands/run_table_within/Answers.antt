-- Where what is printed for a record goes by none before it, records are printed each by itself, and after the header that went out.
use Rattle.std.{proofs.{Common.{[]}, lemmas.Result.{err_from_is_err_and}}, specs.List.{count_by, flat_map}}
use Rattle.fc_board.specs.declared.rule.Variant.{Variant}
use Rattle.fc_record.specs.Printing.{is_refused, printed, printed_with}
use Rattle.fc_record.specs.Tables.{refusal_object, table_header, table_line, table_object}
use Rattle.fc_collect.{proofs.HeadedLemmas.{Runs-alone, Runs-headed, Runs-unheaded}, specs.Promises.{Printing}}
use Rattle.fc_collect.proofs.commands.run_table_within.Goals as goal

pub returns-in-Lines : goal.returns-in-Lines
returns-in-Lines g c =
    let ensured = c.run_records.ensures in
    rw c.in-Lines.is
    (Runs-alone c.args.config.limits (printed table_line c.args.config.variant) (λ records. []) (count_by (is_refused c.args.config.variant)) _ _
    c.run_records.result ensured.read_counted ensured.write_counted ensured.wrote)

pub returns-in-Json : goal.returns-in-Json
returns-in-Json g c =
    let ensured = c.run_records-in-Json.ensures in
    rw c.in-Json.is
    (Runs-alone c.args.config.limits (printed_with refusal_object table_object c.args.config.variant) (λ records. []) (count_by (is_refused c.args.config.variant)) _ _
    c.run_records-in-Json.result ensured.read_counted ensured.write_counted ensured.wrote)

-- what is printed after the header
abbrev lines : Variant → Printing
lines variant = record { output = flat_map (printed table_line variant); ending = λ records. []; refused = count_by (is_refused variant) }

pub returns-in_err-write_bytes-in-Header : goal.returns-in_err-write_bytes-in-Header
returns-in_err-write_bytes-in-Header g c =
    let p = err_from_is_err_and c.from_residual.result c.from_residual.ensures.1 in
    let ensured = c.in_err-write_bytes-in-Header.ensures in
    rw (c.in-Header.is, p.1, p.2)
    (Runs-unheaded c.args.config.limits table_header (lines c.args.config.variant) c.requires.limits g.Rd.Read.remaining c.args.input.now
    (record { bytes = g.Wr.Write.contents; old = c.args.output.now; new = c.write_bytes.new.output })
    c.in_err-write_bytes-in-Header.field-0.0 ensured.counted ensured.bytes)

pub returns-in_ok-write_bytes-in-Header : goal.returns-in_ok-write_bytes-in-Header
returns-in_ok-write_bytes-in-Header g c =
    let variant = c.args.config.variant in
    let written = c.in_ok-write_bytes-in-Header.ensures in
    let ensured = c.run_records-in-Header.ensures in
    let result = c.run_records-in-Header.result in
    rw c.in-Header.is
    (Runs-headed c.args.config.limits table_header (lines variant)
    (record { bytes = g.Rd.Read.remaining; old = c.args.input.now; new = c.run_records-in-Header.new.input })
    (record { bytes = g.Wr.Write.contents; old = c.write_bytes.new.output; new = c.run_records-in-Header.new.output })
    c.args.output.now result written.counted written.bytes
    (Runs-alone c.args.config.limits (printed table_line variant) (λ records. []) (count_by (is_refused variant)) _ _ result
    ensured.read_counted ensured.write_counted ensured.wrote))
