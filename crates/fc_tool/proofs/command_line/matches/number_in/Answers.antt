use Rattle.{clap.specs.Words.{found_of}, fc_tool.proofs.WordLemmas.{bounded, number_read}}
use Rattle.std.proofs.Common.{◌∙◌, rules, sym}
use Rattle.fc_tool.proofs.command_line.matches.number_in.Goals as goal

pub returns-in_err-get_str : goal.returns-in_err-get_str
returns-in_err-get_str c = search (rules, number_read c.get_str.result (found_of c.args.own.now) c.get_str.ensures)

pub returns-in_err-number : goal.returns-in_err-number
returns-in_err-number c = search (rules, number_read c.get_str.result (found_of c.args.own.now) c.get_str.ensures)

pub returns : goal.returns
returns c =
    let bounds = bounded 0 4294967295 c.in_ok-get_str.field-0.now c.in_ok-number.number (sym c.number_between.ensures ∙ c.in_ok-number.was) in
    search (rules, bounds.1, number_read c.get_str.result (found_of c.args.own.now) c.get_str.ensures)
