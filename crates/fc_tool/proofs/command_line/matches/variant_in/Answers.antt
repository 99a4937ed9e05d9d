use Rattle.{clap.specs.Words.{found_of}, fc_tool.proofs.WordLemmas.{variant_read}, std.proofs.Common.{rules}}
use Rattle.fc_tool.proofs.command_line.matches.variant_in.Goals as goal

pub returns-in_err-get_str : goal.returns-in_err-get_str
returns-in_err-get_str c = search (rules, variant_read c.get_str.result (found_of c.args.own.now) c.get_str.ensures)

pub returns : goal.returns
returns c = search (rules, variant_read c.get_str.result (found_of c.args.own.now) c.get_str.ensures)
