use Rattle.{clap.specs.Words.{found_of}, fc_tool.proofs.WordLemmas.{flag_read}}
use Rattle.std.proofs.Common.{◌∙◌, None, Some}
use Rattle.fc_tool.proofs.command_line.matches.is_given.Goals as goal

pub returns-in-Some : goal.returns-in-Some
returns-in-Some c = c.eq.ensures ∙ flag_read c.args.id.now (Some c.in-Some.text.now) (found_of c.args.own.now) c.in-Some.ensures

pub returns-in-None : goal.returns-in-None
returns-in-None c = flag_read c.args.id.now None (found_of c.args.own.now) c.in-None.ensures
