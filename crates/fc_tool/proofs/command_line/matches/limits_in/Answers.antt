use Rattle.{clap.specs.Words.{found_of}, fc_tool.proofs.WordLemmas.{limits_read}}
use Rattle.std.proofs.Common.{◌∙◌, option_map}
use Rattle.fc_tool.proofs.command_line.matches.limits_in.Goals as goal

pub returns : goal.returns
returns c =
    c.limits_named.ensures
    ∙ limits_read c.any_size_in.result (option_map (λ text. text.now) c.get_str.result) (option_map (λ text. text.now) c.get_str-2.result)
    (found_of c.args.own.now) c.any_size_in.ensures c.get_str.ensures c.get_str-2.ensures
