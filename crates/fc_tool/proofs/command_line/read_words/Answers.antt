use Rattle.std.proofs.Common.{◌∙◌, rules}
use Rattle.fc_tool.{proofs.WordLemmas.{answered, is_free_program, is_simple_program, refused}, specs.{program}}
use Rattle.fc_tool.proofs.command_line.read_words.Goals as goal

pub returns-in-Ok-try_get_matches_from : goal.returns-in-Ok-try_get_matches_from
returns-in-Ok-try_get_matches_from c =
    record {
      choices = c.from-choices.result;
      dealt = c.from-dealt.result;
      named = search rules;
      dealt_named = search rules;
      answer = answered _ (program c.from-choices.result c.from-dealt.result) _ c.in-Ok-try_get_matches_from.matches c.request_of.result
          c.in-Ok.ensures (is_simple_program c.from-choices.result c.from-dealt.result)
          (is_free_program c.from-choices.result c.from-dealt.result)
          c.in-Ok-try_get_matches_from.ensures.matches c.in-Ok-try_get_matches_from.ensures.kinds c.request_of.ensures;
    }

pub returns-in-Err : goal.returns-in-Err
returns-in-Err c =
    record { choices = c.from-choices.result; dealt = c.from-dealt.result; named = search rules; dealt_named = search rules; answer = tt }

pub returns-in-Err-2 : goal.returns-in-Err-2
returns-in-Err-2 c =
    record {
      choices = c.from-choices.result;
      dealt = c.from-dealt.result;
      named = search rules;
      dealt_named = search rules;
      answer = refused _ (program c.from-choices.result c.from-dealt.result) _ c.in-Err.error
          c.in-Ok.ensures (is_free_program c.from-choices.result c.from-dealt.result)
          (λ memory. let eq = rw (c.kind.ensures ∙ memory) at c.eq.ensures in absurd (cc))
          c.in-Err.ensures.kinds;
    }
