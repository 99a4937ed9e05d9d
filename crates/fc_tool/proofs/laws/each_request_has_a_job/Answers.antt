use Rattle.{fc_tool.proofs.RequestLemmas.{sound_request}, std.proofs.Common.{refl, Some}}
use Rattle.fc_tool.proofs.laws.each_request_has_a_job.Goals as goal

pub returns : goal.returns
returns c words request reads = (sound_request words (Some request) request reads refl).has_job
