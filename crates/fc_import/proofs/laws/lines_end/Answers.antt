use Rattle.std.{proofs.Common.{refl}, specs.Char.{encode_utf8}}
use Rattle.fc_import.proofs.laws.lines_end.Goals as goal

pub returns-clause-feed : goal.returns-clause-feed
unfolding encode_utf8
returns-clause-feed c = refl

pub returns-clause-both : goal.returns-clause-both
unfolding encode_utf8
returns-clause-both c = refl

pub returns-clause-carriage_return : goal.returns-clause-carriage_return
unfolding encode_utf8
returns-clause-carriage_return c = refl

pub returns-clause-two_feeds : goal.returns-clause-two_feeds
unfolding encode_utf8
returns-clause-two_feeds c = refl

pub returns-clause-tabulation : goal.returns-clause-tabulation
unfolding encode_utf8
returns-clause-tabulation c = refl

pub returns-clause-next_line : goal.returns-clause-next_line
unfolding encode_utf8
returns-clause-next_line c = refl

pub returns-clause-separators : goal.returns-clause-separators
unfolding encode_utf8
returns-clause-separators c = refl
