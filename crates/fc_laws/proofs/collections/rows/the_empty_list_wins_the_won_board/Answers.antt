use Rattle.std.{proofs.Common.{refl}, specs.Fmt.{digits}}
use Rattle.fc_laws.proofs.collections.rows.the_empty_list_wins_the_won_board.Goals as goal

pub returns-clause-checked : goal.returns-clause-checked
unfolding digits
returns-clause-checked c = refl
