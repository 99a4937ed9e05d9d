use Rattle.std.{proofs.Common.{refl}, specs.Hash.DefaultHasher.{finish, initial, round, write, write_byte, write_word}}
use Rattle.fc_laws.proofs.class_hashes.class_hashes_of_boards.Goals as goal

pub returns-clause-clubs_king_left : goal.returns-clause-clubs_king_left
unfolding finish initial round write write_byte write_word
returns-clause-clubs_king_left c = refl

pub returns-clause-two_spades_left : goal.returns-clause-two_spades_left
unfolding finish initial round write write_byte write_word
returns-clause-two_spades_left c = refl

pub returns-clause-four_in_a_column : goal.returns-clause-four_in_a_column
unfolding finish initial round write write_byte write_word
returns-clause-four_in_a_column c = refl
