use Rattle.std.{proofs.Common.{refl}, specs.Hash.FoldHasher.{folded_multiply, initial, read_short, read_u32, write}}
use Rattle.std.specs.Hash.{le_bytes}
use Rattle.fc_laws.proofs.collections.hashes.another_seed_gives_another_hash.Goals as goal

pub returns-clause-zero : goal.returns-clause-zero
unfolding folded_multiply initial le_bytes read_short read_u32 write
returns-clause-zero c = refl

pub returns-clause-one : goal.returns-clause-one
unfolding folded_multiply initial le_bytes read_short read_u32 write
returns-clause-one c = refl

pub returns-clause-greatest : goal.returns-clause-greatest
unfolding folded_multiply initial le_bytes read_short read_u32 write
returns-clause-greatest c = refl
