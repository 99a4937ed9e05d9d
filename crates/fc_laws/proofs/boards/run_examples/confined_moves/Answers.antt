use Rattle.std.proofs.Common.{inl, inr, refl}
use Rattle.fc_laws.proofs.boards.run_examples.confined_moves.Goals as goal

pub returns-clause-over_empty_column : goal.returns-clause-over_empty_column
returns-clause-over_empty_column c = (
  inl (inl refl),
  inr refl,
  (40, refl, inr (inl refl)),
  (
    inl (inl refl),
    inl (inr refl),
    (45, refl, inl refl),
    (inr refl, inl (inr refl), (40, refl, inr (inl refl)), tt),
  ),
)

pub returns-clause-detour : goal.returns-clause-detour
returns-clause-detour c = (
  inl (inl refl),
  refl,
  (41, refl, inr (inr (inl refl))),
  (
    refl,
    inl (inl refl),
    (41, refl, inr (inr (inl refl))),
    (
      inl (inl refl),
      inr refl,
      (41, refl, inr (inr (inl refl))),
      (
        inr refl,
        inl (inr refl),
        (41, refl, inr (inr (inl refl))),
        (inl (inr refl), inl (inl refl), (41, refl, inr (inr (inl refl))), tt),
      ),
    ),
  ),
)
