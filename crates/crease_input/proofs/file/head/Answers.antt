use Rattle.std.proofs.Common.{refl, inl, inr, [], ◌∷◌, arith}
use Rattle.crease_input.proofs.file.head.Goals as goal

pub number-requires : goal.number-requires
number-requires c = (
  [],
  49 ∷ [],
  46 ∷ 50 ∷ [],
  [],
  refl,
  inr refl,
  inr (49, [], refl, (omega arith, omega arith), tt),
  inl (50 ∷ [], refl, (50, [], refl, (omega arith, omega arith), tt)),
  inr refl,
)
