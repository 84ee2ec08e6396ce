-- Short lists of lines that each lead from one scaled point to another.
use Rattle.std.proofs.Common.{ℕ, [], ◌∷◌}
use lib.IntN.{ℤ}
use Rattle.std.specs.List.{All}
use Rattle.std.proofs.lemmas.List.Elements.{All-nil, All-cons}
use Rattle.algebra.specs.Surd.{Surd}
use Rattle.algebra.specs.WholeSurds.{SurdNumbers}
use Rattle.plane.specs.declared.point.Line.{Line}
use Rattle.half_planes.specs.HalfPlanes.{IsFormed}

module _ {A : Type 0} {k : ℕ} {surd : A → Surd ℤ} {numbers : SurdNumbers k surd} where
  pub two : {l m : Line A} → IsFormed numbers l → IsFormed numbers m → All (IsFormed numbers) (l ∷ m ∷ [])
  two {l} {m} h j = All-cons (IsFormed numbers) l (m ∷ []) h (All-cons (IsFormed numbers) m [] j (All-nil (IsFormed numbers)))

  pub three : {l m n : Line A} → IsFormed numbers l → IsFormed numbers m → IsFormed numbers n → All (IsFormed numbers) (l ∷ m ∷ n ∷ [])
  three {l} {m} {n} h j i = All-cons (IsFormed numbers) l (m ∷ n ∷ []) h (two j i)
