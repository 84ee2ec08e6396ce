-- Lines of a list are small where each leads from one scaled point to another.
use Rattle.std.proofs.Common.{◌≡◌, ℕ, ◌≤◌, List, slice_get, Some, subst, sym}
use Rattle.std.specs.List.{All}
use lib.IntN.{ℤ}
use Rattle.algebra.specs.Surd.{Surd}
use Rattle.algebra.specs.WholeSurds.{SurdNumbers}
use Rattle.plane.specs.declared.point.Line.{Line}
use Rattle.scaled_plane.specs.Sizes.{IsLineSize}
use Rattle.scaled_plane.proofs.DrawnSizes.{line_size}
use Rattle.half_planes.specs.HalfPlanes.{IsFormed}
use Rattle.half_planes.proofs.Leaving.{all_at}

module _ {A : Type 0} {k : ℕ} {surd : A → Surd ℤ} (numbers : SurdNumbers k surd) (k_at_most : k ≤ 3) where
  pub formed_size : (lines : List (Line A)) (n : ℕ) (l : Line A) → All (λ m. IsFormed numbers m) lines → slice_get lines n ≡ Some l → IsLineSize surd l
  formed_size lines n l formed read =
      let h : IsFormed numbers l = all_at (λ m. IsFormed numbers m) lines n l formed read in
      subst (IsLineSize surd) (sym h.is) (line_size numbers k_at_most h.from h.to h.from_scaled h.to_scaled)
