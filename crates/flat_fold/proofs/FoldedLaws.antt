-- What a folded sheet's type says of its points.
use Rattle.std.proofs.Common.{◌≡◌, ◌∙◌, ap, sym, subst, refl, ℕ, zero, suc, List, [], ◌∷◌, ◌<◌, ◌+◌, length, pos, ℤ, arith, add-one}
use Rattle.std.specs.Prelude.{slice_index_or}
use Rattle.std.specs.List.{AllZip}
use Rattle.algebra.specs.LowestTerms.{Parts}
use Rattle.algebra.specs.Surd.{Surd}
use Rattle.algebra.specs.WholeSurds.{SurdNumbers}
use Rattle.algebra.specs.OrderedField.{OrderedField}
use Rattle.plane.specs.declared.point.Point.{Point}
use Rattle.scaled_plane.specs.declared.point.Pair.{Pair}
use Rattle.scaled_plane.specs.declared.point.Scaled.{Scaled}
use Rattle.scaled_plane.specs.Scaling.{IsScaledOf, IsScaledWith}
use Rattle.flat_fold.specs.Images.{image_at}
use Rattle.flat_fold.proofs.SheetLaws.{zipped_at}

zipped-long : {X Y : Type 0} (R : X → Y → Type 0) (xs : List X) (ys : List Y) → AllZip R xs ys → length xs ≡ length ys
zipped-long R [] [] z = refl
zipped-long R [] (y ∷ ys) z = absurd z
zipped-long R (x ∷ xs) [] z = absurd z
zipped-long R (x ∷ xs) (y ∷ ys) z = ap suc (zipped-long R xs ys z.1)

module _ {N : Type 0} (parts : N → Parts) (F : OrderedField N) {W : Type 0} {k : ℕ} {surd : W → Surd ℤ} (numbers : SurdNumbers k surd) (images : List (Pair N)) (scaled : Scaled W) (is : IsScaledOf parts numbers images scaled) where
  pub scaled-long : length images ≡ length scaled.points
  scaled-long = zipped-long (IsScaledWith parts numbers (pos is.m)) images scaled.points is.points

  -- each image, times the common denominator
  pub scaled-at : (i : ℕ) (d : Point W) → i < length images → IsScaledWith parts numbers scaled.common (image_at F images i) (slice_index_or scaled.points i d)
  scaled-at i d less =
      subst (λ (z : ℤ). IsScaledWith parts numbers z (image_at F images i) (slice_index_or scaled.points i d)) (sym is.is)
      (zipped_at (IsScaledWith parts numbers (pos is.m)) images scaled.points i (record { x = F.int (pos 0); y = F.int (pos 0) }) d is.points less)
