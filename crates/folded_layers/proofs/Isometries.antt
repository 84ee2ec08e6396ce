-- The maps of faces are isometries.
use Rattle.std.proofs.Common.{◌≡◌, sym, subst, refl, ℕ, ℤ, List, [], ◌∷◌, ◌<◌, length, inl, inr, pos, Bool, true, false, if◌then◌else◌}
use Rattle.algebra.specs.LowestTerms.{Parts}
use Rattle.algebra.specs.OrderedField.{OrderedField}
use Rattle.algebra.specs.Surd.{Surd}
use Rattle.algebra.specs.WholeSurds.{SurdNumbers}
use Rattle.scaled_plane.specs.declared.drawing.Edge.{Edge}
use Rattle.scaled_plane.specs.declared.drawing.Ends.{Ends}
use Rattle.scaled_plane.specs.declared.drawing.Face.{Face}
use Rattle.flat_fold.specs.declared.motion.Motion.{Motion}
use Rattle.flat_fold.specs.Faces.{IsWalk, edge_at}
use Rattle.flat_fold.specs.Folded.{AreFaceMaps}
use Rattle.flat_fold.specs.Folding.{crossing, is_crease, point, walk_map}
use Rattle.flat_fold.specs.Images.{map_at}
use Rattle.flat_fold.specs.Motions.{IsIsometry, identity, norm, reflection}
use Rattle.flat_fold.specs.Sheets.{FormSheet}
use Rattle.flat_fold.proofs.FoldingLaws.{same_or_not}
use Rattle.flat_fold.proofs.MotionLaws.{composed-isometry, identity-isometry, reflection-isometry}
use Rattle.flat_fold.proofs.SheetLaws.{ends-apart, not-severed}

module _ {N : Type 0} {parts : N → Parts} {W : Type 0} {k : ℕ} {surd : W → Surd ℤ} {numbers : SurdNumbers k surd} (F : OrderedField N) (ends : Ends N) (faces : List Face)
    (h : FormSheet parts numbers ends faces) where
  crossing_isometry : (edge : Edge) → ¬ (point F ends.coords edge.from ≡ point F ends.coords edge.to) → IsIsometry F (crossing F ends.coords edge)
  crossing_isometry edge apart = at (is_crease edge.letter)
    where
      at : (b : Bool) → IsIsometry F (if b then reflection F (point F ends.coords edge.from) (point F ends.coords edge.to) else identity F)
      at true = reflection-isometry F (point F ends.coords edge.from) (point F ends.coords edge.to) apart
      at false = identity-isometry F

  walk_isometry : (f g : ℕ) (es : List ℕ) → IsWalk ends.edges faces f es g → IsIsometry F (walk_map F ends.coords ends.edges es)
  walk_isometry f g [] w = identity-isometry F
  walk_isometry f g (e ∷ es) w =
      composed-isometry F (crossing F ends.coords (edge_at ends.edges e)) (walk_map F ends.coords ends.edges es)
      (crossing_isometry (edge_at ends.edges e) (ends-apart ends faces h F e w.1.is_edge)) (walk_isometry w.0 g es w.2)

  pub map-isometry : (maps : List (Motion N)) → AreFaceMaps F ends.coords ends.edges faces maps → (f : ℕ) → f < length faces → IsIsometry F (map_at F maps f)
  map-isometry maps are f f_in = elim (same_or_not F (norm F (map_at F maps f).c (map_at F maps f).s) (F.int (pos 1)) _ refl) [
    | inl is ↦ is
    | inr not ↦ absurd (not-severed ends faces h F f f_in (λ w.
        not (subst (λ (m : Motion N). IsIsometry F m) (sym (are.walk f w.0 f_in w.1)) (walk_isometry 0 f w.0 w.1))))
  ]
