-- Why vertices, edges and faces are no sheet is said in one way at most.
use Rattle.std.proofs.Common.{◌≡◌, ap, sym, subst, ℕ, ℤ, List, inl, inr}
use Rattle.algebra.specs.LowestTerms.{Parts}
use Rattle.algebra.specs.NumberField.{HoldsNumbers}
use Rattle.algebra.specs.Surd.{Surd}
use Rattle.algebra.specs.WholeSurds.{HoldsSurds, SurdNumbers}
use Rattle.drawing_repair.proofs.OneScaling.{not_too_wide, one_first, one_scaling}
use Rattle.flat_fold.specs.Sheets.{FormSheet}
use Rattle.scaled_plane.specs.Scaling.{IsScaledOf, IsTooWide}
use Rattle.scaled_plane.specs.Sheets.{IsFirstFlaw}
use Rattle.scaled_plane.specs.declared.drawing.Ends.{Ends}
use Rattle.scaled_plane.specs.declared.drawing.Face.{Face}
use Rattle.scaled_plane.specs.declared.point.Pair.{Pair}
use Rattle.scaled_plane.specs.declared.point.Scaled.{Scaled}
use Rattle.scaled_plane.specs.declared.sheet.SheetFlaw.{SheetFlaw}
use Rattle.sheet_check.specs.Refused.{HasNoSheet, IsFirstFlawScaled}
use Rattle.sheet_check.specs.declared.fault.SheetFault.{SheetFault}
use Rattle.sheet_check.specs.declared.fault.SheetFault.TheVariants.{TooWide, Flaw, Memory}
use Rattle.sheet_check.proofs.Flaws.{one_flaw}

-- points are too wide first at one place
pub one_wide : {N : Type 0} (parts : N → Parts) (coords : List (Pair N)) (u v : ℕ) → IsTooWide parts coords u → IsTooWide parts coords v → u ≡ v
one_wide parts coords u v (inl h) (inl i) = one_first _ _ (λ w p. p) (λ w p. p) u v h i
one_wide parts coords u v (inl h) (inr i) = absurd (i.0 u h.0)
one_wide parts coords u v (inr h) (inl i) = absurd (h.0 v i.0)
one_wide parts coords u v (inr h) (inr i) = one_first _ _ (λ w p. p) (λ w p. p) u v h.1 i.1

module _ {N W : Type 0} {j root : ℕ} {surd : W → Surd ℤ} (parts : N → Parts) (holds : HoldsNumbers j parts) (numbers : SurdNumbers root surd)
    (ring_holds : HoldsSurds root surd) (ends : Ends N) (faces : List Face) where
  pub wide_or_scaled : (v : ℕ) → IsTooWide parts ends.coords v → (s : Scaled W) → IsScaledOf parts numbers ends.coords s → ⊥
  wide_or_scaled v wide s is = not_too_wide parts numbers holds ends.coords s is v wide

  pub flaw_or_sheet : (flaw : SheetFlaw) → IsFirstFlawScaled parts numbers ends faces flaw → FormSheet parts numbers ends faces → ⊥
  flaw_or_sheet flaw h sheet =
      let same : sheet.scaled ≡ h.0 = one_scaling parts numbers ring_holds ends.coords sheet.scaled h.0 sheet.is_scaled h.1 in
      sheet.sheet flaw (subst (λ (s : Scaled W). IsFirstFlaw numbers.ring s.points ends.edges faces flaw) (sym same) h.2).0

  one_scaled_flaw : (x y : SheetFlaw) → IsFirstFlawScaled parts numbers ends faces x → IsFirstFlawScaled parts numbers ends faces y → x ≡ y
  one_scaled_flaw x y h i =
      let same : h.0 ≡ i.0 = one_scaling parts numbers ring_holds ends.coords h.0 i.0 h.1 i.1 in
      one_flaw numbers.ring h.0.points ends.edges faces x y h.2 (subst (λ (s : Scaled W). IsFirstFlaw numbers.ring s.points ends.edges faces y) (sym same) i.2)

  pub one_reason : (e f : SheetFault) → HasNoSheet parts numbers ends faces e → HasNoSheet parts numbers ends faces f → e ≡ f
  one_reason (TooWide u) (TooWide v) h i = ap TooWide (one_wide parts ends.coords u v h i)
  one_reason (TooWide u) (Flaw y) h i = absurd (wide_or_scaled u h i.0 i.1)
  one_reason (TooWide u) (Memory error) h i = absurd i
  one_reason (Flaw x) (TooWide v) h i = absurd (wide_or_scaled v i h.0 h.1)
  one_reason (Flaw x) (Flaw y) h i = ap Flaw (one_scaled_flaw x y h i)
  one_reason (Flaw x) (Memory error) h i = absurd i
  one_reason (Memory error) f h i = absurd h

  pub sheet_or_reason : (fault : SheetFault) → FormSheet parts numbers ends faces → ¬ HasNoSheet parts numbers ends faces fault
  sheet_or_reason (TooWide v) sheet h = wide_or_scaled v h sheet.scaled sheet.is_scaled
  sheet_or_reason (Flaw flaw) sheet h = flaw_or_sheet flaw h sheet
  sheet_or_reason (Memory error) sheet h = h
