-- a drawing folds in one way at most, or there is one reason why it has no folded form
use Rattle.std.proofs.Common.{◌≡◌, ◌∙◌, ap, sym, refl, subst, ℕ, ℤ, List, Option, Some, None, inl, inr}
use Rattle.algebra.specs.LowestTerms.{Parts}
use Rattle.algebra.specs.NumberField.{HoldsNumbers}
use Rattle.algebra.specs.Surd.{Surd}
use Rattle.algebra.specs.WholeSurds.{HoldsSurds, SurdNumbers}
use Rattle.drawing_repair.proofs.OneScaling.{not_too_wide, one_scaling}
use Rattle.flat_fold.specs.Computed.{ComputedField}
use Rattle.flat_fold.specs.EdgeSides.{KnowsSides}
use Rattle.flat_fold.specs.Folded.{IsFirstPlacePast, IsFirstTooWide, IsFolding, Layout, Refuses}
use Rattle.flat_fold.specs.Folding.{AllFits, Closes, Disagrees, IsFirstMapPast, IsFoldable}
use Rattle.flat_fold.specs.Images.{AreNumbers, origin_at}
use Rattle.flat_fold.specs.Sheets.{FormSheet, Pattern}
use Rattle.flat_fold.specs.declared.fold.FoldFlatFault.{FoldFlatFault}
use Rattle.flat_fold.specs.declared.fold.FoldFlatFault.TheVariants as folding
use Rattle.flat_fold.specs.declared.images.Origin.{Origin}
use Rattle.flat_fold.specs.declared.motion.Motion.{Motion}
use Rattle.flat_fold.proofs.OneFolding.{one-corners, one-face_past, one-folding, one-place_past, one-sides}
use Rattle.flat_fold.proofs.OnePathMaps.{one-disagreeing, one-map_past}
use Rattle.flat_fold.proofs.PathMaps.{no-disagreement}
use Rattle.flat_fold.proofs.SheetLaws.{foldable-sheet}
use Rattle.scaled_plane.specs.Scaling.{IsScaledOf, IsTooWide}
use Rattle.scaled_plane.specs.Sheets.{IsFirstFlaw}
use Rattle.scaled_plane.specs.declared.drawing.Edge.{Edge}
use Rattle.scaled_plane.specs.declared.drawing.Ends.{Ends}
use Rattle.scaled_plane.specs.declared.drawing.Face.{Face}
use Rattle.scaled_plane.specs.declared.point.Pair.{Pair}
use Rattle.scaled_plane.specs.declared.point.Scaled.{Scaled}
use Rattle.scaled_plane.specs.declared.sheet.SheetFlaw.{SheetFlaw}
use Rattle.folded_form.specs.Forms.{HasNoForm, IsFoldedFrom}
use Rattle.folded_form.specs.declared.fault.FormFault.{FormFault}
use Rattle.folded_form.specs.declared.fault.FormFault.TheVariants.{TooWide, Flaw, NumberPast, Unclosed, FoldedTooWide, Memory}
use Rattle.sheet_check.proofs.Flaws.{one_flaw}
use Rattle.sheet_check.proofs.OneRefusal.{one_wide}

-- ---- why a sheet doesn't fold

module _ {N : Type 0} (parts : N → Parts) (K : ComputedField N) (coords : List (Pair N)) (edges : List Edge) (faces : List Face)
    (foldable : IsFoldable K.field coords edges faces) where
  abbrev Why : FoldFlatFault → Type 0
  Why fault = Refuses K coords edges faces parts fault

  map_or_fits : (f : ℕ) → IsFirstMapPast K coords edges faces f → AllFits K coords edges faces → ⊥
  map_or_fits f h fits = h.past (fits.maps f h.map h.is_map)

  place_or_fits : (f k : ℕ) → IsFirstPlacePast K coords edges faces f k → AllFits K coords edges faces → ⊥
  place_or_fits f k h fits = h.past (fits.places f k h.map h.is_map h.corner)

  map_or_place : (f g k : ℕ) → IsFirstMapPast K coords edges faces f → IsFirstPlacePast K coords edges faces g k → ⊥
  map_or_place f g k h i = h.past (i.maps f h.map h.is_map)

  unclosed_or_closed : (e : ℕ) → Disagrees K coords edges faces e → Closes K.field coords edges faces → ⊥
  unclosed_or_closed e d closes = no-disagreement K coords edges faces foldable.apart closes e d

  one_wide_folded : (u v : ℕ) → IsFirstTooWide K coords edges faces parts u → IsFirstTooWide K coords edges faces parts v → u ≡ v
  one_wide_folded u v h i =
      let same = one-folding K.field coords edges faces foldable h.maps h.origins h.images i.maps i.origins i.images h.folding i.folding in
      let image : h.image ≡ i.image = one_wide parts h.images h.image i.image h.too_wide (subst (λ (cs : List (Pair N)). IsTooWide parts cs i.image) (sym same.2) i.too_wide) in
      sym h.vertex ∙ (λ t. (origin_at (same.1 t) (image t)).vertex) ∙ i.vertex

  -- numbers past their range, at a face or at one of its corners
  one_past : (f g : ℕ) (v w : Option ℕ) → Why (folding.NumberPast f v) → Why (folding.NumberPast g w) → (f ≡ g) × (v ≡ w)
  one_past f g None None h i = (one-map_past K coords edges faces f g h i, refl)
  one_past f g None (Some w) h i = absurd (map_or_place f g i.0 h i.1)
  one_past f g (Some v) None h i = absurd (map_or_place g f h.0 i h.1)
  one_past f g (Some v) (Some w) h i = (
    one-face_past K coords edges faces f h.0 g i.0 h.1 i.1,
    ap Some (sym h.2 ∙ one-place_past K coords edges faces f h.0 g i.0 h.1 i.1 ∙ i.2),
  )

  past_or_fits : (f : ℕ) (v : Option ℕ) → Why (folding.NumberPast f v) → AllFits K coords edges faces → ⊥
  past_or_fits f None h fits = map_or_fits f h fits
  past_or_fits f (Some v) h fits = place_or_fits f h.0 h.1 fits

-- ---- why a drawing has no form

module _ {N W : Type 0} {j root : ℕ} {surd : W → Surd ℤ} (parts : N → Parts) (holds : HoldsNumbers j parts) (K : ComputedField N) (numbers : SurdNumbers root surd)
    (ring_holds : HoldsSurds root surd) (drawing : Ends N × List Face) where
  abbrev coords : List (Pair N)
  coords = drawing.0.coords

  abbrev edges : List Edge
  edges = drawing.0.edges

  abbrev faces : List Face
  faces = drawing.1

  abbrev IsReason : FormFault → Type 0
  IsReason fault = HasNoForm parts K numbers drawing fault

  abbrev IsSheet : Type 0
  IsSheet = FormSheet parts numbers drawing.0 drawing.1

  foldable : IsSheet → IsFoldable K.field coords edges faces
  foldable sheet = foldable-sheet drawing.0 drawing.1 sheet K.field

  wide_or_scaled : (v : ℕ) → IsTooWide parts coords v → (s : Scaled W) → IsScaledOf parts numbers coords s → ⊥
  wide_or_scaled v wide s is = not_too_wide parts numbers holds coords s is v wide

  wide_or_sheet : (v : ℕ) → IsTooWide parts coords v → IsSheet → ⊥
  wide_or_sheet v wide sheet = wide_or_scaled v wide sheet.scaled sheet.is_scaled

  flaw_or_sheet : (flaw : SheetFlaw) → IsReason (Flaw flaw) → IsSheet → ⊥
  flaw_or_sheet flaw h sheet =
      let same : sheet.scaled ≡ h.0 = one_scaling parts numbers ring_holds coords sheet.scaled h.0 sheet.is_scaled h.1 in
      sheet.sheet flaw (subst (λ (s : Scaled W). IsFirstFlaw numbers.ring s.points edges faces flaw) (sym same) h.2).0

  one_reason_flaw : (x y : SheetFlaw) → IsReason (Flaw x) → IsReason (Flaw y) → x ≡ y
  one_reason_flaw x y h i =
      let same : h.0 ≡ i.0 = one_scaling parts numbers ring_holds coords h.0 i.0 h.1 i.1 in
      one_flaw numbers.ring h.0.points edges faces x y h.2 (subst (λ (s : Scaled W). IsFirstFlaw numbers.ring s.points edges faces y) (sym same) i.2)

  pub one_reason : (e f : FormFault) → IsReason e → IsReason f → e ≡ f
  one_reason (TooWide u) (TooWide v) h i = ap TooWide (one_wide parts coords u v h i)
  one_reason (TooWide u) (Flaw y) h i = absurd (wide_or_scaled u h i.0 i.1)
  one_reason (TooWide u) (NumberPast g w) h i = absurd (wide_or_sheet u h i.0)
  one_reason (TooWide u) (Unclosed d) h i = absurd (wide_or_sheet u h i.0)
  one_reason (TooWide u) (FoldedTooWide v) h i = absurd (wide_or_sheet u h i.0)
  one_reason (TooWide u) (Memory error) h i = absurd i
  one_reason (Flaw x) (TooWide v) h i = absurd (wide_or_scaled v i h.0 h.1)
  one_reason (Flaw x) (Flaw y) h i = ap Flaw (one_reason_flaw x y h i)
  one_reason (Flaw x) (NumberPast g w) h i = absurd (flaw_or_sheet x h i.0)
  one_reason (Flaw x) (Unclosed d) h i = absurd (flaw_or_sheet x h i.0)
  one_reason (Flaw x) (FoldedTooWide v) h i = absurd (flaw_or_sheet x h i.0)
  one_reason (Flaw x) (Memory error) h i = absurd i
  one_reason (NumberPast f v) (TooWide u) h i = absurd (wide_or_sheet u i h.0)
  one_reason (NumberPast f v) (Flaw y) h i = absurd (flaw_or_sheet y i h.0)
  one_reason (NumberPast f v) (NumberPast g w) h i =
      let same = one_past parts K coords edges faces (foldable h.0) f g v w h.1 i.1 in λ t. NumberPast (same.0 t) (same.1 t)
  one_reason (NumberPast f v) (Unclosed d) h i = absurd (past_or_fits parts K coords edges faces (foldable h.0) f v h.1 i.1.0)
  one_reason (NumberPast f v) (FoldedTooWide u) h i = absurd (past_or_fits parts K coords edges faces (foldable h.0) f v h.1 i.1.fits)
  one_reason (NumberPast f v) (Memory error) h i = absurd i
  one_reason (Unclosed e) (TooWide u) h i = absurd (wide_or_sheet u i h.0)
  one_reason (Unclosed e) (Flaw y) h i = absurd (flaw_or_sheet y i h.0)
  one_reason (Unclosed e) (NumberPast g w) h i = absurd (past_or_fits parts K coords edges faces (foldable h.0) g w i.1 h.1.0)
  one_reason (Unclosed e) (Unclosed d) h i = ap Unclosed (one-disagreeing K coords edges faces e d h.1.1 i.1.1)
  one_reason (Unclosed e) (FoldedTooWide v) h i = absurd (unclosed_or_closed parts K coords edges faces (foldable h.0) e h.1.1.disagrees i.1.folding.closes)
  one_reason (Unclosed e) (Memory error) h i = absurd i
  one_reason (FoldedTooWide u) (TooWide v) h i = absurd (wide_or_sheet v i h.0)
  one_reason (FoldedTooWide u) (Flaw y) h i = absurd (flaw_or_sheet y i h.0)
  one_reason (FoldedTooWide u) (NumberPast g w) h i = absurd (past_or_fits parts K coords edges faces (foldable h.0) g w i.1 h.1.fits)
  one_reason (FoldedTooWide u) (Unclosed d) h i = absurd (unclosed_or_closed parts K coords edges faces (foldable h.0) d i.1.1.disagrees h.1.folding.closes)
  one_reason (FoldedTooWide u) (FoldedTooWide v) h i = ap FoldedTooWide (one_wide_folded parts K coords edges faces (foldable h.0) u v h.1 i.1)
  one_reason (FoldedTooWide u) (Memory error) h i = absurd i
  one_reason (Memory error) f h i = absurd h

  -- ---- the folded sheet

  abbrev IsFrom : Layout N W → Type 0
  IsFrom layout = IsFoldedFrom parts K numbers drawing layout

  module _ (layout : Layout N W) (h : IsFrom layout) where
    folding_of : IsFolding K.field coords edges faces layout.maps layout.origins layout.images
    folding_of = subst (λ (p : Pattern N). IsFolding K.field p.ends.coords p.ends.edges p.faces layout.maps layout.origins layout.images) h.of_sheet h.folded.folding

    corners_of : AreNumbers K.field coords faces layout.maps layout.origins layout.images layout.corners
    corners_of = subst (λ (p : Pattern N). AreNumbers K.field p.ends.coords p.faces layout.maps layout.origins layout.images layout.corners) h.of_sheet h.folded.corners_are

    sides_of : KnowsSides faces edges layout.sides
    sides_of = subst (λ (p : Pattern N). KnowsSides p.faces p.ends.edges layout.sides) h.of_sheet h.folded.sides_are

    pub not_both : (fault : FormFault) → IsReason fault → ⊥
    not_both (TooWide v) i = wide_or_sheet v i h.is_sheet
    not_both (Flaw flaw) i = flaw_or_sheet flaw i h.is_sheet
    not_both (NumberPast f v) i = past_or_fits parts K coords edges faces (foldable i.0) f v i.1 h.fits
    not_both (Unclosed e) i = unclosed_or_closed parts K coords edges faces (foldable i.0) e i.1.1.disagrees folding_of.closes
    not_both (FoldedTooWide v) i =
        let same = one-folding K.field coords edges faces (foldable i.0) layout.maps layout.origins layout.images i.1.maps i.1.origins i.1.images folding_of i.1.folding in
        not_too_wide parts numbers holds layout.images layout.scaled h.folded.scaled_is i.1.image (subst (λ (cs : List (Pair N)). IsTooWide parts cs i.1.image) (sym same.2) i.1.too_wide)
    not_both (Memory error) i = i

  module _ (layout other : Layout N W) (h : IsFrom layout) (i : IsFrom other) where
    same_folding : (layout.maps ≡ other.maps) × (layout.origins ≡ other.origins) × (layout.images ≡ other.images)
    same_folding =
        one-folding K.field coords edges faces (foldable h.is_sheet) layout.maps layout.origins layout.images other.maps other.origins other.images (folding_of layout h) (folding_of other i)

    -- the same folding has the same faces by their images
    same_corners : layout.corners ≡ other.corners
    same_corners =
        one-corners K.field coords faces layout.maps layout.origins layout.images (folding_of layout h).images_are layout.corners other.corners (corners_of layout h)
        (subst (λ (ms : List (Motion N)). AreNumbers K.field coords faces ms layout.origins layout.images other.corners) (sym same_folding.0)
        (subst (λ (os : List Origin). AreNumbers K.field coords faces other.maps os layout.images other.corners) (sym same_folding.1)
        (subst (λ (cs : List (Pair N)). AreNumbers K.field coords faces other.maps other.origins cs other.corners) (sym same_folding.2) (corners_of other i))))

    -- .. the same sides of edges
    same_sides : layout.sides ≡ other.sides
    same_sides = one-sides drawing.0 drawing.1 h.is_sheet layout.sides other.sides (sides_of layout h) (sides_of other i)

    -- .. and the same points, by one common denominator
    same_scaled : layout.scaled ≡ other.scaled
    same_scaled =
        one_scaling parts numbers ring_holds layout.images layout.scaled other.scaled h.folded.scaled_is
        (subst (λ (cs : List (Pair N)). IsScaledOf parts numbers cs other.scaled) (sym same_folding.2) i.folded.scaled_is)

    pub same_layout : layout ≡ other
    same_layout =
        let sheet : layout.sheet ≡ other.sheet = h.of_sheet ∙ sym i.of_sheet in
        λ t. record {
          sheet = sheet t;
          maps = same_folding.0 t;
          corners = same_corners t;
          origins = same_folding.1 t;
          images = same_folding.2 t;
          sides = same_sides t;
          scaled = same_scaled t;
        }
