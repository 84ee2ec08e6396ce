-- From the path maps of a sheet's faces, and what they lay, to its folding.
use Rattle.std.proofs.Common.{◌≡◌, ◌∙◌, ap, sym, subst, refl, ℕ, zero, suc, List, [], ◌∷◌, ◌++◌, ◌<◌, ◌≤◌, ◌+◌, ◌^◌, length, length-append, take, Some, None, Option, ℤ, ◌⊎◌, inl, inr, arith}
use Rattle.std.specs.Prelude.{slice_index_or}
use Rattle.std.proofs.lemmas.Bool.{cases_lt}
use Rattle.std.specs.BTreeMap.{get}
use Rattle.std.proofs.Math.Seq.{get_or-append_seam}
use Rattle.std.proofs.lemmas.List.{get_or_append_left, get_or_default, get_or_past}
use Rattle.std.proofs.Math.Seq.{take-length}
use Rattle.std.proofs.lemmas.Option.{slice_get_within}
use Rattle.algebra.specs.LowestTerms.{Parts}
use Rattle.scaled_plane.specs.declared.point.Pair.{Pair}
use Rattle.scaled_plane.specs.declared.drawing.Edge.{Edge}
use Rattle.scaled_plane.specs.declared.drawing.Face.{Face}
use Rattle.scaled_plane.specs.Scaling.{IsCommonDenominator, IsFirstOf, IsTooWide, PassesDenominator, PassesPart}
use Rattle.algebra.specs.Surd.{Surd}
use Rattle.algebra.specs.WholeSurds.{SurdNumbers}
use Rattle.scaled_plane.specs.declared.drawing.Ends.{Ends}
use Rattle.flat_fold.specs.declared.motion.Motion.{Motion}
use Rattle.flat_fold.specs.declared.images.Origin.{Origin}
use Rattle.flat_fold.specs.declared.places.PlaceFault.{PlaceFault}
use Rattle.flat_fold.specs.declared.places.PlaceFault.TheVariants.{NumberPast as CornerPast, Memory as CornerMemory}
use Rattle.flat_fold.specs.declared.images.Numbered.{Numbered}
use Rattle.flat_fold.specs.declared.fold.FoldFlatFault.{FoldFlatFault}
use Rattle.flat_fold.specs.declared.fold.FoldFlatFault.TheVariants.{NumberPast, Unclosed, TooWide, Memory}
use Rattle.flat_fold.specs.Making.{AreClosedImages, AreNumbersBy, HasNumbers, IsImageTooWide, place_fault}
use Rattle.flat_fold.specs.Numbers.{AreLaid}
use Rattle.flat_fold.specs.Sheets.{FormSheet}
use Rattle.flat_fold.proofs.SheetLaws.{corners-in_range}
use Rattle.flat_fold.proofs.ImageLaws.{corner-face}
use Rattle.flat_fold.specs.Computed.{Computed, ComputedField, Fits, at_hand}
use Rattle.flat_fold.specs.Motions.{identity}
use Rattle.flat_fold.specs.Operations.{placing}
use Rattle.flat_fold.specs.Faces.{IsWalk, corners_at}
use Rattle.flat_fold.specs.Folding.{AllFits, AllMapsFit, Closes, Disagrees, IsFoldable, IsPathMap, PlaceFits, corner_placing, point, walk_map}
use Rattle.flat_fold.specs.Folding.IsPathMap.{first, next}
use Rattle.flat_fold.specs.Images.{AreImages, AreNumbers, Gives, IsNumberOf, corner_at, map_at, place_by}
use Rattle.flat_fold.specs.PathMaps.{ArePathMaps}
use Rattle.flat_fold.specs.Places.{IsFirstFacePast, IsPlaceFault, laying_by, AreVertices, laid_order}
use Rattle.flat_fold.specs.Folded.{AreFaceMaps, IsFirstPlacePast, IsFolding, Refuses}
use Rattle.flat_fold.proofs.FoldingLaws.{closes-iff, leads-in_range, one-side}
use Rattle.flat_fold.proofs.Walks.{leads-back}
use Rattle.flat_fold.proofs.PathMaps.{one-path_map, walk-path}

module _ {A : Type 0} (K : ComputedField A) (coords : List (Pair A)) (edges : List Edge) (faces : List Face) (foldable : IsFoldable K.field coords edges faces)
    (maps : List (Motion A)) (are : ArePathMaps K coords edges faces maps) where
  pub path-face : (f : ℕ) (m : Computed (Motion A)) → IsPathMap K coords edges faces f m → f < length faces
  path-face f m first = foldable.some_face
  path-face f m (next {f = h} {g} {e} entry before) = leads-in_range edges faces e h g (leads-back edges faces e g h entry.leads)

  -- the path map of a face is the one that is kept, and doesn't overflow
  pub kept-map : (f : ℕ) (m : Computed (Motion A)) → IsPathMap K coords edges faces f m → Fits m × (map_at K.field maps f ≡ m.value)
  kept-map f m is =
      let kept = are.each f (identity K.field) (path-face f m is) in
      let same : kept.0 ≡ m = one-path_map K coords edges faces (one-side edges faces foldable.one_face) kept.1 is refl in
      (subst (λ (c : Computed (Motion A)). Fits c) same kept.2, kept.3 ∙ ap (λ (c : Computed (Motion A)). c.value) same)

  pub maps-fit : AllMapsFit K coords edges faces
  maps-fit f m is = (kept-map f m is).0

  place-fits : (f k : ℕ) → (k < length (corners_at faces f) → Fits (laying_by K coords faces maps f k)) → PlaceFits K coords edges faces f k
  place-fits f k fits m is within = subst (λ (x : Motion A). Fits (corner_placing K coords edges faces x f k)) (kept-map f m is).1 (fits within)

  pub all-fits : ((f k : ℕ) → f < length faces → k < length (corners_at faces f) → Fits (laying_by K coords faces maps f k)) → AllFits K coords edges faces
  all-fits fits = record {
    maps = maps-fit;
    places = λ f k m is within. place-fits f k (fits f k (path-face f m is)) m is within;
  }

  pub first-past : (f v : ℕ) → IsFirstFacePast K coords faces maps f v → (k : ℕ) × IsFirstPlacePast K coords edges faces f k × (corner_at faces f k ≡ v)
  first-past f v h =
      let kept = are.each f (identity K.field) h.within in (
        h.first.corner,
        record {
          maps = maps-fit;
          map = kept.0;
          is_map = kept.1;
          corner = h.first.within;
          past = λ fits. h.first.past (subst (λ (x : Motion A). Fits (corner_placing K coords edges faces x f h.first.corner)) (sym kept.3) fits);
          earlier_faces = λ g j less. place-fits g j (h.earlier g j less);
          earlier_corners = λ j less. place-fits f j (λ within. h.first.earlier j less);
        },
        h.first.vertex,
      )

  path-at : (f : ℕ) → (f < length faces) ⊎ (length faces ≤ f) → Computed (Motion A)
  path-at f (inl less) = (are.each f (identity K.field) less).0
  path-at f (inr more) = at_hand (identity K.field)

  is-path : (f : ℕ) (c : (f < length faces) ⊎ (length faces ≤ f)) → f < length faces → IsPathMap K coords edges faces f (path-at f c)
  unfolding path-at
  is-path f (inl less) within = (are.each f (identity K.field) less).1
  is-path f (inr more) within = absurd (omega (arith, more, within))

  pub closes-where : ((e : ℕ) → ¬ Disagrees K coords edges faces e) → Closes K.field coords edges faces
  closes-where none = (closes-iff K coords edges faces foldable (λ f. path-at f (cases_lt f (length faces))) (λ f. is-path f (cases_lt f (length faces)))).1 none

  pub face-maps : Closes K.field coords edges faces → AreFaceMaps K.field coords edges faces maps
  face-maps closes = record {
    long = are.long;
    walk = λ f es less w. (
        let kept = are.each f (identity K.field) less in
        kept.3 ∙ sym (walk-path K coords edges faces foldable.apart closes f kept.0 es kept.1 w)
        );
  }

  pub folding : Closes K.field coords edges faces → (origins : List Origin) (images : List (Pair A)) → AreImages K.field coords faces maps origins images → IsFolding K.field coords edges faces maps origins images
  folding closes origins images h = record { closes = closes; maps_are = face-maps closes; images_are = h }

-- ---- too wide

-- the vertex at which points are too wide is one of them
pub wide-in_range : {N : Type 0} (parts : N → Parts) (coords : List (Pair N)) (i : ℕ) → IsTooWide parts coords i → i < length coords
wide-in_range {N} parts coords i (inl passes) = passes.0.0
wide-in_range {N} parts coords i (inr wide) = elim (cases_lt i (length coords)) [ inl less ↦ less | inr more ↦ absurd (past coords more wide.0 wide.1.0) ]
  where
    past : (cs : List (Pair N)) → length cs ≤ i → ((u : ℕ) → ¬ PassesDenominator parts cs u) → PassesPart parts cs i → ⊥
    past [] more none part =
        let at = part 1 (record { positive = omega arith; multiple = λ c h. absurd (let short : h.0 < length {A = Pair N} [] = h.1 in omega arith); least = λ n some m. some }) in
        let less = slice_get_within [] i at.0 at.1 in
        absurd (omega (arith, less))
    past (c ∷ cs) more none part =
        none (length cs) (
          omega arith,
          λ m denominator. absurd (
              let whole : IsCommonDenominator parts (c ∷ cs) m = subst (λ (xs : List (Pair N)). IsCommonDenominator parts xs m) (take-length (c ∷ cs)) denominator in
              let at = part m whole in
              let less : i < length (c ∷ cs) = slice_get_within (c ∷ cs) i at.0 at.1 in
              omega (arith, less, more)),
        )

-- ---- the same facts over lists that are read

module _ {A : Type 0} (K : ComputedField A) (coords coords' : List (Pair A)) (faces faces' : List Face) (maps maps' : List (Motion A)) (ec : coords' ≡ coords) (ef : faces' ≡ faces) (em : maps' ≡ maps) where
  pub laid-as : (numbers : ℕ × ℕ → Option ℕ) (origins : List Origin) (images : List (Pair A)) → AreLaid K coords' faces' maps' numbers origins images → AreLaid K coords faces maps numbers origins images
  laid-as numbers origins images h =
      subst (λ (c : List (Pair A)). AreLaid K c faces maps numbers origins images) ec (subst (λ (f : List Face). AreLaid K coords' f maps numbers origins images) ef
      (subst (λ (m : List (Motion A)). AreLaid K coords' faces' m numbers origins images) em h))

  pub fault-as : (fault : PlaceFault) → IsPlaceFault K coords' faces' maps' fault → IsPlaceFault K coords faces maps fault
  fault-as fault h =
      subst (λ (c : List (Pair A)). IsPlaceFault K c faces maps fault) ec (subst (λ (f : List Face). IsPlaceFault K coords' f maps fault) ef
      (subst (λ (m : List (Motion A)). IsPlaceFault K coords' faces' m fault) em h))

pub refused-place : {A : Type 0} (K : ComputedField A) (coords : List (Pair A)) (edges : List Edge) (faces : List Face) (foldable : IsFoldable K.field coords edges faces) (maps : List (Motion A)) → ArePathMaps K coords edges faces maps
    → (parts : A → Parts) (fault : PlaceFault) → IsPlaceFault K coords faces maps fault → Refuses K coords edges faces parts (place_fault fault)
refused-place K coords edges faces foldable maps are parts (CornerPast f v) h = first-past K coords edges faces foldable maps are f v h
refused-place K coords edges faces foldable maps are parts (CornerMemory e) h = tt

-- each corner is a vertex
pub are-vertices : {N : Type 0} {parts : N → Parts} {W : Type 0} {k : ℕ} {surd : W → Surd ℤ} {numbers : SurdNumbers k surd} (ends : Ends N) (faces : List Face) (form : FormSheet parts numbers ends faces)
    → (f : ℕ) → AreVertices (length ends.coords) (corners_at faces f)
are-vertices ends faces form f k less = corners-in_range ends faces form f k 0 (corner-face faces f (slice_index_or (corners_at faces f) k 0) (k, less, get_or_default (corners_at faces f) k (slice_index_or (corners_at faces f) k 0) 0 less)) less

-- ---- corners by the numbers of their images

-- one corner more
pub more_numbers : (numbers : ℕ × ℕ → Option ℕ) (face : ℕ) (corners : List ℕ) (n : ℕ) (by : List ℕ) (r : ℕ) → numbers (slice_index_or corners n 0, face) ≡ Some r
    → AreNumbersBy numbers face corners n by → AreNumbersBy numbers face corners (n + 1) (by ++ r ∷ [])
more_numbers numbers face corners n by r here before = record {
  long = (let h : length (by ++ r ∷ []) ≡ length by + 1 = length-append by (r ∷ []) in let k : length by ≡ n = before.long in omega (arith, h, k));
  each = λ k less. elim (cases_lt k n) [
    | inl low ↦ (let within : k < length by = (let e : length by ≡ n = before.long in omega (arith, low, e)) in before.each k low ∙ ap (λ (x : ℕ). Some x) (sym (get_or_append_left by (r ∷ []) 0 k within)))
    | inr high ↦ (let last : k ≡ n = omega (arith, less, high) in
        ap (λ (j : ℕ). numbers (slice_index_or corners j 0, face)) last ∙ here ∙ ap (λ (x : ℕ). Some x) (sym (ap (λ (j : ℕ). slice_index_or (by ++ r ∷ []) j 0) (last ∙ sym before.long) ∙ get_or-append_seam by r [] 0)))
  ];
}

-- the faces below n, by the numbers of their corners' images
pub record AreFacesBy (numbers : ℕ × ℕ → Option ℕ) (faces : List Face) (n : ℕ) (by : List Face) : Type 0 where
  pub long : length by ≡ n
  pub each : (f : ℕ) → f < n → AreNumbersBy numbers f (corners_at faces f) (length (corners_at faces f)) (corners_at by f)

pub more_faces : (numbers : ℕ × ℕ → Option ℕ) (faces : List Face) (n : ℕ) (by : List Face) (r : Face) → AreNumbersBy numbers n (corners_at faces n) (length (corners_at faces n)) r.corners
    → AreFacesBy numbers faces n by → AreFacesBy numbers faces (n + 1) (by ++ r ∷ [])
more_faces numbers faces n by r here before = record {
  long = (let h : length (by ++ r ∷ []) ≡ length by + 1 = length-append by (r ∷ []) in let k : length by ≡ n = before.long in omega (arith, h, k));
  each = λ f less. elim (cases_lt f n) [
    | inl low ↦ (let within : f < length by = (let e : length by ≡ n = before.long in omega (arith, low, e)) in
        subst (λ (x : Face). AreNumbersBy numbers f (corners_at faces f) (length (corners_at faces f)) x.corners) (sym (get_or_append_left by (r ∷ []) (record { corners = [] }) f within)) (before.each f low))
    | inr high ↦ (let last : n ≡ f = omega (arith, less, high) in
        let new : slice_index_or (by ++ r ∷ []) n (record { corners = [] }) ≡ r = ap (λ (j : ℕ). slice_index_or (by ++ r ∷ []) j (record { corners = [] })) (sym before.long) ∙ get_or-append_seam by r [] (record { corners = [] }) in
        subst (λ (g : ℕ). AreNumbersBy numbers g (corners_at faces g) (length (corners_at faces g)) (corners_at (by ++ r ∷ []) g)) last
        (subst (λ (x : Face). AreNumbersBy numbers n (corners_at faces n) (length (corners_at faces n)) x.corners) (sym new) here))
  ];
}

module _ {A : Type 0} (K : ComputedField A) (coords : List (Pair A)) (edges : List Edge) (faces : List Face) (maps : List (Motion A)) (numbered : Numbered A) (done : AreClosedImages K coords edges faces maps numbered) where
  corner-gives : (f k : ℕ) → k < length (corners_at faces f) → Gives K.field coords faces maps f (corner_at faces f k) (place_by K.field coords faces maps f (corner_at faces f k))
  corner-gives f k less = record {
    corner = (k, less, get_or_default (corners_at faces f) k (corner_at faces f k) 0 less);
    placed = refl;
  }

  pub has-numbers : (f : ℕ) → HasNumbers (get laid_order numbered.numbers) f (corners_at faces f)
  has-numbers f k less = let known = done.laid.known.each f (corner_at faces f k) (place_by K.field coords faces maps f (corner_at faces f k)) (corner-gives f k less) in (known.0, known.1)

  pub are-numbers : (by : List Face) → length by ≡ length faces → ((f : ℕ) → f < length faces → AreNumbersBy (get laid_order numbered.numbers) f (corners_at faces f) (length (corners_at faces f)) (corners_at by f))
      → AreNumbers K.field coords faces maps numbered.origins numbered.images by
  are-numbers by long each = record {
    all_faces = long;
    all_corners = λ f. elim (cases_lt f (length faces)) [
      | inl less ↦ (each f less).long
      | inr more ↦ (
          let none : slice_index_or by f (record { corners = [] }) ≡ record { corners = [] } = get_or_past by f (record { corners = [] }) (omega (arith, more, long)) in
          let empty : slice_index_or faces f (record { corners = [] }) ≡ record { corners = [] } = get_or_past faces f (record { corners = [] }) more in
          ap (λ (x : Face). length x.corners) none ∙ ap (λ (x : Face). length x.corners) (sym empty)
          )
    ];
    each = λ f k less within. (
        let known = done.laid.known.each f (corner_at faces f k) (place_by K.field coords faces maps f (corner_at faces f k)) (corner-gives f k within) in
        let both : Some known.0 ≡ Some (corner_at by f k) = sym known.1 ∙ (each f less).each k within in
        let one : known.0 ≡ corner_at by f k = cc in
        subst (λ i. IsNumberOf K.field numbered.origins numbered.images i (corner_at faces f k) (place_by K.field coords faces maps f (corner_at faces f k))) one known.2
        );
  }

  pub refused-wide : (parts : A → Parts) (fault : FoldFlatFault) → IsImageTooWide parts numbered.origins numbered.images fault → Refuses K coords edges faces parts fault
  refused-wide parts (TooWide v) h = record {
    fits = done.fits;
    maps = maps;
    origins = numbered.origins;
    images = numbered.images;
    folding = done.folding;
    image = h.0;
    too_wide = h.1;
    vertex = h.2;
  }
  refused-wide parts (Memory e) h = tt
  refused-wide parts (NumberPast f v) h = absurd h
  refused-wide parts (Unclosed e) h = absurd h
