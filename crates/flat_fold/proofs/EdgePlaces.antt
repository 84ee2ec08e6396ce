-- The test of agreement at an edge: it can't overflow once all places fit, and it doesn't hang on the order of the two faces.
use Rattle.std.proofs.Common.{◌≡◌, ◌∙◌, ap, sym, subst, ℕ, List, [], ◌∷◌, Bool, true, false, not, if◌then◌else◌, inl, inr, ◌⊎◌}
use Rattle.std.specs.List.{AllByRecursion, Contains}
use Rattle.std.proofs.lemmas.List.{get_or_default}
use Rattle.std.proofs.lemmas.List.Elements.{recursion_from_All, All-from_recursion, All-contains, All-contains_itself}
use Rattle.algebra.specs.OrderedField.{OrderedField}
use Rattle.scaled_plane.specs.declared.point.Pair.{Pair}
use Rattle.flat_fold.specs.declared.motion.Motion.{Motion}
use Rattle.scaled_plane.specs.declared.drawing.Edge.{Edge}
use Rattle.scaled_plane.specs.declared.drawing.Face.{Face}
use Rattle.scaled_plane.specs.Walks.{pieces_round, pieces_on_to}
use Rattle.flat_fold.specs.Computed.{Computed, ComputedField, Fits}
use Rattle.flat_fold.specs.Operations.{placing}
use Rattle.flat_fold.specs.Faces.{edge_at, corners_at, IsBetween, Leads}
use Rattle.flat_fold.specs.Folding.{is_crease, point, Agree, IsPathMap, AllFits, Disagrees, IsFoldable}
use Rattle.flat_fold.proofs.PathMaps.{one-path_map}
use Rattle.flat_fold.proofs.FoldingLaws.{one-side, agree-or_not}

-- what holds of each corner holds of both ends of each side
ends_on : (P : ℕ → Type 0) (first : ℕ) (corners : List ℕ) → P first → AllByRecursion P corners → AllByRecursion (λ (s : ℕ × ℕ). P s.0 × P s.1) (pieces_on_to first corners)
ends_on P first [] h all = tt
ends_on P first (u ∷ []) h all = ((all.0, h), tt)
ends_on P first (u ∷ (v ∷ rest)) h all = ((all.0, all.1.0), ends_on P first (v ∷ rest) h all.1)

ends_of : (P : ℕ → Type 0) (corners : List ℕ) → AllByRecursion P corners → AllByRecursion (λ (s : ℕ × ℕ). P s.0 × P s.1) (pieces_round corners)
ends_of P [] all = tt
ends_of P (u ∷ rest) all = ends_on P u (u ∷ rest) all.0 all

-- the ends of a side are corners
pub side-corners : (corners : List ℕ) (u v : ℕ) → Contains (pieces_round corners) (u, v) → Contains corners u × Contains corners v
side-corners corners u v h =
    All-contains (λ (s : ℕ × ℕ). Contains corners s.0 × Contains corners s.1) (pieces_round corners) (u, v)
    (All-from_recursion (λ (s : ℕ × ℕ). Contains corners s.0 × Contains corners s.1) (pieces_round corners)
    (ends_of (Contains corners) corners (recursion_from_All (Contains corners) corners (All-contains_itself corners)))) h

module _ {A : Type 0} (K : ComputedField A) (coords : List (Pair A)) (edges : List Edge) (faces : List Face) (fits : AllFits K coords edges faces) where
  corner_fits : (f v : ℕ) (m : Computed (Motion A)) → IsPathMap K coords edges faces f m → Contains (corners_at faces f) v → Fits (placing K m.value (point K.field coords v))
  corner_fits f v m is corner =
      subst (λ (u : ℕ). Fits (placing K m.value (point K.field coords u))) (get_or_default (corners_at faces f) corner.0 0 v corner.1 ∙ corner.2)
      (fits.places f corner.0 m is corner.1)

  -- the ends of an edge are placed by both its faces without overflow
  pub edge-fits : (e f g : ℕ) (m : Computed (Motion A)) → Leads edges faces e f g → IsPathMap K coords edges faces f m
      → Fits (placing K m.value (point K.field coords (edge_at edges e).from)) × Fits (placing K m.value (point K.field coords (edge_at edges e).to))
  edge-fits e f g m l is = at l.between
    where
      at : IsBetween edges faces (edge_at edges e) f g → Fits (placing K m.value (point K.field coords (edge_at edges e).from)) × Fits (placing K m.value (point K.field coords (edge_at edges e).to))
      at (inl h) = let ends = side-corners (corners_at faces f) (edge_at edges e).from (edge_at edges e).to h.0 in
          (corner_fits f (edge_at edges e).from m is ends.0, corner_fits f (edge_at edges e).to m is ends.1)
      at (inr h) = let ends = side-corners (corners_at faces f) (edge_at edges e).to (edge_at edges e).from h.0 in
          (corner_fits f (edge_at edges e).from m is ends.1, corner_fits f (edge_at edges e).to m is ends.0)

turned_back : (b m n : Bool) → n ≡ (if b then not m else m) → m ≡ (if b then not n else n)
turned_back false m n e = sym e
turned_back true false n e = ap not (sym e)
turned_back true true n e = ap not (sym e)

pub agree-back : {A : Type 0} (F : OrderedField A) (coords : List (Pair A)) (edge : Edge) (m n : Motion A) → Agree F coords edge m n → Agree F coords edge n m
agree-back F coords edge m n a = record { from = sym a.from; to = sym a.to; turned = turned_back (is_crease edge.letter) m.turned n.turned a.turned }

-- the kept maps agree at an edge exactly where it doesn't disagree
module _ {A : Type 0} (K : ComputedField A) (coords : List (Pair A)) (edges : List Edge) (faces : List Face) (foldable : IsFoldable K.field coords edges faces)
    (e f g : ℕ) (leads : Leads edges faces e f g) (only : (h k : ℕ) → Leads edges faces e h k → ((h ≡ f) × (k ≡ g)) ⊎ ((h ≡ g) × (k ≡ f)))
    (m n : Computed (Motion A)) (is_m : IsPathMap K coords edges faces f m) (is_n : IsPathMap K coords edges faces g n) where
  one : (h k : ℕ) (a b : Computed (Motion A)) → IsPathMap K coords edges faces h a → IsPathMap K coords edges faces k b → h ≡ k → a ≡ b
  one h k a b is_a is_b same = one-path_map K coords edges faces (one-side edges faces foldable.one_face) is_a is_b same

  pub agreed : Agree K.field coords (edge_at edges e) m.value n.value → ¬ Disagrees K coords edges faces e
  agreed a d = at (only d.face d.other d.leads)
    where
      at : ((d.face ≡ f) × (d.other ≡ g)) ⊎ ((d.face ≡ g) × (d.other ≡ f)) → ⊥
      at (inl same) =
          let first : m ≡ d.map = one f d.face m d.map is_m d.is_map (sym same.0) in
          let second : n ≡ d.other_map = one g d.other n d.other_map is_n d.is_other_map (sym same.1) in
          d.apart (subst (λ (x : Computed (Motion A)). Agree K.field coords (edge_at edges e) x.value d.other_map.value) first (subst (λ (y : Computed (Motion A)). Agree K.field coords (edge_at edges e) m.value y.value) second a))
      at (inr other) =
          let first : n ≡ d.map = one g d.face n d.map is_n d.is_map (sym other.0) in
          let second : m ≡ d.other_map = one f d.other m d.other_map is_m d.is_other_map (sym other.1) in
          d.apart (subst (λ (x : Computed (Motion A)). Agree K.field coords (edge_at edges e) x.value d.other_map.value) first (subst (λ (y : Computed (Motion A)). Agree K.field coords (edge_at edges e) n.value y.value) second (agree-back K.field coords (edge_at edges e) m.value n.value a)))

  pub disagreed : ¬ Agree K.field coords (edge_at edges e) m.value n.value → Disagrees K coords edges faces e
  disagreed a = record { face = f; other = g; map = m; other_map = n; leads = leads; is_map = is_m; is_other_map = is_n; apart = a }

  pub not_disagreed : ¬ Disagrees K coords edges faces e → Agree K.field coords (edge_at edges e) m.value n.value
  not_disagreed d = elim (agree-or_not K.field coords (edge_at edges e) m.value n.value) [ inl a ↦ a | inr b ↦ absurd (d (disagreed b)) ]
