-- Faces and their corners are no more than half-edges, and the corners are vertices.
use Rattle.std.proofs.Common.{◌≡◌, ◌⊎◌, inl, inr, ℕ, zero, suc, ◌+◌, ◌<◌, ◌≤◌, ◌^◌, List, [], ◌∷◌, ◌++◌, length, get_or, refl, sym, ap, subst, ◌∙◌, arith}
use Rattle.std.specs.Prelude.{AllPairs, Contains, slice_index, slice_index_or}
use Rattle.std.specs.List.{AllByRecursion}
use Rattle.std.specs.declared.cmp.Ordering.TheVariants.{Less, Equal}
use Rattle.std.proofs.lemmas.Cmp.{tied_itself}
use Rattle.std.proofs.lemmas.List.{length-append, length-map, get_or_append_left, get_or_push, get_or_default}
use Rattle.std.proofs.lemmas.List.Elements.{Contains-get_or}
use Rattle.algebra.specs.OrderedRing.{OrderedRing}
use Rattle.plane.specs.declared.point.Point.{Point}
use Rattle.plane.proofs.Members.{in_head, in_tail}
use Rattle.scaled_plane.specs.declared.drawing.Edge.{Edge}
use Rattle.scaled_plane.specs.declared.drawing.Face.{Face}
use Rattle.regions.specs.Faces.{IsPlane}
use Rattle.regions.proofs.Outer.{in_range}
use Rattle.half_edges.proofs.Paths.{few_apart}
use Rattle.half_edges.specs.Halves.{Halves, count}
use Rattle.face_walks.specs.Fitting.{AreFacesWithin, HasCornersWithin}
use Rattle.face_walks.specs.Found.{AreCycles, IsFrom, corners_in}
use Rattle.face_walks.specs.Linked.{IsLinked, piece_at}
use Rattle.face_walks.specs.Orders.{corners_of, piece_order}
use Rattle.face_walks.proofs.CycleLists.{piece_total}
use Rattle.face_walks.proofs.CycleWalks.{cycle_within}

-- the first n values
placed : (ℕ → ℕ) → ℕ → List ℕ
placed f zero = []
placed f (suc n) = placed f n ++ f n ∷ []

placed_long : (f : ℕ → ℕ) (n : ℕ) → length (placed f n) ≡ n
unfolding placed
placed_long f zero = refl
placed_long f (suc n) = length-append (placed f n) (f n ∷ []) ∙ (let m = placed_long f n in omega (arith, m))

last_or_less : (k n : ℕ) → k < suc n → (k < n) ⊎ (k ≡ n)
last_or_less k n l = grind arith

placed_at : (f : ℕ → ℕ) (n k d : ℕ) → k < n → get_or (placed f n) k d ≡ f k
unfolding placed
placed_at f zero k d l = absurd (omega (arith, l))
placed_at f (suc n) k d l =
    let long = placed_long f n in
    elim (last_or_less k n l) [
      | inl m ↦ get_or_append_left (placed f n) (f n ∷ []) d k (omega (arith, m, long)) ∙ placed_at f n k d m
      | inr e ↦ get_or_push (placed f n) (f n) d k (long ∙ sym e) ∙ ap f (sym e)
    ]

-- different numbers below m, one for each number below n, are no more than m
few_placed : (f : ℕ → ℕ) (n m : ℕ) → ((k : ℕ) → k < n → f k < m) → ((j k : ℕ) → j < k → k < n → ¬ (f j ≡ f k)) → n ≤ m
few_placed f n m below once =
    let long = placed_long f n in
    let few = few_apart (placed f n) m
    (λ i j d a b same.
    let bn : j < n = omega (arith, b, long) in
    let an : i < n = omega arith in
    once i j a bn (sym (placed_at f n i d an) ∙ same ∙ placed_at f n j d bn))
    (λ k d l. let ln : k < n = omega (arith, l, long) in subst (λ (x : ℕ). x < m) (sym (placed_at f n k d ln)) (below k ln)) in
    omega (arith, few, long)

all_places : {X : Type 0} (P : X → Type 0) (xs : List X) (d : X) → ((k : ℕ) → k < length xs → P (slice_index_or xs k d)) → AllByRecursion P xs
all_places P [] d h = tt
all_places P (x ∷ xs) d h = (h 0 (omega arith), all_places P xs d (λ k l. h (suc k) (omega (arith, l))))

module _ {A : Type 0} (K : OrderedRing A) (vertices : List (Point A)) (edges : List Edge) (plane : IsPlane K vertices edges)
    (arena : Halves (ℕ × ℕ)) (linked : IsLinked K vertices edges arena) where
  corners_below : (cycle : List ℕ) → ((h : ℕ) → Contains cycle h → h < count arena) → AllByRecursion (λ corner. corner < length vertices) (corners_of arena cycle)
  corners_below [] h = tt
  corners_below (x ∷ xs) h = (
    in_range K vertices edges plane (piece_at arena x).0 (piece_at arena x).1 (linked.holds.only x (h x (in_head x xs))),
    corners_below xs (λ y i. h y (in_tail x xs y i)),
  )

  module _ (corners : List ℕ) (half : ℕ) (cycle : List ℕ) (from : IsFrom arena corners half cycle) where
    within : (h : ℕ) → Contains cycle h → h < count arena
    within h i = cycle_within arena linked.holds.is_arena half cycle from.in_range from.is h i

    few_corners : length corners ≤ count arena
    few_corners =
        let few = few_apart cycle (count arena) from.is.once (λ k d l. within (get_or cycle k d) (Contains-get_or cycle k d l)) in
        let long : length corners ≡ length cycle = ap length from.corners_are ∙ length-map cycle (λ h. (piece_at arena h).0) in
        omega (arith, few, long)

    has_corners : HasCornersWithin (length vertices) (record { corners = corners })
    has_corners = (
      (let few = few_corners in let all = linked.holds.is_arena.few in omega (arith, few, all)),
      subst (λ (c : List ℕ). AllByRecursion (λ corner. corner < length vertices) c) (sym from.corners_are) (corners_below cycle within),
    )

  module _ (outside : ℕ) (faces : List Face) (outer : List ℕ) (c : AreCycles arena outside faces outer) where
    apart : (j k : ℕ) → j < k → k < length faces → ¬ (slice_index c.begins j ≡ slice_index c.begins k)
    apart j k l m same =
        let p = piece_at arena (slice_index c.begins k) in
        let less : piece_order p p ≡ Less = subst (λ (h : ℕ). piece_order (piece_at arena h) p ≡ Less) same (c.sorted j k l m) in
        let tied : piece_order p p ≡ Equal = tied_itself piece_total p in
        cc

    pub few_faces : length faces ≤ count arena
    few_faces = few_placed (slice_index c.begins) (length faces) (count arena) (λ k l. (c.face k l).1.in_range) apart

    pub are_within : AreFacesWithin (length vertices) faces
    are_within = (
      (let few = few_faces in let all = linked.holds.is_arena.few in omega (arith, few, all)),
      all_places (HasCornersWithin (length vertices)) faces (record { corners = [] })
          (λ k l. let f = c.face k l in has_corners (corners_in faces k) (slice_index c.begins k) f.0 f.1),
    )
