-- What segments are cut into, by tests.
use mathlib.Core.Path.{◌≡◌, refl}
use mathlib.Core.Bool.{Bool, true, false}
use mathlib.Core.List.{List, [], ◌∷◌}
use mathlib.Core.Logic.{inl, inr}
use Rattle.std.specs.List.{AllByRecursion}
use Rattle.std.specs.List.Sorted.{IsStrictlySortedBy}
use Rattle.std.specs.Prelude.{◌&&◌, ◌||◌, not, Contains}
use Rattle.std.specs.Ordering.{is_le, is_eq, is_lt}
use Rattle.std.specs.declared.cmp.Ordering.{Ordering}
use Rattle.std.specs.declared.cmp.Ordering.TheVariants.{Less, Equal, Greater}
use Rattle.algebra.specs.Order.{product_sign}
use Rattle.algebra.specs.OrderedRing.{OrderedRing}
use Rattle.plane.specs.declared.point.Point.{Point}
use Rattle.plane.specs.Points.{IsPoint, IsSamePoint, point_order}
use Rattle.plane.specs.Lines.{side, crossing}
use Rattle.plane.specs.Segments.{IsOn}
use Rattle.plane.specs.Directions.{direction, turn}
use Rattle.plane.proofs.Crossings.{apart_of_on, common_is_crossing, crossing_point}
use Rattle.plane.proofs.Lines.{same_through}
use Rattle.plane.proofs.Shares.{side_of_on}
use Rattle.scaled_plane.specs.declared.point.Segment.{Segment}
use Rattle.scaled_plane.specs.Pieces.{AreVertices, IsCut, IsEndOfOne, IsProper, IsVertex}
use Rattle.drawing_examples.proofs.Lists.{and_first, and_second, every, every_of, or_either, some, some_of}
use Rattle.drawing_examples.proofs.Tests.{equal_decides, is_same, less_decides, lies, lies_decides, same_decides}

abbrev greater : Ordering → Bool
greater Less = false
greater Equal = false
greater Greater = true

greater_is : (o : Ordering) → greater o ≡ true → o ≡ Greater
greater_is Less h = absurd (cc)
greater_is Equal h = absurd (cc)
greater_is Greater h = refl

abbrev pub sorted : {X : Type 0} → (X → X → Ordering) → List X → Bool
sorted order [] = true
sorted order (x ∷ xs) = every (λ y. is_lt (order x y)) xs && sorted order xs

each_less : {X : Type 0} (order : X → X → Ordering) (x : X) (ys : List X) → every (λ y. is_lt (order x y)) ys ≡ true → AllByRecursion (λ y. order x y ≡ Less) ys
each_less order x [] h = tt
each_less order x (y ∷ ys) h =
    ((less_decides (order x y)).0 (and_first (is_lt (order x y)) (every (λ z. is_lt (order x z)) ys) h), each_less order x ys (and_second (is_lt (order x y)) (every (λ z. is_lt (order x z)) ys) h))

pub sorted_is : {X : Type 0} (order : X → X → Ordering) (xs : List X) → sorted order xs ≡ true → IsStrictlySortedBy order xs
unfolding IsStrictlySortedBy
sorted_is order [] h = tt
sorted_is order (x ∷ xs) h =
    (each_less order x xs (and_first (every (λ y. is_lt (order x y)) xs) (sorted order xs) h), sorted_is order xs (and_second (every (λ y. is_lt (order x y)) xs) (sorted order xs) h))

pub both : (a b : Bool) → a ≡ true → b ≡ true → (a && b) ≡ true
both true b h k = k
both false b h k = absurd (cc)

pub not_is : (b : Bool) → not b ≡ true → ¬ (b ≡ true)
not_is true h e = absurd (cc)
not_is false h e = absurd (cc)

module _ {A : Type 0} (K : OrderedRing A) (segments : List (Segment A)) (vertices : List (Point A)) where
  abbrev pub points : Bool
  points = every (λ s. greater (K.sign s.from.w) && greater (K.sign s.to.w)) segments && every (λ y. greater (K.sign y.w)) vertices

  abbrev pub ends_listed : Bool
  ends_listed = every (λ s. is_same K s.from s.to || (some (is_same K s.from) vertices && some (is_same K s.to) vertices)) segments

  abbrev parallel : Segment A → Segment A → Bool
  parallel s t = is_eq (K.sign (turn K.ops (direction K.ops s.from s.to) (direction K.ops t.from t.to)))

  abbrev apart : Segment A → Segment A → Bool
  apart s t = is_le (product_sign (side K s.from s.to t.from) (side K s.from s.to t.to)) && is_le (product_sign (side K t.from t.to s.from) (side K t.from t.to s.to))

  abbrev cut_listed : Segment A → Segment A → Bool
  cut_listed s t = parallel s t || (not (apart s t) || some (is_same K (crossing K s.from s.to t.from t.to)) vertices)

  abbrev pub cuts_listed : Bool
  cuts_listed = every (λ s. every (cut_listed s) segments) segments

  abbrev is_end : Point A → Segment A → Bool
  is_end y s = not (is_same K s.from s.to) && (is_same K y s.from || is_same K y s.to)

  abbrev is_cut : Point A → Segment A → Segment A → Bool
  is_cut y s t =
      (not (is_same K s.from s.to) && not (is_same K t.from t.to)) && (not (parallel s t) && (lies K s.from s.to y && lies K t.from t.to y))

  abbrev pub vertices_only : Bool
  vertices_only = every (λ y. some (is_end y) segments || some (λ s. some (is_cut y s) segments) segments) vertices

  -- a vertex of the list
  pub record IsListed (p : Point A) : Type 0 where
    pub point : Point A
    pub is : Contains vertices point
    pub same : IsSamePoint K p point

  module _ (all_points : points ≡ true) where
    pub from_point : (s : Segment A) → Contains segments s → IsPoint K s.from
    from_point s i =
        let h = every_of (λ s. greater (K.sign s.from.w) && greater (K.sign s.to.w)) segments (and_first (every (λ s. greater (K.sign s.from.w) && greater (K.sign s.to.w)) segments) (every (λ y. greater (K.sign y.w)) vertices) all_points) s i in
        greater_is (K.sign s.from.w) (and_first (greater (K.sign s.from.w)) (greater (K.sign s.to.w)) h)

    pub to_point : (s : Segment A) → Contains segments s → IsPoint K s.to
    to_point s i =
        let h = every_of (λ s. greater (K.sign s.from.w) && greater (K.sign s.to.w)) segments (and_first (every (λ s. greater (K.sign s.from.w) && greater (K.sign s.to.w)) segments) (every (λ y. greater (K.sign y.w)) vertices) all_points) s i in
        greater_is (K.sign s.to.w) (and_second (greater (K.sign s.from.w)) (greater (K.sign s.to.w)) h)

    pub vertex_point : (y : Point A) → Contains vertices y → IsPoint K y
    vertex_point y i =
        greater_is (K.sign y.w)
        (every_of (λ y. greater (K.sign y.w)) vertices (and_second (every (λ s. greater (K.sign s.from.w) && greater (K.sign s.to.w)) segments) (every (λ y. greater (K.sign y.w)) vertices) all_points) y i)

    listed : (p e : Point A) → IsPoint K e → IsSamePoint K p e → some (is_same K e) vertices ≡ true → IsListed p
    listed p e he h t =
        let y = some_of (is_same K e) vertices t in
        record { point = y.0; is = y.1; same = same_through K p e y.0 he h ((same_decides K e y.0).0 y.2) }

    end_listed : ends_listed ≡ true → (p : Point A) → IsEndOfOne K segments p → IsListed p
    end_listed t p h =
        let s = h.0 in
        let found = every_of (λ s. is_same K s.from s.to || (some (is_same K s.from) vertices && some (is_same K s.to) vertices)) segments t s h.1 in
        elim (or_either (is_same K s.from s.to) (some (is_same K s.from) vertices && some (is_same K s.to) vertices) found) [
          | inl e ↦ absurd (h.2 ((same_decides K s.from s.to).0 e))
          | inr e ↦ elim h.3 [
            | inl f ↦ listed p s.from (from_point s h.1) f (and_first (some (is_same K s.from) vertices) (some (is_same K s.to) vertices) e)
            | inr f ↦ listed p s.to (to_point s h.1) f (and_second (some (is_same K s.from) vertices) (some (is_same K s.to) vertices) e)
          ]
        ]

    cut_is_listed : cuts_listed ≡ true → (p : Point A) → IsPoint K p → IsCut K segments p → IsListed p
    cut_is_listed u p hp h =
        let s = h.0 in
        let t = h.1 in
        let a = from_point s h.2 in
        let b = to_point s h.2 in
        let c = from_point t h.3 in
        let d = to_point t h.3 in
        let on_s : IsOn K s.from s.to p = h.7.0 in
        let on_t : IsOn K t.from t.to p = h.7.1 in
        let found = every_of (cut_listed s) segments (every_of (λ s. every (cut_listed s) segments) segments u s h.2) t h.3 in
        elim (or_either (parallel s t) (not (apart s t) || some (is_same K (crossing K s.from s.to t.from t.to)) vertices) found) [
          | inl e ↦ absurd (h.6 ((equal_decides (K.sign (turn K.ops (direction K.ops s.from s.to) (direction K.ops t.from t.to)))).0 e))
          | inr e ↦ elim (or_either (not (apart s t)) (some (is_same K (crossing K s.from s.to t.from t.to)) vertices) e) [
            | inl f ↦ absurd (not_is (apart s t) f
                (both (is_le (product_sign (side K s.from s.to t.from) (side K s.from s.to t.to))) (is_le (product_sign (side K t.from t.to s.from) (side K t.from t.to s.to)))
                (apart_of_on K s.from s.to t.from t.to p c d hp (side_of_on K on_s) on_t) (apart_of_on K t.from t.to s.from s.to p a b hp (side_of_on K on_t) on_s)))
            | inr f ↦ listed p (crossing K s.from s.to t.from t.to) (crossing_point K s.from s.to t.from t.to h.6)
                (common_is_crossing K s.from s.to t.from t.to p a b c d (hp, on_s, on_t)) f
          ]
        ]

    pub vertex_listed : ends_listed ≡ true → cuts_listed ≡ true → (p : Point A) → IsVertex K segments p → IsListed p
    vertex_listed t u p h = elim h.1 [ inl e ↦ end_listed t p e | inr c ↦ cut_is_listed u p h.0 c ]

    end_is : (y : Point A) → some (is_end y) segments ≡ true → IsEndOfOne K segments y
    end_is y t =
        let r = some_of (is_end y) segments t in
        let s = r.0 in (
          s,
          r.1,
          λ e. not_is (is_same K s.from s.to) (and_first (not (is_same K s.from s.to)) (is_same K y s.from || is_same K y s.to) r.2) ((same_decides K s.from s.to).1 e),
          elim (or_either (is_same K y s.from) (is_same K y s.to) (and_second (not (is_same K s.from s.to)) (is_same K y s.from || is_same K y s.to) r.2)) [
            | inl e ↦ inl ((same_decides K y s.from).0 e)
            | inr e ↦ inr ((same_decides K y s.to).0 e)
          ],
        )

    cut_is : (y : Point A) → IsPoint K y → some (λ s. some (is_cut y s) segments) segments ≡ true → IsCut K segments y
    cut_is y hy w =
        let r = some_of (λ s. some (is_cut y s) segments) segments w in
        let q = some_of (is_cut y r.0) segments r.2 in
        let s = r.0 in
        let t = q.0 in
        let proper = and_first (not (is_same K s.from s.to) && not (is_same K t.from t.to)) (not (parallel s t) && (lies K s.from s.to y && lies K t.from t.to y)) q.2 in
        let rest = and_second (not (is_same K s.from s.to) && not (is_same K t.from t.to)) (not (parallel s t) && (lies K s.from s.to y && lies K t.from t.to y)) q.2 in
        let on = and_second (not (parallel s t)) (lies K s.from s.to y && lies K t.from t.to y) rest in
        let first_proper : IsProper K s = λ e. not_is (is_same K s.from s.to) (and_first (not (is_same K s.from s.to)) (not (is_same K t.from t.to)) proper) ((same_decides K s.from s.to).1 e) in
        let second_proper : IsProper K t = λ e. not_is (is_same K t.from t.to) (and_second (not (is_same K s.from s.to)) (not (is_same K t.from t.to)) proper) ((same_decides K t.from t.to).1 e) in (
          s,
          t,
          r.1,
          q.1,
          first_proper,
          second_proper,
          λ e. not_is (parallel s t) (and_first (not (parallel s t)) (lies K s.from s.to y && lies K t.from t.to y) rest) ((equal_decides (K.sign (turn K.ops (direction K.ops s.from s.to) (direction K.ops t.from t.to)))).1 e),
          (
            (lies_decides K s.from s.to y (from_point s r.1) (to_point s r.1) hy first_proper).0 (and_first (lies K s.from s.to y) (lies K t.from t.to y) on),
            (lies_decides K t.from t.to y (from_point t q.1) (to_point t q.1) hy second_proper).0 (and_second (lies K s.from s.to y) (lies K t.from t.to y) on),
          ),
        )

    pub vertex_is : vertices_only ≡ true → (y : Point A) → Contains vertices y → IsVertex K segments y
    vertex_is t y i =
        let h = every_of (λ y. some (is_end y) segments || some (λ s. some (is_cut y s) segments) segments) vertices t y i in (
          vertex_point y i,
          elim (or_either (some (is_end y) segments) (some (λ s. some (is_cut y s) segments) segments) h) [
            | inl e ↦ inl (end_is y e)
            | inr e ↦ inr (cut_is y (vertex_point y i) e)
          ],
        )

    pub are_vertices : sorted (point_order K) vertices ≡ true → ends_listed ≡ true → cuts_listed ≡ true → vertices_only ≡ true → AreVertices K segments vertices
    are_vertices s t u v = record {
      sorted = sorted_is (point_order K) vertices s;
      only = vertex_is v;
      every = λ p h. let f = vertex_listed t u p h in (f.point, f.is, f.same);
    }
