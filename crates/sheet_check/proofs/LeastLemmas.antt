-- The least pair of edges that keep a drawing from being plane.
use mathlib.Core.Path.{◌≡◌, refl, sym, ap, subst, ◌∙◌}
use mathlib.Core.List.{List, [], ◌∷◌, map}
use mathlib.Core.Bool.{Bool, true, false}
use Rattle.std.proofs.Common.{inl, inr, arith, ℕ, zero, suc, ◌<◌, ◌≤◌, ◌-◌, length, get_or, eqb}
use Rattle.std.specs.Prelude.{◌⊎◌, ◌≢◌, All, AllPairs, Contains, MatchOption, Option, Some, None, max, slice_get, slice_index_or}
use Rattle.std.specs.List.{IsDistinct}
use Rattle.std.specs.List.Sorted.{IsPermutation}
use Rattle.std.proofs.Math.Nat.{min-eq_left, min-eq_right, max-eq_left, max-eq_right}
use Rattle.std.proofs.lemmas.Bool.{cases_lt, eqb-false, eqb-true, ne_eqb}
use Rattle.std.proofs.lemmas.List.{get_or_append_left, get_or_default, get_or-append_right, get_or-map, length-append, length-map}
use Rattle.std.proofs.lemmas.List.Elements.{All-contains}
use Rattle.std.proofs.lemmas.List.Sorted.{Contains-permutation}
use Rattle.std.proofs.lemmas.Map.Keys.{apart_from_distinct, IsDistinct-from_apart, IsDistinct-IsPermutation}
use Rattle.std.proofs.lemmas.Option.{get_or_from_slice_get, none-some, same_Some, slice_get-get_or, slice_get_within}
use Rattle.algebra.specs.OrderedRing.{OrderedRing}
use Rattle.plane.specs.declared.point.Point.{Point}
use Rattle.plane.specs.Segments.{IsEnd, IsOnBoth}
use Rattle.scaled_plane.specs.declared.drawing.Edge.{Edge}
use Rattle.scaled_plane.specs.declared.point.Segment.{Segment}
use Rattle.scaled_plane.specs.Pieces.{point_at}
use Rattle.scaled_plane.specs.Scaling.{IsFirstOf}
use Rattle.scaled_plane.specs.Sheets.{MeetBesideEnds}
use Rattle.arrangement.proofs.Listed.{seen_in}
use Rattle.sheet_check.specs.Passed.{IsFirstPair}
use Rattle.sheet_check.specs.Spans.{AreTested, ComesFrom, IsFlat, IsNotPlane, IsOfEdge, IsReachedBy, MeetBeside, MeetTwo, pair_of, up_to}
use Rattle.sheet_check.proofs.CommonPoints.{meets_turned}

-- ---- the numbers from 0 on

length_up_to : (n : ℕ) → length (up_to n) ≡ n
length_up_to zero = refl
length_up_to (suc n) = length-append (up_to n) (n ∷ []) ∙ (let e = length_up_to n in omega (arith, e))

at_up_to : (n i d : ℕ) → i < n → get_or (up_to n) i d ≡ i
at_up_to zero i d less = absurd (omega (arith, less))
at_up_to (suc n) i d less = elim (cases_lt i n) [
  | inl below ↦ get_or_append_left (up_to n) (n ∷ []) d i (let e = length_up_to n in omega (arith, e, below)) ∙ at_up_to n i d below
  | inr from ↦
      let same : i ≡ n = omega (arith, less, from) in
      let nothing : i - n ≡ 0 = omega (arith, same) in
      get_or-append_right (up_to n) (n ∷ []) n i d (length_up_to n) from ∙ ap (λ k. get_or (n ∷ []) k d) nothing ∙ sym same
]

in_up_to : (n i : ℕ) → i < n → Contains (up_to n) i
in_up_to n i less = (i, (let e = length_up_to n in omega (arith, e, less)), at_up_to n i i less)

up_to_distinct : (n : ℕ) → IsDistinct eqb (up_to n)
up_to_distinct n =
    IsDistinct-from_apart eqb (up_to n) (λ i j d less within.
    let in_n : j < n = (let e = length_up_to n in omega (arith, e, within)) in
    let a : get_or (up_to n) i d ≡ i = at_up_to n i d (omega (arith, less, in_n)) in
    let b : get_or (up_to n) j d ≡ j = at_up_to n j d in_n in
    ne_eqb _ _ (λ e. let same : i ≡ j = sym a ∙ e ∙ b in omega (arith, same, less)))

flips : (x y : ℕ) → eqb x y ≡ eqb y x
flips x y = by_cases (eqb x y) (eqb y x) refl refl
  where
    by_cases : (a b : Bool) → eqb x y ≡ a → eqb y x ≡ b → a ≡ b
    by_cases true true ea eb = refl
    by_cases false false ea eb = refl
    by_cases true false ea eb = absurd (eqb-false y x eb (sym (eqb-true x y ea)))
    by_cases false true ea eb = absurd (eqb-false x y ea (sym (eqb-true y x eb)))

-- edges that are listed once each have different numbers
differ_in : {V : Type 0} (edge : V → ℕ) (n : ℕ) (spans : List V) → IsPermutation (up_to n) (map edge spans) → AllPairs (λ s t. edge s ≢ edge t) spans
differ_in edge n spans every i j d less within e =
    let in_map : j < length (map edge spans) = subst (λ m. j < m) (sym (length-map spans edge)) within in
    let i_in : i < length spans = omega (arith, less, within) in
    eqb-false _ _ (apart_from_distinct eqb (map edge spans) i j (edge d) (IsDistinct-IsPermutation eqb flips (up_to n) (map edge spans) every (up_to_distinct n)) less in_map)
    (get_or-map edge spans i d (edge d) i_in ∙ e ∙ sym (get_or-map edge spans j d (edge d) within))

pub different_edges : {V : Type 0} (edge : V → ℕ) (n : ℕ) (spans seen : List V) → seen ≡ spans → IsPermutation (up_to n) (map edge spans) → AllPairs (λ s t. edge s ≢ edge t) seen
different_edges edge n spans seen is every = subst (AllPairs (λ s t. edge s ≢ edge t)) (sym is) (differ_in edge n spans every)

-- ---- a segment is that of its edge

pair_below : {V : Type 0} (edge : V → ℕ) (s t : V) (low high : ℕ) → edge s ≡ low → edge t ≡ high → low < high → pair_of edge s t ≡ (low, high)
pair_below edge s t low high es et less =
    let l : edge s ≤ edge t = omega (arith, es, et, less) in
    ap (λ m. (m, max (edge s) (edge t))) (min-eq_left l ∙ es) ∙ ap (λ m. (low, m)) (max-eq_right l ∙ et)

pair_above : {V : Type 0} (edge : V → ℕ) (s t : V) (low high : ℕ) → edge s ≡ high → edge t ≡ low → low < high → pair_of edge s t ≡ (low, high)
pair_above edge s t low high es et less =
    let l : edge t ≤ edge s = omega (arith, es, et, less) in
    ap (λ m. (m, max (edge s) (edge t))) (min-eq_right l ∙ et) ∙ ap (λ m. (low, m)) (max-eq_left l ∙ es)

module _ {A : Type 0} (K : OrderedRing A) (vertices : List (Point A)) (edges : List Edge) where
  abbrev at : ℕ → Point A
  at v = point_at K vertices v

  abbrev Beside : Point A → Point A → Point A → Point A → Type 0
  Beside a b c d = (p : Point A) × IsOnBoth K a b c d p × ¬ (IsEnd K a b p × IsEnd K c d p)

  module _ (s t : Segment A) (e f : Edge) (s_from : s.from ≡ point_at K vertices e.from) (s_to : s.to ≡ point_at K vertices e.to)
      (t_from : t.from ≡ point_at K vertices f.from) (t_to : t.to ≡ point_at K vertices f.to) where
    to_ends : MeetBeside K s t → MeetBesideEnds K vertices e f
    to_ends m =
        subst (λ (x : Point A). Beside x (at e.to) (at f.from) (at f.to)) s_from
        (subst (λ (x : Point A). Beside s.from x (at f.from) (at f.to)) s_to
        (subst (λ (x : Point A). Beside s.from s.to x (at f.to)) t_from
        (subst (λ (x : Point A). Beside s.from s.to t.from x) t_to m)))

    from_ends : MeetBesideEnds K vertices e f → MeetBeside K s t
    from_ends m =
        subst (λ (x : Point A). Beside x s.to t.from t.to) (sym s_from)
        (subst (λ (x : Point A). Beside (at e.from) x t.from t.to) (sym s_to)
        (subst (λ (x : Point A). Beside (at e.from) (at e.to) x t.to) (sym t_from)
        (subst (λ (x : Point A). Beside (at e.from) (at e.to) (at f.from) x) (sym t_to) m)))

-- ---- edges whose ends are equal

pub not_flat : (edges : List Edge) (i : ℕ) (d : Edge) → ¬ ((slice_index_or edges i d).from ≡ (slice_index_or edges i d).to) → ¬ IsFlat edges i
not_flat edges i d differ f = differ (subst (λ (x : Edge). x.from ≡ x.to) (sym (get_or_from_slice_get edges i f.0 d f.1)) f.2)

pub none_flat : (edges : List Edge) (n : ℕ) → length edges ≤ n → ((i : ℕ) → i < n → ¬ IsFlat edges i) → (e : Edge) → Contains edges e → ¬ (e.from ≡ e.to)
none_flat edges n all before e there same =
    let within = there.1 in
    before there.0 (omega (arith, all, within)) (e, slice_get-get_or edges there.0 e there.1 ∙ ap Some there.2, same)

-- ---- the least pair, from all pairs that were tested

not_before : (p q : ℕ × ℕ) → (q.0 < p.0) ⊎ ((q.0 ≡ p.0) × (q.1 ≤ p.1)) → (p.0 < q.0) ⊎ ((p.0 ≡ q.0) × (p.1 < q.1)) → ⊥
not_before p q (inl a) (inl b) = omega (arith, a, b)
not_before p q (inl a) (inr b) = let e = b.0 in omega (arith, a, e)
not_before p q (inr a) (inl b) = let e = a.0 in omega (arith, e, b)
not_before p q (inr a) (inr b) = let le = a.1 in let less = b.1 in omega (arith, le, less)

-- a pair that was reached by all others, and itself is one
least_of : (P : ℕ → ℕ → Type 0) (found : Option (ℕ × ℕ)) → ((low high : ℕ) → P low high → IsReachedBy found (low, high)) → ((p : ℕ × ℕ) → found ≡ Some p → P p.0 p.1)
    → MatchOption found ((low high : ℕ) → ¬ P low high) (IsFirstPair P)
least_of P None reached sound = λ low high h. reached low high h
least_of P (Some p) reached sound = (sound p refl, λ u v before h. not_before (u, v) p (reached u v h) before)

module _ {A : Type 0} (K : OrderedRing A) (vertices : List (Point A)) (edges : List Edge) {V : Type 0} (segment : V → Segment A) (edge : V → ℕ) (spans : List V)
    (of_edges : All (λ s. IsOfEdge K vertices edges (segment s) (edge s)) spans) where
  -- two spans that meet beside their ends are two edges that do
  beside_of : (s t : V) → Contains spans s → Contains spans t → edge s < edge t → MeetBeside K (segment s) (segment t) → IsNotPlane K vertices edges (edge s) (edge t)
  beside_of s t in_s in_t less m =
      let hs = All-contains (λ x. IsOfEdge K vertices edges (segment x) (edge x)) spans s of_edges in_s in
      let ht = All-contains (λ x. IsOfEdge K vertices edges (segment x) (edge x)) spans t of_edges in_t in
      (hs.edge, ht.edge, hs.is, ht.is, inr (less, to_ends K vertices edges (segment s) (segment t) hs.edge ht.edge hs.from_is hs.to_is ht.from_is ht.to_is m))

  two_not_plane : (p : ℕ × ℕ) → MeetTwo K segment edge spans p → IsNotPlane K vertices edges p.0 p.1
  two_not_plane p m = by_cases m.0 m.1 m.2 m.3 m.4 m.5 m.6 (cases_lt (edge m.0) (edge m.1))
    where
      by_cases : (s t : V) → Contains spans s → Contains spans t → edge s ≢ edge t → p ≡ pair_of edge s t → MeetBeside K (segment s) (segment t)
          → (edge s < edge t) ⊎ (edge t ≤ edge s) → IsNotPlane K vertices edges p.0 p.1
      by_cases s t in_s in_t differ is meet (inl less) =
          subst (λ (q : ℕ × ℕ). IsNotPlane K vertices edges q.0 q.1) (sym (is ∙ pair_below edge s t (edge s) (edge t) refl refl less)) (beside_of s t in_s in_t less meet)
      by_cases s t in_s in_t differ is meet (inr le) =
          let less : edge t < edge s = omega (arith, le, differ) in
          subst (λ (q : ℕ × ℕ). IsNotPlane K vertices edges q.0 q.1) (sym (is ∙ pair_above edge s t (edge t) (edge s) refl refl less))
          (beside_of t s in_t in_s less (meets_turned K (segment s) (segment t) meet))

  module _ (every : IsPermutation (up_to (length edges)) (map edge spans)) (before found : Option (ℕ × ℕ))
      (flat : MatchOption before ((e : Edge) → Contains edges e → ¬ (e.from ≡ e.to)) (λ p. (p.0 ≡ p.1) × IsFirstOf (IsFlat edges) p.0)) where
    span_of_edge : (n : ℕ) (e : Edge) → slice_get edges n ≡ Some e → (s : V) × Contains spans s × (edge s ≡ n)
    span_of_edge n e is = seen_in edge spans n (Contains-permutation (up_to (length edges)) (map edge spans) n every (in_up_to (length edges) n (slice_get_within edges n e is)))

    -- the ends of the segment of an edge that is read
    same_edge : (s : V) → Contains spans s → (n : ℕ) (e : Edge) → edge s ≡ n → slice_get edges n ≡ Some e
        → ((segment s).from ≡ point_at K vertices e.from) × ((segment s).to ≡ point_at K vertices e.to)
    same_edge s in_s n e is read =
        let h = All-contains (λ x. IsOfEdge K vertices edges (segment x) (edge x)) spans s of_edges in_s in
        let same : h.edge ≡ e = same_Some h.edge e (sym h.is ∙ ap (slice_get edges) is ∙ read) in
        (h.from_is ∙ ap (λ (x : Edge). point_at K vertices x.from) same, h.to_is ∙ ap (λ (x : Edge). point_at K vertices x.to) same)

    flat_reached : (o : Option (ℕ × ℕ)) → MatchOption o ((e : Edge) → Contains edges e → ¬ (e.from ≡ e.to)) (λ p. (p.0 ≡ p.1) × IsFirstOf (IsFlat edges) p.0)
        → (low high : ℕ) → low ≡ high → IsFlat edges low → IsReachedBy o (low, high)
    flat_reached None none low high same f = absurd (none f.0 (in_edges low f.0 f.1) f.2)
      where
        in_edges : (n : ℕ) (e : Edge) → slice_get edges n ≡ Some e → Contains edges e
        in_edges n e is = (n, slice_get_within edges n e is, get_or_from_slice_get edges n e e is)
    flat_reached (Some p) some low high same f = elim (cases_lt p.0 low) [
      | inl less ↦ inl less
      | inr le ↦ elim (cases_lt low p.0) [
        | inl sooner ↦ absurd (some.1.1 low sooner f)
        | inr upto ↦ inr (omega (arith, le, upto), (let e = some.0 in omega (arith, e, le, upto, same)))
      ]
    ]

    flat_sound : (o : Option (ℕ × ℕ)) → MatchOption o ((e : Edge) → Contains edges e → ¬ (e.from ≡ e.to)) (λ p. (p.0 ≡ p.1) × IsFirstOf (IsFlat edges) p.0)
        → (p : ℕ × ℕ) → o ≡ Some p → IsNotPlane K vertices edges p.0 p.1
    flat_sound None h p e = absurd (none-some p e)
    flat_sound (Some q) h p e =
        subst (λ (r : ℕ × ℕ). IsNotPlane K vertices edges r.0 r.1) (same_Some q p e)
        (h.1.0.0, h.1.0.0, h.1.0.1, ap (slice_get edges) (sym h.0) ∙ h.1.0.1, inl (h.0, h.1.0.2))

    module _ (from : ComesFrom before (MeetTwo K segment edge spans) found) (kept : (p : ℕ × ℕ) → IsReachedBy before p → IsReachedBy found p)
        (tested : AllPairs (AreTested K segment edge found) spans) where
      meeting_reached : (low high : ℕ) (e f : Edge) → slice_get edges low ≡ Some e → slice_get edges high ≡ Some f → low < high → MeetBesideEnds K vertices e f → IsReachedBy found (low, high)
      meeting_reached low high e f read_e read_f less m = at (span_of_edge low e read_e) (span_of_edge high f read_f)
        where
          at : ((s : V) × Contains spans s × (edge s ≡ low)) → ((t : V) × Contains spans t × (edge t ≡ high)) → IsReachedBy found (low, high)
          at s t = by_places (cases_lt s.1.0 t.1.0)
            where
              es : ((segment s.0).from ≡ point_at K vertices e.from) × ((segment s.0).to ≡ point_at K vertices e.to)
              es = same_edge s.0 s.1 low e s.2 read_e

              et : ((segment t.0).from ≡ point_at K vertices f.from) × ((segment t.0).to ≡ point_at K vertices f.to)
              et = same_edge t.0 t.1 high f t.2 read_f

              meet : MeetBeside K (segment s.0) (segment t.0)
              meet = from_ends K vertices edges (segment s.0) (segment t.0) e f es.0 es.1 et.0 et.1 m

              at_s : slice_index_or spans s.1.0 t.0 ≡ s.0
              at_s = get_or_default spans s.1.0 t.0 s.0 s.1.1 ∙ s.1.2

              at_t : slice_index_or spans t.1.0 s.0 ≡ t.0
              at_t = get_or_default spans t.1.0 s.0 t.0 t.1.1 ∙ t.1.2

              by_places : (s.1.0 < t.1.0) ⊎ (t.1.0 ≤ s.1.0) → IsReachedBy found (low, high)
              by_places (inl first) =
                  let test : AreTested K segment edge found s.0 t.0
                  = subst (λ (x : V). AreTested K segment edge found x t.0) at_s (subst (λ (y : V). AreTested K segment edge found (slice_index_or spans s.1.0 t.0) y) t.1.2 (tested s.1.0 t.1.0 t.0 first t.1.1)) in
                  subst (IsReachedBy found) (pair_below edge s.0 t.0 low high s.2 t.2 less) (test meet)
              by_places (inr upto) =
                  let other : ¬ (t.1.0 ≡ s.1.0) = λ same. (let one : t.0 ≡ s.0 = sym t.1.2 ∙ ap (λ k. slice_index_or spans k t.0) same ∙ at_s in
                  let number : high ≡ low = sym t.2 ∙ ap edge one ∙ s.2 in omega (arith, number, less)) in
                  let first : t.1.0 < s.1.0 = omega (arith, upto, other) in
                  let test : AreTested K segment edge found t.0 s.0
                  = subst (λ (x : V). AreTested K segment edge found x s.0) at_t (subst (λ (y : V). AreTested K segment edge found (slice_index_or spans t.1.0 s.0) y) s.1.2 (tested t.1.0 s.1.0 s.0 first s.1.1)) in
                  subst (IsReachedBy found) (pair_above edge t.0 s.0 low high t.2 s.2 less) (test (meets_turned K (segment s.0) (segment t.0) meet))

      all_reached : (low high : ℕ) → IsNotPlane K vertices edges low high → IsReachedBy found (low, high)
      all_reached low high h = elim h.4 [
        | inl equal ↦ kept (low, high) (flat_reached before flat low high equal.0 (h.0, h.2, equal.1))
        | inr two ↦ meeting_reached low high h.0 h.1 h.2 h.3 two.0 two.1
      ]

      each_sound : (p : ℕ × ℕ) → found ≡ Some p → IsNotPlane K vertices edges p.0 p.1
      each_sound p is = elim from [
        | inl same ↦ flat_sound before flat p (sym same ∙ is)
        | inr new ↦ subst (λ (q : ℕ × ℕ). IsNotPlane K vertices edges q.0 q.1) (same_Some new.0 p (sym new.1 ∙ is)) (two_not_plane new.0 new.2)
      ]

      least_not_plane : MatchOption found ((low high : ℕ) → ¬ IsNotPlane K vertices edges low high) (IsFirstPair (IsNotPlane K vertices edges))
      least_not_plane = least_of (IsNotPlane K vertices edges) found all_reached each_sound

pub least_pair : {A : Type 0} (K : OrderedRing A) (vertices : List (Point A)) (edges : List Edge) {V : Type 0} (segment : V → Segment A) (edge : V → ℕ) (spans seen : List V) → seen ≡ spans
    → All (λ s. IsOfEdge K vertices edges (segment s) (edge s)) spans → IsPermutation (up_to (length edges)) (map edge spans) → (before found : Option (ℕ × ℕ))
    → MatchOption before ((e : Edge) → Contains edges e → ¬ (e.from ≡ e.to)) (λ p. (p.0 ≡ p.1) × IsFirstOf (IsFlat edges) p.0)
    → ComesFrom before (MeetTwo K segment edge seen) found → ((p : ℕ × ℕ) → IsReachedBy before p → IsReachedBy found p) → AllPairs (AreTested K segment edge found) seen
    → MatchOption found ((low high : ℕ) → ¬ IsNotPlane K vertices edges low high) (IsFirstPair (IsNotPlane K vertices edges))
least_pair K vertices edges segment edge spans seen is of_edges every before found flat from kept tested =
    least_not_plane K vertices edges segment edge seen (subst (All (λ s. IsOfEdge K vertices edges (segment s) (edge s))) (sym is) of_edges)
    (subst (λ xs. IsPermutation (up_to (length edges)) (map edge xs)) (sym is) every) before found flat from kept tested
