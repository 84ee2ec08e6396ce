-- The edges of a drawing as pieces between numbered points, with the regions between them.
use Prim.Native.Nat.{ℕ, suc, ◌<◌}
use mathlib.Core.Path.{◌≡◌, refl, ap, subst, subst₂}
use mathlib.Core.List.{List, [], ◌∷◌}
use mathlib.Core.Logic.{inl, inr}
use Rattle.std.proofs.Common.{arith}
use Rattle.std.proofs.lemmas.List.{get_or_default}
use Rattle.std.proofs.lemmas.Bool.{cases_lt}
use Rattle.std.specs.Prelude.{Contains, AllPairs, length}
use Rattle.std.specs.declared.cmp.Ordering.TheVariants.{Greater}
use Rattle.algebra.specs.OrderedRing.{OrderedRing}
use Rattle.plane.specs.declared.point.Point.{Point}
use Rattle.plane.specs.Points.{IsPoint, IsSamePoint, origin}
use Rattle.plane.specs.Segments.{IsOn, SegmentsMeet, IsEnd as IsEndPoint, MeetInEnds as MeetInEndPoints}
use Rattle.plane.proofs.First.{same_or_not}
use Rattle.plane.proofs.Lines.{same_through, same_turned}
use Rattle.plane.proofs.Members.{in_cons, in_head, in_tail, in_nil}
use Rattle.scaled_plane.specs.declared.drawing.Edge.{Edge}
use Rattle.scaled_plane.specs.Pieces.{point_at}
use Rattle.scaled_plane.specs.Walks.{IsDirectedPiece}
use Rattle.scaled_plane.specs.Regions.{AreInOneRegion, straight as straight_on, bent as bent_on, IsClear as IsClearOf, IsOff as IsOffAll, IsBounded as IsBoxed, SeesPiece}
use Rattle.regions.specs.Faces.{IsPlane as IsPlaneDrawing}
use Rattle.regions.proofs.Drawings.{Piece, piece, Among, IsDirected, OnPiece, IsEnd, MeetInEnds, IsPlane}
use Rattle.regions.proofs.Regions.{IsOff, IsClear, OneRegion, straight, bent, LeftOf, middle_of, IsBounded}

abbrev pub piece_of : Edge → Piece
piece_of e = piece e.from e.to

abbrev pub pieces_of : List Edge → List Piece
pieces_of [] = []
pieces_of (e ∷ es) = piece_of e ∷ pieces_of es

pub among_pieces : (es : List Edge) (e : Edge) → Contains es e → Among (pieces_of es) (piece_of e)
among_pieces [] e i = absurd (in_nil e i)
among_pieces (f ∷ es) e i = elim (in_cons f es e i) [
  | inl s ↦ inl (ap (λ (x : Edge). piece_of x) s)
  | inr j ↦ inr (among_pieces es e j)
]

pub edge_of : (es : List Edge) (d : Piece) → Among (pieces_of es) d → (e : Edge) × Contains es e × (piece_of e ≡ d)
edge_of [] d i = absurd i
edge_of (f ∷ es) d (inl s) = (f, in_head f es, s)
edge_of (f ∷ es) d (inr i) =
    let r : (e : Edge) × Contains es e × (piece_of e ≡ d) = edge_of es d i in
    (r.0, in_tail f es r.0 r.1, r.2)

-- what holds of all edges holds of all pieces
pub for_pieces : (es : List Edge) (P : Piece → Type 0) → ((e : Edge) → Contains es e → P (piece_of e)) → (d : Piece) → Among (pieces_of es) d → P d
for_pieces es P h d i =
    let r : (e : Edge) × Contains es e × (piece_of e ≡ d) = edge_of es d i in
    subst P r.2 (h r.0 r.1)

pub directed : (es : List Edge) (u v : ℕ) → IsDirectedPiece es u v → IsDirected (pieces_of es) (piece u v)
directed es u v h = elim h.2 [
  | inl s ↦ inl (subst₂ (λ (a b : ℕ). Among (pieces_of es) (piece a b)) s.0 s.1 (among_pieces es h.0 h.1))
  | inr s ↦ inr (subst₂ (λ (a b : ℕ). Among (pieces_of es) (piece a b)) s.0 s.1 (among_pieces es h.0 h.1))
]

pub directed_piece : (es : List Edge) (u v : ℕ) → IsDirected (pieces_of es) (piece u v) → IsDirectedPiece es u v
directed_piece es u v (inl i) =
    let r : (e : Edge) × Contains es e × (piece_of e ≡ piece u v) = edge_of es (piece u v) i in
    (r.0, r.1, inl (ap (λ (d : Piece). d.tail) r.2, ap (λ (d : Piece). d.head) r.2))
directed_piece es u v (inr i) =
    let r : (e : Edge) × Contains es e × (piece_of e ≡ piece v u) = edge_of es (piece v u) i in
    (r.0, r.1, inr (ap (λ (d : Piece). d.tail) r.2, ap (λ (d : Piece). d.head) r.2))

module _ {A : Type 0} (K : OrderedRing A) (vertices : List (Point A)) (edges : List Edge) where
  abbrev pub place : ℕ → Point A
  place v = point_at K vertices v

  abbrev pub ps : List Piece
  ps = pieces_of edges

  -- ---- regions

  pub off_pieces : (p : Point A) → IsOffAll K vertices edges p → IsOff K place ps p
  off_pieces p h = for_pieces edges (λ d. ¬ OnPiece K place d p) h

  clear_pieces : (p q : Point A) → IsClearOf K vertices edges p q → IsClear K place ps p q
  clear_pieces p q c = for_pieces edges (λ d. ¬ SegmentsMeet K p q (place d.tail) (place d.head)) c

  pub region_of : {p q : Point A} → AreInOneRegion K vertices edges p q → OneRegion K place ps p q
  region_of (straight_on {p} {q} hp hq c) = straight hp hq (clear_pieces p q c)
  region_of (bent_on {p} {q} hp c one) = bent hp (clear_pieces p q c) (region_of one)

  clear_back : (p q : Point A) → IsClear K place ps p q → IsClearOf K vertices edges p q
  clear_back p q c e i = c (piece_of e) (among_pieces edges e i)

  pub region_on : {p q : Point A} → OneRegion K place ps p q → AreInOneRegion K vertices edges p q
  region_on (straight {p} {q} hp hq c) = straight_on hp hq (clear_back p q c)
  region_on (bent {p} {q} hp c one) = bent_on hp (clear_back p q c) (region_on one)

  pub bounded_on : (p : Point A) → IsBounded K place ps p → IsBoxed K vertices edges p
  bounded_on p b = (b.0, b.1, b.2, λ q r. b.3 q (region_of r))

  pub bounded_of : (p : Point A) → IsBoxed K vertices edges p → IsBounded K place ps p
  bounded_of p b = (b.0, b.1, b.2, λ q r. b.3 q (region_on r))

  pub left_of : (u v : ℕ) (p : Point A) → SeesPiece K vertices edges u v p → LeftOf K place ps (piece u v) p
  left_of u v p s = record {
    point = s.point;
    left = s.left;
    clear = for_pieces edges (λ d. (x : Point A) (on : IsOn K p (middle_of K place (piece u v)) x) → K.sign on.from_share ≡ Greater → ¬ OnPiece K place d x) s.clear;
  }

  pub sees_of : (u v : ℕ) (p : Point A) → LeftOf K place ps (piece u v) p → SeesPiece K vertices edges u v p
  sees_of u v p l = record {
    point = l.point;
    left = l.left;
    clear = λ e i. l.clear (piece_of e) (among_pieces edges e i);
  }

  -- ---- plane drawings

  module _ (h : IsPlaneDrawing K vertices edges) where
    pub vertex_point : (v : ℕ) → v < length vertices → IsPoint K (place v)
    vertex_point v l = h.points (place v) (v, l, get_or_default vertices v (place v) (origin K.ops) l)

    pub same_vertex : (u v : ℕ) → u < length vertices → v < length vertices → IsSamePoint K (place u) (place v) → u ≡ v
    same_vertex u v hu hv s = elim (same_or_not u v) [
      | inl e ↦ e
      | inr n ↦ elim (cases_lt u v) [
        | inl l ↦ absurd (h.different u v (origin K.ops) l hv s)
        | inr l ↦ absurd (h.different v u (origin K.ops) (omega (arith, n)) hu (same_turned K s))
      ]
    ]

    abbrev IsSet : Edge → Type 0
    IsSet e = (e.from < length vertices) × (e.to < length vertices) × ¬ (e.from ≡ e.to)

    abbrev Meet : Edge → Edge → Type 0
    Meet e f = MeetInEndPoints K (place e.from) (place e.to) (place f.from) (place f.to)

    end_vertex : (e : Edge) (x : Point A) → IsSet e → IsEndPoint K (place e.from) (place e.to) x
        → (v : ℕ) × (v < length vertices) × IsEnd (piece_of e) v × IsSamePoint K x (place v)
    end_vertex e x s (inl t) = (e.from, s.0, inl refl, t)
    end_vertex e x s (inr t) = (e.to, s.1, inr refl, t)

    ends_met : (e f : Edge) → IsSet e → IsSet f → Meet e f → MeetInEnds K place (piece_of e) (piece_of f)
    ends_met e f se sf m x hx on_e on_f =
        let r : IsEndPoint K (place e.from) (place e.to) x × IsEndPoint K (place f.from) (place f.to) x = m x hx on_e on_f in
        let a : (v : ℕ) × (v < length vertices) × IsEnd (piece_of e) v × IsSamePoint K x (place v) = end_vertex e x se r.0 in
        let b : (v : ℕ) × (v < length vertices) × IsEnd (piece_of f) v × IsSamePoint K x (place v) = end_vertex f x sf r.1 in
        let one : b.0 ≡ a.0 = same_vertex b.0 a.0 b.1 a.1 (same_through K (place b.0) x (place a.0) hx (same_turned K b.3) a.3) in
        (a.0, a.2, subst (λ (v : ℕ). IsEnd (piece_of f) v) one b.2, same_turned K a.3)

    plane_pieces : (es : List Edge) → ((e : Edge) → Contains es e → IsSet e) → AllPairs Meet es → IsPlane K place (pieces_of es)
    plane_pieces [] sets apart = tt
    plane_pieces (e ∷ es) sets apart =
        let se : IsSet e = sets e (in_head e es) in (
          vertex_point e.from se.0,
          vertex_point e.to se.1,
          (λ s. se.2 (same_vertex e.from e.to se.0 se.1 s)),
          for_pieces es (λ d. MeetInEnds K place (piece_of e) d)
              (λ f i. ends_met e f se (sets f (in_tail e es f i)) (subst (λ (g : Edge). Meet e g) i.2 (apart 0 (suc i.0) f (omega arith) (omega (arith, i.1))))),
          plane_pieces es (λ f i. sets f (in_tail e es f i)) (λ i j d l within. apart (suc i) (suc j) d (omega (arith, l)) (omega (arith, within))),
        )

    pub is_plane : IsPlane K place ps
    is_plane = plane_pieces edges h.ends h.apart
