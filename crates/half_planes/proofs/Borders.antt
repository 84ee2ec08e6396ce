-- The lines of a face, one for each directed piece round it, whose half-planes have its inside in common.
use Rattle.std.proofs.Common.{◌≡◌, ◌∙◌, ap, sym, subst, refl, ℕ, ◌+◌, ◌<◌, List, [], ◌∷◌, ◌++◌, length, slice_get, Some, Bool, true, false, ◌↔◌, inl, inr, arith}
use Prim.Native.Nat.{suc, zero}
use lib.IntN.{ℤ}
use Rattle.std.specs.List.{All}
use Rattle.std.proofs.lemmas.Option.{slice_get_within}
use Rattle.std.proofs.lemmas.List.Elements.{All-nil, All-cons, All-head, All-tail, Contains-append_left, Contains-append_right, Contains-append_cases}
use Rattle.algebra.specs.OrderedRing.{OrderedRing}
use Rattle.algebra.specs.Surd.{Surd}
use Rattle.algebra.specs.WholeSurds.{SurdNumbers}
use Rattle.plane.specs.declared.point.Point.{Point}
use Rattle.plane.specs.declared.point.Line.{Line}
use Rattle.plane.specs.Lines.{LiesIn}
use Rattle.layers.specs.Pieces.{Piece, pieces_on_to, pieces_round}
use Rattle.layers.specs.Sheets.{FoldedFace, IsInsideFace, IsInside}
use Rattle.layers.proofs.Faces.{borders, inward_line, inward_lines, inside_lies, lies_inside}
use Rattle.scaled_plane.specs.Drawn.{IsScaledPoint}
use Rattle.half_planes.specs.HalfPlanes.{HalfPlanesMeet, Enters, IsFormed}
use Rattle.half_planes.specs.Faces.{InsidesMeet, ThreeInsidesMeet, EntersFace}

module _ {A : Type 0} where
  pub length_on_to : (first : Point A) (ps : List (Point A)) → length (pieces_on_to first ps) ≡ length ps
  length_on_to first [] = refl
  length_on_to first (p ∷ []) = refl
  length_on_to first (p ∷ (q ∷ rest)) = ap suc (length_on_to first (q ∷ rest))

  length_round : (ps : List (Point A)) → length (pieces_round ps) ≡ length ps
  length_round [] = refl
  length_round (p ∷ rest) = length_on_to p (p ∷ rest)

  -- the piece from a corner to the next one, or from the last to the first
  on_to_at : (first : Point A) (ps : List (Point A)) (k : ℕ) (p q : Point A) → slice_get ps k ≡ Some p → (suc k ≡ length ps → first ≡ q)
      → (suc k < length ps → slice_get ps (suc k) ≡ Some q) → slice_get (pieces_on_to first ps) k ≡ Some (record { from = p; to = q })
  on_to_at first [] k p q read last other = absurd (omega (arith, slice_get_within [] k p read))
  on_to_at first (c ∷ []) zero p q read last other =
      let to : first ≡ q = last refl in
      let from : c ≡ p = cc in
      cc
  on_to_at first (c ∷ []) (suc k) p q read last other = absurd (omega (arith, slice_get_within (c ∷ []) (suc k) p read))
  on_to_at first (c ∷ (d ∷ rest)) zero p q read last other =
      let next : slice_get (c ∷ (d ∷ rest)) 1 ≡ Some q = other (omega arith) in
      let to : d ≡ q = cc in
      let from : c ≡ p = cc in
      cc
  on_to_at first (c ∷ (d ∷ rest)) (suc k) p q read last other =
      on_to_at first (d ∷ rest) k p q read (λ e. last (ap suc e)) (λ h. other (omega (arith, h)))

  pub round_at : (ps : List (Point A)) (k j : ℕ) (p q : Point A) → slice_get ps k ≡ Some p → slice_get ps j ≡ Some q
      → (k + 1 ≡ length ps → j ≡ 0) → (k + 1 < length ps → j ≡ k + 1) → slice_get (pieces_round ps) k ≡ Some (record { from = p; to = q })
  round_at [] k j p q read_p read_q last other = absurd (omega (arith, slice_get_within [] k p read_p))
  round_at (c ∷ rest) k j p q read_p read_q last other =
      on_to_at c (c ∷ rest) k p q read_p
      (λ e. let at : j ≡ 0 = last (omega (arith, e)) in let read : slice_get (c ∷ rest) 0 ≡ Some q = subst (λ (i : ℕ). slice_get (c ∷ rest) i ≡ Some q) at read_q in cc)
      (λ h. let at : j ≡ suc k = omega (arith, other (omega (arith, h))) in subst (λ (i : ℕ). slice_get (c ∷ rest) i ≡ Some q) at read_q)

  -- what holds of all corners holds of both ends of each piece
  on_to_ends : (P : Point A → Type 0) (first : Point A) (ps : List (Point A)) → P first → All P ps → All (λ (s : Piece A). P s.from × P s.to) (pieces_on_to first ps)
  on_to_ends P first [] h all = All-nil (λ (s : Piece A). P s.from × P s.to)
  on_to_ends P first (p ∷ []) h all =
      All-cons (λ (s : Piece A). P s.from × P s.to) (record { from = p; to = first }) [] (All-head P p [] all, h) (All-nil (λ (s : Piece A). P s.from × P s.to))
  on_to_ends P first (p ∷ (q ∷ rest)) h all =
      let tail : All P (q ∷ rest) = All-tail P p (q ∷ rest) all in
      All-cons (λ (s : Piece A). P s.from × P s.to) (record { from = p; to = q }) (pieces_on_to first (q ∷ rest))
      (All-head P p (q ∷ rest) all, All-head P q rest tail) (on_to_ends P first (q ∷ rest) h tail)

  round_ends : (P : Point A → Type 0) (ps : List (Point A)) → All P ps → All (λ (s : Piece A). P s.from × P s.to) (pieces_round ps)
  round_ends P [] all = All-nil (λ (s : Piece A). P s.from × P s.to)
  round_ends P (p ∷ rest) all = on_to_ends P p (p ∷ rest) (All-head P p rest all) all

module _ {A : Type 0} (K : OrderedRing A) where
  length_inward : (t : Bool) (ss : List (Piece A)) → length (inward_lines K t ss) ≡ length ss
  length_inward t [] = refl
  length_inward t (s ∷ ss) = ap suc (length_inward t ss)

  inward_at : (t : Bool) (ss : List (Piece A)) (k : ℕ) (s : Piece A) → slice_get ss k ≡ Some s → slice_get (inward_lines K t ss) k ≡ Some (inward_line K t s)
  inward_at t [] k s read = absurd (omega (arith, slice_get_within [] k s read))
  inward_at t (r ∷ ss) zero s read = let e : r ≡ s = cc in ap (λ x. Some (inward_line K t x)) e
  inward_at t (r ∷ ss) (suc k) s read = inward_at t ss k s read

  pub length_borders : (f : FoldedFace A) → length (borders K f) ≡ length f.corners
  length_borders f = length_inward f.turned (pieces_round f.corners) ∙ length_round f.corners

  pub border_at : (f : FoldedFace A) (k j : ℕ) (p q : Point A) → slice_get f.corners k ≡ Some p → slice_get f.corners j ≡ Some q
      → (k + 1 ≡ length f.corners → j ≡ 0) → (k + 1 < length f.corners → j ≡ k + 1) → (t : Bool) → t ≡ f.turned
      → slice_get (borders K f) k ≡ Some (inward_line K t (record { from = p; to = q }))
  border_at f k j p q read_p read_q last other t e =
      inward_at f.turned (pieces_round f.corners) k (record { from = p; to = q }) (round_at f.corners k j p q read_p read_q last other)
      ∙ ap (λ (x : Bool). Some (inward_line K x (record { from = p; to = q }))) (sym e)

  pub inside_borders : (f : FoldedFace A) (p : Point A) → IsInsideFace K f p ↔ LiesIn K (borders K f) p
  inside_borders f p = (
    λ h. inside_lies K (record { faces = f ∷ []; edges = [] }) {f = 0} {p = p} (record { face = f; is = refl; within = h }),
    λ h. let i : IsInside K (record { faces = f ∷ []; edges = [] }) 0 p = lies_inside K (record { faces = f ∷ []; edges = [] }) 0 f p refl h in
        let is = i.is in
        let same : i.face ≡ f = cc in
        subst (λ (g : FoldedFace A). IsInsideFace K g p) same i.within,
  )

  -- ---- lists of half-planes one after the other

  pub in_both : (ls ms : List (Line A)) (p : Point A) → LiesIn K (ls ++ ms) p ↔ (LiesIn K ls p × LiesIn K ms p)
  in_both ls ms p = (
    λ h. (λ l i. h l (Contains-append_left ls ms l i), λ l i. h l (Contains-append_right ls ms l i)),
    λ both l i. elim (Contains-append_cases ls ms l i) [ inl j ↦ both.0 l j | inr j ↦ both.1 l j ],
  )

  pub two_meet : (f g : FoldedFace A) → HalfPlanesMeet K (borders K f ++ borders K g) ↔ InsidesMeet K f g
  two_meet f g = (
    λ m. let both = (in_both (borders K f) (borders K g) m.0).0 m.2 in (m.0, m.1, (inside_borders f m.0).1 both.0, (inside_borders g m.0).1 both.1),
    λ o. (o.0, o.1, (in_both (borders K f) (borders K g) o.0).1 ((inside_borders f o.0).0 o.2, (inside_borders g o.0).0 o.3)),
  )

  pub three_meet : (f g h : FoldedFace A) → HalfPlanesMeet K (borders K f ++ (borders K g ++ borders K h)) ↔ ThreeInsidesMeet K f g h
  three_meet f g h = (
    λ m. let both = (in_both (borders K f) (borders K g ++ borders K h) m.0).0 m.2 in
        let rest = (in_both (borders K g) (borders K h) m.0).0 both.1 in
        (m.0, m.1, (inside_borders f m.0).1 both.0, (inside_borders g m.0).1 rest.0, (inside_borders h m.0).1 rest.1),
    λ o. (
      o.0,
      o.1,
      (in_both (borders K f) (borders K g ++ borders K h) o.0).1 (
        (inside_borders f o.0).0 o.2,
        (in_both (borders K g) (borders K h) o.0).1 ((inside_borders g o.0).0 o.3, (inside_borders h o.0).0 o.4),
      ),
    ),
  )

  pub face_entered : (p q : Point A) (f : FoldedFace A) → Enters K p q (borders K f) ↔ EntersFace K p q f
  face_entered p q f = (
    λ e. (e.0, e.1, e.2, (inside_borders f e.0).1 e.3),
    λ e. (e.0, e.1, e.2, (inside_borders f e.0).0 e.3),
  )

module _ {A : Type 0} {k : ℕ} {surd : A → Surd ℤ} (numbers : SurdNumbers k surd) where
  inward_formed : (t : Bool) (s : Piece A) → IsScaledPoint numbers s.from × IsScaledPoint numbers s.to → IsFormed numbers (inward_line numbers.ring t s)
  inward_formed false s h = record { from = s.from; to = s.to; from_scaled = h.0; to_scaled = h.1; is = refl }
  inward_formed true s h = record { from = s.to; to = s.from; from_scaled = h.1; to_scaled = h.0; is = refl }

  all_formed : (t : Bool) (ss : List (Piece A)) → All (λ (s : Piece A). IsScaledPoint numbers s.from × IsScaledPoint numbers s.to) ss → All (λ l. IsFormed numbers l) (inward_lines numbers.ring t ss)
  all_formed t [] all = All-nil (λ l. IsFormed numbers l)
  all_formed t (s ∷ ss) all =
      let P : Piece A → Type 0 = λ s. IsScaledPoint numbers s.from × IsScaledPoint numbers s.to in
      All-cons (λ l. IsFormed numbers l) (inward_line numbers.ring t s) (inward_lines numbers.ring t ss)
      (inward_formed t s (All-head P s ss all)) (all_formed t ss (All-tail P s ss all))

  pub borders_formed : (f : FoldedFace A) → All (λ p. IsScaledPoint numbers p) f.corners → All (λ l. IsFormed numbers l) (borders numbers.ring f)
  borders_formed f scaled = all_formed f.turned (pieces_round f.corners) (round_ends (λ p. IsScaledPoint numbers p) f.corners scaled)
