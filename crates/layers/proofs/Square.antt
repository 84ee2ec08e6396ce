-- A square folded in half is a folded sheet, and its two faces are layered.
use mathlib.Core.Path.{◌≡◌, refl, sym, ap, subst, ◌∙◌}
use mathlib.Core.Bool.{Bool, true, false}
use mathlib.Core.List.{List, [], ◌∷◌}
use mathlib.Core.Logic.{◌⊎◌, inl, inr}
use Prim.Native.Nat.{ℕ, zero, suc, ◌<◌}
use lib.IntN.{ℤ, pos}
use Rattle.std.proofs.Common.{arith}
use Rattle.std.proofs.lemmas.Option.{same_Some}
use Rattle.std.specs.Prelude.{Some, Contains, slice_index_or}
use Rattle.std.specs.List.{slice_get}
use Rattle.std.specs.declared.cmp.Ordering.{Ordering}
use Rattle.std.specs.declared.cmp.Ordering.TheVariants.{Less, Equal, Greater}
use Rattle.fold_base.specs.declared.letter.Letter.{Letter as AnyLetter}
use Rattle.fold_base.specs.declared.letter.Letter.TheVariants.{Valley}
use Rattle.algebra.specs.OrderedRing.{OrderedRing}
use Rattle.algebra.proofs.Integers.{integers}
use Rattle.algebra.proofs.Solvers.{sign_of_multiple}
use Rattle.plane.specs.declared.point.Point.{Point}
use Rattle.plane.specs.Points.{IsPoint}
use Rattle.plane.specs.Lines.{value}
use Rattle.plane.proofs.Lines.{times_zero}
use Rattle.plane.proofs.Members.{in_cons, in_head, in_tail, in_nil}
use Rattle.plane.proofs.OnSegments.{sign_between, between_is_on}
use Rattle.layers.specs.declared.crossing.Strand.TheVariants.{Face, Edge}
use Rattle.layers.specs.declared.crossing.Crossing.{Crossing}
use Rattle.layers.specs.declared.crossing.Crossing.TheVariants.{Cycle, Through, Creases, Joined, Letter}
use Rattle.layers.specs.Pieces.{Piece, pieces_round, side_of, IsInMiddle}
use Rattle.layers.specs.Sheets.{FoldedFace, FaceSide, FoldedEdge, IsCrease, IsJoin, HasPiece, HasFaces}
use Rattle.layers.specs.Orders.{LayerOrder, Above, NoClash, RanksOverlaps, LiesBetween, Opposed}
use Rattle.layers.specs.Points.{IsOnNormalSide, LetterFits, IsLayered}
use Rattle.layers.specs.Crossings.{Occurs}
use Rattle.layers.specs.Listing.{IsListed}
use Rattle.layers.specs.Folded.{IsConvex, IsFolded, IsSideOf, MeetThere}
use Rattle.layers.specs.Square.{corner, lower, upper, side_at, border, diagonal, square, upper_on_lower, orders, upper_behind_lower, misorders}
use Rattle.layers.proofs.Faces.{line_of, side_is_value, on_own_line}
use Rattle.layers.proofs.Orders.{Tells, no_clash}
use Rattle.layers.proofs.Known.{facts}
use Rattle.layers.proofs.FaceWise.{listed_where_occurs}
use Rattle.layers.proofs.Whole.{layered_where_none_listed}

-- ---- short lists

abbrev Each : {X : Type 0} → (X → Type 0) → List X → Type 0
Each P [] = Unit {0}
Each P (x ∷ xs) = P x × Each P xs

each : {X : Type 0} (P : X → Type 0) (xs : List X) → Each P xs → (x : X) → Contains xs x → P x
each P [] h x i = absurd (in_nil x i)
each P (y ∷ ys) h x i = elim (in_cons y ys x i) [ inl e ↦ subst P e h.0 | inr j ↦ each P ys h.1 x j ]

in_second : {X : Type 0} (a b c : X) → Contains (a ∷ b ∷ c ∷ []) b
in_second a b c = in_tail a (b ∷ c ∷ []) b (in_head b (c ∷ []))

in_third : {X : Type 0} (a b c : X) → Contains (a ∷ b ∷ c ∷ []) c
in_third a b c = in_tail a (b ∷ c ∷ []) c (in_tail b (c ∷ []) c (in_head c []))

-- ---- signs

on_not_left : {s : Ordering} → s ≡ Equal → ¬ (s ≡ Greater)
on_not_left h e = absurd (cc)

on_not_right : {s : Ordering} → s ≡ Equal → ¬ (s ≡ Less)
on_not_right h e = absurd (cc)

left_not_right : {s : Ordering} → s ≡ Greater → ¬ (s ≡ Less)
left_not_right h e = absurd (cc)

right_not_left : {s : Ordering} → s ≡ Less → ¬ (s ≡ Greater)
right_not_left h e = absurd (cc)

left_not_on : {s : Ordering} → s ≡ Greater → ¬ (s ≡ Equal)
left_not_on h e = absurd (cc)

right_not_on : {s : Ordering} → s ≡ Less → ¬ (s ≡ Equal)
right_not_on h e = absurd (cc)

-- ---- the corners of a triangle

abbrev a : Point ℤ
a = corner (pos 0) (pos 0)

abbrev b : Point ℤ
b = corner (pos 1) (pos 0)

abbrev c : Point ℤ
c = corner (pos 1) (pos 1)

abbrev piece : Point ℤ → Point ℤ → Piece ℤ
piece p q = record { from = p; to = q }

lower_convex : IsConvex integers lower
lower_convex = record {
  points = each (IsPoint integers) (a ∷ b ∷ c ∷ []) (refl, (refl, (refl, tt)));
  some_corner = (a, in_head a (b ∷ c ∷ []));
  none_outside = λ s v i j. each (λ s. (v : Point ℤ) → Contains (a ∷ b ∷ c ∷ []) v → ¬ (side_of integers s v ≡ Less)) (piece a b ∷ piece b c ∷ piece c a ∷ []) (
    each (λ v. ¬ (side_of integers (piece a b) v ≡ Less)) (a ∷ b ∷ c ∷ []) (on_not_right refl, (on_not_right refl, (left_not_right refl, tt))),
    (
      each (λ v. ¬ (side_of integers (piece b c) v ≡ Less)) (a ∷ b ∷ c ∷ []) (left_not_right refl, (on_not_right refl, (on_not_right refl, tt))),
      (each (λ v. ¬ (side_of integers (piece c a) v ≡ Less)) (a ∷ b ∷ c ∷ []) (on_not_right refl, (left_not_right refl, (on_not_right refl, tt))), tt),
    ),
  ) s i v j;
  solid = each (λ s. (v : Point ℤ) × Contains (a ∷ b ∷ c ∷ []) v × (side_of integers s v ≡ Greater)) (piece a b ∷ piece b c ∷ piece c a ∷ [])
      ((c, in_third a b c, refl), ((a, in_head a (b ∷ c ∷ []), refl), ((b, in_second a b c, refl), tt)));
}

upper_convex : IsConvex integers upper
upper_convex = record {
  points = each (IsPoint integers) (a ∷ c ∷ b ∷ []) (refl, (refl, (refl, tt)));
  some_corner = (a, in_head a (c ∷ b ∷ []));
  none_outside = λ s v i j. each (λ s. (v : Point ℤ) → Contains (a ∷ c ∷ b ∷ []) v → ¬ (side_of integers s v ≡ Greater)) (piece a c ∷ piece c b ∷ piece b a ∷ []) (
    each (λ v. ¬ (side_of integers (piece a c) v ≡ Greater)) (a ∷ c ∷ b ∷ []) (on_not_left refl, (on_not_left refl, (right_not_left refl, tt))),
    (
      each (λ v. ¬ (side_of integers (piece c b) v ≡ Greater)) (a ∷ c ∷ b ∷ []) (right_not_left refl, (on_not_left refl, (on_not_left refl, tt))),
      (each (λ v. ¬ (side_of integers (piece b a) v ≡ Greater)) (a ∷ c ∷ b ∷ []) (on_not_left refl, (right_not_left refl, (on_not_left refl, tt))), tt),
    ),
  ) s i v j;
  solid = each (λ s. (v : Point ℤ) × Contains (a ∷ c ∷ b ∷ []) v × (side_of integers s v ≡ Less)) (piece a c ∷ piece c b ∷ piece b a ∷ [])
      ((b, in_third a c b, refl), ((a, in_head a (c ∷ b ∷ []), refl), ((c, in_second a c b, refl), tt)));
}

-- ---- directed pieces that meet in an end alone

module _ {A : Type 0} (K : OrderedRing A) where
  -- where s ends on the line of t and doesn't begin there
  pub apart : (s t : Piece A) → ¬ (side_of K t s.from ≡ Equal) → side_of K t s.to ≡ Equal → (p : Point A) → IsInMiddle K s p → IsInMiddle K t p → ⊥
  apart s t off on p m n = off (side_is_value K t s.from ∙ sym same ∙ on_own_line K t p (between_is_on K n))
    where
      to_zero : value K.ops (line_of K t) s.to ≡ K.int (pos 0)
      to_zero = K.sign_zero (value K.ops (line_of K t) s.to) (sym (side_is_value K t s.to) ∙ on)

      same : K.sign (value K.ops (line_of K t) p) ≡ K.sign (value K.ops (line_of K t) s.from)
      same =
          sign_between K (line_of K t) m
          ∙ ap (λ z. K.sign (K.add (K.mul m.from_share (value K.ops (line_of K t) s.from)) z)) (times_zero K m.to_share (value K.ops (line_of K t) s.to) to_zero)
          ∙ ap K.sign (K.add_zero (K.mul m.from_share (value K.ops (line_of K t) s.from)))
          ∙ sign_of_multiple K m.from_share (value K.ops (line_of K t) s.from) m.from_positive

abbrev Apart : Piece ℤ → Piece ℤ → Type 0
Apart s t = (p : Point ℤ) → IsInMiddle integers s p → IsInMiddle integers t p → ⊥

renamed : (x y s t : Piece ℤ) → Apart x y → Some x ≡ Some s → Some y ≡ Some t → Apart s t
renamed x y s t n e f p m k = n p (subst (λ z. IsInMiddle integers z p) (sym (same_Some x s e)) m) (subst (λ z. IsInMiddle integers z p) (sym (same_Some y t f)) k)

three_apart : (x y z : Piece ℤ) → Apart x y → Apart y z → Apart z x → (k l : ℕ) (s t : Piece ℤ) (p : Point ℤ) → slice_get (x ∷ y ∷ z ∷ []) k ≡ Some s → slice_get (x ∷ y ∷ z ∷ []) l ≡ Some t
    → IsInMiddle integers s p → IsInMiddle integers t p → k ≡ l
three_apart x y z xy yz zx zero zero s t p e f m n = refl
three_apart x y z xy yz zx zero (suc zero) s t p e f m n = absurd (renamed x y s t xy e f p m n)
three_apart x y z xy yz zx zero (suc (suc zero)) s t p e f m n = absurd (renamed z x t s zx f e p n m)
three_apart x y z xy yz zx (suc zero) zero s t p e f m n = absurd (renamed x y t s xy f e p n m)
three_apart x y z xy yz zx (suc zero) (suc zero) s t p e f m n = refl
three_apart x y z xy yz zx (suc zero) (suc (suc zero)) s t p e f m n = absurd (renamed y z s t yz e f p m n)
three_apart x y z xy yz zx (suc (suc zero)) zero s t p e f m n = absurd (renamed z x s t zx e f p m n)
three_apart x y z xy yz zx (suc (suc zero)) (suc zero) s t p e f m n = absurd (renamed y z t s yz f e p n m)
three_apart x y z xy yz zx (suc (suc zero)) (suc (suc zero)) s t p e f m n = refl
three_apart x y z xy yz zx (suc (suc (suc k))) l s t p e f m n = cc
three_apart x y z xy yz zx zero (suc (suc (suc l))) s t p e f m n = cc
three_apart x y z xy yz zx (suc zero) (suc (suc (suc l))) s t p e f m n = cc
three_apart x y z xy yz zx (suc (suc zero)) (suc (suc (suc l))) s t p e f m n = cc

piece_of : {f k : ℕ} {s : Piece ℤ} (face : FoldedFace ℤ) → slice_get square.faces f ≡ Some face → HasPiece integers square f k s → slice_get (pieces_round face.corners) k ≡ Some s
piece_of {f} {k} {s} face is h =
    let e = h.is_face in
    let same : h.face ≡ face = cc in
    subst (λ (x : FoldedFace ℤ). slice_get (pieces_round x.corners) k ≡ Some s) same h.is_piece

pieces_apart : (f k l : ℕ) (s t : Piece ℤ) (p : Point ℤ) → HasPiece integers square f k s → HasPiece integers square f l t → IsInMiddle integers s p → IsInMiddle integers t p → k ≡ l
pieces_apart zero k l s t p h g m n =
    three_apart (piece a b) (piece b c) (piece c a) (apart integers (piece a b) (piece b c) (left_not_on refl) refl) (apart integers (piece b c) (piece c a) (left_not_on refl) refl) (apart integers (piece c a) (piece a b) (left_not_on refl) refl)
    k l s t p (piece_of lower refl h) (piece_of lower refl g) m n
pieces_apart (suc zero) k l s t p h g m n =
    three_apart (piece a c) (piece c b) (piece b a) (apart integers (piece a c) (piece c b) (right_not_on refl) refl) (apart integers (piece c b) (piece b a) (right_not_on refl) refl) (apart integers (piece b a) (piece a c) (right_not_on refl) refl)
    k l s t p (piece_of upper refl h) (piece_of upper refl g) m n
pieces_apart (suc (suc f)) k l s t p h g m n = let e = h.is_face in cc

-- ---- edges

-- the edge that a side is of
owner : FaceSide → ℕ
owner side = slice_index_or (slice_index_or ((0 ∷ 1 ∷ 4 ∷ []) ∷ (4 ∷ 2 ∷ 3 ∷ []) ∷ []) side.face []) side.corner 0

owned_at : (e : ℕ) (x : FoldedEdge) → Each (λ side. owner side ≡ e) x.sides → (edge : FoldedEdge) → Some x ≡ Some edge → (side : FaceSide) → Contains edge.sides side → owner side ≡ e
owned_at e x all edge is side i = each (λ side. owner side ≡ e) x.sides all side (subst (λ (y : FoldedEdge). Contains y.sides side) (sym (same_Some x edge is)) i)

owned : (e : ℕ) (side : FaceSide) → IsSideOf integers square e side → owner side ≡ e
unfolding owner
owned zero side h = owned_at 0 (border 0 0) (refl, tt) h.0 h.1 side h.2
owned (suc zero) side h = owned_at 1 (border 0 1) (refl, tt) h.0 h.1 side h.2
owned (suc (suc zero)) side h = owned_at 2 (border 1 1) (refl, tt) h.0 h.1 side h.2
owned (suc (suc (suc zero))) side h = owned_at 3 (border 1 2) (refl, tt) h.0 h.1 side h.2
owned (suc (suc (suc (suc zero)))) side h = owned_at 4 diagonal (refl, (refl, tt)) h.0 h.1 side h.2
owned (suc (suc (suc (suc (suc e))))) side h = let i = h.1 in cc

-- only the diagonal has two sides
abbrev IsDiagonal : (e : ℕ) → FoldedEdge → FaceSide → FaceSide → Type 0
IsDiagonal e edge x y = (diagonal ≡ edge) × (side_at 0 2 ≡ x) × (side_at 1 0 ≡ y)

border_alone : (f k : ℕ) (edge : FoldedEdge) (x y : FaceSide) → Some (border f k) ≡ Some edge → edge.sides ≡ x ∷ y ∷ [] → ⊥
border_alone f k edge x y e h = let g : side_at f k ∷ [] ≡ x ∷ y ∷ [] = ap (λ (z : FoldedEdge). z.sides) (same_Some (border f k) edge e) ∙ h in cc

two_sides : (e : ℕ) (edge : FoldedEdge) (x y : FaceSide) → slice_get square.edges e ≡ Some edge → edge.sides ≡ x ∷ y ∷ [] → IsDiagonal e edge x y
two_sides zero edge x y is h = absurd (border_alone 0 0 edge x y is h)
two_sides (suc zero) edge x y is h = absurd (border_alone 0 1 edge x y is h)
two_sides (suc (suc zero)) edge x y is h = absurd (border_alone 1 1 edge x y is h)
two_sides (suc (suc (suc zero))) edge x y is h = absurd (border_alone 1 2 edge x y is h)
two_sides (suc (suc (suc (suc zero)))) edge x y is h =
    let same : diagonal ≡ edge = same_Some diagonal edge is in
    let g : side_at 0 2 ∷ side_at 1 0 ∷ [] ≡ x ∷ y ∷ [] = ap (λ (z : FoldedEdge). z.sides) same ∙ h in
    (same, cc, cc)
two_sides (suc (suc (suc (suc (suc e))))) edge x y is h = absurd (cc)

-- the two faces of the diagonal, whichever is called the first
data FacesAre (f k g l : ℕ) : Type 0 where
  lower_first : 0 ≡ f → 2 ≡ k → 1 ≡ g → 0 ≡ l → FacesAre f k g l
  upper_first : 1 ≡ f → 0 ≡ k → 0 ≡ g → 2 ≡ l → FacesAre f k g l

faces_are : {e f g : ℕ} (h : HasFaces integers square e f g) → (diagonal ≡ h.edge) × FacesAre f h.first g h.second
faces_are {e} {f} {g} h = elim h.either [
  | inl i ↦ let d = two_sides e h.edge (side_at f h.first) (side_at g h.second) h.is i in (d.0, lower_first (face d.1) (place d.1) (face d.2) (place d.2))
  | inr i ↦ let d = two_sides e h.edge (side_at g h.second) (side_at f h.first) h.is i in (d.0, upper_first (face d.2) (place d.2) (face d.1) (place d.1))
]
  where
    face : {x y : FaceSide} → x ≡ y → x.face ≡ y.face
    face e = ap (λ (s : FaceSide). s.face) e

    place : {x y : FaceSide} → x ≡ y → x.corner ≡ y.corner
    place e = ap (λ (s : FaceSide). s.corner) e

abbrev has_piece : (face : FoldedFace ℤ) (n m : ℕ) (s : Piece ℤ) → slice_get square.faces n ≡ Some face → slice_get (pieces_round face.corners) m ≡ Some s → (f k : ℕ) → n ≡ f → m ≡ k → HasPiece integers square f k s
has_piece face n m s is is_piece f k nf mk = record {
  face = face;
  is_face = subst (λ x. slice_get square.faces x ≡ Some face) nf is;
  is_piece = subst (λ x. slice_get (pieces_round face.corners) x ≡ Some s) mk is_piece;
}

no_join : (edge : FoldedEdge) → diagonal ≡ edge → IsJoin edge.letter → ⊥
no_join edge e j = subst (λ (x : FoldedEdge). IsJoin x.letter) (sym e) j

not_both : ¬ (◌≡◌ {A = Bool} false true)
not_both e = absurd (cc)

not_both_back : ¬ (◌≡◌ {A = Bool} true false)
not_both_back e = absurd (cc)

meet : (e f g : ℕ) (h : HasFaces integers square e f g) → IsCrease h.edge.letter ⊎ IsJoin h.edge.letter → MeetThere integers square h
meet e f g h i = of (faces_are h)
  where
    of : (diagonal ≡ h.edge) × FacesAre f h.first g h.second → MeetThere integers square h
    of (d, lower_first p q r s) = record {
      piece = piece c a;
      in_first = has_piece lower 0 2 (piece c a) refl refl f h.first p q;
      in_second = has_piece upper 1 0 (piece a c) refl refl g h.second r s;
      turned_at_crease = λ crease same. not_both same;
      alike_at_join = λ join. absurd (no_join h.edge d join);
    }
    of (d, upper_first p q r s) = record {
      piece = piece a c;
      in_first = has_piece upper 1 0 (piece a c) refl refl f h.first p q;
      in_second = has_piece lower 0 2 (piece c a) refl refl g h.second r s;
      turned_at_crease = λ crease same. not_both_back same;
      alike_at_join = λ join. absurd (no_join h.edge d join);
    }

pub square_folded : IsFolded integers square
square_folded = record {
  convex = each (IsConvex integers) (lower ∷ upper ∷ []) (lower_convex, (upper_convex, tt));
  pieces_apart = pieces_apart;
  one_edge = λ e d side i j. sym (owned e side i) ∙ owned d side j;
  meet = meet;
}

-- ---- which face is above

abbrev IsAbove : ℕ → ℕ → Type 0
IsAbove = Above square orders

upper_above : IsAbove 1 0
upper_above = record {
  order = upper_on_lower;
  is_order = in_head upper_on_lower [];
  says = record { different = λ e. omega (arith, e); other = lower; is_other = refl; says = inl (refl, refl, refl) };
}

pub square_one_way : NoClash IsAbove
square_one_way = no_clash square orders none
  where
    none : (i j : ℕ) → i < j → ¬ Opposed square orders i j
    none i zero l o = omega (arith, l)
    none i (suc j) l o = let e = o.is_second in cc

pub square_ranked : RanksOverlaps integers square IsAbove
square_ranked zero zero n o = absurd (n refl)
square_ranked zero (suc zero) n o = inr upper_above
square_ranked (suc zero) zero n o = inl upper_above
square_ranked (suc zero) (suc zero) n o = absurd (n refl)
square_ranked (suc (suc f)) g n o = let e = o.in_first.is in absurd (cc)
square_ranked zero (suc (suc g)) n o = let e = o.in_second.is in absurd (cc)
square_ranked (suc zero) (suc (suc g)) n o = let e = o.in_second.is in absurd (cc)

-- what the only order of a list says, where its other face is the lower one
told : {f g : ℕ} (order : LayerOrder) → slice_get square.faces order.other ≡ Some lower → Above square (order ∷ []) f g → Tells order lower f g
told {f} {g} order is h = subst (λ (x : FoldedFace ℤ). Tells order x f g) face (subst (λ o. Tells o h.says.other f g) same h.says.says)
  where
    same : h.order ≡ order
    same = elim (in_cons order [] h.order h.is_order) [ inl e ↦ sym e | inr j ↦ absurd (in_nil h.order j) ]

    face : h.says.other ≡ lower
    face = same_Some h.says.other lower (sym h.says.is_other ∙ ap (λ o. slice_get square.faces o.other) same ∙ is)

only_above : {f g : ℕ} → IsAbove f g → (1 ≡ f) × (0 ≡ g)
only_above h = elim (told upper_on_lower refl h) [ inl s ↦ (s.0, s.1) | inr s ↦ let e = s.2 in absurd (cc) ]

no_chain : {f g h : ℕ} → IsAbove f g → IsAbove g h → ⊥
no_chain x y = let p = (only_above x).1 in let q = (only_above y).0 in omega (arith, p, q)

no_between : {f g h : ℕ} → LiesBetween IsAbove f g h → ⊥
no_between (inl x) = no_chain x.1 x.0
no_between (inr x) = no_chain x.1 x.0

-- ---- nothing crosses

lower_on_upper : IsOnNormalSide integers square IsAbove 0 1
lower_on_upper = record { other = upper; is_other = refl; lies = inr (refl, upper_above) }

upper_is_on_lower : IsOnNormalSide integers square IsAbove 1 0
upper_is_on_lower = record { other = lower; is_other = refl; lies = inl (refl, upper_above) }

abbrev Fits : AnyLetter → ℕ → ℕ → Type 0
Fits = LetterFits integers square IsAbove

letter_fits : (e f g : ℕ) (h : HasFaces integers square e f g) → Fits h.edge.letter f g
letter_fits e f g h = of (faces_are h)
  where
    of : (diagonal ≡ h.edge) × FacesAre f h.first g h.second → Fits h.edge.letter f g
    of (d, lower_first p q r s) = subst (λ (x : FoldedEdge). Fits x.letter f g) d (subst (λ x. Fits Valley x g) p (subst (Fits Valley 0) r (lower_on_upper, upper_is_on_lower)))
    of (d, upper_first p q r s) = subst (λ (x : FoldedEdge). Fits x.letter f g) d (subst (λ x. Fits Valley x g) p (subst (Fits Valley 1) r (upper_is_on_lower, lower_on_upper)))

none_listed : (crossing : Crossing) → ¬ IsListed integers square IsAbove crossing
none_listed (Cycle f g h) x = no_chain x.around.0 x.around.1
none_listed (Through e (Face h)) x = no_between x.is_between
none_listed (Through e (Edge d)) x = no_between x.is_between
none_listed (Creases e d) x = elim x.one_between [ inl p ↦ no_between p.0 | inr p ↦ no_between p.1 ]
none_listed (Joined e (Face h)) x = no_between x.is_between
none_listed (Joined e (Edge d)) x = no_join x.join.faces.edge (faces_are x.join.faces).0 x.join.lettered
none_listed (Letter e) x = x.misfit (letter_fits e x.first x.second x.faces)

pub square_layered : IsLayered integers square IsAbove
square_layered = (layered_where_none_listed integers square (facts integers square square_folded) IsAbove square_one_way square_ranked).0 none_listed

-- ---- where the order is against the letter

only_misabove : {f g : ℕ} → Above square misorders f g → (0 ≡ f) × (1 ≡ g)
only_misabove h = elim (told upper_behind_lower refl h) [ inl s ↦ let e = s.2 in absurd (cc) | inr s ↦ (s.1, s.0) ]

not_on_upper : ¬ IsOnNormalSide integers square (Above square misorders) 0 1
not_on_upper h = of h.lies
  where
    of : (h.other.turned ≡ false) × Above square misorders 0 1 ⊎ (h.other.turned ≡ true) × Above square misorders 1 0 → ⊥
    of (inl s) = not_both_back (ap (λ (x : FoldedFace ℤ). x.turned) (same_Some upper h.other h.is_other) ∙ s.0)
    of (inr s) = let e = (only_misabove s.1).0 in omega (arith, e)

pub letter_occurs : Occurs integers square (Above square misorders) (Letter 4)
letter_occurs = (listed_where_occurs integers square (facts integers square square_folded) (Above square misorders) (Letter 4)).0 (record {
  first = 0;
  second = 1;
  faces = record { edge = diagonal; is = refl; first = 2; second = 0; either = inl refl };
  misfit = λ fits. not_on_upper fits.0;
})
