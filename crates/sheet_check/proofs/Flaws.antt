-- Vertices, edges and faces have one first flaw at most.
use Rattle.std.proofs.Common.{◌≡◌, ◌∙◌, ap, sym, refl, subst, ℕ, zero, suc, List, [], ◌∷◌, ◌++◌, length, Some, ◌<◌, inl, inr, arith}
use Rattle.std.specs.Prelude.{slice_get}
use Rattle.std.specs.Cmp.{nat_cmp_is}
use Rattle.std.specs.Ordering.{nat_cmp, ordering_then}
use Rattle.std.specs.declared.cmp.Ordering.{Ordering}
use Rattle.std.specs.declared.cmp.Ordering.TheVariants.{Less, Equal}
use Rattle.std.proofs.lemmas.Bool.{cases_order}
use Rattle.algebra.specs.OrderedRing.{OrderedRing}
use Rattle.plane.specs.declared.point.Point.{Point}
use Rattle.scaled_plane.specs.Sheets.{HasFlaw, IsFirstBent, IsFirstFlaw, first_id, flaw_order, line_of, second_id}
use Rattle.scaled_plane.specs.declared.drawing.Edge.{Edge}
use Rattle.scaled_plane.specs.declared.drawing.Face.{Face}
use Rattle.scaled_plane.specs.declared.sheet.SheetFlaw.{SheetFlaw}
use Rattle.scaled_plane.specs.declared.sheet.SheetFlaw.TheVariants.{SameVertex, Loose, NotPlane, Parted, EmptySheet, FaceWrong, FaceMissing, NotConvex, BorderWrong, Pinched, Severed}

-- a flaw by its line and its ids; that of NotConvex has a vertex besides
flaw_of : ℕ → ℕ → ℕ → ℕ → SheetFlaw
flaw_of zero a b v = SameVertex a b
flaw_of (suc zero) a b v = Loose a
flaw_of (suc (suc zero)) a b v = NotPlane a b
flaw_of (suc (suc (suc zero))) a b v = Parted a
flaw_of (suc (suc (suc (suc zero)))) a b v = EmptySheet
flaw_of (suc (suc (suc (suc (suc zero))))) a b v = FaceWrong a
flaw_of (suc (suc (suc (suc (suc (suc zero)))))) a b v = FaceMissing a b
flaw_of (suc (suc (suc (suc (suc (suc (suc zero))))))) a b v = NotConvex a v
flaw_of (suc (suc (suc (suc (suc (suc (suc (suc zero)))))))) a b v = BorderWrong a
flaw_of (suc (suc (suc (suc (suc (suc (suc (suc (suc zero))))))))) a b v = Pinched a
flaw_of (suc (suc (suc (suc (suc (suc (suc (suc (suc (suc n)))))))))) a b v = Severed a

bent : SheetFlaw → ℕ
bent (NotConvex f v) = v
bent flaw = 0

again : (x : SheetFlaw) → flaw_of (line_of x) (first_id x) (second_id x) (bent x) ≡ x
unfolding flaw_of bent
again (SameVertex a b) = refl
again (Loose a) = refl
again (NotPlane a b) = refl
again (Parted a) = refl
again EmptySheet = refl
again (FaceWrong a) = refl
again (FaceMissing a b) = refl
again (NotConvex a v) = refl
again (BorderWrong a) = refl
again (Pinched a) = refl
again (Severed a) = refl

same_flaw : (x y : SheetFlaw) → line_of x ≡ line_of y → first_id x ≡ first_id y → second_id x ≡ second_id y → bent x ≡ bent y → x ≡ y
same_flaw x y line first second vertex = sym (again x) ∙ (λ i. flaw_of (line i) (first i) (second i) (vertex i)) ∙ again y

-- ---- of two first flaws neither comes before the other

less_first : (a b : ℕ) (o : Ordering) → a < b → ordering_then (nat_cmp a b) o ≡ Less
less_first a b o less = ap (λ q. ordering_then q o) (sym (nat_cmp_is a b Less less))

equal_first : (a b : ℕ) (o : Ordering) → a ≡ b → ordering_then (nat_cmp a b) o ≡ o
equal_first a b o e = ap (λ q. ordering_then q o) (sym (nat_cmp_is a b Equal e))

neither : (a b : ℕ) (o p : Ordering) → ¬ (ordering_then (nat_cmp a b) o ≡ Less) → ¬ (ordering_then (nat_cmp b a) p ≡ Less) → (a ≡ b) × ¬ (o ≡ Less) × ¬ (p ≡ Less)
neither a b o p n m = elim (cases_order a b) [
  | inl e ↦ (e, (λ h. n (equal_first a b o e ∙ h)), (λ h. m (equal_first b a p (sym e) ∙ h)))
  | inr (inl less) ↦ absurd (n (less_first a b o less))
  | inr (inr more) ↦ absurd (m (less_first b a p more))
]

neither_last : (a b : ℕ) → ¬ (nat_cmp a b ≡ Less) → ¬ (nat_cmp b a ≡ Less) → a ≡ b
neither_last a b n m = elim (cases_order a b) [
  | inl e ↦ e
  | inr (inl less) ↦ absurd (n (sym (nat_cmp_is a b Less less)))
  | inr (inr more) ↦ absurd (m (sym (nat_cmp_is b a Less more)))
]

-- ---- the corner at which a face is bent first

same_some : {X : Type 0} (x y : X) → Some x ≡ Some y → x ≡ y
same_some x y e = cc

same_length : (before sooner : List ℕ) (c d : ℕ) (after later : List ℕ) → length before ≡ length sooner → before ++ c ∷ after ≡ sooner ++ d ∷ later → c ≡ d
same_length [] [] c d after later long e = cc
same_length [] (s ∷ sooner) c d after later long e = absurd (omega (arith, long))
same_length (b ∷ before) [] c d after later long e = absurd (omega (arith, long))
same_length (b ∷ before) (s ∷ sooner) c d after later long e =
    let rest : before ++ c ∷ after ≡ sooner ++ d ∷ later = cc in same_length before sooner c d after later (omega (arith, long)) rest

neither_before : (m n : ℕ) → ¬ (m < n) → ¬ (n < m) → m ≡ n
neither_before m n a b = elim (cases_order m n) [ inl e ↦ e | inr (inl less) ↦ absurd (a less) | inr (inr more) ↦ absurd (b more) ]

module _ {A : Type 0} (K : OrderedRing A) (vertices : List (Point A)) (edges : List Edge) (faces : List Face) where
  abbrev Has : SheetFlaw → Type 0
  Has flaw = HasFlaw K vertices edges faces flaw

  first_bent : (corners : List ℕ) (v w : ℕ) → IsFirstBent K vertices corners v → IsFirstBent K vertices corners w → v ≡ w
  first_bent corners v w h i =
      let long : length h.0 ≡ length i.0 = neither_before (length h.0) (length i.0) (λ less. i.3 h.0 h.1 v less h.2) (λ less. h.3 i.0 i.1 w less i.2) in
      same_length h.0 i.0 v w h.1 i.1 long (sym h.2.is ∙ i.2.is)

  one_bent : (f g v w : ℕ) → f ≡ g → Has (NotConvex f v) → Has (NotConvex g w) → v ≡ w
  one_bent f g v w e h i =
      let face : h.1.0 ≡ i.1.0 = same_some h.1.0 i.1.0 (sym h.1.1 ∙ ap (slice_get faces) e ∙ i.1.1) in
      let corners : h.0 ≡ i.0 = sym h.1.2 ∙ ap (λ (face : Face). face.corners) face ∙ i.1.2 in
      first_bent h.0 v w h.2 (subst (λ (cs : List ℕ). IsFirstBent K vertices cs w) (sym corners) i.2)

  same_bent : (x y : SheetFlaw) → line_of x ≡ line_of y → first_id x ≡ first_id y → Has x → Has y → bent x ≡ bent y
  unfolding bent
  same_bent (NotConvex f v) (NotConvex g w) line first h i = one_bent f g v w first h i
  same_bent (NotConvex f v) y line first h i = absurd (omega (arith, line))
  same_bent x (NotConvex g w) line first h i = absurd (omega (arith, line))
  same_bent x y line first h i = refl

  pub one_flaw : (x y : SheetFlaw) → IsFirstFlaw K vertices edges faces x → IsFirstFlaw K vertices edges faces y → x ≡ y
  one_flaw x y h i =
      let n : ¬ (flaw_order x y ≡ Less) = λ less. i.1 x less h.0 in
      let m : ¬ (flaw_order y x ≡ Less) = λ less. h.1 y less i.0 in
      let line = neither (line_of x) (line_of y) (ordering_then (nat_cmp (first_id x) (first_id y)) (nat_cmp (second_id x) (second_id y)))
      (ordering_then (nat_cmp (first_id y) (first_id x)) (nat_cmp (second_id y) (second_id x))) n m in
      let first = neither (first_id x) (first_id y) (nat_cmp (second_id x) (second_id y)) (nat_cmp (second_id y) (second_id x)) line.1 line.2 in
      same_flaw x y line.0 first.0 (neither_last (second_id x) (second_id y) first.1 first.2) (same_bent x y line.0 first.0 h.0 i.0)
