-- Faces that hang together, by the labels that edge by edge are made one.
use Rattle.std.proofs.Common.{◌≡◌, ◌∙◌, ap, sym, refl, subst, ℕ, List, [], ◌<◌, length, Bool, true, false, Option, Some, None, inl, inr, arith}
use Rattle.std.specs.Prelude.{slice_index}
use Rattle.std.specs.BTreeMap.{BTreeMap, get}
use Rattle.algebra.specs.OrderedRing.{OrderedRing}
use Rattle.fold_base.specs.declared.letter.Letter.{Letter}
use Rattle.fold_base.specs.declared.letter.Letter.TheVariants.{Border, Mountain, Valley, Flat, Unassigned, Cut, Join}
use Rattle.plane.specs.declared.point.Point.{Point}
use Rattle.scaled_plane.specs.declared.drawing.Edge.{Edge}
use Rattle.scaled_plane.specs.declared.drawing.Face.{Face}
use Rattle.scaled_plane.specs.declared.sheet.SheetFlaw.TheVariants.{Severed}
use Rattle.scaled_plane.specs.Lists.{IsReached}
use Rattle.scaled_plane.specs.Lists.IsReached.{begun, gone_on}
use Rattle.scaled_plane.specs.Sheets.{AreBeside, HasFlaw}
use Rattle.flat_fold.specs.declared.sides.Side.{Side}
use Rattle.flat_fold.specs.EdgeSides.{HasPieces, IsSide, piece_order}
use Rattle.flat_fold.specs.Faces.{edge_at}
use Rattle.flat_fold.proofs.FoldingLaws.{in_range}
use Rattle.flat_fold.proofs.SheetLaws.{edge-contains, edge-place}
use Rattle.flat_fold.proofs.SideLaws.{along-begins, begins-along}
use Rattle.sheet_check.specs.Labels.{AreLabelled, Crosses, HasOther, both_faces, can_cross, crossed_by, crossing_of}
use Rattle.sheet_check.proofs.BorderLemmas.{Along, along_edge, on_left, on_right, side_back, side_there}

-- ---- letters

crossed : (l : Letter) → can_cross l ≡ true → (¬ (l ≡ Border)) × (¬ (l ≡ Cut))
crossed l e = (λ b. (let no : true ≡ false = sym e ∙ ap can_cross b in absurd (cc)), λ c. (let no : true ≡ false = sym e ∙ ap can_cross c in absurd (cc)))

crossed_back : (l : Letter) → ¬ (l ≡ Border) → ¬ (l ≡ Cut) → can_cross l ≡ true
crossed_back Border b c = absurd (b refl)
crossed_back Cut b c = absurd (c refl)
crossed_back Mountain b c = refl
crossed_back Valley b c = refl
crossed_back Flat b c = refl
crossed_back Unassigned b c = refl
crossed_back Join b c = refl

-- ---- the faces at the two sides of an edge

some_pair : {p q : ℕ × ℕ} → Some p ≡ Some q → p ≡ q
some_pair e = cc

pub record HasBoth (can : Bool) (left right : Option Side) (f g : ℕ) : Type 0 where
  pub can_be : can ≡ true
  pub there : Side
  pub back : Side
  pub left_is : left ≡ Some there
  pub right_is : right ≡ Some back
  pub first : there.face ≡ f
  pub second : back.face ≡ g

both_of : (can : Bool) (left right : Option Side) (f g : ℕ) → crossed_by can (both_faces left right) ≡ Some (f, g) → HasBoth can left right f g
both_of false left right f g e = absurd (cc)
both_of true None right f g e = absurd (cc)
both_of true (Some s) None f g e = absurd (cc)
both_of true (Some s) (Some t) f g e =
    let pair : (s.face, t.face) ≡ (f, g) = some_pair e in
    record {
      can_be = refl;
      there = s;
      back = t;
      left_is = refl;
      right_is = refl;
      first = ap (λ (p : ℕ × ℕ). p.0) pair;
      second = ap (λ (p : ℕ × ℕ). p.1) pair;
    }

module _ (faces : List Face) (own : (u v f g : ℕ) → Along faces f u v → Along faces g u v → f ≡ g) (edges : List Edge) (pieces : BTreeMap (ℕ × ℕ) Side)
    (known : HasPieces faces (length faces) 0 pieces) {A : Type 0} (K : OrderedRing A) (vertices : List (Point A)) where
  abbrev left_of : Edge → Option Side
  left_of e = get piece_order pieces (e.from, e.to)

  abbrev right_of : Edge → Option Side
  right_of e = get piece_order pieces (e.to, e.from)

  side_along : (u v f : ℕ) (o : Option Side) (s : Side) → IsSide faces u v o → o ≡ Some s → s.face ≡ f → Along faces f u v
  side_along u v f None s i e same = absurd (cc)
  side_along u v f (Some t) s i e same =
      let is : t ≡ s = some_side e in
      subst (λ (g : ℕ). Along faces g u v) (ap (λ (x : Side). x.face) is ∙ same) (begins-along faces [] t.face t.corner u v i)
    where
      some_side : {x y : Side} → Some x ≡ Some y → x ≡ y
      some_side p = cc

  -- the face of a side is the one along it
  side_of : (u v f : ℕ) (o : Option Side) → IsSide faces u v o → Along faces f u v → (s : Side) × (o ≡ Some s) × (s.face ≡ f)
  side_of u v f None i a = absurd (let b = along-begins faces [] f u v a in i f b.0 b.1)
  side_of u v f (Some s) i a = (s, refl, own u v s.face f (begins-along faces [] s.face s.corner u v i) a)

  crossing_along : (e : Edge) (f g : ℕ) → crossing_of pieces e ≡ Some (f, g) → (can_cross e.letter ≡ true) × Along faces f e.from e.to × Along faces g e.to e.from
  crossing_along e f g is =
      let b = both_of (can_cross e.letter) (left_of e) (right_of e) f g is in (
        b.can_be,
        side_along e.from e.to f (left_of e) b.there (on_left faces own K vertices edges pieces known e) b.left_is b.first,
        side_along e.to e.from g (right_of e) b.back (on_right faces own K vertices edges pieces known e) b.right_is b.second,
      )

  along_crossing : (e : Edge) (f g : ℕ) → can_cross e.letter ≡ true → Along faces f e.from e.to → Along faces g e.to e.from → crossing_of pieces e ≡ Some (f, g)
  along_crossing e f g can a b =
      let s = side_of e.from e.to f (left_of e) (on_left faces own K vertices edges pieces known e) a in
      let t = side_of e.to e.from g (right_of e) (on_right faces own K vertices edges pieces known e) b in
      ap (λ (c : Bool). crossed_by c (both_faces (left_of e) (right_of e))) can
      ∙ ap (λ (o : Option Side). both_faces o (right_of e)) s.1
      ∙ ap (λ (o : Option Side). both_faces (Some s.0) o) t.1
      ∙ ap (λ (x : ℕ). Some (x, t.0.face)) s.2
      ∙ ap (λ (x : ℕ). Some (f, x)) t.2

  pub crossings_in_range : (e : Edge) (f g : ℕ) → crossing_of pieces e ≡ Some (f, g) → (f < length faces) × (g < length faces)
  crossings_in_range e f g is =
      let a = crossing_along e f g is in
      (in_range [] faces f e.from e.to a.1, in_range [] faces g e.to e.from a.2)

  crossing_beside : (n f g : ℕ) → n < length edges → crossing_of pieces (edge_at edges n) ≡ Some (f, g) → AreBeside faces edges f g
  crossing_beside n f g l is =
      let a = crossing_along (edge_at edges n) f g is in
      let c = crossed (edge_at edges n).letter a.0 in
      (edge_at edges n, edge-contains edges n l, c.0, c.1, side_there faces own f (edge_at edges n) a.1, side_back faces own g (edge_at edges n) a.2)

  beside_turned : (f g : ℕ) → AreBeside faces edges f g → AreBeside faces edges g f
  beside_turned f g (e, i, b, c, s, t) = (e, i, b, c, t, s)

  crosses_beside : (f g : ℕ) → Crosses pieces edges f g → AreBeside faces edges f g
  crosses_beside f g (n, l, inl is) = crossing_beside n f g l is
  crosses_beside f g (n, l, inr is) = beside_turned g f (crossing_beside n g f l is)

  hang_reached : (f : ℕ) → IsReached (Crosses pieces edges) 0 f → IsReached (AreBeside faces edges) 0 f
  hang_reached f begun = begun
  hang_reached f (gone_on g before step) = gone_on g (hang_reached g before) (crosses_beside g f step)

  module _ (labels : List ℕ) (h : AreLabelled pieces edges (length edges) (length faces) labels) where
    one_label : (f g : ℕ) → AreBeside faces edges f g → slice_index labels f ≡ slice_index labels g
    one_label f g (e, i, b, c, s, t) =
        let can : can_cross e.letter ≡ true = crossed_back e.letter b c in
        let there : edge_at edges i.0 ≡ e = edge-place edges e i in
        let joined : (x y : ℕ) → crossing_of pieces e ≡ Some (x, y) → slice_index labels x ≡ slice_index labels y
        = λ x y is. h.joined i.0 x y i.1 (subst (λ (d : Edge). crossing_of pieces d ≡ Some (x, y)) (sym there) is) in
        elim (along_edge faces own f e s) [
          | inl a ↦ elim (along_edge faces own g e t) [
            | inl d ↦ ap (λ (x : ℕ). slice_index labels x) (own e.from e.to f g a d)
            | inr d ↦ joined f g (along_crossing e f g can a d)
          ]
          | inr a ↦ elim (along_edge faces own g e t) [
            | inl d ↦ sym (joined g f (along_crossing e g f can d a))
            | inr d ↦ ap (λ (x : ℕ). slice_index labels x) (own e.to e.from f g a d)
          ]
        ]

    reached_label : (f : ℕ) → IsReached (AreBeside faces edges) 0 f → slice_index labels f ≡ slice_index labels 0
    reached_label f begun = refl
    reached_label f (gone_on g before step) = sym (one_label g f step) ∙ reached_label g before

    pub severed : (f : ℕ) → HasOther labels f → HasFlaw K vertices edges faces (Severed f)
    severed f other = (let l = other.0 in let all = h.long in omega (arith, l, all), λ r. other.1 (reached_label f r))

    pub severed_back : (f : ℕ) → HasFlaw K vertices edges faces (Severed f) → HasOther labels f
    severed_back f (l, apart) =
        (let all = h.long in omega (arith, l, all), λ same. apart (hang_reached f (h.only 0 f (omega (arith, l)) l (sym same))))
