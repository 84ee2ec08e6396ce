-- Edges by the faces along their two directed pieces, where no two faces have one piece.
use Rattle.std.proofs.Common.{◌≡◌, ◌∙◌, ap, sym, refl, subst, ℕ, List, [], ◌<◌, length, Bool, true, false, Option, Some, None, inl, inr, ◌⊎◌}
use Rattle.std.specs.Prelude.{Contains}
use Rattle.std.specs.BTreeMap.{BTreeMap, get}
use Rattle.std.proofs.lemmas.Bool.Decides.{Decides-eqb}
use Rattle.std.proofs.lemmas.Option.{get_or_from_slice_get, slice_get_within}
use Rattle.algebra.specs.OrderedRing.{OrderedRing}
use Rattle.fold_base.specs.declared.letter.Letter.{Letter}
use Rattle.fold_base.specs.declared.letter.Letter.TheVariants.{Border, Mountain, Valley, Flat, Unassigned, Cut, Join}
use Rattle.plane.specs.declared.point.Point.{Point}
use Rattle.scaled_plane.specs.declared.drawing.Edge.{Edge}
use Rattle.scaled_plane.specs.declared.drawing.Face.{Face}
use Rattle.scaled_plane.specs.declared.sheet.SheetFlaw.TheVariants.{BorderWrong}
use Rattle.scaled_plane.specs.Scaling.{IsFirstOf}
use Rattle.scaled_plane.specs.Sheets.{HasFlaw, HasOneFace, HasSide}
use Rattle.scaled_plane.specs.Walks.{pieces_round}
use Rattle.flat_fold.specs.declared.sides.Side.{Side}
use Rattle.flat_fold.specs.EdgeSides.{HasPieces, IsSide, piece_order}
use Rattle.flat_fold.specs.Faces.{corners_at, edge_at}
use Rattle.flat_fold.proofs.SheetLaws.{edge-get, face-has, has-face}
use Rattle.flat_fold.proofs.SideLaws.{along-begins, begins-along, side-found}
use Rattle.flat_fold.proofs.FoldingLaws.{in_range}
use Rattle.sheet_check.specs.Borders.{differ, is_border, is_one, is_wrong_border}

abbrev pub Along : List Face → ℕ → ℕ → ℕ → Type 0
Along faces f u v = Contains (pieces_round (corners_at faces f)) (u, v)

border_is : (l : Letter) → is_border l ≡ true → l ≡ Border
border_is Border e = refl
border_is Mountain e = absurd (cc)
border_is Valley e = absurd (cc)
border_is Flat e = absurd (cc)
border_is Unassigned e = absurd (cc)
border_is Cut e = absurd (cc)
border_is Join e = absurd (cc)

border_not : (l : Letter) → is_border l ≡ false → ¬ (l ≡ Border)
border_not l off e = let no : false ≡ true = sym off ∙ ap is_border e in absurd (cc)

module _ (faces : List Face) (own : (u v f g : ℕ) → Along faces f u v → Along faces g u v → f ≡ g) where
  pub side_there : (f : ℕ) (e : Edge) → Along faces f e.from e.to → HasSide faces f e
  side_there f e a = (corners_at faces f, face-has faces f (in_range [] faces f e.from e.to a), inl a)

  pub side_back : (f : ℕ) (e : Edge) → Along faces f e.to e.from → HasSide faces f e
  side_back f e a = (corners_at faces f, face-has faces f (in_range [] faces f e.to e.from a), inr a)

  -- a face that has a side of an edge lies along it, or along it backwards
  pub along_edge : (f : ℕ) (e : Edge) → HasSide faces f e → Along faces f e.from e.to ⊎ Along faces f e.to e.from
  along_edge f e s =
      let is = (has-face faces f s.0 s.1).1 in
      elim s.2 [
        | inl i ↦ inl (subst (λ (c : List ℕ). Contains (pieces_round c) (e.from, e.to)) (sym is) i)
        | inr i ↦ inr (subst (λ (c : List ℕ). Contains (pieces_round c) (e.to, e.from)) (sym is) i)
      ]

  none_along : (u v f : ℕ) → IsSide faces u v None → ¬ Along faces f u v
  none_along u v f none a = let b = along-begins faces [] f u v a in none f b.0 b.1

  face_along : (u v : ℕ) (s : Side) → IsSide faces u v (Some s) → Along faces s.face u v
  face_along u v s b = begins-along faces [] s.face s.corner u v b

  module _ (e : Edge) where
    -- exactly one face lies along the edge
    one_face : (left right : Option Side) → IsSide faces e.from e.to left → IsSide faces e.to e.from right → is_one left right ≡ true → HasOneFace faces e
    one_face None None l r is = absurd (cc)
    one_face None (Some t) l r is = (
      t.face,
      side_back t.face e (face_along e.to e.from t r),
      λ g s. elim (along_edge g e s) [
        | inl a ↦ absurd (none_along e.from e.to g l a)
        | inr a ↦ own e.to e.from g t.face a (face_along e.to e.from t r)
      ],
    )
    one_face (Some s) None l r is = (
      s.face,
      side_there s.face e (face_along e.from e.to s l),
      λ g h. elim (along_edge g e h) [
        | inl a ↦ own e.from e.to g s.face a (face_along e.from e.to s l)
        | inr a ↦ absurd (none_along e.to e.from g r a)
      ],
    )
    one_face (Some s) (Some t) l r is =
        let same : s.face ≡ t.face = (Decides-eqb s.face t.face).0 is in (
          s.face,
          side_there s.face e (face_along e.from e.to s l),
          λ g h. elim (along_edge g e h) [
            | inl a ↦ own e.from e.to g s.face a (face_along e.from e.to s l)
            | inr a ↦ own e.to e.from g t.face a (face_along e.to e.from t r) ∙ sym same
          ],
        )

    not_one_face : (left right : Option Side) → IsSide faces e.from e.to left → IsSide faces e.to e.from right → is_one left right ≡ false → ¬ HasOneFace faces e
    not_one_face None None l r is (f, s, only) = elim (along_edge f e s) [ inl a ↦ none_along e.from e.to f l a | inr a ↦ none_along e.to e.from f r a ]
    not_one_face None (Some t) l r is one = absurd (cc)
    not_one_face (Some s) None l r is one = absurd (cc)
    not_one_face (Some s) (Some t) l r is (f, h, only) =
        let same : s.face ≡ t.face = only s.face (side_there s.face e (face_along e.from e.to s l)) ∙ sym (only t.face (side_back t.face e (face_along e.to e.from t r))) in
        let no : true ≡ false = sym ((Decides-eqb s.face t.face).1 same) ∙ is in
        absurd (cc)

  module _ {A : Type 0} (K : OrderedRing A) (vertices : List (Point A)) (edges : List Edge) (pieces : BTreeMap (ℕ × ℕ) Side) (known : HasPieces faces (length faces) 0 pieces) where
    abbrev left_of : Edge → Option Side
    left_of e = get piece_order pieces (e.from, e.to)

    abbrev right_of : Edge → Option Side
    right_of e = get piece_order pieces (e.to, e.from)

    pub on_left : (e : Edge) → IsSide faces e.from e.to (left_of e)
    on_left e = side-found faces pieces known e.from e.to (left_of e) refl

    pub on_right : (e : Edge) → IsSide faces e.to e.from (right_of e)
    on_right e = side-found faces pieces known e.to e.from (right_of e) refl

    Wrong : Edge → Type 0
    Wrong e = ((e.letter ≡ Border) × ¬ HasOneFace faces e) ⊎ (¬ (e.letter ≡ Border) × HasOneFace faces e)

    wrong_by : (e : Edge) (border one : Bool) → is_border e.letter ≡ border → is_one (left_of e) (right_of e) ≡ one → differ border one ≡ true → Wrong e
    unfolding Wrong
    wrong_by e true true b o d = absurd (cc)
    wrong_by e true false b o d = inl (border_is e.letter b, not_one_face e (left_of e) (right_of e) (on_left e) (on_right e) o)
    wrong_by e false true b o d = inr (border_not e.letter b, one_face e (left_of e) (right_of e) (on_left e) (on_right e) o)
    wrong_by e false false b o d = absurd (cc)

    right_by : (e : Edge) (border one : Bool) → is_border e.letter ≡ border → is_one (left_of e) (right_of e) ≡ one → differ border one ≡ false → ¬ Wrong e
    unfolding Wrong
    right_by e true true b o d (inl w) = w.1 (one_face e (left_of e) (right_of e) (on_left e) (on_right e) o)
    right_by e true true b o d (inr w) = w.0 (border_is e.letter b)
    right_by e true false b o d w = absurd (cc)
    right_by e false true b o d w = absurd (cc)
    right_by e false false b o d (inl w) = border_not e.letter b w.0
    right_by e false false b o d (inr w) = not_one_face e (left_of e) (right_of e) (on_left e) (on_right e) o w.1

    pub border_wrong : (n : ℕ) → n < length edges → is_wrong_border pieces (edge_at edges n) ≡ true → HasFlaw K vertices edges faces (BorderWrong n)
    unfolding Wrong
    border_wrong n l e = (edge_at edges n, edge-get edges n l, wrong_by (edge_at edges n) (is_border (edge_at edges n).letter) (is_one (left_of (edge_at edges n)) (right_of (edge_at edges n))) refl refl e)

    pub border_right : (n : ℕ) → (n < length edges → is_wrong_border pieces (edge_at edges n) ≡ false) → ¬ HasFlaw K vertices edges faces (BorderWrong n)
    unfolding Wrong
    border_right n none (e, is, wrong) =
        let l : n < length edges = slice_get_within edges n e is in
        let there : edge_at edges n ≡ e = get_or_from_slice_get edges n e (record { from = 0; to = 0; letter = Border }) is in
        let off : is_wrong_border pieces e ≡ false = subst (λ (x : Edge). is_wrong_border pieces x ≡ false) there (none l) in
        right_by e (is_border e.letter) (is_one (left_of e) (right_of e)) refl refl off wrong

    pub border_is_first : (n : ℕ) → IsFirstOf (λ m. (m < length edges) × (is_wrong_border pieces (edge_at edges m) ≡ true)) n
        → IsFirstOf (λ m. HasFlaw K vertices edges faces (BorderWrong m)) n
    border_is_first n (here, least) = (border_wrong n here.0 here.1, λ m less. border_right m (λ l. right_at m less l (is_wrong_border pieces (edge_at edges m)) refl))
      where
        right_at : (m : ℕ) → m < n → m < length edges → (b : Bool) → is_wrong_border pieces (edge_at edges m) ≡ b → b ≡ false
        right_at m less l true e = absurd (least m less (l, e))
        right_at m less l false e = refl
