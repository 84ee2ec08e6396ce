-- Faces that are listed one after another, and the marks of the walks that they go round.
use Rattle.std.proofs.Common.{◌≡◌, ◌∙◌, ap, sym, refl, subst, ℕ, List, [], ◌∷◌, ◌++◌, ◌<◌, ◌≤◌, ◌+◌, length, Bool, true, false, Some, None, inl, inr, ◌⊎◌, arith, take, drop}
use Rattle.std.specs.Prelude.{Contains, slice_index_or, slice_set}
use Rattle.std.specs.BTreeMap.{BTreeMap, get}
use Rattle.std.specs.Cmp.Lexicographic.{pointwise}
use Rattle.std.specs.Prelude.{◌↔◌, IsTrue, nat_eq}
use Rattle.std.proofs.lemmas.Bool.{cases_lt}
use Rattle.std.proofs.lemmas.Bool.Decides.{Decides-eqb}
use Rattle.std.proofs.lemmas.Slice.Eq.{slice_eq-Decides}
use Rattle.std.proofs.lemmas.List.{append-nil, length-append, length-set, take-append-drop, take_at, drop_at, get_or-set_same, get_or-set_other, get_or_default, get_or_past}
use Rattle.algebra.proofs.Integers.{integers}
use Rattle.scaled_plane.specs.declared.drawing.Face.{Face}
use Rattle.scaled_plane.specs.Lists.{IsRotation}
use Rattle.scaled_plane.specs.Scaling.{IsFirstOf}
use Rattle.scaled_plane.specs.Walks.{pieces_round}
use Rattle.regions.proofs.Rotations.{of_rotated, rotated_back, rotated_then}
use Rattle.flat_fold.specs.declared.sides.Side.{Side}
use Rattle.flat_fold.specs.EdgeSides.{Begins, HasPieces, piece_order}
use Rattle.flat_fold.specs.Faces.{corners_at}
use Rattle.flat_fold.proofs.SideLaws.{along-begins, begins-along, side-found}
use Rattle.plane.proofs.First.{same_or_not}
use Rattle.sheet_check.specs.Listed.{AreApart, AreListed, AreRight, GoRound, GoRoundNone, IsMissing, IsWrong, Lists, is_marked}

-- the corners that are read of the face at a place
pub corners_read : (faces : List Face) (f : ℕ) (face : Face) (corners : List ℕ) → f < length faces → corners ≡ (slice_index_or faces f face).corners → corners ≡ corners_at faces f
corners_read faces f face corners l is = is ∙ ap (λ (x : Face). x.corners) (get_or_default faces f face (record { corners = [] }) l)

-- ---- lists parted at a place

module _ (corners front back : List ℕ) where
  pub begun_none : pointwise nat_eq (take (length back) corners) back ≡ false → ¬ (corners ≡ back ++ front)
  begun_none off e =
      let same : take (length back) corners ≡ back = ap (λ (c : List ℕ). take (length back) c) e ∙ take_at back front (length back) refl in
      let on : pointwise nat_eq (take (length back) corners) back ≡ true = (slice_eq-Decides Decides-eqb (take (length back) corners) back (pointwise nat_eq (take (length back) corners) back) refl).1 same in
      let no : true ≡ false = sym on ∙ off in
      absurd (cc)

  pub begun_some : (rest : List ℕ) → pointwise nat_eq (take (length back) corners) back ≡ true → rest ≡ drop (length back) corners → (rest ≡ front) ↔ (corners ≡ back ++ front)
  begun_some rest on is =
      let same : take (length back) corners ≡ back = (slice_eq-Decides Decides-eqb (take (length back) corners) back (pointwise nat_eq (take (length back) corners) back) refl).0 on in (
        λ e. sym (take-append-drop (length back) corners) ∙ ap (λ (c : List ℕ). c ++ drop (length back) corners) same ∙ ap (λ (c : List ℕ). back ++ c) (sym is ∙ e),
        λ e. is ∙ ap (λ (c : List ℕ). drop (length back) c) e ∙ drop_at back front (length back) refl,
      )

pub begun_when : (corners front back rest : List ℕ) (r : Bool) → pointwise nat_eq (take (length back) corners) back ≡ true → rest ≡ drop (length back) corners
    → r ≡ pointwise nat_eq rest front → IsTrue r ↔ (corners ≡ back ++ front)
begun_when corners front back rest r on is e =
    let parts = begun_some corners front back rest on is in
    let decides = slice_eq-Decides Decides-eqb rest front r e in
    (λ t. parts.0 (decides.0 t), λ same. decides.1 (parts.1 same))

-- ---- rotations by the place where they begin

rotated_begins : (corners walk : List ℕ) (r : IsRotation corners walk) → (walk ≡ []) ⊎ ((p : ℕ) × (p < length walk) × (corners ≡ drop p walk ++ take p walk))
rotated_begins corners walk ([], [], e, f) = inl f
rotated_begins corners walk ([], b ∷ back, e, f) =
    let same : corners ≡ walk = e ∙ sym (append-nil (b ∷ back)) ∙ sym f in
    let some : 0 < length walk = subst (λ (w : List ℕ). 0 < length w) (sym f) (omega arith) in
    inr (0, some, same ∙ sym (append-nil walk))
rotated_begins corners walk (x ∷ front, back, e, f) =
    let long : length walk ≡ length back + length (x ∷ front) = ap (λ (w : List ℕ). length w) f ∙ length-append back (x ∷ front) in
    let behind : drop (length back) walk ≡ x ∷ front = ap (λ (w : List ℕ). drop (length back) w) f ∙ drop_at back (x ∷ front) (length back) refl in
    let before : take (length back) walk ≡ back = ap (λ (w : List ℕ). take (length back) w) f ∙ take_at back (x ∷ front) (length back) refl in
    inr (length back, omega (arith, long), e ∙ ap (λ (w : List ℕ). w ++ back) (sym behind) ∙ ap (λ (w : List ℕ). drop (length back) walk ++ w) (sym before))

-- where it begins at no place, and there is one, it's no rotation
pub begun_nowhere : (corners walk : List ℕ) (n : ℕ) → length walk ≤ n → ¬ (walk ≡ []) → ((p : ℕ) → p < n → ¬ (corners ≡ drop p walk ++ take p walk)) → ¬ IsRotation corners walk
begun_nowhere corners walk n all some none r = elim (rotated_begins corners walk r) [
  | inl empty ↦ some empty
  | inr there ↦ (let less = there.1 in none there.0 (omega (arith, less, all)) there.2)
]

pub rotation_long : (corners walk : List ℕ) → IsRotation corners walk → length corners ≡ length walk
rotation_long corners walk r =
    let long : length corners ≡ length r.0 + length r.1 = ap (λ (c : List ℕ). length c) r.2 ∙ length-append r.0 r.1 in
    let other : length walk ≡ length r.1 + length r.0 = ap (λ (c : List ℕ). length c) r.3 ∙ length-append r.1 r.0 in
    omega (arith, long, other)

-- what goes round a walk has its pieces
pub rotated_piece : (corners walk : List ℕ) → IsRotation corners walk → (u v : ℕ) → Contains (pieces_round corners) (u, v) → Contains (pieces_round walk) (u, v)
rotated_piece corners walk r u v i = of_rotated integers [] [] corners walk r u v i

module _ (walks : List Face) (apart : AreApart walks) (corners : List ℕ) where
  module _ (u v : ℕ) (i : Contains (pieces_round corners) (u, v)) (pieces : BTreeMap (ℕ × ℕ) Side) (known : HasPieces walks (length walks) 0 pieces) where
    -- no walk has the first piece
    pub no_walk : get piece_order pieces (u, v) ≡ None → GoRoundNone walks corners
    no_walk e w l r =
        let b = along-begins walks [] w u v (rotated_piece corners (corners_at walks w) r u v i) in
        let none : (f k : ℕ) → ¬ Begins walks f k u v = side-found walks pieces known u v None e in
        none w b.0 b.1

    -- the walk that has the first piece is another
    pub other_walk : (side : Side) → get piece_order pieces (u, v) ≡ Some side → ¬ IsRotation corners (corners_at walks side.face) → GoRoundNone walks corners
    other_walk side e differs w l r =
        let there : Begins walks side.face side.corner u v = side-found walks pieces known u v (Some side) e in
        let same : w ≡ side.face = apart.piece u v w side.face (rotated_piece corners (corners_at walks w) r u v i) (begun there) in
        differs (subst (λ (x : ℕ). IsRotation corners (corners_at walks x)) same r)
      where
        begun : {f k : ℕ} → Begins walks f k u v → Contains (pieces_round (corners_at walks f)) (u, v)
        begun {f} {k} b = begins-along walks [] f k u v b

-- ---- one face more

module _ (walks faces : List Face) (apart : AreApart walks) (n : ℕ) (less : n < length faces) where
  marked_in : (marks : List Bool) (w : ℕ) → is_marked marks w ≡ true → w < length marks
  marked_in marks w e = elim (cases_lt w (length marks)) [ inl l ↦ l | inr m ↦ absurd (let no : true ≡ false = sym e ∙ get_or_past marks w false m in cc) ]

  -- a face that goes round a walk that is marked goes round that of an earlier face; else it isn't wrong
  not_wrong : (marks : List Bool) → AreListed walks faces n marks → (w : ℕ) → GoRound walks (corners_at faces n) w → is_marked marks w ≡ false → ¬ IsWrong walks faces n
  not_wrong marks h w r off wrong = elim wrong.wrong [
    | inl none ↦ none w r.0 r.1
    | inr again ↦
        let there = h.every again.0 again.1 in
        let both : IsRotation (corners_at walks w) (corners_at walks there.0)
        = rotated_then _ (corners_at faces n) _ (rotated_back _ _ r.1) (rotated_then _ (corners_at faces again.0) _ again.2 there.1.1) in
        let same : w ≡ there.0 = apart.rotation w there.0 r.0 there.1.0 both in
        let on : is_marked marks w ≡ true = ap (λ (x : ℕ). is_marked marks x) same ∙ there.2 in
        let no : true ≡ false = sym on ∙ off in absurd (cc)
  ]

  module _ (old : List Bool) (h : AreListed walks faces n old) (w : ℕ) (r : GoRound walks (corners_at faces n) w) (off : is_marked old w ≡ false) where
    abbrev new : List Bool
    new = slice_set old w true

    within : w < length old
    within = let l = r.0 in let all = h.as_many in omega (arith, l, all)

    here : is_marked new w ≡ true
    here = get_or-set_same old w true false within

    kept : (x : ℕ) → is_marked old x ≡ true → is_marked new x ≡ true
    kept x e = elim (same_or_not x w) [
      | inl same ↦ ap (λ (y : ℕ). is_marked new y) same ∙ here
      | inr other ↦ get_or-set_other old w x true false other ∙ e
    ]

    pub listed_more : AreListed walks faces (n + 1) new
    listed_more = record {
      as_many = length-set old w true ∙ h.as_many;
      only = λ x e. elim (same_or_not x w) [
        | inl same ↦ (n, omega arith, subst (λ (y : ℕ). IsRotation (corners_at faces n) (corners_at walks y)) (sym same) r.1)
        | inr other ↦ (let there = h.only x (sym (get_or-set_other old w x true false other) ∙ e) in let l = there.1 in (there.0, omega (arith, l), there.2))
      ];
      every = λ g l. elim (cases_lt g n) [
        | inl earlier ↦ (let there = h.every g earlier in (there.0, there.1, kept there.0 there.2))
        | inr last ↦ (let same : g ≡ n = omega (arith, l, last) in (w, subst (λ (x : ℕ). GoRound walks (corners_at faces x) w) (sym same) r, here))
      ];
      right = λ g l. elim (cases_lt g n) [
        | inl earlier ↦ h.right g earlier
        | inr last ↦ (let same : g ≡ n = omega (arith, l, last) in subst (λ (x : ℕ). ¬ IsWrong walks faces x) (sym same) (not_wrong old h w r off))
      ];
    }

  pub listed_by : (old new : List Bool) (b : Bool) → b ≡ true → AreListed walks faces n old → Lists walks (corners_at faces n) old new b → AreListed walks faces (n + 1) new
  listed_by old new true e h (w, r, off, is) = subst (λ (m : List Bool). AreListed walks faces (n + 1) m) (sym is) (listed_more old h w r off)
  listed_by old new false e h l = absurd (cc)

  pub wrong_by : (old new : List Bool) (b : Bool) → b ≡ false → AreListed walks faces n old → Lists walks (corners_at faces n) old new b → IsFirstOf (IsWrong walks faces) n
  wrong_by old new true e h l = absurd (cc)
  wrong_by old new false e h (inl none) = (record { in_range = less; wrong = inl none }, h.right)
  wrong_by old new false e h (inr (w, r, on)) =
      let there = h.only w on in
      (record { in_range = less; wrong = inr (there.0, there.1, rotated_then _ (corners_at walks w) _ r.1 (rotated_back _ _ there.2)) }, h.right)

-- ---- all faces

module _ (walks faces : List Face) (apart : AreApart walks) (marks : List Bool) (h : AreListed walks faces (length faces) marks) where
  pub all_right : AreRight walks faces
  all_right = record {
    every = λ g l. (let there = h.every g l in (there.0, there.1));
    right = λ g wrong. h.right g wrong.in_range wrong;
  }

  -- a walk is missing where it isn't marked
  unmarked_missing : (w : ℕ) → w < length marks → is_marked marks w ≡ false → IsMissing walks faces w
  unmarked_missing w l off = record { in_range = within; missing = none }
    where
      within : w < length walks
      within = let all = h.as_many in omega (arith, l, all)

      none : (f : ℕ) → f < length faces → ¬ IsRotation (corners_at faces f) (corners_at walks w)
      none f in_faces r =
          let there = h.every f in_faces in
          let same : w ≡ there.0 = apart.rotation w there.0 within there.1.0 (rotated_then _ (corners_at faces f) _ (rotated_back _ _ r) there.1.1) in
          let on : is_marked marks w ≡ true = ap (λ (x : ℕ). is_marked marks x) same ∙ there.2 in
          let no : true ≡ false = sym on ∙ off in
          absurd (cc)

  marked_there : (w : ℕ) → is_marked marks w ≡ true → ¬ IsMissing walks faces w
  marked_there w on m = let there = h.only w on in m.missing there.0 there.1 there.2

  pub first_missing : (w : ℕ) → IsFirstOf (λ x. (x < length marks) × (is_marked marks x ≡ false)) w → IsFirstOf (IsMissing walks faces) w
  first_missing w (here, least) = (unmarked_missing w here.0 here.1, λ x less m. by x less m (is_marked marks x) refl)
    where
      by : (x : ℕ) → x < w → IsMissing walks faces x → (b : Bool) → is_marked marks x ≡ b → ⊥
      by x less m true e = marked_there x e m
      by x less m false e = least x less (let l = m.in_range in let all = h.as_many in omega (arith, l, all), e)

  pub none_left : ((w : ℕ) → w < length marks → is_marked marks w ≡ true) → (w : ℕ) → ¬ IsMissing walks faces w
  none_left all w m = marked_there w (all w (let l = m.in_range in let long = h.as_many in omega (arith, l, long))) m
