-- The directed pieces of faces by their places, the map that has them, and the sides and crossings of edges that it gives.
use Rattle.std.proofs.Common.{◌≡◌, ◌∙◌, ap, sym, refl, subst, ℕ, zero, suc, List, [], ◌∷◌, ◌++◌, ◌<◌, ◌≤◌, ◌+◌, length, Option, Some, None, cond, inl, inr, ◌⊎◌, arith, add-one}
use Rattle.std.specs.Prelude.{slice_get, slice_index_or}
use Rattle.std.specs.BTreeMap.{BTreeMap, get, Updates}
use Rattle.std.specs.Ordering.{is_eq, nat_cmp}
use Rattle.std.specs.declared.cmp.Ordering.{Ordering}
use Rattle.std.specs.declared.cmp.Ordering.TheVariants.{Less, Equal, Greater}
use Rattle.std.proofs.lemmas.Bool.{cases_lt}
use Rattle.std.proofs.lemmas.List.{get_or_append_left}
use Rattle.std.proofs.lemmas.Map.Lookups.{exact_pairs, exact_unsigned}
use Rattle.std.proofs.lemmas.Option.{get_or_from_slice_get, slice_get_read, slice_get_within}
use Rattle.std.proofs.Math.Seq.{get_or-append_seam}
use Rattle.scaled_plane.specs.Walks.{pieces_on_to, pieces_round}
use Rattle.scaled_plane.specs.declared.drawing.Edge.{Edge}
use Rattle.scaled_plane.specs.declared.drawing.Face.{Face}
use Rattle.flat_fold.specs.declared.levels.Between.{Between}
use Rattle.flat_fold.specs.declared.sides.Side.{Side}
use Rattle.flat_fold.specs.declared.sides.Sides.{Sides}
use Rattle.flat_fold.specs.EdgeSides.{Begins, HasPieces, HasSides, IsSide, Separates, piece_order}
use Rattle.flat_fold.specs.Faces.{LiesAlong, corners_at, edge_at}
use Rattle.flat_fold.specs.Rounds.{IsCrossing}
use Rattle.flat_fold.proofs.FoldingLaws.{in_range}

abbrev piece : ℕ → ℕ → ℕ × ℕ
piece u v = (u, v)

some_same : {p q : ℕ × ℕ} → Some p ≡ Some q → p ≡ q
some_same e = cc

some_side : {s t : Side} → Some s ≡ Some t → s ≡ t
some_side e = cc

-- ---- pieces by their places

piece-inner : (first : ℕ) (cs : List ℕ) (k d e : ℕ) → suc k < length cs → slice_get (pieces_on_to first cs) k ≡ Some (slice_index_or cs k d, slice_index_or cs (suc k) e)
piece-inner first [] k d e l = absurd (omega (arith, l))
piece-inner first (u ∷ []) k d e l = absurd (omega (arith, l))
piece-inner first (u ∷ (v ∷ rest)) zero d e l = refl
piece-inner first (u ∷ (v ∷ rest)) (suc k) d e l = piece-inner first (v ∷ rest) k d e (omega (arith, l))

piece-last : (first : ℕ) (cs : List ℕ) (k d : ℕ) → suc k ≡ length cs → slice_get (pieces_on_to first cs) k ≡ Some (slice_index_or cs k d, first)
piece-last first [] k d l = absurd (omega (arith, l))
piece-last first (u ∷ []) zero d l = refl
piece-last first (u ∷ []) (suc k) d l = absurd (omega (arith, l))
piece-last first (u ∷ (v ∷ rest)) zero d l = absurd (omega (arith, l))
piece-last first (u ∷ (v ∷ rest)) (suc k) d l = piece-last first (v ∷ rest) k d (omega (arith, l))

-- a piece leads from its corner to the next
pub piece-goes_on : (corners : List ℕ) (k d e : ℕ) → k + 1 < length corners → slice_get (pieces_round corners) k ≡ Some (slice_index_or corners k d, slice_index_or corners (k + 1) e)
piece-goes_on [] k d e l = absurd (omega (arith, l))
piece-goes_on (u ∷ rest) k d e l =
    piece-inner u (u ∷ rest) k d e (omega (arith, l)) ∙ ap (λ (j : ℕ). Some (slice_index_or (u ∷ rest) k d, slice_index_or (u ∷ rest) j e)) (sym (add-one k))

-- .. and that from the last corner to the first
pub piece-comes_back : (corners : List ℕ) (k d e : ℕ) → k < length corners → length corners ≤ k + 1 → slice_get (pieces_round corners) k ≡ Some (slice_index_or corners k d, slice_index_or corners 0 e)
piece-comes_back [] k d e l m = absurd (omega (arith, l))
piece-comes_back (u ∷ rest) k d e l m = piece-last u (u ∷ rest) k d (omega (arith, l, m))

length-on_to : (first : ℕ) (cs : List ℕ) → length (pieces_on_to first cs) ≡ length cs
length-on_to first [] = refl
length-on_to first (u ∷ []) = refl
length-on_to first (u ∷ (v ∷ rest)) = ap suc (length-on_to first (v ∷ rest))

pub length-pieces : (corners : List ℕ) → length (pieces_round corners) ≡ length corners
length-pieces [] = refl
length-pieces (u ∷ rest) = length-on_to u (u ∷ rest)

-- a piece begins at its corner
pub piece-first : (corners : List ℕ) (k u v d : ℕ) → slice_get (pieces_round corners) k ≡ Some (u, v) → slice_index_or corners k d ≡ u
piece-first corners k u v d is =
    let within : k < length (pieces_round corners) = slice_get_within (pieces_round corners) k (u, v) is in
    let all = length-pieces corners in
    let l : k < length corners = omega (arith, within, all) in
    elim (cases_lt (k + 1) (length corners)) [
      | inl more ↦ ap (λ (p : ℕ × ℕ). p.0) (some_same (sym (piece-goes_on corners k d d more) ∙ is))
      | inr last ↦ ap (λ (p : ℕ × ℕ). p.0) (some_same (sym (piece-comes_back corners k d d l last) ∙ is))
    ]

module _ (faces : List Face) where
  -- a piece begins at a corner of its face
  pub begins-corner : (f k u v : ℕ) → Begins faces f k u v → k < length (corners_at faces f)
  begins-corner f k u v b =
      let within : k < length (pieces_round (corners_at faces f)) = slice_get_within (pieces_round (corners_at faces f)) k (u, v) b.piece in
      let long = length-pieces (corners_at faces f) in
      omega (arith, within, long)

  -- .. which is its first end
  pub begins-first : (f k u v d : ℕ) → Begins faces f k u v → slice_index_or (corners_at faces f) k d ≡ u
  begins-first f k u v d b = piece-first (corners_at faces f) k u v d b.piece

  -- a face lies along a piece that begins at one of its corners, and no other
  pub begins-along : (edges : List Edge) (f k u v : ℕ) → Begins faces f k u v → LiesAlong edges faces f u v
  begins-along edges f k u v b =
      (k, slice_get_within (pieces_round (corners_at faces f)) k (u, v) b.piece, get_or_from_slice_get (pieces_round (corners_at faces f)) k (u, v) (u, v) b.piece)

  pub along-begins : (edges : List Edge) (f u v : ℕ) → LiesAlong edges faces f u v → (k : ℕ) × Begins faces f k u v
  along-begins edges f u v h = (
    h.0,
    record {
      is_face = in_range edges faces f u v h;
      piece = slice_get_read (pieces_round (corners_at faces f)) (length (pieces_round (corners_at faces f))) h.0 (u, v) refl h.1 (sym h.2);
    },
  )

  -- ---- the map of all pieces

  pub no-pieces : (m : BTreeMap (ℕ × ℕ) Side) → m.entries ≡ [] → HasPieces faces 0 0 m
  no-pieces m none = record {
    only = λ u v side e. absurd (let nothing : get piece_order m (u, v) ≡ None = rw none refl in cc);
    every = λ g j u v less b. absurd (elim less [ inl l ↦ omega (arith, l) | inr l ↦ (let i = l.1 in omega (arith, i)) ]);
  }

  -- one piece more
  module _ (f k u v : ℕ) (side : Side) (old new : BTreeMap (ℕ × ℕ) Side) (before : HasPieces faces f k old) (b : Begins faces f k u v) (is_face : side.face ≡ f) (is_corner : side.corner ≡ k)
      (updates : Updates piece_order old new (u, v) (Some side)) where
    here : Begins faces side.face side.corner u v
    here = subst (λ (g : ℕ). Begins faces g side.corner u v) (sym is_face) (subst (λ (j : ℕ). Begins faces f j u v) (sym is_corner) b)

    only_by : (w x : ℕ) (s : Side) (o : Ordering) → piece_order (u, v) (w, x) ≡ o → cond (is_eq o) (Some side) (get piece_order old (w, x)) ≡ Some s → Begins faces s.face s.corner w x
    only_by w x s Less e h = before.only w x s h
    only_by w x s Greater e h = before.only w x s h
    only_by w x s Equal e h =
        let same : piece u v ≡ piece w x = exact_pairs nat_cmp nat_cmp exact_unsigned exact_unsigned (u, v) (w, x) e in
        let is_side : side ≡ s = some_side h in
        subst (λ (p : ℕ × ℕ). Begins faces s.face s.corner p.0 p.1) same (subst (λ (t : Side). Begins faces t.face t.corner u v) is_side here)

    there : (w x : ℕ) → piece u v ≡ piece w x → (s : Side) × (get piece_order new (w, x) ≡ Some s)
    there w x same = (side, subst (λ (p : ℕ × ℕ). get piece_order new p ≡ Some side) same updates.1)

    kept_by : (w x : ℕ) (s : Side) (o : Ordering) → piece_order (u, v) (w, x) ≡ o → get piece_order new (w, x) ≡ cond (is_eq o) (Some side) (get piece_order old (w, x))
        → get piece_order old (w, x) ≡ Some s → (t : Side) × (get piece_order new (w, x) ≡ Some t)
    kept_by w x s Less e n h = (s, n ∙ h)
    kept_by w x s Greater e n h = (s, n ∙ h)
    kept_by w x s Equal e n h = (side, n)

    pub piece-put : HasPieces faces f (k + 1) new
    piece-put = record {
      only = λ w x s e. only_by w x s (piece_order (u, v) (w, x)) refl (sym (updates.0 (w, x)) ∙ e);
      every = λ g j w x less c. elim (before_or_here g j less) [
        | inl earlier ↦ (let old_side = before.every g j w x earlier c in kept_by w x old_side.0 (piece_order (u, v) (w, x)) refl (updates.0 (w, x)) old_side.1)
        | inr same ↦ there w x (one_piece g j w x same.0 same.1 c)
      ];
    }
      where
        before_or_here : (g j : ℕ) → (g < f) ⊎ ((g ≡ f) × (j < k + 1)) → ((g < f) ⊎ ((g ≡ f) × (j < k))) ⊎ ((g ≡ f) × (j ≡ k))
        before_or_here g j (inl l) = inl (inl l)
        before_or_here g j (inr l) = elim (cases_lt j k) [ inl less ↦ inl (inr (l.0, less)) | inr more ↦ (let m = l.1 in inr (l.0, omega (arith, m, more))) ]

        one_piece : (g j w x : ℕ) → g ≡ f → j ≡ k → Begins faces g j w x → piece u v ≡ piece w x
        one_piece g j w x same_face same_corner c =
            let at : Begins faces f k w x = subst (λ (h : ℕ). Begins faces h k w x) same_face (subst (λ (i : ℕ). Begins faces g i w x) same_corner c) in
            let both : Some (piece u v) ≡ Some (piece w x) = sym b.piece ∙ at.piece in
            some_same both

  -- all corners of a face are done
  pub face-done : (f k : ℕ) (m : BTreeMap (ℕ × ℕ) Side) → length (corners_at faces f) ≤ k → HasPieces faces f k m → HasPieces faces (f + 1) 0 m
  face-done f k m all h = record {
    only = h.only;
    every = λ g j u v less b. h.every g j u v
        (elim less [
          | inl l ↦ elim (cases_lt g f) [
            | inl before ↦ inl before
            | inr at ↦ (let same : g ≡ f = omega (arith, l, at) in
                let within : j < length (corners_at faces f) = subst (λ (i : ℕ). j < length (corners_at faces i)) same (begins-corner g j u v b) in
                inr (same, omega (arith, within, all)))
          ]
          | inr l ↦ absurd (let none = l.1 in omega (arith, none))
        ]) b;
  }

  -- the face at the left of a piece is the one that the map has
  pub side-found : (m : BTreeMap (ℕ × ℕ) Side) → HasPieces faces (length faces) 0 m → (u v : ℕ) (o : Option Side) → get piece_order m (u, v) ≡ o → IsSide faces u v o
  side-found m h u v (Some side) e = h.only u v side e
  side-found m h u v None e = λ f k b. let some = h.every f k u v (inl b.is_face) b in let other = some.1 in absurd (cc)

  -- ---- the faces between which an edge leads

  pub along-side : (edges : List Edge) (u v : ℕ) (o : Option Side) → o ≡ None → IsSide faces u v o → (f : ℕ) → ¬ LiesAlong edges faces f u v
  along-side edges u v None e h f a = let b = along-begins edges f u v a in h f b.0 b.1
  along-side edges u v (Some side) e h f a = absurd (cc)

  pub side-along : (edges : List Edge) (u v : ℕ) (o : Option Side) (side : Side) → o ≡ Some side → IsSide faces u v o → LiesAlong edges faces side.face u v
  side-along edges u v None side e h = absurd (cc)
  side-along edges u v (Some s) side e h =
      let same : s ≡ side = cc in subst (λ (t : Side). LiesAlong edges faces t.face u v) same (begins-along edges s.face s.corner u v h)

  module _ (edges : List Edge) (one_face : (u v f g : ℕ) → LiesAlong edges faces f u v → LiesAlong edges faces g u v → f ≡ g) (e : ℕ) (within : e < length edges) (sides : Sides)
      (has : HasSides faces (edge_at edges e) sides) where
    pub is-crossing : (o : Option Between) → Separates (edge_at edges e).letter sides o → IsCrossing edges faces e o
    is-crossing None s = λ f g l. elim (s l.passable) [
      | inl no_left ↦ elim l.between [
        | inl b ↦ along-side edges _ _ sides.left no_left has.left f b.0
        | inr b ↦ along-side edges _ _ sides.left no_left has.left g b.1
      ]
      | inr no_right ↦ elim l.between [
        | inl b ↦ along-side edges _ _ sides.right no_right has.right g b.1
        | inr b ↦ along-side edges _ _ sides.right no_right has.right f b.0
      ]
    ]
    is-crossing (Some b) (passable, left, right, is_left, is_right, first, second) =
        let there : LiesAlong edges faces b.first (edge_at edges e).from (edge_at edges e).to
        = subst (λ (f : ℕ). LiesAlong edges faces f (edge_at edges e).from (edge_at edges e).to) (sym first) (side-along edges _ _ sides.left left is_left has.left) in
        let back : LiesAlong edges faces b.second (edge_at edges e).to (edge_at edges e).from
        = subst (λ (f : ℕ). LiesAlong edges faces f (edge_at edges e).to (edge_at edges e).from) (sym second) (side-along edges _ _ sides.right right is_right has.right) in (
          record { is_edge = within; passable = passable; between = inl (there, back) },
          λ f g l. elim l.between [
            | inl c ↦ inl (one_face _ _ f b.first c.0 there, one_face _ _ g b.second c.1 back)
            | inr c ↦ inr (one_face _ _ f b.second c.0 back, one_face _ _ g b.first c.1 there)
          ],
        )

-- ---- lists that grow

-- what holds of each item by its place holds of one more
pub grown : {X : Type 0} (P : ℕ → X → Type 0) (xs : List X) (x d : X) (n : ℕ) → length xs ≡ n → P n x → ((e : ℕ) → e < n → P e (slice_index_or xs e d))
    → (e : ℕ) → e < n + 1 → P e (slice_index_or (xs ++ x ∷ []) e d)
grown {X} P xs x d n long here each e less =
    elim (cases_lt e n) [
      | inl before ↦ subst (λ (y : X). P e y) (sym (get_or_append_left xs (x ∷ []) d e (omega (arith, before, long)))) (each e before)
      | inr after ↦ (let same : e ≡ n = omega (arith, less, after) in
          subst (λ (k : ℕ). P k (slice_index_or (xs ++ x ∷ []) k d)) (long ∙ sym same)
          (subst (λ (y : X). P (length xs) y) (sym (get_or-append_seam xs x [] d)) (subst (λ (k : ℕ). P k x) (sym long) here)))
    ]
