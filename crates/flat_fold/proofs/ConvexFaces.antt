-- The faces of a sheet are convex: no corner lies to the right of a directed piece, and not all lie on its line, since a face all
-- of whose corners are on one line turns back at the outermost.
use Rattle.std.proofs.Common.{◌≡◌, ◌∙◌, ap, sym, refl, subst, ℕ, ℤ, zero, suc, pos, List, [], ◌∷◌, ◌++◌, ◌<◌, ◌≤◌, ◌+◌, length, map, Some, Bool, true, false, inl, inr, ◌⊎◌, arith, add-one}
use Rattle.std.specs.Prelude.{slice_index_or, IsTrue}
use Rattle.std.specs.List.{Contains}
use Rattle.std.specs.Ordering.{ordering_reverse, ordering_then}
use Rattle.std.specs.declared.cmp.Ordering.{Ordering}
use Rattle.std.specs.declared.cmp.Ordering.TheVariants.{Less, Equal, Greater}
use Rattle.std.proofs.lemmas.Bool.{cases_lt}
use Rattle.std.proofs.lemmas.List.{append-nil, append_assoc, get_or_default, length-append}
use Rattle.std.proofs.lemmas.Option.{get_or_from_slice_get, slice_get_within}
use Rattle.std.proofs.Math.Seq.{get_or-append_seam}
use Rattle.algebra.specs.LowestTerms.{Parts}
use Rattle.algebra.specs.OrderedRing.{OrderedRing}
use Rattle.algebra.specs.Surd.{Surd}
use Rattle.algebra.specs.WholeSurds.{SurdNumbers}
use Rattle.algebra.proofs.Solvers.{at_zero, given, known, negated, negative, no_sign, positive, product, reads, ring, sign_from, sign_from_multiple, square, sum, unknown, variable}
use Rattle.layers.specs.Folded.{IsConvex}
use Rattle.layers.specs.Pieces.{Piece as PointPiece, pieces_on_to as point_pieces_on_to, pieces_round as point_pieces_round}
use Rattle.plane.specs.declared.point.Point.{Point}
use Rattle.plane.specs.Directions.{Differ, Direction, along as along_of, direction, turn}
use Rattle.plane.specs.Lines.{determinant, side}
use Rattle.plane.specs.Points.{IsPoint, point_order, x_from, y_from}
use Rattle.plane.proofs.Along.{in_line}
use Rattle.plane.proofs.First.{same_or_not}
use Rattle.plane.proofs.Members.{in_cons, in_head, in_nil, in_tail}
use Rattle.plane.proofs.Order.{equal_of_same, order_chain, order_turned, same_of_equal, x_turned, y_turned}
use Rattle.regions.proofs.Following.{turn_side}
use Rattle.regions.proofs.Leftmost.{neighbours_differ}
use Rattle.regions.proofs.Outer.{other_end}
use Rattle.scaled_plane.specs.declared.drawing.Edge.{Edge}
use Rattle.scaled_plane.specs.declared.drawing.Ends.{Ends}
use Rattle.scaled_plane.specs.declared.drawing.Face.{Face}
use Rattle.scaled_plane.specs.declared.sheet.SheetFlaw.TheVariants.{NotConvex, SameVertex}
use Rattle.scaled_plane.specs.Pieces.{point_at}
use Rattle.scaled_plane.specs.Sheets.{IsBentAt}
use Rattle.scaled_plane.specs.Walks.{IsDirectedPiece, IsWalk, pieces_on_to, pieces_round}
use Rattle.scaled_plane.proofs.After.{piece_back}
use Rattle.flat_fold.specs.Faces.{corners_at}
use Rattle.flat_fold.specs.Sheets.{FormSheet, unfolded_face}
use Rattle.flat_fold.proofs.EdgePlaces.{side-corners}
use Rattle.flat_fold.proofs.FewCorners.{walk-directed}
use Rattle.flat_fold.proofs.SheetLaws.{corners-in_range, face-has, face-walk, long, two-corners}
use Rattle.flat_fold.proofs.SheetPlane.{sheet-plane, vertex-point, vertices-apart}
use Rattle.flat_fold.proofs.SideLaws.{length-pieces, piece-comes_back, piece-goes_on}

-- ---- corners before and after a corner

-- c stands behind a, and b is the corner before it
pub record Turns (cs : List ℕ) (b c : ℕ) : Type 0 where
  pub before : List ℕ
  pub after : List ℕ
  pub others : List ℕ
  pub is : cs ≡ before ++ c ∷ after
  pub ends_in_b : after ++ before ≡ others ++ b ∷ []

turns_on : (pre : List ℕ) (first u : ℕ) (rest : List ℕ) (b c : ℕ) → ((pre ≡ []) × (first ≡ u) × ((v : ℕ) × (rs : List ℕ) × (rest ≡ v ∷ rs))) ⊎ ((front : List ℕ) × (pre ≡ first ∷ front))
    → Contains (pieces_on_to first (u ∷ rest)) (b, c) → Turns (pre ++ u ∷ rest) b c
turns_on pre first u [] b c (inl h) i = absurd (let no : [] ≡ h.2.0 ∷ h.2.1 = h.2.2 in cc)
turns_on pre first u [] b c (inr h) i = elim (in_cons (u, first) [] (b, c) i) [
  | inl e ↦ record {
    before = [];
    after = h.0 ++ u ∷ [];
    others = h.0;
    is = ap (λ (xs : List ℕ). xs ++ u ∷ []) h.1 ∙ ap (λ (x : ℕ). x ∷ (h.0 ++ u ∷ [])) (ap (λ (p : ℕ × ℕ). p.1) e);
    ends_in_b = append-nil (h.0 ++ u ∷ []) ∙ ap (λ (x : ℕ). h.0 ++ x ∷ []) (ap (λ (p : ℕ × ℕ). p.0) e);
  }
  | inr none ↦ absurd (in_nil (b, c) none)
]
turns_on pre first u (v ∷ rs) b c h i = elim (in_cons (u, v) (pieces_on_to first (v ∷ rs)) (b, c) i) [
  | inl e ↦ record {
    before = pre ++ u ∷ [];
    after = rs;
    others = rs ++ pre;
    is = sym (append_assoc pre (u ∷ []) (v ∷ rs)) ∙ ap (λ (x : ℕ). (pre ++ u ∷ []) ++ x ∷ rs) (ap (λ (p : ℕ × ℕ). p.1) e);
    ends_in_b = sym (append_assoc rs pre (u ∷ [])) ∙ ap (λ (x : ℕ). (rs ++ pre) ++ x ∷ []) (ap (λ (p : ℕ × ℕ). p.0) e);
  }
  | inr j ↦ subst (λ (xs : List ℕ). Turns xs b c) (append_assoc pre (u ∷ []) (v ∷ rs)) (turns_on (pre ++ u ∷ []) first v rs b c (inr (longer h)) j)
]
  where
    longer : ((pre ≡ []) × (first ≡ u) × ((w : ℕ) × (ws : List ℕ) × (v ∷ rs ≡ w ∷ ws))) ⊎ ((front : List ℕ) × (pre ≡ first ∷ front)) → (front : List ℕ) × (pre ++ u ∷ [] ≡ first ∷ front)
    longer (inl k) = ([], ap (λ (xs : List ℕ). xs ++ u ∷ []) k.0 ∙ ap (λ (x : ℕ). x ∷ []) (sym k.1))
    longer (inr k) = (k.0 ++ u ∷ [], ap (λ (xs : List ℕ). xs ++ u ∷ []) k.1)

turns_at : (cs : List ℕ) (b c : ℕ) → ((u v : ℕ) × (rest : List ℕ) × (cs ≡ u ∷ v ∷ rest)) → Contains (pieces_round cs) (b, c) → Turns cs b c
turns_at cs b c two i =
    subst (λ (xs : List ℕ). Turns xs b c) (sym two.3)
    (turns_on [] two.0 two.0 (two.1 ∷ two.2) b c (inl (refl, refl, (two.1, two.2, refl))) (subst (λ (xs : List ℕ). Contains (pieces_round xs) (b, c)) two.3 i))

-- a piece ends at each corner
piece_before : (cs : List ℕ) (i d : ℕ) → i < length cs → (b : ℕ) × Contains (pieces_round cs) (b, slice_index_or cs i d)
piece_before [] i d l = absurd (omega (arith, l))
piece_before (u ∷ rest) zero d l =
    let is = piece-comes_back (u ∷ rest) (length rest) d d (omega arith) (omega arith) in
    let p : ℕ × ℕ = (slice_index_or (u ∷ rest) (length rest) d, u) in
    (p.0, (length rest, slice_get_within (pieces_round (u ∷ rest)) (length rest) p is, get_or_from_slice_get (pieces_round (u ∷ rest)) (length rest) p p is))
piece_before (u ∷ rest) (suc j) d l =
    let is = piece-goes_on (u ∷ rest) j d d (omega (arith, l)) in
    let p : ℕ × ℕ = (slice_index_or (u ∷ rest) j d, slice_index_or (u ∷ rest) (j + 1) d) in (
      p.0,
      subst (λ (k : ℕ). Contains (pieces_round (u ∷ rest)) (p.0, slice_index_or (u ∷ rest) k d)) (add-one j)
          (j, slice_get_within (pieces_round (u ∷ rest)) j p is, get_or_from_slice_get (pieces_round (u ∷ rest)) j p p is),
    )

-- and one begins there, which leads to the next
piece_after : (a rest : List ℕ) (c d : ℕ) (to_d : List ℕ) → rest ++ a ≡ d ∷ to_d → Contains (pieces_round (a ++ c ∷ rest)) (c, d)
piece_after a [] c d to_d e =
    let cs : List ℕ = a ++ c ∷ [] in
    let long : length cs ≡ length a + 1 = length-append a (c ∷ []) in
    let is = piece-comes_back cs (length a) 0 0 (omega (arith, long)) (omega (arith, long)) in
    let at : slice_index_or cs (length a) 0 ≡ c = get_or-append_seam a c [] 0 in
    let first : slice_index_or cs 0 0 ≡ d = ap (λ (xs : List ℕ). slice_index_or (xs ++ c ∷ []) 0 0) e in
    let p : ℕ × ℕ = (slice_index_or cs (length a) 0, slice_index_or cs 0 0) in
    subst (λ (q : ℕ × ℕ). Contains (pieces_round cs) q) (λ i. (at i, first i)) (length a, slice_get_within (pieces_round cs) (length a) p is, get_or_from_slice_get (pieces_round cs) (length a) p p is)
piece_after a (x ∷ rest) c d to_d e =
    let cs : List ℕ = a ++ c ∷ x ∷ rest in
    let long : length cs ≡ length a + length (c ∷ x ∷ rest) = length-append a (c ∷ x ∷ rest) in
    let is = piece-goes_on cs (length a) 0 0 (omega (arith, long)) in
    let at : slice_index_or cs (length a) 0 ≡ c = get_or-append_seam a c (x ∷ rest) 0 in
    let longer : length (a ++ c ∷ []) ≡ length a + 1 = length-append a (c ∷ []) in
    let next : slice_index_or cs (length a + 1) 0 ≡ x
    = ap (λ (xs : List ℕ). slice_index_or xs (length a + 1) 0) (sym (append_assoc a (c ∷ []) (x ∷ rest))) ∙ ap (λ (k : ℕ). slice_index_or ((a ++ c ∷ []) ++ x ∷ rest) k 0) (sym longer)
    ∙ get_or-append_seam (a ++ c ∷ []) x rest 0 in
    let same : x ≡ d = head_of e in
    let p : ℕ × ℕ = (slice_index_or cs (length a) 0, slice_index_or cs (length a + 1) 0) in
    let second : slice_index_or cs (length a + 1) 0 ≡ d = next ∙ same in
    subst (λ (q : ℕ × ℕ). Contains (pieces_round cs) q) (λ i. (at i, second i)) (length a, slice_get_within (pieces_round cs) (length a) p is, get_or_from_slice_get (pieces_round cs) (length a) p p is)
  where
    head_of : {m n : ℕ} {xs ys : List ℕ} → m ∷ xs ≡ n ∷ ys → m ≡ n
    head_of k = cc

begins_with : (others : List ℕ) (b : ℕ) → (d : ℕ) × (to_d : List ℕ) × (others ++ b ∷ [] ≡ d ∷ to_d)
begins_with [] b = (b, [], refl)
begins_with (d ∷ rest) b = (d, rest ++ b ∷ [], refl)

-- ---- two ways that both lead ahead

module _ {A : Type 0} (K : OrderedRing A) where
  abbrev LeadsAhead : Direction A → Type 0
  LeadsAhead d = (K.sign d.x ≡ Greater) ⊎ ((K.sign d.x ≡ Equal) × (K.sign d.y ≡ Greater))

  reversed_less : (o : Ordering) → ordering_reverse o ≡ Less → o ≡ Greater
  reversed_less Less e = absurd (cc)
  reversed_less Equal e = absurd (cc)
  reversed_less Greater e = refl

  ahead_by : (p q : Point A) (o u : Ordering) → K.sign (x_from K.ops q p) ≡ o → K.sign (y_from K.ops q p) ≡ u → ordering_then o u ≡ Less → LeadsAhead (direction K.ops p q)
  ahead_by p q Less u ho hu h = inl (x_turned K p q ∙ ap ordering_reverse ho)
  ahead_by p q Equal Less ho hu h = inr (x_turned K p q ∙ ap ordering_reverse ho, y_turned K p q ∙ ap ordering_reverse hu)
  ahead_by p q Equal Equal ho hu h = absurd (cc)
  ahead_by p q Equal Greater ho hu h = absurd (cc)
  ahead_by p q Greater u ho hu h = absurd (cc)

  leads_ahead : (p q : Point A) → point_order K p q ≡ Less → LeadsAhead (direction K.ops p q)
  leads_ahead p q h = ahead_by p q (K.sign (x_from K.ops q p)) (K.sign (y_from K.ops q p)) refl refl h

  -- where they are parallel they lead the same way
  not_opposite : (d e : Direction A) → LeadsAhead d → LeadsAhead e → K.sign (turn K.ops d e) ≡ Equal → ¬ (K.sign (along_of K.ops d e) ≡ Less)
  not_opposite d e (inl a) (inl b) level h =
      let same : K.sign (along_of K.ops d e) ≡ Greater
      = sign_from_multiple K (d.x ∷ d.y ∷ e.x ∷ e.y ∷ [])
      (known positive (search reads depth 40 fits 50000) a (known positive (search reads depth 40 fits 50000) b (known at_zero (search reads depth 40 fits 50000) level no_sign)))
      positive (search reads depth 40 fits 50000) a (search reads depth 40 fits 50000)
      (sum (product (product (given 0) (given 0)) (given 1)) (sum (product (square (unknown (variable 1))) (given 1)) (product (unknown (variable 1)) (given 2)))) tt tt in
      let no : Less ≡ Greater = sym h ∙ same in cc
  not_opposite d e (inl a) (inr b) level h =
      let off : K.sign (turn K.ops d e) ≡ Greater
      = sign_from K (d.x ∷ d.y ∷ e.x ∷ e.y ∷ [])
      (known positive (search reads depth 40 fits 50000) a (known at_zero (search reads depth 40 fits 50000) b.0 (known positive (search reads depth 40 fits 50000) b.1 no_sign)))
      positive (search reads depth 40 fits 50000) (sum (product (given 0) (given 2)) (negated (product (unknown (variable 1)) (given 1)))) tt tt in
      let no : Equal ≡ Greater = sym level ∙ off in cc
  not_opposite d e (inr a) (inl b) level h =
      let off : K.sign (turn K.ops d e) ≡ Less
      = sign_from K (d.x ∷ d.y ∷ e.x ∷ e.y ∷ [])
      (known at_zero (search reads depth 40 fits 50000) a.0 (known positive (search reads depth 40 fits 50000) a.1 (known positive (search reads depth 40 fits 50000) b no_sign)))
      negative (search reads depth 40 fits 50000) (sum (product (given 0) (unknown (variable 3))) (negated (product (given 1) (given 2)))) tt tt in
      let no : Equal ≡ Less = sym level ∙ off in cc
  not_opposite d e (inr a) (inr b) level h =
      let same : K.sign (along_of K.ops d e) ≡ Greater
      = sign_from K (d.x ∷ d.y ∷ e.x ∷ e.y ∷ [])
      (known at_zero (search reads depth 40 fits 50000) a.0 (known positive (search reads depth 40 fits 50000) a.1 (known positive (search reads depth 40 fits 50000) b.1 no_sign)))
      positive (search reads depth 40 fits 50000) (sum (product (given 0) (unknown (variable 2))) (product (given 1) (given 2))) tt tt in
      let no : Less ≡ Greater = sym h ∙ same in cc

  -- the sides of a line run the other way
  side_back : (a b p : Point A) → side K a b p ≡ Equal → side K b a p ≡ Equal
  side_back a b p h =
      sign_from K (a.x ∷ a.y ∷ a.w ∷ b.x ∷ b.y ∷ b.w ∷ p.x ∷ p.y ∷ p.w ∷ []) (known at_zero (search reads depth 40 fits 50000) h no_sign) at_zero (search reads depth 40 fits 50000) (negated (given 0)) tt tt

-- ---- corners as points

points_on_to : {A : Type 0} (P : ℕ → Point A) (first : ℕ) (cs : List ℕ)
    → point_pieces_on_to (P first) (map P cs) ≡ map (λ (p : ℕ × ℕ). record { from = P p.0; to = P p.1 }) (pieces_on_to first cs)
points_on_to P first [] = refl
points_on_to P first (u ∷ []) = refl
points_on_to P first (u ∷ (v ∷ rest)) = ap (λ (xs : List (PointPiece _)). record { from = P u; to = P v } ∷ xs) (points_on_to P first (v ∷ rest))

pub points_round : {A : Type 0} (P : ℕ → Point A) (cs : List ℕ) → point_pieces_round (map P cs) ≡ map (λ (p : ℕ × ℕ). record { from = P p.0; to = P p.1 }) (pieces_round cs)
points_round P [] = refl
points_round P (u ∷ rest) = points_on_to P u (u ∷ rest)

pub in_map : {X Y : Type 0} (f : X → Y) (xs : List X) (y : Y) → Contains (map f xs) y → (x : X) × Contains xs x × (f x ≡ y)
in_map f [] y i = absurd (in_nil y i)
in_map f (x ∷ xs) y i = elim (in_cons (f x) (map f xs) y i) [
  | inl e ↦ (x, in_head x xs, e)
  | inr j ↦ (let r = in_map f xs y j in (r.0, in_tail x xs r.0 r.1, r.2))
]

pub map_in : {X Y : Type 0} (f : X → Y) (xs : List X) (x : X) → Contains xs x → Contains (map f xs) (f x)
map_in f [] x i = absurd (in_nil x i)
map_in {Y} f (y ∷ xs) x i = elim (in_cons y xs x i) [
  | inl e ↦ subst (λ (z : Y). Contains (f y ∷ map f xs) z) (ap f e) (in_head (f y) (map f xs))
  | inr j ↦ in_tail (f y) (map f xs) (f x) (map_in f xs x j)
]

module _ {N : Type 0} {parts : N → Parts} {W : Type 0} {k : ℕ} {surd : W → Surd ℤ} {numbers : SurdNumbers k surd} (ends : Ends N) (faces : List Face)
    (h : FormSheet parts numbers ends faces) (f : ℕ) (f_in : f < length faces) where
  abbrev K : OrderedRing W
  K = numbers.ring

  abbrev edges : List Edge
  edges = ends.edges

  abbrev vertices : List (Point W)
  vertices = h.scaled.points

  abbrev P : ℕ → Point W
  P v = point_at K vertices v

  abbrev cs : List ℕ
  cs = corners_at faces f

  -- ---- no corner is bent

  bent_below : (n : ℕ) (before : List ℕ) (c : ℕ) (after : List ℕ) → length before < n → ¬ IsBentAt K vertices cs before c after
  bent_below zero before c after l b = omega (arith, l)
  bent_below (suc n) before c after l b =
      h.sheet (NotConvex f c) (cs, face-has faces f f_in, (before, after, b, λ sooner later z m. bent_below n sooner z later (omega (arith, l, m))))

  not_bent : (before : List ℕ) (c : ℕ) (after : List ℕ) → ¬ IsBentAt K vertices cs before c after
  not_bent before c after = bent_below (length before + 1) before c after (omega arith)

  corner-in : (z : ℕ) → Contains cs z → z < length vertices
  corner-in z i =
      let less : slice_index_or cs i.0 z < length ends.coords = corners-in_range ends faces h f i.0 z f_in i.1 in
      let many = long ends faces h in
      let same : slice_index_or cs i.0 z ≡ z = i.2 in
      omega (arith, less, many, same)

  -- some corner lies strictly at the left of each piece
  left_or_none : (b c : ℕ) (zs : List ℕ) → ((z : ℕ) × Contains zs z × (side K (P b) (P c) (P z) ≡ Greater)) ⊎ ((z : ℕ) → Contains zs z → ¬ (side K (P b) (P c) (P z) ≡ Greater))
  left_or_none b c [] = inr (λ z i e. in_nil z i)
  left_or_none b c (y ∷ zs) = at (side K (P b) (P c) (P y)) refl (left_or_none b c zs)
    where
      at : (o : Ordering) → side K (P b) (P c) (P y) ≡ o → ((z : ℕ) × Contains zs z × (side K (P b) (P c) (P z) ≡ Greater)) ⊎ ((z : ℕ) → Contains zs z → ¬ (side K (P b) (P c) (P z) ≡ Greater))
          → ((z : ℕ) × Contains (y ∷ zs) z × (side K (P b) (P c) (P z) ≡ Greater)) ⊎ ((z : ℕ) → Contains (y ∷ zs) z → ¬ (side K (P b) (P c) (P z) ≡ Greater))
      at Greater e r = inl (y, in_head y zs, e)
      at o e (inl r) = inl (r.0, in_tail y zs r.0 r.1, r.2)
      at Less e (inr n) = inr (λ z i g. elim (in_cons y zs z i) [
        | inl s ↦ (let no : Greater ≡ Less = sym g ∙ ap (λ (x : ℕ). side K (P b) (P c) (P x)) (sym s) ∙ e in cc)
        | inr j ↦ n z j g
      ])
      at Equal e (inr n) = inr (λ z i g. elim (in_cons y zs z i) [
        | inl s ↦ (let no : Greater ≡ Equal = sym g ∙ ap (λ (x : ℕ). side K (P b) (P c) (P x)) (sym s) ∙ e in cc)
        | inr j ↦ n z j g
      ])

  on_line : (o : Ordering) → ¬ (o ≡ Less) → ¬ (o ≡ Greater) → o ≡ Equal
  on_line Less a b = absurd (a refl)
  on_line Equal a b = refl
  on_line Greater a b = absurd (b refl)

  module _ (w : IsWalk K vertices edges cs) where
    turning : (b c : ℕ) → Contains (pieces_round cs) (b, c) → Turns cs b c
    turning b c i = turns_at cs b c (two-corners ends faces h cs w) i

    none_right : (b c z : ℕ) → Contains (pieces_round cs) (b, c) → Contains cs z → ¬ (side K (P b) (P c) (P z) ≡ Less)
    none_right b c z i j less =
        let t = turning b c i in
        let d = begins_with t.others b in
        not_bent t.before c t.after
        (record { is = t.is; b = b; d = d.0; others = t.others; to_d = d.1; ends_in_b = t.ends_in_b; begins_with_d = t.ends_in_b ∙ d.2; bent = inr (z, j, less) })

    directed : (b c : ℕ) → Contains (pieces_round cs) (b, c) → IsDirectedPiece edges b c
    directed b c i = walk-directed K vertices edges cs w b c i

    -- the least corner of some
    least : (c : ℕ) (rest : List ℕ) → ((z : ℕ) → Contains (c ∷ rest) z → Contains cs z) → (m : ℕ) × Contains (c ∷ rest) m × ((z : ℕ) → Contains (c ∷ rest) z → ¬ (point_order K (P z) (P m) ≡ Less))
    least c [] sub = (
      c,
      in_head c [],
      λ z i less. elim (in_cons c [] z i) [
        | inl e ↦ (let no : Less ≡ Equal = sym less ∙ ap (λ (x : ℕ). point_order K (P x) (P c)) (sym e) ∙ order_itself (P c) in cc)
        | inr none ↦ in_nil z none
      ],
    )
      where
        order_itself : (p : Point W) → point_order K p p ≡ Equal
        order_itself p = equal_of_same K p p (record { same_x = refl; same_y = refl })
    least c (d ∷ rest) sub =
        let r = least d rest (λ z i. sub z (in_tail c (d ∷ rest) z i)) in
        at r (point_order K (P c) (P r.0)) refl
      where
        order_itself : (p : Point W) → point_order K p p ≡ Equal
        order_itself p = equal_of_same K p p (record { same_x = refl; same_y = refl })

        at : (r : (m : ℕ) × Contains (d ∷ rest) m × ((z : ℕ) → Contains (d ∷ rest) z → ¬ (point_order K (P z) (P m) ≡ Less))) (o : Ordering) → point_order K (P c) (P r.0) ≡ o
            → (m : ℕ) × Contains (c ∷ d ∷ rest) m × ((z : ℕ) → Contains (c ∷ d ∷ rest) z → ¬ (point_order K (P z) (P m) ≡ Less))
        at r Less e = (
          c,
          in_head c (d ∷ rest),
          λ z i less. elim (in_cons c (d ∷ rest) z i) [
            | inl s ↦ (let no : Less ≡ Equal = sym less ∙ ap (λ (x : ℕ). point_order K (P x) (P c)) (sym s) ∙ order_itself (P c) in cc)
            | inr j ↦ r.2 z j (order_chain K (P z) (P c) (P r.0) (point z (sub z i)) (point c (sub c (in_head c (d ∷ rest)))) (point r.0 (sub r.0 (in_tail c (d ∷ rest) r.0 r.1))) less e)
          ],
        )
          where
            point : (x : ℕ) → Contains cs x → IsPoint K (P x)
            point x i = vertex-point ends faces h x (corner-in x i)
        at r Equal e = (
          r.0,
          in_tail c (d ∷ rest) r.0 r.1,
          λ z i less. elim (in_cons c (d ∷ rest) z i) [
            | inl s ↦ (let no : Less ≡ Equal = sym less ∙ ap (λ (x : ℕ). point_order K (P x) (P r.0)) (sym s) ∙ e in cc)
            | inr j ↦ r.2 z j less
          ],
        )
        at r Greater e = (
          r.0,
          in_tail c (d ∷ rest) r.0 r.1,
          λ z i less. elim (in_cons c (d ∷ rest) z i) [
            | inl s ↦ (let no : Less ≡ Greater = sym less ∙ ap (λ (x : ℕ). point_order K (P x) (P r.0)) (sym s) ∙ e in cc)
            | inr j ↦ r.2 z j less
          ],
        )

    -- a neighbour of the least corner stands behind it
    behind : (m x : ℕ) → m < length vertices → x < length vertices → ¬ (m ≡ x) → ¬ (point_order K (P x) (P m) ≡ Less) → point_order K (P m) (P x) ≡ Less
    behind m x in_m in_x other not_less = at (point_order K (P x) (P m)) refl
      where
        at : (o : Ordering) → point_order K (P x) (P m) ≡ o → point_order K (P m) (P x) ≡ Less
        at Less e = absurd (not_less e)
        at Equal e = absurd (vertices-apart ends faces h x m in_x in_m (λ s. other (sym s)) (same_of_equal K (P x) (P m) e))
        at Greater e = order_turned K (P x) (P m) ∙ ap ordering_reverse e

    -- the corners don't all lie on one line
    module _ (a b : Point W) (a_first : point_order K a b ≡ Less) (flat : (z : ℕ) → Contains cs z → side K a b (P z) ≡ Equal) where
      no_flat : ⊥
      no_flat =
          let two = two-corners ends faces h cs w in
          let all : (z : ℕ) → Contains (two.0 ∷ two.1 ∷ two.2) z → Contains cs z = λ z i. subst (λ (xs : List ℕ). Contains xs z) (sym two.3) i in
          let m = least two.0 (two.1 ∷ two.2) all in
          let here : Contains cs m.0 = all m.0 m.1 in
          let p = piece_before cs here.0 m.0 here.1 in
          let before : Contains (pieces_round cs) (p.0, m.0) = subst (λ (x : ℕ). Contains (pieces_round cs) (p.0, x)) here.2 p.1 in
          let t = turning p.0 m.0 before in
          let d = begins_with t.others p.0 in
          let after : Contains (pieces_round cs) (m.0, d.0) = subst (λ (xs : List ℕ). Contains (pieces_round xs) (m.0, d.0)) (sym t.is) (piece_after t.before t.after m.0 d.0 d.1 (t.ends_in_b ∙ d.2)) in
          elim (same_or_not p.0 d.0) [
            | inl same ↦ not_bent t.before m.0 t.after
                (record { is = t.is; b = p.0; d = d.0; others = t.others; to_d = d.1; ends_in_b = t.ends_in_b; begins_with_d = t.ends_in_b ∙ d.2; bent = inl same })
            | inr other ↦ apart m.0 p.0 d.0 m.2 here before after other
          ]
        where
          apart : (m x y : ℕ) → ((z : ℕ) → Contains ((two-corners ends faces h cs w).0 ∷ (two-corners ends faces h cs w).1 ∷ (two-corners ends faces h cs w).2) z → ¬ (point_order K (P z) (P m) ≡ Less))
              → Contains cs m → Contains (pieces_round cs) (x, m) → Contains (pieces_round cs) (m, y) → ¬ (x ≡ y) → ⊥
          apart m x y lowest here before after other =
              let two = two-corners ends faces h cs w in
              let x_in : Contains cs x = corner_first x m before in
              let y_in : Contains cs y = corner_second m y after in
              let low : (z : ℕ) → Contains cs z → ¬ (point_order K (P z) (P m) ≡ Less) = λ z i. lowest z (subst (λ (xs : List ℕ). Contains xs z) two.3 i) in
              let to_x = piece_back edges x m (directed x m before) in
              let to_y = directed m y after in
              let m_x : point_order K (P m) (P x) ≡ Less = behind m x (corner-in m here) (corner-in x x_in) (λ e. other_end K vertices edges (sheet-plane ends faces h) m x to_x (sym e)) (low x x_in) in
              let m_y : point_order K (P m) (P y) ≡ Less = behind m y (corner-in m here) (corner-in y y_in) (λ e. other_end K vertices edges (sheet-plane ends faces h) m y to_y (sym e)) (low y y_in) in
              let level : K.sign (turn K.ops (direction K.ops (P m) (P x)) (direction K.ops (P m) (P y))) ≡ Equal
              = turn_side K (P m) (P x) (P y) (vertex-point ends faces h m (corner-in m here)) ∙ in_line K a b (P m) (P x) (P y) a_first (flat m here) (flat x x_in) (flat y y_in) in
              not_opposite K (direction K.ops (P m) (P x)) (direction K.ops (P m) (P y)) (leads_ahead K (P m) (P x) m_x) (leads_ahead K (P m) (P y) m_y) level
              (neighbours_differ K vertices edges (sheet-plane ends faces h) m x y to_x to_y other level)
            where
              corner_first : (u v : ℕ) → Contains (pieces_round cs) (u, v) → Contains cs u
              corner_first u v i = (side-corners cs u v i).0

              corner_second : (u v : ℕ) → Contains (pieces_round cs) (u, v) → Contains cs v
              corner_second u v i = (side-corners cs u v i).1

    some_left : (b c : ℕ) → Contains (pieces_round cs) (b, c) → ((z : ℕ) → Contains cs z → ¬ (side K (P b) (P c) (P z) ≡ Greater)) → ⊥
    some_left b c i none = at (point_order K (P b) (P c)) refl
      where
        flat : (z : ℕ) → Contains cs z → side K (P b) (P c) (P z) ≡ Equal
        flat z j = on_line (side K (P b) (P c) (P z)) (none_right b c z i j) (none z j)

        at : (o : Ordering) → point_order K (P b) (P c) ≡ o → ⊥
        at Less e = no_flat (P b) (P c) e flat
        at Equal e = vertices-apart ends faces h b c (corner-in b (side-corners cs b c i).0) (corner-in c (side-corners cs b c i).1)
            (λ s. other_end K vertices edges (sheet-plane ends faces h) b c (directed b c i) (sym s)) (same_of_equal K (P b) (P c) e)
        at Greater e = no_flat (P c) (P b) (order_turned K (P b) (P c) ∙ ap ordering_reverse e) (λ z j. side_back K (P b) (P c) (P z) (flat z j))

  -- a piece between points is one between corners
  corner-piece : (s : PointPiece W) → Contains (point_pieces_round (map P cs)) s → (p : ℕ × ℕ) × Contains (pieces_round cs) p × (record { from = P p.0; to = P p.1 } ≡ s)
  corner-piece s i =
      in_map (λ (p : ℕ × ℕ). record { from = P p.0; to = P p.1 }) (pieces_round cs) s (subst (λ (xs : List (PointPiece W)). Contains xs s) (points_round P cs) i)

  pub convex-face : IsConvex K (unfolded_face K vertices cs)
  convex-face = record {
    points = λ v i. let z = in_map P cs v i in subst (λ (p : Point W). IsPoint K p) z.2 (vertex-point ends faces h z.0 (corner-in z.0 z.1));
    some_corner = elim (cases_lt 0 (length cs)) [
      | inl some ↦ (P (slice_index_or cs 0 0), map_in P cs (slice_index_or cs 0 0) (0, some, get_or_default cs 0 (slice_index_or cs 0 0) 0 some))
      | inr none ↦ absurd (face-walk ends faces h f f_in (λ w.
          let two = two-corners ends faces h cs w in
          let long : length cs ≡ length (two.0 ∷ two.1 ∷ two.2) = ap (λ (xs : List ℕ). length xs) two.3 in
          omega (arith, none, long)))
    ];
    none_outside = λ s v i j less.
        let p = corner-piece s i in
        let z = in_map P cs v j in
        face-walk ends faces h f f_in (λ w.
        none_right w p.0.0 p.0.1 z.0 p.1 z.1
        (subst (λ (q : Point W). side K (P p.0.0) (P p.0.1) q ≡ Less) (sym z.2) (subst (λ (t : PointPiece W). side K t.from t.to v ≡ Less) (sym p.2) less)));
    solid = λ s i.
        let p = corner-piece s i in
        elim (left_or_none p.0.0 p.0.1 cs) [
          | inl r ↦ (P r.0, map_in P cs r.0 r.1, subst (λ (t : PointPiece W). side K t.from t.to (P r.0) ≡ Greater) p.2 r.2)
          | inr none ↦ absurd (face-walk ends faces h f f_in (λ w. some_left w p.0.0 p.0.1 p.1 none))
        ];
  }
