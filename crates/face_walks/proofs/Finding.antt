-- Walks that are found one after another, from the half-edge with the least directed piece on.
use Rattle.std.proofs.Common.{◌≡◌, ◌⊎◌, inl, inr, ℕ, ◌+◌, ◌<◌, ◌≤◌, List, [], ◌∷◌, ◌++◌, Bool, true, false, length, replicate, refl, sym, ap, subst, ◌∙◌, arith}
use Rattle.std.specs.Prelude.{Contains, slice_index}
use Rattle.std.specs.Ordering.{nat_cmp}
use Rattle.std.specs.declared.cmp.Ordering.{Ordering}
use Rattle.std.specs.declared.cmp.Ordering.TheVariants.{Less, Equal, Greater}
use Rattle.std.proofs.lemmas.Cmp.{ranked}
use Rattle.std.proofs.lemmas.List.{get_or_append_left, get_or_default, get_or_push, get_or-replicate, get_or_past, length-append, length-replicate}
use Rattle.plane.proofs.Order.{both_equal}
use Rattle.scaled_plane.specs.declared.drawing.Face.{Face}
use Rattle.half_edges.specs.Halves.{Halves, IsArena, count, next_of}
use Rattle.face_walks.specs.Found.{AreCycles, IsFrom, IsOnCycle, corners_in}
use Rattle.face_walks.specs.Linked.{piece_at}
use Rattle.face_walks.specs.Orders.{AreInOrder, IsWalkFound, corners_of, half_in, piece_order}
use Rattle.face_walks.specs.Searches.{is_seen}
use Rattle.face_walks.proofs.CycleLists.{in_seen}
use Rattle.face_walks.proofs.CycleWalks.{cycle_closed, cycle_unseen, cycle_within}

abbrev Entry : Type 0
Entry = (ℕ × ℕ) × ℕ

cmp_same : (x y : ℕ) → nat_cmp x y ≡ Equal → x ≡ y
cmp_same x y e = ranked x y Equal (sym e)

pub equal_pieces : (p q : ℕ × ℕ) → piece_order p q ≡ Equal → p ≡ q
equal_pieces p q e =
    let both = both_equal (nat_cmp p.0 q.0) (nat_cmp p.1 q.1) e in
    let first : p.0 ≡ q.0 = cmp_same p.0 q.0 both.0 in
    let second : p.1 ≡ q.1 = cmp_same p.1 q.1 both.1 in
    λ i. (first i, second i)

pub less_by : (p q : ℕ × ℕ) (o : Ordering) → piece_order p q ≡ o → ¬ (o ≡ Greater) → ¬ (p ≡ q) → piece_order p q ≡ Less
less_by p q Less e n m = e
less_by p q Equal e n m = absurd (m (equal_pieces p q e))
less_by p q Greater e n m = absurd (n refl)

module _ (arena : Halves (ℕ × ℕ)) (order : List Entry) (outside : ℕ) where
  abbrev piece : ℕ → ℕ × ℕ
  piece h = piece_at arena h

  -- the walks of the first n half-edges are found
  pub record AreFound (n : ℕ) (faces : List Face) (outer : Face) (seen : List Bool) : Type 0 where
    pub as_many : length seen ≡ count arena
    pub closed : (h : ℕ) → h < count arena → is_seen seen h ≡ true → is_seen seen (next_of arena h) ≡ true
    pub done : (k : ℕ) → k < n → k < length order → is_seen seen (half_in order k) ≡ true
    pub begins : List ℕ
    pub long : length begins ≡ length faces
    pub face : (k : ℕ) → k < length faces → (cycle : List ℕ) × IsFrom arena (corners_in faces k) (slice_index begins k) cycle × ¬ Contains cycle outside
    pub sorted : (j k : ℕ) → j < k → k < length faces → piece_order (piece (slice_index begins j)) (piece (slice_index begins k)) ≡ Less
    pub earlier : (k : ℕ) → k < length faces → (is_seen seen (slice_index begins k) ≡ true) × ((m : ℕ) × (m < n) × (m < length order) × (half_in order m ≡ slice_index begins k))
    pub every : (h : ℕ) → is_seen seen h ≡ true
        → ((is_seen seen outside ≡ true) × IsOnCycle arena outer.corners h) ⊎ ((k : ℕ) × (k < length faces) × IsOnCycle arena (corners_in faces k) h)
    pub outer_is : is_seen seen outside ≡ true → IsOnCycle arena outer.corners outside

  pub none_found : (outer : Face) → AreFound 0 [] outer (replicate (count arena) false)
  none_found outer = record {
    as_many = length-replicate (count arena) false;
    closed = λ h l s. absurd (not h s);
    done = λ k l. absurd (omega (arith, l));
    begins = [];
    long = refl;
    face = λ k l. absurd (omega (arith, l));
    sorted = λ j k a b. absurd (omega (arith, b));
    earlier = λ k l. absurd (omega (arith, l));
    every = λ h s. absurd (not h s);
    outer_is = λ s. absurd (not outside s);
  }
    where
      by : (h : ℕ) → (h < count arena) ⊎ (count arena ≤ h) → is_seen (replicate (count arena) false) h ≡ false
      by h (inl l) = get_or-replicate (count arena) h false false l
      by h (inr l) = get_or_past (replicate (count arena) false) h false (omega (arith, l, length-replicate (count arena) false))

      lt_or : (a b : ℕ) → (a < b) ⊎ (b ≤ a)
      lt_or a b = grind arith

      not : (h : ℕ) → ¬ (is_seen (replicate (count arena) false) h ≡ true)
      not h s = let no : true ≡ false = sym s ∙ by h (lt_or h (count arena)) in cc

  below_or : (k n : ℕ) → k < n + 1 → (k < n) ⊎ (k ≡ n)
  below_or k n l = grind arith

  module _ (n : ℕ) (faces : List Face) (outer : Face) (seen : List Bool) (f : AreFound n faces outer seen) where
    -- a half-edge that is on a walk already
    pub passed : is_seen seen (half_in order n) ≡ true → AreFound (n + 1) faces outer seen
    passed s = record {
      as_many = f.as_many;
      closed = f.closed;
      done = λ k l m. elim (below_or k n l) [
        | inl b ↦ f.done k b m
        | inr e ↦ subst (λ (i : ℕ). is_seen seen (half_in order i) ≡ true) (sym e) s
      ];
      begins = f.begins;
      long = f.long;
      face = f.face;
      sorted = f.sorted;
      earlier = λ k l. let old = f.earlier k l in (old.0, (old.1.0, (let m = old.1.1 in omega arith), old.1.2, old.1.3));
      every = f.every;
      outer_is = f.outer_is;
    }

    module _ (is : IsArena arena) (ordered : AreInOrder arena order) (inside : n < length order) (new : ¬ (is_seen seen (half_in order n) ≡ true))
        (once : (g h : ℕ) → g < count arena → h < count arena → piece_at arena g ≡ piece_at arena h → g ≡ h)
        (faces' : List Face) (outer' : Face) (seen' : List Bool) (w : IsWalkFound arena (half_in order n) outside faces outer seen faces' outer' seen') where
      half : ℕ
      half = half_in order n

      below : half_in order n < count arena
      below = ordered.in_range n inside

      unseen : (x : ℕ) → Contains w.cycle x → ¬ (is_seen seen x ≡ true)
      unseen = cycle_unseen arena is seen f.closed (half_in order n) w.cycle below w.is new

      within : (x : ℕ) → is_seen seen x ≡ true → x < count arena
      within x s = subst (λ (m : ℕ). x < m) f.as_many (in_seen seen x s)

      -- none of the cycle stands before the half-edge, since those before it are seen
      not_before : (g : ℕ) → Contains w.cycle g → g < count arena → ¬ (piece_order (piece_at arena (half_in order n)) (piece_at arena g) ≡ Greater)
      not_before g i l =
          let at = ordered.every g l in
          elim (lt_or at.0 n) [
            | inl before ↦ absurd (unseen g i (subst (λ (x : ℕ). is_seen seen x ≡ true) at.2 (f.done at.0 before at.1)))
            | inr behind ↦ subst (λ (x : ℕ). ¬ (piece_order (piece_at arena (half_in order n)) (piece_at arena x) ≡ Greater)) at.2 (ordered.sorted n at.0 behind at.1)
          ]
        where
          lt_or : (a b : ℕ) → (a < b) ⊎ (b ≤ a)
          lt_or a b = grind arith

      from_here : (corners : List ℕ) → corners ≡ corners_of arena w.cycle → IsFrom arena corners (half_in order n) w.cycle
      from_here corners e = record {
        in_range = below;
        is = w.is;
        corners_are = e;
        least = λ g i. not_before g i (cycle_within arena is (half_in order n) w.cycle below w.is g i);
      }

      itself : Contains w.cycle (half_in order n)
      itself = (0, w.is.some, get_or_default w.cycle 0 (half_in order n) 0 w.is.some ∙ w.is.first)

      closed' : (h : ℕ) → h < count arena → is_seen seen' h ≡ true → is_seen seen' (next_of arena h) ≡ true
      closed' h l s = elim (w.marks.only h s) [
        | inl o ↦ w.marks.kept (next_of arena h) (f.closed h l o)
        | inr i ↦ w.marks.marked (next_of arena h) (cycle_closed arena is (half_in order n) w.cycle w.is h i)
      ]

      done' : (k : ℕ) → k < n + 1 → k < length order → is_seen seen' (half_in order k) ≡ true
      done' k l m = elim (below_or k n l) [
        | inl b ↦ w.marks.kept (half_in order k) (f.done k b m)
        | inr e ↦ subst (λ (i : ℕ). is_seen seen' (half_in order i) ≡ true) (sym e) (w.marks.marked (half_in order n) itself)
      ]

      earlier' : (k : ℕ) → k < length faces
          → (is_seen seen' (slice_index f.begins k) ≡ true) × ((m : ℕ) × (m < n + 1) × (m < length order) × (half_in order m ≡ slice_index f.begins k))
      earlier' k l = let old = f.earlier k l in (w.marks.kept (slice_index f.begins k) old.0, (old.1.0, (let m = old.1.1 in omega arith), old.1.2, old.1.3))

      as_outer : Contains w.cycle outside → outer'.corners ≡ corners_of arena w.cycle → faces' ≡ faces → AreFound (n + 1) faces' outer' seen'
      as_outer has corners same = subst (λ (fs : List Face). AreFound (n + 1) fs outer' seen') (sym same) (record {
        as_many = w.marks.as_many ∙ f.as_many;
        closed = closed';
        done = done';
        begins = f.begins;
        long = f.long;
        face = f.face;
        sorted = f.sorted;
        earlier = earlier';
        every = λ h s. elim (w.marks.only h s) [
          | inl o ↦ elim (f.every h o) [
            | inl b ↦ absurd (unseen outside has b.0)
            | inr b ↦ inr b
          ]
          | inr i ↦ inl (w.marks.marked outside has, (half_in order n, w.cycle, from_here outer'.corners corners, i))
        ];
        outer_is = λ s. (half_in order n, w.cycle, from_here outer'.corners corners, has);
      })

      -- ---- one more face

      abbrev added_face : Face
      added_face = record { corners = corners_of arena w.cycle }

      abbrev grown : List Face
      grown = faces ++ added_face ∷ []

      abbrev begins' : List ℕ
      begins' = f.begins ++ half_in order n ∷ []

      longer : length grown ≡ length faces + 1
      longer = length-append faces (added_face ∷ [])

      old_face : (k : ℕ) → k < length faces → corners_in grown k ≡ corners_in faces k
      old_face k l = ap (λ (x : Face). x.corners) (get_or_append_left faces (added_face ∷ []) (record { corners = [] }) k l)

      new_face : corners_in grown (length faces) ≡ corners_of arena w.cycle
      new_face = ap (λ (x : Face). x.corners) (get_or_push faces added_face (record { corners = [] }) (length faces) refl)

      old_begin : (k : ℕ) → k < length faces → slice_index begins' k ≡ slice_index f.begins k
      old_begin k l = get_or_append_left f.begins (half_in order n ∷ []) 0 k (subst (λ (m : ℕ). k < m) (sym f.long) l)

      new_begin : slice_index begins' (length faces) ≡ half_in order n
      new_begin = get_or_push f.begins (half_in order n) 0 (length faces) f.long

      last_sorted : (j : ℕ) → j < length faces → piece_order (piece_at arena (slice_index f.begins j)) (piece_at arena (half_in order n)) ≡ Less
      last_sorted j l =
          let old = f.earlier j l in
          let not : ¬ (piece_order (piece_at arena (slice_index f.begins j)) (piece_at arena (half_in order n)) ≡ Greater)
          = subst (λ (x : ℕ). ¬ (piece_order (piece_at arena x) (piece_at arena (half_in order n)) ≡ Greater)) old.1.3
          (ordered.sorted old.1.0 n (let m = old.1.1 in omega arith) inside) in
          less_by (piece_at arena (slice_index f.begins j)) (piece_at arena (half_in order n))
          (piece_order (piece_at arena (slice_index f.begins j)) (piece_at arena (half_in order n))) refl not
          (λ e. new (subst (λ (x : ℕ). is_seen seen x ≡ true) (once (slice_index f.begins j) (half_in order n) (within (slice_index f.begins j) old.0) below e) old.0))

      as_face : ¬ Contains w.cycle outside → outer' ≡ outer → faces' ≡ grown → AreFound (n + 1) faces' outer' seen'
      as_face lacks kept same = subst (λ (fs : List Face). AreFound (n + 1) fs outer' seen') (sym same)
          (subst (λ (o : Face). AreFound (n + 1) grown o seen') (sym kept) (record {
            as_many = w.marks.as_many ∙ f.as_many;
            closed = closed';
            done = done';
            begins = begins';
            long = length-append f.begins (half_in order n ∷ []) ∙ ap (λ (m : ℕ). m + 1) f.long ∙ sym longer;
            face = λ k l. elim (below_or k (length faces) (subst (λ (m : ℕ). k < m) longer l)) [
              | inl b ↦
                  let old = f.face k b in (
                    old.0,
                    subst (λ (cs : List ℕ). IsFrom arena cs (slice_index begins' k) old.0) (sym (old_face k b))
                        (subst (λ (x : ℕ). IsFrom arena (corners_in faces k) x old.0) (sym (old_begin k b)) old.1),
                    old.2,
                  )
              | inr e ↦ (
                w.cycle,
                subst (λ (i : ℕ). IsFrom arena (corners_in grown i) (slice_index begins' i) w.cycle) (sym e)
                    (subst (λ (x : ℕ). IsFrom arena (corners_in grown (length faces)) x w.cycle) (sym new_begin) (from_here (corners_in grown (length faces)) new_face)),
                lacks,
              )
            ];
            sorted = λ j k a b. elim (below_or k (length faces) (subst (λ (m : ℕ). k < m) longer b)) [
              | inl l ↦
                  let lj : j < length faces = omega arith in
                  subst (λ (x : ℕ). piece_order (piece_at arena x) (piece_at arena (slice_index begins' k)) ≡ Less) (sym (old_begin j lj))
                  (subst (λ (x : ℕ). piece_order (piece_at arena (slice_index f.begins j)) (piece_at arena x) ≡ Less) (sym (old_begin k l)) (f.sorted j k a l))
              | inr e ↦
                  let lj : j < length faces = omega arith in
                  subst (λ (x : ℕ). piece_order (piece_at arena x) (piece_at arena (slice_index begins' k)) ≡ Less) (sym (old_begin j lj))
                  (subst (λ (i : ℕ). piece_order (piece_at arena (slice_index f.begins j)) (piece_at arena (slice_index begins' i)) ≡ Less) (sym e)
                  (subst (λ (x : ℕ). piece_order (piece_at arena (slice_index f.begins j)) (piece_at arena x) ≡ Less) (sym new_begin) (last_sorted j lj)))
            ];
            earlier = λ k l. elim (below_or k (length faces) (subst (λ (m : ℕ). k < m) longer l)) [
              | inl b ↦ subst (λ (x : ℕ). (is_seen seen' x ≡ true) × ((m : ℕ) × (m < n + 1) × (m < length order) × (half_in order m ≡ x))) (sym (old_begin k b)) (earlier' k b)
              | inr e ↦ subst (λ (i : ℕ). (is_seen seen' (slice_index begins' i) ≡ true) × ((m : ℕ) × (m < n + 1) × (m < length order) × (half_in order m ≡ slice_index begins' i))) (sym e)
                  (subst (λ (x : ℕ). (is_seen seen' x ≡ true) × ((m : ℕ) × (m < n + 1) × (m < length order) × (half_in order m ≡ x))) (sym new_begin)
                  (w.marks.marked (half_in order n) itself, (n, omega arith, inside, refl)))
            ];
            every = λ h s. elim (w.marks.only h s) [
              | inl o ↦ elim (f.every h o) [
                | inl b ↦ inl (w.marks.kept outside b.0, b.1)
                | inr b ↦ inr (b.0, omega (arith, b.1, longer), subst (λ (cs : List ℕ). IsOnCycle arena cs h) (sym (old_face b.0 b.1)) b.2)
              ]
              | inr i ↦ inr (length faces, omega (arith, longer), (half_in order n, w.cycle, from_here (corners_in grown (length faces)) new_face, i))
            ];
            outer_is = λ s. elim (w.marks.only outside s) [
              | inl o ↦ f.outer_is o
              | inr i ↦ absurd (lacks i)
            ];
          }))

      pub walk_added : AreFound (n + 1) faces' outer' seen'
      walk_added = elim w.added [
        | inl a ↦ as_outer a.0 a.1 a.2
        | inr a ↦ as_face a.0 a.1 a.2
      ]

  pub all_found : (n : ℕ) (faces : List Face) (outer : Face) (seen : List Bool) → AreFound n faces outer seen → AreInOrder arena order → length order ≤ n
      → outside < count arena → AreCycles arena outside faces outer.corners
  all_found n faces outer seen f ordered all below = record {
    begins = f.begins;
    face = f.face;
    sorted = f.sorted;
    every = λ h l. elim (f.every h (seen_all h l)) [ inl b ↦ inl b.1 | inr b ↦ inr b ];
    outer_is = f.outer_is (seen_all outside below);
  }
    where
      seen_all : (h : ℕ) → h < count arena → is_seen seen h ≡ true
      seen_all h l =
          let at = ordered.every h l in
          subst (λ (x : ℕ). is_seen seen x ≡ true) at.2 (f.done at.0 (omega (arith, at.1, all)) at.1)
