-- Every region is at the left of some piece: the first one that a segment to the middle of a piece meets.
use Prim.Native.Nat.{ℕ}
use mathlib.Core.Path.{◌≡◌, refl, sym, ap, ◌∙◌, subst}
use mathlib.Core.List.{List, [], ◌∷◌}
use mathlib.Core.Logic.{◌⊎◌, inl, inr}
use lib.IntN.{pos}
use Rattle.plane.proofs.Lines.{same_turned, sign_at_same}
use Rattle.plane.specs.Lines.{value, determinant, line}
use Rattle.plane.proofs.Lines.{value_combination, same_vector, exchange, at_first, at_second, swapped, swapped_last}
use Rattle.std.specs.Prelude.{IsTrue}
use Rattle.std.specs.declared.cmp.Ordering.{Ordering}
use Rattle.std.specs.declared.cmp.Ordering.TheVariants.{Less, Equal, Greater}
use Rattle.std.specs.Ordering.{is_ge, ordering_reverse}
use Rattle.algebra.specs.OrderedRing.{OrderedRing}
use Rattle.plane.specs.declared.point.Point.{Point}
use Rattle.plane.specs.Points.{combination, IsPoint, IsSamePoint}
use Rattle.algebra.proofs.Solvers.{ring, ring_from, multiple, no_equation, reads, sign_from, known, no_sign, given, sum, product, positive, negative, not_negative, any_sign, at_zero}
use Rattle.plane.specs.Segments.{IsOn, SegmentsMeet}
use Rattle.regions.proofs.Drawings.{Piece, piece, reversed, Among, IsDirected, IsEnd, OnPiece, IsPlane}
use Rattle.regions.proofs.Regions.{middle_of, LeftAt, LeftOf, OneRegion, bent, IsOff}
use Rattle.plane.proofs.Signs.{at_least, zero_is, equal_ge}
use Rattle.plane.proofs.OnSegments.{weight_on, on_turned, above_on, some_share, above_and_not, sign_on}
use Rattle.plane.specs.declared.point.Line.{Line}
use Rattle.plane.proofs.Nearby.{Closer, combination_again, closer_point}
use Rattle.plane.proofs.Separation.{Parts, parted_apart, parted}
use Rattle.regions.proofs.Neighbourhoods.{within}
use Rattle.regions.proofs.InnerPoints.{Ends, ends, directed_ends, beside, beside_left, closer_turned, left_one_region, some_left, middle_inner, on_line, one_or_parted, inner_no_end, inner_on}
use Rattle.regions.proofs.Directions.{on_first}
use Rattle.regions.proofs.Corners.{greater_on}
use Rattle.regions.proofs.Tracing.{far_alone}
use Rattle.regions.proofs.General.{AllAbove, Witnessed, NoneZero, general}

module _ {A : Type 0} (K : OrderedRing A) where
  point_moved : (τ u v w s t a b x p : A) → K.add (K.mul u a) (K.mul v b) ≡ K.mul w x → K.add (K.mul s p) (K.mul t p) ≡ K.mul τ x
      → K.add (K.mul (K.mul τ u) a) (K.mul (K.mul τ v) b) ≡ K.mul (K.mul w (K.add s t)) p
  point_moved τ u v w s t a b x p e g =
      ring_from K (τ ∷ u ∷ v ∷ w ∷ s ∷ t ∷ a ∷ b ∷ x ∷ p ∷ []) (multiple τ (search reads depth 40 fits 50000) (search reads depth 40 fits 50000) (search reads depth 40 fits 50000) e (multiple (K.neg w) (search reads depth 40 fits 50000) (search reads depth 40 fits 50000) (search reads depth 40 fits 50000) g no_equation)) (search reads depth 40 fits 50000) (search reads depth 40 fits 50000) tt

  product_ge : (s t : A) → K.sign s ≡ Greater → IsTrue (is_ge (K.sign t)) → IsTrue (is_ge (K.sign (K.mul s t)))
  product_ge s t hs ht = sign_from K (s ∷ t ∷ []) (known positive (search reads depth 40 fits 50000) hs (known not_negative (search reads depth 40 fits 50000) ht no_sign)) not_negative (search reads depth 40 fits 50000) (product (given 0) (given 1)) tt tt

  product_gt : (s t : A) → K.sign s ≡ Greater → K.sign t ≡ Greater → K.sign (K.mul s t) ≡ Greater
  product_gt s t hs ht = sign_from K (s ∷ t ∷ []) (known positive (search reads depth 40 fits 50000) hs (known positive (search reads depth 40 fits 50000) ht no_sign)) positive (search reads depth 40 fits 50000) (product (given 0) (given 1)) tt tt

  sum_gt : (s t : A) → IsTrue (is_ge (K.sign s)) → IsTrue (is_ge (K.sign t)) → (K.sign s ≡ Greater) ⊎ (K.sign t ≡ Greater) → K.sign (K.add s t) ≡ Greater
  sum_gt s t hs ht (inl h) = sign_from K (s ∷ t ∷ []) (known positive (search reads depth 40 fits 50000) h (known not_negative (search reads depth 40 fits 50000) ht no_sign)) positive (search reads depth 40 fits 50000) (sum (given 0) (given 1)) tt tt
  sum_gt s t hs ht (inr h) = sign_from K (s ∷ t ∷ []) (known not_negative (search reads depth 40 fits 50000) hs (known positive (search reads depth 40 fits 50000) h no_sign)) positive (search reads depth 40 fits 50000) (sum (given 0) (given 1)) tt tt

  -- a segment that meets the point p has p on it
  pub meet_point : {p a b : Point A} → SegmentsMeet K p p a b → IsOn K a b p
  meet_point {p} {a} {b} m = at_point m.0 m.1 m.2 m.3
    where
      at_point : (x : Point A) → IsPoint K x → IsOn K p p x → IsOn K a b x → IsOn K a b p
      at_point x hx o on = record {
        from_share = K.mul o.factor on.from_share;
        to_share = K.mul o.factor on.to_share;
        factor = K.mul on.factor (K.add o.from_share o.to_share);
        from_not_negative = product_ge o.factor on.from_share o.factor_positive on.from_not_negative;
        to_not_negative = product_ge o.factor on.to_share o.factor_positive on.to_not_negative;
        factor_positive = product_gt on.factor (K.add o.from_share o.to_share) on.factor_positive (sum_gt o.from_share o.to_share o.from_not_negative o.to_not_negative (some_share K o hx));
        is = sym (same_vector
            (point_moved o.factor on.from_share on.to_share on.factor o.from_share o.to_share a.x b.x x.x p.x (ap (λ r. r.x) (sym on.is)) (ap (λ r. r.x) (sym o.is)))
            (point_moved o.factor on.from_share on.to_share on.factor o.from_share o.to_share a.y b.y x.y p.y (ap (λ r. r.y) (sym on.is)) (ap (λ r. r.y) (sym o.is)))
            (point_moved o.factor on.from_share on.to_share on.factor o.from_share o.to_share a.w b.w x.w p.w (ap (λ r. r.w) (sym on.is)) (ap (λ r. r.w) (sym o.is))));
      }

  zero_on : (L : Line A) {a b x : Point A} → IsOn K a b x → K.sign (value K.ops L a) ≡ Equal → K.sign (value K.ops L b) ≡ Equal → K.sign (value K.ops L x) ≡ Equal
  zero_on L {a} {b} on ha hb =
      sym (sign_on K L on)
      ∙ sign_from K (on.from_share ∷ on.to_share ∷ value K.ops L a ∷ value K.ops L b ∷ []) (known at_zero (search reads depth 40 fits 50000) ha (known at_zero (search reads depth 40 fits 50000) hb (known any_sign {a = on.from_share} (search reads depth 40 fits 50000) tt (known any_sign {a = on.to_share} (search reads depth 40 fits 50000) tt no_sign))))
      at_zero (search reads depth 40 fits 50000) (sum (product (given 2) (given 0)) (product (given 3) (given 1))) tt tt

  turned_round : (a b c : Point A) → determinant K.ops a b c ≡ determinant K.ops c a b
  turned_round a b c = ring K (a.x ∷ a.y ∷ a.w ∷ b.x ∷ b.y ∷ b.w ∷ c.x ∷ c.y ∷ c.w ∷ []) (search reads depth 40 fits 50000) (search reads depth 40 fits 50000) tt

  itself_mixed : (p x : A) → x ≡ K.add (K.mul (K.int (pos 0)) p) (K.mul (K.int (pos 1)) x)
  itself_mixed p x = ring K (p ∷ x ∷ []) (search reads depth 40 fits 50000) (search reads depth 40 fits 50000) tt

  module _ (place : ℕ → Point A) (ps : List Piece) (plane : IsPlane K place ps) (e : Piece) (here : Among ps e) where
    abbrev m : Point A
    m = middle_of K place e

    inner : Closer K (place e.tail) (place e.head) m
    inner = middle_inner K place ps plane e (inl here)

    hm : IsPoint K m
    hm = closer_point K inner (ends K place ps plane e here).tail_point (ends K place ps plane e here).head_point

    -- the middle is no end of a piece
    no_end : (f : Piece) → Among ps f → (v : ℕ) → IsEnd f v → ¬ IsSamePoint K m (place v)
    no_end f i v h s = elim (one_or_parted K place ps plane e here inner inner f i) [
      | inl g ↦
          let on : (on : IsOn K (place e.tail) (place e.head) m) × (K.sign on.from_share ≡ Greater) × (K.sign on.to_share ≡ Greater) = inner_on K inner inner hm (on_first K m m) in
          inner_no_end K place e (ends K place ps plane e here) on.0 on.1 on.2 v (subst (λ f. IsEnd f v) (sym g) h) (same_turned K s)
      | inr r ↦ by_end h r
    ]
      where
        by_end : IsEnd f v → Parts K m m (place f.tail) (place f.head) → ⊥
        by_end (inl g) r = above_and_not K r.by (sym (sign_at_same K r.by m (place f.tail) hm (ends K place ps plane f i).tail_point (subst (λ v. IsSamePoint K m (place v)) (sym g) s)) ∙ r.first_above) r.tail_not
        by_end (inr g) r = above_and_not K r.by (sym (sign_at_same K r.by m (place f.head) hm (ends K place ps plane f i).head_point (subst (λ v. IsSamePoint K m (place v)) (sym g) s)) ∙ r.first_above) r.head_not

    -- q lies on no line of a piece, and on none through the middle and an end
    abbrev Fine : Piece → Point A → Type 0
    Fine f q = (¬ (K.sign (determinant K.ops (place f.tail) (place f.head) q) ≡ Equal)) × (¬ (K.sign (determinant K.ops m (place f.tail) q) ≡ Equal)) × (¬ (K.sign (determinant K.ops m (place f.head) q) ≡ Equal))

    greater_not : {s : Ordering} → s ≡ Greater → ¬ (s ≡ Equal)
    greater_not g h = absurd (cc)

    lines : (fs : List Piece) → ((f : Piece) → Among fs f → Among ps f) → (ws : List (Witnessed K)) × ((q : Point A) → NoneZero K ws q → (f : Piece) → Among fs f → Fine f q)
    lines [] sub = ([], λ q h f i. absurd i)
    lines (g ∷ fs) sub =
        let n : Ends K place g = ends K place ps plane g (sub g (inl refl)) in
        let r : (ws : List (Witnessed K)) × ((q : Point A) → NoneZero K ws q → (f : Piece) → Among fs f → Fine f q) = lines fs (λ f i. sub f (inr i)) in
        let a : Witnessed K = record {
          functional = line K.ops (place g.tail) (place g.head);
          witness = beside K (place g.tail) (place g.head) (place g.tail);
          point = n.tail_point;
          differs = greater_not (beside_left K (place g.tail) (place g.head) (place g.tail) n.different (zero_is K (at_first K (place g.tail) (place g.head))));
        } in
        let b : Witnessed K = record {
          functional = line K.ops m (place g.tail);
          witness = beside K m (place g.tail) m;
          point = hm;
          differs = greater_not (beside_left K m (place g.tail) m (no_end g (sub g (inl refl)) g.tail (inl refl)) (zero_is K (at_first K m (place g.tail))));
        } in
        let c : Witnessed K = record {
          functional = line K.ops m (place g.head);
          witness = beside K m (place g.head) m;
          point = hm;
          differs = greater_not (beside_left K m (place g.head) m (no_end g (sub g (inl refl)) g.head (inr refl)) (zero_is K (at_first K m (place g.head))));
        } in (
          a ∷ b ∷ c ∷ r.0,
          λ q h f. elim [
            | inl i ↦ subst (λ f. Fine f q) i (h.0, h.1.0, h.1.1.0)
            | inr i ↦ r.1 q h.1.1.1 f i
          ],
        )

    -- functionals that are above zero at p, and where they are so, the segment to p is clear
    keeps : (p : Point A) → IsPoint K p → (fs : List Piece) → ((f : Piece) → Among fs f → Among ps f) → ((f : Piece) → Among fs f → ¬ OnPiece K place f p)
        → (Gs : List (Line A)) × AllAbove K Gs p × ((q : Point A) → AllAbove K Gs q → (f : Piece) → Among fs f → ¬ SegmentsMeet K p q (place f.tail) (place f.head))
    keeps p hp [] sub off = ([], tt, λ q h f i. absurd i)
    keeps p hp (g ∷ fs) sub off =
        let n : Ends K place g = ends K place ps plane g (sub g (inl refl)) in
        let r : (Gs : List (Line A)) × AllAbove K Gs p × ((q : Point A) → AllAbove K Gs q → (f : Piece) → Among fs f → ¬ SegmentsMeet K p q (place f.tail) (place f.head))
        = keeps p hp fs (λ f i. sub f (inr i)) (λ f i. off f (inr i)) in
        let s : Parts K p p (place g.tail) (place g.head) = parted K hp hp n.tail_point n.head_point n.different (λ meet. off g (inl refl) (meet_point meet)) in (
          s.by ∷ r.0,
          (s.first_above, r.1),
          λ q h f. elim [
            | inl i ↦ subst (λ f. ¬ SegmentsMeet K p q (place f.tail) (place f.head)) i (parted_apart K (record { by = s.by; first_above = s.first_above; second_above = h.0; tail_not = s.tail_not; head_not = s.head_not }))
            | inr i ↦ r.2 q h.1 f i
          ],
        )

    -- ---- the first piece that the segment from p to the middle meets, among those tried

    module _ (p : Point A) (hp : IsPoint K p) (fine : (f : Piece) → Among ps f → Fine f p) where
      record Found (fs : List Piece) : Type 0 where
        found : Piece
        directed : IsDirected ps found
        target : Point A
        back_part : A
        on_part : A
        back_ge : IsTrue (is_ge (K.sign back_part))
        on_gt : K.sign on_part ≡ Greater
        target_is : target ≡ combination K.ops back_part p on_part m
        inside : Closer K (place found.tail) (place found.head) target
        left_of : K.sign (determinant K.ops (place found.tail) (place found.head) p) ≡ Greater
        clear : (f : Piece) → Among fs f → (x : Point A) (on : IsOn K p target x) → K.sign on.from_share ≡ Greater → ¬ OnPiece K place f x

      turned_sign : (a b : Point A) → K.sign (determinant K.ops a b p) ≡ Less → K.sign (determinant K.ops b a p) ≡ Greater
      turned_sign a b h = swapped K a b p ∙ ap ordering_reverse h

      start : Found []
      start = by_sign (K.sign (determinant K.ops (place e.tail) (place e.head) p)) refl
        where
          by_sign : (s : Ordering) → K.sign (determinant K.ops (place e.tail) (place e.head) p) ≡ s → Found []
          by_sign Equal h = absurd ((fine e here).0 h)
          by_sign Greater h = record {
            found = e;
            directed = inl here;
            target = m;
            back_part = K.int (pos 0);
            on_part = K.int (pos 1);
            back_ge = equal_ge (K.sign_int (pos 0));
            on_gt = K.sign_int (pos 1);
            target_is = same_vector (itself_mixed p.x m.x) (itself_mixed p.y m.y) (itself_mixed p.w m.w);
            inside = inner;
            left_of = h;
            clear = λ f i. absurd i;
          }
          by_sign Less h = record {
            found = reversed e;
            directed = inr here;
            target = m;
            back_part = K.int (pos 0);
            on_part = K.int (pos 1);
            back_ge = equal_ge (K.sign_int (pos 0));
            on_gt = K.sign_int (pos 1);
            target_is = same_vector (itself_mixed p.x m.x) (itself_mixed p.y m.y) (itself_mixed p.w m.w);
            inside = closer_turned K inner;
            left_of = turned_sign (place e.tail) (place e.head) h;
            clear = λ f i. absurd i;
          }

      module _ (fs : List Piece) (w : Found fs) (f : Piece) where
        found_point : IsPoint K w.target
        found_point = closer_point K w.inside (directed_ends K place ps plane w.found w.directed).tail_point (directed_ends K place ps plane w.found w.directed).head_point

        -- a functional that is zero at p has the sign at the target that it has at the middle
        at_target : (L : Line A) → K.sign (value K.ops L p) ≡ Equal → K.sign (value K.ops L w.target) ≡ K.sign (value K.ops L m)
        at_target L h = ap (λ q. K.sign (value K.ops L q)) w.target_is ∙ ap K.sign (value_combination K L w.back_part w.on_part p m) ∙ far_alone K w.back_part w.on_part (value K.ops L p) (value K.ops L m) h w.on_gt

        keep : ((x : Point A) (on : IsOn K p w.target x) → K.sign on.from_share ≡ Greater → ¬ OnPiece K place f x) → Found (f ∷ fs)
        keep clear_f = record {
          found = w.found;
          directed = w.directed;
          target = w.target;
          back_part = w.back_part;
          on_part = w.on_part;
          back_ge = w.back_ge;
          on_gt = w.on_gt;
          target_is = w.target_is;
          inside = w.inside;
          left_of = w.left_of;
          clear = λ g. elim [
            | inl i ↦ λ x on h on_g. clear_f x on h (subst (λ g. OnPiece K place g x) (sym i) on_g)
            | inr i ↦ w.clear g i
          ];
        }

        -- the piece, in the direction in which p lies left of it
        module _ (a b : ℕ) (hg : IsDirected ps (piece a b)) (on_g : (x : Point A) → OnPiece K place f x → IsOn K (place a) (place b) x)
            (left_p : K.sign (determinant K.ops (place a) (place b) p) ≡ Greater) where
          -- the target isn't beyond the line of the piece
          near_side : IsTrue (is_ge (K.sign (determinant K.ops (place a) (place b) w.target))) → Found (f ∷ fs)
          near_side h = keep (λ x on k on_f.
              greater_not (greater_on K (line K.ops (place a) (place b)) on k left_p h) (zero_on (line K.ops (place a) (place b)) (on_g x on_f) (at_first K (place a) (place b)) (at_second K (place a) (place b))))

          -- both ends lie on one side of the line through p and the middle
          one_side : (s : Ordering) → ¬ (s ≡ Equal) → K.sign (determinant K.ops p m (place a)) ≡ s → K.sign (determinant K.ops p m (place b)) ≡ s → Found (f ∷ fs)
          one_side s n ha hb = keep (λ x on k on_f.
              let hx : IsPoint K x = weight_on K on k hp found_point in
              let on_line_x : K.sign (determinant K.ops p m x) ≡ Equal = zero_on (line K.ops p m) on (at_first K p m) (at_target (line K.ops p m) (at_first K p m) ∙ at_second K p m) in
              by_side s ha hb n x hx (on_g x on_f) on_line_x)
            where
              by_side : (s : Ordering) → K.sign (determinant K.ops p m (place a)) ≡ s → K.sign (determinant K.ops p m (place b)) ≡ s → ¬ (s ≡ Equal) → (x : Point A) → IsPoint K x
                  → IsOn K (place a) (place b) x → K.sign (determinant K.ops p m x) ≡ Equal → ⊥
              by_side Equal ha hb n x hx on z = n refl
              by_side Greater ha hb n x hx on z = greater_not (above_on K (line K.ops p m) on hx ha hb) z
              by_side Less ha hb n x hx on z =
                  greater_not (above_on K (line K.ops m p) on hx (swapped K p m (place a) ∙ ap ordering_reverse ha) (swapped K p m (place b) ∙ ap ordering_reverse hb)) (swapped K p m x ∙ ap ordering_reverse z)

          -- the piece is met before the target
          module _ (beyond : K.sign (determinant K.ops (place a) (place b) w.target) ≡ Less) where
            al : K.sign (determinant K.ops (place a) w.target (place b)) ≡ Greater
            al = swapped_last K (place a) (place b) w.target ∙ ap ordering_reverse beyond

            meeting : Point A
            meeting = combination K.ops (determinant K.ops p w.target (place b)) (place a) (determinant K.ops w.target p (place a)) (place b)

            meeting_is : meeting ≡ combination K.ops (determinant K.ops (place a) w.target (place b)) p (determinant K.ops (place a) (place b) p) w.target
            unfolding meeting
            meeting_is = sym (exchange K p w.target (place a) (place b))

            toward_p : Closer K w.target p meeting
            toward_p = record {
              stay = determinant K.ops (place a) (place b) p;
              go = determinant K.ops (place a) w.target (place b);
              stay_gt = left_p;
              go_gt = al;
              is = meeting_is ∙ same_vector (K.add_comm _ _) (K.add_comm _ _) (K.add_comm _ _);
            }

            -- the signs of the ends' shares
            sign_b : K.sign (determinant K.ops p w.target (place b)) ≡ K.sign (determinant K.ops p m (place b))
            sign_b =
                ap K.sign (turned_round p w.target (place b)) ∙ at_target (line K.ops (place b) p) (at_second K (place b) p) ∙ sym (ap K.sign (turned_round p m (place b)))

            sign_a : K.sign (determinant K.ops w.target p (place a)) ≡ ordering_reverse (K.sign (determinant K.ops p m (place a)))
            sign_a = sym (ap K.sign (turned_round p (place a) w.target)) ∙ at_target (line K.ops p (place a)) (at_first K p (place a)) ∙ swapped_last K p m (place a)

            ends_of_it : Ends K place (piece a b)
            ends_of_it = directed_ends K place ps plane (piece a b) hg

            meeting_point : IsPoint K meeting
            meeting_point = closer_point K toward_p found_point hp

            met_first : K.sign (determinant K.ops p m (place a)) ≡ Less → K.sign (determinant K.ops p m (place b)) ≡ Greater → Found (f ∷ fs)
            unfolding meeting
            met_first ha hb =
                let inside : Closer K (place a) (place b) meeting = record {
                  stay = determinant K.ops p w.target (place b);
                  go = determinant K.ops w.target p (place a);
                  stay_gt = sign_b ∙ hb;
                  go_gt = sign_a ∙ ap ordering_reverse ha;
                  is = refl;
                } in
                record {
                  found = piece a b;
                  directed = hg;
                  target = meeting;
                  back_part = K.add (determinant K.ops (place a) w.target (place b)) (K.mul (determinant K.ops (place a) (place b) p) w.back_part);
                  on_part = K.mul (determinant K.ops (place a) (place b) p) w.on_part;
                  back_ge = sum_product_ge (determinant K.ops (place a) w.target (place b)) (determinant K.ops (place a) (place b) p) w.back_part al left_p w.back_ge;
                  on_gt = product_gt (determinant K.ops (place a) (place b) p) w.on_part left_p w.on_gt;
                  target_is = meeting_is ∙ ap (λ q. combination K.ops (determinant K.ops (place a) w.target (place b)) p (determinant K.ops (place a) (place b) p) q) w.target_is
                      ∙ combination_again K (determinant K.ops (place a) w.target (place b)) (determinant K.ops (place a) (place b) p) w.back_part w.on_part p m;
                  inside = inside;
                  left_of = left_p;
                  clear = λ g. elim [
                    | inl i ↦ λ x on k on_x.
                        greater_not (greater_on K (line K.ops (place a) (place b)) on k left_p (equal_ge (ap K.sign (on_line K inside) ∙ K.sign_int (pos 0))))
                        (zero_on (line K.ops (place a) (place b)) (on_g x (subst (λ g. OnPiece K place g x) (sym i) on_x)) (at_first K (place a) (place b)) (at_second K (place a) (place b)))
                    | inr i ↦ λ x on k.
                        let o : (on : IsOn K p w.target x) × (K.sign on.from_share ≡ Greater) = within K place toward_p (weight_on K on k hp meeting_point) on in
                        w.clear g i x o.0 o.1
                  ];
                }
              where
                sum_product_ge : (s t u : A) → K.sign s ≡ Greater → K.sign t ≡ Greater → IsTrue (is_ge (K.sign u)) → IsTrue (is_ge (K.sign (K.add s (K.mul t u))))
                sum_product_ge s t u hs ht hu =
                    sign_from K (s ∷ t ∷ u ∷ []) (known positive (search reads depth 40 fits 50000) hs (known positive (search reads depth 40 fits 50000) ht (known not_negative (search reads depth 40 fits 50000) hu no_sign))) not_negative (search reads depth 40 fits 50000) (sum (given 0) (product (given 1) (given 2))) tt tt

            never_beyond : K.sign (determinant K.ops p m (place a)) ≡ Greater → K.sign (determinant K.ops p m (place b)) ≡ Less → ⊥
            unfolding meeting
            never_beyond ha hb =
                let z : K.sign meeting.w ≡ Less
                = both_less (determinant K.ops p w.target (place b)) (determinant K.ops w.target p (place a)) (place a).w (place b).w (sign_b ∙ hb) (sign_a ∙ ap ordering_reverse ha)
                ends_of_it.tail_point ends_of_it.head_point in
                let y : K.sign meeting.w ≡ Greater = meeting_point in
                absurd (cc)
              where
                both_less : (s t x y : A) → K.sign s ≡ Less → K.sign t ≡ Less → K.sign x ≡ Greater → K.sign y ≡ Greater → K.sign (K.add (K.mul s x) (K.mul t y)) ≡ Less
                both_less s t x y hs ht hx hy =
                    sign_from K (s ∷ t ∷ x ∷ y ∷ []) (known negative (search reads depth 40 fits 50000) hs (known negative (search reads depth 40 fits 50000) ht (known positive (search reads depth 40 fits 50000) hx (known positive (search reads depth 40 fits 50000) hy no_sign)))) negative (search reads depth 40 fits 50000)
                    (sum (product (given 0) (given 2)) (product (given 1) (given 3))) tt tt

          -- any case
          tried : ¬ (K.sign (determinant K.ops m (place a) p) ≡ Equal) → ¬ (K.sign (determinant K.ops m (place b) p) ≡ Equal) → Found (f ∷ fs)
          tried na nb = elim (at_least (K.sign (determinant K.ops (place a) (place b) w.target))) [
            | inl h ↦ near_side h
            | inr h ↦ by_sides h (K.sign (determinant K.ops p m (place a))) (K.sign (determinant K.ops p m (place b))) refl refl
          ]
            where
              by_sides : K.sign (determinant K.ops (place a) (place b) w.target) ≡ Less → (s t : Ordering) → K.sign (determinant K.ops p m (place a)) ≡ s → K.sign (determinant K.ops p m (place b)) ≡ t → Found (f ∷ fs)
              by_sides h Equal t ea eb = absurd (na (ap K.sign (turned_round m (place a) p) ∙ ea))
              by_sides h Less Equal ea eb = absurd (nb (ap K.sign (turned_round m (place b) p) ∙ eb))
              by_sides h Greater Equal ea eb = absurd (nb (ap K.sign (turned_round m (place b) p) ∙ eb))
              by_sides h Less Less ea eb = one_side Less (λ g. absurd (cc)) ea eb
              by_sides h Greater Greater ea eb = one_side Greater (λ g. absurd (cc)) ea eb
              by_sides h Less Greater ea eb = met_first h ea eb
              by_sides h Greater Less ea eb = absurd (never_beyond h ea eb)

        step : Among ps f → Found (f ∷ fs)
        step i = by_sign (K.sign (determinant K.ops (place f.tail) (place f.head) p)) refl
          where
            by_sign : (s : Ordering) → K.sign (determinant K.ops (place f.tail) (place f.head) p) ≡ s → Found (f ∷ fs)
            by_sign Equal h = absurd ((fine f i).0 h)
            by_sign Greater h = tried f.tail f.head (inl i) (λ x on. on) h (fine f i).1 (fine f i).2
            by_sign Less h = tried f.head f.tail (inr i) (λ x on. on_turned K on) (turned_sign (place f.tail) (place f.head) h) (fine f i).2 (fine f i).1

      found_among : (fs : List Piece) → ((f : Piece) → Among fs f → Among ps f) → Found fs
      found_among [] sub = start
      found_among (f ∷ fs) sub = step fs (found_among fs (λ g i. sub g (inr i))) f (sub f (inl refl))

      -- a point in general position is left of some piece
      left_of_some : (d : Piece) × IsDirected ps d × ((q : Point A) × LeftOf K place ps d q × OneRegion K place ps p q)
      left_of_some =
          let w : Found ps = found_among ps (λ g i. i) in
          let l : LeftAt K place ps (place w.found.tail) (place w.found.head) w.target p = record { point = hp; left = w.left_of; clear = w.clear } in
          let r : (q : Point A) × LeftOf K place ps w.found q = some_left K place ps plane w.found w.directed (middle_inner K place ps plane w.found w.directed) in
          (w.found, w.directed, (r.0, r.1, left_one_region K place ps plane w.found w.directed w.inside (middle_inner K place ps plane w.found w.directed) l r.1))

    -- each region is at the left of some piece
    pub every_region : (p : Point A) → IsPoint K p → IsOff K place ps p → (d : Piece) × IsDirected ps d × ((q : Point A) × LeftOf K place ps d q × OneRegion K place ps p q)
    every_region p hp off =
        let k : (Gs : List (Line A)) × AllAbove K Gs p × ((q : Point A) → AllAbove K Gs q → (f : Piece) → Among ps f → ¬ SegmentsMeet K p q (place f.tail) (place f.head))
        = keeps p hp ps (λ f i. i) off in
        let ws : (ws : List (Witnessed K)) × ((q : Point A) → NoneZero K ws q → (f : Piece) → Among ps f → Fine f q) = lines ps (λ f i. i) in
        let g : (q : Point A) × IsPoint K q × AllAbove K k.0 q × NoneZero K ws.0 q = general K ws.0 k.0 p hp k.1 in
        let r : (d : Piece) × IsDirected ps d × ((q : Point A) × LeftOf K place ps d q × OneRegion K place ps g.0 q) = left_of_some g.0 g.1 (ws.1 g.0 g.3) in
        (r.0, r.1, (r.2.0, r.2.1, bent hp (k.2 g.0 g.2) r.2.2))
