-- An open part of the plane, or of a piece, that holds a point holds one off each of finitely many lines.
use mathlib.Core.Path.{◌≡◌, refl, sym, ap, subst, ◌∙◌}
use mathlib.Core.List.{List, [], ◌∷◌}
use mathlib.Core.Logic.{◌⊎◌, inl, inr}
use Rattle.std.specs.declared.cmp.Ordering.{Ordering}
use Rattle.std.specs.declared.cmp.Ordering.TheVariants.{Less, Equal, Greater}
use Rattle.std.specs.Ordering.{ordering_reverse}
use lib.IntN.{pos}
use Rattle.algebra.specs.Order.{product_sign}
use Rattle.std.specs.Prelude.{Contains}
use Rattle.algebra.specs.OrderedRing.{OrderedRing}
use Rattle.plane.specs.declared.point.Point.{Point}
use Rattle.algebra.proofs.Solvers.{reads, sign_from, known, no_sign, given, sum, product, positive, sign_of_multiple}
use Rattle.algebra.proofs.RingLaws.{zero_add}
use Rattle.plane.specs.declared.point.Line.{Line}
use Rattle.plane.specs.Lines.{opposite_line, value, LiesIn}
use Rattle.plane.specs.Points.{combination, IsPoint}
use Rattle.plane.proofs.Members.{in_cons, in_head, in_tail, in_nil}
use Rattle.plane.proofs.Signs.{positive_product, one_positive, outweighed, square_above}
use Rattle.plane.proofs.Lines.{value_combination, sign_opposite}

module _ {A : Type 0} (K : OrderedRing A) where
  -- s1 (s m + t n) + s (t1 m) where all but n are positive
  more_of_it : (s t m n s1 t1 : A) → K.sign s ≡ Greater → K.sign t ≡ Greater → K.sign s1 ≡ Greater → K.sign t1 ≡ Greater → K.sign m ≡ Greater
      → K.sign (K.add (K.mul s m) (K.mul t n)) ≡ Greater
      → K.sign (K.add (K.mul (K.add (K.mul t1 s) (K.mul t s1)) m) (K.mul (K.mul t t1) n)) ≡ Greater
  more_of_it s t m n s1 t1 hs ht hs1 ht1 hm h =
      sign_from K (s ∷ t ∷ m ∷ n ∷ s1 ∷ t1 ∷ [])
      (known positive (search reads depth 40 fits 50000) ht (known positive (search reads depth 40 fits 50000) hs1 (known positive (search reads depth 40 fits 50000) ht1
      (known positive (search reads depth 40 fits 50000) hm (known positive (search reads depth 40 fits 50000) h no_sign)))))
      positive (search reads depth 40 fits 50000) (sum (product (given 2) (given 4)) (product (product (given 0) (given 1)) (given 3))) tt tt

  -- a point s·p + t·v, so near to p that it lies in the half-planes in which p lies
  pub record Nearby (ms : List (Line A)) (p v : Point A) : Type 0 where
    pub s : A
    pub t : A
    pub s_positive : K.sign s ≡ Greater
    pub t_positive : K.sign t ≡ Greater
    pub lies : LiesIn K ms (combination K.ops s p t v)

  pub nearby : (ms : List (Line A)) (p v : Point A) → LiesIn K ms p → Nearby ms p v
  nearby [] p v h = record { s = K.int (pos 1); t = K.int (pos 1); s_positive = one_positive K; t_positive = one_positive K; lies = λ m i. absurd (in_nil m i) }
  nearby (m ∷ ms) p v h = both (nearby ms p v (λ l i. h l (in_tail m ms l i)))
    where
      both : Nearby ms p v → Nearby (m ∷ ms) p v
      both n =
          let a : A = value K.ops m p in
          let b : A = value K.ops m v in
          let s1 : A = K.add (K.int (pos 1)) (K.mul b b) in
          let h1 : K.sign a ≡ Greater = h m (in_head m ms) in
          let hs1 : K.sign s1 ≡ Greater = square_above K b in
          let lies1 : K.sign (K.add (K.mul s1 a) (K.mul a b)) ≡ Greater = outweighed K a b h1 in
          let s2 : A = K.add (K.mul a n.s) (K.mul n.t s1) in
          let t2 : A = K.mul n.t a in
          record {
            s = s2;
            t = t2;
            s_positive = K.sign_add Greater (K.mul a n.s) (K.mul n.t s1) (positive_product K a n.s h1 n.s_positive) (positive_product K n.t s1 n.t_positive hs1);
            t_positive = positive_product K n.t a n.t_positive h1;
            lies = λ l i. elim (in_cons m ms l i) [
              | inl e ↦ subst (λ k. K.sign (value K.ops k (combination K.ops s2 p t2 v)) ≡ Greater) e
                  (ap K.sign (value_combination K m s2 t2 p v) ∙ swapped a n.s n.t s1 b (more_of_it s1 a a b n.s n.t hs1 h1 n.s_positive n.t_positive h1 lies1))
              | inr j ↦ ap K.sign (value_combination K l s2 t2 p v)
                  ∙ more_of_it n.s n.t (value K.ops l p) (value K.ops l v) s1 a n.s_positive n.t_positive hs1 h1 (h l i)
                  (ap K.sign (sym (value_combination K l n.s n.t p v)) ∙ n.lies l j)
            ];
          }
        where
          swapped : (a s t s1 b : A) → K.sign (K.add (K.mul (K.add (K.mul t s1) (K.mul a s)) a) (K.mul (K.mul a t) b)) ≡ Greater
              → K.sign (K.add (K.mul (K.add (K.mul a s) (K.mul t s1)) a) (K.mul (K.mul t a) b)) ≡ Greater
          swapped a s t s1 b e = rw (K.add_comm (K.mul a s) (K.mul t s1), K.mul_comm t a) e

  not_zero_times : (t a : A) → K.sign t ≡ Greater → ¬ (K.sign a ≡ Equal) → ¬ (K.sign (K.mul t a) ≡ Equal)
  not_zero_times t a ht h e = h (sym (sign_of_multiple K t a ht) ∙ e)

  pub value_of_nearby : (l : Line A) (s : A) (p : Point A) (t : A) (v : Point A) → K.sign (value K.ops l p) ≡ Equal
      → value K.ops l (combination K.ops s p t v) ≡ K.mul t (value K.ops l v)
  value_of_nearby l s p t v e =
      value_combination K l s t p v ∙ ap (λ x. K.add x (K.mul t (value K.ops l v))) (K.sign_zero (K.mul s (value K.ops l p)) (K.sign_mul s (value K.ops l p) ∙ ap (product_sign (K.sign s)) e ∙ always_zero (K.sign s)))
      ∙ zero_add K.ops K.laws (K.mul t (value K.ops l v))
    where
      always_zero : (o : Ordering) → product_sign o Equal ≡ Equal
      always_zero Less = refl
      always_zero Equal = refl
      always_zero Greater = refl

  -- `Good` points from which one may move in each of the ways
  module _ (Good Way : Point A → Type 0) (move : (s : A) (p : Point A) (t : A) (v : Point A) → K.sign s ≡ Greater → K.sign t ≡ Greater → Good p → Way v → Good (combination K.ops s p t v)) where
    -- some way leads off the line
    pub record LeadsOff (l : Line A) : Type 0 where
      pub way : Point A
      pub is_way : Way way
      pub off : ¬ (K.sign (value K.ops l way) ≡ Equal)

    pub record Found (Flat : Line A → Type 0) (ls ms : List (Line A)) : Type 0 where
      pub point : Point A
      pub good : Good point
      pub lies : LiesIn K ms point
      pub off : (l : Line A) → Contains ls l → (¬ (K.sign (value K.ops l point) ≡ Equal)) ⊎ Flat l

    record Moved (l : Line A) (ms : List (Line A)) : Type 0 where
      point : Point A
      good : Good point
      lies : LiesIn K ms point
      off : ¬ (K.sign (value K.ops l point) ≡ Equal)

    move_off : (l : Line A) (ms : List (Line A)) (p : Point A) → Good p → LiesIn K ms p → LeadsOff l → Moved l ms
    move_off l ms p g h w = at (K.sign (value K.ops l p)) refl
      where
        moved : K.sign (value K.ops l p) ≡ Equal → Nearby ms p w.way → Moved l ms
        moved e n = record {
          point = combination K.ops n.s p n.t w.way;
          good = move n.s p n.t w.way n.s_positive n.t_positive g w.is_way;
          lies = n.lies;
          off = λ z. not_zero_times n.t (value K.ops l w.way) n.t_positive w.off (ap K.sign (sym (value_of_nearby l n.s p n.t w.way e)) ∙ z);
        }

        at : (o : Ordering) → K.sign (value K.ops l p) ≡ o → Moved l ms
        at Less e = record { point = p; good = g; lies = h; off = λ z. let f = sym e ∙ z in cc }
        at Equal e = moved e (nearby ms p w.way h)
        at Greater e = record { point = p; good = g; lies = h; off = λ z. let f = sym e ∙ z in cc }

    pub dense : (Flat : Line A → Type 0) (ls ms : List (Line A)) (p : Point A) → Good p → LiesIn K ms p
        → ((l : Line A) → Contains ls l → LeadsOff l ⊎ Flat l) → Found Flat ls ms
    dense Flat [] ms p g h f = record { point = p; good = g; lies = h; off = λ l i. absurd (in_nil l i) }
    dense Flat (l ∷ ls) ms p g h f = first (f l (in_head l ls)) (dense Flat ls)
      where
        rest : (k : Line A) → Contains ls k → LeadsOff k ⊎ Flat k
        rest k i = f k (in_tail l ls k i)

        flat : Flat l → Found Flat ls ms → Found Flat (l ∷ ls) ms
        flat e r = record { point = r.point; good = r.good; lies = r.lies; off = λ k i. elim (in_cons l ls k i) [ inl s ↦ inr (subst Flat s e) | inr j ↦ r.off k j ] }

        keep : (m : Line A) → ((q : Point A) → K.sign (value K.ops m q) ≡ Greater → ¬ (K.sign (value K.ops l q) ≡ Equal)) → Found Flat ls (m ∷ ms) → Found Flat (l ∷ ls) ms
        keep m off r = record {
          point = r.point;
          good = r.good;
          lies = λ k i. r.lies k (in_tail m ms k i);
          off = λ k i. elim (in_cons l ls k i) [ inl s ↦ inl (subst (λ j. ¬ (K.sign (value K.ops j r.point) ≡ Equal)) s (off r.point (r.lies m (in_head m ms)))) | inr j ↦ r.off k j ];
        }

        lies_more : (m : Line A) (q : Point A) → K.sign (value K.ops m q) ≡ Greater → LiesIn K ms q → LiesIn K (m ∷ ms) q
        lies_more m q e k j i = elim (in_cons m ms j i) [ inl s ↦ subst (λ n. K.sign (value K.ops n q) ≡ Greater) s e | inr t ↦ k j t ]

        on_side : (r : Moved l ms) → ((ms : List (Line A)) (p : Point A) → Good p → LiesIn K ms p → ((l : Line A) → Contains ls l → LeadsOff l ⊎ Flat l) → Found Flat ls ms)
            → (o : Ordering) → K.sign (value K.ops l r.point) ≡ o → Found Flat (l ∷ ls) ms
        on_side r go Less e =
            keep (opposite_line K.ops l) (λ q h z. let a = sym h ∙ sign_opposite K l q ∙ ap ordering_reverse z in cc)
            (go (opposite_line K.ops l ∷ ms) r.point r.good
            (lies_more (opposite_line K.ops l) r.point (sign_opposite K l r.point ∙ ap ordering_reverse e) r.lies) rest)
        on_side r go Equal e = absurd (r.off e)
        on_side r go Greater e = keep l (λ q h z. let a = sym h ∙ z in cc) (go (l ∷ ms) r.point r.good (lies_more l r.point e r.lies) rest)

        first : LeadsOff l ⊎ Flat l → ((ms : List (Line A)) (p : Point A) → Good p → LiesIn K ms p → ((l : Line A) → Contains ls l → LeadsOff l ⊎ Flat l) → Found Flat ls ms) → Found Flat (l ∷ ls) ms
        first (inl w) go = let r : Moved l ms = move_off l ms p g h w in on_side r go (K.sign (value K.ops l r.point)) refl
        first (inr e) go = flat e (go ms p g h rest)

  -- where these lines are above zero at p, they are so at a point where none of those is zero, if each of those isn't zero somewhere
  pub general_point : (ls ms : List (Line A)) (p : Point A) → IsPoint K p → LiesIn K ms p
      → ((l : Line A) → Contains ls l → (v : Point A) × IsPoint K v × ¬ (K.sign (value K.ops l v) ≡ Equal))
      → (q : Point A) × IsPoint K q × LiesIn K ms q × ((l : Line A) → Contains ls l → ¬ (K.sign (value K.ops l q) ≡ Equal))
  general_point ls ms p hp h off = of (dense (IsPoint K) (IsPoint K) stay (λ l. ⊥) ls ms p hp h (λ l i. let v = off l i in inl (record { way = v.0; is_way = v.1; off = v.2 })))
    where
      stay : (s : A) (q : Point A) (t : A) (v : Point A) → K.sign s ≡ Greater → K.sign t ≡ Greater → IsPoint K q → IsPoint K v → IsPoint K (combination K.ops s q t v)
      stay s q t v hs ht hq hv = K.sign_add Greater (K.mul s q.w) (K.mul t v.w) (positive_product K s q.w hs hq) (positive_product K t v.w ht hv)

      of : Found (IsPoint K) (IsPoint K) stay (λ l. ⊥) ls ms → (q : Point A) × IsPoint K q × LiesIn K ms q × ((l : Line A) → Contains ls l → ¬ (K.sign (value K.ops l q) ≡ Equal))
      of r = (r.point, r.good, r.lies, λ l i. elim (r.off l i) [ inl n ↦ n | inr n ↦ absurd n ])
