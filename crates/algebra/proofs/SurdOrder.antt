-- The numbers a + b√k over an ordered ring are ordered, where k is above zero and a² = k b² only at b = 0.
use mathlib.Core.Path.{◌≡◌, refl, sym, ap, ap₂, ◌∙◌}
use mathlib.Core.List.{List, [], ◌∷◌}
use lib.IntN.{ℤ, pos}
use Rattle.std.specs.Prelude.{IsTrue}
use Rattle.std.specs.declared.cmp.Ordering.{Ordering}
use Rattle.std.specs.declared.cmp.Ordering.TheVariants.{Less, Equal, Greater}
use Rattle.std.specs.Ordering.{ordering_reverse, is_le, is_ge}
use Rattle.algebra.specs.Ring.{Operations}
use Rattle.algebra.specs.Order.{int_sign, product_sign, IsOrdered}
use Rattle.algebra.specs.OrderedRing.{OrderedRing}
use Rattle.algebra.specs.Surd.{Surd, surd_ops, surd_norm, surd_sign, by_norm}
use Rattle.algebra.proofs.Expression.{variable}
use Rattle.algebra.proofs.Reading.{reads}
use Rattle.algebra.proofs.Identity.{ring}
use Rattle.algebra.proofs.PossibleSigns.{positive, negative, at_zero, not_negative, not_positive}
use Rattle.algebra.proofs.SignReason.{known, no_sign, given, unknown, number, negated, sum, product, square, sign_neg}
use Rattle.algebra.proofs.Sign.{sign_from, sign_from_multiple, sign_of_multiple}
use Rattle.algebra.proofs.SurdRing.{surd_path}

product_equal : (s : Ordering) → product_sign s Equal ≡ Equal
product_equal Less = refl
product_equal Equal = refl
product_equal Greater = refl

-- a product above zero is of equal signs
equal_signs : (p q : Ordering) → product_sign p q ≡ Greater → p ≡ q
equal_signs Less Less h = refl
equal_signs Less Equal h = absurd (cc)
equal_signs Less Greater h = absurd (cc)
equal_signs Equal q h = absurd (cc)
equal_signs Greater Less h = absurd (cc)
equal_signs Greater Equal h = absurd (cc)
equal_signs Greater Greater h = refl

square_equal : (s : Ordering) → product_sign s s ≡ Equal → s ≡ Equal
square_equal Less h = absurd (cc)
square_equal Equal h = refl
square_equal Greater h = absurd (cc)

by_norm_of_square : (s t : Ordering) → by_norm (product_sign s s) s t ≡ s
by_norm_of_square Less t = refl
by_norm_of_square Equal t = refl
by_norm_of_square Greater t = refl

by_norm_reverse : (n s t : Ordering) → by_norm n (ordering_reverse s) (ordering_reverse t) ≡ ordering_reverse (by_norm n s t)
by_norm_reverse Less s t = refl
by_norm_reverse Equal s t = refl
by_norm_reverse Greater s t = refl

less_of_reverse : (s : Ordering) → ordering_reverse s ≡ Greater → s ≡ Less
less_of_reverse Less h = refl
less_of_reverse Equal h = absurd (cc)
less_of_reverse Greater h = absurd (cc)

two_signs : {B : Type 0} (s : Ordering) → s ≡ Less → s ≡ Greater → B
two_signs s h k = absurd (cc)

module _ {A : Type 0} (K : OrderedRing A) where
  -- where u² > v², both u + v and u - v have the sign of u
  larger_square : (u v : A) → K.sign (K.sub (K.mul u u) (K.mul v v)) ≡ Greater → (K.sign (K.add u v) ≡ K.sign u) × (K.sign (K.sub u v) ≡ K.sign u)
  larger_square u v h =
      let factors : K.mul (K.add u v) (K.sub u v) ≡ K.sub (K.mul u u) (K.mul v v) = ring K (u ∷ v ∷ []) (search reads depth 20) (search reads depth 20) tt in
      let one_sign : K.sign (K.add u v) ≡ K.sign (K.sub u v)
      = equal_signs (K.sign (K.add u v)) (K.sign (K.sub u v)) (sym (K.sign_mul (K.add u v) (K.sub u v)) ∙ ap K.sign factors ∙ h) in
      let twice : K.add (K.add u v) (K.sub u v) ≡ K.mul (K.int (pos 2)) u = ring K (u ∷ v ∷ []) (search reads depth 20) (search reads depth 20) tt in
      let of_sum : K.sign (K.add u v) ≡ K.sign u
      = sym (K.sign_add (K.sign (K.add u v)) (K.add u v) (K.sub u v) refl (sym one_sign)) ∙ ap K.sign twice ∙ sign_of_multiple K (K.int (pos 2)) u (K.sign_int (pos 2)) in
      (of_sum, sym one_sign ∙ of_sum)

  module _ (k : A) (k_positive : K.sign k ≡ Greater) where
    abbrev S : Operations (Surd A)
    S = surd_ops K.ops k

    abbrev norm : Surd A → A
    norm = surd_norm K.ops k

    abbrev sign : Surd A → Ordering
    sign = surd_sign K.ops k K.sign

    abbrev values : Surd A → Surd A → List A
    values x y = k ∷ x.a ∷ x.b ∷ y.a ∷ y.b ∷ []

    -- ---- which of the two products in each part of (a + b√k) (c + d√k) is larger

    -- (a c)² > (k b d)²
    first_by_ac : (x y : Surd A) → K.sign (norm x) ≡ Greater → K.sign (norm y) ≡ Greater
        → K.sign (K.sub (K.mul (K.mul x.a y.a) (K.mul x.a y.a)) (K.mul (K.mul k (K.mul x.b y.b)) (K.mul k (K.mul x.b y.b)))) ≡ Greater
    first_by_ac x y h j =
        sign_from K (values x y) (known positive (search reads depth 20) h (known positive (search reads depth 20) j (known positive (search reads depth 20) k_positive no_sign)))
        positive (search reads depth 20)
        (sum (product (given 0) (sum (given 1) (product (given 2) (square (unknown (variable 4)))))) (product (product (given 2) (square (unknown (variable 2)))) (given 1))) tt tt

    -- (k b d)² > (a c)²
    first_by_bd : (x y : Surd A) → K.sign (norm x) ≡ Less → K.sign (norm y) ≡ Less
        → K.sign (K.sub (K.mul (K.mul k (K.mul x.b y.b)) (K.mul k (K.mul x.b y.b))) (K.mul (K.mul x.a y.a) (K.mul x.a y.a))) ≡ Greater
    first_by_bd x y h j =
        sign_from K (values x y) (known negative (search reads depth 20) h (known negative (search reads depth 20) j no_sign)) positive (search reads depth 20)
        (sum (product (negated (given 0)) (sum (negated (given 1)) (square (unknown (variable 3))))) (product (square (unknown (variable 1))) (negated (given 1)))) tt tt

    -- (a d)² > (b c)²
    second_by_ad : (x y : Surd A) → K.sign (norm x) ≡ Greater → K.sign (norm y) ≡ Less
        → K.sign (K.sub (K.mul (K.mul x.a y.b) (K.mul x.a y.b)) (K.mul (K.mul x.b y.a) (K.mul x.b y.a))) ≡ Greater
    second_by_ad x y h j =
        sign_from_multiple K (values x y) (known positive (search reads depth 20) h (known negative (search reads depth 20) j (known positive (search reads depth 20) k_positive no_sign)))
        positive (search reads depth 20) k_positive (search reads depth 20)
        (sum (product (sum (given 0) (product (given 2) (square (unknown (variable 2))))) (negated (given 1))) (product (square (unknown (variable 3))) (given 0))) tt tt

    -- ---- the sign of a product

    sign_mul_by : (x y : Surd A) (p q : Ordering) → K.sign (norm x) ≡ p → K.sign (norm y) ≡ q
        → by_norm (product_sign p q) (K.sign (S.mul x y).a) (K.sign (S.mul x y).b) ≡ product_sign (by_norm p (K.sign x.a) (K.sign x.b)) (by_norm q (K.sign y.a) (K.sign y.b))
    sign_mul_by x y Equal q h j = refl
    sign_mul_by x y Less Equal h j = sym (product_equal (K.sign x.b))
    sign_mul_by x y Greater Equal h j = sym (product_equal (K.sign x.a))
    sign_mul_by x y Greater Greater h j = (larger_square (K.mul x.a y.a) (K.mul k (K.mul x.b y.b)) (first_by_ac x y h j)).0 ∙ K.sign_mul x.a y.a
    sign_mul_by x y Greater Less h j = (larger_square (K.mul x.a y.b) (K.mul x.b y.a) (second_by_ad x y h j)).0 ∙ K.sign_mul x.a y.b
    sign_mul_by x y Less Greater h j =
        let swapped : (S.mul x y).b ≡ K.add (K.mul y.a x.b) (K.mul y.b x.a) = ring K (values x y) (search reads depth 20) (search reads depth 20) tt in
        ap K.sign swapped ∙ (larger_square (K.mul y.a x.b) (K.mul y.b x.a) (second_by_ad y x j h)).0 ∙ ap K.sign (K.mul_comm y.a x.b) ∙ K.sign_mul x.b y.a
    sign_mul_by x y Less Less h j =
        ap K.sign (K.add_comm (K.mul x.a y.a) (K.mul k (K.mul x.b y.b)))
        ∙ (larger_square (K.mul k (K.mul x.b y.b)) (K.mul x.a y.a) (first_by_bd x y h j)).0
        ∙ sign_of_multiple K k (K.mul x.b y.b) k_positive ∙ K.sign_mul x.b y.b

    surd_sign_mul : (x y : Surd A) → sign (S.mul x y) ≡ product_sign (sign x) (sign y)
    surd_sign_mul x y =
        let norm_mul : norm (S.mul x y) ≡ K.mul (norm x) (norm y) = ring K (values x y) (search reads depth 20) (search reads depth 20) tt in
        ap (λ n. by_norm n (K.sign (S.mul x y).a) (K.sign (S.mul x y).b)) (ap K.sign norm_mul ∙ K.sign_mul (norm x) (norm y))
        ∙ sign_mul_by x y (K.sign (norm x)) (K.sign (norm y)) refl refl

    norm_whole : (m : A) → norm (record { a = m; b = K.int (pos 0) }) ≡ K.mul m m
    norm_whole m = ring K (k ∷ m ∷ []) (search reads depth 20) (search reads depth 20) tt

    surd_sign_int : (m : ℤ) → sign (S.int m) ≡ int_sign m
    surd_sign_int m =
        ap (λ n. by_norm n (K.sign (K.int m)) (K.sign (K.int (pos 0)))) (ap K.sign (norm_whole (K.int m)) ∙ K.sign_mul (K.int m) (K.int m))
        ∙ by_norm_of_square (K.sign (K.int m)) (K.sign (K.int (pos 0))) ∙ K.sign_int m

    norm_neg : (x : Surd A) → norm (S.neg x) ≡ norm x
    norm_neg x = ring K (k ∷ x.a ∷ x.b ∷ []) (search reads depth 20) (search reads depth 20) tt

    surd_sign_neg : (x : Surd A) → sign (S.neg x) ≡ ordering_reverse (sign x)
    surd_sign_neg x =
        ap (λ n. by_norm n (K.sign (K.neg x.a)) (K.sign (K.neg x.b))) (ap K.sign (norm_neg x))
        ∙ ap₂ (by_norm (K.sign (norm x))) (sign_neg K x.a) (sign_neg K x.b)
        ∙ by_norm_reverse (K.sign (norm x)) (K.sign x.a) (K.sign x.b)

    a_not_zero : (x : Surd A) → K.sign (norm x) ≡ Greater → K.sign x.a ≡ Equal → ⊥
    a_not_zero x h j =
        let not_above : IsTrue (is_le (K.sign (norm x)))
        = sign_from K (k ∷ x.a ∷ x.b ∷ []) (known positive (search reads depth 20) k_positive (known at_zero (search reads depth 20) j no_sign)) not_positive (search reads depth 20)
        (sum (square (given 1)) (negated (product (given 0) (square (unknown (variable 2)))))) tt tt in
        absurd (cc (rw h at not_above))

    b_not_zero : (x : Surd A) → K.sign (norm x) ≡ Less → K.sign x.b ≡ Equal → ⊥
    b_not_zero x h j =
        let not_below : IsTrue (is_ge (K.sign (norm x)))
        = sign_from K (k ∷ x.a ∷ x.b ∷ []) (known positive (search reads depth 20) k_positive (known at_zero (search reads depth 20) j no_sign)) not_negative (search reads depth 20)
        (sum (square (unknown (variable 1))) (negated (product (given 0) (square (given 1))))) tt tt in
        absurd (cc (rw h at not_below))

    module _ (no_square : (a b : A) → K.sign (K.sub (K.mul a a) (K.mul k (K.mul b b))) ≡ Equal → b ≡ K.int (pos 0)) where
      norm_zero : (x : Surd A) → K.sign (norm x) ≡ Equal → x ≡ S.int (pos 0)
      norm_zero x h =
          let b_zero : x.b ≡ K.int (pos 0) = no_square x.a x.b h in
          let square_zero : K.sign (K.mul x.a x.a) ≡ Equal
          = sign_from K (k ∷ x.a ∷ x.b ∷ [])
          (known positive (search reads depth 20) k_positive (known at_zero (search reads depth 20) h (known at_zero {a = x.b} (search reads depth 20) (ap K.sign b_zero ∙ K.sign_int (pos 0)) no_sign)))
          at_zero (search reads depth 20) (sum (given 1) (product (given 0) (square (given 2)))) tt tt in
          surd_path x (S.int (pos 0)) (K.sign_zero x.a (square_equal (K.sign x.a) (sym (K.sign_mul x.a x.a) ∙ square_zero))) b_zero

      surd_sign_zero : (x : Surd A) → sign x ≡ Equal → x ≡ S.int (pos 0)
      surd_sign_zero x h = by_sign_of_norm (K.sign (norm x)) refl h
        where
          by_sign_of_norm : (p : Ordering) → K.sign (norm x) ≡ p → by_norm p (K.sign x.a) (K.sign x.b) ≡ Equal → x ≡ S.int (pos 0)
          by_sign_of_norm Less e h = absurd (b_not_zero x e h)
          by_sign_of_norm Equal e h = norm_zero x e
          by_sign_of_norm Greater e h = absurd (a_not_zero x e h)

      -- ---- the sign of a sum

      -- both norms above zero: the sum's too
      sum_by_a : (x y : Surd A) → K.sign (norm x) ≡ Greater → K.sign x.a ≡ Greater → K.sign (norm y) ≡ Greater → K.sign y.a ≡ Greater
          → (K.sign (norm (S.add x y)) ≡ Greater) × (K.sign (K.add x.a y.a) ≡ Greater)
      sum_by_a x y h ha j ja =
          let difference : K.sign (K.sub (K.mul x.a y.a) (K.mul k (K.mul x.b y.b))) ≡ Greater
          = (larger_square (K.mul x.a y.a) (K.mul k (K.mul x.b y.b)) (first_by_ac x y h j)).1 ∙ K.sign_mul x.a y.a ∙ ap₂ product_sign ha ja in (
            sign_from K (values x y) (known positive (search reads depth 20) h (known positive (search reads depth 20) j (known positive (search reads depth 20) difference no_sign)))
                positive (search reads depth 20) (sum (sum (given 0) (given 1)) (product (number (pos 2)) (given 2))) tt tt,
            K.sign_add Greater x.a y.a ha ja,
          )

      -- both norms below zero: the sum's too
      sum_by_b : (x y : Surd A) → K.sign (norm x) ≡ Less → K.sign x.b ≡ Greater → K.sign (norm y) ≡ Less → K.sign y.b ≡ Greater
          → (K.sign (norm (S.add x y)) ≡ Less) × (K.sign (K.add x.b y.b) ≡ Greater)
      sum_by_b x y h hb j jb =
          let difference : K.sign (K.sub (K.mul k (K.mul x.b y.b)) (K.mul x.a y.a)) ≡ Greater
          = (larger_square (K.mul k (K.mul x.b y.b)) (K.mul x.a y.a) (first_by_bd x y h j)).1
          ∙ sign_of_multiple K k (K.mul x.b y.b) k_positive ∙ K.sign_mul x.b y.b ∙ ap₂ product_sign hb jb in (
            sign_from K (values x y) (known negative (search reads depth 20) h (known negative (search reads depth 20) j (known positive (search reads depth 20) difference no_sign)))
                negative (search reads depth 20) (sum (sum (given 0) (given 1)) (negated (product (number (pos 2)) (given 2)))) tt tt,
            K.sign_add Greater x.b y.b hb jb,
          )

      -- what is left of the sum without x is y, and without y is x
      norm_left : (x y : Surd A) → norm (S.add x (S.neg (S.add x y))) ≡ norm y
      norm_left x y = ring K (values x y) (search reads depth 20) (search reads depth 20) tt

      norm_right : (x y : Surd A) → norm (S.add y (S.neg (S.add x y))) ≡ norm x
      norm_right x y = ring K (values x y) (search reads depth 20) (search reads depth 20) tt

      -- x with a norm above zero, y with one below
      sum_by_both : (x y : Surd A) → K.sign (norm x) ≡ Greater → K.sign x.a ≡ Greater → K.sign (norm y) ≡ Less → K.sign y.b ≡ Greater → sign (S.add x y) ≡ Greater
      sum_by_both x y h ha j jb = by_sign_of_norm (K.sign (norm (S.add x y))) refl
        where
          by_a : (p : Ordering) → K.sign (norm (S.add x y)) ≡ Greater → K.sign (K.add x.a y.a) ≡ p → p ≡ Greater
          by_a Less e f =
              let m = sum_by_a x (S.neg (S.add x y)) h ha (ap K.sign (norm_neg (S.add x y)) ∙ e) (sign_neg K (K.add x.a y.a) ∙ ap ordering_reverse f) in
              two_signs (K.sign (norm y)) j (ap K.sign (sym (norm_left x y)) ∙ m.0)
          by_a Equal e f = absurd (a_not_zero (S.add x y) e f)
          by_a Greater e f = refl

          by_b : (p : Ordering) → K.sign (norm (S.add x y)) ≡ Less → K.sign (K.add x.b y.b) ≡ p → p ≡ Greater
          by_b Less e f =
              let m = sum_by_b y (S.neg (S.add x y)) j jb (ap K.sign (norm_neg (S.add x y)) ∙ e) (sign_neg K (K.add x.b y.b) ∙ ap ordering_reverse f) in
              two_signs (K.sign (norm x)) (ap K.sign (sym (norm_right x y)) ∙ m.0) h
          by_b Equal e f = absurd (b_not_zero (S.add x y) e f)
          by_b Greater e f = refl

          same_norm : S.add x y ≡ S.int (pos 0) → norm y ≡ norm x
          same_norm e =
              let without_zero : norm (S.add x (S.neg (S.int (pos 0)))) ≡ norm x = ring K (k ∷ x.a ∷ x.b ∷ []) (search reads depth 20) (search reads depth 20) tt in
              sym (norm_left x y) ∙ ap (λ z. norm (S.add x (S.neg z))) e ∙ without_zero

          by_sign_of_norm : (p : Ordering) → K.sign (norm (S.add x y)) ≡ p → sign (S.add x y) ≡ Greater
          by_sign_of_norm Less e = ap (λ n. by_norm n (K.sign (K.add x.a y.a)) (K.sign (K.add x.b y.b))) e ∙ by_b (K.sign (K.add x.b y.b)) e refl
          by_sign_of_norm Equal e = two_signs (K.sign (norm y)) j (ap K.sign (same_norm (norm_zero (S.add x y) e)) ∙ h)
          by_sign_of_norm Greater e = ap (λ n. by_norm n (K.sign (K.add x.a y.a)) (K.sign (K.add x.b y.b))) e ∙ by_a (K.sign (K.add x.a y.a)) e refl

      surd_add_comm : (x y : Surd A) → S.add x y ≡ S.add y x
      surd_add_comm x y = surd_path (S.add x y) (S.add y x) (K.add_comm x.a y.a) (K.add_comm x.b y.b)

      add_greater : (x y : Surd A) → sign x ≡ Greater → sign y ≡ Greater → sign (S.add x y) ≡ Greater
      add_greater x y hx hy = by_signs_of_norms (K.sign (norm x)) (K.sign (norm y)) refl refl hx hy
        where
          by_signs_of_norms : (p q : Ordering) → K.sign (norm x) ≡ p → K.sign (norm y) ≡ q → by_norm p (K.sign x.a) (K.sign x.b) ≡ Greater → by_norm q (K.sign y.a) (K.sign y.b) ≡ Greater → sign (S.add x y) ≡ Greater
          by_signs_of_norms Equal q e f h j = absurd (cc)
          by_signs_of_norms Less Equal e f h j = absurd (cc)
          by_signs_of_norms Greater Equal e f h j = absurd (cc)
          by_signs_of_norms Greater Greater e f h j = let m = sum_by_a x y e h f j in ap (λ n. by_norm n (K.sign (K.add x.a y.a)) (K.sign (K.add x.b y.b))) m.0 ∙ m.1
          by_signs_of_norms Less Less e f h j = let m = sum_by_b x y e h f j in ap (λ n. by_norm n (K.sign (K.add x.a y.a)) (K.sign (K.add x.b y.b))) m.0 ∙ m.1
          by_signs_of_norms Greater Less e f h j = sum_by_both x y e h f j
          by_signs_of_norms Less Greater e f h j = ap sign (surd_add_comm x y) ∙ sum_by_both y x f j e h

      neg_add : (x y : Surd A) → S.add (S.neg x) (S.neg y) ≡ S.neg (S.add x y)
      neg_add x y =
          surd_path (S.add (S.neg x) (S.neg y)) (S.neg (S.add x y))
          (ring K (values x y) (search reads depth 20) (search reads depth 20) tt)
          (ring K (values x y) (search reads depth 20) (search reads depth 20) tt)

      surd_sign_add : (p : Ordering) (x y : Surd A) → sign x ≡ p → sign y ≡ p → sign (S.add x y) ≡ p
      surd_sign_add Greater x y h j = add_greater x y h j
      surd_sign_add Equal x y h j =
          ap₂ (λ u v. sign (S.add u v)) (surd_sign_zero x h) (surd_sign_zero y j)
          ∙ ap sign (surd_path (S.add (S.int (pos 0)) (S.int (pos 0))) (S.int (pos 0)) (K.add_zero (K.int (pos 0))) (K.add_zero (K.int (pos 0))))
          ∙ surd_sign_int (pos 0)
      surd_sign_add Less x y h j =
          let opposite_sum = add_greater (S.neg x) (S.neg y) (surd_sign_neg x ∙ ap ordering_reverse h) (surd_sign_neg y ∙ ap ordering_reverse j) in
          less_of_reverse (sign (S.add x y)) (sym (surd_sign_neg (S.add x y)) ∙ ap sign (sym (neg_add x y)) ∙ opposite_sum)

      pub surd_ordered : IsOrdered (surd_ops K.ops k) (surd_sign K.ops k K.sign)
      surd_ordered = record { sign_int = surd_sign_int; sign_zero = surd_sign_zero; sign_mul = surd_sign_mul; sign_add = surd_sign_add }
