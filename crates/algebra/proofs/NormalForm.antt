-- An expression and its normal form have the same value in every commutative ring.
use Prim.Native.Nat.{ℕ, zero, suc}
use mathlib.Core.Bool.{Bool, true, false, not}
use mathlib.Core.Path.{◌≡◌, refl, sym, ap, ap₂, subst, ◌∙◌, ◌≡⟨◌⟩◌, ◌∎}
use native.Mathlib.Nat.{le_antisymm}
use lib.Dec.{ltb, nltb→le, T}
use lib.IntN.{ℤ, pos, negsuc}
use Rattle.algebra.specs.Ring.{Operations, IsRing}
use Rattle.algebra.proofs.Expression.{Expression, variable, constant, plus, minus, times, opposite, value_of}
use Rattle.algebra.proofs.Polynomial.{Polynomial, whole, horner, horner_form, add_whole, add_horner, sum_of, multiply_each, multiple_of, times_variable, product_of, normal_form, Vanishes, Agree}
use Rattle.algebra.proofs.RingLaws.{nought, zero_add, add_mul, add_left_comm, add_swap, mul_left_comm, mul_zero, zero_mul, neg_one_mul, equal_of_difference}

equal_by_tests : (i j : ℕ) → ltb i j ≡ false → ltb j i ≡ false → i ≡ j
equal_by_tests i j h k =
    le_antisymm (nltb→le j i (subst (λ (b : Bool). T (not b)) (sym k) tt)) (nltb→le i j (subst (λ (b : Bool). T (not b)) (sym h) tt))

module _ {A : Type 0} (ops : Operations A) (laws : IsRing ops) (at : ℕ → A) where
  -- the value of a polynomial
  abbrev value : Polynomial → A
  value (whole c) = ops.int c
  value (horner i p q) = ops.add (ops.mul (at i) (value p)) (value q)

  horner_form_value : (i : ℕ) (p q : Polynomial) → value (horner_form i p q) ≡ value (horner i p q)
  horner_form_value i (whole (pos zero)) q = sym (ap (λ t. ops.add t (value q)) (mul_zero ops laws (at i)) ∙ zero_add ops laws (value q))
  horner_form_value i (whole (pos (suc n))) q = refl
  horner_form_value i (whole (negsuc n)) q = refl
  horner_form_value i (horner j p r) q = refl

  add_whole_value : (a : ℤ) (t : Polynomial) → value (add_whole a t) ≡ ops.add (ops.int a) (value t)
  add_whole_value a (whole b) = laws.int_add a b
  add_whole_value a (horner j p q) =
      ap (ops.add (ops.mul (at j) (value p))) (add_whole_value a q) ∙ add_left_comm ops laws (ops.mul (at j) (value p)) (ops.int a) (value q)

  -- `f` adds p
  abbrev Adds : (Polynomial → Polynomial) → Polynomial → Type 0
  Adds f p = (t : Polynomial) → value (f t) ≡ ops.add (value p) (value t)

  add_horner_value : (i : ℕ) (p q : Polynomial) (add_p add_q : Polynomial → Polynomial) → Adds add_p p → Adds add_q q → Adds (add_horner i p add_p add_q) (horner i p q)
  add_horner_value i p q add_p add_q hp hq (whole b) =
      ap (ops.add (ops.mul (at i) (value p))) (hq (whole b)) ∙ sym (laws.add_assoc (ops.mul (at i) (value p)) (value q) (ops.int b))
  add_horner_value i p q add_p add_q hp hq (horner j r s) = by_first_test (add_horner_value i p q add_p add_q hp hq s) (ltb i j) refl
    where
      total : A
      total = ops.add (value (horner i p q)) (value (horner j r s))

      same_variable : i ≡ j → value (horner_form i (add_p r) (add_q s)) ≡ total
      same_variable e =
          value (horner_form i (add_p r) (add_q s)) ≡⟨ horner_form_value i (add_p r) (add_q s) ⟩
          ops.add (ops.mul (at i) (value (add_p r))) (value (add_q s)) ≡⟨ ap₂ (λ x y. ops.add (ops.mul (at i) x) y) (hp r) (hq s) ⟩
          ops.add (ops.mul (at i) (ops.add (value p) (value r))) (ops.add (value q) (value s)) ≡⟨ ap (λ t. ops.add t (ops.add (value q) (value s))) (laws.mul_add (at i) (value p) (value r)) ⟩
          ops.add (ops.add (ops.mul (at i) (value p)) (ops.mul (at i) (value r))) (ops.add (value q) (value s)) ≡⟨ add_swap ops laws (ops.mul (at i) (value p)) (ops.mul (at i) (value r)) (value q) (value s) ⟩
          ops.add (value (horner i p q)) (ops.add (ops.mul (at i) (value r)) (value s)) ≡⟨ ap (λ k. ops.add (value (horner i p q)) (ops.add (ops.mul (at k) (value r)) (value s))) e ⟩
          total ∎

      Rest : Type 0
      Rest = value (add_horner i p add_p add_q s) ≡ ops.add (value (horner i p q)) (value s)

      by_second_test : Rest → (b : Bool) → ltb j i ≡ b → ltb i j ≡ false
          → value (elim b [ true ↦ horner j r (add_horner i p add_p add_q s) | false ↦ horner_form i (add_p r) (add_q s) ]) ≡ total
      by_second_test h true e d =
          ap (ops.add (ops.mul (at j) (value r))) h ∙ add_left_comm ops laws (ops.mul (at j) (value r)) (value (horner i p q)) (value s)
      by_second_test h false e d = same_variable (equal_by_tests i j d e)

      by_first_test : Rest → (b : Bool) → ltb i j ≡ b
          → value (elim b [ true ↦ horner i p (add_q (horner j r s)) | false ↦ elim (ltb j i) [ true ↦ horner j r (add_horner i p add_p add_q s) | false ↦ horner_form i (add_p r) (add_q s) ] ]) ≡ total
      by_first_test h true e =
          ap (ops.add (ops.mul (at i) (value p))) (hq (horner j r s)) ∙ sym (laws.add_assoc (ops.mul (at i) (value p)) (value q) (value (horner j r s)))
      by_first_test h false e = by_second_test h (ltb j i) refl e

  sum_of_value : (s : Polynomial) → Adds (sum_of s) s
  sum_of_value (whole a) t = add_whole_value a t
  sum_of_value (horner i p q) t = add_horner_value i p q (sum_of p) (sum_of q) (sum_of_value p) (sum_of_value q) t

  multiply_each_value : (a : ℤ) (t : Polynomial) → value (multiply_each a t) ≡ ops.mul (ops.int a) (value t)
  multiply_each_value a (whole b) = laws.int_mul a b
  multiply_each_value a (horner j p q) =
      ap₂ (λ x y. ops.add (ops.mul (at j) x) y) (multiply_each_value a p) (multiply_each_value a q)
      ∙ ap (λ t. ops.add t (ops.mul (ops.int a) (value q))) (mul_left_comm ops laws (at j) (ops.int a) (value p))
      ∙ sym (laws.mul_add (ops.int a) (ops.mul (at j) (value p)) (value q))

  multiple_of_value : (a : ℤ) (t : Polynomial) → value (multiple_of a t) ≡ ops.mul (ops.int a) (value t)
  multiple_of_value (pos zero) t = sym (zero_mul ops laws (value t))
  multiple_of_value (pos (suc n)) t = multiply_each_value (pos (suc n)) t
  multiple_of_value (negsuc n) t = multiply_each_value (negsuc n) t

  times_variable_value : (i : ℕ) (t : Polynomial) → value (times_variable i t) ≡ ops.mul (at i) (value t)
  times_variable_value i (whole c) = horner_form_value i (whole c) (whole (pos zero)) ∙ laws.add_zero (ops.mul (at i) (ops.int c))
  times_variable_value i (horner j p q) = by_test (ltb j i) (times_variable_value i p) (times_variable_value i q)
    where
      by_test : (b : Bool) → value (times_variable i p) ≡ ops.mul (at i) (value p) → value (times_variable i q) ≡ ops.mul (at i) (value q)
          → value (elim b [ true ↦ horner j (times_variable i p) (times_variable i q) | false ↦ horner i (horner j p q) (whole (pos zero)) ]) ≡ ops.mul (at i) (value (horner j p q))
      by_test true hp hq =
          ap₂ (λ x y. ops.add (ops.mul (at j) x) y) hp hq
          ∙ ap (λ t. ops.add t (ops.mul (at i) (value q))) (mul_left_comm ops laws (at j) (at i) (value p))
          ∙ sym (laws.mul_add (at i) (ops.mul (at j) (value p)) (value q))
      by_test false hp hq = laws.add_zero (ops.mul (at i) (value (horner j p q)))

  product_of_value : (s t : Polynomial) → value (product_of s t) ≡ ops.mul (value s) (value t)
  product_of_value (whole a) t = multiple_of_value a t
  product_of_value (horner i p q) t =
      value (sum_of (times_variable i (product_of p t)) (product_of q t)) ≡⟨ sum_of_value (times_variable i (product_of p t)) (product_of q t) ⟩
      ops.add (value (times_variable i (product_of p t))) (value (product_of q t)) ≡⟨ ap₂ ops.add (times_variable_value i (product_of p t) ∙ ap (ops.mul (at i)) (product_of_value p t) ∙ sym (laws.mul_assoc (at i) (value p) (value t))) (product_of_value q t) ⟩
      ops.add (ops.mul (ops.mul (at i) (value p)) (value t)) (ops.mul (value q) (value t)) ≡⟨ sym (add_mul ops laws (ops.mul (at i) (value p)) (value q) (value t)) ⟩
      ops.mul (value (horner i p q)) (value t) ∎

  opposite_value : (t : Polynomial) → value (multiple_of (negsuc 0) t) ≡ ops.neg (value t)
  opposite_value t = multiple_of_value (negsuc 0) t ∙ neg_one_mul ops laws (value t)

  normal_form_value : (e : Expression) → value (normal_form e) ≡ value_of ops at e
  normal_form_value (variable i) = laws.add_zero (ops.mul (at i) (ops.int (pos 1))) ∙ laws.mul_one (at i)
  normal_form_value (constant c) = refl
  normal_form_value (plus e f) = sum_of_value (normal_form e) (normal_form f) ∙ ap₂ ops.add (normal_form_value e) (normal_form_value f)
  normal_form_value (minus e f) =
      sum_of_value (normal_form e) (multiple_of (negsuc 0) (normal_form f))
      ∙ ap₂ ops.add (normal_form_value e) (opposite_value (normal_form f) ∙ ap ops.neg (normal_form_value f))
      ∙ sym (laws.sub_is (value_of ops at e) (value_of ops at f))
  normal_form_value (times e f) = product_of_value (normal_form e) (normal_form f) ∙ ap₂ ops.mul (normal_form_value e) (normal_form_value f)
  normal_form_value (opposite e) = opposite_value (normal_form e) ∙ ap ops.neg (normal_form_value e)

  vanishing_value : (p : Polynomial) → Vanishes p → value p ≡ nought ops laws
  vanishing_value (whole (pos zero)) h = refl
  vanishing_value (whole (pos (suc n))) h = elim h [ ]
  vanishing_value (whole (negsuc n)) h = elim h [ ]
  vanishing_value (horner i p q) h = elim h [ ]

  -- expressions that come to the same polynomial have the same value
  pub same_value : (e f : Expression) → Agree e f → value_of ops at e ≡ value_of ops at f
  same_value e f h =
      equal_of_difference ops laws (value_of ops at e) (value_of ops at f) (sym (normal_form_value (minus e f)) ∙ vanishing_value (normal_form (minus e f)) h)
