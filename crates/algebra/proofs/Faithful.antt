-- A type whose values stand for numbers of an ordered field, each number for one value nth_value most, and whose operations
-- and signs are the field's, is an ordered ring by equations.
use Prim.Native.Nat.{ℕ}
use mathlib.Core.Path.{◌≡◌, sym, ap₂, ◌∙◌}
use mathlib.Core.List.{List, [], ◌∷◌}
use lib.IntN.{ℤ, pos, ◌+ℤ◌, ◌*ℤ◌}
use Rattle.std.specs.declared.cmp.Ordering.{Ordering}
use Rattle.algebra.specs.Ring.{Operations, IsRing}
use Rattle.algebra.specs.Order.{IsOrdered, product_sign}
use Rattle.algebra.specs.OrderedField.{OrderedFieldUpTo}
use Rattle.algebra.proofs.Expression.{Expression, variable, constant, plus, minus, times, opposite, value_of, nth_value}

-- `value` takes the operations and signs of C to those of the field
pub record IsFaithful {A C : Type 0} (same : A → A → Type 0) (F : OrderedFieldUpTo same) (value : C → A) (ops : Operations C) (sign : C → Ordering) : Type 0 where
  pub once : (x y : C) → same (value x) (value y) → x ≡ y
  pub int_is : (n : ℤ) → same (value (ops.int n)) (F.int n)
  pub add_is : (x y : C) → same (value (ops.add x y)) (F.add (value x) (value y))
  pub sub_is : (x y : C) → same (value (ops.sub x y)) (F.sub (value x) (value y))
  pub mul_is : (x y : C) → same (value (ops.mul x y)) (F.mul (value x) (value y))
  pub neg_is : (x : C) → same (value (ops.neg x)) (F.neg (value x))
  pub sign_is : (x : C) → sign x ≡ F.sign (value x)

module _ {A C : Type 0} (same : A → A → Type 0) (F : OrderedFieldUpTo same) (value : C → A) (ops : Operations C) (sign : C → Ordering) (H : IsFaithful same F value ops sign) where
  eval_is : (ρ : ℕ → C) (e : Expression) → same (value (value_of ops ρ e)) (value_of F.ops (λ i. value (ρ i)) e)
  eval_is ρ (variable i) = F.reflexive (value (ρ i))
  eval_is ρ (constant n) = H.int_is n
  eval_is ρ (plus a b) =
      F.transitive _ _ _ (H.add_is (value_of ops ρ a) (value_of ops ρ b)) (F.same_add _ _ _ _ (eval_is ρ a) (eval_is ρ b))
  eval_is ρ (minus a b) =
      F.transitive _ _ _ (H.sub_is (value_of ops ρ a) (value_of ops ρ b)) (F.same_sub _ _ _ _ (eval_is ρ a) (eval_is ρ b))
  eval_is ρ (times a b) =
      F.transitive _ _ _ (H.mul_is (value_of ops ρ a) (value_of ops ρ b)) (F.same_mul _ _ _ _ (eval_is ρ a) (eval_is ρ b))
  eval_is ρ (opposite a) = F.transitive _ _ _ (H.neg_is (value_of ops ρ a)) (F.same_neg _ _ (eval_is ρ a))

  -- an equation of the field, for the values, is one of C
  law : (xs : List C) (l r : Expression) → same (value_of F.ops (λ i. value (nth_value ops xs i)) l) (value_of F.ops (λ i. value (nth_value ops xs i)) r)
      → value_of ops (nth_value ops xs) l ≡ value_of ops (nth_value ops xs) r
  law xs l r h =
      H.once _ _ (F.transitive _ _ _ (eval_is (nth_value ops xs) l) (F.transitive _ _ _ h (F.symmetric _ _ (eval_is (nth_value ops xs) r))))

  pub faithful_ring : IsRing ops
  faithful_ring = record {
    add_assoc = λ x y z. law (x ∷ y ∷ z ∷ []) (plus (plus (variable 0) (variable 1)) (variable 2)) (plus (variable 0) (plus (variable 1) (variable 2))) (F.add_assoc (value x) (value y) (value z));
    add_comm = λ x y. law (x ∷ y ∷ []) (plus (variable 0) (variable 1)) (plus (variable 1) (variable 0)) (F.add_comm (value x) (value y));
    add_zero = λ x. law (x ∷ []) (plus (variable 0) (constant (pos 0))) (variable 0) (F.add_zero (value x));
    add_neg = λ x. law (x ∷ []) (plus (variable 0) (opposite (variable 0))) (constant (pos 0)) (F.add_neg (value x));
    sub_is = λ x y. law (x ∷ y ∷ []) (minus (variable 0) (variable 1)) (plus (variable 0) (opposite (variable 1))) (F.sub_is (value x) (value y));
    mul_assoc = λ x y z. law (x ∷ y ∷ z ∷ []) (times (times (variable 0) (variable 1)) (variable 2)) (times (variable 0) (times (variable 1) (variable 2))) (F.mul_assoc (value x) (value y) (value z));
    mul_comm = λ x y. law (x ∷ y ∷ []) (times (variable 0) (variable 1)) (times (variable 1) (variable 0)) (F.mul_comm (value x) (value y));
    mul_one = λ x. law (x ∷ []) (times (variable 0) (constant (pos 1))) (variable 0) (F.mul_one (value x));
    mul_add = λ x y z. law (x ∷ y ∷ z ∷ []) (times (variable 0) (plus (variable 1) (variable 2))) (plus (times (variable 0) (variable 1)) (times (variable 0) (variable 2))) (F.mul_add (value x) (value y) (value z));
    int_add = λ m n. law [] (constant (m +ℤ n)) (plus (constant m) (constant n)) (F.int_add m n);
    int_mul = λ m n. law [] (constant (m *ℤ n)) (times (constant m) (constant n)) (F.int_mul m n);
  }

  pub faithful_order : IsOrdered ops sign
  faithful_order = record {
    sign_int = λ n. H.sign_is (ops.int n) ∙ F.same_sign _ _ (H.int_is n) ∙ F.sign_int n;
    sign_zero = λ x h. H.once _ _ (F.transitive _ _ _ (F.sign_zero (value x) (sym (H.sign_is x) ∙ h)) (F.symmetric _ _ (H.int_is (pos 0))));
    sign_mul = λ x y. H.sign_is (ops.mul x y) ∙ F.same_sign _ _ (H.mul_is x y) ∙ F.sign_mul (value x) (value y) ∙ ap₂ product_sign (sym (H.sign_is x)) (sym (H.sign_is y));
    sign_add = λ s x y p q. H.sign_is (ops.add x y) ∙ F.same_sign _ _ (H.add_is x y) ∙ F.sign_add s (value x) (value y) (sym (H.sign_is x) ∙ p) (sym (H.sign_is y) ∙ q);
  }
