-- What follows from the laws of a commutative ring.
use mathlib.Core.Path.{◌≡◌, sym, ap, ap₂, ◌∙◌, ◌≡⟨◌⟩◌, ◌∎}
use lib.IntN.{pos, negsuc}
use Rattle.algebra.specs.Ring.{Operations, IsRing}

module _ {A : Type 0} (ops : Operations A) (laws : IsRing ops) where
  abbrev pub nought : A
  nought = ops.int (pos 0)

  pub zero_add : (a : A) → ops.add nought a ≡ a
  zero_add a = laws.add_comm nought a ∙ laws.add_zero a

  pub neg_add : (a : A) → ops.add (ops.neg a) a ≡ nought
  neg_add a = laws.add_comm (ops.neg a) a ∙ laws.add_neg a

  pub add_mul : (a b c : A) → ops.mul (ops.add a b) c ≡ ops.add (ops.mul a c) (ops.mul b c)
  add_mul a b c = laws.mul_comm (ops.add a b) c ∙ laws.mul_add c a b ∙ ap₂ ops.add (laws.mul_comm c a) (laws.mul_comm c b)

  pub add_left_comm : (a b c : A) → ops.add a (ops.add b c) ≡ ops.add b (ops.add a c)
  add_left_comm a b c = sym (laws.add_assoc a b c) ∙ ap (λ t. ops.add t c) (laws.add_comm a b) ∙ laws.add_assoc b a c

  pub add_swap : (a b c d : A) → ops.add (ops.add a b) (ops.add c d) ≡ ops.add (ops.add a c) (ops.add b d)
  add_swap a b c d = laws.add_assoc a b (ops.add c d) ∙ ap (ops.add a) (add_left_comm b c d) ∙ sym (laws.add_assoc a c (ops.add b d))

  pub mul_left_comm : (a b c : A) → ops.mul a (ops.mul b c) ≡ ops.mul b (ops.mul a c)
  mul_left_comm a b c = sym (laws.mul_assoc a b c) ∙ ap (λ t. ops.mul t c) (laws.mul_comm a b) ∙ laws.mul_assoc b a c

  -- what is added last is what a sum is more than a
  from_sum : (a b c : A) → ops.add a b ≡ c → b ≡ ops.add (ops.neg a) c
  from_sum a b c h =
      b ≡⟨ sym (zero_add b) ⟩
      ops.add nought b ≡⟨ ap (λ t. ops.add t b) (sym (neg_add a)) ⟩
      ops.add (ops.add (ops.neg a) a) b ≡⟨ laws.add_assoc (ops.neg a) a b ⟩
      ops.add (ops.neg a) (ops.add a b) ≡⟨ ap (ops.add (ops.neg a)) h ⟩
      ops.add (ops.neg a) c ∎

  pub mul_zero : (a : A) → ops.mul a nought ≡ nought
  mul_zero a =
      from_sum (ops.mul a nought) (ops.mul a nought) (ops.mul a nought) (sym (laws.mul_add a nought nought) ∙ ap (ops.mul a) (laws.add_zero nought))
      ∙ neg_add (ops.mul a nought)

  pub zero_mul : (a : A) → ops.mul nought a ≡ nought
  zero_mul a = laws.mul_comm nought a ∙ mul_zero a

  pub neg_one_mul : (a : A) → ops.mul (ops.int (negsuc 0)) a ≡ ops.neg a
  neg_one_mul a =
      from_sum a (ops.mul (ops.int (negsuc 0)) a) nought
      (ops.add a (ops.mul (ops.int (negsuc 0)) a) ≡⟨ ap (λ t. ops.add t (ops.mul (ops.int (negsuc 0)) a)) (sym (laws.mul_one a) ∙ laws.mul_comm a (ops.int (pos 1))) ⟩
      ops.add (ops.mul (ops.int (pos 1)) a) (ops.mul (ops.int (negsuc 0)) a) ≡⟨ sym (add_mul (ops.int (pos 1)) (ops.int (negsuc 0)) a) ⟩
      ops.mul (ops.add (ops.int (pos 1)) (ops.int (negsuc 0))) a ≡⟨ ap (λ t. ops.mul t a) (sym (laws.int_add (pos 1) (negsuc 0))) ⟩
      ops.mul nought a ≡⟨ zero_mul a ⟩
      nought ∎)
      ∙ laws.add_zero (ops.neg a)

  pub equal_of_difference : (a b : A) → ops.sub a b ≡ nought → a ≡ b
  equal_of_difference a b h =
      a ≡⟨ sym (laws.add_zero a) ⟩
      ops.add a nought ≡⟨ ap (ops.add a) (sym (neg_add b)) ⟩
      ops.add a (ops.add (ops.neg b) b) ≡⟨ sym (laws.add_assoc a (ops.neg b) b) ⟩
      ops.add (ops.add a (ops.neg b)) b ≡⟨ ap (λ t. ops.add t b) (sym (laws.sub_is a b) ∙ h) ⟩
      ops.add nought b ≡⟨ zero_add b ⟩
      b ∎

  pub difference_of_equal : (a b : A) → a ≡ b → ops.sub a b ≡ nought
  difference_of_equal a b h = laws.sub_is a b ∙ ap (λ t. ops.add t (ops.neg b)) h ∙ laws.add_neg b
