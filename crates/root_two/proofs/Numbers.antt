-- Numbers over √k from their whole numbers.
use Rattle.std.proofs.Common.{◌≡◌, ◌∙◌, sym, ap, subst, arith, ℤ, pos, ◌<ℤ◌, ◌+ℤ◌, ◌*ℤ◌, [], ◌∷◌}
use borrow.Author.Differences.{ints}
use Rattle.std.specs.declared.cmp.Ordering.TheVariants.{Equal}
use Rattle.algebra.specs.Comparison.{compare}
use Rattle.algebra.specs.LowestTerms.{Parts, IsReduced}
use Rattle.algebra.specs.NumberFormulas.{difference, quotient, parts_sign}
use Rattle.algebra.specs.Surd.{Surd}
use Rattle.algebra.proofs.LowestForms.{parts_path, greater_of_positive}
use Rattle.algebra.proofs.NumberParts.{product_positive}
use Rattle.algebra.proofs.Numbers.{number_once}
use Rattle.algebra.proofs.Integers.{integers}
use Rattle.algebra.proofs.Solvers.{reads_integers, ring_from, multiple, no_equation, sign_of_multiple}
use Rattle.algebra.proofs.SurdRing.{surd_path}
use Rattle.algebra.proofs.Surds.{surds}
use Rattle.root_two.specs.declared.radicand.Radicand.{Ghosts}
use Rattle.root_two.specs.declared.number.Root.{Root}
use Rattle.root_two.specs.declared.whole.RootRing.{RootRing}
use Rattle.root_two.specs.Roots.{nonsquare, root_parts, root_holds, root_numbers, whole_pair, whole_holds}

pub positive_as : (m n : ℤ) → m ≡ n → pos 0 <ℤ n → pos 0 <ℤ m
positive_as m n e h = subst (λ (z : ℤ). pos 0 <ℤ z) (sym e) h

-- a whole number times a + b√k, where the parts stand crosswise
crossed : (k a q b r c d : ℤ) → a *ℤ r ≡ b *ℤ q → r *ℤ a +ℤ k *ℤ (pos 0 *ℤ c) ≡ q *ℤ b +ℤ k *ℤ (pos 0 *ℤ d)
crossed k a q b r c d e =
    ring_from integers (k ∷ a ∷ q ∷ b ∷ r ∷ c ∷ d ∷ [])
    (multiple (pos 1) (search reads_integers depth 40 fits 50000) (search reads_integers depth 40 fits 50000) (search reads_integers depth 40 fits 50000) e no_equation)
    (search reads_integers depth 40 fits 50000) (search reads_integers depth 40 fits 50000) tt

module _ {R : Type 0} (radicand : Ghosts R) where
  -- the number x that was reduced from the parts that the formula gives is the number y that the formula stands for
  pub same_number : (formula : Parts) (a b q : ℤ) (x y : Root R radicand) → a ≡ formula.a → b ≡ formula.b → q ≡ formula.q → pos 0 <ℤ formula.q
      → IsReduced (record { a = a; b = b; q = q }) (root_parts x) → IsReduced formula (root_parts y) → x ≡ y
  same_number formula a b q x y in_a in_b in_q positive reduced is =
      number_once radicand.K root_parts formula x y (root_holds radicand) positive
      (subst (λ (p : Parts). IsReduced p (root_parts x)) (parts_path (record { a = a; b = b; q = q }) formula in_a in_b in_q) reduced) is

  -- lowest terms have the sign of the number before
  reduced_sign : (p r : Parts) → pos 0 <ℤ p.q → IsReduced p r → parts_sign radicand.K p ≡ parts_sign radicand.K r
  reduced_sign p r positive is =
      let K = surds radicand.K (nonsquare radicand) in
      let before : Surd ℤ = record { a = p.a; b = p.b } in
      let after : Surd ℤ = record { a = r.a; b = r.b } in
      let crosswise : K.mul (K.int r.q) before ≡ K.mul (K.int p.q) after
      = surd_path (K.mul (K.int r.q) before) (K.mul (K.int p.q) after) (crossed (pos radicand.K) p.a p.q r.a r.q p.b r.b is.same.rational) (omega (arith, ints, is.same.irrational)) in
      sym (sign_of_multiple K (K.int r.q) before (K.sign_int r.q ∙ greater_of_positive r.q is.lowest.positive))
      ∙ ap K.sign crosswise ∙ sign_of_multiple K (K.int p.q) after (K.sign_int p.q ∙ greater_of_positive p.q positive)

  pub sign_of_difference : (x y : Root R radicand) → parts_sign radicand.K (difference (root_parts x) (root_parts y)) ≡ compare (root_numbers radicand).ring x y
  sign_of_difference x y =
      reduced_sign (difference (root_parts x) (root_parts y)) (root_parts ((root_numbers radicand).sub x y))
      (product_positive x.q y.q x.lowest.lowest.positive y.lowest.lowest.positive) ((root_numbers radicand).difference_is x y)
      ∙ sym ((root_numbers radicand).sign_is ((root_numbers radicand).sub x y))

  pub quotient_as : (x y : Root R radicand) (formula : Parts) → quotient radicand.K (root_parts x) (root_parts y) ≡ formula → ¬ ((root_numbers radicand).sign y ≡ Equal)
      → IsReduced formula (root_parts ((root_numbers radicand).div x y))
  quotient_as x y formula e divisor = subst (λ (p : Parts). IsReduced p (root_parts ((root_numbers radicand).div x y))) e ((root_numbers radicand).quotient_is x y divisor)

  -- the whole number with the two parts that the formula gives
  pub whole_number : (x y : RootRing R) (formula : Surd ℤ) → x.a ≡ formula.a → x.b ≡ formula.b → whole_pair y ≡ formula → x ≡ y
  whole_number x y formula in_a in_b is = (whole_holds radicand).once x y (surd_path (whole_pair x) formula in_a in_b ∙ sym is)
