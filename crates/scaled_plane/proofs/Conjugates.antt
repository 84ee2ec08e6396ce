-- A number a + b√k times its conjugate is a whole number without a root.
use Prim.Native.Nat.{ℕ, ◌+◌, ◌*◌, ◌≤◌, ◌^◌}
use mathlib.Core.Path.{◌≡◌, sym, ap, subst, ◌∙◌}
use mathlib.Core.List.{[], ◌∷◌}
use native.Mathlib.Nat.{mul-le-mul}
use lib.IntN.{ℤ, pos, ◌+ℤ◌, ◌-ℤ◌, ◌*ℤ◌, neg_ℤ}
use Rattle.std.proofs.Common.{arith, inl, inr}
use Rattle.std.proofs.lemmas.Int.{ints, to_z-of_z, fits_signed_from_abs}
use Rattle.std.specs.Prelude.{◌⊎◌, unsigned_abs, FitsSigned}
use Rattle.std.specs.Int.{w128}
use Rattle.std.proofs.Common.{to_z, of_z}
use Rattle.std.specs.Ordering.{ordering_reverse}
use Rattle.std.specs.declared.cmp.Ordering.TheVariants.{Less, Equal, Greater}
use Rattle.algebra.specs.Surd.{Surd}
use Rattle.algebra.specs.WholeSurds.{HoldsSurds, SurdNumbers}
use Rattle.algebra.proofs.Integers.{integers}
use Rattle.algebra.proofs.Solvers.{reads_integers, ring, sign_neg}
use Rattle.algebra.proofs.SurdRing.{surd_path}
use Rattle.exact_number.proofs.WholeSizes.{whole_sized}
use Rattle.exact_number.specs.Sizes.{whole_size}
use Rattle.scaled_plane.specs.Exact.{IsConjugate}

no_root : (a b : ℤ) → a *ℤ (pos 0 -ℤ b) +ℤ b *ℤ a ≡ pos 0
no_root a b = ring integers (a ∷ b ∷ []) (search reads_integers depth 40 fits 50000) (search reads_integers depth 40 fits 50000) tt

no_root_either : (a b : ℤ) → a *ℤ b +ℤ b *ℤ (pos 0 -ℤ a) ≡ pos 0
no_root_either a b = ring integers (a ∷ b ∷ []) (search reads_integers depth 40 fits 50000) (search reads_integers depth 40 fits 50000) tt

opposite_size : (a : ℤ) → unsigned_abs (pos 0 -ℤ a) ≡ unsigned_abs a
opposite_size a = omega (arith, ints)

conjugate_parts : (a b : ℤ) → IsConjugate (record { a = a; b = b }) (record { a = a; b = pos 0 -ℤ b })
conjugate_parts a b = record { rational = no_root a b; same_size = omega (arith, opposite_size b) }

pub conjugate_is : (a b : ℤ) (x y : Surd ℤ) → record { a = a; b = b } ≡ x → y ≡ record { a = a; b = pos 0 -ℤ b } → IsConjugate x y
conjugate_is a b x y e f = subst (λ (z : Surd ℤ). IsConjugate z y) e (subst (IsConjugate (record { a = a; b = b })) (sym f) (conjugate_parts a b))

opposite_parts : (a b : ℤ) → IsConjugate (record { a = a; b = b }) (record { a = pos 0 -ℤ a; b = b })
opposite_parts a b = record { rational = no_root_either a b; same_size = omega (arith, opposite_size a) }

pub opposite_is : (a b : ℤ) (x y : Surd ℤ) → record { a = a; b = b } ≡ x → y ≡ record { a = pos 0 -ℤ a; b = b } → IsConjugate x y
opposite_is a b x y e f = subst (λ (z : Surd ℤ). IsConjugate z y) e (subst (IsConjugate (record { a = a; b = b })) (sym f) (opposite_parts a b))

-- ---- as they are made of parts in 128 bits

small_opposite : (a b : ℤ) (w : Surd ℤ) → record { a = a; b = b } ≡ w → whole_size w ≤ 9 * 2 ^ 47
    → FitsSigned w128 (pos 0 -ℤ a) × FitsSigned w128 (pos 0 -ℤ b)
small_opposite a b w e small =
    let size : unsigned_abs a + 2 * unsigned_abs b ≡ whole_size w = ap (λ (x : Surd ℤ). whole_size x) e in (
      fits_signed_from_abs w128 (pos 0 -ℤ a) (omega (arith, size, small, opposite_size a)),
      fits_signed_from_abs w128 (pos 0 -ℤ b) (omega (arith, size, small, opposite_size b)),
    )

pub conjugate_made : (a b : ℤ) (w y : Surd ℤ) → FitsSigned w128 a → FitsSigned w128 b → record { a = a; b = b } ≡ w → whole_size w ≤ 9 * 2 ^ 47
    → y ≡ record { a = to_z w128 (of_z w128 a); b = to_z w128 (of_z w128 (pos 0 -ℤ to_z w128 (of_z w128 b))) } → y ≡ record { a = a; b = pos 0 -ℤ b }
conjugate_made a b w y ha hb e small h =
    rw (to_z-of_z w128 a ha, to_z-of_z w128 b hb, to_z-of_z w128 (pos 0 -ℤ b) (small_opposite a b w e small).1) at h

pub opposite_made : (a b : ℤ) (w y : Surd ℤ) → FitsSigned w128 a → FitsSigned w128 b → record { a = a; b = b } ≡ w → whole_size w ≤ 9 * 2 ^ 47
    → y ≡ record { a = to_z w128 (of_z w128 (pos 0 -ℤ to_z w128 (of_z w128 a))); b = to_z w128 (of_z w128 b) } → y ≡ record { a = pos 0 -ℤ a; b = b }
opposite_made a b w y ha hb e small h =
    rw (to_z-of_z w128 a ha, to_z-of_z w128 b hb, to_z-of_z w128 (pos 0 -ℤ a) (small_opposite a b w e small).0) at h

module _ {C : Type 0} {k : ℕ} {surd : C → Surd ℤ} (N : SurdNumbers k surd) (holds : HoldsSurds k surd) where
  -- the product as the whole number that its first part is
  pub product_rational : (w u : C) (n m : ℤ) → IsConjugate (surd w) (surd u) → record { a = n; b = m } ≡ surd (N.mul w u) → N.mul w u ≡ N.int n
  product_rational w u n m h e =
      holds.once (N.mul w u) (N.int n)
      (surd_path (surd (N.mul w u)) (surd (N.int n))
      (ap (λ (x : Surd ℤ). x.a) (sym e) ∙ sym (ap (λ (x : Surd ℤ). x.a) (N.whole_is n)))
      (ap (λ (x : Surd ℤ). x.b) (N.product_is w u) ∙ h.rational ∙ sym (ap (λ (x : Surd ℤ). x.b) (N.whole_is n))))

  pub product_within : (k_at_most : k ≤ 3) (w u : C) (n m : ℤ) → IsConjugate (surd w) (surd u) → record { a = n; b = m } ≡ surd (N.mul w u)
      → whole_size (surd w) ≤ 9 * 2 ^ 47 → unsigned_abs n ≤ 81 * 2 ^ 94
  product_within k_at_most w u n m h e small =
      let size : unsigned_abs n + 2 * unsigned_abs m ≡ whole_size (surd (N.mul w u)) = ap (λ (x : Surd ℤ). whole_size x) e in
      let product = (whole_sized k surd N k_at_most).size_mul w u in
      let other : whole_size (surd u) ≤ 9 * 2 ^ 47 = omega (arith, h.same_size, small) in
      omega (arith, size, product, mul-le-mul small other)

  zero_number : (w : C) (a b : ℤ) → record { a = a; b = b } ≡ surd w → a ≡ pos 0 → b ≡ pos 0 → N.sign w ≡ Equal
  zero_number w a b e f g =
      let is : w ≡ N.int (pos 0)
      = holds.once w (N.int (pos 0)) (sym e ∙ surd_path (record { a = a; b = b }) (record { a = pos 0; b = pos 0 }) f g ∙ sym (N.whole_is (pos 0))) in
      ap N.sign is ∙ N.sign_int (pos 0)

  zero_part : (b : ℤ) → pos 0 -ℤ b ≡ pos 0 → b ≡ pos 0
  zero_part b e = omega (arith, ints, e)

  -- where the conjugate isn't above zero its opposite is
  pub other_positive : (w u v : C) (a b : ℤ) → N.sign w ≡ Greater → record { a = a; b = b } ≡ surd w → surd u ≡ record { a = a; b = pos 0 -ℤ b }
      → surd v ≡ record { a = pos 0 -ℤ a; b = b } → (N.sign u ≡ Less) ⊎ (N.sign u ≡ Equal) → N.sign v ≡ Greater
  other_positive w u v a b h e f g (inl below) =
      let is : v ≡ N.neg u
      = holds.once v (N.neg u)
      (g ∙ surd_path (record { a = pos 0 -ℤ a; b = b }) (record { a = neg_ℤ a; b = neg_ℤ (pos 0 -ℤ b) }) (omega (arith, ints)) (omega (arith, ints))
      ∙ sym (ap (λ (x : Surd ℤ). record { a = neg_ℤ x.a; b = neg_ℤ x.b }) f) ∙ sym (N.opposite_is u)) in
      ap N.sign is ∙ sign_neg N.ring u ∙ ap ordering_reverse below
  other_positive w u v a b h e f g (inr zero) =
      let none : record { a = a; b = pos 0 -ℤ b } ≡ record { a = pos 0; b = pos 0 } = sym f ∙ ap surd (N.sign_zero u zero) ∙ N.whole_is (pos 0) in
      let no : Greater ≡ Equal = sym h ∙ zero_number w a b e (ap (λ (x : Surd ℤ). x.a) none) (zero_part b (ap (λ (x : Surd ℤ). x.b) none)) in
      absurd (cc)
