-- A quotient of numbers a + b√k is one number in lowest terms.
use Rattle.std.proofs.Common.{◌≡◌, ◌∙◌, ℕ, ap, subst, sym}
use Rattle.std.specs.Prelude.{ℤ, pos, ◌+ℤ◌, ◌*ℤ◌, ◌<ℤ◌}
use mathlib.Core.List.{[], ◌∷◌}
use Rattle.std.specs.declared.cmp.Ordering.TheVariants.{Equal, Greater}
use Rattle.algebra.specs.Integers.{int_ops}
use Rattle.algebra.specs.LowestTerms.{Parts}
use Rattle.algebra.specs.NumberField.{IsFraction}
use Rattle.algebra.specs.Order.{int_sign, product_sign}
use Rattle.algebra.specs.Surd.{Surd, surd_mul, surd_int, surd_sign}
use Rattle.algebra.specs.WholeSurds.{SurdNumbers}
use Rattle.algebra.proofs.FractionsOfSurds.{fraction_lowest, fraction_once}
use Rattle.algebra.proofs.IntegerRing.{int_ring}
use Rattle.algebra.proofs.Integers.{integers}
use Rattle.algebra.proofs.LowestForms.{greater_of_positive}
use Rattle.algebra.proofs.Solvers.{reads_integers, ring}
use Rattle.algebra.proofs.SurdRing.{surd_path, surd_ring}
use Rattle.scaled_plane.specs.Exact.{IsQuotient}

whole_a : (j a b c : ℤ) → a *ℤ c +ℤ j *ℤ (b *ℤ pos 0) ≡ a *ℤ c
whole_a j a b c = ring integers (j ∷ a ∷ b ∷ c ∷ []) (search reads_integers depth 40 fits 50000) (search reads_integers depth 40 fits 50000) tt

whole_b : (a b c : ℤ) → a *ℤ pos 0 +ℤ b *ℤ c ≡ b *ℤ c
whole_b a b c = ring integers (a ∷ b ∷ c ∷ []) (search reads_integers depth 40 fits 50000) (search reads_integers depth 40 fits 50000) tt

over_a : (j a b d e c : ℤ) → (a *ℤ c) *ℤ d +ℤ j *ℤ ((b *ℤ c) *ℤ e) ≡ (a *ℤ d +ℤ j *ℤ (b *ℤ e)) *ℤ c
over_a j a b d e c = ring integers (j ∷ a ∷ b ∷ d ∷ e ∷ c ∷ []) (search reads_integers depth 40 fits 50000) (search reads_integers depth 40 fits 50000) tt

over_b : (a b d e c : ℤ) → (a *ℤ c) *ℤ e +ℤ (b *ℤ c) *ℤ d ≡ (a *ℤ e +ℤ b *ℤ d) *ℤ c
over_b a b d e c = ring integers (a ∷ b ∷ d ∷ e ∷ c ∷ []) (search reads_integers depth 40 fits 50000) (search reads_integers depth 40 fits 50000) tt

module _ (k : ℕ) where
  abbrev times : Surd ℤ → Surd ℤ → Surd ℤ
  times x y = surd_mul int_ops (pos k) x y

  assoc : (x y z : Surd ℤ) → times (times x y) z ≡ times x (times y z)
  assoc = (surd_ring int_ops int_ring (pos k)).mul_assoc

  comm : (x y : Surd ℤ) → times x y ≡ times y x
  comm = (surd_ring int_ops int_ring (pos k)).mul_comm

  -- a fraction stays what it is where both numbers are multiplied by a third
  multiplied : (n d e : Surd ℤ) (r : Parts) → IsFraction k n d r → IsFraction k (times n e) (times d e) r
  multiplied n d e r h =
      let top : Surd ℤ = record { a = r.a; b = r.b } in
      let bottom : Surd ℤ = record { a = r.q; b = pos 0 } in
      sym (assoc top d e) ∙ ap (λ x. times x e) h ∙ assoc n bottom e ∙ ap (times n) (comm bottom e) ∙ sym (assoc n e bottom)

  abbrev over : Surd ℤ → ℤ → Surd ℤ
  over w c = record { a = w.a *ℤ c; b = w.b *ℤ c }

  over_is : (w : Surd ℤ) (c : ℤ) → times w (surd_int int_ops (pos k) c) ≡ over w c
  over_is w c = surd_path (times w (surd_int int_ops (pos k) c)) (over w c) (whole_a (pos k) w.a w.b c) (whole_b w.a w.b c)

  over_times : (w v : Surd ℤ) (c : ℤ) → times (over w c) v ≡ over (times w v) c
  over_times w v c = surd_path (times (over w c) v) (over (times w v) c) (over_a (pos k) w.a w.b v.a v.b c) (over_b w.a w.b v.a v.b c)

module _ {W : Type 0} {k : ℕ} {surd : W → Surd ℤ} (numbers : SurdNumbers k surd) (common : ℤ) (positive : pos 0 <ℤ common) where
  -- a divisor above zero, times the common denominator, isn't zero
  not_zero : (w : W) → numbers.sign w ≡ Greater → ¬ (surd_sign int_ops (pos k) int_sign (over k (surd w) common) ≡ Equal)
  not_zero w above zero =
      let whole = numbers.int common in
      let times_is : surd (numbers.mul w whole) ≡ over k (surd w) common
      = numbers.product_is w whole ∙ ap (times k (surd w)) (numbers.whole_is common) ∙ over_is k (surd w) common in
      let sign_is : numbers.sign (numbers.mul w whole) ≡ Greater
      = numbers.sign_mul w whole ∙ ap (λ s. product_sign s (numbers.sign whole)) above ∙ ap (product_sign Greater) (numbers.sign_int common ∙ greater_of_positive common positive) in
      let no : Greater ≡ Equal = sym sign_is ∙ numbers.sign_is (numbers.mul w whole) ∙ ap (surd_sign int_ops (pos k) int_sign) times_is ∙ zero in cc

  -- x / w and y / v are one number, where x v is y w
  pub one_quotient : (x w y v : W) (r s : Parts) → numbers.sign w ≡ Greater → numbers.sign v ≡ Greater → numbers.mul x v ≡ numbers.mul y w
      → IsQuotient k (surd x) (surd w) common r → IsQuotient k (surd y) (surd v) common s → r ≡ s
  one_quotient x w y v r s w_above v_above same h j =
      let n = times k (surd x) (surd v) in
      let d = over k (surd (numbers.mul w v)) common in
      let tops : times k (surd y) (surd w) ≡ n = sym (numbers.product_is y w) ∙ ap surd (sym same) ∙ numbers.product_is x v in
      let of_first : times k (over k (surd w) common) (surd v) ≡ d
      = over_times k (surd w) (surd v) common ∙ ap (λ z. over k z common) (sym (numbers.product_is w v)) in
      let of_second : times k (over k (surd v) common) (surd w) ≡ d
      = over_times k (surd v) (surd w) common ∙ ap (λ z. over k z common) (comm k (surd v) (surd w) ∙ sym (numbers.product_is w v)) in
      let first : IsFraction k n d r
      = subst (λ z. IsFraction k n z r) of_first (multiplied k (surd x) (over k (surd w) common) (surd v) r h.fraction) in
      let second : IsFraction k n d s
      = subst (λ z. IsFraction k n z s) of_second (subst (λ z. IsFraction k z (times k (over k (surd v) common) (surd w)) s) tops (multiplied k (surd y) (over k (surd v) common) (surd w) s j.fraction)) in
      let above : numbers.sign (numbers.mul w v) ≡ Greater = numbers.sign_mul w v ∙ ap (λ s. product_sign s (numbers.sign v)) w_above ∙ ap (product_sign Greater) v_above in
      fraction_once k n d (not_zero (numbers.mul w v) above) r s h.lowest j.lowest first second

  -- what x / w is, y / v is
  pub quotient_moved : (x w y v : W) (r : Parts) → numbers.sign w ≡ Greater → numbers.sign v ≡ Greater → numbers.mul x v ≡ numbers.mul y w
      → IsQuotient k (surd x) (surd w) common r → IsQuotient k (surd y) (surd v) common r
  quotient_moved x w y v r w_above v_above same h =
      let some = fraction_lowest k (surd y) (over k (surd v) common) (not_zero v v_above) in
      let of : IsQuotient k (surd y) (surd v) common some.0 = record { lowest = some.1.0; fraction = some.1.1 } in
      subst (IsQuotient k (surd y) (surd v) common) (sym (one_quotient x w y v r some.0 w_above v_above same h of)) of
