-- A whole number of steps, from what is at least half a step more.
use Rattle.std.proofs.Common.{◌≡◌, ◌∙◌, ap, ℕ, ℤ, pos, negsuc, ◌*◌, ◌^◌, ◌≤◌, ◌+ℤ◌, ◌*ℤ◌, ◌<ℤ◌, ◌≤ℤ◌, arith, FitsSigned, mul-le-mul}
use Rattle.std.proofs.lemmas.Int.{ints, to_z-of_z, unsigned_abs-mul, fits_signed_from_abs}
use Rattle.std.specs.Prelude.{unsigned_abs}
use Rattle.std.specs.Int.{w128, int_div_euclid, cast_signed, cast_unsigned}
use Rattle.number_rules.specs.Rounded.{IsRounded, steps_of_one}

-- in 128 bits, as the code computes it
abbrev handed : ℤ → ℤ
handed z = cast_signed w128 (cast_unsigned w128 z)

floor : (z k : ℤ) → k ≡ int_div_euclid z (pos 1000000000000000000)
    → ((k *ℤ pos 1000000000000000000) ≤ℤ z) × (z <ℤ (k *ℤ pos 1000000000000000000 +ℤ pos 1000000000000000000))
floor (pos a) k e = (omega (arith, ints, e), omega (arith, ints, e))
floor (negsuc a) k e = (omega (arith, ints, e), omega (arith, ints, e))

half_more : (z k : ℤ) → k ≡ int_div_euclid (z +ℤ pos 500000000000000000) (pos 1000000000000000000) → IsRounded z steps_of_one k
half_more z k e = let f = floor (z +ℤ pos 500000000000000000) k e in (omega (arith, ints, f.0), omega (arith, ints, f.1))

product_fits : (n : ℕ) (near : ℤ) → n ≤ 1000000 → unsigned_abs near ≤ 2 ^ 30 * steps_of_one → unsigned_abs (pos n *ℤ near) ≤ 1000000 * (2 ^ 30 * steps_of_one)
product_fits n near h j = omega (arith, unsigned_abs-mul (pos n) near, mul-le-mul h j)

pub nearest : (n : ℕ) (near from k : ℤ) → n ≤ 1000000 → unsigned_abs near ≤ 2 ^ 30 * steps_of_one → FitsSigned w128 near → FitsSigned w128 k → from ≡ pos n
    → k ≡ int_div_euclid (handed (handed (handed from *ℤ handed near) +ℤ pos 500000000000000000)) (pos 1000000000000000000) → IsRounded (pos n *ℤ near) steps_of_one (handed k)
nearest n near from k h j near_fits k_fits from_is e =
    let size = product_fits n near h j in
    let n_fits : FitsSigned w128 (pos n) = fits_signed_from_abs w128 (pos n) (omega (arith, h)) in
    let fits : FitsSigned w128 (pos n *ℤ near) = fits_signed_from_abs w128 (pos n *ℤ near) (omega (arith, size)) in
    let sum_fits : FitsSigned w128 (pos n *ℤ near +ℤ pos 500000000000000000) = fits_signed_from_abs w128 (pos n *ℤ near +ℤ pos 500000000000000000) (omega (arith, ints, size)) in
    half_more (pos n *ℤ near) (handed k) (to_z-of_z w128 k k_fits ∙ e ∙ ap (λ z. int_div_euclid z (pos 1000000000000000000)) (simp (from_is, to_z-of_z)))
