use Rattle.std.proofs.Common.{arith, ◌∙◌, sym, ap, subst, FitsSigned, pos, ℕ, ℤ, ◌≡◌, ◌≤◌, ◌^◌, ◌*ℤ◌, IsTrue, of_z, to_z}
use Rattle.std.specs.Prelude.{unsigned_abs, nat_eq, ◌↔◌}
use Rattle.std.specs.Int.{w128}
use Rattle.std.proofs.lemmas.Int.{ints, to_z-of_z, fits_signed_from_abs, unsigned_abs-mul}
use Rattle.std.proofs.lemmas.Bool.Decides.{nat_tests}
use Rattle.number_rules.proofs.nine.is_multiple.Goals as goal

equal : (m n : ℕ) → IsTrue (nat_eq m n) → m ≡ n
equal m n t = grind (arith, nat_tests)

same : (m n : ℕ) → m ≡ n → IsTrue (nat_eq m n)
same m n e = grind (arith, nat_tests)

both : (x y : ℤ) → FitsSigned w128 x → FitsSigned w128 y → IsTrue (nat_eq (of_z w128 x) (of_z w128 y)) ↔ (x ≡ y)
both x y x_fits y_fits =
    ((λ t. sym (to_z-of_z w128 x x_fits) ∙ ap (to_z w128) (equal (of_z w128 x) (of_z w128 y) t) ∙ to_z-of_z w128 y y_fits), (λ e. same (of_z w128 x) (of_z w128 y) (ap (of_z w128) e)))

pub returns : goal.returns
returns c =
    let a_fits : FitsSigned w128 c.args.a = c.ranges.a in
    let m_fits : FitsSigned w128 c.args.m = c.ranges.m in
    let q_fits : FitsSigned w128 c.args.q = c.ranges.q in
    let size : unsigned_abs (c.args.m *ℤ c.args.q) ≤ 2 ^ 125 = subst (λ (n : ℕ). n ≤ 2 ^ 125) (sym (unsigned_abs-mul c.args.m c.args.q)) c.requires.product in
    let left : FitsSigned w128 (pos 1000000000 *ℤ c.args.a) = fits_signed_from_abs w128 (pos 1000000000 *ℤ c.args.a) (omega (arith, ints, c.requires.a)) in
    let right : FitsSigned w128 (c.args.m *ℤ c.args.q) = fits_signed_from_abs w128 (c.args.m *ℤ c.args.q) (omega (arith, size)) in
    simp to_z-of_z (both (pos 1000000000 *ℤ c.args.a) (c.args.m *ℤ c.args.q) left right)
