-- what is scaled to small whole numbers has short parts
use Prim.Native.Nat.{◌∣◌}
use Rattle.std.proofs.Common.{◌≡◌, ◌∙◌, ap, subst, ℕ, zero, suc, ℤ, pos, ◌*◌, ◌*ℤ◌, ◌^◌, ◌<◌, ◌≤◌, ◌<ℤ◌, List, [], ◌∷◌, arith}
use Rattle.std.specs.Prelude.{int_div, max, unsigned_abs, Contains}
use Rattle.std.specs.List.{AllByRecursion, AllZip}
use Rattle.std.proofs.Math.Nat.{le_of_dvd, mul-le-mul_left}
use Rattle.std.proofs.lemmas.Int.{unsigned_abs-mul}
use native.Mathlib.Nat.{le-max_left, le-max_right}
use Rattle.algebra.specs.LowestTerms.{Parts}
use Rattle.algebra.specs.NumberField.{HoldsNumbers}
use Rattle.algebra.specs.Surd.{Surd}
use Rattle.algebra.specs.SurdSize.{larger_part}
use Rattle.algebra.specs.WholeSurds.{SurdNumbers}
use Rattle.crease_input.specs.Files.{HasShortParts}
use Rattle.exact_number.proofs.ExactParts.{exact}
use Rattle.exact_number.specs.Scaling.{scaled}
use Rattle.number_rules.specs.ExactText.{AreShort}
use Rattle.plane.proofs.Members.{in_head, in_tail}
use Rattle.plane.specs.declared.point.Point.{Point}
use Rattle.scaled_plane.specs.Scaling.{IsMultipleOf, IsScaledOf, IsScaledWith}
use Rattle.scaled_plane.specs.declared.point.Pair.{Pair}
use Rattle.scaled_plane.specs.declared.point.Scaled.{Scaled}

some_times : (t d m : ℕ) → 0 < m → m ≡ t * d → 1 ≤ t
some_times zero d m h e = absurd (omega (arith, h, e))
some_times (suc t) d m h e = omega arith

-- a part is no larger than a multiple of it
part_within : (a t : ℤ) → 1 ≤ unsigned_abs t → unsigned_abs (a *ℤ t) ≤ 2 ^ 22 → unsigned_abs a ≤ 2 ^ 92
part_within a t some within =
    let size : unsigned_abs (a *ℤ t) ≡ unsigned_abs a * unsigned_abs t = unsigned_abs-mul a t in
    let grown : unsigned_abs a * 1 ≤ unsigned_abs a * unsigned_abs t = mul-le-mul_left {m = 1} {n = unsigned_abs t} (unsigned_abs a) some in
    omega (arith, size, grown, within)

short_parts : (p : Parts) (m : ℕ) → pos 0 <ℤ p.q → 0 < m → m ≤ 2 ^ 24 → unsigned_abs p.q ∣ m → larger_part (scaled p (pos m)) ≤ 2 ^ 22 → AreShort p
short_parts p m positive some within divides narrow =
    let t : ℤ = int_div (pos m) p.q in
    let whole : pos m ≡ int_div (pos m) p.q *ℤ p.q = exact (pos m) p.q positive divides in
    let sizes : m ≡ unsigned_abs (int_div (pos m) p.q) * unsigned_abs p.q = ap unsigned_abs whole ∙ unsigned_abs-mul (int_div (pos m) p.q) p.q in
    let least : 1 ≤ unsigned_abs (int_div (pos m) p.q) = some_times (unsigned_abs (int_div (pos m) p.q)) (unsigned_abs p.q) m some sizes in
    let a : unsigned_abs (p.a *ℤ int_div (pos m) p.q) ≤ max (unsigned_abs (p.a *ℤ int_div (pos m) p.q)) (unsigned_abs (p.b *ℤ int_div (pos m) p.q)) = le-max_left (unsigned_abs (p.a *ℤ int_div (pos m) p.q)) (unsigned_abs (p.b *ℤ int_div (pos m) p.q)) in
    let b : unsigned_abs (p.b *ℤ int_div (pos m) p.q) ≤ max (unsigned_abs (p.a *ℤ int_div (pos m) p.q)) (unsigned_abs (p.b *ℤ int_div (pos m) p.q)) = le-max_right (unsigned_abs (p.a *ℤ int_div (pos m) p.q)) (unsigned_abs (p.b *ℤ int_div (pos m) p.q)) in
    let q : unsigned_abs p.q ≤ m = le_of_dvd some divides in
    record {
      a = part_within p.a (int_div (pos m) p.q) least (omega (arith, a, narrow));
      b = part_within p.b (int_div (pos m) p.q) least (omega (arith, b, narrow));
      q = omega (arith, q, within);
    }

module _ {N W : Type 0} {j k : ℕ} {surd : W → Surd ℤ} (parts : N → Parts) (holds : HoldsNumbers j parts) (numbers : SurdNumbers k surd) where
  short_pair : (m : ℕ) (c : Pair N) (p : Point W) → 0 < m → m ≤ 2 ^ 24 → IsMultipleOf parts c m → IsScaledWith parts numbers (pos m) c p → HasShortParts parts c
  short_pair m c p some within multiple is = (
    short_parts (parts c.x) m (holds.is_number c.x).lowest.positive some within multiple.0 (subst (λ (z : Surd ℤ). larger_part z ≤ 2 ^ 22) is.x is.x_within),
    short_parts (parts c.y) m (holds.is_number c.y).lowest.positive some within multiple.1 (subst (λ (z : Surd ℤ). larger_part z ≤ 2 ^ 22) is.y is.y_within),
  )

  short_all : (m : ℕ) (coords : List (Pair N)) (points : List (Point W)) → 0 < m → m ≤ 2 ^ 24 → ((c : Pair N) → Contains coords c → IsMultipleOf parts c m)
      → AllZip (IsScaledWith parts numbers (pos m)) coords points → AllByRecursion (HasShortParts parts) coords
  short_all m [] points some within multiple zip = tt
  short_all m (c ∷ coords) [] some within multiple zip = absurd zip
  short_all m (c ∷ coords) (p ∷ points) some within multiple zip = (
    short_pair m c p some within (multiple c (in_head c coords)) zip.0,
    short_all m coords points some within (λ d h. multiple d (in_tail c coords d h)) zip.1,
  )

  -- points that are scaled have short parts
  pub short_scaled : (coords : List (Pair N)) (s : Scaled W) → IsScaledOf parts numbers coords s → AllByRecursion (HasShortParts parts) coords
  short_scaled coords s is = short_all is.m coords s.points is.denominator.positive is.within is.denominator.multiple is.points
