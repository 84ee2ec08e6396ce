-- points as keys of a set: their laws
use Rattle.std.specs.Prelude.{ℕ, ℤ, List, ◌++◌}
use Rattle.std.specs.Cmp.{IsEquivalence, on_equiv, and_equiv, int_eq_equiv, signed_Decides}
use Rattle.std.specs.Ordering.{int_eq}
use Rattle.std.specs.Hash as hashed
use Rattle.algebra.specs.LowestTerms.{Parts}
use Rattle.scaled_plane.specs.declared.point.Pair.{Pair}
use Rattle.crease_input.specs.Points.{has_parts, is_at}

-- what is hashed of a number: its parts
abbrev pub writes_of_parts : Parts → List (List ℕ)
writes_of_parts p = hashed.i128 p.a ++ hashed.i128 p.b ++ hashed.i128 p.q

abbrev pub writes_of : {N : Type 0} → (N → Parts) → Pair N → List (List ℕ)
writes_of parts p = writes_of_parts (parts p.x) ++ writes_of_parts (parts p.y)

parts_equiv : IsEquivalence has_parts
parts_equiv =
    and_equiv (and_equiv (on_equiv (λ p. p.a) int_eq_equiv) (on_equiv (λ p. p.b) int_eq_equiv))
    (on_equiv (λ p. p.q) int_eq_equiv)

parts_alike : hashed.Alike has_parts writes_of_parts
parts_alike =
    hashed.and-Alike (hashed.and-Alike (int_alike (λ p. p.a)) (int_alike (λ p. p.b)))
    (int_alike (λ p. p.q))
  where
    int_alike : (of : Parts → ℤ) → hashed.Alike (λ p r. int_eq (of p) (of r)) (λ p. hashed.i128 (of p))
    int_alike of = hashed.on_Alike of (hashed.same_Alike hashed.i128 signed_Decides)

module _ {N : Type 0} (parts : N → Parts) where
  pub points_equiv : IsEquivalence (is_at parts)
  points_equiv =
      and_equiv (on_equiv (λ (p : Pair N). parts p.x) parts_equiv)
      (on_equiv (λ (p : Pair N). parts p.y) parts_equiv)

  pub points_alike : hashed.Alike (is_at parts) (writes_of parts)
  points_alike =
      hashed.and-Alike (hashed.on_Alike (λ (p : Pair N). parts p.x) parts_alike)
      (hashed.on_Alike (λ (p : Pair N). parts p.y) parts_alike)
