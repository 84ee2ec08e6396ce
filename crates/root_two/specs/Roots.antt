-- The numbers over √k as an ordered field, and the whole ones as an ordered ring.
use Rattle.std.specs.Prelude.{◌≡◌, ◌⊎◌, ◌≤◌, ℕ, ℤ, refl}
use Rattle.std.proofs.Common.{sym, subst, inl, inr, lit≤}
use mathlib.Core.HLevel.{is_prop→PathP}
use Rattle.algebra.specs.LowestTerms.{Parts, IsNumber}
use Rattle.algebra.specs.Surd.{Surd, IsNonsquare}
use Rattle.algebra.specs.NumberField.{NumberField, HoldsNumbers}
use Rattle.algebra.specs.WholeSurds.{SurdNumbers, HoldsSurds}
use Rattle.algebra.proofs.Surds.{two_nonsquare, three_nonsquare}
use Rattle.algebra.proofs.Numbers.{numbers, whole_surds, is_number_prop}
use Rattle.root_two.specs.declared.radicand.Radicand.{Ghosts}
use Rattle.root_two.specs.declared.number.Root.{Root}
use Rattle.root_two.specs.declared.whole.RootRing.{RootRing}

pub nonsquare : {R : Type 0} (radicand : Ghosts R) → IsNonsquare radicand.K
nonsquare radicand = by_case radicand.two_or_three
  where
    by_case : {k : ℕ} → (k ≡ 2) ⊎ (k ≡ 3) → IsNonsquare k
    by_case (inl e) = subst IsNonsquare (sym e) two_nonsquare
    by_case (inr e) = subst IsNonsquare (sym e) three_nonsquare

pub at_most_three : {R : Type 0} (radicand : Ghosts R) → radicand.K ≤ 3
at_most_three radicand = by_case radicand.two_or_three
  where
    by_case : {k : ℕ} → (k ≡ 2) ⊎ (k ≡ 3) → k ≤ 3
    by_case (inl e) = subst (λ k. k ≤ 3) (sym e) (lit≤ tt)
    by_case (inr e) = subst (λ k. k ≤ 3) (sym e) (lit≤ tt)

pub not_one : {R : Type 0} (radicand : Ghosts R) → ¬ (radicand.K ≡ 1)
not_one radicand e = by_case radicand.two_or_three e
  where
    by_case : {k : ℕ} → (k ≡ 2) ⊎ (k ≡ 3) → k ≡ 1 → ⊥
    by_case (inl e) h = cc
    by_case (inr e) h = cc

abbrev pub root_parts : {R : Type 0} {radicand : Ghosts R} → Root R radicand → Parts
root_parts x = record { a = x.a; b = x.b; q = x.q }

-- each number over √k is one value
pub root_holds : {R : Type 0} (radicand : Ghosts R) → HoldsNumbers radicand.K (root_parts {radicand = radicand})
root_holds radicand = record {
  make = λ p is. record { a = p.a; b = p.b; q = p.q; of = record {}; lowest = is };
  parts_make = λ p is. refl;
  is_number = λ x. x.lowest;
  once = λ x y e. λ i. record { a = (e i).a; b = (e i).b; q = (e i).q; of = record {}; lowest = is_prop→PathP (λ j. IsNumber radicand.K (e j)) (λ j. is_number_prop radicand.K (e j)) x.lowest y.lowest i };
}

abbrev pub root_numbers : {R : Type 0} (radicand : Ghosts R) → NumberField radicand.K (root_parts {radicand = radicand})
root_numbers radicand = numbers radicand.K root_parts (inr (nonsquare radicand)) (root_holds radicand)

abbrev pub whole_pair : {R : Type 0} → RootRing R → Surd ℤ
whole_pair x = record { a = x.a; b = x.b }

-- each whole number over √k is one value; as k isn't 1, nothing is said of b
pub whole_holds : {R : Type 0} (radicand : Ghosts R) → HoldsSurds radicand.K (whole_pair {R = R})
whole_holds radicand = record {
  make = λ x h. record { a = x.a; b = x.b; of = record {} };
  surd_make = λ x h. refl;
  rational = λ x e. absurd (not_one radicand e);
  once = λ x y e. λ i. record { a = (e i).a; b = (e i).b; of = record {} };
}

abbrev pub whole_numbers : {R : Type 0} (radicand : Ghosts R) → SurdNumbers radicand.K (whole_pair {R = R})
whole_numbers radicand = whole_surds radicand.K whole_pair (inr (nonsquare radicand)) (whole_holds radicand)
