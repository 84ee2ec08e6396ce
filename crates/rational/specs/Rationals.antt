-- The rational numbers as the ordered field of the numbers over √1.
use Rattle.std.specs.Prelude.{◌≡◌, refl, pos}
use Rattle.std.proofs.Common.{sym, subst, inl}
use mathlib.Core.HLevel.{is_prop→PathP}
use Rattle.algebra.specs.LowestTerms.{Parts, IsNumber}
use Rattle.algebra.specs.NumberField.{NumberField, HoldsNumbers}
use Rattle.algebra.proofs.Numbers.{numbers, is_number_prop}
use Rattle.rational.specs.declared.rational.Rational.{Rational}

-- a rational number has no irrational part
abbrev pub rational_parts : Rational → Parts
rational_parts x = record { a = x.a; b = pos 0; q = x.q }

parts_of_rational : (p : Parts) → IsNumber 1 p → record { a = p.a; b = pos 0; q = p.q } ≡ p
parts_of_rational p is = λ i. record { a = p.a; b = sym (is.rational refl) i; q = p.q }

-- each number over √1 is one rational number
pub rational_holds : HoldsNumbers 1 rational_parts
rational_holds = record {
  make = λ p is. record { a = p.a; q = p.q; lowest = subst (IsNumber 1) (sym (parts_of_rational p is)) is };
  parts_make = parts_of_rational;
  is_number = λ x. x.lowest;
  once = λ x y e. λ i. record { a = (e i).a; q = (e i).q; lowest = is_prop→PathP (λ j. IsNumber 1 (record { a = (e j).a; b = pos 0; q = (e j).q })) (λ j. is_number_prop 1 (record { a = (e j).a; b = pos 0; q = (e j).q })) x.lowest y.lowest i };
}

abbrev pub rational_numbers : NumberField 1 rational_parts
rational_numbers = numbers 1 rational_parts (inl refl) rational_holds
