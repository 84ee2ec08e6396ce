-- The whole numbers as the ordered ring of the whole numbers over √1.
use Rattle.std.specs.Prelude.{ℤ, refl, pos}
use Rattle.std.proofs.Common.{sym, inl}
use Rattle.algebra.specs.Surd.{Surd}
use Rattle.algebra.specs.WholeSurds.{SurdNumbers, HoldsSurds}
use Rattle.algebra.proofs.Numbers.{whole_surds}
use Rattle.rational.specs.declared.whole.RationalRing.{RationalRing}

-- a whole number has no irrational part
abbrev pub whole_pair : RationalRing → Surd ℤ
whole_pair x = record { a = x.a; b = pos 0 }

pub whole_holds : HoldsSurds 1 whole_pair
whole_holds = record {
  make = λ x h. record { a = x.a };
  surd_make = λ x h. λ i. record { a = x.a; b = sym (h refl) i };
  rational = λ x e. refl;
  once = λ x y e. λ i. record { a = (e i).a };
}

abbrev pub whole_numbers : SurdNumbers 1 whole_pair
whole_numbers = whole_surds 1 whole_pair (inl refl) whole_holds
