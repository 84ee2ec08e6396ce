-- How large the numbers of bounds are, which are formed from two lines through scaled points.
use Rattle.std.specs.Prelude.{ℤ, ◌≤◌, ◌*◌, ◌^◌, Option, IfSome}
use Rattle.algebra.specs.Surd.{Surd}
use Rattle.exact_number.specs.Sizes.{whole_size}
use Rattle.half_planes.specs.declared.bound.Bound.{Bound}

module _ {A : Type 0} (surd : A → Surd ℤ) where
  pub record IsBoundSize (f : Bound A) : Type 0 where
    pub slope_within : whole_size (surd f.slope) ≤ 9 * 2 ^ 47
    pub offset_within : whole_size (surd f.offset) ≤ 27 * 2 ^ 69

  -- two bounds, each of which may be absent
  pub record AreSmall (lower upper : Option (Bound A)) : Type 0 where
    pub lower_small : IfSome lower IsBoundSize
    pub upper_small : IfSome upper IsBoundSize
