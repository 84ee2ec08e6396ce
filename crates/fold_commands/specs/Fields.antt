-- the numbers that drawings are computed with, by name
use Rattle.std.specs.Prelude.{refl}
use Rattle.std.proofs.Common.{inl, inr}
use Rattle.algebra.specs.LowestTerms.{Parts}
use Rattle.algebra.specs.NumberField.{NumberField}
use Rattle.algebra.specs.WholeSurds.{SurdNumbers}
use Rattle.root_two.specs.Roots as roots
use Rattle.root_two.specs.declared.number.Root.{Root}
use Rattle.root_two.specs.declared.radicand.Radicand.{Ghosts}
use Rattle.root_two.specs.declared.radicand.Three.{Three}
use Rattle.root_two.specs.declared.radicand.Two.{Two}

-- ---- over √2

abbrev pub two : Ghosts Two
two = record { K = 2; two_or_three = inl refl }

abbrev pub OverTwo : Type 0
OverTwo = Root Two two

abbrev pub parts_over_two : OverTwo → Parts
parts_over_two = roots.root_parts {radicand = two}

abbrev pub numbers_over_two : NumberField 2 parts_over_two
numbers_over_two = roots.root_numbers two

abbrev pub whole_over_two : SurdNumbers 2 (roots.whole_pair {R = Two})
whole_over_two = roots.whole_numbers two

-- ---- over √3

abbrev pub three : Ghosts Three
three = record { K = 3; two_or_three = inr refl }

abbrev pub OverThree : Type 0
OverThree = Root Three three

abbrev pub parts_over_three : OverThree → Parts
parts_over_three = roots.root_parts {radicand = three}

abbrev pub numbers_over_three : NumberField 3 parts_over_three
numbers_over_three = roots.root_numbers three

abbrev pub whole_over_three : SurdNumbers 3 (roots.whole_pair {R = Three})
whole_over_three = roots.whole_numbers three
