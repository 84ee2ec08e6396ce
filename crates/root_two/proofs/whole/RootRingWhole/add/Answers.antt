use Rattle.std.proofs.Common.{◌∙◌, rules, pos, ◌+ℤ◌}
use Rattle.std.specs.Prelude.{FitsSigned}
use Rattle.std.specs.Int.{w128}
use Rattle.std.proofs.lemmas.Int.{to_z-of_z}
use Rattle.algebra.specs.Integers.{int_ops}
use Rattle.algebra.specs.Surd.{surd_add}
use Rattle.root_two.specs.Roots.{whole_pair, whole_numbers}
use Rattle.root_two.proofs.Numbers.{whole_number}
use Rattle.root_two.proofs.whole.RootRingWhole.add.Goals as goal

pub returns : goal.returns
returns g c =
    let fits_self_a : FitsSigned w128 c.args.self.a = search rules in
    let fits_self_b : FitsSigned w128 c.args.self.b = search rules in
    let fits_other_a : FitsSigned w128 c.args.other.a = search rules in
    let fits_other_b : FitsSigned w128 c.args.other.b = search rules in
    let fits_a : FitsSigned w128 (c.args.self.a +ℤ c.args.other.a) = c.requires.0 in
    let fits_b : FitsSigned w128 (c.args.self.b +ℤ c.args.other.b) = c.requires.1.0 in
    whole_number g.R.Radicand c.new.result _ (surd_add int_ops (pos g.R.Radicand.K) (whole_pair c.args.self) (whole_pair c.args.other)) (c.new.ensures.a ∙ simp to_z-of_z) (c.new.ensures.b ∙ simp to_z-of_z) ((whole_numbers g.R.Radicand).sum_is c.args.self c.args.other)
