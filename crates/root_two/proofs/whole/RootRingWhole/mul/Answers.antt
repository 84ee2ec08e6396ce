use Rattle.std.proofs.Common.{◌∙◌, subst, rules, pos, ◌+ℤ◌, ◌*ℤ◌}
use Rattle.std.specs.Prelude.{FitsSigned}
use Rattle.std.specs.Int.{w128}
use Rattle.std.proofs.lemmas.Int.{to_z-of_z}
use Rattle.algebra.specs.Integers.{int_ops}
use Rattle.algebra.specs.Surd.{surd_mul}
use Rattle.root_two.specs.Roots.{whole_pair, whole_numbers}
use Rattle.root_two.proofs.Numbers.{whole_number}
use Rattle.root_two.proofs.whole.RootRingWhole.mul.Goals as goal

pub returns : goal.returns
returns g c =
    let fits_self_a : FitsSigned w128 c.args.self.a = search rules in
    let fits_self_b : FitsSigned w128 c.args.self.b = search rules in
    let fits_other_a : FitsSigned w128 c.args.other.a = search rules in
    let fits_other_b : FitsSigned w128 c.args.other.b = search rules in
    let fits_k : FitsSigned w128 (pos g.R.Radicand.K) = subst (FitsSigned w128) c.square.ensures (search rules) in
    let fits_aa : FitsSigned w128 (c.args.self.a *ℤ c.args.other.a) = c.requires.0 in
    let fits_bb : FitsSigned w128 (c.args.self.b *ℤ c.args.other.b) = c.requires.1.0 in
    let fits_twice_bb : FitsSigned w128 (pos g.R.Radicand.K *ℤ (c.args.self.b *ℤ c.args.other.b)) = c.requires.1.1.0 in
    let fits_a : FitsSigned w128 (c.args.self.a *ℤ c.args.other.a +ℤ pos g.R.Radicand.K *ℤ (c.args.self.b *ℤ c.args.other.b)) = c.requires.1.1.1.0 in
    let fits_ab : FitsSigned w128 (c.args.self.a *ℤ c.args.other.b) = c.requires.1.1.1.1.0 in
    let fits_ba : FitsSigned w128 (c.args.self.b *ℤ c.args.other.a) = c.requires.1.1.1.1.1.0 in
    let fits_b : FitsSigned w128 (c.args.self.a *ℤ c.args.other.b +ℤ c.args.self.b *ℤ c.args.other.a) = c.requires.1.1.1.1.1.1.0 in
    whole_number g.R.Radicand c.new.result _ (surd_mul int_ops (pos g.R.Radicand.K) (whole_pair c.args.self) (whole_pair c.args.other)) (c.new.ensures.a ∙ simp (c.square.ensures, to_z-of_z)) (c.new.ensures.b ∙ simp to_z-of_z) ((whole_numbers g.R.Radicand).product_is c.args.self c.args.other)
