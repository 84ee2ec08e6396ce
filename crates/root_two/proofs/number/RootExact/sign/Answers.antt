use Rattle.std.proofs.Common.{◌∙◌, ap₂, sym, rules, pos}
use Rattle.std.specs.Int.{w128}
use Rattle.std.proofs.lemmas.Int.{to_z-of_z}
use Rattle.algebra.specs.NumberFormulas.{parts_sign}
use Rattle.root_two.specs.Roots.{root_numbers}
use Rattle.root_two.proofs.number.RootExact.sign.Goals as goal

pub returns : goal.returns
returns g c =
    c.sign_of.ensures ∙ ap₂ (λ m n. parts_sign g.R.Radicand.K (record { a = m; b = n; q = pos 1 })) (to_z-of_z w128 c.args.self.a (search rules)) (to_z-of_z w128 c.args.self.b (search rules)) ∙ sym ((root_numbers g.R.Radicand).sign_is c.args.self)
