use Rattle.std.proofs.Common.{rules, FitsSigned}
use Rattle.std.specs.Int.{w128}
use Rattle.std.proofs.lemmas.Int.{to_z-of_z}
use Rattle.number_rules.proofs.readers.read_root.Goals as goal

pub returns-in-None : goal.returns-in-None
returns-in-None g c =
    let near_fits : FitsSigned w128 c.args.value.near = search rules in
    ((λ past. let yes = c.is_past.ensures.1 past in let no = c.if-is_past.false in cc), simp to_z-of_z at c.in-None.ensures)
