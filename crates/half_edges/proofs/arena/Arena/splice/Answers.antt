use Rattle.std.proofs.Common.{rules}
use Rattle.half_edges.proofs.Changes.{exchanged}
use Rattle.half_edges.proofs.arena.Arena.splice.Goals as goal

pub invariant_of-self : goal.invariant_of-self
invariant_of-self g c =
    exchanged c.self.inside.payloads.items c.self.inside.nexts.items c.swap.new.self.items c.args.a.0 c.args.b.0 (search rules) (search rules) c.swap.ensures.items c.self.invariant
