use Rattle.std.proofs.Common.{◌≡◌, ◌∙◌, arith, rules}
use Rattle.half_edges.specs.Halves.{count}
use Rattle.face_walks.proofs.CycleLists.{are_in_order}
use Rattle.face_walks.proofs.cycles.in_order.Goals as goal

pub returns : goal.returns
returns c =
    let all : c.loop-half.half ≡ count c.args.arena.now = search rules in
    are_in_order c.args.arena.now c.loop-half.halves.items c.sort.new.self.items (c.loop-half.invariant.1 ∙ all)
    (λ i l. c.loop-half.invariant.2 i (omega (arith, l, all))) c.in_ok-sort.ensures.permutation c.in_ok-sort.ensures.sorted
