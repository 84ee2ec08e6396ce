use Rattle.std.proofs.Common.{◌≡◌, rules, false}
use Rattle.std.specs.Ordering.{is_le}
use Rattle.std.proofs.lemmas.List.Sorted.{IsPartitionPoint-from_clause}
use Rattle.scaled_plane.specs.Counts.{x_order}
use Rattle.arrangement.proofs.Sweeping.{back_all, parted}
use Rattle.sheet_check.proofs.sweep.count_near.Goals as goal

pub returns-clause-far : goal.returns-clause-far
returns-clause-far g c =
    let K = g.W.Whole.numbers.ring in
    let end = c.args.span.now.right in
    let order = parted K (λ t. t.left.point) (λ t. t.left.is_point) c.args.rest.now end.point end.is_point c.requires.in_order in
    let point = IsPartitionPoint-from_clause (λ t. is_le (x_order K t.left.point end.point)) c.args.rest.now c.partition_point.result c.partition_point.ensures.partitioned order (λ a r q k. search rules) in
    back_all (λ t. is_le (x_order K t.left.point end.point) ≡ false) c.args.rest.now c.partition_point.result point.1
