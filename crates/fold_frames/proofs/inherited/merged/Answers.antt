use Rattle.std.proofs.Common.{arith}
use Rattle.fold_frames.proofs.Ways.{merged_more}
use Rattle.fold_frames.proofs.inherited.merged.Goals as goal

pub loop-left-preserved : goal.loop-left-preserved
loop-left-preserved c = record {
  within = omega (arith, c.loop-left.invariant.within);
  merged = merged_more c.args.frames.now c.args.way.now c.loop-left.left _ _ c.as_slice.result.now c.index-frames-way.result c.loop-left-test.true c.loop-left.invariant.within c.requires c.loop-left.invariant.merged c.index-frames-way.is c.as_slice.ensures c.in_ok-put_entries.ensures;
}
