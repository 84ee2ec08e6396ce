use Rattle.std.proofs.Common.{rules, ◌≡◌, ◌++◌, [], ◌∷◌, refl}
use Rattle.fold_frames.proofs.Paths.{parent_here, unmarked_less, walked_more, returns_here, mark_is}
use Rattle.fold_frames.proofs.parents.way.Goals as goal

pub returns-in-None : goal.returns-in-None
returns-in-None c =
    let here = c.loop-met.here in
    let walked = c.loop-met.invariant in
    let grown : c.push.new.self ≡ c.loop-met.way ++ here ∷ [] = search rules in (
      c.loop-met.way,
      here,
      grown,
      walked.path,
      walked.within,
      parent_here c.args.frames.now here c.index-frames-here.result _ walked.within c.index-frames-here.is c.in-None.ensures,
    )

pub returns-then-frames-parent : goal.returns-then-frames-parent
returns-then-frames-parent c =
    let here = c.loop-met.here in
    let walked = c.loop-met.invariant in (
      c.loop-met.way,
      c.in-Some.parent,
      walked.path,
      parent_here c.args.frames.now here c.index-frames-here.result _ walked.within c.index-frames-here.is c.in-Some.ensures,
      c.if-frames-parent.true,
    )

pub loop-met-smaller : goal.loop-met-smaller
loop-met-smaller c =
    let here = c.loop-met.here in
    let walked = c.loop-met.invariant in
    unmarked_less c.loop-met.met.items _ here _ walked.size walked.within (mark_is c.loop-met.met.items here _ _ _ walked.size walked.within c.index.ensures c.loop-met-test.true) refl

pub loop-met-preserved : goal.loop-met-preserved
loop-met-preserved c =
    let here = c.loop-met.here in
    let walked = c.loop-met.invariant in
    let grown : c.push.new.self ≡ c.loop-met.way ++ here ∷ [] = search rules in
    walked_more c.args.frames.now c.args.frame here c.in-Some.parent c.loop-met.way _ c.loop-met.met.items _
    walked (mark_is c.loop-met.met.items here _ _ _ walked.size walked.within c.index.ensures c.loop-met-test.true)
    (parent_here c.args.frames.now here c.index-frames-here.result _ walked.within c.index-frames-here.is c.in-Some.ensures)
    c.if-frames-parent.false grown refl

pub returns : goal.returns
returns c =
    let walked = c.loop-met.invariant in
    returns_here _ _ _ _ _ walked
    (mark_is c.loop-met.met.items c.loop-met.here _ _ _ walked.size walked.within c.index.ensures c.loop-met-test.false)
