use Rattle.std.proofs.Common.{rules, arith}
use Rattle.std.specs.Vec.Iter.{into_iter_items}
use Rattle.std.proofs.lemmas.Result.{err_from_is_err_and}
use Rattle.fold_keys.proofs.Steps.{given_next}
use Rattle.fold_keys.proofs.OtherFrames.{frame_more, frame_fits, others_refused, counted, counted_within, readable_there}
use Rattle.fold_keys.proofs.file.read_others.Goals as goal

pub overflow_cast-len : goal.overflow_cast-len
overflow_cast-len c =
    let split = given_next c.args.trees c.into_iter-tree-iterator.result c.loop-tree.yielded
    c.loop-tree.tree-iterator c.next.new.self c.in-Some.tree
    (cc) c.loop-tree.yielded_by c.in-Some.ensures.steps in
    let within =
    counted_within c.args.first c.loop-tree.frames c.args.trees c.loop-tree.yielded
    (into_iter_items c.next.new.self) c.in-Some.tree split c.loop-tree.invariant.read in
    omega arith

pub loop-tree-preserved : goal.loop-tree-preserved
loop-tree-preserved c = record {
  read = frame_more c.args.first c.loop-tree.frames c.push-in-loop-tree.new.self
      c.loop-tree.yielded c.in-Some.tree c.in_ok-frame.frame c.len.result _ c.len.ensures
      (search rules) c.loop-tree.invariant.read c.in_ok-frame.ensures.0;
  fit = frame_fits c.args.first c.loop-tree.frames c.loop-tree.yielded c.in-Some.tree c.len.result
      c.len.ensures c.loop-tree.invariant.read c.loop-tree.invariant.fit c.in_ok-frame.ensures.1;
}

pub returns-in_err-frame : goal.returns-in_err-frame
returns-in_err-frame c =
    let split = given_next c.args.trees c.into_iter-tree-iterator.result c.loop-tree.yielded
    c.loop-tree.tree-iterator c.next.new.self c.in-Some.tree
    (cc) c.loop-tree.yielded_by c.in-Some.ensures.steps in
    let p = err_from_is_err_and c.from_residual-in_err-frame.result
    c.from_residual-in_err-frame.ensures.1 in
    rw (p.1, p.2)
    (others_refused c.args.first c.loop-tree.frames c.args.trees c.loop-tree.yielded
    (into_iter_items c.next.new.self) c.in-Some.tree c.len.result c.in_err-frame.field-0.0
    split c.len.ensures c.loop-tree.invariant.read c.loop-tree.invariant.fit
    c.in_err-frame.ensures)

pub read_frame-requires : goal.read_frame-requires
read_frame-requires c =
    let split = given_next c.args.trees c.into_iter-tree-iterator.result c.loop-tree.yielded
    c.loop-tree.tree-iterator c.next.new.self c.in-Some.tree
    (cc) c.loop-tree.yielded_by c.in-Some.ensures.steps in
    let count = counted c.args.first c.loop-tree.frames c.loop-tree.yielded
    c.loop-tree.invariant.read in
    readable_there c.args.trees c.loop-tree.yielded
    (into_iter_items c.next.new.self) c.in-Some.tree c.len.result split
    (omega (arith, count, c.len.ensures)) c.requires.readable
