use Rattle.std.proofs.Common.{rules}
use Rattle.std.specs.Vec.Iter.{into_iter_items}
use Rattle.std.proofs.lemmas.Result.{err_from_is_err_and}
use Rattle.fold_keys.proofs.Steps.{given_next}
use Rattle.fold_keys.proofs.Entries.{entry_read, member_fits, key_is_new, entries_refused}
use Rattle.fold_keys.proofs.file.read_entries.Goals as goal

pub loop-member-preserved : goal.loop-member-preserved
loop-member-preserved c =
    let split = given_next c.args.members c.into_iter-member-iterator.result c.loop-member.yielded
    c.loop-member.member-iterator c.next.new.self c.in-Some.member
    (cc) c.loop-member.yielded_by c.in-Some.ensures.steps in
    let new = key_is_new c.args.members c.loop-member.yielded
    (into_iter_items c.next.new.self) c.in-Some.member split c.requires.distinct in
    record {
      read = entry_read c.args.frame c.loop-member.yielded c.in-Some.member c.loop-member.entries
          c.push.new.self c.in_ok-entry.entry c.loop-member.others c.in_ok-entry.items
          c.or-others.result
          (search rules) c.or-others.ensures new c.loop-member.invariant.read c.in_ok-entry.ensures.0
          c.in_ok-entry.ensures.1;
      fit = member_fits c.args.frame c.loop-member.yielded c.in-Some.member
          c.loop-member.invariant.fit c.in_ok-entry.ensures.1;
    }

pub returns-in_err-entry : goal.returns-in_err-entry
returns-in_err-entry c =
    let split = given_next c.args.members c.into_iter-member-iterator.result c.loop-member.yielded
    c.loop-member.member-iterator c.next.new.self c.in-Some.member
    (cc) c.loop-member.yielded_by c.in-Some.ensures.steps in
    let p = err_from_is_err_and c.from_residual-in_err-entry.result
    c.from_residual-in_err-entry.ensures.1 in
    rw (p.1, p.2)
    (entries_refused c.args.frame c.args.members c.loop-member.yielded
    (into_iter_items c.next.new.self) c.in-Some.member c.in_err-entry.field-0.0 split
    c.loop-member.invariant.fit c.in_err-entry.ensures)
