use Rattle.std.proofs.Common.{◌≡◌, arith, length, drop, sym, ◌∙◌, ap}
use Rattle.fold_base.proofs.Moved.{copied_front}
use Rattle.fold_base.proofs.remaining.Remaining.give.Goals as goal

pub returns-clause-bytes : goal.returns-clause-bytes
returns-clause-bytes c =
    let left : c.split_at.result.1.now ≡ drop c.self.inside.given c.self.inside.bytes = c.split_at.ensures.back ∙ ap (drop c.self.inside.given) c.as_slice.ensures in
    let e = ap length left in
    sym c.self.view_is ∙ copied_front c.self.inside.bytes c.args.room.now c.copy_from_slice.new.self c.self.inside.given c.min-count.result (omega (arith, e)) (rw (← left) c.copy_from_slice.ensures.after)
