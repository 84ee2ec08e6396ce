use Rattle.std.proofs.Common.{sym, refl}
use Rattle.half_planes.proofs.Bounds.{flat_holds, flat_fails}
use Rattle.half_planes.proofs.interval.Interval.narrow.Goals as goal

pub returns-in-Greater-sign : goal.returns-in-Greater-sign
returns-in-Greater-sign g c p h =
    (λ lies. (lies, flat_holds g.W.Whole.numbers.ring c.args.bound (sym c.in-Equal.ensures) (sym c.in-Greater-sign.ensures) p h), λ both. both.0)

pub returns-in-Less-sign : goal.returns-in-Less-sign
returns-in-Less-sign g c p h both =
    flat_fails g.W.Whole.numbers.ring c.args.bound (sym c.in-Equal.ensures) (rw (sym c.in-Less-sign.ensures) refl) p h both.1
