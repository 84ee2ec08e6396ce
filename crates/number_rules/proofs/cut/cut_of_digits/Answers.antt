use Rattle.std.proofs.Common.{rules, FitsSigned, ◌≡◌, take, subst, arith, to_z, of_z}
use Rattle.std.proofs.lemmas.List.{take_all}
use mir.Syntax.{w64}
use Rattle.std.proofs.lemmas.Int.{to_z-of_z}
use Rattle.number_rules.specs.Value.{spelled, count_digits}
use Rattle.number_rules.specs.Cut.{Shows}
use Rattle.number_rules.proofs.Digits.{spelled_more, count_more}
use Rattle.number_rules.proofs.cut.cut_of_digits.Goals as goal

pub loop-byte-preserved : goal.loop-byte-preserved
loop-byte-preserved c =
    let next = c.take_byte.ensures.more (spelled (take c.loop-byte.byte-index c.args.bytes.now)) (count_digits (take c.loop-byte.byte-index c.args.bytes.now)) _ c.loop-byte.invariant.1 in (
      c.take_byte.ensures.below,
      rw (spelled_more c.args.bytes.now c.loop-byte.byte-index c.loop-byte-test.true, count_more c.args.bytes.now c.loop-byte.byte-index c.loop-byte-test.true) next,
    )

pub returns-clause-shows : goal.returns-clause-shows
returns-clause-shows c =
    let all : take c.loop-byte.byte-index c.args.bytes.now ≡ c.args.bytes.now = take_all c.loop-byte.byte-index c.args.bytes.now (omega arith) in
    let fits : FitsSigned w64 c.args.before = search rules in
    subst (λ z. Shows (spelled c.args.bytes.now) (count_digits c.args.bytes.now) z c.loop-byte.cut) (to_z-of_z w64 c.args.before fits)
    (subst (λ t. Shows (spelled t) (count_digits t) (to_z w64 (of_z w64 c.args.before)) c.loop-byte.cut) all c.loop-byte.invariant.1)
