use Rattle.std.proofs.Common.{arith}
use Rattle.json_read.proofs.Scalars.{code_small, code_leads}
use Rattle.json_read.proofs.character.Part.next.Goals as goal

pub overflow_mul-code : goal.overflow_mul-code
overflow_mul-code c =
    let e = c.in-Encoded in
    let small = code_small e.later e.low e.high e.code c.args.byte (rw e.is at c.requires) c.if-byte-low.false c.if-high-byte.false in
    omega (arith, small)

pub overflow_add-code : goal.overflow_add-code
overflow_add-code c =
    let e = c.in-Encoded in
    let small = code_small e.later e.low e.high e.code c.args.byte (rw e.is at c.requires) c.if-byte-low.false c.if-high-byte.false in
    rw c.from.ensures (omega (arith, small))

pub encoded-requires : goal.encoded-requires
encoded-requires c =
    let e = c.in-Encoded in
    rw c.from.ensures (code_leads e.later e.low e.high e.code c.args.byte (rw e.is at c.requires) c.if-byte-low.false c.if-high-byte.false)
