use Rattle.std.proofs.Common.{rules, sym, arith}
use Rattle.std.proofs.lemmas.List.FromFn.{map-range_with_len_more}
use Rattle.crease_input.specs.Strips.{square_at}
use Rattle.crease_input.proofs.strips.faces_of_strip.Goals as goal

pub loop-i-preserved : goal.loop-i-preserved
loop-i-preserved c = search (rules, sym (map-range_with_len_more (square_at c.args.n) 0 c.loop-i.i c.loop-i.i (omega arith)))
