use Rattle.std.proofs.Common.{◌∙◌, rules}
use Rattle.crease_input.specs.Strips.{orders_on}
use Rattle.crease_input.proofs.StripFiles.{lists_more}
use Rattle.crease_input.proofs.strips.orders_of_strip.Goals as goal

pub loop-i-preserved : goal.loop-i-preserved
loop-i-preserved c = search (rules, lists_more (orders_on c.args.n) c.loop-i.i)
