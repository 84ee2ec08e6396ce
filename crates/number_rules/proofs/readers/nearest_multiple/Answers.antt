use Rattle.std.proofs.Common.{rules}
use Rattle.number_rules.proofs.Nearest.{nearest}
use Rattle.number_rules.proofs.readers.nearest_multiple.Goals as goal

pub returns : goal.returns
returns c = nearest c.args.n c.args.near c.from.result c.div_euclid.result c.requires.number c.requires.near c.ranges.near (search rules) c.from.ensures c.div_euclid.ensures
