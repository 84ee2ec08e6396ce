use Rattle.half_planes.proofs.Choices.{none_between}
use Rattle.half_planes.proofs.interval.Interval.between.Goals as goal

pub returns-in-Equal : goal.returns-in-Equal
returns-in-Equal g c =
    none_between g.W.Whole.numbers.ring c.args.lower c.args.upper _ _ c.in-Some.is c.in-Some-upper.is c.requires.from_below c.requires.from_above
    (λ more. let equal = c.in-Equal.ensures in cc)

pub returns-in-Less : goal.returns-in-Less
returns-in-Less g c =
    none_between g.W.Whole.numbers.ring c.args.lower c.args.upper _ _ c.in-Some.is c.in-Some-upper.is c.requires.from_below c.requires.from_above
    (λ more. let less = c.in-Less.ensures in cc)
