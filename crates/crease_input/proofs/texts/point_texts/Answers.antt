use Rattle.std.proofs.Common.{rules}
use Rattle.crease_input.proofs.texts.point_texts.Goals as goal

pub returns : goal.returns
returns g c =
    ((c.in_ok-x.x, c.in_ok-y.y), (c.in_ok-x.ensures, c.in_ok-y.ensures), search rules)
