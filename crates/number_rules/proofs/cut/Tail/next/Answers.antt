use Rattle.std.proofs.Common.{rules, subst}
use Rattle.number_rules.specs.Cut.{IsTail}
use Rattle.number_rules.proofs.Cuts.{first_zero, zero_zero, zero_below, below_below, half_above, above_above, half_half, first_below, first_half, first_above}
use Rattle.number_rules.proofs.cut.Tail.next.Goals as goal

pub returns-then-digit-eq0 : goal.returns-then-digit-eq0
returns-then-digit-eq0 c = λ rest d t. first_zero rest d c.args.digit (search rules) (subst (IsTail rest d) c.in-Nothing.is t)

pub returns-then-digit-lt5 : goal.returns-then-digit-lt5
returns-then-digit-lt5 c = λ rest d t. first_below rest d c.args.digit (search rules) (search rules) (subst (IsTail rest d) c.in-Nothing.is t)

pub returns-then-digit-eq5 : goal.returns-then-digit-eq5
returns-then-digit-eq5 c = λ rest d t. first_half rest d c.args.digit (search rules) (subst (IsTail rest d) c.in-Nothing.is t)

pub returns-else-digit-eq5 : goal.returns-else-digit-eq5
returns-else-digit-eq5 c = λ rest d t. first_above rest d c.args.digit (search rules) (search rules) (subst (IsTail rest d) c.in-Nothing.is t)

pub returns-then-digit-eq0-2 : goal.returns-then-digit-eq0-2
returns-then-digit-eq0-2 c = λ rest d t. zero_zero rest d c.args.digit (search rules) (subst (IsTail rest d) c.in-Zero.is t)

pub returns-else-digit-eq0-2 : goal.returns-else-digit-eq0-2
returns-else-digit-eq0-2 c = λ rest d t. zero_below rest d c.args.digit (search rules) c.requires (subst (IsTail rest d) c.in-Zero.is t)

pub returns-in-BelowHalf : goal.returns-in-BelowHalf
returns-in-BelowHalf c = λ rest d t. below_below rest d c.args.digit c.requires (subst (IsTail rest d) c.in-BelowHalf.is t)

pub returns-then-digit-eq0-3 : goal.returns-then-digit-eq0-3
returns-then-digit-eq0-3 c = λ rest d t. half_half rest d c.args.digit (search rules) (subst (IsTail rest d) c.in-Half.is t)

pub returns-else-digit-eq0-3 : goal.returns-else-digit-eq0-3
returns-else-digit-eq0-3 c = λ rest d t. half_above rest d c.args.digit (search rules) c.requires (subst (IsTail rest d) c.in-Half.is t)

pub returns-in-AboveHalf : goal.returns-in-AboveHalf
returns-in-AboveHalf c = λ rest d t. above_above rest d c.args.digit c.requires (subst (IsTail rest d) c.in-AboveHalf.is t)
