use Rattle.std.proofs.Common.{arith}
use Rattle.root_two.proofs.DescentsOfThree.{three_settles_greater, three_settles_less, three_turns}
use Rattle.root_two.proofs.descent.step_of_three.Goals as goal

pub returns : goal.returns
returns c = three_turns c.args.x c.args.y _ _ c.requires (omega arith) (omega arith)

pub returns-then-rest-y : goal.returns-then-rest-y
returns-then-rest-y c = three_settles_greater c.args.x c.args.y (omega arith)

pub returns-then-rest-gap : goal.returns-then-rest-gap
returns-then-rest-gap c = three_settles_less c.args.x c.args.y (omega arith)

pub returns-then-smaller_y-twice : goal.returns-then-smaller_y-twice
returns-then-smaller_y-twice c = three_settles_greater c.args.x c.args.y (omega arith)
