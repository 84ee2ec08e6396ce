-- what a stack is to the machine
use Rattle.std.specs.Prelude.{◌≡◌, List, [], None}
use Rattle.json_machine.specs.Machine.{Frame}
use Rattle.json_read.specs.Frames.{opened}
use Rattle.json_read.specs.declared.stack.Stack.TheInside.{Inside}

abbrev pub frames_of : Inside → List Frame
frames_of stack = opened stack.innermost stack.outer

-- something is open around the innermost alone
abbrev pub IsNested : Inside → Type 0
IsNested stack = stack.innermost ≡ None → stack.outer ≡ []
