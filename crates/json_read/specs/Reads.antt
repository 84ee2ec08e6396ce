-- what reading a text may answer
use Rattle.std.specs.Prelude.{ℕ, List, Result, Ok, Err}
use Rattle.first_fault.specs.FirstFault.{Begins}
use Rattle.json_tree.specs.Spells.{Spells}
use Rattle.json_tree.specs.declared.tree.Json.{Json}
use Rattle.json_read.specs.Causes.{NamesFirstFault}
use Rattle.json_read.specs.declared.fault.JsonReadFault.{JsonReadFault}
use Rattle.json_read.specs.declared.fault.JsonReadFault.TheVariants.{Text, Memory}

-- the answer is want of memory
abbrev pub LacksMemory : {T : Type 0} → Result T JsonReadFault → Type 0
LacksMemory (Ok value) = ⊥
LacksMemory (Err (Text fault)) = ⊥
LacksMemory (Err (Memory e)) = Unit {0}

-- this holds, unless the answer is want of memory
abbrev pub UnlessMemory : {T : Type 0} → Result T JsonReadFault → Type 0 → Type 0
UnlessMemory (Ok value) P = P
UnlessMemory (Err (Text fault)) P = P
UnlessMemory (Err (Memory e)) P = Unit {0}

-- what is answered when the text so far is this one
abbrev pub FeedAnswers : List ℕ → Result (Unit {0}) JsonReadFault → Type 0
FeedAnswers text (Ok done) = Begins Spells text
FeedAnswers text (Err (Text fault)) = NamesFirstFault text fault × ¬ Begins Spells text
FeedAnswers text (Err (Memory e)) = Unit {0}

-- what is answered when the whole text is this one
abbrev pub FinishAnswers : List ℕ → Result Json JsonReadFault → Type 0
FinishAnswers text (Ok tree) = Spells text tree
FinishAnswers text (Err (Text fault)) = NamesFirstFault text fault
FinishAnswers text (Err (Memory e)) = Unit {0}
