-- what a source and a sink in memory hold
use Rattle.std.specs.Prelude.{ℕ, List}
use Rattle.fold_base.specs.declared.memory.MemorySource.{MemorySource}
use Rattle.fold_base.specs.declared.memory.MemorySink.{MemorySink}
use Rattle.fold_base.specs.declared.plan.Plan.{Plan}

-- the bytes that are left
abbrev pub source_left : MemorySource → List ℕ
source_left s = s.remaining

-- the most bytes that a call gives
abbrev pub source_piece : MemorySource → ℕ
source_piece s = s.piece

abbrev pub source_plan : MemorySource → Plan
source_plan s = s.plan

-- the bytes that were written
abbrev pub sink_bytes : MemorySink → List ℕ
sink_bytes s = s.bytes.items

-- how many more bytes it has room for
abbrev pub sink_room : MemorySink → ℕ
sink_room s = s.room

-- the most bytes that a call takes
abbrev pub sink_piece : MemorySink → ℕ
sink_piece s = s.piece

abbrev pub sink_plan : MemorySink → Plan
sink_plan s = s.plan
