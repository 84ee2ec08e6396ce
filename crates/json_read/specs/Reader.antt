-- what a reader has read, and how it stands
use Rattle.std.specs.Prelude.{◌≡◌, ℕ, List, length, Option, Some, None}
use Rattle.first_fault.specs.Machine.{steps}
use Rattle.json_machine.specs.Machine.{step, start}
use Rattle.json_read.specs.Causes.{NamesFirstFault}
use Rattle.json_read.specs.Views.{state_of}
use Rattle.json_read.specs.declared.fault.JsonCause.TheVariants.{Ended}
use Rattle.json_read.specs.declared.fault.JsonReadFault.{JsonReadFault}
use Rattle.json_read.specs.declared.fault.JsonReadFault.TheVariants.{Text, Memory}
use Rattle.json_read.specs.declared.machine.Machine.{Machine}
use Rattle.json_read.specs.declared.reader.JsonReader.{JsonReader}

-- how many bytes were fed
abbrev pub bytes_fed : JsonReader → ℕ
bytes_fed reader = reader.count

-- while it goes on, its machine has made the steps of the text; a fault that it has found is the
-- text's first, whatever follows; what lacked memory has read no text
abbrev pub HasReadBy : Option JsonReadFault → Machine → List ℕ → Type 0
HasReadBy None machine text = steps step start text ≡ Some (state_of machine)
HasReadBy (Some (Text fault)) machine text = NamesFirstFault text fault × ¬ (fault.cause ≡ Ended)
HasReadBy (Some (Memory e)) machine text = ⊥

-- the reader was fed this text
abbrev pub HasRead : JsonReader → List ℕ → Type 0
HasRead reader text = (reader.count ≡ length text) × HasReadBy reader.stopped reader.machine text

-- it has stopped at this fault
abbrev pub HasStopped : JsonReader → JsonReadFault → Type 0
HasStopped reader fault = reader.stopped ≡ Some fault
