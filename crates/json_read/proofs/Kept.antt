-- what a reader that has read a text knows of it
use Rattle.std.proofs.Common.{◌≡◌, List, ℕ, ap, subst, refl, Some, None}
use Rattle.std.specs.declared.option.Option.{Option}
use Rattle.first_fault.specs.FirstFault.{Begins}
use Rattle.json_tree.specs.Spells.{Spells}
use Rattle.json_machine.proofs.Decided.{decides}
use Rattle.json_read.specs.Causes.{NamesFirstFault}
use Rattle.json_read.specs.Reader.{HasReadBy}
use Rattle.json_read.specs.Views.{state_of}
use Rattle.json_read.specs.declared.fault.JsonCause.TheVariants.{Ended}
use Rattle.json_read.specs.declared.fault.JsonFault.{JsonFault}
use Rattle.json_read.specs.declared.fault.JsonReadFault.{JsonReadFault}
use Rattle.json_read.specs.declared.fault.JsonReadFault.TheVariants.{Text, Memory}
use Rattle.json_read.specs.declared.machine.Machine.{Machine}
use Rattle.json_read.proofs.Readings.{begins_not, same_fault}

pub kept_by : (stopped : Option JsonReadFault) (machine : Machine) (text : List ℕ) (fault : JsonFault) → HasReadBy stopped machine text → NamesFirstFault text fault → (fault.cause ≡ Ended → ⊥) → stopped ≡ Some (Text fault)
kept_by None machine text fault r n more = absurd (begins_not text fault.place fault.cause more n (decides.alive text (state_of machine) r))
kept_by (Some (Text found)) machine text fault r n more = ap (λ f. Some (Text f)) (same_fault text found fault r.0 n)
kept_by (Some (Memory e)) machine text fault r n more = absurd r

pub found_by : (stopped : Option JsonReadFault) (machine : Machine) (text : List ℕ) (fault : JsonReadFault) → HasReadBy stopped machine text → stopped ≡ Some fault → HasReadBy (Some fault) machine text
found_by stopped machine text fault r e = subst (λ s. HasReadBy s machine text) e r

pub going_by : (stopped : Option JsonReadFault) (machine : Machine) (text : List ℕ) → HasReadBy stopped machine text → ((fault : JsonReadFault) → stopped ≡ Some fault → ⊥) → Begins Spells text
going_by None machine text r none = decides.alive text (state_of machine) r
going_by (Some fault) machine text r none = absurd (none fault refl)
