-- the lists and objects that are open, in code and in the machine
use Rattle.std.specs.Prelude.{◌≡◌, ◌⊎◌, ℕ, List, [], ◌∷◌, Option, Some, None, map, reverse}
use Rattle.std.proofs.Common.{refl, inl, inr}
use Rattle.std.specs.Coded.{Coded, code_by, coded×, coded⊎, coded_list, coded_ℕ}
use Rattle.json_tree.specs.contracts.tree.Json as json
use Rattle.json_tree.specs.contracts.tree.Member as member
use Rattle.json_tree.specs.declared.tree.Json.{Json}
use Rattle.json_tree.specs.declared.tree.Member.{Member}
use Rattle.json_machine.specs.Machine as machine
use Rattle.json_read.specs.declared.frame.Frame.{Frame}
use Rattle.json_read.specs.declared.frame.Frame.TheVariants as frames

-- a frame is stored as its values, or as its members and the key in hand
abbrev pub parts_of : machine.Frame → List Json ⊎ (List Member × List ℕ)
parts_of (machine.InList values) = inl values
parts_of (machine.InObject members key) = inr (members, key)

abbrev pub of_parts : List Json ⊎ (List Member × List ℕ) → machine.Frame
of_parts (inl values) = machine.InList values
of_parts (inr object) = machine.InObject object.0 object.1

pub made_of_parts : (frame : machine.Frame) → of_parts (parts_of frame) ≡ frame
made_of_parts (machine.InList values) = refl
made_of_parts (machine.InObject members key) = refl

abbrev pub frame_code : Coded machine.Frame
frame_code = code_by (List Json ⊎ (List Member × List ℕ))
    (coded⊎ (coded_list json.the_row.coded) (coded× (coded_list member.the_row.coded) (coded_list coded_ℕ)))
    parts_of of_parts made_of_parts

abbrev pub frame_of : Frame → machine.Frame
frame_of (frames.List values) = machine.InList values
frame_of (frames.Object object) = machine.InObject object.0 object.1

-- the innermost first, and then those around it
abbrev pub opened : Option Frame → List Frame → List machine.Frame
opened None outer = []
opened (Some frame) outer = frame_of frame ∷ map frame_of (reverse outer)
