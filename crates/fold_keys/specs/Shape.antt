-- where a file first isn't of FOLD's shape: along its frames, along the members of each, along the
-- elements of each value
use Rattle.std.specs.Prelude.{ℕ, ◌==◌, List, [], ◌∷◌, Bool, Option, Some, None, option_map, option_and_then, if◌then◌else◌, codes}
use Rattle.std.specs.Option.{unwrap_or}
use Rattle.json_tree.specs.At.{value_of}
use Rattle.json_tree.specs.declared.tree.Json.{Json, Json-F, out-Json}
use Rattle.json_tree.specs.declared.tree.Json.TheOpen as layers
use Rattle.json_tree.specs.declared.tree.Member.{Member}
use Rattle.fold_keys.specs.Along.{first_along}
use Rattle.fold_keys.specs.Elements.{is_number, is_word, is_id, is_truth, or_null, misfit_of_plain, misfit_of_all, misfit_of_coords, misfit_of_pair, misfit_of_letter, misfit_of_order}
use Rattle.fold_keys.specs.Reading.{Misfit, first_misfit}
use Rattle.fold_keys.specs.Spec.{is_above_spec}
use Rattle.fold_keys.specs.Table.{kind_in_frame, kind_in_first_frame}
use Rattle.fold_keys.specs.declared.fault.ShapeKind.{ShapeKind}
use Rattle.fold_keys.specs.declared.fault.ShapeKind.TheVariants as causes
use Rattle.fold_keys.specs.declared.fault.ShapeFault.{ShapeFault}
use Rattle.fold_keys.specs.declared.kind.Kind.{Kind}
use Rattle.fold_keys.specs.declared.kind.Kind.TheVariants as kinds

-- a misfit of the value as a whole
abbrev pub whole : ShapeKind → Option Misfit
whole cause = Some (record { index = 0; cause = cause })

abbrev pub of_one : (Json → Bool) → Json → Option Misfit
of_one passes tree = if passes tree then None else whole causes.NotKind

abbrev pub of_list_layer : (Json → Option ShapeKind) → Json-F Json Member → Option Misfit
of_list_layer misfit (layers.List items) = first_misfit misfit items
of_list_layer misfit layer = whole causes.NotKind

abbrev pub of_list : (Json → Option ShapeKind) → Json → Option Misfit
of_list misfit tree = of_list_layer misfit (out-Json tree)

abbrev pub of_spec_layer : Json-F Json Member → Option Misfit
of_spec_layer (layers.Number text) = if is_above_spec text then whole causes.Spec else None
of_spec_layer layer = whole causes.NotKind

abbrev pub of_spec : Json → Option Misfit
of_spec tree = of_spec_layer (out-Json tree)

-- the first misfit of a value of this kind
abbrev pub misfit_of_value : Kind → Json → Option Misfit
misfit_of_value kinds.Spec tree = of_spec tree
misfit_of_value kinds.Word tree = of_one is_word tree
misfit_of_value kinds.Words tree = of_list (misfit_of_plain is_word) tree
misfit_of_value kinds.Frames tree = of_list (λ frame. None) tree
misfit_of_value kinds.Id tree = of_one is_id tree
misfit_of_value kinds.Truth tree = of_one is_truth tree
misfit_of_value kinds.Coords tree = of_list misfit_of_coords tree
misfit_of_value kinds.Exact tree = of_list (misfit_of_pair is_word) tree
misfit_of_value (kinds.IdLists named) tree = of_list (misfit_of_all is_id) tree
misfit_of_value kinds.FaceLists tree = of_list (misfit_of_all (or_null is_id)) tree
misfit_of_value kinds.Pairs tree = of_list (misfit_of_pair is_id) tree
misfit_of_value kinds.Letters tree = of_list misfit_of_letter tree
misfit_of_value kinds.Numbers tree = of_list (misfit_of_plain (or_null is_number)) tree
misfit_of_value kinds.Orders tree = of_list misfit_of_order tree

-- the kind of a key in the first frame, or in another, if it is read there
abbrev pub kind_by : Bool → List ℕ → Option Kind
kind_by first key = if first then kind_in_first_frame key else kind_in_frame key

abbrev pub kind_at : ℕ → List ℕ → Option Kind
kind_at frame key = kind_by (frame == 0) key

abbrev pub misfit_of_member : ℕ → Member → Option ShapeFault
misfit_of_member frame m =
    option_map
    (λ misfit. record { frame = frame; key = m.key; index = misfit.index; cause = misfit.cause })
    (option_and_then (λ kind. misfit_of_value kind m.value) (kind_at frame m.key))

abbrev pub misfit_of_members : ℕ → List Member → Option ShapeFault
misfit_of_members frame members = first_along (λ place m. misfit_of_member frame m) 0 members

-- the first misfit of a frame: no object, or along its members
abbrev pub misfit_of_frame_layer : ℕ → Json-F Json Member → Option ShapeFault
misfit_of_frame_layer frame (layers.Object members) = misfit_of_members frame members
misfit_of_frame_layer frame layer =
    Some (record { frame = frame; key = []; index = 0; cause = causes.NotKind })

abbrev pub misfit_of_frame : ℕ → Json → Option ShapeFault
misfit_of_frame frame tree = misfit_of_frame_layer frame (out-Json tree)

-- the trees of the other frames: the elements of the list at `file_frames` of the first
abbrev pub items_of_layer : Json-F Json Member → Option (List Json)
items_of_layer (layers.List items) = Some items
items_of_layer layer = None

abbrev pub others_among : List Member → Option (List Json)
others_among members =
    option_and_then (λ tree. items_of_layer (out-Json tree))
    (value_of members (codes "file_frames"))

abbrev pub others_of_layer : Json-F Json Member → Option (List Json)
others_of_layer (layers.Object members) = others_among members
others_of_layer layer = None

abbrev pub other_frames : Json → List Json
other_frames tree = unwrap_or (others_of_layer (out-Json tree)) []

-- the first misfit of a file: along its frames, the first of which is the file's own object
abbrev pub misfit_of_file : Json → Option ShapeFault
misfit_of_file tree = first_along misfit_of_frame 0 (tree ∷ other_frames tree)
