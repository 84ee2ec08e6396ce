-- a fault as it is shown
use Rattle.std.specs.Prelude.{ℕ, List, ◌++◌, codes}
use Rattle.std.specs.Fmt.{decimal}
use Rattle.fold_keys.specs.declared.fault.ShapeKind.{ShapeKind}
use Rattle.fold_keys.specs.declared.fault.ShapeKind.TheVariants.{NotKind, Length, Spec, Letter, Side, Uneven, IdRange}
use Rattle.fold_keys.specs.declared.fault.ShapeFault.{ShapeFault}

-- the words for a cause
abbrev pub cause_words : ShapeKind → List ℕ
cause_words NotKind = codes "not kind"
cause_words Length = codes "length"
cause_words Spec = codes "spec"
cause_words Letter = codes "letter"
cause_words Side = codes "side"
cause_words Uneven = codes "uneven"
cause_words IdRange = codes "id range"

-- the frame, the key as it is, the index and the cause, in one line
abbrev pub fault_text : ShapeFault → List ℕ
fault_text fault = codes "frame " ++ decimal fault.frame ++ codes " key " ++ fault.key
    ++ codes " index " ++ decimal fault.index ++ codes ": " ++ cause_words fault.cause
