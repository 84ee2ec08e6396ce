-- the letters of the FOLD format
use Rattle.std.specs.Prelude.{ℕ}
use Rattle.fold_base.specs.declared.letter.Letter.{Letter}
use Rattle.fold_base.specs.declared.letter.Letter.TheVariants.{Border, Mountain, Valley, Flat, Unassigned, Cut, Join}

-- the byte that stands for a letter: B, M, V, F, U, C or J
abbrev pub spelling : Letter → ℕ
spelling Border = 66
spelling Mountain = 77
spelling Valley = 86
spelling Flat = 70
spelling Unassigned = 85
spelling Cut = 67
spelling Join = 74
