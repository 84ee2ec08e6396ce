-- what a source that never fails holds
use Rattle.std.specs.Prelude.{ℕ, List}
use Rattle.fold_base.specs.declared.calm.CalmSource.{CalmSource}

-- the bytes that are left
abbrev pub calm_left : CalmSource → List ℕ
calm_left s = s.remaining

-- the most bytes that a call gives
abbrev pub calm_piece : CalmSource → ℕ
calm_piece s = s.piece
