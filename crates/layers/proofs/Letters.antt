-- Letters that don't fit are those of creases, and either face of an edge may be called its first.
use mathlib.Core.Logic.{◌⊎◌, inl, inr}
use Prim.Native.Nat.{ℕ}
use Rattle.fold_base.specs.declared.letter.Letter.{Letter}
use Rattle.fold_base.specs.declared.letter.Letter.TheVariants.{Border, Mountain, Valley, Flat, Unassigned, Join, Cut}
use Rattle.algebra.specs.OrderedRing.{OrderedRing}
use Rattle.layers.specs.Sheets.{FoldedSheet, IsCrease}
use Rattle.layers.specs.Points.{LetterFits}

module _ {A : Type 0} (K : OrderedRing A) (sheet : FoldedSheet A) (above : ℕ → ℕ → Type 0) where
  pub crease_or_fits : (letter : Letter) (f g : ℕ) → IsCrease letter ⊎ LetterFits K sheet above letter f g
  crease_or_fits Border f g = inr tt
  crease_or_fits Mountain f g = inl tt
  crease_or_fits Valley f g = inl tt
  crease_or_fits Flat f g = inr tt
  crease_or_fits Unassigned f g = inr tt
  crease_or_fits Join f g = inr tt
  crease_or_fits Cut f g = inr tt

  pub misfit_is_crease : (letter : Letter) (f g : ℕ) → ¬ LetterFits K sheet above letter f g → IsCrease letter
  misfit_is_crease letter f g n = elim (crease_or_fits letter f g) [ inl c ↦ c | inr fits ↦ absurd (n fits) ]

  pub letter_either : (letter : Letter) (f g : ℕ) → LetterFits K sheet above letter f g → LetterFits K sheet above letter g f
  letter_either Border f g h = tt
  letter_either Mountain f g h = (h.1, h.0)
  letter_either Valley f g h = (h.1, h.0)
  letter_either Flat f g h = tt
  letter_either Unassigned f g h = tt
  letter_either Join f g h = tt
  letter_either Cut f g h = tt
