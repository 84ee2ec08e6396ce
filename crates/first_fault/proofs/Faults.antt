-- an accepted text has no first fault, and no text has two
use Rattle.std.proofs.Common.{◌≡◌, ℕ, ◌+◌, ◌<◌, ◌≤◌, List, ◌++◌, take, drop, refl, sym, subst, append_assoc, arith, inl, inr, length-append}
use Rattle.std.proofs.lemmas.List.{take-append-drop, take-append-le, take-take}
use Rattle.std.proofs.lemmas.Bool.{cases_lt}
use Rattle.first_fault.specs.FirstFault.{IsAccepted, Begins, IsFirstFault, Stop, Byte, Ended}

module _ {V : Type 0} (Grammar : List ℕ → V → Type 0) where
  -- what begins an accepted text does so from each of its fronts
  pub begins_front : (s t : List ℕ) → Begins Grammar (s ++ t) → Begins Grammar s
  begins_front s t b = (t ++ b.0, subst (IsAccepted Grammar) (append_assoc s t b.0) b.1)

  begins_shorter : (m n : ℕ) (t : List ℕ) → m ≤ n → Begins Grammar (take n t) → Begins Grammar (take m t)
  begins_shorter m n t h b = rw (← take-take m n t h) (begins_front (take m (take n t)) (drop m (take n t)) (rw take-append-drop b))

  begins_accepted : (t : List ℕ) (n : ℕ) → IsAccepted Grammar t → Begins Grammar (take n t)
  begins_accepted t n a = (drop n t, subst (IsAccepted Grammar) (sym (take-append-drop n t)) a)

  -- a fault stands at the text's end at most, and no fault stands before it
  no_earlier : (text : List ℕ) (p q : ℕ) (c d : Stop) → p < q → IsFirstFault Grammar text p c → IsFirstFault Grammar text q d → ⊥
  no_earlier text p q Byte Byte lt f g = f.2 (begins_shorter (p + 1) q text (omega arith) g.1)
  no_earlier text p q Byte Ended lt f g = f.2 (begins_shorter (p + 1) q text (omega arith) g.1)
  no_earlier text p q Ended Byte lt f g = omega arith
  no_earlier text p q Ended Ended lt f g = omega arith

  same_stop : (text : List ℕ) (p q : ℕ) (c d : Stop) → p ≡ q → IsFirstFault Grammar text p c → IsFirstFault Grammar text q d → c ≡ d
  same_stop text p q Byte Byte e f g = refl
  same_stop text p q Byte Ended e f g = absurd (omega arith)
  same_stop text p q Ended Byte e f g = absurd (omega arith)
  same_stop text p q Ended Ended e f g = refl

  -- a fault at a byte is one of each longer text
  pub fault_stays : (text more : List ℕ) (p : ℕ) → IsFirstFault Grammar text p Byte → IsFirstFault Grammar (text ++ more) p Byte
  fault_stays text more p f = (
    omega (arith, f.0, length-append text more),
    subst (Begins Grammar) (sym (take-append-le p text more (omega (arith, f.0)))) f.1,
    (λ b. f.2 (subst (Begins Grammar) (take-append-le (p + 1) text more (omega (arith, f.0))) b)),
  )

  -- and no accepted text begins so
  pub stopped : (text : List ℕ) (p : ℕ) → IsFirstFault Grammar text p Byte → ¬ Begins Grammar text
  stopped text p f b = f.2 (begins_front (take (p + 1) text) (drop (p + 1) text) (subst (Begins Grammar) (sym (take-append-drop (p + 1) text)) b))

  pub no_fault : (text : List ℕ) (p : ℕ) (c : Stop) → IsAccepted Grammar text → IsFirstFault Grammar text p c → ⊥
  no_fault text p Byte a f = f.2 (begins_accepted text (p + 1) a)
  no_fault text p Ended a f = f.2 a

  pub one_fault : (text : List ℕ) (p q : ℕ) (c d : Stop) → IsFirstFault Grammar text p c → IsFirstFault Grammar text q d → (p ≡ q) × (c ≡ d)
  one_fault text p q c d f g =
      let same : p ≡ q = elim (cases_lt p q) [
        | inl lt ↦ absurd (no_earlier text p q c d lt f g)
        | inr ge ↦ elim (cases_lt q p) [ inl lt ↦ absurd (no_earlier text q p d c lt g f) | inr le ↦ omega arith ]
      ]
      in (same, same_stop text p q c d same f g)
