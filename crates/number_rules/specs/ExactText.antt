-- The texts of exact numbers: their three whole numbers in plain digits, and a 3 where they are
-- over the root of 3.
use Rattle.std.specs.Prelude.{◌≡◌, ℕ, ◌≤◌, ◌++◌, ◌∷◌, [], List, ◌==◌, if◌then◌else◌, unsigned_abs, Result, Ok, Err}
use Rattle.std.specs.Fmt.{signed_decimal}
use Rattle.algebra.specs.LowestTerms.{Parts, IsLowest}
use Rattle.number_rules.specs.WholeText.{most}
use Rattle.number_rules.specs.declared.unread.Unread.{Unread}
use Rattle.number_rules.specs.declared.unread.Unread.TheVariants.{ExactText}

-- `,3` over the root of 3, else nothing
abbrev pub root_mark : ℕ → List ℕ
root_mark k = if k == 3 then 44 ∷ 51 ∷ [] else []

-- `a,b,q`, and over the root of 3 `a,b,q,3`
abbrev pub exact_text_of : ℕ → Parts → List ℕ
exact_text_of k p =
    signed_decimal p.a ++ (44 ∷ (signed_decimal p.b ++ (44 ∷ (signed_decimal p.q ++ root_mark k))))

-- each part is at most 2^92 in size
pub record AreShort (p : Parts) : Type 0 where
  pub a : unsigned_abs p.a ≤ most
  pub b : unsigned_abs p.b ≤ most
  pub q : unsigned_abs p.q ≤ most

-- what a text is read as, over √k
module _ {N : Type 0} (k : ℕ) (parts : N → Parts) where
  abbrev pub ReadsExactText : List ℕ → Result N Unread → Type 0
  ReadsExactText text (Ok x) = (text ≡ exact_text_of k (parts x)) × AreShort (parts x)
  ReadsExactText text (Err cause) =
      (cause ≡ ExactText) × ((p : Parts) → IsLowest p → AreShort p → text ≡ exact_text_of k p → ⊥)

-- the number with these parts, or none where they aren't in lowest terms
module _ {N : Type 0} (parts : N → Parts) (p : Parts) where
  abbrev pub IsOrNotLowest : Result N Unread → Type 0
  IsOrNotLowest (Ok x) = parts x ≡ p
  IsOrNotLowest (Err cause) = (cause ≡ ExactText) × ¬ IsLowest p
