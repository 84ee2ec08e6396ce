-- Numbers that a list holds twice.
use Rattle.std.specs.Prelude.{◌≡◌, ◌⊎◌, ◌<◌, ℕ, List, Bool, true, false, Option, None, Some, MatchOption, min, slice_index, slice_set}
use Rattle.sheet_check.specs.Listed.{is_marked}

-- of the first n numbers two are v
abbrev pub ComesTwice : List ℕ → ℕ → ℕ → Type 0
ComesTwice corners n v = (i j : ℕ) × (i < j) × (j < n) × (slice_index corners i ≡ v) × (slice_index corners j ≡ v)

-- the least that comes twice among the first n, if one does
abbrev pub IsLeastTwice : List ℕ → ℕ → Option ℕ → Type 0
IsLeastTwice corners n found = MatchOption found
    ((v : ℕ) → ¬ ComesTwice corners n v)
    (λ v. ComesTwice corners n v × ((u : ℕ) → u < v → ¬ ComesTwice corners n u))

-- the first n numbers are marked, and no other, and the least that comes twice among them is found
pub record AreSeen (corners : List ℕ) (n : ℕ) (marks : List Bool) (found : Option ℕ) : Type 0 where
  pub only : (v : ℕ) → is_marked marks v ≡ true → (i : ℕ) × (i < n) × (slice_index corners i ≡ v)
  pub every : (i : ℕ) → i < n → is_marked marks (slice_index corners i) ≡ true
  pub least : IsLeastTwice corners n found

-- the lesser of this number and what is found
abbrev pub least_of : ℕ → Option ℕ → Option ℕ
least_of v None = Some v
least_of v (Some u) = Some (min v u)

-- a number is marked; where it was before, it is found too
abbrev pub Notes : ℕ → List Bool → List Bool → Option ℕ → Option ℕ → Type 0
Notes v old new found found' =
    ((is_marked old v ≡ true) × (new ≡ old) × (found' ≡ least_of v found))
    ⊎ ((is_marked old v ≡ false) × (new ≡ slice_set old v true) × (found' ≡ found))
