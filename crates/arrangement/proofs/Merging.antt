-- The letter that is left of several depends on these alone, and is one.
use mathlib.Core.Path.{◌≡◌, sym, ◌∙◌}
use mathlib.Core.Logic.{inl, inr}
use Rattle.std.specs.Prelude.{◌↔◌}
use Rattle.fold_base.specs.declared.letter.Letter.{Letter}
use Rattle.fold_base.specs.declared.letter.Letter.TheVariants.{Border, Mountain, Valley, Flat, Unassigned, Cut, Join}
use Rattle.scaled_plane.specs.Pieces.{First, IsMerged}

first_moved : (P Q : Type 0) (l : Letter) (R S : Letter → Type 0) (letter : Letter) → P ↔ Q → ((m : Letter) → R m → S m) → First P l R letter → First Q l S letter
first_moved P Q l R S letter same rest (inl h) = inl (same.0 h.0, h.1)
first_moved P Q l R S letter same rest (inr h) = inr (λ q. h.0 (same.1 q), rest letter h.1)

first_once : (P : Type 0) (l : Letter) (R : Letter → Type 0) (a b : Letter) → (R a → R b → a ≡ b) → First P l R a → First P l R b → a ≡ b
first_once P l R a b rest (inl h) (inl k) = h.1 ∙ sym k.1
first_once P l R a b rest (inl h) (inr k) = absurd (k.0 h.0)
first_once P l R a b rest (inr h) (inl k) = absurd (h.0 k.0)
first_once P l R a b rest (inr h) (inr k) = rest h.1 k.1

pub merged_moved : (P Q : Letter → Type 0) → ((l : Letter) → P l ↔ Q l) → (letter : Letter) → IsMerged P letter → IsMerged Q letter
merged_moved P Q same letter =
    first_moved (P Border) (Q Border) Border _ _ letter (same Border)
    (λ m. first_moved (P Cut) (Q Cut) Cut _ _ m (same Cut)
    (λ m. first_moved (P Mountain × P Valley) (Q Mountain × Q Valley) Unassigned _ _ m
    (λ h. ((same Mountain).0 h.0, (same Valley).0 h.1), λ h. ((same Mountain).1 h.0, (same Valley).1 h.1))
    (λ m. first_moved (P Mountain) (Q Mountain) Mountain _ _ m (same Mountain)
    (λ m. first_moved (P Valley) (Q Valley) Valley _ _ m (same Valley)
    (λ m. first_moved (P Unassigned) (Q Unassigned) Unassigned _ _ m (same Unassigned)
    (λ m. first_moved (P Flat) (Q Flat) Flat _ _ m (same Flat)
    (λ m. first_moved (P Join) (Q Join) Join (λ l. ⊥) (λ l. ⊥) m (same Join) (λ l h. h))))))))

module _ (P : Letter → Type 0) where
  abbrev join : Letter → Type 0
  join = First (P Join) Join (λ letter. ⊥)

  abbrev flat : Letter → Type 0
  flat = First (P Flat) Flat join

  abbrev unassigned : Letter → Type 0
  unassigned = First (P Unassigned) Unassigned flat

  abbrev valley : Letter → Type 0
  valley = First (P Valley) Valley unassigned

  abbrev mountain : Letter → Type 0
  mountain = First (P Mountain) Mountain valley

  abbrev both : Letter → Type 0
  both = First (P Mountain × P Valley) Unassigned mountain

  abbrev cut : Letter → Type 0
  cut = First (P Cut) Cut both

  pub merged_once : (a b : Letter) → IsMerged P a → IsMerged P b → a ≡ b
  merged_once a b =
      first_once (P Border) Border cut a b
      (first_once (P Cut) Cut both a b
      (first_once (P Mountain × P Valley) Unassigned mountain a b
      (first_once (P Mountain) Mountain valley a b
      (first_once (P Valley) Valley unassigned a b
      (first_once (P Unassigned) Unassigned flat a b
      (first_once (P Flat) Flat join a b
      (first_once (P Join) Join (λ letter. ⊥) a b (λ h k. absurd h))))))))
