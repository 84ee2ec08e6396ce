-- a loop that looks for the first answer along a list
use Rattle.std.proofs.Common.{◌≡◌, ℕ, ◌+◌, ◌<◌, ◌≤◌, List, length, map, drop, get_or, sym, ◌∙◌, ap, Option, Some, None}
use Rattle.std.proofs.lemmas.List.{drop_more, drop_all}
use Rattle.fold_keys.specs.Along.{or_else}
use Rattle.fold_frames.specs.Counts.{first_of}

module _ {I A B : Type 0} (f : A → Option B) (shows : I → A) (items : List I) where
  -- what was passed has no answer
  abbrev pub IsPassed : ℕ → Type 0
  IsPassed i = first_of f (map shows (drop i items)) ≡ first_of f (map shows items)

  pub answer_here : (i : ℕ) (d : I) (b : B) → IsPassed i → i < length items
      → f (shows (get_or items i d)) ≡ Some b → first_of f (map shows items) ≡ Some b
  answer_here i d b passed within is =
      sym passed ∙ ap (λ xs. first_of f (map shows xs)) (drop_more items i d within)
      ∙ ap (λ o. or_else o (first_of f (map shows (drop (i + 1) items)))) is

  pub answer_later : (i : ℕ) (d : I) → IsPassed i → i < length items
      → f (shows (get_or items i d)) ≡ None → IsPassed (i + 1)
  answer_later i d passed within is =
      sym (ap (λ xs. first_of f (map shows xs)) (drop_more items i d within)
      ∙ ap (λ o. or_else o (first_of f (map shows (drop (i + 1) items)))) is) ∙ passed

  pub no_answer : (i : ℕ) → IsPassed i → length items ≤ i → first_of f (map shows items) ≡ None
  no_answer i passed over = sym passed ∙ ap (λ xs. first_of f (map shows xs)) (drop_all i items over)
