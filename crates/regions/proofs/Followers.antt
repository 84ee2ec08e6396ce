-- After each directed piece comes exactly one.
use Prim.Native.Nat.{ℕ}
use mathlib.Core.Path.{◌≡◌, refl, sym, ◌∙◌, subst}
use mathlib.Core.List.{List}
use mathlib.Core.Logic.{inl, inr}
use Rattle.algebra.specs.OrderedRing.{OrderedRing}
use Rattle.plane.specs.declared.point.Point.{Point}
use Rattle.regions.proofs.Drawings.{Piece, piece, IsDirected, IsPlane}
use Rattle.regions.proofs.Walks.{ComesBefore, Follows, OneWalk, same, onward, back}
use Rattle.regions.proofs.Directions.{directed_back}
use Rattle.regions.proofs.Turns.{one_first, one_last}
use Rattle.regions.proofs.Adding.{best}

module _ {A : Type 0} (K : OrderedRing A) (place : ℕ → Point A) (ps : List Piece) (plane : IsPlane K place ps) where
  pub follower : (d : Piece) → IsDirected ps d → (e : Piece) × Follows K place ps d e
  follower d h = elim (best K place ps plane d.head d.tail (directed_back ps d h) ps (λ x i. i)) [
    | inl none ↦ absurd (none d.tail (directed_back ps d h))
    | inr b ↦ (piece d.head b.0, record { before = h; after = b.1; turns_at = refl; next = b.2 })
  ]

  pub one_follower : (d e f : Piece) → Follows K place ps d e → Follows K place ps d f → e ≡ f
  one_follower d e f h k =
      let near_e : IsDirected ps (piece d.head e.head) = subst (λ t. IsDirected ps (piece t e.head)) h.turns_at h.after in
      let near_f : IsDirected ps (piece d.head f.head) = subst (λ t. IsDirected ps (piece t f.head)) k.turns_at k.after in
      let heads : e.head ≡ f.head = one_first K place ps plane d.head d.tail e.head f.head (directed_back ps d h.before) near_e near_f (k.next e.head near_e) (h.next f.head near_f) in
      λ i. record { tail = (h.turns_at ∙ sym k.turns_at) i; head = heads i }

  pub one_before : (d e f : Piece) → Follows K place ps d f → Follows K place ps e f → d ≡ e
  one_before d e f h k =
      let heads : d.head ≡ e.head = sym h.turns_at ∙ k.turns_at in
      let tails : d.tail ≡ e.tail
      = one_last K place ps plane d.head f.head d.tail e.tail (subst (λ t. IsDirected ps (piece t f.head)) h.turns_at h.after) (directed_back ps d h.before)
      (subst (λ c. IsDirected ps (piece c e.tail)) (sym heads) (directed_back ps e k.before))
      (h.next e.tail (subst (λ c. IsDirected ps (piece c e.tail)) (sym heads) (directed_back ps e k.before)))
      (subst (λ c. ¬ ComesBefore K place c e.tail d.tail f.head) (sym heads) (k.next d.tail (subst (λ c. IsDirected ps (piece c d.tail)) heads (directed_back ps d h.before)))) in
      λ i. record { tail = tails i; head = heads i }

  -- what following leads into and out of holds of whole walks
  pub throughout_walk : (P : Piece → Type 0) → ((d e : Piece) → Follows K place ps d e → (P d → P e) × (P e → P d)) → {d e : Piece} → OneWalk K place ps d e → P d → P e
  throughout_walk P h same p = p
  throughout_walk P h (onward {d} {e} f w) p = throughout_walk P h w ((h d e f).0 p)
  throughout_walk P h (back {d} {e} f w) p = throughout_walk P h w ((h e d f).1 p)
