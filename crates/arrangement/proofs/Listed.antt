-- Lists seen through a function of their elements.
use mathlib.Core.Path.{◌≡◌, sym, ap, subst, ◌∙◌}
use mathlib.Core.List.{List, [], ◌∷◌, ◌++◌, map}
use Prim.Native.Nat.{ℕ, ◌<◌}
use Rattle.std.proofs.Common.{inl, inr}
use Rattle.std.specs.Prelude.{Contains, length, slice_index_or}
use Rattle.std.specs.List.{AllZip}
use Rattle.std.proofs.lemmas.List.{get_or-map, length-map}
use Rattle.plane.proofs.Members.{in_cons, in_head, in_nil, in_tail}

module _ {X Y : Type 0} (f : X → Y) where
  -- what stands at a place
  pub seen_at : (xs : List X) (i : ℕ) (x : X) → i < length xs → x ≡ slice_index_or xs i x → f x ≡ slice_index_or (map f xs) i (f x)
  seen_at xs i x h e = ap f e ∙ sym (get_or-map f xs i x (f x) h)

  pub seen_within : (xs : List X) (i : ℕ) → i < length xs → i < length (map f xs)
  seen_within xs i h = subst (λ n. i < n) (sym (length-map xs f)) h

  -- what is seen was there
  pub seen_in : (xs : List X) (y : Y) → Contains (map f xs) y → (x : X) × Contains xs x × (f x ≡ y)
  seen_in [] y c = absurd (in_nil y c)
  seen_in (x ∷ xs) y c = elim (in_cons (f x) (map f xs) y c) [
    | inl e ↦ (x, in_head x xs, e)
    | inr n ↦ let r = seen_in xs y n in (r.0, in_tail x xs r.0 r.1, r.2)
  ]

  pub in_seen : (xs : List X) (x : X) → Contains xs x → Contains (map f xs) (f x)
  in_seen [] x c = absurd (in_nil x c)
  in_seen (y ∷ ys) x c = elim (in_cons y ys x c) [
    | inl e ↦ subst (λ z. Contains (f y ∷ map f ys) (f z)) e (in_head (f y) (map f ys))
    | inr n ↦ in_tail (f y) (map f ys) (f x) (in_seen ys x n)
  ]

-- two lists that agree element by element, with one more of each
pub all_zip_push : {X Y : Type 0} (R : X → Y → Type 0) (xs : List X) (ys : List Y) (x : X) (y : Y) → AllZip R xs ys → R x y → AllZip R (xs ++ x ∷ []) (ys ++ y ∷ [])
all_zip_push R [] [] x y h r = (r, tt)
all_zip_push R [] (v ∷ vs) x y h r = absurd h
all_zip_push R (u ∷ us) [] x y h r = absurd h
all_zip_push R (u ∷ us) (v ∷ vs) x y h r = (h.0, all_zip_push R us vs x y h.1 r)
