-- The proper segments have the vertices of all.
use mathlib.Core.Path.{◌≡◌, refl, sym, ap, subst, ◌∙◌}
use mathlib.Core.List.{List, [], ◌∷◌}
use Rattle.std.proofs.Common.{inl, inr}
use Rattle.std.specs.Prelude.{◌⊎◌, ◌↔◌, Bool, true, false, cond, filter, Contains}
use Rattle.std.specs.Ordering.{is_ne}
use Rattle.std.specs.declared.cmp.Ordering.{Ordering}
use Rattle.std.specs.declared.cmp.Ordering.TheVariants.{Less, Equal, Greater}
use Rattle.algebra.specs.OrderedRing.{OrderedRing}
use Rattle.plane.specs.declared.point.Point.{Point}
use Rattle.plane.specs.Points.{point_order}
use Rattle.plane.proofs.Members.{in_cons, in_head, in_nil, in_tail}
use Rattle.plane.proofs.Order.{equal_of_same, same_of_equal}
use Rattle.scaled_plane.specs.declared.point.Segment.{Segment}
use Rattle.scaled_plane.specs.Pieces.{AreVertices, IsEndOfOne, IsProper, IsVertex}
use Rattle.arrangement.specs.Spans.{is_proper}

kept_at : {X : Type 0} (p : X → Bool) (x : X) (xs : List X) (y : X) (b : Bool) → p x ≡ b → (Contains (filter p xs) y → Contains xs y × (p y ≡ true))
    → Contains (cond b (x ∷ filter p xs) (filter p xs)) y → Contains (x ∷ xs) y × (p y ≡ true)
kept_at {X} p x xs y true e rest c = by_cases (in_cons x (filter p xs) y c)
  where
    by_cases : (x ≡ y) ⊎ Contains (filter p xs) y → Contains (x ∷ xs) y × (p y ≡ true)
    by_cases (inl q) = (subst (Contains (x ∷ xs)) q (in_head x xs), subst (λ z. p z ≡ true) q e)
    by_cases (inr n) = (in_tail x xs y (rest n).0, (rest n).1)
kept_at p x xs y false e rest c = (in_tail x xs y (rest c).0, (rest c).1)

-- what a filter keeps was there and passes
pub of_filter : {X : Type 0} (p : X → Bool) (xs : List X) (y : X) → Contains (filter p xs) y → Contains xs y × (p y ≡ true)
of_filter p [] y c = absurd (in_nil y c)
of_filter p (x ∷ xs) y c = kept_at p x xs y (p x) refl (of_filter p xs y) c

put_at : {X : Type 0} (p : X → Bool) (x : X) (xs : List X) (y : X) (b : Bool) → p x ≡ b → p y ≡ true → (Contains xs y → Contains (filter p xs) y)
    → (x ≡ y) ⊎ Contains xs y → Contains (cond b (x ∷ filter p xs) (filter p xs)) y
put_at p x xs y true e k rest (inl q) = subst (Contains (x ∷ filter p xs)) q (in_head x (filter p xs))
put_at p x xs y true e k rest (inr c) = in_tail x (filter p xs) y (rest c)
put_at p x xs y false e k rest (inl q) = absurd (let no : true ≡ false = sym k ∙ ap p (sym q) ∙ e in cc)
put_at p x xs y false e k rest (inr c) = rest c

-- what was there and passes is kept
pub in_filter : {X : Type 0} (p : X → Bool) (xs : List X) (y : X) → p y ≡ true → Contains xs y → Contains (filter p xs) y
in_filter p [] y k c = absurd (in_nil y c)
in_filter p (x ∷ xs) y k c = put_at p x xs y (p x) refl k (in_filter p xs y k) (in_cons x xs y c)

module _ {A : Type 0} (K : OrderedRing A) where
  passes_by : (s : Segment A) (o : Ordering) → point_order K s.from s.to ≡ o → IsProper K s → is_ne o ≡ true
  passes_by s Less e h = refl
  passes_by s Equal e h = absurd (h (same_of_equal K s.from s.to e))
  passes_by s Greater e h = refl

  pub passes : (s : Segment A) → IsProper K s → is_proper K s ≡ true
  passes s = passes_by s (point_order K s.from s.to) refl

  pub proper : (s : Segment A) → is_proper K s ≡ true → IsProper K s
  proper s k same = absurd (let no : is_proper K s ≡ false = ap is_ne (equal_of_same K s.from s.to same) in cc)

  pub not_proper : (s : Segment A) → is_proper K s ≡ false → ¬ IsProper K s
  not_proper s k h = absurd (let no : is_proper K s ≡ true = passes s h in cc)

  -- the second list has the proper segments of the first, and no others
  pub record HasProper (segments others : List (Segment A)) : Type 0 where
    pub kept : (s : Segment A) → Contains segments s → IsProper K s → Contains others s
    pub only : (s : Segment A) → Contains others s → Contains segments s × IsProper K s

  module _ (segments others : List (Segment A)) (h : HasProper segments others) where
    pub end_kept : (p : Point A) → IsEndOfOne K segments p → IsEndOfOne K others p
    end_kept p (s, c, n, e) = (s, h.kept s c n, n, e)

    end_only : (p : Point A) → IsEndOfOne K others p → IsEndOfOne K segments p
    end_only p (s, c, n, e) = (s, (h.only s c).0, n, e)

    vertex_kept : (p : Point A) → IsVertex K segments p → IsVertex K others p
    vertex_kept p (hp, inl e) = (hp, inl (end_kept p e))
    vertex_kept p (hp, inr (s, t, cs, ct, ps, pt, across, common)) = (hp, inr (s, t, h.kept s cs ps, h.kept t ct pt, ps, pt, across, common))

    vertex_only : (p : Point A) → IsVertex K others p → IsVertex K segments p
    vertex_only p (hp, inl e) = (hp, inl (end_only p e))
    vertex_only p (hp, inr (s, t, cs, ct, ps, pt, across, common)) = (hp, inr (s, t, (h.only s cs).0, (h.only t ct).0, ps, pt, across, common))

    -- the vertices of one are those of the other
    pub vertices_of_proper : (vertices : List (Point A)) → AreVertices K segments vertices ↔ AreVertices K others vertices
    vertices_of_proper vertices = (
      λ v. record { sorted = v.sorted; only = λ p c. vertex_kept p (v.only p c); every = λ p u. v.every p (vertex_only p u) },
      λ v. record { sorted = v.sorted; only = λ p c. vertex_only p (v.only p c); every = λ p u. v.every p (vertex_kept p u) },
    )
