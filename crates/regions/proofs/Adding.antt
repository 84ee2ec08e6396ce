-- What follows what, where a piece is added to a drawing.
use Prim.Native.Nat.{ℕ}
use mathlib.Core.Path.{◌≡◌, refl, sym, ap, subst}
use mathlib.Core.List.{List, [], ◌∷◌}
use mathlib.Core.Logic.{◌⊎◌, inl, inr}
use native.Mathlib.Decide.{ℕ_discrete}
use Rattle.algebra.specs.OrderedRing.{OrderedRing}
use Rattle.plane.specs.declared.point.Point.{Point}
use Rattle.plane.specs.Points.{IsSamePoint}
use Rattle.plane.proofs.Lines.{same_refl}
use Rattle.regions.proofs.Drawings.{Piece, piece, reversed, IsDirected, IsPlane}
use Rattle.regions.proofs.Walks.{ComesBefore, Follows}
use Rattle.regions.proofs.Directions.{directed_back}
use Rattle.regions.proofs.Splitting.{Reaches, linked_back, linked_once}
use Rattle.regions.proofs.Sides.{directed_more}
use Rattle.regions.proofs.Turns.{never_itself, own_last, before_then, between, before_or_not}

module _ {A : Type 0} (K : OrderedRing A) (place : ℕ → Point A) where
  module _ (ps : List Piece) (plane : IsPlane K place ps) (c y : ℕ) (hy : IsDirected ps (piece c y)) where
    -- of the directions from c with P, none comes before w, from y on
    abbrev pub Best : (ℕ → Type 0) → Type 0
    Best P = ((x : ℕ) → ¬ P x) ⊎ ((w : ℕ) × P w × ((x : ℕ) → P x → ¬ ComesBefore K place c y x w))

    best_moved : (P Q : ℕ → Type 0) → ((x : ℕ) → P x → Q x) → ((x : ℕ) → Q x → P x) → Best P → Best Q
    best_moved P Q to from (inl none) = inl (λ x q. none x (from x q))
    best_moved P Q to from (inr b) = inr (b.0, to b.0 b.1, λ x q. b.2 x (from x q))

    best_more : (P : ℕ → Type 0) (z : ℕ) → ((x : ℕ) → P x → IsDirected ps (piece c x)) → IsDirected ps (piece c z) → Best P → Best (λ x. (x ≡ z) ⊎ P x)
    best_more P z near_P hz (inl none) = inr (
      z,
      inl refl,
      λ x. elim [
        | inl e ↦ λ b. never_itself K place ps plane c y z (subst (λ x. ComesBefore K place c y x z) e b)
        | inr p ↦ absurd (none x p)
      ],
    )
    best_more P z near_P hz (inr b) = elim (before_or_not K place ps plane c y z b.0) [
      | inl sooner ↦ inr (
        z,
        inl refl,
        λ x. elim [
          | inl e ↦ λ h. never_itself K place ps plane c y z (subst (λ x. ComesBefore K place c y x z) e h)
          | inr p ↦ λ h. b.2 x p (before_then K place ps plane c y x z b.0 hy (near_P x p) h sooner)
        ],
      )
      | inr later ↦ inr (
        b.0,
        inr b.1,
        λ x. elim [
          | inl e ↦ λ h. later (subst (λ x. ComesBefore K place c y x b.0) e h)
          | inr p ↦ b.2 x p
        ],
      )
    ]

    best_if : (P : ℕ → Type 0) (z : ℕ) (Q : Type 0) → Dec Q → ((x : ℕ) → P x → IsDirected ps (piece c x)) → (Q → IsDirected ps (piece c z)) → Best P → Best (λ x. (Q × (x ≡ z)) ⊎ P x)
    best_if P z Q (yes q) near_P hz b =
        best_moved (λ x. (x ≡ z) ⊎ P x) (λ x. (Q × (x ≡ z)) ⊎ P x) (λ x. elim [ inl e ↦ inl (q, e) | inr p ↦ inr p ]) (λ x. elim [ inl e ↦ inl e.1 | inr p ↦ inr p ]) (best_more P z near_P (hz q) b)
    best_if P z Q (no n) near_P hz b = best_moved P (λ x. (Q × (x ≡ z)) ⊎ P x) (λ x p. inr p) (λ x. elim [ inl e ↦ absurd (n e.0) | inr p ↦ p ]) b

    -- the first of the neighbours of c by some pieces
    pub best : (fs : List Piece) → ((x : ℕ) → IsDirected fs (piece c x) → IsDirected ps (piece c x)) → Best (λ x. IsDirected fs (piece c x))
    best [] h = inl (λ x. elim [ inl i ↦ i | inr i ↦ i ])
    best (f ∷ fs) h =
        best_moved (λ x. ((f.head ≡ c) × (x ≡ f.tail)) ⊎ ((f.tail ≡ c) × (x ≡ f.head)) ⊎ IsDirected fs (piece c x)) (λ x. IsDirected (f ∷ fs) (piece c x)) to from
        (best_if (λ x. ((f.tail ≡ c) × (x ≡ f.head)) ⊎ IsDirected fs (piece c x)) f.tail (f.head ≡ c) (ℕ_discrete f.head c)
        (λ x. elim [ inl e ↦ h x (inl (inl (forward x e.0 e.1))) | inr i ↦ h x (directed_more fs f (piece c x) i) ]) (λ e. h f.tail (inr (inl (backward f.tail e refl))))
        (best_if (λ x. IsDirected fs (piece c x)) f.head (f.tail ≡ c) (ℕ_discrete f.tail c) (λ x i. h x (directed_more fs f (piece c x) i)) (λ e. h f.head (inl (inl (forward f.head e refl))))
        (best fs (λ x i. h x (directed_more fs f (piece c x) i)))))
      where
        forward : (x : ℕ) → f.tail ≡ c → x ≡ f.head → f ≡ piece c x
        forward x e g = λ i. record { tail = e i; head = sym g i }

        backward : (x : ℕ) → f.head ≡ c → x ≡ f.tail → f ≡ piece x c
        backward x e g = λ i. record { tail = sym g i; head = e i }

        to : (x : ℕ) → ((f.head ≡ c) × (x ≡ f.tail)) ⊎ ((f.tail ≡ c) × (x ≡ f.head)) ⊎ IsDirected fs (piece c x) → IsDirected (f ∷ fs) (piece c x)
        to x (inl e) = inr (inl (backward x e.0 e.1))
        to x (inr (inl e)) = inl (inl (forward x e.0 e.1))
        to x (inr (inr i)) = directed_more fs f (piece c x) i

        from : (x : ℕ) → IsDirected (f ∷ fs) (piece c x) → ((f.head ≡ c) × (x ≡ f.tail)) ⊎ ((f.tail ≡ c) × (x ≡ f.head)) ⊎ IsDirected fs (piece c x)
        from x (inl (inl e)) = inr (inl (ap (λ d. d.tail) e, sym (ap (λ d. d.head) e)))
        from x (inl (inr i)) = inr (inr (inl i))
        from x (inr (inl e)) = inl (ap (λ d. d.head) e, sym (ap (λ d. d.tail) e))
        from x (inr (inr i)) = inr (inr (inr i))

  -- ---- a piece is added

  module _ (ps : List Piece) (e : Piece) (plane : IsPlane K place (e ∷ ps)) where
    abbrev pub qs : List Piece
    qs = e ∷ ps

    more : (d : Piece) → IsDirected ps d → IsDirected qs d
    more d h = directed_more ps e d h

    -- z is the new neighbour of c
    module _ (c z : ℕ) (hz : IsDirected qs (piece c z)) (new_only : (x : ℕ) → IsDirected qs (piece c x) → IsDirected ps (piece c x) ⊎ (x ≡ z)) where
      entered : (y w : ℕ) → IsDirected ps (piece y c) → IsDirected ps (piece c w) → ((x : ℕ) → IsDirected ps (piece c x) → ¬ ComesBefore K place c y x w)
          → Follows K place qs (piece y c) (piece c w) ⊎ (Follows K place qs (piece y c) (piece c z) × Follows K place qs (piece z c) (piece c w))
      entered y w hy hw old_next = elim (before_or_not K place qs plane c y z w) [
        | inr later ↦ inl (record {
          before = more (piece y c) hy;
          after = more (piece c w) hw;
          turns_at = refl;
          next = λ x hx. elim (new_only x hx) [
            | inl i ↦ old_next x i
            | inr g ↦ λ b. later (subst (λ x. ComesBefore K place c y x w) g b)
          ];
        })
        | inl sooner ↦ inr (
          record {
            before = more (piece y c) hy;
            after = hz;
            turns_at = refl;
            next = λ x hx. elim (new_only x hx) [
              | inl i ↦ λ b. old_next x i (before_then K place qs plane c y x z w near_y hx b sooner)
              | inr g ↦ λ b. never_itself K place qs plane c y z (subst (λ x. ComesBefore K place c y x z) g b)
            ];
          },
          record {
            before = directed_back qs (piece c z) hz;
            after = more (piece c w) hw;
            turns_at = refl;
            next = λ x hx. elim (new_only x hx) [
              | inl i ↦ λ b. old_next x i (between K place qs plane c y z w x near_y hz (more (piece c w) hw) hx sooner b)
              | inr g ↦ λ b. own_last K place qs plane c z w (subst (λ x. ComesBefore K place c z x w) g b)
            ];
          },
        )
      ]
        where
          near_y : IsDirected qs (piece c y)
          near_y = directed_back qs (piece y c) (more (piece y c) hy)

      -- after the new directed piece to c comes an old one from c, or the way back, where no old one begins at c
      pub onwards : ((w : ℕ) × IsDirected ps (piece c w) × Follows K place qs (piece z c) (piece c w)) ⊎ (((x : ℕ) → ¬ IsDirected ps (piece c x)) × Follows K place qs (piece z c) (piece c z))
      onwards = elim (best qs plane c z hz ps (λ x i. more (piece c x) i)) [
        | inl none ↦ inr (
          none,
          record {
            before = directed_back qs (piece c z) hz;
            after = hz;
            turns_at = refl;
            next = λ x hx. elim (new_only x hx) [
              | inl i ↦ absurd (none x i)
              | inr g ↦ λ b. never_itself K place qs plane c z z (subst (λ x. ComesBefore K place c z x z) g b)
            ];
          },
        )
        | inr b ↦ inl (
          b.0,
          b.1,
          record {
            before = directed_back qs (piece c z) hz;
            after = more (piece c b.0) b.1;
            turns_at = refl;
            next = λ x hx. elim (new_only x hx) [
              | inl i ↦ b.2 x i
              | inr g ↦ λ h. own_last K place qs plane c z b.0 (subst (λ x. ComesBefore K place c z x b.0) g h)
            ];
          },
        )
      ]

    ends_differ : ¬ (e.tail ≡ e.head)
    ends_differ h = plane.2 (subst (λ v. IsSamePoint K (place e.tail) (place v)) h (same_refl K (place e.tail)))

    -- the new neighbours
    pub at_tail : (x : ℕ) → IsDirected qs (piece e.tail x) → IsDirected ps (piece e.tail x) ⊎ (x ≡ e.head)
    at_tail x (inl (inl i)) = inr (sym (ap (λ d. d.head) i))
    at_tail x (inl (inr i)) = inl (inl i)
    at_tail x (inr (inl i)) = absurd (ends_differ (sym (ap (λ d. d.head) i)))
    at_tail x (inr (inr i)) = inl (inr i)

    pub at_head : (x : ℕ) → IsDirected qs (piece e.head x) → IsDirected ps (piece e.head x) ⊎ (x ≡ e.tail)
    at_head x (inl (inl i)) = absurd (ends_differ (ap (λ d. d.tail) i))
    at_head x (inl (inr i)) = inl (inl i)
    at_head x (inr (inl i)) = inr (sym (ap (λ d. d.tail) i))
    at_head x (inr (inr i)) = inl (inr i)

    elsewhere : (c : ℕ) → ¬ (e.tail ≡ c) → ¬ (e.head ≡ c) → (x : ℕ) → IsDirected qs (piece c x) → IsDirected ps (piece c x)
    elsewhere c n m x (inl (inl i)) = absurd (n (ap (λ d. d.tail) i))
    elsewhere c n m x (inl (inr i)) = inl i
    elsewhere c n m x (inr (inl i)) = absurd (m (ap (λ d. d.head) i))
    elsewhere c n m x (inr (inr i)) = inr i

    pub new_one : IsDirected qs e
    new_one = inl (inl refl)

    pub new_back : IsDirected qs (reversed e)
    new_back = inr (inl refl)

    abbrev pub Touches : Piece → Type 0
    Touches d = Reaches (Follows K place ps) (Follows K place qs) e (reversed e) d

    kept_at : (y c w : ℕ) → IsDirected ps (piece y c) → IsDirected ps (piece c w) → ((x : ℕ) → IsDirected ps (piece c x) → ¬ ComesBefore K place c y x w)
        → Follows K place qs (piece y c) (piece c w) ⊎ (Touches (piece y c) × Touches (piece c w))
    kept_at y c w hy hw next = elim (ℕ_discrete e.tail c) [
      | yes t ↦ subst (λ c. IsDirected ps (piece y c) → IsDirected ps (piece c w) → ((x : ℕ) → IsDirected ps (piece c x) → ¬ ComesBefore K place c y x w)
          → Follows K place qs (piece y c) (piece c w) ⊎ (Touches (piece y c) × Touches (piece c w))) t
          (λ hy hw next. elim (entered e.tail e.head new_one at_tail y w hy hw next) [
            | inl h ↦ inl h
            | inr h ↦ inr (inl (linked_once h.0), inr (linked_back (linked_once h.1)))
          ]) hy hw next
      | no n ↦ elim (ℕ_discrete e.head c) [
        | yes t ↦ subst (λ c. IsDirected ps (piece y c) → IsDirected ps (piece c w) → ((x : ℕ) → IsDirected ps (piece c x) → ¬ ComesBefore K place c y x w)
            → Follows K place qs (piece y c) (piece c w) ⊎ (Touches (piece y c) × Touches (piece c w))) t
            (λ hy hw next. elim (entered e.head e.tail new_back at_head y w hy hw next) [
              | inl h ↦ inl h
              | inr h ↦ inr (inr (linked_once h.0), inl (linked_back (linked_once h.1)))
            ]) hy hw next
        | no m ↦ inl (record { before = more (piece y c) hy; after = more (piece c w) hw; turns_at = refl; next = λ x hx. next x (elsewhere c n m x hx) })
      ]
    ]

    pub kept : (d f : Piece) → Follows K place ps d f → Follows K place qs d f ⊎ (Touches d × Touches f)
    kept d f h =
        let is : piece d.head f.head ≡ f = λ i. record { tail = sym h.turns_at i; head = f.head } in
        subst (λ f. Follows K place qs d f ⊎ (Touches d × Touches f)) is
        (kept_at d.tail d.head f.head h.before (subst (λ t. IsDirected ps (piece t f.head)) h.turns_at h.after) h.next)
