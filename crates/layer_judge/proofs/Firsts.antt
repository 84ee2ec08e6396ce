-- The first crossing, from the first of each kind.
use Rattle.std.proofs.Common.{◌≡◌, ◌⊎◌, inl, inr, refl, ℕ, ◌<◌, List, [], ◌∷◌, arith, subst}
use Rattle.std.specs.Ordering.{nat_cmp, ordering_then, MatchOrdering}
use Rattle.std.proofs.lemmas.Cmp.{ranked}
use Rattle.std.specs.Cmp.Lexicographic.{slice_cmp}
use Rattle.std.specs.declared.cmp.Ordering.{Ordering}
use Rattle.std.specs.declared.cmp.Ordering.TheVariants.{Less, Equal, Greater}
use Rattle.layers.specs.declared.crossing.Strand.{Strand}
use Rattle.layers.specs.declared.crossing.Strand.TheVariants.{Face, Edge}
use Rattle.layers.specs.declared.crossing.Crossing.{Crossing}
use Rattle.layers.specs.declared.crossing.Crossing.TheVariants.{Cycle, Through, Creases, Joined, Letter}
use Rattle.layers.specs.Crossings.{crossing_order, key, strand_key}
use Rattle.layer_judge.specs.First.{StrandBefore}

-- as words of numbers
abbrev pub Precedes : List ℕ → List ℕ → Type 0
Precedes [] [] = ⊥
Precedes [] (y ∷ ys) = Unit {0}
Precedes (x ∷ xs) [] = ⊥
Precedes (x ∷ xs) (y ∷ ys) = (x < y) ⊎ ((x ≡ y) × Precedes xs ys)

compared : (x y : ℕ) (xs ys : List ℕ) (o : Ordering) → MatchOrdering o (x < y) (x ≡ y) (y < x) → (slice_cmp nat_cmp xs ys ≡ Less → Precedes xs ys)
    → ordering_then o (slice_cmp nat_cmp xs ys) ≡ Less → (x < y) ⊎ ((x ≡ y) × Precedes xs ys)
compared x y xs ys Less p rest h = inl p
compared x y xs ys Equal p rest h = inr (p, rest h)
compared x y xs ys Greater p rest h = cc

precedes : (xs ys : List ℕ) → slice_cmp nat_cmp xs ys ≡ Less → Precedes xs ys
precedes [] [] h = cc
precedes [] (y ∷ ys) h = tt
precedes (x ∷ xs) [] h = cc
precedes (x ∷ xs) (y ∷ ys) h = compared x y xs ys (nat_cmp x y) (ranked x y (nat_cmp x y) refl) (precedes xs ys) h

pub before : (d c : Crossing) → crossing_order d c ≡ Less → Precedes (key d) (key c)
before d c = precedes (key d) (key c)

-- a key that begins with a greater number, or that ends, precedes none
strand_before : (s t : Strand) → Precedes (strand_key s) (strand_key t) → StrandBefore s t
strand_before (Face f) (Face g) (inl h) = omega arith
strand_before (Face f) (Face g) (inr (z, inl h)) = h
strand_before (Face f) (Face g) (inr (z, inr (y, h))) = absurd h
strand_before (Face f) (Edge d) h = tt
strand_before (Edge e) (Face g) (inl h) = absurd (omega arith)
strand_before (Edge e) (Face g) (inr (z, h)) = absurd (omega arith)
strand_before (Edge e) (Edge d) (inl h) = absurd (omega arith)
strand_before (Edge e) (Edge d) (inr (z, inl h)) = h
strand_before (Edge e) (Edge d) (inr (z, inr (y, h))) = absurd h

module _ (P : Crossing → Type 0) where
  pub cycle_first : (f g h : ℕ) → ((i : ℕ) → i < f → (j k : ℕ) → ¬ P (Cycle i j k)) → ((j : ℕ) → j < g → (k : ℕ) → ¬ P (Cycle f j k)) → ((k : ℕ) → k < h → ¬ P (Cycle f g k))
      → (d : Crossing) → Precedes (key d) (key (Cycle f g h)) → ¬ P d
  cycle_first f g h a b c (Cycle i j k) (inl z) p = omega arith
  cycle_first f g h a b c (Cycle i j k) (inr (z, inl lt)) p = a i lt j k p
  cycle_first f g h a b c (Cycle i j k) (inr (z, inr (y, inl lt))) p = b j lt k (subst (λ x. P (Cycle x j k)) y p)
  cycle_first f g h a b c (Cycle i j k) (inr (z, inr (y, inr (x, inl lt)))) p = c k lt (subst (λ w. P (Cycle f w k)) x (subst (λ w. P (Cycle w j k)) y p))
  cycle_first f g h a b c (Cycle i j k) (inr (z, inr (y, inr (x, inr (w, n))))) p = n
  cycle_first f g h a b c (Through e s) (inl z) p = omega arith
  cycle_first f g h a b c (Through e s) (inr (z, n)) p = omega arith
  cycle_first f g h a b c (Creases e d) (inl z) p = omega arith
  cycle_first f g h a b c (Creases e d) (inr (z, n)) p = omega arith
  cycle_first f g h a b c (Joined e s) (inl z) p = omega arith
  cycle_first f g h a b c (Joined e s) (inr (z, n)) p = omega arith
  cycle_first f g h a b c (Letter e) (inl z) p = omega arith
  cycle_first f g h a b c (Letter e) (inr (z, n)) p = omega arith

  module _ (no_cycle : (i j k : ℕ) → ¬ P (Cycle i j k)) where
    pub through_first : (e : ℕ) (s : Strand) → ((i : ℕ) → i < e → (t : Strand) → ¬ P (Through i t)) → ((t : Strand) → StrandBefore t s → ¬ P (Through e t))
        → (d : Crossing) → Precedes (key d) (key (Through e s)) → ¬ P d
    through_first e s a b (Cycle i j k) n p = no_cycle i j k p
    through_first e s a b (Through i t) (inl z) p = omega arith
    through_first e s a b (Through i t) (inr (z, inl lt)) p = a i lt t p
    through_first e s a b (Through i t) (inr (z, inr (y, n))) p = b t (strand_before t s n) (subst (λ x. P (Through x t)) y p)
    through_first e s a b (Creases i d) (inl z) p = omega arith
    through_first e s a b (Creases i d) (inr (z, n)) p = omega arith
    through_first e s a b (Joined i t) (inl z) p = omega arith
    through_first e s a b (Joined i t) (inr (z, n)) p = omega arith
    through_first e s a b (Letter i) (inl z) p = omega arith
    through_first e s a b (Letter i) (inr (z, n)) p = omega arith

    module _ (no_through : (e : ℕ) (s : Strand) → ¬ P (Through e s)) where
      pub creases_first : (e d : ℕ) → ((i : ℕ) → i < e → (j : ℕ) → ¬ P (Creases i j)) → ((j : ℕ) → j < d → ¬ P (Creases e j)) → (c : Crossing) → Precedes (key c) (key (Creases e d)) → ¬ P c
      creases_first e d a b (Cycle i j k) n p = no_cycle i j k p
      creases_first e d a b (Through i t) n p = no_through i t p
      creases_first e d a b (Creases i j) (inl z) p = omega arith
      creases_first e d a b (Creases i j) (inr (z, inl lt)) p = a i lt j p
      creases_first e d a b (Creases i j) (inr (z, inr (y, inl lt))) p = b j lt (subst (λ x. P (Creases x j)) y p)
      creases_first e d a b (Creases i j) (inr (z, inr (y, inr (x, n)))) p = n
      creases_first e d a b (Joined i t) (inl z) p = omega arith
      creases_first e d a b (Joined i t) (inr (z, n)) p = omega arith
      creases_first e d a b (Letter i) (inl z) p = omega arith
      creases_first e d a b (Letter i) (inr (z, n)) p = omega arith

      module _ (no_creases : (e d : ℕ) → ¬ P (Creases e d)) where
        pub joined_first : (e : ℕ) (s : Strand) → ((i : ℕ) → i < e → (t : Strand) → ¬ P (Joined i t)) → ((t : Strand) → StrandBefore t s → ¬ P (Joined e t)) → (d : Crossing) → Precedes (key d) (key (Joined e s)) → ¬ P d
        joined_first e s a b (Cycle i j k) n p = no_cycle i j k p
        joined_first e s a b (Through i t) n p = no_through i t p
        joined_first e s a b (Creases i j) n p = no_creases i j p
        joined_first e s a b (Joined i t) (inl z) p = omega arith
        joined_first e s a b (Joined i t) (inr (z, inl lt)) p = a i lt t p
        joined_first e s a b (Joined i t) (inr (z, inr (y, n))) p = b t (strand_before t s n) (subst (λ x. P (Joined x t)) y p)
        joined_first e s a b (Letter i) (inl z) p = omega arith
        joined_first e s a b (Letter i) (inr (z, n)) p = omega arith

        module _ (no_joined : (e : ℕ) (s : Strand) → ¬ P (Joined e s)) where
          pub letter_first : (e : ℕ) → ((i : ℕ) → i < e → ¬ P (Letter i)) → (d : Crossing) → Precedes (key d) (key (Letter e)) → ¬ P d
          letter_first e a (Cycle i j k) n p = no_cycle i j k p
          letter_first e a (Through i t) n p = no_through i t p
          letter_first e a (Creases i j) n p = no_creases i j p
          letter_first e a (Joined i t) n p = no_joined i t p
          letter_first e a (Letter i) (inl z) p = omega arith
          letter_first e a (Letter i) (inr (z, inl lt)) p = a i lt p
          letter_first e a (Letter i) (inr (z, inr (y, n))) p = n

          pub no_crossing : ((e : ℕ) → ¬ P (Letter e)) → (c : Crossing) → ¬ P c
          no_crossing a (Cycle i j k) p = no_cycle i j k p
          no_crossing a (Through i t) p = no_through i t p
          no_crossing a (Creases i j) p = no_creases i j p
          no_crossing a (Joined i t) p = no_joined i t p
          no_crossing a (Letter i) p = a i p
