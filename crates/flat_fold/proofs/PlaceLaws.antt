-- Laying corners one by one: what a map of places has after each.
use Rattle.std.proofs.Common.{◌≡◌, ◌∙◌, ap, sym, subst, refl, ℕ, List, ◌<◌, ◌≤◌, ◌+◌, length, Bool, true, false, cond, Option, Some, None, ◌⊎◌, inl, inr, arith}
use Rattle.std.specs.Prelude.{slice_index_or}
use Rattle.std.proofs.lemmas.Bool.{cases_lt, cases_eq}
use Rattle.scaled_plane.specs.declared.point.Pair.{Pair}
use Rattle.flat_fold.specs.declared.motion.Motion.{Motion}
use Rattle.flat_fold.specs.Computed.{Computed, ComputedField, Fits}
use Rattle.flat_fold.specs.Motions.{place}
use Rattle.flat_fold.specs.Folding.{point}
use Rattle.scaled_plane.specs.declared.drawing.Face.{Face}
use Rattle.flat_fold.specs.Faces.{corners_at}
use Rattle.flat_fold.specs.Images.{map_at}
use Rattle.flat_fold.specs.Numbers.{Puts}
use Rattle.flat_fold.proofs.Puts.{laid_exact, put_apart, put_only}
use Rattle.flat_fold.specs.Places.{laid_order, laying, AreLaidTo, AreFacesLaidTo}

module _ {A : Type 0} (K : ComputedField A) (coords : List (Pair A)) (m : Motion A) (face : ℕ) (corners : List ℕ) where
  pub none_laid : (old : ℕ × ℕ → Option (Pair A)) → AreLaidTo K coords m face corners 0 old old
  none_laid old = record {
    fits = λ k less. absurd (omega arith);
    here = λ k less. absurd (omega arith);
    only = λ q a e. inr e;
    kept = λ q n. refl;
  }

  -- one corner more
  pub more_laid : (n : ℕ) (old mid new : ℕ × ℕ → Option (Pair A)) (v : ℕ) (a : Pair A) → v ≡ slice_index_or corners n 0 → Fits (laying K coords m face corners n) → a ≡ place K.field m (point K.field coords v)
      → Puts laid_order mid new (v, face) a → AreLaidTo K coords m face corners n old mid → AreLaidTo K coords m face corners (n + 1) old new
  more_laid n old mid new v a is fits placed put before = record {
    fits = λ k less. elim (cases_lt k n) [ inl low ↦ before.fits k low | inr high ↦ (let last : n ≡ k = omega arith in subst_fits k last) ];
    here = λ k less. elim (cases_lt k n) [ inl low ↦ kept_here k low (cases_eq (slice_index_or corners k 0) v) | inr high ↦ (let last : k ≡ n = omega arith in new_here k (ap (λ i. slice_index_or corners i 0) last ∙ sym is)) ];
    only = λ q b e. only_at q b e (put_only laid_order laid_exact mid new (v, face) a put q);
    kept = λ q other. put_apart laid_order laid_exact mid new (v, face) a put q (λ e. other (ap (λ (p : ℕ × ℕ). p.1) e)) ∙ before.kept q other;
  }
    where
      subst_fits : (k : ℕ) → n ≡ k → Fits (laying K coords m face corners k)
      subst_fits k e = subst (λ i. Fits (laying K coords m face corners i)) e fits

      new_here : (k : ℕ) → slice_index_or corners k 0 ≡ v → new (slice_index_or corners k 0, face) ≡ Some (place K.field m (point K.field coords (slice_index_or corners k 0)))
      new_here k e = ap (λ u. new (u, face)) e ∙ put.here ∙ ap (λ (b : Pair A). Some b) (placed ∙ ap (λ u. place K.field m (point K.field coords u)) (sym e))

      kept_here : (k : ℕ) → k < n → (slice_index_or corners k 0 ≡ v) ⊎ ¬ (slice_index_or corners k 0 ≡ v) → new (slice_index_or corners k 0, face) ≡ Some (place K.field m (point K.field coords (slice_index_or corners k 0)))
      kept_here k low (inl e) = new_here k e
      kept_here k low (inr other) = put_apart laid_order laid_exact mid new (v, face) a put (slice_index_or corners k 0, face) (λ e. other (ap (λ (p : ℕ × ℕ). p.0) e)) ∙ before.here k low

      only_at : (q : ℕ × ℕ) (b : Pair A) → new q ≡ Some b → (q ≡ (v, face)) ⊎ (new q ≡ mid q) → ((k : ℕ) × (k < n + 1) × (q ≡ (slice_index_or corners k 0, face))) ⊎ (old q ≡ Some b)
      only_at q b e (inl same) = inl (n, omega arith, same ∙ ap (λ u. (u, face)) is)
      only_at q b e (inr stays) = elim (before.only q b (sym stays ∙ e)) [ inl at ↦ inl (at.0, (let low : at.0 < n = at.1 in omega arith), at.2) | inr was ↦ inr was ]

module _ {A : Type 0} (K : ComputedField A) (coords : List (Pair A)) (faces : List Face) (maps : List (Motion A)) where
  pub no_face_laid : (laid : ℕ × ℕ → Option (Pair A)) → ((q : ℕ × ℕ) → laid q ≡ None) → AreFacesLaidTo K coords faces maps 0 laid
  no_face_laid laid empty = record {
    fits = λ f k less within. absurd (omega arith);
    here = λ f k less within. absurd (omega arith);
    only = λ q a e. absurd (let none : laid q ≡ None = empty q in cc);
  }

  -- one face more
  pub more_face : (n : ℕ) (old new : ℕ × ℕ → Option (Pair A)) (m : Motion A) (corners : List ℕ) → m ≡ map_at K.field maps n → corners ≡ corners_at faces n
      → AreLaidTo K coords m n corners (length corners) old new → AreFacesLaidTo K coords faces maps n old → AreFacesLaidTo K coords faces maps (n + 1) new
  more_face n old new m corners em ec given before = record {
    fits = λ f k less within. elim (cases_lt f n) [ inl low ↦ before.fits f k low within | inr high ↦ (let last : n ≡ f = omega arith in fits_at f k last within) ];
    here = λ f k less within. elim (cases_lt f n) [ inl low ↦ (let other : ¬ (f ≡ n) = λ e. absurd (omega arith) in laid.kept (slice_index_or (corners_at faces f) k 0, f) other ∙ before.here f k low within) | inr high ↦ (let last : n ≡ f = omega arith in here_at f k last within) ];
    only = λ q a e. only_at q a (laid.only q a e);
  }
    where
      laid : AreLaidTo K coords (map_at K.field maps n) n (corners_at faces n) (length (corners_at faces n)) old new
      laid = subst (λ (x : Motion A). AreLaidTo K coords x n (corners_at faces n) (length (corners_at faces n)) old new) em (subst (λ (s : List ℕ). AreLaidTo K coords m n s (length s) old new) ec given)

      fits_at : (f k : ℕ) → n ≡ f → k < length (corners_at faces f) → Fits (laying K coords (map_at K.field maps f) f (corners_at faces f) k)
      fits_at f k e = subst (λ i. k < length (corners_at faces i) → Fits (laying K coords (map_at K.field maps i) i (corners_at faces i) k)) e (laid.fits k)

      here_at : (f k : ℕ) → n ≡ f → k < length (corners_at faces f) → new (slice_index_or (corners_at faces f) k 0, f) ≡ Some (place K.field (map_at K.field maps f) (point K.field coords (slice_index_or (corners_at faces f) k 0)))
      here_at f k e = subst (λ i. k < length (corners_at faces i) → new (slice_index_or (corners_at faces i) k 0, i) ≡ Some (place K.field (map_at K.field maps i) (point K.field coords (slice_index_or (corners_at faces i) k 0)))) e (laid.here k)

      only_at : (q : ℕ × ℕ) (a : Pair A) → ((k : ℕ) × (k < length (corners_at faces n)) × (q ≡ (slice_index_or (corners_at faces n) k 0, n))) ⊎ (old q ≡ Some a)
          → (q.1 < n + 1) × ((k : ℕ) × (k < length (corners_at faces q.1)) × (q.0 ≡ slice_index_or (corners_at faces q.1) k 0))
      only_at q a (inl at) =
          subst (λ (p : ℕ × ℕ). (p.1 < n + 1) × ((k : ℕ) × (k < length (corners_at faces p.1)) × (p.0 ≡ slice_index_or (corners_at faces p.1) k 0))) (sym at.2) (omega arith, (at.0, at.1, refl))
      only_at q a (inr was) = let given' = before.only q a was in (let low : q.1 < n = given'.0 in omega arith, given'.1)
