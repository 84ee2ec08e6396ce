-- What is known of two vertices after one segment more.
use mathlib.Core.Path.{◌≡◌, refl, sym, ap, subst, ◌∙◌}
use mathlib.Core.List.{List, [], ◌∷◌, ◌++◌}
use mathlib.Core.Logic.{◌⊎◌, inl, inr}
use native.Mathlib.Omega.{arith}
use Rattle.std.specs.Prelude.{ℕ, ◌+◌, ◌<◌, ◌≤◌, Contains, IsSomeAnd, Option, None, Some, length}
use Rattle.std.proofs.lemmas.Bool.{cases_lt, cases_order}
use Rattle.std.proofs.Common.{append_assoc}
use Rattle.std.specs.List.{AllByRecursion}
use Rattle.std.proofs.lemmas.List.Elements.{All-from_recursion, Contains-append_left, Contains-push, Contains-push_cases}
use Rattle.std.specs.BTreeMap.{BTreeMap, get}
use Rattle.algebra.specs.OrderedRing.{OrderedRing}
use Rattle.plane.specs.declared.point.Point.{Point}
use Rattle.plane.proofs.Members.{in_head, in_tail}
use Rattle.scaled_plane.specs.declared.point.Segment.{Segment}
use Rattle.scaled_plane.specs.Pieces.{IsProper}
use Rattle.arrangement.specs.declared.covers.Cover.{Cover}
use Rattle.arrangement.specs.Covers.{Adds, HasCovers, HasCoversBefore, HasEndsAt, IsKnown, IsLastOn, JoinsNext, LiesOn, piece_order}

module _ {A : Type 0} (K : OrderedRing A) (vertices : List (Point A)) (segments : List (Segment A)) (s : Segment A) (a b : ℕ) where
  -- a segment that joins them not changes nothing
  pub known_not : (known : Option Cover) → ¬ JoinsNext K vertices s a b → IsKnown K vertices segments a b known → IsKnown K vertices (segments ++ s ∷ []) a b known
  known_not None n h = λ t c. elim (Contains-push_cases segments s t c) [
    | inl i ↦ h t i
    | inr e ↦ subst (λ u. ¬ JoinsNext K vertices u a b) e n
  ]
  known_not (Some cover) n h = record {
    letters = λ l. (
      λ e. let r = (h.letters l).0 e in (r.0, Contains-append_left segments (s ∷ []) r.0 r.1, r.2, r.3),
      λ r. elim (Contains-push_cases segments s r.0 r.1) [
        | inl i ↦ (h.letters l).1 (r.0, i, r.2, r.3)
        | inr e ↦ absurd (n (subst (λ u. JoinsNext K vertices u a b) (sym e) r.2))
      ],
    );
    line_is = record {
      before = h.line_is.before;
      after = h.line_is.after ++ s ∷ [];
      cover = h.line_is.cover;
      is = ap (λ xs. xs ++ s ∷ []) h.line_is.is ∙ append_assoc h.line_is.before (h.line_is.cover ∷ h.line_is.after) (s ∷ []);
      joins = h.line_is.joins;
      none_before = h.line_is.none_before;
      ends_at = h.line_is.ends_at;
    };
  }

  -- one that joins them is known besides
  pub known_added : (known : Option Cover) (cover : Cover) (ends : ℕ × ℕ) → JoinsNext K vertices s a b → HasEndsAt K vertices s ends → Adds s.letter ends known cover
      → IsKnown K vertices segments a b known → IsKnown K vertices (segments ++ s ∷ []) a b (Some cover)
  known_added None cover ends j at adds h = record {
    letters = λ l. (
      λ e. elim ((adds.letters l).0 e) [ inl n ↦ absurd n | inr f ↦ (s, Contains-push segments s, j, sym f) ],
      λ r. elim (Contains-push_cases segments s r.0 r.1) [
        | inl i ↦ absurd (h r.0 i r.2)
        | inr e ↦ (adds.letters l).1 (inr (sym r.3 ∙ ap (λ u. u.letter) (sym e)))
      ],
    );
    line_is = record {
      before = segments;
      after = [];
      cover = s;
      is = refl;
      joins = j;
      none_before = All-from_recursion (λ t. ¬ JoinsNext K vertices t a b) segments (none segments h);
      ends_at = subst (HasEndsAt K vertices s) (sym adds.line_is) at;
    };
  }
    where
      none : (xs : List (Segment A)) → ((t : Segment A) → Contains xs t → ¬ JoinsNext K vertices t a b) → AllByRecursion (λ t. ¬ JoinsNext K vertices t a b) xs
      none [] f = tt
      none (x ∷ xs) f = (f x (in_head x xs), none xs (λ t c. f t (in_tail x xs t c)))
  known_added (Some known) cover ends j at adds h = record {
    letters = λ l. (
      λ e. elim ((adds.letters l).0 e) [
        | inl k ↦ let r = (h.letters l).0 k in (r.0, Contains-append_left segments (s ∷ []) r.0 r.1, r.2, r.3)
        | inr f ↦ (s, Contains-push segments s, j, sym f)
      ],
      λ r. elim (Contains-push_cases segments s r.0 r.1) [
        | inl i ↦ (adds.letters l).1 (inl ((h.letters l).1 (r.0, i, r.2, r.3)))
        | inr e ↦ (adds.letters l).1 (inr (sym r.3 ∙ ap (λ u. u.letter) (sym e)))
      ],
    );
    line_is = record {
      before = h.line_is.before;
      after = h.line_is.after ++ s ∷ [];
      cover = h.line_is.cover;
      is = ap (λ xs. xs ++ s ∷ []) h.line_is.is ∙ append_assoc h.line_is.before (h.line_is.cover ∷ h.line_is.after) (s ∷ []);
      joins = h.line_is.joins;
      none_before = h.line_is.none_before;
      ends_at = subst (HasEndsAt K vertices h.line_is.cover) (sym adds.line_is) h.line_is.ends_at;
    };
  }

  -- the same of what is found afterwards
  pub known_found : (known found : Option Cover) (ends : ℕ × ℕ) → JoinsNext K vertices s a b → HasEndsAt K vertices s ends → IsSomeAnd found (Adds s.letter ends known)
      → IsKnown K vertices segments a b known → IsKnown K vertices (segments ++ s ∷ []) a b found
  known_found known None ends j at adds h = absurd adds
  known_found known (Some cover) ends j at adds h = known_added known cover ends j at adds h

module _ {A : Type 0} (K : OrderedRing A) (vertices : List (Point A)) (segments : List (Segment A)) (s : Segment A) where
  -- a vertex that isn't on the segment ends no piece of it
  pub step_off : (v : ℕ) (covers : BTreeMap (ℕ × ℕ) Cover) → ¬ LiesOn K vertices s v → HasCoversBefore K vertices segments s v covers → HasCoversBefore K vertices segments s (v + 1) covers
  step_off v covers off h a b = (λ less. before less (cases_lt b v), λ from. (h a b).1 (omega (arith, from)))
    where
      before : b < v + 1 → (b < v) ⊎ (v ≤ b) → IsKnown K vertices (segments ++ s ∷ []) a b (get piece_order covers (a, b))
      before less (inl sooner) = (h a b).0 sooner
      before less (inr from) =
          let same : v ≡ b = omega (arith, less, from) in
          known_not K vertices segments s a b (get piece_order covers (a, b)) (λ j. subst (λ u. ¬ LiesOn K vertices s u) same off j.second) ((h a b).1 from)

  -- one that is on it ends the piece from the last such vertex, and no other
  module _ (v last : ℕ) (ends : ℕ × ℕ) (old new : BTreeMap (ℕ × ℕ) Cover) (proper : IsProper K s) (within : v < length vertices) (on : LiesOn K vertices s v)
      (is_last : IsLastOn K vertices s v last) (at : HasEndsAt K vertices s ends)
      (here : IsSomeAnd (get piece_order new (last, v)) (Adds s.letter ends (get piece_order old (last, v))))
      (others : (q : ℕ × ℕ) → ¬ (q ≡ (last, v)) → get piece_order new q ≡ get piece_order old q) where
    joins : JoinsNext K vertices s last v
    joins = record { proper = proper; in_order = is_last.before; in_range = within; first = is_last.on; second = on; nothing_between = is_last.none_since }

    other_second : (a b : ℕ) → ¬ (b ≡ v) → get piece_order new (a, b) ≡ get piece_order old (a, b)
    other_second a b n = others (a, b) (λ e. n (ap (λ q. q.1) e))

    only_last : (a : ℕ) → JoinsNext K vertices s a v → a ≡ last
    only_last a j = by_cases (cases_order a last)
      where
        by_cases : (a ≡ last) ⊎ ((a < last) ⊎ (last < a)) → a ≡ last
        by_cases (inl e) = e
        by_cases (inr (inl less)) = absurd (j.nothing_between last less is_last.before is_last.on)
        by_cases (inr (inr more)) = absurd (is_last.none_since a more j.in_order j.first)

    at_v : (a : ℕ) → IsKnown K vertices segments a v (get piece_order old (a, v)) → (a ≡ last) ⊎ ((a < last) ⊎ (last < a)) → IsKnown K vertices (segments ++ s ∷ []) a v (get piece_order new (a, v))
    at_v a h (inl e) =
        subst (λ u. IsKnown K vertices (segments ++ s ∷ []) u v (get piece_order new (u, v))) (sym e)
        (known_found K vertices segments s last v (get piece_order old (last, v)) (get piece_order new (last, v)) ends joins at here (subst (λ u. IsKnown K vertices segments u v (get piece_order old (u, v))) e h))
    at_v a h (inr less_or_more) =
        let n : ¬ (a ≡ last) = λ e. elim less_or_more [ inl less ↦ omega (arith, less, e) | inr more ↦ omega (arith, more, e) ] in
        subst (IsKnown K vertices (segments ++ s ∷ []) a v) (sym (others (a, v) (λ e. n (ap (λ q. q.0) e))))
        (known_not K vertices segments s a v (get piece_order old (a, v)) (λ j. n (only_last a j)) h)

    pub step_on : HasCoversBefore K vertices segments s v old → HasCoversBefore K vertices segments s (v + 1) new
    step_on h a b = (λ less. before less (cases_lt b v), λ from. after from)
      where
        before : b < v + 1 → (b < v) ⊎ (v ≤ b) → IsKnown K vertices (segments ++ s ∷ []) a b (get piece_order new (a, b))
        before less (inl sooner) =
            subst (IsKnown K vertices (segments ++ s ∷ []) a b) (sym (other_second a b (λ e. omega (arith, sooner, e)))) ((h a b).0 sooner)
        before less (inr from) =
            let same : v ≡ b = omega (arith, less, from) in
            subst (λ u. IsKnown K vertices (segments ++ s ∷ []) a u (get piece_order new (a, u))) same (at_v a ((h a v).1 (omega arith)) (cases_order a last))

        after : v + 1 ≤ b → IsKnown K vertices segments a b (get piece_order new (a, b))
        after from = subst (IsKnown K vertices segments a b) (sym (other_second a b (λ e. omega (arith, from, e)))) ((h a b).1 (omega (arith, from)))

  -- before the first vertex nothing is done, and after the last all
  pub none_yet : (v : ℕ) (covers : BTreeMap (ℕ × ℕ) Cover) → ((a b : ℕ) → b < v → ¬ JoinsNext K vertices s a b) → HasCovers K vertices segments covers → HasCoversBefore K vertices segments s v covers
  none_yet v covers none h a b = (λ less. known_not K vertices segments s a b (get piece_order covers (a, b)) (none a b less) (h a b), λ from. h a b)

  pub all_done : (v : ℕ) (covers : BTreeMap (ℕ × ℕ) Cover) → ((a b : ℕ) → v ≤ b → ¬ JoinsNext K vertices s a b) → HasCoversBefore K vertices segments s v covers → HasCovers K vertices (segments ++ s ∷ []) covers
  all_done v covers none h a b = by_cases (cases_lt b v)
    where
      by_cases : (b < v) ⊎ (v ≤ b) → IsKnown K vertices (segments ++ s ∷ []) a b (get piece_order covers (a, b))
      by_cases (inl less) = (h a b).0 less
      by_cases (inr from) = known_not K vertices segments s a b (get piece_order covers (a, b)) (none a b from) ((h a b).1 from)

  -- a segment that isn't proper has no pieces
  pub none_of_improper : ¬ IsProper K s → (covers : BTreeMap (ℕ × ℕ) Cover) → HasCovers K vertices segments covers → HasCovers K vertices (segments ++ s ∷ []) covers
  none_of_improper n covers h a b = known_not K vertices segments s a b (get piece_order covers (a, b)) (λ j. n j.proper) (h a b)
