-- A search that finds one more vertex.
use Rattle.std.proofs.Common.{◌≡◌, ◌⊎◌, inl, inr, ℕ, ◌+◌, ◌<◌, ◌≤◌, List, [], ◌∷◌, ◌++◌, Bool, true, false, length, get_or, replicate, refl, sym, ap, subst, ◌∙◌, arith}
use Rattle.std.specs.Prelude.{Contains, MatchOption, None, Option, Some, slice_set, slice_index}
use Rattle.std.proofs.lemmas.List.{length-append, length-set, get_or-set_same, get_or-set_other, get_or_append_left, get_or_default, get_or-replicate, get_or_past, length-replicate}
use Rattle.std.proofs.lemmas.List.Elements.{All-push, All-contains, Contains-append_left, Contains-push, Contains-push_cases}
use Rattle.std.proofs.lemmas.List.Quantifiers.{all_pairs_push}
use Rattle.half_edges.specs.Halves.{Halves, count}
use Rattle.half_edges.proofs.Paths.{few_apart}
use Rattle.scaled_plane.specs.Lists.{begun, gone_on}
use Rattle.face_walks.specs.Linked.{piece_at}
use Rattle.half_edges.specs.declared.arena.HalfId.{HalfId}
use Rattle.face_walks.specs.Rings.{AreOutgoing, HasHalf, half_at, ring_at}
use Rattle.face_walks.specs.Searches.{Finds, GoesOn, IsFirstUnreached, IsReachedFrom, IsSearch, is_seen}
use Rattle.face_walks.proofs.RingLists.{same_or_not}

pub goes_on_itself : (found : List ℕ) → GoesOn found found
goes_on_itself found = record { longer = omega arith; same = λ k l. refl }

pub goes_on_then : (a b c : List ℕ) → GoesOn a b → GoesOn b c → GoesOn a c
goes_on_then a b c h k = record {
  longer = omega (arith, h.longer, k.longer);
  same = λ i l. k.same i (omega (arith, l, h.longer)) ∙ h.same i l;
}

pub still : (a b : List ℕ) → GoesOn a b → (v : ℕ) → Contains a v → Contains b v
still a b h v c = (c.0, omega (arith, c.1, h.longer), get_or_default b c.0 v 0 (omega (arith, c.1, h.longer)) ∙ h.same c.0 c.1 ∙ get_or_default a c.0 0 v c.1 ∙ c.2)

module _ (arena : Halves (ℕ × ℕ)) (vertices : ℕ) (found : List ℕ) (seen : List Bool) (s : IsSearch arena vertices found seen) where
  pub not_many : length found ≤ vertices
  not_many = few_apart found vertices s.once s.below

  module _ (v : ℕ) (in_range : v < vertices) (reached : IsReachedFrom arena 0 v) where
    more_by : (found' : List ℕ) (seen' : List Bool) → Finds found seen v found' seen' → IsSearch arena vertices found' seen' × GoesOn found found' × Contains found' v
    more_by found' seen' (inl f) = (
      subst (λ (fs : List ℕ). IsSearch arena vertices fs seen') (sym f.1) (subst (λ (ss : List Bool). IsSearch arena vertices found ss) (sym f.2) s),
      subst (λ (fs : List ℕ). GoesOn found fs) (sym f.1) (goes_on_itself found),
      subst (λ (fs : List ℕ). Contains fs v) (sym f.1) (s.unmarked v f.0),
    )
    more_by found' seen' (inr f) = (
      subst (λ (fs : List ℕ). IsSearch arena vertices fs seen') (sym f.1) (subst (λ (ss : List Bool). IsSearch arena vertices (found ++ v ∷ []) ss) (sym f.2) grown),
      subst (λ (fs : List ℕ). GoesOn found fs) (sym f.1) onward,
      subst (λ (fs : List ℕ). Contains fs v) (sym f.1) (Contains-push found v),
    )
      where
        onward : GoesOn found (found ++ v ∷ [])
        onward = record {
          longer = omega (arith, length-append found (v ∷ []));
          same = λ k l. get_or_append_left found (v ∷ []) 0 k l;
        }

        -- those that were seen before aren't v
        other : (u : ℕ) → Contains found u → ¬ (u ≡ v)
        other u c e = let no : true ≡ false = sym (s.marked u c) ∙ ap (λ (w : ℕ). is_seen seen w) e ∙ f.0 in cc

        mark : (u : ℕ) → (Contains found u) ⊎ (v ≡ u) → is_seen (slice_set seen v true) u ≡ true
        mark u (inl c) = get_or-set_other seen v u true false (other u c) ∙ s.marked u c
        mark u (inr e) = ap (λ (w : ℕ). is_seen (slice_set seen v true) w) (sym e) ∙ get_or-set_same seen v true false (subst (λ (n : ℕ). v < n) (sym s.as_many) in_range)

        known : (u : ℕ) → (u ≡ v) ⊎ ¬ (u ≡ v) → is_seen (slice_set seen v true) u ≡ true → Contains (found ++ v ∷ []) u
        known u (inl e) h = subst (λ (w : ℕ). Contains (found ++ v ∷ []) w) (sym e) (Contains-push found v)
        known u (inr n) h = Contains-append_left found (v ∷ []) u (s.unmarked u (sym (get_or-set_other seen v u true false n) ∙ h))

        grown : IsSearch arena vertices (found ++ v ∷ []) (slice_set seen v true)
        grown = record {
          as_many = length-set seen v true ∙ s.as_many;
          marked = λ u c. mark u (Contains-push_cases found v u c);
          unmarked = λ u h. known u (same_or_not u v) h;
          below = All-push (λ u. u < vertices) found v s.below in_range;
          once = all_pairs_push (λ u w. ¬ (u ≡ w)) found v s.once (λ k d l e. other (get_or found k d) (k, l, get_or_default found k (get_or found k d) d l) e);
          reached = All-push (λ u. IsReachedFrom arena 0 u) found v s.reached reached;
        }

    pub found_more : (found' : List ℕ) (seen' : List Bool) → Finds found seen v found' seen' → IsSearch arena vertices found' seen' × GoesOn found found' × Contains found' v
    found_more = more_by

pub empty_search : (arena : Halves (ℕ × ℕ)) (vertices : ℕ) → IsSearch arena vertices [] (replicate vertices false)
empty_search arena vertices = record {
  as_many = length-replicate vertices false;
  marked = λ v c. absurd (omega (arith, c.1));
  unmarked = λ v h. absurd (let no : true ≡ false = sym h ∙ unseen v (v_or v) in cc);
  below = λ k d l. absurd (omega (arith, l));
  once = λ i j d a b. absurd (omega (arith, b));
  reached = λ k d l. absurd (omega (arith, l));
}
  where
    v_or : (v : ℕ) → (v < vertices) ⊎ (vertices ≤ v)
    v_or v = grind arith

    unseen : (v : ℕ) → (v < vertices) ⊎ (vertices ≤ v) → is_seen (replicate vertices false) v ≡ false
    unseen v (inl l) = get_or-replicate vertices v false false l
    unseen v (inr l) = get_or_past (replicate vertices false) v false (omega (arith, l, length-replicate vertices false))

-- ---- what a search that has gone through all that it found says

-- the half-edges that go out of the first n lead to vertices that are found
abbrev pub AreDone : Halves (ℕ × ℕ) → List ℕ → ℕ → Type 0
AreDone arena found n = (k h : ℕ) → k < n → k < length found → h < count arena → (piece_at arena h).0 ≡ slice_index found k → Contains found (piece_at arena h).1

module _ (arena : Halves (ℕ × ℕ)) (vertices : ℕ) (found : List ℕ) (seen : List Bool) (s : IsSearch arena vertices found seen)
    (start : Contains found 0) (n : ℕ) (done : AreDone arena found n) (all : length found ≤ n) where
  finds : (v : ℕ) → IsReachedFrom arena 0 v → Contains found v
  finds v begun = start
  finds v (gone_on u r step) =
      let c = finds u r in
      let from : (piece_at arena step.0).0 ≡ slice_index found c.0 = ap (λ (q : ℕ × ℕ). q.0) step.2 ∙ sym c.2 ∙ get_or_default found c.0 u 0 c.1 in
      subst (λ (w : ℕ). Contains found w) (ap (λ (q : ℕ × ℕ). q.1) step.2)
      (done c.0 step.0 (omega (arith, c.1, all)) c.1 step.1 from)

  pub all_reached : ((v : ℕ) → v < length seen → is_seen seen v ≡ true) → (v : ℕ) → v < vertices → IsReachedFrom arena 0 v
  all_reached h v l = All-contains (λ u. IsReachedFrom arena 0 u) found v s.reached (s.unmarked v (h v (subst (λ (m : ℕ). v < m) (sym s.as_many) l)))

  pub first_unreached : (v : ℕ) → v < length seen → is_seen seen v ≡ false → ((u : ℕ) → u < v → is_seen seen u ≡ true) → IsFirstUnreached arena vertices v
  first_unreached v l h k = record {
    in_range = subst (λ (m : ℕ). v < m) s.as_many l;
    unreached = λ r. let no : true ≡ false = sym (s.marked v (finds v r)) ∙ h in cc;
    least = λ u m. All-contains (λ w. IsReachedFrom arena 0 w) found u s.reached (s.unmarked u (k u m));
  }

pub done_none : (arena : Halves (ℕ × ℕ)) (found : List ℕ) → AreDone arena found 0
done_none arena found k h l = absurd (omega (arith, l))

pub done_more : (arena : Halves (ℕ × ℕ)) (rings : List (List HalfId)) (out : AreOutgoing arena rings) (found found' : List ℕ) (n vertex : ℕ)
    → AreDone arena found n → GoesOn found found' → n < length found → vertex ≡ slice_index found n
    → ((m : ℕ) → m < length (ring_at rings vertex) → Contains found' (piece_at arena (half_at (ring_at rings vertex) m)).1) → AreDone arena found' (n + 1)
done_more arena rings out found found' n vertex done on inside at neighbours k h l lk lh from = elim (below_or k l) [
  | inl m ↦
      let old : k < length found = omega (arith, m, inside) in
      still found found' on (piece_at arena h).1 (done k h m old lh (from ∙ on.same k old))
  | inr e ↦
      let here : (piece_at arena h).0 ≡ vertex = from ∙ ap (λ (i : ℕ). slice_index found' i) e ∙ on.same n inside ∙ sym at in
      let has : HasHalf (ring_at rings vertex) h = subst (λ (v : ℕ). HasHalf (ring_at rings v) h) here (out.every h lh) in
      subst (λ (g : ℕ). Contains found' (piece_at arena g).1) has.2 (neighbours has.0 has.1)
]
  where
    below_or : (i : ℕ) → i < n + 1 → (i < n) ⊎ (i ≡ n)
    below_or i l = grind arith

module _ (arena : Halves (ℕ × ℕ)) (vertices : ℕ) (found : List ℕ) (seen : List Bool) (s : IsSearch arena vertices found seen)
    (start : Contains found 0) (n : ℕ) (done : AreDone arena found n) (all : length found ≤ n) where
  pub search_ends : (r : Option ℕ) → MatchOption r ((v : ℕ) → v < length seen → is_seen seen v ≡ true)
      (λ first. (first < length seen) × (is_seen seen first ≡ false) × ((v : ℕ) → v < first → is_seen seen v ≡ true))
      → MatchOption r ((v : ℕ) → v < vertices → IsReachedFrom arena 0 v) (IsFirstUnreached arena vertices)
  search_ends None h = all_reached arena vertices found seen s start n done all h
  search_ends (Some first) h = first_unreached arena vertices found seen s start n done all first h.0 h.1 h.2
