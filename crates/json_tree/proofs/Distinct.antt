-- distinct keys: one more key, another order, and a sorted list
use Rattle.std.proofs.Common.{◌≡◌, ◌≢◌, ℕ, suc, ◌+◌, ◌<◌, ◌⊎◌, List, [], ◌∷◌, ◌++◌, map, length, get_or, take, drop, swap, Bool, true, false, IsPermutation, IsSorted, Bor, Ordering, Less, Equal, Greater, nat_cmp, is_eq, is_lt, bytes_eq, inl, inr, refl, sym, ap, ◌∙◌, subst, arith, length-append, append_assoc, zero, IsTrue}
use Rattle.std.specs.Prelude.{◌↔◌}
use Rattle.std.specs.Cmp.Lexicographic.{slice_cmp}
use Rattle.std.specs.List.{Contains}
use Rattle.std.specs.Ordering.{ordering_reverse}
use Rattle.std.proofs.lemmas.Bool.{cases_eq, cases_lt}
use Rattle.std.proofs.lemmas.Cmp.{on_total, nat_list_cmp_total}
use Rattle.std.proofs.lemmas.Grind.{common_steps}
use Rattle.std.proofs.lemmas.List.{get_or-map, get_or_append_left, get_or_default, length-map, map-append, take-append-drop, take_more}
use Rattle.std.proofs.lemmas.List.Edits.{Swapped, swapped_from_swap, length-swap}
use Rattle.std.proofs.lemmas.List.Elements.{Contains-append_cases}
use Rattle.std.proofs.lemmas.List.Sorted.{IsPermutation-keeps, IsPermutation-map, IsPermutation-sym}
use Rattle.std.proofs.lemmas.Map.Keys.{sorted_from_all_adjacent, Less-from_sorted}
use Rattle.std.proofs.lemmas.Map.Text.{is_eq-slice_cmp}
use Rattle.std.proofs.lemmas.Slice.Eq.{bytes_eq-Decides}
use Rattle.std.proofs.Math.Seq.{get_or-append_seam}
use Rattle.json_tree.specs.Tree.{keys, HasKey, AreDistinct}
use Rattle.json_tree.specs.declared.tree.Member.{Member}

-- ---- one more word

pub new_word : (xs ys : List (List ℕ)) (x : List ℕ) → AreDistinct (xs ++ x ∷ ys) → ¬ Contains xs x
new_word xs ys x d c =
    let there : get_or (xs ++ x ∷ ys) c.0 x ≡ x = grind (arith, common_steps) in
    let here : get_or (xs ++ x ∷ ys) (length xs) x ≡ x = grind (arith, common_steps) in
    d c.0 (length xs) x c.1 (omega (arith, length-append xs (x ∷ ys))) (there ∙ sym here)

pub distinct_more : (xs : List (List ℕ)) (x : List ℕ) → AreDistinct xs → ¬ Contains xs x → AreDistinct (xs ++ x ∷ [])
distinct_more xs x d new i j e less within same =
    let front : i < length xs = omega (arith, length-append xs (x ∷ [])) in
    let left : get_or (xs ++ x ∷ []) i e ≡ get_or xs i e = get_or_append_left xs (x ∷ []) e i front in
    elim (cases_lt j (length xs)) [
      | inl inside ↦ d i j e less inside (sym left ∙ same ∙ get_or_append_left xs (x ∷ []) e j inside)
      | inr past ↦
          let at : j ≡ length xs = omega (arith, length-append xs (x ∷ [])) in
          let last : get_or (xs ++ x ∷ []) j e ≡ x = ap (λ k. get_or (xs ++ x ∷ []) k e) at ∙ get_or-append_seam xs x [] e in
          new (i, front, get_or_default xs i x e front ∙ sym left ∙ same ∙ last)
    ]

module _ (members : List Member) (i : ℕ) (m : Member) (less : i < length members) (is : m ≡ get_or members i m) where
  keys_taken : keys (take (i + 1) members) ≡ keys (take i members) ++ m.key ∷ []
  keys_taken = ap keys (take_more members i m less ∙ ap (λ y. take i members ++ y ∷ []) (sym is)) ∙ map-append (λ m. m.key) (take i members) (m ∷ [])

  keys_around : keys members ≡ keys (take i members) ++ m.key ∷ keys (drop (i + 1) members)
  keys_around =
      ap keys (sym (take-append-drop (i + 1) members)) ∙ map-append (λ m. m.key) (take (i + 1) members) (drop (i + 1) members)
      ∙ ap (λ l. l ++ keys (drop (i + 1) members)) keys_taken ∙ append_assoc (keys (take i members)) (m.key ∷ []) (keys (drop (i + 1) members))

  -- a key that an earlier member has
  pub repeated : HasKey (take i members) m.key → ¬ AreDistinct (keys members)
  repeated had d = new_word (keys (take i members)) (keys (drop (i + 1) members)) m.key (subst AreDistinct keys_around d) had

  pub distinct_taken : AreDistinct (keys (take i members)) → ¬ HasKey (take i members) m.key → AreDistinct (keys (take (i + 1) members))
  distinct_taken d new = subst AreDistinct (sym keys_taken) (distinct_more (keys (take i members)) m.key d new)

  pub lacks_taken : (key : List ℕ) → ¬ HasKey (take i members) key → m.key ≢ key → ¬ HasKey (take (i + 1) members) key
  lacks_taken key lacks other has = elim (Contains-append_cases (keys (take i members)) (m.key ∷ []) key (subst (λ l. Contains l key) keys_taken has)) [
    | inl c ↦ lacks c
    | inr c ↦ other (only c)
  ]
    where
      only : Contains (m.key ∷ []) key → m.key ≡ key
      only (zero, within, e) = e
      only (suc k, within, e) = absurd (omega arith)

-- ---- another order

either_way : (ks : List (List ℕ)) → AreDistinct ks → (i j : ℕ) (d : List ℕ) → i < length ks → j < length ks → get_or ks i d ≡ get_or ks j d → i ≡ j
either_way ks h i j d p q e =
    let not_below : i < j → ⊥ = λ less. h i j d less q e in
    let not_above : j < i → ⊥ = λ less. h j i d less p (sym e) in
    omega arith

-- where a swap of a and b took the element at m from
abbrev From : ℕ → ℕ → ℕ → ℕ → Type 0
From a b m k = ((m ≡ a) × (k ≡ b)) ⊎ (((m ≡ b) × (k ≡ a)) ⊎ ((m ≢ a) × (m ≢ b) × (k ≡ m)))

origin : {X : Type 0} (f g : ℕ → X) (a b m : ℕ) → Swapped f g a b → (m ≡ a) ⊎ (m ≢ a) → (m ≡ b) ⊎ (m ≢ b) → (k : ℕ) × From a b m k × (g m ≡ f k)
origin f g a b m s (inl e) y = (b, inl (e, refl), ap g e ∙ s.0)
origin f g a b m s (inr n) (inl e) = (a, inr (inl (e, refl)), ap g e ∙ s.1)
origin f g a b m s (inr n) (inr o) = (m, inr (inr (n, o, refl)), s.2 m n o)

distinct_swapped : (ks : List (List ℕ)) (a b : ℕ) → a < length ks → b < length ks → AreDistinct ks → AreDistinct (swap ks a b)
distinct_swapped ks a b p q h i j d less within e =
    let len = length-swap ks a b in
    let s = swapped_from_swap ks (swap ks a b) a b d p q refl in
    let x = origin _ _ a b i s (cases_eq i a) (cases_eq i b) in
    let y = origin _ _ a b j s (cases_eq j a) (cases_eq j b) in
    let same = either_way ks h x.0 y.0 d (omega (arith, x.1)) (omega (arith, y.1)) (sym x.2 ∙ e ∙ y.2) in
    omega (arith, x.1, y.1)

pub distinct_reordered : (old new : List (List ℕ)) → IsPermutation old new → AreDistinct old → AreDistinct new
distinct_reordered old new moved h = IsPermutation-keeps old AreDistinct h distinct_swapped new moved

-- ---- a sorted list of words behind references

abbrev Word : Type 0
Word = Bor (List ℕ)

abbrev texts : List Word → List (List ℕ)
texts ks = map (λ k. k.now) ks

abbrev pub DifferAt : List Word → ℕ → ℕ → Type 0
DifferAt ks i j = (d : Word) → bytes_eq (get_or ks i d).now (get_or ks j d).now ≡ false

apart : (a b : List ℕ) → bytes_eq a b ≡ false → a ≢ b
apart a b other e = let same = (bytes_eq-Decides a b).1 e in cc

tested : (a b : List ℕ) (t : Bool) → bytes_eq a b ≡ t → a ≢ b → t ≡ false
tested a b true e other = absurd (other ((bytes_eq-Decides a b).0 e))
tested a b false e other = refl

pub distinct_from_places : (ks : List Word) → ((i j : ℕ) → i < j → j < length ks → DifferAt ks i j) → AreDistinct (texts ks)
distinct_from_places [] h i j d less within e = omega arith
distinct_from_places (k ∷ ks) h i j d less within e =
    let all = k ∷ ks in
    let inside : j < length all = omega (arith, length-map all (λ (x : Word). x.now)) in
    apart _ _ (h i j less inside k) (sym (get_or-map (λ x. x.now) all i k d (omega arith)) ∙ e ∙ get_or-map (λ x. x.now) all j k d inside)

pub places_from_distinct : (ks : List Word) (i j : ℕ) → AreDistinct (texts ks) → i < j → j < length ks → DifferAt ks i j
places_from_distinct ks i j h less within d =
    let inside : j < length (texts ks) = omega (arith, length-map ks (λ (x : Word). x.now)) in
    tested (get_or ks i d).now (get_or ks j d).now _ refl (λ e. h i j [] less inside (get_or-map (λ x. x.now) ks i d [] (omega arith) ∙ e ∙ sym (get_or-map (λ x. x.now) ks j d [] within)))

abbrev word_cmp : Word → Word → Ordering
word_cmp a b = slice_cmp nat_cmp a.now b.now

only_less : (o p : Ordering) → o ≡ ordering_reverse p → is_lt p ≡ false → is_eq o ≡ false → o ≡ Less
only_less o Less e p q = cc
only_less o Equal e p q = let tie = ap is_eq (sym e) ∙ q in cc
only_less o Greater e p q = e

-- neighbours that are in order and differ rise strictly, and so do all pairs
pub differ_from_sorted : (ks : List Word) → IsSorted word_cmp ks → ((k : ℕ) → k + 1 < length ks → DifferAt ks k (k + 1))
    → (i j : ℕ) → i < j → j < length ks → DifferAt ks i j
differ_from_sorted ks sorted neighbours i j less within d =
    let total = on_total (λ (k : Word). k.now) nat_list_cmp_total in
    let rises : (k : ℕ) → k + 1 < length ks → word_cmp (get_or ks k d) (get_or ks (k + 1) d) ≡ Less =
    λ k h. let x = get_or ks k d in let y = get_or ks (k + 1) d in
    only_less (word_cmp x y) (word_cmp y x) (total.antisymm x y) (sorted k d (omega arith) h) (is_eq-slice_cmp x.now y.now ∙ neighbours k h d) in
    let below = Less-from_sorted word_cmp ks i j d (sorted_from_all_adjacent total ks d rises) less within in
    sym (is_eq-slice_cmp (get_or ks i d).now (get_or ks j d).now) ∙ ap is_eq below

-- the words are distinct where the same ones are in another order
pub distinct_by_order : (words : List (List ℕ)) (sorted passed : List Word) (test : Bool) → IsPermutation words (texts sorted) → passed ≡ sorted
    → IsTrue test ↔ AreDistinct (texts passed) → IsTrue test ↔ AreDistinct words
distinct_by_order words sorted passed test moved same tested = (
  (λ yes. distinct_reordered (texts sorted) words (IsPermutation-sym words (texts sorted) moved) (subst (λ ks. AreDistinct (texts ks)) same (tested.0 yes))),
  (λ d. tested.1 (subst (λ ks. AreDistinct (texts ks)) (sym same) (distinct_reordered words (texts sorted) moved d))),
)

-- words that are put in order stay the same ones
pub words_reordered : (words : List (List ℕ)) (before after : List Word) → texts before ≡ words → IsPermutation before after → IsPermutation words (texts after)
words_reordered words before after same moved = subst (λ l. IsPermutation l (texts after)) same (IsPermutation-map (λ (k : Word). k.now) before after moved)
