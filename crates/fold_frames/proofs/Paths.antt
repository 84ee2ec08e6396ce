-- paths from a frame to its parents
use Rattle.std.proofs.Common.{◌≡◌, ℕ, suc, ◌<◌, List, [], ◌∷◌, ◌++◌, length, set, get_or, replicate, inl, inr, refl, sym, ◌∙◌, ap, subst, Bool, true, false, Option, Some, arith}
use Rattle.std.specs.List.{AllByRecursion}
use Rattle.std.specs.Prelude.{All, Contains, AllPairs, ◌≢◌, slice_index_or, option_and_then}
use Rattle.std.proofs.lemmas.Option.{slice_get_read}
use Rattle.std.proofs.lemmas.Bool.{cases_eq}
use Rattle.std.proofs.lemmas.List.{get_or_read_under, get_or-set_same, get_or-set_other, get_or-replicate, length-set, length-replicate, get_or_default}
use Rattle.std.proofs.lemmas.List.Elements.{Contains-append_left, Contains-append_right, Contains-append_cases}
use Rattle.std.proofs.lemmas.List.Quantifiers.{all_pairs_push}
use Rattle.fold_keys.specs.declared.value.Frame.{Frame}
use Rattle.fold_keys.proofs.Entries.{all_more}
use Rattle.fold_frames.specs.Parents.{parent_of, parent_at, IsPath, IsWay, ReturnsAt}

module _ (frames : List Frame) where
  pub path_more : (k : ℕ) (path : List ℕ) (here next : ℕ) → IsPath frames k path here
      → parent_at frames here ≡ Some next → IsPath frames k (path ++ here ∷ []) next
  path_more k [] here next is parent =
      (sym is, next, subst (λ f. parent_at frames f ≡ Some next) (sym is) parent, refl)
  path_more k (f ∷ path) here next is parent =
      (is.0, is.1, is.2, path_more is.1 path here next is.3 parent)

  path_from : (k : ℕ) (before : List ℕ) (f : ℕ) (after : List ℕ) (to : ℕ)
      → IsPath frames k (before ++ f ∷ after) to → IsPath frames k before f × IsPath frames f (f ∷ after) to
  path_from k [] f after to is = (sym is.0, subst (λ g. IsPath frames g (f ∷ after) to) (sym is.0) is)
  path_from k (g ∷ before) f after to is =
      let rest = path_from is.1 before f after to is.3 in
      ((is.0, is.1, is.2, rest.0), rest.1)

  -- a path that comes to one of its frames goes round
  pub returns : (k : ℕ) (way : List ℕ) (here : ℕ) → IsPath frames k way here → Contains way here
      → AllPairs (λ g h. g ≢ h) way → ReturnsAt frames k here
  returns k way here is has distinct =
      let parts = split way here has in
      let paths = path_from k parts.0 here parts.1 here (subst (λ w. IsPath frames k w here) parts.2 is) in
      (parts.0, here ∷ parts.1, paths.0, paths.1, omega arith, subst (AllPairs (λ g h. g ≢ h)) parts.2 distinct)
    where
      split : (way : List ℕ) (here : ℕ) → Contains way here
          → (before : List ℕ) × (after : List ℕ) × (way ≡ before ++ here ∷ after)
      split [] here has = absurd (omega (arith, has.1))
      split (f ∷ way) here has = at has.0 has.1 has.2 (split way here)
        where
          at : (i : ℕ) → i < length (f ∷ way) → slice_index_or (f ∷ way) i here ≡ here
              → (Contains way here → (before : List ℕ) × (after : List ℕ) × (way ≡ before ++ here ∷ after))
              → (before : List ℕ) × (after : List ℕ) × (f ∷ way ≡ before ++ here ∷ after)
          at Prim.Native.Nat.zero within same rest = ([], way, ap (λ g. g ∷ way) same)
          at (suc i) within same rest =
              let later = rest (i, omega (arith, within), same) in
              (f ∷ later.0, later.1, ap (λ w. f ∷ w) later.2)

-- how many aren't marked
abbrev pub unmarked : List Bool → ℕ
unmarked [] = 0
unmarked (true ∷ met) = unmarked met
unmarked (false ∷ met) = suc (unmarked met)

pub fewer_unmarked : (met : List Bool) (f : ℕ) → f < length met → get_or met f false ≡ false
    → unmarked (set met f true) < unmarked met
fewer_unmarked [] f within un = absurd (omega (arith, within))
fewer_unmarked (false ∷ met) Prim.Native.Nat.zero within un = omega arith
fewer_unmarked (true ∷ met) Prim.Native.Nat.zero within un = cc
fewer_unmarked (true ∷ met) (suc f) within un = fewer_unmarked met f (omega (arith, within)) un
fewer_unmarked (false ∷ met) (suc f) within un =
    let rest = fewer_unmarked met f (omega (arith, within)) un in omega (arith, rest)

-- ---- what was met

-- the way so far, from frame k to the frame before `here`, and the marks of the frames on it
pub record Walked (frames : List Frame) (k here : ℕ) (way : List ℕ) (met : List Bool) : Type 0 where
  pub path : IsPath frames k way here
  pub within : here < length frames
  pub size : length met ≡ length frames
  pub marked : (f : ℕ) → f < length met → get_or met f false ≡ true → Contains way f
  pub known : (f : ℕ) → Contains way f → get_or met f false ≡ true
  pub distinct : AllPairs (λ g h. g ≢ h) way

pub started : (frames : List Frame) (k : ℕ) (met : List Bool) → k < length frames
    → met ≡ replicate (length frames) false → Walked frames k k [] met
started frames k met within e = record {
  path = refl;
  within = within;
  size = ap length e ∙ length-replicate (length frames) false;
  marked = λ f inside is.
      let none : get_or met f false ≡ false =
      ap (λ m. get_or m f false) e ∙ get_or-replicate (length frames) f false false
      (subst (λ n. f < n) (ap length e ∙ length-replicate (length frames) false) inside) in
      clash f none is;
  known = λ f has. absurd (omega (arith, has.1));
  distinct = λ i j d less inside. absurd (omega (arith, inside));
}
  where
    clash : (f : ℕ) → get_or met f false ≡ false → get_or met f false ≡ true → Contains [] f
    clash f a b = cc

pub walked_more : (frames : List Frame) (k here next : ℕ) (way after : List ℕ) (met marks : List Bool)
    → Walked frames k here way met → get_or met here false ≡ false → parent_at frames here ≡ Some next
    → next < length frames → after ≡ way ++ here ∷ [] → marks ≡ set met here true
    → Walked frames k next after marks
walked_more frames k here next way after met marks so new parent within w m =
    subst (λ way. Walked frames k next way marks) (sym w)
    (subst (Walked frames k next (way ++ here ∷ [])) (sym m) here_more)
  where
    inside : here < length met
    inside = subst (λ n. here < n) (sym so.size) so.within

    marked_more : (f : ℕ) → f < length (set met here true) → get_or (set met here true) f false ≡ true
        → Contains (way ++ here ∷ []) f
    marked_more f bound is = elim (cases_eq f here) [
      | inl same ↦ Contains-append_right way (here ∷ []) f (0, omega arith, sym same)
      | inr other ↦ Contains-append_left way (here ∷ []) f
          (so.marked f (subst (λ n. f < n) (length-set met here true) bound)
          (sym (get_or-set_other met here f true false other) ∙ is))
    ]

    known_more : (f : ℕ) → Contains (way ++ here ∷ []) f → get_or (set met here true) f false ≡ true
    known_more f has = elim (cases_eq f here) [
      | inl same ↦ subst (λ g. get_or (set met here true) g false ≡ true) (sym same)
          (get_or-set_same met here true false inside)
      | inr other ↦ get_or-set_other met here f true false other
          ∙ elim (Contains-append_cases way (here ∷ []) f has) [
            | inl before ↦ so.known f before
            | inr last ↦ absurd (other (only last))
          ]
    ]
      where
        only : Contains (here ∷ []) f → f ≡ here
        only (Prim.Native.Nat.zero, bound, is) = sym is
        only (suc i, bound, is) = absurd (omega (arith, bound))

    fresh : (i : ℕ) (d : ℕ) → i < length way → get_or way i d ≢ here
    fresh i d bound is =
        let has : Contains way here = (i, bound, get_or_default way i here d bound ∙ is) in
        clash (so.known here has)
      where
        clash : get_or met here false ≡ true → ⊥
        clash is = cc

    here_more : Walked frames k next (way ++ here ∷ []) (set met here true)
    here_more = record {
      path = path_more frames k way here next so.path parent;
      within = within;
      size = length-set met here true ∙ so.size;
      marked = marked_more;
      known = known_more;
      distinct = all_pairs_push (λ g h. g ≢ h) way here so.distinct fresh;
    }

-- what a frame says of its parent
pub parent_here : (frames : List Frame) (here : ℕ) (frame : Frame) (parent : Option ℕ)
    → here < length frames → frame ≡ get_or frames here frame → parent ≡ parent_of frame
    → parent_at frames here ≡ parent
parent_here frames here frame parent within is of =
    ap (option_and_then parent_of) (slice_get_read frames (length frames) here frame refl within is)
    ∙ sym of

pub unmarked_less : (met marks : List Bool) (here size : ℕ) → length met ≡ size → here < size
    → get_or met here false ≡ false → marks ≡ set met here true → unmarked marks < unmarked met
unmarked_less met marks here size same within new set_is =
    subst (λ m. unmarked m < unmarked met) (sym set_is)
    (fewer_unmarked met here (subst (λ n. here < n) (sym same) within) new)

-- a frame that is marked already is met again
pub returns_here : (frames : List Frame) (k here : ℕ) (way : List ℕ) (met : List Bool)
    → Walked frames k here way met → get_or met here false ≡ true → ReturnsAt frames k here
returns_here frames k here way met so marked =
    let inside : here < length met = subst (λ n. here < n) (sym so.size) so.within in
    returns frames k way here so.path (so.marked here inside marked) so.distinct

-- the mark that was read
pub mark_is : (met : List Bool) (here size : ℕ) (mark is : Bool) → length met ≡ size → here < size
    → mark ≡ get_or met here mark → mark ≡ is → get_or met here false ≡ is
mark_is met here size mark is same within read e =
    sym (get_or_read_under met here size mark false read within (sym same)) ∙ e

-- ---- the frames of a way are there

pub parent_within : (frames : List Frame) (f parent : ℕ) → parent_at frames f ≡ Some parent
    → f < length frames
parent_within [] f parent is = cc
parent_within (x ∷ frames) Prim.Native.Nat.zero parent is = omega arith
parent_within (x ∷ frames) (suc f) parent is =
    let rest = parent_within frames f parent is in omega (arith, rest)

path_within : (frames : List Frame) (k : ℕ) (path : List ℕ) (to : ℕ) → IsPath frames k path to
    → AllByRecursion (λ f. f < length frames) path
path_within frames k [] to is = tt
path_within frames k (f ∷ path) to is = (
  subst (λ g. g < length frames) (sym is.0) (parent_within frames k is.1 is.2),
  path_within frames is.1 path to is.3,
)

all_at : {X : Type 0} (P : X → Type 0) (xs : List X) → AllByRecursion P xs → All P xs
all_at P [] all k d within = absurd (omega (arith, within))
all_at P (x ∷ xs) all Prim.Native.Nat.zero d within = all.0
all_at P (x ∷ xs) all (suc k) d within = all_at P xs all.1 k d (omega (arith, within))

pub way_within : (frames : List Frame) (k : ℕ) (way : List ℕ) → IsWay frames k way
    → All (λ f. f < length frames) way
way_within frames k way is =
    all_at (λ f. f < length frames) way
    (subst (AllByRecursion (λ f. f < length frames)) (sym is.2)
    (all_more (λ f. f < length frames) is.0 is.1 (path_within frames k is.0 is.1 is.3) is.4))
