-- One laid vertex more: its image has a number already, or is the next.
use Rattle.std.proofs.Common.{◌≡◌, ◌∙◌, ap, sym, subst, refl, ℕ, List, [], ◌∷◌, ◌++◌, ◌<◌, ◌≤◌, ◌+◌, length, Option, Some, None, ◌⊎◌, inl, inr, pos, arith, length-append}
use Rattle.std.specs.Prelude.{slice_index_or}
use Rattle.std.proofs.lemmas.Bool.{cases_lt}
use Rattle.std.proofs.lemmas.List.{get_or_append_left}
use Rattle.std.proofs.Math.Seq.{get_or-append_seam}
use Rattle.algebra.specs.LowestTerms.{Parts}
use Rattle.algebra.specs.OrderedField.{OrderedField}
use Rattle.scaled_plane.specs.declared.point.Pair.{Pair}
use Rattle.flat_fold.specs.declared.images.Origin.{Origin}
use Rattle.flat_fold.specs.declared.images.LaidVertex.{LaidVertex}
use Rattle.flat_fold.specs.Images.{origin_at, image_at, IsBefore, IsNumberOf}
use Rattle.flat_fold.specs.Places.{laid_order}
use Rattle.flat_fold.specs.Numbers.{Puts, PlaceKey, place_key, place_order, origin_of, laid_at, AreInOrder, AreNumbered, AreNumberedTo, IsKnown, IsAdded}
use Rattle.flat_fold.proofs.Puts.{laid_exact, place_exact, put_apart, put_only}

parts_is : (p r : Parts) → p.a ≡ r.a → p.b ≡ r.b → p.q ≡ r.q → p ≡ r
parts_is p r a b q = λ i. record { a = a i; b = b i; q = q i }

pair_is : {A : Type 0} (a b : Pair A) → a.x ≡ b.x → a.y ≡ b.y → a ≡ b
pair_is a b x y = λ i. record { x = x i; y = y i }

pub origin_is : (o p : Origin) → o.vertex ≡ p.vertex → o.face ≡ p.face → o ≡ p
origin_is o p v f = λ i. record { vertex = v i; face = f i }

-- equal keys are of one vertex and one place
same_place : {A : Type 0} (parts : A → Parts) → ((x y : A) → parts x ≡ parts y → x ≡ y) → (v w : ℕ) (a b : Pair A) → place_key parts v a ≡ place_key parts w b → (v ≡ w) × (a ≡ b)
same_place parts once v w a b e = (
  ap (λ (k : PlaceKey). k.0) e,
  pair_is a b
      (once a.x b.x (parts_is (parts a.x) (parts b.x) (ap (λ (k : PlaceKey). k.1.0) e) (ap (λ (k : PlaceKey). k.1.1) e) (ap (λ (k : PlaceKey). k.1.2) e)))
      (once a.y b.y (parts_is (parts a.y) (parts b.y) (ap (λ (k : PlaceKey). k.2.0) e) (ap (λ (k : PlaceKey). k.2.1) e) (ap (λ (k : PlaceKey). k.2.2) e))),
)

before_apart : (o p : Origin) → IsBefore o p → ¬ (◌≡◌ {A = ℕ × ℕ} (o.vertex, o.face) (p.vertex, p.face))
before_apart o p (inl low) e = let same : o.vertex ≡ p.vertex = ap (λ (q : ℕ × ℕ). q.0) e in absurd (omega arith)
before_apart o p (inr later) e = let same : o.face ≡ p.face = ap (λ (q : ℕ × ℕ). q.1) e in let low : o.face < p.face = later.1 in absurd (omega arith)

before_face : (o p : Origin) → IsBefore o p → p.vertex ≡ o.vertex → o.face ≤ p.face
before_face o p (inl low) e = absurd (omega arith)
before_face o p (inr later) e = let low : o.face < p.face = later.1 in omega arith

module _ {A : Type 0} (F : OrderedField A) (parts : A → Parts) (once : (x y : A) → parts x ≡ parts y → x ≡ y) (laid : List (LaidVertex A)) (sorted : AreInOrder F laid) where
  pub none_numbered : (known : PlaceKey → Option ℕ) (numbers : ℕ × ℕ → Option ℕ) → ((q : PlaceKey) → known q ≡ None) → AreNumberedTo F laid parts 0 known numbers [] []
  none_numbered known numbers empty = record {
    long = refl;
    few = omega arith;
    known_is = λ v a i e. absurd (let none : known (place_key parts v a) ≡ None = empty (place_key parts v a) in cc);
    from = λ i less. absurd (omega arith);
    least = λ i j less low. absurd (omega arith);
    all = λ j less. absurd (omega arith);
    in_order = λ i j low less. absurd (omega arith);
  }

  module _ (n : ℕ) (within : n < length laid) (known known' : PlaceKey → Option ℕ) (numbers numbers' : ℕ × ℕ → Option ℕ) (origins : List Origin) (images : List (Pair A)) (number : ℕ)
      (put : Puts laid_order numbers numbers' ((laid_at F laid n).vertex, (laid_at F laid n).face) number) (before : AreNumberedTo F laid parts n known numbers origins images) where
    -- an earlier laid vertex keeps its number
    kept_number : (j i : ℕ) → j < n → numbers ((laid_at F laid j).vertex, (laid_at F laid j).face) ≡ Some i → numbers' ((laid_at F laid j).vertex, (laid_at F laid j).face) ≡ Some i
    kept_number j i low e =
        put_apart laid_order laid_exact numbers numbers' ((laid_at F laid n).vertex, (laid_at F laid n).face) number put ((laid_at F laid j).vertex, (laid_at F laid j).face)
        (before_apart (origin_of (laid_at F laid j)) (origin_of (laid_at F laid n)) (sorted j n low within)) ∙ e

    -- an image of the same vertex has a face that isn't later
    least_now : (i : ℕ) → i < length images → (laid_at F laid n).vertex ≡ (origin_at origins i).vertex → (origin_at origins i).face ≤ (laid_at F laid n).face
    least_now i less e =
        let source = before.from i less in
        let earlier : IsBefore (origin_at origins i) (origin_of (laid_at F laid n)) = subst (λ (o : Origin). IsBefore o (origin_of (laid_at F laid n))) source.2 (sorted source.0 n source.1 within) in
        before_face (origin_at origins i) (origin_of (laid_at F laid n)) earlier e

    pub known_more : known (place_key parts (laid_at F laid n).vertex (laid_at F laid n).place) ≡ Some number → ((q : PlaceKey) → known' q ≡ known q) → AreNumberedTo F laid parts (n + 1) known' numbers' origins images
    known_more found same = record {
      long = before.long;
      few = (let few : length images ≤ n = before.few in omega arith);
      known_is = λ v a i e. before.known_is v a i (sym (same (place_key parts v a)) ∙ e);
      from = λ i less. (let source = before.from i less in (source.0, (let low : source.0 < n = source.1 in omega arith), source.2, source.3));
      least = λ i j less low. elim (cases_lt j n) [ inl earlier ↦ before.least i j less earlier | inr high ↦ (let last : n ≡ j = omega arith in least_at i j less last) ];
      all = λ j low. elim (cases_lt j n) [ inl earlier ↦ (let had = before.all j earlier in (had.0, kept_number j had.0 earlier had.1, same _ ∙ had.2)) | inr high ↦ (let last : n ≡ j = omega arith in all_at j last) ];
      in_order = before.in_order;
    }
      where
        least_at : (i j : ℕ) → i < length images → n ≡ j → (laid_at F laid j).vertex ≡ (origin_at origins i).vertex → (laid_at F laid j).place ≡ image_at F images i → (origin_at origins i).face ≤ (laid_at F laid j).face
        least_at i j less e = subst (λ k. (laid_at F laid k).vertex ≡ (origin_at origins i).vertex → (laid_at F laid k).place ≡ image_at F images i → (origin_at origins i).face ≤ (laid_at F laid k).face) e (λ v a. least_now i less v)

        all_at : (j : ℕ) → n ≡ j → (i : ℕ) × (numbers' ((laid_at F laid j).vertex, (laid_at F laid j).face) ≡ Some i) × (known' (place_key parts (laid_at F laid j).vertex (laid_at F laid j).place) ≡ Some i)
        all_at j e = subst (λ k. (i : ℕ) × (numbers' ((laid_at F laid k).vertex, (laid_at F laid k).face) ≡ Some i) × (known' (place_key parts (laid_at F laid k).vertex (laid_at F laid k).place) ≡ Some i)) e (number, put.here, same _ ∙ found)

before_as : (o o' p p' : Origin) → o ≡ o' → p ≡ p' → IsBefore o p → IsBefore o' p'
before_as o o' p p' e f h = subst (λ (q : Origin). IsBefore o' q) f (subst (λ (q : Origin). IsBefore q p) e h)

-- the lists with one image more
module _ {A : Type 0} (F : OrderedField A) (origins : List Origin) (images : List (Pair A)) (o : Origin) (a : Pair A) (long : length origins ≡ length images) where
  pub longer : length (images ++ a ∷ []) ≡ length images + 1
  longer = length-append images (a ∷ [])

  pub longer_origins : length (origins ++ o ∷ []) ≡ length (images ++ a ∷ [])
  longer_origins = (let h : length (origins ++ o ∷ []) ≡ length origins + 1 = length-append origins (o ∷ []) in let k : length (images ++ a ∷ []) ≡ length images + 1 = longer in omega (arith, h, k, long))

  pub old_origin : (i : ℕ) → i < length images → origin_at (origins ++ o ∷ []) i ≡ origin_at origins i
  old_origin i less = let within : i < length origins = omega (arith, less, long) in get_or_append_left origins (o ∷ []) (record { vertex = 0; face = 0 }) i within

  pub new_origin : (i : ℕ) → i ≡ length images → origin_at (origins ++ o ∷ []) i ≡ o
  new_origin i e = ap (λ k. origin_at (origins ++ o ∷ []) k) (e ∙ sym long) ∙ get_or-append_seam origins o [] (record { vertex = 0; face = 0 })

  pub old_image : (i : ℕ) → i < length images → image_at F (images ++ a ∷ []) i ≡ image_at F images i
  old_image i less = get_or_append_left images (a ∷ []) (record { x = F.int (pos 0); y = F.int (pos 0) }) i less

  pub new_image : (i : ℕ) → i ≡ length images → image_at F (images ++ a ∷ []) i ≡ a
  new_image i e = ap (λ k. image_at F (images ++ a ∷ []) k) e ∙ get_or-append_seam images a [] (record { x = F.int (pos 0); y = F.int (pos 0) })

  pub old_number : (i v : ℕ) (b : Pair A) → IsNumberOf F origins images i v b → IsNumberOf F (origins ++ o ∷ []) (images ++ a ∷ []) i v b
  old_number i v b h = record {
    within = (let k : length (images ++ a ∷ []) ≡ length images + 1 = longer in let l : i < length images = h.within in omega (arith, k, l));
    vertex = ap (λ (q : Origin). q.vertex) (old_origin i h.within) ∙ h.vertex;
    place = old_image i h.within ∙ h.place;
  }

  pub new_number : (i v : ℕ) (b : Pair A) → i ≡ length images → v ≡ o.vertex → b ≡ a → IsNumberOf F (origins ++ o ∷ []) (images ++ a ∷ []) i v b
  new_number i v b e same place = record {
    within = (let k : length (images ++ a ∷ []) ≡ length images + 1 = longer in omega (arith, k, e));
    vertex = ap (λ (q : Origin). q.vertex) (new_origin i e) ∙ sym same;
    place = new_image i e ∙ sym place;
  }

module _ {A : Type 0} (F : OrderedField A) (parts : A → Parts) (once : (x y : A) → parts x ≡ parts y → x ≡ y) (laid : List (LaidVertex A)) (sorted : AreInOrder F laid)
    (n : ℕ) (within : n < length laid) (known known' : PlaceKey → Option ℕ) (numbers numbers' : ℕ × ℕ → Option ℕ) (origins : List Origin) (images : List (Pair A)) (number : ℕ)
    (put : Puts laid_order numbers numbers' ((laid_at F laid n).vertex, (laid_at F laid n).face) number) (before : AreNumberedTo F laid parts n known numbers origins images)
    (absent : known (place_key parts (laid_at F laid n).vertex (laid_at F laid n).place) ≡ None) (next : number ≡ length images)
    (added : Puts place_order known known' (place_key parts (laid_at F laid n).vertex (laid_at F laid n).place) number) where
  abbrev now : LaidVertex A
  now = laid_at F laid n

  abbrev origins' : List Origin
  origins' = origins ++ origin_of (laid_at F laid n) ∷ []

  abbrev images' : List (Pair A)
  images' = images ++ (laid_at F laid n).place ∷ []

  -- no earlier laid vertex is the same vertex at the same place
  new_place : (j : ℕ) → j < n → (laid_at F laid j).vertex ≡ now.vertex → (laid_at F laid j).place ≡ now.place → ⊥
  new_place j low v a =
      let had = before.all j low in
      let here : known (place_key parts (laid_at F laid j).vertex (laid_at F laid j).place) ≡ Some had.0 = had.2 in
      let same : place_key parts (laid_at F laid j).vertex (laid_at F laid j).place ≡ place_key parts now.vertex now.place
      = ap (λ u. place_key parts u (laid_at F laid j).place) v ∙ ap (λ (b : Pair A). place_key parts now.vertex b) a in
      let none : known (place_key parts (laid_at F laid j).vertex (laid_at F laid j).place) ≡ None = ap known same ∙ absent in
      absurd (let clash : Some had.0 ≡ None = sym here ∙ none in cc)

  known_at : (v : ℕ) (a : Pair A) (i : ℕ) → known' (place_key parts v a) ≡ Some i → (place_key parts v a ≡ place_key parts now.vertex now.place) ⊎ (known' (place_key parts v a) ≡ known (place_key parts v a))
      → IsNumberOf F origins' images' i v a
  known_at v a i e (inl same) =
      let both = same_place parts once v now.vertex a now.place same in
      let two : Some number ≡ Some i = sym added.here ∙ ap known' (sym same) ∙ e in
      let one : number ≡ i = cc in
      new_number F origins images (origin_of now) now.place before.long i v a (sym one ∙ next) both.0 both.1
  known_at v a i e (inr stays) = old_number F origins images (origin_of now) now.place before.long i v a (before.known_is v a i (sym stays ∙ e))

  from_at : (i : ℕ) → i < length images' → (i < length images) ⊎ (i ≡ length images) → (j : ℕ) × (j < n + 1) × (origin_of (laid_at F laid j) ≡ origin_at origins' i) × ((laid_at F laid j).place ≡ image_at F images' i)
  from_at i less (inl old) =
      let source = before.from i old in
      let low : source.0 < n = source.1 in
      (source.0, omega (arith, low), source.2 ∙ sym (old_origin F origins images (origin_of now) now.place before.long i old), source.3 ∙ sym (old_image F origins images (origin_of now) now.place before.long i old))
  from_at i less (inr new) =
      (n, omega arith, sym (new_origin F origins images (origin_of now) now.place before.long i new), sym (new_image F origins images (origin_of now) now.place before.long i new))

  least_at : (i j : ℕ) → (i < length images) ⊎ (i ≡ length images) → (j < n) ⊎ (j ≡ n) → (laid_at F laid j).vertex ≡ (origin_at origins' i).vertex → (laid_at F laid j).place ≡ image_at F images' i
      → (origin_at origins' i).face ≤ (laid_at F laid j).face
  least_at i j (inl old) at v a =
      let o : origin_at origins' i ≡ origin_at origins i = old_origin F origins images (origin_of now) now.place before.long i old in
      let vertex : (laid_at F laid j).vertex ≡ (origin_at origins i).vertex = v ∙ ap (λ (q : Origin). q.vertex) o in
      let place : (laid_at F laid j).place ≡ image_at F images i = a ∙ old_image F origins images (origin_of now) now.place before.long i old in
      let bound : (origin_at origins i).face ≤ (laid_at F laid j).face
      = elim at [
        | inl low ↦ before.least i j old low vertex place
        | inr last ↦ subst (λ k. (laid_at F laid k).vertex ≡ (origin_at origins i).vertex → (origin_at origins i).face ≤ (laid_at F laid k).face) (sym last)
            (least_now F parts once laid sorted n within known known' numbers numbers' origins images number put before i old) vertex
      ] in
      subst (λ (q : Origin). q.face ≤ (laid_at F laid j).face) (sym o) bound
  least_at i j (inr new) (inl low) v a =
      let o : origin_at origins' i ≡ origin_of now = new_origin F origins images (origin_of now) now.place before.long i new in
      absurd (new_place j low (v ∙ ap (λ (q : Origin). q.vertex) o) (a ∙ new_image F origins images (origin_of now) now.place before.long i new))
  least_at i j (inr new) (inr last) v a =
      let o : origin_at origins' i ≡ origin_of now = new_origin F origins images (origin_of now) now.place before.long i new in
      let same : (origin_at origins' i).face ≡ now.face = ap (λ (q : Origin). q.face) o in
      let here : (laid_at F laid j).face ≡ now.face = ap (λ k. (laid_at F laid k).face) last in
      omega (arith, same, here)

  all_at : (j : ℕ) → (j < n) ⊎ (n ≡ j) → (i : ℕ) × (numbers' ((laid_at F laid j).vertex, (laid_at F laid j).face) ≡ Some i) × (known' (place_key parts (laid_at F laid j).vertex (laid_at F laid j).place) ≡ Some i)
  all_at j (inl low) =
      let had = before.all j low in
      let key = place_key parts (laid_at F laid j).vertex (laid_at F laid j).place in
      let stays : known' key ≡ known key = put_apart place_order place_exact known known' (place_key parts now.vertex now.place) number added key
      (λ e. let both = same_place parts once (laid_at F laid j).vertex now.vertex (laid_at F laid j).place now.place e in new_place j low both.0 both.1) in
      (had.0, kept_number F parts once laid sorted n within known known' numbers numbers' origins images number put before j had.0 low had.1, stays ∙ had.2)
  all_at j (inr last) =
      subst (λ k. (i : ℕ) × (numbers' ((laid_at F laid k).vertex, (laid_at F laid k).face) ≡ Some i) × (known' (place_key parts (laid_at F laid k).vertex (laid_at F laid k).place) ≡ Some i)) last (number, put.here, added.here)

  in_order_at : (i j : ℕ) → i < j → (j < length images) ⊎ (j ≡ length images) → IsBefore (origin_at origins' i) (origin_at origins' j)
  in_order_at i j low (inl old) =
      let first : i < length images = omega (arith, low, old) in
      before_as (origin_at origins i) (origin_at origins' i) (origin_at origins j) (origin_at origins' j) (sym (old_origin F origins images (origin_of now) now.place before.long i first)) (sym (old_origin F origins images (origin_of now) now.place before.long j old))
      (before.in_order i j low old)
  in_order_at i j low (inr new) =
      let first : i < length images = omega (arith, low, new) in
      let source = before.from i first in
      before_as (origin_of (laid_at F laid source.0)) (origin_at origins' i) (origin_of now) (origin_at origins' j)
      (source.2 ∙ sym (old_origin F origins images (origin_of now) now.place before.long i first)) (sym (new_origin F origins images (origin_of now) now.place before.long j new)) (sorted source.0 n source.1 within)

  below_or_at : (i m : ℕ) → i < m + 1 → (i < m) ⊎ (i ≡ m)
  below_or_at i m less = elim (cases_lt i m) [ inl low ↦ inl low | inr high ↦ inr (omega arith) ]

  or_last : (i : ℕ) → i < length images' → (i < length images) ⊎ (i ≡ length images)
  or_last i less = let k : length images' ≡ length images + 1 = longer F origins images (origin_of now) now.place before.long in below_or_at i (length images) (omega (arith, less, k))

  pub added_more : AreNumberedTo F laid parts (n + 1) known' numbers' origins' images'
  added_more = record {
    long = longer_origins F origins images (origin_of now) now.place before.long;
    few = (let few : length images ≤ n = before.few in let k : length images' ≡ length images + 1 = longer F origins images (origin_of now) now.place before.long in omega (arith, few, k));
    known_is = λ v a i e. known_at v a i e (put_only place_order place_exact known known' (place_key parts now.vertex now.place) number added (place_key parts v a));
    from = λ i less. from_at i less (or_last i less);
    least = λ i j less low v a. least_at i j (or_last i less) (below_or_at j n low) v a;
    all = λ j low. all_at j (elim (cases_lt j n) [ inl earlier ↦ inl earlier | inr high ↦ inr (omega arith) ]);
    in_order = λ i j low less. in_order_at i j low (or_last j less);
  }

-- .. and all have been numbered
pub all_numbered : {A : Type 0} (F : OrderedField A) (parts : A → Parts) (laid : List (LaidVertex A)) (known : PlaceKey → Option ℕ) (numbers : ℕ × ℕ → Option ℕ) (origins : List Origin) (images : List (Pair A))
    → AreNumberedTo F laid parts (length laid) known numbers origins images → AreNumbered F laid numbers origins images
all_numbered F parts laid known numbers origins images done = record {
  long = done.long;
  few = done.few;
  from = done.from;
  least = done.least;
  all = λ j less. (let had = done.all j less in (had.0, had.1, done.known_is (laid_at F laid j).vertex (laid_at F laid j).place had.0 had.2));
  in_order = done.in_order;
}

-- one laid vertex more, whether its place is new or not
pub numbered_more : {A : Type 0} (F : OrderedField A) (parts : A → Parts) → ((x y : A) → parts x ≡ parts y → x ≡ y) → (laid : List (LaidVertex A)) → AreInOrder F laid → (n : ℕ) → n < length laid
    → (at : LaidVertex A) → at ≡ laid_at F laid n → (known known' : PlaceKey → Option ℕ) (numbers numbers' : ℕ × ℕ → Option ℕ) (origins origins' : List Origin) (images images' : List (Pair A)) (number : ℕ)
    → IsKnown parts at known known' origins origins' images images' number ⊎ IsAdded parts at known known' origins origins' images images' number
    → Puts laid_order numbers numbers' (at.vertex, at.face) number → AreNumberedTo F laid parts n known numbers origins images → AreNumberedTo F laid parts (n + 1) known' numbers' origins' images'
numbered_more {A} F parts once laid sorted n within at is known known' numbers numbers' origins origins' images images' number step put before = by (subst (λ (a : LaidVertex A). IsKnown parts a known known' origins origins' images images' number ⊎ IsAdded parts a known known' origins origins' images images' number) is step)
  where
    put' : Puts laid_order numbers numbers' ((laid_at F laid n).vertex, (laid_at F laid n).face) number
    put' = subst (λ (a : LaidVertex A). Puts laid_order numbers numbers' (a.vertex, a.face) number) is put

    moved : (os : List Origin) (is : List (Pair A)) → origins' ≡ os → images' ≡ is → AreNumberedTo F laid parts (n + 1) known' numbers' os is → AreNumberedTo F laid parts (n + 1) known' numbers' origins' images'
    moved os is eo ei h = subst (λ (x : List Origin). AreNumberedTo F laid parts (n + 1) known' numbers' x images') (sym eo) (subst (λ (x : List (Pair A)). AreNumberedTo F laid parts (n + 1) known' numbers' os x) (sym ei) h)

    by : IsKnown parts (laid_at F laid n) known known' origins origins' images images' number ⊎ IsAdded parts (laid_at F laid n) known known' origins origins' images images' number → AreNumberedTo F laid parts (n + 1) known' numbers' origins' images'
    by (inl h) = moved origins images h.same_origins h.same_images (known_more F parts once laid sorted n within known known' numbers numbers' origins images number put' before h.found h.same_known)
    by (inr h) = moved (origins ++ origin_of (laid_at F laid n) ∷ []) (images ++ (laid_at F laid n).place ∷ []) h.more_origins h.more_images
        (added_more F parts once laid sorted n within known known' numbers numbers' origins images number put' before h.absent h.number h.put)
