-- what a frame inherits, key by key
use Rattle.std.proofs.Common.{◌≡◌, ◌↔◌, ℕ, List, [], ◌∷◌, ◌++◌, map, filter, cond, refl, sym, ◌∙◌, ap, subst, Bool, true, false, Option, Some, None, ◌<◌, arith}
use Rattle.std.specs.Prelude.{not, if◌then◌else◌, AllPairs, ◌≢◌}
use Rattle.std.specs.List.{AllByRecursion, IsDistinct}
use Rattle.std.specs.Str.{bytes_eq}
use Rattle.std.proofs.lemmas.Bool.{false≢true}
use Rattle.std.proofs.lemmas.Map.Keys.{IsDistinct-head, IsDistinct-tail}
use Rattle.std.proofs.lemmas.Map.Made.{IsDistinct-from_AllPairs}
use Rattle.std.proofs.lemmas.Option.{same_Some}
use Rattle.std.proofs.lemmas.Slice.Eq.{bytes_eq-Decides}
use Rattle.indexmap.specs.IndexMap.{insert_entry, insert_all}
use Rattle.fold_keys.specs.Along.{or_else}
use Rattle.fold_keys.specs.Writable.{AreWritable, HaveWritable}
use Rattle.fold_keys.specs.declared.value.Entry.{Entry}
use Rattle.fold_keys.specs.declared.value.Frame.{Frame}
use Rattle.fold_keys.specs.declared.value.Value.{Value}
use Rattle.fold_frames.specs.Answers.{AreInherited}
use Rattle.fold_frames.specs.Inherits.{is_left_out, pairs, given, entries_at, inherited, HasInEffect}
use Rattle.fold_frames.specs.Parents.{value_at, parent_at, IsPath}
use Rattle.fold_frames.proofs.Found.{value_head, value_tail}
use Rattle.fold_frames.proofs.Kept.{at_each, apart}
use Rattle.fold_keys.proofs.Entries.{all_mapped}

abbrev Pair : Type 0
Pair = List ℕ × Value

same : (a b : List ℕ) → bytes_eq a b ≡ true → a ≡ b
same a b h = (bytes_eq-Decides a b).0 h

equal : (a b : List ℕ) → a ≡ b → bytes_eq a b ≡ true
equal a b h = (bytes_eq-Decides a b).1 h

-- the value of the first pair with the key
abbrev value_in : List Pair → List ℕ → Option Value
value_in [] key = None
value_in (p ∷ ps) key = if bytes_eq p.0 key then Some p.1 else value_in ps key

in_pairs : (es : List Entry) (key : List ℕ) → value_in (pairs es) key ≡ value_at es key
in_pairs [] key = refl
in_pairs (e ∷ es) key = at (bytes_eq e.key key) refl (in_pairs es key)
  where
    at : (b : Bool) → bytes_eq e.key key ≡ b → value_in (pairs es) key ≡ value_at es key
        → value_in (pairs (e ∷ es)) key ≡ value_at (e ∷ es) key
    at true h rest =
        ap (λ b. if b then Some e.value else value_in (pairs es) key) h ∙ sym (value_head e es key h)
    at false h rest =
        ap (λ b. if b then Some e.value else value_in (pairs es) key) h ∙ rest
        ∙ sym (value_tail e es key h)

-- ---- one pair more

in_insert : (es : List Pair) (k : List ℕ) (v : Value) (key : List ℕ)
    → value_in (insert_entry bytes_eq es k v) key
    ≡ (if bytes_eq k key then Some v else value_in es key)
in_insert [] k v key = refl
in_insert (e ∷ es) k v key = at (bytes_eq k e.0) refl (in_insert es k v key)
  where
    inserted : Bool → List Pair
    inserted b = if b then (e.0, v) ∷ es else e ∷ insert_entry bytes_eq es k v

    after : Bool → Option Value → Option Value
    after b rest = if b then Some e.1 else rest

    swap : (b c : Bool) → bytes_eq e.0 key ≡ b → bytes_eq k key ≡ c → bytes_eq k e.0 ≡ false
        → after b (if c then Some v else value_in es key)
        ≡ (if c then Some v else after b (value_in es key))
    swap false c p q other = refl
    swap true false p q other = refl
    swap true true p q other =
        absurd (false≢true (sym other ∙ equal k e.0 (same k key q ∙ sym (same e.0 key p))))

    at : (b : Bool) → bytes_eq k e.0 ≡ b
        → value_in (insert_entry bytes_eq es k v) key
        ≡ (if bytes_eq k key then Some v else value_in es key)
        → value_in (insert_entry bytes_eq (e ∷ es) k v) key
        ≡ (if bytes_eq k key then Some v else value_in (e ∷ es) key)
    at true h rest =
        ap (λ b. value_in (inserted b) key) h
        ∙ ap (λ x. if bytes_eq x key then Some v else value_in es key) (sym (same k e.0 h))
        ∙ inner (bytes_eq k key) refl
      where
        inner : (c : Bool) → bytes_eq k key ≡ c
            → (if c then Some v else value_in es key)
            ≡ (if c then Some v else value_in (e ∷ es) key)
        inner true q = refl
        inner false q =
            let apart : bytes_eq e.0 key ≡ false =
            ap (λ x. bytes_eq x key) (sym (same k e.0 h)) ∙ q in
            sym (ap (λ b. after b (value_in es key)) apart)
    at false h rest =
        ap (λ b. value_in (inserted b) key) h
        ∙ ap (after (bytes_eq e.0 key)) rest
        ∙ swap (bytes_eq e.0 key) (bytes_eq k key) refl refl h

-- ---- the entries of a frame

no_value : (xs : List Entry) (key : List ℕ)
    → AllByRecursion (λ y. bytes_eq key y ≡ false) (map (λ e. e.key) xs) → value_at xs key ≡ None
no_value [] key all = refl
no_value (x ∷ xs) key all =
    value_tail x xs key (apart key x.key all.0) ∙ no_value xs key all.1

-- what is known of a key after the entries were put to others
abbrev by_entry : Bool → Option Value → Option Value → Option Value
by_entry out own before = if out then before else or_else own before

same_either : (b : Bool) (before : Option Value) → before ≡ by_entry b None before
same_either true before = refl
same_either false before = refl

in_all : (xs : List Entry) (es : List Pair) (key : List ℕ) → IsDistinct bytes_eq (map (λ e. e.key) xs)
    → value_in (insert_all bytes_eq es (given xs)) key
    ≡ by_entry (is_left_out key) (value_at xs key) (value_in es key)
in_all [] es key distinct = same_either (is_left_out key) (value_in es key)
in_all (x ∷ xs) es key distinct =
    at (is_left_out x.key) refl
    (λ fs. in_all xs fs key (IsDistinct-tail bytes_eq x.key (map (λ e. e.key) xs) distinct))
  where
    before : Option Value
    before = value_in es key

    put : List Pair
    put = insert_entry bytes_eq es x.key x.value

    gave : Bool → List Pair
    gave b =
        pairs (cond (not b) (x ∷ filter (λ e. not (is_left_out e.key)) xs)
        (filter (λ e. not (is_left_out e.key)) xs))

    Rest : Type 0
    Rest =
        (fs : List Pair) → value_in (insert_all bytes_eq fs (given xs)) key
        ≡ by_entry (is_left_out key) (value_at xs key) (value_in fs key)

    out : (b : Bool) → bytes_eq x.key key ≡ b → is_left_out x.key ≡ true
        → by_entry (is_left_out key) (value_at xs key) before
        ≡ by_entry (is_left_out key) (value_at (x ∷ xs) key) before
    out true q h =
        let left : is_left_out key ≡ true = ap is_left_out (sym (same x.key key q)) ∙ h in
        ap (λ b. by_entry b (value_at xs key) before) left
        ∙ sym (ap (λ b. by_entry b (value_at (x ∷ xs) key) before) left)
    out false q h = ap (λ o. by_entry (is_left_out key) o before) (sym (value_tail x xs key q))

    own : (b : Bool) → bytes_eq x.key key ≡ b → is_left_out x.key ≡ false
        → by_entry (is_left_out key) (value_at xs key) (if b then Some x.value else before)
        ≡ by_entry (is_left_out key) (value_at (x ∷ xs) key) before
    own true q h =
        let kept : is_left_out key ≡ false = ap is_left_out (sym (same x.key key q)) ∙ h in
        let none : value_at xs key ≡ None =
        ap (value_at xs) (sym (same x.key key q))
        ∙ no_value xs x.key (IsDistinct-head bytes_eq x.key (map (λ e. e.key) xs) distinct) in
        ap (λ b. by_entry b (value_at xs key) (Some x.value)) kept
        ∙ ap (λ o. or_else o (Some x.value)) none
        ∙ sym (ap (λ b. by_entry b (value_at (x ∷ xs) key) before) kept
        ∙ ap (λ o. or_else o before) (value_head x xs key q))
    own false q h = ap (λ o. by_entry (is_left_out key) o before) (sym (value_tail x xs key q))

    at : (b : Bool) → is_left_out x.key ≡ b → Rest
        → value_in (insert_all bytes_eq es (given (x ∷ xs))) key
        ≡ by_entry (is_left_out key) (value_at (x ∷ xs) key) before
    at true h rest =
        ap (λ b. value_in (insert_all bytes_eq es (gave b)) key) h ∙ rest es
        ∙ out (bytes_eq x.key key) refl h
    at false h rest =
        ap (λ b. value_in (insert_all bytes_eq es (gave b)) key) h ∙ rest put
        ∙ ap (by_entry (is_left_out key) (value_at xs key)) (in_insert es x.key x.value key)
        ∙ own (bytes_eq x.key key) refl h

distinct_at : (frames : List Frame) → HaveWritable frames → (f : ℕ)
    → IsDistinct bytes_eq (map (λ e. e.key) (entries_at frames f))
distinct_at [] have f = absurd have
distinct_at (first ∷ others) have f =
    at_each (λ es. IsDistinct bytes_eq (map (λ e. e.key) es)) (of [] (λ i j d less within. absurd (none j within)))
    (first ∷ others) (
      of first.entries have.0.distinct,
      all_mapped (λ f. AreWritable false f.entries)
          (λ f. IsDistinct bytes_eq (map (λ e. e.key) f.entries)) others
          (λ f are. of f.entries are.distinct) have.1,
    ) f
  where
    of : (es : List Entry) → AllPairs (λ a b. a ≢ b) (map (λ e. e.key) es)
        → IsDistinct bytes_eq (map (λ e. e.key) es)
    of es distinct = IsDistinct-from_AllPairs bytes_eq-Decides (map (λ e. e.key) es) distinct

    none : (j : ℕ) → j < 0 → ⊥
    none j h = omega (arith, h)

-- ---- along the way

module _ (frames : List Frame) (have : HaveWritable frames) (key : List ℕ) where
  own_at : ℕ → Option Value
  own_at f = value_at (entries_at frames f) key

  step : (f : ℕ) (way : List ℕ) → value_in (inherited frames (f ∷ way)) key
      ≡ by_entry (is_left_out key) (value_at (entries_at frames f) key)
      (value_in (inherited frames way) key)
  step f way = in_all (entries_at frames f) (inherited frames way) key (distinct_at frames have f)

  from_way : (k : ℕ) (path : List ℕ) (last : ℕ) (value : Value) → IsPath frames k path last
      → value_in (inherited frames (path ++ last ∷ [])) key ≡ Some value
      → HasInEffect frames k key value
  from_way k [] last value is e =
      at (is_left_out key) refl (value_at (entries_at frames last) key) refl
    where
      at : (b : Bool) → is_left_out key ≡ b → (o : Option Value)
          → value_at (entries_at frames last) key ≡ o → HasInEffect frames k key value
      at b h o own =
          let found : by_entry b o None ≡ Some value =
          sym (step last [] ∙ ap (λ c. by_entry c (value_at (entries_at frames last) key) None) h
          ∙ ap (λ x. by_entry b x None) own) ∙ e in
          given_by b h o own found
        where
          given_by : (b : Bool) → is_left_out key ≡ b → (o : Option Value)
              → value_at (entries_at frames last) key ≡ o → by_entry b o None ≡ Some value
              → HasInEffect frames k key value
          given_by true h o own found = cc
          given_by false h None own found = cc
          given_by false h (Some v) own found = ([], last, is, own ∙ found, tt, h)
  from_way k (f ∷ path) last value is e =
      at (is_left_out key) refl (value_at (entries_at frames f) key) refl
      (from_way is.1 path last value is.3)
    where
      rest : Option Value
      rest = value_in (inherited frames (path ++ last ∷ [])) key

      at : (b : Bool) → is_left_out key ≡ b → (o : Option Value)
          → value_at (entries_at frames f) key ≡ o
          → (rest ≡ Some value → HasInEffect frames is.1 key value) → HasInEffect frames k key value
      at b h o own later =
          let found : by_entry b o rest ≡ Some value =
          sym (step f (path ++ last ∷ [])
          ∙ ap (λ c. by_entry c (value_at (entries_at frames f) key) rest) h
          ∙ ap (λ x. by_entry b x rest) own) ∙ e in
          given_by b h o own found later
        where
          given_by : (b : Bool) → is_left_out key ≡ b → (o : Option Value)
              → value_at (entries_at frames f) key ≡ o → by_entry b o rest ≡ Some value
              → (rest ≡ Some value → HasInEffect frames is.1 key value)
              → HasInEffect frames k key value
          given_by true h o own found later =
              let deeper = later found in absurd (false≢true (sym deeper.5 ∙ h))
          given_by false h None own found later =
              let deeper = later found in (
                f ∷ deeper.0,
                deeper.1,
                (is.0, is.1, is.2, deeper.2),
                deeper.3,
                (own, deeper.4),
                deeper.5,
              )
          given_by false h (Some v) own found later =
              ([], f, sym is.0, own ∙ found, tt, h)

  none_next : (f n : ℕ) → parent_at frames f ≡ None → parent_at frames f ≡ Some n → ⊥
  none_next f n a b = let e : None ≡ Some n = sym a ∙ b in cc

  own_value : (f : ℕ) (way : List ℕ) (value : Value) → is_left_out key ≡ false
      → value_at (entries_at frames f) key ≡ Some value
      → value_in (inherited frames (f ∷ way)) key ≡ Some value
  own_value f way value kept own =
      step f way
      ∙ ap (λ b. by_entry b (value_at (entries_at frames f) key) (value_in (inherited frames way) key)) kept
      ∙ ap (λ o. or_else o (value_in (inherited frames way) key)) own

  later_value : (f : ℕ) (way : List ℕ) → is_left_out key ≡ false
      → value_at (entries_at frames f) key ≡ None
      → value_in (inherited frames (f ∷ way)) key ≡ value_in (inherited frames way) key
  later_value f way kept own =
      step f way
      ∙ ap (λ b. by_entry b (value_at (entries_at frames f) key) (value_in (inherited frames way) key)) kept
      ∙ ap (λ o. or_else o (value_in (inherited frames way) key)) own

  to_way : (k : ℕ) (path : List ℕ) (last : ℕ) (value : Value) → IsPath frames k path last
      → parent_at frames last ≡ None → (front : List ℕ) (f : ℕ) → IsPath frames k front f
      → value_at (entries_at frames f) key ≡ Some value
      → AllByRecursion (λ g. value_at (entries_at frames g) key ≡ None) front
      → is_left_out key ≡ false
      → value_in (inherited frames (path ++ last ∷ [])) key ≡ Some value
  to_way k [] last value is end [] f to own before kept =
      own_value last [] value kept
      (ap (λ g. value_at (entries_at frames g) key) (sym is ∙ to) ∙ own)
  to_way k [] last value is end (x ∷ front) f to own before kept =
      absurd (none_next k to.1 (ap (parent_at frames) is ∙ end) to.2)
  to_way k (y ∷ path) last value is end [] f to own before kept =
      own_value y (path ++ last ∷ []) value kept
      (ap (λ g. value_at (entries_at frames g) key) (is.0 ∙ to) ∙ own)
  to_way k (y ∷ path) last value is end (x ∷ front) f to own before kept =
      let next : to.1 ≡ is.1 = same_Some to.1 is.1 (sym to.2 ∙ is.2) in
      later_value y (path ++ last ∷ []) kept
      (ap (λ g. value_at (entries_at frames g) key) (is.0 ∙ sym to.0) ∙ before.0)
      ∙ to_way is.1 path last value is.3 end front f (subst (λ n. IsPath frames n front f) next to.3)
      own before.1 kept

pub by_key : (frames : List Frame) → HaveWritable frames → (k : ℕ) (entries : List Entry)
    → AreInherited frames k entries → (key : List ℕ) (value : Value)
    → (value_at entries key ≡ Some value) ↔ HasInEffect frames k key value
by_key frames have k entries are key value =
    let way = are.1 in
    let is : value_at entries key ≡ value_in (inherited frames (way.0 ++ way.1 ∷ [])) key =
    sym (in_pairs entries key) ∙ ap (λ ps. value_in ps key) (are.2 ∙ ap (inherited frames) way.2) in (
      λ e. from_way frames have key k way.0 way.1 value way.3 (sym is ∙ e),
      λ h. is ∙ to_way frames have key k way.0 way.1 value way.3 way.5 h.0 h.1 h.2 h.3 h.4 h.5,
    )
