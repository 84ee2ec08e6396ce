-- what a frame inherits can be written, key by key
use Rattle.std.proofs.Common.{◌≡◌, ℕ, suc, List, [], ◌∷◌, ◌++◌, map, filter, cond, refl, sym, ◌∙◌, ap, subst, Bool, true, false, Some}
use Rattle.std.specs.Prelude.{not, codes, if◌then◌else◌, ◌||◌, ◌&&◌}
use Rattle.std.specs.List.{AllByRecursion, IsDistinct, list_all, starts_with}
use Rattle.std.specs.Map.{keys_of}
use Rattle.std.specs.Str.{bytes_eq}
use Rattle.std.proofs.Math.Dec.{eqb}
use Rattle.std.proofs.lemmas.Bool.{false≢true}
use Rattle.std.proofs.lemmas.Map.Keys.{IsDistinct-cons, IsDistinct-head, IsDistinct-tail}
use Rattle.std.proofs.lemmas.Map.Made.{AllPairs-from_IsDistinct}
use Rattle.std.proofs.lemmas.Slice.Eq.{bytes_eq-Decides}
use Rattle.indexmap.specs.IndexMap.{insert_entry, insert_all}
use Rattle.fold_keys.specs.Shape.{kind_by}
use Rattle.fold_keys.specs.Table.{Row, kind_in, file_rows, frame_rows}
use Rattle.fold_keys.specs.Trees.{tree_of_value}
use Rattle.fold_keys.specs.Writable.{IsOfKind, HasNoMisfit, IsWritableEntry, AreWritable, HaveWritable}
use Rattle.fold_keys.specs.declared.value.Entry.{Entry}
use Rattle.fold_keys.specs.declared.value.Frame.{Frame}
use Rattle.fold_keys.specs.declared.value.Value.{Value}
use Rattle.fold_keys.proofs.Entries.{all_mapped}
use Rattle.fold_frames.specs.Inherits.{is_left_out, pairs, given, entries_at, inherited}
use Rattle.fold_frames.specs.Effects.{AreInEffect}

abbrev Pair : Type 0
Pair = List ℕ × Value

-- ---- keys that aren't of the file

abbrev is_of_file : List ℕ → Bool
is_of_file key = starts_with eqb key (codes "file_")

or_left : (a b : Bool) → (a || b) ≡ false → a ≡ false
or_left false b h = refl
or_left true b h = h

-- the rows of another table don't matter where each of them is of the file
kind_after : (rows others : List Row) (key : List ℕ) → list_all (λ r. is_of_file r.key) rows ≡ true
    → is_of_file key ≡ false → kind_in (rows ++ others) key ≡ kind_in others key
kind_after [] others key all kept = refl
kind_after (r ∷ rows) others key all kept =
    let each = both (is_of_file r.key) (list_all (λ r. is_of_file r.key) rows) all in
    at (bytes_eq key r.key) refl each.0 (kind_after rows others key each.1 kept)
  where
    both : (a b : Bool) → (a && b) ≡ true → (a ≡ true) × (b ≡ true)
    both true b h = (refl, h)
    both false b h = absurd (false≢true h)

    at : (b : Bool) → bytes_eq key r.key ≡ b
        → is_of_file r.key ≡ true → kind_in (rows ++ others) key ≡ kind_in others key
        → (if bytes_eq key r.key then Some r.kind else kind_in (rows ++ others) key)
        ≡ kind_in others key
    at true h of_file rest =
        let same : key ≡ r.key = (bytes_eq-Decides key r.key).0 h in
        absurd (false≢true (sym kept ∙ ap is_of_file same ∙ of_file))
    at false h of_file rest =
        ap (λ b. if b then Some r.kind else kind_in (rows ++ others) key) h ∙ rest

same_kind : (key : List ℕ) → is_left_out key ≡ false → kind_by true key ≡ kind_by false key
same_kind key kept =
    kind_after file_rows frame_rows key refl (or_left (is_of_file key) _ kept)

-- an entry of another frame fits in the first, if its key isn't left out
moved : (e : Entry) → is_left_out e.key ≡ false → IsWritableEntry false e → IsWritableEntry true e
moved e kept is =
    let same = same_kind e.key kept in
    record {
      fits = record {
        of_kind = subst (λ k. IsOfKind k e.value) (sym same) is.fits.of_kind;
        no_misfit = subst (λ k. HasNoMisfit k (tree_of_value [] e.value)) (sym same) is.fits.no_misfit;
      };
      proper = is.proper;
      lists = is.lists;
      version = λ kind. is.version (sym same ∙ kind);
    }

-- ---- what is so of each pair

record IsKept (p : Pair) : Type 0 where
  writable : IsWritableEntry true (record { key = p.0; value = p.1 })
  kept : is_left_out p.0 ≡ false

given_kept : (P : Entry → Type 0) → ((e : Entry) → is_left_out e.key ≡ false → P e → IsWritableEntry true e)
    → (es : List Entry) → AllByRecursion P es → AllByRecursion IsKept (given es)
given_kept P turn [] all = tt
given_kept P turn (e ∷ es) all = at (is_left_out e.key) refl (given_kept P turn es all.1)
  where
    at : (b : Bool) → is_left_out e.key ≡ b → AllByRecursion IsKept (given es)
        → AllByRecursion IsKept (given (e ∷ es))
    at true h rest =
        subst (λ b. AllByRecursion IsKept (pairs (cond (not b) (e ∷ filter (λ e. not (is_left_out e.key)) es)
        (filter (λ e. not (is_left_out e.key)) es)))) (sym h) rest
    at false h rest =
        subst (λ b. AllByRecursion IsKept (pairs (cond (not b) (e ∷ filter (λ e. not (is_left_out e.key)) es)
        (filter (λ e. not (is_left_out e.key)) es)))) (sym h)
        (record { writable = turn e h all.0; kept = h }, rest)

-- whichever frame of the file it is
pub at_each : (P : List Entry → Type 0) → P [] → (fs : List Frame) → AllByRecursion (λ f. P f.entries) fs
    → (i : ℕ) → P (entries_at fs i)
at_each P none [] all i = none
at_each P none (f ∷ fs) all Prim.Native.Nat.zero = all.0
at_each P none (f ∷ fs) all (suc i) = at_each P none fs all.1 i

given_at : (frames : List Frame) → HaveWritable frames → (f : ℕ)
    → AllByRecursion IsKept (given (entries_at frames f))
given_at [] have f = absurd have
given_at (first ∷ others) have f =
    at_each (λ es. AllByRecursion IsKept (given es)) tt (first ∷ others) (
      given_kept (IsWritableEntry true) (λ e kept is. is) first.entries have.0.each,
      all_mapped (λ f. AreWritable false f.entries) (λ f. AllByRecursion IsKept (given f.entries)) others
          (λ f are. given_kept (IsWritableEntry false) moved f.entries are.each) have.1,
    ) f

-- ---- putting pairs in keeps it

insert_kept : (es : List Pair) (k : List ℕ) (v : Value) → AllByRecursion IsKept es
    → IsKept (k, v) → AllByRecursion IsKept (insert_entry bytes_eq es k v)
insert_kept [] k v all is = (is, tt)
insert_kept (e ∷ es) k v all is = at (bytes_eq k e.0) refl (insert_kept es k v all.1 is)
  where
    at : (b : Bool) → bytes_eq k e.0 ≡ b → AllByRecursion IsKept (insert_entry bytes_eq es k v)
        → AllByRecursion IsKept (insert_entry bytes_eq (e ∷ es) k v)
    at true h rest =
        let same : k ≡ e.0 = (bytes_eq-Decides k e.0).0 h in
        subst (λ b. AllByRecursion IsKept (if b then (e.0, v) ∷ es else e ∷ insert_entry bytes_eq es k v))
        (sym h) (subst (λ x. IsKept (x, v)) same is, all.1)
    at false h rest =
        subst (λ b. AllByRecursion IsKept (if b then (e.0, v) ∷ es else e ∷ insert_entry bytes_eq es k v))
        (sym h) (all.0, rest)

insert_all_kept : (xs es : List Pair) → AllByRecursion IsKept es → AllByRecursion IsKept xs
    → AllByRecursion IsKept (insert_all bytes_eq es xs)
insert_all_kept [] es all more = all
insert_all_kept (x ∷ xs) es all more =
    insert_all_kept xs (insert_entry bytes_eq es x.0 x.1) (insert_kept es x.0 x.1 all more.0) more.1

inherited_kept : (frames : List Frame) → HaveWritable frames → (way : List ℕ)
    → AllByRecursion IsKept (inherited frames way)
inherited_kept frames have [] = tt
inherited_kept frames have (f ∷ way) =
    insert_all_kept (given (entries_at frames f)) (inherited frames way)
    (inherited_kept frames have way) (given_at frames have f)

-- ---- and keeps keys apart

key_insert : (P : List ℕ → Type 0) (es : List Pair) (k : List ℕ) (v : Value)
    → AllByRecursion P (keys_of es) → P k → AllByRecursion P (keys_of (insert_entry bytes_eq es k v))
key_insert P [] k v all is = (is, tt)
key_insert P (e ∷ es) k v all is = at (bytes_eq k e.0) refl (key_insert P es k v all.1 is)
  where
    at : (b : Bool) → bytes_eq k e.0 ≡ b → AllByRecursion P (keys_of (insert_entry bytes_eq es k v))
        → AllByRecursion P (keys_of (insert_entry bytes_eq (e ∷ es) k v))
    at true h rest =
        subst (λ b. AllByRecursion P (keys_of (if b then (e.0, v) ∷ es else e ∷ insert_entry bytes_eq es k v)))
        (sym h) all
    at false h rest =
        subst (λ b. AllByRecursion P (keys_of (if b then (e.0, v) ∷ es else e ∷ insert_entry bytes_eq es k v)))
        (sym h) (all.0, rest)

pub apart : (x y : List ℕ) → bytes_eq x y ≡ false → bytes_eq y x ≡ false
apart x y h = at (bytes_eq y x) refl
  where
    at : (b : Bool) → bytes_eq y x ≡ b → b ≡ false
    at false e = refl
    at true e =
        absurd (false≢true (sym h ∙ (bytes_eq-Decides x y).1 (sym ((bytes_eq-Decides y x).0 e))))

distinct_insert : (es : List Pair) (k : List ℕ) (v : Value) → IsDistinct bytes_eq (keys_of es)
    → IsDistinct bytes_eq (keys_of (insert_entry bytes_eq es k v))
distinct_insert [] k v all = IsDistinct-cons bytes_eq k [] tt all
distinct_insert (e ∷ es) k v all =
    at (bytes_eq k e.0) refl (distinct_insert es k v (IsDistinct-tail bytes_eq e.0 (keys_of es) all))
  where
    at : (b : Bool) → bytes_eq k e.0 ≡ b
        → IsDistinct bytes_eq (keys_of (insert_entry bytes_eq es k v))
        → IsDistinct bytes_eq (keys_of (insert_entry bytes_eq (e ∷ es) k v))
    at true h rest =
        subst (λ b. IsDistinct bytes_eq (keys_of (if b then (e.0, v) ∷ es else e ∷ insert_entry bytes_eq es k v)))
        (sym h) all
    at false h rest =
        subst (λ b. IsDistinct bytes_eq (keys_of (if b then (e.0, v) ∷ es else e ∷ insert_entry bytes_eq es k v)))
        (sym h)
        (IsDistinct-cons bytes_eq e.0 (keys_of (insert_entry bytes_eq es k v))
        (key_insert (λ y. bytes_eq e.0 y ≡ false) es k v (IsDistinct-head bytes_eq e.0 (keys_of es) all)
        (apart k e.0 h)) rest)

distinct_all : (xs es : List Pair) → IsDistinct bytes_eq (keys_of es)
    → IsDistinct bytes_eq (keys_of (insert_all bytes_eq es xs))
distinct_all [] es all = all
distinct_all (x ∷ xs) es all =
    distinct_all xs (insert_entry bytes_eq es x.0 x.1) (distinct_insert es x.0 x.1 all)

inherited_distinct : (frames : List Frame) (way : List ℕ)
    → IsDistinct bytes_eq (keys_of (inherited frames way))
unfolding IsDistinct
inherited_distinct frames [] = tt
inherited_distinct frames (f ∷ way) =
    distinct_all (given (entries_at frames f)) (inherited frames way) (inherited_distinct frames way)

-- ---- the entries

each_entry : (es : List Entry) → AllByRecursion IsKept (pairs es)
    → AllByRecursion (IsWritableEntry true) es × AllByRecursion (λ e. is_left_out e.key ≡ false) es
each_entry [] all = (tt, tt)
each_entry (e ∷ es) all =
    let rest = each_entry es all.1 in ((all.0.writable, rest.0), (all.0.kept, rest.1))

keys_of_pairs : (es : List Entry) → keys_of (pairs es) ≡ map (λ e. e.key) es
keys_of_pairs [] = refl
keys_of_pairs (e ∷ es) = ap (λ ks. e.key ∷ ks) (keys_of_pairs es)

pub in_effect : (frames : List Frame) (way : List ℕ) (entries : List Entry) → HaveWritable frames
    → pairs entries ≡ inherited frames way → AreInEffect entries
in_effect frames way entries have is =
    let each = each_entry entries (subst (AllByRecursion IsKept) (sym is) (inherited_kept frames have way)) in
    let distinct : IsDistinct bytes_eq (map (λ e. e.key) entries) =
    subst (IsDistinct bytes_eq) (ap keys_of (sym is) ∙ keys_of_pairs entries) (inherited_distinct frames way) in
    record {
      writable = record {
        distinct = AllPairs-from_IsDistinct bytes_eq-Decides (map (λ e. e.key) entries) distinct;
        each = each.0;
      };
      kept = each.1;
    }
