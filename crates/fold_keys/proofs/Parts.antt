-- a writable file by its frames and their entries
use Rattle.std.proofs.Common.{◌≡◌, inl, inr, ℕ, suc, ◌<◌, ◌≤◌, ◌^◌, List, [], ◌∷◌, map, length, refl, sym, ◌∙◌, ap, subst, Bool, true, false, Option, Some, None, arith}
use Rattle.std.specs.Prelude.{codes, option_and_then}
use Rattle.std.specs.List.{AllByRecursion}
use Rattle.std.proofs.lemmas.Option.{same_Some}
use Rattle.json_tree.specs.At.{value_of}
use Rattle.json_tree.specs.Tree.{nesting, nesting_of_member, largest, keys, AreDistinct, HasDistinctKeys, IsProperWithin}
use Rattle.json_tree.specs.declared.tree.Json.{Json, Json-F, out-Json}
use Rattle.json_tree.specs.declared.tree.Json.TheOpen as layers
use Rattle.json_tree.specs.declared.tree.Json.TheViews as trees
use Rattle.json_tree.specs.declared.tree.Member.{Member}
use Rattle.json_tree.proofs.Trees.{nesting-List, nesting-Object, nesting_of_member-is, every_keys, every_length, every-List, every-Object, every_member}
use Rattle.fold_keys.specs.Shape.{kind_by, items_of_layer, others_among}
use Rattle.fold_keys.specs.Short.{HasShortList, HasShortLists, HasShortNumber, HasShortSpec, HasShortSpecLayer}
use Rattle.fold_keys.specs.Trees.{tree_of_value, member_of, tree_of_frame, tree_of_file}
use Rattle.fold_keys.specs.Writable.{Fits, FitsOther, Fit, HavePlace, IsWritable, IsWritableEntry, AreWritable, HaveWritable, file_of}
use Rattle.fold_keys.specs.declared.kind.Kind.TheVariants as kinds
use Rattle.fold_keys.specs.declared.value.Entry.{Entry}
use Rattle.fold_keys.specs.declared.value.FoldFile.{FoldFile}
use Rattle.fold_keys.specs.declared.value.Frame.{Frame}
use Rattle.fold_keys.specs.declared.value.Value.{Value}
use Rattle.fold_keys.specs.declared.value.Value.TheVariants as values
use Rattle.fold_keys.proofs.Entries.{all_mapped, spec_key}
use Rattle.fold_keys.proofs.Files.{Good, is_list, all_both, value_all, good_values, good_items}
use Rattle.fold_keys.proofs.Written.{IsAside, place_of, no_others}

-- ---- nesting

largest_bounds : {X : Type 0} (f : X → ℕ) (xs : List X) (n : ℕ) → largest (map f xs) ≤ n
    → AllByRecursion (λ x. f x ≤ n) xs
largest_bounds f [] n h = tt
largest_bounds f (x ∷ xs) n h = (
  omega arith,
  largest_bounds f xs n (omega arith),
)

bounds_largest : {X : Type 0} (f : X → ℕ) (xs : List X) (n : ℕ)
    → AllByRecursion (λ x. f x ≤ n) xs → largest (map f xs) ≤ n
bounds_largest f [] n h = omega arith
bounds_largest f (x ∷ xs) n h =
    let rest = bounds_largest f xs n h.1 in
    let here = h.0 in omega (arith, rest, here)

-- ---- trees that nest so deep at most

record Sound (levels : ℕ) (tree : Json) : Type 0 where
  proper : IsProperWithin levels tree
  lists : HasShortLists tree

to_good : (n : ℕ) (tree : Json) → Sound n tree → Good tree
to_good n tree sound = record { distinct = sound.proper.distinct; short = sound.lists }

sound_of : (n : ℕ) (tree : Json) → Good tree → nesting tree ≤ n → Sound n tree
sound_of n tree good nested = record {
  proper = record { nested = nested; distinct = good.distinct };
  lists = good.short;
}

members_sound : (n : ℕ) (members : List Member) → Sound (suc n) (trees.Object members)
    → AllByRecursion (λ m. Sound n m.value) members
members_sound n members sound =
    let nests : largest (map nesting_of_member members) ≤ n =
    omega (arith, nesting-Object members, sound.proper.nested) in
    all_both (λ m. Good m.value) (λ m. nesting_of_member m ≤ n) (λ m. Sound n m.value) members
    (λ m good nested. sound_of n m.value good (omega (arith, nesting_of_member-is m, nested)))
    (good_values members (to_good (suc n) (trees.Object members) sound))
    (largest_bounds nesting_of_member members n nests)

items_sound : (n : ℕ) (items : List Json) → Sound (suc n) (trees.List items)
    → AllByRecursion (Sound n) items
items_sound n items sound =
    let nests : largest (map nesting items) ≤ n =
    omega (arith, nesting-List items, sound.proper.nested) in
    all_both Good (λ t. nesting t ≤ n) (Sound n) items (sound_of n)
    (good_items items (to_good (suc n) (trees.List items) sound))
    (largest_bounds nesting items n nests)

-- ---- from trees to entries

-- the place of the other frames is an empty list by itself
sound_alone : (others : List Json) (v : Value) → Sound 63 (tree_of_value others v)
    → Sound 63 (tree_of_value [] v)
sound_alone others values.Frames sound = record {
  proper = record {
    nested = omega (arith, nesting-List []);
    distinct = every-List HasDistinctKeys (λ m. Unit {0}) [] tt tt;
  };
  lists = every-List HasShortList (λ m. Unit {0}) [] tt (omega arith);
}
sound_alone others v sound = sound

short_alone : (others : List Json) (v : Value)
    → HasShortNumber (out-Json (tree_of_value others v))
    → HasShortNumber (out-Json (tree_of_value [] v))
short_alone others values.Frames short = subst HasShortNumber (sym (trees.outs-List [])) tt
short_alone others v short = short

-- what is known of the version, in a first frame alone
abbrev HasVersion : Bool → Member → Type 0
HasVersion first m = kind_by first m.key ≡ Some kinds.Spec → HasShortNumber (out-Json m.value)

entries_writable : (first : Bool) (others : List Json) (es : List Entry)
    → AllByRecursion (Fits first) es
    → AllByRecursion (λ m. Sound 63 m.value) (map (member_of others) es)
    → AllByRecursion (HasVersion first) (map (member_of others) es)
    → AllByRecursion (IsWritableEntry first) es
entries_writable first others [] fits sound versions = tt
entries_writable first others (e ∷ es) fits sound versions =
    let alone = sound_alone others e.value sound.0 in (
      record {
        fits = fits.0;
        proper = alone.proper;
        lists = alone.lists;
        version = λ kind. short_alone others e.value (versions.0 kind);
      },
      entries_writable first others es fits.1 sound.1 versions.1,
    )

keys_of_members : (others : List Json) (es : List Entry)
    → keys (map (member_of others) es) ≡ map (λ e. e.key) es
keys_of_members others [] = refl
keys_of_members others (e ∷ es) = ap (λ ks. e.key ∷ ks) (keys_of_members others es)

frame_writable : (first : Bool) (others : List Json) (f : Frame)
    → Sound 64 (tree_of_frame others f) → AllByRecursion (Fits first) f.entries
    → AllByRecursion (HasVersion first) (map (member_of others) f.entries)
    → AreWritable first f.entries
frame_writable first others f sound fits versions =
    let members = map (member_of others) f.entries in
    record {
      distinct = subst AreDistinct (keys_of_members others f.entries)
          (every_keys HasDistinctKeys (λ m. Unit {0}) members sound.proper.distinct);
      each = entries_writable first others f.entries fits (members_sound 63 members sound) versions;
    }

no_version : (members : List Member) → AllByRecursion (HasVersion false) members
no_version [] = tt
no_version (m ∷ members) = (λ kind. absurd (never (spec_key false m.key kind).0), no_version members)
  where
    never : false ≡ true → ⊥
    never e = cc

other_writable : (fs : List Frame) → AllByRecursion FitsOther fs
    → AllByRecursion (Sound 62) (map (tree_of_frame []) fs)
    → AllByRecursion (λ f. AreWritable false f.entries) fs
other_writable [] fits sound = tt
other_writable (f ∷ fs) fits sound =
    let tree = tree_of_frame [] f in
    let here = sound_of 64 tree (to_good 62 tree sound.0) (omega (arith, sound.0.proper.nested)) in (
      frame_writable false [] f here fits.0 (no_version (map (member_of []) f.entries)),
      other_writable fs fits.1 sound.1,
    )

-- ---- the other frames

-- the trees of the other frames, where the first frame has them
others_sound : (members : List Member) (others : List Json)
    → AllByRecursion (λ m. Sound 63 m.value) members → others_among members ≡ Some others
    → AllByRecursion (Sound 62) others × (length others < 2 ^ 32)
others_sound members others sound e = at (value_of members (codes "file_frames")) refl
  where
    word : List ℕ
    word = codes "file_frames"

    inside : (o : Option Json) → value_of members word ≡ o
        → option_and_then (λ tree. items_of_layer (out-Json tree)) o ≡ Some others
    inside o h = ap (option_and_then (λ tree. items_of_layer (out-Json tree))) (sym h) ∙ e

    of_list : (v : Json) (layer : Json-F Json Member) → out-Json v ≡ layer
        → items_of_layer layer ≡ Some others → Sound 63 v
        → AllByRecursion (Sound 62) others × (length others < 2 ^ 32)
    of_list v (layers.List items) l h s =
        let here : Sound 63 (trees.List items) = subst (Sound 63) (is_list v items l) s in
        subst (λ (ts : List Json). AllByRecursion (Sound 62) ts × (length ts < 2 ^ 32))
        (same_Some items others h) (
          items_sound 62 items here,
          every_length HasShortList (λ m. Unit {0}) items here.lists,
        )
    of_list v layers.Null l h s = cc
    of_list v (layers.Truth is) l h s = cc
    of_list v (layers.Number text) l h s = cc
    of_list v (layers.Word word) l h s = cc
    of_list v (layers.Object ms) l h s = cc

    at : (o : Option Json) → value_of members word ≡ o
        → AllByRecursion (Sound 62) others × (length others < 2 ^ 32)
    at None h = let clash : None ≡ Some others = inside None h in cc
    at (Some v) h =
        of_list v (out-Json v) refl (inside (Some v) h)
        (value_all (Sound 63) word members v sound h).0

abbrev AreSound : List Frame → Type 0
AreSound others = AllByRecursion (Sound 62) (map (tree_of_frame []) others) × (length others < 2 ^ 32)

length_map : {X Y : Type 0} (f : X → Y) (xs : List X) → length (map f xs) ≡ length xs
length_map f [] = refl
length_map f (x ∷ xs) = ap suc (length_map f xs)

frames_sound : (first : Frame) (others : List Frame) → Fit (first ∷ others)
    → HavePlace (first ∷ others)
    → Sound 64 (tree_of_frame (map (tree_of_frame []) others) first)
    → AreSound others
frames_sound first others fit place sound = at (place_of trees first.entries fit.0)
  where
    trees : List Json
    trees = map (tree_of_frame []) others

    none : (fs : List Frame) → map (tree_of_frame []) fs ≡ [] → AreSound fs
    none [] e = (tt, omega arith)
    none (f ∷ fs) e = cc

    at : IsAside trees first.entries → AreSound others
    at (inl is) =
        let found = others_sound (map (member_of trees) first.entries) trees
        (members_sound 63 (map (member_of trees) first.entries) sound) is in
        (found.0, omega (arith, found.1, length_map (tree_of_frame []) others))
    at (inr is) = none others (no_others first others place is.1)

whole_sound : (file : FoldFile) → IsWritable file → Sound 64 (tree_of_file file)
whole_sound file is = record { proper = is.proper; lists = is.lists }

first_version : (members : List Member) → HasShortSpec (trees.Object members)
    → AllByRecursion (HasVersion true) members
first_version members short =
    all_mapped (λ m. m.key ≡ codes "file_spec" → HasShortNumber (out-Json m.value))
    (HasVersion true) members (λ m h kind. h (spec_key true m.key kind).1)
    (subst HasShortSpecLayer (trees.outs-Object members) short)

frames_by : (frames : List Frame) → IsWritable (record { frames = frames })
    → HaveWritable frames × (length frames ≤ 2 ^ 32)
frames_by [] is = absurd is.fit
frames_by (first ∷ others) is =
    let file : FoldFile = record { frames = first ∷ others } in
    let trees = map (tree_of_frame []) others in
    let sound = whole_sound file is in
    let rest = frames_sound first others is.fit is.place sound in (
      (
        frame_writable true trees first sound is.fit.0
            (first_version (map (member_of trees) first.entries) is.version),
        other_writable others is.fit.1 rest.0,
      ),
      omega (arith, rest.1),
    )

pub frames_have : (file : FoldFile) → IsWritable file → HaveWritable file.frames
frames_have file is = (frames_by file.frames is).0

pub few_frames : (file : FoldFile) → IsWritable file → length file.frames ≤ 2 ^ 32
few_frames file is = (frames_by file.frames is).1

-- ---- from entries to a file

to_members : (P : Entry → Type 0) (Q : Member → Type 0) (es : List Entry)
    → ((e : Entry) → P e → Q (member_of [] e)) → AllByRecursion P es
    → AllByRecursion Q (map (member_of []) es)
to_members P Q [] f all = tt
to_members P Q (e ∷ es) f all = (f e all.0, to_members P Q es f all.1)

pub entries_make : (entries : List Entry) → AreWritable true entries → IsWritable (file_of entries)
entries_make entries are = record {
  fit = (all_mapped (IsWritableEntry true) (Fits true) entries (λ e is. is.fits) are.each, tt);
  place = tt;
  proper = record {
    nested = omega (arith, nesting-Object members, bounds_largest nesting_of_member members 63 nests);
    distinct = every-Object HasDistinctKeys (λ m. Unit {0}) members
        (to_members (IsWritableEntry true) _ entries (λ e is. every_member HasDistinctKeys (λ m. Unit {0})
        (member_of [] e) tt is.proper.distinct) are.each)
        (subst AreDistinct (sym (keys_of_members [] entries)) are.distinct);
  };
  lists = every-Object HasShortList (λ m. Unit {0}) members
      (to_members (IsWritableEntry true) _ entries (λ e is. every_member HasShortList (λ m. Unit {0})
      (member_of [] e) tt is.lists) are.each)
      tt;
  version = subst HasShortSpecLayer (sym (trees.outs-Object members)) (to_members (IsWritableEntry true)
      (λ m. m.key ≡ codes "file_spec" → HasShortNumber (out-Json m.value)) entries
      (λ e is key. is.version (ap (kind_by true) key)) are.each);
}
  where
    members : List Member
    members = map (member_of []) entries

    nests : AllByRecursion (λ m. nesting_of_member m ≤ 63) members
    nests = to_members (IsWritableEntry true) (λ m. nesting_of_member m ≤ 63) entries
        (λ e is. omega (arith, nesting_of_member-is (member_of [] e), is.proper.nested)) are.each
