-- no text of a file's coordinates is longer than what its tree was spelled by
use Rattle.std.proofs.Common.{◌≡◌, ℕ, suc, ◌≤◌, List, [], ◌∷◌, length, map, refl, subst, Some, true, arith}
use Rattle.std.specs.Prelude.{Contains, codes}
use Rattle.std.specs.List.{AllByRecursion}
use Rattle.json_tree.specs.Tree.{HasLengthUpTo, HasLengthsUpTo, MemberHasLengthsUpTo}
use Rattle.json_tree.specs.declared.tree.Json.{Json}
use Rattle.json_tree.specs.declared.tree.Json.TheViews as lists
use Rattle.json_tree.specs.declared.tree.Member.{Member}
use Rattle.json_tree.proofs.Trees.{every_items, every_members, every_number, every_value}
use Rattle.fold_keys.specs.Shape.{kind_by}
use Rattle.fold_keys.specs.Trees.{member_of, tree_of_all, tree_of_file, tree_of_frame, tree_of_number, tree_of_value}
use Rattle.fold_keys.specs.Writable.{Fits, HavePlace, HaveWritable, IsOfKind, IsWritable}
use Rattle.fold_keys.specs.declared.kind.Kind.TheVariants as kinds
use Rattle.fold_keys.specs.declared.value.Entry.{Entry}
use Rattle.fold_keys.specs.declared.value.FoldFile.{FoldFile}
use Rattle.fold_keys.specs.declared.value.Frame.{Frame}
use Rattle.fold_keys.specs.declared.value.Value.{Value}
use Rattle.fold_keys.specs.declared.value.Value.TheVariants as values
use Rattle.fold_frames.specs.Answers.{AreInherited}
use Rattle.fold_frames.specs.Inherits.{entries_at}
use Rattle.fold_frames.specs.Parents.{value_at}
use Rattle.fold_frames.proofs.ByKey.{by_key}
use Rattle.fold_frames.proofs.Found.{found_entry}
use Rattle.fold_frames.proofs.Kept.{at_each}

module _ (most : ℕ) where
  abbrev IsBounded : Json → Type 0
  IsBounded tree = HasLengthsUpTo most tree

  abbrev AreShort : List (List ℕ) → Type 0
  AreShort texts = AllByRecursion (λ text. length text ≤ most) texts

  -- the texts of coordinates are short
  abbrev IsShort : Value → Type 0
  IsShort (values.Coords points) = AllByRecursion AreShort points
  IsShort value = Unit {0}

  abbrev HasShort : Entry → Type 0
  HasShort entry = IsShort entry.value

  short_texts : (texts : List (List ℕ)) → AllByRecursion IsBounded (map tree_of_number texts) → AreShort texts
  short_texts [] all = tt
  short_texts (text ∷ texts) all =
      (every_number (HasLengthUpTo most) (λ m. length m.key ≤ most) text all.0, short_texts texts all.1)

  short_points : (points : List (List (List ℕ)))
      → AllByRecursion IsBounded (map (tree_of_all tree_of_number) points) → AllByRecursion AreShort points
  short_points [] all = tt
  short_points (point ∷ points) all = (
    short_texts point
        (every_items (HasLengthUpTo most) (λ m. length m.key ≤ most) (map tree_of_number point) all.0),
    short_points points all.1,
  )

  short_value : (others : List Json) (value : Value) → IsBounded (tree_of_value others value) → IsShort value
  short_value others (values.Coords points) all =
      short_points points
      (every_items (HasLengthUpTo most) (λ m. length m.key ≤ most) (map (tree_of_all tree_of_number) points) all)
  short_value others (values.Number text) all = tt
  short_value others (values.Word word) all = tt
  short_value others (values.Truth is) all = tt
  short_value others (values.Id id) all = tt
  short_value others (values.Words words) all = tt
  short_value others values.Frames all = tt
  short_value others (values.Numbers texts) all = tt
  short_value others (values.IdLists lists) all = tt
  short_value others (values.Pairs pairs) all = tt
  short_value others (values.Letters letters) all = tt
  short_value others (values.Orders orders) all = tt
  short_value others (values.Exact points) all = tt
  short_value others (values.Kept tree) all = tt

  -- each member of the frame's tree is as short as the tree
  abbrev AreBounded : List Json → List Entry → Type 0
  AreBounded others entries = AllByRecursion (λ e. IsBounded (tree_of_value others e.value)) entries

  bounded_values : (others : List Json) (entries : List Entry)
      → AllByRecursion (λ m. IsBounded m.value) (map (member_of others) entries) → AreBounded others entries
  bounded_values others [] all = tt
  bounded_values others (e ∷ entries) all = (all.0, bounded_values others entries all.1)

  values_of : (members : List Member)
      → AllByRecursion (λ m. MemberHasLengthsUpTo most m) members
      → AllByRecursion (λ m. IsBounded m.value) members
  values_of [] all = tt
  values_of (m ∷ members) all =
      (every_value (HasLengthUpTo most) (λ m. length m.key ≤ most) m all.0, values_of members all.1)

  bounded_frame : (others : List Json) (frame : Frame) → IsBounded (tree_of_frame others frame)
      → AreBounded others frame.entries
  bounded_frame others frame all =
      bounded_values others frame.entries
      (values_of (map (member_of others) frame.entries)
      (every_members (HasLengthUpTo most) (λ m. length m.key ≤ most) (map (member_of others) frame.entries) all))

  short_entries : (others : List Json) (entries : List Entry) → AreBounded others entries
      → AllByRecursion HasShort entries
  short_entries others [] all = tt
  short_entries others (e ∷ entries) all =
      (short_value others e.value all.0, short_entries others entries all.1)

  -- ---- the other frames stand at `file_frames` of the first

  is_place : (value : Value) → IsOfKind (Some kinds.Frames) value → value ≡ values.Frames
  is_place values.Frames is = refl
  is_place (values.Number text) is = absurd is
  is_place (values.Word word) is = absurd is
  is_place (values.Truth t) is = absurd is
  is_place (values.Id id) is = absurd is
  is_place (values.Words words) is = absurd is
  is_place (values.Numbers texts) is = absurd is
  is_place (values.Coords points) is = absurd is
  is_place (values.IdLists lists) is = absurd is
  is_place (values.Pairs pairs) is = absurd is
  is_place (values.Letters letters) is = absurd is
  is_place (values.Orders orders) is = absurd is
  is_place (values.Exact points) is = absurd is
  is_place (values.Kept tree) is = absurd is

  the_frames : (trees : List Json) (entry : Entry) → entry.key ≡ codes "file_frames" → Fits true entry
      → IsBounded (tree_of_value trees entry.value) → IsBounded (lists.List trees)
  the_frames trees entry is fits all =
      let kind : IsOfKind (Some kinds.Frames) entry.value =
      subst (λ key. IsOfKind (kind_by true key) entry.value) is fits.of_kind in
      subst (λ value. IsBounded (tree_of_value trees value)) (is_place entry.value kind) all

  at_place : (trees : List Json) (entries : List Entry) → AllByRecursion (Fits true) entries
      → AreBounded trees entries → Contains (map (λ e. e.key) entries) (codes "file_frames")
      → IsBounded (lists.List trees)
  at_place trees [] fits all (k, below, is) = absurd (omega (arith, below))
  at_place trees (e ∷ entries) fits all (Prim.Native.Nat.zero, below, is) = the_frames trees e is fits.0 all.0
  at_place trees (e ∷ entries) fits all (suc k, below, is) =
      at_place trees entries fits.1 all.1 (k, omega (arith, below), is)

  short_others : (frames : List Frame) → AllByRecursion IsBounded (map (tree_of_frame []) frames)
      → AllByRecursion (λ f. AllByRecursion HasShort f.entries) frames
  short_others [] all = tt
  short_others (f ∷ frames) all =
      (short_entries [] f.entries (bounded_frame [] f all.0), short_others frames all.1)

  others_of : (first : Frame) (others : List Frame) → AllByRecursion (Fits true) first.entries
      → HavePlace (first ∷ others) → AreBounded (map (tree_of_frame []) others) first.entries
      → AllByRecursion (λ f. AllByRecursion HasShort f.entries) others
  others_of first [] fits place all = tt
  others_of first (second ∷ others) fits place all =
      let trees = map (tree_of_frame []) (second ∷ others) in
      short_others (second ∷ others)
      (every_items (HasLengthUpTo most) (λ m. length m.key ≤ most) trees
      (at_place trees first.entries fits all place))

  short_frames : (frames : List Frame) → IsWritable (record { frames = frames })
      → HasLengthsUpTo most (tree_of_file (record { frames = frames }))
      → AllByRecursion (λ f. AllByRecursion HasShort f.entries) frames
  short_frames [] is all = absurd is.fit
  short_frames (first ∷ others) is all =
      let trees = map (tree_of_frame []) others in
      let bounded = bounded_frame trees first all in
      (short_entries trees first.entries bounded, others_of first others is.fit.0 is.place bounded)

  pub short_in_effect : (file : FoldFile) → IsWritable file → HaveWritable file.frames
      → HasLengthsUpTo most (tree_of_file file) → (k : ℕ) (entries : List Entry)
      → AreInherited file.frames k entries → (key : List ℕ) (points : List (List (List ℕ)))
      → value_at entries key ≡ Some (values.Coords points)
      → AllByRecursion (AllByRecursion (λ text. length text ≤ most)) points
  short_in_effect file is have all k entries are key points e =
      let found = (by_key file.frames have k entries are key (values.Coords points)).0 e in
      found_entry HasShort (entries_at file.frames found.1) key (values.Coords points)
      (at_each (AllByRecursion HasShort) tt file.frames (short_frames file.frames is all) found.1) found.3
