-- trees without long lists and texts meet what is asked of a file's tree
use Rattle.std.proofs.Common.{◌≡◌, ℕ, ◌≤◌, List, [], ◌∷◌, length, map, refl, sym, subst, arith}
use Rattle.std.specs.Prelude.{codes}
use Rattle.std.specs.List.{AllByRecursion}
use Rattle.json_tree.specs.Tree.{HasLengthUpTo, HasLengthsUpTo, MemberHasLengthsUpTo}
use Rattle.json_tree.specs.declared.tree.Json.{Json, Json-F, out-Json}
use Rattle.json_tree.specs.declared.tree.Json.TheFolds.{ind-Json, map-Json, every-Member, every_here-Json}
use Rattle.json_tree.specs.declared.tree.Json.TheOpen as layers
use Rattle.json_tree.specs.declared.tree.Json.TheViews as trees
use Rattle.json_tree.specs.declared.tree.Member.{Member}
use Rattle.json_tree.proofs.Trees.{every_items, every_members, every_value, every_length, every-Null, every-Truth, every-Number, every-Word, every-List, every-Object, every_member}
use Rattle.fold_keys.specs.Short.{HasShortList, HasShortLists, HasShortNumber, HasShortSpec, HasShortSpecLayer}
use Rattle.fold_keys.proofs.Files.{is_object}

-- nothing is longer than `most`, which is no longer than a text that is read
module _ (most : ℕ) (within : most ≤ 16777216) where
  abbrev IsBounded : Json → Type 0
  IsBounded tree = HasLengthsUpTo most tree

  abbrev MemberIsBounded : Member → Type 0
  MemberIsBounded m = MemberHasLengthsUpTo most m

  abbrev MemberHasShortLists : Member → Type 0
  MemberHasShortLists m = every-Member HasShortList (λ m. Unit {0}) m

  -- what is shown of each tree, and of each member
  abbrev Shortens : Json → Type 0
  Shortens tree = IsBounded tree → HasShortLists tree

  abbrev MemberShortens : Member → Type 0
  MemberShortens m = MemberIsBounded m → MemberHasShortLists m

  short_items : (items : List ((t : Json) × Shortens t))
      → AllByRecursion IsBounded (map (λ e. e.0) items)
      → AllByRecursion HasShortLists (map (λ e. e.0) items)
  short_items [] all = tt
  short_items (e ∷ items) all = (e.1 all.0, short_items items all.1)

  short_members : (members : List ((m : Member) × MemberShortens m))
      → AllByRecursion MemberIsBounded (map (λ e. e.0) members)
      → AllByRecursion MemberHasShortLists (map (λ e. e.0) members)
  short_members [] all = tt
  short_members (e ∷ members) all = (e.1 all.0, short_members members all.1)

  member_shortens : (m : Member) → Shortens m.value → MemberShortens m
  member_shortens m value bounded = every_member HasShortList (λ m. Unit {0}) m tt
      (value (every_value (HasLengthUpTo most) (λ m. length m.key ≤ most) m bounded))

  list_shortens : (items : List ((t : Json) × Shortens t))
      → Shortens (trees.List (map (λ e. e.0) items))
  list_shortens items bounded =
      let all = map (λ e. e.0) items in
      let few = every_length (HasLengthUpTo most) (λ m. length m.key ≤ most) all bounded in
      let inner = every_items (HasLengthUpTo most) (λ m. length m.key ≤ most) all bounded in
      every-List HasShortList (λ m. Unit {0}) all (short_items items inner) (omega (arith, few, within))

  object_shortens : (members : List ((m : Member) × MemberShortens m))
      → Shortens (trees.Object (map (λ e. e.0) members))
  object_shortens members bounded =
      let all = map (λ e. e.0) members in
      let inner = every_members (HasLengthUpTo most) (λ m. length m.key ≤ most) all bounded in
      every-Object HasShortList (λ m. Unit {0}) all (short_members members inner) tt

  layer_shortens : (layer : Json-F ((t : Json) × Shortens t) ((m : Member) × MemberShortens m))
      → Shortens (trees.roll-Json (map-Json ((t : Json) × Shortens t)
      ((m : Member) × MemberShortens m) Json Member (λ e. e.0) (λ e. e.0) layer))
  layer_shortens layers.Null =
      subst Shortens (sym trees.rolls-Null) (λ b. every-Null HasShortList (λ m. Unit {0}) tt)
  layer_shortens (layers.Truth is) =
      subst Shortens (sym (trees.rolls-Truth is))
      (λ b. every-Truth HasShortList (λ m. Unit {0}) is tt)
  layer_shortens (layers.Number text) =
      subst Shortens (sym (trees.rolls-Number text))
      (λ b. every-Number HasShortList (λ m. Unit {0}) text tt)
  layer_shortens (layers.Word word) =
      subst Shortens (sym (trees.rolls-Word word))
      (λ b. every-Word HasShortList (λ m. Unit {0}) word tt)
  layer_shortens (layers.List items) =
      subst Shortens (sym (trees.rolls-List (map (λ e. e.0) items))) (list_shortens items)
  layer_shortens (layers.Object members) =
      subst Shortens (sym (trees.rolls-Object (map (λ e. e.0) members))) (object_shortens members)

  pub short_lists : (tree : Json) → HasLengthsUpTo most tree → HasShortLists tree
  short_lists = ind-Json Shortens MemberShortens
      (λ x y is. subst (λ x. Shortens (trees.roll-Json x)) is (layer_shortens y))
      (λ x y is. subst (λ x. MemberShortens (trees.roll-Member x)) is
      (member_shortens (record { key = y.key; value = y.value.0 }) y.value.1))

  short_number : (tree : Json) → IsBounded tree → HasShortNumber (out-Json tree)
  short_number tree bounded = at (out-Json tree)
      (every_here-Json (HasLengthUpTo most) (λ m. length m.key ≤ most) tree bounded)
    where
      at : (layer : Json-F Json Member) → HasLengthUpTo most layer → HasShortNumber layer
      at (layers.Number text) short = omega (arith, short, within)
      at layers.Null short = tt
      at (layers.Truth is) short = tt
      at (layers.Word word) short = tt
      at (layers.List items) short = tt
      at (layers.Object members) short = tt

  short_values : (members : List Member) → AllByRecursion MemberIsBounded members
      → AllByRecursion (λ m. m.key ≡ codes "file_spec" → HasShortNumber (out-Json m.value)) members
  short_values [] all = tt
  short_values (m ∷ members) all = (
    (λ e. short_number m.value
        (every_value (HasLengthUpTo most) (λ m. length m.key ≤ most) m all.0)),
    short_values members all.1,
  )

  pub short_spec : (tree : Json) → HasLengthsUpTo most tree → HasShortSpec tree
  short_spec tree bounded = at (out-Json tree) refl
    where
      at : (layer : Json-F Json Member) → out-Json tree ≡ layer → HasShortSpecLayer layer
      at (layers.Object members) e =
          let whole = subst IsBounded (is_object tree members e) bounded in
          short_values members
          (every_members (HasLengthUpTo most) (λ m. length m.key ≤ most) members whole)
      at layers.Null e = tt
      at (layers.Truth is) e = tt
      at (layers.Number text) e = tt
      at (layers.Word word) e = tt
      at (layers.List items) e = tt
