-- a tree without misfit is the tree of a file
use Rattle.std.proofs.Common.{◌≡◌, ℕ, suc, ◌==◌, List, [], ◌∷◌, ◌++◌, length, refl, sym, ◌∙◌, ap, subst, Bool, true, false, Option, Some, None, append_assoc, append-nil, length-append, arith}
use Rattle.std.specs.Prelude.{option_map, if◌then◌else◌}
use Rattle.std.specs.List.{AllByRecursion}
use Rattle.std.specs.Option.{option_or, unwrap_or}
use Rattle.json_tree.specs.Tree.{keys, AreDistinct, HasDistinctKeys, IsProper}
use Rattle.json_tree.specs.declared.tree.Json.{Json, Json-F, out-Json, roll-Json, roll-out-Json}
use Rattle.json_tree.specs.declared.tree.Json.TheFolds.{every_here-Json}
use Rattle.json_tree.specs.declared.tree.Json.TheOpen as layers
use Rattle.json_tree.specs.declared.tree.Json.TheViews as trees
use Rattle.json_tree.specs.declared.tree.Member.{Member}
use Rattle.fold_keys.specs.Along.{first_along, or_else}
use Rattle.fold_keys.specs.Found.{misfit_at_kind, IsFound}
use Rattle.fold_keys.specs.Frames.{HaveMembers, HasTree, IsEntryOf, AreEntriesOf, IsFrameOf}
use Rattle.fold_keys.specs.Reading.{Misfit}
use Rattle.fold_keys.specs.Shape.{kind_at, misfit_of_member, misfit_of_frame, misfit_of_frame_layer, misfit_of_file, others_among, others_of_layer, other_frames}
use Rattle.fold_keys.specs.Short.{HasShortLists, HasShortSpec}
use Rattle.fold_keys.specs.Trees.{tree_of_file}
use Rattle.fold_keys.specs.Writable.{IsWritable}
use Rattle.fold_keys.specs.declared.fault.ShapeFault.{ShapeFault}
use Rattle.fold_keys.specs.declared.reading.Found.{Found}
use Rattle.fold_keys.specs.declared.reading.Found.TheVariants as found
use Rattle.fold_keys.specs.declared.value.Entry.{Entry}
use Rattle.fold_keys.specs.declared.value.FoldFile.{FoldFile}
use Rattle.fold_keys.specs.declared.value.Frame.{Frame}
use Rattle.fold_keys.specs.declared.value.Value.TheVariants as values
use Rattle.fold_keys.proofs.Entries.{entry_more, key_is_new}
use Rattle.fold_keys.proofs.Files.{Good, others_of, file_whole}
use Rattle.fold_keys.proofs.OtherFrames.{AreRead, frame_more}
use Rattle.fold_frames.proofs.Elements.{found_at}

none_map : {A B : Type 0} (f : A → B) (o : Option A) → option_map f o ≡ None → o ≡ None
none_map f None h = refl
none_map f (Some x) h = cc

none_first : {B : Type 0} (a b : Option B) → or_else a b ≡ None → (a ≡ None) × (b ≡ None)
none_first None b h = (refl, h)
none_first (Some x) b h = cc

-- ---- the entries of a frame

entry_has : (frame : ℕ) (m : Member) → misfit_of_member frame m ≡ None
    → (entry : Entry) × (items : Option (List Json)) × IsEntryOf frame m entry items
entry_has frame m h =
    let none = none_map {A = Misfit} {B = ShapeFault}
    (λ misfit. record { frame = frame; key = m.key; index = misfit.index; cause = misfit.cause })
    (misfit_at_kind (kind_at frame m.key) m.value) h in
    let what = found_at (kind_at frame m.key) m.value none in
    at what.0 what.1
  where
    at : (what : Found) → IsFound (kind_at frame m.key) m.value what
        → (entry : Entry) × (items : Option (List Json)) × IsEntryOf frame m entry items
    at (found.Value value) is = (record { key = m.key; value = value }, None, (refl, is))
    at (found.Frames items) is =
        (record { key = m.key; value = values.Frames }, Some items, (refl, refl, is))

HaveEntries : ℕ → List Member → Type 0
HaveEntries frame members =
    (entries : List Entry) × (others : Option (List Json)) × AreEntriesOf frame members entries others

none_each : (frame from : ℕ) (members : List Member)
    → first_along (λ place m. misfit_of_member frame m) from members ≡ None
    → AllByRecursion (λ m. misfit_of_member frame m ≡ None) members
none_each frame from [] h = tt
none_each frame from (m ∷ members) h =
    let parts = none_first (misfit_of_member frame m)
    (first_along (λ place m. misfit_of_member frame m) (suc from) members) h in
    (parts.0, none_each frame (suc from) members parts.1)

more_entries : (frame : ℕ) (front rest : List Member) (entries : List Entry)
    (others : Option (List Json)) → AreEntriesOf frame front entries others
    → AreDistinct (keys (front ++ rest))
    → AllByRecursion (λ m. misfit_of_member frame m ≡ None) rest → HaveEntries frame (front ++ rest)
unfolding HaveEntries
more_entries frame front [] entries others are distinct none =
    (entries, others, subst (λ ms. AreEntriesOf frame ms entries others) (sym (append-nil front)) are)
more_entries frame front (m ∷ rest) entries others are distinct none =
    let one = entry_has frame m none.0 in
    let new = key_is_new (front ++ m ∷ rest) front rest m refl distinct in
    let whole : (front ++ m ∷ []) ++ rest ≡ front ++ m ∷ rest = append_assoc front (m ∷ []) rest in
    subst (HaveEntries frame) whole
    (more_entries frame (front ++ m ∷ []) rest (entries ++ one.0 ∷ []) (option_or others one.1)
    (entry_more frame front m entries one.0 others one.1 new are one.2 none.0)
    (subst (λ ms. AreDistinct (keys ms)) (sym whole) distinct) none.1)

no_entries : (frame : ℕ) → AreEntriesOf frame [] [] None
no_entries frame = record { have = λ others. refl; fit = tt; aside = at (frame == 0) }
  where
    at : (b : Bool) → None ≡ (if b then others_among [] else None)
    at true = refl
    at false = refl

-- ---- a frame

HasFrame : ℕ → Json → Type 0
HasFrame number tree =
    (frame : Frame) × (aside : Option (List Json)) × IsFrameOf number tree frame aside

frame_has : (number : ℕ) (tree : Json) → Good tree → misfit_of_frame number tree ≡ None
    → HasFrame number tree
unfolding HasFrame HaveEntries
frame_has number tree good h =
    at (out-Json tree) refl h (every_here-Json HasDistinctKeys (λ m. Unit {0}) tree good.distinct)
  where
    has_tree : (members : List Member) → out-Json tree ≡ layers.Object members
        → (entries : List Entry) (others : Option (List Json)) → HaveMembers entries others members
        → HasTree (record { entries = entries }) others tree
    has_tree members e entries None have =
        λ o. ap trees.Object (have o) ∙ sym (trees.rolls-Object members) ∙ ap roll-Json (sym e)
        ∙ roll-out-Json tree
    has_tree members e entries (Some o) have =
        ap trees.Object have ∙ sym (trees.rolls-Object members) ∙ ap roll-Json (sym e)
        ∙ roll-out-Json tree

    at : (layer : Json-F Json Member) → out-Json tree ≡ layer
        → misfit_of_frame_layer number layer ≡ None → HasDistinctKeys layer → HasFrame number tree
    at (layers.Object members) e h distinct =
        let read = more_entries number [] members [] None (no_entries number) distinct
        (none_each number 0 members h) in (
          record { entries = read.0 },
          read.1,
          record {
            has = has_tree members e read.0 read.1 read.2.have;
            fit = read.2.fit;
            aside = read.2.aside
                ∙ ap (λ layer. if number == 0 then others_of_layer layer else None) (sym e);
          },
        )
    at layers.Null e h distinct = cc
    at (layers.Truth is) e h distinct = cc
    at (layers.Number text) e h distinct = cc
    at (layers.Word word) e h distinct = cc
    at (layers.List items) e h distinct = cc

-- ---- the frames after the first

HaveFrames : Frame → List Json → Type 0
HaveFrames first items = (frames : List Frame) × AreRead first frames items

more_frames : (first : Frame) (front rest : List Json) (frames : List Frame)
    → AreRead first frames front → AllByRecursion Good rest
    → first_along misfit_of_frame (length frames) rest ≡ None → HaveFrames first (front ++ rest)
unfolding HaveFrames HasFrame
more_frames first front [] frames read good none =
    (frames, subst (AreRead first frames) (sym (append-nil front)) read)
more_frames first front (tree ∷ rest) frames read good none =
    let parts = none_first (misfit_of_frame (length frames) tree)
    (first_along misfit_of_frame (suc (length frames)) rest) none in
    let one = frame_has (length frames) tree good.0 parts.0 in
    let pushed = frames ++ one.0 ∷ [] in
    let longer : suc (length frames) ≡ length pushed =
    omega (arith, length-append frames (one.0 ∷ [])) in
    subst (HaveFrames first) (append_assoc front (tree ∷ []) rest)
    (more_frames first (front ++ tree ∷ []) rest pushed
    (frame_more first frames pushed front tree one.0 (length frames) one.1 refl refl read one.2) good.1
    (subst (λ n. first_along misfit_of_frame n rest ≡ None) longer parts.1))

-- ---- the file

pub file_has : (tree : Json) → IsProper tree → HasShortLists tree → HasShortSpec tree
    → misfit_of_file tree ≡ None
    → (file : FoldFile) × (tree_of_file file ≡ tree) × IsWritable file
unfolding HasFrame HaveFrames
file_has tree proper lists version h =
    let parts = none_first (misfit_of_frame 0 tree) (first_along misfit_of_frame 1 (other_frames tree)) h in
    let one = frame_has 0 tree good parts.0 in
    let same : other_frames tree ≡ unwrap_or one.1 [] = ap (λ o. unwrap_or o []) (sym one.2.aside) in
    let none : first_along misfit_of_frame 1 (unwrap_or one.1 []) ≡ None =
    subst (λ ts. first_along misfit_of_frame 1 ts ≡ None) same parts.1 in
    let all : AllByRecursion Good (unwrap_or one.1 []) = each one.1 one.2.aside in
    let others = more_frames one.0 [] (unwrap_or one.1 []) (one.0 ∷ [])
    ([], refl, record { have = refl; fit = tt }) all none in
    let whole = file_whole tree one.0 one.1 others.0 proper lists version one.2 parts.0
    (others.1.0, others.1.1, others.1.2, none) in
    (record { frames = others.0 }, whole.0, whole.1)
  where
    good : Good tree
    good = record { distinct = proper.distinct; short = lists }

    each : (aside : Option (List Json)) → aside ≡ others_of_layer (out-Json tree)
        → AllByRecursion Good (unwrap_or aside [])
    each None e = tt
    each (Some others) e = (others_of tree others good (sym e)).good
