-- a file from its frames
use Rattle.std.proofs.Common.{◌≡◌, ℕ, ◌<◌, ◌^◌, ◌==◌, List, [], ◌∷◌, length, map, refl, sym, ◌∙◌, ap, subst, Bool, true, false, Option, Some, None, Ok, Err}
use Rattle.std.specs.Prelude.{Contains, codes, option_and_then}
use Rattle.std.specs.List.{AllByRecursion}
use Rattle.std.specs.Option.{unwrap_or}
use Rattle.std.specs.Str.{bytes_eq}
use Rattle.std.proofs.lemmas.Bool.{false≢true}
use Rattle.std.proofs.lemmas.Option.{same_Some}
use Rattle.json_tree.specs.At.{value_of}
use Rattle.json_tree.specs.Tree.{HasKey, IsProper, HasDistinctKeys, HasDistinctKeysThroughout}
use Rattle.json_tree.specs.declared.tree.Json.{Json, Json-F, out-Json, roll-Json, roll-out-Json}
use Rattle.json_tree.specs.declared.tree.Json.TheFolds.{every_here-Json}
use Rattle.json_tree.specs.declared.tree.Json.TheOpen as layers
use Rattle.json_tree.specs.declared.tree.Json.TheViews as trees
use Rattle.json_tree.specs.declared.tree.Member.{Member}
use Rattle.json_tree.proofs.Trees.{every_items, every_members, every_value, every_length}
use Rattle.fold_keys.specs.Along.{first_along, or_else}
use Rattle.fold_keys.specs.Short.{HasShortList, HasShortLists, HasShortNumber, HasShortSpec, HasShortSpecLayer}
use Rattle.fold_keys.specs.Frames.{HasTree, IsFrameOf, AreOthersOf, AnswersOthers, AnswersFile, IsReadable, IsReadableLayer, IsReadableMember}
use Rattle.fold_keys.specs.Shape.{items_of_layer, others_among, others_of_layer, other_frames, misfit_of_frame}
use Rattle.fold_keys.specs.Trees.{member_of, tree_of_frame, tree_of_file}
use Rattle.fold_keys.specs.Writable.{Fits, HavePlace}
use Rattle.fold_keys.specs.declared.fault.FoldFault.{FoldFault}
use Rattle.fold_keys.specs.declared.fault.FoldFault.TheVariants as faults
use Rattle.fold_keys.specs.declared.value.Entry.{Entry}
use Rattle.fold_keys.specs.declared.value.Frame.{Frame}
use Rattle.fold_keys.proofs.Entries.{key_same, value_head, value_tail, has_head, has_tail, spec_key, all_mapped}

-- what is asked of the tree of a file
pub record Good (tree : Json) : Type 0 where
  pub distinct : HasDistinctKeysThroughout tree
  pub short : HasShortLists tree

pub is_object : (tree : Json) (members : List Member) → out-Json tree ≡ layers.Object members
    → tree ≡ trees.Object members
is_object tree members e = sym (roll-out-Json tree) ∙ ap roll-Json e ∙ trees.rolls-Object members

pub is_list : (tree : Json) (items : List Json) → out-Json tree ≡ layers.List items
    → tree ≡ trees.List items
is_list tree items e = sym (roll-out-Json tree) ∙ ap roll-Json e ∙ trees.rolls-List items

pub all_both : {X : Type 0} (P Q R : X → Type 0) (xs : List X) → ((x : X) → P x → Q x → R x)
    → AllByRecursion P xs → AllByRecursion Q xs → AllByRecursion R xs
all_both P Q R [] f ps qs = tt
all_both P Q R (x ∷ xs) f ps qs = (f x ps.0 qs.0, all_both P Q R xs f ps.1 qs.1)

pub good_values : (members : List Member) → Good (trees.Object members)
    → AllByRecursion (λ m. Good m.value) members
good_values members good =
    let distinct = every_members HasDistinctKeys (λ m. Unit {0}) members good.distinct in
    let short = every_members HasShortList (λ m. Unit {0}) members good.short in
    all_both _ _ (λ m. Good m.value) members
    (λ m d s. record {
      distinct = every_value HasDistinctKeys (λ m. Unit {0}) m d;
      short = every_value HasShortList (λ m. Unit {0}) m s;
    }) distinct short

pub good_items : (items : List Json) → Good (trees.List items) → AllByRecursion Good items
good_items items good =
    let distinct = every_items HasDistinctKeys (λ m. Unit {0}) items good.distinct in
    let short = every_items HasShortList (λ m. Unit {0}) items good.short in
    all_both _ _ Good items (λ t d s. record { distinct = d; short = s }) distinct short

short_list : (m : Member) → Good m.value → HasShortList (out-Json m.value)
short_list m good = every_here-Json HasShortList (λ m. Unit {0}) m.value good.short

-- the first frame, in which the text of the version is short, and another one, which has none
first_member : (m : Member) → Good m.value
    → (m.key ≡ codes "file_spec" → HasShortNumber (out-Json m.value)) → IsReadableMember 0 m
first_member m good short =
    record { list = short_list m good; version = λ e. short (spec_key true m.key e).1 }

other_member : (number : ℕ) → (number == 0) ≡ false → (m : Member) → Good m.value
    → IsReadableMember number m
other_member number other m good =
    record {
      list = short_list m good;
      version = λ e. absurd (false≢true (sym other ∙ (spec_key (number == 0) m.key e).0));
    }

pub first_is_readable : (tree : Json) → Good tree → HasShortSpec tree → IsReadable 0 tree
first_is_readable tree good short = at (out-Json tree) refl short
  where
    at : (layer : Json-F Json Member) → out-Json tree ≡ layer → HasShortSpecLayer layer
        → IsReadableLayer 0 layer
    at (layers.Object members) e s =
        let here : Good (trees.Object members) = subst Good (is_object tree members e) good in (
          subst HasDistinctKeys e
              (every_here-Json HasDistinctKeys (λ m. Unit {0}) tree good.distinct),
          all_both (λ m. Good m.value) (λ m. m.key ≡ codes "file_spec"
              → HasShortNumber (out-Json m.value)) (IsReadableMember 0) members first_member
              (good_values members here) s,
        )
    at (layers.List items) e s = tt
    at layers.Null e s = tt
    at (layers.Truth is) e s = tt
    at (layers.Number text) e s = tt
    at (layers.Word word) e s = tt

other_is_readable : (number : ℕ) → (number == 0) ≡ false → (tree : Json) → Good tree
    → IsReadable number tree
other_is_readable number other tree good = at (out-Json tree) refl
  where
    at : (layer : Json-F Json Member) → out-Json tree ≡ layer → IsReadableLayer number layer
    at (layers.Object members) e =
        let here : Good (trees.Object members) = subst Good (is_object tree members e) good in (
          subst HasDistinctKeys e
              (every_here-Json HasDistinctKeys (λ m. Unit {0}) tree good.distinct),
          all_mapped (λ m. Good m.value) (IsReadableMember number) members
              (other_member number other) (good_values members here),
        )
    at (layers.List items) e = tt
    at layers.Null e = tt
    at (layers.Truth is) e = tt
    at (layers.Number text) e = tt
    at (layers.Word word) e = tt

-- ---- what stands at the key of the other frames

pub value_all : (P : Json → Type 0) (key : List ℕ) (members : List Member) (v : Json)
    → AllByRecursion (λ m. P m.value) members → value_of members key ≡ Some v
    → P v × HasKey members key
value_all P key [] v all e = absurd (none_some e)
  where
    none_some : None ≡ Some v → ⊥
    none_some h = cc
value_all P key (x ∷ xs) v all e = at (bytes_eq x.key key) refl (value_all P key xs v all.1)
  where
    at : (b : Bool) → bytes_eq x.key key ≡ b → (value_of xs key ≡ Some v → P v × HasKey xs key)
        → P v × HasKey (x ∷ xs) key
    at true h go =
        let found : Some x.value ≡ Some v = sym (value_head x xs key h) ∙ e in
        (subst P (same_Some x.value v found) all.0, has_head x xs key (key_same x.key key h))
    at false h go =
        let rest = go (sym (value_tail x xs key h) ∙ e) in (rest.0, has_tail x xs key rest.1)

same_members : (layer : Json-F Json Member) (ms ns : List Member) → layer ≡ layers.Object ms
    → layer ≡ layers.Object ns → ms ≡ ns
same_members layer ms ns d e = cc

pub record HasOthers (tree : Json) (others : List Json) : Type 0 where
  pub good : AllByRecursion Good others
  pub few : length others < 2 ^ 32
  pub key : (members : List Member) → out-Json tree ≡ layers.Object members
      → HasKey members (codes "file_frames")

others_at_key : (members : List Member) (others : List Json)
    → AllByRecursion (λ m. Good m.value) members → others_among members ≡ Some others
    → AllByRecursion Good others × (length others < 2 ^ 32) × HasKey members (codes "file_frames")
others_at_key members others good e = at (value_of members (codes "file_frames")) refl
  where
    items_good : (v : Json) (layer : Json-F Json Member) → out-Json v ≡ layer
        → items_of_layer layer ≡ Some others → Good v
        → AllByRecursion Good others × (length others < 2 ^ 32)
    items_good v (layers.List items) l h g =
        let same : items ≡ others = same_Some items others h in
        let here : Good (trees.List items) = subst Good (is_list v items l) g in
        subst (λ (ts : List Json). AllByRecursion Good ts × (length ts < 2 ^ 32)) same
        (good_items items here, every_length HasShortList (λ m. Unit {0}) items here.short)
    items_good v layers.Null l h g = cc
    items_good v (layers.Truth is) l h g = cc
    items_good v (layers.Number text) l h g = cc
    items_good v (layers.Word word) l h g = cc
    items_good v (layers.Object ms) l h g = cc

    at : (o : Option Json) → value_of members (codes "file_frames") ≡ o
        → AllByRecursion Good others × (length others < 2 ^ 32)
        × HasKey members (codes "file_frames")
    at None h =
        let clash : None ≡ Some others =
        ap (option_and_then (λ tree. items_of_layer (out-Json tree))) (sym h) ∙ e in cc
    at (Some v) h =
        let found = value_all Good (codes "file_frames") members v good h in
        let items : items_of_layer (out-Json v) ≡ Some others =
        ap (option_and_then (λ tree. items_of_layer (out-Json tree))) (sym h) ∙ e in
        let g = items_good v (out-Json v) refl items found.0 in
        (g.0, g.1, found.1)

pub others_of : (tree : Json) (others : List Json) → Good tree
    → others_of_layer (out-Json tree) ≡ Some others → HasOthers tree others
others_of tree others good e = at (out-Json tree) refl e
  where
    at : (layer : Json-F Json Member) → out-Json tree ≡ layer → others_of_layer layer ≡ Some others
        → HasOthers tree others
    at (layers.Object members) l h =
        let here : Good (trees.Object members) = subst Good (is_object tree members l) good in
        let found = others_at_key members others (good_values members here) h in
        record {
          good = found.0;
          few = found.1;
          key = λ ms e'. subst (λ xs. HasKey xs (codes "file_frames"))
              (same_members (out-Json tree) members ms l e') found.2;
        }
    at layers.Null l h = cc
    at (layers.Truth is) l h = cc
    at (layers.Number text) l h = cc
    at (layers.Word word) l h = cc
    at (layers.List items) l h = cc

pub others_readable : (tree : Json) (others : List Json) → HasOthers tree others
    → AllByRecursion (IsReadable 1) others
others_readable tree others has =
    all_mapped Good (IsReadable 1) others (other_is_readable 1 refl) has.good

-- ---- the whole file

no_frames : (others : List Frame) → map (tree_of_frame []) others ≡ [] → others ≡ []
no_frames [] e = refl
no_frames (x ∷ xs) e = cc

-- the other frames have a place in the first
place : (tree : Json) (first : Frame) (aside : Option (List Json)) (o : List Json)
    (rest : List Frame) → IsFrameOf 0 tree first aside → aside ≡ Some o
    → tree_of_frame o first ≡ tree → HasOthers tree o
    → HavePlace (first ∷ rest)
place tree first aside o [] is e t has = tt
place tree first aside o (second ∷ others) is e t has =
    let members = map (member_of o) first.entries in
    let layer : out-Json tree ≡ layers.Object members =
    ap out-Json (sym t) ∙ trees.outs-Object members in
    subst (λ ks. Contains ks (codes "file_frames")) (map-map first.entries) (has.key members layer)
  where
    map-map : (es : List Entry) → map (λ m. m.key) (map (member_of o) es) ≡ map (λ e. e.key) es
    map-map [] = refl
    map-map (x ∷ xs) = ap (λ ks. x.key ∷ ks) (map-map xs)

whole : (tree : Json) (first : Frame) (rest : List Frame) (others : List Json)
    → IsProper tree → HasShortLists tree → HasShortSpec tree
    → tree_of_frame others first ≡ tree → AllByRecursion (Fits true) first.entries
    → AreOthersOf others rest
    → HavePlace (first ∷ rest) → misfit_of_frame 0 tree ≡ None
    → first_along misfit_of_frame 1 others ≡ None → others ≡ other_frames tree
    → AnswersFile tree (Ok (record { frames = first ∷ rest }))
whole tree first rest others proper short version t fit are here none later same =
    let made : tree_of_file (record { frames = first ∷ rest }) ≡ tree =
    ap (λ os. tree_of_frame os first) are.have ∙ t in (
      made,
      record {
        fit = (fit, are.fit);
        place = here;
        proper = subst IsProper (sym made) proper;
        lists = subst HasShortLists (sym made) short;
        version = subst HasShortSpec (sym made) version;
      },
      ap (λ r. or_else r (first_along misfit_of_frame 1 (other_frames tree))) none
          ∙ ap (first_along misfit_of_frame 1) (sym same) ∙ later,
    )

pub file_whole : (tree : Json) (first : Frame) (aside : Option (List Json)) (frames : List Frame)
    → IsProper tree → HasShortLists tree → HasShortSpec tree → IsFrameOf 0 tree first aside
    → misfit_of_frame 0 tree ≡ None
    → AnswersOthers first (unwrap_or aside []) (Ok frames)
    → AnswersFile tree (Ok (record { frames = frames }))
file_whole tree first aside frames proper short version is none read = at aside refl
  where
    at : (o : Option (List Json)) → aside ≡ o → AnswersFile tree (Ok (record { frames = frames }))
    at None e =
        let has : HasTree first None tree = subst (λ a. HasTree first a tree) e is.has in
        let others : AnswersOthers first [] (Ok frames) =
        subst (λ a. AnswersOthers first (unwrap_or a []) (Ok frames)) e read in
        let same : [] ≡ other_frames tree = ap (λ a. unwrap_or a []) (sym e ∙ is.aside) in
        let nothing : others.0 ≡ [] = no_frames others.0 others.2.have in
        let answer =
        whole tree first others.0 [] proper short version (has []) is.fit others.2
        (subst (λ fs. HavePlace (first ∷ fs)) (sym nothing) tt) none others.3 same in
        subst (λ fs. AnswersFile tree (Ok (record { frames = fs }))) (sym others.1) answer
    at (Some o) e =
        let has : HasTree first (Some o) tree = subst (λ a. HasTree first a tree) e is.has in
        let others : AnswersOthers first o (Ok frames) =
        subst (λ a. AnswersOthers first (unwrap_or a []) (Ok frames)) e read in
        let same : o ≡ other_frames tree = ap (λ a. unwrap_or a []) (sym e ∙ is.aside) in
        let its = others_of tree o (record { distinct = proper.distinct; short = short })
        (sym is.aside ∙ e) in
        let answer =
        whole tree first others.0 o proper short version has is.fit others.2
        (place tree first aside o others.0 is e has its) none others.3 same in
        subst (λ fs. AnswersFile tree (Ok (record { frames = fs }))) (sym others.1) answer

pub read_by : (first : Frame) (aside : Option (List Json)) (others : List Json)
    (frames read : List Frame) → others ≡ unwrap_or aside [] → frames ≡ read
    → AnswersOthers first others (Ok read)
    → AnswersOthers first (unwrap_or aside []) (Ok frames)
read_by first aside others frames read o f answers =
    subst (λ os. AnswersOthers first os (Ok frames)) o
    (subst (λ fs. AnswersOthers first others (Ok fs)) (sym f) answers)

-- the first misfit after a first frame that has none
pub file_refused : (tree : Json) (first : Frame) (others : List Json) (fault : FoldFault)
    → misfit_of_frame 0 tree ≡ None → others ≡ other_frames tree
    → AnswersOthers first others (Err fault) → AnswersFile tree (Err fault)
file_refused tree first others (faults.Shape fault) none same answers =
    ap (λ r. or_else r (first_along misfit_of_frame 1 (other_frames tree))) none
    ∙ ap (first_along misfit_of_frame 1) (sym same) ∙ answers
file_refused tree first others (faults.Memory e) none same answers = tt
