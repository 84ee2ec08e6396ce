-- the entries of a frame, read one after the other
use Rattle.std.proofs.Common.{◌≡◌, ℕ, suc, ◌==◌, List, [], ◌∷◌, ◌++◌, map, cond, refl, sym, ◌∙◌, ap, subst, Bool, true, false, Option, Some, None, Ok, Err, arith}
use Rattle.std.specs.Prelude.{option_map, option_and_then, if◌then◌else◌, not, ◌||◌, ◌&&◌, codes}
use Rattle.std.specs.List.{AllByRecursion, list_all, find}
use Rattle.std.specs.Str.{bytes_eq}
use Rattle.std.proofs.lemmas.Bool.{false≢true}
use Rattle.std.proofs.lemmas.List.{map-append}
use Rattle.std.proofs.lemmas.Option.{same_Some}
use Rattle.std.proofs.lemmas.Slice.Eq.{bytes_eq-Decides}
use Rattle.json_tree.specs.At.{value_of}
use Rattle.json_tree.specs.Tree.{keys, HasKey, AreDistinct}
use Rattle.json_tree.specs.declared.tree.Json.{Json, out-Json, out-roll-Json}
use Rattle.json_tree.specs.declared.tree.Json.TheOpen as layers
use Rattle.json_tree.specs.declared.tree.Json.TheViews as trees
use Rattle.json_tree.specs.declared.tree.Member.{Member}
use Rattle.fold_keys.specs.Frames.{others_in, HaveMembers, IsEntryOf, AreEntriesOf, AnswersEntry, AnswersEntries}
use Rattle.fold_keys.specs.Reading.{Misfit}
use Rattle.fold_keys.specs.Shape.{kind_at, kind_by, items_of_layer, others_among, misfit_of_value, misfit_of_member, misfit_of_members}
use Rattle.fold_keys.specs.Trees.{member_of, tree_of_value}
use Rattle.fold_keys.specs.Writable.{IsOfKind, HasNoMisfit, Fits}
use Rattle.fold_keys.specs.declared.fault.ShapeFault.{ShapeFault}
use Rattle.fold_keys.specs.declared.fault.FoldFault.{FoldFault}
use Rattle.fold_keys.specs.declared.fault.FoldFault.TheVariants as faults
use Rattle.fold_keys.specs.declared.value.Entry.{Entry}
use Rattle.fold_keys.specs.declared.value.Value.{Value}
use Rattle.fold_keys.specs.declared.value.Value.TheVariants as values
use Rattle.std.specs.Option.{option_or}
use Rattle.json_tree.proofs.Distinct.{new_word}
use Rattle.fold_keys.proofs.Along.{along_here, along_more}
use Rattle.fold_keys.proofs.Layers.{of_list-List}
use Rattle.fold_keys.specs.Table.{Row, kind_in, file_rows, frame_rows, kind_in_first_frame}
use Rattle.fold_keys.specs.declared.kind.Kind.{Kind}
use Rattle.fold_keys.specs.declared.kind.Kind.TheVariants as kinds

-- ---- the first member with a key

pub key_same : (a b : List ℕ) → bytes_eq a b ≡ true → a ≡ b
key_same a b e = (bytes_eq-Decides a b).0 e

pub same_key : (a b : List ℕ) → a ≡ b → bytes_eq a b ≡ true
same_key a b e = (bytes_eq-Decides a b).1 e

pub value_head : (x : Member) (xs : List Member) (key : List ℕ) → bytes_eq x.key key ≡ true
    → value_of (x ∷ xs) key ≡ Some x.value
value_head x xs key e =
    ap (λ b. option_map (λ m. m.value) (cond b (Some x) (find (λ m. bytes_eq m.key key) xs))) e

pub value_tail : (x : Member) (xs : List Member) (key : List ℕ) → bytes_eq x.key key ≡ false
    → value_of (x ∷ xs) key ≡ value_of xs key
value_tail x xs key e =
    ap (λ b. option_map (λ m. m.value) (cond b (Some x) (find (λ m. bytes_eq m.key key) xs))) e

pub has_head : (x : Member) (xs : List Member) (key : List ℕ) → x.key ≡ key → HasKey (x ∷ xs) key
has_head x xs key e = (0, omega arith, e)

pub has_tail : (x : Member) (xs : List Member) (key : List ℕ) → HasKey xs key → HasKey (x ∷ xs) key
has_tail x xs key h = (suc h.0, omega (arith, h.1), h.2)

no_value : (xs : List Member) (key : List ℕ) → ¬ HasKey xs key → value_of xs key ≡ None
no_value [] key new = refl
no_value (x ∷ xs) key new =
    at (bytes_eq x.key key) refl (no_value xs key (λ h. new (has_tail x xs key h)))
  where
    at : (b : Bool) → bytes_eq x.key key ≡ b → value_of xs key ≡ None → value_of (x ∷ xs) key ≡ None
    at true e rest = absurd (new (has_head x xs key (key_same x.key key e)))
    at false e rest = value_tail x xs key e ∙ rest

-- a member with another key changes nothing
value_before : (xs : List Member) (m : Member) (key : List ℕ) → bytes_eq m.key key ≡ false
    → value_of (xs ++ m ∷ []) key ≡ value_of xs key
value_before [] m key e = value_tail m [] key e
value_before (x ∷ xs) m key e = at (bytes_eq x.key key) refl (value_before xs m key e)
  where
    at : (b : Bool) → bytes_eq x.key key ≡ b → value_of (xs ++ m ∷ []) key ≡ value_of xs key
        → value_of ((x ∷ xs) ++ m ∷ []) key ≡ value_of (x ∷ xs) key
    at true e' rest = value_head x (xs ++ m ∷ []) key e' ∙ sym (value_head x xs key e')
    at false e' rest = value_tail x (xs ++ m ∷ []) key e' ∙ rest ∙ sym (value_tail x xs key e')

value_last : (xs : List Member) (m : Member) (key : List ℕ) → ¬ HasKey xs key → m.key ≡ key
    → value_of (xs ++ m ∷ []) key ≡ Some m.value
value_last [] m key new e = value_head m [] key (same_key m.key key e)
value_last (x ∷ xs) m key new e =
    at (bytes_eq x.key key) refl (value_last xs m key (λ h. new (has_tail x xs key h)) e)
  where
    at : (b : Bool) → bytes_eq x.key key ≡ b → value_of (xs ++ m ∷ []) key ≡ Some m.value
        → value_of ((x ∷ xs) ++ m ∷ []) key ≡ Some m.value
    at true e' rest = absurd (new (has_head x xs key (key_same x.key key e')))
    at false e' rest = value_tail x (xs ++ m ∷ []) key e' ∙ rest

-- ---- the key of the other frames

-- the row of a key that has a kind
row_of : (p : Row → Bool) (rows : List Row) (key : List ℕ) (kind : Kind) → list_all p rows ≡ true
    → kind_in rows key ≡ Some kind
    → (row : Row) × (p row ≡ true) × (key ≡ row.key) × (row.kind ≡ kind)
row_of p [] key kind all e = absurd (none_some e)
  where
    none_some : None ≡ Some kind → ⊥
    none_some h = cc
row_of p (row ∷ rows) key kind all e =
    at (bytes_eq key row.key) refl (p row) refl (row_of p rows key kind)
  where
    at : (b : Bool) → bytes_eq key row.key ≡ b → (q : Bool) → p row ≡ q
        → (list_all p rows ≡ true → kind_in rows key ≡ Some kind
        → (r : Row) × (p r ≡ true) × (key ≡ r.key) × (r.kind ≡ kind))
        → (r : Row) × (p r ≡ true) × (key ≡ r.key) × (r.kind ≡ kind)
    at b h false q go =
        let clash : false ≡ true = ap (λ t. t && list_all p rows) (sym q) ∙ all in cc
    at true h true q go =
        let found : Some row.kind ≡ Some kind =
        ap (λ t. if t then Some row.kind else kind_in rows key) (sym h) ∙ e in
        (row, q, key_same key row.key h, same_Some row.kind kind found)
    at false h true q go =
        let rest : list_all p rows ≡ true = ap (λ t. t && list_all p rows) (sym q) ∙ all in
        let later : kind_in rows key ≡ Some kind =
        ap (λ t. if t then Some row.kind else kind_in rows key) (sym h) ∙ e in
        go rest later

-- a kind that stands at one key of the first frame alone
key_of : (is : Kind → Bool) (word : List ℕ) (kind : Kind) (first : Bool) (key : List ℕ)
    → is kind ≡ true
    → list_all (λ row. not (is row.kind) || bytes_eq row.key word) (file_rows ++ frame_rows) ≡ true
    → list_all (λ row. not (is row.kind)) frame_rows ≡ true → kind_by first key ≡ Some kind
    → (first ≡ true) × (key ≡ word)
key_of is word kind true key t here others e =
    let found = row_of (λ row. not (is row.kind) || bytes_eq row.key word)
    (file_rows ++ frame_rows) key kind here e in
    let test : is found.0.kind ≡ true = ap is found.3 ∙ t in (
      refl,
      found.2
          ∙ key_same found.0.key word
          (ap (λ b. not b || bytes_eq found.0.key word) (sym test) ∙ found.1),
    )
key_of is word kind false key t here others e =
    let found = row_of (λ row. not (is row.kind)) frame_rows key kind others e in
    let clash : false ≡ true = ap not (sym (ap is found.3 ∙ t)) ∙ found.1 in
    absurd (false≢true clash)

abbrev is_frames : Kind → Bool
is_frames kinds.Frames = true
is_frames kind = false

-- the other frames stand at one key of the first frame
pub frames_key : (first : Bool) (key : List ℕ) → kind_by first key ≡ Some kinds.Frames
    → (first ≡ true) × (key ≡ codes "file_frames")
frames_key first key e =
    key_of is_frames (codes "file_frames") kinds.Frames first key refl refl refl e

abbrev is_spec : Kind → Bool
is_spec kinds.Spec = true
is_spec kind = false

pub spec_key : (first : Bool) (key : List ℕ) → kind_by first key ≡ Some kinds.Spec
    → (first ≡ true) × (key ≡ codes "file_spec")
spec_key first key e = key_of is_spec (codes "file_spec") kinds.Spec first key refl refl refl e

abbrev pub others_by : Bool → List Member → Option (List Json)
others_by first members = if first then others_among members else None

pub no_others : (first : Bool) (members : List Member) → ¬ HasKey members (codes "file_frames")
    → others_by first members ≡ None
no_others true members new =
    ap (option_and_then (λ tree. items_of_layer (out-Json tree)))
    (no_value members (codes "file_frames") new)
no_others false members new = refl

pub same_others : (first : Bool) (members : List Member) (m : Member)
    → ¬ (kind_by first m.key ≡ Some kinds.Frames)
    → others_by first (members ++ m ∷ []) ≡ others_by first members
same_others false members m other = refl
same_others true members m other = at (bytes_eq m.key (codes "file_frames")) refl
  where
    at : (b : Bool) → bytes_eq m.key (codes "file_frames") ≡ b
        → others_by true (members ++ m ∷ []) ≡ others_by true members
    at true e = absurd (other (ap kind_in_first_frame (key_same m.key (codes "file_frames") e)))
    at false e =
        ap (option_and_then (λ tree. items_of_layer (out-Json tree)))
        (value_before members m (codes "file_frames") e)

pub items_of-List : (items : List Json) → items_of_layer (out-Json (trees.List items)) ≡ Some items
items_of-List items =
    ap (λ t. items_of_layer (out-Json t)) (sym (trees.rolls-List items))
    ∙ ap items_of_layer (out-roll-Json (layers.List items))

pub new_others : (members : List Member) (m : Member) (items : List Json)
    → m.key ≡ codes "file_frames" → ¬ HasKey members (codes "file_frames")
    → trees.List items ≡ m.value
    → others_by true (members ++ m ∷ []) ≡ Some items
new_others members m items e new is =
    ap (option_and_then (λ tree. items_of_layer (out-Json tree)))
    (value_last members m (codes "file_frames") new e)
    ∙ ap (λ t. items_of_layer (out-Json t)) (sym is) ∙ items_of-List items

-- ---- one more entry

-- what a member without a misfit says of its kind
no_misfit_at : (frame : ℕ) (m : Member) → misfit_of_member frame m ≡ None
    → HasNoMisfit (kind_at frame m.key) m.value
no_misfit_at frame m e = at (kind_at frame m.key) e
  where
    faulty : Misfit → ShapeFault
    faulty misfit =
        record { frame = frame; key = m.key; index = misfit.index; cause = misfit.cause }

    of_kind : (kind : Kind) (found : Option Misfit) → found ≡ misfit_of_value kind m.value
        → option_map faulty found ≡ None → misfit_of_value kind m.value ≡ None
    of_kind kind None is h = sym is
    of_kind kind (Some misfit) is h = cc

    at : (kind : Option Kind)
        → option_map {U = ShapeFault}
        (λ misfit. record {
          frame = frame;
          key = m.key;
          index = misfit.index;
          cause = misfit.cause;
        }) (option_and_then (λ k. misfit_of_value k m.value) kind) ≡ None
        → HasNoMisfit kind m.value
    at None h = tt
    at (Some kind) h = of_kind kind (misfit_of_value kind m.value) refl h

pub all_mapped : {X : Type 0} (P Q : X → Type 0) (xs : List X) → ((x : X) → P x → Q x)
    → AllByRecursion P xs → AllByRecursion Q xs
all_mapped P Q [] f all = tt
all_mapped P Q (x ∷ xs) f all = (f x all.0, all_mapped P Q xs f all.1)

pub all_more : {X : Type 0} (P : X → Type 0) (xs : List X) (x : X) → AllByRecursion P xs → P x
    → AllByRecursion P (xs ++ x ∷ [])
all_more P [] x all here = (here, tt)
all_more P (y ∷ ys) x all here = (all.0, all_more P ys x all.1 here)

member_is : (others : List Json) (entry : Entry) (m : Member) → entry.key ≡ m.key
    → tree_of_value others entry.value ≡ m.value → member_of others entry ≡ m
member_is others entry m k v = λ i. record { key = k i; value = v i }

shown_more : (others : List Json) (entries : List Entry) (entry : Entry) (members : List Member)
    (m : Member) → map (member_of others) entries ≡ members → member_of others entry ≡ m
    → map (member_of others) (entries ++ entry ∷ []) ≡ members ++ m ∷ []
shown_more others entries entry members m before here =
    map-append (member_of others) entries (entry ∷ []) ∙ (λ i. before i ++ here i ∷ [])

abbrev FitsAt : Option Kind → Value → Type 0
FitsAt kind value = IsOfKind kind value × HasNoMisfit kind (tree_of_value [] value)

frames_fit : (kind : Option Kind) (value : Value) → kind ≡ Some kinds.Frames
    → value ≡ values.Frames → FitsAt kind value
frames_fit kind value k v =
    let here : FitsAt (Some kinds.Frames) values.Frames = (tt, of_list-List (λ frame. None) []) in
    subst (λ q. FitsAt q value) (sym k) (subst (λ w. FitsAt (Some kinds.Frames) w) (sym v) here)

fits_by_key : (frame : ℕ) (m : Member) (entry : Entry) → entry.key ≡ m.key
    → FitsAt (kind_at frame m.key) entry.value → Fits (frame == 0) entry
fits_by_key frame m entry k fits =
    let p = subst (λ (key : List ℕ). FitsAt (kind_at frame key) entry.value) (sym k) fits in
    record { of_kind = p.0; no_misfit = p.1 }

fits_here : (frame : ℕ) (m : Member) (entry : Entry) (items : Option (List Json))
    → IsEntryOf frame m entry items → misfit_of_member frame m ≡ None → Fits (frame == 0) entry
fits_here frame m entry None is none =
    fits_by_key frame m entry is.0 (
      is.1.1,
      subst (HasNoMisfit (kind_at frame m.key)) (sym (is.1.0 []))
          (no_misfit_at frame m none),
    )
fits_here frame m entry (Some items) is none =
    fits_by_key frame m entry is.0 (frames_fit (kind_at frame m.key) entry.value is.2.1 is.1)

-- the first frame alone has the key of the other frames, and once
second_key : (first : Bool) (members : List Member) (m : Member) (o : List Json)
    → ¬ HasKey members m.key → Some o ≡ others_by first members
    → kind_by first m.key ≡ Some kinds.Frames → ⊥
second_key first members m o new aside kind =
    let word : m.key ≡ codes "file_frames" = (frames_key first m.key kind).1 in
    let clash : Some o ≡ None =
    aside ∙ no_others first members (λ h. new (subst (HasKey members) (sym word) h)) in
    some_none o clash
  where
    some_none : (x : List Json) → Some x ≡ None → ⊥
    some_none x e = cc

shown_here : (frame : ℕ) (members : List Member) (m : Member) (entries : List Entry)
    (entry : Entry) (others items : Option (List Json)) → ¬ HasKey members m.key
    → HaveMembers entries others members → others ≡ others_in frame members
    → IsEntryOf frame m entry items
    → HaveMembers (entries ++ entry ∷ []) (option_or others items) (members ++ m ∷ [])
shown_here frame members m entries entry None None new have aside is =
    λ o. shown_more o entries entry members m (have o) (member_is o entry m is.0 (is.1.0 o))
shown_here frame members m entries entry (Some o) None new have aside is =
    shown_more o entries entry members m have (member_is o entry m is.0 (is.1.0 o))
shown_here frame members m entries entry None (Some items) new have aside is =
    shown_more items entries entry members m (have items)
    (member_is items entry m is.0 (ap (tree_of_value items) is.1 ∙ is.2.0))
shown_here frame members m entries entry (Some o) (Some items) new have aside is =
    absurd (second_key (frame == 0) members m o new aside is.2.1)

aside_here : (first : Bool) (members : List Member) (m : Member) (items : List Json)
    → ¬ HasKey members m.key → kind_by first m.key ≡ Some kinds.Frames → trees.List items ≡ m.value
    → (others_by first (members ++ m ∷ []) ≡ Some items) × (others_by first members ≡ None)
aside_here false members m items new kind is = absurd (false≢true (frames_key false m.key kind).0)
aside_here true members m items new kind is =
    let word : m.key ≡ codes "file_frames" = (frames_key true m.key kind).1 in
    let none : ¬ HasKey members (codes "file_frames") =
    λ h. new (subst (HasKey members) (sym word) h) in
    (new_others members m items word none is, no_others true members none)

aside_more : (frame : ℕ) (members : List Member) (m : Member) (entry : Entry)
    (others items : Option (List Json)) → ¬ HasKey members m.key
    → others ≡ others_in frame members → IsEntryOf frame m entry items
    → option_or others items ≡ others_in frame (members ++ m ∷ [])
aside_more frame members m entry None None new aside is =
    aside ∙ sym (same_others (frame == 0) members m is.1.2)
aside_more frame members m entry (Some o) None new aside is =
    aside ∙ sym (same_others (frame == 0) members m is.1.2)
aside_more frame members m entry None (Some items) new aside is =
    sym (aside_here (frame == 0) members m items new is.2.1 is.2.0).0
aside_more frame members m entry (Some o) (Some items) new aside is =
    absurd (second_key (frame == 0) members m o new aside is.2.1)

pub entry_more : (frame : ℕ) (members : List Member) (m : Member) (entries : List Entry)
    (entry : Entry) (others items : Option (List Json)) → ¬ HasKey members m.key
    → AreEntriesOf frame members entries others → IsEntryOf frame m entry items
    → misfit_of_member frame m ≡ None
    → AreEntriesOf frame (members ++ m ∷ []) (entries ++ entry ∷ []) (option_or others items)
entry_more frame members m entries entry others items new are is none = record {
  have = shown_here frame members m entries entry others items new are.have are.aside is;
  fit = all_more (Fits (frame == 0)) entries entry are.fit (fits_here frame m entry items is none);
  aside = aside_more frame members m entry others items new are.aside is;
}

pub entry_read : (frame : ℕ) (members : List Member) (m : Member) (entries pushed : List Entry)
    (entry : Entry) (others items after : Option (List Json)) → pushed ≡ entries ++ entry ∷ []
    → after ≡ option_or others items → ¬ HasKey members m.key
    → AreEntriesOf frame members entries others → IsEntryOf frame m entry items
    → misfit_of_member frame m ≡ None
    → AreEntriesOf frame (members ++ m ∷ []) pushed after
entry_read frame members m entries pushed entry others items after p a new are is none =
    subst (λ es. AreEntriesOf frame (members ++ m ∷ []) es after) (sym p)
    (subst (AreEntriesOf frame (members ++ m ∷ []) (entries ++ entry ∷ [])) (sym a)
    (entry_more frame members m entries entry others items new are is none))

pub member_fits : (frame : ℕ) (members : List Member) (m : Member)
    → misfit_of_members frame members ≡ None → misfit_of_member frame m ≡ None
    → misfit_of_members frame (members ++ m ∷ []) ≡ None
member_fits frame members m before here =
    along_more (λ place x. misfit_of_member frame x) members m before here

-- the keys of a front
pub key_is_new : (given front rest : List Member) (m : Member) → given ≡ front ++ m ∷ rest
    → AreDistinct (keys given) → ¬ HasKey front m.key
key_is_new given front rest m split distinct =
    new_word (keys front) (keys rest) m.key
    (subst AreDistinct (ap keys split ∙ map-append (λ x. x.key) front (m ∷ rest)) distinct)

pub entries_refused : (frame : ℕ) (given front rest : List Member) (m : Member) (fault : FoldFault)
    → given ≡ front ++ m ∷ rest → misfit_of_members frame front ≡ None
    → AnswersEntry frame m (Err fault)
    → AnswersEntries frame given (Err fault)
entries_refused frame given front rest m (faults.Shape fault) split before here =
    ap (misfit_of_members frame) split
    ∙ along_here (λ place x. misfit_of_member frame x) front m rest fault before here
entries_refused frame given front rest m (faults.Memory e) split before here = tt

pub entries_whole : (frame : ℕ) (given front : List Member) (entries : List Entry)
    (others : Option (List Json)) → given ≡ front → AreEntriesOf frame front entries others
    → misfit_of_members frame front ≡ None
    → AnswersEntries frame given (Ok (entries, others))
entries_whole frame given front entries others all are none =
    subst (λ ms. AreEntriesOf frame ms entries others × (misfit_of_members frame ms ≡ None))
    (sym all) (are, none)
