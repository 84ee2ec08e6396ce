-- the tree of a writable file has no misfit, and no other writable file has it
use Rattle.std.proofs.Common.{◌≡◌, ◌⊎◌, inl, inr, ℕ, suc, ◌==◌, ◌<◌, List, [], ◌∷◌, map, length, refl, sym, ◌∙◌, ap, subst, Bool, true, false, Option, Some, None, Result, Ok, Err, arith}
use Rattle.std.specs.Prelude.{Contains, codes, option_map, option_and_then, slice_index_or}
use Rattle.std.specs.List.{AllByRecursion}
use Rattle.std.specs.Option.{unwrap_or}
use Rattle.std.specs.Str.{bytes_eq}
use Rattle.std.proofs.lemmas.Bool.{ne_eqb}
use Rattle.std.proofs.lemmas.Option.{same_Some}
use Rattle.json_tree.specs.declared.tree.Json.{Json, out-Json}
use Rattle.json_tree.specs.declared.tree.Json.TheViews as trees
use Rattle.json_tree.specs.declared.tree.Member.{Member}
use Rattle.fold_keys.specs.Along.{first_along, or_else}
use Rattle.fold_keys.specs.Frames.{AnswersFile, LacksMemory}
use Rattle.fold_keys.specs.Shape.{kind_by, kind_at, misfit_of_value, misfit_of_member, misfit_of_frame_layer, misfit_of_frame, misfit_of_file, items_of_layer, others_among, others_of_layer, other_frames}
use Rattle.fold_keys.specs.Trees.{tree_of_value, member_of, tree_of_frame, tree_of_frames, tree_of_file}
use Rattle.fold_keys.specs.Writable.{IsOfKind, HasNoMisfit, Fits, FitsOther, Fit, HavePlace, IsWritable}
use Rattle.fold_keys.specs.declared.fault.FoldFault.{FoldFault}
use Rattle.fold_keys.specs.declared.fault.FoldFault.TheVariants as faults
use Rattle.fold_keys.specs.declared.fault.ShapeFault.{ShapeFault}
use Rattle.fold_keys.specs.declared.kind.Kind.{Kind}
use Rattle.fold_keys.specs.declared.kind.Kind.TheVariants as kinds
use Rattle.fold_keys.specs.declared.value.Entry.{Entry}
use Rattle.fold_keys.specs.declared.value.FoldFile.{FoldFile}
use Rattle.fold_keys.specs.declared.value.Frame.{Frame}
use Rattle.fold_keys.specs.declared.value.Value.{Value}
use Rattle.fold_keys.specs.declared.value.Value.TheVariants as values
use Rattle.fold_keys.proofs.Along.{none_along}
use Rattle.fold_keys.proofs.Entries.{key_same, same_key, value_head, value_tail, items_of-List}
use Rattle.fold_keys.proofs.Layers.{of_list-List}
use Rattle.fold_keys.proofs.OneValue.{one_value, place_in, same_members}

-- ---- no misfit

fits_among : (v : Value) (kind : Option Kind) (others : List Json) → IsOfKind kind v
    → HasNoMisfit kind (tree_of_value [] v) → HasNoMisfit kind (tree_of_value others v)
fits_among values.Frames (Some kinds.Frames) others h m =
    of_list-List (λ frame. None) others ∙ none_along 0 others
fits_among values.Frames kind others h m = absurd h
fits_among v kind others h m = m

no_misfit_by : (frame : ℕ) (m : Member) (kind : Option Kind) → HasNoMisfit kind m.value
    → option_map {U = ShapeFault}
    (λ misfit. record { frame = frame; key = m.key; index = misfit.index; cause = misfit.cause })
    (option_and_then (λ k. misfit_of_value k m.value) kind) ≡ None
no_misfit_by frame m None h = refl
no_misfit_by frame m (Some kind) h =
    ap (option_map {U = ShapeFault}
    (λ misfit. record { frame = frame; key = m.key; index = misfit.index; cause = misfit.cause })) h

entry_fits : (frame : ℕ) (others : List Json) (e : Entry) → Fits (frame == 0) e
    → misfit_of_member frame (member_of others e) ≡ None
entry_fits frame others e fits =
    no_misfit_by frame (member_of others e) (kind_at frame e.key)
    (fits_among e.value (kind_at frame e.key) others fits.of_kind fits.no_misfit)

entries_fit : (frame : ℕ) (others : List Json) (es : List Entry) (from : ℕ)
    → AllByRecursion (Fits (frame == 0)) es
    → first_along (λ place m. misfit_of_member frame m) from (map (member_of others) es) ≡ None
entries_fit frame others [] from fits = refl
entries_fit frame others (e ∷ es) from fits =
    ap (λ o. or_else o (first_along (λ place m. misfit_of_member frame m) (suc from)
    (map (member_of others) es))) (entry_fits frame others e fits.0)
    ∙ entries_fit frame others es (suc from) fits.1

frame_fits : (number : ℕ) (others : List Json) (f : Frame)
    → AllByRecursion (Fits (number == 0)) f.entries
    → misfit_of_frame number (tree_of_frame others f) ≡ None
frame_fits number others f fits =
    ap (misfit_of_frame_layer number) (trees.outs-Object (map (member_of others) f.entries))
    ∙ entries_fit number others f.entries 0 fits

later : (from : ℕ) → 0 < from → (from == 0) ≡ false
later from some = ne_eqb from 0 (λ e. omega (arith, e, some))

others_fit : (from : ℕ) (fs : List Frame) → 0 < from → AllByRecursion FitsOther fs
    → first_along misfit_of_frame from (map (tree_of_frame []) fs) ≡ None
others_fit from [] some fits = refl
others_fit from (f ∷ fs) some fits =
    let here = subst (λ b. AllByRecursion (Fits b) f.entries) (sym (later from some)) fits.0 in
    ap (λ o. or_else o (first_along misfit_of_frame (suc from) (map (tree_of_frame []) fs)))
    (frame_fits from [] f here)
    ∙ others_fit (suc from) fs (omega arith) fits.1

-- ---- the other frames stand at their place, if there is one

abbrev word : List ℕ
word = codes "file_frames"

abbrev pub Keys : List Entry → List (List ℕ)
Keys es = map (λ e. e.key) es

keep_tail : (e : Entry) (es : List Entry) → bytes_eq e.key word ≡ false
    → Contains (Keys (e ∷ es)) word
    → Contains (Keys es) word
keep_tail e es other has = at has.0 has.1 has.2
  where
    at : (k : ℕ) → k < length (Keys (e ∷ es)) → slice_index_or (Keys (e ∷ es)) k word ≡ word
        → Contains (Keys es) word
    at Prim.Native.Nat.zero within same =
        let clash : false ≡ true = sym other ∙ same_key e.key word same in
        no_clash clash
      where
        no_clash : false ≡ true → Contains (Keys es) word
        no_clash e = cc
    at (suc k) within same = (k, omega (arith, within), same)

abbrev pub IsAside : List Json → List Entry → Type 0
IsAside os es = (others_among (map (member_of os) es) ≡ Some os)
    ⊎ ((others_among (map (member_of os) es) ≡ None) × ¬ Contains (Keys es) word)

pub place_of : (os : List Json) (es : List Entry) → AllByRecursion (Fits true) es → IsAside os es
place_of os [] fits = inr (refl, λ h. absurd (omega (arith, h.1)))
place_of os (e ∷ es) fits = at (bytes_eq e.key word) refl (place_of os es fits.1)
  where
    ms : List Member
    ms = map (member_of os) es

    among : Option Json → Option (List Json)
    among o = option_and_then (λ tree. items_of_layer (out-Json tree)) o

    at : (b : Bool) → bytes_eq e.key word ≡ b → IsAside os es → IsAside os (e ∷ es)
    at true h rest =
        let kind : IsOfKind (kind_by true word) e.value =
        subst (λ k. IsOfKind (kind_by true k) e.value) (key_same e.key word h) fits.0.of_kind in
        inl (ap among (value_head (member_of os e) ms word h)
        ∙ ap (λ v. items_of_layer (out-Json (tree_of_value os v))) (place_in e.value kind)
        ∙ items_of-List os)
    at false h (inl p) = inl (ap among (value_tail (member_of os e) ms word h) ∙ p)
    at false h (inr p) = inr (
      ap among (value_tail (member_of os e) ms word h) ∙ p.0,
      λ has. p.1 (keep_tail e es h has),
    )

pub no_others : (first : Frame) (others : List Frame) → HavePlace (first ∷ others)
    → ¬ Contains (Keys first.entries) word → map (tree_of_frame []) others ≡ []
no_others first [] place none = refl
no_others first (second ∷ others) place none = absurd (none place)

others_kept : (first : Frame) (others : List Frame) → AllByRecursion (Fits true) first.entries
    → HavePlace (first ∷ others)
    → other_frames (tree_of_frame (map (tree_of_frame []) others) first) ≡ map
    (tree_of_frame []) others
others_kept first others fits place =
    ap (λ layer. unwrap_or (others_of_layer layer) [])
    (trees.outs-Object (map (member_of os) first.entries))
    ∙ at (place_of os first.entries fits)
  where
    os : List Json
    os = map (tree_of_frame []) others

    at : IsAside os first.entries
        → unwrap_or (others_among (map (member_of os) first.entries)) [] ≡ os
    at (inl p) = ap (λ o. unwrap_or o []) p
    at (inr p) = ap (λ o. unwrap_or o []) p.0 ∙ sym (no_others first others place p.1)

frames_fit : (frames : List Frame) → Fit frames → HavePlace frames
    → misfit_of_file (tree_of_frames frames) ≡ None
frames_fit [] fit place = absurd fit
frames_fit (first ∷ others) fit place =
    let tree = tree_of_frame (map (tree_of_frame []) others) first in
    ap (λ o. or_else o (first_along misfit_of_frame 1 (other_frames tree)))
    (frame_fits 0 (map (tree_of_frame []) others) first fit.0)
    ∙ ap (first_along misfit_of_frame 1) (others_kept first others fit.0 place)
    ∙ others_fit 1 others (omega arith) fit.1

pub written_fits : (file : FoldFile) → IsWritable file → misfit_of_file (tree_of_file file) ≡ None
written_fits file is = frames_fit file.frames is.fit is.place

-- ---- one file

head_of : {X : Type 0} (x y : X) (xs ys : List X) → x ∷ xs ≡ y ∷ ys → x ≡ y
head_of x y xs ys e = cc

tail_of : {X : Type 0} (x y : X) (xs ys : List X) → x ∷ xs ≡ y ∷ ys → xs ≡ ys
tail_of x y xs ys e = cc

one_entry : (first : Bool) (os ps : List Json) (e f : Entry) → Fits first e → Fits first f
    → member_of os e ≡ member_of ps f → e ≡ f
one_entry first os ps e f a b same =
    let key : e.key ≡ f.key = ap (λ (m : Member). m.key) same in
    let kind = subst (λ k. IsOfKind (kind_by first k) f.value) (sym key) b.of_kind in
    let value = one_value (kind_by first e.key) os ps e.value f.value a.of_kind kind a.no_misfit
    (ap (λ (m : Member). m.value) same) in
    λ i. record { key = key i; value = value i }

one_entries : (first : Bool) (os ps : List Json) (es fs : List Entry)
    → AllByRecursion (Fits first) es
    → AllByRecursion (Fits first) fs → map (member_of os) es ≡ map (member_of ps) fs → es ≡ fs
one_entries first os ps [] [] a b same = refl
one_entries first os ps [] (f ∷ fs) a b same = cc
one_entries first os ps (e ∷ es) [] a b same = cc
one_entries first os ps (e ∷ es) (f ∷ fs) a b same =
    let here = one_entry first os ps e f a.0 b.0
    (head_of (member_of os e) (member_of ps f) (map (member_of os) es)
    (map (member_of ps) fs) same) in
    let rest = one_entries first os ps es fs a.1 b.1
    (tail_of (member_of os e) (member_of ps f) (map (member_of os) es)
    (map (member_of ps) fs) same) in
    λ i. here i ∷ rest i

one_frame : (first : Bool) (os ps : List Json) (f g : Frame) → AllByRecursion (Fits first) f.entries
    → AllByRecursion (Fits first) g.entries → tree_of_frame os f ≡ tree_of_frame ps g → f ≡ g
one_frame first os ps f g a b same =
    let entries = one_entries first os ps f.entries g.entries a b
    (same_members (map (member_of os) f.entries) (map (member_of ps) g.entries) same) in
    λ i. record { entries = entries i }

other_ones : (fs gs : List Frame) → AllByRecursion FitsOther fs → AllByRecursion FitsOther gs
    → map (tree_of_frame []) fs ≡ map (tree_of_frame []) gs → fs ≡ gs
other_ones [] [] a b same = refl
other_ones [] (g ∷ gs) a b same = cc
other_ones (f ∷ fs) [] a b same = cc
other_ones (f ∷ fs) (g ∷ gs) a b same =
    let here = one_frame false [] [] f g a.0 b.0
    (head_of (tree_of_frame [] f) (tree_of_frame [] g) (map (tree_of_frame []) fs)
    (map (tree_of_frame []) gs) same) in
    let rest = other_ones fs gs a.1 b.1
    (tail_of (tree_of_frame [] f) (tree_of_frame [] g) (map (tree_of_frame []) fs)
    (map (tree_of_frame []) gs) same) in
    λ i. here i ∷ rest i

one_file : (fs gs : List Frame) → Fit fs → HavePlace fs → Fit gs → HavePlace gs
    → tree_of_frames fs ≡ tree_of_frames gs → fs ≡ gs
one_file [] gs a place b there same = absurd a
one_file (f ∷ fs) [] a place b there same = absurd b
one_file (f ∷ fs) (g ∷ gs) a place b there same =
    let here = one_frame true os ps f g a.0 b.0 same in
    let others = at (place_of os f.entries a.0) (place_of ps g.entries b.0) in
    let rest = other_ones fs gs a.1 b.1 others in
    λ i. here i ∷ rest i
  where
    os : List Json
    os = map (tree_of_frame []) fs

    ps : List Json
    ps = map (tree_of_frame []) gs

    members : map (member_of os) f.entries ≡ map (member_of ps) g.entries
    members = same_members (map (member_of os) f.entries) (map (member_of ps) g.entries) same

    no_place : (xs : List Json) → Some xs ≡ None → os ≡ ps
    no_place xs e = cc

    at : IsAside os f.entries → IsAside ps g.entries → os ≡ ps
    at (inl p) (inl q) = same_Some os ps (sym p ∙ ap others_among members ∙ q)
    at (inl p) (inr q) = no_place os (sym p ∙ ap others_among members ∙ q.0)
    at (inr p) (inl q) = no_place ps (sym q ∙ ap others_among (sym members) ∙ p.0)
    at (inr p) (inr q) = no_others f fs place p.1 ∙ sym (no_others g gs there q.1)

pub one_written : (f g : FoldFile) → IsWritable f → IsWritable g → tree_of_file f ≡ tree_of_file g
    → f ≡ g
one_written f g a b same =
    let frames = one_file f.frames g.frames a.fit a.place b.fit b.place same in
    λ i. record { frames = frames i }

pub answers_written : (tree : Json) (r : Result FoldFile FoldFault) → AnswersFile tree r
    → (file : FoldFile)
    → IsWritable file → tree_of_file file ≡ tree → (r ≡ Ok file) ⊎ LacksMemory r
answers_written tree (Ok read) answer file is same =
    inl (ap Ok (one_written read file answer.1 is (answer.0 ∙ sym same)))
answers_written tree (Err (faults.Shape fault)) answer file is same =
    no_fault (sym answer ∙ ap misfit_of_file (sym same) ∙ written_fits file is)
  where
    no_fault : Some fault ≡ None
        → (Err (faults.Shape fault) ≡ Ok file) ⊎ LacksMemory (Err (faults.Shape fault))
    no_fault e = cc
answers_written tree (Err (faults.Memory e)) answer file is same = inr tt
