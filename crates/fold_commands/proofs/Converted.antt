-- a file with one of its frames alone
use Rattle.std.proofs.Common.{◌≡◌, ℕ, List, [], ◌∷◌, ◌++◌, map, filter, cond, refl, sym, ◌∙◌, ap, subst, Bool, true, false, Result, Ok, Err, IfOk}
use Rattle.std.specs.Prelude.{codes, ◌||◌}
use Rattle.std.specs.List.{AllByRecursion, IsDistinct, starts_with}
use Rattle.std.specs.Str.{bytes_eq}
use Rattle.std.proofs.Math.Dec.{eqb}
use Rattle.std.proofs.lemmas.Bool.{and_parts, false≢true}
use Rattle.std.proofs.lemmas.Map.Keys.{IsDistinct-cons, IsDistinct-head, IsDistinct-tail}
use Rattle.std.proofs.lemmas.Map.Made.{AllPairs-from_IsDistinct, IsDistinct-from_AllPairs}
use Rattle.std.proofs.lemmas.Slice.Eq.{bytes_eq-Decides}
use Rattle.fold_frames.specs.Effects.{AreInEffect}
use Rattle.fold_frames.specs.Inherits.{is_left_out}
use Rattle.fold_keys.specs.Writable.{IsWritable, IsWritableEntry, AreWritable, HaveWritable, file_of}
use Rattle.fold_keys.specs.declared.value.Entry.{Entry}
use Rattle.fold_keys.specs.declared.value.FoldFile.{FoldFile}
use Rattle.fold_keys.specs.declared.value.Frame.{Frame}
use Rattle.fold_commands.specs.Outcome.{is_of_file, of_file}

abbrev keys : List Entry → List (List ℕ)
keys es = map (λ e. e.key) es

abbrev picked : List Entry → List Entry
picked es = filter (λ e. is_of_file e.key) es

all_picked : (P : Entry → Type 0) (es : List Entry) → AllByRecursion P es
    → AllByRecursion P (picked es)
all_picked P [] all = tt
all_picked P (e ∷ es) all = at (is_of_file e.key) (all_picked P es all.1)
  where
    at : (b : Bool) → AllByRecursion P (picked es)
        → AllByRecursion P (cond b (e ∷ picked es) (picked es))
    at true rest = (all.0, rest)
    at false rest = rest

all_both : (P : Entry → Type 0) (es fs : List Entry) → AllByRecursion P es → AllByRecursion P fs
    → AllByRecursion P (es ++ fs)
all_both P [] fs front rest = rest
all_both P (e ∷ es) fs front rest = (front.0, all_both P es fs front.1 rest)

all_keys : (P : List ℕ → Type 0) (es : List Entry) → AllByRecursion (λ e. P e.key) es
    → AllByRecursion P (keys es)
all_keys P [] all = tt
all_keys P (e ∷ es) all = (all.0, all_keys P es all.1)

of_keys : (P : List ℕ → Type 0) (es : List Entry) → AllByRecursion P (keys es)
    → AllByRecursion (λ e. P e.key) es
of_keys P [] all = tt
of_keys P (e ∷ es) all = (all.0, of_keys P es all.1)

-- no key of an effective frame is one of the file
left_out : (key : List ℕ) → is_of_file key ≡ true → is_left_out key ≡ true
left_out key of =
    let begins : starts_with eqb key (codes "file_") ≡ true =
    (and_parts (starts_with eqb key (codes "file_")) _ of).0 in
    ap (λ b. b || (bytes_eq key (codes "frame_parent") || bytes_eq key (codes "frame_inherit"))) begins

apart : (key : List ℕ) → is_of_file key ≡ true → (fs : List Entry)
    → AllByRecursion (λ e. is_left_out e.key ≡ false) fs
    → AllByRecursion (λ e. bytes_eq key e.key ≡ false) fs
apart key of [] kept = tt
apart key of (f ∷ fs) kept = (at (bytes_eq key f.key) refl, apart key of fs kept.1)
  where
    at : (b : Bool) → bytes_eq key f.key ≡ b → b ≡ false
    at false e = refl
    at true e =
        let same : key ≡ f.key = (bytes_eq-Decides key f.key).0 e in
        absurd (false≢true (sym kept.0 ∙ ap is_left_out (sym same) ∙ left_out key of))

distinct : (es fs : List Entry) → IsDistinct bytes_eq (keys es) → IsDistinct bytes_eq (keys fs)
    → AllByRecursion (λ e. is_left_out e.key ≡ false) fs
    → IsDistinct bytes_eq (keys (picked es ++ fs))
distinct [] fs front rest kept = rest
distinct (e ∷ es) fs front rest kept =
    at (is_of_file e.key) refl
    (distinct es fs (IsDistinct-tail bytes_eq e.key (keys es) front) rest kept)
  where
    at : (b : Bool) → is_of_file e.key ≡ b → IsDistinct bytes_eq (keys (picked es ++ fs))
        → IsDistinct bytes_eq (keys (cond b (e ∷ picked es) (picked es) ++ fs))
    at false of later = later
    at true of later =
        let front_apart = of_keys (λ y. bytes_eq e.key y ≡ false) es
        (IsDistinct-head bytes_eq e.key (keys es) front) in
        let all = all_both (λ x. bytes_eq e.key x.key ≡ false) (picked es) fs
        (all_picked (λ x. bytes_eq e.key x.key ≡ false) es front_apart) (apart e.key of fs kept) in
        IsDistinct-cons bytes_eq e.key (keys (picked es ++ fs))
        (all_keys (λ y. bytes_eq e.key y ≡ false) (picked es ++ fs) all) later

by_frames : (frames : List Frame) → HaveWritable frames → (fs : List Entry) → AreInEffect fs
    → AreWritable true (of_file (record { frames = frames }) ++ fs)
by_frames [] have fs are = absurd have
by_frames (first ∷ others) have fs are =
    let es = first.entries in
    let front : IsDistinct bytes_eq (keys es) =
    IsDistinct-from_AllPairs bytes_eq-Decides (keys es) have.0.distinct in
    let rest : IsDistinct bytes_eq (keys fs) =
    IsDistinct-from_AllPairs bytes_eq-Decides (keys fs) are.writable.distinct in
    record {
      distinct = AllPairs-from_IsDistinct bytes_eq-Decides (keys (picked es ++ fs))
          (distinct es fs front rest are.kept);
      each = all_both (IsWritableEntry true) (picked es) fs
          (all_picked (IsWritableEntry true) es have.0.each) are.writable.each;
    }

-- what is made of them can be written
pub made_writable : {E : Type 0} (file : FoldFile) (entries own : List Entry) (made : Result FoldFile E)
    → HaveWritable file.frames → AreInEffect own
    → ((es : List Entry) → AreWritable true es → IsWritable (file_of es))
    → entries ≡ of_file file ++ own → IfOk made (λ f. f ≡ file_of entries) → IfOk made IsWritable
made_writable file entries own (Ok f) have are make same is =
    subst IsWritable (sym (is ∙ ap file_of same))
    (make (of_file file ++ own) (by_frames file.frames have own are))
made_writable file entries own (Err e) have are make same is = tt
