-- the frames after the first, read one after the other
use Rattle.std.proofs.Common.{◌≡◌, ℕ, ◌+◌, ◌<◌, ◌==◌, List, [], ◌∷◌, ◌++◌, length, sym, ◌∙◌, ap, subst, false, Option, None, Err, arith, length-append}
use Rattle.std.specs.Prelude.{if◌then◌else◌}
use Rattle.std.specs.List.{AllByRecursion}
use Rattle.std.proofs.lemmas.Bool.Decides.{nat_tests}
use Rattle.std.proofs.lemmas.List.{map-append, length-map}
use Rattle.json_tree.specs.declared.tree.Json.{Json, Json-F, out-Json}
use Rattle.json_tree.specs.declared.tree.Json.TheOpen as layers
use Rattle.json_tree.specs.declared.tree.Member.{Member}
use Rattle.fold_keys.specs.Along.{first_along}
use Rattle.fold_keys.specs.Frames.{HasTree, IsFrameOf, AreOthersOf, AnswersFrame, AnswersOthers, IsReadable, IsReadableLayer, IsReadableMember}
use Rattle.fold_keys.specs.Shape.{kind_by, misfit_of_frame, others_of_layer}
use Rattle.fold_keys.specs.Trees.{tree_of_frame}
use Rattle.fold_keys.specs.Writable.{Fits, FitsOther}
use Rattle.fold_keys.specs.declared.fault.FoldFault.{FoldFault}
use Rattle.fold_keys.specs.declared.fault.FoldFault.TheVariants as faults
use Rattle.fold_keys.specs.declared.value.Frame.{Frame}
use Rattle.fold_keys.proofs.Along.{along_here_from, along_more_from}
use Rattle.fold_keys.proofs.Entries.{all_more, all_mapped}

not_first : (number : ℕ) → 0 < number → (number == 0) ≡ false
not_first number h = grind (arith, nat_tests)

-- a frame after the first has its tree whatever the other frames are, and no frames in it
alone : (number : ℕ) (tree : Json) (frame : Frame) (aside : Option (List Json)) → 0 < number
    → IsFrameOf number tree frame aside → (tree_of_frame [] frame ≡ tree) × FitsOther frame
alone number tree frame aside later is =
    let other = not_first number later in
    let none : aside ≡ None =
    is.aside ∙ ap (λ b. if b then others_of_layer (out-Json tree) else None) other in
    let has : HasTree frame None tree = subst (λ o. HasTree frame o tree) none is.has in
    (has [], subst (λ b. AllByRecursion (Fits b) frame.entries) other is.fit)

abbrev pub AreRead : Frame → List Frame → List Json → Type 0
AreRead first frames trees =
    (others : List Frame) × (frames ≡ first ∷ others) × AreOthersOf trees others

pub counted : (first : Frame) (frames : List Frame) (trees : List Json)
    → AreRead first frames trees → length frames ≡ 1 + length trees
counted first frames trees read =
    let n : length read.0 ≡ length trees =
    sym (length-map read.0 (tree_of_frame [])) ∙ ap length read.2.have in
    omega (arith, ap length read.1, n)

all_at : {X : Type 0} (P : X → Type 0) (front rest : List X) (x : X)
    → AllByRecursion P (front ++ x ∷ rest) → P x
all_at P [] rest x all = all.0
all_at P (y ∷ ys) rest x all = all_at P ys rest x all.1

pub frame_more : (first : Frame) (frames pushed : List Frame) (trees : List Json) (tree : Json)
    (frame : Frame) (number : ℕ) (aside : Option (List Json)) → number ≡ length frames
    → pushed ≡ frames ++ frame ∷ [] → AreRead first frames trees
    → IsFrameOf number tree frame aside → AreRead first pushed (trees ++ tree ∷ [])
frame_more first frames pushed trees tree frame number aside n p read is =
    let count = counted first frames trees read in
    let one = alone number tree frame aside (omega (arith, n, count)) is in (
      read.0 ++ frame ∷ [],
      p ∙ ap (λ fs. fs ++ frame ∷ []) read.1,
      record {
        have = map-append (tree_of_frame []) read.0 (frame ∷ [])
            ∙ (λ i. read.2.have i ++ one.0 i ∷ []);
        fit = all_more FitsOther read.0 frame read.2.fit one.1;
      },
    )

pub frame_fits : (first : Frame) (frames : List Frame) (trees : List Json) (tree : Json)
    (number : ℕ) → number ≡ length frames → AreRead first frames trees
    → first_along misfit_of_frame 1 trees ≡ None → misfit_of_frame number tree ≡ None
    → first_along misfit_of_frame 1 (trees ++ tree ∷ []) ≡ None
frame_fits first frames trees tree number n read none here =
    let count : number ≡ 1 + length trees = n ∙ counted first frames trees read in
    along_more_from misfit_of_frame 1 trees tree none
    (ap (λ k. misfit_of_frame k tree) (sym count) ∙ here)

pub others_refused : (first : Frame) (frames : List Frame) (given front rest : List Json)
    (tree : Json) (number : ℕ) (fault : FoldFault) → given ≡ front ++ tree ∷ rest
    → number ≡ length frames
    → AreRead first frames front → first_along misfit_of_frame 1 front ≡ None
    → AnswersFrame number tree (Err fault) → AnswersOthers first given (Err fault)
others_refused first frames given front rest tree number
    (faults.Shape fault) split n read none here =
    let count : number ≡ 1 + length front = n ∙ counted first frames front read in
    ap (first_along misfit_of_frame 1) split
    ∙ along_here_from misfit_of_frame 1 front tree rest fault none
    (ap (λ k. misfit_of_frame k tree) (sym count) ∙ here)
others_refused first frames given front rest tree number (faults.Memory e) split n read none here =
    tt

pub counted_within : (first : Frame) (frames : List Frame) (given front rest : List Json)
    (tree : Json) → given ≡ front ++ tree ∷ rest → AreRead first frames front
    → length frames < 1 + length given
counted_within first frames given front rest tree split read =
    omega (
      arith,
      counted first frames front read,
      ap length split,
      length-append front (tree ∷ rest),
    )

-- a frame after the first is read as the second is
pub readable_there : (given front rest : List Json) (tree : Json) (number : ℕ)
    → given ≡ front ++ tree ∷ rest → 0 < number → AllByRecursion (IsReadable 1) given
    → IsReadable number tree
readable_there given front rest tree number split later all =
    let here : IsReadable 1 tree =
    all_at (IsReadable 1) front rest tree (subst (AllByRecursion (IsReadable 1)) split all) in
    by_number tree number (not_first number later) here
  where
    member_by : (number : ℕ) → (number == 0) ≡ false → (m : Member) → IsReadableMember 1 m
        → IsReadableMember number m
    member_by number other m is =
        record {
          list = is.list;
          version = λ e. is.version (ap (λ b. kind_by b m.key) (sym other) ∙ e);
        }

    by_layer : (number : ℕ) → (number == 0) ≡ false → (layer : Json-F Json Member)
        → IsReadableLayer 1 layer → IsReadableLayer number layer
    by_layer number other (layers.Object members) is = (
      is.0,
      all_mapped (IsReadableMember 1) (IsReadableMember number) members
          (member_by number other) is.1,
    )
    by_layer number other (layers.List items) is = tt
    by_layer number other layers.Null is = tt
    by_layer number other (layers.Truth t) is = tt
    by_layer number other (layers.Number text) is = tt
    by_layer number other (layers.Word word) is = tt

    by_number : (tree : Json) (number : ℕ) → (number == 0) ≡ false → IsReadable 1 tree
        → IsReadable number tree
    by_number tree number other is = by_layer number other (out-Json tree) is
