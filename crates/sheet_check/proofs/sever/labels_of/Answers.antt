use Rattle.std.proofs.Common.{◌≡◌, ◌<◌, ◌++◌, ℕ, List, Some, length, take, drop, ap, sym, subst, ◌∙◌, arith}
use Rattle.std.proofs.lemmas.List.{take_at}
use Rattle.scaled_plane.specs.declared.drawing.Edge.{Edge}
use Rattle.sheet_check.specs.Labels.{AreLabelled, AreOwn, crossing_of}
use Rattle.sheet_check.proofs.sever.labels_of.Goals as goal

pub merge_all-requires-clause-own : goal.merge_all-requires-clause-own
merge_all-requires-clause-own c =
    let own = c.in_ok-labels.ensures in
    subst (λ (labels : List ℕ). AreOwn (length labels) labels) (sym c.as_mut_slice.ensures.value)
    (subst (λ (count : ℕ). AreOwn count c.in_ok-labels.labels.items) (sym own.long) own)

pub merge_all-requires-clause-faces : goal.merge_all-requires-clause-faces
merge_all-requires-clause-faces c =
    let long : length c.as_mut_slice.result.now ≡ c.args.count = ap (λ (labels : List ℕ). length labels) c.as_mut_slice.ensures.value ∙ c.in_ok-labels.ensures.long in
    subst (λ (count : ℕ). (e : Edge) (f g : ℕ) → crossing_of c.args.pieces.now e ≡ Some (f, g) → (f < count) × (g < count)) (sym long) c.requires.faces

pub returns : goal.returns
returns c =
    let old = c.in_ok-labels.labels.items in
    let new = c.merge_all.new.labels in
    let long : length c.as_mut_slice.result.now ≡ length old = ap (λ (labels : List ℕ). length labels) c.as_mut_slice.ensures.value in
    let count_is : length c.as_mut_slice.result.now ≡ c.args.count = long ∙ c.in_ok-labels.ensures.long in
    let made = c.merge_all.ensures in
    let all = made.long in
    let kept = c.in_ok-labels.labels.ok.0 in
    let put : take c.in_ok-labels.labels.len (new ++ drop (length new) old) ≡ new = take_at new (drop (length new) old) c.in_ok-labels.labels.len (omega (arith, all, long, kept)) in
    subst (λ (labels : List ℕ). AreLabelled c.args.pieces.now c.args.edges.now (length c.args.edges.now) c.args.count labels) (sym put)
    (subst (λ (count : ℕ). AreLabelled c.args.pieces.now c.args.edges.now (length c.args.edges.now) count new) count_is made)
