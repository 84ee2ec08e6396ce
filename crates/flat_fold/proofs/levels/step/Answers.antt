use Rattle.std.proofs.Common.{◌≡◌, ◌∙◌, ap, sym, refl, Bool, true, false, if◌then◌else◌, Ok}
use Rattle.flat_fold.specs.Computed.{Computed, at_hand, ◌>>=◌, exact}
use Rattle.flat_fold.specs.Operations.{composing, reflecting}
use Rattle.flat_fold.specs.Folding.{is_crease, stepping_over}
use Rattle.flat_fold.proofs.Chains.{ends, first_overflows, refused, last, goes_on, came_from, from_value}
use Rattle.flat_fold.proofs.OperationLaws.{composing-value, reflecting-value}
use Rattle.flat_fold.proofs.levels.step.Goals as goal

pub reflection-requires : goal.reflection-requires
reflection-requires g c = c.requires

-- the operations at an edge where the sheet is folded, or isn't
by_fold : {A : Type 0} (b t : Bool) → b ≡ t → (x y : Computed A) → (if t then x else y) ≡ (if b then x else y)
by_fold b t e x y = ap (λ (s : Bool). if s then x else y) (sym e)

pub returns-in_err-mirror : goal.returns-in_err-mirror
unfolding stepping_over
returns-in_err-mirror g c =
    let K = exact g.N.Exact.numbers in
    last c.from_residual.result (reflecting K c.args.edge.from c.args.edge.to >>= composing K c.args.map) (stepping_over K c.args.edge.letter c.args.edge.from c.args.edge.to c.args.map)
    (by_fold (is_crease c.args.edge.letter) true (sym c.folds.ensures ∙ c.if-folds.true) (reflecting K c.args.edge.from c.args.edge.to >>= composing K c.args.map) (at_hand c.args.map))
    (refused c.from_residual.result _ c.from_residual.ensures.0 (first_overflows _ _ c.in_err-mirror.ensures))

pub returns-in_ok-mirror : goal.returns-in_ok-mirror
unfolding stepping_over
returns-in_ok-mirror g c =
    let K = exact g.N.Exact.numbers in
    last c.composed.result (reflecting K c.args.edge.from c.args.edge.to >>= composing K c.args.map) (stepping_over K c.args.edge.letter c.args.edge.from c.args.edge.to c.args.map)
    (by_fold (is_crease c.args.edge.letter) true (sym c.folds.ensures ∙ c.if-folds.true) (reflecting K c.args.edge.from c.args.edge.to >>= composing K c.args.map) (at_hand c.args.map))
    (goes_on _ _ c.composed.result (from_value (reflecting K c.args.edge.from c.args.edge.to) (reflecting-value K c.args.edge.from c.args.edge.to) c.in_ok-mirror.ensures)
    (came_from c.composed.result (composing K c.args.map c.in_ok-mirror.mirror) (composing-value K c.args.map c.in_ok-mirror.mirror) c.composed.ensures))

pub returns-else-folds : goal.returns-else-folds
unfolding stepping_over
returns-else-folds g c =
    let K = exact g.N.Exact.numbers in
    last {E = Bool} (Ok c.args.map) (at_hand c.args.map) (stepping_over K c.args.edge.letter c.args.edge.from c.args.edge.to c.args.map)
    (by_fold (is_crease c.args.edge.letter) false (sym c.folds.ensures ∙ c.if-folds.false) (reflecting K c.args.edge.from c.args.edge.to >>= composing K c.args.map) (at_hand c.args.map))
    (ends refl)
