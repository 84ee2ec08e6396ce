use Rattle.std.proofs.Common.{◌≡◌, ℕ, length, refl}
use Rattle.std.proofs.lemmas.Result.{err_from_is_err_and}
use Rattle.scaled_plane.specs.Walks.{IsFirstParted}
use Rattle.drawing_repair.specs.declared.answer.RepairFault.TheVariants.{Parted}
use Rattle.drawing_repair.specs.declared.options.Faces.TheVariants.{Find}
use Rattle.drawing_repair.proofs.Refusals.{after_walking}
use Rattle.drawing_repair.proofs.repair.faces_of.Goals as goal

pub returns-in_err-walks-in-Find-clause-parted : goal.returns-in_err-walks-in-Find-clause-parted
returns-in_err-walks-in-Find-clause-parted g c =
    let p = err_from_is_err_and c.from_residual.result c.from_residual.ensures.1 in
    rw (p.1, p.2)
    (after_walking _ (IsFirstParted c.args.drawing.now.edges (length c.args.drawing.now.vertices))
    (λ e. (v : ℕ) × (e ≡ Parted v) × (c.args.faces ≡ Find) × IsFirstParted c.args.drawing.now.edges (length c.args.drawing.now.vertices) v)
    c.in_err-walks-in-Find.ensures.parted (λ v h. (v, refl, c.in-Find.is, h)))
