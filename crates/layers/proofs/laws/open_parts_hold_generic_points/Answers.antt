use Rattle.layers.proofs.Faces.{generic_point}
use Rattle.layers.proofs.FaceWise.{seam_in_image}
use Rattle.layers.proofs.Known.{facts}
use Rattle.layers.proofs.laws.open_parts_hold_generic_points.Goals as goal

pub returns-clause-generic : goal.returns-clause-generic
returns-clause-generic g c = λ K sheet folded halves p is_point lies. let r = generic_point K sheet (facts K sheet folded) halves p is_point lies in (r.point, r.is_point, r.lies, r.is_generic)

pub returns-clause-seam : goal.returns-clause-seam
returns-clause-seam g c = λ K sheet folded halves p e f line image middle lies. let r = seam_in_image K sheet (facts K sheet folded) e f line image halves p middle lies in (r.point, r.between, r.lies, r.is_seam)
