use Rattle.drawing_examples.proofs.Triangle.{triangle_sheet}
use Rattle.drawing_examples.proofs.triangle_is_a_sheet.Goals as goal

pub returns : goal.returns
returns c = triangle_sheet
