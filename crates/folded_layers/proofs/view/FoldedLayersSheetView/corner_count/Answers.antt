use Rattle.std.proofs.Common.{◌∙◌, ap, sym, subst, ℕ, List, ◌<◌, length, arith}
use Rattle.scaled_plane.specs.declared.drawing.Face.{Face}
use Rattle.folded_layers.proofs.ViewFacts.{corners-few, corners-many, corners-read, corners-scaled, face-in}
use Rattle.folded_layers.proofs.view.FoldedLayersSheetView.corner_count.Goals as goal

pub bounds-faces-face : goal.bounds-faces-face
bounds-faces-face g c =
    subst (λ (xs : List Face). c.args.face < length xs) (sym c.faces.ensures.faces) (face-in g.N.Ring.Whole.numbers.ring c.args.self.now.folded.now c.args.face c.requires)

pub overflow_cast-result : goal.overflow_cast-result
overflow_cast-result g c =
    let layout = c.args.self.now.folded.now in
    let within = face-in g.N.Ring.Whole.numbers.ring c.args.self.now.folded.now c.args.face c.requires in
    let read = c.len.ensures ∙ ap (λ (xs : List ℕ). length xs) (corners-read c.args.self.now.folded.now.sheet.faces c.faces.result.now c.args.face c.index-faces-face.result c.faces.ensures.faces within) in
    let many = corners-many g.N.Exact.numbers.field c.args.self.now.folded.now c.faces.ensures.layers c.args.face within in
    let few = corners-few g.N.Exact.numbers.field c.args.self.now.folded.now c.faces.ensures.layers c.args.face within in
    omega (arith, read, many, few)

pub returns-clause-count : goal.returns-clause-count
returns-clause-count g c =
    let within = face-in g.N.Ring.Whole.numbers.ring c.args.self.now.folded.now c.args.face c.requires in
    c.len.ensures ∙ ap (λ (xs : List ℕ). length xs) (corners-read c.args.self.now.folded.now.sheet.faces c.faces.result.now c.args.face c.index-faces-face.result c.faces.ensures.faces within)
    ∙ sym (corners-many g.N.Exact.numbers.field c.args.self.now.folded.now c.faces.ensures.layers c.args.face within)

pub returns-clause-few : goal.returns-clause-few
returns-clause-few g c =
    let within = face-in g.N.Ring.Whole.numbers.ring c.args.self.now.folded.now c.args.face c.requires in
    let read = c.len.ensures ∙ ap (λ (xs : List ℕ). length xs) (corners-read c.args.self.now.folded.now.sheet.faces c.faces.result.now c.args.face c.index-faces-face.result c.faces.ensures.faces within) in
    let many = corners-many g.N.Exact.numbers.field c.args.self.now.folded.now c.faces.ensures.layers c.args.face within in
    let few = corners-few g.N.Exact.numbers.field c.args.self.now.folded.now c.faces.ensures.layers c.args.face within in
    omega (arith, read, many, few)

pub returns-clause-scaled : goal.returns-clause-scaled
returns-clause-scaled g c =
    corners-scaled g.N.Exact.numbers.field c.args.self.now.folded.now c.faces.ensures.layers c.args.face (face-in g.N.Ring.Whole.numbers.ring c.args.self.now.folded.now c.args.face c.requires)
