use Rattle.std.proofs.Common.{◌∙◌, ap, sym, subst, ℕ, List, ◌<◌, length, arith}
use Rattle.scaled_plane.specs.declared.drawing.Face.{Face}
use Rattle.folded_layers.proofs.ViewFacts.{corner-is, corners-many, corners-read, face-in}
use Rattle.folded_layers.proofs.view.FoldedLayersSheetView.corner.Goals as goal

pub bounds-faces-face : goal.bounds-faces-face
bounds-faces-face g c =
    subst (λ (xs : List Face). c.args.face < length xs) (sym c.faces.ensures.faces) (face-in g.N.Ring.Whole.numbers.ring c.args.self.now.folded.now c.args.face c.requires.face)

pub prove-unreachable-requires : goal.prove-unreachable-requires
prove-unreachable-requires g c =
    let within = face-in g.N.Ring.Whole.numbers.ring c.args.self.now.folded.now c.args.face c.requires.face in
    let read = c.len-count.ensures ∙ ap (λ (xs : List ℕ). length xs) (corners-read c.args.self.now.folded.now.sheet.faces c.faces.result.now c.args.face c.index-faces-face.result c.faces.ensures.faces within) in
    let many = corners-many g.N.Exact.numbers.field c.args.self.now.folded.now c.faces.ensures.layers c.args.face within in
    let past = c.if-prove.true in
    let less = c.requires.place in
    omega (arith, read, many, past, less)

pub point-requires-clause-face : goal.point-requires-clause-face
point-requires-clause-face g c = face-in g.N.Ring.Whole.numbers.ring c.args.self.now.folded.now c.args.face c.requires.face

pub point-requires-clause-corner : goal.point-requires-clause-corner
point-requires-clause-corner g c =
    let within = face-in g.N.Ring.Whole.numbers.ring c.args.self.now.folded.now c.args.face c.requires.face in
    subst (λ (n : ℕ). c.args.place < n) (corners-many g.N.Exact.numbers.field c.args.self.now.folded.now c.faces.ensures.layers c.args.face within) c.requires.place

pub returns : goal.returns
returns g c =
    let within = face-in g.N.Ring.Whole.numbers.ring c.args.self.now.folded.now c.args.face c.requires.face in
    corner-is g.N.Exact.numbers.field c.args.self.now.folded.now c.faces.ensures.layers c.args.face c.args.place within
    (subst (λ (n : ℕ). c.args.place < n) (corners-many g.N.Exact.numbers.field c.args.self.now.folded.now c.faces.ensures.layers c.args.face within) c.requires.place)
    c.point.result c.point.ensures
