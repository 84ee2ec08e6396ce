use Rattle.std.proofs.Common.{◌≡◌, ◌∙◌, ap, sym, subst, List, ◌<◌, length, Bool, true, false}
use Rattle.algebra.specs.OrderedField.{OrderedField}
use Rattle.fold_base.specs.declared.letter.Letter.{Letter}
use Rattle.scaled_plane.specs.declared.point.Pair.{Pair}
use Rattle.flat_fold.specs.declared.motion.Motion.{Motion}
use Rattle.scaled_plane.specs.declared.drawing.Edge.{Edge}
use Rattle.flat_fold.specs.Computed.{ComputedField, Fits, exact}
use Rattle.flat_fold.specs.Operations.{placing}
use Rattle.flat_fold.specs.Faces.{edge_at}
use Rattle.flat_fold.specs.Folding.{IsFoldable, point, AgreeAt}
use Rattle.flat_fold.proofs.Walks.{leads-back}
use Rattle.flat_fold.proofs.FoldingLaws.{leads-in_range}
use Rattle.flat_fold.proofs.SheetLaws.{foldable-sheet}
use Rattle.flat_fold.proofs.EdgePlaces.{edge-fits, agreed, disagreed}
use Rattle.flat_fold.proofs.agreement.agrees_at.Goals as goal

fits_as : {A : Type 0} (K : ComputedField A) (x y : Motion A) (a b : Pair A) → x ≡ y → a ≡ b → Fits (placing K y b) → Fits (placing K x a)
fits_as K x y a b ex ea h = subst (λ (z : Motion _). Fits (placing K z a)) (sym ex) (subst (λ (p : Pair _). Fits (placing K y p)) (sym ea) h)

agree_as : {A : Type 0} (F : OrderedField A) (l k : Letter) (a c b d : Pair A) (x y z w : Motion A) → l ≡ k → a ≡ c → b ≡ d → x ≡ y → z ≡ w → AgreeAt F l a b x z → AgreeAt F k c d y w
agree_as {A} F l k a c b d x y z w el ea eb ex ez h =
    subst (λ (i : Letter). AgreeAt F i c d y w) el (subst (λ (p : Pair A). AgreeAt F l p d y w) ea (subst (λ (p : Pair A). AgreeAt F l a p y w) eb
    (subst (λ (i : Motion A). AgreeAt F l a b i w) ex (subst (λ (i : Motion A). AgreeAt F l a b x i) ez h))))

pub agree-requires : goal.agree-requires
agree-requires g c =
    let K = exact g.N.Exact.numbers in
    let F = g.N.Exact.numbers.field in
    let edges = c.args.sheet.now.ends.edges in
    let faces = c.args.sheet.now.faces in
    let coords = c.args.sheet.now.ends.coords in
    let e = c.args.e in
    let f = c.args.faces.first in
    let h = c.args.faces.second in
    let there = c.requires.crossing.0 in
    let back = leads-back edges faces e f h there in
    let M = c.requires.maps.each f c.index-maps-faces.result (leads-in_range edges faces e f h there) in
    let N = c.requires.maps.each h c.index-maps-faces-2.result (leads-in_range edges faces e h f back) in
    let m_is : c.index-maps-faces.result ≡ M.0.value = c.index-maps-faces.is ∙ M.3 in
    let n_is : c.index-maps-faces-2.result ≡ N.0.value = c.index-maps-faces-2.is ∙ N.3 in
    let E = c.edge.ensures in
    let first = edge-fits K coords edges faces c.requires.fits e f h M.0 there M.1 in
    let second = edge-fits K coords edges faces c.requires.fits e h f N.0 back N.1 in
    record {
      from_first = fits_as K c.index-maps-faces.result M.0.value c.edge.result.from (point F coords (edge_at edges e).from) m_is E.from first.0;
      from_second = fits_as K c.index-maps-faces-2.result N.0.value c.edge.result.from (point F coords (edge_at edges e).from) n_is E.from second.0;
      to_first = fits_as K c.index-maps-faces.result M.0.value c.edge.result.to (point F coords (edge_at edges e).to) m_is E.to first.1;
      to_second = fits_as K c.index-maps-faces-2.result N.0.value c.edge.result.to (point F coords (edge_at edges e).to) n_is E.to second.1;
    }

pub returns-clause-agrees : goal.returns-clause-agrees
returns-clause-agrees g c t =
    let K = exact g.N.Exact.numbers in
    let F = g.N.Exact.numbers.field in
    let edges = c.args.sheet.now.ends.edges in
    let faces = c.args.sheet.now.faces in
    let coords = c.args.sheet.now.ends.coords in
    let e = c.args.e in
    let f = c.args.faces.first in
    let h = c.args.faces.second in
    let there = c.requires.crossing.0 in
    let back = leads-back edges faces e f h there in
    let M = c.requires.maps.each f c.index-maps-faces.result (leads-in_range edges faces e f h there) in
    let N = c.requires.maps.each h c.index-maps-faces-2.result (leads-in_range edges faces e h f back) in
    let m_is : c.index-maps-faces.result ≡ M.0.value = c.index-maps-faces.is ∙ M.3 in
    let n_is : c.index-maps-faces-2.result ≡ N.0.value = c.index-maps-faces-2.is ∙ N.3 in
    let E = c.edge.ensures in
    let foldable : IsFoldable F coords edges faces = foldable-sheet c.args.sheet.now.ends faces E.sheet F in
    agreed K coords edges faces foldable e f h there c.requires.crossing.1 M.0 N.0 M.1 N.1
    (agree_as F _ _ _ _ _ _ _ _ _ _ E.letter E.from E.to m_is n_is (c.agree.ensures.0 t))

not_both : (b : Bool) → b ≡ false → ¬ (b ≡ true)
not_both true e k = cc
not_both false e k = cc

pub returns-clause-disagrees : goal.returns-clause-disagrees
returns-clause-disagrees g c t =
    let K = exact g.N.Exact.numbers in
    let F = g.N.Exact.numbers.field in
    let edges = c.args.sheet.now.ends.edges in
    let faces = c.args.sheet.now.faces in
    let coords = c.args.sheet.now.ends.coords in
    let e = c.args.e in
    let f = c.args.faces.first in
    let h = c.args.faces.second in
    let there = c.requires.crossing.0 in
    let back = leads-back edges faces e f h there in
    let M = c.requires.maps.each f c.index-maps-faces.result (leads-in_range edges faces e f h there) in
    let N = c.requires.maps.each h c.index-maps-faces-2.result (leads-in_range edges faces e h f back) in
    let m_is : c.index-maps-faces.result ≡ M.0.value = c.index-maps-faces.is ∙ M.3 in
    let n_is : c.index-maps-faces-2.result ≡ N.0.value = c.index-maps-faces-2.is ∙ N.3 in
    let E = c.edge.ensures in
    let foldable : IsFoldable F coords edges faces = foldable-sheet c.args.sheet.now.ends faces E.sheet F in
    disagreed K coords edges faces foldable e f h there c.requires.crossing.1 M.0 N.0 M.1 N.1
    (λ a. not_both c.agree.result t (c.agree.ensures.1 (agree_as F _ _ _ _ _ _ _ _ _ _ (sym E.letter) (sym E.from) (sym E.to) (sym m_is) (sym n_is) a)))
