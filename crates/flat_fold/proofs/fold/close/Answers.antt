use Rattle.std.proofs.Common.{◌≡◌, ◌∙◌, ap, sym, subst, List, ◌<◌, ◌≤◌, length}
use Rattle.std.specs.BTreeMap.{get}
use Rattle.scaled_plane.specs.declared.point.Pair.{Pair}
use Rattle.scaled_plane.specs.declared.drawing.Ends.{Ends}
use Rattle.scaled_plane.specs.declared.drawing.Face.{Face}
use Rattle.flat_fold.specs.declared.motion.Motion.{Motion}
use Rattle.flat_fold.specs.declared.fold.FoldFlatFault.{FoldFlatFault}
use Rattle.flat_fold.specs.Computed.{exact}
use Rattle.flat_fold.specs.Faces.{corners_at}
use Rattle.flat_fold.specs.Folded.{Refuses}
use Rattle.flat_fold.specs.Places.{laid_order, AreVertices}
use Rattle.flat_fold.proofs.SheetLaws.{foldable-sheet}
use Rattle.flat_fold.proofs.FoldLaws.{all-fits, are-vertices, closes-where, folding, laid-as, fault-as, refused-place}
use Rattle.flat_fold.proofs.fold.close.Goals as goal

pub lay_images-requires : goal.lay_images-requires
lay_images-requires g c =
    let ec : c.as_slice-coords.result.now ≡ c.args.sheet.now.ends.coords = c.as_slice-coords.ensures ∙ ap (λ (e : Ends g.row.N.Denot). e.coords) c.ends.ensures.ends in
    let ef : c.as_slice-faces.result.now ≡ c.args.sheet.now.faces = c.as_slice-faces.ensures ∙ c.faces.ensures.faces in
    record {
      long = ap (λ (s : List (Motion g.row.N.Denot)). length s) c.as_slice-maps.ensures ∙ c.requires.maps_are.long ∙ ap (λ (s : List Face). length s) (sym ef);
      few_vertices = subst (λ (s : List (Pair g.row.N.Denot)). length s ≤ 16384) (sym ec) c.faces.ensures.sheet.few_vertices;
      few_faces = subst (λ (s : List Face). length s ≤ 512) (sym ef) c.faces.ensures.sheet.few_faces;
      vertices = λ f. subst (λ (s : List (Pair g.row.N.Denot)). AreVertices (length s) (corners_at c.as_slice-faces.result.now f)) (sym ec)
          (subst (λ (s : List Face). AreVertices (length c.args.sheet.now.ends.coords) (corners_at s f)) (sym ef) (are-vertices c.args.sheet.now.ends c.args.sheet.now.faces c.faces.ensures.sheet f));
    }

pub returns-in-Err-clause-refused : goal.returns-in-Err-clause-refused
returns-in-Err-clause-refused g c =
    let K = exact g.N.Exact.numbers in
    let ec : c.as_slice-coords.result.now ≡ c.args.sheet.now.ends.coords = c.as_slice-coords.ensures ∙ ap (λ (e : Ends g.row.N.Denot). e.coords) c.ends.ensures.ends in
    let ef : c.as_slice-faces.result.now ≡ c.args.sheet.now.faces = c.as_slice-faces.ensures ∙ c.faces.ensures.faces in
    let h = fault-as K c.args.sheet.now.ends.coords c.as_slice-coords.result.now c.args.sheet.now.faces c.as_slice-faces.result.now c.args.mapped.now.maps c.as_slice-maps.result.now ec ef c.as_slice-maps.ensures c.in-Err.fault c.in-Err.ensures.past in
    subst (λ (x : FoldFlatFault). Refuses K c.args.sheet.now.ends.coords c.args.sheet.now.ends.edges c.args.sheet.now.faces g.N.Exact.parts x) (sym c.place_fault.ensures)
    (refused-place K c.args.sheet.now.ends.coords c.args.sheet.now.ends.edges c.args.sheet.now.faces (foldable-sheet c.args.sheet.now.ends c.args.sheet.now.faces c.faces.ensures.sheet g.N.Exact.numbers.field)
    c.args.mapped.now.maps c.requires.maps_are g.N.Exact.parts c.in-Err.fault h)

pub first_disagreeing-requires-clause-fits : goal.first_disagreeing-requires-clause-fits
first_disagreeing-requires-clause-fits g c =
    let K = exact g.N.Exact.numbers in
    let ec : c.as_slice-coords.result.now ≡ c.args.sheet.now.ends.coords = c.as_slice-coords.ensures ∙ ap (λ (e : Ends g.row.N.Denot). e.coords) c.ends.ensures.ends in
    let ef : c.as_slice-faces.result.now ≡ c.args.sheet.now.faces = c.as_slice-faces.ensures ∙ c.faces.ensures.faces in
    let laid = laid-as K c.args.sheet.now.ends.coords c.as_slice-coords.result.now c.args.sheet.now.faces c.as_slice-faces.result.now c.args.mapped.now.maps c.as_slice-maps.result.now ec ef c.as_slice-maps.ensures
    (get laid_order c.in-Ok.numbered.numbers) c.in-Ok.numbered.origins c.in-Ok.numbered.images c.in-Ok.ensures.images in
    all-fits K c.args.sheet.now.ends.coords c.args.sheet.now.ends.edges c.args.sheet.now.faces (foldable-sheet c.args.sheet.now.ends c.args.sheet.now.faces c.faces.ensures.sheet g.N.Exact.numbers.field)
    c.args.mapped.now.maps c.requires.maps_are laid.fits

pub returns-in-Some-clause-refused : goal.returns-in-Some-clause-refused
returns-in-Some-clause-refused g c =
    let K = exact g.N.Exact.numbers in
    let ec : c.as_slice-coords.result.now ≡ c.args.sheet.now.ends.coords = c.as_slice-coords.ensures ∙ ap (λ (e : Ends g.row.N.Denot). e.coords) c.ends.ensures.ends in
    let ef : c.as_slice-faces.result.now ≡ c.args.sheet.now.faces = c.as_slice-faces.ensures ∙ c.faces.ensures.faces in
    let laid = laid-as K c.args.sheet.now.ends.coords c.as_slice-coords.result.now c.args.sheet.now.faces c.as_slice-faces.result.now c.args.mapped.now.maps c.as_slice-maps.result.now ec ef c.as_slice-maps.ensures
    (get laid_order c.in-Ok.numbered.numbers) c.in-Ok.numbered.origins c.in-Ok.numbered.images c.in-Ok.ensures.images in (
      all-fits K c.args.sheet.now.ends.coords c.args.sheet.now.ends.edges c.args.sheet.now.faces (foldable-sheet c.args.sheet.now.ends c.args.sheet.now.faces c.faces.ensures.sheet g.N.Exact.numbers.field)
          c.args.mapped.now.maps c.requires.maps_are laid.fits,
      c.in-Some.ensures,
    )

pub returns-in-None-clause-closed : goal.returns-in-None-clause-closed
returns-in-None-clause-closed g c =
    let K = exact g.N.Exact.numbers in
    let ec : c.as_slice-coords.result.now ≡ c.args.sheet.now.ends.coords = c.as_slice-coords.ensures ∙ ap (λ (e : Ends g.row.N.Denot). e.coords) c.ends.ensures.ends in
    let ef : c.as_slice-faces.result.now ≡ c.args.sheet.now.faces = c.as_slice-faces.ensures ∙ c.faces.ensures.faces in
    let foldable = foldable-sheet c.args.sheet.now.ends c.args.sheet.now.faces c.faces.ensures.sheet g.N.Exact.numbers.field in
    let laid = laid-as K c.args.sheet.now.ends.coords c.as_slice-coords.result.now c.args.sheet.now.faces c.as_slice-faces.result.now c.args.mapped.now.maps c.as_slice-maps.result.now ec ef c.as_slice-maps.ensures
    (get laid_order c.in-Ok.numbered.numbers) c.in-Ok.numbered.origins c.in-Ok.numbered.images c.in-Ok.ensures.images in
    record {
      fits = all-fits K c.args.sheet.now.ends.coords c.args.sheet.now.ends.edges c.args.sheet.now.faces foldable c.args.mapped.now.maps c.requires.maps_are laid.fits;
      folding = folding K c.args.sheet.now.ends.coords c.args.sheet.now.ends.edges c.args.sheet.now.faces foldable c.args.mapped.now.maps c.requires.maps_are
          (closes-where K c.args.sheet.now.ends.coords c.args.sheet.now.ends.edges c.args.sheet.now.faces foldable c.args.mapped.now.maps c.requires.maps_are c.in-None.ensures)
          c.in-Ok.numbered.origins c.in-Ok.numbered.images laid.images_are;
      laid = laid;
    }
