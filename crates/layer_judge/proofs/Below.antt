-- What stands by the list is of faces and edges of the sheet.
use Rattle.std.proofs.Common.{ℕ, ◌<◌, length}
use Rattle.std.proofs.lemmas.Option.{slice_get_within}
use Rattle.algebra.specs.OrderedRing.{OrderedRing}
use Rattle.plane.specs.declared.point.Point.{Point}
use Rattle.fold_base.specs.declared.letter.Letter.{Letter}
use Rattle.layers.specs.declared.crossing.Strand.{Strand}
use Rattle.layers.specs.declared.crossing.Strand.TheVariants.{Face, Edge}
use Rattle.layers.specs.declared.crossing.Crossing.TheVariants.{Through, Joined}
use Rattle.layers.specs.Sheets.{FoldedSheet, IsInside, HasFaces, IsCrease, IsJoin}
use Rattle.layers.specs.Listing.{CycleListed, IsListed}

module _ {A : Type 0} {K : OrderedRing A} {sheet : FoldedSheet A} where
  pub face_below : {f : ℕ} {p : Point A} → IsInside K sheet f p → f < length sheet.faces
  face_below {f} {p} i = slice_get_within sheet.faces f i.face i.is

  pub edge_below : {e f g : ℕ} → HasFaces K sheet e f g → e < length sheet.edges
  edge_below {e} {f} {g} h = slice_get_within sheet.edges e h.edge h.is

module _ {A : Type 0} (K : OrderedRing A) (sheet : FoldedSheet A) (above : ℕ → ℕ → Type 0) where
  pub through_below : (e : ℕ) (s : Strand) → IsListed K sheet above (Through e s) → e < length sheet.edges
  through_below e (Face h) r = edge_below r.faces
  through_below e (Edge d) r = edge_below r.crease.faces

  pub joined_below : (e : ℕ) (s : Strand) → IsListed K sheet above (Joined e s) → e < length sheet.edges
  joined_below e (Face h) r = edge_below r.faces
  joined_below e (Edge d) r = edge_below r.join.faces

  -- two faces of an edge with such a letter
  pub record SomeFaces (Lettered : Letter → Type 0) (e : ℕ) : Type 0 where
    pub first : ℕ
    pub second : ℕ
    pub faces : HasFaces K sheet e first second
    pub lettered : Lettered faces.edge.letter

  pub through_faces : (e : ℕ) (s : Strand) → IsListed K sheet above (Through e s) → SomeFaces IsCrease e
  through_faces e (Face h) r = record { first = r.first; second = r.second; faces = r.faces; lettered = r.lettered }
  through_faces e (Edge d) r = record { first = r.first; second = r.second; faces = r.crease.faces; lettered = r.crease.lettered }

  pub joined_faces : (e : ℕ) (s : Strand) → IsListed K sheet above (Joined e s) → SomeFaces IsJoin e
  joined_faces e (Face h) r = record { first = r.first; second = r.second; faces = r.faces; lettered = r.lettered }
  joined_faces e (Edge d) r = record { first = r.first; second = r.second; faces = r.join.faces; lettered = r.join.lettered }
