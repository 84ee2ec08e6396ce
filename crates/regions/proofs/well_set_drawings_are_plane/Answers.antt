use Rattle.regions.proofs.well_set_drawings_are_plane.Goals as goal

pub returns : goal.returns
returns g c = λ k surd numbers drawing h. record {
  points = λ p i. (h.points p i).0;
  different = h.different;
  ends = h.ends;
  apart = h.plane;
  used = h.used;
}
