-- The first strand: the first face, and where there is none the first edge.
use Rattle.std.proofs.Common.{ℕ, ◌<◌}
use Rattle.layers.specs.declared.crossing.Strand.{Strand}
use Rattle.layers.specs.declared.crossing.Strand.TheVariants.{Face, Edge}
use Rattle.layer_judge.specs.First.{StrandBefore}

module _ (P : Strand → Type 0) (F : ℕ → Type 0) (face : (h : ℕ) → P (Face h) → F h) where
  pub first_is_face : (h : ℕ) → P (Face h) → ((j : ℕ) → j < h → ¬ F j) → P (Face h) × ((t : Strand) → StrandBefore t (Face h) → ¬ P t)
  first_is_face h p n = (p, before)
    where
      before : (t : Strand) → StrandBefore t (Face h) → ¬ P t
      before (Face j) lt q = n j lt (face j q)
      before (Edge d) b q = b

  pub first_is_edge : ((j : ℕ) → ¬ F j) → (d : ℕ) → P (Edge d) → ((j : ℕ) → j < d → ¬ P (Edge j)) → P (Edge d) × ((t : Strand) → StrandBefore t (Edge d) → ¬ P t)
  first_is_edge m d p n = (p, before)
    where
      before : (t : Strand) → StrandBefore t (Edge d) → ¬ P t
      before (Face j) b q = m j (face j q)
      before (Edge j) lt q = n j lt q

  pub no_strand : ((j : ℕ) → ¬ F j) → ((j : ℕ) → ¬ P (Edge j)) → (t : Strand) → ¬ P t
  no_strand m n (Face j) q = m j (face j q)
  no_strand m n (Edge j) q = n j q
