-- the faces that `repair` writes are bounded regions
use Rattle.std.specs.Prelude.{◌≡◌, ◌⊎◌, ℕ, ℤ, pos, ◌<ℤ◌, List, [], ◌∷◌, ◌++◌, Contains, Option, Some, None, codes}
use Rattle.algebra.specs.LowestTerms.{Parts}
use Rattle.algebra.specs.Surd.{Surd}
use Rattle.algebra.specs.WholeSurds.{SurdNumbers}
use Rattle.fold_base.specs.Outside.{Gains}
use Rattle.plane.specs.Points.{IsPoint}
use Rattle.plane.specs.declared.point.Point.{Point}
use Rattle.scaled_plane.specs.Walks.{AreFaces}
use Rattle.scaled_plane.specs.declared.drawing.Ends.{Ends}
use Rattle.scaled_plane.specs.declared.drawing.Face.{Face}
use Rattle.regions.specs.Faces.{AreBoundedRegions}
use Rattle.drawing_repair.specs.Repaired.{AreExact}
use Rattle.drawing_repair.specs.declared.options.Faces.TheVariants.{Find}
use Rattle.json_tree.specs.PrintedForm as json_form
use Rattle.fold_keys.specs.Trees.{tree_of_file}
use Rattle.fold_keys.specs.declared.value.FoldFile.{FoldFile}
use Rattle.rational.specs.Rationals.{rational_parts}
use Rattle.rational.specs.WholeNumbers as rationals
use Rattle.crease_input.specs.Files.{IsDrawingFile}
use Rattle.fold_commands.specs.Fields.{parts_over_three, parts_over_two, whole_over_three, whole_over_two}
use Rattle.fold_commands.specs.Words.{AreWordsOf}
use Rattle.fold_commands.specs.declared.status.Status.{Status}
use Rattle.fold_commands.specs.declared.status.Status.TheVariants.{Done}
use Rattle.fold_commands.specs.declared.words.Command.TheVariants.{Repair}
use Rattle.fold_commands.specs.declared.words.Format.TheVariants.{Fold}
use Rattle.fold_commands.specs.declared.words.RepairOptions.{RepairOptions}

module _ {N W : Type 0} {root : ℕ} {surd : W → Surd ℤ} (k : ℕ) (parts : N → Parts)
    (numbers : SurdNumbers root surd) where
  -- the text is the file of a drawing whose coordinates are those of points over a common denominator,
  -- and whose faces are the walks round the faces of these points and edges: its bounded regions, each
  -- once
  pub record IsFileOfRegions (text : List ℕ) (ends : Ends N) (faces : List Face) : Type 0 where
    pub file : FoldFile
    pub of_drawing : IsDrawingFile k parts (codes "creasePattern") ends (Some faces) None file
    pub printed : text ≡ json_form.printed_form (tree_of_file file) ++ 10 ∷ []
    pub common : ℤ
    pub positive : pos 0 <ℤ common
    pub vertices : List (Point W)
    pub are_points : (p : Point W) → Contains vertices p → IsPoint numbers.ring p
    pub coords : AreExact parts numbers vertices common ends.coords
    pub walks : AreFaces numbers.ring vertices ends.edges faces
    pub regions : AreBoundedRegions numbers.ring vertices ends.edges faces

  abbrev pub ShowsRegions : List ℕ → Type 0
  ShowsRegions text = (ends : Ends N) × (faces : List Face) × IsFileOfRegions text ends faces

-- over the rationals, or over √2 or √3
abbrev pub HasRegions : List ℕ → Type 0
HasRegions text =
    ShowsRegions 1 rational_parts rationals.whole_numbers text
    ⊎ (ShowsRegions 2 parts_over_two whole_over_two text
    ⊎ ShowsRegions 3 parts_over_three whole_over_three text)

-- where the words ask for a repaired drawing with its faces as a file, and all is done, its faces
-- are the bounded regions of the drawing that was written
abbrev pub WritesRegions : List (List ℕ) → Option (List ℕ) → Option (List ℕ) → Status → Type 0
WritesRegions words before after status =
    (options : RepairOptions) → AreWordsOf words (Repair options) → options.to ≡ Fold
    → options.faces ≡ Find → status ≡ Done
    → (text : List ℕ) × Gains before after text × HasRegions text
