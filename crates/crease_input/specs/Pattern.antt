-- the text of a crease pattern's file
use Rattle.std.specs.Prelude.{◌≡◌, ℕ, List, [], ◌∷◌, ◌++◌, None, codes}
use Rattle.std.specs.Fmt.{decimal}
use Rattle.std.specs.List.{flat_map}
use Rattle.algebra.specs.LowestTerms.{Parts}
use Rattle.fold_base.specs.Letter.{spelling}
use Rattle.fold_base.specs.declared.letter.Letter.{Letter}
use Rattle.fold_keys.specs.Trees.{member_of, tree_of_file}
use Rattle.fold_keys.specs.declared.value.Entry.{Entry}
use Rattle.fold_keys.specs.declared.value.FoldFile.{FoldFile}
use Rattle.json_tree.specs.PrintedForm.{printed_form, printed_member}
use Rattle.number_rules.specs.ExactText.{exact_text_of}
use Rattle.scaled_plane.specs.declared.drawing.Edge.{Edge}
use Rattle.scaled_plane.specs.declared.drawing.Ends.{Ends}
use Rattle.scaled_plane.specs.declared.point.Pair.{Pair}
use Rattle.crease_input.specs.Files.{IsDrawingFile}

-- entries behind others, as they are printed
abbrev pub entries_behind : List Entry → List ℕ
entries_behind entries = flat_map (λ e. 44 ∷ printed_member (member_of [] e)) entries

-- a point by two texts
abbrev pub printed_point : List ℕ × List ℕ → List ℕ
printed_point texts = (91 ∷ texts.0) ++ (44 ∷ texts.1) ++ (93 ∷ [])

-- the two ends of an edge
abbrev pub printed_ids : Edge → List ℕ
printed_ids edge = (91 ∷ decimal edge.from) ++ (44 ∷ decimal edge.to) ++ (93 ∷ [])

abbrev pub printed_letter : Letter → List ℕ
printed_letter letter = 34 ∷ spelling letter ∷ 34 ∷ []

module _ {N : Type 0} (k : ℕ) (parts : N → Parts) where
  -- a point by its exact texts
  abbrev pub printed_exact : Pair N → List ℕ
  printed_exact p =
      (91 ∷ 34 ∷ exact_text_of k (parts p.x)) ++ (34 ∷ 44 ∷ 34 ∷ exact_text_of k (parts p.y)) ++ (34 ∷ 93 ∷ [])

  -- the printed form of the file of a pattern without faces, in a line
  abbrev pub IsPatternText : Ends N → List ℕ → Type 0
  IsPatternText ends text =
      (file : FoldFile) × IsDrawingFile k parts (codes "creasePattern") ends None None file
      × (text ≡ printed_form (tree_of_file file) ++ 10 ∷ [])
