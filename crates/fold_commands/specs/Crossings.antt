-- what is said of a sheet that doesn't fold, or not with its layers as they are ordered
use Rattle.std.specs.Prelude.{ℕ, List, [], ◌∷◌, ◌++◌, codes}
use Rattle.std.specs.Fmt.{decimal}
use Rattle.layers.specs.declared.crossing.Crossing.{Crossing as AnyCrossing}
use Rattle.layers.specs.declared.crossing.Crossing.TheVariants.{Cycle, Through, Creases, Joined, Letter}
use Rattle.layers.specs.declared.crossing.Strand.{Strand}
use Rattle.layers.specs.declared.crossing.Strand.TheVariants.{Face, Edge}
use Rattle.fold_commands.specs.declared.status.NoCause.{NoCause}
use Rattle.fold_commands.specs.declared.status.NoCause.TheVariants.{Unclosed, Crossing}

abbrev pub strand_words : Strand → List ℕ
strand_words (Face face) = codes "face " ++ decimal face
strand_words (Edge edge) = codes "edge " ++ decimal edge

abbrev pub crossing_words : AnyCrossing → List ℕ
crossing_words (Cycle f g h) =
    codes "cycle " ++ decimal f ++ codes " " ++ decimal g ++ codes " " ++ decimal h
crossing_words (Through edge strand) =
    codes "through edge " ++ decimal edge ++ codes " " ++ strand_words strand
crossing_words (Creases edge other) =
    codes "creases " ++ decimal edge ++ codes " " ++ decimal other
crossing_words (Joined edge strand) =
    codes "joined edge " ++ decimal edge ++ codes " " ++ strand_words strand
crossing_words (Letter edge) = codes "letter " ++ decimal edge

abbrev pub no_message : NoCause → List ℕ
no_message (Unclosed edge) = codes "unclosed " ++ decimal edge
no_message (Crossing crossing) = crossing_words crossing

-- the line that is due
abbrev pub no_line : NoCause → List ℕ
no_line cause = codes "no: " ++ no_message cause ++ 10 ∷ []
