-- the lines of edges
use Rattle.std.proofs.Common.{◌≡◌, ℕ, ◌<◌, ◌≤◌, List, [], ◌∷◌, length, map, refl, sym, ◌∙◌, ap, subst, Result, Ok, Err, arith}
use Rattle.std.specs.Prelude.{All, IfOk, zip}
use Rattle.std.specs.List.{AllByRecursion, AllZip}
use Rattle.std.proofs.lemmas.List.{length-map}
use Rattle.std.proofs.lemmas.Slice.Zip.{AllZip-long}
use Rattle.cp_lines.specs.declared.line.CpLine.{CpLine}
use Rattle.fold_base.specs.declared.letter.Letter.{Letter}
use Rattle.frame_lines.specs.Lines.{line_of}
use Rattle.frame_lines.proofs.Agree.{IsWithin, all_at}
use Rattle.scaled_plane.specs.declared.drawing.Edge.{Edge}
use Rattle.crease_input.specs.Lines.{IsEdgeWithin}

abbrev points_by : List (List ℕ × List ℕ) → List (List (List ℕ))
points_by texts = map (λ t. t.0 ∷ t.1 ∷ []) texts

each_two : (texts : List (List ℕ × List ℕ)) → AllByRecursion (λ (p : List (List ℕ)). 2 ≤ length p) (points_by texts)
each_two [] = tt
each_two (t ∷ texts) = (omega arith, each_two texts)

pub two_axes : (points : List (List (List ℕ))) (texts : List (List ℕ × List ℕ)) → points ≡ points_by texts
    → All (λ (p : List (List ℕ)). 2 ≤ length p) points
two_axes points texts is =
    subst (All (λ (p : List (List ℕ)). 2 ≤ length p)) (sym is) (all_at (λ (p : List (List ℕ)). 2 ≤ length p) (points_by texts) (each_two texts))

each_pair : (n : ℕ) (edges : List Edge) → AllByRecursion (IsEdgeWithin n) edges
    → AllByRecursion (IsWithin n) (map (λ e. (e.from, e.to)) edges)
each_pair n [] all = tt
each_pair n (e ∷ edges) all = (all.0, each_pair n edges all.1)

pub pairs_within : (n : ℕ) (edges : List Edge) (pairs : List (ℕ × ℕ)) → pairs ≡ map (λ e. (e.from, e.to)) edges
    → AllByRecursion (IsEdgeWithin n) edges → All (λ (pair : ℕ × ℕ). (pair.0 < n) × (pair.1 < n)) pairs
pairs_within n edges pairs is all =
    subst (All (IsWithin n)) (sym is) (all_at (IsWithin n) (map (λ e. (e.from, e.to)) edges) (each_pair n edges all))

each_line : (points : List (List (List ℕ))) (edges : List Edge)
    → map (line_of points) (zip (map {B = ℕ × ℕ} (λ e. (e.from, e.to)) edges) (map {B = Letter} (λ e. e.letter) edges))
    ≡ map (λ e. line_of points ((e.from, e.to), e.letter)) edges
each_line points [] = refl
each_line points (e ∷ edges) = ap (λ lines. line_of points ((e.from, e.to), e.letter) ∷ lines) (each_line points edges)

pub lines_are : (texts : List (List ℕ × List ℕ)) (points : List (List (List ℕ))) (edges : List Edge) (pairs : List (ℕ × ℕ))
    (letters : List Letter) (lines : List CpLine) → points ≡ points_by texts → pairs ≡ map (λ e. (e.from, e.to)) edges
    → letters ≡ map (λ e. e.letter) edges → lines ≡ map (line_of points) (zip pairs letters)
    → lines ≡ map (λ e. line_of (points_by texts) ((e.from, e.to), e.letter)) edges
lines_are texts points edges pairs letters lines points_are pairs_are letters_are is =
    is ∙ (λ i. map (line_of (points_are i)) (zip (pairs_are i) (letters_are i))) ∙ each_line (points_by texts) edges

pub points_count : {A : Type 0} (R : A → List ℕ × List ℕ → Type 0) (coords slice : List A) (texts : List (List ℕ × List ℕ))
    (points : List (List (List ℕ))) → slice ≡ coords → AllZip R slice texts → points ≡ points_by texts
    → length points ≡ length coords
points_count R coords slice texts points same are is =
    ap length is ∙ length-map texts (λ t. t.0 ∷ t.1 ∷ []) ∙ AllZip-long R slice texts are ∙ ap length same

pub if_ok : {T E : Type 0} (P Q : T → Type 0) (r : Result T E) → ((x : T) → P x → Q x) → IfOk r P → IfOk r Q
if_ok P Q (Ok x) goes is = goes x is
if_ok P Q (Err e) goes is = is
