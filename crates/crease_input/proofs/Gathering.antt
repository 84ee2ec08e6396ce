-- vertices and edges after so many lines
use Rattle.std.proofs.Common.{◌≡◌, ℕ, suc, ◌+◌, ◌*◌, ◌<◌, ◌≤◌, List, [], ◌∷◌, ◌++◌, map, length, take, drop, get_or, sym, ◌∙◌, ap, subst, Result, Ok, Err, arith}
use Rattle.std.specs.List.{AllZip}
use Rattle.std.proofs.lemmas.List.{take_more, take_all, length-take-le, length-map, take-append-drop}
use Rattle.std.proofs.Math.Seq.{drop-cons}
use Rattle.std.proofs.lemmas.Slice.Zip.{AllZip-long}
use Rattle.algebra.specs.LowestTerms.{Parts}
use Rattle.cp_lines.specs.declared.line.CpLine.{CpLine}
use Rattle.number_rules.specs.declared.unread.Unread.{Unread}
use Rattle.scaled_plane.specs.declared.drawing.Edge.{Edge}
use Rattle.scaled_plane.specs.declared.point.Pair.{Pair}
use Rattle.crease_input.specs.Lines.{IsCrease, AnswersLine, AnswersEnds, IsWithin, edge_in}
use Rattle.crease_input.specs.declared.crease.Crease.{Crease}
use Rattle.crease_input.specs.declared.fault.InputFault.{InputFault}
use Rattle.crease_input.specs.declared.fault.InputFault.TheVariants as faults
use Rattle.crease_input.proofs.Points.{Gathered, with_ends, gathered_none, gathered_more, gathered_within}
use Rattle.crease_input.proofs.Unread.{line_refused}

pub zip_more : {A B : Type 0} (R : A → B → Type 0) (xs : List A) (ys : List B) (x : A) (y : B)
    → AllZip R xs ys → R x y → AllZip R (xs ++ x ∷ []) (ys ++ y ∷ [])
zip_more R [] [] x y all here = (here, tt)
zip_more R [] (b ∷ bs) x y all here = absurd all
zip_more R (a ∷ as') [] x y all here = absurd all
zip_more R (a ∷ as') (b ∷ bs) x y all here = (all.0, zip_more R as' bs x y all.1 here)

pub split_at : {A : Type 0} (xs : List A) (n : ℕ) (d : A) → n < length xs
    → xs ≡ take n xs ++ get_or xs n d ∷ drop (suc n) xs
split_at xs n d below =
    sym (take-append-drop n xs) ∙ ap (λ t. take n xs ++ t) (drop-cons xs n d below)

module _ {N : Type 0} (parts : N → Parts) (answers : List ℕ → Result N Unread → Type 0) where
  pub record StandsAt (lines : List CpLine) (n : ℕ) (coords : List (Pair N)) (edges : List Edge) : Type 0 where
    pub creases : List (Crease N)
    pub read : AllZip (IsCrease answers) (take n lines) creases
    pub gathered : Gathered parts creases coords edges

  pub stands_none : (lines : List CpLine) → StandsAt lines 0 [] []
  stands_none lines = record { creases = []; read = tt; gathered = gathered_none parts }

  pub stands_more : (lines : List CpLine) (n : ℕ) (line : CpLine) (crease : Crease N)
      (old new : List (Pair N)) (edges pushed : List Edge) (edge : Edge) → n < length lines
      → line ≡ get_or lines n line → IsCrease answers line crease
      → new ≡ with_ends parts old crease → edge ≡ edge_in parts new crease
      → pushed ≡ edges ++ edge ∷ [] → StandsAt lines n old edges → StandsAt lines (n + 1) new pushed
  stands_more lines n line crease old new edges pushed edge below at is vertices here p stands = record {
    creases = stands.creases ++ crease ∷ [];
    read = subst (λ ls. AllZip (IsCrease answers) ls (stands.creases ++ crease ∷ []))
        (ap (λ l. take n lines ++ l ∷ []) at ∙ sym (take_more lines n line below))
        (zip_more (IsCrease answers) (take n lines) stands.creases line crease stands.read is);
    gathered = gathered_more parts stands.creases crease old new edges pushed edge vertices here p
        stands.gathered;
  }

  count_of : (lines : List CpLine) (n : ℕ) (coords : List (Pair N)) (edges : List Edge)
      → n ≤ length lines → (stands : StandsAt lines n coords edges) → length stands.creases ≡ n
  count_of lines n coords edges below stands =
      AllZip-long (IsCrease answers) (take n lines) stands.creases stands.read ∙ length-take-le n lines below

  -- there are at most two vertices a line
  pub stands_few : (lines : List CpLine) (n : ℕ) (coords : List (Pair N)) (edges : List Edge)
      → n ≤ length lines → StandsAt lines n coords edges → length coords ≤ 2 * n
  stands_few lines n coords edges below stands =
      omega (arith, stands.gathered.few, count_of lines n coords edges below stands)

  pub stands_refused : (lines : List CpLine) (n : ℕ) (line : CpLine) (coords : List (Pair N))
      (edges : List Edge) (fault : InputFault) → n < length lines → line ≡ get_or lines n line
      → AnswersLine answers line n (Err fault) → StandsAt lines n coords edges
      → AnswersEnds parts answers lines (Err fault)
  stands_refused lines n line coords edges (faults.Unread vertex axis cause) below at is stands =
      line_refused answers lines (take n lines) (drop (suc n) lines) line stands.creases vertex axis cause
      (split_at lines n line below ∙ ap (λ l. take n lines ++ l ∷ drop (suc n) lines) (sym at))
      stands.read
      (subst (λ k. AnswersLine answers line k (Err (faults.Unread vertex axis cause))) (sym (length-take-le n lines (omega arith))) is)
  stands_refused lines n line coords edges (faults.Missing key) below at is stands = absurd is
  stands_refused lines n line coords edges (faults.TooMany what) below at is stands = absurd is
  stands_refused lines n line coords edges (faults.NotFlat v) below at is stands = absurd is
  stands_refused lines n line coords edges (faults.Stale v) below at is stands = absurd is
  stands_refused lines n line coords edges (faults.Memory e) below at is stands = absurd is

  pub stands_whole : (lines : List CpLine) (n : ℕ) (coords : List (Pair N)) (edges : List Edge)
      → length lines ≤ n → StandsAt lines n coords edges
      → AnswersEnds parts answers lines (Ok (record { coords = coords; edges = edges }))
  stands_whole lines n coords edges all stands = (
    stands.creases,
    subst (λ ls. AllZip (IsCrease answers) ls stands.creases) (take_all n lines all) stands.read,
    λ i. record {
      coords = stands.gathered.distinct i;
      edges = (stands.gathered.in_order
          ∙ ap (λ cs. map (edge_in parts cs) stands.creases) stands.gathered.distinct) i;
    },
  )

  -- the vertices are handed on in a list of their own
  pub stands_handed : (lines : List CpLine) (n : ℕ) (coords handed : List (Pair N)) (edges : List Edge)
      → handed ≡ coords → StandsAt lines n coords edges → StandsAt lines n handed edges
  stands_handed lines n coords handed edges same stands =
      subst (λ cs. StandsAt lines n cs edges) (sym same) stands

  pub stands_within : (lines : List CpLine) (n : ℕ) (coords : List (Pair N)) (edges : List Edge)
      → n ≤ length lines → length lines ≤ n → StandsAt lines n coords edges
      → IsWithin lines (record { coords = coords; edges = edges })
  stands_within lines n coords edges below all stands =
      let whole : n ≡ length lines = omega (arith, below, all) in
      let count = count_of lines n coords edges below stands in
      let few = stands_few lines n coords edges below stands in
      record {
        edges = ap length stands.gathered.in_order ∙ length-map stands.creases (edge_in parts coords)
            ∙ count ∙ whole;
        vertices = omega (arith, few, whole);
        each = gathered_within parts stands.creases coords edges stands.gathered;
      }
