-- the vertices of a frame, one after the other
use Rattle.std.proofs.Common.{◌≡◌, ℕ, zero, suc, ◌+◌, ◌<◌, ◌≤◌, List, [], ◌∷◌, ◌++◌, map, length, take, drop, get_or, refl, sym, ◌∙◌, ap, subst, Bool, true, false, Option, Some, None, Result, Ok, Err, arith}
use Rattle.std.specs.Prelude.{IfSome, zip, option_and_then, slice_get}
use Rattle.std.specs.List.{AllByRecursion, AllZip}
use Rattle.std.proofs.lemmas.List.{take_more, take_all, length-take-le, length-map, get_or-map}
use Rattle.std.proofs.lemmas.Option.{slice_get-get_or}
use Rattle.std.proofs.lemmas.Slice.Zip.{get_or-zip, length-zip}
use Rattle.algebra.specs.LowestTerms.{Parts}
use Rattle.number_rules.specs.ExactText.{ReadsExactText}
use Rattle.number_rules.specs.declared.unread.Unread.{Unread}
use Rattle.scaled_plane.specs.declared.point.Pair.{Pair}
use Rattle.frame_lines.specs.Lines.{is_flat}
use Rattle.crease_input.specs.Lines.{IsPoint, AnswersPoint}
use Rattle.crease_input.specs.Frames.{Vertex, IsVertex, HasNoPoint, IsFirstWithout, AnswersVertex, AnswersVertices, HasRoundedValue, spelled, vertices_in}
use Rattle.crease_input.specs.declared.fault.InputFault.{InputFault}
use Rattle.crease_input.specs.declared.fault.InputFault.TheVariants as faults
use Rattle.crease_input.proofs.Gathering.{zip_more, split_at}

module _ {N : Type 0} (k : ℕ) (parts : N → Parts) (rule : List ℕ → Result N Unread → Type 0) where
  pub with_points : (vertices : List Vertex) (coords : List (Pair N))
      → AllZip (IsVertex k parts rule) vertices coords
      → AllByRecursion (λ v. (p : Pair N) × IsVertex k parts rule v p) vertices
  with_points [] coords all = tt
  with_points (v ∷ vertices) [] all = absurd all
  with_points (v ∷ vertices) (p ∷ coords) all = ((p, all.0), with_points vertices coords all.1)

  pub vertices_more : (vertices : List Vertex) (n : ℕ) (d v : Vertex) (p : Pair N) (coords pushed : List (Pair N))
      → n < length vertices → v ≡ get_or vertices n d → IsVertex k parts rule v p → pushed ≡ coords ++ p ∷ []
      → AllZip (IsVertex k parts rule) (take n vertices) coords
      → AllZip (IsVertex k parts rule) (take (n + 1) vertices) pushed
  vertices_more vertices n d v p coords pushed below at is push all =
      subst (λ vs. AllZip (IsVertex k parts rule) vs pushed)
      (ap (λ w. take n vertices ++ w ∷ []) at ∙ sym (take_more vertices n d below))
      (subst (λ ps. AllZip (IsVertex k parts rule) (take n vertices ++ v ∷ []) ps) (sym push)
      (zip_more (IsVertex k parts rule) (take n vertices) coords v p all is))

  pub vertices_all : (vertices : List Vertex) (n : ℕ) (coords : List (Pair N)) → length vertices ≤ n
      → AllZip (IsVertex k parts rule) (take n vertices) coords
      → AllZip (IsVertex k parts rule) vertices coords
  vertices_all vertices n coords over all =
      subst (λ vs. AllZip (IsVertex k parts rule) vs coords) (take_all n vertices over) all

  first_without : (vertices : List Vertex) (n : ℕ) (d v : Vertex) (fault : InputFault) (coords : List (Pair N))
      → n < length vertices → v ≡ get_or vertices n d → HasNoPoint k parts rule v n fault
      → AllZip (IsVertex k parts rule) (take n vertices) coords
      → IsFirstWithout k parts rule vertices fault
  first_without vertices n d v fault coords below at none all = record {
    before = take n vertices;
    vertex = v;
    after = drop (suc n) vertices;
    split = split_at vertices n d below ∙ ap (λ w. take n vertices ++ w ∷ drop (suc n) vertices) (sym at);
    points = with_points (take n vertices) coords all;
    none = subst (λ m. HasNoPoint k parts rule v m fault) (sym (length-take-le n vertices (omega (arith, below)))) none;
  }

  pub vertices_refused : (vertices : List Vertex) (n : ℕ) (d v : Vertex) (fault : InputFault) (coords : List (Pair N))
      → n < length vertices → v ≡ get_or vertices n d → HasNoPoint k parts rule v n fault
      → AllZip (IsVertex k parts rule) (take n vertices) coords
      → AnswersVertices k parts rule vertices (Err fault)
  vertices_refused vertices n d v (faults.Memory e) coords below at none all = absurd none
  vertices_refused vertices n d v (faults.Missing key) coords below at none all = absurd none
  vertices_refused vertices n d v (faults.TooMany what) coords below at none all = absurd none
  vertices_refused vertices n d v (faults.NotFlat w) coords below at none all =
      first_without vertices n d v (faults.NotFlat w) coords below at none all
  vertices_refused vertices n d v (faults.Unread w axis cause) coords below at none all =
      first_without vertices n d v (faults.Unread w axis cause) coords below at none all
  vertices_refused vertices n d v (faults.Stale w) coords below at none all =
      first_without vertices n d v (faults.Stale w) coords below at none all

-- ---- a vertex

module _ {N : Type 0} (k : ℕ) (parts : N → Parts) (rule : List ℕ → Result N Unread → Type 0) where
  pub vertex_by_rule : (point : List (List ℕ)) (place : ℕ) (r : Result (Pair N) InputFault) → is_flat point ≡ true
      → AnswersPoint rule (spelled point 0) (spelled point 1) place r
      → AnswersVertex k parts rule (record { point = point; exact = None }) place r
  vertex_by_rule point place (Ok p) flat is = record { flat = flat; told = is; fresh = tt }
  vertex_by_rule point place (Err (faults.Unread v axis cause)) flat is = (is.0, flat, is.1)
  vertex_by_rule point place (Err (faults.Missing key)) flat is = absurd is
  vertex_by_rule point place (Err (faults.TooMany what)) flat is = absurd is
  vertex_by_rule point place (Err (faults.NotFlat v)) flat is = absurd is
  vertex_by_rule point place (Err (faults.Stale v)) flat is = absurd is
  vertex_by_rule point place (Err (faults.Memory e)) flat is = absurd is

  pub exact_refused : (point : List (List ℕ)) (x y : List ℕ) (place : ℕ) (fault : InputFault) → is_flat point ≡ true
      → AnswersPoint (ReadsExactText k parts) x y place (Err fault)
      → AnswersVertex k parts rule (record { point = point; exact = Some (x, y) }) place (Err fault)
  exact_refused point x y place (faults.Unread v axis cause) flat is = (is.0, flat, is.1)
  exact_refused point x y place (faults.Missing key) flat is = absurd is
  exact_refused point x y place (faults.TooMany what) flat is = absurd is
  exact_refused point x y place (faults.NotFlat v) flat is = absurd is
  exact_refused point x y place (faults.Stale v) flat is = absurd is
  exact_refused point x y place (faults.Memory e) flat is = absurd is

  pub vertex_stale : (point : List (List ℕ)) (x y : List ℕ) (place : ℕ) (p : Pair N) → is_flat point ≡ true
      → IsPoint (ReadsExactText k parts) x y p
      → ¬ (HasRoundedValue k (parts p.x) (spelled point 0) × HasRoundedValue k (parts p.y) (spelled point 1))
      → AnswersVertex k parts rule (record { point = point; exact = Some (x, y) }) place (Err (faults.Stale place))
  vertex_stale point x y place p flat told stale = (refl, flat, p, told, stale)

-- ---- the vertex at a place

abbrev pub AreEven : List (List (List ℕ)) → Option (List (List ℕ × List ℕ)) → Type 0
AreEven points exact = IfSome exact (λ texts. length texts ≡ length points)

pub vertices_count : (points : List (List (List ℕ))) (exact : Option (List (List ℕ × List ℕ)))
    → AreEven points exact → length (vertices_in points exact) ≡ length points
vertices_count points None even = length-map {B = Vertex} points (λ point. record { point = point; exact = None })
vertices_count points (Some texts) even =
    let zipped = length-zip points texts in
    let mapped = length-map {B = Vertex} (zip points texts) (λ v. record { point = v.0; exact = Some v.1 }) in
    omega (arith, even, zipped, mapped)

vertex_at : (points : List (List (List ℕ))) (exact : Option (List (List ℕ × List ℕ))) (i : ℕ) (d : Vertex)
    (e : List (List ℕ)) → i < length points → AreEven points exact
    → get_or (vertices_in points exact) i d
    ≡ record { point = get_or points i e; exact = option_and_then (λ texts. slice_get texts i) exact }
vertex_at points None i d e below even =
    get_or-map {Y = Vertex} (λ point. record { point = point; exact = None }) points i e d below
vertex_at points (Some texts) i d e below even =
    let there : i < length texts = omega (arith, even, below) in
    let zipped : i < length (zip points texts) = omega (arith, length-zip points texts, below, there) in
    get_or-map {Y = Vertex} (λ v. record { point = v.0; exact = Some v.1 }) (zip points texts) i (e, ([], [])) d zipped
    ∙ ap {B = Vertex} (λ v. record { point = v.0; exact = Some v.1 }) (get_or-zip points texts i (e, ([], [])) below there)
    ∙ ap {B = Vertex} (λ o. record { point = get_or points i e; exact = o }) (sym (slice_get-get_or texts i ([], []) there))

pub place_vertex : (points : List (List (List ℕ))) (exact : Option (List (List ℕ × List ℕ))) (i : ℕ)
    (point : List (List ℕ)) (texts : Option (List ℕ × List ℕ)) (d : Vertex) → i < length points → AreEven points exact
    → point ≡ get_or points i point → texts ≡ option_and_then (λ ts. slice_get ts i) exact
    → record { point = point; exact = texts } ≡ get_or (vertices_in points exact) i d
place_vertex points exact i point texts d below even at are =
    (λ j. record { point = at j; exact = are j }) ∙ sym (vertex_at points exact i d point below even)
