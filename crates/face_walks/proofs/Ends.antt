-- Drawings without vertices, and what the walks of others say of regions.
use Rattle.std.proofs.Common.{◌≡◌, ℕ, ◌<◌, List, [], ◌∷◌, length, refl, sym, ap, subst, ◌∙◌, arith}
use Rattle.std.specs.Prelude.{ℤ, Contains, Err, IfOk, Ok, OnOk, Result}
use Rattle.algebra.specs.Surd.{Surd}
use Rattle.algebra.specs.WholeSurds.{SurdNumbers}
use Rattle.plane.specs.declared.point.Point.{Point}
use Rattle.plane.specs.Points.{IsPoint}
use Rattle.plane.proofs.Members.{in_head, in_nil}
use Rattle.scaled_plane.specs.declared.drawing.Drawing.{Drawing}
use Rattle.scaled_plane.specs.declared.drawing.Edge.{Edge}
use Rattle.scaled_plane.specs.declared.drawing.Face.{Face}
use Rattle.scaled_plane.specs.Regions.{IsBounded}
use Rattle.scaled_plane.specs.Walks.{AreFaces, IsWalk}
use Rattle.scaled_plane.specs.WellSet.{IsWellSet}
use Rattle.regions.specs.Faces.{AreBoundedRegions, FacesAreBounded, IsConnected, WalksHaveRegions}
use Rattle.regions.proofs.Bounded.{bounded_faces, listed_faces, regions_of_walks}
use Rattle.regions.proofs.Empty.{no_walk, one_region_unbounded}
use Rattle.regions.proofs.Pieces.{bounded_of, place}
use Rattle.half_edges.specs.Halves.{Halves}
use Rattle.face_walks.specs.Linked.{IsLinked}
use Rattle.face_walks.proofs.Facing.{sorted_by_places}
use Rattle.face_walks.proofs.Settled.{plane}

pub if_ok_then : {T E : Type 0} {P Q : T → Type 0} {J : Type 0} (r : Result T E) → IfOk r P → OnOk r J → ((x : T) → P x → J → Q x) → IfOk r Q
if_ok_then (Ok x) p j f = f x p j
if_ok_then (Err e) p j f = tt

module _ {A : Type 0} {k : ℕ} {surd : A → Surd ℤ} (numbers : SurdNumbers k surd) (drawing : Drawing A) (set : IsWellSet numbers drawing) where
  module _ (none : drawing.vertices ≡ []) where
    pub no_edge : (e : Edge) → ¬ Contains drawing.edges e
    no_edge e i = let l = (set.ends e i).0 in omega (arith, l, ap length none)

    no_edges : drawing.edges ≡ []
    no_edges = by drawing.edges no_edge
      where
        by : (es : List Edge) → ((e : Edge) → ¬ Contains es e) → es ≡ []
        by [] h = refl
        by (e ∷ es) h = absurd (h e (in_head e es))

    pub linked_none : (arena : Halves (ℕ × ℕ)) → arena.payloads ≡ [] → arena.nexts ≡ [] → IsLinked numbers.ring drawing.vertices drawing.edges arena
    linked_none arena p n =
        let zero : length arena.nexts ≡ 0 = ap length n in
        record {
          holds = record {
            is_arena = record {
              carried = ap length p ∙ sym zero;
              in_pairs = omega (arith, zero);
              few = omega (arith, zero);
              within = λ h l. absurd (omega (arith, l, zero));
              one_to_one = λ g h lg lh. absurd (omega (arith, lg, zero));
            };
            only = λ h l. absurd (omega (arith, l, zero));
            every = λ u v d. absurd (no_edge d.0 d.1);
            once = λ g h lg. absurd (omega (arith, lg, zero));
            reversed = λ h l. absurd (omega (arith, l, zero));
          };
          follow = λ h l. absurd (omega (arith, l, zero));
        }

    no_walks_there : (corners : List ℕ) → ¬ IsWalk numbers.ring drawing.vertices drawing.edges corners
    no_walks_there corners w = no_walk numbers.ring drawing.vertices corners (subst (λ (es : List Edge). IsWalk numbers.ring drawing.vertices es corners) no_edges w)

    pub faces_none : (faces : List Face) → faces ≡ [] → AreFaces numbers.ring drawing.vertices drawing.edges faces
    faces_none faces e = subst (λ (fs : List Face). AreFaces numbers.ring drawing.vertices drawing.edges fs) (sym e) (record {
      sorted = sorted_by_places _ [] (λ j m d l b. absurd (omega (arith, b)));
      only = λ x i. absurd (in_nil x i);
      every = λ x f. absurd (no_walks_there x.corners f.walk);
    })

    unbounded : (q : Point A) → IsPoint numbers.ring q → ¬ IsBounded numbers.ring drawing.vertices drawing.edges q
    unbounded q hq b =
        one_region_unbounded numbers.ring (λ (v : ℕ). place numbers.ring drawing.vertices [] v) q hq
        (bounded_of numbers.ring drawing.vertices [] q (subst (λ (es : List Edge). IsBounded numbers.ring drawing.vertices es q) no_edges b))

    pub regions_none : (faces : List Face) → faces ≡ [] → AreBoundedRegions numbers.ring drawing.vertices drawing.edges faces
    regions_none faces e = subst (λ (fs : List Face). AreBoundedRegions numbers.ring drawing.vertices drawing.edges fs) (sym e) (record {
      some_point = λ f i. absurd (in_nil f i);
      one_region = λ f i. absurd (in_nil f i);
      bounded = λ f i. absurd (in_nil f i);
      every = λ q hq off b. absurd (unbounded q hq b);
      each_once = λ i j d l m. absurd (omega (arith, m));
    })

  pub some_edge : 0 < length drawing.vertices → (e : Edge) × Contains drawing.edges e
  some_edge l = let e = set.used 0 l in (e.0, e.1)

  pub bounded_regions : 0 < length drawing.vertices → (faces : List Face) → AreFaces numbers.ring drawing.vertices drawing.edges faces
      → IsConnected numbers.ring drawing.vertices drawing.edges → AreBoundedRegions numbers.ring drawing.vertices drawing.edges faces
  bounded_regions l faces are joined =
      let e = some_edge l in
      listed_faces numbers.ring drawing.vertices drawing.edges (plane numbers drawing set) e.0 e.1 joined faces are

  pub faces_bounded : (e : Edge) → Contains drawing.edges e → IsConnected numbers.ring drawing.vertices drawing.edges → FacesAreBounded numbers.ring drawing.vertices drawing.edges
  faces_bounded e i joined = bounded_faces numbers.ring drawing.vertices drawing.edges (plane numbers drawing set) e i joined

  pub have_regions : (e : Edge) → Contains drawing.edges e → WalksHaveRegions numbers.ring drawing.vertices drawing.edges
  have_regions e i = regions_of_walks numbers.ring drawing.vertices drawing.edges (plane numbers drawing set) e i

pub not_none : {X : Type 0} (xs : List X) → ¬ (xs ≡ []) → 0 < length xs
not_none [] n = absurd (n refl)
not_none (x ∷ xs) n = omega arith
