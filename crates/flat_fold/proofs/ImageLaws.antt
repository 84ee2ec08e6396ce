-- The images of a sheet's vertices, from the numbers of what its faces lay.
use Rattle.std.proofs.Common.{◌≡◌, ◌∙◌, ap, sym, subst, refl, ℕ, zero, suc, List, [], map, ◌<◌, ◌≤◌, ◌+◌, ◌*◌, ◌^◌, length, true, Option, Some, None, ◌⊎◌, inl, inr, pos, arith, add-one}
use Rattle.std.specs.Prelude.{slice_index_or, slice_get}
use Rattle.std.specs.List.{Contains}
use Rattle.std.specs.BTreeMap.{BTreeMap, get, is_at, IsOrdered, keys, btree_map_len}
use Rattle.std.specs.Cmp.{IsTotalOrder, Equal-is, nat_cmp_is}
use Rattle.std.specs.Ordering.{is_eq, nat_cmp, ordering_then}
use Rattle.std.specs.declared.cmp.Ordering.{Ordering}
use Rattle.std.specs.declared.cmp.Ordering.TheVariants.{Less, Equal, Greater}
use Rattle.std.proofs.lemmas.Bool.{cases_lt, cases_order}
use Rattle.std.proofs.lemmas.Cmp.{nat_cmp_total, on_total, then_total}
use Rattle.std.proofs.lemmas.List.{get_or-map, get_or_default, get_or_past, length-map}
use Rattle.std.proofs.lemmas.Option.{slice_get-get_or, slice_get_within, get_or_from_slice_get}
use Rattle.std.proofs.lemmas.Map.Entries.{btree_map_get_place, place_from_lookup}
use Rattle.std.proofs.lemmas.Map.Keys.{Less-from_sorted}
use Rattle.algebra.specs.OrderedField.{OrderedField}
use Rattle.scaled_plane.specs.declared.point.Pair.{Pair}
use Rattle.scaled_plane.specs.declared.drawing.Face.{Face}
use Rattle.flat_fold.specs.declared.motion.Motion.{Motion}
use Rattle.flat_fold.specs.declared.images.Origin.{Origin}
use Rattle.flat_fold.specs.declared.images.LaidVertex.{LaidVertex}
use Rattle.flat_fold.specs.Computed.{ComputedField}
use Rattle.flat_fold.specs.Faces.{corners_at}
use Rattle.flat_fold.specs.Images.{origin_at, image_at, IsBefore, IsNumberOf, Gives, place_by, AreImages}
use Rattle.flat_fold.specs.Places.{laid_order, AreFacesLaidTo, AreVertices}
use Rattle.flat_fold.specs.Numbers.{laid_vertex, laid_at, origin_of, AreInOrder, AreNumbered, AreKnownNumbers}
use Rattle.flat_fold.proofs.Puts.{laid_exact}

laid_total : IsTotalOrder laid_order
laid_total = then_total (on_total (λ (p : ℕ × ℕ). p.0) nat_cmp_total) (on_total (λ (p : ℕ × ℕ). p.1) nat_cmp_total)

first_or_both : (a b x y : ℕ) → ordering_then (nat_cmp a b) (nat_cmp x y) ≡ Less → (a < b) ⊎ ((a ≡ b) × (x < y))
first_or_both a b c d h = elim (cases_order a b) [
  | inl e ↦ elim (cases_order c d) [
    | inl f ↦ absurd (let no : Less ≡ Equal = sym h ∙ ap (λ o. ordering_then o (nat_cmp c d)) (sym (nat_cmp_is a b Equal e)) ∙ sym (nat_cmp_is c d Equal f) in cc)
    | inr (inl less) ↦ inr (e, less)
    | inr (inr more) ↦ absurd (let no : Less ≡ Greater = sym h ∙ ap (λ o. ordering_then o (nat_cmp c d)) (sym (nat_cmp_is a b Equal e)) ∙ sym (nat_cmp_is c d Greater more) in cc)
  ]
  | inr (inl less) ↦ inl less
  | inr (inr more) ↦ absurd (let no : Less ≡ Greater = sym h ∙ ap (λ o. ordering_then o (nat_cmp c d)) (sym (nat_cmp_is a b Greater more)) in cc)
]

-- a corner's face is one of the faces
pub corner-face : (faces : List Face) (f v : ℕ) → Contains (corners_at faces f) v → f < length faces
corner-face faces f v h = elim (cases_lt f (length faces)) [ inl less ↦ less | inr more ↦ absurd (past more) ]
  where
    past : length faces ≤ f → ⊥
    past more =
        let none : slice_index_or faces f (record { corners = [] }) ≡ record { corners = [] } = get_or_past faces f (record { corners = [] }) more in
        let short : h.0 < length {A = ℕ} [] = subst (λ (w : Face). h.0 < length w.corners) none h.1 in
        omega arith

-- numbers that rise are no less than their places
pub rising : (f : ℕ → ℕ) (n : ℕ) → ((i j : ℕ) → i < j → j < n → f i < f j) → (i : ℕ) → i < n → i ≤ f i
rising f n up zero less = omega arith
rising f n up (suc i) less =
    let below : i ≤ f i = rising f n up i (omega arith) in
    let step : f i < f (suc i) = up i (suc i) (omega arith) less in
    omega (arith, below, step)

module _ {A : Type 0} (K : ComputedField A) (coords : List (Pair A)) (faces : List Face) (maps : List (Motion A)) (laid : BTreeMap (ℕ × ℕ) (Pair A)) (ordered : IsOrdered laid_order laid) where
  abbrev entry : ℕ → (ℕ × ℕ) × Pair A
  entry j = slice_index_or laid.entries j ((0, 0), record { x = K.field.int (pos 0); y = K.field.int (pos 0) })

  abbrev all : List (LaidVertex A)
  all = map laid_vertex laid.entries

  all-long : length all ≡ length laid.entries
  all-long = length-map laid.entries laid_vertex

  entry-at : (j : ℕ) → j < length laid.entries → laid_at K.field all j ≡ laid_vertex (entry j)
  entry-at j less = get_or-map laid_vertex laid.entries j ((0, 0), record { x = K.field.int (pos 0); y = K.field.int (pos 0) }) (record { vertex = 0; face = 0; place = record { x = K.field.int (pos 0); y = K.field.int (pos 0) } }) less

  entry-get : (j : ℕ) → j < length laid.entries → get laid_order laid (entry j).0 ≡ Some (entry j).1
  entry-get j less =
      btree_map_get_place laid_total laid j (entry j).0 (entry j).1 ordered (slice_get-get_or laid.entries j ((0, 0), record { x = K.field.int (pos 0); y = K.field.int (pos 0) }) less)

  at-get : (j : ℕ) → j < length all → get laid_order laid ((laid_at K.field all j).vertex, (laid_at K.field all j).face) ≡ Some (laid_at K.field all j).place
  at-get j less =
      let within : j < length laid.entries = (let e : length all ≡ length laid.entries = all-long in omega (arith, less, e)) in
      subst (λ (l : LaidVertex A). get laid_order laid (l.vertex, l.face) ≡ Some l.place) (sym (entry-at j within)) (entry-get j within)

  pub laid-in_order : AreInOrder K.field all
  laid-in_order i j low less =
      let within : j < length laid.entries = (let e : length all ≡ length laid.entries = all-long in omega (arith, less, e)) in
      let first : i < length laid.entries = omega (arith, low, within) in
      let keys-long : length (keys laid) ≡ length laid.entries = length-map laid.entries (λ (e : (ℕ × ℕ) × Pair A). e.0) in
      let before : laid_order (slice_index_or (keys laid) i (0, 0)) (slice_index_or (keys laid) j (0, 0)) ≡ Less
      = Less-from_sorted laid_order (keys laid) i j (0, 0) ordered low (omega (arith, within, keys-long)) in
      let key_i : slice_index_or (keys laid) i (0, 0) ≡ (entry i).0 = get_or-map (λ (e : (ℕ × ℕ) × Pair A). e.0) laid.entries i ((0, 0), record { x = K.field.int (pos 0); y = K.field.int (pos 0) }) (0, 0) first in
      let key_j : slice_index_or (keys laid) j (0, 0) ≡ (entry j).0 = get_or-map (λ (e : (ℕ × ℕ) × Pair A). e.0) laid.entries j ((0, 0), record { x = K.field.int (pos 0); y = K.field.int (pos 0) }) (0, 0) within in
      let less' : laid_order (entry i).0 (entry j).0 ≡ Less = subst (λ (q : ℕ × ℕ). laid_order (entry i).0 q ≡ Less) key_j (subst (λ (q : ℕ × ℕ). laid_order q (slice_index_or (keys laid) j (0, 0)) ≡ Less) key_i before) in
      let at : IsBefore (origin_of (laid_vertex (entry i))) (origin_of (laid_vertex (entry j))) = first_or_both (entry i).0.0 (entry j).0.0 (entry i).0.1 (entry j).0.1 less' in
      subst (λ (l : LaidVertex A). IsBefore (origin_of (laid_at K.field all i)) (origin_of l)) (sym (entry-at j within))
      (subst (λ (l : LaidVertex A). IsBefore (origin_of l) (origin_of (laid_vertex (entry j)))) (sym (entry-at i first)) at)

  module _ (done : AreFacesLaidTo K coords faces maps (length faces) (get laid_order laid)) where
    -- what is laid is given by its face
    at-gives : (j : ℕ) → j < length all → Gives K.field coords faces maps (laid_at K.field all j).face (laid_at K.field all j).vertex (laid_at K.field all j).place
    at-gives j less =
        let l : LaidVertex A = laid_at K.field all j in
        let had = at-get j less in
        let only = done.only ((laid_at K.field all j).vertex, (laid_at K.field all j).face) (laid_at K.field all j).place had in
        let k : ℕ = only.1.0 in
        let within : only.1.0 < length (corners_at faces (laid_at K.field all j).face) = only.1.1 in
        let vertex : (laid_at K.field all j).vertex ≡ slice_index_or (corners_at faces (laid_at K.field all j).face) only.1.0 0 = only.1.2 in
        let here = done.here (laid_at K.field all j).face only.1.0 only.0 within in
        let here' : get laid_order laid ((laid_at K.field all j).vertex, (laid_at K.field all j).face) ≡ Some (place_by K.field coords faces maps (laid_at K.field all j).face (laid_at K.field all j).vertex)
        = subst (λ v. get laid_order laid (v, (laid_at K.field all j).face) ≡ Some (place_by K.field coords faces maps (laid_at K.field all j).face v)) (sym vertex) here in
        record {
          corner = (only.1.0, within, get_or_default (corners_at faces (laid_at K.field all j).face) only.1.0 (laid_at K.field all j).vertex 0 within ∙ sym vertex);
          placed = (let two : Some (place_by K.field coords faces maps (laid_at K.field all j).face (laid_at K.field all j).vertex) ≡ Some (laid_at K.field all j).place = sym here' ∙ had in cc);
        }

    pub record IsFoundAt (f v : ℕ) (a : Pair A) (j : ℕ) : Type 0 where
      pub within : j < length all
      pub vertex : (laid_at K.field all j).vertex ≡ v
      pub face : (laid_at K.field all j).face ≡ f
      pub place : (laid_at K.field all j).place ≡ a

    -- what a face gives is laid
    found : (f v : ℕ) (a : Pair A) → Gives K.field coords faces maps f v a → (j : ℕ) × IsFoundAt f v a j
    found f v a h =
        let k : ℕ = h.corner.0 in
        let less : h.corner.0 < length (corners_at faces f) = h.corner.1 in
        let vertex : slice_index_or (corners_at faces f) h.corner.0 0 ≡ v = get_or_default (corners_at faces f) h.corner.0 0 v less ∙ h.corner.2 in
        let here : get laid_order laid (v, f) ≡ Some a
        = subst (λ u. get laid_order laid (u, f) ≡ Some (place_by K.field coords faces maps f u)) vertex (done.here f h.corner.0 (corner-face faces f v h.corner) less) ∙ ap (λ (b : Pair A). Some b) h.placed in
        let place = place_from_lookup (is_at (laid_order (v, f))) laid.entries a here in
        let key : (v, f) ≡ place.1 = laid_exact (v, f) place.1 ((Equal-is (laid_order (v, f) place.1)).0 place.3) in
        let within : place.0 < length laid.entries = slice_get_within laid.entries place.0 (place.1, a) place.2 in
        let is : entry place.0 ≡ (place.1, a) = get_or_from_slice_get laid.entries place.0 (place.1, a) ((0, 0), record { x = K.field.int (pos 0); y = K.field.int (pos 0) }) place.2 in
        let l : laid_at K.field all place.0 ≡ laid_vertex (place.1, a) = entry-at place.0 within ∙ ap laid_vertex is in (
          place.0,
          record {
            within = (let e : length all ≡ length laid.entries = all-long in omega (arith, within, e));
            vertex = ap (λ (x : LaidVertex A). x.vertex) l ∙ ap (λ (q : ℕ × ℕ). q.0) (sym key);
            face = ap (λ (x : LaidVertex A). x.face) l ∙ ap (λ (q : ℕ × ℕ). q.1) (sym key);
            place = ap (λ (x : LaidVertex A). x.place) l;
          },
        )

    module _ (numbers : ℕ × ℕ → Option ℕ) (origins : List Origin) (images : List (Pair A)) (numbered : AreNumbered K.field all numbers origins images) where
      gives-image : (i : ℕ) → i < length images → Gives K.field coords faces maps (origin_at origins i).face (origin_at origins i).vertex (image_at K.field images i)
      gives-image i less =
          let source = numbered.from i less in
          subst (λ (o : Origin). Gives K.field coords faces maps o.face o.vertex (image_at K.field images i)) source.2
          (subst (λ (a : Pair A). Gives K.field coords faces maps (laid_at K.field all source.0).face (laid_at K.field all source.0).vertex a) source.3 (at-gives source.0 source.1))

      pub known-numbers : AreKnownNumbers K.field coords faces maps numbers origins images
      known-numbers = record {
        each = λ f v a h. (
            let at = found f v a h in
            let had = numbered.all at.0 at.1.within in (
              had.0,
              subst (λ u. numbers (u, f) ≡ Some had.0) at.1.vertex (subst (λ g. numbers ((laid_at K.field all at.0).vertex, g) ≡ Some had.0) at.1.face had.1),
              subst (λ u. IsNumberOf K.field origins images had.0 u a) at.1.vertex (subst (λ (b : Pair A). IsNumberOf K.field origins images had.0 (laid_at K.field all at.0).vertex b) at.1.place had.2),
            )
            );
      }

      pub all-images : AreImages K.field coords faces maps origins images
      all-images = record {
        long = numbered.long;
        each = λ i less. record {
          given = gives-image i less;
          least = λ g h. (
              let at = found g (origin_at origins i).vertex (image_at K.field images i) h in
              subst (λ f. (origin_at origins i).face ≤ f) at.1.face (numbered.least i at.0 less at.1.within at.1.vertex at.1.place)
              );
        };
        all = λ f v a h. (let known = known-numbers.each f v a h in (known.0, known.2));
        in_order = numbered.in_order;
      }

    -- few vertices by few faces are few
    abbrev key-number : ℕ → ℕ
    key-number j = (laid_at K.field all j).vertex * 512 + (laid_at K.field all j).face

    module _ (few_vertices : length coords ≤ 16384) (few_faces : length faces ≤ 512) (vertices : (f : ℕ) → AreVertices (length coords) (corners_at faces f)) where
      few-face : (j : ℕ) → j < length all → (laid_at K.field all j).face < 512
      few-face j less =
          let within : (laid_at K.field all j).face < length faces = corner-face faces (laid_at K.field all j).face (laid_at K.field all j).vertex (at-gives j less).corner in
          omega (arith, within, few_faces)

      few-vertex : (j : ℕ) → j < length all → (laid_at K.field all j).vertex < 16384
      few-vertex j less =
          let corner = (at-gives j less).corner in
          let within : slice_index_or (corners_at faces (laid_at K.field all j).face) corner.0 0 < length coords = vertices (laid_at K.field all j).face corner.0 corner.1 in
          let same : slice_index_or (corners_at faces (laid_at K.field all j).face) corner.0 0 ≡ (laid_at K.field all j).vertex
          = get_or_default (corners_at faces (laid_at K.field all j).face) corner.0 0 (laid_at K.field all j).vertex corner.1 ∙ corner.2 in
          omega (arith, within, same, few_vertices)

      rises : (i j : ℕ) → i < j → j < length all → key-number i < key-number j
      rises i j low less =
          let face : (laid_at K.field all i).face < 512 = few-face i (omega (arith, low, less)) in
          elim (laid-in_order i j low less) [
            | inl before ↦ omega (arith, before, face)
            | inr both ↦ let x = both.0 in let y = both.1 in omega (arith, x, y)
          ]

      pub few-laid : length laid.entries < 2 ^ 32
      few-laid = elim (cases_lt 8388608 (length all)) [
        | inl more ↦ (
            let last : 8388608 ≤ key-number 8388608 = rising key-number (length all) rises 8388608 more in
            let face : (laid_at K.field all 8388608).face < 512 = few-face 8388608 more in
            let vertex : (laid_at K.field all 8388608).vertex < 16384 = few-vertex 8388608 more in
            absurd (omega (arith, last, face, vertex))
            )
        | inr few ↦ (let e : length all ≡ length laid.entries = all-long in omega (arith, few, e))
      ]
