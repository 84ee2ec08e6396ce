-- What covers the pieces of segments gives their edges and lines, in a well set drawing.
use mathlib.Core.Path.{◌≡◌, refl, sym, subst, ◌∙◌}
use mathlib.Core.List.{List, [], ◌∷◌, ◌++◌, map}
use mathlib.Core.Logic.{◌⊎◌, inl, inr}
use native.Mathlib.Omega.{arith}
use Rattle.std.specs.Prelude.{ℕ, ◌^◌, ◌<◌, ◌≤◌, ◌↔◌, ℤ, Contains, AllPairs, IsTrue, true, Option, None, Some, length, max, min, slice_get, slice_index_or}
use Rattle.std.specs.List.{AllZip}
use Rattle.std.specs.List.Sorted.{IsStrictlySortedBy}
use Rattle.std.specs.Ordering.{is_eq, nat_cmp}
use Rattle.std.specs.Cmp.{IsTotalOrder, nat_cmp_total, on_total}
use Rattle.std.specs.declared.cmp.Ordering.{Ordering}
use Rattle.std.specs.declared.cmp.Ordering.TheVariants.{Less, Equal, Greater}
use Rattle.std.specs.BTreeMap.{BTreeMap, IsOrdered, get}
use Rattle.std.proofs.lemmas.Bool.{cases_lt}
use Rattle.std.proofs.lemmas.Cmp.{then_total}
use Rattle.std.proofs.lemmas.List.Elements.{All-weaker, Contains-append_left, Contains-get_or}
use Rattle.std.proofs.lemmas.Map.Entries.{btree_map_get_place, place_from_lookup}
use Rattle.std.proofs.lemmas.Map.Keys.{Less-from_sorted}
use Rattle.std.proofs.lemmas.Map.Lookups.{exact_pairs, exact_unsigned}
use Rattle.fold_base.specs.declared.letter.Letter.{Letter}
use Rattle.algebra.specs.OrderedRing.{OrderedRing}
use Rattle.algebra.specs.Surd.{Surd}
use Rattle.algebra.specs.WholeSurds.{SurdNumbers}
use Rattle.plane.specs.declared.point.Point.{Point}
use Rattle.plane.specs.Points.{IsPoint, point_order}
use Rattle.plane.specs.Lines.{side}
use Rattle.plane.specs.Segments.{IsEnd, MeetInEnds}
use Rattle.plane.proofs.Lines.{same_refl, same_turned}
use Rattle.plane.proofs.Members.{in_head, in_tail}
use Rattle.plane.proofs.OnSegments.{between_is_on, from_is_on, on_between, to_is_on}
use Rattle.plane.proofs.Order.{order_same, order_same_right}
use Rattle.plane.proofs.Shares.{on_same, side_of_on}
use Rattle.scaled_plane.specs.declared.point.Segment.{Segment}
use Rattle.scaled_plane.specs.declared.drawing.Edge.{Edge}
use Rattle.scaled_plane.specs.Drawn.{IsDrawn, IsScaledPoint, IsScaledSegment}
use Rattle.scaled_plane.specs.Pieces.{AreLines, ArePieces, AreVertices, Covers, CoversWith, IsEndOfOne, IsFirstCover, IsLine, IsMerged, IsPiece, IsPieceEdge, IsProper, IsVertex, edge_order}
use Rattle.scaled_plane.specs.WellSet.{HasEnd, IsWellSet, LiesAlong}
use Rattle.scaled_plane.proofs.DrawnSizes.{scaled_point}
use Rattle.arrangement.specs.declared.covers.Cover.{Cover}
use Rattle.arrangement.specs.Covers.{HasCovers, HasEndsAt, IsCover, IsEdgeOf, IsKnown, IsPlaceOf, JoinsNext, LiesOn, piece_order}
use Rattle.arrangement.specs.Found.{HasEnds}
use Rattle.arrangement.specs.Letters.{has}
use Rattle.arrangement.proofs.Joining.{ends_of, last_joins, next_on, on_from_first, on_to_second}
use Rattle.arrangement.proofs.Merging.{merged_moved, merged_once}
use Rattle.arrangement.proofs.OnLines.{apart, between_on_line, line_of_three, order_of_between}
use Rattle.arrangement.proofs.Zipped.{edges_differ, edges_sorted, few_edges, in_of_place, of_first, of_second, place_of_in, weaker_within, with_made}
use Rattle.arrangement.proofs.Parting.{pieces_apart}
use Rattle.arrangement.proofs.Places.{at, at_there, before_at, one_place, place_of_has, places_before}

pub pieces_total : IsTotalOrder piece_order
pieces_total = then_total (on_total (λ (p : ℕ × ℕ). p.0) nat_cmp_total) (on_total (λ (p : ℕ × ℕ). p.1) nat_cmp_total)

is_level : (o : Ordering) → is_eq o ≡ true → o ≡ Equal
is_level Less h = absurd (cc)
is_level Equal h = refl
is_level Greater h = absurd (cc)

in_middle : {X : Type 0} (xs : List X) (x : X) (ys : List X) → Contains (xs ++ x ∷ ys) x
in_middle [] x ys = in_head x ys
in_middle (z ∷ xs) x ys = in_tail z (xs ++ x ∷ ys) x (in_middle xs x ys)

in_front_of : {X : Type 0} (xs : List X) (x : X) (ys : List X) (z : X) → Contains xs z → Contains (xs ++ x ∷ ys) z
in_front_of xs x ys z c = Contains-append_left xs (x ∷ ys) z c

module _ {A : Type 0} (K : OrderedRing A) (segments : List (Segment A)) (vertices : List (Point A)) (all : AreVertices K segments vertices)
    (ends : (s : Segment A) → Contains segments s → IsPoint K s.from × IsPoint K s.to) where
  points : (p : Point A) → Contains vertices p → IsPoint K p
  points p c = (all.only p c).0

  vertex_at : (v : ℕ) → v < length vertices → IsVertex K segments (at K vertices v)
  vertex_at v h = all.only (at K vertices v) (at_there K vertices v h)

  point_there : (v : ℕ) → v < length vertices → IsPoint K (at K vertices v)
  point_there v h = points (at K vertices v) (at_there K vertices v h)

  place_of : (p : Point A) → IsVertex K segments p → (v : ℕ) × IsPlaceOf K vertices p v
  place_of p h = place_of_has K vertices p (all.every p h)

  -- ---- neighbours on a segment are pieces that it covers

  covers_of : (s : Segment A) (a b : ℕ) → JoinsNext K vertices s a b → Covers K s (at K vertices a) (at K vertices b)
  covers_of s a b j = record { proper = j.proper; first = j.first; second = j.second }

  pub piece_of : (s : Segment A) (a b : ℕ) → Contains segments s → JoinsNext K vertices s a b → IsPiece K segments (at K vertices a) (at K vertices b)
  piece_of s a b c j = record {
    first = vertex_at a first;
    second = vertex_at b j.in_range;
    in_order = before_at K vertices all.sorted a b j.in_order j.in_range;
    covered = (s, c, covers_of s a b j);
    nothing_between = λ r hr between.
        let v = place_of r hr in
        let order = order_of_between K (at K vertices a) (at K vertices b) r (point_there a first) (point_there b j.in_range) hr.0 (before_at K vertices all.sorted a b j.in_order j.in_range) between in
        let hv = point_there v.0 v.1.in_range in
        let after = places_before K vertices all.sorted a v.0 first (sym (order_same_right K r (at K vertices v.0) (at K vertices a) hr.0 hv v.1.same) ∙ order.0) in
        let before = places_before K vertices all.sorted v.0 b v.1.in_range (sym (order_same K r (at K vertices v.0) (at K vertices b) hr.0 hv v.1.same) ∙ order.1) in
        j.nothing_between v.0 after before (on_same K hr.0 hv v.1.same (on_between K s.from s.to (at K vertices a) (at K vertices b) r j.first j.second (between_is_on K between)));
  }
    where
      first : a < length vertices
      first = let x = j.in_order in let y = j.in_range in omega (arith, x, y)

  pub joins_of : (s : Segment A) (a b : ℕ) → a < b → b < length vertices → IsPiece K segments (at K vertices a) (at K vertices b) → Covers K s (at K vertices a) (at K vertices b) → JoinsNext K vertices s a b
  joins_of s a b less within piece covers = record {
    proper = covers.proper;
    in_order = less;
    in_range = within;
    first = covers.first;
    second = covers.second;
    nothing_between = λ v after before on.
        let hv : v < length vertices = omega (arith, before, within) in
        piece.nothing_between (at K vertices v) (vertex_at v hv)
        (between_on_line K s.from s.to (at K vertices a) (at K vertices b) (at K vertices v) (point_there a (omega (arith, less, within))) (point_there b within) (point_there v hv) covers.proper
        (side_of_on K covers.first) (side_of_on K covers.second) (side_of_on K on)
        (before_at K vertices all.sorted a v after hv) (before_at K vertices all.sorted v b before within));
  }

  -- ---- each vertex is an end of a piece

  -- the places of the ends of a proper segment
  pub ends_at : (s : Segment A) → Contains segments s → IsProper K s → (places : ℕ × ℕ) × HasEndsAt K vertices s places
  ends_at s c n =
      let from = place_of s.from ((ends s c).0, inl (s, c, n, inl (same_refl K s.from))) in
      let to = place_of s.to ((ends s c).1, inl (s, c, n, inr (same_refl K s.to))) in
      ((min from.0 to.0, max from.0 to.0), ends_of K vertices points all.sorted s (ends s c).0 (ends s c).1 from.0 to.0 (min from.0 to.0) (max from.0 to.0) n from.1 to.1 refl refl)

  -- a vertex is on a proper segment
  covering : (v : ℕ) → v < length vertices → (s : Segment A) × Contains segments s × IsProper K s × LiesOn K vertices s v
  covering v h = elim (vertex_at v h).1 [
    | inl e ↦ (
      e.0,
      e.1,
      e.2,
      elim e.3 [
        | inl f ↦ on_same K (ends e.0 e.1).0 (point_there v h) (same_turned K f) (from_is_on K (e.0).from (e.0).to)
        | inr f ↦ on_same K (ends e.0 e.1).1 (point_there v h) (same_turned K f) (to_is_on K (e.0).from (e.0).to)
      ],
    )
    | inr k ↦ (k.0, k.2, k.4, k.7.0)
  ]

  -- the vertex and another are joined by a segment
  abbrev pub IsJoined : ℕ → Type 0
  IsJoined v = (s : Segment A) × Contains segments s × ((w : ℕ) × (JoinsNext K vertices s v w ⊎ JoinsNext K vertices s w v))

  pub joined : (v : ℕ) → v < length vertices → IsJoined v
  joined v h =
      let on = covering v h in
      let places = ends_at on.0 on.1 on.2 in
      let from = on_from_first K vertices points all.sorted on.0 (ends on.0 on.1).0 (ends on.0 on.1).1 places.0 places.1 v h on.3 in
      let upto = on_to_second K vertices points all.sorted on.0 (ends on.0 on.1).0 (ends on.0 on.1).1 places.0 places.1 v h on.3 in
      (on.0, on.1, by_cases on places from upto (cases_lt v places.0.1))
    where
      by_cases : (on : (s : Segment A) × Contains segments s × IsProper K s × LiesOn K vertices s v) (places : (p : ℕ × ℕ) × HasEndsAt K vertices on.0 p)
          → places.0.0 ≤ v → v ≤ places.0.1 → (v < places.0.1) ⊎ (places.0.1 ≤ v) → (w : ℕ) × (JoinsNext K vertices on.0 v w ⊎ JoinsNext K vertices on.0 w v)
      by_cases on places from upto (inl less) =
          let next = next_on K vertices points all.sorted on.0 (ends on.0 on.1).0 (ends on.0 on.1).1 places.0 places.1 v on.3 from less in
          (next.0, inl next.1)
      by_cases on places from upto (inr end) =
          let last = last_joins K vertices points all.sorted on.0 (ends on.0 on.1).0 (ends on.0 on.1).1 places.0 places.1 in
          let same : places.0.1 ≡ v = omega (arith, upto, end) in
          (last.0, inr (subst (JoinsNext K vertices on.0 last.0) same last.1))

  -- ---- covers as edges

  module _ (covers : BTreeMap (ℕ × ℕ) Cover) (known : HasCovers K vertices segments covers) (ordered : IsOrdered piece_order covers) where
    -- what an entry says
    entry_cover : (i : ℕ) (entry : (ℕ × ℕ) × Cover) → slice_get covers.entries i ≡ Some entry → IsCover K vertices segments entry.0.0 entry.0.1 entry.1
    entry_cover i entry e =
        let found : get piece_order covers entry.0 ≡ Some entry.1 = btree_map_get_place pieces_total covers i entry.0 entry.1 ordered e in
        subst (IsKnown K vertices segments entry.0.0 entry.0.1) found (known entry.0.0 entry.0.1)

    -- the entry of two joined vertices
    entry_of : (s : Segment A) (a b : ℕ) → Contains segments s → JoinsNext K vertices s a b → (i : ℕ) × (cover : Cover) × (slice_get covers.entries i ≡ Some ((a, b), cover))
    entry_of s a b c j = at_found (get piece_order covers (a, b)) refl (known a b)
      where
        at_found : (o : Option Cover) → get piece_order covers (a, b) ≡ o → IsKnown K vertices segments a b o → (i : ℕ) × (cover : Cover) × (slice_get covers.entries i ≡ Some ((a, b), cover))
        at_found None e k = absurd (k s c j)
        at_found (Some cover) e k =
            let r = place_from_lookup (λ q. is_eq (piece_order (a, b) q)) covers.entries cover e in
            let key : (a, b) ≡ r.1 = exact_pairs nat_cmp nat_cmp exact_unsigned exact_unsigned (a, b) r.1 (is_level (piece_order (a, b) r.1) r.3) in
            (r.0, cover, subst (λ (q : ℕ × ℕ). slice_get covers.entries r.0 ≡ Some (q, cover)) (sym key) r.2)

    cover_segment : {a b : ℕ} {cover : Cover} (h : IsCover K vertices segments a b cover) → Contains segments h.line_is.cover
    cover_segment h = subst (λ xs. Contains xs h.line_is.cover) (sym h.line_is.is) (in_middle h.line_is.before h.line_is.cover h.line_is.after)

    -- the letters of a piece are those of the segments that cover it
    letters_of : (a b : ℕ) (cover : Cover) → IsCover K vertices segments a b cover → (l : Letter) → IsTrue (has cover.letters l) ↔ CoversWith K segments (at K vertices a) (at K vertices b) l
    letters_of a b cover h l = (
      λ e. let r = (h.letters l).0 e in (r.0, r.1, covers_of r.0 a b r.2, r.3),
      λ r. (h.letters l).1 (r.0, r.1, joins_of r.0 a b h.line_is.joins.in_order h.line_is.joins.in_range (piece_of h.line_is.cover a b (cover_segment h) h.line_is.joins) r.2, r.3),
    )

    -- an edge made of an entry is a piece with its letter
    piece_edge : (i : ℕ) (entry : (ℕ × ℕ) × Cover) (e : Edge) → slice_get covers.entries i ≡ Some entry → IsEdgeOf entry e → IsPieceEdge K segments vertices e
    piece_edge i entry e there is =
        let h = entry_cover i entry there in
        let j = h.line_is.joins in
        let l = (h.line_is.cover).letter in
        let some : IsTrue (has entry.1.letters l) = (h.letters l).1 (h.line_is.cover, cover_segment h, j, refl) in
        record {
          in_order = let x = j.in_order in let a = is.from_is in let b = is.to_is in omega (arith, x, a, b);
          in_range = let x = j.in_range in let b = is.to_is in omega (arith, x, b);
          piece = subst (λ u. IsPiece K segments (at K vertices u) (at K vertices e.to)) (sym is.from_is)
              (subst (λ v. IsPiece K segments (at K vertices entry.0.0) (at K vertices v)) (sym is.to_is) (piece_of h.line_is.cover entry.0.0 entry.0.1 (cover_segment h) j));
          letter = subst (λ u. IsMerged (CoversWith K segments (at K vertices u) (at K vertices e.to)) e.letter) (sym is.from_is)
              (subst (λ v. IsMerged (CoversWith K segments (at K vertices entry.0.0) (at K vertices v)) e.letter) (sym is.to_is)
              (merged_moved (λ m. IsTrue (has entry.1.letters m)) (CoversWith K segments (at K vertices entry.0.0) (at K vertices entry.0.1)) (letters_of entry.0.0 entry.0.1 entry.1 h) e.letter (is.letter_is l some)));
        }

    -- its line is that of the first segment that covers it
    line_of : (i : ℕ) (entry : (ℕ × ℕ) × Cover) (e : Edge) → slice_get covers.entries i ≡ Some entry → IsEdgeOf entry e → IsLine K segments vertices e entry.1.line
    line_of i entry e there is =
        let h = entry_cover i entry there in
        let first = h.line_is in
        let piece = piece_of first.cover entry.0.0 entry.0.1 (cover_segment h) first.joins in
        record {
          in_order = first.ends_at.in_order;
          in_range = first.ends_at.in_range;
          is = subst (λ u. IsFirstCover K segments (at K vertices u) (at K vertices e.to) (at K vertices entry.1.line.0) (at K vertices entry.1.line.1)) (sym is.from_is)
              (subst (λ v. IsFirstCover K segments (at K vertices entry.0.0) (at K vertices v) (at K vertices entry.1.line.0) (at K vertices entry.1.line.1)) (sym is.to_is)
              (record {
                before = first.before;
                after = first.after;
                cover = first.cover;
                is = first.is;
                covers = covers_of first.cover entry.0.0 entry.0.1 first.joins;
                none_before = All-weaker (λ s. ¬ JoinsNext K vertices s entry.0.0 entry.0.1) (λ s. ¬ Covers K s (at K vertices entry.0.0) (at K vertices entry.0.1))
                    (λ s n k. n (joins_of s entry.0.0 entry.0.1 first.joins.in_order first.joins.in_range piece k)) first.before first.none_before;
                ends = first.ends_at.is;
              }));
        }

    -- ---- all edges

    module _ (edges : List Edge) (made : AllZip IsEdgeOf covers.entries edges) where
      edge_is : (e : Edge) → Contains edges e → IsPieceEdge K segments vertices e
      edge_is e c =
          let entry = of_second IsEdgeOf covers.entries edges made e c in
          let i = place_of_in covers.entries entry.0 entry.1 in
          piece_edge i.0 entry.0 e i.1 entry.2

      -- the edge of two joined vertices
      pub edge_of : (s : Segment A) (a b : ℕ) → Contains segments s → JoinsNext K vertices s a b → (e : Edge) × Contains edges e × (e.from ≡ a) × (e.to ≡ b)
      edge_of s a b c j =
          let i = entry_of s a b c j in
          let e = of_first IsEdgeOf covers.entries edges made ((a, b), i.1) (in_of_place covers.entries i.0 ((a, b), i.1) i.2) in
          (e.0, e.1, e.2.from_is, e.2.to_is)

      edge_found : (e : Edge) → IsPieceEdge K segments vertices e → (f : Edge) × Contains edges f × (e ≡ f)
      edge_found e h =
          let s = h.piece.covered in
          let f = edge_of s.0 e.from e.to s.1 (joins_of s.0 e.from e.to h.in_order h.in_range h.piece s.2) in
          let k = edge_is f.0 f.1 in
          let letter : e.letter ≡ (f.0).letter
          = merged_once (CoversWith K segments (at K vertices e.from) (at K vertices e.to)) e.letter (f.0).letter h.letter
          (subst (λ u. IsMerged (CoversWith K segments (at K vertices u) (at K vertices e.to)) (f.0).letter) f.2
          (subst (λ v. IsMerged (CoversWith K segments (at K vertices (f.0).from) (at K vertices v)) (f.0).letter) f.3 k.letter)) in
          (f.0, f.1, λ i. record { from = sym f.2 i; to = sym f.3 i; letter = letter i })

      sorted_edges : IsStrictlySortedBy edge_order edges
      sorted_edges = edges_sorted covers.entries edges made ordered

      pub are_pieces : ArePieces K segments vertices edges
      are_pieces = record { sorted = sorted_edges; only = edge_is; every = edge_found }

      pub are_lines : AreLines K segments vertices edges (map (λ e. e.1.line) covers.entries)
      are_lines =
          with_made IsEdgeOf (IsLine K segments vertices) (λ e. e.1.line) covers.entries edges made
          (λ entry e c is. (let i = place_of_in covers.entries entry c in line_of i.0 entry e i.1 is))

      -- different edges meet in common ends alone
      pub apart_in_plane : AllPairs (λ e f. MeetInEnds K (at K vertices e.from) (at K vertices e.to) (at K vertices f.from) (at K vertices f.to)) edges
      apart_in_plane i j d less within =
          let e = slice_index_or edges i d in
          let f = slice_index_or edges j d in
          let he = edge_is e (Contains-get_or edges i d (omega (arith, less, within))) in
          let hf = edge_is f (Contains-get_or edges j d within) in
          pieces_apart K segments (at K vertices e.from) (at K vertices e.to) (at K vertices f.from) (at K vertices f.to) he.piece hf.piece
          (λ same. edges_differ e f (Less-from_sorted edge_order edges i j d sorted_edges less within) (
            one_place K vertices all.sorted e.from f.from (let x = he.in_order in let y = he.in_range in omega (arith, x, y)) (let x = hf.in_order in let y = hf.in_range in omega (arith, x, y)) same.0,
            one_place K vertices all.sorted e.to f.to he.in_range hf.in_range same.1,
          ))

      pub each_used : (v : ℕ) → v < length vertices → (e : Edge) × Contains edges e × HasEnd e v
      each_used v h = by_cases (joined v h)
        where
          by_cases : IsJoined v → (e : Edge) × Contains edges e × HasEnd e v
          by_cases (s, c, (w, inl j)) = let e = edge_of s v w c j in (e.0, e.1, inl e.2)
          by_cases (s, c, (w, inr j)) = let e = edge_of s w v c j in (e.0, e.1, inr e.3)

      pub few : length vertices ≤ 16384 → length edges < 2 ^ 30
      few short =
          let most = few_edges edges sorted_edges (λ e c. (let h = edge_is e c in let x = h.in_order in let y = h.in_range in (omega (arith, x, y, short), omega (arith, y, short)))) in
          omega (arith, most)

      pub ends_differ : (e : Edge) → Contains edges e → (e.from < length vertices) × (e.to < length vertices) × ¬ (e.from ≡ e.to)
      ends_differ e c =
          let h = edge_is e c in
          let x = h.in_order in
          let y = h.in_range in
          (omega (arith, x, y), y, λ z. omega (arith, x, z))

module _ {A : Type 0} {k : ℕ} {surd : A → Surd ℤ} (numbers : SurdNumbers k surd) (segments : List (Segment A)) (vertices : List (Point A)) (scaled : (s : Segment A) → Contains segments s → IsScaledSegment numbers s)
    (all : AreVertices numbers.ring segments vertices) (drawn : (p : Point A) → Contains vertices p → IsDrawn numbers p)
    (scaled_ends : (p : Point A) → Contains vertices p → IsEndOfOne numbers.ring segments p → IsScaledPoint numbers p) where
  pub end_points : (s : Segment A) → Contains segments s → IsPoint numbers.ring s.from × IsPoint numbers.ring s.to
  end_points s c = (scaled_point numbers s.from (scaled s c).from, scaled_point numbers s.to (scaled s c).to)

  -- what the cutting asks: the ends of the proper segments are there
  pub has_ends : (s : Segment A) → Contains segments s → IsProper numbers.ring s → HasEnds numbers.ring vertices s
  has_ends s c n = (
    all.every s.from ((end_points s c).0, inl (s, c, n, inl (same_refl numbers.ring s.from))),
    all.every s.to ((end_points s c).1, inl (s, c, n, inr (same_refl numbers.ring s.to))),
  )

  module _ (edges : List Edge) (lines : List (ℕ × ℕ)) where
    -- the line of an edge lies along it, between scaled points
    lies_along : (e : Edge) (line : ℕ × ℕ) → IsLine numbers.ring segments vertices e line → LiesAlong numbers (record { vertices = vertices; edges = edges; lines = lines }) e line
    lies_along e line h = record {
      first_in_range = first;
      second_in_range = h.in_range;
      different = λ z. (let x = h.in_order in omega (arith, x, z));
      first_scaled = scaled_ends (at numbers.ring vertices line.0) (at_there numbers.ring vertices line.0 first) (
        cover,
        there,
        cover_proper,
        elim h.is.ends [
          | inl same ↦ inl (same_turned numbers.ring same.0)
          | inr same ↦ inr (same_turned numbers.ring same.1)
        ],
      );
      second_scaled = scaled_ends (at numbers.ring vertices line.1) (at_there numbers.ring vertices line.1 h.in_range) (
        cover,
        there,
        cover_proper,
        elim h.is.ends [
          | inl same ↦ inr (same_turned numbers.ring same.1)
          | inr same ↦ inl (same_turned numbers.ring same.0)
        ],
      );
      from_on = line_of_three numbers.ring cover.from cover.to (at numbers.ring vertices line.0) (at numbers.ring vertices line.1) (at numbers.ring vertices e.from) cover_proper first_on_line second_on_line (side_of_on numbers.ring h.is.covers.first);
      to_on = line_of_three numbers.ring cover.from cover.to (at numbers.ring vertices line.0) (at numbers.ring vertices line.1) (at numbers.ring vertices e.to) cover_proper first_on_line second_on_line (side_of_on numbers.ring h.is.covers.second);
    }
      where
        cover : Segment A
        cover = h.is.cover

        first : line.0 < length vertices
        first = let x = h.in_order in let y = h.in_range in omega (arith, x, y)

        there : Contains segments h.is.cover
        there = subst (λ xs. Contains xs h.is.cover) (sym h.is.is) (in_middle h.is.before h.is.cover h.is.after)

        cover_proper : IsProper numbers.ring h.is.cover
        cover_proper = h.is.covers.proper

        point_of : (v : ℕ) → v < length vertices → IsPoint numbers.ring (at numbers.ring vertices v)
        point_of v b = (all.only (at numbers.ring vertices v) (at_there numbers.ring vertices v b)).0

        end_on_line : (v : ℕ) → v < length vertices → IsEnd numbers.ring (h.is.cover).from (h.is.cover).to (at numbers.ring vertices v) → side numbers.ring (h.is.cover).from (h.is.cover).to (at numbers.ring vertices v) ≡ Equal
        end_on_line v b (inl same) =
            side_of_on numbers.ring (on_same numbers.ring (end_points h.is.cover there).0 (point_of v b) (same_turned numbers.ring same) (from_is_on numbers.ring (h.is.cover).from (h.is.cover).to))
        end_on_line v b (inr same) =
            side_of_on numbers.ring (on_same numbers.ring (end_points h.is.cover there).1 (point_of v b) (same_turned numbers.ring same) (to_is_on numbers.ring (h.is.cover).from (h.is.cover).to))

        first_on_line : side numbers.ring (h.is.cover).from (h.is.cover).to (at numbers.ring vertices line.0) ≡ Equal
        first_on_line = end_on_line line.0 first (elim h.is.ends [
          | inl same ↦ inl (same_turned numbers.ring same.0)
          | inr same ↦ inr (same_turned numbers.ring same.1)
        ])

        second_on_line : side numbers.ring (h.is.cover).from (h.is.cover).to (at numbers.ring vertices line.1) ≡ Equal
        second_on_line = end_on_line line.1 h.in_range (elim h.is.ends [
          | inl same ↦ inr (same_turned numbers.ring same.1)
          | inr same ↦ inl (same_turned numbers.ring same.0)
        ])

    module _ (covers : BTreeMap (ℕ × ℕ) Cover) (known : HasCovers numbers.ring vertices segments covers) (ordered : IsOrdered piece_order covers) (made : AllZip IsEdgeOf covers.entries edges)
        (lines_are : lines ≡ map (λ e. e.1.line) covers.entries) (short : length vertices ≤ 16384) where
      pub drawn_pieces : ArePieces numbers.ring segments vertices edges
      drawn_pieces = are_pieces numbers.ring segments vertices all end_points covers known ordered edges made

      pub drawn_lines : AreLines numbers.ring segments vertices edges lines
      drawn_lines = subst (AreLines numbers.ring segments vertices edges) (sym lines_are) (are_lines numbers.ring segments vertices all end_points covers known ordered edges made)

      pub drawn_well : IsWellSet numbers (record { vertices = vertices; edges = edges; lines = lines })
      drawn_well = record {
        few = few numbers.ring segments vertices all end_points covers known ordered edges made short;
        points = λ p c. ((all.only p c).0, drawn p c);
        different = λ i j d less within same. apart numbers.ring (slice_index_or vertices i d) (slice_index_or vertices j d) (Less-from_sorted (point_order numbers.ring) vertices i j d all.sorted less within) same;
        ends = ends_differ numbers.ring segments vertices all end_points covers known ordered edges made;
        plane = apart_in_plane numbers.ring segments vertices all end_points covers known ordered edges made;
        used = each_used numbers.ring segments vertices all end_points covers known ordered edges made;
        lines = weaker_within (IsLine numbers.ring segments vertices) (LiesAlong numbers (record { vertices = vertices; edges = edges; lines = lines })) edges lines drawn_lines (λ e line c h. lies_along e line h);
      }
