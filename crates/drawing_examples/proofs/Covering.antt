-- The pieces of segments with their letters and lines, by tests.
use mathlib.Core.Path.{◌≡◌, sym, subst, ◌∙◌}
use mathlib.Core.Bool.{Bool, true, false}
use mathlib.Core.List.{List, [], ◌∷◌, ◌++◌}
use mathlib.Core.Logic.{◌⊎◌, inl, inr}
use Prim.Native.Nat.{ℕ, ◌<◌}
use Rattle.std.proofs.Common.{arith}
use Rattle.std.proofs.lemmas.Bool.Decides.{Decides-and, Decides-not, Decides-like, Decides-eqb, Decides-ltb}
use Rattle.std.proofs.lemmas.List.Elements.{Contains-append_left}
use Rattle.std.specs.Bool.{Decides}
use Rattle.std.specs.Prelude.{◌&&◌, ◌||◌, not, Contains, length, slice_index_or, nat_eq}
use Rattle.std.specs.Ordering.{is_lt}
use Rattle.std.specs.declared.cmp.Ordering.TheVariants.{Less, Equal}
use lib.Dec.{ltb}
use Rattle.fold_base.specs.declared.letter.Letter.{Letter}
use Rattle.algebra.specs.OrderedRing.{OrderedRing}
use Rattle.plane.specs.declared.point.Point.{Point}
use Rattle.plane.specs.Points.{IsPoint, IsSamePoint, point_order, origin}
use Rattle.plane.specs.Segments.{IsBetween}
use Rattle.plane.proofs.Members.{in_head, in_tail}
use Rattle.plane.proofs.Lines.{same_turned, same_through}
use Rattle.plane.proofs.OnSegments.{between_is_on, on_is_between, between_turned}
use Rattle.plane.proofs.Order.{equal_of_same}
use Rattle.plane.proofs.Shares.{on_same}
use Rattle.scaled_plane.specs.declared.point.Segment.{Segment}
use Rattle.scaled_plane.specs.declared.drawing.Edge.{Edge}
use Rattle.scaled_plane.specs.Pieces.{AreLines, ArePieces, Covers, CoversWith, IsLine, IsMerged, IsPiece, IsPieceEdge, edge_order, point_at}
use Rattle.drawing_examples.proofs.Letters.{all_letters, any_letter, is_letter, letter_decides, merged, merged_decides}
use Rattle.drawing_examples.proofs.Lists.{and_first, and_second, at_place, below, below_of, every, every_of, every_decides, first, first_is, or_either, some, some_of, some_decides}
use Rattle.drawing_examples.proofs.Tests.{between, between_decides, covers, covers_decides, is_same, less_decides, not_first, same_decides}
use Rattle.drawing_examples.proofs.Cutting.{both, cuts_listed, ends_listed, from_point, not_is, points, sorted, sorted_is, to_point, vertex_is, vertex_listed, vertex_point, vertices_only}

module _ {A : Type 0} (K : OrderedRing A) (segments : List (Segment A)) (vertices : List (Point A)) where
  abbrev pub has : Point A → Point A → Letter → Bool
  has p q l = some (λ s. covers K s p q && is_letter s.letter l) segments

  abbrev pub covered : Point A → Point A → Bool
  covered p q = some (λ s. covers K s p q) segments

  abbrev pub empty : Point A → Point A → Bool
  empty p q = every (λ y. not (between K p q y)) vertices

  abbrev pub is_piece : Point A → Point A → Bool
  is_piece p q = is_lt (point_order K p q) && (covered p q && empty p q)

  abbrev pub place : ℕ → Point A
  place v = point_at K vertices v

  abbrev pub is_edge : Edge → ℕ → ℕ → Letter → Bool
  is_edge e u v l = nat_eq e.from u && (nat_eq e.to v && is_letter e.letter l)

  module _ (edges : List Edge) where
    abbrev pub edges_only : Bool
    edges_only =
        every (λ e. (ltb e.from e.to && ltb e.to (length vertices)) && (is_piece (place e.from) (place e.to) && merged (has (place e.from) (place e.to)) e.letter)) edges

    abbrev letters_listed : ℕ → ℕ → Bool
    letters_listed v u = not (is_piece (place u) (place v)) || every (λ l. not (merged (has (place u) (place v)) l) || some (λ e. is_edge e u v l) edges) all_letters

    abbrev pub edges_listed : Bool
    edges_listed = below (λ v. below (letters_listed v) v) (length vertices)

    abbrev pub is_line : Edge → ℕ × ℕ → Bool
    is_line e l =
        (ltb l.0 l.1 && ltb l.1 (length vertices)) && ((ltb e.from (length vertices) && ltb e.to (length vertices))
        && first (λ s. covers K s (place e.from) (place e.to))
        (λ s. (is_same K s.from (place l.0) && is_same K s.to (place l.1)) || (is_same K s.from (place l.1) && is_same K s.to (place l.0))) segments)

  abbrev pub lines_match : List Edge → List (ℕ × ℕ) → Bool
  lines_match [] [] = true
  lines_match [] (l ∷ ls) = false
  lines_match (e ∷ es) [] = false
  lines_match (e ∷ es) (l ∷ ls) = is_line [] e l && lines_match es ls

  module _ (all_points : points K segments vertices ≡ true) where
    place_point : (v : ℕ) → v < length vertices → IsPoint K (place v)
    place_point v l = vertex_point K segments vertices all_points (place v) (at_place vertices (origin K.ops) v l)

    module _ (p q : Point A) (hp : IsPoint K p) (hq : IsPoint K q) where
      has_decides : (l : Letter) → Decides (has p q l) (CoversWith K segments p q l)
      has_decides l =
          Decides-like (has p q l) (λ h. (h.0, h.1, h.2.0, h.2.1)) (λ h. (h.0, h.1, (h.2, h.3)))
          (some_decides (λ s. covers K s p q && is_letter s.letter l) (λ s. Covers K s p q × (s.letter ≡ l)) segments
          (λ s i. Decides-and (covers K s p q) (is_letter s.letter l)
          (covers_decides K s p q (from_point K segments vertices all_points s i) (to_point K segments vertices all_points s i) hp hq) (letter_decides s.letter l)))

      covered_decides : Decides (covered p q) ((s : Segment A) × Contains segments s × Covers K s p q)
      covered_decides =
          some_decides (λ s. covers K s p q) (λ s. Covers K s p q) segments
          (λ s i. covers_decides K s p q (from_point K segments vertices all_points s i) (to_point K segments vertices all_points s i) hp hq)

      letter_is : (l : Letter) → Decides (merged (has p q) l) (IsMerged (CoversWith K segments p q) l)
      letter_is = merged_decides (has p q) (CoversWith K segments p q) has_decides

      empty_decides : ¬ IsSamePoint K p q → Decides (empty p q) ((y : Point A) → Contains vertices y → ¬ IsBetween K p q y)
      empty_decides n =
          every_decides (λ y. not (between K p q y)) (λ y. ¬ IsBetween K p q y) vertices
          (λ y i. Decides-not (between K p q y) (between_decides K p q y hp hq (vertex_point K segments vertices all_points y i) n))

    different : (p q : Point A) → point_order K p q ≡ Less → ¬ IsSamePoint K p q
    different p q h e = let no : Less ≡ Equal = sym h ∙ equal_of_same K p q e in absurd (cc)

    -- what is between two points is so at each vector of it
    moved : (p q r y : Point A) → IsPoint K r → IsPoint K y → ¬ IsSamePoint K p q → IsSamePoint K r y → IsBetween K p q r → IsBetween K p q y
    moved p q r y hr hy n same h =
        on_is_between K (on_same K hr hy same (between_is_on K h))
        (λ e. not_first K n h (same_turned K (same_through K r y p hy same e)))
        (λ e. not_first K (λ f. n (same_turned K f)) (between_turned K h) (same_turned K (same_through K r y q hy same e)))

    module _ (t : ends_listed K segments vertices ≡ true) (u : cuts_listed K segments vertices ≡ true) (w : vertices_only K segments vertices ≡ true) where
      piece_is : (p q : Point A) → Contains vertices p → Contains vertices q → is_piece p q ≡ true → IsPiece K segments p q
      piece_is p q ip iq h =
          let hp = vertex_point K segments vertices all_points p ip in
          let hq = vertex_point K segments vertices all_points q iq in
          let order : point_order K p q ≡ Less = (less_decides (point_order K p q)).0 (and_first (is_lt (point_order K p q)) (covered p q && empty p q) h) in
          let rest = and_second (is_lt (point_order K p q)) (covered p q && empty p q) h in
          let n = different p q order in
          record {
            first = vertex_is K segments vertices all_points w p ip;
            second = vertex_is K segments vertices all_points w q iq;
            in_order = order;
            covered = (covered_decides p q hp hq).0 (and_first (covered p q) (empty p q) rest);
            nothing_between = λ r hr b.
                let f = vertex_listed K segments vertices all_points t u r hr in
                (empty_decides p q hp hq n).0 (and_second (covered p q) (empty p q) rest) f.point f.is
                (moved p q r f.point hr.0 (vertex_point K segments vertices all_points f.point f.is) n f.same b);
          }

      piece_found : (p q : Point A) → IsPoint K p → IsPoint K q → IsPiece K segments p q → is_piece p q ≡ true
      piece_found p q hp hq h =
          both (is_lt (point_order K p q)) (covered p q && empty p q) ((less_decides (point_order K p q)).1 h.in_order)
          (both (covered p q) (empty p q) ((covered_decides p q hp hq).1 h.covered)
          ((empty_decides p q hp hq (different p q h.in_order)).1 (λ y i. h.nothing_between y (vertex_is K segments vertices all_points w y i))))

      module _ (edges : List Edge) where
        edge_is : edges_only edges ≡ true → (e : Edge) → Contains edges e → IsPieceEdge K segments vertices e
        edge_is x e i =
            let h = every_of (λ e. (ltb e.from e.to && ltb e.to (length vertices)) && (is_piece (place e.from) (place e.to) && merged (has (place e.from) (place e.to)) e.letter)) edges x e i in
            let range = and_first (ltb e.from e.to && ltb e.to (length vertices)) (is_piece (place e.from) (place e.to) && merged (has (place e.from) (place e.to)) e.letter) h in
            let rest = and_second (ltb e.from e.to && ltb e.to (length vertices)) (is_piece (place e.from) (place e.to) && merged (has (place e.from) (place e.to)) e.letter) h in
            let order : e.from < e.to = (Decides-ltb e.from e.to).0 (and_first (ltb e.from e.to) (ltb e.to (length vertices)) range) in
            let last : e.to < length vertices = (Decides-ltb e.to (length vertices)).0 (and_second (ltb e.from e.to) (ltb e.to (length vertices)) range) in
            let start : e.from < length vertices = omega (arith, order, last) in
            record {
              in_order = order;
              in_range = last;
              piece = piece_is (place e.from) (place e.to) (at_place vertices (origin K.ops) e.from start) (at_place vertices (origin K.ops) e.to last)
                  (and_first (is_piece (place e.from) (place e.to)) (merged (has (place e.from) (place e.to)) e.letter) rest);
              letter = (letter_is (place e.from) (place e.to) (place_point e.from start) (place_point e.to last) e.letter).0
                  (and_second (is_piece (place e.from) (place e.to)) (merged (has (place e.from) (place e.to)) e.letter) rest);
            }

        edge_found : edges_listed edges ≡ true → (e : Edge) → IsPieceEdge K segments vertices e → (f : Edge) × Contains edges f × (e ≡ f)
        edge_found x e h =
            let p = place e.from in
            let q = place e.to in
            let start : e.from < length vertices = omega (arith, h.in_order, h.in_range) in
            let hp = place_point e.from start in
            let hq = place_point e.to h.in_range in
            let here = below_of (letters_listed edges e.to) e.to (below_of (λ v. below (letters_listed edges v) v) (length vertices) x e.to h.in_range) e.from h.in_order in
            elim (or_either (not (is_piece p q)) (every (λ l. not (merged (has p q) l) || some (λ f. is_edge f e.from e.to l) edges) all_letters) here) [
              | inl f ↦ absurd (not_is (is_piece p q) f (piece_found p q hp hq h.piece))
              | inr all ↦
                  let letter = every_of (λ l. not (merged (has p q) l) || some (λ f. is_edge f e.from e.to l) edges) all_letters all e.letter (any_letter e.letter) in
                  elim (or_either (not (merged (has p q) e.letter)) (some (λ f. is_edge f e.from e.to e.letter) edges) letter) [
                    | inl f ↦ absurd (not_is (merged (has p q) e.letter) f ((letter_is p q hp hq e.letter).1 h.letter))
                    | inr found ↦ let f = some_of (λ f. is_edge f e.from e.to e.letter) edges found in (f.0, f.1, sym (same_edge f.0 e.from e.to e.letter f.2))
                  ]
            ]
          where
            same_edge : (f : Edge) (u v : ℕ) (l : Letter) → is_edge f u v l ≡ true → f ≡ record { from = u; to = v; letter = l }
            same_edge f u v l h =
                let a : f.from ≡ u = (Decides-eqb f.from u).0 (and_first (nat_eq f.from u) (nat_eq f.to v && is_letter f.letter l) h) in
                let rest = and_second (nat_eq f.from u) (nat_eq f.to v && is_letter f.letter l) h in
                let b : f.to ≡ v = (Decides-eqb f.to v).0 (and_first (nat_eq f.to v) (is_letter f.letter l) rest) in
                let c : f.letter ≡ l = (letter_decides f.letter l).0 (and_second (nat_eq f.to v) (is_letter f.letter l) rest) in
                λ i. record { from = a i; to = b i; letter = c i }

        pub are_pieces : sorted edge_order edges ≡ true → edges_only edges ≡ true → edges_listed edges ≡ true → ArePieces K segments vertices edges
        are_pieces s x y = record { sorted = sorted_is edge_order edges s; only = edge_is x; every = edge_found y }

    -- ---- lines

    line_is : (e : Edge) (l : ℕ × ℕ) → is_line [] e l ≡ true → IsLine K segments vertices e l
    line_is e l h =
        let p = place e.from in
        let q = place e.to in
        let covers_it = λ (s : Segment A). covers K s p q in
        let ends = λ (s : Segment A). (is_same K s.from (place l.0) && is_same K s.to (place l.1)) || (is_same K s.from (place l.1) && is_same K s.to (place l.0)) in
        let range = and_first (ltb l.0 l.1 && ltb l.1 (length vertices)) ((ltb e.from (length vertices) && ltb e.to (length vertices)) && first covers_it ends segments) h in
        let rest = and_second (ltb l.0 l.1 && ltb l.1 (length vertices)) ((ltb e.from (length vertices) && ltb e.to (length vertices)) && first covers_it ends segments) h in
        let places = and_first (ltb e.from (length vertices) && ltb e.to (length vertices)) (first covers_it ends segments) rest in
        let hp = place_point e.from ((Decides-ltb e.from (length vertices)).0 (and_first (ltb e.from (length vertices)) (ltb e.to (length vertices)) places)) in
        let hq = place_point e.to ((Decides-ltb e.to (length vertices)).0 (and_second (ltb e.from (length vertices)) (ltb e.to (length vertices)) places)) in
        let found = first_is covers_it ends segments (and_second (ltb e.from (length vertices) && ltb e.to (length vertices)) (first covers_it ends segments) rest) in
        let decided : (s : Segment A) → Contains segments s → Decides (covers K s p q) (Covers K s p q)
        = λ s i. covers_decides K s p q (from_point K segments vertices all_points s i) (to_point K segments vertices all_points s i) hp hq in
        record {
          in_order = (Decides-ltb l.0 l.1).0 (and_first (ltb l.0 l.1) (ltb l.1 (length vertices)) range);
          in_range = (Decides-ltb l.1 (length vertices)).0 (and_second (ltb l.0 l.1) (ltb l.1 (length vertices)) range);
          is = record {
            before = found.before;
            after = found.after;
            cover = found.found;
            is = found.is;
            covers = (decided found.found (subst (λ xs. Contains xs found.found) (sym found.is) (in_middle found.before found.found found.after))).0 found.passes;
            none_before = λ k d at.
                not_covering (slice_index_or found.before k d)
                (subst (λ xs. Contains xs (slice_index_or found.before k d)) (sym found.is) (Contains-append_left found.before (found.found ∷ found.after) (slice_index_or found.before k d) (at_place found.before d k at)))
                (found.none_before k d at) decided;
            ends = ends_are found.found (found.also);
          };
        }
      where
        in_middle : {X : Type 0} (xs : List X) (x : X) (ys : List X) → Contains (xs ++ x ∷ ys) x
        in_middle [] x ys = in_head x ys
        in_middle (z ∷ xs) x ys = in_tail z (xs ++ x ∷ ys) x (in_middle xs x ys)

        not_covering : (s : Segment A) → Contains segments s → covers K s (place e.from) (place e.to) ≡ false
            → ((s : Segment A) → Contains segments s → Decides (covers K s (place e.from) (place e.to)) (Covers K s (place e.from) (place e.to))) → ¬ Covers K s (place e.from) (place e.to)
        not_covering s i e decided h = let both_ways : true ≡ false = sym ((decided s i).1 h) ∙ e in absurd (cc)

        ends_are : (s : Segment A) → ((is_same K s.from (place l.0) && is_same K s.to (place l.1)) || (is_same K s.from (place l.1) && is_same K s.to (place l.0))) ≡ true
            → (IsSamePoint K s.from (place l.0) × IsSamePoint K s.to (place l.1)) ⊎ (IsSamePoint K s.from (place l.1) × IsSamePoint K s.to (place l.0))
        ends_are s h = elim (or_either (is_same K s.from (place l.0) && is_same K s.to (place l.1)) (is_same K s.from (place l.1) && is_same K s.to (place l.0)) h) [
          | inl f ↦ inl ((same_decides K s.from (place l.0)).0 (and_first (is_same K s.from (place l.0)) (is_same K s.to (place l.1)) f), (same_decides K s.to (place l.1)).0 (and_second (is_same K s.from (place l.0)) (is_same K s.to (place l.1)) f))
          | inr f ↦ inr ((same_decides K s.from (place l.1)).0 (and_first (is_same K s.from (place l.1)) (is_same K s.to (place l.0)) f), (same_decides K s.to (place l.0)).0 (and_second (is_same K s.from (place l.1)) (is_same K s.to (place l.0)) f))
        ]

    pub are_lines : (edges : List Edge) (lines : List (ℕ × ℕ)) → lines_match edges lines ≡ true → AreLines K segments vertices edges lines
    are_lines [] [] h = tt
    are_lines [] (l ∷ ls) h = absurd (cc)
    are_lines (e ∷ es) [] h = absurd (cc)
    are_lines (e ∷ es) (l ∷ ls) h = (line_is e l (and_first (is_line [] e l) (lines_match es ls) h), are_lines es ls (and_second (is_line [] e l) (lines_match es ls) h))
