-- Headings of one more edge.
use Rattle.std.proofs.Common.{◌≡◌, ◌⊎◌, inl, inr, ℕ, suc, zero, ◌+◌, ◌*◌, ◌<◌, List, [], ◌∷◌, ◌++◌, length, refl, sym, ap, subst, ◌∙◌, arith}
use Rattle.std.specs.Prelude.{ℤ, pos, slice_index_or}
use Rattle.std.specs.List.{AllZip}
use Rattle.std.proofs.lemmas.List.{length-append, get_or_append_left, get_or_push}
use Rattle.std.proofs.lemmas.List.Elements.{All-push}
use Rattle.algebra.specs.Surd.{Surd}
use Rattle.algebra.specs.WholeSurds.{SurdNumbers}
use Rattle.plane.specs.Directions.{Direction, IsSameWay}
use Rattle.scaled_plane.specs.declared.drawing.Drawing.{Drawing}
use Rattle.face_walks.specs.declared.headings.Heading.{Heading}
use Rattle.face_walks.specs.Pairs.{edge_at}
use Rattle.face_walks.specs.Headings.{AreHeadings, IsHeadingSize, direction_of, lead, edge_way}

pub zip_length : {A B : Type 0} (R : A → B → Type 0) (xs : List A) (ys : List B) → AllZip R xs ys → length xs ≡ length ys
zip_length R [] [] z = refl
zip_length R [] (y ∷ ys) z = absurd z
zip_length R (x ∷ xs) [] z = absurd z
zip_length R (x ∷ xs) (y ∷ ys) z = ap suc (zip_length R xs ys z.1)

pub zip_at : {A B : Type 0} (R : A → B → Type 0) (xs : List A) (ys : List B) (i : ℕ) (x : A) (y : B) → AllZip R xs ys → i < length xs
    → R (slice_index_or xs i x) (slice_index_or ys i y)
zip_at R [] ys i x y z l = absurd (omega (arith, l))
zip_at R (a ∷ xs) [] i x y z l = absurd z
zip_at R (a ∷ xs) (b ∷ ys) zero x y z l = z.0
zip_at R (a ∷ xs) (b ∷ ys) (suc i) x y z l = zip_at R xs ys i x y z.1 (omega (arith, l))

-- a place before the last is an earlier one or the last
pub below_or_last : (i n : ℕ) → i < n + 1 → (i < n) ⊎ (i ≡ n)
below_or_last i n l = grind arith

module _ {A : Type 0} {k : ℕ} {surd : A → Surd ℤ} (numbers : SurdNumbers k surd) (drawing : Drawing A) where
  module _ (n : ℕ) (headings : List (Heading A)) (there back : Heading A) (h : AreHeadings numbers drawing n headings)
      (t : IsSameWay numbers.ring (direction_of there) (edge_way numbers drawing (edge_at drawing.edges n).from (edge_at drawing.edges n).to))
      (b : IsSameWay numbers.ring (direction_of back) (edge_way numbers drawing (edge_at drawing.edges n).to (edge_at drawing.edges n).from))
      (ts : IsHeadingSize surd there) (bs : IsHeadingSize surd back) where
    abbrev grown : List (Heading A)
    grown = (headings ++ there ∷ []) ++ back ∷ []

    abbrev none : Heading A
    none = record { x = numbers.ring.int (pos 0); y = numbers.ring.int (pos 0) }

    long : length (headings ++ there ∷ []) ≡ 2 * n + 1
    long = length-append headings (there ∷ []) ∙ ap (λ (m : ℕ). m + 1) h.two_each

    longer : length grown ≡ 2 * (n + 1)
    longer = length-append (headings ++ there ∷ []) (back ∷ []) ∙ (let l : length (headings ++ there ∷ []) ≡ 2 * n + 1 = long in omega arith)

    kept : (j : ℕ) → j < 2 * n → lead numbers.ring grown j ≡ lead numbers.ring headings j
    kept j l = ap direction_of
        (get_or_append_left (headings ++ there ∷ []) (back ∷ []) none j (omega (arith, long, l))
        ∙ get_or_append_left headings (there ∷ []) none j (omega (arith, h.two_each, l)))

    at_there : lead numbers.ring grown (2 * n) ≡ direction_of there
    at_there = ap direction_of
        (get_or_append_left (headings ++ there ∷ []) (back ∷ []) none (2 * n) (omega (arith, long))
        ∙ get_or_push headings there none (2 * n) h.two_each)

    at_back : lead numbers.ring grown (2 * n + 1) ≡ direction_of back
    at_back = ap direction_of (get_or_push (headings ++ there ∷ []) back none (2 * n + 1) long)

    pub one_more : AreHeadings numbers drawing (n + 1) grown
    one_more = record {
      two_each = longer;
      there = λ i l. elim (below_or_last i n l) [
        | inl m ↦ subst (λ (d : Direction A). IsSameWay numbers.ring d (edge_way numbers drawing (edge_at drawing.edges i).from (edge_at drawing.edges i).to))
            (sym (kept (2 * i) (omega (arith, m)))) (h.there i m)
        | inr e ↦ subst (λ (j : ℕ). IsSameWay numbers.ring (lead numbers.ring grown (2 * j)) (edge_way numbers drawing (edge_at drawing.edges j).from (edge_at drawing.edges j).to))
            (sym e) (subst (λ (d : Direction A). IsSameWay numbers.ring d (edge_way numbers drawing (edge_at drawing.edges n).from (edge_at drawing.edges n).to)) (sym at_there) t)
      ];
      back = λ i l. elim (below_or_last i n l) [
        | inl m ↦ subst (λ (d : Direction A). IsSameWay numbers.ring d (edge_way numbers drawing (edge_at drawing.edges i).to (edge_at drawing.edges i).from))
            (sym (kept (2 * i + 1) (omega (arith, m)))) (h.back i m)
        | inr e ↦ subst (λ (j : ℕ). IsSameWay numbers.ring (lead numbers.ring grown (2 * j + 1)) (edge_way numbers drawing (edge_at drawing.edges j).to (edge_at drawing.edges j).from))
            (sym e) (subst (λ (d : Direction A). IsSameWay numbers.ring d (edge_way numbers drawing (edge_at drawing.edges n).to (edge_at drawing.edges n).from)) (sym at_back) b)
      ];
      small = All-push (IsHeadingSize surd) (headings ++ there ∷ []) back (All-push (IsHeadingSize surd) headings there h.small ts) bs;
    }
