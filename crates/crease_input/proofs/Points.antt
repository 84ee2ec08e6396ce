-- points without repetition, one more after the other, and their places
use Rattle.std.proofs.Common.{◌≡◌, ℕ, ◌+◌, ◌*◌, ◌<◌, ◌≤◌, Bool, true, false, cond, List, [], ◌∷◌, ◌++◌, length, map, filter, refl, sym, ◌∙◌, ap, subst, arith}
use Rattle.std.specs.Prelude.{not, ◌||◌, if◌then◌else◌}
use Rattle.std.specs.Cmp.{IsEquivalence}
use Rattle.std.specs.List.{AllByRecursion, list_any, position_or_len}
use Rattle.std.proofs.lemmas.List.{map-append, length-append, append_assoc}
use Rattle.std.proofs.lemmas.List.Folds.{list_any-append}
use Rattle.std.proofs.lemmas.List.Elements.{filter-append}
use Rattle.std.proofs.lemmas.Map.Views.{any-filter_same}
use Rattle.algebra.specs.LowestTerms.{Parts}
use Rattle.scaled_plane.specs.declared.drawing.Edge.{Edge}
use Rattle.scaled_plane.specs.declared.point.Pair.{Pair}
use Rattle.crease_input.specs.declared.crease.Crease.{Crease}
use Rattle.crease_input.specs.Keys.{points_equiv}
use Rattle.crease_input.specs.Lines.{points, edge_in, IsEdgeWithin}
use Rattle.crease_input.specs.Points.{is_at, firsts, place_in, with_point}

-- ---- tests on lists

any_map : {A B : Type 0} (p : B → Bool) (f : A → B) (xs : List A)
    → list_any (λ x. p (f x)) xs ≡ list_any p (map f xs)
any_map p f [] = refl
any_map p f (x ∷ xs) = ap (λ b. p (f x) || b) (any_map p f xs)

-- a place among what elements are mapped to
pub place_map : {A B : Type 0} (p : B → Bool) (f : A → B) (xs : List A)
    → position_or_len (λ x. p (f x)) xs ≡ position_or_len p (map f xs)
place_map p f [] = refl
place_map p f (x ∷ xs) = ap (λ n. cond (not (p (f x))) (1 + n) 0) (place_map p f xs)

-- more elements don't move the first that passes
place_kept : {A : Type 0} (p : A → Bool) (xs ys : List A) → list_any p xs ≡ true
    → position_or_len p (xs ++ ys) ≡ position_or_len p xs
place_kept p [] ys e = cc
place_kept p (x ∷ xs) ys e = at (p x) refl (place_kept p xs ys)
  where
    at : (b : Bool) → p x ≡ b
        → (list_any p xs ≡ true → position_or_len p (xs ++ ys) ≡ position_or_len p xs)
        → position_or_len p ((x ∷ xs) ++ ys) ≡ position_or_len p (x ∷ xs)
    at true h later =
        ap (λ b. cond (not b) (1 + position_or_len p (xs ++ ys)) 0) h
        ∙ sym (ap (λ b. cond (not b) (1 + position_or_len p xs) 0) h)
    at false h later =
        let rest : list_any p xs ≡ true = ap (λ b. b || list_any p xs) (sym h) ∙ e in
        ap (λ n. cond (not (p x)) (1 + n) 0) (later rest)

-- the last one is the first that passes, where no other does
place_last : {A : Type 0} (p : A → Bool) (xs : List A) (x : A) → list_any p xs ≡ false → p x ≡ true
    → position_or_len p (xs ++ x ∷ []) ≡ position_or_len p xs
place_last p [] x e h = ap (λ b. cond (not b) 1 0) h
place_last p (y ∷ ys) x e h = at (p y) refl (place_last p ys x)
  where
    at : (b : Bool) → p y ≡ b
        → (list_any p ys ≡ false → p x ≡ true
        → position_or_len p (ys ++ x ∷ []) ≡ position_or_len p ys)
        → position_or_len p ((y ∷ ys) ++ x ∷ []) ≡ position_or_len p (y ∷ ys)
    at true g later = let clash : true ≡ false = ap (λ b. b || list_any p ys) (sym g) ∙ e in cc
    at false g later =
        let rest : list_any p ys ≡ false = ap (λ b. b || list_any p ys) (sym g) ∙ e in
        ap (λ n. cond (not (p y)) (1 + n) 0) (later rest h)

-- the first that passes is there, where one does
place_below : {A : Type 0} (p : A → Bool) (xs : List A) → list_any p xs ≡ true
    → position_or_len p xs < length xs
place_below p [] e = cc
place_below p (x ∷ xs) e = at (p x) refl (place_below p xs)
  where
    at : (b : Bool) → p x ≡ b → (list_any p xs ≡ true → position_or_len p xs < length xs)
        → position_or_len p (x ∷ xs) < length (x ∷ xs)
    at true h later =
        subst (λ n. n < length (x ∷ xs))
        (sym (ap (λ b. cond (not b) (1 + position_or_len p xs) 0) h)) (omega arith)
    at false h later =
        let rest : list_any p xs ≡ true = ap (λ b. b || list_any p xs) (sym h) ∙ e in
        let below = later rest in
        subst (λ n. n < length (x ∷ xs))
        (sym (ap (λ b. cond (not b) (1 + position_or_len p xs) 0) h)) (omega (arith, below))

append_none : {A : Type 0} (xs : List A) → xs ++ [] ≡ xs
append_none [] = refl
append_none (x ∷ xs) = ap (λ t. x ∷ t) (append_none xs)

module _ {N : Type 0} (parts : N → Parts) where
  abbrev same : Pair N → Pair N → Bool
  same = is_at parts

  laws : IsEquivalence same
  laws = points_equiv parts

  -- ---- one more point

  -- a point that isn't at y is found among those that aren't
  any_others : (x y : Pair N) (fs : List (Pair N)) → same x y ≡ false
      → list_any (same x) (filter (λ r. not (same y r)) fs) ≡ list_any (same x) fs
  any_others x y fs apart =
      any-filter_same (same x) (λ r. not (same y r)) true other fs
    where
      other : (r : Pair N) → same x r ≡ true → not (same y r) ≡ true
      other r e =
          ap not (laws.symm y r ∙ sym (laws.congr x r y e) ∙ apart)

  with_old : (coords : List (Pair N)) (p : Pair N) → list_any (same p) coords ≡ true
      → with_point parts coords p ≡ coords
  with_old coords p e = ap (λ b. cond b coords (coords ++ p ∷ [])) e

  with_new : (coords : List (Pair N)) (p : Pair N) → list_any (same p) coords ≡ false
      → with_point parts coords p ≡ coords ++ p ∷ []
  with_new coords p e = ap (λ b. cond b coords (coords ++ p ∷ [])) e

  pub firsts_more : (ps : List (Pair N)) (x : Pair N)
      → firsts parts (ps ++ x ∷ []) ≡ with_point parts (firsts parts ps) x
  firsts_more [] x = refl
  firsts_more (y ∷ ys) x =
      ap (λ fs. y ∷ filter keep fs) (firsts_more ys x) ∙ at (same x y) (list_any (same x) fs) refl refl
    where
      keep : Pair N → Bool
      keep r = not (same y r)

      fs : List (Pair N)
      fs = firsts parts ys

      kept : List (Pair N)
      kept = filter keep fs

      last : (b : Bool) → same x y ≡ b → filter keep (x ∷ []) ≡ cond (not b) (x ∷ []) []
      last b e = ap (λ t. cond (not t) (x ∷ []) []) (laws.symm y x ∙ e)

      appended : (b : Bool) → same x y ≡ b → list_any (same x) fs ≡ false
          → filter keep (with_point parts fs x) ≡ kept ++ cond (not b) (x ∷ []) []
      appended b e none =
          ap (filter keep) (with_new fs x none) ∙ filter-append keep fs (x ∷ [])
          ∙ ap (λ t. kept ++ t) (last b e)

      at : (b d : Bool) → same x y ≡ b → list_any (same x) fs ≡ d
          → (y ∷ filter keep (with_point parts fs x)) ≡ with_point parts (y ∷ kept) x
      at true true e some =
          ap (λ t. y ∷ filter keep t) (with_old fs x some)
          ∙ sym (with_old (y ∷ kept) x (ap (λ t. t || list_any (same x) kept) e))
      at true false e none =
          ap (λ t. y ∷ t) (appended true e none ∙ append_none kept)
          ∙ sym (with_old (y ∷ kept) x (ap (λ t. t || list_any (same x) kept) e))
      at false true e some =
          ap (λ t. y ∷ filter keep t) (with_old fs x some)
          ∙ sym (with_old (y ∷ kept) x
          (ap (λ t. t || list_any (same x) kept) e ∙ any_others x y fs e ∙ some))
      at false false e none =
          ap (λ t. y ∷ t) (appended false e none)
          ∙ sym (with_new (y ∷ kept) x
          (ap (λ t. t || list_any (same x) kept) e ∙ any_others x y fs e ∙ none))

  -- ---- places

  pub place_of_new : (coords : List (Pair N)) (p : Pair N)
      → place_in parts (with_point parts coords p) p ≡ place_in parts coords p
  place_of_new coords p = at (list_any (same p) coords) refl
    where
      at : (b : Bool) → list_any (same p) coords ≡ b
          → place_in parts (with_point parts coords p) p ≡ place_in parts coords p
      at true e =
          ap (λ b. place_in parts (cond b coords (coords ++ p ∷ [])) p) e
      at false e =
          ap (λ b. place_in parts (cond b coords (coords ++ p ∷ [])) p) e
          ∙ place_last (same p) coords p e (laws.refl p)

  abbrev IsThere : List (Pair N) → Pair N → Type 0
  IsThere coords p = list_any (same p) coords ≡ true

  place_of_old : (coords : List (Pair N)) (p q : Pair N) → list_any (same p) coords ≡ true
      → place_in parts (with_point parts coords q) p ≡ place_in parts coords p
  place_of_old coords p q there = at (list_any (same q) coords) refl
    where
      at : (b : Bool) → list_any (same q) coords ≡ b
          → place_in parts (with_point parts coords q) p ≡ place_in parts coords p
      at true e = ap (λ b. place_in parts (cond b coords (coords ++ q ∷ [])) p) e
      at false e =
          ap (λ b. place_in parts (cond b coords (coords ++ q ∷ [])) p) e
          ∙ place_kept (same p) coords (q ∷ []) there

  there_more : (coords : List (Pair N)) (p q : Pair N) → IsThere coords p
      → IsThere (with_point parts coords q) p
  there_more coords p q there = at (list_any (same q) coords) refl
    where
      at : (b : Bool) → list_any (same q) coords ≡ b → IsThere (with_point parts coords q) p
      at true e = ap (list_any (same p)) (with_old coords q e) ∙ there
      at false e =
          ap (list_any (same p)) (with_new coords q e)
          ∙ list_any-append (same p) coords (q ∷ [])
          ∙ ap (λ b. b || list_any (same p) (q ∷ [])) there

  there_new : (coords : List (Pair N)) (p : Pair N) → IsThere (with_point parts coords p) p
  there_new coords p = at (list_any (same p) coords) refl
    where
      at : (b : Bool) → list_any (same p) coords ≡ b → IsThere (with_point parts coords p) p
      at true e = ap (list_any (same p)) (with_old coords p e) ∙ e
      at false e =
          ap (list_any (same p)) (with_new coords p e)
          ∙ list_any-append (same p) coords (p ∷ [])
          ∙ ap (λ b. b || list_any (same p) (p ∷ [])) e
          ∙ ap (λ b. b || false) (laws.refl p)

  -- ---- one more edge

  -- both ends of a crease are vertices
  abbrev pub HasEnds : List (Pair N) → Crease N → Type 0
  HasEnds coords crease = IsThere coords crease.from × IsThere coords crease.to

  abbrev pub with_ends : List (Pair N) → Crease N → List (Pair N)
  with_ends coords crease = with_point parts (with_point parts coords crease.from) crease.to

  pub edge_new : (coords : List (Pair N)) (crease : Crease N) (from to : ℕ)
      → from ≡ place_in parts coords crease.from
      → to ≡ place_in parts (with_point parts coords crease.from) crease.to
      → record { from = from; to = to; letter = crease.letter }
      ≡ edge_in parts (with_ends coords crease) crease
  edge_new coords crease from to f t =
      let from_stays : place_in parts (with_ends coords crease) crease.from ≡ from =
      place_of_old (with_point parts coords crease.from) crease.from crease.to
      (there_new coords crease.from)
      ∙ place_of_new coords crease.from ∙ sym f in
      let to_stays : place_in parts (with_ends coords crease) crease.to ≡ to =
      place_of_new (with_point parts coords crease.from) crease.to ∙ sym t in
      λ i. record { from = sym from_stays i; to = sym to_stays i; letter = crease.letter }

  edge_old : (coords : List (Pair N)) (crease other : Crease N) → HasEnds coords other
      → edge_in parts (with_ends coords crease) other ≡ edge_in parts coords other
  edge_old coords crease other has =
      let stays : (p : Pair N) → IsThere coords p
      → place_in parts (with_ends coords crease) p ≡ place_in parts coords p =
      λ p there. place_of_old (with_point parts coords crease.from) p crease.to
      (there_more coords p crease.from there)
      ∙ place_of_old coords p crease.from there in
      λ i. record {
        from = stays other.from has.0 i;
        to = stays other.to has.1 i;
        letter = other.letter;
      }

  edges_old : (coords : List (Pair N)) (crease : Crease N) (cs : List (Crease N))
      → AllByRecursion (HasEnds coords) cs
      → map (edge_in parts (with_ends coords crease)) cs ≡ map (edge_in parts coords) cs
  edges_old coords crease [] has = refl
  edges_old coords crease (c ∷ cs) has =
      λ i. edge_old coords crease c has.0 i ∷ edges_old coords crease cs has.1 i

  ends_more : (coords : List (Pair N)) (crease : Crease N) (cs : List (Crease N))
      → AllByRecursion (HasEnds coords) cs
      → AllByRecursion (HasEnds (with_ends coords crease)) (cs ++ crease ∷ [])
  ends_more coords crease [] has = (
    (
      there_more (with_point parts coords crease.from) crease.from crease.to
          (there_new coords crease.from),
      there_new (with_point parts coords crease.from) crease.to,
    ),
    tt,
  )
  ends_more coords crease (c ∷ cs) has = (
    (
      there_more (with_point parts coords crease.from) c.from crease.to
          (there_more coords c.from crease.from has.0.0),
      there_more (with_point parts coords crease.from) c.to crease.to
          (there_more coords c.to crease.from has.0.1),
    ),
    ends_more coords crease cs has.1,
  )

  -- ---- what stands after so many creases

  -- vertices and edges of creases
  pub record Gathered (creases : List (Crease N)) (coords : List (Pair N)) (edges : List Edge) : Type 0 where
    pub distinct : coords ≡ firsts parts (points creases)
    pub in_order : edges ≡ map (edge_in parts coords) creases
    pub ends : AllByRecursion (HasEnds coords) creases
    pub few : length coords ≤ 2 * length creases

  few_with : (coords : List (Pair N)) (p : Pair N)
      → length (with_point parts coords p) ≤ length coords + 1
  few_with coords p = at (list_any (same p) coords) refl
    where
      at : (b : Bool) → list_any (same p) coords ≡ b
          → length (with_point parts coords p) ≤ length coords + 1
      at true e = subst (λ cs. length cs ≤ length coords + 1) (sym (with_old coords p e)) (omega arith)
      at false e =
          subst (λ cs. length cs ≤ length coords + 1) (sym (with_new coords p e))
          (omega (arith, length-append coords (p ∷ [])))

  points_more : (creases : List (Crease N)) (crease : Crease N)
      → points (creases ++ crease ∷ []) ≡ points creases ++ crease.from ∷ crease.to ∷ []
  points_more [] crease = refl
  points_more (c ∷ cs) crease = ap (λ ps. c.from ∷ c.to ∷ ps) (points_more cs crease)

  two_more : (ps : List (Pair N)) (p q : Pair N)
      → firsts parts (ps ++ p ∷ q ∷ [])
      ≡ with_point parts (with_point parts (firsts parts ps) p) q
  two_more ps p q =
      ap (firsts parts) (sym (append_assoc ps (p ∷ []) (q ∷ [])))
      ∙ firsts_more (ps ++ p ∷ []) q
      ∙ ap (λ cs. with_point parts cs q) (firsts_more ps p)

  pub gathered_none : Gathered [] [] []
  gathered_none = record { distinct = refl; in_order = refl; ends = tt; few = omega arith }

  pub gathered_more : (creases : List (Crease N)) (crease : Crease N) (old new : List (Pair N))
      (edges pushed : List Edge) (edge : Edge) → new ≡ with_ends old crease
      → edge ≡ edge_in parts new crease → pushed ≡ edges ++ edge ∷ []
      → Gathered creases old edges
      → Gathered (creases ++ crease ∷ []) new pushed
  gathered_more creases crease old new edges pushed edge n e p g = record {
    distinct = n ∙ ap (λ cs. with_ends cs crease) g.distinct
        ∙ sym (ap (firsts parts) (points_more creases crease)
        ∙ two_more (points creases) crease.from crease.to);
    in_order = p ∙ (λ i. g.in_order i ++ e i ∷ [])
        ∙ ap (λ es. es ++ edge_in parts new crease ∷ []) (sym (edges_old old crease creases g.ends)
        ∙ ap (λ cs. map (edge_in parts cs) creases) (sym n))
        ∙ sym (map-append (edge_in parts new) creases (crease ∷ []));
    ends = subst (λ cs. AllByRecursion (HasEnds cs) (creases ++ crease ∷ [])) (sym n)
        (ends_more old crease creases g.ends);
    few =
        let counts = length-append creases (crease ∷ []) in
        let first = few_with old crease.from in
        let second = few_with (with_point parts old crease.from) crease.to in
        subst (λ cs. length cs ≤ 2 * length (creases ++ crease ∷ [])) (sym n)
        (omega (arith, counts, first, second, g.few));
  }

  edges_within : (coords : List (Pair N)) (creases : List (Crease N))
      → AllByRecursion (HasEnds coords) creases
      → AllByRecursion (IsEdgeWithin (length coords)) (map (edge_in parts coords) creases)
  edges_within coords [] has = tt
  edges_within coords (c ∷ cs) has = (
    (
      place_below (same c.from) coords has.0.0,
      place_below (same c.to) coords has.0.1,
    ),
    edges_within coords cs has.1,
  )

  pub gathered_within : (creases : List (Crease N)) (coords : List (Pair N)) (edges : List Edge)
      → Gathered creases coords edges
      → AllByRecursion (IsEdgeWithin (length coords)) edges
  gathered_within creases coords edges g =
      subst (AllByRecursion (IsEdgeWithin (length coords))) (sym g.in_order)
      (edges_within coords creases g.ends)

  -- keys that stand for points, after one more is inserted
  pub keys_with : {C : Type 0} (point : C → Pair N) (keys : List C) (k : C)
      → map point (if list_any (λ x. same (point k) (point x)) keys then keys else keys ++ k ∷ [])
      ≡ with_point parts (map point keys) (point k)
  keys_with {C} point keys k = at (list_any (λ x. same (point k) (point x)) keys) refl
    where
      among : Bool
      among = list_any (λ x. same (point k) (point x)) keys

      at : (b : Bool) → among ≡ b
          → map point (cond among keys (keys ++ k ∷ []))
          ≡ with_point parts (map point keys) (point k)
      at true e =
          ap (λ b. map point (cond b keys (keys ++ k ∷ []))) e
          ∙ sym (with_old (map point keys) (point k) (sym (any_map (same (point k)) point keys) ∙ e))
      at false e =
          ap (λ b. map point (cond b keys (keys ++ k ∷ []))) e
          ∙ map-append point keys (k ∷ [])
          ∙ sym (with_new (map point keys) (point k) (sym (any_map (same (point k)) point keys) ∙ e))
