-- Faces reached level by level: each round looks at the edges in order, and at each crosses from the faces of one level to
-- those that aren't reached yet.
use Rattle.std.proofs.Common.{◌≡◌, ◌∙◌, ap, sym, refl, subst, ℕ, List, [], ◌∷◌, ◌++◌, ◌<◌, ◌≤◌, ◌+◌, length, Option, Some, None, Bool, true, false, ◌||◌, if◌then◌else◌, arith, inl, inr, ◌⊎◌, length-append, add-one}
use Prim.Native.Nat.{suc}
use Rattle.std.proofs.lemmas.Bool.{cases_lt}
use Rattle.scaled_plane.specs.declared.point.Pair.{Pair}
use Rattle.flat_fold.specs.declared.motion.Motion.{Motion}
use Rattle.scaled_plane.specs.declared.drawing.Edge.{Edge}
use Rattle.scaled_plane.specs.declared.drawing.Face.{Face}
use Rattle.flat_fold.specs.declared.levels.Reached.{Reached}
use Rattle.flat_fold.specs.Computed.{Computed, ComputedField, Fits, at_hand, ◌>>=◌}
use Rattle.flat_fold.specs.Motions.{identity}
use Rattle.flat_fold.specs.Faces.{edge_at, Leads, IsWalk}
use Rattle.flat_fold.specs.Rounds.{at, waiting, unreached, AllReached, IsStart, AreKept, IsFirstWithout, map_of, IsMapOf, Proper, Round, Crosses, IsCrossing}
use Rattle.std.proofs.lemmas.List.{get_or-set_same, get_or-set_other, length-set, get_or_append_left, get_or_past}
use Rattle.std.proofs.Math.Seq.{get_or-append_seam}
use Rattle.algebra.specs.OrderedField.{OrderedField}
use Rattle.std.proofs.lemmas.List.Sums.{sum_by-set, sum_by-cons}
use Rattle.std.proofs.Math.ListN.{set}
use Rattle.fold_base.specs.declared.letter.Letter.{Letter}
use Rattle.flat_fold.specs.Folding.{HasLevel, IsEntry, point, stepping, IsPathMap, IsFoldable, IsFirstMapPast}
use Rattle.flat_fold.specs.Folding.IsPathMap.{first, next}
use Rattle.flat_fold.proofs.Walks.{walk-append, leads-back}
use Rattle.flat_fold.proofs.PathMaps.{one-level, one-path_map}
use Rattle.flat_fold.proofs.FoldingLaws.{leads-in_range, one-side}
use Rattle.flat_fold.specs.PathMaps.{ArePathMaps}
use Rattle.std.specs.Prelude.{slice_index_or}

module _ {A : Type 0} (K : ComputedField A) (coords : List (Pair A)) (edges : List Edge) (faces : List Face) where
  one_more : (es : List ℕ) (e : ℕ) → length (es ++ e ∷ []) ≡ length es + 1
  one_more es e = length-append es (e ∷ [])

  -- walks to g by way of f
  longer : (f g e n : ℕ) → HasLevel edges faces f n → Leads edges faces e f g → (es : List ℕ) × (length es ≡ n + 1) × IsWalk edges faces 0 es g
  longer f g e n h l =
      let ws : List ℕ = h.reached.0 in
      let size : length ws ≡ n = h.reached.1 in
      let more : length (ws ++ e ∷ []) ≡ length ws + 1 = one_more ws e in
      (ws ++ e ∷ [], omega arith, walk-append K.field coords edges faces 0 f g ws (e ∷ []) h.reached.2 (g, l, refl))

  -- the face g, which isn't reached yet, is entered over e from a face at level n
  entered : (n e : ℕ) (reached : ℕ → Option (Reached A)) (f g : ℕ) (r : Reached A) → Round K coords edges faces n e reached → Leads edges faces e f g → reached f ≡ Some r → r.level ≡ n → reached g ≡ None → IsEntry edges faces g f e
  entered n e reached f g r round l is_r level none = record {
    level = n;
    before = subst (HasLevel edges faces f) level (round.proper f r is_r).level;
    here = record {
      reached = longer f g e n (subst (HasLevel edges faces f) level (round.proper f r is_r).level) l;
      shortest = λ es w. elim (cases_lt n (length es)) [ inl more ↦ omega arith | inr less ↦ absurd (unreached (round.complete g es w less)) ];
    };
    leads = l;
    least = λ d h has k. elim (cases_lt d e) [ inl less ↦ absurd (unreached (beyond d h has k less)) | inr more ↦ more ];
  }
    where
      unreached : (q : Reached A) × (reached g ≡ Some q) → ⊥
      unreached q = let a : reached g ≡ Some q.0 = q.1 in cc

      beyond : (d h : ℕ) → HasLevel edges faces h n → Leads edges faces d h g → d < e → (q : Reached A) × (reached g ≡ Some q)
      beyond d h has k less =
          let q = round.complete h has.reached.0 has.reached.2 (let size : length has.reached.0 ≡ n = has.reached.1 in omega arith) in
          round.passed d h g q.0 less k q.1 (one-level K coords edges faces h q.0.level n (round.proper h q.0 q.1).level has)

  -- .. and is recorded at level n + 1
  pub reach : (n e : ℕ) (reached later : ℕ → Option (Reached A)) (f g : ℕ) (r new : Reached A) → Round K coords edges faces n e reached → Leads edges faces e f g → reached f ≡ Some r → r.level ≡ n → reached g ≡ None
      → new.level ≡ n + 1 → ((m : Computed (Motion A)) → IsMapOf r.map m → IsMapOf new.map (m >>= stepping K coords (edge_at edges e)))
      → later g ≡ Some new → ((h : ℕ) → (later h ≡ reached h) ⊎ (h ≡ g)) → Round K coords edges faces n e later
  unfolding entered
  reach n e reached later f g r new round l is_r level none new_level steps at_g elsewhere = record { proper = proper; low = low; complete = complete; passed = passed }
    where
      before : Proper K coords edges faces f r
      before = round.proper f r is_r

      entry : IsEntry edges faces g f e
      entry = entered n e reached f g r round l is_r level none

      new_proper : Proper K coords edges faces g new
      new_proper = record {
        level = subst (HasLevel edges faces g) (sym new_level) entry.here;
        map = before.map >>= stepping K coords (edge_at edges e);
        is_map = next entry before.is_map;
        kept = steps before.map before.kept;
      }

      stays : (h : ℕ) (q : Reached A) → reached h ≡ Some q → (p : Reached A) × (later h ≡ Some p)
      stays h q is = elim (elsewhere h) [ inl same ↦ (q, same ∙ is) | inr is_g ↦ (new, ap later is_g ∙ at_g) ]

      proper : (h : ℕ) (q : Reached A) → later h ≡ Some q → Proper K coords edges faces h q
      proper h q is = elim (elsewhere h) [ inl same ↦ round.proper h q (sym same ∙ is) | inr is_g ↦ at_new is_g ]
        where
          at_new : h ≡ g → Proper K coords edges faces h q
          at_new is_g =
              let same : Some new ≡ Some q = sym at_g ∙ sym (ap later is_g) ∙ is in
              let value : new ≡ q = cc in
              subst (λ (p : Reached A). Proper K coords edges faces h p) value (subst (λ (k : ℕ). Proper K coords edges faces k new) (sym is_g) new_proper)

      low : (h : ℕ) (q : Reached A) → later h ≡ Some q → q.level ≤ n + 1
      low h q is = elim (elsewhere h) [ inl same ↦ round.low h q (sym same ∙ is) | inr is_g ↦ at_new is_g ]
        where
          at_new : h ≡ g → q.level ≤ n + 1
          at_new is_g =
              let same : Some new ≡ Some q = sym at_g ∙ sym (ap later is_g) ∙ is in
              let value : new.level ≡ q.level = cc in
              omega arith

      complete : (h : ℕ) (es : List ℕ) → IsWalk edges faces 0 es h → length es ≤ n → (q : Reached A) × (later h ≡ Some q)
      complete h es w less = let q = round.complete h es w less in stays h q.0 q.1

      passed : (d h k : ℕ) (q : Reached A) → d < e → Leads edges faces d h k → later h ≡ Some q → q.level ≡ n → (p : Reached A) × (later k ≡ Some p)
      passed d h k q less j is at_n = elim (elsewhere h) [ inl same ↦ (let p = round.passed d h k q less j (sym same ∙ is) at_n in stays k p.0 p.1) | inr is_g ↦ absurd (at_new is_g) ]
        where
          at_new : h ≡ g → ⊥
          at_new is_g =
              let same : Some new ≡ Some q = sym at_g ∙ sym (ap later is_g) ∙ is in
              let value : new.level ≡ q.level = cc in
              omega arith

  -- the next edge, once it is crossed both ways
  pub pass : (n e : ℕ) (reached : ℕ → Option (Reached A)) → Round K coords edges faces n e reached
      → ((f g : ℕ) (r : Reached A) → Leads edges faces e f g → reached f ≡ Some r → r.level ≡ n → (q : Reached A) × (reached g ≡ Some q)) → Round K coords edges faces n (e + 1) reached
  pass n e reached round done = record {
    proper = round.proper;
    low = round.low;
    complete = round.complete;
    passed = λ d f g r less l is level. elim (cases_lt d e) [ inl before ↦ round.passed d f g r before l is level | inr not_before ↦ at_e d f g r less l is level not_before ];
  }
    where
      at_e : (d f g : ℕ) (r : Reached A) → d < e + 1 → Leads edges faces d f g → reached f ≡ Some r → r.level ≡ n → e ≤ d → (q : Reached A) × (reached g ≡ Some q)
      at_e d f g r less l is level not_before =
          let same : d ≡ e = omega arith in
          done f g r (subst (λ (k : ℕ). Leads edges faces k f g) same l) is level

  -- the last edge of a walk
  last_edge : (f g : ℕ) (e : ℕ) (es : List ℕ) → IsWalk edges faces f (e ∷ es) g → (h d : ℕ) × (ds : List ℕ) × (length ds ≡ length es) × IsWalk edges faces f ds h × Leads edges faces d h g
  last_edge f g e [] w = (f, e, [], refl, refl, subst (Leads edges faces e f) w.2 w.1)
  last_edge f g e (d ∷ es) w =
      let back = last_edge w.0 g d es w.2 in
      (back.0, back.1, e ∷ back.2, ap (λ (n : ℕ). suc n) back.3, (w.0, w.1, back.4), back.5)

  length_cons : (e : ℕ) (es : List ℕ) → length (e ∷ es) ≡ length es + 1
  length_cons e es = sym (add-one (length es))

  -- a face with a walk over e from one that is reached below level n is reached
  beyond_low : (n e : ℕ) (reached : ℕ → Option (Reached A)) (d f g : ℕ) (r : Reached A) → Round K coords edges faces n e reached → Leads edges faces d f g → reached f ≡ Some r → r.level < n → (q : Reached A) × (reached g ≡ Some q)
  beyond_low n e reached d f g r round l is less =
      let walk = longer f g d r.level (round.proper f r is).level l in
      let size : length walk.0 ≡ r.level + 1 = walk.1 in
      round.complete g walk.0 walk.2 (omega arith)

  -- where all edges are looked at, the next round begins
  pub next_round : (n : ℕ) (reached : ℕ → Option (Reached A)) → Round K coords edges faces n (length edges) reached → Round K coords edges faces (n + 1) 0 reached
  next_round n reached round = record {
    proper = round.proper;
    low = λ f r is. let low : r.level ≤ n + 1 = round.low f r is in omega arith;
    complete = complete;
    passed = λ d f g r less l is level. absurd (omega arith);
  }
    where
      complete : (f : ℕ) (es : List ℕ) → IsWalk edges faces 0 es f → length es ≤ n + 1 → (r : Reached A) × (reached f ≡ Some r)
      complete f [] w less = round.complete f [] w (omega arith)
      complete f (e ∷ es) w less = from_last (last_edge 0 f e es w)
        where
          from_last : (h d : ℕ) × (ds : List ℕ) × (length ds ≡ length es) × IsWalk edges faces 0 ds h × Leads edges faces d h f → (r : Reached A) × (reached f ≡ Some r)
          from_last back =
              let h : ℕ = back.0 in
              let d : ℕ = back.1 in
              let l : Leads edges faces d h f = back.5 in
              let size : length back.2 ≡ length es = back.3 in
              let passable : length (e ∷ es) ≡ length es + 1 = length_cons e es in
              let q = round.complete h back.2 back.4 (omega arith) in
              let low : q.0.level ≤ length back.2 = (round.proper h q.0 q.1).level.shortest back.2 back.4 in
              elim (cases_lt q.0.level n) [
                | inl less_n ↦ beyond_low n (length edges) reached d h f q.0 round l q.1 less_n
                | inr more ↦ round.passed d h f q.0 l.is_edge l q.1 (omega arith)
              ]

  -- where a round reaches no face, all faces to which walks lead are reached
  pub closed : (n : ℕ) (reached : ℕ → Option (Reached A)) → Round K coords edges faces n (length edges) reached → ((f : ℕ) (r : Reached A) → reached f ≡ Some r → r.level ≤ n)
      → (f g : ℕ) (es : List ℕ) (r : Reached A) → reached f ≡ Some r → IsWalk edges faces f es g → (q : Reached A) × (reached g ≡ Some q)
  closed n reached round low f g [] r is w = (r, ap reached (sym w) ∙ is)
  closed n reached round low f g (e ∷ es) r is w =
      let here : r.level ≤ n = low f r is in
      let step : (q : Reached A) × (reached w.0 ≡ Some q)
      = elim (cases_lt r.level n) [ inl less ↦ beyond_low n (length edges) reached e f w.0 r round w.1 is less | inr more ↦ round.passed e f w.0 r w.1.is_edge w.1 is (omega arith) ] in
      closed n reached round low w.0 g es step.0 step.1 w.2

  -- at the start face 0 alone is reached, and stays
  pub start : (reached : ℕ → Option (Reached A)) (r : Reached A) → reached 0 ≡ Some r → r.level ≡ 0 → r.map ≡ Some (identity K.field) → ((f : ℕ) → (f ≡ 0) ⊎ (reached f ≡ None)) → Round K coords edges faces 0 0 reached
  unfolding at_hand
  start reached r is level kept others = record { proper = proper; low = low; complete = complete; passed = λ d f g q less l at at_n. absurd (omega arith) }
    where
      zero_level : HasLevel edges faces 0 r.level
      zero_level = subst (HasLevel edges faces 0) (sym level) (record { reached = ([], refl, refl); shortest = λ es w. omega arith })

      at_start : (q : Reached A) → reached 0 ≡ Some q → q ≡ r
      at_start q at = let both : Some q ≡ Some r = sym at ∙ is in cc

      proper : (f : ℕ) (q : Reached A) → reached f ≡ Some q → Proper K coords edges faces f q
      proper f q at = elim (others f) [ inl zero_f ↦ at_zero zero_f | inr none ↦ absurd (cc) ]
        where
          at_zero : f ≡ 0 → Proper K coords edges faces f q
          at_zero zero_f =
              let same : q ≡ r = at_start q (ap reached (sym zero_f) ∙ at) in
              subst (λ (k : ℕ). Proper K coords edges faces k q) (sym zero_f) (subst (λ (p : Reached A). Proper K coords edges faces 0 p) (sym same)
              (record { level = zero_level; map = at_hand (identity K.field); is_map = first; kept = subst (λ (o : Option (Motion A)). IsMapOf o (at_hand (identity K.field))) (sym kept) (tt, refl) }))

      low : (f : ℕ) (q : Reached A) → reached f ≡ Some q → q.level ≤ 0 + 1
      low f q at = elim (others f) [ inl zero_f ↦ at_zero zero_f | inr none ↦ absurd (cc) ]
        where
          at_zero : f ≡ 0 → q.level ≤ 0 + 1
          at_zero zero_f =
              let same : q ≡ r = at_start q (ap reached (sym zero_f) ∙ at) in
              let levels : q.level ≡ r.level = ap (λ (p : Reached A). p.level) same in
              omega arith

      complete : (f : ℕ) (es : List ℕ) → IsWalk edges faces 0 es f → length es ≤ 0 → (q : Reached A) × (reached f ≡ Some q)
      complete f [] w less = (r, ap reached (sym w) ∙ is)
      complete f (e ∷ es) w less = let passable : length (e ∷ es) ≡ length es + 1 = length_cons e es in absurd (omega arith)

  -- ---- one edge, crossed both ways

  same_number_or_not : (m n : ℕ) → (m ≡ n) ⊎ ¬ (m ≡ n)
  same_number_or_not m n =
      elim (cases_lt m n) [ inl less ↦ inr (λ e. omega arith) | inr more ↦ elim (cases_lt n m) [ inl less ↦ inr (λ e. omega arith) | inr other ↦ inl (omega arith) ] ]

  abbrev crosses : ℕ → ℕ → ℕ → ℕ → List (Option (Reached A)) → List (Option (Reached A)) → Bool → Type 0
  crosses n e f g old new t = Crosses K n (edge_at edges e).letter (point K.field coords (edge_at edges e).from) (point K.field coords (edge_at edges e).to) f g old new t

  -- a face that was reached at level n leads on, once the edge was crossed from it
  pub crossed : (n e f g : ℕ) (old new : List (Option (Reached A))) (t : Bool) → g < length old → Round K coords edges faces n e (at old) → Leads edges faces e f g → crosses n e f g old new t
      → Round K coords edges faces n e (at new) × ((r : Reached A) → at new f ≡ Some r → r.level ≡ n → (q : Reached A) × (at new g ≡ Some q)) × (length new ≡ length old)
  crossed n e f g old new false within round l c = (
    subst (λ (s : List (Option (Reached A))). Round K coords edges faces n e (at s)) (sym c.0) round,
    subst (λ (s : List (Option (Reached A))). (r : Reached A) → at s f ≡ Some r → r.level ≡ n → (q : Reached A) × (at s g ≡ Some q)) (sym c.0) c.1,
    ap (λ (s : List (Option (Reached A))). length s) c.0,
  )
  crossed n e f g old new true within round l c =
      let r : Reached A = c.0 in
      let q : Reached A = c.1 in
      let here : at new g ≡ Some q = ap (λ (s : List (Option (Reached A))). at s g) c.5 ∙ get_or-set_same old g (Some q) None within in
      let elsewhere : (h : ℕ) → (at new h ≡ at old h) ⊎ (h ≡ g)
      = λ h. elim (same_number_or_not h g) [ inl same ↦ inr same | inr other ↦ inl (ap (λ (s : List (Option (Reached A))). at s h) c.5 ∙ get_or-set_other old g h (Some q) None other) ] in (
        reach n e (at old) (at new) f g r q round l c.2 c.3 c.4 c.6 c.7 here elsewhere,
        λ p is level. (q, here),
        ap (λ (s : List (Option (Reached A))). length s) c.5 ∙ length-set old g (Some q),
      )

  -- .. and stays so when it is crossed back
  still : (n e f g : ℕ) (old new : List (Option (Reached A))) (t : Bool) → f < length old → crosses n e g f old new t
      → ((r : Reached A) → at old f ≡ Some r → r.level ≡ n → (q : Reached A) × (at old g ≡ Some q)) → (r : Reached A) → at new f ≡ Some r → r.level ≡ n → (q : Reached A) × (at new g ≡ Some q)
  still n e f g old new false within c done r is level = subst (λ (s : List (Option (Reached A))). (r : Reached A) → at s f ≡ Some r → r.level ≡ n → (q : Reached A) × (at s g ≡ Some q)) (sym c.0) done r is level
  still n e f g old new true within c done r is level =
      let q : Reached A = c.1 in
      let here : at new f ≡ Some q = ap (λ (s : List (Option (Reached A))). at s f) c.5 ∙ get_or-set_same old f (Some q) None within in
      let same : Some q ≡ Some r = sym here ∙ is in
      let levels : q.level ≡ r.level = cc in
      let above : q.level ≡ n + 1 = c.6 in
      absurd (omega arith)

  pub both_ways : (n e f g : ℕ) (old mid new : List (Option (Reached A))) (t u : Bool) → f < length old → g < length old → Round K coords edges faces n e (at old)
      → IsCrossing edges faces e (Some (record { first = f; second = g })) → crosses n e f g old mid t → crosses n e g f mid new u
      → Round K coords edges faces n (e + 1) (at new) × (length new ≡ length old)
  both_ways n e f g old mid new t u f_in g_in round crossing there back =
      let one = crossed n e f g old mid t g_in round crossing.0 there in
      let long : length mid ≡ length old = one.2 in
      let f_mid : f < length mid = omega arith in
      let two = crossed n e g f mid new u f_mid one.0 (leads-back edges faces e f g crossing.0) back in
      let first_done = still n e f g mid new u f_mid back one.1 in (
        pass n e (at new) two.0 (λ h k r l is level. elim (crossing.1 h k l) [
          | inl same ↦ subst (λ (j : ℕ). (q : Reached A) × (at new j ≡ Some q)) (sym same.1) (first_done r (ap (at new) (sym same.0) ∙ is) level)
          | inr other ↦ subst (λ (j : ℕ). (q : Reached A) × (at new j ≡ Some q)) (sym other.1) (two.1 r (ap (at new) (sym other.0) ∙ is) level)
        ]),
        two.2 ∙ one.2,
      )

  -- an edge that isn't crossed
  pub not_crossed : (n e : ℕ) (reached : ℕ → Option (Reached A)) → Round K coords edges faces n e reached → IsCrossing edges faces e None → Round K coords edges faces n (e + 1) reached
  not_crossed n e reached round none = pass n e reached round (λ f g r l is level. absurd (none f g l))

-- ---- how many faces aren't reached yet

pub unreached-set : {A : Type 0} (reached : List (Option (Reached A))) (g : ℕ) (q : Reached A) → g < length reached → at reached g ≡ None → unreached (set reached g (Some q)) + 1 ≡ unreached reached
unreached-set reached g q within none =
    let e : unreached (set reached g (Some q)) + waiting (at reached g) ≡ unreached reached + waiting (Some q) = sum_by-set waiting reached g (Some q) None within in
    let w : waiting (at reached g) ≡ 1 = ap waiting none in
    let e2 : unreached (set reached g (Some q)) + 1 ≡ unreached reached + 0 = sym (ap (λ (k : ℕ). unreached (set reached g (Some q)) + k) w) ∙ e in
    omega (arith, e2)

pub unreached-crossed : {A : Type 0} (K : ComputedField A) (n : ℕ) (letter : Letter) (a b : Pair A) (f g : ℕ) (old new : List (Option (Reached A))) (t : Bool) → g < length old → Crosses K n letter a b f g old new t
    → unreached new + (if t then 1 else 0) ≡ unreached old
unreached-crossed K n letter a b f g old new false within c = let e : unreached new ≡ unreached old = ap unreached c.0 in omega arith
unreached-crossed K n letter a b f g old new true within c = ap (λ (s : List (Option (Reached _))). unreached s + 1) c.5 ∙ unreached-set old g c.1 within c.4

unreached_cons : {A : Type 0} (o : Option (Reached A)) (rest : List (Option (Reached A))) → unreached (o ∷ rest) ≡ waiting o + unreached rest
unreached_cons o rest = sum_by-cons waiting o rest

pub unreached-le-length : {A : Type 0} (reached : List (Option (Reached A))) → unreached reached ≤ length reached
unreached-le-length [] = omega arith
unreached-le-length (None ∷ rest) =
    let h : unreached rest ≤ length rest = unreached-le-length rest in
    let e : unreached (None ∷ rest) ≡ 1 + unreached rest = unreached_cons None rest in
    rw e (omega (arith, h))
unreached-le-length (Some r ∷ rest) =
    let h : unreached rest ≤ length rest = unreached-le-length rest in
    let e : unreached (Some r ∷ rest) ≡ 0 + unreached rest = unreached_cons (Some r) rest in
    rw e (omega (arith, h))

-- where a round reaches no face, every face is reached
pub all-reached : {A : Type 0} (K : ComputedField A) (coords : List (Pair A)) (edges : List Edge) (faces : List Face) → IsFoldable K.field coords edges faces → (n : ℕ) (reached : ℕ → Option (Reached A))
    → Round K coords edges faces n (length edges) reached → ((f : ℕ) (r : Reached A) → reached f ≡ Some r → r.level ≤ n) → AllReached K coords edges faces reached
all-reached {A} K coords edges faces foldable n reached round low f within = decide (reached f) refl
  where
    origin : (r : Reached A) × (reached 0 ≡ Some r)
    origin = round.complete 0 [] refl (omega arith)

    decide : (o : Option (Reached A)) → reached f ≡ o → (r : Reached A) × (reached f ≡ Some r) × Proper K coords edges faces f r
    decide (Some r) is = (r, is, round.proper f r is)
    decide None is =
        absurd (foldable.reached f within (λ walk.
        let there : (q : Reached A) × (reached f ≡ Some q) = closed K coords edges faces n reached round low 0 f walk.0 origin.0 origin.1 walk.1 in
        let both : reached f ≡ Some there.0 = there.1 in
        cc))

pub grew_more : (t u : Bool) (o m w : ℕ) → (if t then 1 else 0) + m ≤ o → (if u then 1 else 0) + w ≤ m → (if t || u then 1 else 0) + w ≤ o
grew_more false false o m w h k = omega arith
grew_more false true o m w h k = omega arith
grew_more true false o m w h k = omega arith
grew_more true true o m w h k = omega arith

pub still_more : {X : Type 0} (t u : Bool) (o m w : X) → t || u ≡ false → (t ≡ false → m ≡ o) → (u ≡ false → w ≡ m) → w ≡ o
still_more false false o m w e h k = k refl ∙ h refl
still_more false true o m w e h k = absurd (cc)
still_more true u o m w e h k = absurd (cc)

-- ---- the start

at-push_none : {A : Type 0} (xs : List (Option (Reached A))) (f : ℕ) → at (xs ++ None ∷ []) f ≡ at xs f
at-push_none xs f =
    elim (cases_lt f (length xs)) [
      | inl less ↦ get_or_append_left xs (None ∷ []) None f less
      | inr more ↦ elim (cases_lt (length xs) f) [
        | inl past ↦ (let long : length (xs ++ None ∷ []) ≡ length xs + 1 = length-append xs (None ∷ []) in
            get_or_past (xs ++ None ∷ []) f None (omega (arith, long, past)) ∙ sym (get_or_past xs f None more))
        | inr here ↦ (let same : f ≡ length xs = omega arith in
            ap (at (xs ++ None ∷ [])) same ∙ get_or-append_seam xs None [] None ∙ sym (get_or_past xs f None more))
      ]
    ]

pub pushed_none : {A : Type 0} (F : OrderedField A) (n : ℕ) (xs : List (Option (Reached A))) → IsStart F n xs → IsStart F (n + 1) (xs ++ None ∷ [])
pushed_none F n xs s = record {
  long = (let long : length (xs ++ None ∷ []) ≡ length xs + 1 = length-append xs (None ∷ []) in let before : length xs ≡ n = s.long in omega (arith, long, before));
  origin = at-push_none xs 0 ∙ s.origin;
  others = λ f. elim (s.others f) [ inl zero_f ↦ inl zero_f | inr none ↦ inr (at-push_none xs f ∙ none) ];
}

-- the first round begins at the start
pub start-round : {A : Type 0} (K : ComputedField A) (coords : List (Pair A)) (edges : List Edge) (faces : List Face) (count : ℕ) (reached : List (Option (Reached A))) → IsStart K.field count reached
    → Round K coords edges faces 0 0 (at reached) × ((f : ℕ) (r : Reached A) → at reached f ≡ Some r → r.level ≤ 0)
start-round {A} K coords edges faces count reached s =
    (start K coords edges faces (at reached) (record { level = 0; map = Some (identity K.field) }) s.origin refl refl s.others, low)
  where
    low : (f : ℕ) (r : Reached A) → at reached f ≡ Some r → r.level ≤ 0
    low f r is = elim (s.others f) [ inl zero_f ↦ at_zero zero_f | inr none ↦ absurd (cc) ]
      where
        at_zero : f ≡ 0 → r.level ≤ 0
        at_zero zero_f =
            let first : Reached A = record { level = 0; map = Some (identity K.field) } in
            let same : Some first ≡ Some r = sym s.origin ∙ ap (at reached) (sym zero_f) ∙ is in
            let levels : first.level ≡ r.level = cc in
            omega arith

pub started : {A : Type 0} (F : OrderedField A) (xs : List (Option (Reached A))) → xs ≡ Some (record { level = 0; map = Some (identity F) }) ∷ [] → IsStart F 1 xs
started {A} F xs e = subst (IsStart F 1) (sym e) (record { long = refl; origin = get_or_set_start; others = others })
  where
    alone : List (Option (Reached A))
    alone = Some (record { level = 0; map = Some (identity F) }) ∷ []

    get_or_set_start : at alone 0 ≡ Some (record { level = 0; map = Some (identity F) })
    get_or_set_start = get_or-append_seam [] (Some (record { level = 0; map = Some (identity F) })) [] None

    others : (f : ℕ) → (f ≡ 0) ⊎ (at alone f ≡ None)
    others f = elim (same_number_or_not' f) [ inl zero_f ↦ inl zero_f | inr above ↦ inr (get_or_past alone f None above) ]
      where
        same_number_or_not' : (f : ℕ) → (f ≡ 0) ⊎ (1 ≤ f)
        same_number_or_not' f = elim (cases_lt f 1) [ inl less ↦ inl (omega arith) | inr more ↦ inr more ]

-- ---- the path maps

module _ {A : Type 0} (K : ComputedField A) (coords : List (Pair A)) (edges : List Edge) (faces : List Face) (foldable : IsFoldable K.field coords edges faces)
    (reached : List (Option (Reached A))) (long : length reached ≡ length faces) (all : AllReached K coords edges faces (at reached)) where
  fits_kept : (o : Option (Motion A)) (m : Computed (Motion A)) → IsMapOf o m → ¬ (o ≡ None) → Fits m
  fits_kept (Some x) m h n = h.0
  fits_kept None m h n = absurd (n refl)

  value_kept : (o : Option (Motion A)) (x : Motion A) (m : Computed (Motion A)) → o ≡ Some x → IsMapOf o m → Fits m × (x ≡ m.value)
  value_kept (Some y) x m e h = let same : x ≡ y = cc in (h.0, same ∙ h.1)
  value_kept None x m e h = absurd (cc)

  none_kept : (o : Option (Motion A)) (m : Computed (Motion A)) → o ≡ None → IsMapOf o m → ¬ Fits m
  none_kept (Some y) m e h = absurd (cc)
  none_kept None m e h = h

  -- what is kept of a face
  kept_of : (f : ℕ) (within : f < length faces) → map_of (at reached f) ≡ (all f within).0.map
  kept_of f within = ap (λ (o : Option (Reached A)). map_of o) (all f within).1

  pub found : (maps : List (Motion A)) → AreKept reached maps → ArePathMaps K coords edges faces maps
  found maps kept = record {
    long = kept.long ∙ long;
    each = λ f d within.
        let proper : Proper K coords edges faces f (all f within).0 = (all f within).2 in
        let here : f < length reached = omega (arith, within, long) in
        let value = value_kept (all f within).0.map (slice_index_or maps f d) proper.map (sym (kept_of f within) ∙ kept.each f d here) proper.kept in
        (proper.map, proper.is_map, value.0, value.1);
  }

  -- a face that has a path map is one of the faces
  path_within : (f : ℕ) (m : Computed (Motion A)) → IsPathMap K coords edges faces f m → f < length faces
  path_within f m first = foldable.some_face
  path_within f m (next {f = h} {g = k} {e = e} entry before) = leads-in_range edges faces e h k (leads-back edges faces e k h entry.leads)

  pub not_found : (f : ℕ) → IsFirstWithout reached f → IsFirstMapPast K coords edges faces f
  not_found f without =
      let within : f < length faces = (let h : f < length reached = without.within in omega (arith, h, long)) in
      let proper : Proper K coords edges faces f (all f within).0 = (all f within).2 in
      record {
        map = proper.map;
        is_map = proper.is_map;
        past = none_kept (all f within).0.map proper.map (sym (kept_of f within) ∙ without.none) proper.kept;
        least = λ g m less is_m.
            let inside : g < length faces = path_within g m is_m in
            let other : Proper K coords edges faces g (all g inside).0 = (all g inside).2 in
            let same : other.map ≡ m = one-path_map K coords edges faces (one-side edges faces foldable.one_face) other.is_map is_m refl in
            subst (λ (c : Computed (Motion A)). Fits c) same (fits_kept (all g inside).0.map other.map other.kept (λ none. without.earlier g less (kept_of g inside ∙ none)));
      }
