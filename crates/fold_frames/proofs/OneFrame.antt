-- a frame has one effective frame, as following parents from it ends in one way
use Rattle.std.proofs.Common.{◌≡◌, ◌⊎◌, inl, inr, ℕ, suc, ◌<◌, ◌≤◌, List, [], ◌∷◌, ◌++◌, length, get_or, map, replicate, set, refl, sym, ◌∙◌, ap, subst, Bool, true, false, Option, Some, None, arith}
use Rattle.std.specs.Prelude.{AllPairs, Contains, ◌≢◌}
use Rattle.std.proofs.lemmas.Bool.{cases_lt}
use Rattle.std.proofs.lemmas.List.{get_or_append_left}
use Rattle.std.proofs.lemmas.List.Elements.{Contains-append_right}
use Rattle.std.proofs.lemmas.Option.{same_Some}
use Rattle.std.proofs.Math.Seq.{get_or-append_seam}
use Rattle.fold_keys.specs.declared.value.Entry.{Entry}
use Rattle.fold_keys.specs.declared.value.Frame.{Frame}
use Rattle.fold_keys.specs.declared.value.Value.{Value}
use Rattle.fold_frames.specs.Answers.{AreInherited, HasNone}
use Rattle.fold_frames.specs.Inherits.{pairs, inherited}
use Rattle.fold_frames.specs.Parents.{parent_at, IsPath, IsWay, LeavesAt, ReturnsAt}
use Rattle.fold_frames.specs.declared.fault.FrameFault.{FrameFault}
use Rattle.fold_frames.specs.declared.fault.FrameFault.TheVariants as faults
use Rattle.fold_frames.proofs.Paths.{Walked, started, walked_more, returns_here, unmarked, fewer_unmarked, path_more, parent_within}

none_some : (f n : ℕ) (o : Option ℕ) → o ≡ None → o ≡ Some n → ⊥
none_some f n o a b = let e : None ≡ Some n = sym a ∙ b in cc

one_length : {X : Type 0} (a : X) (xs : List X) → 0 < length (a ∷ xs)
one_length a xs = omega arith

module _ (frames : List Frame) where
  -- a frame has one parent
  next_same : (f m n : ℕ) → parent_at frames f ≡ Some m → parent_at frames f ≡ Some n → m ≡ n
  next_same f m n a b = same_Some m n (sym a ∙ b)

  -- ---- a path that ends

  pub one_end : (k : ℕ) (p q : List ℕ) (e g : ℕ) → IsPath frames k p e → parent_at frames e ≡ None
      → IsPath frames k q g → parent_at frames g ≡ None → (p ≡ q) × (e ≡ g)
  one_end k [] [] e g a end b last = (refl, sym a ∙ b)
  one_end k [] (y ∷ q) e g a end b last =
      absurd (none_some k b.1 (parent_at frames k) (ap (parent_at frames) a ∙ end) b.2)
  one_end k (x ∷ p) [] e g a end b last =
      absurd (none_some k a.1 (parent_at frames k) (ap (parent_at frames) b ∙ last) a.2)
  one_end k (x ∷ p) (y ∷ q) e g a end b last =
      let next : b.1 ≡ a.1 = next_same k b.1 a.1 b.2 a.2 in
      let rest = one_end a.1 p q e g a.3 end (subst (λ n. IsPath frames n q g) next b.3) last in
      let here : x ≡ y = a.0 ∙ sym b.0 in
      (λ i. here i ∷ rest.0 i, rest.1)

  -- ---- a path that goes round

  abbrev Loops : ℕ → ℕ → Type 0
  Loops k f =
      (path : List ℕ) × (round : List ℕ) × IsPath frames k path f × IsPath frames f round f
      × (0 < length round)

  no_loop : (k : ℕ) (p : List ℕ) (e f : ℕ) → IsPath frames k p e → parent_at frames e ≡ None
      → (path round : List ℕ) → IsPath frames k path f → IsPath frames f round f
      → 0 < length round → ⊥
  no_loop k p e f a end path [] to back some = omega (arith, some)
  no_loop k [] e f a end [] (y ∷ round) to back some =
      none_some f back.1 (parent_at frames f) (ap (parent_at frames) (sym to ∙ a) ∙ end) back.2
  no_loop k [] e f a end (x ∷ path) (y ∷ round) to back some =
      none_some k to.1 (parent_at frames k) (ap (parent_at frames) a ∙ end) to.2
  no_loop k (x ∷ p) e f a end [] (y ∷ round) to back some =
      let next : back.1 ≡ a.1 = next_same k back.1 a.1 (ap (parent_at frames) to ∙ back.2) a.2 in
      no_loop a.1 p e f a.3 end round (y ∷ round)
      (subst (λ n. IsPath frames n round f) next back.3) back some
  no_loop k (x ∷ p) e f a end (z ∷ path) (y ∷ round) to back some =
      let next : to.1 ≡ a.1 = next_same k to.1 a.1 to.2 a.2 in
      no_loop a.1 p e f a.3 end path (y ∷ round)
      (subst (λ n. IsPath frames n path f) next to.3) back some

  -- of two paths from one frame, one goes on from where the other ends
  abbrev Meets : List ℕ → ℕ → List ℕ → ℕ → Type 0
  Meets p f q g = (r : List ℕ) × (q ≡ p ++ r) × IsPath frames f r g

  meet : (k : ℕ) (p : List ℕ) (f : ℕ) (q : List ℕ) (g : ℕ) → IsPath frames k p f
      → IsPath frames k q g → Meets p f q g ⊎ Meets q g p f
  meet k [] f q g a b = inl (q, refl, subst (λ n. IsPath frames n q g) a b)
  meet k (x ∷ p) f [] g a b = inr (x ∷ p, refl, subst (λ n. IsPath frames n (x ∷ p) f) b a)
  meet k (x ∷ p) f (y ∷ q) g a b =
      let next : b.1 ≡ a.1 = next_same k b.1 a.1 b.2 a.2 in
      let here : x ≡ y = a.0 ∙ sym b.0 in
      at here (meet a.1 p f q g a.3 (subst (λ n. IsPath frames n q g) next b.3))
    where
      at : x ≡ y → Meets p f q g ⊎ Meets q g p f
          → Meets (x ∷ p) f (y ∷ q) g ⊎ Meets (y ∷ q) g (x ∷ p) f
      at here (inl m) = inl (m.0, (λ i. sym here i ∷ m.1 i), m.2)
      at here (inr m) = inr (m.0, (λ i. here i ∷ m.1 i), m.2)

  -- no path without repetition goes on from a frame that it has
  repeats : (p : List ℕ) (f : ℕ) (r : List ℕ) → Contains p f → AllPairs (λ g h. g ≢ h) (p ++ f ∷ r) → ⊥
  repeats p f r has distinct =
      let first : get_or (p ++ f ∷ r) has.0 f ≡ f = get_or_append_left p (f ∷ r) f has.0 has.1 ∙ has.2 in
      let second : get_or (p ++ f ∷ r) (length p) f ≡ f = get_or-append_seam p f r f in
      distinct has.0 (length p) f has.1 (longer p f r) (first ∙ sym second)
    where
      longer : (p : List ℕ) (f : ℕ) (r : List ℕ) → length p < length (p ++ f ∷ r)
      longer [] f r = omega arith
      longer (x ∷ p) f r = let rest = longer p f r in omega (arith, rest)

  path_on : (k : ℕ) (p : List ℕ) (f : ℕ) (q : List ℕ) (g : ℕ) → IsPath frames k p f
      → IsPath frames f q g → IsPath frames k (p ++ q) g
  path_on k [] f q g a b = subst (λ n. IsPath frames n q g) (sym a) b
  path_on k (x ∷ p) f q g a b = (a.0, a.1, a.2, path_on a.1 p f q g a.3 b)

  -- the frame to which a path returns is on it
  has_end : (path round : List ℕ) (f : ℕ) → IsPath frames f round f → 0 < length round
      → Contains (path ++ round) f
  has_end path [] f back some = absurd (omega (arith, some))
  has_end path (y ∷ round) f back some =
      Contains-append_right path (y ∷ round) f (0, omega arith, back.0)

  goes_no_further : (p : List ℕ) (f : ℕ) (q : List ℕ) (g : ℕ) → Contains p f
      → AllPairs (λ g h. g ≢ h) q → Meets p f q g → f ≡ g
  goes_no_further p f q g has distinct ([], is, path) = path
  goes_no_further p f q g has distinct (y ∷ r, is, path) =
      absurd (repeats p f r has
      (subst (AllPairs (λ g h. g ≢ h)) (is ∙ ap (λ z. p ++ z ∷ r) path.0) distinct))

  pub one_return : (k f g : ℕ) → ReturnsAt frames k f → ReturnsAt frames k g → f ≡ g
  one_return k f g a b =
      at (meet k p f q g (path_on k a.0 f a.1 f a.2 a.3) (path_on k b.0 g b.1 g b.2 b.3))
    where
      p : List ℕ
      p = a.0 ++ a.1

      q : List ℕ
      q = b.0 ++ b.1

      at : Meets p f q g ⊎ Meets q g p f → f ≡ g
      at (inl m) = goes_no_further p f q g (has_end a.0 a.1 f a.3 a.4) b.5 m
      at (inr m) = sym (goes_no_further q g p f (has_end b.0 b.1 g b.3 b.4) a.5 m)

  -- ---- all causes

  -- parents end at a frame that has none, whether it is there or not
  abbrev Ends : ℕ → List ℕ → ℕ → Type 0
  Ends k p e = IsPath frames k p e × (parent_at frames e ≡ None)

  no_parent : (f : ℕ) → length frames ≤ f → parent_at frames f ≡ None
  no_parent f over = at (parent_at frames f) refl
    where
      at : (o : Option ℕ) → parent_at frames f ≡ o → o ≡ None
      at None e = refl
      at (Some n) e = let within = parent_within frames f n e in absurd (omega (arith, within, over))

  end_of_way : (k : ℕ) (way : List ℕ) (is : IsWay frames k way) → Ends k is.0 is.1
  end_of_way k way is = (is.3, is.5)

  end_of_leave : (k f : ℕ) (is : LeavesAt frames k f) → Ends k (is.0 ++ f ∷ []) is.1
  end_of_leave k f is = (path_more frames k is.0 f is.1 is.2 is.3, no_parent is.1 is.4)

  pub one_way : (k : ℕ) (v w : List ℕ) → IsWay frames k v → IsWay frames k w → v ≡ w
  one_way k v w a b =
      let same = one_end k a.0 b.0 a.1 b.1 a.3 a.5 b.3 b.5 in
      a.2 ∙ (λ i. same.0 i ++ same.1 i ∷ []) ∙ sym b.2

  last_same : (xs ys : List ℕ) (x y : ℕ) → xs ++ x ∷ [] ≡ ys ++ y ∷ [] → x ≡ y
  last_same [] [] x y e = cc
  last_same [] (b ∷ []) x y e = cc
  last_same [] (b ∷ c ∷ ys) x y e = cc
  last_same (a ∷ []) [] x y e = cc
  last_same (a ∷ c ∷ xs) [] x y e = cc
  last_same (a ∷ xs) (b ∷ ys) x y e = last_same xs ys x y (tail e)
    where
      tail : a ∷ (xs ++ x ∷ []) ≡ b ∷ (ys ++ y ∷ []) → xs ++ x ∷ [] ≡ ys ++ y ∷ []
      tail e = cc

  one_leave : (k f g : ℕ) → LeavesAt frames k f → LeavesAt frames k g → f ≡ g
  one_leave k f g a b =
      let x = end_of_leave k f a in
      let y = end_of_leave k g b in
      let same = one_end k (a.0 ++ f ∷ []) (b.0 ++ g ∷ []) a.1 b.1 x.0 x.1 y.0 y.1 in
      last_same a.0 b.0 f g same.0

  way_leaves_not : (k f : ℕ) (way : List ℕ) → IsWay frames k way → LeavesAt frames k f → ⊥
  way_leaves_not k f way a b =
      let y = end_of_leave k f b in
      let same = one_end k a.0 (b.0 ++ f ∷ []) a.1 b.1 a.3 a.5 y.0 y.1 in
      omega (arith, same.1, a.4, b.4)

  end_returns_not : (k e f : ℕ) (p : List ℕ) → Ends k p e → ReturnsAt frames k f → ⊥
  end_returns_not k e f p a b = no_loop k p e f a.0 a.1 b.0 b.1 b.2 b.3 b.4

  -- a frame that isn't there has no way and no parent
  start_within : (k : ℕ) (p : List ℕ) (e : ℕ) → IsPath frames k p e → e < length frames
      → k < length frames
  start_within k [] e is within = subst (λ n. n < length frames) (sym is) within
  start_within k (x ∷ p) e is within = parent_within frames k is.1 is.2

  way_there : (k : ℕ) (way : List ℕ) → IsWay frames k way → length frames ≤ k → ⊥
  way_there k way a over = let within = start_within k a.0 a.1 a.3 a.4 in omega (arith, within, over)

  leave_there : (k f : ℕ) → LeavesAt frames k f → length frames ≤ k → ⊥
  leave_there k f a over =
      let within = start_within k a.0 f a.2 (parent_within frames f a.1 a.3) in
      omega (arith, within, over)

  return_there : (k f : ℕ) → ReturnsAt frames k f → length frames ≤ k → ⊥
  return_there k f a over = at a.1 a.3 a.4
    where
      at : (round : List ℕ) → IsPath frames f round f → 0 < length round → ⊥
      at [] back some = omega (arith, some)
      at (y ∷ round) back some =
          let within = start_within k a.0 f a.2 (parent_within frames f back.1 back.2) in
          omega (arith, within, over)

  pub way_or_cause : (k : ℕ) (way : List ℕ) (fault : FrameFault) → IsWay frames k way
      → HasNone frames k fault → ⊥
  way_or_cause k way (faults.NoFrame f) a b = way_there k way a b.1
  way_or_cause k way (faults.ParentRange f) a b = way_leaves_not k f way a b
  way_or_cause k way (faults.ParentLoop f) a b =
      end_returns_not k a.1 f a.0 (end_of_way k way a) b
  way_or_cause k way (faults.Memory e) a b = b

  pub one_cause : (k : ℕ) (s t : FrameFault) → HasNone frames k s → HasNone frames k t → s ≡ t
  one_cause k (faults.NoFrame f) (faults.NoFrame g) a b = ap (λ n. faults.NoFrame n) (a.0 ∙ sym b.0)
  one_cause k (faults.NoFrame f) (faults.ParentRange g) a b = absurd (leave_there k g b a.1)
  one_cause k (faults.NoFrame f) (faults.ParentLoop g) a b = absurd (return_there k g b a.1)
  one_cause k (faults.ParentRange f) (faults.NoFrame g) a b = absurd (leave_there k f a b.1)
  one_cause k (faults.ParentRange f) (faults.ParentRange g) a b =
      ap (λ n. faults.ParentRange n) (one_leave k f g a b)
  one_cause k (faults.ParentRange f) (faults.ParentLoop g) a b =
      absurd (end_returns_not k a.1 g (a.0 ++ f ∷ []) (end_of_leave k f a) b)
  one_cause k (faults.ParentLoop f) (faults.NoFrame g) a b = absurd (return_there k f a b.1)
  one_cause k (faults.ParentLoop f) (faults.ParentRange g) a b =
      absurd (end_returns_not k b.1 f (b.0 ++ g ∷ []) (end_of_leave k g b) a)
  one_cause k (faults.ParentLoop f) (faults.ParentLoop g) a b =
      ap (λ n. faults.ParentLoop n) (one_return k f g a b)
  one_cause k (faults.Memory e) t a b = absurd a
  one_cause k (faults.NoFrame f) (faults.Memory e) a b = absurd b
  one_cause k (faults.ParentRange f) (faults.Memory e) a b = absurd b
  one_cause k (faults.ParentLoop f) (faults.Memory e) a b = absurd b

  -- ---- and in some way

  abbrev pub HasWayOrCause : ℕ → Type 0
  HasWayOrCause k =
      ((way : List ℕ) × IsWay frames k way) ⊎ ((fault : FrameFault) × HasNone frames k fault)

  -- from a frame that is met for the first time to its parent, if there is one
  on : (k here : ℕ) (way : List ℕ) (met : List Bool) → Walked frames k here way met
      → ((p : ℕ) → get_or met here false ≡ false → parent_at frames here ≡ Some p
      → p < length frames → HasWayOrCause k)
      → HasWayOrCause k
  on k here way met so next = by_mark (get_or met here false) refl
    where
      by_parent : get_or met here false ≡ false → (o : Option ℕ) → parent_at frames here ≡ o
          → HasWayOrCause k
      by_parent new None is = inl (way ++ here ∷ [], (way, here, refl, so.path, so.within, is))
      by_parent new (Some p) is = elim (cases_lt p (length frames)) [
        | inl within ↦ next p new is within
        | inr over ↦ inr (faults.ParentRange here, (way, p, so.path, is, over))
      ]

      by_mark : (b : Bool) → get_or met here false ≡ b → HasWayOrCause k
      by_mark true marked =
          inr (faults.ParentLoop here, returns_here frames k here way met so marked)
      by_mark false new = by_parent new (parent_at frames here) refl

  inside : (k here : ℕ) (way : List ℕ) (met : List Bool) → Walked frames k here way met
      → here < length met
  inside k here way met so = subst (λ m. here < m) (sym so.size) so.within

  -- as many frames as aren't marked
  goes : (n k here : ℕ) (way : List ℕ) (met : List Bool) → Walked frames k here way met
      → unmarked met ≤ n → HasWayOrCause k
  goes Prim.Native.Nat.zero k here way met so few =
      on k here way met so (λ p new is within.
      let less = fewer_unmarked met here (inside k here way met so) new in
      absurd (omega (arith, less, few)))
  goes (suc n) k here way met so few =
      on k here way met so (λ p new is within.
      let less = fewer_unmarked met here (inside k here way met so) new in
      goes n k p (way ++ here ∷ []) (set met here true)
      (walked_more frames k here p way (way ++ here ∷ []) met (set met here true) so new is within
      refl refl)
      (omega (arith, less, few)))

  pub way_or_none : (k : ℕ) → HasWayOrCause k
  way_or_none k = elim (cases_lt k (length frames)) [
    | inl within ↦
        let met = replicate (length frames) false in
        goes (unmarked met) k k [] met (started frames k met within refl) (omega arith)
    | inr over ↦ inr (faults.NoFrame k, (refl, over))
  ]

-- ---- the entries

entries_of : List (List ℕ × Value) → List Entry
entries_of ps = map (λ p. record { key = p.0; value = p.1 }) ps

pairs_of : (ps : List (List ℕ × Value)) → pairs (entries_of ps) ≡ ps
unfolding entries_of
pairs_of [] = refl
pairs_of (p ∷ ps) = ap (λ qs. p ∷ qs) (pairs_of ps)

one_pairs : (es fs : List Entry) → pairs es ≡ pairs fs → es ≡ fs
one_pairs [] [] e = refl
one_pairs [] (f ∷ fs) e = cc
one_pairs (x ∷ es) [] e = cc
one_pairs (x ∷ es) (f ∷ fs) e =
    let rest : es ≡ fs = one_pairs es fs (tail e) in
    λ i. record { key = (head e i).0; value = (head e i).1 } ∷ rest i
  where
    head : (x.key, x.value) ∷ pairs es ≡ (f.key, f.value) ∷ pairs fs
        → (let p : List ℕ × Value = (x.key, x.value) in p ≡ (f.key, f.value))
    head e = cc

    tail : (x.key, x.value) ∷ pairs es ≡ (f.key, f.value) ∷ pairs fs → pairs es ≡ pairs fs
    tail e = cc

pub some_frame : (frames : List Frame) (k : ℕ)
    → ((entries : List Entry) × AreInherited frames k entries)
    ⊎ ((fault : FrameFault) × HasNone frames k fault)
some_frame frames k = elim (way_or_none frames k) [
  | inl way ↦
      let ps = inherited frames way.0 in
      inl (entries_of ps, (way.0, way.1, pairs_of ps))
  | inr cause ↦ inr cause
]

pub one_frame : (frames : List Frame) (k : ℕ) (es fs : List Entry) → AreInherited frames k es
    → AreInherited frames k fs → es ≡ fs
one_frame frames k es fs a b =
    one_pairs es fs (a.2 ∙ ap (inherited frames) (one_way frames k a.0 b.0 a.1 b.1) ∙ sym b.2)

pub frame_or_cause : (frames : List Frame) (k : ℕ) (entries : List Entry) (fault : FrameFault)
    → AreInherited frames k entries → HasNone frames k fault → ⊥
frame_or_cause frames k entries fault a b = way_or_cause frames k a.0 fault a.1 b
