-- A ring that is led on from half-edge to half-edge, one more at a time.
use Rattle.std.proofs.Common.{◌≡◌, ◌⊎◌, inl, inr, ℕ, ◌+◌, ◌-◌, ◌<◌, ◌≤◌, ◌%◌, List, length, get_or, refl, sym, ap, subst, ◌∙◌, arith}
use Rattle.std.specs.List.{swap}
use Rattle.std.proofs.lemmas.List.Edits.{length-swap, swapped_from_swap, Swapped}
use Rattle.std.proofs.lemmas.Bool.Decides.{eqb_tells}
use Rattle.half_edges.specs.declared.arena.HalfId.{HalfId}
use Rattle.half_edges.specs.Halves.{Halves, IsArena, count, next_of, twin_of}
use Rattle.face_walks.specs.Links.{LeadRound, LeadsElsewhere, LeadsRound}
use Rattle.face_walks.specs.Linked.{piece_at, reverse_of}
use Rattle.face_walks.specs.Rings.{AreOutgoing, half_at, ring_at}

-- twins of different half-edges are different
pub even_or_odd : (h : ℕ) → ((h % 2 ≡ 0) × (twin_of h ≡ h + 1)) ⊎ ((h % 2 ≡ 1) × (twin_of h ≡ h - 1))
even_or_odd h = grind (arith, eqb_tells (h % 2) 0)

pub twin_twin : (h : ℕ) → twin_of (twin_of h) ≡ h
twin_twin h = elim (even_or_odd h) [
  | inl e ↦ elim (even_or_odd (twin_of h)) [
    | inl f ↦ absurd (omega (arith, e.0, e.1, f.0))
    | inr f ↦ f.1 ∙ (omega (arith, e.1))
  ]
  | inr e ↦ elim (even_or_odd (twin_of h)) [
    | inl f ↦ f.1 ∙ (omega (arith, e.0, e.1))
    | inr f ↦ absurd (omega (arith, e.0, e.1, f.0))
  ]
]

pub twin_once : (g h : ℕ) → twin_of g ≡ twin_of h → g ≡ h
twin_once g h e = sym (twin_twin g) ∙ ap twin_of e ∙ twin_twin h

module _ (old new : Halves (ℕ × ℕ)) (ring : List HalfId) where
  -- the first n half-edges of the ring are led round, and the others turn back
  pub record IsLedTo (n : ℕ) : Type 0 where
    pub some : 0 < n
    pub payloads : new.payloads ≡ old.payloads
    pub as_many : count new ≡ count old
    pub led : 0 < length ring → LeadsRound new ring n
    pub turning : (k : ℕ) → n ≤ k → k < length ring → next_of new (twin_of (half_at ring k)) ≡ half_at ring k
    pub others : LeadsElsewhere old new ring

pub led_first : (arena : Halves (ℕ × ℕ)) (ring : List HalfId)
    → ((k : ℕ) → k < length ring → next_of arena (twin_of (half_at ring k)) ≡ half_at ring k) → IsLedTo arena arena ring 1
led_first arena ring turning = record {
  some = omega arith;
  payloads = refl;
  as_many = refl;
  led = λ some. record { on = λ k l. absurd (omega (arith, l)); round = λ l. turning 0 some };
  turning = λ k a b. turning k b;
  others = λ h n. refl;
}

module _ (old new newer : Halves (ℕ × ℕ)) (ring : List HalfId) (n : ℕ) (p : IsLedTo old new ring n) (inside : n < length ring)
    (once : (i j : ℕ) → i < j → j < length ring → ¬ (half_at ring i ≡ half_at ring j))
    (payloads : newer.payloads ≡ new.payloads) (a_in : twin_of (half_at ring (n - 1)) < count new) (b_in : twin_of (half_at ring n) < count new)
    (nexts : newer.nexts ≡ swap new.nexts (twin_of (half_at ring (n - 1))) (twin_of (half_at ring n))) where
  abbrev t : ℕ → ℕ
  t k = twin_of (half_at ring k)

  swapped : Swapped (next_of new) (next_of newer) (t (n - 1)) (t n)
  swapped = swapped_from_swap new.nexts newer.nexts (t (n - 1)) (t n) 0 a_in b_in nexts

  lt_or : (i j : ℕ) → (i < j) ⊎ ((j < i) ⊎ (i ≡ j))
  lt_or i j = grind arith

  apart : (i j : ℕ) → i < length ring → j < length ring → ¬ (i ≡ j) → ¬ (t i ≡ t j)
  apart i j li lj other e = elim (lt_or i j) [
    | inl l ↦ once i j l lj (twin_once (half_at ring i) (half_at ring j) e)
    | inr (inl l) ↦ once j i l li (sym (twin_once (half_at ring i) (half_at ring j) e))
    | inr (inr s) ↦ other s
  ]

  some : 0 < n
  some = p.some

  before_in : n - 1 < length ring
  before_in = let s = some in omega arith

  kept : (k : ℕ) → k < length ring → ¬ (k ≡ n - 1) → ¬ (k ≡ n) → next_of newer (t k) ≡ next_of new (t k)
  kept k l x y = swapped.2 (t k) (apart k (n - 1) l before_in x) (apart k n l inside y)

  before_led : LeadsRound new ring n
  before_led = let s = some in p.led (omega arith)

  on_by : (k : ℕ) → (k + 1 < n) ⊎ (k + 1 ≡ n) → next_of newer (t k) ≡ half_at ring (k + 1)
  on_by k (inl l) = kept k (omega (arith, l, inside)) (λ e. omega (arith, e, l)) (λ e. omega (arith, e, l)) ∙ before_led.on k l
  on_by k (inr e) =
      let here : k ≡ n - 1 = omega arith in
      ap (λ (i : ℕ). next_of newer (t i)) here ∙ swapped.0 ∙ p.turning n (omega arith) inside ∙ ap (λ (i : ℕ). half_at ring i) (sym e)

  pub led_more : IsLedTo old newer ring (n + 1)
  led_more = record {
    some = omega arith;
    payloads = payloads ∙ p.payloads;
    as_many = ap length nexts ∙ length-swap new.nexts (t (n - 1)) (t n) ∙ p.as_many;
    led = λ z. record {
      on = λ k l. on_by k (let m : k < n = omega arith in grind arith);
      round = λ l. ap (λ (i : ℕ). next_of newer (t i)) (let e : n + 1 - 1 ≡ n = omega arith in e) ∙ swapped.1 ∙ before_led.round some;
    };
    turning = λ k a b. kept k b (λ e. omega (arith, e, a)) (λ e. omega (arith, e, a)) ∙ p.turning k (omega (arith, a)) b;
    others = λ h other. swapped.2 h (other (n - 1) before_in) (other n inside) ∙ p.others h other;
  }

pub led_all : (old new : Halves (ℕ × ℕ)) (ring : List HalfId) (n : ℕ) → IsLedTo old new ring n → (0 < length ring → n ≡ length ring) → LeadsRound new ring (length ring)
led_all old new ring n p e = record {
  on = λ k l. let some : 0 < length ring = omega (arith, l) in (p.led some).on k (let f = e some in omega (arith, f, l));
  round = λ l. subst (λ (m : ℕ). 0 < m → next_of new (twin_of (half_at ring (m - 1))) ≡ half_at ring 0) (e l) (p.led l).round l;
}

-- ---- the rings of all vertices

pub twin_within : (h n : ℕ) → n % 2 ≡ 0 → h < n → twin_of h < n
twin_within h n even l = elim (even_or_odd h) [
  | inl e ↦ subst (λ (t : ℕ). t < n) (sym e.1) (omega (arith, e.0, even))
  | inr e ↦ subst (λ (t : ℕ). t < n) (sym e.1) (omega (arith, e.0))
]

module _ (first : Halves (ℕ × ℕ)) (rings : List (List HalfId)) (is_arena : IsArena first) (out : AreOutgoing first rings)
    (reversed : (h : ℕ) → h < count first → piece_at first (twin_of h) ≡ reverse_of (piece_at first h))
    (turning : (h : ℕ) → h < count first → next_of first h ≡ twin_of h) where
  pub lead_none : LeadRound first rings 0
  lead_none = record { led = λ v l. absurd (omega (arith, l)); turning = λ h l m. turning h l }

  -- what comes in by the twin of a half-edge comes in at the vertex that this goes out of
  head_of : (v k : ℕ) → v < length rings → k < length (ring_at rings v) → (piece_at first (twin_of (half_at (ring_at rings v) k))).1 ≡ v
  head_of v k l m = ap (λ (p : ℕ × ℕ). p.1) (reversed (half_at (ring_at rings v) k) (out.in_range v k l m)) ∙ out.tails v k l m

  twin_in : (v k : ℕ) → v < length rings → k < length (ring_at rings v) → twin_of (half_at (ring_at rings v) k) < count first
  twin_in v k l m = twin_within (half_at (ring_at rings v) k) (count first) is_arena.in_pairs (out.in_range v k l m)

  module _ (old : Halves (ℕ × ℕ)) (v : ℕ) (in_range : v < length rings) (payloads : old.payloads ≡ first.payloads) (as_many : count old ≡ count first)
      (p : LeadRound old rings v) where
    same_piece : (h : ℕ) → piece_at old h ≡ piece_at first h
    same_piece h = ap (λ (ps : List (ℕ × ℕ)). get_or ps h (0, 0)) payloads

    pub halves_in : (k : ℕ) → k < length (ring_at rings v) → half_at (ring_at rings v) k < count old
    halves_in k l = subst (λ (n : ℕ). half_at (ring_at rings v) k < n) (sym as_many) (out.in_range v k in_range l)

    pub turn_back : (k : ℕ) → k < length (ring_at rings v) → next_of old (twin_of (half_at (ring_at rings v) k)) ≡ half_at (ring_at rings v) k
    turn_back k l =
        let at : (piece_at old (twin_of (half_at (ring_at rings v) k))).1 ≡ v
        = ap (λ (q : ℕ × ℕ). q.1) (same_piece (twin_of (half_at (ring_at rings v) k))) ∙ head_of v k in_range l in
        p.turning (twin_of (half_at (ring_at rings v) k)) (subst (λ (n : ℕ). twin_of (half_at (ring_at rings v) k) < n) (sym as_many) (twin_in v k in_range l)) (omega (arith, at))
        ∙ twin_twin (half_at (ring_at rings v) k)

    module _ (new : Halves (ℕ × ℕ)) (same : new.payloads ≡ old.payloads) (as_many' : count new ≡ count old)
        (here : LeadsRound new (ring_at rings v) (length (ring_at rings v))) (others : LeadsElsewhere old new (ring_at rings v)) where
      below_or : (u n : ℕ) → u < n + 1 → (u < n) ⊎ (u ≡ n)
      below_or u n l = grind arith

      elsewhere : (u k : ℕ) → u < v → k < length (ring_at rings u) → next_of new (twin_of (half_at (ring_at rings u) k)) ≡ next_of old (twin_of (half_at (ring_at rings u) k))
      elsewhere u k l m = others (twin_of (half_at (ring_at rings u) k)) (λ j inside e.
          let lu : u < length rings = omega (arith, l, in_range) in
          let same_half : half_at (ring_at rings u) k ≡ half_at (ring_at rings v) j = twin_once (half_at (ring_at rings u) k) (half_at (ring_at rings v) j) e in
          let u_is : (piece_at first (half_at (ring_at rings u) k)).0 ≡ u = out.tails u k lu m in
          let v_is : (piece_at first (half_at (ring_at rings v) j)).0 ≡ v = out.tails v j in_range inside in
          let equal : u ≡ v = sym u_is ∙ ap (λ (h : ℕ). (piece_at first h).0) same_half ∙ v_is in
          omega (arith, equal, l))

      pub lead_more : LeadRound new rings (v + 1)
      lead_more = record {
        led = λ u l. elim (below_or u v l) [
          | inl m ↦ record {
            on = λ k w. elsewhere u k m (omega (arith, w)) ∙ (p.led u m).on k w;
            round = λ w. elsewhere u (length (ring_at rings u) - 1) m (omega (arith, w)) ∙ (p.led u m).round w;
          }
          | inr e ↦ subst (λ (w : ℕ). LeadsRound new (ring_at rings w) (length (ring_at rings w))) (sym e) here
        ];
        turning = λ h l far.
            let at : piece_at new h ≡ piece_at first h = ap (λ (ps : List (ℕ × ℕ)). get_or ps h (0, 0)) same ∙ same_piece h in
            let high : v + 1 ≤ (piece_at first h).1 = subst (λ (q : ℕ × ℕ). v + 1 ≤ q.1) at far in
            others h (λ k inside e.
            let low : (piece_at first h).1 ≡ v = ap (λ (g : ℕ). (piece_at first g).1) e ∙ head_of v k in_range inside in
            omega (arith, low, high))
            ∙ p.turning h (omega (arith, l, as_many'))
            (let old_at : (piece_at old h).1 ≡ (piece_at first h).1 = ap (λ (q : ℕ × ℕ). q.1) (same_piece h) in omega (arith, old_at, high));
      }
