-- Vertices that are marked as the ends of the edges that were passed.
use Rattle.std.proofs.Common.{◌≡◌, ◌∙◌, ap, refl, sym, subst, ℕ, ◌<◌, ◌+◌, List, [], ◌∷◌, ◌++◌, Bool, true, false, inl, inr, ◌⊎◌, length, take, arith}
use Rattle.std.specs.Prelude.{Contains, slice_index_or, slice_set, replicate}
use Rattle.std.proofs.lemmas.List.{take_more, get_or_default, get_or-set_same, get_or-set_other, get_or-replicate, length-set, length-replicate}
use Rattle.std.proofs.lemmas.List.Elements.{Contains-append_left, Contains-push}
use Rattle.plane.proofs.First.{same_or_not}
use Rattle.plane.proofs.Members.{in_nil}
use Rattle.scaled_plane.specs.declared.drawing.Edge.{Edge}
use Rattle.scaled_plane.specs.Scaling.{IsFirstOf}
use Rattle.scaled_plane.specs.WellSet.{HasEnd}
use Rattle.arrangement.proofs.Looping.{in_more}
use Rattle.sheet_check.specs.Listed.{is_marked}
use Rattle.sheet_check.specs.Passed.{IsLoose}
use Rattle.sheet_check.specs.Used.{AreUsed, MarksEnds}

-- what the front that is one element longer has
in_then : {X : Type 0} (xs : List X) (i : ℕ) (x y : X) → i < length xs → x ≡ slice_index_or xs i x → Contains (take i xs) y → Contains (take (i + 1) xs) y
in_then xs i x y h e c = subst (λ zs. Contains zs y) (sym (take_more xs i x h)) (Contains-append_left (take i xs) (slice_index_or xs i x ∷ []) y c)

in_now : {X : Type 0} (xs : List X) (i : ℕ) (x : X) → i < length xs → x ≡ slice_index_or xs i x → Contains (take (i + 1) xs) x
in_now xs i x h e =
    subst (λ zs. Contains zs x) (sym (take_more xs i x h)) (subst (λ z. Contains (take i xs ++ z ∷ []) x) e (Contains-push (take i xs) x))

-- one mark more
module _ (marks : List Bool) (x : ℕ) where
  marked_before : (v : ℕ) → v < length marks → is_marked (slice_set marks x true) v ≡ true → (x ≡ v) ⊎ (is_marked marks v ≡ true)
  marked_before v within e = elim (same_or_not v x) [
    | inl here ↦ inl (sym here)
    | inr other ↦ inr (sym (get_or-set_other marks x v true false other) ∙ e)
  ]

  unmarked_before : (v : ℕ) → v < length marks → is_marked (slice_set marks x true) v ≡ false → ¬ (x ≡ v) × (is_marked marks v ≡ false)
  unmarked_before v within e = elim (same_or_not v x) [
    | inl here ↦
        let inside : x < length marks = omega (arith, within, here) in
        let on : is_marked (slice_set marks x true) v ≡ true
        = ap (λ (y : ℕ). is_marked (slice_set marks x true) y) here ∙ get_or-set_same marks x true false inside in
        absurd (cc)
    | inr other ↦ (λ same. other (sym same), sym (get_or-set_other marks x v true false other) ∙ e)
  ]

-- the marks of no edges
pub none_used : (count : ℕ) → AreUsed [] (replicate count false)
none_used count = record {
  used = λ v within e.
      let off : is_marked (replicate count false) v ≡ false = get_or-replicate count v false false (omega (arith, within, length-replicate count false)) in
      absurd (cc);
  loose = λ v within e edge there. absurd (in_nil edge there);
}

-- the marks of one edge more
module _ (edges : List Edge) (i : ℕ) (d : Edge) (old new : List Bool) (less : i < length edges) (marks : MarksEnds (slice_index_or edges i d) old new) where
  pub as_long : length new ≡ length old
  as_long =
      let e : Edge = slice_index_or edges i d in
      ap (λ (m : List Bool). length m) marks.marked ∙ length-set (slice_set old e.from true) e.to true ∙ length-set old e.from true

  pub used_more : AreUsed (take i edges) old → AreUsed (take (i + 1) edges) new
  used_more before =
      let e : Edge = slice_index_or edges i d in
      let is : e ≡ slice_index_or edges i e = sym (get_or_default edges i e d less) in
      let half : List Bool = slice_set old e.from true in
      let half_long : length half ≡ length old = length-set old e.from true in
      let long : length new ≡ length old = as_long in record {
        used = λ v within on. elim (marked_before half e.to v (omega (arith, within, long, half_long)) (subst (λ (m : List Bool). is_marked m v ≡ true) marks.marked on)) [
          | inl to ↦ (e, in_now edges i e less is, inr to)
          | inr then ↦ elim (marked_before old e.from v (omega (arith, within, long)) then) [
            | inl from ↦ (e, in_now edges i e less is, inl from)
            | inr earlier ↦ (let there = before.used v (omega (arith, within, long)) earlier in (there.0, in_then edges i e there.0 less is there.1, there.2))
          ]
        ];
        loose = λ v within off.
            let at_to = unmarked_before half e.to v (omega (arith, within, long, half_long)) (subst (λ (m : List Bool). is_marked m v ≡ false) marks.marked off) in
            let at_from = unmarked_before old e.from v (omega (arith, within, long)) at_to.1 in
            λ f there. elim (in_more edges i e f less is there) [
              | inl earlier ↦ before.loose v (omega (arith, within, long)) at_from.1 f earlier
              | inr here ↦ subst (λ (g : Edge). ¬ HasEnd g v) here (λ has. elim has [ inl from ↦ at_from.0 from | inr to ↦ at_to.0 to ])
            ];
      }

-- the first vertex with no mark is the first that is loose, and where each has one, none is loose
module _ (edges : List Edge) (marks : List Bool) (count : ℕ) (long : length marks ≡ count) (used : AreUsed edges marks) where
  not_loose : (v : ℕ) → v < length marks → is_marked marks v ≡ true → ¬ IsLoose edges v
  not_loose v within on loose = let end = used.used v within on in loose end.0 end.1 end.2

  pub none_loose : ((v : ℕ) → v < length marks → is_marked marks v ≡ true) → (v : ℕ) → v < count → ¬ IsLoose edges v
  none_loose all v less = let within : v < length marks = omega (arith, less, long) in not_loose v within (all v within)

  pub first_is_loose : (v : ℕ) → IsFirstOf (λ w. (w < length marks) × (is_marked marks w ≡ false)) v → IsFirstOf (λ w. (w < count) × IsLoose edges w) v
  first_is_loose v first =
      let within = first.0.0 in (
        (omega (arith, within, long), used.loose v within first.0.1),
        λ u less loose. at u less loose.1 (is_marked marks u) refl,
      )
    where
      at : (u : ℕ) → u < v → IsLoose edges u → (b : Bool) → is_marked marks u ≡ b → ⊥
      at u less loose true on = not_loose u (let within = first.0.0 in omega (arith, within, less)) on loose
      at u less loose false off = first.1 u less (let within = first.0.0 in omega (arith, within, less), off)
