use Rattle.std.proofs.Common.{◌≡◌, ◌∙◌, ap, sym, refl, ℕ, List, [], ◌∷◌, ◌++◌, ◌<◌, ◌≤◌, ◌+◌, ◌^◌, length, Some, None, Option, arith, inl, inr, length-append}
use Rattle.std.specs.Prelude.{slice_index_or}
use Rattle.std.proofs.lemmas.List.{get_or_default, get_or_append_left}
use Rattle.std.proofs.Math.Seq.{get_or-append_seam}
use Rattle.std.proofs.lemmas.Bool.{cases_lt}
use Rattle.flat_fold.specs.declared.motion.Motion.{Motion}
use Rattle.flat_fold.specs.declared.levels.Reached.{Reached}
use Rattle.algebra.specs.OrderedField.{OrderedField}
use Rattle.flat_fold.specs.Motions.{identity}
use Rattle.flat_fold.specs.Rounds.{at, map_of}
use Rattle.flat_fold.proofs.levels.kept_maps.Goals as goal

-- one more map
one_more : {A : Type 0} (reached : List (Option (Reached A))) (maps : List (Motion A)) (f : ℕ) (m : Motion A) → length maps ≡ f → map_of (at reached f) ≡ Some m
    → ((g : ℕ) (d : Motion A) → g < f → map_of (at reached g) ≡ Some (slice_index_or maps g d)) → (g : ℕ) (d : Motion A) → g < f + 1 → map_of (at reached g) ≡ Some (slice_index_or (maps ++ m ∷ []) g d)
one_more {A} reached maps f m long here each g d less =
    elim (cases_lt g f) [
      | inl before ↦ (let within : g < length maps = omega (arith, before, long) in each g d before ∙ ap (λ (x : Motion A). Some x) (sym (get_or_append_left maps (m ∷ []) d g within)))
      | inr after ↦ (let same : g ≡ length maps = omega (arith, less, after, long) in
          ap (λ (k : ℕ). map_of (at reached k)) (same ∙ long) ∙ here ∙ ap (λ (x : Motion A). Some x) (sym (ap (λ (k : ℕ). slice_index_or (maps ++ m ∷ []) k d) same ∙ get_or-append_seam maps m [] d)))
    ]

has_map : {A : Type 0} (F : OrderedField A) (reached : List (Option (Reached A))) (maps : List (Motion A)) (f : ℕ) → ((d : Motion A) → map_of (at reached f) ≡ Some (slice_index_or maps f d)) → ¬ (map_of (at reached f) ≡ None)
has_map F reached maps f each none = let some : map_of (at reached f) ≡ Some (slice_index_or maps f (identity F)) = each (identity F) in cc

pub loop-f-init : goal.loop-f-init
loop-f-init g c = record { long = ap (λ (xs : List (Motion g.row.N.Denot)). length xs) c.new-maps.ensures; each = λ f d less. absurd (omega arith) }

pub offset_bounds-reached-f : goal.offset_bounds-reached-f
offset_bounds-reached-f g c = let more : c.loop-f.f < length c.args.reached.now = c.loop-f-test.true in omega (arith, more)

pub bounds-reached-f : goal.bounds-reached-f
bounds-reached-f g c = c.loop-f-test.true

pub overflow_cast-result : goal.overflow_cast-result
overflow_cast-result g c =
    let more : c.loop-f.f < length c.args.reached.now = c.loop-f-test.true in
    let few : length c.args.reached.now < 2 ^ 31 = c.requires in
    omega (arith, more, few)

pub returns-in-None : goal.returns-in-None
returns-in-None g c = record {
  within = c.loop-f-test.true;
  none = ap (λ (o : Option (Reached g.row.N.Denot)). map_of o) (get_or_default c.args.reached.now c.loop-f.f None c.index-reached-f.result c.loop-f-test.true ∙ sym c.index-reached-f.is) ∙ sym c.in-None.ensures;
  earlier = λ h less none. has_map g.N.Exact.numbers.field c.args.reached.now c.loop-f.maps h (λ d. c.loop-f.invariant.each h d less) none;
}

pub same-maps : goal.same-maps
same-maps g c = refl

pub loop-f-preserved : goal.loop-f-preserved
loop-f-preserved g c =
    let here : map_of (at c.args.reached.now c.loop-f.f) ≡ Some c.in-Some.map
    = ap (λ (o : Option (Reached g.row.N.Denot)). map_of o) (get_or_default c.args.reached.now c.loop-f.f None c.index-reached-f.result c.loop-f-test.true ∙ sym c.index-reached-f.is) ∙ sym c.in-Some.ensures in
    let pushed : c.push.new.self ≡ c.loop-f.maps ++ c.in-Some.map ∷ [] = c.in-Ok.ensures.ok in
    let long : length c.loop-f.maps ≡ c.loop-f.f = c.loop-f.invariant.long in
    let longer : length (c.loop-f.maps ++ c.in-Some.map ∷ []) ≡ length c.loop-f.maps + 1 = length-append c.loop-f.maps (c.in-Some.map ∷ []) in
    record {
      long = ap (λ (xs : List (Motion g.row.N.Denot)). length xs) pushed ∙ longer ∙ ap (λ (k : ℕ). k + 1) long;
      each = λ h d less. one_more c.args.reached.now c.loop-f.maps c.loop-f.f c.in-Some.map long here c.loop-f.invariant.each h d less
          ∙ ap (λ (xs : List (Motion g.row.N.Denot)). Some (slice_index_or xs h d)) (sym pushed);
    }

pub returns : goal.returns
returns g c =
    let most : c.loop-f.f ≤ length c.args.reached.now = c.loop-f.auto.f-end in
    let least : length c.args.reached.now ≤ c.loop-f.f = c.loop-f-test.false in
    let long : length c.loop-f.maps ≡ c.loop-f.f = c.loop-f.invariant.long in
    record { long = omega (arith, most, least, long); each = λ f d less. c.loop-f.invariant.each f d (omega (arith, less, least)) }
