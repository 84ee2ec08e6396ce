-- What reads of an edge and its ends give, and what crossing it both ways comes to.
use Rattle.std.proofs.Common.{◌≡◌, ◌∙◌, ap, subst, ℕ, List, ◌<◌, ◌≤◌, ◌+◌, length, get_or, Bool, true, false, ◌||◌, if◌then◌else◌, Option, pos, arith}
use Rattle.std.proofs.lemmas.List.{get_or_default}
use Rattle.algebra.specs.OrderedField.{OrderedField}
use Rattle.fold_base.specs.declared.letter.Letter.{Letter}
use Rattle.scaled_plane.specs.declared.point.Pair.{Pair}
use Rattle.flat_fold.specs.declared.levels.Reached.{Reached}
use Rattle.flat_fold.specs.Computed.{ComputedField}
use Rattle.flat_fold.specs.Folding.{point}
use Rattle.flat_fold.specs.Rounds.{Crosses}

pub read_point : {A : Type 0} (F : OrderedField A) (coords cs : List (Pair A)) (i k : ℕ) (x : Pair A) → x ≡ get_or cs i x → cs ≡ coords → i ≡ k → k < length coords → x ≡ point F coords k
read_point F coords cs i k x is e f within =
    is ∙ ap (λ (s : List (Pair _)). get_or s i x) e ∙ ap (λ (j : ℕ). get_or coords j x) f ∙ get_or_default coords k x (record { x = F.int (pos 0); y = F.int (pos 0) }) within

pub as_crosses : {A : Type 0} (K : ComputedField A) (n f g : ℕ) (old new : List (Option (Reached A))) (t : Bool) (l k : Letter) (a c b d : Pair A) → l ≡ k → a ≡ c → b ≡ d
    → Crosses K n l a b f g old new t → Crosses K n k c d f g old new t
as_crosses {A} K n f g old new t l k a c b d el ea eb h =
    subst (λ (m : Letter). Crosses K n m c d f g old new t) el (subst (λ (p : Pair A). Crosses K n l p d f g old new t) ea (subst (λ (p : Pair A). Crosses K n l a p f g old new t) eb h))

pub grew_at : (t u : Bool) (o m w : ℕ) → m + (if t then 1 else 0) ≡ o → w + (if u then 1 else 0) ≡ m → (if t || u then 1 else 0) + w ≤ o
grew_at false false o m w h k = omega arith
grew_at false true o m w h k = omega arith
grew_at true false o m w h k = omega arith
grew_at true true o m w h k = omega arith

pub still_at : {A : Type 0} (K : ComputedField A) (n f g i j : ℕ) (l : Letter) (a b : Pair A) (old mid new : List (Option (Reached A))) (t u : Bool) → t || u ≡ false
    → Crosses K n l a b f g old mid t → Crosses K n l a b i j mid new u → new ≡ old
still_at K n f g i j l a b old mid new false false e h k = k.0 ∙ h.0
still_at K n f g i j l a b old mid new false true e h k = absurd (cc)
still_at K n f g i j l a b old mid new true u e h k = absurd (cc)
