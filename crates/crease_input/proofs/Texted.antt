-- texts of coordinates, one point after the other
use Rattle.std.proofs.Common.{◌≡◌, ℕ, zero, suc, ◌+◌, ◌<◌, ◌≤◌, List, [], ◌∷◌, ◌++◌, map, length, take, get_or, refl, sym, ◌∙◌, ap, subst, arith}
use Rattle.std.specs.List.{AllByRecursion, AllZip}
use Rattle.std.proofs.lemmas.List.{take_more, take_all, map-append}
use Rattle.algebra.specs.LowestTerms.{Parts}
use Rattle.scaled_plane.specs.declared.point.Pair.{Pair}
use Rattle.crease_input.specs.Files.{AreNineTexts}
use Rattle.crease_input.proofs.Gathering.{zip_more}

-- ---- all elements of a front

all_more : {A : Type 0} (P : A → Type 0) (xs : List A) (x : A) → AllByRecursion P xs → P x
    → AllByRecursion P (xs ++ x ∷ [])
all_more P [] x all here = (here, tt)
all_more P (y ∷ ys) x all here = (all.0, all_more P ys x all.1 here)

pub all_taken : {A : Type 0} (P : A → Type 0) (xs : List A) (i : ℕ) (x : A) → i < length xs
    → x ≡ get_or xs i x → P x → AllByRecursion P (take i xs) → AllByRecursion P (take (i + 1) xs)
all_taken P xs i x below at here all =
    subst (AllByRecursion P) (ap (λ y. take i xs ++ y ∷ []) at ∙ sym (take_more xs i x below))
    (all_more P (take i xs) x all here)

pub all_at : {A : Type 0} (P : A → Type 0) (xs : List A) (i : ℕ) (d : A) → i < length xs
    → AllByRecursion P xs → P (get_or xs i d)
all_at P [] i d below all = absurd (omega (arith, below))
all_at P (x ∷ xs) zero d below all = all.0
all_at P (x ∷ xs) (suc i) d below all = all_at P xs i d (omega (arith, below)) all.1

-- ---- texts

module _ {N : Type 0} (k : ℕ) (parts : N → Parts) where
  -- each point has its two texts, in a list of their own
  pub record AreTexted (coords : List (Pair N)) (lists : List (List (List ℕ))) : Type 0 where
    pub texts : List (List ℕ × List ℕ)
    pub nine : AllZip (AreNineTexts k parts) coords texts
    pub paired : lists ≡ map (λ t. t.0 ∷ t.1 ∷ []) texts

  pub texted_none : AreTexted [] []
  texted_none = record { texts = []; nine = tt; paired = refl }

  pub texted_more : (coords : List (Pair N)) (i : ℕ) (point : Pair N) (old new : List (List (List ℕ)))
      (list : List (List ℕ)) → i < length coords → point ≡ get_or coords i point
      → (t : List ℕ × List ℕ) × AreNineTexts k parts point t × (list ≡ t.0 ∷ t.1 ∷ [])
      → new ≡ old ++ list ∷ [] → AreTexted (take i coords) old → AreTexted (take (i + 1) coords) new
  texted_more coords i point old new list below at here pushed are = record {
    texts = are.texts ++ here.0 ∷ [];
    nine = subst (λ ps. AllZip (AreNineTexts k parts) ps (are.texts ++ here.0 ∷ []))
        (ap (λ p. take i coords ++ p ∷ []) at ∙ sym (take_more coords i point below))
        (zip_more (AreNineTexts k parts) (take i coords) are.texts point here.0 are.nine here.1);
    paired = pushed ∙ (λ j. are.paired j ++ here.2 j ∷ [])
        ∙ sym (map-append (λ t. t.0 ∷ t.1 ∷ []) are.texts (here.0 ∷ []));
  }

  pub texted_all : (coords : List (Pair N)) (i : ℕ) (lists : List (List (List ℕ))) → length coords ≤ i
      → AreTexted (take i coords) lists → AreTexted coords lists
  texted_all coords i lists all are = subst (λ ps. AreTexted ps lists) (take_all i coords all) are
