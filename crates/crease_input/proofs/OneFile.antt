-- a drawing has one file, and there is one
use Rattle.std.proofs.Common.{◌≡◌, ◌∙◌, ◌⊎◌, inl, inr, refl, sym, ap, ℕ, ℤ, pos, ◌*ℤ◌, Bool, true, false, IsTrue, List, [], ◌∷◌, ◌++◌, map}
use Rattle.std.specs.Prelude.{◌↔◌, Option}
use Rattle.std.specs.List.{AllByRecursion, AllZip}
use Rattle.std.specs.Ordering.{int_eq}
use Rattle.std.proofs.lemmas.Bool.{cases_Bool}
use Rattle.std.proofs.lemmas.Bool.Decides.{Decides-int_eq, same_from_decides}
use Rattle.algebra.specs.LowestTerms.{Parts}
use Rattle.cp_lines.specs.declared.line.CpLine.{CpLine}
use Rattle.fold_keys.specs.Writable.{file_of}
use Rattle.fold_keys.specs.declared.value.Entry.{Entry}
use Rattle.fold_keys.specs.declared.value.FaceOrder.{FaceOrder}
use Rattle.fold_keys.specs.declared.value.FoldFile.{FoldFile}
use Rattle.number_rules.specs.Nine.{IsNine, IsExactlyNine, IsNineText, billion, nine_text}
use Rattle.scaled_plane.specs.declared.drawing.Ends.{Ends}
use Rattle.scaled_plane.specs.declared.drawing.Face.{Face}
use Rattle.scaled_plane.specs.declared.point.Pair.{Pair}
use Rattle.crease_input.specs.Files.{AreDrawingLines, line_between, IsNineDecimal, AreNineDecimals, AreNineTexts, AreVertexEntries, IsDrawingFile, head_entries, vertex_entries, edge_entries, face_entries, order_entries}

test_of : {P : Type 0} → P ⊎ ¬ P → (b : Bool) × (IsTrue b ↔ P)
test_of (inl p) = (true, ((λ t. p), (λ q. refl)))
test_of (inr n) = (false, ((λ t. absurd (cc)), (λ p. absurd (n p))))

same_or_not : (x y : ℤ) → (x ≡ y) ⊎ ¬ (x ≡ y)
same_or_not x y = elim (cases_Bool (int_eq x y)) [
  | inl same ↦ inl ((Decides-int_eq x y).0 same)
  | inr other ↦ inr (λ e. let t : int_eq x y ≡ true = (Decides-int_eq x y).1 e in let f : true ≡ false = sym t ∙ other in cc)
]

module _ {N : Type 0} (k : ℕ) (parts : N → Parts) (once : (x : N) (m n : ℤ) → IsNine k (parts x) m → IsNine k (parts x) n → m ≡ n)
    (exact : (x : N) (m : ℤ) → IsExactlyNine (parts x) m → IsNine k (parts x) m) (some : (x : N) → (m : ℤ) × IsNine k (parts x) m) where
  text_once : (x : N) (s t : List ℕ) → IsNineText k (parts x) s → IsNineText k (parts x) t → s ≡ t
  text_once x s t (m, (is, s_is)) (n, (has, t_is)) = s_is ∙ ap nine_text (once x m n is has) ∙ sym t_is

  pub texts_once : (coords : List (Pair N)) (ss ts : List (List ℕ × List ℕ)) → AllZip (AreNineTexts k parts) coords ss → AllZip (AreNineTexts k parts) coords ts → ss ≡ ts
  texts_once [] [] [] are has = refl
  texts_once [] [] (t ∷ ts) are has = absurd has
  texts_once [] (s ∷ ss) ts are has = absurd are
  texts_once (p ∷ ps) [] ts are has = absurd are
  texts_once (p ∷ ps) (s ∷ ss) [] are has = absurd has
  texts_once (p ∷ ps) (s ∷ ss) (t ∷ ts) are has =
      let x = text_once p.x s.0 t.0 are.0.0 has.0.0 in
      let y = text_once p.y s.1 t.1 are.0.1 has.0.1 in
      let rest = texts_once ps ss ts are.1 has.1 in
      λ i. (x i, y i) ∷ rest i

  vertices_once : (coords : List (Pair N)) (es fs : List Entry) → AreVertexEntries k parts coords es → AreVertexEntries k parts coords fs → es ≡ fs
  vertices_once coords es fs (ss, nine, are, test, es_are) (ts, also_nine, have, also_test, fs_are) =
      let texts : ss ≡ ts = texts_once coords ss ts are have in
      let tests : nine ≡ also_nine = same_from_decides nine also_nine test also_test in
      es_are ∙ (λ i. vertex_entries k parts (texts i) (tests i) coords) ∙ sym fs_are

  pub file_once : (class : List ℕ) (ends : Ends N) (faces : Option (List Face)) (orders : Option (List FaceOrder)) (f g : FoldFile)
      → IsDrawingFile k parts class ends faces orders f → IsDrawingFile k parts class ends faces orders g → f ≡ g
  file_once class ends faces orders f g (es, are, f_is) (fs, have, g_is) =
      f_is ∙ ap (λ (vs : List Entry). file_of (head_entries class ++ vs ++ edge_entries ends.edges ++ face_entries faces ++ order_entries orders)) (vertices_once ends.coords es fs are have) ∙ sym g_is

  -- ---- there is one

  nine_or_not : (x : N) → IsNineDecimal parts x ⊎ ¬ IsNineDecimal parts x
  nine_or_not x = of_nine (some x)
    where
      of_nine : (m : ℤ) × IsNine k (parts x) m → IsNineDecimal parts x ⊎ ¬ IsNineDecimal parts x
      of_nine (m, is) = elim (same_or_not (parts x).b (pos 0)) [
        | inr irrational ↦ inr (λ n. irrational n.1.rational)
        | inl rational ↦ elim (same_or_not (pos billion *ℤ (parts x).a) (m *ℤ (parts x).q)) [
          | inl same ↦ inl (m, record { rational = rational; same = same })
          | inr other ↦ inr (λ n. other (n.1.same ∙ ap (λ (t : ℤ). t *ℤ (parts x).q) (once x n.0 m (exact x n.0 n.1) is)))
        ]
      ]

  point_or_not : (p : Pair N) → AreNineDecimals parts p ⊎ ¬ AreNineDecimals parts p
  point_or_not p = elim (nine_or_not p.x) [
    | inr other ↦ inr (λ are. other are.0)
    | inl x ↦ elim (nine_or_not p.y) [ inr other ↦ inr (λ are. other are.1) | inl y ↦ inl (x, y) ]
  ]

  all_or_not : (ps : List (Pair N)) → AllByRecursion (AreNineDecimals parts) ps ⊎ ¬ AllByRecursion (AreNineDecimals parts) ps
  all_or_not [] = inl tt
  all_or_not (p ∷ ps) = both (point_or_not p) (all_or_not ps)
    where
      both : AreNineDecimals parts p ⊎ ¬ AreNineDecimals parts p → AllByRecursion (AreNineDecimals parts) ps ⊎ ¬ AllByRecursion (AreNineDecimals parts) ps
          → AllByRecursion (AreNineDecimals parts) (p ∷ ps) ⊎ ¬ AllByRecursion (AreNineDecimals parts) (p ∷ ps)
      both (inl first) (inl others) = inl (first, others)
      both (inl first) (inr other) = inr (λ all. other all.1)
      both (inr other) rest = inr (λ all. other all.0)

  text_of : N → List ℕ
  text_of x = nine_text (some x).0

  is_text : (x : N) → IsNineText k (parts x) (text_of x)
  unfolding text_of
  is_text x = ((some x).0, ((some x).1, refl))

  pub some_texts : (ps : List (Pair N)) → (texts : List (List ℕ × List ℕ)) × AllZip (AreNineTexts k parts) ps texts
  some_texts [] = ([], tt)
  some_texts (p ∷ ps) =
      let rest = some_texts ps in
      ((text_of p.x, text_of p.y) ∷ rest.0, ((is_text p.x, is_text p.y), rest.1))

  pub some_file : (class : List ℕ) (ends : Ends N) (faces : Option (List Face)) (orders : Option (List FaceOrder)) → (f : FoldFile) × IsDrawingFile k parts class ends faces orders f
  some_file class ends faces orders =
      let texts = some_texts ends.coords in
      let nine = test_of (all_or_not ends.coords) in
      let vertices : List Entry = vertex_entries k parts texts.0 nine.0 ends.coords in (
        file_of (head_entries class ++ vertices ++ edge_entries ends.edges ++ face_entries faces ++ order_entries orders),
        (vertices, (texts.0, nine.0, texts.1, nine.1, refl), refl),
      )

  -- ---- as CP lines

  pub lines_once : (ends : Ends N) (v w : List CpLine) → AreDrawingLines k parts ends v → AreDrawingLines k parts ends w → v ≡ w
  lines_once ends v w (ss, are, v_is) (ts, have, w_is) =
      v_is ∙ ap (λ (texts : List (List ℕ × List ℕ)). map (line_between k parts texts) ends.edges) (texts_once ends.coords ss ts are have) ∙ sym w_is

  pub some_lines : (ends : Ends N) → (v : List CpLine) × AreDrawingLines k parts ends v
  some_lines ends =
      let texts = some_texts ends.coords in
      (map (line_between k parts texts.0) ends.edges, (texts.0, texts.1, refl))
