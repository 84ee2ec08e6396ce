use Rattle.std.proofs.Common.{◌≡◌, ℕ, false, refl, sym}
use Rattle.std.specs.Ordering.{is_eq, nat_cmp}
use Rattle.std.specs.declared.cmp.Ordering.{Ordering}
use Rattle.std.specs.declared.cmp.Ordering.TheVariants.{Less, Equal, Greater}
use Rattle.std.proofs.lemmas.Map.Lookups.{exact_pairs, exact_unsigned}
use Rattle.arrangement.specs.Covers.{piece_order}
use Rattle.arrangement.proofs.covering.cover_piece.Goals as goal

not_at : (p q : ℕ × ℕ) (o : Ordering) → piece_order p q ≡ o → ¬ (q ≡ p) → is_eq o ≡ false
not_at p q Less e n = refl
not_at p q Equal e n = absurd (n (sym (exact_pairs nat_cmp nat_cmp exact_unsigned exact_unsigned p q e)))
not_at p q Greater e n = refl

pub returns-clause-others : goal.returns-clause-others
returns-clause-others c = λ q n. c.in_ok-insert.ensures.updates.2 q (not_at c.args.piece q (piece_order c.args.piece q) refl n)
