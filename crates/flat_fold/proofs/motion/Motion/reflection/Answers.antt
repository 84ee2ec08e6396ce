use Rattle.std.proofs.Common.{◌≡◌, ◌∙◌, ap}
use Rattle.std.specs.declared.cmp.Ordering.TheVariants.{Equal, Greater}
use Rattle.flat_fold.specs.Motions.{norm}
use Rattle.flat_fold.specs.Operations.{reflecting}
use Rattle.flat_fold.proofs.Chains.{first_overflows, rest_overflows, refused, goes_on, comes_to}
use Rattle.algebra.specs.OrderedField.{OrderedField}
use Rattle.scaled_plane.specs.declared.point.Pair.{Pair}
use Rattle.flat_fold.proofs.MotionLaws.{norm_positive}
use Rattle.flat_fold.specs.Computed.{exact}
use Rattle.flat_fold.proofs.OperationLaws.{reflecting-value}
use Rattle.flat_fold.proofs.motion.Motion.reflection.Goals as goal

-- the square of the length isn't zero
not_zero : {A : Type 0} (F : OrderedField A) (a b : Pair A) → ¬ (a ≡ b) → (u v uu vv n : A) → u ≡ F.sub b.x a.x → v ≡ F.sub b.y a.y → uu ≡ F.mul u u → vv ≡ F.mul v v → n ≡ F.add uu vv
    → ¬ (F.sign n ≡ Equal)
not_zero F a b differ u v uu vv n eu ev euu evv en z =
    let positive : F.sign (norm F (F.sub b.x a.x) (F.sub b.y a.y)) ≡ Greater = norm_positive F a b differ in
    let same : n ≡ norm F (F.sub b.x a.x) (F.sub b.y a.y) = cc in
    let n_positive : F.sign n ≡ Greater = ap F.sign same ∙ positive in
    cc

pub returns-in_err-u : goal.returns-in_err-u
unfolding reflecting
returns-in_err-u g c =
    comes_to _ (reflecting (exact g.N.Exact.numbers) c.args.a c.args.b) (reflecting-value (exact g.N.Exact.numbers) c.args.a c.args.b)
    (refused c.from_residual.result _ c.from_residual.ensures.0 (first_overflows _ _ c.in_err-u.ensures.answer))

pub returns-in_err-v : goal.returns-in_err-v
unfolding reflecting
returns-in_err-v g c =
    comes_to _ (reflecting (exact g.N.Exact.numbers) c.args.a c.args.b) (reflecting-value (exact g.N.Exact.numbers) c.args.a c.args.b)
    (refused c.from_residual-in_err-v.result _ c.from_residual-in_err-v.ensures.0 (rest_overflows _ _ c.in_ok-u.ensures.answer (first_overflows _ _ c.in_err-v.ensures.answer)))

pub returns-in_err-uu : goal.returns-in_err-uu
unfolding reflecting
returns-in_err-uu g c =
    comes_to _ (reflecting (exact g.N.Exact.numbers) c.args.a c.args.b) (reflecting-value (exact g.N.Exact.numbers) c.args.a c.args.b)
    (refused c.from_residual-in_err-uu.result _ c.from_residual-in_err-uu.ensures.0 (rest_overflows _ _ c.in_ok-u.ensures.answer (rest_overflows _ _ c.in_ok-v.ensures.answer (first_overflows _ _ c.in_err-uu.ensures.answer))))

pub returns-in_err-vv : goal.returns-in_err-vv
unfolding reflecting
returns-in_err-vv g c =
    comes_to _ (reflecting (exact g.N.Exact.numbers) c.args.a c.args.b) (reflecting-value (exact g.N.Exact.numbers) c.args.a c.args.b)
    (refused c.from_residual-in_err-vv.result _ c.from_residual-in_err-vv.ensures.0 (rest_overflows _ _ c.in_ok-u.ensures.answer (rest_overflows _ _ c.in_ok-v.ensures.answer (rest_overflows _ _ c.in_ok-uu.ensures.answer (first_overflows _ _ c.in_err-vv.ensures.answer)))))

pub returns-in_err-n : goal.returns-in_err-n
unfolding reflecting
returns-in_err-n g c =
    comes_to _ (reflecting (exact g.N.Exact.numbers) c.args.a c.args.b) (reflecting-value (exact g.N.Exact.numbers) c.args.a c.args.b)
    (refused c.from_residual-in_err-n.result _ c.from_residual-in_err-n.ensures.0 (rest_overflows _ _ c.in_ok-u.ensures.answer (rest_overflows _ _ c.in_ok-v.ensures.answer (rest_overflows _ _ c.in_ok-uu.ensures.answer (rest_overflows _ _ c.in_ok-vv.ensures.answer (first_overflows _ _ c.in_err-n.ensures.answer))))))

pub returns-in_err-k : goal.returns-in_err-k
unfolding reflecting
returns-in_err-k g c =
    comes_to _ (reflecting (exact g.N.Exact.numbers) c.args.a c.args.b) (reflecting-value (exact g.N.Exact.numbers) c.args.a c.args.b)
    (refused c.from_residual-in_err-k.result _ c.from_residual-in_err-k.ensures.0 (rest_overflows _ _ c.in_ok-u.ensures.answer (rest_overflows _ _ c.in_ok-v.ensures.answer (rest_overflows _ _ c.in_ok-uu.ensures.answer (rest_overflows _ _ c.in_ok-vv.ensures.answer (rest_overflows _ _ c.in_ok-n.ensures.answer (first_overflows _ _ c.in_err-k.ensures.answer)))))))

pub returns-in_err-c : goal.returns-in_err-c
unfolding reflecting
returns-in_err-c g c =
    comes_to _ (reflecting (exact g.N.Exact.numbers) c.args.a c.args.b) (reflecting-value (exact g.N.Exact.numbers) c.args.a c.args.b)
    (refused c.from_residual-in_err-c.result _ c.from_residual-in_err-c.ensures.0 (rest_overflows _ _ c.in_ok-u.ensures.answer (rest_overflows _ _ c.in_ok-v.ensures.answer (rest_overflows _ _ c.in_ok-uu.ensures.answer (rest_overflows _ _ c.in_ok-vv.ensures.answer (rest_overflows _ _ c.in_ok-n.ensures.answer (rest_overflows _ _ c.in_ok-k.ensures.answer (first_overflows _ _ c.in_err-c.ensures.answer))))))))

pub returns-in_err-uv : goal.returns-in_err-uv
unfolding reflecting
returns-in_err-uv g c =
    comes_to _ (reflecting (exact g.N.Exact.numbers) c.args.a c.args.b) (reflecting-value (exact g.N.Exact.numbers) c.args.a c.args.b)
    (refused c.from_residual-in_err-uv.result _ c.from_residual-in_err-uv.ensures.0 (rest_overflows _ _ c.in_ok-u.ensures.answer (rest_overflows _ _ c.in_ok-v.ensures.answer (rest_overflows _ _ c.in_ok-uu.ensures.answer (rest_overflows _ _ c.in_ok-vv.ensures.answer (rest_overflows _ _ c.in_ok-n.ensures.answer (rest_overflows _ _ c.in_ok-k.ensures.answer (rest_overflows _ _ c.in_ok-c.ensures.answer (first_overflows _ _ c.in_err-uv.ensures.answer)))))))))

pub returns-in_err-w : goal.returns-in_err-w
unfolding reflecting
returns-in_err-w g c =
    comes_to _ (reflecting (exact g.N.Exact.numbers) c.args.a c.args.b) (reflecting-value (exact g.N.Exact.numbers) c.args.a c.args.b)
    (refused c.from_residual-in_err-w.result _ c.from_residual-in_err-w.ensures.0 (rest_overflows _ _ c.in_ok-u.ensures.answer (rest_overflows _ _ c.in_ok-v.ensures.answer (rest_overflows _ _ c.in_ok-uu.ensures.answer (rest_overflows _ _ c.in_ok-vv.ensures.answer (rest_overflows _ _ c.in_ok-n.ensures.answer (rest_overflows _ _ c.in_ok-k.ensures.answer (rest_overflows _ _ c.in_ok-c.ensures.answer (rest_overflows _ _ c.in_ok-uv.ensures.answer (first_overflows _ _ c.in_err-w.ensures.answer))))))))))

pub returns-in_err-s : goal.returns-in_err-s
unfolding reflecting
returns-in_err-s g c =
    comes_to _ (reflecting (exact g.N.Exact.numbers) c.args.a c.args.b) (reflecting-value (exact g.N.Exact.numbers) c.args.a c.args.b)
    (refused c.from_residual-in_err-s.result _ c.from_residual-in_err-s.ensures.0 (rest_overflows _ _ c.in_ok-u.ensures.answer (rest_overflows _ _ c.in_ok-v.ensures.answer (rest_overflows _ _ c.in_ok-uu.ensures.answer (rest_overflows _ _ c.in_ok-vv.ensures.answer (rest_overflows _ _ c.in_ok-n.ensures.answer (rest_overflows _ _ c.in_ok-k.ensures.answer (rest_overflows _ _ c.in_ok-c.ensures.answer (rest_overflows _ _ c.in_ok-uv.ensures.answer (rest_overflows _ _ c.in_ok-w.ensures.answer (first_overflows _ _ c.in_err-s.ensures.answer)))))))))))

pub returns : goal.returns
unfolding reflecting
returns g c = comes_to _ (reflecting (exact g.N.Exact.numbers) c.args.a c.args.b) (reflecting-value (exact g.N.Exact.numbers) c.args.a c.args.b)
    (goes_on _ _ c.mirror.result c.in_ok-u.ensures.answer (goes_on _ _ c.mirror.result c.in_ok-v.ensures.answer (goes_on _ _ c.mirror.result c.in_ok-uu.ensures.answer (goes_on _ _ c.mirror.result c.in_ok-vv.ensures.answer (goes_on _ _ c.mirror.result c.in_ok-n.ensures.answer (goes_on _ _ c.mirror.result c.in_ok-k.ensures.answer (goes_on _ _ c.mirror.result c.in_ok-c.ensures.answer (goes_on _ _ c.mirror.result c.in_ok-uv.ensures.answer (goes_on _ _ c.mirror.result c.in_ok-w.ensures.answer (goes_on _ _ c.mirror.result c.in_ok-s.ensures.answer (c.mirror.ensures)))))))))))

pub div-requires : goal.div-requires
div-requires g c z = not_zero g.N.Exact.numbers.field c.args.a c.args.b c.requires c.in_ok-u.u c.in_ok-v.v c.in_ok-uu.uu c.in_ok-vv.vv c.in_ok-n.n c.in_ok-u.ensures.answer.1 c.in_ok-v.ensures.answer.1 c.in_ok-uu.ensures.answer.1 c.in_ok-vv.ensures.answer.1 c.in_ok-n.ensures.answer.1 z

pub div-requires-2 : goal.div-requires-2
div-requires-2 g c z = not_zero g.N.Exact.numbers.field c.args.a c.args.b c.requires c.in_ok-u.u c.in_ok-v.v c.in_ok-uu.uu c.in_ok-vv.vv c.in_ok-n.n c.in_ok-u.ensures.answer.1 c.in_ok-v.ensures.answer.1 c.in_ok-uu.ensures.answer.1 c.in_ok-vv.ensures.answer.1 c.in_ok-n.ensures.answer.1 z
