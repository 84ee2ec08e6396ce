use Rattle.std.proofs.Common.{◌≡◌, ◌∙◌, ap, sym, subst, refl, inl, inr, Some, None}
use Rattle.std.specs.BTreeMap.{get}
use Rattle.flat_fold.specs.Numbers.{Puts, place_key, place_order, PlaceKey}
use Rattle.flat_fold.proofs.Puts.{puts, place_exact}
use Rattle.flat_fold.proofs.images.number_of.Goals as goal

pub returns-in-Some : goal.returns-in-Some
returns-in-Some g c =
    let found : get place_order c.args.known.now c.place_key-key.result ≡ Some c.in-Some.number = cc (c.get.ensures.value, c.copied-found.ensures, c.in-Some.is) in
    inl (record {
      found = subst (λ (k : PlaceKey). get place_order c.args.known.now k ≡ Some c.in-Some.number) c.place_key-key.ensures found;
      same_known = λ q. refl;
      same_origins = refl;
      same_images = refl;
    })

pub returns-in_ok-insert-in-None : goal.returns-in_ok-insert-in-None
returns-in_ok-insert-in-None g c =
    let found : get place_order c.args.known.now c.place_key-key.result ≡ None = cc (c.get.ensures.value, c.copied-found.ensures, c.in-None.is) in
    inr (record {
      absent = subst (λ (k : PlaceKey). get place_order c.args.known.now k ≡ None) c.place_key-key.ensures found;
      number = c.len-number.ensures;
      put = subst (λ (k : PlaceKey). Puts place_order (get place_order c.args.known.now) (get place_order c.insert.new.self) k c.len-number.result) c.place_key-key.ensures
          (puts place_order place_exact (get place_order c.args.known.now) (get place_order c.insert.new.self) c.place_key-key.result c.len-number.result c.in_ok-insert-in-None.ensures.updates.1 c.in_ok-insert-in-None.ensures.updates.2);
      more_origins = c.in_ok-push-in-None-2.ensures.ok;
      more_images = c.in_ok-push-in-None.ensures.ok;
    })
