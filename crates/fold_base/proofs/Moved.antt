-- calls one after another
use Rattle.std.proofs.Common.{◌≡◌, ℕ, ◌+◌, ◌≤◌, List, ◌++◌, length, take, drop, None, Some, sym, ◌∙◌, ap, append_assoc}
use Rattle.std.specs.declared.option.Option.{Option}
use Rattle.std.proofs.lemmas.List.{take_at, drop-drop, take-append-drop, length-take-le}
use Rattle.fold_base.specs.Outside.{Gives, Gains}

pub gives_more : (a b c : Option (List ℕ)) (x y : List ℕ) → Gives a b x → Gives b c y → Gives a c (x ++ y)
gives_more None None None x y p q = tt
gives_more None None (Some c) x y p q = absurd q
gives_more None (Some b) c x y p q = absurd p
gives_more (Some a) None c x y p q = absurd p
gives_more (Some a) (Some b) None x y p q = absurd q
gives_more (Some a) (Some b) (Some c) x y p q = p ∙ ap (λ z. x ++ z) q ∙ sym (append_assoc x y c)

pub gains_more : (a b c : Option (List ℕ)) (x y : List ℕ) → Gains a b x → Gains b c y → Gains a c (x ++ y)
gains_more None None None x y p q = tt
gains_more None None (Some c) x y p q = absurd q
gains_more None (Some b) c x y p q = absurd p
gains_more (Some a) None c x y p q = absurd p
gains_more (Some a) (Some b) None x y p q = absurd q
gains_more (Some a) (Some b) (Some c) x y p q = q ∙ ap (λ z. z ++ y) p ∙ append_assoc a x y

-- the front of what is left, copied to the front of a room
pub copied_front : (bytes room copied : List ℕ) (at n : ℕ) → n ≤ length (drop at bytes) → copied ≡ take n (drop at bytes) → drop at bytes ≡ take n (copied ++ drop n room) ++ drop (at + n) bytes
copied_front bytes room copied at n h e =
    let long : length copied ≡ n = ap length e ∙ length-take-le n (drop at bytes) h in
    sym (take-append-drop n (drop at bytes)) ∙ ap (λ z. z ++ drop n (drop at bytes)) (sym e ∙ sym (take_at copied (drop n room) n long)) ∙ ap (λ z. take n (copied ++ drop n room) ++ z) (drop-drop n at bytes)
