use Rattle.std.proofs.Common.{◌≡◌, ◌∙◌, ◌<◌, ◌≤◌, List, ap, get_or, length, rules, set, subst, sym}
use Rattle.std.specs.List.{insert}
use Rattle.std.specs.List.Sorted.{IsNonDecreasingBy, IsPartitionPoint}
use Rattle.std.specs.Ordering.{nat_cmp, ordering_index}
use Rattle.std.specs.declared.cmp.Ordering.TheVariants.{Equal, Greater, Less}
use Rattle.std.proofs.lemmas.Cmp.{ranked}
use Rattle.std.proofs.lemmas.List.Sorted.{answers_always}
use Rattle.pl_base.specs.declared.view.View.{View}
use Rattle.pl_follow.proofs.Parted.{ascend}
use Rattle.pl_known.proofs.PutViews.{between_ids, ids_rise, put_between, put_over}
use Rattle.pl_known.proofs.views.put_view.Goals as goal

pub returns-in-Ok : goal.returns-in-Ok
returns-in-Ok c =
    let views = c.args.views.now.items in
    let new = c.args.new.now in
    let place = c.in-Ok.place in
    let same = c.deref.ensures.value in
    let at = c.in-Ok.ensures.position (λ (v : View). v.id.0) (answers_always _ _ _ (λ f a r g called. search rules)) in
    ap (set views place) c.in_ok-copy.ensures
    ∙ sym (put_over new views place (ascend views c.requires.order)
    (subst (λ (vs : List View). place < length vs) same c.in-Ok.ensures.bound)
    (λ d. ranked (get_or views place d).id.0 new.id.0 Equal
    (sym (subst (λ (vs : List View). nat_cmp (get_or vs place d).id.0 new.id.0 ≡ Equal) same (at d)))))

pub returns-in_ok-insert-in-Err : goal.returns-in_ok-insert-in-Err
returns-in_ok-insert-in-Err c =
    let views = c.args.views.now.items in
    let new = c.args.new.now in
    let place = c.in-Err.place in
    let same = c.deref.ensures.value in
    let at = c.in-Err.ensures.position (λ (v : View). v.id.0) (answers_always _ _ _ (λ f a r g called. search rules)) in
    let rise =
    subst (λ (vs : List View). IsNonDecreasingBy (λ (w : View). ordering_index (nat_cmp w.id.0 new.id.0)) vs) (sym same)
    (ids_rise new.id.0 views c.requires.order) in
    let parts =
    subst (λ (vs : List View). IsPartitionPoint (λ (w : View). nat_cmp w.id.0 new.id.0 ≡ Less)
    (λ (w : View). nat_cmp w.id.0 new.id.0 ≡ Greater) vs place) same (at rise) in
    c.in_ok-insert-in-Err.ensures.items ∙ ap (insert views place) c.in_ok-copy.ensures
    ∙ sym (put_between new views place (subst (λ (vs : List View). place ≤ length vs) same c.in-Err.ensures.bound)
    (between_ids views new.id.0 place parts))
