use Rattle.pl_owned.proofs.OneOrder.{all_same, moved, not_moved}
use Rattle.pl_owned.proofs.in_any_order.have_same.Goals as goal

pub returns-then-eq-clause-yes : goal.returns-then-eq-clause-yes
returns-then-eq-clause-yes c is =
    all_same c.args.slots.now c.args.others.now c.eq.result c.eq.ensures c.if-eq.true

pub returns-clause-yes : goal.returns-clause-yes
returns-clause-yes c =
    moved c.args.slots.now c.args.others.now c.as_slice.result.now c.as_slice-2.result.now c.eq-2.result
    c.eq-2.ensures (rw c.as_slice.ensures.value c.in_ok-slots.ensures.same)
    (rw c.as_slice-2.ensures.value c.in_ok-others.ensures.same)

pub returns-clause-no : goal.returns-clause-no
returns-clause-no c =
    not_moved c.args.slots.now c.args.others.now c.as_slice.result.now c.as_slice-2.result.now c.eq-2.result
    c.eq-2.ensures (rw c.as_slice.ensures.value c.in_ok-slots.ensures.same)
    (rw c.as_slice-2.ensures.value c.in_ok-others.ensures.same)
    (rw c.as_slice.ensures.value c.in_ok-slots.ensures.sorted)
    (rw c.as_slice-2.ensures.value c.in_ok-others.ensures.sorted)
