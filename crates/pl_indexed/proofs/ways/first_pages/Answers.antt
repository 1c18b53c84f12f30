use Rattle.std.proofs.Common.{subst, sym}
use Rattle.std.specs.Option.{option_copied}
use Rattle.pl_base.specs.declared.view.View.{View}
use Rattle.pl_base.proofs.Walk.{ends}
use Rattle.pl_indexed.specs.Answer.{AreEnough}
use Rattle.pl_indexed.proofs.FirstPages.{all_suffice, enough_suffice}
use Rattle.pl_indexed.proofs.ViewsWalk.{Finds, begins, goes_further, here, known_here, no_view, stands_here}
use Rattle.pl_indexed.proofs.WalkOrder.{view_names, walked}
use Rattle.pl_indexed.proofs.ways.first_pages.Goals as goal

pub loop-init : goal.loop-init
loop-init c =
    begins c.args.order c.args.asked.now.query.now c.args.known.now.views.items c.requires.followed.order
    c.new-found.result.items (option_copied c.next_view-next.result) c.new-found.ensures.items c.next_view-next.ensures

pub returns-in_default : goal.returns-in_default
returns-in_default c =
    all_suffice c.args.order c.args.asked.now.query.now c.args.known.now.views.items c.requires.followed.order
    c.requires.sort c.loop.found.items
    (ends (view_names c.args.order) (walked c.args.order c.args.known.now.views.items)
    (Finds c.args.asked.now.query.now c.loop.found.items) (option_copied c.loop.next) c.loop.invariant
    (no_view c.loop.next c.in_default.not-Some))

pub returns-then-are_enough : goal.returns-then-are_enough
returns-then-are_enough c =
    let q = c.args.asked.now.query.now in
    let views = c.args.known.now.views.items in
    let at = here c.args.order q views c.requires.followed.order c.loop.found.items c.loop.next c.in-Some.view
    c.loop.invariant c.in-Some.is in
    enough_suffice c.args.order q views c.requires.followed.order c.requires.sort c.requires.few c.loop.found.items
    at.front at.element at.rest at.whole at.so_far
    (subst (λ (v : View). AreEnough c.args.order q.max_results v c.loop.found.items) (sym at.is)
    (subst (AreEnough c.args.order q.max_results c.in-Some.view.now) c.deref.ensures.value
    (c.are_enough.ensures c.if-are_enough.true)))

pub add-requires-clause-view : goal.add-requires-clause-view
add-requires-clause-view c =
    known_here c.args.order c.args.asked.now.query.now c.args.known.now.views.items c.requires.followed.order
    c.loop.found.items c.loop.next c.in-Some.view c.loop.invariant c.in-Some.is

pub next_view-next-requires-in-loop-clause-stands : goal.next_view-next-requires-in-loop-clause-stands
next_view-next-requires-in-loop-clause-stands c =
    stands_here c.args.order c.args.asked.now.query.now c.args.known.now.views.items c.requires.followed.order
    c.loop.found.items c.loop.next c.in-Some.view c.loop.invariant c.in-Some.is

pub loop-preserved : goal.loop-preserved
loop-preserved c =
    goes_further c.args.order c.args.asked.now.query.now c.args.known.now.views.items c.requires.followed.order
    c.loop.found.items c.loop.next c.in-Some.view c.loop.invariant c.in-Some.is c.add.new.found.items
    (option_copied c.next_view-next-in-loop.result) c.in_ok-add.ensures c.next_view-next-in-loop.ensures
