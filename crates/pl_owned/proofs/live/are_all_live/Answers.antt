use Rattle.std.proofs.Common.{◌+◌, arith, get_or, subst, sym}
use Rattle.pl_owned.specs.Marked.{HasLiveMarked}
use Rattle.pl_owned.proofs.Marks.{live_below, live_met, met_live}
use Rattle.pl_owned.proofs.live.are_all_live.Goals as goal

pub marks-requires : goal.marks-requires
marks-requires g c =
    λ k d within.
    omega (
      arith,
      live_below (get_or c.args.slots.now k d) c.args.arena.now (c.requires.live k d within),
      c.slot_count.ensures.count,
    )

pub returns-clause-whole : goal.returns-clause-whole
returns-clause-whole g c is =
    met_live c.args.slots.now (c.slot_count.result + 1) c.in-Some.met.items c.args.arena.now
    (rw c.in-Some.is at c.in_ok-met.ensures.marks) (omega (arith, c.slot_count.ensures.count))
    (subst (λ l. HasLiveMarked l c.args.arena.now) c.deref.ensures.value (c.has_live_marked.ensures.yes is))

pub returns-clause-no : goal.returns-clause-no
returns-clause-no g c is once whole =
    c.has_live_marked.ensures.no is
    (subst (λ l. HasLiveMarked l c.args.arena.now) (sym c.deref.ensures.value)
    (live_met c.args.slots.now (c.slot_count.result + 1) c.in-Some.met.items c.args.arena.now
    (rw c.in-Some.is at c.in_ok-met.ensures.marks) (omega (arith, c.slot_count.ensures.count)) whole))
