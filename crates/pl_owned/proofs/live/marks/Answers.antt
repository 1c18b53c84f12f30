use Rattle.std.proofs.Common.{◌∙◌, ℕ, arith, false, get_or, rules, sym}
use Rattle.std.proofs.lemmas.List.{get_or_default}
use Rattle.pl_owned.proofs.Marks.{marked_more, none_marked, none_twice, once_more, twice_marked}
use Rattle.pl_owned.proofs.OwnersTold.{at_itself}
use Rattle.pl_owned.proofs.live.marks.Goals as goal

pub loop-slot-init : goal.loop-slot-init
loop-slot-init c =
    record {
      marked =
          none_marked c.args.count c.in_ok-marks.marks.items
          (c.in_ok-marks.ensures.items_if_clones_equal (λ y k. search rules));
      once = none_twice;
    }

pub returns-then-index-clause-none : goal.returns-then-index-clause-none
returns-then-index-clause-none c told apart =
    let slot : ℕ = get_or c.args.slots.now c.loop-slot.slot-index 0 in
    let below = c.requires c.loop-slot.slot-index 0 (omega arith) in
    twice_marked c.args.slots.now c.loop-slot.slot-index slot c.args.count c.loop-slot.marks.items (omega arith)
    (at_itself c.args.slots.now c.loop-slot.slot-index 0 (omega arith)) below c.loop-slot.invariant.marked
    (get_or_default c.loop-slot.marks.items slot false c.index.result.now
    (omega (arith, below, c.loop-slot.invariant.marked.long)) ∙ sym c.index.ensures ∙ c.if-index.true) apart

pub loop-slot-preserved : goal.loop-slot-preserved
loop-slot-preserved c =
    let slot : ℕ = get_or c.args.slots.now c.loop-slot.slot-index 0 in
    let below = c.requires c.loop-slot.slot-index 0 (omega arith) in
    let is = at_itself c.args.slots.now c.loop-slot.slot-index 0 (omega arith) in
    record {
      marked =
          marked_more c.args.slots.now c.loop-slot.slot-index slot c.args.count c.loop-slot.marks.items (omega arith)
          is below c.loop-slot.invariant.marked;
      once =
          once_more c.args.slots.now c.loop-slot.slot-index slot c.args.count c.loop-slot.marks.items (omega arith)
          is below c.loop-slot.invariant.marked c.loop-slot.invariant.once
          (get_or_default c.loop-slot.marks.items slot false c.index.result.now
          (omega (arith, below, c.loop-slot.invariant.marked.long)) ∙ sym c.index.ensures ∙ c.if-index.false);
    }
