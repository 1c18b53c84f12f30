use Rattle.std.proofs.Common.{◌∙◌, ◌∷◌, ◌≡◌, ◌++◌, [], ap, arith, length, length-append, refl, Some, subst, sym}
use Rattle.pl_base.specs.declared.id.Slot.{Slot}
use Rattle.pl_rail.specs.Rails.{none}
use Rattle.pl_rail.proofs.SideLaws.{numbered}
use Rattle.pl_rail.proofs.Walks.{Walks, last_there, walks_few, walks_found, walks_lost, walks_on, walks_past}
use Rattle.pl_rail.proofs.listing.listed.Goals as goal
use Rattle.pl_rail.proofs.listing.listed.Goals.{else-told-last, then-told-last}

pub returns-in_default-clause-none : goal.returns-in_default-clause-none
returns-in_default-clause-none g c none_is =
    walks_lost c.args.rail c.args.owner c.loop-next.slots.items c.loop-next.last c.loop-next.next c.end-next.new.steps
    c.loop-next.steps c.args.arena.now c.loop-next.invariant
    (λ same. c.loop-next-test.true (ap (λ (s : Slot). s.0) same)) (c.in_default.ensures.none refl)

pub returns-in_default-clause-few : goal.returns-in_default-clause-few
returns-in_default-clause-few g c =
    let few =
    walks_few c.args.rail c.args.owner c.loop-next.slots.items c.loop-next.last c.loop-next.next c.end-next.new.steps
    c.loop-next.steps c.args.arena.now c.loop-next.invariant in
    omega (arith, few, c.loop-next.invariant.counted, c.end-next.ensures.counted, c.in_default.ensures.few)

pub returns-in_err-push-clause-few : goal.returns-in_err-push-clause-few
returns-in_err-push-clause-few g c =
    let few =
    walks_few c.args.rail c.args.owner c.loop-next.slots.items c.loop-next.last c.loop-next.next c.end-next.new.steps
    c.loop-next.steps c.args.arena.now c.loop-next.invariant in
    omega (arith, few, c.loop-next.invariant.counted, c.end-next.ensures.counted, c.in-Some.ensures.few)

pub loop-next-preserved : goal.loop-next-preserved
loop-next-preserved g c =
    subst
    (λ met. Walks c.args.rail c.args.owner met c.loop-next.next c.in-Some.behind c.end-next.new.steps
    c.behind.new.steps c.args.arena.now)
    (sym c.in_ok-push.ensures.items)
    (walks_on c.args.rail c.args.owner c.loop-next.slots.items c.loop-next.last c.loop-next.next c.end-next.new.steps
    c.loop-next.steps c.args.arena.now c.loop-next.invariant c.in-Some.behind c.behind.new.steps
    c.in-Some.ensures.some c.in-Some.ensures.few)

pub loop-next-smaller : goal.loop-next-smaller
loop-next-smaller g c =
    let on =
    walks_on c.args.rail c.args.owner c.loop-next.slots.items c.loop-next.last c.loop-next.next c.end-next.new.steps
    c.loop-next.steps c.args.arena.now c.loop-next.invariant c.in-Some.behind c.behind.new.steps
    c.in-Some.ensures.some c.in-Some.ensures.few in
    let few =
    walks_few c.args.rail c.args.owner (c.loop-next.slots.items ++ c.loop-next.next ∷ []) c.loop-next.next
    c.in-Some.behind c.end-next.new.steps c.behind.new.steps c.args.arena.now on in
    omega
    (arith, few, length-append c.loop-next.slots.items (c.loop-next.next ∷ []), ap length c.in_ok-push.ensures.items)

pub end-told-requires : goal.end-told-requires
end-told-requires g c =
    record { there = last_there c.args.rail c.args.owner c.args.arena.now c.requires.owner }

at_end : (s : Slot) → s.0 ≡ 0 → s ≡ none
at_end s zero_is = ap numbered zero_is

pub returns-clause-found : goal.returns-clause-found
returns-clause-found g c =
    elim c.if-told-last.branch [
      | then-told-last w ↦
          rw w.result-is
          (walks_found c.args.rail c.args.owner c.loop-next.slots.items c.loop-next.last c.loop-next.next
          c.end-next.new.steps c.loop-next.steps c.args.arena.now c.loop-next.invariant
          (at_end c.loop-next.next c.loop-next-test.false)
          (c.end-told.ensures.named ∙ ap (λ n. Some (numbered n)) w.if-told-last.true))
      | else-told-last w ↦ rw w.result-is tt
    ]

pub returns-clause-none : goal.returns-clause-none
returns-clause-none g c none_is =
    elim c.if-told-last.branch [
      | then-told-last w ↦ let some = w.result-is in absurd (cc)
      | else-told-last w ↦
          walks_past c.args.rail c.args.owner c.loop-next.slots.items c.loop-next.last c.loop-next.next
          c.end-next.new.steps c.loop-next.steps c.args.arena.now c.loop-next.invariant c.end-told.result
          (at_end c.loop-next.next c.loop-next-test.false) c.end-told.ensures.named
          (λ same. w.if-told-last.false (ap (λ (s : Slot). s.0) same))
    ]

pub returns-clause-counted : goal.returns-clause-counted
returns-clause-counted g c =
    elim c.if-told-last.branch [
      | then-told-last w ↦
          rw w.result-is
          (omega (arith, c.loop-next.invariant.counted, c.end-next.ensures.counted, c.end-told.ensures.counted))
      | else-told-last w ↦ rw w.result-is tt
    ]

pub returns-clause-few : goal.returns-clause-few
returns-clause-few g c =
    let few =
    walks_few c.args.rail c.args.owner c.loop-next.slots.items c.loop-next.last c.loop-next.next c.end-next.new.steps
    c.loop-next.steps c.args.arena.now c.loop-next.invariant in
    omega (arith, few, c.loop-next.invariant.counted, c.end-next.ensures.counted, c.end-told.ensures.counted)
