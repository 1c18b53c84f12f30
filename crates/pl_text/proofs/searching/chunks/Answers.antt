use Rattle.std.proofs.Common.{◌∙◌, ◌∷◌, ◌≡◌, ◌-◌, ◌<◌, [], ap, arith, map, refl, subst, sym}
use Rattle.std.proofs.lemmas.List.{map-append}
use Rattle.pl_base.specs.declared.id.Slot.{Slot}
use Rattle.pl_slot.specs.Arena.{slot_count}
use Rattle.pl_text.specs.Chunks.{chunk_count}
use Rattle.pl_text.proofs.Following.{Follows, follows_found, follows_lost, follows_on, follows_past}
use Rattle.pl_text.proofs.Following.{rounded_up, slot_zero, too_many}
use Rattle.pl_text.proofs.searching.chunks.Given.{Over}
use Rattle.pl_text.proofs.searching.chunks.Goals as goal
use Rattle.pl_text.proofs.searching.chunks.Goals.{Joined-next-eq0, else-next-eq0, then-next-eq0}

pub returns-then-count-slot_count-clause-none : goal.returns-then-count-slot_count-clause-none
returns-then-count-slot_count-clause-none g c none has =
    let many : slot_count c.args.arena.now < chunk_count c.args.length =
    omega (arith, c.if-count-slot_count.true, c.slot_count.ensures, c.div_ceil-count.ensures, rounded_up c.args.length) in
    too_many c.args.slot c.args.length c.args.arena.now many has

pub returns-in_default-clause-none : goal.returns-in_default-clause-none
returns-in_default-clause-none g c none has =
    follows_lost c.args.slot c.loop-left.next c.args.length c.loop-left.left c.args.steps.now c.loop-left.steps
    (map (λ (s : Slot). s.0) c.loop-left.chunks.items) c.args.arena.now c.loop-left.invariant (omega arith)
    c.min-size.result c.min-size.ensures (c.in_default.ensures.none refl) has

pub loop-left-preserved : goal.loop-left-preserved
loop-left-preserved g c =
    let pushed =
    ap (map (λ (s : Slot). s.0)) c.in_ok-push.ensures.items
    ∙ map-append (λ (s : Slot). s.0) c.loop-left.chunks.items (c.loop-left.next ∷ []) in
    subst (λ found. Follows c.args.slot c.in-Some.behind c.args.length (c.loop-left.left - c.min-size.result)
    c.args.steps.now c.behind.new.steps found c.args.arena.now)
    (sym pushed)
    (follows_on c.args.slot c.loop-left.next c.args.length c.loop-left.left c.args.steps.now c.loop-left.steps
    (map (λ (s : Slot). s.0) c.loop-left.chunks.items) c.args.arena.now c.loop-left.invariant (omega arith)
    c.min-size.result c.min-size.ensures c.in-Some.behind c.behind.new.steps c.in-Some.ensures.some
    c.in-Some.ensures.few)

at_end : (g : Over) (c : Joined-next-eq0 g)
    → Follows c.args.slot c.loop-left.next c.args.length 0 c.args.steps.now c.loop-left.steps
    (map (λ (s : Slot). s.0) c.loop-left.chunks.items) c.args.arena.now
at_end g c =
    let none : c.loop-left.left ≡ 0 = omega (arith, c.loop-left-test.false) in
    subst (λ left. Follows c.args.slot c.loop-left.next c.args.length left c.args.steps.now c.loop-left.steps
    (map (λ (s : Slot). s.0) c.loop-left.chunks.items) c.args.arena.now) none c.loop-left.invariant

pub returns-clause-found : goal.returns-clause-found
returns-clause-found g c =
    elim c.if-next-eq0.branch [
      | then-next-eq0 w ↦
          rw w.result-is
          (follows_found c.args.slot c.loop-left.next c.args.length c.args.steps.now c.loop-left.steps
          (map (λ (s : Slot). s.0) c.loop-left.chunks.items) c.args.arena.now (at_end g c)
          (slot_zero c.loop-left.next w.if-next-eq0.true))
      | else-next-eq0 w ↦ rw w.result-is tt
    ]

pub returns-clause-none : goal.returns-clause-none
returns-clause-none g c none has =
    elim c.if-next-eq0.branch [
      | then-next-eq0 w ↦ let some = w.result-is in absurd (cc)
      | else-next-eq0 w ↦
          follows_past c.args.slot c.loop-left.next c.args.length c.args.steps.now c.loop-left.steps
          (map (λ (s : Slot). s.0) c.loop-left.chunks.items) c.args.arena.now (at_end g c)
          (λ same. w.if-next-eq0.false (ap (λ (s : Slot). s.0) same)) has
    ]
