use Rattle.std.proofs.Common.{subst, sym}
use Rattle.pl_text.proofs.ReadTexts.{Reads, reads_all, reads_counted, reads_less, reads_none, reads_on, reads_part}
use Rattle.pl_text.proofs.reading.bytes.Goals as goal

pub loop-next-init : goal.loop-next-init
loop-next-init g c =
    subst (λ bytes. Reads c.args.slot c.args.slot c.args.length c.args.steps.now c.args.steps.now bytes c.args.arena.now)
    (sym c.in_ok-bytes.ensures.items)
    (reads_none c.args.slot c.args.length c.args.steps.now c.args.arena.now c.requires.text)

pub push-requires : goal.push-requires
push-requires g c =
    record {
      part =
          reads_part c.args.slot c.loop-next.next c.args.length c.args.steps.now c.loop-next.steps
          c.loop-next.bytes.items c.args.arena.now c.loop-next.invariant c.loop-next-test.true;
    }

pub loop-next-smaller : goal.loop-next-smaller
loop-next-smaller g c =
    reads_less c.args.slot c.loop-next.next c.args.length c.args.steps.now c.loop-next.steps c.loop-next.bytes.items
    c.args.arena.now c.loop-next.invariant c.loop-next-test.true c.push.new.bytes.items c.in_ok-next.ensures.bytes

pub loop-next-preserved : goal.loop-next-preserved
loop-next-preserved g c =
    subst (λ now. Reads c.args.slot c.in_ok-next.next c.args.length c.args.steps.now now c.push.new.bytes.items
    c.args.arena.now)
    (sym c.push.ensures.counted)
    (reads_on c.args.slot c.loop-next.next c.args.length c.args.steps.now c.loop-next.steps c.loop-next.bytes.items
    c.args.arena.now c.loop-next.invariant c.loop-next-test.true c.in_ok-next.next c.push.new.bytes.items
    c.in_ok-next.ensures.next c.in_ok-next.ensures.bytes)

pub returns-clause-text : goal.returns-clause-text
returns-clause-text g c =
    reads_all c.args.slot c.loop-next.next c.args.length c.args.steps.now c.loop-next.steps c.loop-next.bytes.items
    c.args.arena.now c.loop-next.invariant c.loop-next-test.false

pub returns-clause-counted : goal.returns-clause-counted
returns-clause-counted g c =
    reads_counted c.args.slot c.loop-next.next c.args.length c.args.steps.now c.loop-next.steps
    c.loop-next.bytes.items c.args.arena.now c.loop-next.invariant c.loop-next-test.false
