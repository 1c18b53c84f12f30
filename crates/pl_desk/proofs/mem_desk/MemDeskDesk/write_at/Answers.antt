use Rattle.std.proofs.Common.{◌≡◌, inr, refl, ◌+◌, Some, length, sym, ◌∙◌, ap, subst, arith}
use Rattle.std.proofs.lemmas.Grind.{common_steps}
use Rattle.pl_desk.specs.Desk.{Elapses, Shows}
use Rattle.pl_desk.specs.MemDesk.{Deed, DeskState, wrote, after_deed, held_by, written_in, MayLeave, ShownSince}
use Rattle.pl_desk.specs.Record.{call_of, calls_of}
use Rattle.pl_desk.proofs.Inside.{calls_push, within_push, replayed_push, quiet_push}
use Rattle.pl_desk.proofs.Desks.{Begun, held_after, written_after, left_after, time_after}
use Rattle.pl_desk.proofs.mem_desk.MemDeskDesk.write_at.Goals as goal

pub returns-clause-after : goal.returns-clause-after
returns-clause-after c = grind (arith, common_steps)

pub returns-clause-held : goal.returns-clause-held
returns-clause-held c =
    ap held_by (returns-clause-after c) ∙ held_after c.args.self.now (wrote c.args.at c.args.bytes.now)

total : (c : goal.After-push_reserved)
    → written_in (calls_of c.push_reserved.new.self.items) ≡ written_in c.args.self.now.calls + length c.args.bytes.now
total c =
    ap (λ (d : DeskState). written_in d.calls) (returns-clause-after c)
    ∙ written_after c.args.self.now (wrote c.args.at c.args.bytes.now)

pub returns-clause-written : goal.returns-clause-written
returns-clause-written c = total c

pub returns-clause-leaves : goal.returns-clause-leaves
returns-clause-leaves c file left =
    let desk = c.args.self.now in
    left_after desk (wrote c.args.at c.args.bytes.now) file
    (subst (λ (d : DeskState). MayLeave d file) (returns-clause-after c) left)

pub returns-clause-time : goal.returns-clause-time
returns-clause-time c =
    let old = c.args.self.now in
    let begun = subst Begun c.self.view_is c.self.invariant.within in
    subst (λ (d : DeskState). Elapses (length old.calls) (length d.calls) (ShownSince old) (ShownSince d)
    (Shows (MayLeave d) (Some old.said))) (sym (returns-clause-after c))
    (time_after old (wrote c.args.at c.args.bytes.now) begun)

pub invariant_of-self-2 : goal.invariant_of-self-2
invariant_of-self-2 c =
    let old = c.self.inside in
    let calls_is = calls_push old.calls.items c.push_reserved.new.self.items _ c.push_reserved.ensures.items in
    let call = call_of (record { said_before = c.len-said_before.result; deed = c.in-Ok.deed }) in
    let deed_is = c.in-Ok.ensures.deed in
    let said_len = old.said.ok.0 in
    record {
      few = grind (arith, common_steps);
      room = omega (arith, c.push_reserved.ensures.capacity, c.self.invariant.room);
      within =
          within_push (calls_of old.calls.items) _ call _ _ calls_is (omega arith)
          (omega (arith, said_len, c.len-said_before.ensures)) c.self.invariant.within;
      quiet =
          quiet_push (calls_of old.calls.items) _ call old.said.items old.said.items calls_is
          (omega (arith, said_len, c.len-said_before.ensures)) (inr refl) c.self.invariant.quiet;
      replayed =
          replayed_push old.first.items old.file.items c.write.new.file.items (calls_of old.calls.items) _ call calls_is
          c.self.invariant.replayed (c.in-Ok.ensures.ok ∙ ap (λ (d : Deed). after_deed d old.file.items) (sym deed_is));
    }
