use Rattle.std.proofs.Common.{Some, inr, refl, length, sym, ◌∙◌, ap, subst, arith}
use Rattle.std.proofs.lemmas.List.{length-map}
use Rattle.std.proofs.lemmas.Grind.{common_steps}
use Rattle.pl_desk.specs.Desk.{Follows, Elapses, Shows}
use Rattle.pl_desk.specs.MemDesk.{DeskState, Takes, held_by, written_in, MayLeave, ShownSince}
use Rattle.pl_desk.specs.Record.{call_of, calls_of, deed_of}
use Rattle.pl_desk.proofs.Inside.{calls_push, within_push, replayed_push, quiet_push}
use Rattle.pl_desk.proofs.Desks.{Begun, held_after, written_after, left_after, time_after}
use Rattle.pl_desk.proofs.mem_desk.MemDesk.record_call.Goals as goal

pub returns-clause-after : goal.returns-clause-after
returns-clause-after c = grind (arith, common_steps)

pub returns-clause-held : goal.returns-clause-held
returns-clause-held c =
    ap held_by (returns-clause-after c) ∙ held_after c.args.self.now (deed_of c.args.deed)
    ∙ c.requires.keeps (held_by c.args.self.now)

pub returns-clause-written : goal.returns-clause-written
returns-clause-written c =
    let none = c.requires.nothing_written in
    ap (λ (d : DeskState). written_in d.calls) (returns-clause-after c)
    ∙ written_after c.args.self.now (deed_of c.args.deed) ∙ omega (arith, none)

pub returns-clause-leaves : goal.returns-clause-leaves
returns-clause-leaves c =
    let old = c.args.self.now in
    let deed = deed_of c.args.deed in
    subst (λ (d : DeskState). Follows (Takes deed (held_by old)) (MayLeave old) (MayLeave d))
    (sym (returns-clause-after c)) (left_after old deed)

pub returns-clause-time : goal.returns-clause-time
returns-clause-time c =
    let old = c.args.self.now in
    let deed = deed_of c.args.deed in
    let begun = subst Begun c.self.view_is c.self.invariant.within in
    subst (λ (d : DeskState). Elapses (length old.calls) (length d.calls) (ShownSince old) (ShownSince d)
    (Shows (MayLeave d) (Some old.said))) (sym (returns-clause-after c)) (time_after old deed begun)

pub invariant_of-self : goal.invariant_of-self
invariant_of-self c =
    let old = c.self.inside in
    let call = call_of (record { said_before = c.len-said_before.result; deed = c.args.deed }) in
    let calls_is = calls_push old.calls.items c.push_reserved.new.self.items _ c.push_reserved.ensures.items in
    let count = old.calls.ok.0 in
    let said_len = old.said.ok.0 in
    let few_before = ap (λ (d : DeskState). length d.calls) c.self.view_is in
    let mapped = length-map old.calls.items call_of in
    record {
      few = omega (arith, c.push_reserved.ensures.len, count, few_before, mapped, c.requires.room);
      room = omega (arith, c.push_reserved.ensures.capacity, c.self.invariant.room);
      within =
          within_push (calls_of old.calls.items) _ call _ _ calls_is (omega arith)
          (omega (arith, said_len, c.len-said_before.ensures)) c.self.invariant.within;
      quiet =
          quiet_push (calls_of old.calls.items) _ call old.said.items old.said.items calls_is
          (omega (arith, said_len, c.len-said_before.ensures)) (inr refl) c.self.invariant.quiet;
      replayed =
          replayed_push old.first.items old.file.items old.file.items (calls_of old.calls.items) _ call calls_is
          c.self.invariant.replayed (sym (c.requires.keeps old.file.items));
    }
