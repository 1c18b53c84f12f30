use Rattle.std.proofs.Common.{◌≡◌, inl, ℕ, ◌≤◌, Some, length, List, refl, append-nil, length-append, sym, ◌∙◌, ap}
use Rattle.std.proofs.Common.{subst, arith}
use Rattle.std.proofs.lemmas.Grind.{common_steps}
use Rattle.pl_desk.specs.Desk.{Elapses, Shows, ShowsSaying}
use Rattle.pl_desk.specs.MemDesk.{Recorded, DeskState, nothing, held_by, written_in, MayLeave, ShownSince}
use Rattle.pl_desk.specs.Record.{calls_of}
use Rattle.pl_desk.proofs.Clock.{Since, says, weaker}
use Rattle.pl_desk.proofs.Inside.{calls_push, within_push, replayed_push, quiet_push}
use Rattle.pl_desk.proofs.Desks.{Begun, held_after, written_after, left_after}
use Rattle.pl_desk.proofs.mem_desk.MemDeskDesk.say.Goals as goal

-- a call that fails says no front but the empty one
silent : (old new : DeskState) (bytes : List ℕ)
    → Elapses (length old.calls) (length new.calls) (ShownSince old) (ShownSince new)
    (Shows (MayLeave new) (Some old.said))
    → Elapses (length old.calls) (length new.calls) (ShownSince old) (ShownSince new)
    (ShowsSaying (MayLeave new) (Some old.said) bytes 0)
silent old new bytes time =
    weaker _ _ _ _ _ _ (λ file line shown. (shown.0, (0, omega arith, ap Some (append-nil old.said) ∙ shown.1))) time

pub returns-then-is_refused-clause-time : goal.returns-then-is_refused-clause-time
returns-then-is_refused-clause-time c =
    silent c.args.self.now c.fail_say.new.self c.args.bytes.now c.fail_say.ensures.time

pub returns-then-is_err-clause-time : goal.returns-then-is_err-clause-time
returns-then-is_err-clause-time c =
    let new = c.fail_say-then-is_err.new.self in
    let inside = c.self.inside in
    let calls = calls_of inside.calls.items in
    let same : c.extend_from_slice.new.self.items ≡ inside.said.items = grind (arith, common_steps) in
    let time =
    subst (λ (l : List ℕ). Elapses (length calls) (length new.calls) (Since inside.first.items calls l)
    (ShownSince new) (Shows (MayLeave new) (Some l))) same c.fail_say-then-is_err.ensures.time in
    silent c.args.self.now new c.args.bytes.now
    (subst (λ (d : DeskState). Elapses (length d.calls) (length new.calls) (ShownSince d) (ShownSince new)
    (Shows (MayLeave new) (Some d.said))) c.self.view_is time)

pub returns-clause-after : goal.returns-clause-after
returns-clause-after c = grind (arith, common_steps)

pub returns-clause-held : goal.returns-clause-held
returns-clause-held c = ap held_by (returns-clause-after c) ∙ held_after c.args.self.now nothing

pub returns-clause-written : goal.returns-clause-written
returns-clause-written c =
    ap (λ (d : DeskState). written_in d.calls) (returns-clause-after c) ∙ written_after c.args.self.now nothing
    ∙ omega arith

pub returns-clause-leaves : goal.returns-clause-leaves
returns-clause-leaves c file left =
    let desk = c.args.self.now in
    let from =
    left_after desk nothing file (subst (λ (d : DeskState). MayLeave d file) (returns-clause-after c) left) in
    subst (MayLeave desk) (sym from.2) from.1

pub returns-clause-time : goal.returns-clause-time
returns-clause-time c =
    let old = c.args.self.now in
    let bytes = c.args.bytes.now in
    let begun = subst Begun c.self.view_is c.self.invariant.within in
    let time =
    says old.first old.calls old.said bytes (record { said_before = length old.said; deed = nothing }) refl
    begun refl in
    subst (λ (d : DeskState). Elapses (length old.calls) (length d.calls) (ShownSince old) (ShownSince d)
    (ShowsSaying (MayLeave d) (Some old.said) bytes (length bytes))) (sym (returns-clause-after c)) time

pub invariant_of-self-2 : goal.invariant_of-self-2
invariant_of-self-2 c =
    let old = c.self.inside in
    let calls_is = calls_push old.calls.items c.push_reserved.new.self.items _ c.push_reserved.ensures.items in
    let call : Recorded = record { said_before = c.len-said_before.result; deed = nothing } in
    let said_len = old.said.ok.0 in
    let longer : length old.said.items ≤ length c.extend_from_slice.new.self.items =
    grind (arith, common_steps, length-append {A = ℕ}) in
    record {
      few = grind (arith, common_steps);
      room = omega (arith, c.push_reserved.ensures.capacity, c.self.invariant.room);
      within =
          within_push (calls_of old.calls.items) _ call _ _ calls_is longer
          (omega (arith, said_len, longer, c.len-said_before.ensures)) c.self.invariant.within;
      quiet =
          quiet_push (calls_of old.calls.items) _ call old.said.items _ calls_is
          (omega (arith, said_len, c.len-said_before.ensures)) (inl refl) c.self.invariant.quiet;
      replayed =
          replayed_push old.first.items old.file.items old.file.items (calls_of old.calls.items) _ call calls_is
          c.self.invariant.replayed refl;
    }
