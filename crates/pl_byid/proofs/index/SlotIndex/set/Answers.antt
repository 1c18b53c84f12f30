use Rattle.std.proofs.Common.{◌∙◌, Some, ap, is_some, sym}
use Rattle.pl_byid.proofs.Told.{here, others, set_right}
use Rattle.pl_byid.proofs.index.SlotIndex.set.Goals as goal
use Rattle.pl_byid.specs.Slots.{Slots}
use Rattle.pl_record.proofs.SlotsById.{looked_up}
use Rattle.pl_record.specs.LinkedRows.{slot_at}

pub invariant_of-self : goal.invariant_of-self
invariant_of-self c =
    let before = c.self.inside.map in
    let slot = Some c.args.slot in
    set_right before.entries c.insert.new.self.entries c.self.inside.run c.set.new.self c.args.id
    (others before c.insert.new.self c.args.id slot c.in-Ok.ensures.updates) c.self.invariant c.args.slot
    (here before c.insert.new.self c.args.id slot c.in-Ok.ensures.updates) c.set.ensures

pub unreachable-requires : goal.unreachable-requires
unreachable-requires c =
    let none = ap is_some (sym (looked_up c.self.inside.map.entries c.args.id) ∙ c.in-Err.ensures.absent) in
    let there = ap (λ (s : Slots). is_some (slot_at s.entries c.args.id)) c.self.view_is ∙ c.requires.there in
    cc
