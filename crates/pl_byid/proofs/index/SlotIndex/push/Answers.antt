use Rattle.std.proofs.Common.{◌≡◌, ◌<◌, ◌++◌, ◌∷◌, ◌∙◌, [], ℕ, Some, subst, sym}
use Rattle.std.specs.List.{AllByRecursion}
use Rattle.pl_base.specs.declared.id.Slot.{Slot}
use Rattle.pl_byid.proofs.Told.{here, others, set_right, still_right}
use Rattle.pl_byid.proofs.index.SlotIndex.push.Goals as goal
use Rattle.pl_byid.specs.Slots.{Slots}
use Rattle.pl_record.proofs.LastEntry.{inserted_last}

pub invariant_of-self-2 : goal.invariant_of-self-2
invariant_of-self-2 c =
    let before = c.self.inside.map in
    let updates = c.in_ok-insert.ensures.updates in
    let slot = Some c.args.slot in
    set_right before.entries c.insert.new.self.entries c.reach.new.self c.set.new.self c.args.id
    (others before c.insert.new.self c.args.id slot updates)
    (still_right before.entries c.self.inside.run c.reach.new.self c.reach.ensures.known c.self.invariant) c.args.slot
    (here before c.insert.new.self c.args.id slot updates) c.set.ensures

pub returns-clause-entries : goal.returns-clause-entries
returns-clause-entries c =
    let last =
    subst (λ (s : Slots). AllByRecursion (λ (e : ℕ × Slot). e.0 < c.args.id) s.entries) (sym c.self.view_is)
    c.requires.last in
    subst (λ (s : Slots). c.insert.new.self.entries ≡ s.entries ++ (c.args.id, c.args.slot) ∷ []) c.self.view_is
    (c.in_ok-insert.ensures.entries ∙ inserted_last c.self.inside.map.entries c.args.id c.args.slot last)

pub returns-clause-found : goal.returns-clause-found
returns-clause-found c =
    here c.self.inside.map c.insert.new.self c.args.id (Some c.args.slot) c.in_ok-insert.ensures.updates
