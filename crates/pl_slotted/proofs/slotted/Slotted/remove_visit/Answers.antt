use Rattle.std.proofs.Common.{sym, subst}
use Rattle.std.proofs.Math.Logic.{∥∥₁_elim}
use Rattle.std.proofs.Props.{props}
use Rattle.pl_base.specs.Rows.{without_visit}
use Rattle.pl_record.specs.LinkedRows.{AreLinked}
use Rattle.pl_record.proofs.Moves.{then_kept, then_keeps}
use Rattle.pl_record.proofs.OneChains.{listed_once, visit_once}
use Rattle.pl_record.proofs.TargetLists.{without_targets}
use Rattle.pl_record.proofs.VisitHeld.{listed}
use Rattle.pl_record.proofs.VisitRemoved.{held, removed_base, removed_visit, some_live}
use Rattle.pl_slotted.proofs.slotted.Slotted.remove_visit.Given.{Over}
use Rattle.pl_slotted.proofs.slotted.Slotted.remove_visit.Goals as goal
use Rattle.pl_slotted.proofs.slotted.Slotted.remove_visit.Goals.{After-remove}
use Rattle.pl_rail.specs.declared.owner.Owner.TheVariants.{At}
use Rattle.pl_slot.specs.declared.links.Rail.TheVariants.{Targets}

-- the rows without the visit, where those were kept
moved : (g : Over) (c : After-remove g)
    → AreLinked c.args.self.now.rows.kept c.args.self.now.rows.targets c.args.self.now.arena
    c.args.self.now.pages.entries c.args.self.now.visits.entries c.args.self.now.items.entries
    → AreLinked (without_visit c.args.visit c.args.self.now.rows.kept)
    (without_targets c.args.visit c.args.self.now.rows.targets) c.set_live.new.self c.args.self.now.pages.entries
    c.remove.new.self.entries c.args.self.now.items.entries
moved g c l =
    let s = c.args.self.now in
    subst (λ es. AreLinked (without_visit c.args.visit s.rows.kept) (without_targets c.args.visit s.rows.targets)
    c.set_live.new.self s.pages.entries es s.items.entries) (sym c.remove.ensures.entries)
    (removed_visit s.rows.kept s.rows.targets s.arena s.pages.entries s.visits.entries s.items.entries l c.args.visit
    c.visit_slot-slot.result c.visit_slot-slot.ensures c.requires c.drop_targets.new.arena
    c.drop_targets.ensures.dropped c.drop_targets.ensures.arena c.free_visit.new.arena c.free_visit.ensures.freed
    c.free_visit.ensures.arena c.live-live.result c.live-live.ensures c.set_live.new.self c.set_live.ensures.set
    c.set_live.ensures.arena)

pub drop_targets-requires : goal.drop_targets-requires
drop_targets-requires g c =
    let s = c.args.self.now in
    record {
      listed =
          ∥∥₁_elim s.rows.linked (listed_once Targets (At c.visit_slot-slot.result) s.arena)
          (λ l. listed s.rows.kept s.rows.targets s.arena s.pages.entries s.visits.entries s.items.entries l c.args.visit
          c.visit_slot-slot.result c.visit_slot-slot.ensures);
    }

pub free_visit-requires : goal.free_visit-requires
free_visit-requires g c =
    let s = c.args.self.now in
    record {
      held =
          ∥∥₁_elim s.rows.linked (visit_once c.visit_slot-slot.result c.drop_targets.new.arena)
          (λ l. held s.rows.kept s.rows.targets s.arena s.pages.entries s.visits.entries s.items.entries l c.args.visit
          c.visit_slot-slot.result c.visit_slot-slot.ensures c.requires c.drop_targets.new.arena
          c.drop_targets.ensures.dropped);
    }

pub overflow_sub-live : goal.overflow_sub-live
overflow_sub-live g c =
    let s = c.args.self.now in
    ∥∥₁_elim s.rows.linked (Prim.hlevel props)
    (λ l. some_live s.rows.kept s.rows.targets s.arena s.pages.entries s.visits.entries s.items.entries l c.args.visit
    c.visit_slot-slot.result c.visit_slot-slot.ensures c.requires c.drop_targets.new.arena
    c.drop_targets.ensures.dropped c.drop_targets.ensures.arena c.free_visit.new.arena c.free_visit.ensures.freed
    c.free_visit.ensures.arena c.live-live.result c.live-live.ensures)

pub invariant_of-self : goal.invariant_of-self
invariant_of-self g c =
    let s = c.args.self.now in
    record {
      rows =
          then_keeps s.arena c.set_live.new.self s.pages.entries s.visits.entries s.items.entries s.pages.entries
          c.remove.new.self.entries s.items.entries s.rows (without_visit c.args.visit s.rows.kept)
          (without_targets c.args.visit s.rows.targets) (moved g c);
    }

pub returns-clause-kept : goal.returns-clause-kept
returns-clause-kept g c =
    let s = c.args.self.now in
    then_kept s.arena c.set_live.new.self s.pages.entries s.visits.entries s.items.entries s.pages.entries
    c.remove.new.self.entries s.items.entries s.rows (without_visit c.args.visit s.rows.kept)
    (without_targets c.args.visit s.rows.targets) (moved g c.before) c.self-1.given.0

pub returns-clause-base : goal.returns-clause-base
returns-clause-base g c bytes base =
    let s = c.args.self.now in
    ∥∥₁_elim s.rows.linked (Prim.hlevel props)
    (λ l. removed_base s.rows.kept s.rows.targets s.arena s.pages.entries s.visits.entries s.items.entries l c.args.visit
    c.visit_slot-slot.result c.visit_slot-slot.ensures c.requires c.drop_targets.new.arena
    c.drop_targets.ensures.dropped c.drop_targets.ensures.arena c.free_visit.new.arena c.free_visit.ensures.freed
    c.free_visit.ensures.arena c.live-live.result c.live-live.ensures c.set_live.new.self c.set_live.ensures.set
    c.set_live.ensures.arena bytes base)
