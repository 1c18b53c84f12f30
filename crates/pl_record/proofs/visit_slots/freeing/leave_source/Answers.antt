use Rattle.std.proofs.Common.{subst}
use Rattle.pl_base.specs.declared.id.Slot.{Slot}
use Rattle.pl_record.specs.VisitChanges.{Leaves}
use Rattle.pl_record.proofs.VisitFreed.{leaves_source, named_some}
use Rattle.pl_record.proofs.visit_slots.freeing.leave_source.Goals as goal
use Rattle.pl_rail.specs.declared.owner.Owner.TheVariants.{At}
use Rattle.pl_slot.specs.declared.links.Rail.TheVariants.{Targets}

pub returns : goal.returns
returns g c =
    let named = named_some c.args.visit.source c.in-Some.source c.in-Some.ensures in
    record {
      left =
          leaves_source c.args.visit c.args.slot c.args.arena.now c.unlink.new.arena named.1
          (subst (λ (s : Slot). Leaves Targets (At s) c.args.slot c.args.arena.now c.unlink.new.arena) named.0
          (record {
            list = c.unlink.ensures.list;
            own = record { before = c.unlink.ensures.before; behind = c.unlink.ensures.behind };
            owners = c.unlink.ensures.owners;
            others = c.unlink.ensures.others;
            rest = c.unlink.ensures.rest;
            beside = c.unlink.ensures.beside;
            pages = c.unlink.ensures.pages;
          }))
          (c.requires.of_source named.1);
    }
