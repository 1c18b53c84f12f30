use Rattle.std.proofs.Common.{◌∙◌}
use Rattle.pl_record.specs.VisitChanges.{Leaves}
use Rattle.pl_record.proofs.ChainMaps.{has_end}
use Rattle.pl_record.proofs.TargetsDropped.{Begins, begins, drops_all, drops_more, drops_none, fewer, has, target_kind}
use Rattle.pl_record.proofs.visit_slots.freeing.drop_targets.Given.{Over}
use Rattle.pl_record.proofs.visit_slots.freeing.drop_targets.Goals as goal
use Rattle.pl_record.proofs.visit_slots.freeing.drop_targets.Goals.{After-unlink}
use Rattle.pl_rail.specs.declared.owner.Owner.TheVariants.{At}
use Rattle.pl_slot.specs.declared.links.Rail.TheVariants.{Targets}

begin : (g : Over) (c : After-unlink g) → Begins c.loop-target.invariant.drops.rest c.in-Some.target
begin g c =
    begins c.loop-target.invariant.drops.rest c.in-Some.target
    (c.in-Some.ensures.first c.loop-target.invariant.drops.rest c.loop-target.invariant.drops.listed)

leaves : (g : Over) (c : After-unlink g)
    → Leaves Targets (At c.args.slot) c.in-Some.target c.loop-target.arena c.unlink.new.arena
leaves g c =
    record {
      list = c.unlink.ensures.list;
      own = record { before = c.unlink.ensures.before; behind = c.unlink.ensures.behind };
      owners = c.unlink.ensures.owners;
      others = c.unlink.ensures.others;
      rest = c.unlink.ensures.rest;
      beside = c.unlink.ensures.beside;
      pages = c.unlink.ensures.pages;
    }

pub loop-target-init : goal.loop-target-init
loop-target-init g c =
    record {
      drops = drops_none c.args.slot c.args.arena.now c.requires.listed.0 c.pages.ensures.arena c.requires.listed.1;
    }

pub first-requires : goal.first-requires
first-requires g c =
    let drops = c.loop-target.invariant.drops in
    record { owner = has_end Targets (At c.args.slot) drops.rest c.loop-target.arena drops.listed }

pub unlink-requires : goal.unlink-requires
unlink-requires g c =
    record {
      member =
          has c.args.slot c.in-Some.target c.args.arena.now c.loop-target.arena c.loop-target.invariant.drops
          (begins c.loop-target.invariant.drops.rest c.in-Some.target
          (c.in-Some.ensures.first c.loop-target.invariant.drops.rest c.loop-target.invariant.drops.listed));
    }

pub put_source-requires : goal.put_source-requires
put_source-requires g c =
    record {
      visit =
          c.unlink.ensures.rest.kinds c.in-Some.target.0
          ∙ target_kind c.args.slot c.in-Some.target c.args.arena.now c.loop-target.arena
          c.loop-target.invariant.drops (begin g c.before.before);
    }

pub loop-target-smaller : goal.loop-target-smaller
loop-target-smaller g c =
    fewer c.args.slot c.in-Some.target c.args.arena.now c.loop-target.arena c.loop-target.invariant.drops
    (begin g c.before.before.before) c.unlink.new.arena c.put_source.new.arena
    (leaves g c.before.before.before) c.put_source.ensures.set

pub loop-target-preserved : goal.loop-target-preserved
loop-target-preserved g c =
    record {
      drops =
          drops_more c.args.slot c.in-Some.target c.args.arena.now c.loop-target.arena
          c.loop-target.invariant.drops (begin g c.before.before.before) c.unlink.new.arena c.put_source.new.arena
          (leaves g c.before.before.before) c.put_source.ensures.set;
    }

pub returns-clause-dropped : goal.returns-clause-dropped
returns-clause-dropped g c targets lists =
    let drops = c.loop-target.invariant.drops in
    drops_all c.args.slot c.args.arena.now c.loop-target.arena drops
    (c.in_default.ensures.first drops.rest drops.listed)
    targets lists

pub returns-clause-arena : goal.returns-clause-arena
returns-clause-arena g c = c.loop-target.invariant.drops.arena
