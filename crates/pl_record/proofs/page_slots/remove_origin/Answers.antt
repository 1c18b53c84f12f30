use Rattle.pl_record.proofs.OriginSlots.{removes_origin, still_member}
use Rattle.pl_record.proofs.page_slots.remove_origin.Given.{Over}
use Rattle.pl_record.proofs.page_slots.remove_origin.Goals as goal
use Rattle.pl_record.proofs.page_slots.remove_origin.Goals.{After-unlink}
use Rattle.pl_record.proofs.SlotSteps.{Detaches}
use Rattle.pl_rail.specs.declared.owner.Owner.TheVariants.{Header}
use Rattle.pl_rail.proofs.MemberCount.{live_member}
use Rattle.pl_slot.specs.declared.kind.LiveKind.TheVariants as live
use Rattle.pl_slot.specs.declared.links.Rail.TheVariants.{Live}
use Rattle.pl_slot.specs.Arena.{header_of}

goes : (g : Over) (c : After-unlink g)
    → Detaches Live (Header live.Origin) c.args.slot c.args.arena.now c.unlink.new.arena
goes g c =
    record {
      list = c.unlink.ensures.list;
      owners = c.unlink.ensures.owners;
      others = c.unlink.ensures.others;
      rest = c.unlink.ensures.rest;
      pages = c.unlink.ensures.pages;
    }

pub give_back-requires : goal.give_back-requires
give_back-requires g c =
    record {
      live =
          live_member Live (Header live.Origin) c.unlink.new.arena c.args.slot
          (still_member c.args.slot c.args.arena.now c.unlink.new.arena (goes g c.before) c.requires.member);
    }

pub returns-clause-removed : goal.returns-clause-removed
returns-clause-removed g c =
    removes_origin c.args.slot c.args.arena.now c.unlink.new.arena (goes g c.before.before) c.requires.member
    c.give_back.new.self c.requires.empty
    (record {
      first = (header_of c.unlink.new.arena).first_free;
      rows = c.give_back.ensures.rows;
      header = c.give_back.ensures.header;
      count = c.give_back.ensures.count;
      pages = c.give_back.ensures.pages;
    }) c.give_back.ensures.as_many
