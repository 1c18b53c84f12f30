use Rattle.std.proofs.Common.{◌≢◌}
use Rattle.pl_record.proofs.LaidSlots.{kind_live}
use Rattle.pl_record.proofs.PlaceFreed.{bare_kind, frees_place}
use Rattle.pl_record.proofs.SlotSteps.{Detaches}
use Rattle.pl_record.proofs.page_slots.free_place.Given.{Over}
use Rattle.pl_record.proofs.page_slots.free_place.Goals as goal
use Rattle.pl_record.proofs.page_slots.free_place.Goals.{After-unlink-2}
use Rattle.pl_rail.specs.declared.owner.Owner.TheVariants.{At, Header}
use Rattle.pl_slot.specs.declared.kind.LiveKind.TheVariants as live
use Rattle.pl_slot.specs.declared.kind.SlotKind.TheVariants as kinds
use Rattle.pl_slot.specs.declared.links.Rail.TheVariants.{Live, OriginPages}
use Rattle.pl_slot.specs.Arena.{header_of}

leaves : (g : Over) (c : After-unlink-2 g)
    → Detaches OriginPages (At c.args.origin) c.args.slot c.args.arena.now c.unlink.new.arena
leaves g c =
    record {
      list = c.unlink.ensures.list;
      owners = c.unlink.ensures.owners;
      others = c.unlink.ensures.others;
      rest = c.unlink.ensures.rest;
      pages = c.unlink.ensures.pages;
    }

goes : (g : Over) (c : After-unlink-2 g)
    → Detaches Live (Header live.Place) c.args.slot c.unlink.new.arena c.unlink-2.new.arena
goes g c =
    record {
      list = c.unlink-2.ensures.list;
      owners = c.unlink-2.ensures.owners;
      others = c.unlink-2.ensures.others;
      rest = c.unlink-2.ensures.rest;
      pages = c.unlink-2.ensures.pages;
    }

place_live : kinds.Place ≢ kinds.Free
place_live same = absurd (cc)

pub give_back-requires : goal.give_back-requires
give_back-requires g c =
    record {
      live =
          kind_live c.args.slot.0 kinds.Place c.unlink-2.new.arena
          (bare_kind c.args.origin c.args.slot c.args.arena.now c.unlink.new.arena c.unlink-2.new.arena
          (leaves g c.before) (goes g c.before) c.requires.place) place_live;
    }

pub returns-clause-freed : goal.returns-clause-freed
returns-clause-freed g c =
    frees_place c.args.origin c.args.slot c.args.arena.now c.unlink.new.arena c.unlink-2.new.arena c.give_back.new.self
    (leaves g c.before.before) (goes g c.before.before) c.requires.place
    (record {
      first = (header_of c.unlink-2.new.arena).first_free;
      rows = c.give_back.ensures.rows;
      header = c.give_back.ensures.header;
      count = c.give_back.ensures.count;
      pages = c.give_back.ensures.pages;
    }) c.requires.no_visit c.requires.no_item c.requires.of_origin c.requires.of_header c.give_back.ensures.as_many
