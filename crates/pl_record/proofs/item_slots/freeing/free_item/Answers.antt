use Rattle.pl_record.specs.VisitChanges.{Leaves}
use Rattle.pl_record.proofs.ItemFreed.{frees_item, item_live, still_item}
use Rattle.pl_record.proofs.item_slots.freeing.free_item.Given.{Over}
use Rattle.pl_record.proofs.item_slots.freeing.free_item.Goals as goal
use Rattle.pl_record.proofs.item_slots.freeing.free_item.Goals.{After-unlink}
use Rattle.pl_record.proofs.LaidSlots.{kind_live}
use Rattle.pl_rail.specs.declared.owner.Owner.TheVariants.{Header}
use Rattle.pl_slot.specs.declared.kind.LiveKind.TheVariants as live
use Rattle.pl_slot.specs.declared.kind.SlotKind.TheVariants as kinds
use Rattle.pl_slot.specs.declared.links.Rail.TheVariants.{Live}
use Rattle.pl_slot.specs.Arena.{header_of}

goes : (g : Over) (c : After-unlink g)
    → Leaves Live (Header live.Item) c.args.slot c.leave-2.new.arena c.unlink.new.arena
goes g c =
    record {
      list = c.unlink.ensures.list;
      own = record { before = c.unlink.ensures.before; behind = c.unlink.ensures.behind };
      owners = c.unlink.ensures.owners;
      others = c.unlink.ensures.others;
      rest = c.unlink.ensures.rest;
      beside = c.unlink.ensures.beside;
      pages = c.unlink.ensures.pages;
    }

pub give_back-requires : goal.give_back-requires
give_back-requires g c =
    record {
      live =
          kind_live c.args.slot.0 kinds.Item c.unlink.new.arena
          (still_item c.args.item c.args.slot c.args.arena.now c.requires.item c.requires.of_header c.requires.of_page
          c.requires.no_child c.leave.new.arena c.leave.ensures c.leave-2.new.arena c.leave-2.ensures
          c.unlink.new.arena (goes g c.before)) item_live;
    }

pub returns-clause-freed : goal.returns-clause-freed
returns-clause-freed g c =
    frees_item c.args.item c.args.slot c.args.arena.now c.requires.item c.requires.of_header c.requires.of_page
    c.requires.no_child c.leave.new.arena c.leave.ensures c.leave-2.new.arena c.leave-2.ensures
    c.unlink.new.arena (goes g c.before.before) c.give_back.new.self
    (record {
      first = (header_of c.unlink.new.arena).first_free;
      rows = c.give_back.ensures.rows;
      header = c.give_back.ensures.header;
      count = c.give_back.ensures.count;
      pages = c.give_back.ensures.pages;
    }) c.give_back.ensures.as_many
