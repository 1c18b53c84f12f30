use Rattle.std.proofs.Common.{◌≡◌, ◌≢◌, subst, sym}
use Rattle.pl_record.specs.declared.rows.Visit.{Visit}
use Rattle.pl_record.specs.VisitChanges.{HoldsVisit, Leaves, LeavesSource}
use Rattle.pl_record.proofs.LaidSlots.{kind_live}
use Rattle.pl_record.proofs.VisitFreed.{frees_visit, of_header, of_page, still_visit, visit_kind, visit_read}
use Rattle.pl_record.proofs.visit_slots.freeing.free_visit.Given.{Over}
use Rattle.pl_record.proofs.visit_slots.freeing.free_visit.Goals as goal
use Rattle.pl_record.proofs.visit_slots.freeing.free_visit.Goals.{After-unlink, After-unlink-2}
use Rattle.pl_rail.specs.declared.owner.Owner.TheVariants.{At, Header}
use Rattle.pl_rail.specs.Rails.{HasMember}
use Rattle.pl_slot.specs.declared.kind.LiveKind.TheVariants as live
use Rattle.pl_slot.specs.declared.kind.SlotKind.TheVariants as kinds
use Rattle.pl_slot.specs.declared.links.Rail.TheVariants.{Live, PageVisits, Targets}
use Rattle.pl_slot.specs.Arena.{header_of}

visit_live : kinds.Visit ≢ kinds.Free
visit_live same = absurd (cc)

read : (g : Over) (c : After-unlink g) (held : HoldsVisit c.args.slot c.args.arena.now)
    → c.read_visit-visit.result ≡ held.visit
read g c held = visit_read c.args.slot c.args.arena.now held c.read_visit-visit.result c.read_visit-visit.ensures.row

source : (g : Over) (c : After-unlink g) (held : HoldsVisit c.args.slot c.args.arena.now)
    → LeavesSource held.visit c.args.slot c.args.arena.now c.leave_source.new.arena
source g c held =
    subst (λ (v : Visit). LeavesSource v c.args.slot c.args.arena.now c.leave_source.new.arena) (read g c held)
    c.leave_source.ensures.left

page : (g : Over) (c : After-unlink g) (held : HoldsVisit c.args.slot c.args.arena.now)
    → Leaves PageVisits (At held.visit.page) c.args.slot c.leave_source.new.arena c.unlink.new.arena
page g c held =
    subst (λ (v : Visit). Leaves PageVisits (At v.page) c.args.slot c.leave_source.new.arena c.unlink.new.arena)
    (read g c held)
    (record {
      list = c.unlink.ensures.list;
      own = record { before = c.unlink.ensures.before; behind = c.unlink.ensures.behind };
      owners = c.unlink.ensures.owners;
      others = c.unlink.ensures.others;
      rest = c.unlink.ensures.rest;
      beside = c.unlink.ensures.beside;
      pages = c.unlink.ensures.pages;
    })

goes : (g : Over) (c : After-unlink-2 g)
    → Leaves Live (Header live.Visit) c.args.slot c.unlink.new.arena c.unlink-2.new.arena
goes g c =
    record {
      list = c.unlink-2.ensures.list;
      own = record { before = c.unlink-2.ensures.before; behind = c.unlink-2.ensures.behind };
      owners = c.unlink-2.ensures.owners;
      others = c.unlink-2.ensures.others;
      rest = c.unlink-2.ensures.rest;
      beside = c.unlink-2.ensures.beside;
      pages = c.unlink-2.ensures.pages;
    }

pub read_visit-visit-requires : goal.read_visit-visit-requires
read_visit-visit-requires g c = record { visit = visit_kind c.args.slot c.args.arena.now c.requires.held }

pub leave_source-requires : goal.leave_source-requires
leave_source-requires g c =
    let held = c.requires.held in
    record {
      of_source =
          subst (λ (v : Visit). v.source.0 ≢ 0 → HasMember Targets (At v.source) c.args.slot c.args.arena.now)
          (sym (visit_read c.args.slot c.args.arena.now held c.read_visit-visit.result c.read_visit-visit.ensures.row))
          held.of_source;
    }

pub unlink-requires : goal.unlink-requires
unlink-requires g c =
    let held = c.requires.held in
    let is = visit_read c.args.slot c.args.arena.now held c.read_visit-visit.result c.read_visit-visit.ensures.row in
    record {
      member =
          subst (λ (v : Visit). HasMember PageVisits (At v.page) c.args.slot c.leave_source.new.arena) (sym is)
          (of_page c.args.slot c.args.arena.now held c.leave_source.new.arena
          (subst (λ (v : Visit). LeavesSource v c.args.slot c.args.arena.now c.leave_source.new.arena) is
          c.leave_source.ensures.left));
    }

pub unlink-requires-2 : goal.unlink-requires-2
unlink-requires-2 g c =
    let held = c.requires.held in
    record {
      member =
          of_header c.args.slot c.args.arena.now held c.leave_source.new.arena (source g c.before.before held)
          c.unlink.new.arena (page g c.before.before held);
    }

abbrev earlier : (g : Over) → After-unlink-2 g → After-unlink g
earlier g c = c.before.before.before

pub give_back-requires : goal.give_back-requires
give_back-requires g c =
    let held = c.requires.held in
    record {
      live =
          kind_live c.args.slot.0 kinds.Visit c.unlink-2.new.arena
          (still_visit c.args.slot c.args.arena.now held c.leave_source.new.arena (source g (earlier g c.before) held)
          c.unlink.new.arena (page g (earlier g c.before) held) c.unlink-2.new.arena (goes g c.before)) visit_live;
    }

pub returns-clause-freed : goal.returns-clause-freed
returns-clause-freed g c held =
    let then_out = earlier g c.before.before in
    frees_visit c.args.slot c.args.arena.now held c.leave_source.new.arena (source g then_out held)
    c.unlink.new.arena (page g then_out held) c.unlink-2.new.arena (goes g c.before.before) c.give_back.new.self
    (record {
      first = (header_of c.unlink-2.new.arena).first_free;
      rows = c.give_back.ensures.rows;
      header = c.give_back.ensures.header;
      count = c.give_back.ensures.count;
      pages = c.give_back.ensures.pages;
    }) c.give_back.ensures.as_many
