use Rattle.std.proofs.Common.{◌≡◌, ◌∙◌, ap, subst, sym}
use Rattle.pl_record.specs.declared.rows.Place.{Place}
use Rattle.pl_record.specs.SlotChanges.{FreesPlace, HoldsBare}
use Rattle.pl_record.proofs.Bases.{no_fewer}
use Rattle.pl_record.proofs.PlaceFreed.{bare_place, place_read, removes_place, title_left, url_left}
use Rattle.pl_record.proofs.page_slots.remove_place.Given.{Over}
use Rattle.pl_record.proofs.page_slots.remove_place.Goals as goal
use Rattle.pl_record.proofs.page_slots.remove_place.Goals.{After-free, After-free_place}
use Rattle.pl_rail.specs.declared.owner.Owner.TheVariants.{At}
use Rattle.pl_rail.specs.Rails.{HasMember}
use Rattle.pl_slot.specs.declared.links.Rail.TheVariants.{OriginPages}
use Rattle.pl_text.specs.Chunks.{FreesSlots, pages_of}

read : (g : Over) (c : After-free_place g) (held : HoldsBare c.args.slot c.args.arena.now)
    → c.read_place-place.result ≡ held.place
read g c held = place_read c.args.slot c.args.arena.now held c.read_place-place.result c.read_place-place.ensures.row

frees : (g : Over) (c : After-free_place g) (held : HoldsBare c.args.slot c.args.arena.now)
    → FreesPlace held.place.origin c.args.slot c.args.arena.now c.free_place.new.arena
frees g c held =
    subst (λ (p : Place). FreesPlace p.origin c.args.slot c.args.arena.now c.free_place.new.arena) (read g c held)
    c.free_place.ensures.freed

abbrev freed : (g : Over) → After-free g → After-free_place g
freed g c = c.before.before.before.before

-- the URL is freed
url_freed : (g : Over) (c : After-free g) (held : HoldsBare c.args.slot c.args.arena.now)
    → FreesSlots held.url_slots c.free_place.new.arena c.free.new.arena
url_freed g c held =
    c.free.ensures.freed held.url_slots held.url
    (ap (λ (p : Place). p.url.slot) (read g (freed g c) held) ∙ held.url_begins)
    (url_left c.args.slot c.args.arena.now held c.free_place.new.arena (frees g (freed g c) held))

pub free_place-requires-clause-place : goal.free_place-requires-clause-place
free_place-requires-clause-place g c = bare_place c.args.slot c.args.arena.now c.requires.bare

pub free_place-requires-clause-of_origin : goal.free_place-requires-clause-of_origin
free_place-requires-clause-of_origin g c =
    let held = c.requires.bare in
    subst (λ (p : Place). HasMember OriginPages (At p.origin) c.args.slot c.args.arena.now)
    (sym (place_read c.args.slot c.args.arena.now held c.read_place-place.result c.read_place-place.ensures.row))
    held.of_origin

pub free-requires : goal.free-requires
free-requires g c =
    let held = c.requires.bare in
    record {
      text = (
        held.url,
        record {
          slots = held.url_slots;
          first = ap (λ (p : Place). p.url.slot) (read g c.before.before.before held) ∙ held.url_begins;
          held =
              url_left c.args.slot c.args.arena.now held c.free_place.new.arena (frees g c.before.before.before held);
        },
      );
    }

pub free-requires-2 : goal.free-requires-2
free-requires-2 g c =
    let held = c.requires.bare in
    record {
      text = (
        held.title,
        record {
          slots = held.title_slots;
          first = ap (λ (p : Place). p.title.slot) (read g (freed g c.before.before.before) held) ∙ held.title_begins;
          held =
              title_left c.args.slot c.args.arena.now held c.free_place.new.arena
              (frees g (freed g c.before.before.before) held) c.free.new.arena
              (url_freed g c.before.before.before held);
        },
      );
    }

pub returns-clause-removed : goal.returns-clause-removed
returns-clause-removed g c held =
    let from = freed g c.before.before.before.before in
    let gone = frees g from held in
    let first = url_freed g c.before.before.before.before held in
    let second =
    c.free-2.ensures.freed held.title_slots held.title
    (ap (λ (p : Place). p.title.slot) (read g from held) ∙ held.title_begins)
    (title_left c.args.slot c.args.arena.now held c.free_place.new.arena gone c.free.new.arena first) in
    let whole = c.free_place.ensures.arena in
    let then = c.free.ensures.arena whole in
    removes_place c.args.slot c.args.arena.now held c.free_place.new.arena gone c.free.new.arena first
    c.free-2.new.arena second
    (no_fewer (pages_of held.url_slots) c.free_place.new.arena c.free.new.arena whole.whole then.whole first.pages)
    (no_fewer (pages_of held.title_slots) c.free.new.arena c.free-2.new.arena then.whole
    (c.free-2.ensures.arena then).whole second.pages)
