use Rattle.std.proofs.Common.{arith}
use Rattle.std.proofs.Math.Logic.{∥∥₁_elim}
use Rattle.std.proofs.Props.{props}
use Rattle.pl_base.specs.Rows.{with_item}
use Rattle.pl_record.specs.LinkedRows.{AreLinked}
use Rattle.pl_record.proofs.FreeMoved.{free_moved}
use Rattle.pl_record.proofs.ItemCalls.{after_there, folder_there, item_after, item_base, item_chains, item_last}
use Rattle.pl_record.proofs.ItemCalls.{item_moves, item_next_id, item_next_live, item_number, item_page_kind}
use Rattle.pl_record.proofs.ItemCalls.{item_parent_kind, item_room, members_once}
use Rattle.pl_record.proofs.LastEntry.{below_once}
use Rattle.pl_record.proofs.Moves.{then_kept, then_keeps}
use Rattle.pl_record.proofs.OneChains.{apart_maps_once}
use Rattle.pl_slotted.proofs.slotted.Slotted.insert_item.Given.{Over}
use Rattle.pl_slotted.proofs.slotted.Slotted.insert_item.Goals as goal
use Rattle.pl_slotted.proofs.slotted.Slotted.insert_item.Goals.{After-count_item}
use Rattle.pl_rail.specs.declared.owner.Owner.TheVariants.{At}
use Rattle.pl_slot.specs.declared.links.Rail.TheVariants.{Children, References}

-- the rows with the item, where those were kept
moved : (g : Over) (c : After-count_item g)
    → AreLinked c.args.self.now.rows.kept c.args.self.now.rows.targets c.args.self.now.arena
    c.args.self.now.pages.entries c.args.self.now.visits.entries c.args.self.now.items.entries
    → AreLinked (with_item c.args.row.now c.args.title.now c.args.after c.args.self.now.rows.kept)
    c.args.self.now.rows.targets c.count_item.new.arena c.args.self.now.pages.entries c.args.self.now.visits.entries
    c.place_item.new.items.entries
moved g c l =
    let s = c.args.self.now in
    let placed = c.in_ok-place_item.ensures.placed in
    item_moves s.rows.kept s.rows.targets s.arena s.pages.entries s.visits.entries s.items.entries l c.args.row.now
    c.args.title.now c.args.after c.requires.parent c.requires.after c.requires.page c.next_item-item.result
    c.next_item-item.ensures c.slot_after-after.result c.slot_after-after.ensures c.requires.id c.requires.live
    placed.0 c.place_item.new.arena placed.1
    (c.utf8.title, c.requires.title) c.count_item.new.arena c.count_item.ensures c.place_item.new.items.entries placed.2

pub next_item-item-requires-clause-parent : goal.next_item-item-requires-clause-parent
next_item-item-requires-clause-parent g c =
    folder_there c.args.self.now.rows.kept.items c.args.row.now.parent c.requires.parent

pub slot_after-after-requires : goal.slot_after-after-requires
slot_after-after-requires g c =
    let s = c.args.self.now in
    ∥∥₁_elim s.rows.linked (Prim.hlevel props)
    (λ l. after_there s.rows.kept s.rows.targets s.arena s.pages.entries s.visits.entries s.items.entries l
    c.args.row.now.parent c.args.after
    c.requires.parent c.requires.after)

pub place_item-requires-clause-last : goal.place_item-requires-clause-last
place_item-requires-clause-last g c =
    let s = c.args.self.now in
    ∥∥₁_elim s.rows.linked (below_once s.items.entries c.next_item-item.result.id.0)
    (λ l. item_last s.rows.kept s.rows.targets s.arena s.pages.entries s.visits.entries s.items.entries l
    c.args.row.now c.args.title.now c.args.after c.requires.parent c.requires.after c.requires.page
    c.next_item-item.result c.next_item-item.ensures c.slot_after-after.result c.slot_after-after.ensures)

pub place_item-requires-clause-parent : goal.place_item-requires-clause-parent
place_item-requires-clause-parent g c =
    let s = c.args.self.now in
    ∥∥₁_elim s.rows.linked (Prim.hlevel props)
    (λ l. item_parent_kind s.rows.kept s.rows.targets s.arena s.pages.entries s.visits.entries s.items.entries l
    c.args.row.now c.args.title.now c.args.after c.requires.parent c.requires.after c.requires.page
    c.next_item-item.result c.next_item-item.ensures c.slot_after-after.result c.slot_after-after.ensures)

pub place_item-requires-clause-page : goal.place_item-requires-clause-page
place_item-requires-clause-page g c =
    let s = c.args.self.now in
    ∥∥₁_elim s.rows.linked (Prim.hlevel props)
    (λ l. item_page_kind s.rows.kept s.rows.targets s.arena s.pages.entries s.visits.entries s.items.entries l
    c.args.row.now c.args.title.now c.args.after c.requires.parent c.requires.after c.requires.page
    c.next_item-item.result c.next_item-item.ensures c.slot_after-after.result c.slot_after-after.ensures)

pub place_item-requires-clause-after : goal.place_item-requires-clause-after
place_item-requires-clause-after g c =
    let s = c.args.self.now in
    ∥∥₁_elim s.rows.linked
    (members_once Children (At c.next_item-item.result.parent) s.arena c.slot_after-after.result)
    (λ l. item_after s.rows.kept s.rows.targets s.arena s.pages.entries s.visits.entries s.items.entries l
    c.args.row.now c.args.title.now c.args.after c.requires.parent c.requires.after c.requires.page
    c.next_item-item.result c.next_item-item.ensures c.slot_after-after.result c.slot_after-after.ensures)

pub place_item-requires-clause-few : goal.place_item-requires-clause-few
place_item-requires-clause-few g c =
    let s = c.args.self.now in
    ∥∥₁_elim s.rows.linked (Prim.hlevel props)
    (λ l. item_room s.rows.kept s.rows.targets s.arena s.pages.entries s.visits.entries s.items.entries l
    c.args.row.now c.args.title.now c.args.after
    c.requires.live)

pub place_item-requires-clause-chained : goal.place_item-requires-clause-chained
place_item-requires-clause-chained g c =
    let s = c.args.self.now in
    ∥∥₁_elim s.rows.linked (apart_maps_once Children References s.arena)
    (λ l. item_chains s.rows.kept s.rows.targets s.arena s.pages.entries s.visits.entries s.items.entries l)

pub invariant_of-self : goal.invariant_of-self
invariant_of-self g c =
    let s = c.args.self.now in
    let keeps = c.in_err-place_item.ensures.err in
    rw (c.in_err-place_item.ensures.entries) (record {
      rows =
          then_keeps s.arena c.place_item.new.arena s.pages.entries s.visits.entries s.items.entries s.pages.entries
          s.visits.entries s.items.entries s.rows s.rows.kept s.rows.targets
          (λ l. free_moved s.rows.kept s.rows.targets s.arena c.place_item.new.arena s.pages.entries s.visits.entries
          s.items.entries l keeps.live keeps.fields (keeps.arena l.laid.arena));
    })

pub count_item-requires-clause-id : goal.count_item-requires-clause-id
count_item-requires-clause-id g c =
    let s = c.args.self.now in
    let placed = c.in_ok-place_item.ensures.placed in
    ∥∥₁_elim s.rows.linked (Prim.hlevel props)
    (λ l. omega (
      arith,
      item_next_id s.rows.kept s.rows.targets s.arena s.pages.entries s.visits.entries s.items.entries l
          c.args.row.now c.args.title.now c.args.after c.requires.parent c.requires.after c.requires.page
          c.next_item-item.result c.next_item-item.ensures c.slot_after-after.result c.slot_after-after.ensures
          c.requires.id c.requires.live placed.0 c.place_item.new.arena placed.1,
    ))

pub count_item-requires-clause-live : goal.count_item-requires-clause-live
count_item-requires-clause-live g c =
    let s = c.args.self.now in
    let placed = c.in_ok-place_item.ensures.placed in
    ∥∥₁_elim s.rows.linked (Prim.hlevel props)
    (λ l. omega (
      arith,
      item_next_live s.rows.kept s.rows.targets s.arena s.pages.entries s.visits.entries s.items.entries l
          c.args.row.now c.args.title.now c.args.after c.requires.parent c.requires.after c.requires.page
          c.next_item-item.result c.next_item-item.ensures c.slot_after-after.result c.slot_after-after.ensures
          c.requires.id c.requires.live placed.0 c.place_item.new.arena placed.1,
    ))

pub invariant_of-self-2 : goal.invariant_of-self-2
invariant_of-self-2 g c =
    let s = c.args.self.now in
    record {
      rows =
          then_keeps s.arena c.count_item.new.arena s.pages.entries s.visits.entries s.items.entries s.pages.entries
          s.visits.entries c.place_item.new.items.entries s.rows
          (with_item c.args.row.now c.args.title.now c.args.after s.rows.kept) s.rows.targets (moved g c);
    }

pub returns-clause-item : goal.returns-clause-item
returns-clause-item g c =
    let s = c.args.self.now in
    ∥∥₁_elim s.rows.linked (Prim.hlevel props)
    (λ l. item_number s.rows.kept s.rows.targets s.arena s.pages.entries s.visits.entries s.items.entries l
    c.args.row.now c.args.title.now c.args.after c.requires.parent c.requires.after c.requires.page
    c.next_item-item.result c.next_item-item.ensures c.slot_after-after.result c.slot_after-after.ensures)

pub returns-clause-kept : goal.returns-clause-kept
returns-clause-kept g c =
    let s = c.args.self.now in
    let placed = c.in_ok-place_item.ensures.placed in
    then_kept s.arena c.count_item.new.arena s.pages.entries s.visits.entries s.items.entries s.pages.entries
    s.visits.entries c.place_item.new.items.entries s.rows
    (with_item c.args.row.now c.args.title.now c.args.after s.rows.kept) s.rows.targets
    (λ l. item_moves s.rows.kept s.rows.targets s.arena s.pages.entries s.visits.entries s.items.entries l
    c.args.row.now c.args.title.now c.args.after c.requires.parent c.requires.after c.requires.page
    c.next_item-item.result c.next_item-item.ensures c.slot_after-after.result c.slot_after-after.ensures
    c.requires.id c.requires.live placed.0 c.place_item.new.arena placed.1
    (c.utf8.title, c.requires.title) c.count_item.new.arena c.count_item.ensures c.place_item.new.items.entries
    placed.2) c.self-2-1.given.0

pub returns-clause-base : goal.returns-clause-base
returns-clause-base g c bytes base =
    let s = c.args.self.now in
    let placed = c.in_ok-place_item.ensures.placed in
    ∥∥₁_elim s.rows.linked (Prim.hlevel props)
    (λ l. item_base c.next_item-item.result c.args.title.now c.slot_after-after.result placed.0 s.arena
    c.place_item.new.arena c.count_item.new.arena placed.1 c.count_item.ensures l.laid.arena.whole bytes base)
