use Rattle.std.proofs.Common.{[], arith}
use Rattle.std.proofs.Math.Logic.{∥∥₁_elim}
use Rattle.std.proofs.Props.{props}
use Rattle.pl_base.specs.Rows.{with_new_page, with_origin}
use Rattle.pl_record.specs.LinkedRows.{AreLinked}
use Rattle.pl_record.proofs.LastEntry.{below_once}
use Rattle.pl_record.proofs.Moves.{then_kept, then_keeps}
use Rattle.pl_record.proofs.OneChains.{apart_map_once, lists_once, map_once, member_once}
use Rattle.pl_record.proofs.PageApart.{apart_chains, apart_few, apart_fits, apart_id, apart_kind, apart_moves, apart_room}
use Rattle.pl_record.proofs.PageApart.{apart_undone, undo_empty, undo_member}
use Rattle.pl_record.proofs.PageBounds.{apart_base, apart_pages}
use Rattle.pl_record.proofs.PageCalls.{last_id, next_page_id, page_chains}
use Rattle.pl_slotted.proofs.slotted.Slotted.insert_apart.Given.{Over}
use Rattle.pl_slotted.proofs.slotted.Slotted.insert_apart.Goals as goal
use Rattle.pl_slotted.proofs.slotted.Slotted.insert_apart.Goals.{After-count_page}
use Rattle.pl_rail.specs.declared.owner.Owner.TheVariants.{At, Header}
use Rattle.pl_slot.specs.declared.kind.LiveKind.TheVariants as live
use Rattle.pl_slot.specs.declared.links.Rail.TheVariants.{Live, OriginPages}

-- the rows with the page, where those were kept
moved : (g : Over) (c : After-count_page g)
    → AreLinked c.args.self.now.rows.kept c.args.self.now.rows.targets c.args.self.now.arena
    c.args.self.now.pages.entries c.args.self.now.visits.entries c.args.self.now.items.entries
    → AreLinked (with_new_page c.args.url.now c.in_ok-origin.origin
    (with_origin c.in_ok-origin.origin c.args.self.now.rows.kept)) c.args.self.now.rows.targets
    c.count_page.new.arena c.place_page.new.pages.entries c.args.self.now.visits.entries
    c.args.self.now.items.entries
moved g c l =
    let s = c.args.self.now in
    let placed = c.in-Ok.ensures.placed in
    apart_moves s.rows.kept s.rows.targets s.arena s.pages.entries s.visits.entries s.items.entries l c.args.url.now
    c.requires.url c.requires.origin c.in_ok-origin.origin c.insert_origin.new.arena c.in_ok-origin.ensures.inserted
    c.requires.absent c.requires.id c.requires.live c.ids.result c.ids.ensures placed.0 c.place_page.new.arena
    placed.1 c.count_page.new.arena c.count_page.ensures c.place_page.new.pages.entries placed.2

pub insert_origin-requires-clause-few : goal.insert_origin-requires-clause-few
insert_origin-requires-clause-few g c =
    let s = c.args.self.now in
    ∥∥₁_elim s.rows.linked (Prim.hlevel props)
    (λ l. apart_room s.rows.kept s.rows.targets s.arena s.pages.entries s.visits.entries s.items.entries l
    c.args.url.now c.requires.url c.requires.origin c.requires.live)

pub insert_origin-requires-clause-chained : goal.insert_origin-requires-clause-chained
insert_origin-requires-clause-chained g c =
    let s = c.args.self.now in
    ∥∥₁_elim s.rows.linked (map_once s.arena)
    (λ l.
    let chains = page_chains s.rows.kept s.rows.targets s.arena s.pages.entries s.visits.entries s.items.entries l in
    (chains.0, chains.1))

pub place_page-requires-clause-last : goal.place_page-requires-clause-last
place_page-requires-clause-last g c =
    let s = c.args.self.now in
    ∥∥₁_elim s.rows.linked (below_once s.pages.entries c.ids.result.page)
    (λ l. last_id s.rows.kept s.rows.targets s.arena s.pages.entries s.visits.entries s.items.entries l c.ids.result
    c.ids.ensures)

pub place_page-requires-clause-origin : goal.place_page-requires-clause-origin
place_page-requires-clause-origin g c =
    let s = c.args.self.now in
    ∥∥₁_elim s.rows.linked (Prim.hlevel props)
    (λ l. apart_kind s.rows.kept s.rows.targets s.arena s.pages.entries s.visits.entries s.items.entries l
    c.args.url.now c.requires.url c.requires.origin c.in_ok-origin.origin c.insert_origin.new.arena
    c.in_ok-origin.ensures.inserted)

pub place_page-requires-clause-few : goal.place_page-requires-clause-few
place_page-requires-clause-few g c =
    let s = c.args.self.now in
    ∥∥₁_elim s.rows.linked (Prim.hlevel props)
    (λ l. apart_fits s.rows.kept s.rows.targets s.arena s.pages.entries s.visits.entries s.items.entries l
    c.args.url.now c.requires.url c.requires.origin c.in_ok-origin.origin c.insert_origin.new.arena
    c.in_ok-origin.ensures.inserted c.requires.live)

pub place_page-requires-clause-chained : goal.place_page-requires-clause-chained
place_page-requires-clause-chained g c =
    let s = c.args.self.now in
    ∥∥₁_elim s.rows.linked (apart_map_once OriginPages c.insert_origin.new.arena)
    (λ l. apart_chains s.rows.kept s.rows.targets s.arena s.pages.entries s.visits.entries s.items.entries l
    c.args.url.now c.requires.url c.requires.origin c.in_ok-origin.origin c.insert_origin.new.arena
    c.in_ok-origin.ensures.inserted)

pub count_page-requires-clause-id : goal.count_page-requires-clause-id
count_page-requires-clause-id g c =
    let s = c.args.self.now in
    let placed = c.in-Ok.ensures.placed in
    ∥∥₁_elim s.rows.linked (Prim.hlevel props)
    (λ l. omega (
      arith,
      apart_id s.rows.kept s.rows.targets s.arena s.pages.entries s.visits.entries s.items.entries l c.args.url.now
          c.requires.url c.requires.origin c.in_ok-origin.origin c.insert_origin.new.arena
          c.in_ok-origin.ensures.inserted c.requires.absent c.requires.id c.requires.live c.ids.result
          c.ids.ensures placed.0 c.place_page.new.arena placed.1,
    ))

pub count_page-requires-clause-live : goal.count_page-requires-clause-live
count_page-requires-clause-live g c =
    let s = c.args.self.now in
    let placed = c.in-Ok.ensures.placed in
    ∥∥₁_elim s.rows.linked (Prim.hlevel props)
    (λ l. omega (
      arith,
      apart_few s.rows.kept s.rows.targets s.arena s.pages.entries s.visits.entries s.items.entries l c.args.url.now
          c.requires.url c.requires.origin c.in_ok-origin.origin c.insert_origin.new.arena
          c.in_ok-origin.ensures.inserted c.requires.absent c.requires.id c.requires.live c.ids.result
          c.ids.ensures placed.0 c.place_page.new.arena placed.1,
    ))

pub invariant_of-self-in-Ok : goal.invariant_of-self-in-Ok
invariant_of-self-in-Ok g c =
    let s = c.args.self.now in
    record {
      rows =
          then_keeps s.arena c.count_page.new.arena s.pages.entries s.visits.entries s.items.entries
          c.place_page.new.pages.entries s.visits.entries s.items.entries s.rows
          (with_new_page c.args.url.now c.in_ok-origin.origin (with_origin c.in_ok-origin.origin s.rows.kept))
          s.rows.targets (moved g c);
    }

pub remove_origin-requires-clause-member : goal.remove_origin-requires-clause-member
remove_origin-requires-clause-member g c =
    let s = c.args.self.now in
    ∥∥₁_elim s.rows.linked (member_once Live (Header live.Origin) c.in_ok-origin.origin c.place_page.new.arena)
    (λ l. undo_member s.rows.kept s.rows.targets s.arena s.pages.entries s.visits.entries s.items.entries l
    c.args.url.now c.requires.url c.requires.origin c.in_ok-origin.origin c.insert_origin.new.arena
    c.in_ok-origin.ensures.inserted c.place_page.new.arena c.in-Err.ensures.err)

pub remove_origin-requires-clause-empty : goal.remove_origin-requires-clause-empty
remove_origin-requires-clause-empty g c =
    let s = c.args.self.now in
    ∥∥₁_elim s.rows.linked (lists_once OriginPages (At c.in_ok-origin.origin) [] c.place_page.new.arena)
    (λ l. undo_empty s.rows.kept s.rows.targets s.arena s.pages.entries s.visits.entries s.items.entries l
    c.args.url.now c.requires.url c.requires.origin c.in_ok-origin.origin c.insert_origin.new.arena
    c.in_ok-origin.ensures.inserted c.place_page.new.arena c.in-Err.ensures.err)

pub invariant_of-self-in-Err : goal.invariant_of-self-in-Err
invariant_of-self-in-Err g c =
    let s = c.args.self.now in
    rw (c.in-Err.ensures.entries) (record {
      rows =
          then_keeps s.arena c.remove_origin.new.arena s.pages.entries s.visits.entries s.items.entries
          s.pages.entries s.visits.entries s.items.entries s.rows s.rows.kept s.rows.targets
          (λ l. apart_undone s.rows.kept s.rows.targets s.arena s.pages.entries s.visits.entries s.items.entries l
          c.args.url.now c.requires.url c.requires.origin c.in_ok-origin.origin c.insert_origin.new.arena
          c.in_ok-origin.ensures.inserted c.place_page.new.arena c.in-Err.ensures.err c.remove_origin.new.arena
          c.remove_origin.ensures.removed c.remove_origin.ensures.arena);
    })

pub returns-in-Ok-clause-page : goal.returns-in-Ok-clause-page
returns-in-Ok-clause-page g c =
    let s = c.args.self.now in
    ∥∥₁_elim s.rows.linked (Prim.hlevel props)
    (λ l. next_page_id s.rows.kept s.rows.targets s.arena s.pages.entries s.visits.entries s.items.entries l
    c.ids.result c.ids.ensures)

pub returns-in-Ok-clause-kept : goal.returns-in-Ok-clause-kept
returns-in-Ok-clause-kept g c =
    let s = c.args.self.now in
    let placed = c.in-Ok.ensures.placed in (
      c.in_ok-origin.origin,
      then_kept s.arena c.count_page.new.arena s.pages.entries s.visits.entries s.items.entries
          c.place_page.new.pages.entries s.visits.entries s.items.entries s.rows
          (with_new_page c.args.url.now c.in_ok-origin.origin (with_origin c.in_ok-origin.origin s.rows.kept))
          s.rows.targets
          (λ l. apart_moves s.rows.kept s.rows.targets s.arena s.pages.entries s.visits.entries s.items.entries l
          c.args.url.now c.requires.url c.requires.origin c.in_ok-origin.origin c.insert_origin.new.arena
          c.in_ok-origin.ensures.inserted c.requires.absent c.requires.id c.requires.live c.ids.result c.ids.ensures
          placed.0 c.place_page.new.arena placed.1 c.count_page.new.arena c.count_page.ensures
          c.place_page.new.pages.entries placed.2) c.self-in-Ok-1.given.0,
    )

pub returns-in-Ok-clause-pages : goal.returns-in-Ok-clause-pages
returns-in-Ok-clause-pages g c =
    let s = c.args.self.now in
    let placed = c.in-Ok.ensures.placed in
    apart_pages (record { 0 = c.ids.result.page }) c.args.url.now c.in_ok-origin.origin placed.0 _
    c.insert_origin.new.arena c.place_page.new.arena c.count_page.new.arena placed.1 c.count_page.ensures s.arena
    c.in_ok-origin.ensures.inserted

pub returns-in-Ok-clause-base : goal.returns-in-Ok-clause-base
returns-in-Ok-clause-base g c bytes base =
    let s = c.args.self.now in
    let placed = c.in-Ok.ensures.placed in
    ∥∥₁_elim s.rows.linked (Prim.hlevel props)
    (λ l. apart_base (record { 0 = c.ids.result.page }) c.args.url.now c.in_ok-origin.origin placed.0 _
    c.insert_origin.new.arena c.place_page.new.arena c.count_page.new.arena placed.1 c.count_page.ensures s.arena
    c.in_ok-origin.ensures.inserted l.laid.arena.whole bytes base)
