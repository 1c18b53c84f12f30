use Rattle.std.proofs.Common.{arith}
use Rattle.std.proofs.Math.Logic.{∥∥₁_elim}
use Rattle.std.proofs.Props.{props}
use Rattle.pl_base.specs.Rows.{with_new_page}
use Rattle.pl_record.specs.LinkedRows.{AreLinked}
use Rattle.pl_record.proofs.FreeMoved.{free_moved}
use Rattle.pl_record.proofs.LastEntry.{below_once}
use Rattle.pl_record.proofs.Moves.{then_kept, then_keeps}
use Rattle.pl_record.proofs.OneChains.{apart_map_once}
use Rattle.pl_record.proofs.PageBounds.{known_base, known_pages}
use Rattle.pl_record.proofs.PageCalls.{known_few, known_id, known_kind, known_moves, known_room, last_id}
use Rattle.pl_record.proofs.PageCalls.{next_page_id, page_chains}
use Rattle.pl_slotted.proofs.slotted.Slotted.insert_in.Given.{Over}
use Rattle.pl_slotted.proofs.slotted.Slotted.insert_in.Goals as goal
use Rattle.pl_slotted.proofs.slotted.Slotted.insert_in.Goals.{After-count_page}
use Rattle.pl_slot.specs.declared.links.Rail.TheVariants.{OriginPages}

-- the rows with the page, where those were kept
moved : (g : Over) (c : After-count_page g)
    → AreLinked c.args.self.now.rows.kept c.args.self.now.rows.targets c.args.self.now.arena
    c.args.self.now.pages.entries c.args.self.now.visits.entries c.args.self.now.items.entries
    → AreLinked (with_new_page c.args.url.now c.args.origin c.args.self.now.rows.kept) c.args.self.now.rows.targets
    c.count_page.new.arena c.place_page.new.pages.entries c.args.self.now.visits.entries
    c.args.self.now.items.entries
moved g c l =
    let s = c.args.self.now in
    let placed = c.in_ok-place_page.ensures.placed in
    known_moves s.rows.kept s.rows.targets s.arena s.pages.entries s.visits.entries s.items.entries l c.args.url.now
    c.args.origin c.requires.url c.requires.origin c.requires.absent c.requires.id c.requires.live c.ids.result
    c.ids.ensures placed.0 c.place_page.new.arena placed.1 c.count_page.new.arena c.count_page.ensures
    c.place_page.new.pages.entries placed.2

pub place_page-requires-clause-last : goal.place_page-requires-clause-last
place_page-requires-clause-last g c =
    let s = c.args.self.now in
    ∥∥₁_elim s.rows.linked (below_once s.pages.entries c.ids.result.page)
    (λ l. last_id s.rows.kept s.rows.targets s.arena s.pages.entries s.visits.entries s.items.entries l c.ids.result
    c.ids.ensures)

pub place_page-requires-clause-origin : goal.place_page-requires-clause-origin
place_page-requires-clause-origin g c =
    let s = c.args.self.now in
    ∥∥₁_elim s.rows.linked (Prim.hlevel props)
    (λ l. known_kind s.rows.kept s.rows.targets s.arena s.pages.entries s.visits.entries s.items.entries l
    c.args.url.now c.args.origin c.requires.url c.requires.origin)

pub place_page-requires-clause-few : goal.place_page-requires-clause-few
place_page-requires-clause-few g c =
    let s = c.args.self.now in
    ∥∥₁_elim s.rows.linked (Prim.hlevel props)
    (λ l. known_room s.rows.kept s.rows.targets s.arena s.pages.entries s.visits.entries s.items.entries l
    c.args.url.now c.args.origin c.requires.url c.requires.origin c.requires.live)

pub place_page-requires-clause-chained : goal.place_page-requires-clause-chained
place_page-requires-clause-chained g c =
    let s = c.args.self.now in
    ∥∥₁_elim s.rows.linked (apart_map_once OriginPages s.arena)
    (λ l. page_chains s.rows.kept s.rows.targets s.arena s.pages.entries s.visits.entries s.items.entries l)

pub invariant_of-self : goal.invariant_of-self
invariant_of-self g c =
    let s = c.args.self.now in
    let keeps = c.in_err-place_page.ensures.err in
    rw (c.in_err-place_page.ensures.entries) (record {
      rows =
          then_keeps s.arena c.place_page.new.arena s.pages.entries s.visits.entries s.items.entries s.pages.entries
          s.visits.entries s.items.entries s.rows s.rows.kept s.rows.targets
          (λ l. free_moved s.rows.kept s.rows.targets s.arena c.place_page.new.arena s.pages.entries s.visits.entries
          s.items.entries l keeps.live keeps.fields (keeps.arena l.laid.arena));
    })

pub count_page-requires-clause-id : goal.count_page-requires-clause-id
count_page-requires-clause-id g c =
    let s = c.args.self.now in
    let placed = c.in_ok-place_page.ensures.placed in
    ∥∥₁_elim s.rows.linked (Prim.hlevel props)
    (λ l. omega (
      arith,
      known_id s.rows.kept s.rows.targets s.arena s.pages.entries s.visits.entries s.items.entries l c.args.url.now
          c.args.origin c.requires.url c.requires.origin c.requires.absent c.requires.id c.requires.live c.ids.result
          c.ids.ensures placed.0 c.place_page.new.arena placed.1,
    ))

pub count_page-requires-clause-live : goal.count_page-requires-clause-live
count_page-requires-clause-live g c =
    let s = c.args.self.now in
    let placed = c.in_ok-place_page.ensures.placed in
    ∥∥₁_elim s.rows.linked (Prim.hlevel props)
    (λ l. omega (
      arith,
      known_few s.rows.kept s.rows.targets s.arena s.pages.entries s.visits.entries s.items.entries l c.args.url.now
          c.args.origin c.requires.url c.requires.origin c.requires.absent c.requires.id c.requires.live c.ids.result
          c.ids.ensures placed.0 c.place_page.new.arena placed.1,
    ))

pub invariant_of-self-2 : goal.invariant_of-self-2
invariant_of-self-2 g c =
    let s = c.args.self.now in
    record {
      rows =
          then_keeps s.arena c.count_page.new.arena s.pages.entries s.visits.entries s.items.entries
          c.place_page.new.pages.entries s.visits.entries s.items.entries s.rows
          (with_new_page c.args.url.now c.args.origin s.rows.kept) s.rows.targets (moved g c);
    }

pub returns-clause-page : goal.returns-clause-page
returns-clause-page g c =
    let s = c.args.self.now in
    ∥∥₁_elim s.rows.linked (Prim.hlevel props)
    (λ l. next_page_id s.rows.kept s.rows.targets s.arena s.pages.entries s.visits.entries s.items.entries l
    c.ids.result c.ids.ensures)

pub returns-clause-kept : goal.returns-clause-kept
returns-clause-kept g c =
    let s = c.args.self.now in
    let placed = c.in_ok-place_page.ensures.placed in
    then_kept s.arena c.count_page.new.arena s.pages.entries s.visits.entries s.items.entries
    c.place_page.new.pages.entries s.visits.entries s.items.entries s.rows
    (with_new_page c.args.url.now c.args.origin s.rows.kept) s.rows.targets
    (λ l. known_moves s.rows.kept s.rows.targets s.arena s.pages.entries s.visits.entries s.items.entries l
    c.args.url.now c.args.origin c.requires.url c.requires.origin c.requires.absent c.requires.id c.requires.live
    c.ids.result c.ids.ensures placed.0 c.place_page.new.arena placed.1 c.count_page.new.arena c.count_page.ensures
    c.place_page.new.pages.entries placed.2) c.self-2-1.given.0

pub returns-clause-pages : goal.returns-clause-pages
returns-clause-pages g c =
    let s = c.args.self.now in
    let placed = c.in_ok-place_page.ensures.placed in
    known_pages (record { 0 = c.ids.result.page }) c.args.url.now c.args.origin placed.0 _ s.arena
    c.place_page.new.arena c.count_page.new.arena placed.1 c.count_page.ensures

pub returns-clause-base : goal.returns-clause-base
returns-clause-base g c bytes base =
    let s = c.args.self.now in
    let placed = c.in_ok-place_page.ensures.placed in
    ∥∥₁_elim s.rows.linked (Prim.hlevel props)
    (λ l. known_base (record { 0 = c.ids.result.page }) c.args.url.now c.args.origin placed.0 _ s.arena
    c.place_page.new.arena c.count_page.new.arena placed.1 c.count_page.ensures l.laid.arena.whole bytes base)
