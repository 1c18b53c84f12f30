use Rattle.std.proofs.Common.{arith}
use Rattle.std.proofs.Math.Logic.{∥∥₁_elim}
use Rattle.std.proofs.Props.{props}
use Rattle.pl_base.specs.Rows.{next_visit, with_visit}
use Rattle.pl_record.specs.LinkedRows.{AreLinked}
use Rattle.pl_record.proofs.LastEntry.{below_once}
use Rattle.pl_record.proofs.Moves.{then_kept, then_keeps}
use Rattle.pl_record.proofs.OneChains.{apart_maps_once}
use Rattle.pl_record.proofs.TargetLists.{with_target}
use Rattle.pl_record.proofs.VisitCalls.{visit_base, visit_chains, visit_last, visit_moves, visit_next_id}
use Rattle.pl_record.proofs.VisitCalls.{visit_next_live, visit_number, visit_page_kind, visit_pages, visit_room}
use Rattle.pl_record.proofs.VisitCalls.{visit_source_kind}
use Rattle.pl_slotted.proofs.slotted.Slotted.insert_visit.Given.{Over}
use Rattle.pl_slotted.proofs.slotted.Slotted.insert_visit.Goals as goal
use Rattle.pl_slotted.proofs.slotted.Slotted.insert_visit.Goals.{After-count_visit}
use Rattle.pl_slot.specs.declared.links.Rail.TheVariants.{PageVisits, Targets}

-- the rows with the visit, where those were kept
moved : (g : Over) (c : After-count_visit g)
    → AreLinked c.args.self.now.rows.kept c.args.self.now.rows.targets c.args.self.now.arena
    c.args.self.now.pages.entries c.args.self.now.visits.entries c.args.self.now.items.entries
    → AreLinked (with_visit c.args.row.now c.args.self.now.rows.kept)
    (with_target (next_visit c.args.row.now c.args.self.now.rows.kept) c.args.self.now.rows.targets)
    c.count_visit.new.arena c.args.self.now.pages.entries c.place_visit.new.visits.entries
    c.args.self.now.items.entries
moved g c l =
    let s = c.args.self.now in
    let placed = c.in_ok-place_visit.ensures.placed in
    visit_moves s.rows.kept s.rows.targets s.arena s.pages.entries s.visits.entries s.items.entries l c.args.row.now
    c.requires.page c.requires.source c.next_visit-visit.result c.next_visit-visit.ensures c.requires.id c.requires.live
    placed.0 c.place_visit.new.arena placed.1 c.requires.date c.count_visit.new.arena c.count_visit.ensures
    c.place_visit.new.visits.entries placed.2

pub place_visit-requires-clause-last : goal.place_visit-requires-clause-last
place_visit-requires-clause-last g c =
    let s = c.args.self.now in
    ∥∥₁_elim s.rows.linked (below_once s.visits.entries c.next_visit-visit.result.id.0)
    (λ l. visit_last s.rows.kept s.rows.targets s.arena s.pages.entries s.visits.entries s.items.entries l c.args.row.now
    c.requires.page c.requires.source c.next_visit-visit.result c.next_visit-visit.ensures)

pub place_visit-requires-clause-page : goal.place_visit-requires-clause-page
place_visit-requires-clause-page g c =
    let s = c.args.self.now in
    ∥∥₁_elim s.rows.linked (Prim.hlevel props)
    (λ l. visit_page_kind s.rows.kept s.rows.targets s.arena s.pages.entries s.visits.entries s.items.entries l
    c.args.row.now c.requires.page c.requires.source c.next_visit-visit.result c.next_visit-visit.ensures)

pub place_visit-requires-clause-source : goal.place_visit-requires-clause-source
place_visit-requires-clause-source g c =
    let s = c.args.self.now in
    ∥∥₁_elim s.rows.linked (Prim.hlevel props)
    (λ l. visit_source_kind s.rows.kept s.rows.targets s.arena s.pages.entries s.visits.entries s.items.entries l
    c.args.row.now c.requires.page c.requires.source c.next_visit-visit.result c.next_visit-visit.ensures)

pub place_visit-requires-clause-few : goal.place_visit-requires-clause-few
place_visit-requires-clause-few g c =
    let s = c.args.self.now in
    ∥∥₁_elim s.rows.linked (Prim.hlevel props)
    (λ l. visit_room s.rows.kept s.rows.targets s.arena s.pages.entries s.visits.entries s.items.entries l
    c.requires.live)

pub place_visit-requires-clause-chained : goal.place_visit-requires-clause-chained
place_visit-requires-clause-chained g c =
    let s = c.args.self.now in
    ∥∥₁_elim s.rows.linked (apart_maps_once PageVisits Targets s.arena)
    (λ l. visit_chains s.rows.kept s.rows.targets s.arena s.pages.entries s.visits.entries s.items.entries l)

pub count_visit-requires-clause-id : goal.count_visit-requires-clause-id
count_visit-requires-clause-id g c =
    let s = c.args.self.now in
    let placed = c.in_ok-place_visit.ensures.placed in
    ∥∥₁_elim s.rows.linked (Prim.hlevel props)
    (λ l. omega (
      arith,
      visit_next_id s.rows.kept s.rows.targets s.arena s.pages.entries s.visits.entries s.items.entries l
          c.args.row.now c.requires.page c.requires.source c.next_visit-visit.result c.next_visit-visit.ensures
          c.requires.id c.requires.live placed.0 c.place_visit.new.arena placed.1,
    ))

pub count_visit-requires-clause-live : goal.count_visit-requires-clause-live
count_visit-requires-clause-live g c =
    let s = c.args.self.now in
    let placed = c.in_ok-place_visit.ensures.placed in
    ∥∥₁_elim s.rows.linked (Prim.hlevel props)
    (λ l. omega (
      arith,
      visit_next_live s.rows.kept s.rows.targets s.arena s.pages.entries s.visits.entries s.items.entries l
          c.args.row.now c.requires.page c.requires.source c.next_visit-visit.result c.next_visit-visit.ensures
          c.requires.id c.requires.live placed.0 c.place_visit.new.arena placed.1,
    ))

pub invariant_of-self-2 : goal.invariant_of-self-2
invariant_of-self-2 g c =
    let s = c.args.self.now in
    record {
      rows =
          then_keeps s.arena c.count_visit.new.arena s.pages.entries s.visits.entries s.items.entries s.pages.entries
          c.place_visit.new.visits.entries s.items.entries s.rows (with_visit c.args.row.now s.rows.kept)
          (with_target (next_visit c.args.row.now s.rows.kept) s.rows.targets) (moved g c);
    }

pub returns-clause-visit : goal.returns-clause-visit
returns-clause-visit g c =
    let s = c.args.self.now in
    ∥∥₁_elim s.rows.linked (Prim.hlevel props)
    (λ l. visit_number s.rows.kept s.rows.targets s.arena s.pages.entries s.visits.entries s.items.entries l
    c.args.row.now c.requires.page c.requires.source c.next_visit-visit.result c.next_visit-visit.ensures)

pub returns-clause-kept : goal.returns-clause-kept
returns-clause-kept g c =
    let s = c.args.self.now in
    let placed = c.in_ok-place_visit.ensures.placed in
    then_kept s.arena c.count_visit.new.arena s.pages.entries s.visits.entries s.items.entries s.pages.entries
    c.place_visit.new.visits.entries s.items.entries s.rows (with_visit c.args.row.now s.rows.kept)
    (with_target (next_visit c.args.row.now s.rows.kept) s.rows.targets)
    (λ l. visit_moves s.rows.kept s.rows.targets s.arena s.pages.entries s.visits.entries s.items.entries l
    c.args.row.now c.requires.page c.requires.source c.next_visit-visit.result c.next_visit-visit.ensures c.requires.id
    c.requires.live placed.0 c.place_visit.new.arena placed.1 c.requires.date c.count_visit.new.arena
    c.count_visit.ensures c.place_visit.new.visits.entries placed.2) c.self-2-1.given.0

pub returns-clause-pages : goal.returns-clause-pages
returns-clause-pages g c =
    let s = c.args.self.now in
    let placed = c.in_ok-place_visit.ensures.placed in
    visit_pages c.next_visit-visit.result placed.0 s.arena c.place_visit.new.arena c.count_visit.new.arena placed.1
    c.count_visit.ensures

pub returns-clause-base : goal.returns-clause-base
returns-clause-base g c bytes base =
    let s = c.args.self.now in
    let placed = c.in_ok-place_visit.ensures.placed in
    ∥∥₁_elim s.rows.linked (Prim.hlevel props)
    (λ l. visit_base c.next_visit-visit.result placed.0 s.arena c.place_visit.new.arena c.count_visit.new.arena placed.1
    c.count_visit.ensures l.laid.arena.whole bytes base)
