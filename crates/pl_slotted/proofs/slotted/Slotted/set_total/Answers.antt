use Rattle.std.proofs.Common.{◌≡◌, ◌∷◌, [], arith}
use Rattle.pl_base.specs.Rows.{with_total}
use Rattle.pl_record.specs.LinkedRows.{AreLinked}
use Rattle.pl_record.proofs.Bases.{at_most, base_kept, same_count}
use Rattle.pl_record.proofs.Kept.{origin_kind}
use Rattle.pl_record.proofs.TotalSet.{total_set}
use Rattle.pl_record.proofs.Moves.{then_kept, then_keeps}
use Rattle.pl_record.proofs.TouchedRows.{are_pages, pages_told}
use Rattle.pl_slotted.proofs.slotted.Slotted.set_total.Given.{Over}
use Rattle.pl_slotted.proofs.slotted.Slotted.set_total.Goals as goal
use Rattle.pl_slotted.proofs.slotted.Slotted.set_total.Goals.{After-put_total}
use Rattle.pl_sheets.specs.Sheets.{page_count}
use Rattle.pl_slot.specs.Arena.{slot_page}

moved : (g : Over) (c : After-put_total g)
    → AreLinked c.args.self.now.rows.kept c.args.self.now.rows.targets c.args.self.now.arena
    c.args.self.now.pages.entries
    c.args.self.now.visits.entries c.args.self.now.items.entries
    → AreLinked
    (with_total c.args.origin c.args.total c.args.self.now.rows.kept) c.args.self.now.rows.targets c.put_total.new.arena
    c.args.self.now.pages.entries c.args.self.now.visits.entries c.args.self.now.items.entries
moved g c l =
    let s = c.args.self.now in
    total_set s.rows.kept s.rows.targets s.arena c.put_total.new.arena s.pages.entries s.visits.entries s.items.entries
    l
    c.args.origin c.args.total c.put_total.ensures.set

pub put_total-requires : goal.put_total-requires
put_total-requires g c =
    let s = c.args.self.now in
    record {
      origin = origin_kind s.arena s.pages.entries s.visits.entries s.items.entries s.rows c.args.origin c.requires;
    }

pub invariant_of-self : goal.invariant_of-self
invariant_of-self g c =
    let s = c.args.self.now in
    record {
      rows =
          then_keeps s.arena c.put_total.new.arena s.pages.entries s.visits.entries s.items.entries s.pages.entries
          s.visits.entries s.items.entries s.rows (with_total c.args.origin c.args.total s.rows.kept) s.rows.targets
          (moved g c);
    }

pub returns-clause-kept : goal.returns-clause-kept
returns-clause-kept g c =
    let s = c.args.self.now in
    then_kept s.arena c.put_total.new.arena s.pages.entries s.visits.entries s.items.entries s.pages.entries
    s.visits.entries s.items.entries s.rows (with_total c.args.origin c.args.total s.rows.kept) s.rows.targets
    (moved g c.before) c.self-1.given.0

pub returns-clause-pages : goal.returns-clause-pages
returns-clause-pages g c =
    let s = c.args.self.now in
    let told = pages_told s.arena s.pages.entries s.visits.entries s.items.entries s.rows in
    let same : page_count c.put_total.new.arena ≡ page_count s.arena =
    same_count s.arena c.put_total.new.arena told c.put_total.ensures.set.arena c.put_total.ensures.set.header in
    at_most (slot_page c.args.origin.0 ∷ []) 1 s.arena c.put_total.new.arena
    (omega (arith, same)) c.put_total.ensures.set.pages (omega arith)

pub returns-clause-base : goal.returns-clause-base
returns-clause-base g c =
    let s = c.args.self.now in
    base_kept (slot_page c.args.origin.0 ∷ []) s.arena c.put_total.new.arena
    (are_pages s.arena s.pages.entries s.visits.entries s.items.entries s.rows) c.put_total.ensures.set.pages
