use Rattle.std.proofs.Common.{◌≡◌, ◌∷◌, [], arith}
use Rattle.pl_base.specs.Rows.{with_mark}
use Rattle.pl_record.specs.LinkedRows.{AreLinked}
use Rattle.pl_record.proofs.Bases.{at_most, base_kept, same_count}
use Rattle.pl_record.proofs.Kept.{page_kind}
use Rattle.pl_record.proofs.MarkSet.{mark_set}
use Rattle.pl_record.proofs.Moves.{then_kept, then_keeps}
use Rattle.pl_record.proofs.TouchedRows.{are_pages, pages_told}
use Rattle.pl_slotted.proofs.slotted.Slotted.set_mark.Given.{Over}
use Rattle.pl_slotted.proofs.slotted.Slotted.set_mark.Goals as goal
use Rattle.pl_slotted.proofs.slotted.Slotted.set_mark.Goals.{After-put_mark}
use Rattle.pl_sheets.specs.Sheets.{page_count}
use Rattle.pl_slot.specs.Arena.{slot_page}

moved : (g : Over) (c : After-put_mark g)
    → AreLinked c.args.self.now.rows.kept c.args.self.now.rows.targets c.args.self.now.arena
    c.args.self.now.pages.entries
    c.args.self.now.visits.entries c.args.self.now.items.entries
    → AreLinked
    (with_mark c.args.page c.args.mark c.args.self.now.rows.kept) c.args.self.now.rows.targets c.put_mark.new.arena
    c.args.self.now.pages.entries c.args.self.now.visits.entries c.args.self.now.items.entries
moved g c l =
    let s = c.args.self.now in
    mark_set s.rows.kept s.rows.targets s.arena c.put_mark.new.arena s.pages.entries s.visits.entries s.items.entries l
    c.args.page c.page_slot-slot.result c.args.mark c.page_slot-slot.ensures c.put_mark.ensures.set

pub put_mark-requires : goal.put_mark-requires
put_mark-requires g c =
    let s = c.args.self.now in
    record {
      place =
          page_kind s.arena s.pages.entries s.visits.entries s.items.entries s.rows c.args.page c.page_slot-slot.result
          c.page_slot-slot.ensures;
    }

pub invariant_of-self : goal.invariant_of-self
invariant_of-self g c =
    let s = c.args.self.now in
    record {
      rows =
          then_keeps s.arena c.put_mark.new.arena s.pages.entries s.visits.entries s.items.entries s.pages.entries
          s.visits.entries s.items.entries s.rows (with_mark c.args.page c.args.mark s.rows.kept) s.rows.targets
          (moved g c);
    }

pub returns-clause-kept : goal.returns-clause-kept
returns-clause-kept g c =
    let s = c.args.self.now in
    then_kept s.arena c.put_mark.new.arena s.pages.entries s.visits.entries s.items.entries s.pages.entries
    s.visits.entries s.items.entries s.rows (with_mark c.args.page c.args.mark s.rows.kept) s.rows.targets
    (moved g c.before) c.self-1.given.0

pub returns-clause-pages : goal.returns-clause-pages
returns-clause-pages g c =
    let s = c.args.self.now in
    let told = pages_told s.arena s.pages.entries s.visits.entries s.items.entries s.rows in
    let same : page_count c.put_mark.new.arena ≡ page_count s.arena =
    same_count s.arena c.put_mark.new.arena told c.put_mark.ensures.set.arena c.put_mark.ensures.set.header in
    at_most (slot_page c.page_slot-slot.result.0 ∷ []) 1 s.arena c.put_mark.new.arena
    (omega (arith, same)) c.put_mark.ensures.set.pages (omega arith)

pub returns-clause-base : goal.returns-clause-base
returns-clause-base g c =
    let s = c.args.self.now in
    base_kept (slot_page c.page_slot-slot.result.0 ∷ []) s.arena c.put_mark.new.arena
    (are_pages s.arena s.pages.entries s.visits.entries s.items.entries s.rows) c.put_mark.ensures.set.pages
