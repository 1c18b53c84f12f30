use Rattle.std.proofs.Common.{◌∷◌, []}
use Rattle.pl_base.specs.Rows.{with_items}
use Rattle.pl_base.specs.Tree.{redated}
use Rattle.pl_record.specs.LinkedRows.{AreLinked}
use Rattle.pl_record.proofs.Bases.{base_kept}
use Rattle.pl_record.proofs.ItemDated.{item_dated}
use Rattle.pl_record.proofs.Kept.{item_kind}
use Rattle.pl_record.proofs.Moves.{then_kept, then_keeps}
use Rattle.pl_record.proofs.TouchedRows.{are_pages}
use Rattle.pl_slotted.proofs.slotted.Slotted.set_modified.Given.{Over}
use Rattle.pl_slotted.proofs.slotted.Slotted.set_modified.Goals as goal
use Rattle.pl_slotted.proofs.slotted.Slotted.set_modified.Goals.{After-put_modified}
use Rattle.pl_slot.specs.Arena.{slot_page}

moved : (g : Over) (c : After-put_modified g)
    → AreLinked c.args.self.now.rows.kept c.args.self.now.rows.targets c.args.self.now.arena
    c.args.self.now.pages.entries
    c.args.self.now.visits.entries c.args.self.now.items.entries
    → AreLinked
    (with_items (redated c.args.item c.args.modified c.args.self.now.rows.kept.items) c.args.self.now.rows.kept)
    c.args.self.now.rows.targets c.put_modified.new.arena
    c.args.self.now.pages.entries c.args.self.now.visits.entries c.args.self.now.items.entries
moved g c l =
    let s = c.args.self.now in
    item_dated s.rows.kept s.rows.targets s.arena c.put_modified.new.arena s.pages.entries s.visits.entries
    s.items.entries l c.args.item c.item_slot-slot.result c.args.modified c.item_slot-slot.ensures
    c.put_modified.ensures.set

pub put_modified-requires : goal.put_modified-requires
put_modified-requires g c =
    let s = c.args.self.now in
    record {
      item =
          item_kind s.arena s.pages.entries s.visits.entries s.items.entries s.rows c.args.item c.item_slot-slot.result
          c.item_slot-slot.ensures;
    }

pub invariant_of-self : goal.invariant_of-self
invariant_of-self g c =
    let s = c.args.self.now in
    record {
      rows =
          then_keeps s.arena c.put_modified.new.arena s.pages.entries s.visits.entries s.items.entries s.pages.entries
          s.visits.entries s.items.entries s.rows
          (with_items (redated c.args.item c.args.modified s.rows.kept.items) s.rows.kept) s.rows.targets (moved g c);
    }

pub returns-clause-kept : goal.returns-clause-kept
returns-clause-kept g c =
    let s = c.args.self.now in
    then_kept s.arena c.put_modified.new.arena s.pages.entries s.visits.entries s.items.entries s.pages.entries
    s.visits.entries s.items.entries s.rows
    (with_items (redated c.args.item c.args.modified s.rows.kept.items) s.rows.kept) s.rows.targets
    (moved g c.before) c.self-1.given.0

pub returns-clause-base : goal.returns-clause-base
returns-clause-base g c =
    let s = c.args.self.now in
    base_kept (slot_page c.item_slot-slot.result.0 ∷ []) s.arena c.put_modified.new.arena
    (are_pages s.arena s.pages.entries s.visits.entries s.items.entries s.rows) c.put_modified.ensures.set.pages
