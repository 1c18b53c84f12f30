use Rattle.std.proofs.Common.{◌∷◌, []}
use Rattle.pl_base.specs.Rows.{with_day}
use Rattle.pl_record.proofs.Bases.{base_kept}
use Rattle.pl_record.proofs.Moves.{then_kept, then_keeps}
use Rattle.pl_record.proofs.TotalSet.{day_set}
use Rattle.pl_record.proofs.TouchedRows.{are_pages}
use Rattle.pl_slotted.proofs.slotted.Slotted.set_day.Goals as goal
use Rattle.pl_slot.specs.Arena.{header_page}

pub invariant_of-self : goal.invariant_of-self
invariant_of-self g c =
    let s = c.args.self.now in
    record {
      rows =
          then_keeps s.arena c.set_day.new.self s.pages.entries s.visits.entries s.items.entries s.pages.entries
          s.visits.entries s.items.entries s.rows (with_day c.args.day s.rows.kept) s.rows.targets
          (λ l. day_set s.rows.kept s.rows.targets s.arena c.set_day.new.self s.pages.entries s.visits.entries
          s.items.entries l c.args.day c.requires c.set_day.ensures.set c.set_day.ensures.arena);
    }

pub returns-clause-kept : goal.returns-clause-kept
returns-clause-kept g c =
    let s = c.args.self.now in
    then_kept s.arena c.set_day.new.self s.pages.entries s.visits.entries s.items.entries s.pages.entries
    s.visits.entries s.items.entries s.rows (with_day c.args.day s.rows.kept) s.rows.targets
    (λ l. day_set s.rows.kept s.rows.targets s.arena c.set_day.new.self s.pages.entries s.visits.entries
    s.items.entries l c.args.day c.requires c.set_day.ensures.set c.set_day.ensures.arena) c.self-1.given.0

pub returns-clause-base : goal.returns-clause-base
returns-clause-base g c =
    let s = c.args.self.now in
    base_kept (header_page ∷ []) s.arena c.set_day.new.self
    (are_pages s.arena s.pages.entries s.visits.entries s.items.entries s.rows) c.set_day.ensures.set.pages
