-- What holds of all linked rows, as every form of rows promises it.
use Rattle.std.specs.Prelude.{ℕ, List}
use Rattle.pl_base.specs.declared.id.VisitId.{VisitId}
use Rattle.pl_base.specs.Rows.{AreTargets, IsSound, IsWellKept, store_of}
use Rattle.pl_linked.specs.declared.linked.Linked.{Linked}
use Rattle.pl_record.specs.Form.{StandsFor}
use Rattle.pl_linked.specs.Linked.{IsBase, bytes_of, kept_of, sheets_of, targets_of}
use Rattle.pl_record.proofs.RowsKept as rows
use Rattle.pl_record.proofs.Standing as standing
use Rattle.pl_record.proofs.TouchedRows as touched
use Rattle.pl_sheets.specs.Sheets.{ArePages}

pub based : (linked : Linked) → (base_bytes : List ℕ) × IsBase linked base_bytes
based linked =
    let s = linked.slots in
    rows.based s.arena s.pages.entries s.visits.entries s.items.entries s.rows

pub well_kept : (linked : Linked) → IsWellKept (kept_of linked)
well_kept linked =
    let s = linked.slots in
    rows.well_kept s.arena s.pages.entries s.visits.entries s.items.entries s.rows

pub targeted : (linked : Linked) (source : VisitId)
    → AreTargets (store_of (kept_of linked)) source (targets_of linked source)
targeted linked source =
    let s = linked.slots in
    rows.targeted s.arena s.pages.entries s.visits.entries s.items.entries s.rows source

pub stands : (linked : Linked) → IsSound (kept_of linked)
    → StandsFor (bytes_of linked) (store_of (kept_of linked))
stands linked sound =
    let s = linked.slots in
    standing.stands s.arena s.pages.entries s.visits.entries s.items.entries s.rows sound

-- and its pages are whole ones
pub are_pages : (linked : Linked) → ArePages (sheets_of linked)
are_pages linked =
    let s = linked.slots in
    touched.are_pages s.arena s.pages.entries s.visits.entries s.items.entries s.rows
