-- Where all tests pass, what was read is accepted.
use Rattle.std.proofs.Common.{Err, Ok, Result}
use Rattle.std.specs.Result.{IfOk}
use Rattle.pl_base.specs.declared.check_error.CheckError.{CheckError}
use Rattle.pl_accept.specs.declared.accepted.Accepted.{Accepted}
use Rattle.pl_accept.specs.Accepted.{IsAccepted}
use Rattle.pl_accept.specs.Held.{AreByIds, IsCounted, IsLinked}
use Rattle.pl_accept.proofs.Indexed.{indexed}
use Rattle.pl_base.specs.Good.{IsGood, IsTree}
use Rattle.pl_base.specs.Rows.{IsWellKept, Kept}
use Rattle.pl_load.specs.Owners.{NameOwners}
use Rattle.pl_load.specs.Reads.{AreRead, AreReadFrom, Reads}
use Rattle.pl_load.proofs.Accepted.{laid, rows}
use Rattle.pl_load.proofs.ChainsRead.{targets_of}
use Rattle.pl_load.proofs.Layouts.{kept_of, layout_of}
use Rattle.pl_load.proofs.ParentsTold.{rows_read}
use Rattle.pl_load.proofs.WellRead.{good_rows}
use Rattle.pl_reading.specs.File.{IsNamed}
use Rattle.pl_record.specs.Form.{AreRows}
use Rattle.pl_record.specs.Records.{Layout}
use Rattle.pl_sheets.specs.Sheets.{Pages}
use Rattle.pl_slot.specs.Arena.{IsArena, header_of}
use Rattle.pl_sound.specs.Right.{IsMarked}
use Rattle.pl_stored.specs.Stored.{stored_store}

module _ (pages : Pages) (reads : Reads) (arena : IsArena pages)
    (header : IsNamed (header_of pages))
    (from : AreReadFrom pages reads) (owners : NameOwners pages reads) (good : IsGood (stored_store reads.stored))
    (counted : IsCounted pages reads) (linked : IsLinked pages reads) where
  are_rows : AreRows (kept_of reads) (targets_of pages reads linked.targets)
  are_rows =
      rows pages reads arena (header.form, header.rest) from owners linked.own linked.targets linked.lone good
      counted.names counted.count counted.live

  pub is_accepted : (a : Accepted) → AreByIds reads a
      → ((at : Layout) (kept : Kept) → AreRead at kept reads → IsWellKept kept → IsMarked kept) → IsAccepted pages a
  is_accepted a by marked =
      let m : IsMarked (kept_of reads) =
      marked (layout_of pages reads) (kept_of reads) (rows_read pages reads from good owners) are_rows.well in
      record {
        kept = kept_of reads;
        targets = targets_of pages reads linked.targets;
        linked =
            record {
              at = layout_of pages reads;
              rows = are_rows;
              laid =
                  laid pages reads arena (header.form, header.rest) from owners linked.own linked.targets linked.lone
                  good counted.names
                  counted.count counted.live;
              indexed = indexed pages reads from good owners a by;
            };
        sound = record { good = good_rows pages reads from good; right = m.right; totals = m.totals };
      }

-- where they pass once the items are known to be a tree
module _ (pages : Pages) (reads : Reads) (arena : IsArena pages) (header : IsNamed (header_of pages))
    (from : AreReadFrom pages reads) (owners : NameOwners pages reads)
    (good : IsTree reads.stored.items → IsGood (stored_store reads.stored)) (counted : IsCounted pages reads)
    (linked : IsLinked pages reads)
    (marked : (at : Layout) (kept : Kept) → AreRead at kept reads → IsWellKept kept → IsMarked kept) where
  pub accepted_where : (r : Result Accepted CheckError) → IfOk r (AreByIds reads)
      → IfOk r (λ _. IsTree reads.stored.items) → IfOk r (IsAccepted pages)
  accepted_where (Err e) by tree = tt
  accepted_where (Ok a) by tree =
      is_accepted pages reads arena header from owners (good tree) counted linked a by marked
