-- What is read from pages that are the form of a good store's rows passes all tests.
use Rattle.std.proofs.Common.{◌∙◌, List, ap, subst, sym}
use Rattle.pl_accept.specs.Held.{IsCounted, IsLinked}
use Rattle.pl_base.specs.declared.id.VisitId.{VisitId}
use Rattle.pl_base.specs.Good.{IsGood, IsTree}
use Rattle.pl_base.specs.Rows.{IsSound, IsWellKept, Kept}
use Rattle.pl_base.specs.Store.{Visit}
use Rattle.pl_load.specs.Owners.{NameOwners}
use Rattle.pl_load.specs.Reads.{AreRead, AreReadFrom, Reads}
use Rattle.pl_load.specs.Whole.{HoldsAsForm}
use Rattle.pl_load.proofs.FormParents.{read_as_rows, read_from_form}
use Rattle.pl_load.proofs.FormReads.{are_read, reads_of}
use Rattle.pl_load.proofs.Refused.{form_holds, read_holds}
use Rattle.pl_record.specs.Form.{IsForm}
use Rattle.pl_record.specs.Records.{Layout}
use Rattle.pl_sheets.specs.Sheets.{Pages}
use Rattle.pl_sound.specs.Right.{IsMarked}
use Rattle.pl_sound.proofs.WholeRows.{stored_again}
use Rattle.pl_stored.specs.Stored.{stored_store}

module _ (pages : Pages) (kept : Kept) (targets : VisitId → List Visit) (form : IsForm kept targets pages)
    (sound : IsSound kept) where
  -- something is read
  pub not_unread : ((reads : Reads) → AreReadFrom pages reads → NameOwners pages reads → ⊥) → ⊥
  not_unread none =
      none (reads_of form.at kept) (read_from_form form.at kept targets pages form.rows form.laid)
      (form_holds form.at kept targets pages form.rows form.laid).owners

  module _ (reads : Reads) (from : AreReadFrom pages reads) where
    holds : HoldsAsForm pages reads
    holds = read_holds form.at kept targets pages form.rows form.laid reads from

    pub good_read : IsGood (stored_store reads.stored)
    good_read =
        subst IsGood
        (stored_again kept
        ∙ sym (ap (λ (r : Reads). stored_store r.stored)
        (read_as_rows form.at kept targets pages form.rows form.laid reads from)))
        sound.good

    pub counted : IsCounted pages reads
    counted = record { names = holds.names; count = holds.count; live = holds.live }

    pub linked : IsLinked pages reads
    linked = record { own = holds.own; targets = holds.targets; lone = holds.lone }

    -- what was computed is right
    pub marked : ((at : Layout) (k : Kept) → AreRead at k reads → IsWellKept k → IsMarked k → ⊥) → ⊥
    marked none =
        none form.at kept
        (subst (AreRead form.at kept)
        (sym (read_as_rows form.at kept targets pages form.rows form.laid reads from)) (are_read form.at kept))
        form.rows.well (record { right = sound.right; totals = sound.totals })

    pub tree : IsTree reads.stored.items
    tree = good_read.tree
