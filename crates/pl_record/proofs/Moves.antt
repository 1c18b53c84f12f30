-- That pages and slots by ids which have moved on keep the rows that were made of those kept
-- before.
use Rattle.std.proofs.Common.{◌≡◌, List, ap}
use Rattle.std.proofs.Math.Logic.{∥∥₁_elim, ∥∥₁_prop}
use Rattle.pl_base.specs.declared.id.VisitId.{VisitId}
use Rattle.pl_base.specs.Rows.{Kept}
use Rattle.pl_base.specs.Store.{Visit}
use Rattle.pl_record.specs.LinkedRows.{AreLinked, Entries, Keeps}
use Rattle.pl_record.proofs.OneKept.{keeps_once}
use Rattle.pl_sheets.specs.Sheets.{Pages}

module _ (old new : Pages) (ps vs is qs ws js : Entries) (k : Keeps old ps vs is) (kept : Kept)
    (targets : VisitId → List Visit)
    (moves : AreLinked k.kept k.targets old ps vs is → AreLinked kept targets new qs ws js) where
  pub then_keeps : Keeps new qs ws js
  then_keeps =
      record {
        kept = kept;
        targets = targets;
        linked = ∥∥₁_elim k.linked ∥∥₁_prop (λ l. ∣ moves l ∣₁);
      }

  pub then_kept : (j : Keeps new qs ws js) → j.kept ≡ kept
  unfolding then_keeps
  then_kept j = ap (λ (i : Keeps new qs ws js). i.kept) (keeps_once new qs ws js j then_keeps)
