-- That pages with the slots by ids keep the rows of one store.
use mathlib.Core.HLevel.{is_prop→PathP}
use Rattle.std.proofs.Common.{◌≡◌, List}
use Rattle.std.proofs.Math.Logic.{∥∥₁_elim, ∥∥₁_prop}
use Rattle.std.proofs.Props.{props}
use Rattle.pl_base.specs.declared.id.VisitId.{VisitId}
use Rattle.pl_base.specs.Rows.{Kept}
use Rattle.pl_base.specs.Store.{Visit}
use Rattle.pl_record.specs.Form.{IsForm}
use Rattle.pl_record.specs.LinkedRows.{AreLinked, Entries, Keeps}
use Rattle.pl_record.proofs.OneForm.{one_form}
use Rattle.pl_sheets.specs.Sheets.{Pages}

kept_set : IsSet Kept
kept_set = Prim.hlevel props

targets_set : IsSet (VisitId → List Visit)
targets_set = Prim.hlevel props

form_of : (kept : Kept) (targets : VisitId → List Visit) (sheets : Pages)
    (pages visits items : Entries)
    → AreLinked kept targets sheets pages visits items → IsForm kept targets sheets
form_of kept targets sheets pages visits items l =
    record { at = l.at; rows = l.rows; laid = l.laid }

module _ (sheets : Pages) (pages visits items : Entries) (k l : Keeps sheets pages visits items)
  where
    same_rows : k.kept ≡ l.kept
    same_rows =
        ∥∥₁_elim k.linked (kept_set k.kept l.kept) (λ mine.
        ∥∥₁_elim l.linked (kept_set k.kept l.kept) (λ its.
        (one_form k.kept l.kept k.targets l.targets sheets
        (form_of k.kept k.targets sheets pages visits items mine)
        (form_of l.kept l.targets sheets pages visits items its)).0))

    same_targets : k.targets ≡ l.targets
    same_targets =
        ∥∥₁_elim k.linked (targets_set k.targets l.targets) (λ mine.
        ∥∥₁_elim l.linked (targets_set k.targets l.targets) (λ its.
        (one_form k.kept l.kept k.targets l.targets sheets
        (form_of k.kept k.targets sheets pages visits items mine)
        (form_of l.kept l.targets sheets pages visits items its)).1))

-- the same pages and slots keep the same rows
pub keeps_once : (sheets : Pages) (pages visits items : Entries)
    → IsProp (Keeps sheets pages visits items)
keeps_once sheets pages visits items k l =
    λ i.
    record {
      kept = same_rows sheets pages visits items k l i;
      targets = same_targets sheets pages visits items k l i;
      linked =
          is_prop→PathP (λ j.
          ∥ AreLinked (same_rows sheets pages visits items k l j)
          (same_targets sheets pages visits items k l j) sheets
          pages visits items ∥₁) (λ j. ∥∥₁_prop) k.linked l.linked i;
    }
