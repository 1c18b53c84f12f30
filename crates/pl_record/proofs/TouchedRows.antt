-- What listing the changed pages leaves of the rows, and tells of the bytes.
use Rattle.std.proofs.Common.{◌≡◌, ◌↔◌, ◌⊎◌, ◌≤◌, ℕ, List, length}
use Rattle.std.proofs.Math.Logic.{∥∥₁_elim}
use Rattle.std.proofs.Props.{props}
use Rattle.std.specs.List.{All}
use Rattle.pl_base.specs.Touched.{IsWithin, MayDiffer, bytes_before, changed, page_numbers}
use Rattle.pl_record.specs.Form.{bytes_in}
use Rattle.pl_record.specs.LinkedRows.{AreLinked, Entries, IsBaseOf, Keeps}
use Rattle.pl_record.proofs.Changes as changes
use Rattle.pl_record.proofs.Moves.{then_kept, then_keeps}
use Rattle.pl_record.proofs.SameRows.{laid_kept}
use Rattle.pl_sheets.specs.Sheets.{ArePages, Pages, change_of, page_count, settled}
use Rattle.pl_slot.specs.Arena.{header_of}
use Rattle.pl_slot.proofs.Settled.{settles}

module _ (old new : Pages) (pages visits items : Entries) (told : (new ≡ settled old) ⊎ (new ≡ old))
    (k : Keeps old pages visits items) where
  moved : AreLinked k.kept k.targets old pages visits items → AreLinked k.kept k.targets new pages visits items
  moved l =
      let s = settles old new l.laid.arena told in
      record {
        at = l.at;
        rows = l.rows;
        laid = laid_kept old new s.rows l.at k.kept k.targets s.header s.arena l.laid;
        indexed = l.indexed;
      }

  -- the pages keep what they kept
  pub still_keeps : Keeps new pages visits items
  still_keeps = then_keeps old new pages visits items pages visits items k k.kept k.targets moved

  pub still_kept : (j : Keeps new pages visits items) → j.kept ≡ k.kept
  still_kept = then_kept old new pages visits items pages visits items k k.kept k.targets moved

module _ (sheets : Pages) (pages visits items : Entries) (k : Keeps sheets pages visits items) where
  so : {P : Type 0} → IsProp P → (ArePages sheets → P) → P
  so prop from = ∥∥₁_elim k.linked prop (λ l. from l.laid.arena.whole)

  pub are_pages : ArePages sheets
  are_pages = so (Prim.hlevel props) (λ are. are)

  pub pages_told : (header_of sheets).pages ≡ page_count sheets
  pages_told = ∥∥₁_elim k.linked (Prim.hlevel props) (λ l. l.laid.arena.told)

  pub whole : (bytes : List ℕ) → IsBaseOf sheets bytes → changed (change_of sheets) bytes ≡ bytes_in sheets
  whole bytes base = so (Prim.hlevel props) (λ are. changes.changed_all sheets are bytes base)

  pub after : length (bytes_in sheets) ≡ bytes_before (page_count sheets)
  after = so (Prim.hlevel props) (λ are. changes.bytes_long sheets are)

  pub within : IsWithin (change_of sheets)
  within = so (Prim.hlevel props) (λ are. changes.within sheets are)

  pub some : 1 ≤ sheets.before
  some = so (Prim.hlevel props) (λ are. are.some_before)

  pub needed : All (MayDiffer (IsBaseOf sheets) (bytes_in sheets)) (page_numbers (change_of sheets).pages)
  needed = so (Prim.hlevel props) (λ are. changes.needed sheets are)

  pub settled_base : (bytes : List ℕ) → IsBaseOf (settled sheets) bytes ↔ (bytes ≡ bytes_in sheets)
  settled_base bytes = so (Prim.hlevel props) (λ are. changes.settled_base sheets are bytes)
