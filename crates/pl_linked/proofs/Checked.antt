-- What the bytes of a file tell of the rows that were read of it.
use Rattle.std.proofs.Common.{◌≡◌, ◌≤◌, ◌↔◌, ◌∙◌, ◌++◌, ◌/◌, ℕ, Bool, List, ap, arith, drop, false, length, replicate, subst, sym}
use Rattle.std.proofs.Math.Logic.{∥∥₁_elim}
use Rattle.std.proofs.Math.Seq.{drop-append_seam}
use Rattle.std.proofs.Props.{props}
use Rattle.std.proofs.lemmas.List.{length-replicate}
use Rattle.pl_accept.specs.declared.accepted.Accepted.{Accepted}
use Rattle.pl_accept.specs.Accepted.{IsAccepted}
use Rattle.pl_base.specs.declared.id.VisitId.{VisitId}
use Rattle.pl_base.specs.Rows.{IsSound, Kept}
use Rattle.pl_base.specs.Store.{Store, Visit}
use Rattle.pl_base.specs.Touched.{page_size}
use Rattle.pl_reading.specs.File.{FileStandsFor, HasSlots, stored_pages}
use Rattle.pl_record.specs.Form.{IsForm, bytes_in, pages_of}
use Rattle.pl_record.specs.LinkedRows.{Entries, IsBaseOf, Keeps}
use Rattle.pl_record.proofs.Changes.{settled_base}
use Rattle.pl_record.proofs.OneForm.{one_form}
use Rattle.pl_sheets.specs.Sheets.{ArePages, Pages, settled, unchanged}

-- ---- bytes

-- pages that were made of bytes have them
pub bytes_again : (bytes : List ℕ) → bytes_in (pages_of bytes) ≡ bytes
bytes_again bytes =
    ap (λ (n : ℕ). drop n (replicate page_size 0 ++ bytes)) (sym (length-replicate {A = ℕ} page_size 0))
    ∙ drop-append_seam (replicate page_size 0) bytes

-- and none has changed
still_settled : (bytes : List ℕ) → settled (unchanged bytes) ≡ unchanged bytes
still_settled bytes =
    ap (λ (n : ℕ). record { bytes = bytes; changed = replicate n false; before = n })
    (length-replicate {A = Bool} (length bytes / page_size) false)

pub base_read : (bytes base_bytes : List ℕ) → ArePages (pages_of bytes)
    → IsBaseOf (pages_of bytes) base_bytes ↔ (base_bytes ≡ bytes)
base_read bytes base_bytes are =
    subst (λ (bs : List ℕ). IsBaseOf (pages_of bytes) base_bytes ↔ (base_bytes ≡ bs)) (bytes_again bytes)
    (subst (λ (p : Pages). IsBaseOf p base_bytes ↔ (base_bytes ≡ bytes_in (pages_of bytes)))
    (still_settled (replicate page_size 0 ++ bytes)) (settled_base (pages_of bytes) are base_bytes))

-- ---- stores

-- the form of rows has a header and slots
pub form_slots : (file : List ℕ) (kept : Kept) (targets : VisitId → List Visit) → IsForm kept targets (stored_pages file)
    → HasSlots file
form_slots file kept targets form =
    let arena = form.laid.arena in
    record {
      arena = arena;
      named =
          record {
            form = form.laid.header.form;
            some = subst (λ (n : ℕ). 2 ≤ n) (sym arena.told) arena.some_page;
            few = omega (arith, arena.few, arena.told);
            rest = form.laid.header.rest;
          };
    }

-- where no sound rows have the form, the file stands for no store
pub no_store : (file : List ℕ)
    → ((kept : Kept) (targets : VisitId → List Visit) → IsForm kept targets (stored_pages file) → IsSound kept → ⊥)
    → (store : Store) → FileStandsFor file store → ⊥
no_store file none store stands =
    ∥∥₁_elim stands.form (Prim.hlevel props) (λ form. none stands.kept stands.targets form stands.sound)

-- the rows that were accepted are those that the pages keep
pub sound_kept : (sheets : Pages) (a : Accepted) (accepted : IsAccepted sheets a) (pages visits items : Entries)
    (k : Keeps sheets pages visits items) → IsSound k.kept
sound_kept sheets a accepted pages visits items k =
    subst IsSound
    (∥∥₁_elim k.linked (Prim.hlevel props)
    (λ linked.
    (one_form accepted.kept k.kept accepted.targets k.targets sheets
    (record { at = accepted.linked.at; rows = accepted.linked.rows; laid = accepted.linked.laid })
    (record { at = linked.at; rows = linked.rows; laid = linked.laid })).0))
    accepted.sound

-- they are kept wherever these slots are found
pub accepted_keeps : (sheets : Pages) (a : Accepted) → IsAccepted sheets a → (pages visits items : Entries)
    → pages ≡ a.pages.entries → visits ≡ a.visits.entries → items ≡ a.items.entries → Keeps sheets pages visits items
accepted_keeps sheets a accepted pages visits items pages_are visits_are items_are =
    subst (λ (es : Entries). Keeps sheets es visits items) (sym pages_are)
    (subst (λ (es : Entries). Keeps sheets a.pages.entries es items) (sym visits_are)
    (subst (λ (es : Entries). Keeps sheets a.pages.entries a.visits.entries es) (sym items_are)
    (record { kept = accepted.kept; targets = accepted.targets; linked = ∣ accepted.linked ∣₁ })))
