-- The bytes of linked rows stand for their store: the form is seen of the bytes from page 1 on,
-- whatever page 0 has and whichever pages have changed.
use Rattle.std.proofs.Common.{◌≡◌, ◌∙◌, ◌*◌, ◌/◌, ◌≤◌, ℕ, List, ap, arith, false, inl, inr}
use Rattle.std.proofs.Common.{length, length-append, length-drop, refl, replicate, sym, take}
use Rattle.std.proofs.Math.Logic.{∥∥₁_elim, ∥∥₁_prop}
use Rattle.std.proofs.Math.Nat.{mul-div_cancel_left}
use Rattle.std.proofs.Props.{props}
use Rattle.std.proofs.lemmas.Bool.{cases_Bool}
use Rattle.std.proofs.lemmas.List.{get_or-replicate, length-replicate}
use Rattle.std.proofs.lemmas.Slice.{drop-append-drop}
use Rattle.pl_base.specs.declared.id.VisitId.{VisitId}
use Rattle.pl_base.specs.Live.{slot_size}
use Rattle.pl_base.specs.Rows.{IsSound, Kept, store_of}
use Rattle.pl_base.specs.Store.{Store, Visit}
use Rattle.pl_base.specs.Touched.{page_size}
use Rattle.pl_record.specs.Form.{IsForm, StandsFor, bytes_in, pages_of}
use Rattle.pl_record.specs.LinkedRows.{Entries, Keeps}
use Rattle.pl_record.proofs.OneForm.{one_form}
use Rattle.pl_record.proofs.SameRows.{laid_kept}
use Rattle.pl_sheets.specs.Sheets.{ArePages, Pages, bytes_at, page_count, place_in}
use Rattle.pl_slot.specs.Arena.{IsArena, KeepsRows, header_of, header_page, is_slot, slot_byte, slot_page}
use Rattle.pl_slot.specs.Header.{header_in}
use Rattle.pl_slot.specs.SlotReading.{row_of}
use Rattle.pl_slot.proofs.ArenaLaws.{arena_kept}
use Rattle.pl_slot.proofs.SlotPlaces.{held, no_slot, same_slots}

module _ (pages : Pages) (are : ArePages pages) where
  abbrev again : Pages
  again = pages_of (bytes_in pages)

  as_long : length again.bytes ≡ page_size * page_count pages
  as_long =
      omega (
        arith,
        length-append (replicate page_size 0) (bytes_in pages),
        length-replicate {A = ℕ} page_size 0,
        length-drop page_size pages.bytes,
        are.whole,
        are.some_page,
      )

  as_many : page_count again ≡ page_count pages
  as_many =
      length-replicate (length again.bytes / page_size) false ∙ ap (λ n. n / page_size) as_long
      ∙ mul-div_cancel_left (page_count pages) (omega arith)

  still_pages : ArePages again
  still_pages =
      record {
        some_page = rw as_many are.some_page;
        few = rw as_many are.few;
        whole = as_long ∙ ap (λ n. page_size * n) (sym as_many);
        gate =
            get_or-replicate (length again.bytes / page_size) 0 false false
            (rw (sym (length-replicate (length again.bytes / page_size) false), as_many) are.some_page);
        some_before =
            rw (sym (length-replicate (length again.bytes / page_size) false), as_many) are.some_page;
        before = omega (arith, length-replicate (length again.bytes / page_size) false);
        added = λ p above below.
            absurd (omega (arith, above, below, length-replicate (length again.bytes / page_size) false));
      }

  -- what lies behind page 0 is as it was
  same_bytes : (place count : ℕ) → page_size ≤ place
      → bytes_at place count again.bytes ≡ bytes_at place count pages.bytes
  same_bytes place count behind =
      ap (take count)
      (drop-append-drop page_size pages.bytes (replicate page_size 0) place behind
      (length-replicate {A = ℕ} page_size 0))

  same_rows : KeepsRows pages again
  same_rows n =
      let same = same_slots n pages again as_many in
      elim (cases_Bool (is_slot n pages)) [
        | inl there ↦
            held n again (same ∙ there)
            ∙ ap row_of (same_bytes (place_in (slot_page n) (slot_byte n)) slot_size (omega arith))
            ∙ sym (held n pages there)
        | inr none ↦ no_slot n again (same ∙ none) ∙ sym (no_slot n pages none)
      ]

  same_head : header_of again ≡ header_of pages
  unfolding header_of
  same_head = ap header_in (same_bytes (page_size * header_page) page_size (omega arith))

  -- the form of rows is one of the bytes
  pub form_again : (kept : Kept) (targets : VisitId → List Visit) → IsForm kept targets pages
      → IsForm kept targets again
  form_again kept targets form =
      let arena : IsArena again =
      arena_kept pages again form.laid.arena still_pages as_many same_rows (ap (λ h. h.pages) same_head)
      (ap (λ h. h.first_free) same_head) in
      record {
        at = form.at;
        rows = form.rows;
        laid = laid_kept pages again same_rows form.at kept targets same_head arena form.laid;
      }

pub stands : (sheets : Pages) (pages visits items : Entries) (k : Keeps sheets pages visits items) → IsSound k.kept
    → StandsFor (bytes_in sheets) (store_of k.kept)
stands sheets pages visits items k sound =
    record {
      kept = k.kept;
      targets = k.targets;
      form =
          ∥∥₁_elim k.linked ∥∥₁_prop
          (λ l. ∣ form_again sheets l.laid.arena.whole k.kept k.targets
          (record { at = l.at; rows = l.rows; laid = l.laid }) ∣₁);
      sound = sound;
      same = refl;
    }

-- and for one store alone
pub one_store : (bytes : List ℕ) (a b : Store) → StandsFor bytes a → StandsFor bytes b → a ≡ b
one_store bytes a b first second =
    ∥∥₁_elim first.form (Prim.hlevel props)
    (λ f. ∥∥₁_elim second.form (Prim.hlevel props)
    (λ g. sym first.same
    ∙ ap store_of (one_form first.kept second.kept first.targets second.targets (pages_of bytes) f g).0
    ∙ second.same))
