-- What listing the changed pages leaves of an arena.
use Rattle.std.proofs.Common.{◌≡◌, ◌∙◌, ◌⊎◌, ◌≤◌, ◌<◌, ◌*◌, ℕ, ap, arith, Err, false, inl, inr, Ok, OnErr, OnOk, refl}
use Rattle.std.proofs.Common.{Result, subst, sym}
use Rattle.std.proofs.lemmas.Bool.{cases_Bool}
use Rattle.std.proofs.lemmas.List.{get_or-replicate, length-replicate}
use Rattle.pl_sheets.specs.Sheets.{ArePages, Pages, page_count, settled}
use Rattle.pl_slot.specs.Arena.{IsArena, KeepsRows, header_of, is_slot, live_count}
use Rattle.pl_slot.proofs.ArenaLaws.{arena_kept, same_rows}
use Rattle.pl_slot.proofs.SlotPlaces.{held, no_slot, same_slots}

pub either : {T E : Type 0} (r : Result T E) (P Q : Type 0) → OnOk r P → OnErr r Q → P ⊎ Q
either (Ok x) P Q holds other = inl holds
either (Err e) P Q other holds = inr holds

pub settled_count : (pages : Pages) → page_count (settled pages) ≡ page_count pages
settled_count pages = length-replicate (page_count pages) false

pub settled_are : (pages : Pages) → ArePages pages → ArePages (settled pages)
settled_are pages are =
    let count = settled_count pages in
    record {
      some_page = rw count are.some_page;
      few = rw count are.few;
      whole = are.whole ∙ ap (λ n. 1024 * n) (sym count);
      gate = get_or-replicate (page_count pages) 0 false false are.some_page;
      some_before = are.some_page;
      before = rw count (omega arith);
      added = λ p above below. absurd (never p (page_count pages) above (rw count at below));
    }
  where
    never : (p count : ℕ) → count ≤ p → p < count → ⊥
    never p count above below = omega arith

settled_rows : (pages : Pages) → KeepsRows pages (settled pages)
settled_rows pages n =
    let same = same_slots n pages (settled pages) (settled_count pages) in
    elim (cases_Bool (is_slot n pages)) [
      | inl there ↦ held n (settled pages) (same ∙ there) ∙ sym (held n pages there)
      | inr none ↦ no_slot n (settled pages) (same ∙ none) ∙ sym (no_slot n pages none)
    ]

settled_header : (pages : Pages) → header_of (settled pages) ≡ header_of pages
unfolding header_of
settled_header pages = refl

pub record Settles (old new : Pages) : Type 0 where
  pub arena : IsArena new
  pub rows : KeepsRows old new
  pub header : header_of new ≡ header_of old
  pub count : live_count new ≡ live_count old

settles_so : (pages : Pages) → IsArena pages → Settles pages (settled pages)
settles_so pages arena =
    let header = settled_header pages in
    record {
      arena =
          arena_kept pages (settled pages) arena (settled_are pages arena.whole) (settled_count pages)
          (settled_rows pages) (ap (λ h. h.pages) header) (ap (λ h. h.first_free) header);
      rows = settled_rows pages;
      header = header;
      count = same_rows pages (settled pages) (settled_rows pages) (settled_count pages);
    }

stays : (pages : Pages) → IsArena pages → Settles pages pages
stays pages arena = record { arena = arena; rows = λ n. refl; header = refl; count = refl }

pub settles : (old new : Pages) → IsArena old → (new ≡ settled old) ⊎ (new ≡ old) → Settles old new
settles old new arena told = elim told [
  | inl is ↦ subst (Settles old) (sym is) (settles_so old arena)
  | inr is ↦ subst (Settles old) (sym is) (stays old arena)
]
