-- The rows of a store in linked slots where a page gets another mark.
use Rattle.std.proofs.Common.{◌≡◌, ◌≢◌, ◌∙◌, ◌==◌, ℕ, List, Some, ap, if◌then◌else◌, is_some, refl, subst, sym, true}
use Rattle.std.proofs.Common.{false}
use Rattle.std.specs.List.{slice_index_or}
use Rattle.std.proofs.lemmas.List.Elements.{All-map}
use Rattle.pl_base.specs.declared.id.PageId.{PageId}
use Rattle.pl_base.specs.declared.id.Slot.{Slot}
use Rattle.pl_base.specs.declared.id.VisitId.{VisitId}
use Rattle.pl_base.specs.declared.row.Mark.{Mark}
use Rattle.pl_base.specs.Rows.{Kept, KeptPage, marked, page_at, with_mark}
use Rattle.pl_base.specs.Store.{Visit}
use Rattle.pl_record.specs.Form.{IsHeader, IsLaid}
use Rattle.pl_record.specs.LinkedRows.{AreLinked, Entries, slot_at}
use Rattle.pl_record.specs.Records.{HoldsRows, HoldsTexts, item_record, origin_record, unlinked, visit_record}
use Rattle.pl_record.specs.Rows as rows
use Rattle.pl_record.specs.Rows.{SetsRow}
use Rattle.pl_record.proofs.LookUps.{Found}
use Rattle.pl_record.proofs.PageMaps.{alone_mapped, chains_mapped, entries_mapped, live_mapped, once_mapped}
use Rattle.pl_record.proofs.PagesChanged.{at_page, keeps_at, marked_rows, marked_slots}
use Rattle.pl_record.proofs.PagesTold.{page_found}
use Rattle.pl_record.proofs.PagesWritten.{written_pages}
use Rattle.pl_record.proofs.RowSets.{live_kept, other_row, part_kept, texts_by_parts}
use Rattle.pl_record.proofs.ChainsKept as held
use Rattle.pl_record.proofs.ChainsKept.{KeepsEnds, KeepsLinks, KeepsMembers, same_header, same_kinds, same_links}
use Rattle.pl_sheets.specs.Sheets.{Pages}
use Rattle.pl_slot.specs.declared.kind.SlotKind.TheVariants as kinds
use Rattle.pl_slot.specs.declared.row.SlotRow.{SlotRow}
use Rattle.pl_slot.specs.declared.row.SlotRow.TheVariants.{Free, Item, Origin, Place, Text, Visit as VisitRow}
use Rattle.pl_slot.specs.Arena.{header_of, live_row}
use Rattle.pl_slot.specs.Slot.{slot_kind}
use Rattle.pl_text.specs.Chunks.{Hold}

-- ---- a mark in a row

pub mark_unlinks : (mark : Mark) (row : SlotRow) → unlinked (rows.with_mark mark row) ≡ rows.with_mark mark
    (unlinked row)
mark_unlinks mark (Free next) = refl
mark_unlinks mark (Origin a b c d e) = refl
mark_unlinks mark (Place a b c d e f g h i j k l m n o p q r) = refl
mark_unlinks mark (VisitRow a b c d e f g h i j k l m) = refl
mark_unlinks mark (Item a b c d e f g h i j k l m n o p) = refl
mark_unlinks mark (Text a b c) = refl

pub mark_others : (mark : Mark) (row : SlotRow) → slot_kind row ≢ kinds.Place → rows.with_mark mark row ≡ row
mark_others mark (Free next) apart = refl
mark_others mark (Origin a b c d e) apart = refl
mark_others mark (Place a b c d e f g h i j k l m n o p q r) apart = absurd (apart refl)
mark_others mark (VisitRow a b c d e f g h i j k l m) apart = refl
mark_others mark (Item a b c d e f g h i j k l m n o p) apart = refl
mark_others mark (Text a b c) apart = refl

pub mark_lives : (mark : Mark) (row : SlotRow) → is_some (live_row (rows.with_mark mark row)) ≡ is_some (live_row row)
mark_lives mark (Free next) = refl
mark_lives mark (Origin a b c d e) = refl
mark_lives mark (Place a b c d e f g h i j k l m n o p q r) = refl
mark_lives mark (VisitRow a b c d e f g h i j k l m) = refl
mark_lives mark (Item a b c d e f g h i j k l m n o p) = refl
mark_lives mark (Text a b c) = refl

-- ---- a page with another mark

abbrev marking : PageId → Mark → KeptPage → KeptPage
marking id mark = at_page id (marked mark)

marking_id : (id : PageId) (mark : Mark) (p : KeptPage) → (marking id mark p).page.id ≡ p.page.id
marking_id id mark p = ap (λ (q : KeptPage). q.page.id) (keeps_at id (marked mark) (λ q. refl) p)

marking_url : (id : PageId) (mark : Mark) (p : KeptPage) → (marking id mark p).page.url ≡ p.page.url
marking_url id mark p = ap (λ (q : KeptPage). q.page.url) (keeps_at id (marked mark) (λ q. refl) p)

marking_title : (id : PageId) (mark : Mark) (p : KeptPage) → (marking id mark p).page.title ≡ p.page.title
marking_title id mark p =
    elim (p.page.id.0 == id.0) as (λ b. (if b then marked mark p else p).page.title ≡ p.page.title) [
      | true ↦ refl
      | false ↦ refl
    ]

marking_origin : (id : PageId) (mark : Mark) (p : KeptPage) → (marking id mark p).origin ≡ p.origin
marking_origin id mark p = ap (λ (q : KeptPage). q.origin) (keeps_at id (marked mark) (λ q. refl) p)

module _ (kept : Kept) (targets : VisitId → List Visit) (old new : Pages) (pages visits items : Entries)
    (l : AreLinked kept targets old pages visits items) (id : PageId) (slot : Slot) (mark : Mark)
    (some : slot_at pages id.0 ≡ Some slot) (sets : SetsRow slot (rows.with_mark mark) old new) where
  found : Found (λ (p : KeptPage). l.at.page p.page.id) (page_at kept id) slot
  found = page_found kept targets old pages visits items l id slot some

  rows_held : HoldsRows l.at (with_mark id mark kept) new
  rows_held =
      record {
        origins = λ k d within.
            other_row slot (rows.with_mark mark) kinds.Place old new sets (mark_unlinks mark) (mark_others mark)
            (mark_lives mark) (origin_record (slice_index_or kept.origins k d)) (λ is. absurd (cc))
            (l.laid.rows.origins k d within);
        places =
            written_pages l.at kept old l.laid.rows.places id slot found.row found.there found.here l.at new
            (rows.with_mark mark) (marked mark) sets (mark_unlinks mark) (mark_others mark) (mark_lives mark)
            (λ p is. refl) (λ p apart. refl);
        visits = λ k d within.
            other_row slot (rows.with_mark mark) kinds.Place old new sets (mark_unlinks mark) (mark_others mark)
            (mark_lives mark) (visit_record l.at (slice_index_or kept.visits k d)) (λ is. absurd (cc))
            (l.laid.rows.visits k d within);
        items = λ k d within.
            other_row slot (rows.with_mark mark) kinds.Place old new sets (mark_unlinks mark) (mark_others mark)
            (mark_lives mark) (item_record l.at kept.items (slice_index_or kept.items k d)) (λ is. absurd (cc))
            (l.laid.rows.items k d within);
      }

  text_kept : (ns text : List ℕ) → Hold ns text old → Hold ns text new
  text_kept ns text held =
      texts_by_parts old new
      (part_kept slot (rows.with_mark mark) kinds.Place old new sets (mark_unlinks mark) (mark_others mark)
      (mark_lives mark) (λ is. absurd (cc))) ns text held

  texts_held : HoldsTexts l.at (with_mark id mark kept) new
  texts_held =
      record {
        urls =
            All-map (λ (p : KeptPage). Hold (l.at.url p.page.id) p.page.url new) (marking id mark) kept.pages
            (λ k d within.
            let p : KeptPage = slice_index_or kept.pages k d in
            subst (λ url. Hold (l.at.url (marking id mark p).page.id) url new) (sym (marking_url id mark p))
            (subst (λ i. Hold (l.at.url i) p.page.url new) (sym (marking_id id mark p))
            (text_kept (l.at.url p.page.id) p.page.url (l.laid.texts.urls k d within))));
        titles =
            All-map (λ (p : KeptPage). Hold (l.at.title p.page.id) p.page.title new) (marking id mark) kept.pages
            (λ k d within.
            let p : KeptPage = slice_index_or kept.pages k d in
            subst (λ title. Hold (l.at.title (marking id mark p).page.id) title new) (sym (marking_title id mark p))
            (subst (λ i. Hold (l.at.title i) p.page.title new) (sym (marking_id id mark p))
            (text_kept (l.at.title p.page.id) p.page.title (l.laid.texts.titles k d within))));
        item_titles = λ k d within.
            text_kept (l.at.item_title (slice_index_or kept.items k d).id) (slice_index_or kept.items k d).title
            (l.laid.texts.item_titles k d within);
      }

  header_is : IsHeader (with_mark id mark kept) (header_of new)
  header_is =
      subst (IsHeader (with_mark id mark kept)) (sym sets.header)
      (record {
        form = l.laid.header.form;
        day = l.laid.header.day;
        ids = l.laid.header.ids;
        live = l.laid.header.live ∙ sym (marked_slots kept id mark l.rows.well.origins);
        rest = l.laid.header.rest;
      })

  laid : IsLaid l.at (with_mark id mark kept) targets new
  laid =
      let members : KeepsMembers old new = same_kinds old new sets.kinds in
      let links : KeepsLinks old new = same_links old new sets.links in
      let ends : KeepsEnds old new = same_header old new sets.header in
      record {
        arena = sets.arena;
        header = header_is;
        rows = rows_held;
        texts = texts_held;
        slots =
            once_mapped (marking id mark) (marking_id id mark) (marking_origin id mark) l.at kept new
            (record {
              once = l.laid.slots.once;
              whole = λ n is.
                  l.laid.slots.whole n
                  (sym (live_kept slot (rows.with_mark mark) kinds.Place old new sets (mark_unlinks mark)
                  (mark_others mark) (mark_lives mark) n) ∙ is);
            });
        live =
            live_mapped (marking id mark) (marking_id id mark) (marking_origin id mark) l.at kept new
            (held.live_kept old new members links ends l.at kept targets l.laid.live);
        chains =
            chains_mapped (marking id mark) (marking_id id mark) (marking_origin id mark) l.at kept new targets
            (held.chains_kept old new members links ends l.at kept targets l.laid.chains);
        alone =
            alone_mapped (marking id mark) (marking_id id mark) (marking_origin id mark) l.at kept new
            (held.alone_all_kept old new members links ends l.at kept targets l.laid.alone);
      }

  pub mark_set : AreLinked (with_mark id mark kept) targets new pages visits items
  mark_set =
      record {
        at = l.at;
        rows = marked_rows kept targets id mark l.rows;
        laid = laid;
        indexed = entries_mapped (marking id mark) (marking_id id mark)
            (marking_origin id mark) l.at kept pages visits items
            l.indexed;
      }
