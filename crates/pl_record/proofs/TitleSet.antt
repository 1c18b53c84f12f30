-- The rows of a store in linked slots where a page gets another title, whose slots are there
-- already.
use Rattle.std.proofs.Common.{◌≡◌, ◌≢◌, ◌∙◌, ◌==◌, ℕ, Bool, List, Some, ap, eq-eqb, if◌then◌else◌, is_some, length}
use Rattle.std.proofs.Common.{refl, sym}
use Rattle.std.specs.List.{slice_index_or}
use Rattle.std.proofs.lemmas.Bool.{ne_eqb}
use Rattle.pl_base.specs.declared.id.PageId.{PageId}
use Rattle.pl_base.specs.declared.id.Slot.{Slot}
use Rattle.pl_base.specs.declared.id.VisitId.{VisitId}
use Rattle.pl_base.specs.Rows.{Kept, KeptPage, page_at, titled, with_title}
use Rattle.pl_base.specs.Store.{Visit}
use Rattle.pl_record.specs.declared.rows.TextAt.{TextAt}
use Rattle.pl_record.specs.Chains.{HasAlone, HasChains, HasLive}
use Rattle.pl_record.specs.Form.{IsHeader, IsLaid}
use Rattle.pl_record.specs.Records.{HoldsOnce, HoldsRows, HoldsTexts, Layout, item_record, origin_record, page_record}
use Rattle.pl_record.specs.Records.{unlinked, visit_record}
use Rattle.pl_record.specs.Rows as rows
use Rattle.pl_record.specs.Rows.{SetsRow}
use Rattle.pl_record.proofs.ChainsKept as held
use Rattle.pl_record.proofs.ChainsKept.{KeepsEnds, KeepsLinks, KeepsMembers, same_header, same_kinds, same_links}
use Rattle.pl_record.proofs.PageMaps.{alone_mapped, chains_mapped, live_mapped}
use Rattle.pl_record.proofs.PagesWritten.{written_pages}
use Rattle.pl_record.proofs.RowSets.{live_kept, other_row, part_kept, texts_by_parts, texts_each}
use Rattle.pl_record.proofs.SameRows as same
use Rattle.pl_record.proofs.TitleSlots.{titling, titling_id, titling_origin, with_title_at}
use Rattle.pl_sheets.specs.Sheets.{Pages}
use Rattle.pl_slot.specs.declared.kind.LiveKind.{LiveKind}
use Rattle.pl_slot.specs.declared.kind.LiveKind.TheVariants as live
use Rattle.pl_slot.specs.declared.kind.SlotKind.TheVariants as kinds
use Rattle.pl_slot.specs.declared.row.SlotRow.{SlotRow}
use Rattle.pl_slot.specs.declared.row.SlotRow.TheVariants.{Free, Item, Origin, Place, Text, Visit as VisitRow}
use Rattle.pl_slot.specs.Arena.{IsArena, SetsHeader, first_in, header_of, live_row}
use Rattle.pl_slot.specs.Header.{ends_of}
use Rattle.pl_slot.specs.Slot.{slot_kind}
use Rattle.pl_text.specs.Chunks.{Hold}

-- ---- a title in a row

pub title_unlinks : (text : TextAt) (row : SlotRow)
    → unlinked (rows.with_title text row) ≡ rows.with_title text (unlinked row)
title_unlinks text (Free next) = refl
title_unlinks text (Origin a b c d e) = refl
title_unlinks text (Place a b c d e f g h i j k l m n o p q r) = refl
title_unlinks text (VisitRow a b c d e f g h i j k l m) = refl
title_unlinks text (Item a b c d e f g h i j k l m n o p) = refl
title_unlinks text (Text a b c) = refl

pub title_others : (text : TextAt) (row : SlotRow) → slot_kind row ≢ kinds.Place → rows.with_title text row ≡ row
title_others text (Free next) apart = refl
title_others text (Origin a b c d e) apart = refl
title_others text (Place a b c d e f g h i j k l m n o p q r) apart = absurd (apart refl)
title_others text (VisitRow a b c d e f g h i j k l m) apart = refl
title_others text (Item a b c d e f g h i j k l m n o p) apart = refl
title_others text (Text a b c) apart = refl

pub title_lives : (text : TextAt) (row : SlotRow)
    → is_some (live_row (rows.with_title text row)) ≡ is_some (live_row row)
title_lives text (Free next) = refl
title_lives text (Origin a b c d e) = refl
title_lives text (Place a b c d e f g h i j k l m n o p q r) = refl
title_lives text (VisitRow a b c d e f g h i j k l m) = refl
title_lives text (Item a b c d e f g h i j k l m n o p) = refl
title_lives text (Text a b c) = refl

-- ---- the row is written, and then the number of live slots

pub live_ends : (number : ℕ) (old new : Pages) → SetsHeader (λ h. record h { live = number }) old new
    → KeepsEnds old new
live_ends number old new sets kind = ap (ends_of kind) sets.header ∙ still kind
  where
    still : (k : LiveKind) → ends_of k (record (header_of old) { live = number }) ≡ ends_of k (header_of old)
    still live.Origin = refl
    still live.Place = refl
    still live.Visit = refl
    still live.Item = refl

module _ (kept : Kept) (targets : VisitId → List Visit) (at : Layout) (title slots : List ℕ) (text : TextAt)
    (id : PageId) (slot : Slot) (owner : KeptPage) (found : page_at kept id ≡ Some owner)
    (here : at.page owner.page.id ≡ slot) (begins : text.slot ≡ first_in slots) (long : text.length ≡ length title)
    (old middle new : Pages) (sets : SetsRow slot (rows.with_title text) old middle) (number : ℕ)
    (counts : SetsHeader (λ h. record h { live = number }) middle new) (arena : IsArena new) where
  abbrev bt : Layout
  bt = with_title_at id slots at

  abbrev now : Kept
  now = with_title id title kept

  made : (p : KeptPage) → p.page.id.0 ≡ id.0
      → record { slot = at.page p.page.id; row = rows.with_title text (page_record at p).row }
      ≡ page_record bt (titled title p)
  made p is =
      let first : text.slot ≡ first_in (if p.page.id.0 == id.0 then slots else at.title p.page.id) =
      begins ∙ sym
      (ap (λ (b : Bool). first_in (if b then slots else at.title p.page.id)) (eq-eqb p.page.id.0 id.0 is)) in
      λ i.
      record {
        slot = at.page p.page.id;
        row = rows.with_title (record { slot = first i; length = long i }) (page_record at p).row;
      }

  beside : (p : KeptPage) → p.page.id.0 ≢ id.0 → page_record bt p ≡ page_record at p
  beside p apart =
      ap (λ (b : Bool).
      record {
        slot = at.page p.page.id;
        row = rows.with_title
            (record {
              slot = first_in (if b then slots else at.title p.page.id);
              length = length p.page.title;
            })
            (page_record at p).row;
      }) (ne_eqb p.page.id.0 id.0 apart)

  rows_held : HoldsRows at kept old → HoldsRows bt now new
  rows_held row =
      same.rows_kept middle new counts.rows bt now targets
      (record {
        origins = λ k d within.
            other_row slot (rows.with_title text) kinds.Place old middle sets (title_unlinks text) (title_others text)
            (title_lives text) (origin_record (slice_index_or kept.origins k d)) (λ is. absurd (cc))
            (row.origins k d within);
        places =
            written_pages at kept old row.places id slot owner found here bt middle (rows.with_title text)
            (titled title) sets (title_unlinks text) (title_others text) (title_lives text) made beside;
        visits = λ k d within.
            other_row slot (rows.with_title text) kinds.Place old middle sets (title_unlinks text) (title_others text)
            (title_lives text) (visit_record at (slice_index_or kept.visits k d)) (λ is. absurd (cc))
            (row.visits k d within);
        items = λ k d within.
            other_row slot (rows.with_title text) kinds.Place old middle sets (title_unlinks text) (title_others text)
            (title_lives text) (item_record at kept.items (slice_index_or kept.items k d)) (λ is. absurd (cc))
            (row.items k d within);
      })

  text_kept : (ns bytes : List ℕ) → Hold ns bytes old → Hold ns bytes middle
  text_kept =
      texts_by_parts old middle
      (part_kept slot (rows.with_title text) kinds.Place old middle sets (title_unlinks text) (title_others text)
      (title_lives text) (λ is. absurd (cc)))

  texts_held : HoldsTexts bt now old → HoldsTexts bt now new
  texts_held texts =
      same.texts_kept middle new counts.rows bt now targets
      (texts_each bt now old middle text_kept texts)

  once_held : HoldsOnce bt now old → HoldsOnce bt now new
  once_held once =
      same.once_kept middle new counts.rows bt now targets
      (record {
        once = once.once;
        whole = λ n is.
            once.whole n
            (sym (live_kept slot (rows.with_title text) kinds.Place old middle sets (title_unlinks text)
            (title_others text) (title_lives text) n) ∙ is);
      })

  pub title_put : HoldsRows at kept old → HoldsTexts bt now old → HoldsOnce bt now old → HasLive at kept old
      → HasChains at kept targets old → HasAlone at kept old → IsHeader now (header_of new)
      → IsLaid bt now targets new
  title_put row texts once chain chains alone header =
      let members : KeepsMembers old middle = same_kinds old middle sets.kinds in
      let links : KeepsLinks old middle = same_links old middle sets.links in
      let ends : KeepsEnds old middle = same_header old middle sets.header in
      let members_on : KeepsMembers middle new = same_kinds middle new (same.kind_kept middle new counts.rows) in
      let links_on : KeepsLinks middle new = same_links middle new (same.link_kept middle new counts.rows) in
      let ends_on : KeepsEnds middle new = live_ends number middle new counts in
      let in_chains =
      live_mapped (titling id title) (titling_id id title) (titling_origin id title) at kept new
      (held.live_kept middle new members_on links_on ends_on at kept targets
      (held.live_kept old middle members links ends at kept targets chain)) in
      let of_owners =
      chains_mapped (titling id title) (titling_id id title) (titling_origin id title) at kept new targets
      (held.chains_kept middle new members_on links_on ends_on at kept targets
      (held.chains_kept old middle members links ends at kept targets chains)) in
      let in_none =
      alone_mapped (titling id title) (titling_id id title) (titling_origin id title) at kept new
      (held.alone_all_kept middle new members_on links_on ends_on at kept targets
      (held.alone_all_kept old middle members links ends at kept targets alone)) in
      record {
        arena = arena;
        header = header;
        rows = rows_held row;
        texts = texts_held texts;
        slots = once_held once;
        live = record {
          origins = in_chains.origins;
          places = in_chains.places;
          visits = in_chains.visits;
          items = in_chains.items;
        };
        chains = record {
          origins = of_owners.origins;
          visits = of_owners.visits;
          references = of_owners.references;
          targeted = of_owners.targeted;
          children = of_owners.children;
        };
        alone = record { visits = in_none.visits; roots = in_none.roots; others = in_none.others };
      }
