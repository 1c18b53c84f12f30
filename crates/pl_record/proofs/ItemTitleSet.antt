-- The rows of a store in linked slots where an item gets another title, whose slots are there
-- already.
use Rattle.std.proofs.Common.{◌≡◌, ◌≢◌, ◌∙◌, ℕ, Bool, List, Some, ap, eq-eqb, if◌then◌else◌, is_some, length, refl, sym}
use Rattle.std.proofs.lemmas.Bool.{ne_eqb}
use Rattle.pl_base.specs.declared.id.ItemId.{ItemId}
use Rattle.pl_base.specs.declared.id.Slot.{Slot}
use Rattle.pl_base.specs.declared.id.VisitId.{VisitId}
use Rattle.pl_base.specs.Rows.{Kept}
use Rattle.pl_base.specs.Store.{Item, Visit}
use Rattle.pl_base.specs.Tree.{item_at}
use Rattle.pl_record.specs.declared.rows.TextAt.{TextAt}
use Rattle.pl_record.specs.Chains.{HasAlone, HasChains, HasLive}
use Rattle.pl_record.specs.Form.{IsHeader, IsLaid}
use Rattle.pl_record.specs.Records.{HoldsOnce, HoldsRows, HoldsTexts, Layout, item_record, unlinked}
use Rattle.pl_record.specs.Rows as rows
use Rattle.pl_record.specs.Rows.{SetsRow}
use Rattle.pl_record.proofs.ChainsKept as held
use Rattle.pl_record.proofs.ChainsKept.{KeepsEnds, KeepsLinks, KeepsMembers, same_kinds, same_links}
use Rattle.pl_record.proofs.ItemRewritten.{put_alone, put_chains, put_live, put_once, put_rows, put_texts}
use Rattle.pl_record.proofs.ItemTitleSlots.{keeps_titled, title_there, titled, with_entitled, with_title_there}
use Rattle.pl_record.proofs.RowSets.{texts_each}
use Rattle.pl_record.proofs.SameRows as same
use Rattle.pl_record.proofs.TitleSet.{live_ends}
use Rattle.pl_sheets.specs.Sheets.{Pages}
use Rattle.pl_slot.specs.declared.kind.SlotKind.TheVariants as kinds
use Rattle.pl_slot.specs.declared.row.SlotRow.{SlotRow}
use Rattle.pl_slot.specs.declared.row.SlotRow.TheVariants.{Free, Item as ItemRow, Origin, Place, Text}
use Rattle.pl_slot.specs.declared.row.SlotRow.TheVariants.{Visit as VisitRow}
use Rattle.pl_slot.specs.Arena.{IsArena, SetsHeader, first_in, header_of, live_row}
use Rattle.pl_slot.specs.Slot.{slot_kind}

-- ---- a title in a row

title_unlinks : (text : TextAt) (row : SlotRow)
    → unlinked (rows.with_item_title text row) ≡ rows.with_item_title text (unlinked row)
title_unlinks text (Free next) = refl
title_unlinks text (Origin a b c d e) = refl
title_unlinks text (Place a b c d e f g h i j k l m n o p q r) = refl
title_unlinks text (VisitRow a b c d e f g h i j k l m) = refl
title_unlinks text (ItemRow a b c d e f g h i j k l m n o p) = refl
title_unlinks text (Text a b c) = refl

title_others : (text : TextAt) (row : SlotRow) → slot_kind row ≢ kinds.Item → rows.with_item_title text row ≡ row
title_others text (Free next) apart = refl
title_others text (Origin a b c d e) apart = refl
title_others text (Place a b c d e f g h i j k l m n o p q r) apart = refl
title_others text (VisitRow a b c d e f g h i j k l m) apart = refl
title_others text (ItemRow a b c d e f g h i j k l m n o p) apart = absurd (apart refl)
title_others text (Text a b c) apart = refl

title_lives : (text : TextAt) (row : SlotRow)
    → is_some (live_row (rows.with_item_title text row)) ≡ is_some (live_row row)
title_lives text (Free next) = refl
title_lives text (Origin a b c d e) = refl
title_lives text (Place a b c d e f g h i j k l m n o p q r) = refl
title_lives text (VisitRow a b c d e f g h i j k l m) = refl
title_lives text (ItemRow a b c d e f g h i j k l m n o p) = refl
title_lives text (Text a b c) = refl

-- ---- the row is written, and then the number of live slots

module _ (kept : Kept) (targets : VisitId → List Visit) (at : Layout) (title slots : List ℕ) (text : TextAt)
    (id : ItemId) (slot : Slot) (owner : Item) (found : item_at kept.items id ≡ Some owner)
    (here : at.item owner.id ≡ slot) (begins : text.slot ≡ first_in slots) (long : text.length ≡ length title)
    (old middle new : Pages) (sets : SetsRow slot (rows.with_item_title text) old middle) (number : ℕ)
    (counts : SetsHeader (λ h. record h { live = number }) middle new) (arena : IsArena new) where
  abbrev bt : Layout
  bt = with_title_there id slots at

  abbrev now : Kept
  now = with_entitled id title kept

  made : (i : Item) → i.id.0 ≡ id.0
      → rows.with_item_title text (item_record at kept.items i).row ≡ (item_record bt kept.items (titled title i)).row
  made i is =
      let first : text.slot ≡ first_in (title_there at id slots i.id) =
      begins
      ∙ sym (ap (λ (b : Bool). first_in (if b then slots else at.item_title i.id)) (eq-eqb i.id.0 id.0 is)) in
      λ k. rows.with_item_title (record { slot = first k; length = long k }) (item_record at kept.items i).row

  beside : (i : Item) → i.id.0 ≢ id.0 → item_record bt kept.items i ≡ item_record at kept.items i
  beside i apart =
      ap (λ (b : Bool).
      record {
        slot = at.item i.id;
        row = rows.with_item_title
            (record { slot = first_in (if b then slots else at.item_title i.id); length = length i.title })
            (item_record at kept.items i).row;
      }) (ne_eqb i.id.0 id.0 apart)

  pub title_put : HoldsRows at kept old → HoldsTexts bt now old → HoldsOnce bt now old → HasLive at kept old
      → HasChains at kept targets old → HasAlone at kept old → IsHeader now (header_of new)
      → IsLaid bt now targets new
  title_put row texts once chain chains alone header =
      let members : KeepsMembers middle new = same_kinds middle new (same.kind_kept middle new counts.rows) in
      let links : KeepsLinks middle new = same_links middle new (same.link_kept middle new counts.rows) in
      let ends : KeepsEnds middle new = live_ends number middle new counts in
      record {
        arena = arena;
        header = header;
        rows =
            same.rows_kept middle new counts.rows bt now targets
            (put_rows at kept old id slot owner found here (title_there at id slots) middle (rows.with_item_title text)
            (titled title) (keeps_titled title) sets (title_unlinks text) (title_others text) (title_lives text) row
            made beside);
        texts =
            same.texts_kept middle new counts.rows bt now targets
            (texts_each bt now old middle
            (put_texts at kept old id slot owner found here (title_there at id slots) middle
            (rows.with_item_title text) (titled title) (keeps_titled title) sets (title_unlinks text)
            (title_others text) (title_lives text)) texts);
        slots =
            same.once_kept middle new counts.rows bt now targets
            (put_once at kept old id slot owner found here (title_there at id slots) middle
            (rows.with_item_title text) (titled title) (keeps_titled title) sets (title_unlinks text)
            (title_others text) (title_lives text) bt now once);
        live =
            held.live_kept middle new members links ends bt now targets
            (put_live at kept old id slot owner found here (title_there at id slots) middle (rows.with_item_title text)
            (titled title) (keeps_titled title) sets (title_unlinks text) (title_others text) (title_lives text)
            targets chain);
        chains =
            held.chains_kept middle new members links ends bt now targets
            (put_chains at kept old id slot owner found here (title_there at id slots) middle
            (rows.with_item_title text) (titled title) (keeps_titled title) sets (title_unlinks text)
            (title_others text) (title_lives text) targets chains);
        alone =
            held.alone_all_kept middle new members links ends bt now targets
            (put_alone at kept old id slot owner found here (title_there at id slots) middle
            (rows.with_item_title text) (titled title) (keeps_titled title) sets (title_unlinks text)
            (title_others text) (title_lives text) targets alone);
      }
