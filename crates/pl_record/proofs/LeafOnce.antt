-- That an item without children is held in one way.
use mathlib.Core.HLevel.{is_prop→PathP}
use Rattle.std.proofs.Common.{◌≡◌, ◌≢◌, ◌∙◌, Some, ap, sym, []}
use Rattle.std.proofs.Math.Path.{fun_ext}
use Rattle.pl_base.specs.declared.id.Slot.{Slot}
use Rattle.pl_record.specs.declared.rows.Item.{Item}
use Rattle.pl_record.specs.ItemChanges.{HoldsLeaf}
use Rattle.pl_record.specs.Rows.{item_row, record_at}
use Rattle.pl_record.proofs.ItemFreed.{same_item}
use Rattle.pl_record.proofs.OneChains.{lists_once, member_once, row_once, slot_once}
use Rattle.pl_record.proofs.TextOnce.{Hold-prop}
use Rattle.pl_rail.specs.declared.owner.Owner.TheVariants.{At, Header}
use Rattle.pl_rail.specs.Rails.{HasMember}
use Rattle.pl_sheets.specs.Sheets.{Pages}
use Rattle.pl_slot.specs.declared.kind.LiveKind.TheVariants as live
use Rattle.pl_slot.specs.declared.links.Rail.{Rail}
use Rattle.pl_slot.specs.declared.links.Rail.TheVariants.{Children, Live, References}
use Rattle.pl_slot.specs.Arena.{first_in}
use Rattle.pl_text.specs.Chunks.{Hold}
use Rattle.pl_text.proofs.HeldTexts.{one_text}

owned_once : (rail : Rail) (owner slot : Slot) (pages : Pages)
    → IsProp (owner.0 ≢ 0 → HasMember rail (At owner) slot pages)
owned_once rail owner slot pages a b =
    fun_ext (λ some. member_once rail (At owner) slot pages (a some) (b some))

pub leaf_once : (slot : Slot) (pages : Pages) → IsProp (HoldsLeaf slot pages)
leaf_once slot pages a b =
    let item : a.item ≡ b.item = same_item a.item b.item (record_at slot.0 pages) a.row b.row in
    let texts =
    one_text a.text b.text a.title b.title pages a.held b.held
    (sym a.begins ∙ ap (λ (i : Item). i.title.slot) item ∙ b.begins) in
    let title : a.title ≡ b.title = texts.texts in
    let text : a.text ≡ b.text = texts.slots in
    let of_header : a.of_header ≡ b.of_header =
    member_once Live (Header live.Item) slot pages a.of_header b.of_header in
    let no_child : a.no_child ≡ b.no_child = lists_once Children (At slot) [] pages a.no_child b.no_child in
    λ i.
    record {
      item = item i;
      row =
          is_prop→PathP (λ j. record_at slot.0 pages ≡ Some (item_row (item j)))
          (λ j. row_once (record_at slot.0 pages) (Some (item_row (item j)))) a.row b.row i;
      title = title i;
      text = text i;
      begins =
          is_prop→PathP (λ j. (item j).title.slot ≡ first_in (text j))
          (λ j. slot_once (item j).title.slot (first_in (text j))) a.begins b.begins i;
      held =
          is_prop→PathP (λ j. Hold (text j) (title j) pages) (λ j. Hold-prop (text j) (title j) pages)
          a.held b.held i;
      of_header = of_header i;
      of_parent =
          is_prop→PathP (λ j. (item j).parent.0 ≢ 0 → HasMember Children (At (item j).parent) slot pages)
          (λ j. owned_once Children (item j).parent slot pages) a.of_parent b.of_parent i;
      of_page =
          is_prop→PathP (λ j. (item j).page.0 ≢ 0 → HasMember References (At (item j).page) slot pages)
          (λ j. owned_once References (item j).page slot pages) a.of_page b.of_page i;
      no_child = no_child i;
    }
