-- Rows of items that are written with another parent, title or modified date.
use Rattle.std.proofs.Common.{◌≡◌, ◌∷◌, ◌^◌, ◌<◌, ℕ, refl, []}
use Rattle.pl_base.specs.declared.date.Micros.{Micros}
use Rattle.pl_base.specs.declared.id.ItemId.{ItemId}
use Rattle.pl_base.specs.declared.id.Slot.{Slot}
use Rattle.pl_base.specs.declared.item.ItemKind.{ItemKind}
use Rattle.pl_record.specs.declared.rows.TextAt.{TextAt}
use Rattle.pl_record.specs.Rows.{with_item_title, with_modified, with_parent}
use Rattle.pl_record.proofs.RowsWritten.{fours_both, fours_parts}
use Rattle.pl_slot.specs.declared.links.Link.{Link}
use Rattle.pl_slot.specs.declared.links.Link.TheVariants.{First, Last, Next, Previous}
use Rattle.pl_slot.specs.declared.links.Rail.{Rail}
use Rattle.pl_slot.specs.declared.links.Rail.TheVariants.{Children, Live, OriginPages, PageVisits, References, Targets}
use Rattle.pl_slot.specs.declared.row.SlotRow.{SlotRow}
use Rattle.pl_slot.specs.declared.row.SlotRow.TheVariants.{Free, Item, Origin, Place, Text, Visit}
use Rattle.pl_slot.specs.Slot.{IsSlotRow, slot_kind}
use Rattle.pl_slot.proofs.LinkFields.{link_of}

-- ---- the links of an item

item_links : (a : ItemKind) (b c : Slot) (d : ItemId) (e x f g h i j k l m t : Slot) (n u : ℕ) (o p w : Micros)
    (rail : Rail) (link : Link)
    → link_of rail link (Item a b c d x f g h i j k l t u o w)
    ≡ link_of rail link (Item a b c d e f g h i j k l m n o p)
item_links a b c d e x f g h i j k l m t n u o p w rail link = of_item rail link
  where
    of_item : (rail : Rail) (link : Link)
        → link_of rail link (Item a b c d x f g h i j k l t u o w)
        ≡ link_of rail link (Item a b c d e f g h i j k l m n o p)
    of_item Live First = refl
    of_item Live Last = refl
    of_item Live Previous = refl
    of_item Live Next = refl
    of_item OriginPages First = refl
    of_item OriginPages Last = refl
    of_item OriginPages Previous = refl
    of_item OriginPages Next = refl
    of_item PageVisits First = refl
    of_item PageVisits Last = refl
    of_item PageVisits Previous = refl
    of_item PageVisits Next = refl
    of_item Targets First = refl
    of_item Targets Last = refl
    of_item Targets Previous = refl
    of_item Targets Next = refl
    of_item Children First = refl
    of_item Children Last = refl
    of_item Children Previous = refl
    of_item Children Next = refl
    of_item References First = refl
    of_item References Last = refl
    of_item References Previous = refl
    of_item References Next = refl

-- ---- an item with another parent

pub parent_links : (parent : Slot) (row : SlotRow) (rail : Rail) (link : Link)
    → link_of rail link (with_parent parent row) ≡ link_of rail link row
parent_links parent (Free next) rail link = refl
parent_links parent (Origin a b c d e) rail link = refl
parent_links parent (Place a b c d e f g h i j k l m n o p q r) rail link = refl
parent_links parent (Visit a b c d e f g h i j k l m) rail link = refl
parent_links parent (Item a b c d e f g h i j k l m n o p) rail link =
    item_links a b c d e parent f g h i j k l m m n n o p p rail link
parent_links parent (Text a b c) rail link = refl

pub parent_kind : (parent : Slot) (row : SlotRow) → slot_kind (with_parent parent row) ≡ slot_kind row
parent_kind parent (Free next) = refl
parent_kind parent (Origin a b c d e) = refl
parent_kind parent (Place a b c d e f g h i j k l m n o p q r) = refl
parent_kind parent (Visit a b c d e f g h i j k l m) = refl
parent_kind parent (Item a b c d e f g h i j k l m n o p) = refl
parent_kind parent (Text a b c) = refl

pub parent_fits : (parent : Slot) (row : SlotRow) → parent.0 < 2 ^ 32 → IsSlotRow row
    → IsSlotRow (with_parent parent row)
parent_fits parent (Free next) small fits = fits
parent_fits parent (Origin a b c d e) small fits = fits
parent_fits parent (Place a b c d e f g h i j k l m n o p q r) small fits = fits
parent_fits parent (Visit a b c d e f g h i j k l m) small fits = fits
parent_fits parent (Item a b c d e f g h i j k l m n o p) small fits =
    let parts =
    fours_parts (b.0 ∷ c.0 ∷ d.0 ∷ [])
    (e.0 ∷ f.0 ∷ g.0 ∷ h.0 ∷ i.0 ∷ j.0 ∷ k.0 ∷ l.0 ∷ m.0 ∷ n ∷ []) fits.0 in (
      fours_both (b.0 ∷ c.0 ∷ d.0 ∷ [])
          (parent.0 ∷ f.0 ∷ g.0 ∷ h.0 ∷ i.0 ∷ j.0 ∷ k.0 ∷ l.0 ∷ m.0 ∷ n ∷ []) parts.0 (small, parts.1.1),
      fits.1,
      fits.2,
    )
parent_fits parent (Text a b c) small fits = fits

-- ---- an item with another title

pub item_title_links : (text : TextAt) (row : SlotRow) (rail : Rail) (link : Link)
    → link_of rail link (with_item_title text row) ≡ link_of rail link row
item_title_links text (Free next) rail link = refl
item_title_links text (Origin a b c d e) rail link = refl
item_title_links text (Place a b c d e f g h i j k l m n o p q r) rail link = refl
item_title_links text (Visit a b c d e f g h i j k l m) rail link = refl
item_title_links text (Item a b c d e f g h i j k l m n o p) rail link =
    item_links a b c d e e f g h i j k l m text.slot n text.length o p p rail link
item_title_links text (Text a b c) rail link = refl

pub item_title_kind : (text : TextAt) (row : SlotRow) → slot_kind (with_item_title text row) ≡ slot_kind row
item_title_kind text (Free next) = refl
item_title_kind text (Origin a b c d e) = refl
item_title_kind text (Place a b c d e f g h i j k l m n o p q r) = refl
item_title_kind text (Visit a b c d e f g h i j k l m) = refl
item_title_kind text (Item a b c d e f g h i j k l m n o p) = refl
item_title_kind text (Text a b c) = refl

pub item_title_fits : (text : TextAt) (row : SlotRow) → text.slot.0 < 2 ^ 32 → text.length < 2 ^ 32 → IsSlotRow row
    → IsSlotRow (with_item_title text row)
item_title_fits text (Free next) slot length fits = fits
item_title_fits text (Origin a b c d e) slot length fits = fits
item_title_fits text (Place a b c d e f g h i j k l m n o p q r) slot length fits = fits
item_title_fits text (Visit a b c d e f g h i j k l m) slot length fits = fits
item_title_fits text (Item a b c d e f g h i j k l m n o p) slot length fits =
    let parts =
    fours_parts (b.0 ∷ c.0 ∷ d.0 ∷ e.0 ∷ f.0 ∷ g.0 ∷ h.0 ∷ i.0 ∷ j.0 ∷ k.0 ∷ l.0 ∷ [])
    (m.0 ∷ n ∷ []) fits.0 in (
      fours_both (b.0 ∷ c.0 ∷ d.0 ∷ e.0 ∷ f.0 ∷ g.0 ∷ h.0 ∷ i.0 ∷ j.0 ∷ k.0 ∷ l.0 ∷ [])
          (text.slot.0 ∷ text.length ∷ []) parts.0 (slot, (length, tt)),
      fits.1,
      fits.2,
    )
item_title_fits text (Text a b c) slot length fits = fits

-- ---- an item with another modified date

pub modified_links : (date : Micros) (row : SlotRow) (rail : Rail) (link : Link)
    → link_of rail link (with_modified date row) ≡ link_of rail link row
modified_links date (Free next) rail link = refl
modified_links date (Origin a b c d e) rail link = refl
modified_links date (Place a b c d e f g h i j k l m n o p q r) rail link = refl
modified_links date (Visit a b c d e f g h i j k l m) rail link = refl
modified_links date (Item a b c d e f g h i j k l m n o p) rail link =
    item_links a b c d e e f g h i j k l m m n n o p date rail link
modified_links date (Text a b c) rail link = refl

pub modified_kind : (date : Micros) (row : SlotRow) → slot_kind (with_modified date row) ≡ slot_kind row
modified_kind date (Free next) = refl
modified_kind date (Origin a b c d e) = refl
modified_kind date (Place a b c d e f g h i j k l m n o p q r) = refl
modified_kind date (Visit a b c d e f g h i j k l m) = refl
modified_kind date (Item a b c d e f g h i j k l m n o p) = refl
modified_kind date (Text a b c) = refl

pub modified_fits : (date : Micros) (row : SlotRow) → date.0 < 2 ^ 64 → IsSlotRow row
    → IsSlotRow (with_modified date row)
modified_fits date (Free next) small fits = fits
modified_fits date (Origin a b c d e) small fits = fits
modified_fits date (Place a b c d e f g h i j k l m n o p q r) small fits = fits
modified_fits date (Visit a b c d e f g h i j k l m) small fits = fits
modified_fits date (Item a b c d e f g h i j k l m n o p) small fits = (fits.0, fits.1, small)
modified_fits date (Text a b c) small fits = fits
