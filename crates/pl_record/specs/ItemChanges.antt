-- What the slots of an item that comes, moves or goes leave of the records, the chains and the
-- header.
use Rattle.std.specs.Prelude.{◌≡◌, ◌≢◌, ℕ, ◌+◌, ◌≤◌, ◌==◌, true, false, List, [], ◌∷◌, ◌++◌}
use Rattle.std.specs.Prelude.{length, Option, Some, None, if◌then◌else◌}
use Rattle.std.specs.Option.{option_and_then, option_map}
use Rattle.pl_base.specs.declared.id.ItemId.{ItemId}
use Rattle.pl_base.specs.declared.id.PageId.{PageId}
use Rattle.pl_base.specs.declared.id.Slot.{Slot}
use Rattle.pl_base.specs.declared.item.ItemRow.{ItemRow}
use Rattle.pl_record.specs.ChainMap.{AreApart, AreChains, ChainMap, IsLoose, with_chain}
use Rattle.pl_record.specs.Chains.{IsAlone}
use Rattle.pl_record.specs.declared.rows.Item.{Item}
use Rattle.pl_record.specs.LinkedRows.{Entries, slot_at}
use Rattle.pl_record.specs.Rows.{item_row, record_at, with_parent}
use Rattle.pl_record.specs.SlotChanges.{KeepsBody}
use Rattle.pl_record.specs.VisitChanges.{without_member}
use Rattle.pl_rail.specs.declared.owner.Owner.TheVariants.{At, Header}
use Rattle.pl_rail.specs.Rails.{HasMember, KeepsRails, Lists, is_in, or_none}
use Rattle.pl_sheets.specs.Sheets.{Pages, page_count}
use Rattle.pl_slot.specs.declared.kind.LiveKind.TheVariants as kinds
use Rattle.pl_slot.specs.declared.links.Rail.{Rail}
use Rattle.pl_slot.specs.declared.links.Rail.TheVariants.{Children, Live, References}
use Rattle.pl_slot.specs.Arena.{ChangesOnly, first_in, header_of, is_among, is_live, live_count}
use Rattle.pl_slot.specs.Links.{is_rail, kind_at}
use Rattle.pl_text.specs.Chunks.{Hold}

-- ---- chains

-- a slot behind this one, or in front of all
abbrev pub put_behind : Option Slot → Slot → List Slot → List Slot
put_behind None slot slots = slot ∷ slots
put_behind (Some after) slot [] = slot ∷ []
put_behind (Some after) slot (other ∷ rest) =
    if other.0 == after.0 then other ∷ slot ∷ rest else other ∷ put_behind (Some after) slot rest

-- the chains with a slot more among the children of another
abbrev pub with_child_slot : Slot → Option Slot → Slot → ChainMap → ChainMap
with_child_slot parent after slot chains =
    with_chain Children (At parent) (put_behind after slot (chains Children (At parent))) chains

-- the chains with an item's slot more: behind all, among its parent's children, and behind all
-- items of its page, if it has one
abbrev pub with_reference_slot : Item → Slot → ChainMap → ChainMap
with_reference_slot i slot chains =
    if i.page.0 == 0 then chains
    else with_chain References (At i.page) (chains References (At i.page) ++ slot ∷ []) chains

abbrev pub with_item_slot : Item → Option Slot → Slot → ChainMap → ChainMap
with_item_slot i after slot chains =
    with_reference_slot i slot
    (with_child_slot i.parent after slot
    (with_chain Live (Header kinds.Item) (chains Live (Header kinds.Item) ++ slot ∷ []) chains))

-- the chains without a slot in the chain of the owner in a slot, 0 for none
abbrev pub without_owned : Rail → Slot → Slot → ChainMap → ChainMap
without_owned rail owner slot chains =
    if owner.0 == 0 then chains else without_member rail (At owner) slot chains

-- the chains without an item's slot: out of its parent's children, of its page's items, of all
abbrev pub without_child_slot : Item → Slot → ChainMap → ChainMap
without_child_slot i slot chains = without_owned Children i.parent slot chains

abbrev pub without_reference_slot : Item → Slot → ChainMap → ChainMap
without_reference_slot i slot chains = without_owned References i.page slot chains

abbrev pub without_item_slot : Item → Slot → ChainMap → ChainMap
without_item_slot i slot chains =
    without_member Live (Header kinds.Item) slot
    (without_reference_slot i slot (without_child_slot i slot chains))

-- the chains where the slot is a child of another than before
abbrev pub with_moved_slot : Item → Slot → Slot → Option Slot → ChainMap → ChainMap
with_moved_slot i slot parent after chains =
    with_child_slot parent after slot (without_child_slot i slot chains)

-- ---- slots that stand alone

-- those that are no children and no items of a page, and all in other rails, still do, but for the
-- rail of live slots
abbrev pub KeepsLoneItems : ChainMap → Pages → Pages → Type 0
KeepsLoneItems chains old new =
    (rail : Rail) (slot : Slot) → is_rail rail Live ≡ false
    → (is_rail rail Children ≡ true → IsLoose Children slot chains)
    → (is_rail rail References ≡ true → IsLoose References slot chains) → IsAlone rail slot old
    → IsAlone rail slot new

-- so do all but this one
abbrev pub KeepsLoneItemsBut : Slot → ChainMap → Pages → Pages → Type 0
KeepsLoneItemsBut slot chains old new =
    (rail : Rail) (other : Slot) → other ≢ slot → is_rail rail Live ≡ false
    → (is_rail rail Children ≡ true → IsLoose Children other chains)
    → (is_rail rail References ≡ true → IsLoose References other chains) → IsAlone rail other old
    → IsAlone rail other new

-- ---- a slot leaves its owner

-- a slot stands no longer in the chain of the owner in a slot, 0 for none
pub record LeavesOwner (rail : Rail) (owner slot : Slot) (old new : Pages) : Type 0 where
  pub records : (n : ℕ) → record_at n new ≡ record_at n old
  pub kinds : (n : ℕ) → kind_at n new ≡ kind_at n old
  pub chains : (chains : ChainMap) → AreChains chains old → AreApart rail chains
      → AreChains (without_owned rail owner slot chains) new
  pub apart : (chains : ChainMap) → AreChains chains old → AreApart rail chains
      → AreApart rail (without_owned rail owner slot chains)
  pub loose : (chains : ChainMap) → AreChains chains old → AreApart rail chains
      → (owner.0 ≡ 0 → IsLoose rail slot chains)
      → IsLoose rail slot (without_owned rail owner slot chains)
  pub empty : Lists rail (At slot) [] old → Lists rail (At slot) [] new
  pub others : KeepsRails rail old new
  pub alone : (r : Rail) (other : Slot) → (is_rail r rail ≡ true → other ≢ slot)
      → (is_rail r rail ≡ true → owner.0 ≢ 0 → (slots : List Slot)
      → Lists rail (At owner) slots old → is_in other slots ≡ false)
      → IsAlone r other old → IsAlone r other new
  pub count : live_count new ≡ live_count old
  pub header : header_of new ≡ header_of old
  pub as_many : page_count new ≡ page_count old
  pub these : List ℕ
  pub pages : ChangesOnly these old new

-- ---- an item comes

-- the item of a row, with the next id, the slots of its parent and its page, and no title yet
pub record IsNextItem (row : ItemRow) (pages items : Entries) (sheets : Pages) (i : Item) : Type 0
  where
    pub id : i.id.0 ≡ (header_of sheets).ids.item
    pub kind : i.kind ≡ row.kind
    pub parent : i.parent
        ≡ or_none (option_and_then (λ (p : ItemId). slot_at items p.0) row.parent)
    pub page : i.page ≡ or_none (option_and_then (λ (p : PageId). slot_at pages p.0) row.page)
    pub added : i.added ≡ row.added
    pub modified : i.modified ≡ row.modified

-- the item with its title in slots that begin here
abbrev pub titled_at : List ℕ → List ℕ → Item → Item
titled_at text title i =
    record i { title = record { slot = first_in text; length = length title } }

-- a slot that was not live has the row of an item, and stands in its chains
pub record TakesItem (i : Item) (after : Option Slot) (slot : Slot) (old new : Pages) : Type 0 where
  pub fresh : is_live slot.0 old ≡ false
  pub records : (n : ℕ) → record_at n new
      ≡ (if n == slot.0 then Some (item_row i) else record_at n old)
  pub chains : (chains : ChainMap) → AreChains chains old → AreApart Children chains
      → AreApart References chains → AreChains (with_item_slot i after slot chains) new
  pub alone : (chains : ChainMap) → AreChains chains old → KeepsLoneItems chains old new
  pub own : i.page.0 ≡ 0 → IsAlone References slot new
  pub count : live_count new ≡ live_count old + 1
  pub body : KeepsBody old new
  pub longer : page_count old ≤ page_count new
  pub these : List ℕ
  pub pages : ChangesOnly these old new

-- the slot of an item stands behind all items of its page, if it has one. All else is as it was
pub record PutsReference (i : Item) (slot : Slot) (old new : Pages) : Type 0 where
  pub records : (n : ℕ) → record_at n new ≡ record_at n old
  pub chains : (chains : ChainMap) → AreChains chains old → AreApart References chains
      → AreChains (with_reference_slot i slot chains) new
  pub alone : (chains : ChainMap) → AreChains chains old → (rail : Rail) (other : Slot)
      → (is_rail rail References ≡ true → (other ≢ slot) × IsLoose References other chains)
      → IsAlone rail other old → IsAlone rail other new
  pub own : i.page.0 ≡ 0 → IsAlone References slot old → IsAlone References slot new
  pub count : live_count new ≡ live_count old
  pub body : KeepsBody old new
  pub as_many : page_count new ≡ page_count old
  pub these : List ℕ
  pub pages : ChangesOnly these old new

-- slots that were not live hold a new item and its title, in its chains
pub record InsertsItem (i : Item) (title : List ℕ) (after : Option Slot) (slot : Slot)
    (old new : Pages) : Type 0 where
  pub text : List ℕ
  pub fresh : (n : ℕ) → is_among n (slot.0 ∷ text) ≡ true → is_live n old ≡ false
  pub apart : is_among slot.0 text ≡ false
  pub row : record_at slot.0 new ≡ Some (item_row (titled_at text title i))
  pub held : Hold text title new
  pub others : (n : ℕ) → is_among n (slot.0 ∷ text) ≡ false → record_at n new ≡ record_at n old
  pub chains : (chains : ChainMap) → AreChains chains old → AreApart Children chains
      → AreApart References chains → AreChains (with_item_slot i after slot chains) new
  pub alone : (chains : ChainMap) → AreChains chains old → KeepsLoneItems chains old new
  pub own : i.page.0 ≡ 0 → IsAlone References slot new
  pub count : live_count new ≡ live_count old + 1 + length text
  pub body : KeepsBody old new
  pub longer : page_count old ≤ page_count new
  pub these : List ℕ
  pub pages : ChangesOnly these old new

-- ---- an item moves

-- the slot of an item is a child of another than before, behind this one or in front
pub record MovesItem (i : Item) (slot parent : Slot) (after : Option Slot)
    (old new : Pages) : Type 0 where
  pub records : (n : ℕ) → record_at n new
      ≡ (if n == slot.0 then option_map (with_parent parent) (record_at n old)
      else record_at n old)
  pub chains : (chains : ChainMap) → AreChains chains old → AreApart Children chains
      → (i.parent.0 ≡ 0 → IsLoose Children slot chains)
      → AreChains (with_moved_slot i slot parent after chains) new
  pub alone : (chains : ChainMap) → AreChains chains old → KeepsLoneItemsBut slot chains old new
  pub own : IsAlone References slot old → IsAlone References slot new
  pub count : live_count new ≡ live_count old
  pub body : KeepsBody old new
  pub as_many : page_count new ≡ page_count old
  pub these : List ℕ
  pub pages : ChangesOnly these old new

-- ---- an item goes

-- a slot holds an item without children, with its title in slots of their own
pub record HoldsLeaf (slot : Slot) (pages : Pages) : Type 0 where
  pub item : Item
  pub row : record_at slot.0 pages ≡ Some (item_row item)
  pub title : List ℕ
  pub text : List ℕ
  pub begins : item.title.slot ≡ first_in text
  pub held : Hold text title pages
  pub of_header : HasMember Live (Header kinds.Item) slot pages
  pub of_parent : item.parent.0 ≢ 0 → HasMember Children (At item.parent) slot pages
  pub of_page : item.page.0 ≢ 0 → HasMember References (At item.page) slot pages
  pub no_child : Lists Children (At slot) [] pages

-- its slot is free, and all others stand in their order
pub record FreesItem (i : Item) (slot : Slot) (old new : Pages) : Type 0 where
  pub records : (n : ℕ) → record_at n new ≡ (if n == slot.0 then None else record_at n old)
  pub chains : (chains : ChainMap) → AreChains chains old → AreApart Children chains
      → AreApart References chains → (i.parent.0 ≡ 0 → IsLoose Children slot chains)
      → (i.page.0 ≡ 0 → IsLoose References slot chains)
      → AreChains (without_item_slot i slot chains) new
  pub alone : (chains : ChainMap) → AreChains chains old → KeepsLoneItemsBut slot chains old new
  pub count : live_count new + 1 ≡ live_count old
  pub body : KeepsBody old new
  pub longer : page_count old ≤ page_count new
  pub these : List ℕ
  pub pages : ChangesOnly these old new

-- so are those of its title
pub record RemovesItem (i : Item) (text : List ℕ) (slot : Slot) (old new : Pages) : Type 0 where
  pub gone : (n : ℕ) → is_among n (slot.0 ∷ text) ≡ true → record_at n new ≡ None
  pub others : (n : ℕ) → is_among n (slot.0 ∷ text) ≡ false → record_at n new ≡ record_at n old
  pub chains : (chains : ChainMap) → AreChains chains old → AreApart Children chains
      → AreApart References chains → (i.parent.0 ≡ 0 → IsLoose Children slot chains)
      → (i.page.0 ≡ 0 → IsLoose References slot chains)
      → AreChains (without_item_slot i slot chains) new
  pub alone : (chains : ChainMap) → AreChains chains old → KeepsLoneItemsBut slot chains old new
  pub count : live_count new + 1 + length text ≡ live_count old
  pub body : KeepsBody old new
  pub longer : page_count old ≤ page_count new
  pub these : List ℕ
  pub pages : ChangesOnly these old new
