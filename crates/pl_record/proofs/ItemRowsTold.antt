-- What the rows of items tell.
use Rattle.std.proofs.Common.{◌≡◌, ◌∙◌, ◌==◌, ℕ, List, Option, Some, None, ap, eq-eqb}
use Rattle.std.proofs.Common.{find, length, refl, subst, sym, true}
use Rattle.std.specs.Str.{IsUtf8}
use Rattle.std.specs.Option.{IfSome, option_and_then, option_map}
use Rattle.pl_base.specs.declared.id.ItemId.{ItemId}
use Rattle.pl_base.specs.declared.id.PageId.{PageId}
use Rattle.pl_base.specs.declared.id.Slot.{Slot}
use Rattle.pl_base.specs.declared.id.VisitId.{VisitId}
use Rattle.pl_base.specs.Good.{IsTitle}
use Rattle.pl_base.specs.Rows.{Kept, has_page}
use Rattle.pl_base.specs.Store.{Item, Visit}
use Rattle.pl_base.specs.Tree.{has_child, has_item, item_at, item_row, item_title}
use Rattle.pl_base.specs.Tree.{parent_of}
use Rattle.pl_base.proofs.ItemLookUps.{same_item}
use Rattle.pl_base.proofs.LookUps.{found_any, found_passes}
use Rattle.pl_record.specs.declared.rows.Item.{Item as Row}
use Rattle.pl_record.specs.LinkedRows.{AreLinked, Entries, slot_at}
use Rattle.pl_record.specs.Records.{item_record, slot_or_none}
use Rattle.pl_record.specs.Rows.{item_in, page_in, row_in}
use Rattle.pl_record.specs.Rows as spec
use Rattle.pl_record.proofs.LookUps.{Found, finds, finds_none}
use Rattle.pl_record.proofs.NamedSlots.{found_all, found_of, item_named, item_row_is, page_named}
use Rattle.pl_record.proofs.PagesTold.{kind_told, named_slot}
use Rattle.pl_record.proofs.VisitsTold.{page_slot_kind}
use Rattle.pl_rail.specs.Rails.{named}
use Rattle.pl_sheets.specs.Sheets.{Pages}
use Rattle.pl_slot.specs.declared.kind.SlotKind.TheVariants as kinds
use Rattle.pl_slot.specs.Arena.{first_in}
use Rattle.pl_slot.specs.Links.{kind_at}
use Rattle.pl_text.specs.Chunks.{HasText, Hold, HoldsText}
use Rattle.pl_text.proofs.HeldTexts.{one_text}

module _ (kept : Kept) (targets : VisitId → List Visit) (sheets : Pages) (pages visits items : Entries)
    (l : AreLinked kept targets sheets pages visits items) where
  abbrev item_place : Item → Slot
  item_place i = l.at.item i.id

  pub item_found : (id : ItemId) (slot : Slot) → slot_at items id.0 ≡ Some slot
      → Found item_place (item_at kept.items id) slot
  item_found id slot some = finds (λ (i : Item). i.id.0) item_place kept.items items l.indexed.items id.0 slot some

  pub no_item : (id : ItemId) → slot_at items id.0 ≡ None → item_at kept.items id ≡ None
  no_item id nothing = finds_none (λ (i : Item). i.id.0) item_place kept.items items l.indexed.items id.0 nothing

  pub id_is : (id : ItemId) (i : Item) → item_at kept.items id ≡ Some i → i.id ≡ id
  id_is id i found = same_item i.id id (found_passes (λ (j : Item). j.id.0 == id.0) kept.items i found)

  pub item_there : (id : ItemId) → has_item kept.items id ≡ true → (slot : Slot) × (slot_at items id.0 ≡ Some slot)
  item_there id there = choose (slot_at items id.0) refl
    where
      choose : (o : Option Slot) → slot_at items id.0 ≡ o → (slot : Slot) × (slot_at items id.0 ≡ Some slot)
      choose None is =
          let found = found_of (λ (i : Item). i.id.0 == id.0) kept.items there in
          let never : None ≡ Some found.0 = sym (no_item id is) ∙ found.1 in
          absurd (cc)
      choose (Some slot) is = (slot, is)

  pub item_missing : (id : ItemId) → has_item kept.items id ≡ true → slot_at items id.0 ≡ None → ⊥
  item_missing id there nothing =
      let found = item_there id there in
      let never : None ≡ Some found.0 = sym nothing ∙ found.1 in
      absurd (cc)

  -- ---- rows

  row_here : (id : ItemId) (slot : Slot) (f : Found item_place (item_at kept.items id) slot)
      → row_in slot sheets ≡ Some (item_record l.at kept.items f.row).row
  row_here id slot f =
      ap (λ (s : Slot). row_in s sheets) (sym f.here) ∙ item_row_is l.at kept sheets l.laid.rows id f.row f.there

  pub item_kind : (id : ItemId) (slot : Slot) → slot_at items id.0 ≡ Some slot → kind_at slot.0 sheets ≡ Some kinds.Item
  item_kind id slot some =
      let f = item_found id slot some in
      kind_told slot (item_record l.at kept.items f.row).row sheets (row_here id slot f)

  pub slot_kind_of : (id : ItemId) → has_item kept.items id ≡ true → kind_at (l.at.item id).0 sheets ≡ Some kinds.Item
  slot_kind_of id there =
      let found = found_of (λ (i : Item). i.id.0 == id.0) kept.items there in
      ap (λ (c : ItemId). kind_at (l.at.item c).0 sheets) (sym (id_is id found.0 found.1))
      ∙ kind_told (l.at.item found.0.id) (item_record l.at kept.items found.0).row sheets
      (item_row_is l.at kept sheets l.laid.rows id found.0 found.1)

  -- the parent of an item is one
  pub parent_found : (id parent : ItemId) → parent_of kept.items id ≡ Some parent
      → (p : Item) × (find (has_child id) kept.items ≡ Some p) × (p.id ≡ parent)
  parent_found id parent is = choose (find (has_child id) kept.items) refl is
    where
      choose : (o : Option Item) → find (has_child id) kept.items ≡ o
          → option_map (λ (i : Item). i.id) o ≡ Some parent
          → (p : Item) × (find (has_child id) kept.items ≡ Some p) × (p.id ≡ parent)
      choose None found is = absurd (cc)
      choose (Some p) found is =
          let same : p.id ≡ parent = cc in
          (p, found, same)

  parent_there : (id parent : ItemId) → parent_of kept.items id ≡ Some parent → has_item kept.items parent ≡ true
  parent_there id parent is =
      let p = parent_found id parent is in
      found_any (has_child id) (λ (i : Item). i.id.0 == parent.0) kept.items p.0 p.1
      (eq-eqb p.0.id.0 parent.0 (ap (λ (c : ItemId). c.0) p.2))

  pub own_there : (id : ItemId) (i : Item) → item_at kept.items id ≡ Some i → (page : PageId) → i.page ≡ Some page
      → has_page kept page ≡ true
  own_there id i found page is =
      let known : IfSome i.page (λ p. has_page kept p ≡ true) =
      found_all (λ (j : Item). IfSome j.page (λ p. has_page kept p ≡ true)) (λ (j : Item). j.id.0 == id.0) kept.items i
      l.rows.own found in
      subst (λ (p : Option PageId). IfSome p (λ p. has_page kept p ≡ true)) is known

  -- the row of an item, as it was read
  module _ (id : ItemId) (slot : Slot) (row : Row) (some : slot_at items id.0 ≡ Some slot)
      (read : row_in slot sheets ≡ Some (spec.item_row row)) where
    pub found : Found item_place (item_at kept.items id) slot
    found = item_found id slot some

    same_row : spec.item_row row ≡ (item_record l.at kept.items found.row).row
    same_row =
        let both : Some (spec.item_row row) ≡ Some (item_record l.at kept.items found.row).row =
        sym read ∙ row_here id slot found in
        cc

    own_parent : row.parent ≡ slot_or_none l.at.item (parent_of kept.items id)
    own_parent =
        let same : spec.item_row row ≡ (item_record l.at kept.items found.row).row = same_row in
        let is : row.parent ≡ slot_or_none l.at.item (parent_of kept.items found.row.id) = cc in
        is ∙ ap (λ (c : ItemId). slot_or_none l.at.item (parent_of kept.items c)) (id_is id found.row found.there)

    own_page : row.page ≡ slot_or_none l.at.page found.row.page
    own_page =
        let same : spec.item_row row ≡ (item_record l.at kept.items found.row).row = same_row in
        cc

    pub parent_cases : (s : Option ItemId) → parent_of kept.items id ≡ s
        → (named row.parent ≡ option_map l.at.item s)
        × (option_and_then (item_in sheets) (option_map l.at.item s) ≡ s)
        × IfSome (option_map l.at.item s) (λ t. kind_at t.0 sheets ≡ Some kinds.Item)
    parent_cases None is = (ap named (own_parent ∙ ap (slot_or_none l.at.item) is), refl, tt)
    parent_cases (Some parent) is =
        let there : has_item kept.items parent ≡ true = parent_there id parent is in
        let slot_is : row.parent ≡ l.at.item parent = own_parent ∙ ap (slot_or_none l.at.item) is in
        let kind : kind_at (l.at.item parent).0 sheets ≡ Some kinds.Item = slot_kind_of parent there in (
          ap named slot_is ∙ named_slot (l.at.item parent) kinds.Item sheets kind,
          item_named l.at kept sheets l.laid.rows parent there,
          kind,
        )

    pub page_cases : (s : Option PageId) → found.row.page ≡ s
        → (named row.page ≡ option_map l.at.page s)
        × (option_and_then (page_in sheets) (option_map l.at.page s) ≡ s)
        × IfSome (option_map l.at.page s) (λ t. kind_at t.0 sheets ≡ Some kinds.Place)
    page_cases None is = (ap named (own_page ∙ ap (slot_or_none l.at.page) is), refl, tt)
    page_cases (Some page) is =
        let there : has_page kept page ≡ true = own_there id found.row found.there page is in
        let slot_is : row.page ≡ l.at.page page = own_page ∙ ap (slot_or_none l.at.page) is in
        let kind : kind_at (l.at.page page).0 sheets ≡ Some kinds.Place =
        page_slot_kind kept targets sheets pages visits items l page there in (
          ap named slot_is ∙ named_slot (l.at.page page) kinds.Place sheets kind,
          page_named l.at kept sheets l.laid.rows page there,
          kind,
        )

    pub parent_kind : IfSome (named row.parent) (λ t. kind_at t.0 sheets ≡ Some kinds.Item)
    parent_kind =
        let cases = parent_cases (parent_of kept.items id) refl in
        subst (λ (o : Option Slot). IfSome o (λ t. kind_at t.0 sheets ≡ Some kinds.Item)) (sym cases.0) cases.2

    pub page_kind : IfSome (named row.page) (λ t. kind_at t.0 sheets ≡ Some kinds.Place)
    page_kind =
        let cases = page_cases found.row.page refl in
        subst (λ (o : Option Slot). IfSome o (λ t. kind_at t.0 sheets ≡ Some kinds.Place)) (sym cases.0) cases.2

    pub row_told : (parent : Option ItemId) (page : Option PageId)
        → parent ≡ option_and_then (item_in sheets) (named row.parent)
        → page ≡ option_and_then (page_in sheets) (named row.page)
        → Some (record { kind = row.kind; parent = parent; page = page; added = row.added; modified = row.modified })
        ≡ option_map (item_row kept.items) (item_at kept.items id)
    row_told parent page parent_read page_read =
        let same : spec.item_row row ≡ (item_record l.at kept.items found.row).row = same_row in
        let kind : row.kind ≡ found.row.kind = cc in
        let added : row.added ≡ found.row.added = cc in
        let modified : row.modified ≡ found.row.modified = cc in
        let in_tree = parent_cases (parent_of kept.items id) refl in
        let on_page = page_cases found.row.page refl in
        let parent_is : parent ≡ parent_of kept.items found.row.id =
        parent_read ∙ ap (option_and_then (item_in sheets)) in_tree.0 ∙ in_tree.1
        ∙ ap (parent_of kept.items) (sym (id_is id found.row found.there)) in
        let page_is : page ≡ found.row.page = page_read ∙ ap (option_and_then (page_in sheets)) on_page.0 ∙ on_page.1 in
        let whole
        : record { kind = row.kind; parent = parent; page = page; added = row.added; modified = row.modified }
        ≡ item_row kept.items found.row =
        (λ i.
        record { kind = kind i; parent = parent_is i; page = page_is i; added = added i; modified = modified i }) in
        ap Some whole ∙ sym (ap (option_map (item_row kept.items)) found.there)

    title_held : HoldsText row.title.slot found.row.title sheets
    title_held =
        let same : spec.item_row row ≡ (item_record l.at kept.items found.row).row = same_row in
        let first : row.title.slot ≡ first_in (l.at.item_title found.row.id) = cc in
        record {
          slots = l.at.item_title found.row.id;
          first = first;
          held =
              found_all (λ (i : Item). Hold (l.at.item_title i.id) i.title sheets) (λ (i : Item). i.id.0 == id.0)
              kept.items
              found.row l.laid.texts.item_titles found.there;
        }

    pub item_title_text : HasText row.title.slot row.title.length sheets
    item_title_text =
        let same : spec.item_row row ≡ (item_record l.at kept.items found.row).row = same_row in
        let long : length found.row.title ≡ row.title.length = cc in
        (found.row.title, title_held, long)

    pub item_title_told : (title : List ℕ) → ((text : List ℕ) → HoldsText row.title.slot text sheets → title ≡ text)
        → Some title ≡ item_title kept.items id
    item_title_told title is =
        ap Some (is found.row.title title_held) ∙ sym (ap (option_map (λ (i : Item). i.title)) found.there)

    pub item_title_utf8 : (text : List ℕ) → HoldsText row.title.slot text sheets → IsUtf8 text
    unfolding title_held
    item_title_utf8 text held =
        let same : text ≡ found.row.title =
        (one_text held.slots (l.at.item_title found.row.id) text found.row.title sheets held.held title_held.held
        (sym held.first ∙ title_held.first)).texts in
        subst IsUtf8 (sym same)
        (found_all (λ (i : Item). IsTitle i.title) (λ (i : Item). i.id.0 == id.0) kept.items found.row l.rows.titles
        found.there).0
