-- An item without children goes by a few calls: what these ask for.
use Rattle.std.proofs.Common.{◌≡◌, ◌≢◌, ◌∙◌, ◌==◌, [], IfSome, List, None, Option, Some, ap, eq-eqb}
use Rattle.std.proofs.Common.{length, find, map, refl, subst, sym, true}
use Rattle.std.specs.Option.{option_map}
use Rattle.std.proofs.lemmas.Option.{same_Some}
use Rattle.pl_base.specs.declared.id.ItemId.{ItemId}
use Rattle.pl_base.specs.declared.id.PageId.{PageId}
use Rattle.pl_base.specs.declared.id.Slot.{Slot}
use Rattle.pl_base.specs.declared.id.VisitId.{VisitId}
use Rattle.pl_base.specs.Rows.{Kept, KeptPage, has_page}
use Rattle.pl_base.specs.Store.{Item, Visit}
use Rattle.pl_base.specs.Tree.{children_of, has_child, is_page, item_at, parent_of, references}
use Rattle.pl_base.proofs.ItemLookUps.{same_item}
use Rattle.pl_base.proofs.ListLaws.{list_any-map}
use Rattle.pl_base.proofs.LookUps.{found_any, found_passes, found_some}
use Rattle.pl_base.proofs.OneParent.{is_among}
use Rattle.pl_base.proofs.PageLaws.{id_at}
use Rattle.pl_base.proofs.ReferencesRun.{having}
use Rattle.pl_record.specs.declared.rows.Item.{Item as Row}
use Rattle.pl_record.specs.Chains.{item_slots}
use Rattle.pl_record.specs.ItemChanges.{HoldsLeaf}
use Rattle.pl_record.specs.LinkedRows.{AreLinked, Entries, slot_at}
use Rattle.pl_record.proofs.NamedSlots.{found_all, found_of, item_row_is}
use Rattle.pl_record.specs.Records.{Layout, slot_or_none}
use Rattle.pl_record.specs.Rows.{item_row, row_in}
use Rattle.pl_record.proofs.ItemChains.{slotted_item}
use Rattle.pl_record.proofs.ItemRowsTold.{item_found}
use Rattle.pl_record.proofs.LookUps.{Found}
use Rattle.pl_record.proofs.RecordMaps.{held_record}
use Rattle.pl_record.proofs.Splits.{any_kept}
use Rattle.pl_rail.specs.declared.owner.Owner.TheVariants.{At, Header}
use Rattle.pl_rail.specs.Rails.{HasMember, Lists, is_in}
use Rattle.pl_rail.proofs.Membership.{member_listed}
use Rattle.pl_sheets.specs.Sheets.{Pages}
use Rattle.pl_slot.specs.declared.kind.LiveKind.TheVariants as live
use Rattle.pl_slot.specs.declared.links.Rail.TheVariants.{Children, Live, References}
use Rattle.pl_slot.specs.Arena.{first_in}
use Rattle.pl_text.specs.Chunks.{Hold}

-- ---- members

-- the slot of an item is among those of items that have it
pub among_items : (at : Layout) (id : ItemId) (cs : List ItemId) → is_among id cs ≡ true
    → is_in (at.item id) (item_slots at cs) ≡ true
among_items at id cs among =
    let c = found_of (λ (d : ItemId). d.0 == id.0) cs among in
    list_any-map (λ (s : Slot). s.0 == (at.item id).0) at.item cs
    ∙ found_any (λ (d : ItemId). d.0 == id.0) (λ (d : ItemId). (at.item d).0 == (at.item id).0) cs c.0 c.1
    (eq-eqb (at.item c.0).0 (at.item id).0
    (ap (λ (d : ItemId). (at.item d).0)
    (same_item c.0 id (found_passes (λ (d : ItemId). d.0 == id.0) cs c.0 c.1))))

module _ (kept : Kept) (targets : VisitId → List Visit) (old : Pages) (pages visits items : Entries)
    (l : AreLinked kept targets old pages visits items) (id : ItemId) (slot : Slot)
    (some : slot_at items id.0 ≡ Some slot) where
  abbrev pub item_place : Item → Slot
  item_place j = l.at.item j.id

  pub found : Found item_place (item_at kept.items id) slot
  found = item_found kept targets old pages visits items l id slot some

  abbrev i : Item
  i = found.row

  pub own_id : i.id ≡ id
  own_id = same_item i.id id (found_passes (λ (j : Item). j.id.0 == id.0) kept.items i found.there)

  pub slot_is : l.at.item id ≡ slot
  slot_is = ap l.at.item (sym own_id) ∙ found.here

  read : row_in slot old ≡ Some (item_row (slotted_item l.at kept.items i))
  read =
      ap (λ (s : Slot). row_in s old) (sym found.here)
      ∙ item_row_is l.at kept old l.laid.rows id i found.there

  in_all : is_among id (map (λ (j : Item). j.id) kept.items) ≡ true
  in_all =
      list_any-map (λ (c : ItemId). c.0 == id.0) (λ (j : Item). j.id) kept.items
      ∙ found_some (λ (j : Item). j.id.0 == id.0) kept.items i found.there

  -- the slot is in these of items that have it
  in_slots : (cs : List ItemId) → is_among id cs ≡ true → is_in slot (item_slots l.at cs) ≡ true
  in_slots cs among = subst (λ s. is_in s (item_slots l.at cs) ≡ true) slot_is (among_items l.at id cs among)

  of_parent : (o : Option ItemId) → parent_of kept.items i.id ≡ o → (slot_or_none l.at.item o).0 ≢ 0
      → HasMember Children (At (slot_or_none l.at.item o)) slot old
  of_parent None is some_parent = absurd (some_parent refl)
  of_parent (Some q) is some_parent = choose (find (has_child i.id) kept.items) refl is
    where
      choose : (o : Option Item) → find (has_child i.id) kept.items ≡ o → option_map (λ (j : Item). j.id) o ≡ Some q
          → HasMember Children (At (l.at.item q)) slot old
      choose None none same = absurd (cc)
      choose (Some p) here same =
          subst (λ (c : ItemId). HasMember Children (At (l.at.item c)) slot old) (same_Some p.id q same)
          (member_listed Children (At (l.at.item p.id)) slot (item_slots l.at p.children) old
          (found_all (λ (j : Item). Lists Children (At (l.at.item j.id)) (item_slots l.at j.children) old)
          (has_child i.id) kept.items p l.laid.chains.children here)
          (in_slots p.children
          (ap (λ (c : ItemId). is_among c p.children) (sym own_id) ∙ found_passes (has_child i.id) kept.items p here)))

  of_page : (o : Option PageId) → i.page ≡ o → (slot_or_none l.at.page o).0 ≢ 0
      → HasMember References (At (slot_or_none l.at.page o)) slot old
  of_page None is some_page = absurd (some_page refl)
  of_page (Some page) is some_page =
      let known : IfSome i.page (λ p. has_page kept p ≡ true) =
      found_all (λ (j : Item). IfSome j.page (λ p. has_page kept p ≡ true)) (λ (j : Item). j.id.0 == id.0) kept.items i
      l.rows.own found.there in
      let has : has_page kept page ≡ true =
      subst (λ (p : Option PageId). IfSome p (λ p. has_page kept p ≡ true)) is known in
      let p = found_of (λ (q : KeptPage). q.page.id.0 == page.0) kept.pages has in
      let listed : Lists References (At (l.at.page page)) (item_slots l.at (references kept.items page)) old =
      subst (λ (c : PageId). Lists References (At (l.at.page c)) (item_slots l.at (references kept.items c)) old)
      (id_at kept page p.0 p.1)
      (found_all (λ (q : KeptPage). Lists References (At (l.at.page q.page.id))
      (item_slots l.at (references kept.items q.page.id)) old) (λ (q : KeptPage). q.page.id.0 == page.0) kept.pages p.0
      l.laid.chains.references p.1) in
      let among : is_among id (references kept.items page) ≡ true =
      list_any-map (λ (c : ItemId). c.0 == id.0) (λ (j : Item). j.id) (having kept.items page)
      ∙ any_kept (λ (j : Item). j.id.0 == id.0) (λ (j : Item). is_page page j.page) kept.items i found.there
      (ap (is_page page) is ∙ eq-eqb page.0 page.0 refl) in
      member_listed References (At (l.at.page page)) slot (item_slots l.at (references kept.items page)) old listed
      (in_slots (references kept.items page) among)

  module _ (bare : children_of kept.items id ≡ []) where
    no_children : i.children ≡ []
    no_children =
        let here : item_at kept.items id ≡ Some i = found.there in
        rw here at bare

    pub leaf_held : HoldsLeaf slot old
    leaf_held =
        record {
          item = slotted_item l.at kept.items i;
          row = held_record (record { slot = slot; row = item_row (slotted_item l.at kept.items i) }) old refl read;
          title = i.title;
          text = l.at.item_title id;
          begins = ap (λ (c : ItemId). first_in (l.at.item_title c)) own_id;
          held =
              subst (λ (c : ItemId). Hold (l.at.item_title c) i.title old) own_id
              (found_all (λ (j : Item). Hold (l.at.item_title j.id) j.title old) (λ (j : Item). j.id.0 == id.0)
              kept.items i l.laid.texts.item_titles found.there);
          of_header =
              member_listed Live (Header live.Item) slot (item_slots l.at (map (λ (j : Item). j.id) kept.items)) old
              l.laid.live.items (in_slots (map (λ (j : Item). j.id) kept.items) in_all);
          of_parent = of_parent (parent_of kept.items i.id) refl;
          of_page = of_page i.page refl;
          no_child =
              subst (λ (s : Slot). Lists Children (At s) [] old) found.here
              (subst (λ (cs : List ItemId). Lists Children (At (l.at.item i.id)) (item_slots l.at cs) old) no_children
              (found_all (λ (j : Item). Lists Children (At (l.at.item j.id)) (item_slots l.at j.children) old)
              (λ (j : Item). j.id.0 == id.0) kept.items i l.laid.chains.children found.there));
        }

    pub leaf_is : leaf_held.item ≡ slotted_item l.at kept.items i
    unfolding leaf_held
    leaf_is = refl

    pub text_is : leaf_held.text ≡ l.at.item_title id
    unfolding leaf_held
    text_is = refl

    -- the row that is read says how long its title is
    pub title_long : (row : Row) → row_in slot old ≡ Some (item_row row) → length i.title ≡ row.title.length
    title_long row is =
        let both : Some (item_row row) ≡ Some (item_row (slotted_item l.at kept.items i)) = sym is ∙ read in
        cc
