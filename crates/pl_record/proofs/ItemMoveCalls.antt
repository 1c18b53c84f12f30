-- An item becomes a child of another by a few calls: what these ask for, and what they leave of the
-- rows.
use Rattle.std.proofs.Common.{◌≡◌, ◌≢◌, ◌∙◌, ◌==◌, ℕ, IfSome, List, None, Option, Some, ap, map, refl}
use Rattle.std.proofs.Common.{subst, sym, true}
use Rattle.std.proofs.Props.{props}
use Rattle.std.specs.Option.{option_and_then, option_map}
use Rattle.pl_base.specs.declared.id.ItemId.{ItemId}
use Rattle.pl_base.specs.declared.id.Slot.{Slot}
use Rattle.pl_base.specs.declared.id.VisitId.{VisitId}
use Rattle.pl_base.specs.Rows.{Kept, with_items}
use Rattle.pl_base.specs.Store.{Item, Visit}
use Rattle.pl_base.specs.Tree.{IsFolder, has_item, item_at, moved, parent_of}
use Rattle.pl_base.proofs.ItemLookUps.{same_item}
use Rattle.pl_base.proofs.ListLaws.{map-map}
use Rattle.pl_base.proofs.LookUps.{found_passes, found_some}
use Rattle.pl_record.specs.declared.rows.Item.{Item as Row}
use Rattle.pl_record.specs.ChainMap.{AreApart, AreChains, ChainMap, IsLoose}
use Rattle.pl_record.specs.ItemChanges.{MovesItem}
use Rattle.pl_record.specs.LinkedRows.{AreLinked, Entries, IsBaseOf, slot_at}
use Rattle.pl_record.proofs.NamedSlots.{item_row_is}
use Rattle.pl_record.specs.Records.{item_record, slot_or_none}
use Rattle.pl_record.specs.Rows.{item_row, record_at}
use Rattle.pl_record.proofs.Bases.{base_kept}
use Rattle.pl_record.proofs.Filled.{filled, laid_out}
use Rattle.pl_record.proofs.ItemChains.{children_apart, pageless_loose, parentless_loose, slotted_item}
use Rattle.pl_record.proofs.ItemMovedChains.{child_there, one_item, root_loose}
use Rattle.pl_record.proofs.ItemMovedRows.{item_moved, items_moved, live_moved, placed}
use Rattle.pl_record.proofs.ItemMoves.{item_moves}
use Rattle.pl_record.proofs.ItemRowsTold.{item_found}
use Rattle.pl_record.proofs.LaidChains.{chains_of, laid_chains}
use Rattle.pl_record.proofs.LookUps.{Found}
use Rattle.pl_record.proofs.OneChains.{map_once, member_once}
use Rattle.pl_record.proofs.RecordMaps.{held_record}
use Rattle.pl_rail.specs.declared.owner.Owner.TheVariants.{At}
use Rattle.pl_rail.specs.Rails.{HasMember}
use Rattle.pl_sheets.specs.Sheets.{Pages}
use Rattle.pl_slot.specs.declared.links.Rail.TheVariants.{Children}
use Rattle.pl_slot.specs.Arena.{IsArena}
use Rattle.pl_record.proofs.ItemCalls.{child_member, item_slots_of}

-- the slot that a child stands behind is one by one way at most
pub behind_once : (slot parent : Slot) (pages : Pages) (o : Option Slot)
    → IsProp (IfSome o (λ s. (s ≢ slot) × HasMember Children (At parent) s pages))
behind_once slot parent pages None a b = refl
behind_once slot parent pages (Some s) a b =
    let apart : a.0 ≡ b.0 = differ_once a.0 b.0 in
    let member : a.1 ≡ b.1 = member_once Children (At parent) s pages a.1 b.1 in
    λ i. (apart i, member i)
  where
    differ_once : IsProp (s ≢ slot)
    differ_once = Prim.hlevel props

module _ (kept : Kept) (targets : VisitId → List Visit) (old : Pages) (pages visits items : Entries)
    (l : AreLinked kept targets old pages visits items) where
  abbrev before : ChainMap
  before = chains_of l.at kept targets

  are : AreChains before old
  are = laid_chains l.at kept targets old l.rows l.laid

  -- no item is in two chains
  pub child_chains : (chains : ChainMap) × AreChains chains old × AreApart Children chains
  child_chains = (before, are, children_apart l.at kept targets old l.rows l.laid.rows)

  -- an item that has a parent is there
  pub there : (parent child : ItemId) → parent_of kept.items child ≡ Some parent → has_item kept.items child ≡ true
  there parent child is = (child_there kept l.rows.children child parent is).0

  -- the slot of an item that is there
  pub item_slot_is : (id : ItemId) (slot : Slot) → slot_at items id.0 ≡ Some slot → l.at.item id ≡ slot
  item_slot_is id slot some =
      let f = item_found kept targets old pages visits items l id slot some in
      ap l.at.item (sym (same_item f.row.id id (found_passes (λ (j : Item). j.id.0 == id.0) kept.items f.row f.there)))
      ∙ f.here

  module _ (id : ItemId) (slot : Slot) (some : slot_at items id.0 ≡ Some slot) where
    found : Found (λ (j : Item). l.at.item j.id) (item_at kept.items id) slot
    found = item_found kept targets old pages visits items l id slot some

    abbrev i : Item
    i = found.row

    own_id : i.id ≡ id
    own_id = same_item i.id id (found_passes (λ (j : Item). j.id.0 == id.0) kept.items i found.there)

    id_there : has_item kept.items id ≡ true
    id_there = found_some (λ (j : Item). j.id.0 == id.0) kept.items i found.there

    slot_is : l.at.item id ≡ slot
    slot_is = item_slot_is id slot some

    -- its row, and the parent that it names
    row_is : record_at slot.0 old ≡ Some (item_row (slotted_item l.at kept.items i))
    row_is =
        subst (λ s. record_at s.0 old ≡ Some (item_row (slotted_item l.at kept.items i))) found.here
        (held_record (item_record l.at kept.items i) old refl (item_row_is l.at kept old l.laid.rows id i found.there))

    parent_is : (row : Row) → record_at slot.0 old ≡ Some (item_row row)
        → row.parent ≡ slot_or_none l.at.item (parent_of kept.items id)
    parent_is row read =
        let both : Some (item_row row) ≡ Some (item_row (slotted_item l.at kept.items i)) = sym read ∙ row_is in
        let own : row.parent ≡ slot_or_none l.at.item (parent_of kept.items i.id) = cc in
        own ∙ ap (λ (c : ItemId). slot_or_none l.at.item (parent_of kept.items c)) own_id

    -- ---- what the call asks for

    pub of_parent : (row : Row) → record_at slot.0 old ≡ Some (item_row row) → row.parent.0 ≢ 0
        → HasMember Children (At row.parent) slot old
    of_parent row read has =
        choose (parent_of kept.items id) refl (parent_is row read)
      where
        choose : (o : Option ItemId) → parent_of kept.items id ≡ o → row.parent ≡ slot_or_none l.at.item o
            → HasMember Children (At row.parent) slot old
        choose None is own = absurd (has (ap (λ (s : Slot). s.0) own))
        choose (Some p) is own =
            subst (λ s. HasMember Children (At s) slot old) (sym own)
            (subst (λ s. HasMember Children (At (l.at.item p)) s old) slot_is
            (child_member kept targets old pages visits items l id p is))

    pub loose : (row : Row) → record_at slot.0 old ≡ Some (item_row row) → row.parent.0 ≡ 0
        → (chains : ChainMap) → AreChains chains old → IsLoose Children slot chains
    loose row read zero chains others =
        let same : before ≡ chains =
        ap (λ (m : (c : ChainMap) × AreChains c old). m.0) (map_once old (before, are) (chains, others)) in
        subst (λ (c : ChainMap). IsLoose Children slot c) same
        (subst (λ s. IsLoose Children s before) slot_is
        (root_loose l.at kept targets old l.rows l.laid.rows id id_there before
        (parentless_loose l.at kept targets old l.rows l.laid.rows)
        (ap (λ (s : Slot). s.0) (sym (parent_is row read)) ∙ zero)))

    module _ (parent : ItemId) (folder : IsFolder kept.items parent) (above : Slot)
        (above_some : slot_at items parent.0 ≡ Some above) (after : Option ItemId)
        (behind : IfSome after (λ a. (a ≢ id) × (parent_of kept.items a ≡ Some parent))) (put : Option Slot)
        (put_is : put ≡ option_and_then (λ (a : ItemId). slot_at items a.0) after) where
      above_is : l.at.item parent ≡ above
      above_is = item_slot_is parent above above_some

      behind_there : (o : Option ItemId) → IfSome o (λ a. (a ≢ id) × (parent_of kept.items a ≡ Some parent))
          → IfSome o (λ a. has_item kept.items a ≡ true)
      behind_there None known = tt
      behind_there (Some a) known = (child_there kept l.rows.children a parent known.1).0

      put_named : put ≡ option_map l.at.item after
      put_named = put_is ∙ item_slots_of kept targets old pages visits items l after (behind_there after behind)

      pub behind_member : IfSome put (λ s. (s ≢ slot) × HasMember Children (At above) s old)
      behind_member =
          subst (λ o. IfSome o (λ s. (s ≢ slot) × HasMember Children (At above) s old)) (sym put_named)
          (choose after behind)
        where
          choose : (o : Option ItemId) → IfSome o (λ a. (a ≢ id) × (parent_of kept.items a ≡ Some parent))
              → IfSome (option_map l.at.item o) (λ s. (s ≢ slot) × HasMember Children (At above) s old)
          choose None known = tt
          choose (Some a) known = (
            λ same.
                known.0 (one_item l.at kept targets old l.rows l.laid.rows a id
                (child_there kept l.rows.children a parent known.1).0 id_there (same ∙ sym slot_is)),
            subst (λ s. HasMember Children (At s) (l.at.item a) old) above_is
                (child_member kept targets old pages visits items l a parent known.1),
          )

      -- ---- what it leaves

      module _ (new : Pages)
          (moves : (row : Row) → record_at slot.0 old ≡ Some (item_row row) → MovesItem row slot above put old new)
        where
          own_moves : MovesItem (slotted_item l.at kept.items i) slot above put old new
          own_moves = moves (slotted_item l.at kept.items i) row_is

          abbrev whole : Kept
          whole = with_items (moved id parent after kept.items) kept

          at_moves : MovesItem (slotted_item l.at kept.items i) (l.at.item id) (l.at.item parent)
              (option_map l.at.item after) old new
          at_moves =
              subst (λ s. MovesItem (slotted_item l.at kept.items i) s (l.at.item parent) (option_map l.at.item after)
              old new) (sym slot_is)
              (subst (λ s. MovesItem (slotted_item l.at kept.items i) slot s (option_map l.at.item after) old new)
              (sym above_is)
              (subst (λ o. MovesItem (slotted_item l.at kept.items i) slot above o old new) put_named own_moves))

          pub moved_rows : IsArena new → AreLinked whole targets new pages visits items
          unfolding filled
          moved_rows arena =
              record {
                at = l.at;
                rows = item_moved id parent after kept targets l.rows id_there;
                laid =
                    laid_out l.at whole targets new
                    (item_moves l.at kept targets id i found.there parent folder after behind old new l.rows
                    (filled l.at kept targets old l.rows l.laid)
                    (children_apart l.at kept targets old l.rows l.laid.rows)
                    (parentless_loose l.at kept targets old l.rows l.laid.rows)
                    (pageless_loose l.at kept targets old l.rows l.laid.rows) at_moves) arena
                    (record {
                      form = own_moves.body.form ∙ l.laid.header.form;
                      day = own_moves.body.day ∙ l.laid.header.day;
                      ids = own_moves.body.ids ∙ l.laid.header.ids;
                      live = own_moves.body.live ∙ l.laid.header.live ∙ sym (live_moved id parent after kept);
                      rest = own_moves.body.rest ∙ l.laid.header.rest;
                    });
                indexed = record {
                  pages = l.indexed.pages;
                  visits = l.indexed.visits;
                  items =
                      l.indexed.items
                      ∙ sym (ap (map {B = ℕ × Slot} (λ (j : Item). (j.id.0, l.at.item j.id)))
                      (items_moved id parent after kept)
                      ∙ map-map (λ (j : Item). (j.id.0, l.at.item j.id)) (placed id parent after kept) kept.items);
                };
              }

          pub moved_base : (bytes : List ℕ) → IsBaseOf old bytes → IsBaseOf new bytes
          moved_base = base_kept own_moves.these old new l.laid.arena.whole own_moves.pages
