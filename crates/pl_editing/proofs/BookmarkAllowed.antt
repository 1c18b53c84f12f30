-- What holds where a new bookmark is not refused, and the step that it makes.
use Rattle.std.proofs.Common.{◌≡◌, ◌∙◌, ◌+◌, ◌≤◌, ◌==◌, ◌&&◌, ℕ, Bool, true, false, List, Option}
use Rattle.std.proofs.Common.{Some, None, ap, arith, if◌then◌else◌, refl, sym}
use Rattle.std.specs.Option.{is_none, option_or}
use Rattle.pl_base.specs.declared.date.Micros.{Micros}
use Rattle.pl_base.specs.declared.id.IdKind.TheVariants.{Item as ItemIds, Page as PageIds}
use Rattle.pl_base.specs.declared.id.ItemId.{ItemId}
use Rattle.pl_base.specs.declared.id.PageId.{PageId}
use Rattle.pl_base.specs.declared.refusal.Refusal.{Refusal}
use Rattle.pl_base.specs.declared.refusal.Refusal.TheVariants.{Full, NoIds}
use Rattle.pl_base.specs.Good.{end_of_ids}
use Rattle.pl_base.specs.Live.{chunks, live_slots, slot_limit}
use Rattle.pl_base.specs.Rows.{IsWellKept, Kept, store_of}
use Rattle.pl_base.specs.Store.{Store}
use Rattle.pl_base.specs.Title.{cut_title}
use Rattle.pl_tree.specs.declared.place.Place.{Place}
use Rattle.pl_tree.specs.declared.tree_change.TreeChange.TheVariants.{Insert}
use Rattle.pl_tree.specs.Refused.{insert_refusal, refusal}
use Rattle.pl_step.specs.declared.command.Command.TheVariants.{Bookmark as BookmarkCommand}
use Rattle.pl_history.specs.declared.find.Target.{Target}
use Rattle.pl_history.specs.declared.find.Target.TheVariants.{Known, New}
use Rattle.pl_step.specs.declared.reply.Reply.{Reply}
use Rattle.pl_step.specs.declared.reply.Reply.TheVariants.{Item as ItemReply, Refused}
use Rattle.pl_editing.specs.Room.{item_room}
use Rattle.pl_history.specs.Marked.{page_item}
use Rattle.pl_step.specs.Step.{after_bookmark, after_insert, is_full, new_bookmark}
use Rattle.pl_base.specs.Visiting.{find_page}
use Rattle.pl_base.specs.Visiting.{page_for, with_page_for}
use Rattle.pl_step.specs.Step.{perform}
use Rattle.pl_history.specs.Target.{HasRoom, IsTargetOf, WithTarget, is_new}
use Rattle.pl_editing.proofs.ItemStep.{insert_done, insert_refused, live_inserted}
use Rattle.pl_editing.proofs.PageSlots.{AreSlots, few_slots, new_is, next_item, page_room, visit_slots}
use Rattle.pl_history.proofs.VisitMade.{target_page, target_store}

-- ---- slots

-- the slots of the step
step_slots : (kept : Kept) (parent : ItemId) (place : Place) (url text title : List ℕ) (date : Micros) (slots : ℕ)
    → text ≡ cut_title title → AreSlots kept url (chunks text) slots
    → slots ≡ live_slots (after_bookmark (store_of kept) parent place url title date)
step_slots kept parent place url text title date slots cut s =
    omega (
      arith,
      s.is,
      ap chunks cut,
      visit_slots kept url (chunks text) slots s,
      live_inserted parent place (new_bookmark (page_for (store_of kept) url).id title date)
          (with_page_for (store_of kept) url),
    )

-- ---- no cause to refuse it

pub none_of : (a b c : Bool) (r s t : Refusal)
    → (if a then Some r else if b then Some s else if c then Some t else None) ≡ None
    → (a ≡ false) × (b ≡ false) × (c ≡ false)
none_of true b c r s t none = absurd (cc)
none_of false true c r s t none = absurd (cc)
none_of false false true r s t none = absurd (cc)
none_of false false false r s t none = (refl, refl, refl)

-- there are ids and slots
pub record HasItemRoom (limit : ℕ) (store : Store) (with_page : Bool) (slots : ℕ) : Type 0 where
  pub page : (with_page && (store.ids.page == end_of_ids)) ≡ false
  pub item : (store.ids.item == end_of_ids) ≡ false
  pub few : is_full limit (live_slots store) slots ≡ false

pub item_room_of : (limit : ℕ) (store : Store) (with_page : Bool) (slots : ℕ) (room : Option Refusal)
    → room ≡ item_room limit store with_page slots → room ≡ None → HasItemRoom limit store with_page slots
item_room_of limit store with_page slots room is none =
    let parts =
    none_of (with_page && (store.ids.page == end_of_ids)) (store.ids.item == end_of_ids)
    (is_full limit (live_slots store) slots) (NoIds PageIds) (NoIds ItemIds) (Full slots) (sym is ∙ none) in
    record { page = parts.0; item = parts.1; few = parts.2 }

-- a new page has an id and its slots
pub room_page : (limit : ℕ) (kept : Kept) (url title : List ℕ) (target : Target) (slots : ℕ) → IsWellKept kept
    → IsTargetOf kept url target → AreSlots kept url (chunks title) slots
    → HasItemRoom limit (store_of kept) (is_new target) slots → limit ≤ slot_limit → HasRoom url target kept
room_page limit kept url title target slots h of s room most =
    page_room limit kept url target (chunks title) slots h of s room.page room.few most

-- the item has its slots in the rows with the page
pub room_item : (limit : ℕ) (kept mid : Kept) (url title : List ℕ) (target : Target) (page : PageId) (with_page : Bool)
    (slots : ℕ) → IsTargetOf kept url target → WithTarget url target kept mid page
    → AreSlots kept url (chunks title) slots → HasItemRoom limit (store_of kept) with_page slots → limit ≤ slot_limit
    → live_slots (store_of mid) + 1 + chunks title ≤ slot_limit
room_item limit kept mid url title target page with_page slots of with s room most =
    omega (
      arith,
      s.is,
      visit_slots kept url (chunks title) slots s,
      ap live_slots (target_store kept mid url target page of with),
      few_slots limit kept url (chunks title) slots s room.few,
    )

-- the page does not bear on the place and the id of the item
still_allowed : (kept mid : Kept) (url : List ℕ) (target : Target) (page : PageId) (parent : ItemId) (place : Place)
    → WithTarget url target kept mid page → insert_refusal parent place mid ≡ insert_refusal parent place kept
still_allowed kept mid url (Known id) page parent place with = ap (insert_refusal parent place) with.1
still_allowed kept mid url (New (Some origin)) page parent place with = ap (insert_refusal parent place) with.1
still_allowed kept mid url (New None) page parent place with = ap (insert_refusal parent place) with.1.1

pub none_refused : (limit : ℕ) (kept mid : Kept) (url : List ℕ) (target : Target) (page : PageId) (parent : ItemId)
    (place : Place) (with_page : Bool) (slots : ℕ)
    → WithTarget url target kept mid page → refusal kept.items (Insert parent place) ≡ None
    → HasItemRoom limit (store_of kept) with_page slots → insert_refusal parent place mid ≡ None
none_refused limit kept mid url target page parent place with_page slots with none room =
    still_allowed kept mid url target page parent place with
    ∙ ap (λ (o : Option Refusal). option_or o (if kept.ids.item == end_of_ids then Some (NoIds ItemIds) else None)) none
    ∙ ap (λ (b : Bool). if b then Some (NoIds ItemIds) else None) room.item

-- ---- the step

abbrev Steps : ℕ → Kept → ItemId → Place → List ℕ → List ℕ → Micros → Reply → Store → Type 0
Steps limit kept parent place url title date reply new =
    ◌≡◌ {A = Reply × Store} (reply, new)
    (perform limit (store_of kept) (BookmarkCommand parent place url title date))

pub bookmark_refused : (limit : ℕ) (kept : Kept) (parent : ItemId) (place : Place) (url text title : List ℕ)
    (date : Micros) (target : Target) (slots : ℕ) (room : Option Refusal) (r : Refusal)
    → IsTargetOf kept url target → refusal kept.items (Insert parent place) ≡ None → text ≡ cut_title title
    → AreSlots kept url (chunks text) slots → room ≡ item_room limit (store_of kept) (is_new target) slots
    → room ≡ Some r
    → Steps limit kept parent place url title date (Refused r) (store_of kept)
bookmark_refused limit kept parent place url text title date target slots room r of none cut s of_room some =
    insert_refused limit (store_of kept) parent place (is_none (find_page url (store_of kept).pages))
    (after_bookmark (store_of kept) parent place url title date) slots room r none
    (step_slots kept parent place url text title date slots cut s)
    (of_room ∙ ap (λ (b : Bool). item_room limit (store_of kept) b slots) (new_is kept url target of)) some

pub bookmark_done : (limit : ℕ) (kept mid : Kept) (new : Store) (parent : ItemId) (place : Place)
    (url text title : List ℕ) (date : Micros) (target : Target) (page : PageId) (slots : ℕ) (room : Option Refusal)
    (id : ItemId)
    → IsTargetOf kept url target → WithTarget url target kept mid page
    → refusal kept.items (Insert parent place) ≡ None → text ≡ cut_title title → AreSlots kept url (chunks text) slots
    → room ≡ item_room limit (store_of kept) (is_new target) slots → room ≡ None → id.0 ≡ mid.ids.item
    → new ≡ after_insert parent place (page_item page text date) (store_of mid)
    → Steps limit kept parent place url title date (ItemReply id) new
bookmark_done limit kept mid new parent place url text title date target page slots room id of with none cut s room_is
    free given made =
    insert_done limit (store_of kept) parent place (is_none (find_page url (store_of kept).pages))
    (after_bookmark (store_of kept) parent place url title date) new slots room id none
    (step_slots kept parent place url text title date slots cut s)
    (room_is ∙ ap (λ (b : Bool). item_room limit (store_of kept) b slots) (new_is kept url target of)) free
    (given ∙ next_item kept mid url target page with)
    (made
    ∙ ap (after_insert parent place (page_item page text date)) (target_store kept mid url target page of with)
    ∙ ap (λ (t : List ℕ). after_insert parent place (page_item page t date) (with_page_for (store_of kept) url)) cut
    ∙ ap (λ (p : PageId). after_insert parent place (new_bookmark p title date) (with_page_for (store_of kept) url))
    (sym (target_page kept mid url target page of with)))
