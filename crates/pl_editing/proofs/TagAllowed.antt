-- What holds where a tag is not refused, and the step that it makes.
use Rattle.std.proofs.Common.{◌≡◌, ◌∙◌, ◌+◌, ◌≤◌, ◌==◌, ◌&&◌, ℕ, Bool, true, false, List, Option}
use Rattle.std.proofs.Common.{Some, None, ap, arith, if◌then◌else◌, nat_lt, refl, sym}
use Rattle.std.specs.Prelude.{not}
use Rattle.std.specs.Option.{is_none, is_some, option_map}
use Rattle.pl_base.specs.declared.date.Micros.{Micros}
use Rattle.pl_base.specs.declared.id.IdKind.TheVariants.{Item as ItemIds, Page as PageIds}
use Rattle.pl_base.specs.declared.id.ItemId.{ItemId}
use Rattle.pl_base.specs.declared.id.PageId.{PageId}
use Rattle.pl_base.specs.declared.refusal.Refusal.{Refusal}
use Rattle.pl_base.specs.declared.refusal.Refusal.TheVariants.{DupTag, Full, NoIds}
use Rattle.pl_base.specs.declared.transition.Transition.{Transition}
use Rattle.pl_base.specs.declared.transition.Transition.TheVariants.{Link}
use Rattle.pl_base.specs.Good.{HasGoodItems, end_of_ids}
use Rattle.pl_base.specs.Live.{chunks, live_slots, slot_limit}
use Rattle.pl_base.specs.Rows.{IsWellKept, Kept, store_of}
use Rattle.pl_base.specs.Store.{Item, Page, Store}
use Rattle.pl_tree.specs.Refused as tree
use Rattle.pl_tree.specs.Tagged.{new_items, tag_entry, tag_named, with_tagged}
use Rattle.pl_step.specs.declared.command.Command.TheVariants.{Tag as TagCommand}
use Rattle.pl_history.specs.declared.find.Target.{Target}
use Rattle.pl_history.specs.declared.find.Target.TheVariants.{Known, New}
use Rattle.pl_step.specs.declared.reply.Reply.{Reply}
use Rattle.pl_step.specs.declared.reply.Reply.TheVariants.{Done}
use Rattle.pl_step.specs.Step.{after_tag, is_full, is_tagged, perform}
use Rattle.pl_editing.specs.Room.{tag_room}
use Rattle.pl_base.specs.Visiting.{after_visit, find_page, page_for}
use Rattle.pl_graft.specs.Import.{tagged_store}
use Rattle.pl_step.specs.Step.{tag_refusal, unless_refused}
use Rattle.pl_base.specs.Visiting.{with_page_for}
use Rattle.pl_history.specs.Target.{HasRoom, IsTargetOf, WithTarget, is_new}
use Rattle.pl_history.specs.Marked.{has_tag}
use Rattle.pl_editing.proofs.FreshPage.{no_entry}
use Rattle.pl_history.proofs.LiveAfter.{live_visited}
use Rattle.pl_editing.proofs.PageSlots.{AreSlots, few_slots, new_is, next_item, page_room, visit_slots}
use Rattle.pl_editing.proofs.TagMade.{folder_slots, live_tagged}
use Rattle.pl_history.proofs.Targets.{IsFound, found_page}
use Rattle.pl_done.proofs.VisitSlots.{grows}
use Rattle.pl_history.proofs.VisitMade.{target_page, target_store}
use Rattle.pl_graft.proofs.Ready.{items_page}

-- ---- slots

live_after : (store : Store) (url name : List ℕ) (date : Micros)
    → live_slots (after_tag store url name date)
    ≡ live_slots (with_page_for store url) + 1 + folder_slots name store.items
live_after store url name date =
    live_tagged (page_for store url).id name date (with_page_for store url)
    ∙ ap (λ (items : List Item). live_slots (with_page_for store url) + 1 + folder_slots name items)
    (items_page store url)

-- the slots as they are reckoned are those of the step
pub slots_tagged : (kept : Kept) (url name : List ℕ) (date : Micros) (slots : ℕ)
    → AreSlots kept url (folder_slots name kept.items) slots
    → slots ≡ live_slots (after_tag (store_of kept) url name date)
slots_tagged kept url name date slots s =
    omega (
      arith,
      s.is,
      visit_slots kept url (folder_slots name kept.items) slots s,
      live_after (store_of kept) url name date,
    )

-- and the other way round
tag_slots : (kept : Kept) (url name : List ℕ) (date : Micros) (target : Target) → IsTargetOf kept url target
    → AreSlots kept url (folder_slots name kept.items) (live_slots (after_tag (store_of kept) url name date))
tag_slots kept url name date target of =
    record {
      visit = live_slots (after_visit (store_of kept) url Link (record { 0 = 0 }) None);
      after = λ transition at. visit_alike transition at;
      grows = grows kept url target Link (record { 0 = 0 }) None of;
      is = omega (arith, live_after (store_of kept) url name date, live_visit Link (record { 0 = 0 }));
    }
  where
    live_visit : (transition : Transition) (at : Micros)
        → live_slots (after_visit (store_of kept) url transition at None)
        ≡ live_slots (with_page_for (store_of kept) url) + 1
    live_visit transition at =
        live_visited (page_for (store_of kept) url).id transition at None (with_page_for (store_of kept) url)

    visit_alike : (transition : Transition) (at : Micros)
        → live_slots (after_visit (store_of kept) url Link (record { 0 = 0 }) None)
        ≡ live_slots (after_visit (store_of kept) url transition at None)
    visit_alike transition at = live_visit Link (record { 0 = 0 }) ∙ sym (live_visit transition at)

-- ---- why it is refused

tagged_is : (kept : Kept) (url name : List ℕ) (target : Target) → IsTargetOf kept url target
    → is_tagged (store_of kept) (find_page url (store_of kept).pages) name ≡ has_tag target name kept.items
tagged_is kept url name (Known id) of =
    let f : IsFound kept url id = found_page kept url id of in
    ap (λ (o : Option Page). is_tagged (store_of kept) o name) f.there
    ∙ ap (λ (p : PageId). is_some (tag_entry p name kept.items)) f.is
tagged_is kept url name (New origin) of = ap (λ (o : Option Page). is_tagged (store_of kept) o name) of.0

pub refused_room : (limit : ℕ) (kept : Kept) (url name : List ℕ) (target : Target) (slots told : ℕ)
    (tagged with_page with_folder : Bool) (room : Option Refusal)
    → IsTargetOf kept url target → tagged ≡ has_tag target name kept.items → tagged ≡ false
    → with_page ≡ is_new target → with_folder ≡ is_none (tag_named name kept.items) → told ≡ slots
    → room ≡ tag_room limit (store_of kept) with_page with_folder told
    → room ≡ tag_refusal limit (store_of kept) url name slots
refused_room limit kept url name target slots told tagged with_page with_folder room of is none page_is folder_is
    slots_is room_is =
    let store : Store = store_of kept in
    let page : Bool = is_none (find_page url store.pages) in
    let folder : Bool = is_none (tag_named name kept.items) in
    room_is
    ∙ ap (λ (b : Bool). tag_room limit store b with_folder told) (page_is ∙ new_is kept url target of)
    ∙ ap (λ (b : Bool). tag_room limit store page b told) folder_is
    ∙ ap (tag_room limit store page folder) slots_is
    ∙ sym (ap (λ (b : Bool). if b then Some DupTag else tag_room limit store page folder slots)
    (tagged_is kept url name target of ∙ sym is ∙ none))

-- the folder that is looked up tells whether the tag is new
pub folder_new : (name : List ℕ) (items : List Item) (folder : Option ItemId) (new : Bool)
    → folder ≡ option_map (λ (t : Item). t.id) (tag_named name items) → is_some folder ≡ not new
    → new ≡ is_none (tag_named name items)
folder_new name items folder new found is = choose (tag_named name items) new (sym (ap is_some found) ∙ is)
  where
    choose : (tag : Option Item) (b : Bool) → is_some (option_map (λ (t : Item). t.id) tag) ≡ not b → b ≡ is_none tag
    choose None true same = refl
    choose None false same = absurd (cc)
    choose (Some t) true same = absurd (cc)
    choose (Some t) false same = refl

pub slots_new : (name : List ℕ) (items : List Item) (new : Bool) (slots : ℕ)
    → slots ≡ (if new then 1 + chunks name else 0) → new ≡ is_none (tag_named name items)
    → slots ≡ folder_slots name items
slots_new name items new slots told is = told ∙ ap (λ (b : Bool). if b then 1 + chunks name else 0) is

-- ---- no cause to refuse it

none_of : (a b c d : Bool) (r s t u : Refusal)
    → (if a then Some r else if b then Some s else if c then Some t else if d then Some u else None) ≡ None
    → (a ≡ false) × (b ≡ false) × (c ≡ false) × (d ≡ false)
none_of true b c d r s t u none = absurd (cc)
none_of false true c d r s t u none = absurd (cc)
none_of false false true d r s t u none = absurd (cc)
none_of false false false true r s t u none = absurd (cc)
none_of false false false false r s t u none = (refl, refl, refl, refl)

-- the page has not the tag, and there are ids and slots
record IsAllowed (limit : ℕ) (store : Store) (url name : List ℕ) (slots : ℕ) : Type 0 where
  pub tag : is_tagged store (find_page url store.pages) name ≡ false
  pub page : (is_none (find_page url store.pages) && (store.ids.page == end_of_ids)) ≡ false
  pub items : nat_lt end_of_ids (store.ids.item + new_items name store.items) ≡ false
  pub few : is_full limit (live_slots store) slots ≡ false

allowed : (limit : ℕ) (store : Store) (url name : List ℕ) (slots : ℕ) → tag_refusal limit store url name slots ≡ None
    → IsAllowed limit store url name slots
allowed limit store url name slots none =
    let parts =
    none_of (is_tagged store (find_page url store.pages) name)
    (is_none (find_page url store.pages) && (store.ids.page == end_of_ids))
    (nat_lt end_of_ids (store.ids.item + new_items name store.items)) (is_full limit (live_slots store) slots) DupTag
    (NoIds PageIds) (NoIds ItemIds) (Full slots) none in
    record { tag = parts.0; page = parts.1; items = parts.2; few = parts.3 }

module _ (limit : ℕ) (kept : Kept) (url name : List ℕ) (date : Micros) (target : Target) (h : IsWellKept kept)
    (of : IsTargetOf kept url target)
    (none : tag_refusal limit (store_of kept) url name (live_slots (after_tag (store_of kept) url name date)) ≡ None)
  where
    free : IsAllowed limit (store_of kept) url name (live_slots (after_tag (store_of kept) url name date))
    free = allowed limit (store_of kept) url name (live_slots (after_tag (store_of kept) url name date)) none

    pub tag_page : limit ≤ slot_limit → HasRoom url target kept
    tag_page most =
        page_room limit kept url target (folder_slots name kept.items)
        (live_slots (after_tag (store_of kept) url name date)) h of (tag_slots kept url name date target of)
        (ap (λ (b : Bool). b && (kept.ids.page == end_of_ids)) (new_is kept url target of) ∙ free.page) free.few most

    module _ (mid : Kept) (page : PageId) (with : WithTarget url target kept mid page) where
      -- the store with the tag
      made : tagged_store page name date (store_of mid) ≡ after_tag (store_of kept) url name date
      made =
          ap (tagged_store page name date) (target_store kept mid url target page of with)
          ∙ ap (λ (p : PageId). tagged_store p name date (with_page_for (store_of kept) url))
          (sym (target_page kept mid url target page of with))

      pub tag_live : limit ≤ slot_limit → live_slots (store_of (with_tagged page name date mid)) ≤ slot_limit
      tag_live most =
          omega (
            arith,
            ap live_slots made,
            few_slots limit kept url (folder_slots name kept.items)
                (live_slots (after_tag (store_of kept) url name date))
                (tag_slots kept url name date target of) free.few,
          )

      pub tag_done : (new : Store) → new ≡ tagged_store page name date (store_of mid)
          → ◌≡◌ {A = Reply × Store} (Done, new) (perform limit (store_of kept) (TagCommand url name date))
      tag_done new is =
          ap (λ (s : Store). (Done, s)) (is ∙ made)
          ∙ sym (ap (λ (o : Option Refusal).
          unless_refused o (store_of kept) (Done, after_tag (store_of kept) url name date)) none)

      no_entry_yet : HasGoodItems (store_of kept) → is_some (tag_entry page name kept.items) ≡ false
      no_entry_yet good = of_target target with (sym (tagged_is kept url name target of) ∙ free.tag)
        where
          of_target : (t : Target) → WithTarget url t kept mid page → has_tag t name kept.items ≡ false
              → is_some (tag_entry page name kept.items) ≡ false
          of_target (Known id) at has = ap (λ (p : PageId). is_some (tag_entry p name kept.items)) at.0 ∙ has
          of_target (New origin) at has = ap is_some (no_entry kept page name h good at.0)

      pub tag_allowed : HasGoodItems (store_of kept) → tree.tag_refusal page name mid ≡ None
      tag_allowed good =
          let full : ℕ → Option Refusal =
          λ (n : ℕ). if nat_lt end_of_ids (n + new_items name kept.items) then Some (NoIds ItemIds) else None in
          ap (λ (items : List Item). tree.tag_refusal page name (record mid { items = items }))
          (ap (λ (s : Store). s.items) (target_store kept mid url target page of with) ∙ items_page (store_of kept) url)
          ∙ ap (λ (n : ℕ). if is_some (tag_entry page name kept.items) then Some DupTag else full n)
          (next_item kept mid url target page with)
          ∙ ap (λ (b : Bool). if b then Some DupTag else full kept.ids.item) (no_entry_yet good)
          ∙ ap (λ (b : Bool). if b then Some (NoIds ItemIds) else None) free.items
