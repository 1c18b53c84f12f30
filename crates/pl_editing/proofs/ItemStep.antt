-- What a new item makes of a store: its slots, the step's store and its reply.
use Rattle.std.proofs.Common.{◌≡◌, ◌+◌, ◌==◌, ◌∙◌, if◌then◌else◌, ℕ, Bool, true, false, List, Option, Some, None}
use Rattle.std.proofs.Common.{ap, arith, get_or, refl, sym}
use Rattle.std.specs.List.{sum_by}
use Rattle.std.specs.Option.{option_or}
use Rattle.std.proofs.lemmas.List.{length-map, length_push}
use Rattle.std.proofs.lemmas.List.Sums.{sum_by_push}
use Rattle.pl_base.specs.declared.id.ItemId.{ItemId}
use Rattle.pl_base.specs.declared.refusal.Refusal.{Refusal}
use Rattle.pl_base.specs.Live.{chunks, live_slots}
use Rattle.pl_base.specs.Store.{Item, Store, item_id}
use Rattle.pl_tree.specs.declared.new_item.NewItem.{NewItem}
use Rattle.pl_tree.specs.declared.place.Place.{Place}
use Rattle.pl_tree.specs.declared.tree_change.TreeChange.TheVariants.{Insert}
use Rattle.pl_tree.specs.Changes.{item_of, put, with_child}
use Rattle.pl_tree.specs.Refused.{refusal}
use Rattle.pl_step.specs.declared.reply.Reply.{Reply}
use Rattle.pl_step.specs.declared.reply.Reply.TheVariants.{Item as ItemReply, Refused}
use Rattle.pl_step.specs.Step.{after_insert, insert_step, unless_refused}
use Rattle.pl_editing.specs.Room.{item_room}
use Rattle.pl_base.proofs.ListLaws.{sum_by-agree, sum_by-map}

-- ---- slots

-- the slots of the titles stay where a folder has one more child
titles_still : (parent : ItemId) (place : Place) (id : ItemId) (items : List Item)
    → sum_by (λ (i : Item). chunks i.title) (with_child parent place id items)
    ≡ sum_by (λ (i : Item). chunks i.title) items
titles_still parent place id items =
    let change : Item → Item = λ (i : Item). record i { children = put place id i.children } in
    let changed : Item → Item = λ (i : Item). if i.id.0 == parent.0 then change i else i in
    sum_by-map (λ (i : Item). chunks i.title) changed items
    ∙ sum_by-agree (λ (i : Item). chunks (changed i).title) (λ (i : Item). chunks i.title) items
    (λ k d within. choose ((get_or items k d).id.0 == parent.0) (get_or items k d))
  where
    choose : (b : Bool) (i : Item)
        → chunks (if b then record i { children = put place id i.children } else i).title ≡ chunks i.title
    choose true i = refl
    choose false i = refl

pub live_inserted : (parent : ItemId) (place : Place) (new : NewItem) (store : Store)
    → live_slots (after_insert parent place new store) ≡ live_slots store + 1 + chunks new.title
live_inserted parent place new store =
    let id : ItemId = item_id store.ids.item in
    let items : List Item = with_child parent place id store.items in
    omega (
      arith,
      length_push items (item_of id new),
      length-map store.items
          (λ (i : Item). if i.id.0 == parent.0 then record i { children = put place id i.children } else i),
      sum_by_push (λ (i : Item). chunks i.title) items (item_of id new),
      titles_still parent place id store.items,
    )

-- ---- the step

pub refused_reply : (cause room : Option Refusal) (r : Refusal) (store : Store) (done : Reply × Store) → cause ≡ None
    → room ≡ Some r → ◌≡◌ {A = Reply × Store} (Refused r, store) (unless_refused (option_or cause room) store done)
refused_reply cause room r store done none some = rw (none, some) refl

pub done_reply : (cause room : Option Refusal) (store : Store) (done : Reply × Store) → cause ≡ None → room ≡ None
    → done ≡ unless_refused (option_or cause room) store done
done_reply cause room store done none free = rw (none, free) refl

pub insert_refused : (limit : ℕ) (store : Store) (parent : ItemId) (place : Place) (with_page : Bool) (after : Store)
    (slots : ℕ) (room : Option Refusal) (r : Refusal)
    → refusal store.items (Insert parent place) ≡ None → slots ≡ live_slots after
    → room ≡ item_room limit store with_page slots → room ≡ Some r
    → ◌≡◌ {A = Reply × Store} (Refused r, store) (insert_step limit store parent place with_page after)
insert_refused limit store parent place with_page after slots room r none is of_room some =
    refused_reply (refusal store.items (Insert parent place)) (item_room limit store with_page (live_slots after)) r
    store (ItemReply (item_id store.ids.item), after) none
    (ap (item_room limit store with_page) (sym is) ∙ sym of_room ∙ some)

pub insert_done : (limit : ℕ) (store : Store) (parent : ItemId) (place : Place) (with_page : Bool) (after new : Store)
    (slots : ℕ) (room : Option Refusal) (id : ItemId)
    → refusal store.items (Insert parent place) ≡ None → slots ≡ live_slots after
    → room ≡ item_room limit store with_page slots → room ≡ None → id.0 ≡ store.ids.item → new ≡ after
    → ◌≡◌ {A = Reply × Store} (ItemReply id, new) (insert_step limit store parent place with_page after)
insert_done limit store parent place with_page after new slots room id none is of_room free given made =
    ap (λ (n : ℕ). (ItemReply (item_id n), new)) given
    ∙ ap (λ (s : Store). (ItemReply (item_id store.ids.item), s)) made
    ∙ done_reply (refusal store.items (Insert parent place)) (item_room limit store with_page (live_slots after)) store
    (ItemReply (item_id store.ids.item), after) none
    (ap (item_room limit store with_page) (sym is) ∙ sym of_room ∙ free)
