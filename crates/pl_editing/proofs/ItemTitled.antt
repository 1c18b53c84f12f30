-- How many slots the store takes once an item has another title, and the step that gives it one.
use Rattle.std.proofs.Common.{◌≡◌, ◌≤◌, ◌+◌, ◌-◌, ◌==◌, ◌∙◌, if◌then◌else◌, ℕ, Bool, true, false, List, [], Option}
use Rattle.std.proofs.Common.{Some, None, ap, arith, refl, sym}
use Rattle.std.specs.Option.{option_map}
use Rattle.std.proofs.lemmas.List.{length-map}
use Rattle.pl_base.specs.declared.date.Micros.{Micros}
use Rattle.pl_base.specs.declared.id.ItemId.{ItemId}
use Rattle.pl_base.specs.declared.refusal.Refusal.{Refusal}
use Rattle.pl_base.specs.declared.refusal.Refusal.TheVariants.{Full}
use Rattle.pl_base.specs.Good.{HasGoodItems}
use Rattle.pl_base.specs.Live.{chunks, live_slots}
use Rattle.pl_base.specs.Rows.{IsWellKept, Kept, live_with_item_title, store_of, with_items}
use Rattle.pl_base.specs.Store.{Item, Store}
use Rattle.pl_base.specs.Title.{cut_title}
use Rattle.pl_base.specs.Tree.{item_at, item_title, retitled}
use Rattle.pl_tree.specs.declared.tree_change.TreeChange.TheVariants.{Retitle}
use Rattle.pl_tree.specs.Refused.{refusal}
use Rattle.pl_step.specs.declared.command.Command.TheVariants.{Retitle as RetitleCommand}
use Rattle.pl_step.specs.declared.reply.Reply.{Reply}
use Rattle.pl_step.specs.declared.reply.Reply.TheVariants.{Done, Refused}
use Rattle.pl_base.specs.Rows.{IsSound}
use Rattle.pl_step.specs.Step.{after_retitle, is_full, perform}
use Rattle.pl_base.proofs.ItemLaws.{once}
use Rattle.pl_base.proofs.OneChanged.{sum_changed}
use Rattle.pl_history.proofs.ItemMarks.{reference_changed, sound_alike}
use Rattle.pl_editing.proofs.ItemStep.{done_reply, refused_reply}

-- ---- slots

-- the item that has the title
record IsTitleAt (items : List Item) (id : ItemId) (title : List ℕ) : Type 0 where
  pub item : Item
  pub at : item_at items id ≡ Some item
  pub is : title ≡ item.title

title_at : (items : List Item) (id : ItemId) (title : List ℕ) → Some title ≡ item_title items id
    → IsTitleAt items id title
title_at items id title is = choose (item_at items id) refl is
  where
    choose : (found : Option Item) → item_at items id ≡ found
        → Some title ≡ option_map (λ (i : Item). i.title) found → IsTitleAt items id title
    choose None at some = absurd (cc)
    choose (Some i) at some = record { item = i; at = at; is = cc }

-- the slots of the old title go, and those of the new one come
slots_retitled : (kept : Kept) (id : ItemId) (title old : List ℕ) (date : Micros) → IsWellKept kept
    → Some old ≡ item_title kept.items id
    → live_with_item_title id title date kept + chunks old ≡ live_slots (store_of kept) + chunks title
slots_retitled kept id title old date h is =
    let t : IsTitleAt kept.items id old = title_at kept.items id old is in
    let change : Item → Item = λ (i : Item). record i { title = title; modified = date } in
    omega (
      arith,
      length-map kept.items (λ (i : Item). if i.id.0 == id.0 then change i else i),
      sum_changed (λ (i : Item). i.id.0 == id.0) change (λ (i : Item). chunks i.title) kept.items t.item
          (once id kept.items h.item_ids.ascending) t.at,
      ap chunks t.is,
    )

pub retitled_slots : (kept : Kept) (id : ItemId) (title old text : List ℕ) (date : Micros) (live less more : ℕ)
    → IsWellKept kept → Some old ≡ item_title kept.items id → text ≡ old → live ≡ live_slots (store_of kept)
    → less ≡ chunks text → more ≡ chunks title
    → live - less + more ≡ live_with_item_title id title date kept
retitled_slots kept id title old text date live less more h is same of_live of_old of_new =
    omega (
      arith,
      ap chunks same,
      slots_retitled kept id [] old date h is,
      slots_retitled kept id title old date h is,
    )

pub old_slots : (kept : Kept) (id : ItemId) (old text : List ℕ) (live less : ℕ)
    → IsWellKept kept → Some old ≡ item_title kept.items id → text ≡ old → live ≡ live_slots (store_of kept)
    → less ≡ chunks text → less ≤ live
old_slots kept id old text live less h is same of_live of_old =
    omega (arith, ap chunks same, slots_retitled kept id [] old (record { 0 = 0 }) h is)

-- ---- the step

-- why the slots refuse it
abbrev slots_cause : ℕ → Bool → Option Refusal
slots_cause slots full = if full then Some (Full slots) else None

abbrev Steps : ℕ → Kept → ItemId → List ℕ → Micros → Reply → Store → Type 0
Steps limit kept id text date reply new =
    ◌≡◌ {A = Reply × Store} (reply, new) (perform limit (store_of kept) (RetitleCommand id text date))

-- the slots of the step
after_slots : (kept : Kept) (id : ItemId) (title text : List ℕ) (date : Micros) (slots : ℕ) → title ≡ cut_title text
    → slots ≡ live_with_item_title id title date kept
    → slots ≡ live_slots (after_retitle id text date (store_of kept))
after_slots kept id title text date slots cut is =
    is ∙ ap (λ (t : List ℕ). live_with_item_title id t date kept) cut

-- the slots are those that were reckoned
same_full : (limit before live slots after : ℕ) (full : Bool) → live ≡ before → slots ≡ after
    → full ≡ is_full limit live slots → is_full limit before after ≡ full
same_full limit before live slots after full of_live same of_full =
    ap (is_full limit before) (sym same) ∙ ap (λ (n : ℕ). is_full limit n slots) (sym of_live) ∙ sym of_full

pub retitle_full : (limit : ℕ) (kept : Kept) (id : ItemId) (title text : List ℕ) (date : Micros) (live slots : ℕ)
    (full : Bool)
    → refusal kept.items (Retitle id) ≡ None → title ≡ cut_title text → live ≡ live_slots (store_of kept)
    → slots ≡ live_with_item_title id title date kept → full ≡ is_full limit live slots → full ≡ true
    → Steps limit kept id text date (Refused (Full slots)) (store_of kept)
retitle_full limit kept id title text date live slots full none cut of_live is of_full here =
    let store : Store = store_of kept in
    let after : Store = after_retitle id text date store in
    let same : slots ≡ live_slots after = after_slots kept id title text date slots cut is in
    ap (λ (n : ℕ). (Refused (Full n), store)) same
    ∙ refused_reply (refusal kept.items (Retitle id))
    (slots_cause (live_slots after) (is_full limit (live_slots store) (live_slots after))) (Full (live_slots after))
    store (Done, after) none
    (ap (slots_cause (live_slots after))
    (same_full limit (live_slots store) live slots (live_slots after) full of_live same of_full ∙ here))

pub retitle_done : (limit : ℕ) (kept new : Kept) (id : ItemId) (title text : List ℕ) (date : Micros) (live slots : ℕ)
    (full : Bool)
    → refusal kept.items (Retitle id) ≡ None → title ≡ cut_title text → live ≡ live_slots (store_of kept)
    → slots ≡ live_with_item_title id title date kept → full ≡ is_full limit live slots → full ≡ false
    → new ≡ with_items (retitled id title date kept.items) kept
    → Steps limit kept id text date Done (store_of new)
retitle_done limit kept new id title text date live slots full none cut of_live is of_full here made =
    let store : Store = store_of kept in
    let after : Store = after_retitle id text date store in
    let same : slots ≡ live_slots after = after_slots kept id title text date slots cut is in
    ap (λ (k : Kept). (Done, store_of k)) made
    ∙ ap (λ (t : List ℕ). (Done, store_of (with_items (retitled id t date kept.items) kept))) cut
    ∙ done_reply (refusal kept.items (Retitle id))
    (slots_cause (live_slots after) (is_full limit (live_slots store) (live_slots after))) store (Done, after) none
    (ap (slots_cause (live_slots after))
    (same_full limit (live_slots store) live slots (live_slots after) full of_live same of_full ∙ here))

pub sound_retitled : (kept new : Kept) (id : ItemId) (title : List ℕ) (date : Micros)
    → new ≡ with_items (retitled id title date kept.items) kept → IsWellKept kept → IsWellKept new
    → HasGoodItems (store_of new) → IsSound kept → IsSound new
sound_retitled kept new id title date is well h good s =
    sound_alike kept new kept.ids (retitled id title date kept.items) is well h good
    (λ page. reference_changed id (λ (i : Item). record i { title = title; modified = date }) kept.items page
    (λ i. refl))
    s
