-- A restore under way: all items went, and the pages that the tree does not name.
use Rattle.std.proofs.Common.{◌≡◌, ◌∙◌, ◌≤◌, ◌-◌, ℕ, Option, None, ap, subst, sym}
use Rattle.pl_base.specs.declared.refusal.Refusal.{Refusal}
use Rattle.pl_base.specs.Good.{end_of_ids}
use Rattle.pl_base.specs.Live.{live_slots, slot_limit}
use Rattle.pl_base.specs.Rows.{IsWellKept, Kept, store_of, with_items}
use Rattle.pl_base.specs.Store.{Store, roots}
use Rattle.pl_nbread.specs.declared.tree.Tree.{Tree}
use Rattle.pl_graft.specs.Gained.{gained}
use Rattle.pl_graft.specs.Import.{entry_count, imported, most_rows, row_count, tags_made}
use Rattle.pl_graft.specs.Restored.{emptied, restored}
use Rattle.pl_graft.specs.Spared.{spared}
use Rattle.pl_step.specs.declared.command.Command.TheVariants.{Restore}
use Rattle.pl_step.specs.declared.reply.Reply.{Reply}
use Rattle.pl_step.specs.declared.reply.Reply.TheVariants.{Restored}
use Rattle.pl_step.specs.Step.{import_refusal, perform, restore_reply, unless_refused}
use Rattle.pl_editing.proofs.TreeRoom.{HasTreeRoom, tree_room_of}

-- the import of the tree makes what the restore does, and there is room for it
pub record IsUnderWay (tree : Tree) (old new : Kept) : Type 0 where
  pub spared : store_of new ≡ spared tree (emptied (store_of old))
  pub makes : imported tree (store_of new) ≡ restored tree (store_of old)
  pub few : row_count tree ≤ most_rows
  pub pages : (imported tree (store_of new)).ids.page ≤ end_of_ids
  pub items : (imported tree (store_of new)).ids.item ≤ end_of_ids
  pub live : live_slots (imported tree (store_of new)) ≤ slot_limit

pub under_way : (limit : ℕ) (tree : Tree) (old mid new : Kept) (refused : Option Refusal) → IsWellKept old
    → limit ≤ slot_limit → refused ≡ import_refusal limit (store_of old) tree (restored tree (store_of old))
    → refused ≡ None → (refused ≡ None → restored tree (store_of old) ≡ imported tree (spared tree (emptied (store_of old))))
    → mid ≡ with_items roots old → store_of new ≡ spared tree (store_of mid) → IsUnderWay tree old new
under_way limit tree old mid new refused h most refused_is none order cleared is =
    let last : Store = restored tree (store_of old) in
    let left : store_of new ≡ spared tree (emptied (store_of old)) =
    is ∙ ap (λ (k : Kept). spared tree (store_of k)) cleared in
    let makes : imported tree (store_of new) ≡ last =
    ap (imported tree) left ∙ sym (order none) in
    let room : HasTreeRoom tree last =
    tree_room_of limit (store_of old) tree last refused refused_is none most h.live in
    record {
      spared = left;
      makes = makes;
      few = room.few;
      pages = subst (λ (s : Store). s.ids.page ≤ end_of_ids) (sym makes) room.pages;
      items = subst (λ (s : Store). s.ids.item ≤ end_of_ids) (sym makes) room.items;
      live = subst (λ (s : Store). live_slots s ≤ slot_limit) (sym makes) room.live;
    }

-- the pages that get an item are those that the restore gives one
pub gained_is : (tree : Tree) (old new : Kept) (last : Store) → IsUnderWay tree old new
    → last ≡ imported tree (store_of new)
    → gained (store_of new) last ≡ gained (emptied (store_of old)) (restored tree (store_of old))
gained_is tree old new last u is =
    ap (λ (s : Store). gained s last) u.spared ∙ ap (gained (emptied (store_of old))) (is ∙ u.makes)

-- and so are the tags
tags_is : (tree : Tree) (old new : Kept) → IsUnderWay tree old new
    → tags_made tree (store_of new) ≡ tags_made tree (emptied (store_of old))
tags_is tree old new u =
    ap (tags_made tree) u.spared
    ∙ ap (λ (s : Store). entry_count s.items - entry_count roots)
    (sym (ap (imported tree) u.spared) ∙ u.makes)

-- what a restore that is not refused answers and leaves
pub restore_done : (limit : ℕ) (tree : Tree) (old mid new : Kept) (last : Store) (refused : Option Refusal)
    (items tags : ℕ)
    → refused ≡ import_refusal limit (store_of old) tree (restored tree (store_of old)) → refused ≡ None
    → IsUnderWay tree old mid → items ≡ row_count tree → tags ≡ tags_made tree (store_of mid)
    → store_of new ≡ last → last ≡ restored tree (store_of old)
    → ◌≡◌ {A = Reply × Store} (Restored items tags tree.skipped, store_of new)
    (perform limit (store_of old) (Restore tree))
restore_done limit tree old mid new last refused items tags refused_is none u items_is tags_is_made new_is is =
    let store : Store = store_of old in
    ap (λ (n : ℕ). (Restored n tags tree.skipped, store_of new)) items_is
    ∙ ap (λ (n : ℕ). (Restored (row_count tree) n tree.skipped, store_of new)) (tags_is_made ∙ tags_is tree old mid u)
    ∙ ap (λ (s : Store). (restore_reply store tree, s)) (new_is ∙ is)
    ∙ ap (λ (o : Option Refusal). unless_refused o store (restore_reply store tree, restored tree store))
    (sym none ∙ refused_is)
