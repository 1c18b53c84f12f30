use Rattle.std.proofs.Common.{◌≡◌, ◌+◌, is_none, List, ℕ}
use Rattle.pl_base.specs.Live.{live_slots}
use Rattle.pl_base.specs.Rows.{Kept, store_of}
use Rattle.pl_tree.specs.Tagged.{tag_named}
use Rattle.pl_step.specs.Step.{after_tag}
use Rattle.pl_editing.proofs.PageSlots.{are_slots}
use Rattle.pl_editing.proofs.TagAllowed.{folder_new, refused_room, slots_new, slots_tagged}
use Rattle.pl_editing.proofs.TagMade.{folder_slots}
use Rattle.pl_editing.proofs.tags.tag_refusal.Goals as goal

pub returns : goal.returns
returns g c date =
    let kept : Kept = g.R.Rows.kept c.args.rows.now in
    let name : List ℕ = c.args.name.now in
    let new : c.is_none-with_folder.result ≡ is_none (tag_named name kept.items) =
    folder_new name kept.items c.in_ok-tag_folder.field-0 c.is_none-with_folder.result c.in_ok-tag_folder.ensures
    c.is_none-with_folder.ensures in
    refused_room c.args.limit kept c.args.url.now name c.args.target
    (live_slots (after_tag (store_of kept) c.args.url.now name date)) (c.slots_after.result + c.folder_slots.result)
    c.in_ok-is_tagged.field-0 c.is_new.result c.is_none-with_folder.result c.room_refusal.result c.requires.target
    c.in_ok-is_tagged.ensures c.if-branch.false c.is_new.ensures new
    (slots_tagged kept c.args.url.now name date (c.slots_after.result + c.folder_slots.result)
    (are_slots kept c.args.url.now (folder_slots name kept.items) c.slots_after.result c.folder_slots.result
    c.slots_after.ensures.after c.slots_after.ensures.grows
    (slots_new name kept.items c.is_none-with_folder.result c.folder_slots.result c.folder_slots.ensures.slots new)))
    c.room_refusal.ensures
