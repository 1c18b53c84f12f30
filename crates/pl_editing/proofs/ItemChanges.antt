-- The pages that a command on items bore on, and the store that it came from.
use Rattle.std.proofs.Common.{◌≡◌, ◌∙◌, ℕ, true, List, [], ◌∷◌, Option, Some, None, ap, eq-eqb, option_to_list, refl}
use Rattle.std.specs.Prelude.{◌==◌, IfSome}
use Rattle.std.specs.List.{list_any}
use Rattle.pl_base.specs.declared.date.Micros.{Micros}
use Rattle.pl_base.specs.declared.id.ItemId.{ItemId}
use Rattle.pl_base.specs.declared.id.PageId.{PageId}
use Rattle.pl_base.specs.declared.item.ItemKind.{ItemKind}
use Rattle.pl_base.specs.Good.{HasGoodItems}
use Rattle.pl_base.specs.Removal.{without_idle_pages}
use Rattle.pl_base.specs.Rows.{IsSound, IsWellKept, Kept, store_of, with_items}
use Rattle.pl_base.specs.Store.{Store}
use Rattle.pl_base.specs.Tree.{retitled}
use Rattle.pl_base.proofs.ListLaws.{list_any-alike}
use Rattle.pl_marks.specs.Alike.{DifferOnlyOn, is_one_of}
use Rattle.pl_tree.specs.declared.place.Place.{Place}
use Rattle.pl_tree.specs.declared.tree_change.TreeChange.TheVariants.{Move, Remove, Retitle}
use Rattle.pl_tree.specs.Changes.{loses_item, with_inserted, with_moved, with_removed}
use Rattle.pl_tree.specs.Refused.{refusal}
use Rattle.pl_tree.specs.Tagged.{untagged_items, with_tagged}
use Rattle.pl_history.specs.declared.find.Target.{Target}
use Rattle.pl_history.specs.Marked.{page_item}
use Rattle.pl_history.specs.Target.{WithTarget}
use Rattle.pl_history.proofs.ItemMarks.{reference_moved, sound_alike}
use Rattle.pl_known.specs.declared.known.Known.{Known}
use Rattle.pl_known.specs.Known.{Knows}
use Rattle.pl_changes.specs.CameFrom.{CameByItems}
use Rattle.pl_bearing.proofs.DifferByPage.{differ_in_items, differ_once_settled, differ_with_page}
use Rattle.pl_bearing.proofs.MovedReferences.{moved_alike, retitled_alike}
use Rattle.pl_bearing.proofs.NewReferences.{inserted_alike}
use Rattle.pl_bearing.proofs.RemovedReferences.{removed_alike}
use Rattle.pl_bearing.proofs.TaggedReferences.{tagged_alike}
use Rattle.pl_bearing.proofs.UntaggedReferences.{untagged_alike}
use Rattle.pl_editing.specs.OwnPage.{own_page}
use Rattle.pl_editing.specs.Room.{plain_item}
use Rattle.pl_editing.proofs.LostItems.{eqb_turned}

pub came_by_items : (ids : List PageId) (old new : Store) (known : Known) → Knows old known → DifferOnlyOn ids old new
    → CameByItems ids known new
came_by_items ids old new known knows differ = record { old = old; knows = knows; differ = differ }

is_itself : (page : PageId) → is_one_of (page ∷ []) page ≡ true
is_itself page = rw (eq-eqb page.0 page.0 refl) refl

-- ---- new items

-- an item without a page bears on none
pub plain_came : (old new : Kept) (known : Known) (parent : ItemId) (place : Place) (kind : ItemKind) (title : List ℕ)
    (date : Micros) → IsWellKept old → IsSound old → IsSound new → Knows (store_of old) known
    → new ≡ with_inserted parent place (plain_item kind title date) old → CameByItems [] known (store_of new)
plain_came old new known parent place kind title date well sound still knows is =
    let made : Kept = with_inserted parent place (plain_item kind title date) old in
    came_by_items [] (store_of old) (store_of new) known knows
    (differ_in_items [] (store_of old) (store_of new) made.ids made.items sound.good still.good (ap store_of is)
    (inserted_alike old parent place (plain_item kind title date) [] well tt))

-- a bookmark bears on its page
pub bookmark_came : (url : List ℕ) (target : Target) (old mid new : Kept) (page : PageId) (known : Known)
    (parent : ItemId) (place : Place) (title : List ℕ) (date : Micros) → WithTarget url target old mid page
    → IsWellKept mid → IsSound old → IsSound new → Knows (store_of old) known
    → store_of new ≡ store_of (with_inserted parent place (page_item page title date) mid)
    → CameByItems (page ∷ []) known (store_of new)
bookmark_came url target old mid new page known parent place title date w well sound still knows is =
    let made : Kept = with_inserted parent place (page_item page title date) mid in
    came_by_items (page ∷ []) (store_of old) (store_of new) known knows
    (differ_with_page url target old mid (store_of new) page made.ids made.items w sound.good still.good is
    (inserted_alike mid parent place (page_item page title date) (page ∷ []) well (is_itself page)))

-- and so does a tag
pub tag_came : (url : List ℕ) (target : Target) (old mid new : Kept) (page : PageId) (known : Known) (name : List ℕ)
    (date : Micros) → WithTarget url target old mid page → IsWellKept mid → IsSound old → IsSound new
    → Knows (store_of old) known → store_of new ≡ store_of (with_tagged page name date mid)
    → CameByItems (page ∷ []) known (store_of new)
tag_came url target old mid new page known name date w well sound still knows is =
    let made : Kept = with_tagged page name date mid in
    came_by_items (page ∷ []) (store_of old) (store_of new) known knows
    (differ_with_page url target old mid (store_of new) page made.ids made.items w sound.good still.good is
    (tagged_alike mid page name date (page ∷ []) well (is_itself page)))

-- ---- items that change

-- the page of an item is the one of these
within_own : (own : Option PageId) → IfSome own (λ page. is_one_of (option_to_list own) page ≡ true)
within_own None = tt
within_own (Some page) = is_itself page

pub moved_sound : (old new : Kept) (item parent : ItemId) (place : Place) (date : Micros) → IsWellKept old
    → IsWellKept new → HasGoodItems (store_of new) → IsSound old
    → new ≡ with_items (with_moved item parent place date old.items) old → IsSound new
moved_sound old new item parent place date well still good sound is =
    sound_alike old new old.ids (with_moved item parent place date old.items) is well still good
    (reference_moved item parent place date old.items) sound

pub moved_came : (old new : Kept) (known : Known) (item parent : ItemId) (place : Place) (date : Micros)
    → IsWellKept old → IsSound old → IsSound new → Knows (store_of old) known
    → refusal old.items (Move item parent place) ≡ None
    → new ≡ with_items (with_moved item parent place date old.items) old
    → CameByItems (option_to_list (own_page old.items item)) known (store_of new)
moved_came old new known item parent place date well sound still knows none is =
    let ids : List PageId = option_to_list (own_page old.items item) in
    came_by_items ids (store_of old) (store_of new) known knows
    (differ_in_items ids (store_of old) (store_of new) old.ids (with_moved item parent place date old.items) sound.good
    still.good (ap store_of is)
    (moved_alike old item parent place date ids well none (within_own (own_page old.items item))))

pub retitled_came : (old new : Kept) (known : Known) (item : ItemId) (title : List ℕ) (date : Micros)
    → IsWellKept old → IsSound old → IsSound new → Knows (store_of old) known
    → refusal old.items (Retitle item) ≡ None → new ≡ with_items (retitled item title date old.items) old
    → CameByItems (option_to_list (own_page old.items item)) known (store_of new)
retitled_came old new known item title date well sound still knows none is =
    let ids : List PageId = option_to_list (own_page old.items item) in
    came_by_items ids (store_of old) (store_of new) known knows
    (differ_in_items ids (store_of old) (store_of new) old.ids (retitled item title date old.items) sound.good
    still.good (ap store_of is)
    (retitled_alike old item title date ids well none (within_own (own_page old.items item))))

-- ---- items that go

pub removed_came : (old mid new : Kept) (known : Known) (item : ItemId) (lost : List PageId) → IsSound old → IsSound new
    → HasGoodItems (store_of old) → Knows (store_of old) known → refusal old.items (Remove item) ≡ None
    → mid ≡ with_items (with_removed item old.items) old
    → ((page : PageId) → list_any (λ (id : PageId). id.0 == page.0) lost ≡ loses_item old.items item page)
    → store_of new ≡ without_idle_pages (store_of mid) → CameByItems lost known (store_of new)
removed_came old mid new known item lost sound still good knows none mid_is told is =
    came_by_items lost (store_of old) (store_of new) known knows
    (differ_once_settled lost (store_of old) (store_of mid) (store_of new) (with_removed item old.items) sound.good
    still.good (ap store_of mid_is) is
    (removed_alike old item lost good none
    (λ page loses.
    list_any-alike (λ (id : PageId). page.0 == id.0) (λ (id : PageId). id.0 == page.0) lost
    (λ id. eqb_turned page.0 id.0)
    ∙ told page ∙ loses)))

pub untagged_came : (old mid new : Kept) (known : Known) (page : PageId) (name : List ℕ) → IsWellKept old → IsSound old
    → IsSound new → HasGoodItems (store_of old) → Knows (store_of old) known
    → mid ≡ with_items (untagged_items page name old.items) old
    → store_of new ≡ without_idle_pages (store_of mid) → CameByItems (page ∷ []) known (store_of new)
untagged_came old mid new known page name well sound still good knows mid_is is =
    came_by_items (page ∷ []) (store_of old) (store_of new) known knows
    (differ_once_settled (page ∷ []) (store_of old) (store_of mid) (store_of new) (untagged_items page name old.items)
    sound.good still.good (ap store_of mid_is) is
    (untagged_alike old page name (page ∷ []) well good (is_itself page)))
