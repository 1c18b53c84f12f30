use Rattle.std.proofs.Common.{◌≡◌, ◌≤◌, ◌∙◌, List, ap, length, map, subst, sym}
use Rattle.std.proofs.lemmas.List.{length-map}
use Rattle.std.proofs.lemmas.Slice.Zip.{AllZip-long}
use Rattle.std.specs.List.{All, AllZip, zip}
use Rattle.std.specs.Option.{IsSome}
use Rattle.std.specs.Vec.{vec_items}
use Rattle.pl_base.specs.declared.id.Slot.{Slot}
use Rattle.pl_load.specs.Members.{parent_members}
use Rattle.pl_load.proofs.HeldKinds.{kinds_listed, same_held}
use Rattle.pl_load.proofs.OneReads.{one_children, one_right}
use Rattle.pl_load.proofs.StoredLaws.{have_children, item_titles_held, owners_low}
use Rattle.pl_owned.specs.declared.owned.Member.{Member}
use Rattle.pl_owned.specs.Owned.{IsListed}
use Rattle.pl_rail.specs.declared.owner.Owner.TheVariants.{At}
use Rattle.pl_rail.specs.declared.owner.Side.TheVariants.{Behind}
use Rattle.pl_rail.specs.Rails.{end_at}
use Rattle.pl_reading.specs.Live.{HoldsItem}
use Rattle.pl_reading.specs.Read.{IsItemOf}
use Rattle.pl_reading.specs.Texts.{IsHeld}
use Rattle.pl_record.specs.declared.rows.Item.{Item}
use Rattle.pl_slot.specs.declared.kind.LiveKind.TheVariants as live
use Rattle.pl_slot.specs.declared.links.Rail.TheVariants.{Children}
use Rattle.pl_slot.specs.Arena.{slot_count}
use Rattle.pl_load.proofs.stored.tree_items.Goals as goal

pub parent_members-requires : goal.parent_members-requires
parent_members-requires g c =
    let h = c.args.held.now in
    ap length c.deref.ensures.value
    ∙ sym (AllZip-long (HoldsItem c.args.arena.now) h.live.items.items h.items.items c.requires.held.items)
    ∙ sym (ap length c.deref-2.ensures.value)

pub listed_in_any_order-requires-clause-owners : goal.listed_in_any_order-requires-clause-owners
listed_in_any_order-requires-clause-owners g c =
    let h = c.args.held.now in
    subst (All (λ (s : Slot). IsSome (end_at Behind Children (At s) c.args.arena.now))) (sym c.deref-3.ensures.value)
    (have_children c.args.arena.now h.live.items.items
    (kinds_listed live.Item h.live.items.items c.args.arena.now c.requires.held.listed.items))

pub listed_in_any_order-requires-clause-members : goal.listed_in_any_order-requires-clause-members
listed_in_any_order-requires-clause-members g c =
    let h = c.args.held.now in
    subst (All (λ (m : Member). m.owner.0 ≤ slot_count c.args.arena.now))
    (sym (c.deref-4.ensures.value ∙ c.in_ok-members.ensures
    ∙ (λ i. parent_members (c.deref.ensures.value i) (c.deref-2.ensures.value i))))
    (owners_low c.args.arena.now h.live.items.items h.items.items c.requires.parents)

pub returns-in_default-clause-none : goal.returns-in_default-clause-none
returns-in_default-clause-none g c told reads from =
    let h = c.args.held.now in
    let pages = c.args.arena.now in
    let same = same_held pages h reads c.requires.held from in
    let members : parent_members reads.item_slots reads.items ≡ c.deref-4.result.now =
    (λ i. parent_members (same.item_slots i) (same.items i))
    ∙ sym (c.deref-4.ensures.value ∙ c.in_ok-members.ensures
    ∙ (λ i. parent_members (c.deref.ensures.value i) (c.deref-2.ensures.value i))) in
    c.in_ok-children.ensures.none c.in_default.is from.children
    (subst (λ (ss : List Slot). AllZip (IsListed Children c.deref-4.result.now pages) ss from.children)
    (same.item_slots ∙ sym c.deref-3.ensures.value)
    (subst (λ (ms : List Member). AllZip (IsListed Children ms pages) reads.item_slots from.children) members
    from.parents))

pub stored_items-requires-clause-as_many : goal.stored_items-requires-clause-as_many
stored_items-requires-clause-as_many g c =
    let h = c.args.held.now in
    let found = rw c.in-Some.is at c.in_ok-children.ensures.found in
    ap length c.deref-5.ensures.value
    ∙ AllZip-long (HoldsItem c.args.arena.now) h.live.items.items h.items.items c.requires.held.items
    ∙ sym (ap length c.deref-3.ensures.value)
    ∙ sym (AllZip-long (IsListed Children c.deref-4.result.now c.args.arena.now) c.deref-3.result.now
    (map vec_items c.in-Some.children.items) found)
    ∙ length-map c.in-Some.children.items vec_items ∙ sym (ap length c.deref-6.ensures.value)

pub stored_items-requires-clause-titles : goal.stored_items-requires-clause-titles
stored_items-requires-clause-titles g c =
    let h = c.args.held.now in
    subst (All (λ (i : Item). IsHeld c.args.arena.now i.title)) (sym c.deref-5.ensures.value)
    (item_titles_held c.args.arena.now h.places.items h.items.items c.requires.texts)

pub returns-clause-none : goal.returns-clause-none
returns-clause-none g c told reads from =
    let h = c.args.held.now in
    let pages = c.args.arena.now in
    let same = same_held pages h reads c.requires.held from in
    let found = rw c.in-Some.is at c.in_ok-children.ensures.found in
    let lists : from.children ≡ map vec_items c.in-Some.children.items =
    one_right (IsListed Children (parent_members reads.item_slots reads.items) pages)
    (IsListed Children c.deref-4.result.now pages)
    (one_children pages (parent_members reads.item_slots reads.items) c.deref-4.result.now) reads.item_slots
    c.deref-3.result.now from.children (map vec_items c.in-Some.children.items)
    (same.item_slots ∙ sym c.deref-3.ensures.value) from.parents found in
    let items = same.items ∙ sym c.deref-5.ensures.value in
    let children = lists ∙ ap (map vec_items) (sym c.deref-6.ensures.value) in
    let rows : zip reads.items from.children ≡ zip c.deref-5.result.now (map vec_items c.deref-6.result.now) =
    λ i. zip (items i) (children i) in
    c.stored_items.ensures.none told reads.stored.items
    (subst (λ rs. AllZip (IsItemOf pages) rs reads.stored.items) rows from.stored_items)
