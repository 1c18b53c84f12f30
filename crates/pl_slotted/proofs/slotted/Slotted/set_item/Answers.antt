use Rattle.std.proofs.Common.{◌≡◌, ◌≤◌, ◌∙◌, [], ℕ, List, ap, subst, sym}
use Rattle.pl_base.specs.declared.id.ItemId.{ItemId}
use Rattle.pl_base.specs.Live.{live_slots, slot_limit}
use Rattle.pl_base.specs.Rows.{Kept, store_of, with_items}
use Rattle.pl_base.specs.Tree.{has_item, item_title, redated}
use Rattle.pl_slotted.specs.Slotted.{kept_of}
use Rattle.pl_record.proofs.ItemDated.{dated_slots}
use Rattle.pl_record.proofs.ItemTitleLinked.{entitled_dated, entitled_there, entitled_twice, titled_there}
use Rattle.pl_record.proofs.ItemTitleSlots.{with_entitled}
use Rattle.pl_slotted.proofs.slotted.Slotted.set_item.Goals as goal

titled : (id : ItemId) (title : List ℕ) (old middle new : Kept) → middle ≡ with_entitled id [] old
    → new ≡ with_entitled id title middle → new ≡ with_entitled id title old
titled id title old middle new first second =
    second ∙ ap (with_entitled id title) first ∙ entitled_twice old id title

pub give_item_title-requires-clause-bare : goal.give_item_title-requires-clause-bare
give_item_title-requires-clause-bare g c =
    ap (λ (k : Kept). item_title k.items c.args.item) c.drop_item_title.ensures.kept
    ∙ entitled_there (kept_of c.args.self.now) c.args.item [] c.requires.item

pub give_item_title-requires-clause-live : goal.give_item_title-requires-clause-live
give_item_title-requires-clause-live g c =
    let old : Kept = kept_of c.args.self.now in
    subst (λ (k : Kept). live_slots (store_of (with_entitled c.args.item c.args.title.now k)) ≤ slot_limit)
    (sym c.drop_item_title.ensures.kept)
    (subst (λ n. n ≤ slot_limit)
    (sym (ap (λ (k : Kept). live_slots (store_of k)) (entitled_twice old c.args.item c.args.title.now)
    ∙ sym (dated_slots (with_entitled c.args.item c.args.title.now old) c.args.item c.args.modified)
    ∙ ap (λ (k : Kept). live_slots (store_of k))
    (entitled_dated old c.args.item c.args.title.now c.args.modified))) c.requires.live)

pub set_modified-requires-clause-item : goal.set_modified-requires-clause-item
set_modified-requires-clause-item g c =
    let old : Kept = kept_of c.args.self.now in
    ap (λ (k : Kept). has_item k.items c.args.item) (titled c.args.item c.args.title.now old (kept_of c.drop_item_title.new.self) (kept_of c.give_item_title.new.self)
    c.drop_item_title.ensures.kept c.in_ok-give_item_title.ensures.kept)
    ∙ titled_there (with_entitled c.args.item c.args.title.now old) c.args.item c.args.title.now
    (entitled_there old c.args.item c.args.title.now c.requires.item)

pub returns-clause-kept : goal.returns-clause-kept
returns-clause-kept g c =
    let old : Kept = kept_of c.args.self.now in
    c.set_modified.ensures.kept
    ∙ ap (λ (k : Kept). with_items (redated c.args.item c.args.modified k.items) k) (titled c.args.item c.args.title.now old (kept_of c.drop_item_title.new.self) (kept_of c.give_item_title.new.self)
    c.drop_item_title.ensures.kept c.in_ok-give_item_title.ensures.kept)
    ∙ entitled_dated old c.args.item c.args.title.now c.args.modified
