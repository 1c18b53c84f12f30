-- A node that is counted is that of the store with its item, and with its tags behind it.
use Rattle.std.proofs.Common.{◌∙◌, List, ℕ, Option, ap, subst, sym}
use Rattle.std.proofs.lemmas.Result.{on_ok_weaker}
use Rattle.pl_base.specs.declared.id.PageId.{PageId}
use Rattle.pl_base.specs.Visiting.{page_for}
use Rattle.pl_graft.specs.Import.{with_item_of, with_page_of, with_tags}
use Rattle.pl_graft.specs.Tally.{IsTallyOf}
use Rattle.pl_graft.proofs.NodeLaws.{formed}
use Rattle.pl_graft.proofs.TallyLaws.{item_of_taken, there_item, with_url, without_url}
use Rattle.pl_graft.proofs.cost.Tally.take_node.Goals as goal

pub returns-in_ok-page-in-Some-clause-tally : goal.returns-in_ok-page-in-Some-clause-tally
returns-in_ok-page-in-Some-clause-tally c =
    let node = c.args.node.now in
    let url : List ℕ = c.in-Some.url in
    let some = c.in-Some.is in
    let title = c.title_slots-slots.ensures in
    on_ok_weaker c.take_tags.result
    (λ tags store parent t takes.
    let id : PageId = (page_for store url).id in
    let paged : IsTallyOf c.take_page.new.self (with_page_of node.url store) =
    subst (λ (u : Option (List ℕ)). IsTallyOf c.take_page.new.self (with_page_of u store)) (sym some)
    (c.in_ok-page-in-Some.ensures.tally store t) in
    let item : IsTallyOf c.take_items.new.self (with_item_of parent node store) =
    item_of_taken c.take_page.new.self c.take_items.new.self store parent node c.title_slots-slots.result
    (formed node c.requires.formed) title.title paged takes title.slots c.take_items.ensures in
    let tagged : IsTallyOf c.take_tags.new.self
    (with_tags id node.added c.as_slice.result.now (with_item_of parent node store)) =
    tags (with_item_of parent node store) id node.added item (sym (c.in_ok-page-in-Some.ensures.page store t))
    (there_item store parent node url some) (formed node c.requires.formed).added in
    subst (IsTallyOf c.take_tags.new.self)
    (ap (λ (names : List (List ℕ)). with_tags id node.added names (with_item_of parent node store)) c.as_slice.ensures
    ∙ with_url store parent node url some)
    tagged)
    c.take_tags.ensures.tally

pub returns-in-None-clause-tally : goal.returns-in-None-clause-tally
returns-in-None-clause-tally c =
    λ store parent t takes.
    let node = c.args.node.now in
    let title = c.title_slots-slots.ensures in
    let paged : IsTallyOf c.args.self.now (with_page_of node.url store) =
    subst (λ (u : Option (List ℕ)). IsTallyOf c.args.self.now (with_page_of u store)) (sym c.in-None.is) t in
    subst (IsTallyOf c.take_items-in-None.new.self) (without_url store parent node c.in-None.is)
    (item_of_taken c.args.self.now c.take_items-in-None.new.self store parent node c.title_slots-slots.result
    (formed node c.requires.formed) title.title paged takes title.slots c.take_items-in-None.ensures)
