use Rattle.std.proofs.Common.{◌<◌, ◌∙◌, Bool, List, ap, arith, subst, sym}
use Rattle.std.specs.List.{list_all}
use Rattle.std.specs.Option.{is_none}
use Rattle.pl_items.specs.declared.plant.Waiting.{Waiting}
use Rattle.std.specs.List.Sorted.{IsStrictlyIncreasing}
use Rattle.pl_base.specs.Store.{item_id}
use Rattle.pl_items.specs.TakenOut.{waiting_ids}
use Rattle.pl_items.proofs.PlantEnds.{begins_not, continues_not, items_ascend, plants}
use Rattle.pl_items.proofs.PlantSteps.{begins, continues}
use Rattle.pl_items.proofs.WaitingRows.{fewer, ids_stay, still}
use Rattle.pl_items.proofs.plant.Planting.plant.Goals as goal

pub returns-then-not-branch : goal.returns-then-not-branch
returns-then-not-branch c = λ items start tree.
    begins_not items c.args.self.now.waiting.items start (sym c.in_ok-add.ensures.there ∙ c.if-not-branch.true)

pub loop-next-init : goal.loop-next-init
loop-next-init c =
    let old = c.args.self.now in
    let new = c.add.new.self in
    let ids = ap waiting_ids c.in_ok-add.ensures.waiting ∙ ids_stay (item_id 1) old.waiting.items in (
      subst IsStrictlyIncreasing (sym ids) c.requires.ascending,
      λ items start.
          begins items old.waiting.items new.waiting.items old.nodes.items new.nodes.items old.pending.items
          new.pending.items
          start c.requires.nodes c.requires.pending (sym c.in_ok-add.ensures.there ∙ c.if-not-branch.false)
          c.in_ok-add.ensures.waiting c.in_ok-add.ensures.nodes c.in_ok-add.ensures.pending,
    )

pub returns-then-not-branch-2 : goal.returns-then-not-branch-2
returns-then-not-branch-2 c = λ items start tree.
    let now = c.loop-next.self in
    absurd (continues_not items now.waiting.items now.nodes.items now.pending.items c.loop-next.next
    c.index-child.result.now
    (c.loop-next.invariant.1 items start) (omega arith) c.index-child.ensures
    (sym c.in_ok-add-2.ensures.there ∙ c.if-not-branch-2.true) tree)

pub loop-next-smaller : goal.loop-next-smaller
loop-next-smaller c =
    let less = fewer c.index-child.result.now.id c.loop-next.self.waiting.items
    (sym c.in_ok-add-2.ensures.there ∙ c.if-not-branch-2.false)
    in
    subst (λ n. n < still c.loop-next.self.waiting.items) (sym (ap still c.in_ok-add-2.ensures.waiting)) less

pub loop-next-preserved : goal.loop-next-preserved
loop-next-preserved c =
    let old = c.loop-next.self in
    let new = c.add-in-loop-next.new.self in
    let child = c.index-child.result.now in
    let ids = ap waiting_ids c.in_ok-add-2.ensures.waiting ∙ ids_stay child.id old.waiting.items in (
      subst IsStrictlyIncreasing (sym ids) c.loop-next.invariant.0,
      λ items start.
          continues items old.waiting.items new.waiting.items old.nodes.items new.nodes.items old.pending.items
          new.pending.items c.loop-next.next child (c.loop-next.invariant.1 items start) (omega arith)
          c.index-child.ensures (sym c.in_ok-add-2.ensures.there ∙ c.if-not-branch-2.false)
          c.in_ok-add-2.ensures.waiting c.in_ok-add-2.ensures.nodes c.in_ok-add-2.ensures.pending,
    )

is_empty_list : List Waiting → Bool
is_empty_list rows = list_all (λ (w : Waiting). is_none w.item) rows

pub returns : goal.returns
unfolding is_empty_list
returns c = λ items start.
    let now = c.loop-next.self in
    plants items now.waiting.items now.nodes.items now.pending.items c.loop-next.next
    (c.loop-next.invariant.1 items start)
    (omega arith) (items_ascend items c.args.self.now.waiting.items start c.requires.ascending)
    c.is_empty.result (c.is_empty.ensures ∙ ap is_empty_list c.deref.ensures.value)
