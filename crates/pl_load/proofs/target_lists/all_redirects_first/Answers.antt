use Rattle.std.proofs.Common.{◌≡◌, ◌∙◌, List, Some, ap, arith, subst, sym}
use Rattle.std.specs.List.{All}
use Rattle.std.specs.Vec.{vec_items}
use Rattle.std.proofs.lemmas.List.{take_all}
use Rattle.std.proofs.lemmas.List.Elements.{All-more}
use Rattle.pl_base.specs.declared.id.Slot.{Slot}
use Rattle.pl_owned.specs.Redirects.{HasRedirectsFirst}
use Rattle.pl_slot.specs.declared.kind.SlotKind.TheVariants as kinds
use Rattle.pl_slot.specs.Links.{kind_at}
use Rattle.pl_load.proofs.target_lists.all_redirects_first.Goals as goal

pub have_redirects_first-requires : goal.have_redirects_first-requires
have_redirects_first-requires g c =
    subst (All (λ (s : Slot). kind_at s.0 c.args.arena.now ≡ Some kinds.Visit))
    (sym (c.deref.ensures.value ∙ ap vec_items c.slots-item.is))
    (c.requires c.loop-slots.slots-index c.slots-item.result (omega arith))

pub loop-slots-preserved : goal.loop-slots-preserved
loop-slots-preserved g c =
    All-more (λ s. HasRedirectsFirst s.items c.args.arena.now) c.args.lists.now c.loop-slots.slots-index
    c.slots-item.result (omega arith) c.loop-slots.invariant
    (subst (λ (l : List Slot). HasRedirectsFirst l c.args.arena.now)
    (c.deref.ensures.value ∙ ap vec_items c.slots-item.is)
    (c.have_redirects_first.ensures.yes c.if-not-have_redirects_first.false))

pub returns-then-not-have_redirects_first-clause-no : goal.returns-then-not-have_redirects_first-clause-no
returns-then-not-have_redirects_first-clause-no g c is all =
    c.have_redirects_first.ensures.no c.if-not-have_redirects_first.true
    (subst (λ (l : List Slot). HasRedirectsFirst l c.args.arena.now)
    (sym (c.deref.ensures.value ∙ ap vec_items c.slots-item.is))
    (all c.loop-slots.slots-index c.slots-item.result (omega arith)))

pub returns-clause-yes : goal.returns-clause-yes
returns-clause-yes g c is =
    subst (All (λ s. HasRedirectsFirst s.items c.args.arena.now))
    (take_all c.loop-slots.slots-index c.args.lists.now (omega arith)) c.loop-slots.invariant
