use Rattle.std.proofs.Common.{◌≡◌, ◌+◌, ◌-◌, ◌∙◌, ℕ, List, ap, arith, length, suc, sym}
use Rattle.pl_base.specs.Store.{Item}
use Rattle.trials_items.proofs.ItemLemmas.{is_above, none_above, other_above}
use Rattle.trials_items.proofs.items.is_outside.Goals as goal

pub returns-in_default : goal.returns-in_default
returns-in_default g c _ =
    let items : List Item = c.args.flat.now.items in
    let left : ℕ = length items - c.loop-step._step in
    c.loop-step.invariant ∙ ap (is_above items c.args.item left) c.in_default.is ∙ none_above items c.args.item left

pub loop-step-preserved : goal.loop-step-preserved
loop-step-preserved g c =
    let items : List Item = c.args.flat.now.items in
    let left : ℕ = length items - c.loop-step._step in
    let then : ℕ = length items - (c.loop-step._step + 1) in
    let fewer : left ≡ suc then = omega (arith, c.items-step-end.ensures.items) in
    c.loop-step.invariant ∙ ap (is_above items c.args.item left) c.in-Some.is
    ∙ other_above items c.args.item c.in-Some.id left then c.in-Some-item_at.row fewer
    (sym c.in-Some-item_at.is ∙ c.item_at.ensures.row) (sym c.eq.ensures ∙ c.if-eq.false)
