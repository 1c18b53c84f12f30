use Rattle.std.proofs.Common.{◌≡◌, ◌∙◌, ◌+◌, ◌*◌, ◌≤◌, ap, arith, length, subst}
use Rattle.std.specs.List.Sorted.{IsPermutation}
use Rattle.std.proofs.lemmas.List.Sorted.{length_permutation}
use Rattle.pl_rail.specs.declared.owner.Owner.TheVariants.{At}
use Rattle.pl_rail.proofs.ListLaws.{one_list}
use Rattle.pl_owned.proofs.in_any_order.listed_as.Goals as goal
use Rattle.pl_owned.proofs.in_any_order.listed_as.Goals.{then-same, else-same}

pub returns-clause-none : goal.returns-clause-none
returns-clause-none g c none_is slots lists moves =
    elim c.if-same.branch [
      | then-same w ↦ let some = w.result-is in absurd (cc)
      | else-same w ↦
          c.in_ok-same.ensures.no w.if-same.false
          (rw c.deref.ensures.value
          (subst (λ l. IsPermutation l c.args.wanted.now)
          (one_list c.args.rail (At c.args.owner) slots c.in-Some.slots.items c.args.arena.now lists
          (rw c.in-Some.is at c.in_ok-slots.ensures.found))
          moves))
    ]

pub returns-clause-counted : goal.returns-clause-counted
returns-clause-counted g c =
    elim c.if-same.branch [
      | then-same w ↦
          let long : length c.args.wanted.now ≡ length c.in-Some.slots.items =
          length_permutation c.deref.result.now c.args.wanted.now (c.in_ok-same.ensures.yes w.if-same.true)
          ∙ ap length c.deref.ensures.value in
          let counted : c.listed.new.steps ≤ c.args.steps.now + 3 * length c.in-Some.slots.items + 2 =
          rw c.in-Some.is at c.in_ok-slots.ensures.counted in
          rw w.result-is (omega (arith, long, counted))
      | else-same w ↦ rw w.result-is tt
    ]
