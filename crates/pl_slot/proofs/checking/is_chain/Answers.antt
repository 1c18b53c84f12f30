use Rattle.std.proofs.Common.{arith, refl, subst}
use Rattle.std.proofs.lemmas.Bool.{eqb-false, eqb-true}
use Rattle.pl_base.specs.declared.id.Slot.{Slot}
use Rattle.pl_slot.specs.Arena.{header_of}
use Rattle.pl_slot.proofs.ChainCount.{IsFollowed, all_met, goes_on, not_all, starts, steps_on}
use Rattle.pl_slot.proofs.HeaderLaws.{first_free_told}
use Rattle.pl_slot.proofs.checking.is_chain.Goals as goal

pub loop-step-init : goal.loop-step-init
loop-step-init c =
    subst (λ (s : Slot). IsFollowed 0 (header_of c.args.sheets.now).first_free s c.args.sheets.now)
    (first_free_told c.four_at.result c.args.sheets.now c.four_at.ensures)
    (starts (header_of c.args.sheets.now).first_free c.args.sheets.now)

pub returns-in-None-clause-no : goal.returns-in-None-clause-no
returns-in-None-clause-no c told chain =
    goes_on c.loop-step.step (header_of c.args.sheets.now).first_free c.loop-step.next c.args.sheets.now
    c.loop-step.invariant refl (omega (arith, c.requires.free)) c.in-None.ensures chain

pub returns-clause-yes : goal.returns-clause-yes
returns-clause-yes c told =
    all_met c.loop-step.step (header_of c.args.sheets.now).first_free c.loop-step.next c.args.sheets.now
    c.loop-step.invariant refl (omega (arith, c.requires.free)) (eqb-true c.loop-step.next.0 0 told)

pub returns-clause-no : goal.returns-clause-no
returns-clause-no c told chain =
    not_all c.loop-step.step (header_of c.args.sheets.now).first_free c.loop-step.next c.args.sheets.now
    c.loop-step.invariant refl (omega (arith, c.requires.free)) (eqb-false c.loop-step.next.0 0 told) chain

pub loop-step-preserved : goal.loop-step-preserved
loop-step-preserved c =
    steps_on c.loop-step.step (header_of c.args.sheets.now).first_free c.loop-step.next c.in-Some.slot
    c.args.sheets.now c.loop-step.invariant c.in-Some.ensures
