use Rattle.std.specs.Result.{result_err}
use Rattle.std.proofs.Common.{◌≡◌, ◌∙◌, ◌+◌, Err, ℕ, ap, arith, refl, subst, sym}
use Rattle.std.proofs.lemmas.Option.{none-some}
use Rattle.std.proofs.lemmas.Result.{err_from_is_err_and}
use Rattle.pl_store.specs.Keeper.{keeper_store}
use Rattle.places.specs.Drilling.{IsSmall, drilled, line_done, so_far}
use Rattle.places.proofs.DrillLemmas.{at_begin, at_next, drilled_as, drilled_next, drilled_small, leaves_lines}
use Rattle.places.proofs.drill.run_lines.Goals as goal

pub loop-number-init : goal.loop-number-init
loop-number-init g c = record {
  done = drilled_as _ _ c.of.ensures refl refl;
  limit = c.requires.limit;
  file = c.requires.file;
  kept = λ first kept. kept;
  any_moment = λ first before is kept.
      at_begin g.D.Desk g.met.D.Desk.only_now c.args.keeper first c.args.desk.now before c.args.count c.args.seed
      c.requires.file is kept;
  line = record { said = refl; faults = refl };
  no_fault = refl;
}

pub run_line-requires-clause-small : goal.run_line-requires-clause-small
run_line-requires-clause-small g c =
    subst (IsSmall c.loop-number.number) (sym c.loop-number.invariant.done)
    (drilled_small (keeper_store c.args.keeper) c.args.seed c.loop-number.number)

pub loop-number-preserved : goal.loop-number-preserved
loop-number-preserved g c = let is = c.loop-number.invariant in let did = c.in_ok-drilling.ensures in
    let start = keeper_store c.args.keeper in let seed = c.args.seed in let n = c.loop-number.number in record {
      done = did.done ∙ ap (line_done n) is.done ∙ sym (drilled_next start seed n);
      limit = did.limit;
      file = did.file;
      kept = λ first kept. did.kept first (is.kept first kept);
      any_moment = λ first before begun kept.
          at_next g.D.Desk c.args.desk.now c.loop-number.desk c.run_line.new.desk c.args.count seed n start
          (so_far c.loop-number.drilling) (omega arith) is.done is.line.said (is.any_moment first before begun kept)
          (c.run_line.ensures.any_moment first before (is.line.said ∙ begun) (is.kept first kept));
      line = record {
        said = c.run_line.ensures.line.said ∙ is.line.said;
        faults = c.run_line.ensures.line.faults ∙ is.line.faults;
      };
      no_fault = did.counted.stands (λ e. none-some _ (ap result_err e)) ∙ is.no_fault;
    }

pub returns-in_err-drilling-clause-left : goal.returns-in_err-drilling-clause-left
returns-in_err-drilling-clause-left g c =
    let p = err_from_is_err_and c.from_residual.result c.from_residual.ensures.1 in
    rw (p.1, p.2) (λ first kept. let is = c.loop-number.invariant in
    leaves_lines g.D.Desk _ c.args.count c.args.seed c.loop-number.number (keeper_store c.args.keeper)
    (so_far c.loop-number.drilling) first c.run_line.new.desk (omega arith) is.done
    (λ same. c.in_err-drilling.ensures.unsaid (ap Err same))
    (c.in_err-drilling.ensures.left first (is.kept first kept)))

pub returns-in_err-drilling-clause-any_moment : goal.returns-in_err-drilling-clause-any_moment
returns-in_err-drilling-clause-any_moment g c = λ first before begun kept. let is = c.loop-number.invariant in
    at_next g.D.Desk c.args.desk.now c.loop-number.desk c.run_line.new.desk c.args.count c.args.seed
    c.loop-number.number (keeper_store c.args.keeper)
    (so_far c.loop-number.drilling) (omega arith) is.done is.line.said (is.any_moment first before begun kept)
    (c.run_line.ensures.any_moment first before (is.line.said ∙ begun) (is.kept first kept))

pub returns-clause-done : goal.returns-clause-done
returns-clause-done g c =
    let all : c.loop-number.number ≡ c.args.count + 1 = omega arith in
    subst (λ (n : ℕ). so_far c.loop-number.drilling ≡ drilled (keeper_store c.args.keeper) c.args.seed n) all
    c.loop-number.invariant.done

pub returns-clause-any_moment : goal.returns-clause-any_moment
returns-clause-any_moment g c = c.loop-number.invariant.any_moment
