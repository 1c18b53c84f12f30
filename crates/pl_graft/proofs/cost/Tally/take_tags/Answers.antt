-- One tag more, and all of them.
use Rattle.std.proofs.Common.{ℕ, List, arith, subst, take}
use Rattle.std.proofs.lemmas.List.{take_all}
use Rattle.pl_base.specs.Store.{Store}
use Rattle.pl_graft.specs.Import.{with_tags}
use Rattle.pl_graft.specs.Tally.{IsTallyOf}
use Rattle.pl_graft.proofs.TallyLaws.{tags_more, there_tags}
use Rattle.pl_graft.proofs.cost.Tally.take_tags.Goals as goal

pub loop-name-preserved : goal.loop-name-preserved
loop-name-preserved c =
    let i : ℕ = c.loop-name.name-index in
    let names : List (List ℕ) = c.args.names.now in
    record {
      few = omega (arith, c.in_ok-take_tag.ensures.few, c.loop-name.invariant.few);
      tally = λ store id date t same there is_date.
          let before : Store = with_tags id date (take i names) store in
          subst (IsTallyOf c.take_tag.new.self)
          (tags_more id date names i c.name-item.result store c.loop-name-test.true c.name-item.is)
          (c.in_ok-take_tag.ensures.tally before id date
          (c.loop-name.invariant.tally store id date t same there is_date) same
          (there_tags id date (take i names) store there) is_date);
    }

pub returns-clause-tally : goal.returns-clause-tally
returns-clause-tally c =
    λ store id date t same there is_date.
    subst (λ (names : List (List ℕ)). IsTallyOf c.loop-name.self (with_tags id date names store))
    (take_all c.loop-name.name-index c.args.names.now c.loop-name-test.false)
    (c.loop-name.invariant.tally store id date t same there is_date)
