use Rattle.std.proofs.Common.{◌∙◌, [], subst, sym}
use Rattle.std.specs.Iterator.Adapters.{rev_source}
use Rattle.pl_base.specs.Rows.{store_of}
use Rattle.pl_base.specs.Store.{Store}
use Rattle.pl_bar.specs.Offers.{ids_of}
use Rattle.pl_bar.proofs.OfferSteps.{Comes, Going, Next, all_going, cost_so_far, ended, full, next_of, one_more}
use Rattle.pl_bar.proofs.offers.Offers.go_on.Given.{Over}
use Rattle.pl_bar.proofs.offers.Offers.go_on.Goals as goal
use Rattle.pl_bar.proofs.offers.Offers.go_on.Goals.{In-None, In-Some}

pub loop-rank-init : goal.loop-rank-init
loop-rank-init g c =
    let store : Store = store_of (g.R.Rows.kept c.args.rows.now) in
    subst (λ entries. Going store c.args.asked.now.text c.args.texts.now (ids_of (rev_source c.args.entries))
    c.args.self.now c.args.self.now c.args.steps.now c.args.steps.now (rev_source entries))
    (sym c.into_iter-rank-iterator.ensures.into_iter_gives)
    (all_going store c.args.asked.now.text c.args.texts.now c.args.self.now c.args.steps.now
    (rev_source c.args.entries) c.requires.counted c.requires.sketched)

-- the entry that comes first of those that are left
next_entry : (g : Over) (c : In-Some g)
    → Next (store_of (g.R.Rows.kept c.args.rows.now)) c.args.asked.now.text c.args.texts.now
    (ids_of (rev_source c.args.entries)) c.args.self.now c.loop-rank.self c.args.steps.now c.loop-rank.steps
    (c.in-Some.rank.now, c.in-Some.sketch.now) (rev_source c.next.new.self)
next_entry g c =
    next_of (store_of (g.R.Rows.kept c.args.rows.now)) c.args.asked.now.text c.args.texts.now
    (ids_of (rev_source c.args.entries)) c.args.self.now c.loop-rank.self c.args.steps.now c.loop-rank.steps
    (rev_source c.loop-rank.rank-iterator) (rev_source c.next.new.self) (c.in-Some.rank.now, c.in-Some.sketch.now)
    c.in-Some.ensures.steps c.loop-rank.invariant

pub returns-then-is_full-clause-goes_on : goal.returns-then-is_full-clause-goes_on
returns-then-is_full-clause-goes_on g c =
    full (store_of (g.R.Rows.kept c.args.rows.now)) c.args.asked.now.text (ids_of (rev_source c.args.entries))
    (ids_of (rev_source c.loop-rank.rank-iterator)) c.args.self.now c.loop-rank.self c.args.steps.now
    c.loop-rank.steps c.loop-rank.invariant.comes (sym c.is_full.ensures ∙ c.if-is_full.true)

pub returns-then-is_full-clause-cost : goal.returns-then-is_full-clause-cost
returns-then-is_full-clause-cost g c =
    cost_so_far (store_of (g.R.Rows.kept c.args.rows.now)) c.args.asked.now.text (ids_of (rev_source c.args.entries))
    (ids_of (rev_source c.loop-rank.rank-iterator)) c.args.self.now c.loop-rank.self c.args.steps.now
    c.loop-rank.steps c.loop-rank.invariant.comes

pub tier-tier-requires-clause-counted : goal.tier-tier-requires-clause-counted
tier-tier-requires-clause-counted g c =
    (next_entry g (goal.at.tier-tier-requires-clause-counted g c).In-Some).comes.counted.0

pub tier-tier-requires-clause-sketch : goal.tier-tier-requires-clause-sketch
tier-tier-requires-clause-sketch g c =
    (next_entry g (goal.at.tier-tier-requires-clause-sketch g c).In-Some).sketch

pub loop-rank-preserved : goal.loop-rank-preserved
loop-rank-preserved g c =
    let next = next_entry g (goal.at.loop-rank-preserved g c).In-Some in
    record {
      comes = one_more (store_of (g.R.Rows.kept c.args.rows.now)) c.args.asked.now.text
          (ids_of (rev_source c.args.entries)) (ids_of (rev_source c.next.new.self)) c.in-Some.rank.now.1
          c.args.self.now c.loop-rank.self c.add.new.self c.args.steps.now c.loop-rank.steps c.tier-tier.new.steps
          c.tier-tier.result next.comes (sym c.is_full.ensures ∙ c.if-is_full.false) c.tier-tier.ensures.tier
          c.tier-tier.ensures.cost c.in_ok-add.ensures.max c.in_ok-add.ensures.first c.in_ok-add.ensures.second;
      sketched = next.sketched;
    }

-- none is left
at_end : (g : Over) (c : In-None g)
    → Comes (store_of (g.R.Rows.kept c.args.rows.now)) c.args.asked.now.text (ids_of (rev_source c.args.entries))
    c.args.self.now c.loop-rank.self c.args.steps.now c.loop-rank.steps []
at_end g c =
    subst (λ entries. Comes (store_of (g.R.Rows.kept c.args.rows.now)) c.args.asked.now.text
    (ids_of (rev_source c.args.entries)) c.args.self.now c.loop-rank.self c.args.steps.now c.loop-rank.steps
    (ids_of entries)) c.in-None.ensures.steps.0 c.loop-rank.invariant.comes

pub returns-clause-goes_on : goal.returns-clause-goes_on
returns-clause-goes_on g c =
    ended (store_of (g.R.Rows.kept c.args.rows.now)) c.args.asked.now.text (ids_of (rev_source c.args.entries))
    c.args.self.now c.loop-rank.self c.args.steps.now c.loop-rank.steps (at_end g c)

pub returns-clause-cost : goal.returns-clause-cost
returns-clause-cost g c =
    cost_so_far (store_of (g.R.Rows.kept c.args.rows.now)) c.args.asked.now.text
    (ids_of (rev_source c.args.entries)) [] c.args.self.now c.loop-rank.self c.args.steps.now c.loop-rank.steps
    (at_end g c)
