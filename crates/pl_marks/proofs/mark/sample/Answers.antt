use Rattle.std.proofs.Common.{◌+◌, ◌∙◌, ap, arith, refl, sym}
use Rattle.pl_base.specs.Marks.{is_referenced}
use Rattle.pl_base.specs.Rows.{Kept, older_visit, page_visits, store_of}
use Rattle.pl_base.proofs.VisitsRun.{has_visit_here, visit_here, visit_names, visit_page_here, visits_run}
use Rattle.pl_base.proofs.Walk.{StandsAt, goes_on, stands, starts}
use Rattle.pl_marks.proofs.SeenVisits.{AreSampled, sampled_all, sampled_more}
use Rattle.pl_marks.proofs.SeenVisits.{sampled_ten}
use Rattle.pl_marks.proofs.mark.sample.Goals as goal

pub loop-init : goal.loop-init
loop-init g c =
    record {
      walk =
          starts visit_names (page_visits (g.R.Rows.kept c.args.rows.now) c.args.page)
          (AreSampled (store_of (g.R.Rows.kept c.args.rows.now)) c.new-sample.result.items 0) c.latest-next.result
          c.latest-next.ensures.latest (c.new-sample.ensures.items, refl);
      cost = omega (arith, c.latest-next.ensures.cost);
    }

pub sampled-requires : goal.sampled-requires
sampled-requires g c =
    let kept : Kept = g.R.Rows.kept c.args.rows.now in
    has_visit_here kept c.args.page (AreSampled (store_of kept) c.loop.sample.items c.loop.counter) c.in-Some.visit
    (g.met.R.Rows.well_kept c.args.rows.now) (stands visit_names (page_visits kept c.args.page)
    (AreSampled (store_of kept) c.loop.sample.items c.loop.counter) c.loop.next c.in-Some.visit c.loop.invariant.walk
    c.in-Some.is)

pub loop-preserved : goal.loop-preserved
loop-preserved g c =
    let kept : Kept = g.R.Rows.kept c.args.rows.now in
    let w : StandsAt visit_names (page_visits kept c.args.page)
    (AreSampled (store_of kept) c.loop.sample.items c.loop.counter) c.in-Some.visit =
    stands visit_names (page_visits kept c.args.page) (AreSampled (store_of kept) c.loop.sample.items c.loop.counter)
    c.loop.next c.in-Some.visit c.loop.invariant.walk c.in-Some.is in
    record {
      walk =
          goes_on visit_names (older_visit kept) (page_visits kept c.args.page)
          (AreSampled (store_of kept) c.loop.sample.items c.loop.counter)
          (AreSampled (store_of kept) c.push.new.self.items (c.loop.counter + 1)) c.in-Some.visit c.older-next.result
          (visits_run kept c.args.page (g.met.R.Rows.well_kept c.args.rows.now)) w c.older-next.ensures.older
          (sampled_more (store_of kept) c.loop.sample.items c.push.new.self.items c.sampled.result c.loop.counter w.front
          w.element w.so_far
          (c.sampled.ensures.sampled w.element
          (visit_here kept c.args.page (AreSampled (store_of kept) c.loop.sample.items c.loop.counter) c.in-Some.visit
          (g.met.R.Rows.well_kept c.args.rows.now) w)
          (c.requires ∙ ap (is_referenced (store_of kept))
          (sym (visit_page_here kept c.args.page (AreSampled (store_of kept) c.loop.sample.items c.loop.counter)
          c.in-Some.visit (g.met.R.Rows.well_kept c.args.rows.now) w))))
          c.in_ok-push.ensures.items);
      cost =
          omega (arith, c.loop.invariant.cost, c.sampled.ensures.cost, c.older-next.ensures.cost);
    }

pub returns-in_default-clause-sample : goal.returns-in_default-clause-sample
returns-in_default-clause-sample g c =
    sampled_all (g.R.Rows.kept c.args.rows.now) c.args.page c.loop.counter c.loop.sample.items c.loop.next
    c.loop.invariant.walk c.loop.auto.counter-end c.in_default.not-Some

pub returns-clause-sample : goal.returns-clause-sample
returns-clause-sample g c =
    sampled_ten (g.R.Rows.kept c.args.rows.now) c.args.page c.loop.counter c.loop.sample.items c.loop.next
    c.loop.invariant.walk (omega arith)
