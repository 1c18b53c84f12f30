use Rattle.std.proofs.Common.{ap, arith, subst, sym, List}
use Rattle.pl_base.specs.declared.id.PageId.{PageId}
use Rattle.pl_base.specs.Rows.{store_of}
use Rattle.pl_base.specs.Store.{Store}
use Rattle.pl_history.specs.Settled.{AreOthersSettled, AreSettledBut}
use Rattle.pl_history.proofs.KeptAddresses.{addresses_same}
use Rattle.pl_history.proofs.OthersAlike.{alike_self}
use Rattle.pl_history.proofs.RemovedVisits.{all_borne, all_gone, next_fewer, next_gone, next_there, none_gone}
use Rattle.pl_history.proofs.RemovedVisits.{ordered_settled, sound_settled}
use Rattle.pl_history.proofs.removal.remove_visits.Goals as goal

pub loop-visit-init : goal.loop-visit-init
loop-visit-init g c =
    record {
      settled =
          subst (λ (ids : List PageId). AreOthersSettled ids (g.R.Rows.kept c.args.rows.now))
          (sym c.new-pages.ensures.items) (sound_settled (g.R.Rows.kept c.args.rows.now)
          (g.met.R.Rows.well_kept c.args.rows.now) c.requires.sound);
      store = none_gone (g.R.Rows.kept c.args.rows.now);
      fewer = omega arith;
      alike = alike_self c.new-pages.result.items (store_of (g.R.Rows.kept c.args.rows.now));
      base = λ bytes was. was;
    }

pub remove_visit-requires-clause-there : goal.remove_visit-requires-clause-there
remove_visit-requires-clause-there g c =
    next_there (g.R.Rows.kept c.args.rows.now) (g.R.Rows.kept c.loop-visit.rows) c.args.visits.now
    c.loop-visit.visit-index (record { 0 = 0 }) c.requires.there c.requires.apart (omega arith)
    c.loop-visit.invariant.store

pub loop-visit-preserved : goal.loop-visit-preserved
loop-visit-preserved g c =
    record {
      settled = c.in_ok-remove_visit.ensures.settled;
      store =
          next_gone (g.R.Rows.kept c.args.rows.now) (g.R.Rows.kept c.loop-visit.rows)
          (g.R.Rows.kept c.remove_visit.new.rows) c.args.visits.now c.loop-visit.visit-index (record { 0 = 0 })
          (omega arith) c.loop-visit.invariant.store c.in_ok-remove_visit.ensures.store;
      fewer =
          next_fewer (g.R.Rows.kept c.args.rows.now) (g.R.Rows.kept c.loop-visit.rows)
          (g.R.Rows.kept c.remove_visit.new.rows) c.args.visits.now c.loop-visit.visit-index (record { 0 = 0 })
          (g.met.R.Rows.well_kept c.loop-visit.rows)
          (next_there (g.R.Rows.kept c.args.rows.now) (g.R.Rows.kept c.loop-visit.rows) c.args.visits.now
          c.loop-visit.visit-index (record { 0 = 0 }) c.requires.there c.requires.apart (omega arith)
          c.loop-visit.invariant.store)
          c.loop-visit.invariant.fewer c.in_ok-remove_visit.ensures.store;
      alike =
          c.in_ok-remove_visit.ensures.alike (store_of (g.R.Rows.kept c.args.rows.now)) c.loop-visit.invariant.alike;
      base = λ bytes was. c.in_ok-remove_visit.ensures.base bytes (c.loop-visit.invariant.base bytes was);
    }

pub settle_all-requires-clause-settled : goal.settle_all-requires-clause-settled
settle_all-requires-clause-settled g c =
    subst (λ (ids : List PageId). AreSettledBut ids (g.R.Rows.kept c.loop-visit.rows)) (sym c.deref.ensures.value)
    (ordered_settled c.loop-visit.pages.items c.put_in_order.new.pages.items (g.R.Rows.kept c.loop-visit.rows)
    c.put_in_order.ensures.ascending c.put_in_order.ensures.same c.loop-visit.invariant.settled)

pub settle_all-requires-clause-views : goal.settle_all-requires-clause-views
settle_all-requires-clause-views g c =
    addresses_same c.args.views.now (g.R.Rows.kept c.args.rows.now) (g.R.Rows.kept c.loop-visit.rows)
    (ap (λ (s : Store). s.pages) c.loop-visit.invariant.store) c.requires.views

pub returns-clause-store : goal.returns-clause-store
returns-clause-store g c =
    all_gone (g.R.Rows.kept c.args.rows.now) (g.R.Rows.kept c.loop-visit.rows) (g.R.Rows.kept c.settle_all.new.rows)
    c.args.visits.now c.loop-visit.visit-index (omega arith) c.loop-visit.invariant.store
    c.in_ok-gone.ensures.store

pub returns-clause-borne : goal.returns-clause-borne
returns-clause-borne g c =
    all_borne (g.R.Rows.kept c.args.rows.now) (g.R.Rows.kept c.loop-visit.rows) (g.R.Rows.kept c.settle_all.new.rows)
    c.args.visits.now c.loop-visit.pages.items c.put_in_order.new.pages.items (g.met.R.Rows.well_kept c.args.rows.now)
    c.put_in_order.ensures.same
    (ordered_settled c.loop-visit.pages.items c.put_in_order.new.pages.items (g.R.Rows.kept c.loop-visit.rows)
    c.put_in_order.ensures.ascending c.put_in_order.ensures.same c.loop-visit.invariant.settled)
    c.loop-visit.invariant.alike c.in_ok-gone.ensures.store
    (all_gone (g.R.Rows.kept c.args.rows.now) (g.R.Rows.kept c.loop-visit.rows) (g.R.Rows.kept c.settle_all.new.rows)
    c.args.visits.now c.loop-visit.visit-index (omega arith) c.loop-visit.invariant.store c.in_ok-gone.ensures.store)
