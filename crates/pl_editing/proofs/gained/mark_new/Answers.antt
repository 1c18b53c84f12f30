use Rattle.std.proofs.Common.{◌≡◌, ◌≤◌, ◌++◌, ◌∙◌, ◌+◌, arith, ap, drop, get_or, List, subst, sym}
use Rattle.std.proofs.lemmas.List.{drop_all, drop_more}
use Rattle.pl_base.specs.declared.id.PageId.{PageId}
use Rattle.pl_base.specs.declared.row.Mark.{Mark}
use Rattle.pl_base.specs.Rows.{Kept, store_of, with_mark, with_origins}
use Rattle.pl_base.specs.Store.{Store}
use Rattle.pl_base.specs.Totals.{most_share, share}
use Rattle.pl_history.specs.Settled.{AreSettledBut}
use Rattle.pl_history.proofs.KeptAddresses.{addresses_same}
use Rattle.pl_editing.specs.NewPage.{IsNew, new_mark}
use Rattle.pl_editing.proofs.NewPages.{new_settled, new_store, small_new, still_new, still_there}
use Rattle.pl_editing.proofs.gained.mark_new.Goals as goal

pub is_place-requires-clause-page : goal.is_place-requires-clause-page
is_place-requires-clause-page g c =
    still_there (g.R.Rows.kept c.args.rows.now) (g.R.Rows.kept c.loop-page.rows) c.args.pages.now
    c.loop-page.page-index (record { 0 = 0 }) c.loop-page.invariant.store c.requires.made (omega arith)

pub is_place-requires-clause-views : goal.is_place-requires-clause-views
is_place-requires-clause-views g c =
    addresses_same c.args.views.now (g.R.Rows.kept c.args.rows.now) (g.R.Rows.kept c.loop-page.rows)
    (ap (λ (s : Store). s.pages) c.loop-page.invariant.store) c.requires.views

pub keep_mark-requires-clause-page : goal.keep_mark-requires-clause-page
keep_mark-requires-clause-page g c =
    still_there (g.R.Rows.kept c.args.rows.now) (g.R.Rows.kept c.loop-page.rows) c.args.pages.now
    c.loop-page.page-index (record { 0 = 0 }) c.loop-page.invariant.store c.requires.made (omega arith)

pub keep_mark-requires-clause-small : goal.keep_mark-requires-clause-small
keep_mark-requires-clause-small g c =
    subst (λ (mark : Mark). share mark.frecency ≤ most_share) (sym c.new_mark.ensures)
    (small_new c.in_ok-is_place.is_place)

pub loop-page-preserved : goal.loop-page-preserved
loop-page-preserved g c =
    let old : Kept = g.R.Rows.kept c.loop-page.rows in
    let new : Kept = g.R.Rows.kept c.keep_mark.new.rows in
    let page : PageId = get_or c.args.pages.now c.loop-page.page-index (record { 0 = 0 }) in
    let made : IsNew (store_of old) page =
    still_new (store_of (g.R.Rows.kept c.args.rows.now)) (store_of old) c.args.pages.now c.loop-page.page-index
    (record { 0 = 0 }) c.loop-page.invariant.store c.requires.made (omega arith) in
    let marked : new ≡ with_origins new.origins (with_mark page (new_mark c.in_ok-is_place.is_place) old) =
    ◌∙◌ {b = with_origins new.origins (with_mark page c.new_mark.result old)} c.keep_mark.ensures.kept
    (ap (λ (mark : Mark). with_origins new.origins (with_mark page mark old)) c.new_mark.ensures) in
    record {
      store = new_store old new page c.in_ok-is_place.is_place made marked ∙ c.loop-page.invariant.store;
      settled =
          λ rest s.
          new_settled old new page c.in_ok-is_place.is_place made marked (g.met.R.Rows.well_kept c.loop-page.rows)
          c.keep_mark.ensures.sums
          (drop (c.loop-page.page-index + 1) c.args.pages.now ++ rest) c.in_ok-is_place.ensures
          (subst (λ (ids : List PageId). AreSettledBut (ids ++ rest) old)
          (drop_more c.args.pages.now c.loop-page.page-index (record { 0 = 0 }) (omega arith))
          (c.loop-page.invariant.settled rest s));
      sums = c.keep_mark.ensures.sums;
      base = λ bytes was. c.keep_mark.ensures.base bytes (c.loop-page.invariant.base bytes was);
    }

pub returns-clause-settled : goal.returns-clause-settled
returns-clause-settled g c rest s =
    subst (λ (ids : List PageId). AreSettledBut (ids ++ rest) (g.R.Rows.kept c.loop-page.rows))
    (drop_all c.loop-page.page-index c.args.pages.now (omega arith)) (c.loop-page.invariant.settled rest s)
