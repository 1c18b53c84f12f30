use Rattle.std.proofs.Common.{◌≡◌, Err, IfOk, List, Ok, Result, subst, sym}
use Rattle.pl_base.specs.declared.view.View.{View}
use Rattle.pl_base.specs.Rows.{IsWellKept, Kept, store_of}
use Rattle.pl_base.specs.View.{AreViewsOf}
use Rattle.pl_known.specs.declared.known.Known.{Known}
use Rattle.pl_known.specs.Known.{AreFollowed, Knows}
use Rattle.pl_changes.proofs.SmallShares.{small}
use Rattle.pl_changes.proofs.StoreViews.{fits, in_order}
use Rattle.pl_changes.proofs.opening.known_of.Goals as goal

knows : {E : Type 0} (kept : Kept) (views : List View) (r : Result Known E) → IsWellKept kept
    → AreViewsOf (store_of kept) views → IfOk r (λ known. known.views.items ≡ views) → IfOk r AreFollowed
    → IfOk r (Knows (store_of kept))
knows kept views (Err e) well are is followed = tt
knows kept views (Ok known) well are is followed =
    let same : AreViewsOf (store_of kept) known.views.items = subst (AreViewsOf (store_of kept)) (sym is) are in
    record { views = same; small = small kept known.views.items well same; followed = followed }

pub of-requires-clause-order : goal.of-requires-clause-order
of-requires-clause-order g c =
    in_order (store_of (g.R.Rows.kept c.args.rows.now)) c.in_ok-views.views.items c.requires.sound.good
    c.in_ok-views.ensures

pub of-requires-clause-fit : goal.of-requires-clause-fit
of-requires-clause-fit g c =
    fits (g.R.Rows.kept c.args.rows.now) c.in_ok-views.views.items (g.met.R.Rows.well_kept c.args.rows.now)
    c.requires.sound.good c.in_ok-views.ensures

pub returns : goal.returns
returns g c =
    let kept : Kept = g.R.Rows.kept c.args.rows.now in
    knows kept c.in_ok-views.views.items c.of.result (g.met.R.Rows.well_kept c.args.rows.now) c.in_ok-views.ensures
    c.of.ensures.views c.of.ensures.followed
