use Rattle.std.proofs.Common.{◌∙◌, ap, sym}
use Rattle.std.specs.Option.{option_map}
use Rattle.pl_base.specs.Rows.{Kept, store_of}
use Rattle.pl_base.specs.View.{bookmarks_of, freshest}
use Rattle.pl_base.proofs.ReferencesRun.{has_item_here, having, item_names, references_run}
use Rattle.pl_base.proofs.Walk.{nears, stands}
use Rattle.pl_base.specs.Tree.{reference_behind}
use Rattle.pl_marks.specs.declared.bookmarks.Dated.{Dated}
use Rattle.pl_marks.proofs.FreshestItem.{HasFreshest, freshest_at_end, freshest_goes_on, id_at_end}
use Rattle.pl_marks.proofs.bookmarks.freshest_bookmark.Goals as goal

pub dated_bookmark-requires : goal.dated_bookmark-requires
dated_bookmark-requires g c =
    let kept : Kept = g.R.Rows.kept c.args.rows.now in
    has_item_here kept c.args.page (HasFreshest kept.items c.loop-next.found) c.in-Some.item
    (g.met.R.Rows.well_kept c.args.rows.now) (stands item_names (having kept.items c.args.page)
    (HasFreshest kept.items c.loop-next.found) c.loop-next.next c.in-Some.item c.loop-next.invariant c.in-Some.is)

pub loop-next-smaller : goal.loop-next-smaller
loop-next-smaller g c =
    let kept : Kept = g.R.Rows.kept c.args.rows.now in
    nears item_names (reference_behind kept.items) (having kept.items c.args.page)
    (HasFreshest kept.items c.loop-next.found) c.loop-next.next c.next_reference-next.result c.in-Some.item
    (references_run kept c.args.page (g.met.R.Rows.well_kept c.args.rows.now))
    (stands item_names (having kept.items c.args.page) (HasFreshest kept.items c.loop-next.found) c.loop-next.next
    c.in-Some.item c.loop-next.invariant c.in-Some.is) c.in-Some.is c.next_reference-next.ensures.next

pub loop-next-preserved : goal.loop-next-preserved
loop-next-preserved g c =
    freshest_goes_on (g.R.Rows.kept c.args.rows.now) c.args.page c.loop-next.next c.next_reference-next.result
    c.in-Some.item c.loop-next.found c.dated_bookmark.result c.later-found.result
    (g.met.R.Rows.well_kept c.args.rows.now) c.loop-next.invariant c.in-Some.is c.next_reference-next.ensures.next
    c.dated_bookmark.ensures c.later-found.ensures

pub returns-in_err-found : goal.returns-in_err-found
returns-in_err-found g c =
    let kept : Kept = g.R.Rows.kept c.args.rows.now in
    c.from_residual.ensures
    ∙ ap (option_map (λ (d : Dated). d.item)) (sym c.in_err-found.was)
    ∙ id_at_end (freshest (bookmarks_of (store_of kept) c.args.page)) c.loop-next.found
    (freshest_at_end kept c.args.page c.loop-next.next c.loop-next.found c.loop-next.invariant
    (λ id some. c.in_default.not-Some id some))

pub returns : goal.returns
returns g c =
    let kept : Kept = g.R.Rows.kept c.args.rows.now in
    ap (option_map (λ (d : Dated). d.item)) (sym c.in_ok-found.was)
    ∙ id_at_end (freshest (bookmarks_of (store_of kept) c.args.page)) c.loop-next.found
    (freshest_at_end kept c.args.page c.loop-next.next c.loop-next.found c.loop-next.invariant
    (λ id some. c.in_default.not-Some id some))
