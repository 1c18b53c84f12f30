use Rattle.std.proofs.Common.{◌∙◌, ap, sym}
use Rattle.std.specs.List.{list_any}
use Rattle.pl_base.specs.Rows.{Kept, store_of}
use Rattle.pl_base.proofs.PagesRun.{there}
use Rattle.pl_base.proofs.ReferencesRun.{has_item_here, having, item_here, item_names, references_run}
use Rattle.pl_base.proofs.Walk.{StandsAt, ends, goes_on, nears, stands}
use Rattle.pl_base.specs.Tree.{reference_behind}
use Rattle.pl_query.specs.Candidates.{is_wanted}
use Rattle.pl_query.proofs.PageParts.{NoneWanted, none_wanted_more}
use Rattle.pl_query.proofs.candidates.bookmarks.has_wanted.Goals as goal

pub is_wanted-requires-clause-item : goal.is_wanted-requires-clause-item
is_wanted-requires-clause-item g c =
    let kept : Kept = g.R.Rows.kept c.args.rows.now in
    let none = NoneWanted (store_of kept) c.args.asked.now.query.now in
    has_item_here kept c.args.page none c.in-Some.item (g.met.R.Rows.well_kept c.args.rows.now)
    (stands item_names (having kept.items c.args.page) none c.loop-next.next c.in-Some.item c.loop-next.invariant
    c.in-Some.is)

pub returns-then-is_wanted : goal.returns-then-is_wanted
returns-then-is_wanted g c =
    let kept : Kept = g.R.Rows.kept c.args.rows.now in
    let q = c.args.asked.now.query.now in
    let none = NoneWanted (store_of kept) q in
    let w : StandsAt item_names (having kept.items c.args.page) none c.in-Some.item =
    stands item_names (having kept.items c.args.page) none c.loop-next.next c.in-Some.item c.loop-next.invariant
    c.in-Some.is in
    sym (ap (list_any (is_wanted (store_of kept) q)) w.whole
    ∙ there (is_wanted (store_of kept) q) w.front w.element w.rest
    (sym (c.is_wanted.ensures w.element
    (item_here kept c.args.page none c.in-Some.item (g.met.R.Rows.well_kept c.args.rows.now) w))
    ∙ c.if-is_wanted.true))

pub loop-next-smaller : goal.loop-next-smaller
loop-next-smaller g c =
    let kept : Kept = g.R.Rows.kept c.args.rows.now in
    let none = NoneWanted (store_of kept) c.args.asked.now.query.now in
    nears item_names (reference_behind kept.items) (having kept.items c.args.page) none c.loop-next.next
    c.next_reference-next.result c.in-Some.item (references_run kept c.args.page
    (g.met.R.Rows.well_kept c.args.rows.now)) (stands item_names (having kept.items c.args.page) none c.loop-next.next
    c.in-Some.item c.loop-next.invariant c.in-Some.is) c.in-Some.is c.next_reference-next.ensures.next

pub loop-next-preserved : goal.loop-next-preserved
loop-next-preserved g c =
    let kept : Kept = g.R.Rows.kept c.args.rows.now in
    let q = c.args.asked.now.query.now in
    let none = NoneWanted (store_of kept) q in
    let w : StandsAt item_names (having kept.items c.args.page) none c.in-Some.item =
    stands item_names (having kept.items c.args.page) none c.loop-next.next c.in-Some.item c.loop-next.invariant
    c.in-Some.is in
    goes_on item_names (reference_behind kept.items) (having kept.items c.args.page) none none c.in-Some.item
    c.next_reference-next.result (references_run kept c.args.page (g.met.R.Rows.well_kept c.args.rows.now)) w
    c.next_reference-next.ensures.next (none_wanted_more (store_of kept) q w.front w.element w.so_far
    (sym (c.is_wanted.ensures w.element
    (item_here kept c.args.page none c.in-Some.item (g.met.R.Rows.well_kept c.args.rows.now) w))
    ∙ c.if-is_wanted.false))

pub returns : goal.returns
returns g c =
    let kept : Kept = g.R.Rows.kept c.args.rows.now in
    sym (ends item_names (having kept.items c.args.page) (NoneWanted (store_of kept) c.args.asked.now.query.now)
    c.loop-next.next c.loop-next.invariant (λ id some. c.in_default.not-Some id some))
