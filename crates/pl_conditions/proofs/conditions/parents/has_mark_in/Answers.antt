use Rattle.std.proofs.Common.{◌==◌, ◌≡◌, ◌∙◌, Bool, false, length, rules, sym}
use Rattle.pl_base.specs.Rows.{Kept, store_of}
use Rattle.pl_base.specs.Store.{Item}
use Rattle.pl_base.proofs.ReferencesRun.{has_item_here, having, item_here, item_names, references_run}
use Rattle.pl_base.proofs.Walk.{StandsAt, goes_on, nears, stands}
use Rattle.pl_base.specs.Tree.{reference_behind}
use Rattle.pl_conditions.specs.AskedParts.{is_mark_in}
use Rattle.pl_conditions.proofs.ItemSearch.{NonePasses, mark_here, no_mark, none_more}
use Rattle.pl_conditions.proofs.conditions.parents.has_mark_in.Goals as goal

pub is_mark_in-requires : goal.is_mark_in-requires
is_mark_in-requires g c =
    let kept : Kept = g.R.Rows.kept c.args.rows.now in
    let test : Item → Bool = is_mark_in (store_of kept) c.args.asked.now.query.now.parents in
    has_item_here kept c.args.page (NonePasses test) c.in-Some.item (g.met.R.Rows.well_kept c.args.rows.now)
    (stands item_names (having kept.items c.args.page) (NonePasses test) c.loop-next.next c.in-Some.item
    c.loop-next.invariant c.in-Some.is)

pub returns-then-is_mark_in : goal.returns-then-is_mark_in
returns-then-is_mark_in g c =
    let kept : Kept = g.R.Rows.kept c.args.rows.now in
    let test : Item → Bool = is_mark_in (store_of kept) c.args.asked.now.query.now.parents in
    let w : StandsAt item_names (having kept.items c.args.page) (NonePasses test) c.in-Some.item =
    stands item_names (having kept.items c.args.page) (NonePasses test) c.loop-next.next c.in-Some.item
    c.loop-next.invariant c.in-Some.is in
    let some : (length c.args.asked.now.query.now.parents == 0) ≡ false = search rules in
    rw some
    (mark_here kept c.args.page c.args.asked.now.query.now.parents (NonePasses test) c.in-Some.item w
    (sym (c.is_mark_in.ensures w.element
    (item_here kept c.args.page (NonePasses test) c.in-Some.item (g.met.R.Rows.well_kept c.args.rows.now) w))
    ∙ c.if-is_mark_in.true))

pub loop-next-smaller : goal.loop-next-smaller
loop-next-smaller g c =
    let kept : Kept = g.R.Rows.kept c.args.rows.now in
    let test : Item → Bool = is_mark_in (store_of kept) c.args.asked.now.query.now.parents in
    nears item_names (reference_behind kept.items) (having kept.items c.args.page) (NonePasses test) c.loop-next.next
    c.next_reference-next.result c.in-Some.item (references_run kept c.args.page
    (g.met.R.Rows.well_kept c.args.rows.now)) (stands item_names (having kept.items c.args.page) (NonePasses test)
    c.loop-next.next c.in-Some.item c.loop-next.invariant c.in-Some.is) c.in-Some.is c.next_reference-next.ensures.next

pub loop-next-preserved : goal.loop-next-preserved
loop-next-preserved g c =
    let kept : Kept = g.R.Rows.kept c.args.rows.now in
    let test : Item → Bool = is_mark_in (store_of kept) c.args.asked.now.query.now.parents in
    let w : StandsAt item_names (having kept.items c.args.page) (NonePasses test) c.in-Some.item =
    stands item_names (having kept.items c.args.page) (NonePasses test) c.loop-next.next c.in-Some.item
    c.loop-next.invariant c.in-Some.is in
    goes_on item_names (reference_behind kept.items) (having kept.items c.args.page) (NonePasses test) (NonePasses test)
    c.in-Some.item c.next_reference-next.result (references_run kept c.args.page
    (g.met.R.Rows.well_kept c.args.rows.now)) w c.next_reference-next.ensures.next
    (none_more test w.front w.element w.so_far
    (sym (c.is_mark_in.ensures w.element
    (item_here kept c.args.page (NonePasses test) c.in-Some.item (g.met.R.Rows.well_kept c.args.rows.now) w))
    ∙ c.if-is_mark_in.false))

pub returns : goal.returns
returns g c =
    let some : (length c.args.asked.now.query.now.parents == 0) ≡ false = search rules in
    rw some
    (no_mark (g.R.Rows.kept c.args.rows.now) c.args.page c.args.asked.now.query.now.parents c.loop-next.next
    c.loop-next.invariant (λ id some. c.in_default.not-Some id some))
