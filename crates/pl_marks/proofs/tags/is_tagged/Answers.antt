use Rattle.std.proofs.Common.{◌∙◌, ap, is_some, sym}
use Rattle.pl_base.specs.declared.id.ItemId.{ItemId}
use Rattle.pl_base.specs.Rows.{Kept}
use Rattle.pl_base.proofs.ReferencesRun.{has_item_here, having, item_names, references_run}
use Rattle.pl_base.proofs.Walk.{StandsAt, goes_on, nears, stands}
use Rattle.pl_base.specs.Tree.{reference_behind}
use Rattle.pl_marks.specs.TagFolders.{tag_folder}
use Rattle.pl_marks.proofs.TaggedPage.{NoneInside, inside_here, none_inside, none_inside_more}
use Rattle.pl_marks.proofs.tags.is_tagged.Goals as goal

pub tag_folder-requires : goal.tag_folder-requires
tag_folder-requires g c =
    let kept : Kept = g.R.Rows.kept c.args.rows.now in
    has_item_here kept c.args.page (NoneInside kept.items) c.in-Some.item (g.met.R.Rows.well_kept c.args.rows.now)
    (stands item_names (having kept.items c.args.page) (NoneInside kept.items) c.loop-next.next c.in-Some.item
    c.loop-next.invariant c.in-Some.is)

pub returns-then-is_some : goal.returns-then-is_some
returns-then-is_some g c =
    let kept : Kept = g.R.Rows.kept c.args.rows.now in
    inside_here kept c.args.page c.in-Some.item (NoneInside kept.items)
    (stands item_names (having kept.items c.args.page) (NoneInside kept.items) c.loop-next.next c.in-Some.item
    c.loop-next.invariant c.in-Some.is)
    (ap is_some (sym c.tag_folder.ensures.folder) ∙ sym c.is_some.ensures ∙ c.if-is_some.true)

pub loop-next-smaller : goal.loop-next-smaller
loop-next-smaller g c =
    let kept : Kept = g.R.Rows.kept c.args.rows.now in
    nears item_names (reference_behind kept.items) (having kept.items c.args.page) (NoneInside kept.items)
    c.loop-next.next c.next_reference-next.result c.in-Some.item
    (references_run kept c.args.page (g.met.R.Rows.well_kept c.args.rows.now))
    (stands item_names (having kept.items c.args.page) (NoneInside kept.items) c.loop-next.next c.in-Some.item
    c.loop-next.invariant c.in-Some.is) c.in-Some.is c.next_reference-next.ensures.next

pub loop-next-preserved : goal.loop-next-preserved
loop-next-preserved g c =
    let kept : Kept = g.R.Rows.kept c.args.rows.now in
    let w : StandsAt item_names (having kept.items c.args.page) (NoneInside kept.items) c.in-Some.item =
    stands item_names (having kept.items c.args.page) (NoneInside kept.items) c.loop-next.next c.in-Some.item
    c.loop-next.invariant c.in-Some.is in
    goes_on item_names (reference_behind kept.items) (having kept.items c.args.page) (NoneInside kept.items)
    (NoneInside kept.items) c.in-Some.item c.next_reference-next.result
    (references_run kept c.args.page (g.met.R.Rows.well_kept c.args.rows.now)) w c.next_reference-next.ensures.next
    (none_inside_more kept.items w.front w.element w.so_far
    (ap (λ (i : ItemId). is_some (tag_folder kept.items i)) w.is
    ∙ ap is_some (sym c.tag_folder.ensures.folder) ∙ sym c.is_some.ensures ∙ c.if-is_some.false))

pub returns : goal.returns
returns g c =
    none_inside (g.R.Rows.kept c.args.rows.now) c.args.page c.loop-next.next c.loop-next.invariant
    (λ id some. c.in_default.not-Some id some)
