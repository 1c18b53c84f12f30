use Rattle.std.proofs.Common.{◌∙◌, Bool, ap, not, sym}
use Rattle.std.specs.Option.{is_none}
use Rattle.pl_base.specs.declared.id.ItemId.{ItemId}
use Rattle.pl_base.specs.Rows.{Kept}
use Rattle.pl_base.proofs.ReferencesRun.{has_item_here, having, item_names, references_run}
use Rattle.pl_base.proofs.Walk.{StandsAt, goes_on, nears, stands}
use Rattle.pl_base.specs.Tree.{reference_behind}
use Rattle.pl_marks.specs.TagFolders.{tag_folder}
use Rattle.pl_marks.proofs.PageTags.{NoneOutside, none_more, none_outside, outside_here}
use Rattle.pl_marks.proofs.tags.is_bookmarked.Goals as goal

pub tag_folder-requires : goal.tag_folder-requires
tag_folder-requires g c =
    let kept : Kept = g.R.Rows.kept c.args.rows.now in
    has_item_here kept c.args.page (NoneOutside kept.items) c.in-Some.item (g.met.R.Rows.well_kept c.args.rows.now)
    (stands item_names (having kept.items c.args.page) (NoneOutside kept.items) c.loop-next.next c.in-Some.item
    c.loop-next.invariant c.in-Some.is)

pub returns-then-is_none : goal.returns-then-is_none
returns-then-is_none g c =
    let kept : Kept = g.R.Rows.kept c.args.rows.now in
    outside_here kept c.args.page c.in-Some.item (NoneOutside kept.items)
    (stands item_names (having kept.items c.args.page) (NoneOutside kept.items) c.loop-next.next c.in-Some.item
    c.loop-next.invariant c.in-Some.is)
    (ap is_none (sym c.tag_folder.ensures.folder) ∙ ap not c.is_none.ensures
    ∙ ap (λ (b : Bool). not (not b)) c.if-is_none.true)

pub loop-next-smaller : goal.loop-next-smaller
loop-next-smaller g c =
    let kept : Kept = g.R.Rows.kept c.args.rows.now in
    nears item_names (reference_behind kept.items) (having kept.items c.args.page) (NoneOutside kept.items)
    c.loop-next.next c.next_reference-next.result c.in-Some.item
    (references_run kept c.args.page (g.met.R.Rows.well_kept c.args.rows.now))
    (stands item_names (having kept.items c.args.page) (NoneOutside kept.items) c.loop-next.next c.in-Some.item
    c.loop-next.invariant c.in-Some.is) c.in-Some.is c.next_reference-next.ensures.next

pub loop-next-preserved : goal.loop-next-preserved
loop-next-preserved g c =
    let kept : Kept = g.R.Rows.kept c.args.rows.now in
    let w : StandsAt item_names (having kept.items c.args.page) (NoneOutside kept.items) c.in-Some.item =
    stands item_names (having kept.items c.args.page) (NoneOutside kept.items) c.loop-next.next c.in-Some.item
    c.loop-next.invariant c.in-Some.is in
    goes_on item_names (reference_behind kept.items) (having kept.items c.args.page) (NoneOutside kept.items)
    (NoneOutside kept.items) c.in-Some.item c.next_reference-next.result
    (references_run kept c.args.page (g.met.R.Rows.well_kept c.args.rows.now)) w c.next_reference-next.ensures.next
    (none_more kept.items w.front w.element w.so_far
    (ap (λ (i : ItemId). is_none (tag_folder kept.items i)) w.is
    ∙ ap is_none (sym c.tag_folder.ensures.folder) ∙ ap not c.is_none.ensures
    ∙ ap (λ (b : Bool). not (not b)) c.if-is_none.false))

pub returns : goal.returns
returns g c =
    none_outside (g.R.Rows.kept c.args.rows.now) c.args.page c.loop-next.next c.loop-next.invariant
    (λ id some. c.in_default.not-Some id some)
