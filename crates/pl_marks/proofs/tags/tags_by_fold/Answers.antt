use Rattle.std.proofs.Common.{◌≡◌, ◌++◌, ◌∷◌, [], List, ℕ, subst, sym}
use Rattle.pl_base.specs.Rows.{Kept}
use Rattle.pl_base.proofs.ReferencesRun.{has_item_here, having, item_names, references_run}
use Rattle.pl_base.proofs.Walk.{StandsAt, goes_on, nears, stands}
use Rattle.pl_base.specs.Tree.{reference_behind}
use Rattle.pl_marks.specs.TagFolders.{tag_title, with_tag}
use Rattle.pl_marks.proofs.PageTags.{ascending_with, have_more, of_tags_with, tags_told, tags_with}
use Rattle.pl_marks.proofs.TagEntries.{AreOfTags, Ascending}
use Rattle.pl_marks.proofs.TagTree.{HaveTags}
use Rattle.pl_marks.proofs.tags.tags_by_fold.Goals as goal

pub add_tag-requires : goal.add_tag-requires
add_tag-requires g c =
    let kept : Kept = g.R.Rows.kept c.args.rows.now in
    has_item_here kept c.args.page (HaveTags kept.items c.loop-next.tags.entries) c.in-Some.item
    (g.met.R.Rows.well_kept c.args.rows.now) (stands item_names (having kept.items c.args.page)
    (HaveTags kept.items c.loop-next.tags.entries) c.loop-next.next c.in-Some.item c.loop-next.invariant.walk
    c.in-Some.is)

pub loop-next-smaller : goal.loop-next-smaller
loop-next-smaller g c =
    let kept : Kept = g.R.Rows.kept c.args.rows.now in
    nears item_names (reference_behind kept.items) (having kept.items c.args.page)
    (HaveTags kept.items c.loop-next.tags.entries) c.loop-next.next c.next_reference-next.result c.in-Some.item
    (references_run kept c.args.page (g.met.R.Rows.well_kept c.args.rows.now))
    (stands item_names (having kept.items c.args.page) (HaveTags kept.items c.loop-next.tags.entries) c.loop-next.next
    c.in-Some.item c.loop-next.invariant.walk c.in-Some.is) c.in-Some.is c.next_reference-next.ensures.next

pub loop-next-preserved : goal.loop-next-preserved
loop-next-preserved g c =
    let kept : Kept = g.R.Rows.kept c.args.rows.now in
    let w : StandsAt item_names (having kept.items c.args.page) (HaveTags kept.items c.loop-next.tags.entries)
    c.in-Some.item =
    stands item_names (having kept.items c.args.page) (HaveTags kept.items c.loop-next.tags.entries) c.loop-next.next
    c.in-Some.item c.loop-next.invariant.walk c.in-Some.is in
    let joins : with_tag (tag_title kept.items c.in-Some.item) c.loop-next.tags.entries ≡ c.add_tag.new.tags.entries =
    sym c.in_ok-add_tag.ensures in
    record {
      ascend =
          subst Ascending joins
          (ascending_with (tag_title kept.items c.in-Some.item) c.loop-next.tags.entries c.loop-next.invariant.ascend);
      of_tags =
          subst (AreOfTags (tags_with kept c.args.page)) joins
          (of_tags_with kept c.args.page (HaveTags kept.items c.loop-next.tags.entries) c.in-Some.item
          c.loop-next.tags.entries (g.met.R.Rows.well_kept c.args.rows.now) c.requires w
          c.loop-next.invariant.of_tags);
      walk =
          goes_on item_names (reference_behind kept.items) (having kept.items c.args.page)
          (HaveTags kept.items c.loop-next.tags.entries) (HaveTags kept.items c.add_tag.new.tags.entries) c.in-Some.item
          c.next_reference-next.result (references_run kept c.args.page (g.met.R.Rows.well_kept c.args.rows.now)) w
          c.next_reference-next.ensures.next (subst (λ (es : List (List ℕ × List ℕ)). HaveTags kept.items es
          (w.front ++ w.element ∷ [])) joins
          (have_more kept c.args.page c.in-Some.item c.loop-next.tags.entries w));
    }

pub returns : goal.returns
returns g c =
    tags_told (g.R.Rows.kept c.args.rows.now) c.args.page c.loop-next.next c.loop-next.tags.entries
    (g.met.R.Rows.well_kept c.args.rows.now) c.requires c.loop-next.invariant.ascend c.loop-next.invariant.of_tags
    c.loop-next.invariant.walk (λ id some. c.in_default.not-Some id some)
