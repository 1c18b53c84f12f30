-- The walk along the children of a folder, with the bookmarks that join on it.
use Rattle.std.proofs.Common.{◌≡◌, ◌<◌, true, List, [], Option, Some, length, refl, subst}
use Rattle.std.specs.List.{AllByRecursion, flat_map}
use Rattle.pl_base.specs.declared.id.ItemId.{ItemId}
use Rattle.pl_base.specs.Good.{IsTree}
use Rattle.pl_base.specs.Rows.{Kept}
use Rattle.pl_base.specs.Tree.{children_of, first_item, has_item, sibling_behind}
use Rattle.pl_base.proofs.ChildrenRun.{child_goes_on, child_here, child_names, children_run}
use Rattle.pl_base.proofs.LookUps.{part}
use Rattle.pl_base.proofs.Walk.{StandsAt, Walk, left, nears, stands, starts}
use Rattle.pl_place.specs.declared.query.Query.{Query}
use Rattle.pl_tree.proofs.CountedChildren.{children_known}
use Rattle.pl_marked.specs.declared.found.Found.{Found}
use Rattle.pl_marked.specs.Found.{AreAdded, HaveViews}
use Rattle.pl_marked.specs.Listed.{child_rows}
use Rattle.pl_marked.proofs.PageRows.{none_more, rows_more}

-- the children in front joined, as far as they are listed
pub record HaveJoined (kept : Kept) (q : Query) (old now : List Found) (front : List ItemId) : Type 0 where
  pub added : AreAdded kept q old now (flat_map (child_rows kept q) front)
  pub views : HaveViews kept old → HaveViews kept now

abbrev pub OnChildren : Kept → Query → ItemId → List Found → List Found → Option ItemId → Type 0
OnChildren kept q folder old now next =
    Walk child_names (children_of kept.items folder) (HaveJoined kept q old now) next

module _ (kept : Kept) (q : Query) (folder : ItemId) (tree : IsTree kept.items) (old : List Found) where
  pub begins : (next : Option ItemId) → next ≡ first_item (children_of kept.items folder)
      → OnChildren kept q folder old old next
  begins next is =
      starts child_names (children_of kept.items folder) (HaveJoined kept q old old) next is
      (record { added = none_more kept q old [] refl; views = λ all. all })

  module _ (now : List Found) (next : Option ItemId) (item : ItemId) (w : OnChildren kept q folder old now next)
      (at : next ≡ Some item) where
    here : StandsAt child_names (children_of kept.items folder) (HaveJoined kept q old now) item
    here = stands child_names (children_of kept.items folder) (HaveJoined kept q old now) next item w at

    pub item_there : has_item kept.items item ≡ true
    item_there =
        part (λ (c : ItemId). has_item kept.items c ≡ true) here.front item here.rest
        (subst (AllByRecursion (λ (c : ItemId). has_item kept.items c ≡ true))
        (child_here kept.items folder (HaveJoined kept q old now) item here)
        (children_known kept.items folder tree))

    pub goes_further : (new : List Found) (further : Option ItemId) → AreAdded kept q now new (child_rows kept q item)
        → (HaveViews kept now → HaveViews kept new) → further ≡ sibling_behind kept.items item
        → OnChildren kept q folder old new further
    goes_further new further adds keeps is =
        child_goes_on kept.items folder (HaveJoined kept q old now) item here (HaveJoined kept q old new) further tree is
        (record {
          added = rows_more kept q (child_rows kept q) old now new here.front item here.so_far.added adds;
          views = λ all. keeps (here.so_far.views all);
        })

    pub nearer : (further : Option ItemId) → further ≡ sibling_behind kept.items item
        → left (sibling_behind kept.items) (length (children_of kept.items folder)) further
        < left (sibling_behind kept.items) (length (children_of kept.items folder)) next
    nearer further is =
        nears child_names (sibling_behind kept.items) (children_of kept.items folder) (HaveJoined kept q old now) next
        further item (children_run kept.items folder tree) here at is
