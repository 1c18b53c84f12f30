-- The walk along the items of a page, with the bookmarks that join on it.
use Rattle.std.proofs.Common.{◌≡◌, ◌<◌, true, List, [], ◌∷◌, Option, Some, length, map, refl}
use Rattle.pl_base.specs.declared.id.ItemId.{ItemId}
use Rattle.pl_base.specs.declared.id.PageId.{PageId}
use Rattle.pl_base.specs.Rows.{IsWellKept, Kept, KeptPage, page_at, store_of}
use Rattle.pl_base.specs.Store.{Item}
use Rattle.pl_base.specs.Tree.{first_item, has_item, item_at, reference_behind, references}
use Rattle.pl_base.proofs.ReferencesRun.{has_item_here, having, item_here, item_names, references_run}
use Rattle.pl_base.proofs.Walk.{StandsAt, Walk, goes_on, left, nears, stands, starts}
use Rattle.pl_place.specs.declared.query.Query.{Query}
use Rattle.pl_query.specs.Candidates.{mark_subject, wanted_marks}
use Rattle.pl_query.proofs.PageParts.{HasMarks, added_none, marks_more}
use Rattle.pl_marked.specs.declared.found.Found.{Found}
use Rattle.pl_marked.specs.Found.{AreAdded, HaveViews, found_candidate}

-- the items in front joined, as far as they are wanted
pub record HaveJoined (kept : Kept) (q : Query) (page : PageId) (old now : List Found) (front : List Item) : Type 0 where
  pub added : HasMarks kept q page (map found_candidate old) (map found_candidate now) front
  pub views : HaveViews kept old → HaveViews kept now

abbrev pub OnItems : Kept → Query → PageId → List Found → List Found → Option ItemId → Type 0
OnItems kept q page old now next = Walk item_names (having kept.items page) (HaveJoined kept q page old now) next

module _ (kept : Kept) (q : Query) (page : PageId) (h : IsWellKept kept) (old : List Found) where
  pub begins : (next : Option ItemId) → next ≡ first_item (references kept.items page) → OnItems kept q page old old next
  begins next is =
      starts item_names (having kept.items page) (HaveJoined kept q page old old) next is
      (record {
        added = λ p at. added_none mark_subject (store_of kept) q.sort (map found_candidate old) [] refl;
        views = λ all. all;
      })

  module _ (now : List Found) (next : Option ItemId) (item : ItemId) (w : OnItems kept q page old now next)
      (at : next ≡ Some item) where
    here : StandsAt item_names (having kept.items page) (HaveJoined kept q page old now) item
    here = stands item_names (having kept.items page) (HaveJoined kept q page old now) next item w at

    pub item_there : has_item kept.items item ≡ true
    item_there = has_item_here kept page (HaveJoined kept q page old now) item h here

    pub goes_further : (new : List Found) (further : Option ItemId)
        → ((p : KeptPage) (i : Item) → page_at kept page ≡ Some p → item_at kept.items item ≡ Some i
        → AreAdded kept q now new (wanted_marks kept q p (i ∷ [])))
        → (HaveViews kept now → HaveViews kept new) → further ≡ reference_behind kept.items item
        → OnItems kept q page old new further
    goes_further new further adds keeps is =
        goes_on item_names (reference_behind kept.items) (having kept.items page) (HaveJoined kept q page old now)
        (HaveJoined kept q page old new) item further (references_run kept page h) here is
        (record {
          added =
              marks_more kept q page (map found_candidate old) (map found_candidate now) (map found_candidate new)
              here.front here.element here.so_far.added
              (λ p page_is.
              adds p here.element page_is (item_here kept page (HaveJoined kept q page old now) item h here));
          views = λ all. keeps (here.so_far.views all);
        })

    pub nearer : (further : Option ItemId) → further ≡ reference_behind kept.items item
        → left (reference_behind kept.items) (length (having kept.items page)) further
        < left (reference_behind kept.items) (length (having kept.items page)) next
    nearer further is =
        nears item_names (reference_behind kept.items) (having kept.items page) (HaveJoined kept q page old now) next
        further item (references_run kept page h) here at is
