-- Two orders of the views, by frecency and by the latest visit, and how their ranks come and go.
-- Beside each rank by frecency stands a sketch of the page's folded texts.
use Rattle.std.specs.Prelude.{◌≡◌, ◌≢◌, ◌==◌, ◌&&◌, ◌||◌, ℤ, Bool, true, Option, Some, None, List}
use Rattle.std.specs.Prelude.{IfSome, int_lt, map, nat_lt}
use Rattle.std.specs.BTreeMap.{BTreeMap}
use Rattle.std.specs.List.{All, cons_option, filter, filter_map, slice_get}
use Rattle.std.specs.Option.{option_map}
use Rattle.std.specs.Ordering.{int_eq, is_gt, is_lt}
use Rattle.std.specs.declared.cmp.Ordering.{Ordering}
use Rattle.std.specs.declared.cmp.Ordering.TheVariants.{Equal}
use Rattle.pl_base.specs.declared.date.Micros.{Micros}
use Rattle.pl_base.specs.declared.id.PageId.{PageId}
use Rattle.pl_base.specs.declared.view.View.{View}
use Rattle.pl_base.specs.Sorting.{sorted_by}
use Rattle.pl_sketch.specs.declared.sketch.Sketch.{Sketch}
use Rattle.pl_sketch.specs.Pairs.{sketch_of, union}
use Rattle.pl_follow.specs.declared.order.OrderIndex.{OrderIndex}
use Rattle.pl_follow.specs.declared.texts.Folded.{Folded}
use Rattle.pl_follow.specs.Changes.{AreInOrder}
use Rattle.pl_follow.specs.Texts.{folded_of}

-- ---- ranks

-- the frecency of a view, and its id
abbrev pub rank_of : View → ℤ × PageId
rank_of v = (v.frecency, v.id)

-- the date of the latest visit of a view, if it has one, and its id
abbrev pub visit_rank_of : View → Option (Micros × PageId)
visit_rank_of v = option_map (λ (date : Micros). (date, v.id)) v.last

-- the frecencies and ids of the views
abbrev pub frecency_ranks : List View → List (ℤ × PageId)
frecency_ranks views = map rank_of views

-- the dates of the latest visits, and the ids of the views that have one
abbrev pub visit_ranks : List View → List (Micros × PageId)
visit_ranks views = filter_map visit_rank_of views

-- ---- sketches beside the ranks

-- the sketch of the texts of a page, in which no pair stands across two of them
abbrev pub sketch_of_texts : Folded → Sketch
sketch_of_texts texts =
    union (sketch_of texts.title) (union (sketch_of texts.address) (sketch_of texts.tags))

-- the frecency of a view and its id, with the sketch of its folded texts
abbrev pub entry_of : View → (ℤ × PageId) × Sketch
entry_of v = (rank_of v, sketch_of_texts (folded_of v))

-- those of the views
abbrev pub entries_of : List View → List ((ℤ × PageId) × Sketch)
entries_of views = map entry_of views

-- ---- their order

-- the first has the greater frecency, or the same and the greater id
abbrev pub is_ahead : ℤ × PageId → ℤ × PageId → Bool
is_ahead x y = int_lt y.0 x.0 || (int_eq x.0 y.0 && nat_lt y.1.0 x.1.0)

-- the rank of the first is ahead
abbrev pub leads : (ℤ × PageId) × Sketch → (ℤ × PageId) × Sketch → Bool
leads x y = is_ahead x.0 y.0

-- the first has the later date, or the same and the greater id
abbrev pub is_later : Micros × PageId → Micros × PageId → Bool
is_later x y = nat_lt y.0.0 x.0.0 || ((x.0.0 == y.0.0) && nat_lt y.1.0 x.1.0)

-- a rank stands behind a place, where there is one
abbrev pub is_behind : {R : Type 0} → (R → R → Bool) → Option R → R → Bool
is_behind ahead None rank = true
is_behind ahead (Some place) rank = ahead place rank

-- the first of the ranks behind a place
abbrev pub next_rank : {R : Type 0} → (R → R → Bool) → Option R → List R → Option R
next_rank ahead place ranks =
    slice_get (sorted_by ahead (filter (is_behind ahead place) ranks)) 0

-- the greater of two comes before the other
abbrev pub is_above : {R : Type 0} → (R → R → Ordering) → R → R → Bool
is_above cmp x y = is_gt (cmp x y)

-- the lesser of two comes before the other
abbrev pub is_below : {R : Type 0} → (R → R → Ordering) → R → R → Bool
is_below cmp x y = is_lt (cmp x y)

-- ---- what is kept

-- the views ascend by id, and the map has their entries, from the last to the first
pub record KeepsEntries (kept : BTreeMap (ℤ × PageId) Sketch) (views : List View) : Type 0 where
  pub ordered : AreInOrder views
  pub entries : kept.entries ≡ sorted_by (λ x y. leads y x) (entries_of views)

-- the map has the entries of the views, and the set their ranks by visit, from the last on
pub record Orders (index : OrderIndex) (views : List View) : Type 0 where
  pub frecencies : KeepsEntries index.frecencies views
  pub visits : index.visits.keys ≡ sorted_by (λ x y. is_later y x) (visit_ranks views)

-- no two ranks are equal but one and itself
abbrev pub IsExact : {R : Type 0} → (R → R → Ordering) → Type 0
IsExact {R} cmp = (x y : R) → cmp x y ≡ Equal → x ≡ y

-- a rank, if there is one, is none of the others
abbrev pub IsOther : {R : Type 0} → Option R → List R → Type 0
IsOther rank others = IfSome rank (λ r. All (λ other. other ≢ r) others)

-- a set without a rank that it has beside others
abbrev pub Loses : {R : Type 0} → (R → R → Ordering) → Option R → List R → List R → Type 0
Loses {R} cmp leaving old new =
    IsExact cmp → (others : List R) → IsOther leaving others
    → old ≡ sorted_by (is_below cmp) (cons_option leaving others)
    → new ≡ sorted_by (is_below cmp) others

-- a set with one rank more
abbrev pub Gains : {R : Type 0} → (R → R → Ordering) → Option R → List R → List R → Type 0
Gains {R} cmp coming old new =
    IsExact cmp → (others : List R) → IsOther coming others
    → old ≡ sorted_by (is_below cmp) others
    → new ≡ sorted_by (is_below cmp) (cons_option coming others)

-- a set in which one rank takes the place of another
abbrev pub Replaces : {R : Type 0} → (R → R → Ordering) → Option R → Option R → List R → List R
    → Type 0
Replaces {R} cmp leaving coming old new =
    IsExact cmp → (others : List R) → IsOther leaving others → IsOther coming others
    → old ≡ sorted_by (is_below cmp) (cons_option leaving others)
    → new ≡ sorted_by (is_below cmp) (cons_option coming others)
