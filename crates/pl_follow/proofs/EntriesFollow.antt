-- The entries of views as the views change, and their keys.
use Rattle.std.proofs.Common.{◌≡◌, ◌≢◌, ◌∙◌, List, Option, Some, ap, false, refl, sym}
use Rattle.std.proofs.Common.{ℤ}
use Rattle.std.specs.BTreeMap.{BTreeMap, insert_entry, is_at}
use Rattle.std.specs.Cmp.{IsTotalOrder}
use Rattle.std.specs.List.{Contains, filter_map}
use Rattle.std.specs.Map.{keys_of, lookup, remove_entry}
use Rattle.std.specs.declared.cmp.Ordering.{Ordering}
use Rattle.std.specs.declared.cmp.Ordering.TheVariants.{Equal}
use Rattle.std.proofs.lemmas.Cmp.{on_total}
use Rattle.std.proofs.lemmas.Option.{same_Some}
use Rattle.pl_base.specs.declared.id.PageId.{PageId}
use Rattle.pl_base.specs.declared.view.View.{View}
use Rattle.pl_base.specs.Sorting.{put_in_place, sorted_by}
use Rattle.pl_base.proofs.ListLaws.{map-map}
use Rattle.pl_base.proofs.SortLaws.{all_sorted, sorted_map}
use Rattle.pl_sketch.specs.declared.sketch.Sketch.{Sketch}
use Rattle.pl_follow.specs.Changes.{AreInOrder, Suits, changed, has_view, with_view, without_id}
use Rattle.pl_follow.specs.Order.{KeepsEntries, entries_of, entry_of, frecency_ranks, is_ahead, is_below, leads}
use Rattle.pl_follow.specs.Order.{rank_of, sketch_of_texts}
use Rattle.pl_follow.specs.Texts.{folded_of}
use Rattle.pl_follow.proofs.ChangedLists.{added_in_order}
use Rattle.pl_follow.proofs.Parted.{removed_in_order}
use Rattle.pl_follow.proofs.EntryLists.{IsApart, by_key, found_put, inserted, removed_put}
use Rattle.pl_follow.proofs.RanksChange.{TieById, all_ranked, differs, none_left, ranks_come, ranks_left}
use Rattle.pl_follow.proofs.ViewRanks.{ahead_below, frecency_cmp, frecency_exact, frecency_total}

abbrev pub Entry : Type 0
Entry = (ℤ × PageId) × Sketch

-- entries by frecency and id
abbrev pub entry_cmp : Entry → Entry → Ordering
entry_cmp = by_key frecency_cmp

pub entry_total : IsTotalOrder entry_cmp
entry_total = on_total (λ (e : Entry). e.0) frecency_total

abbrev some_entry : View → Option Entry
some_entry v = Some (entry_of v)

tie_by_id : TieById entry_cmp some_entry
tie_by_id v w r s is_v is_w same =
    ap (λ (rank : ℤ × PageId). rank.1.0)
    (ap (λ (e : Entry). e.0) (same_Some (entry_of v) r is_v) ∙ frecency_exact r.0 s.0 same
    ∙ sym (ap (λ (e : Entry). e.0) (same_Some (entry_of w) s is_w)))

-- ---- the sorted entries

pub entries_below : (es : List Entry)
    → sorted_by (λ (x y : Entry). leads y x) es ≡ sorted_by (is_below entry_cmp) es
entries_below es = λ i. sorted_by (λ (x y : Entry). sym (ahead_below y.0 x.0) i) es

abbrev sorted_entries : List View → List Entry
sorted_entries views = sorted_by (is_below entry_cmp) (filter_map some_entry views)

stand : (kept : BTreeMap (ℤ × PageId) Sketch) (views : List View) → KeepsEntries kept views
    → kept.entries ≡ sorted_entries views
stand kept views keeps =
    keeps.entries ∙ entries_below (entries_of views)
    ∙ ap (sorted_by (is_below entry_cmp)) (all_ranked entry_of views)

stands : (kept : BTreeMap (ℤ × PageId) Sketch) (views : List View) → AreInOrder views
    → kept.entries ≡ sorted_entries views → KeepsEntries kept views
stands kept views ordered is =
    record {
      ordered = ordered;
      entries = is ∙ ap (sorted_by (is_below entry_cmp)) (sym (all_ranked entry_of views))
          ∙ sym (entries_below (entries_of views));
    }

-- a view's entry is apart from those of views with other ids
apart : (view : View) (others : List View) → has_view view.id others ≡ false
    → IsApart frecency_cmp (rank_of view) (sorted_entries others)
apart view others none =
    all_sorted (is_below entry_cmp) (λ (e : Entry). frecency_cmp (rank_of view) e.0 ≢ Equal)
    (filter_map some_entry others)
    (differs entry_cmp entry_total some_entry tie_by_id view (entry_of view) refl others none)

-- the entries before a view goes
with_one : (kept : BTreeMap (ℤ × PageId) Sketch) (old : View) (views : List View) → KeepsEntries kept views
    → Contains views old
    → kept.entries ≡ put_in_place (is_below entry_cmp) (entry_of old) (sorted_entries (without_id old.id views))
with_one kept old views keeps has =
    stand kept views keeps ∙ ranks_left entry_cmp entry_total some_entry tie_by_id old views keeps.ordered has

-- ---- a view goes, or comes

pub entry_left : (kept left : BTreeMap (ℤ × PageId) Sketch) (old : View) (views : List View)
    → left.entries ≡ remove_entry (is_at (frecency_cmp (rank_of old))) kept.entries → KeepsEntries kept views
    → Contains views old → KeepsEntries left (without_id old.id views)
entry_left kept left old views is keeps has =
    let others : List View = without_id old.id views in
    stands left others (removed_in_order old.id views keeps.ordered)
    (is ∙ ap (remove_entry (is_at (frecency_cmp (rank_of old)))) (with_one kept old views keeps has)
    ∙ removed_put frecency_cmp frecency_total (rank_of old) (sketch_of_texts (folded_of old)) (sorted_entries others)
    (apart old others (none_left old.id views)))

pub entry_told : (kept : BTreeMap (ℤ × PageId) Sketch) (old : View) (views : List View) → KeepsEntries kept views
    → Contains views old
    → lookup (is_at (frecency_cmp (rank_of old))) kept.entries ≡ Some (sketch_of_texts (folded_of old))
entry_told kept old views keeps has =
    let others : List View = without_id old.id views in
    ap (lookup (is_at (frecency_cmp (rank_of old)))) (with_one kept old views keeps has)
    ∙ found_put frecency_cmp frecency_total (rank_of old) (sketch_of_texts (folded_of old)) (sorted_entries others)
    (apart old others (none_left old.id views))

pub entry_come : (kept more : BTreeMap (ℤ × PageId) Sketch) (new : View) (sketch : Sketch) (views : List View)
    → sketch ≡ sketch_of_texts (folded_of new)
    → more.entries ≡ insert_entry frecency_cmp kept.entries (rank_of new) sketch → KeepsEntries kept views
    → has_view new.id views ≡ false → KeepsEntries more (with_view new views)
entry_come kept more new sketch views is_sketch is keeps none =
    stands more (with_view new views) (added_in_order new views keeps.ordered none)
    (is
    ∙ (λ i. insert_entry frecency_cmp (stand kept views keeps i) (rank_of new) (is_sketch i))
    ∙ inserted frecency_cmp (rank_of new) (sketch_of_texts (folded_of new)) (sorted_entries views)
    (apart new views none)
    ∙ sym (ranks_come entry_cmp entry_total some_entry tie_by_id new views none))

-- where rank and texts are the same, nothing changes
pub entry_same : (kept : BTreeMap (ℤ × PageId) Sketch) (old new : View) (views : List View) → KeepsEntries kept views
    → Suits (Some old) (Some new) views → rank_of old ≡ rank_of new → folded_of old ≡ folded_of new
    → KeepsEntries kept (changed (Some old) (Some new) views)
entry_same kept old new views keeps suits same_rank same_texts =
    let others : List View = without_id old.id views in
    stands kept (with_view new others)
    (added_in_order new others (removed_in_order old.id views keeps.ordered) suits.comes)
    (with_one kept old views keeps suits.goes
    ∙ (λ i. put_in_place (is_below entry_cmp) (same_rank i, sketch_of_texts (same_texts i)) (sorted_entries others))
    ∙ sym (ranks_come entry_cmp entry_total some_entry tie_by_id new others suits.comes))

-- ---- the keys of the entries

pub keys_are : (kept : BTreeMap (ℤ × PageId) Sketch) (views : List View) → KeepsEntries kept views
    → keys_of kept.entries ≡ sorted_by (λ x y. is_ahead y x) (frecency_ranks views)
keys_are kept views keeps =
    ap keys_of keeps.entries
    ∙ sorted_map (λ (e : Entry). e.0) (λ x y. is_ahead y x) (entries_of views)
    ∙ ap (sorted_by (λ x y. is_ahead y x)) (map-map (λ (e : Entry). e.0) entry_of views)
