-- Pages that are found, put in order: they stand as their views do.
use Rattle.std.proofs.Common.{◌≡◌, ◌≢◌, ◌∙◌, ℕ, List, [], ◌∷◌, ap, map, refl, subst, sym}
use Rattle.std.specs.List.{AllPairs}
use Rattle.std.specs.List.Sorted.{IsPermutation, IsSortedBy}
use Rattle.pl_base.specs.declared.view.View.{View}
use Rattle.pl_base.specs.Sorting.{sorted_by}
use Rattle.pl_base.proofs.ListLaws.{AllPairs-from_map, map-map}
use Rattle.pl_base.proofs.SortLaws.{none_tie, sorted_map, weak_sorted_is}
use Rattle.pl_place.specs.declared.sort.Sort.{Sort}
use Rattle.pl_indexed.specs.declared.found.Found.{Found}
use Rattle.pl_indexed.specs.declared.found.Key.{Key}
use Rattle.pl_indexed.specs.Found.{AreFound, place_found, seen, seen_of, view_before}
use Rattle.pl_indexed.proofs.KeyOrder.{before_by, places_rank, tied_ids}

-- by what a view with a key stands
abbrev pub place_seen : View × Key → Key × ℕ
place_seen s = (s.1, s.0.id.0)

pub in_order : (sort : Sort) (old new : List Found) (views : List View)
    → AllPairs (λ (a b : Found). a.view.now.id.0 ≢ b.view.now.id.0) old → IsPermutation old new
    → IsSortedBy (before_by sort place_found) new → AreFound sort views old
    → AreFound sort (sorted_by (view_before sort) views) new
in_order sort old new views apart moves up are =
    ap (map seen)
    (weak_sorted_is (before_by sort place_found) (places_rank sort place_found) old new
    (none_tie (before_by sort place_found) (λ (f : Found). f.view.now.id.0) (tied_ids sort place_found) old apart)
    moves up)
    ∙ sorted_map seen (before_by sort place_seen) old
    ∙ ap (sorted_by (before_by sort place_seen)) are
    ∙ sym (sorted_map (seen_of sort) (before_by sort place_seen) views)

-- the views of pages that are found
pub views_found : (sort : Sort) (views : List View) (found : List Found) → AreFound sort views found
    → map (λ (f : Found). f.view.now) found ≡ views
views_found sort views found are =
    sym (map-map (λ (s : View × Key). s.0) seen found)
    ∙ ap (map (λ (s : View × Key). s.0)) are
    ∙ map-map (λ (s : View × Key). s.0) (seen_of sort) views
    ∙ itself views
  where
    itself : (vs : List View) → map (λ (v : View). v) vs ≡ vs
    itself [] = refl
    itself (v ∷ vs) = ap (λ (ws : List View). v ∷ ws) (itself vs)

-- where the ids of views differ, so do those of the pages that have them
pub found_apart : (sort : Sort) (views : List View) (found : List Found) → AreFound sort views found
    → AllPairs (λ (v w : View). v.id.0 ≢ w.id.0) views
    → AllPairs (λ (a b : Found). a.view.now.id.0 ≢ b.view.now.id.0) found
found_apart sort views found are apart =
    AllPairs-from_map (λ (v w : View). v.id.0 ≢ w.id.0) (λ (f : Found). f.view.now) found
    (subst (AllPairs (λ (v w : View). v.id.0 ≢ w.id.0)) (sym (views_found sort views found are)) apart)
