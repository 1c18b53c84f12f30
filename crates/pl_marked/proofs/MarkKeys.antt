-- What a bookmark is sorted by is the value of its row.
use Rattle.std.proofs.Common.{◌≡◌, List, ap, refl, ℕ}
use Rattle.pl_base.specs.declared.view.View.{View}
use Rattle.pl_base.specs.Fold.{folded}
use Rattle.pl_base.specs.Rows.{Kept, KeptPage, store_of}
use Rattle.pl_base.specs.Store.{Item}
use Rattle.pl_base.specs.View.{IsViewOf}
use Rattle.pl_place.specs.declared.sort.Sort.{Sort}
use Rattle.pl_place.specs.declared.sort.Sort.TheVariants.{Unsorted, By}
use Rattle.pl_place.specs.declared.sort.SortKey.{SortKey}
use Rattle.pl_place.specs.declared.sort.SortKey.TheVariants.{Title, Date, Url, VisitCount}
use Rattle.pl_place.specs.declared.sort.SortKey.TheVariants.{Added, Modified, Tags, Frecency}
use Rattle.pl_query.specs.declared.ordering.SortValue.TheVariants.{Text, Moment, Number, Score}
use Rattle.pl_query.specs.Candidates as rows
use Rattle.pl_query.specs.Candidates.{sort_value}
use Rattle.pl_query.specs.Subjects.{row_of_mark}
use Rattle.pl_marked.specs.Found.{key_of, key_value, value_of}

module _ (kept : Kept) (p : KeptPage) (v : View) (of : IsViewOf (store_of kept) p.page v) (i : Item) where
  value_told : (key : SortKey)
      → value_of (key_value key v i) ≡ rows.key_value (store_of kept) key (row_of_mark kept i p)
  value_told Title = refl
  value_told Date = ap Moment of.last
  value_told Url = ap Text of.url
  value_told VisitCount = ap Number of.count
  value_told Added = refl
  value_told Modified = refl
  value_told Tags = ap (λ (text : List ℕ). Text (folded text)) of.tags
  value_told Frecency = ap Score of.frecency

  pub key_told : (sort : Sort) → value_of (key_of sort v i) ≡ sort_value (store_of kept) sort (row_of_mark kept i p)
  key_told Unsorted = refl
  key_told (By key direction) = value_told key
