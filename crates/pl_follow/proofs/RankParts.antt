-- The walk by frecency over the entries of views, the parts of it before a place and behind it, and the next rank.
use Rattle.std.proofs.Common.{◌≡◌, ◌∙◌, ◌&&◌, Bool, true, false, List, Option, Some, None, Bor, ap, filter, not}
use Rattle.std.proofs.Common.{refl, reverse, subst, sym, ℤ}
use Rattle.std.specs.BTreeMap.Range.{range_contains}
use Rattle.std.specs.List.{slice_get}
use Rattle.std.specs.List.Sorted.{IsStrictlySortedBy}
use Rattle.std.specs.Map.{keys_of}
use Rattle.std.specs.Map.Iter.{TakesLast, deref, deref_pair}
use Rattle.std.specs.Option.{option_copied, option_map}
use Rattle.std.specs.Ordering.{is_lt}
use Rattle.std.specs.declared.ops.Bound.TheVariants.{Excluded, Unbounded}
use Rattle.pl_base.specs.declared.id.PageId.{PageId}
use Rattle.pl_base.specs.declared.view.View.{View}
use Rattle.pl_base.specs.Sorting.{sorted_by}
use Rattle.pl_sketch.specs.declared.sketch.Sketch.{Sketch}
use Rattle.pl_follow.specs.declared.order.OrderIndex.{OrderIndex}
use Rattle.pl_follow.specs.Order.{Orders, entries_of, frecency_ranks, is_above, is_ahead, is_behind, leads}
use Rattle.pl_follow.specs.Order.{next_rank}
use Rattle.pl_follow.proofs.EntriesFollow.{Entry, entries_below, entry_cmp, entry_total, keys_are}
use Rattle.pl_follow.proofs.EntryLists.{ascending, keys_kept, keys_last}
use Rattle.pl_follow.proofs.LastKey.{filter_reversed, in_part, last_below, last_of_all}
use Rattle.pl_follow.proofs.RankLists.{next_is, walked}
use Rattle.pl_follow.proofs.ViewRanks.{ahead_above, ahead_below, frecencies_above, frecencies_below, frecency_cmp}
use Rattle.pl_follow.proofs.ViewRanks.{frecency_total, next_ahead}

-- the rank of an entry that a walk gave
abbrev pub rank_in : Option (Bor (ℤ × PageId) × Bor Sketch) → Option (ℤ × PageId)
rank_in entry = option_map (λ (e : Bor (ℤ × PageId) × Bor Sketch). e.0.now) entry

module _ (index : OrderIndex) (views : List View) (orders : Orders index views)
    (up : IsStrictlySortedBy frecency_cmp (keys_of index.frecencies.entries)) where
  keys_below : keys_of index.frecencies.entries ≡ sorted_by (λ x y. is_ahead y x) (frecency_ranks views)
  keys_below = keys_are index.frecencies views orders.frecencies

  -- the ranks, walked from the end
  pub whole_walk : reverse (keys_of index.frecencies.entries) ≡ sorted_by is_ahead (frecency_ranks views)
  whole_walk =
      walked frecency_cmp frecency_total (keys_of index.frecencies.entries) (frecency_ranks views) up
      (keys_below ∙ frecencies_below (frecency_ranks views))
      ∙ frecencies_above (frecency_ranks views)

  -- the entries
  entry_walk : reverse index.frecencies.entries ≡ sorted_by leads (entries_of views)
  entry_walk =
      walked entry_cmp entry_total index.frecencies.entries (entries_of views)
      (ascending frecency_cmp index.frecencies.entries up)
      (orders.frecencies.entries ∙ entries_below (entries_of views))
      ∙ (λ i. sorted_by (λ (x y : Entry). ahead_above i x.0 y.0) (entries_of views))

  -- a part of them
  part_walk : (test : Entry → Bool)
      → reverse (filter test index.frecencies.entries) ≡ filter test (sorted_by leads (entries_of views))
  part_walk test = sym (filter_reversed test index.frecencies.entries) ∙ ap (filter test) entry_walk

  is_up_from : (place rank : ℤ × PageId)
      → range_contains frecency_cmp (Excluded place) Unbounded rank ≡ is_ahead rank place
  is_up_from place rank = both (is_lt (frecency_cmp place rank)) ∙ ahead_below rank place
    where
      both : (b : Bool) → (b && not false) ≡ b
      both true = refl
      both false = refl

  -- the entries before a place
  pub ahead_walk : (place : ℤ × PageId)
      → reverse (filter (λ (e : Entry). range_contains frecency_cmp (Excluded place) Unbounded e.0)
      index.frecencies.entries)
      ≡ filter (λ (e : Entry). is_ahead e.0 place) (sorted_by leads (entries_of views))
  ahead_walk place =
      (λ i. reverse (filter (λ (e : Entry). is_up_from place e.0 i) index.frecencies.entries))
      ∙ part_walk (λ (e : Entry). is_ahead e.0 place)

  -- the entries behind it
  pub behind_walk : (place : ℤ × PageId)
      → reverse (filter (λ (e : Entry). range_contains frecency_cmp Unbounded (Excluded place) e.0)
      index.frecencies.entries)
      ≡ filter (λ (e : Entry). is_ahead place e.0) (sorted_by leads (entries_of views))
  behind_walk place =
      (λ i. reverse (filter (λ (e : Entry). in_part frecency_cmp place e.0 i) index.frecencies.entries))
      ∙ (λ i. reverse (filter (λ (e : Entry). ahead_above i place e.0) index.frecencies.entries))
      ∙ part_walk (λ (e : Entry). is_ahead place e.0)

  -- ---- the next rank

  next_walked : (place : Option (ℤ × PageId))
      → slice_get (filter (is_behind (is_above frecency_cmp) place) (reverse (keys_of index.frecencies.entries))) 0
      ≡ next_rank is_ahead place (frecency_ranks views)
  next_walked place =
      next_is frecency_cmp frecency_total (keys_of index.frecencies.entries) (frecency_ranks views) up
      (keys_below ∙ frecencies_below (frecency_ranks views)) place
      ∙ next_ahead place (frecency_ranks views)

  -- of all
  pub first_rank : (ks : List (ℤ × PageId)) (last : Option (Bor (ℤ × PageId))) (rest : List (ℤ × PageId))
      → ks ≡ keys_of index.frecencies.entries → TakesLast deref ks last rest → (place : Option (ℤ × PageId))
      → place ≡ None → option_copied last ≡ next_rank is_ahead place (frecency_ranks views)
  first_rank ks last rest is takes place none =
      last_of_all frecency_cmp (keys_of index.frecencies.entries) last rest
      (subst (λ zs. TakesLast deref zs last rest) is takes)
      ∙ next_walked None
      ∙ ap (λ p. next_rank is_ahead p (frecency_ranks views)) (sym none)

  -- behind a place
  pub rank_behind : (from : ℤ × PageId) (part : List Entry) (last : Option (Bor (ℤ × PageId) × Bor Sketch))
      (rest : List Entry)
      → part ≡ filter (λ (e : Entry). range_contains frecency_cmp Unbounded (Excluded from) e.0)
      index.frecencies.entries
      → TakesLast deref_pair part last rest → (place : Option (ℤ × PageId)) → place ≡ Some from
      → rank_in last ≡ next_rank is_ahead place (frecency_ranks views)
  rank_behind from part last rest is takes place some =
      copied last
      ∙ last_below frecency_cmp from (keys_of index.frecencies.entries) (keys_of part)
      (option_map (λ (e : Bor (ℤ × PageId) × Bor Sketch). e.0) last) (keys_of rest)
      (ap keys_of is ∙ keys_kept (range_contains frecency_cmp Unbounded (Excluded from)) index.frecencies.entries)
      (keys_last part last rest takes)
      ∙ next_walked (Some from) ∙ ap (λ p. next_rank is_ahead p (frecency_ranks views)) (sym some)
    where
      copied : (o : Option (Bor (ℤ × PageId) × Bor Sketch))
          → rank_in o ≡ option_copied (option_map (λ (e : Bor (ℤ × PageId) × Bor Sketch). e.0) o)
      copied None = refl
      copied (Some e) = refl
