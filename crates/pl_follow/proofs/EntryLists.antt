-- The entries of a map as a sorted list: how one comes and goes, and the walk over their keys.
use Rattle.std.proofs.Common.{◌≡◌, ◌≢◌, ◌∙◌, Bool, true, false, List, [], ◌∷◌, Option, Some, None, Bor}
use Rattle.std.proofs.Common.{ap, cond, filter, if◌then◌else◌, refl}
use Rattle.std.specs.BTreeMap.{insert_entry, is_at}
use Rattle.std.specs.Cmp.{IsTotalOrder}
use Rattle.std.specs.List.{AllByRecursion}
use Rattle.std.specs.List.Sorted.{IsStrictlySortedBy}
use Rattle.std.specs.Map.{keys_of, lookup, remove_entry}
use Rattle.std.specs.Map.Iter.{TakesLast, deref, deref_pair}
use Rattle.std.specs.Option.{option_map}
use Rattle.std.specs.Ordering.{is_eq, is_lt, match_ordering}
use Rattle.std.specs.declared.cmp.Ordering.{Ordering}
use Rattle.std.specs.declared.cmp.Ordering.TheVariants.{Equal, Greater, Less}
use Rattle.std.proofs.lemmas.Cmp.{tied_itself}
use Rattle.std.proofs.lemmas.List.{map-append}
use Rattle.pl_base.specs.Sorting.{put_in_place}
use Rattle.pl_follow.specs.Order.{is_below}

-- entries by their keys
abbrev pub by_key : {R S : Type 0} → (R → R → Ordering) → R × S → R × S → Ordering
by_key cmp x y = cmp x.0 y.0

-- the key ties with none of those of the entries
abbrev pub IsApart : {R S : Type 0} → (R → R → Ordering) → R → List (R × S) → Type 0
IsApart {R} {S} cmp key es = AllByRecursion (λ (e : R × S). cmp key e.0 ≢ Equal) es

module _ {R S : Type 0} (cmp : R → R → Ordering) where
  -- what a map makes of an entry whose key it does not have
  pub inserted : (key : R) (value : S) (es : List (R × S)) → IsApart cmp key es
      → insert_entry cmp es key value ≡ put_in_place (is_below (by_key cmp)) (key, value) es
  inserted key value [] apart = refl
  inserted key value (e ∷ es) apart = choose (cmp key e.0) apart.0 (inserted key value es apart.1)
    where
      choose : (o : Ordering) → o ≢ Equal
          → insert_entry cmp es key value ≡ put_in_place (is_below (by_key cmp)) (key, value) es
          → match_ordering o ((key, value) ∷ e ∷ es) ((e.0, value) ∷ es) (e ∷ insert_entry cmp es key value)
          ≡ (if is_lt o then (key, value) ∷ e ∷ es
          else e ∷ put_in_place (is_below (by_key cmp)) (key, value) es)
      choose Less differ rest = refl
      choose Equal differ rest = absurd (differ refl)
      choose Greater differ rest = ap (λ zs. e ∷ zs) rest

module _ {R S : Type 0} (cmp : R → R → Ordering) (total : IsTotalOrder cmp) where
  -- an entry that was put in and is taken out again
  pub removed_put : (key : R) (value : S) (es : List (R × S)) → IsApart cmp key es
      → remove_entry (is_at (cmp key)) (put_in_place (is_below (by_key cmp)) (key, value) es) ≡ es
  removed_put key value [] apart = ap (λ o. cond (is_eq o) [] ((key, value) ∷ [])) (tied_itself total key)
  removed_put key value (e ∷ es) apart = choose (cmp key e.0) refl apart.0 (removed_put key value es apart.1)
    where
      choose : (o : Ordering) → cmp key e.0 ≡ o → o ≢ Equal
          → remove_entry (is_at (cmp key)) (put_in_place (is_below (by_key cmp)) (key, value) es) ≡ es
          → remove_entry (is_at (cmp key)) (if is_lt o then (key, value) ∷ e ∷ es
          else e ∷ put_in_place (is_below (by_key cmp)) (key, value) es) ≡ e ∷ es
      choose Less is differ rest =
          ap (λ o. cond (is_eq o) (e ∷ es) ((key, value) ∷ remove_entry (is_at (cmp key)) (e ∷ es)))
          (tied_itself total key)
      choose Equal is differ rest = absurd (differ refl)
      choose Greater is differ rest =
          ap (λ o. cond (is_eq o) (put_in_place (is_below (by_key cmp)) (key, value) es)
          (e ∷ remove_entry (is_at (cmp key)) (put_in_place (is_below (by_key cmp)) (key, value) es))) is
          ∙ ap (λ zs. e ∷ zs) rest

  -- the value of an entry that was put in
  pub found_put : (key : R) (value : S) (es : List (R × S)) → IsApart cmp key es
      → lookup (is_at (cmp key)) (put_in_place (is_below (by_key cmp)) (key, value) es) ≡ Some value
  found_put key value [] apart = ap (λ o. cond (is_eq o) (Some value) None) (tied_itself total key)
  found_put key value (e ∷ es) apart = choose (cmp key e.0) refl apart.0 (found_put key value es apart.1)
    where
      choose : (o : Ordering) → cmp key e.0 ≡ o → o ≢ Equal
          → lookup (is_at (cmp key)) (put_in_place (is_below (by_key cmp)) (key, value) es) ≡ Some value
          → lookup (is_at (cmp key)) (if is_lt o then (key, value) ∷ e ∷ es
          else e ∷ put_in_place (is_below (by_key cmp)) (key, value) es) ≡ Some value
      choose Less is differ rest =
          ap (λ o. cond (is_eq o) (Some value) (lookup (is_at (cmp key)) (e ∷ es))) (tied_itself total key)
      choose Equal is differ rest = absurd (differ refl)
      choose Greater is differ rest =
          ap (λ o. cond (is_eq o) (Some e.1)
          (lookup (is_at (cmp key)) (put_in_place (is_below (by_key cmp)) (key, value) es))) is
          ∙ rest

-- ---- the keys

module _ {R S : Type 0} where
  -- keys that ascend are those of entries that do
  all_by_key : (cmp : R → R → Ordering) (x : R × S) (es : List (R × S))
      → AllByRecursion (λ (key : R). cmp x.0 key ≡ Less) (keys_of es)
      → AllByRecursion (λ (e : R × S). by_key cmp x e ≡ Less) es
  all_by_key cmp x [] all = tt
  all_by_key cmp x (e ∷ es) all = (all.0, all_by_key cmp x es all.1)

  pub ascending : (cmp : R → R → Ordering) (es : List (R × S)) → IsStrictlySortedBy cmp (keys_of es)
      → IsStrictlySortedBy (by_key cmp) es
  unfolding IsStrictlySortedBy
  ascending cmp [] up = tt
  ascending cmp (e ∷ es) up = (all_by_key cmp e es up.0, ascending cmp es up.1)

  -- the keys of some entries
  pub keys_kept : (test : R → Bool) (es : List (R × S))
      → keys_of (filter (λ (e : R × S). test e.0) es) ≡ filter test (keys_of es)
  keys_kept test [] = refl
  keys_kept test (e ∷ es) = choose (test e.0) (keys_kept test es)
    where
      choose : (b : Bool) → keys_of (filter (λ (x : R × S). test x.0) es) ≡ filter test (keys_of es)
          → keys_of (if b then e ∷ filter (λ (x : R × S). test x.0) es else filter (λ (x : R × S). test x.0) es)
          ≡ (if b then e.0 ∷ filter test (keys_of es) else filter test (keys_of es))
      choose true rest = ap (λ ks. e.0 ∷ ks) rest
      choose false rest = rest

  -- the key of the last entry
  pub keys_last : (es : List (R × S)) (last : Option (Bor R × Bor S)) (rest : List (R × S))
      → TakesLast deref_pair es last rest
      → TakesLast deref (keys_of es) (option_map (λ (e : Bor R × Bor S). e.0) last) (keys_of rest)
  keys_last es None rest takes = (ap keys_of takes.0, ap keys_of takes.1)
  keys_last es (Some e) rest takes = ap keys_of takes ∙ map-append _ rest (deref_pair e ∷ [])
