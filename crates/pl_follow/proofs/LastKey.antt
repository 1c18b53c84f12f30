-- The last key of a set, or of a part of it, is the first of the walk from its end.
use Rattle.std.proofs.Common.{◌≡◌, ◌∙◌, ◌++◌, Bool, true, false, List, [], ◌∷◌, Option, Some, None, Bor}
use Rattle.std.proofs.Common.{ap, filter, if◌then◌else◌, not, refl, reverse, sym}
use Rattle.std.specs.BTreeMap.Range.{range_contains}
use Rattle.std.specs.List.{slice_get}
use Rattle.std.specs.Map.Iter.{TakesLast, deref}
use Rattle.std.specs.Option.{option_copied}
use Rattle.std.specs.Ordering.{is_gt, is_le}
use Rattle.std.specs.declared.cmp.Ordering.{Ordering}
use Rattle.std.specs.declared.cmp.Ordering.TheVariants.{Equal, Greater, Less}
use Rattle.std.specs.declared.ops.Bound.TheVariants.{Excluded, Unbounded}
use Rattle.std.proofs.lemmas.Grind.{reverse_onto}
use Rattle.std.proofs.lemmas.List.{append-nil, reverse-append}
use Rattle.std.proofs.lemmas.List.Elements.{filter-append}
use Rattle.pl_follow.specs.Order.{is_above, is_behind}

module _ {R : Type 0} where
  -- some keys, from the last on
  pub filter_reversed : (test : R → Bool) (xs : List R) → filter test (reverse xs) ≡ reverse (filter test xs)
  filter_reversed test [] = refl
  filter_reversed test (x ∷ xs) =
      ap (filter test) (reverse_onto xs x []) ∙ filter-append test (reverse xs) (x ∷ [])
      ∙ ap (λ zs. zs ++ filter test (x ∷ [])) (filter_reversed test xs) ∙ choose (test x)
    where
      choose : (b : Bool) → reverse (filter test xs) ++ (if b then x ∷ [] else [])
          ≡ reverse (if b then x ∷ filter test xs else filter test xs)
      choose true = sym (reverse_onto (filter test xs) x [])
      choose false = append-nil (reverse (filter test xs))

  -- the last key of a list
  pub last_key : (ks : List R) (last : Option (Bor R)) (rest : List R) → TakesLast deref ks last rest
      → option_copied last ≡ slice_get (reverse ks) 0
  last_key ks None rest takes = sym (ap (λ zs. slice_get (reverse zs) 0) takes.0)
  last_key ks (Some x) rest takes =
      sym (ap (λ zs. slice_get (reverse zs) 0) takes
      ∙ ap (λ zs. slice_get zs 0) (reverse-append rest (x.now ∷ [])))

  all_kept : (xs : List R) → filter (λ _. true) xs ≡ xs
  all_kept [] = refl
  all_kept (x ∷ xs) = ap (λ zs. x ∷ zs) (all_kept xs)

  -- where no place is given
  pub last_of_all : (cmp : R → R → Ordering) (ks : List R) (last : Option (Bor R)) (rest : List R)
      → TakesLast deref ks last rest
      → option_copied last ≡ slice_get (filter (is_behind (is_above cmp) None) (reverse ks)) 0
  last_of_all cmp ks last rest takes =
      last_key ks last rest takes ∙ ap (λ zs. slice_get zs 0) (sym (all_kept (reverse ks)))

  pub in_part : (cmp : R → R → Ordering) (place rank : R)
      → range_contains cmp Unbounded (Excluded place) rank ≡ is_above cmp place rank
  in_part cmp place rank = choose (cmp place rank)
    where
      choose : (o : Ordering) → not (is_le o) ≡ is_gt o
      choose Less = refl
      choose Equal = refl
      choose Greater = refl

  -- below a place
  pub last_below : (cmp : R → R → Ordering) (place : R) (ks part : List R) (last : Option (Bor R)) (rest : List R)
      → part ≡ filter (range_contains cmp Unbounded (Excluded place)) ks → TakesLast deref part last rest
      → option_copied last ≡ slice_get (filter (is_behind (is_above cmp) (Some place)) (reverse ks)) 0
  last_below cmp place ks part last rest is takes =
      last_key part last rest takes
      ∙ ap (λ zs. slice_get (reverse zs) 0) is
      ∙ (λ i. slice_get (reverse (filter (λ rank. in_part cmp place rank i) ks)) 0)
      ∙ ap (λ zs. slice_get zs 0) (sym (filter_reversed (is_above cmp place) ks))
