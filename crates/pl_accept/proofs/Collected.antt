-- A map that was collected from pairs with ascending numbers.
use Rattle.std.proofs.Common.{◌≡◌, ◌∙◌, ◌≢◌, ℕ, List, [], ◌∷◌, Option, Some, None, true, ap, is_some, refl, sym}
use Rattle.std.proofs.Common.{⊎_elim, true≢false}
use Rattle.std.specs.declared.cmp.Ordering.{Ordering}
use Rattle.std.specs.declared.cmp.Ordering.TheVariants.{Less, Equal, Greater}
use Rattle.std.specs.BTreeMap.{BTreeMap, IsFromIterResult, is_at}
use Rattle.std.specs.Cmp.{eq_by_cmp_equiv, nat_cmp_total, tied_itself}
use Rattle.std.specs.List.Sorted.{IsStrictlyIncreasing, IsStrictlySortedBy}
use Rattle.std.specs.Map.{keys_of, lookup}
use Rattle.std.specs.Option.{unwrap_or}
use Rattle.std.specs.Ordering.{eq_by_cmp, is_eq, nat_cmp, ordering_reverse}
use Rattle.std.proofs.lemmas.Bool.{cases_Bool}
use Rattle.std.proofs.lemmas.Map.{lookup-none}
use Rattle.std.proofs.lemmas.Map.Entries.{lookup_head, lookup_tail, none_below_head, none_past_head}
use Rattle.std.proofs.lemmas.Map.Keys.{IsDistinct-from_sorted, sorted_from_strictly_increasing, sorted_tail}
use Rattle.std.proofs.lemmas.Map.Lookups.{exact_unsigned}
use Rattle.std.proofs.lemmas.Map.Made.{update_all_none}

module _ {X : Type 0} where
  abbrev found : List (ℕ × X) → ℕ → Option X
  found es q = lookup (is_at (nat_cmp q)) es

  abbrev IsOrdered : List (ℕ × X) → Type 0
  IsOrdered es = IsStrictlySortedBy nat_cmp (keys_of es)

  differs : (x : X) → Some x ≢ None
  differs x e = true≢false (ap is_some e)

  at_head : (e : ℕ × X) (es : List (ℕ × X)) → found (e ∷ es) e.0 ≡ Some e.1
  at_head e es = lookup_head (is_at (nat_cmp e.0)) e es (ap is_eq (tied_itself nat_cmp_total e.0))

  -- no pair behind the first one has its number
  past_head : (q : ℕ) (e : ℕ × X) (es : List (ℕ × X)) → IsOrdered (e ∷ es) → is_at (nat_cmp q) e.0 ≡ true
      → found es q ≡ None
  past_head q e es s t =
      lookup-none (is_at (nat_cmp q)) es
      (none_past_head (eq_by_cmp_equiv nat_cmp_total) q e es (IsDistinct-from_sorted nat_cmp _ s) t)

  module _ (x y : ℕ × X) (xs ys : List (ℕ × X)) (s : IsOrdered (x ∷ xs)) (t : IsOrdered (y ∷ ys))
      (h : (q : ℕ) → found (x ∷ xs) q ≡ found (y ∷ ys) q) where
    no_less : nat_cmp x.0 y.0 ≢ Less
    no_less below =
        differs x.1
        (sym (at_head x xs) ∙ h x.0 ∙ lookup-none _ (y ∷ ys) (none_below_head nat_cmp_total x.0 y ys t below))

    no_greater : nat_cmp x.0 y.0 ≢ Greater
    no_greater above =
        differs y.1
        (sym (at_head y ys)
        ∙ sym (h y.0)
        ∙ lookup-none _ (x ∷ xs)
        (none_below_head nat_cmp_total y.0 x xs s (nat_cmp_total.antisymm y.0 x.0 ∙ ap ordering_reverse above)))

    by_order : (r : Ordering) → nat_cmp x.0 y.0 ≡ r → x.0 ≡ y.0
    by_order Less p = absurd (no_less p)
    by_order Equal p = exact_unsigned x.0 y.0 p
    by_order Greater p = absurd (no_greater p)

    numbers : x.0 ≡ y.0
    numbers = by_order (nat_cmp x.0 y.0) refl

    values : x.1 ≡ y.1
    values =
        ap (λ u. unwrap_or u x.1)
        (sym (at_head x xs) ∙ h x.0 ∙ ap (found (y ∷ ys)) numbers ∙ at_head y ys)

    behind : (q : ℕ) → found xs q ≡ found ys q
    behind q =
        let same : is_at (nat_cmp q) x.0 ≡ is_at (nat_cmp q) y.0 = ap (is_at (nat_cmp q)) numbers in
        ⊎_elim
        (λ hit. past_head q x xs s hit ∙ sym (past_head q y ys t (sym same ∙ hit)))
        (λ miss.
        sym (lookup_tail (is_at (nat_cmp q)) x xs miss)
        ∙ h q
        ∙ lookup_tail (is_at (nat_cmp q)) y ys (sym same ∙ miss))
        (cases_Bool (is_at (nat_cmp q) x.0))

  -- pairs in order with the same look-ups are the same
  same_pairs : (es fs : List (ℕ × X)) → IsOrdered es → IsOrdered fs → ((q : ℕ) → found es q ≡ found fs q) → es ≡ fs
  same_pairs [] [] s t h = refl
  same_pairs [] (y ∷ ys) s t h = absurd (differs y.1 (sym (at_head y ys) ∙ sym (h y.0)))
  same_pairs (x ∷ xs) [] s t h = absurd (differs x.1 (sym (at_head x xs) ∙ h x.0))
  same_pairs (x ∷ xs) (y ∷ ys) s t h =
      let rest = same_pairs xs ys (sorted_tail nat_cmp _ _ s) (sorted_tail nat_cmp _ _ t) (behind x y xs ys s t h) in
      λ i. (numbers x y xs ys s t h i, values x y xs ys s t h i) ∷ rest i

  pub collected : (es : List (ℕ × X)) → IsStrictlyIncreasing (keys_of es) → (m : BTreeMap ℕ X)
      → IsFromIterResult nat_cmp es m → m.entries ≡ es
  collected es rises m made =
      let sorted = sorted_from_strictly_increasing (keys_of es) rises in
      same_pairs m.entries es made.1 sorted
      (λ q.
      made.0 q
      ∙ update_all_none (eq_by_cmp_equiv nat_cmp_total) (eq_by_cmp nat_cmp) (λ _ _. refl) es q
      (IsDistinct-from_sorted nat_cmp (keys_of es) sorted))
