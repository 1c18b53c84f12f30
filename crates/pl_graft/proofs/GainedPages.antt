-- The pages that an import gives an item.
use Rattle.std.proofs.Common.{◌≡◌, ◌∙◌, ◌==◌, ◌||◌, Bool, true, false, List, [], ◌∷◌, ap, refl, sym}
use Rattle.std.specs.BTreeSet.{insert_key}
use Rattle.std.specs.List.{list_any}
use Rattle.std.specs.Ordering.{match_ordering, nat_cmp}
use Rattle.std.specs.declared.cmp.Ordering.{Ordering}
use Rattle.std.specs.declared.cmp.Ordering.TheVariants.{Less, Equal, Greater}
use Rattle.std.proofs.Math.Bool.{or-false}
use Rattle.std.proofs.lemmas.Map.Lookups.{exact_unsigned}
use Rattle.pl_base.specs.declared.id.PageId.{PageId}

abbrev pub by_number : PageId → PageId → Ordering
by_number a b = nat_cmp a.0 b.0

abbrev pub holds : PageId → List PageId → Bool
holds page pages = list_any (λ (p : PageId). p.0 == page.0) pages

swapped : (a b c : Bool) → (a || (b || c)) ≡ ((b || c) || a)
swapped true true c = refl
swapped true false true = refl
swapped true false false = refl
swapped false true c = refl
swapped false false true = refl
swapped false false false = refl

twice : (a b c : Bool) → a ≡ b → (b || c) ≡ ((b || c) || a)
twice a true c same = refl
twice a false true same = refl
twice a false false same = sym same

onward : (a b c : Bool) → (b || (c || a)) ≡ ((b || c) || a)
onward a true c = refl
onward a false c = refl

pub inserted : (pages : List PageId) (page other : PageId)
    → holds other (insert_key by_number pages page) ≡ (holds other pages || (page.0 == other.0))
inserted [] page other = or-false (page.0 == other.0)
inserted (x ∷ xs) page other =
    choose (nat_cmp page.0 x.0) refl (inserted xs page other)
  where
    choose : (o : Ordering) → nat_cmp page.0 x.0 ≡ o
        → holds other (insert_key by_number xs page) ≡ (holds other xs || (page.0 == other.0))
        → holds other (match_ordering o (page ∷ x ∷ xs) (x ∷ xs) (x ∷ insert_key by_number xs page))
        ≡ (holds other (x ∷ xs) || (page.0 == other.0))
    choose Less is rest = swapped (page.0 == other.0) (x.0 == other.0) (holds other xs)
    choose Equal is rest =
        twice (page.0 == other.0) (x.0 == other.0) (holds other xs)
        (ap (λ n. n == other.0) (exact_unsigned page.0 x.0 is))
    choose Greater is rest =
        ap (λ (b : Bool). (x.0 == other.0) || b) rest
        ∙ onward (page.0 == other.0) (x.0 == other.0) (holds other xs)
