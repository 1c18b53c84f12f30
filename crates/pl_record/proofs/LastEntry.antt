-- A map of slots by ids, where the greatest id comes and goes.
use Rattle.std.proofs.Common.{◌≡◌, ◌∙◌, ◌==◌, ◌++◌, ◌<◌, ◌∷◌, [], ℕ, ap, arith, cond, eq-eqb, refl}
use Rattle.std.proofs.Props.{props}
use Rattle.std.specs.BTreeMap.{insert_entry, is_at}
use Rattle.std.specs.List.{AllByRecursion}
use Rattle.std.specs.Map.{remove_entry}
use Rattle.std.specs.declared.cmp.Ordering.{Ordering}
use Rattle.std.specs.declared.cmp.Ordering.TheVariants.{Equal, Greater, Less}
use Rattle.std.specs.Ordering.{match_ordering, nat_cmp}
use Rattle.std.proofs.lemmas.Bool.{le-ltb, ne_eqb}
use Rattle.pl_base.specs.declared.id.Slot.{Slot}
use Rattle.pl_record.specs.LinkedRows.{Entries}
use Rattle.pl_record.proofs.SlotsById.{same_key}

below : (k id : ℕ) → id < k → nat_cmp k id ≡ Greater
below k id less =
    ap (λ b. cond b Less (cond (k == id) Equal Greater)) (le-ltb k id (omega (arith, less)))
    ∙ ap (λ b. cond b Equal Greater) (ne_eqb k id (λ same. absurd (omega (arith, less, same))))

itself : (k : ℕ) → nat_cmp k k ≡ Equal
itself k =
    ap (λ b. cond b Less (cond (k == k) Equal Greater)) (le-ltb k k (omega arith))
    ∙ ap (λ b. cond b Equal Greater) (eq-eqb k k refl)

-- behind all others
pub inserted_last : (es : Entries) (k : ℕ) (slot : Slot) → AllByRecursion (λ (e : ℕ × Slot). e.0 < k) es
    → insert_entry nat_cmp es k slot ≡ es ++ (k, slot) ∷ []
inserted_last [] k slot all = refl
inserted_last (e ∷ es) k slot all =
    ap (λ (o : Ordering). match_ordering o ((k, slot) ∷ e ∷ es) ((e.0, slot) ∷ es) (e ∷ insert_entry nat_cmp es k slot))
    (below k e.0 all.0)
    ∙ ap (λ (rest : Entries). e ∷ rest) (inserted_last es k slot all.1)

-- in place of the last one
pub inserted_again : (es : Entries) (k : ℕ) (old slot : Slot) → AllByRecursion (λ (e : ℕ × Slot). e.0 < k) es
    → insert_entry nat_cmp (es ++ (k, old) ∷ []) k slot ≡ es ++ (k, slot) ∷ []
inserted_again [] k old slot all =
    ap (λ (o : Ordering). match_ordering o ((k, slot) ∷ (k, old) ∷ []) ((k, slot) ∷ [])
    ((k, old) ∷ insert_entry nat_cmp [] k slot)) (itself k)
inserted_again (e ∷ es) k old slot all =
    ap (λ (o : Ordering). match_ordering o ((k, slot) ∷ e ∷ (es ++ (k, old) ∷ [])) ((e.0, slot) ∷ (es ++ (k, old) ∷ []))
    (e ∷ insert_entry nat_cmp (es ++ (k, old) ∷ []) k slot)) (below k e.0 all.0)
    ∙ ap (λ (rest : Entries). e ∷ rest) (inserted_again es k old slot all.1)

-- the last one goes
pub removed_last : (es : Entries) (k : ℕ) (slot : Slot) → AllByRecursion (λ (e : ℕ × Slot). e.0 < k) es
    → remove_entry (is_at (nat_cmp k)) (es ++ (k, slot) ∷ []) ≡ es
removed_last [] k slot all =
    ap (λ b. cond b [] ((k, slot) ∷ [])) (same_key k k ∙ eq-eqb k k refl)
removed_last (e ∷ es) k slot all =
    ap (λ b. cond b (es ++ (k, slot) ∷ []) (e ∷ remove_entry (is_at (nat_cmp k)) (es ++ (k, slot) ∷ [])))
    (same_key k e.0 ∙ ne_eqb e.0 k (λ same. absurd (omega (arith, all.0, same))))
    ∙ ap (λ (rest : Entries). e ∷ rest) (removed_last es k slot all.1)

pub below_once : (es : Entries) (k : ℕ) → IsProp (AllByRecursion (λ (e : ℕ × Slot). e.0 < k) es)
below_once [] k a b = refl
below_once (e ∷ es) k a b =
    let first : a.0 ≡ b.0 = less_once e.0 a.0 b.0 in
    let rest : a.1 ≡ b.1 = below_once es k a.1 b.1 in
    λ i. (first i, rest i)
  where
    less_once : (n : ℕ) → IsProp (n < k)
    less_once n = Prim.hlevel props
