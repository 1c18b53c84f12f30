-- What a map of slots by ids finds, and which id is next.
use Rattle.std.proofs.Common.{◌≡◌, ◌∙◌, ◌==◌, ◌∷◌, ◌&&◌, [], ℕ, Bool, List, Some, None, ap, cond, eq-eqb, false}
use Rattle.std.proofs.Common.{arith, filter, find, if◌then◌else◌, inl, inr, map, nat_lt, not, refl, suc, sym, true}
use Rattle.std.specs.List.{AllPairs}
use Rattle.std.specs.Option.{option_map}
use Rattle.std.specs.declared.ops.Bound.TheVariants.{Excluded, Unbounded}
use Rattle.std.specs.BTreeMap.{is_at}
use Rattle.std.specs.BTreeMap.Range.{entries_between, range_contains}
use Rattle.std.specs.Map.{lookup, remove_entry}
use Rattle.std.specs.declared.cmp.Ordering.TheVariants.{Less, Equal, Greater}
use Rattle.std.specs.Ordering.{is_eq, is_lt, nat_cmp}
use Rattle.std.proofs.lemmas.Bool.{cases_eq, le-ltb, ne_eqb}
use Rattle.std.proofs.lemmas.List.Elements.{recursion_from_All}
use Rattle.pl_base.specs.declared.id.Slot.{Slot}
use Rattle.pl_base.proofs.ListLaws.{all_stay, weaker}
use Rattle.pl_record.specs.LinkedRows.{Entries, id_behind, slot_at}

pub same_key : (id k : ℕ) → is_eq (nat_cmp id k) ≡ (k == id)
same_key id k = elim (cases_eq k id) [
  | inl same ↦
      ap (λ b. is_eq (cond b Less (cond (id == k) Equal Greater))) (le-ltb id k (omega (arith, same)))
      ∙ ap (λ b. is_eq (cond b Equal Greater)) (eq-eqb id k (sym same)) ∙ sym (eq-eqb k id same)
  | inr apart ↦
      choose (nat_lt id k) (id == k) (ne_eqb id k (λ same. apart (sym same))) ∙ sym (ne_eqb k id apart)
]
  where
    choose : (a b : Bool) → b ≡ false → is_eq (cond a Less (cond b Equal Greater)) ≡ false
    choose true b none = refl
    choose false b none = ap (λ c. is_eq (cond c Equal Greater)) none

pub looked_up : (entries : Entries) (id : ℕ) → lookup (is_at (nat_cmp id)) entries ≡ slot_at entries id
looked_up [] id = refl
looked_up (e ∷ es) id =
    ap (λ b. cond b (Some e.1) (lookup (is_at (nat_cmp id)) es)) (same_key id e.0)
    ∙ choose (e.0 == id) (looked_up es id)
  where
    choose : (b : Bool) → lookup (is_at (nat_cmp id)) es ≡ slot_at es id
        → cond b (Some e.1) (lookup (is_at (nat_cmp id)) es)
        ≡ option_map (λ (p : ℕ × Slot). p.1) (if b then Some e else find (λ (p : ℕ × Slot). p.0 == id) es)
    choose true rest = refl
    choose false rest = rest

-- ---- the next one

above_key : (id k : ℕ) → range_contains nat_cmp (Excluded id) Unbounded k ≡ nat_lt id k
above_key id k = choose (nat_lt id k) (id == k)
  where
    choose : (a b : Bool) → (is_lt (cond a Less (cond b Equal Greater)) && true) ≡ a
    choose true b = refl
    choose false true = refl
    choose false false = refl

first_kept : {X : Type 0} (p q : X → Bool) (xs : List X) (x : X) (rest : List X) → ((y : X) → p y ≡ q y)
    → filter p xs ≡ x ∷ rest → find q xs ≡ Some x
first_kept p q [] x rest alike kept = absurd (cc)
first_kept {X} p q (y ∷ ys) x rest alike kept =
    ap (λ b. if b then Some y else find q ys) (sym (alike y)) ∙ choose (p y) kept (first_kept p q ys x rest alike)
  where
    choose : (b : Bool) → cond b (y ∷ filter p ys) (filter p ys) ≡ x ∷ rest
        → (filter p ys ≡ x ∷ rest → find q ys ≡ Some x) → (if b then Some y else find q ys) ≡ Some x
    choose true kept later =
        let same : y ≡ x = cc in
        ap Some same
    choose false kept later = later kept

none_kept : {X : Type 0} (p q : X → Bool) (xs : List X) → ((y : X) → p y ≡ q y) → filter p xs ≡ []
    → find q xs ≡ None
none_kept p q [] alike kept = refl
none_kept {X} p q (y ∷ ys) alike kept =
    ap (λ b. if b then Some y else find q ys) (sym (alike y)) ∙ choose (p y) kept (none_kept p q ys alike)
  where
    choose : (b : Bool) → cond b (y ∷ filter p ys) (filter p ys) ≡ [] → (filter p ys ≡ [] → find q ys ≡ None)
        → (if b then Some y else find q ys) ≡ None
    choose true kept later = absurd (cc)
    choose false kept later = later kept

pub behind_some : (entries : Entries) (id k : ℕ) (slot : Slot) (rest : Entries)
    → entries_between nat_cmp (Excluded id) Unbounded entries ≡ (k, slot) ∷ rest → Some k ≡ id_behind entries id
behind_some entries id k slot rest kept =
    sym (ap (option_map (λ (e : ℕ × Slot). e.0))
    (first_kept (λ (e : ℕ × Slot). range_contains nat_cmp (Excluded id) Unbounded e.0)
    (λ (e : ℕ × Slot). nat_lt id e.0) entries (k, slot) rest (λ e. above_key id e.0) kept))

pub behind_none : (entries : Entries) (id : ℕ) → entries_between nat_cmp (Excluded id) Unbounded entries ≡ []
    → None ≡ id_behind entries id
behind_none entries id kept =
    sym (ap (option_map (λ (e : ℕ × Slot). e.0))
    (none_kept (λ (e : ℕ × Slot). range_contains nat_cmp (Excluded id) Unbounded e.0)
    (λ (e : ℕ × Slot). nat_lt id e.0) entries (λ e. above_key id e.0) kept))

-- ---- an entry goes

-- the entries without the one at an id, where no two have it
pub removed : {X : Type 0} (key : X → ℕ) (at : X → Slot) (id : ℕ) (xs : List X)
    → AllPairs (λ a b. (key a == id) ≡ true → (key b == id) ≡ false) xs
    → remove_entry (is_at (nat_cmp id)) (map (λ x. (key x, at x)) xs)
    ≡ map (λ x. (key x, at x)) (filter (λ x. not (key x == id)) xs)
removed key at id [] once = refl
removed {X} key at id (x ∷ xs) once =
    ap (λ b. cond b (map (λ y. (key y, at y)) xs)
    ((key x, at x) ∷ remove_entry (is_at (nat_cmp id)) (map (λ y. (key y, at y)) xs))) (same_key id (key x))
    ∙ choose (key x == id) refl
    (removed key at id xs (λ i j d before within. once (suc i) (suc j) d (omega arith) (omega arith)))
  where
    choose : (b : Bool) → (key x == id) ≡ b
        → remove_entry (is_at (nat_cmp id)) (map (λ y. (key y, at y)) xs)
        ≡ map (λ y. (key y, at y)) (filter (λ y. not (key y == id)) xs)
        → cond b (map (λ y. (key y, at y)) xs)
        ((key x, at x) ∷ remove_entry (is_at (nat_cmp id)) (map (λ y. (key y, at y)) xs))
        ≡ map (λ y. (key y, at y))
        (if not b then x ∷ filter (λ y. not (key y == id)) xs else filter (λ y. not (key y == id)) xs)
    choose true is rest =
        sym (ap (map (λ y. (key y, at y)))
        (all_stay (λ y. not (key y == id)) xs
        (weaker (λ y. (key y == id) ≡ false) (λ y. not (key y == id) ≡ true) xs (λ y fails. ap not fails)
        (recursion_from_All (λ y. (key y == id) ≡ false) xs
        (λ k d within. once 0 (suc k) d (omega arith) (omega arith) is)))))
    choose false is rest = ap (λ (es : Entries). (key x, at x) ∷ es) rest
