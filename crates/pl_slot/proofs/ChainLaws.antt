-- Chains of free slots.
use Rattle.std.proofs.Common.{◌≡◌, ◌∙◌, ◌==◌, ◌<◌, ◌∷◌, ◌||◌, [], ℕ, List, ap, arith, false}
use Rattle.std.proofs.Common.{eq-eqb, eqb-true, inl, inr, length, None, Option, refl, Some, suc, sym, true}
use Rattle.std.proofs.lemmas.Bool.{cases_Bool, or_cases, true≢false}
use Rattle.pl_base.specs.declared.id.Slot.{Slot}
use Rattle.pl_sheets.specs.Sheets.{Pages}
use Rattle.pl_slot.specs.declared.row.SlotRow.{SlotRow}
use Rattle.pl_slot.specs.declared.row.SlotRow.TheVariants.{Free}
use Rattle.pl_slot.specs.Arena.{AreLinked, first_in, is_among, row_at}
use Rattle.pl_slot.proofs.SlotPlaces.{no_slot}

-- the slot that a free row names
abbrev link : Option SlotRow → ℕ
link (Some (Free next)) = next.0
link other = 0

pub linked_kept : (ns : List ℕ) (old new : Pages)
    → ((n : ℕ) → is_among n ns ≡ true → row_at n new ≡ row_at n old) → AreLinked ns old → AreLinked ns new
linked_kept [] old new same linked = tt
linked_kept (n ∷ ns) old new same linked =
    let here : is_among n (n ∷ ns) ≡ true = ap (λ b. b || is_among n ns) (eq-eqb n n refl) in
    (same n here ∙ linked.0, linked_kept ns old new (λ m among. same m (further m n ns among)) linked.1)
  where
    further : (m n : ℕ) (ns : List ℕ) → is_among m ns ≡ true → is_among m (n ∷ ns) ≡ true
    further m n ns among = elim (m == n) as (λ b. (b || is_among m ns) ≡ true) [ true ↦ refl | false ↦ among ]

-- a member is free
pub member_free : (n : ℕ) (ns : List ℕ) (pages : Pages) → AreLinked ns pages → is_among n ns ≡ true
    → (next : Slot) × (row_at n pages ≡ Some (Free next))
member_free n [] pages linked among = absurd (true≢false (sym among))
member_free n (m ∷ ns) pages linked among = elim (or_cases (n == m) (is_among n ns) among) [
  | inl here ↦ (first_in ns, ap (λ k. row_at k pages) (eqb-true n m here) ∙ linked.0)
  | inr further ↦ member_free n ns pages linked.1 further
]

-- a chain from one slot on has one length
pub one_length : (xs ys : List ℕ) (pages : Pages) → AreLinked xs pages → AreLinked ys pages
    → first_in xs ≡ first_in ys → length xs ≡ length ys
one_length [] [] pages to_xs to_ys same = refl
one_length [] (y ∷ ys) pages to_xs to_ys same =
    absurd (nothing y ys pages (sym (ap (λ (s : Slot). s.0) same)) to_ys.0)
  where
    nothing : (y : ℕ) (ys : List ℕ) (pages : Pages) → y ≡ 0 → row_at y pages ≡ Some (Free (first_in ys)) → ⊥
    nothing y ys pages none linked =
        let missing : Some (Free (first_in ys)) ≡ None = sym linked ∙ ap (λ k. row_at k pages) none ∙ no_slot 0 pages refl in
        cc
one_length (x ∷ xs) [] pages to_xs to_ys same =
    absurd (nothing x xs pages (ap (λ (s : Slot). s.0) same) to_xs.0)
  where
    nothing : (y : ℕ) (ys : List ℕ) (pages : Pages) → y ≡ 0 → row_at y pages ≡ Some (Free (first_in ys)) → ⊥
    nothing y ys pages none linked =
        let missing : Some (Free (first_in ys)) ≡ None = sym linked ∙ ap (λ k. row_at k pages) none ∙ no_slot 0 pages refl in
        cc
one_length (x ∷ xs) (y ∷ ys) pages to_xs to_ys same =
    let here : x ≡ y = ap (λ (s : Slot). s.0) same in
    let next : first_in xs ≡ first_in ys =
    slots_of_free (first_in xs) (first_in ys) (sym to_xs.0 ∙ ap (λ k. row_at k pages) here ∙ to_ys.0) in
    ap suc (one_length xs ys pages to_xs.1 to_ys.1 next)
  where
    slots_of_free : (a b : Slot) → Some (Free a) ≡ Some (Free b) → a ≡ b
    slots_of_free a b same = cc

-- the chain from a member on
suffix : (n : ℕ) (ns : List ℕ) (pages : Pages) → AreLinked ns pages → is_among n ns ≡ true
    → (rest : List ℕ) × (AreLinked (n ∷ rest) pages) × (length rest < length ns)
suffix n [] pages linked among = absurd (true≢false (sym among))
suffix n (m ∷ ns) pages linked among = elim (or_cases (n == m) (is_among n ns) among) [
  | inl here ↦
      (ns, (ap (λ k. row_at k pages) (eqb-true n m here) ∙ linked.0, linked.1), omega arith)
  | inr further ↦
      let found = suffix n ns pages linked.1 further in
      (found.0, found.1, omega (arith, found.2))
]

-- no slot is twice in a chain
pub once : (n : ℕ) (ns : List ℕ) (pages : Pages) → AreLinked (n ∷ ns) pages → is_among n ns ≡ false
once n ns pages linked = elim (cases_Bool (is_among n ns)) [
  | inl again ↦
      let found = suffix n ns pages linked.1 again in
      let same : length (n ∷ ns) ≡ length (n ∷ found.0) =
      one_length (n ∷ ns) (n ∷ found.0) pages linked found.1 refl in
      absurd (omega (arith, same, found.2))
  | inr never ↦ never
]
