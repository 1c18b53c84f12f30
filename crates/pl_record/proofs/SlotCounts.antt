-- How often a slot stands among those of rows and texts: once if it is live, and else not at all.
use Rattle.std.proofs.Common.{◌≡◌, ◌≢◌, ◌∙◌, ◌+◌, ◌++◌, ◌<◌, ◌≤◌, ◌||◌, ◌∷◌, [], ℕ, Bool, List, ap, arith, eq-eqb, eqb}
use Rattle.std.proofs.Common.{eqb-true}
use Rattle.std.proofs.Common.{false, get_or, inl, inr, length, refl, suc, sym, true, zero}
use Rattle.std.specs.List.{IsDistinct, flat_map, sum_by}
use Rattle.std.proofs.lemmas.Bool.{cases_eq, ne_eqb, true≢false}
use Rattle.std.proofs.lemmas.List.Sums.{get_or-le-sum_by, sum_by-cons}
use Rattle.std.proofs.lemmas.Map.Made.{AllPairs-from_IsDistinct, IsDistinct-from_AllPairs}
use Rattle.pl_base.specs.Rows.{Kept, KeptPage}
use Rattle.pl_base.specs.Store.{Item}
use Rattle.pl_base.proofs.KeyCounts.{count, count-append, count-cons, once_from_pairs, pairs_from_once, tick_other}
use Rattle.pl_base.proofs.KeyCounts.{tick_same}
use Rattle.pl_record.specs.Records.{HoldsOnce, Layout, row_slots, text_slots}
use Rattle.pl_sheets.specs.Sheets.{Pages}
use Rattle.pl_slot.specs.Arena.{is_among, is_live}

-- ---- in a list

abbrev pub times : ℕ → List ℕ → ℕ
times n ns = count (λ (m : ℕ). m) n ns

pub few_times : (ns : List ℕ) → IsDistinct eqb ns → (n : ℕ) → times n ns ≤ 1
few_times ns once n =
    once_from_pairs (λ (m : ℕ). m) ns
    (AllPairs-from_IsDistinct (λ a b. ((λ is. eqb-true a b is), (λ same. eq-eqb a b same))) ns once) n

pub distinct_few : (ns : List ℕ) → ((n : ℕ) → times n ns ≤ 1) → IsDistinct eqb ns
distinct_few ns few =
    IsDistinct-from_AllPairs (λ a b. ((λ is. eqb-true a b is), (λ same. eq-eqb a b same))) ns
    (pairs_from_once (λ (m : ℕ). m) ns few)

pub among_some : (n : ℕ) (ns : List ℕ) → is_among n ns ≡ true → 1 ≤ times n ns
among_some n [] among = absurd (true≢false (sym among))
among_some n (m ∷ ns) among = elim (cases_eq m n) [
  | inl same ↦ omega (arith, count-cons (λ (k : ℕ). k) n m ns, tick_same m n same)
  | inr apart ↦
      let rest : is_among n ns ≡ true =
      ap (λ (b : Bool). b || is_among n ns) (sym (ne_eqb n m (λ same. apart (sym same)))) ∙ among in
      omega (arith, count-cons (λ (k : ℕ). k) n m ns, among_some n ns rest)
]

pub some_among : (n : ℕ) (ns : List ℕ) → 1 ≤ times n ns → is_among n ns ≡ true
some_among n [] some = absurd (omega (arith, some))
some_among n (m ∷ ns) some = elim (cases_eq m n) [
  | inl same ↦ ap (λ (b : Bool). b || is_among n ns) (eq-eqb n m (sym same))
  | inr apart ↦
      ap (λ (b : Bool). b || is_among n ns) (ne_eqb n m (λ same. apart (sym same)))
      ∙ some_among n ns (omega (arith, some, count-cons (λ (k : ℕ). k) n m ns, tick_other m n apart))
]

pub none_among : (n : ℕ) (ns : List ℕ) → times n ns ≡ 0 → is_among n ns ≡ false
none_among n [] none = refl
none_among n (m ∷ ns) none = elim (cases_eq m n) [
  | inl same ↦ absurd (omega (arith, none, count-cons (λ (k : ℕ). k) n m ns, tick_same m n same))
  | inr apart ↦
      ap (λ (b : Bool). b || is_among n ns) (ne_eqb n m (λ same. apart (sym same)))
      ∙ none_among n ns (omega (arith, none, count-cons (λ (k : ℕ). k) n m ns))
]

pub none_times : (n : ℕ) (ns : List ℕ) → is_among n ns ≡ false → times n ns ≡ 0
none_times n ns none = elim (cases_eq (times n ns) 0) [
  | inl is ↦ is
  | inr some ↦ absurd (true≢false (sym (some_among n ns (at_least (times n ns) some)) ∙ none))
]
  where
    at_least : (k : ℕ) → k ≢ 0 → 1 ≤ k
    at_least zero some = absurd (some refl)
    at_least (suc k) some = omega arith

pub flat_times : {X : Type 0} (f : X → List ℕ) (n : ℕ) (xs : List X)
    → times n (flat_map f xs) ≡ sum_by (λ x. times n (f x)) xs
flat_times f n [] = refl
flat_times {X} f n (x ∷ xs) =
    omega (
      arith,
      count-append (λ (k : ℕ). k) n (f x) (flat_map f xs),
      flat_times f n xs,
      sum_by-cons (λ (y : X). times n (f y)) x xs,
    )

-- ---- in a layout

abbrev pub slot_times : Layout → Kept → ℕ → ℕ
slot_times at kept n = times n (row_slots at kept ++ text_slots at kept)

pub few_once : (at : Layout) (kept : Kept) (pages : Pages) → HoldsOnce at kept pages → (n : ℕ)
    → slot_times at kept n ≤ 1
few_once at kept pages once n = few_times (row_slots at kept ++ text_slots at kept) once.once n

pub live_once : (at : Layout) (kept : Kept) (pages : Pages) → HoldsOnce at kept pages → (n : ℕ)
    → is_live n pages ≡ true → 1 ≤ slot_times at kept n
live_once at kept pages once n live = among_some n (row_slots at kept ++ text_slots at kept) (once.whole n live)

pub once_counted : (at : Layout) (kept : Kept) (pages : Pages) → ((n : ℕ) → slot_times at kept n ≤ 1)
    → ((n : ℕ) → is_live n pages ≡ true → 1 ≤ slot_times at kept n) → HoldsOnce at kept pages
once_counted at kept pages few live =
    record {
      once = distinct_few (row_slots at kept ++ text_slots at kept) few;
      whole = λ n is. some_among n (row_slots at kept ++ text_slots at kept) (live n is);
    }

-- the slots of the texts of pages, and of the titles of items
abbrev pub page_texts : Layout → KeptPage → List ℕ
page_texts at p = at.url p.page.id ++ at.title p.page.id

pub texts_times : (at : Layout) (kept : Kept) (n : ℕ)
    → slot_times at kept n
    ≡ times n (row_slots at kept) + (sum_by (λ (p : KeptPage). times n (page_texts at p)) kept.pages
    + sum_by (λ (i : Item). times n (at.item_title i.id)) kept.items)
texts_times at kept n =
    omega (
      arith,
      count-append (λ (k : ℕ). k) n (row_slots at kept) (text_slots at kept),
      count-append (λ (k : ℕ). k) n (flat_map (page_texts at) kept.pages)
          (flat_map (λ (i : Item). at.item_title i.id) kept.items),
      flat_times (page_texts at) n kept.pages,
      flat_times (λ (i : Item). at.item_title i.id) n kept.items,
    )

-- each of these texts has its slots among them
module _ (at : Layout) (kept : Kept) (n : ℕ) where
  pub url_times : (k : ℕ) (d : KeptPage) → k < length kept.pages
      → times n (at.url (get_or kept.pages k d).page.id) ≤ slot_times at kept n
  url_times k d within =
      let p : KeptPage = get_or kept.pages k d in
      omega (
        arith,
        texts_times at kept n,
        get_or-le-sum_by (λ (q : KeptPage). times n (page_texts at q)) kept.pages k d within,
        count-append (λ (m : ℕ). m) n (at.url p.page.id) (at.title p.page.id),
      )

  pub title_times : (k : ℕ) (d : KeptPage) → k < length kept.pages
      → times n (at.title (get_or kept.pages k d).page.id) ≤ slot_times at kept n
  title_times k d within =
      let p : KeptPage = get_or kept.pages k d in
      omega (
        arith,
        texts_times at kept n,
        get_or-le-sum_by (λ (q : KeptPage). times n (page_texts at q)) kept.pages k d within,
        count-append (λ (m : ℕ). m) n (at.url p.page.id) (at.title p.page.id),
      )

  pub item_title_times : (k : ℕ) (d : Item) → k < length kept.items
      → times n (at.item_title (get_or kept.items k d).id) ≤ slot_times at kept n
  item_title_times k d within =
      omega (
        arith,
        texts_times at kept n,
        get_or-le-sum_by (λ (i : Item). times n (at.item_title i.id)) kept.items k d within,
      )
