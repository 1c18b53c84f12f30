-- What holds of the rows once an item went with all below it, but of the pages that lost an item.
use Rattle.std.proofs.Common.{◌≡◌, ◌≢◌, ◌∙◌, ◌==◌, ◌&&◌, ◌||◌, ℕ, Bool, true, false, IsTrue, List, []}
use Rattle.std.proofs.Common.{◌∷◌, ap, arith, eq-eqb, filter, map, refl}
use Rattle.std.proofs.Common.{subst, sym}
use Rattle.std.specs.Prelude.{not}
use Rattle.std.specs.List.{AllByRecursion, list_any}
use Rattle.std.specs.List.Sorted.{IsStrictlyIncreasing}
use Rattle.std.proofs.lemmas.Bool.{eqb-false, eqb-true, ne_eqb, or_right}
use Rattle.std.proofs.lemmas.List.Elements.{All-from_recursion, recursion_from_All}
use Rattle.std.proofs.lemmas.List.Kept.{AllPairs-from_increasing}
use Rattle.pl_base.specs.declared.id.ItemId.{ItemId}
use Rattle.pl_base.specs.declared.id.PageId.{PageId}
use Rattle.pl_base.specs.Good.{HasGoodItems, IsGoodItem, has_page_at}
use Rattle.pl_base.specs.Marks.{is_referenced}
use Rattle.pl_base.specs.Rows.{IsSound, IsWellKept, Kept, KeptPage, has_page, store_of, with_items}
use Rattle.pl_base.specs.Store.{Item, Page, Store, roots}
use Rattle.pl_base.specs.Tree.{is_page, leaving, lies_in}
use Rattle.pl_base.proofs.ListLaws.{AllPairs-from_map, list_any-alike, list_any-map, weaker}
use Rattle.pl_base.proofs.LookUps.{none_pass}
use Rattle.pl_base.proofs.PageLaws.{page_of_item}
use Rattle.pl_tree.specs.Changes.{loses_item, with_removed}
use Rattle.pl_history.specs.Settled.{AreSettledBut}
use Rattle.pl_history.proofs.Dropped.{any_left}
use Rattle.pl_history.proofs.ItemMarks.{has_reference}
use Rattle.pl_editing.proofs.ItemsGone.{settled_with}

-- ---- a page that lost no item

-- an item has it as before
pub referenced_still : (items : List Item) (item : ItemId) (page : PageId) → loses_item items item page ≡ false
    → has_reference (with_removed item items) page ≡ has_reference items page
referenced_still items item page none =
    let gone : Item → Bool = λ (i : Item). lies_in items item i.id in
    let has : Item → Bool = λ (i : Item). is_page page i.page in
    list_any-map has (leaving item) (filter (λ (i : Item). not (gone i)) items)
    ∙ any_left gone has items (none_pass (λ (i : Item). gone i && has i) items none)

-- ---- the pages that lost one

second : (a b : Bool) → (a && b) ≡ true → b ≡ true
second true b both = both
second false b both = absurd (cc)

lost_there : (store : Store) (gone : Item → Bool) (page : PageId) (items : List Item)
    → AllByRecursion (IsGoodItem store) items
    → list_any (λ (i : Item). gone i && is_page page i.page) items ≡ true → has_page_at store page ≡ true
lost_there store gone page [] good lost = absurd (cc)
lost_there store gone page (i ∷ items) good lost =
    choose (gone i && is_page page i.page) refl lost (lost_there store gone page items good.1)
  where
    choose : (b : Bool) → (gone i && is_page page i.page) ≡ b
        → (b || list_any (λ (j : Item). gone j && is_page page j.page) items) ≡ true
        → (list_any (λ (j : Item). gone j && is_page page j.page) items ≡ true → has_page_at store page ≡ true)
        → has_page_at store page ≡ true
    choose true is here later =
        page_of_item store page i.page (second (gone i) (is_page page i.page) is) good.0.page
    choose false is here later = later here

each_among : (ids : List PageId)
    → AllByRecursion (λ (id : PageId). list_any (λ (i : PageId). i.0 == id.0) ids ≡ true) ids
each_among [] = tt
each_among (id ∷ ids) = (
  ap (λ (b : Bool). b || list_any (λ (i : PageId). i.0 == id.0) ids) (eq-eqb id.0 id.0 refl),
  weaker (λ (other : PageId). list_any (λ (i : PageId). i.0 == other.0) ids ≡ true)
      (λ (other : PageId). list_any (λ (i : PageId). i.0 == other.0) (id ∷ ids) ≡ true) ids
      (λ other among. or_right (id.0 == other.0) (list_any (λ (i : PageId). i.0 == other.0) ids) among)
      (each_among ids),
)

pub eqb_turned : (m n : ℕ) → (m == n) ≡ (n == m)
eqb_turned m n = choose (n == m) refl
  where
    choose : (b : Bool) → (n == m) ≡ b → (m == n) ≡ b
    choose true is = eq-eqb m n (sym (eqb-true n m is))
    choose false is = ne_eqb m n (λ same. eqb-false n m is (sym same))

-- ---- the rows

module _ (old : Kept) (items : List Item) (gone : Item → Bool) (lost : List PageId) (h : IsWellKept old)
    (sound : IsSound old)
    (losers : (page : PageId) → list_any (λ (l : PageId). l.0 == page.0) lost
    ≡ list_any (λ (i : Item). gone i && is_page page i.page) old.items)
    (still : (page : PageId) → list_any (λ (i : Item). gone i && is_page page i.page) old.items ≡ false
    → has_reference items page ≡ has_reference old.items page) where
  -- an item has a page that is not among the losers as before
  same_items : (page : PageId) → list_any (λ (id : PageId). page.0 == id.0) lost ≡ false
      → has_reference items page ≡ has_reference old.items page
  same_items page apart =
      still page
      (sym (losers page)
      ∙ list_any-alike (λ (l : PageId). l.0 == page.0) (λ (l : PageId). page.0 == l.0) lost
      (λ l. eqb_turned l.0 page.0) ∙ apart)

  settled_but : IsStrictlyIncreasing (map (λ (page : PageId). page.0) lost)
      → HasGoodItems (store_of (with_items items old)) → AreSettledBut lost (with_items items old)
  settled_but ascending good =
      settled_with old items lost h sound
      (All-from_recursion (λ (id : PageId). IsTrue (has_page old id)) lost
      (weaker (λ (id : PageId). list_any (λ (l : PageId). l.0 == id.0) lost ≡ true)
      (λ (id : PageId). IsTrue (has_page old id)) lost
      (λ id among.
      sym (list_any-map (λ (p : Page). p.id.0 == id.0) (λ (p : KeptPage). p.page) old.pages)
      ∙ lost_there (store_of old) gone id old.items
      (recursion_from_All (IsGoodItem (store_of old)) old.items sound.good.items)
      (sym (losers id) ∙ among))
      (each_among lost)))
      (AllPairs-from_map (λ (m n : ℕ). m ≢ n) (λ (page : PageId). page.0) lost
      (λ i j d before within same. omega (
        arith,
        AllPairs-from_increasing (map (λ (page : PageId). page.0) lost) ascending i j d before within,
      )))
      same_items good

pub lost_settled : (old new : Kept) (item : ItemId) (lost : List PageId) → IsWellKept old → IsSound old
    → new ≡ with_items (with_removed item old.items) old
    → IsStrictlyIncreasing (map (λ (page : PageId). page.0) lost)
    → ((page : PageId) → list_any (λ (l : PageId). l.0 == page.0) lost ≡ loses_item old.items item page)
    → HasGoodItems (store_of new) → AreSettledBut lost new
lost_settled old new item lost h sound is ascending losers good =
    subst (AreSettledBut lost) (sym is)
    (settled_but old (with_removed item old.items) (λ (i : Item). lies_in old.items item i.id) lost h sound losers
    (referenced_still old.items item) ascending (subst (λ (k : Kept). HasGoodItems (store_of k)) is good))

-- once all bookmarks and tags went
pub cleared_settled : (old new : Kept) (lost : List PageId) → IsWellKept old → IsSound old
    → new ≡ with_items roots old → IsStrictlyIncreasing (map (λ (page : PageId). page.0) lost)
    → ((page : PageId) → list_any (λ (l : PageId). l.0 == page.0) lost ≡ is_referenced (store_of old) page)
    → HasGoodItems (store_of new) → AreSettledBut lost new
cleared_settled old new lost h sound is ascending losers good =
    subst (AreSettledBut lost) (sym is)
    (settled_but old roots (λ (i : Item). true) lost h sound losers (λ page none. sym none) ascending
    (subst (λ (k : Kept). HasGoodItems (store_of k)) is good))
