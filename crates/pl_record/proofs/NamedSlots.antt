-- What the rows of slots name: a slot that holds the row of an origin, a page, a visit or an item
-- is that of one.
use Rattle.std.proofs.Common.{◌≡◌, ◌≢◌, ◌∙◌, ◌∷◌, ◌==◌, [], Bool, List, Some, None, ap}
use Rattle.std.proofs.Common.{find, map, refl}
use Rattle.std.proofs.Common.{sym, true}
use Rattle.std.specs.List.{All, AllByRecursion, list_any}
use Rattle.std.specs.Option.{option_and_then, option_map}
use Rattle.std.proofs.lemmas.List.Elements.{recursion_from_All}
use Rattle.pl_base.specs.declared.id.ItemId.{ItemId}
use Rattle.pl_base.specs.declared.id.PageId.{PageId}
use Rattle.pl_base.specs.declared.id.Slot.{Slot}
use Rattle.pl_base.specs.declared.id.VisitId.{VisitId}
use Rattle.pl_base.specs.Rows.{Kept, KeptPage, has_page, has_visit, page_at, visit_at}
use Rattle.pl_base.specs.Store.{Item, Visit}
use Rattle.pl_base.specs.Tree.{has_item, item_at}
use Rattle.pl_base.proofs.ItemLookUps.{same_item}
use Rattle.pl_base.proofs.ListLaws.{found_in}
use Rattle.pl_base.proofs.LookUps.{found_holds, found_passes}
use Rattle.pl_base.proofs.PageLaws.{id_at}
use Rattle.pl_base.proofs.Truths.{some_there}
use Rattle.pl_base.proofs.VisitsRun.{visit_is}
use Rattle.pl_record.specs.Records.{HoldsRow, HoldsRows, Layout, Record, item_record, page_record}
use Rattle.pl_record.specs.Records.{unlinked, visit_record}
use Rattle.pl_record.specs.Rows.{item_id, item_in, page_id, page_in, visit_id, visit_in}
use Rattle.pl_rail.specs.Rails.{none}
use Rattle.pl_sheets.specs.Sheets.{Pages}
use Rattle.pl_slot.specs.Arena.{row_at}
use Rattle.pl_slot.proofs.SlotPlaces.{no_slot}

-- ---- a slot holds one row

pub one_row : (r s : Record) (pages : Pages) → HoldsRow r pages → HoldsRow s pages → r.slot ≡ s.slot
    → r.row ≡ s.row
one_row r s pages first second same =
    let both : Some r.row ≡ Some s.row =
    sym first ∙ ap (λ (slot : Slot). option_map unlinked (row_at slot.0 pages)) same ∙ second in
    cc

-- slot 0 holds none
pub some_slot : (r : Record) (pages : Pages) → HoldsRow r pages → r.slot ≢ none
some_slot r pages holds zero =
    let nothing : None ≡ Some r.row =
    sym (ap (option_map unlinked) (no_slot 0 pages refl))
    ∙ sym (ap (λ (slot : Slot). option_map unlinked (row_at slot.0 pages)) zero) ∙ holds in
    absurd (cc)

-- ---- lists that name the same slots

pub matched : {X : Type 0} (P Q : X → Type 0) (f g : X → Slot) (xs ys : List X)
    → AllByRecursion P xs
    → AllByRecursion Q ys → ((x y : X) → P x → Q y → f x ≡ g y → x ≡ y) → map f xs ≡ map g ys → xs
    ≡ ys
matched P Q f g [] [] ps qs same slots = refl
matched P Q f g [] (y ∷ ys) ps qs same slots = absurd (cc)
matched P Q f g (x ∷ xs) [] ps qs same slots = absurd (cc)
matched P Q f g (x ∷ xs) (y ∷ ys) ps qs same slots =
    let head : f x ≡ g y = cc in
    let tail : map f xs ≡ map g ys = cc in
    let first : x ≡ y = same x y ps.0 qs.0 head in
    let rest : xs ≡ ys = matched P Q f g xs ys ps.1 qs.1 same tail in
    λ i. first i ∷ rest i

-- ---- what is found

pub found_of : {X : Type 0} (test : X → Bool) (xs : List X) → list_any test xs ≡ true → (x : X)
    × (find test xs ≡ Some x)
found_of test xs some = some_there (find test xs) (found_in test xs some)

-- what holds of all holds of the one that is found
pub found_all : {X : Type 0} (P : X → Type 0) (test : X → Bool) (xs : List X) (x : X) → All P xs
    → find test xs ≡ Some x
    → P x
found_all P test xs x all found = found_holds P test xs x (recursion_from_All P xs all) found

-- ---- the rows of a layout

module _ (at : Layout) (kept : Kept) (pages : Pages) (held : HoldsRows at kept pages) where
  -- the row of a page, a visit and an item that is found by its id
  pub page_row_is : (id : PageId) (p : KeptPage) → page_at kept id ≡ Some p
      → HoldsRow (page_record at p) pages
  page_row_is id p found =
      found_all (λ (q : KeptPage). HoldsRow (page_record at q) pages)
      (λ (q : KeptPage). q.page.id.0 == id.0) kept.pages p
      held.places found

  pub visit_row_is : (id : VisitId) (v : Visit) → visit_at kept id ≡ Some v
      → HoldsRow (visit_record at v) pages
  visit_row_is id v found =
      found_all (λ (w : Visit). HoldsRow (visit_record at w) pages) (λ (w : Visit). w.id.0 == id.0)
      kept.visits v
      held.visits found

  pub item_row_is : (id : ItemId) (i : Item) → item_at kept.items id ≡ Some i
      → HoldsRow (item_record at kept.items i) pages
  item_row_is id i found =
      found_all (λ (j : Item). HoldsRow (item_record at kept.items j) pages)
      (λ (j : Item). j.id.0 == id.0) kept.items i
      held.items found

  -- the slot of a page that is there says its id, and so of visits and items
  pub page_named : (id : PageId) → has_page kept id ≡ true
      → page_in pages (at.page id) ≡ Some id
  page_named id there =
      let found = found_of (λ (p : KeptPage). p.page.id.0 == id.0) kept.pages there in
      let here : found.0.page.id ≡ id = id_at kept id found.0 found.1 in
      ap (λ (i : PageId). page_in pages (at.page i)) (sym here)
      ∙ ap (option_and_then page_id) (page_row_is id found.0 found.1)
      ∙ ap (λ (i : PageId). Some i) here

  pub visit_named : (id : VisitId) → has_visit kept id ≡ true
      → visit_in pages (at.visit id) ≡ Some id
  visit_named id there =
      let found = found_of (λ (v : Visit). v.id.0 == id.0) kept.visits there in
      let here : found.0.id ≡ id = visit_is kept id found.0 found.1 in
      ap (λ (i : VisitId). visit_in pages (at.visit i)) (sym here)
      ∙ ap (option_and_then visit_id) (visit_row_is id found.0 found.1)
      ∙ ap (λ (i : VisitId). Some i) here

  pub item_named : (id : ItemId) → has_item kept.items id ≡ true
      → item_in pages (at.item id) ≡ Some id
  item_named id there =
      let found = found_of (λ (i : Item). i.id.0 == id.0) kept.items there in
      let here : found.0.id ≡ id =
      same_item found.0.id id
      (found_passes (λ (i : Item). i.id.0 == id.0) kept.items found.0 found.1) in
      ap (λ (i : ItemId). item_in pages (at.item i)) (sym here)
      ∙ ap (option_and_then item_id) (item_row_is id found.0 found.1)
      ∙ ap (λ (i : ItemId). Some i) here
