-- What the pages and the maps of `Linked` tell of the rows that it keeps: what holds of all rows
-- that they may keep holds of those.
use Rattle.std.proofs.Common.{◌≡◌, ◌∙◌, ◌++◌, ◌∷◌, [], ℕ, List, Option, Some, None, ap, nat_lt, refl, sym, true}
use Rattle.std.proofs.Math.Logic.{∥∥₁_elim}
use Rattle.std.proofs.Props.{props}
use Rattle.std.specs.List.{find}
use Rattle.std.specs.Option.{IfSome, IsSome, IsSomeAnd, option_and_then, option_map}
use Rattle.std.specs.Str.{IsUtf8}
use Rattle.pl_base.specs.declared.id.ItemId.{ItemId}
use Rattle.pl_base.specs.declared.id.PageId.{PageId}
use Rattle.pl_base.specs.declared.id.Slot.{Slot}
use Rattle.pl_base.specs.declared.id.VisitId.{VisitId}
use Rattle.pl_base.specs.Rows.{KeptPage, first_id, has_origin, has_page, has_visit, mark_of, older_visit, origin_of, page_at, page_behind, page_visits}
use Rattle.pl_base.specs.Rows.{row_of, target_behind, title_of, total_at, url_of, visit_at}
use Rattle.pl_base.specs.Tree.{children_of, first_item, has_item, item_at, item_row, item_title, last_item, reference_behind}
use Rattle.pl_base.specs.Tree.{references, sibling_behind}
use Rattle.pl_record.specs.declared.rows.Item.{Item}
use Rattle.pl_record.specs.declared.rows.Place.{Place}
use Rattle.pl_record.specs.declared.rows.Visit.{Visit}
use Rattle.pl_record.specs.LinkedRows.{AreLinked, Entries, Keeps, id_behind, slot_at}
use Rattle.pl_record.specs.Rows.{item_in, origin_row, page_in, place_row, row_in, visit_in, visit_row}
use Rattle.pl_record.specs.Rows as spec
use Rattle.pl_record.proofs.ItemRowsTold as item_rows_told
use Rattle.pl_record.proofs.ItemsTold as items_told
use Rattle.pl_record.proofs.PagesTold as pages_told
use Rattle.pl_record.proofs.PagesTold.{page_numbered}
use Rattle.pl_record.proofs.TextOnce.{HasText-prop}
use Rattle.pl_record.proofs.VisitsTold as visits_told
use Rattle.pl_rail.specs.declared.owner.Owner.{Owner}
use Rattle.pl_rail.specs.declared.owner.Owner.TheVariants.{At}
use Rattle.pl_rail.specs.Rails.{Lists, first_of, last_of, named}
use Rattle.pl_sheets.specs.Sheets.{Pages}
use Rattle.pl_slot.specs.declared.kind.SlotKind.TheVariants as kinds
use Rattle.pl_slot.specs.declared.links.Rail.TheVariants.{Children, PageVisits, References, Targets}
use Rattle.pl_slot.specs.Arena.{header_of}
use Rattle.pl_slot.specs.Links.{kind_at}
use Rattle.pl_text.specs.Chunks.{HasText, HoldsText}

-- a value that is there, and what holds of it
pub some_and : {X : Type 0} (P : X → Type 0) (o : Option X) → IsSomeAnd o P → (x : X) × (o ≡ Some x) × P x
some_and P None holds = absurd holds
some_and P (Some x) holds = (x, refl, holds)

module _ (sheets : Pages) (pages visits items : Entries) (k : Keeps sheets pages visits items) where
  -- what follows from the rows holds, if it has one proof at most
  pub so : {P : Type 0} → IsProp P → (AreLinked k.kept k.targets sheets pages visits items → P) → P
  so prop from = ∥∥₁_elim k.linked prop from

  -- ---- pages

  pub page_kind : (id : PageId) (slot : Slot) → slot_at pages id.0 ≡ Some slot → kind_at slot.0 sheets ≡ Some kinds.Place
  page_kind id slot some =
      so (Prim.hlevel props) (λ l. pages_told.page_kind k.kept k.targets sheets pages visits items l id slot some)

  pub no_page : (id : PageId) → slot_at pages id.0 ≡ None → page_at k.kept id ≡ None
  no_page id nothing =
      so (Prim.hlevel props) (λ l. pages_told.no_page k.kept k.targets sheets pages visits items l id nothing)

  pub mark_told : (id : PageId) (slot : Slot) (place : Place) → slot_at pages id.0 ≡ Some slot → row_in slot sheets ≡ Some (place_row place)
      → Some place.mark ≡ option_map mark_of (page_at k.kept id)
  mark_told id slot place some read =
      so (Prim.hlevel props) (λ l. pages_told.mark_told k.kept k.targets sheets pages visits items l id slot place some read)

  pub origin_told : (id : PageId) (slot : Slot) (place : Place) → slot_at pages id.0 ≡ Some slot → row_in slot sheets ≡ Some (place_row place)
      → Some place.origin ≡ origin_of k.kept id
  origin_told id slot place some read =
      so (Prim.hlevel props) (λ l. pages_told.origin_told k.kept k.targets sheets pages visits items l id slot place some read)

  pub url_text : (id : PageId) (slot : Slot) (place : Place) → slot_at pages id.0 ≡ Some slot → row_in slot sheets ≡ Some (place_row place)
      → HasText place.url.slot place.url.length sheets
  url_text id slot place some read =
      so (HasText-prop place.url.slot place.url.length sheets) (λ l. pages_told.url_text k.kept k.targets sheets pages visits items l id slot place some read)

  pub url_utf8 : (id : PageId) (slot : Slot) (place : Place) → slot_at pages id.0 ≡ Some slot → row_in slot sheets ≡ Some (place_row place)
      → (text : List ℕ) → HoldsText place.url.slot text sheets → IsUtf8 text
  url_utf8 id slot place some read text held =
      so (Prim.hlevel props) (λ l. pages_told.url_utf8 k.kept k.targets sheets pages visits items l id slot place some read text held)

  pub url_told : (id : PageId) (slot : Slot) (place : Place) → slot_at pages id.0 ≡ Some slot → row_in slot sheets ≡ Some (place_row place)
      → (url : List ℕ)
      → ((text : List ℕ) → HoldsText place.url.slot text sheets → url ≡ text) → Some url ≡ url_of k.kept id
  url_told id slot place some read url is =
      so (Prim.hlevel props) (λ l. pages_told.url_told k.kept k.targets sheets pages visits items l id slot place some read url is)

  pub title_text : (id : PageId) (slot : Slot) (place : Place) → slot_at pages id.0 ≡ Some slot → row_in slot sheets ≡ Some (place_row place)
      → HasText place.title.slot place.title.length sheets
  title_text id slot place some read =
      so (HasText-prop place.title.slot place.title.length sheets) (λ l. pages_told.title_text k.kept k.targets sheets pages visits items l id slot place some read)

  pub title_utf8 : (id : PageId) (slot : Slot) (place : Place) → slot_at pages id.0 ≡ Some slot → row_in slot sheets ≡ Some (place_row place)
      → (text : List ℕ) → HoldsText place.title.slot text sheets → IsUtf8 text
  title_utf8 id slot place some read text held =
      so (Prim.hlevel props) (λ l. pages_told.title_utf8 k.kept k.targets sheets pages visits items l id slot place some read text held)

  pub title_told : (id : PageId) (slot : Slot) (place : Place) → slot_at pages id.0 ≡ Some slot → row_in slot sheets ≡ Some (place_row place)
      → (title : List ℕ)
      → ((text : List ℕ) → HoldsText place.title.slot text sheets → title ≡ text) → Some title ≡ title_of k.kept id
  title_told id slot place some read title is =
      so (Prim.hlevel props) (λ l. pages_told.title_told k.kept k.targets sheets pages visits items l id slot place some read title is)

  pub page_missing : (id : PageId) → has_page k.kept id ≡ true → slot_at pages id.0 ≡ None → ⊥
  page_missing id there nothing =
      so (Prim.hlevel props) (λ l. pages_told.page_missing k.kept k.targets sheets pages visits items l id there nothing)

  pub next_told : (n : ℕ) → option_map page_numbered (id_behind pages n)
      ≡ option_map (λ (p : KeptPage). p.page.id) (find (λ (p : KeptPage). nat_lt n p.page.id.0) k.kept.pages)
  next_told n =
      so (Prim.hlevel props) (λ l. pages_told.next_told k.kept k.targets sheets pages visits items l n)

  pub next_some : (n : ℕ) (page : Option PageId) (p : PageId) → page ≡ Some p → n ≡ p.0
      → option_map page_numbered (id_behind pages n) ≡ page_behind k.kept page
  next_some n page p is same =
      ap (λ m. option_map page_numbered (id_behind pages m)) same ∙ next_told p.0 ∙ sym (ap (page_behind k.kept) is)

  pub next_none : (n : ℕ) (page : Option PageId) → page ≡ None → n ≡ 0
      → option_map page_numbered (id_behind pages n) ≡ page_behind k.kept page
  next_none n page is same =
      ap (λ m. option_map page_numbered (id_behind pages m)) same ∙ next_told 0 ∙ sym (ap (page_behind k.kept) is)

  pub day_told : (header_of sheets).day ≡ k.kept.day
  day_told = so (Prim.hlevel props) (λ l. l.laid.header.day)

  pub ids_told : (header_of sheets).ids ≡ k.kept.ids
  ids_told = so (Prim.hlevel props) (λ l. l.laid.header.ids)

  pub origin_kind : (origin : Slot) → has_origin k.kept origin ≡ true → kind_at origin.0 sheets ≡ Some kinds.Origin
  origin_kind origin there =
      so (Prim.hlevel props) (λ l. pages_told.origin_kind k.kept k.targets sheets pages visits items l origin there)

  pub total_told : (origin : Slot) (total : ℕ) → has_origin k.kept origin ≡ true
      → row_in origin sheets ≡ Some (origin_row total) → Some total ≡ total_at k.kept origin
  total_told origin total there read =
      so (Prim.hlevel props) (λ l. pages_told.total_told k.kept k.targets sheets pages visits items l origin total there read)

  -- ---- visits

  pub visit_kind : (id : VisitId) (slot : Slot) → slot_at visits id.0 ≡ Some slot → kind_at slot.0 sheets ≡ Some kinds.Visit
  visit_kind id slot some =
      so (Prim.hlevel props) (λ l. visits_told.visit_kind k.kept k.targets sheets pages visits items l id slot some)

  pub no_visit : (id : VisitId) → slot_at visits id.0 ≡ None → visit_at k.kept id ≡ None
  no_visit id nothing =
      so (Prim.hlevel props) (λ l. visits_told.no_visit k.kept k.targets sheets pages visits items l id nothing)

  pub visit_missing : (id : VisitId) → has_visit k.kept id ≡ true → slot_at visits id.0 ≡ None → ⊥
  visit_missing id there nothing =
      so (Prim.hlevel props)
      (λ l. visits_told.visit_missing k.kept k.targets sheets pages visits items l id there nothing)

  pub own_page_kind : (id : VisitId) (slot : Slot) (row : Visit) → slot_at visits id.0 ≡ Some slot → row_in slot sheets ≡ Some (visit_row row)
      → kind_at row.page.0 sheets ≡ Some kinds.Place
  own_page_kind id slot row some read =
      so (Prim.hlevel props) (λ l. visits_told.own_page_kind k.kept k.targets sheets pages visits items l id slot row some read)

  pub source_kind : (id : VisitId) (slot : Slot) (row : Visit) → slot_at visits id.0 ≡ Some slot → row_in slot sheets ≡ Some (visit_row row)
      → IfSome (named row.source) (λ t. kind_at t.0 sheets ≡ Some kinds.Visit)
  source_kind id slot row some read =
      so (Prim.hlevel props) (λ l. visits_told.source_kind k.kept k.targets sheets pages visits items l id slot row some read)

  pub visit_told : (id : VisitId) (slot : Slot) (row : Visit) → slot_at visits id.0 ≡ Some slot → row_in slot sheets ≡ Some (visit_row row)
      → (page : PageId) (source : Option VisitId) → page_in sheets row.page ≡ Some page
      → source ≡ option_and_then (visit_in sheets) (named row.source)
      → Some (record { page = page; date = row.date; transition = row.transition; source = source })
      ≡ option_map row_of (visit_at k.kept id)
  visit_told id slot row some read page source page_read source_read =
      so (Prim.hlevel props) (λ l. visits_told.row_told k.kept k.targets sheets pages visits items l id slot row some read page source page_read source_read)

  pub latest_told_named : (id : PageId) (slot : Slot) (next : Option Slot) → slot_at pages id.0 ≡ Some slot
      → ((slots : List Slot) → Lists PageVisits (At slot) slots sheets → next ≡ first_of slots)
      → option_and_then (visit_in sheets) next ≡ first_id (page_visits k.kept id)
  latest_told_named id slot next some told =
      so (Prim.hlevel props) (λ l. (visits_told.latest_told k.kept k.targets sheets pages visits items l id slot next some told).named)

  pub latest_told_kind : (id : PageId) (slot : Slot) (next : Option Slot) → slot_at pages id.0 ≡ Some slot
      → ((slots : List Slot) → Lists PageVisits (At slot) slots sheets → next ≡ first_of slots)
      → IfSome next (λ s. kind_at s.0 sheets ≡ Some kinds.Visit)
  latest_told_kind id slot next some told =
      so (Prim.hlevel props) (λ l. (visits_told.latest_told k.kept k.targets sheets pages visits items l id slot next some told).kind)

  pub no_latest : (id : PageId) → slot_at pages id.0 ≡ None → first_id (page_visits k.kept id) ≡ None
  no_latest id nothing =
      so (Prim.hlevel props) (λ l. visits_told.no_latest k.kept k.targets sheets pages visits items l id nothing)

  pub older_told_named : (id : VisitId) (slot : Slot) (next : Option Slot) → slot_at visits id.0 ≡ Some slot
      → ((owner : Owner) (front back : List Slot) → Lists PageVisits owner (front ++ slot ∷ back) sheets
      → next ≡ first_of back) → option_and_then (visit_in sheets) next ≡ older_visit k.kept id
  older_told_named id slot next some told =
      so (Prim.hlevel props) (λ l. (visits_told.older_told k.kept k.targets sheets pages visits items l id slot next some told).named)

  pub older_told_kind : (id : VisitId) (slot : Slot) (next : Option Slot) → slot_at visits id.0 ≡ Some slot
      → ((owner : Owner) (front back : List Slot) → Lists PageVisits owner (front ++ slot ∷ back) sheets
      → next ≡ first_of back) → IfSome next (λ s. kind_at s.0 sheets ≡ Some kinds.Visit)
  older_told_kind id slot next some told =
      so (Prim.hlevel props) (λ l. (visits_told.older_told k.kept k.targets sheets pages visits items l id slot next some told).kind)

  pub first_target_told_named : (id : VisitId) (slot : Slot) (next : Option Slot) → slot_at visits id.0 ≡ Some slot
      → ((slots : List Slot) → Lists Targets (At slot) slots sheets → next ≡ first_of slots)
      → option_and_then (visit_in sheets) next ≡ first_id (k.targets id)
  first_target_told_named id slot next some told =
      so (Prim.hlevel props) (λ l. (visits_told.first_target_told k.kept k.targets sheets pages visits items l id slot next some told).named)

  pub first_target_told_kind : (id : VisitId) (slot : Slot) (next : Option Slot) → slot_at visits id.0 ≡ Some slot
      → ((slots : List Slot) → Lists Targets (At slot) slots sheets → next ≡ first_of slots)
      → IfSome next (λ s. kind_at s.0 sheets ≡ Some kinds.Visit)
  first_target_told_kind id slot next some told =
      so (Prim.hlevel props) (λ l. (visits_told.first_target_told k.kept k.targets sheets pages visits items l id slot next some told).kind)

  pub no_first_target : (id : VisitId) → slot_at visits id.0 ≡ None → first_id (k.targets id) ≡ None
  no_first_target id nothing =
      so (Prim.hlevel props) (λ l. visits_told.no_first_target k.kept k.targets sheets pages visits items l id nothing)

  pub target_told_named : (id : VisitId) (slot : Slot) (row : Visit) (next : Option Slot) → slot_at visits id.0 ≡ Some slot
      → row_in slot sheets ≡ Some (visit_row row) → IsSome (named row.source)
      → ((owner : Owner) (front back : List Slot) → Lists Targets owner (front ++ slot ∷ back) sheets
      → next ≡ first_of back) → option_and_then (visit_in sheets) next ≡ target_behind k.targets k.kept id
  target_told_named id slot row next some read there told =
      so (Prim.hlevel props) (λ l. (visits_told.target_told k.kept k.targets sheets pages visits items l id slot row next some read there told).named)

  pub target_told_kind : (id : VisitId) (slot : Slot) (row : Visit) (next : Option Slot) → slot_at visits id.0 ≡ Some slot
      → row_in slot sheets ≡ Some (visit_row row) → IsSome (named row.source)
      → ((owner : Owner) (front back : List Slot) → Lists Targets owner (front ++ slot ∷ back) sheets
      → next ≡ first_of back) → IfSome next (λ s. kind_at s.0 sheets ≡ Some kinds.Visit)
  target_told_kind id slot row next some read there told =
      so (Prim.hlevel props) (λ l. (visits_told.target_told k.kept k.targets sheets pages visits items l id slot row next some read there told).kind)

  pub no_target : (id : VisitId) (slot : Slot) (row : Visit) → slot_at visits id.0 ≡ Some slot → row_in slot sheets ≡ Some (visit_row row)
      → named row.source ≡ None → target_behind k.targets k.kept id ≡ None
  no_target id slot row some read nothing =
      so (Prim.hlevel props) (λ l. visits_told.no_target k.kept k.targets sheets pages visits items l id slot row some read nothing)

  -- ---- items

  pub item_kind : (id : ItemId) (slot : Slot) → slot_at items id.0 ≡ Some slot → kind_at slot.0 sheets ≡ Some kinds.Item
  item_kind id slot some =
      so (Prim.hlevel props) (λ l. item_rows_told.item_kind k.kept k.targets sheets pages visits items l id slot some)

  pub no_item : (id : ItemId) → slot_at items id.0 ≡ None → item_at k.kept.items id ≡ None
  no_item id nothing =
      so (Prim.hlevel props) (λ l. item_rows_told.no_item k.kept k.targets sheets pages visits items l id nothing)

  pub item_missing : (id : ItemId) → has_item k.kept.items id ≡ true → slot_at items id.0 ≡ None → ⊥
  item_missing id there nothing =
      so (Prim.hlevel props) (λ l. item_rows_told.item_missing k.kept k.targets sheets pages visits items l id there nothing)

  pub parent_kind : (id : ItemId) (slot : Slot) (row : Item) → slot_at items id.0 ≡ Some slot → row_in slot sheets ≡ Some (spec.item_row row)
      → IfSome (named row.parent) (λ t. kind_at t.0 sheets ≡ Some kinds.Item)
  parent_kind id slot row some read =
      so (Prim.hlevel props) (λ l. item_rows_told.parent_kind k.kept k.targets sheets pages visits items l id slot row some read)

  pub item_page_kind : (id : ItemId) (slot : Slot) (row : Item) → slot_at items id.0 ≡ Some slot → row_in slot sheets ≡ Some (spec.item_row row)
      → IfSome (named row.page) (λ t. kind_at t.0 sheets ≡ Some kinds.Place)
  item_page_kind id slot row some read =
      so (Prim.hlevel props) (λ l. item_rows_told.page_kind k.kept k.targets sheets pages visits items l id slot row some read)

  pub item_told : (id : ItemId) (slot : Slot) (row : Item) → slot_at items id.0 ≡ Some slot → row_in slot sheets ≡ Some (spec.item_row row)
      → (parent : Option ItemId) (page : Option PageId)
      → parent ≡ option_and_then (item_in sheets) (named row.parent)
      → page ≡ option_and_then (page_in sheets) (named row.page)
      → Some (record { kind = row.kind; parent = parent; page = page; added = row.added; modified = row.modified })
      ≡ option_map (item_row k.kept.items) (item_at k.kept.items id)
  item_told id slot row some read parent page parent_read page_read =
      so (Prim.hlevel props) (λ l. item_rows_told.row_told k.kept k.targets sheets pages visits items l id slot row some read parent page parent_read page_read)

  pub item_title_text : (id : ItemId) (slot : Slot) (row : Item) → slot_at items id.0 ≡ Some slot → row_in slot sheets ≡ Some (spec.item_row row)
      → HasText row.title.slot row.title.length sheets
  item_title_text id slot row some read =
      so (HasText-prop row.title.slot row.title.length sheets) (λ l. item_rows_told.item_title_text k.kept k.targets sheets pages visits items l id slot row some read)

  pub item_title_utf8 : (id : ItemId) (slot : Slot) (row : Item) → slot_at items id.0 ≡ Some slot → row_in slot sheets ≡ Some (spec.item_row row)
      → (text : List ℕ) → HoldsText row.title.slot text sheets → IsUtf8 text
  item_title_utf8 id slot row some read text held =
      so (Prim.hlevel props) (λ l. item_rows_told.item_title_utf8 k.kept k.targets sheets pages visits items l id slot row some read text held)

  pub item_title_told : (id : ItemId) (slot : Slot) (row : Item) → slot_at items id.0 ≡ Some slot → row_in slot sheets ≡ Some (spec.item_row row)
      → (title : List ℕ)
      → ((text : List ℕ) → HoldsText row.title.slot text sheets → title ≡ text) → Some title ≡ item_title k.kept.items id
  item_title_told id slot row some read title is =
      so (Prim.hlevel props) (λ l. item_rows_told.item_title_told k.kept k.targets sheets pages visits items l id slot row some read title is)

  pub first_child_told_named : (id : ItemId) (slot : Slot) (next : Option Slot) → slot_at items id.0 ≡ Some slot
      → ((slots : List Slot) → Lists Children (At slot) slots sheets → next ≡ first_of slots)
      → option_and_then (item_in sheets) next ≡ first_item (children_of k.kept.items id)
  first_child_told_named id slot next some told =
      so (Prim.hlevel props) (λ l. (items_told.first_child_told k.kept k.targets sheets pages visits items l id slot next some told).named)

  pub first_child_told_kind : (id : ItemId) (slot : Slot) (next : Option Slot) → slot_at items id.0 ≡ Some slot
      → ((slots : List Slot) → Lists Children (At slot) slots sheets → next ≡ first_of slots)
      → IfSome next (λ s. kind_at s.0 sheets ≡ Some kinds.Item)
  first_child_told_kind id slot next some told =
      so (Prim.hlevel props) (λ l. (items_told.first_child_told k.kept k.targets sheets pages visits items l id slot next some told).kind)

  pub last_child_told_named : (id : ItemId) (slot : Slot) (next : Option Slot) → slot_at items id.0 ≡ Some slot
      → ((slots : List Slot) → Lists Children (At slot) slots sheets → next ≡ last_of slots)
      → option_and_then (item_in sheets) next ≡ last_item (children_of k.kept.items id)
  last_child_told_named id slot next some told =
      so (Prim.hlevel props) (λ l. (items_told.last_child_told k.kept k.targets sheets pages visits items l id slot next some told).named)

  pub last_child_told_kind : (id : ItemId) (slot : Slot) (next : Option Slot) → slot_at items id.0 ≡ Some slot
      → ((slots : List Slot) → Lists Children (At slot) slots sheets → next ≡ last_of slots)
      → IfSome next (λ s. kind_at s.0 sheets ≡ Some kinds.Item)
  last_child_told_kind id slot next some told =
      so (Prim.hlevel props) (λ l. (items_told.last_child_told k.kept k.targets sheets pages visits items l id slot next some told).kind)

  pub no_children : (id : ItemId) → slot_at items id.0 ≡ None → children_of k.kept.items id ≡ []
  no_children id nothing =
      so (Prim.hlevel props) (λ l. items_told.no_children k.kept k.targets sheets pages visits items l id nothing)

  pub next_sibling_told_named : (id : ItemId) (slot : Slot) (row : Item) (next : Option Slot) → slot_at items id.0 ≡ Some slot
      → row_in slot sheets ≡ Some (spec.item_row row) → IsSome (named row.parent)
      → ((owner : Owner) (front back : List Slot) → Lists Children owner (front ++ slot ∷ back) sheets
      → next ≡ first_of back) → option_and_then (item_in sheets) next ≡ sibling_behind k.kept.items id
  next_sibling_told_named id slot row next some read there told =
      so (Prim.hlevel props) (λ l. (items_told.next_sibling_told k.kept k.targets sheets pages visits items l id slot row next some read there told).named)

  pub next_sibling_told_kind : (id : ItemId) (slot : Slot) (row : Item) (next : Option Slot) → slot_at items id.0 ≡ Some slot
      → row_in slot sheets ≡ Some (spec.item_row row) → IsSome (named row.parent)
      → ((owner : Owner) (front back : List Slot) → Lists Children owner (front ++ slot ∷ back) sheets
      → next ≡ first_of back) → IfSome next (λ s. kind_at s.0 sheets ≡ Some kinds.Item)
  next_sibling_told_kind id slot row next some read there told =
      so (Prim.hlevel props) (λ l. (items_told.next_sibling_told k.kept k.targets sheets pages visits items l id slot row next some read there told).kind)

  pub no_sibling : (id : ItemId) (slot : Slot) (row : Item) → slot_at items id.0 ≡ Some slot → row_in slot sheets ≡ Some (spec.item_row row)
      → named row.parent ≡ None → sibling_behind k.kept.items id ≡ None
  no_sibling id slot row some read nothing =
      so (Prim.hlevel props) (λ l. items_told.no_sibling k.kept k.targets sheets pages visits items l id slot row some read nothing)

  pub no_item_sibling : (id : ItemId) → slot_at items id.0 ≡ None → sibling_behind k.kept.items id ≡ None
  no_item_sibling id nothing =
      so (Prim.hlevel props) (λ l. items_told.no_item_sibling k.kept k.targets sheets pages visits items l id nothing)

  pub first_reference_told_named : (id : PageId) (slot : Slot) (next : Option Slot) → slot_at pages id.0 ≡ Some slot
      → ((slots : List Slot) → Lists References (At slot) slots sheets → next ≡ first_of slots)
      → option_and_then (item_in sheets) next ≡ first_item (references k.kept.items id)
  first_reference_told_named id slot next some told =
      so (Prim.hlevel props) (λ l. (items_told.first_reference_told k.kept k.targets sheets pages visits items l id slot next some told).named)

  pub first_reference_told_kind : (id : PageId) (slot : Slot) (next : Option Slot) → slot_at pages id.0 ≡ Some slot
      → ((slots : List Slot) → Lists References (At slot) slots sheets → next ≡ first_of slots)
      → IfSome next (λ s. kind_at s.0 sheets ≡ Some kinds.Item)
  first_reference_told_kind id slot next some told =
      so (Prim.hlevel props) (λ l. (items_told.first_reference_told k.kept k.targets sheets pages visits items l id slot next some told).kind)

  pub no_references : (page : PageId) → page_at k.kept page ≡ None → references k.kept.items page ≡ []
  no_references page nothing =
      so (Prim.hlevel props) (λ l. items_told.no_references k.kept k.targets sheets pages visits items l page nothing)

  pub next_reference_told_named : (id : ItemId) (slot : Slot) (row : Item) (next : Option Slot) → slot_at items id.0 ≡ Some slot
      → row_in slot sheets ≡ Some (spec.item_row row) → IsSome (named row.page)
      → ((owner : Owner) (front back : List Slot) → Lists References owner (front ++ slot ∷ back) sheets
      → next ≡ first_of back) → option_and_then (item_in sheets) next ≡ reference_behind k.kept.items id
  next_reference_told_named id slot row next some read there told =
      so (Prim.hlevel props) (λ l. (items_told.next_reference_told k.kept k.targets sheets pages visits items l id slot row next some read there told).named)

  pub next_reference_told_kind : (id : ItemId) (slot : Slot) (row : Item) (next : Option Slot) → slot_at items id.0 ≡ Some slot
      → row_in slot sheets ≡ Some (spec.item_row row) → IsSome (named row.page)
      → ((owner : Owner) (front back : List Slot) → Lists References owner (front ++ slot ∷ back) sheets
      → next ≡ first_of back) → IfSome next (λ s. kind_at s.0 sheets ≡ Some kinds.Item)
  next_reference_told_kind id slot row next some read there told =
      so (Prim.hlevel props) (λ l. (items_told.next_reference_told k.kept k.targets sheets pages visits items l id slot row next some read there told).kind)

  pub no_reference : (id : ItemId) (slot : Slot) (row : Item) → slot_at items id.0 ≡ Some slot → row_in slot sheets ≡ Some (spec.item_row row)
      → named row.page ≡ None → reference_behind k.kept.items id ≡ None
  no_reference id slot row some read nothing =
      so (Prim.hlevel props) (λ l. items_told.no_reference k.kept k.targets sheets pages visits items l id slot row some read nothing)
