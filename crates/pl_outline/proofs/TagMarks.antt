-- Which pages have which tags, by the rows of tags, and what one tag more makes of it.
use Rattle.std.proofs.Common.{◌≡◌, ◌≢◌, ◌∙◌, ◌++◌, ◌==◌, ◌&&◌, ◌||◌, ℕ, Bool, true, false, List, [], ◌∷◌}
use Rattle.std.proofs.Common.{Option, Some, None, ap, bytes_eq, eq-eqb, find, if◌then◌else◌, map, refl, subst, sym}
use Rattle.std.specs.List.{AllByRecursion, list_any}
use Rattle.std.proofs.lemmas.Bool.{and_from, and_parts, eqb-true}
use Rattle.std.proofs.lemmas.List.Folds.{list_any-append}
use Rattle.std.proofs.lemmas.Option.{same_Some}
use Rattle.std.proofs.lemmas.Slice.Eq.{bytes_eq-Decides}
use Rattle.pl_base.specs.declared.id.ItemId.{ItemId}
use Rattle.pl_base.specs.declared.id.PageId.{PageId}
use Rattle.pl_base.specs.Fold.{folded}
use Rattle.pl_base.specs.Store.{Item, Store}
use Rattle.pl_base.specs.Tags.{tags_of, tags_root}
use Rattle.pl_base.specs.Tree.{is_page}
use Rattle.pl_base.proofs.IdsLaws.{same_page}
use Rattle.pl_base.proofs.ListLaws.{any-and, any-or, any-where, from_map, list_any-alike, list_any-map, to_map, weaker}
use Rattle.pl_base.proofs.ListLaws.{all_push}
use Rattle.pl_base.proofs.LookUps.{Apart, found_any, found_holds, found_passes}
use Rattle.pl_base.proofs.OneParent.{Once}
use Rattle.pl_base.proofs.ChildrenRun.{children_once}
use Rattle.pl_tree.proofs.GoodStores as stores
use Rattle.pl_keyed.specs.TagRows.{TagEntry, TagRow, entered, holds, holds_in, new_row, row_with, tag_row, tag_rows}
use Rattle.pl_keyed.specs.TagRows.{with_entry, with_entry_in}
use Rattle.pl_graft.specs.Ready.{IsReady}

-- a page stands in a tag folder with the title
abbrev pub marks : PageId → List ℕ → List TagRow → Bool
marks page title rows = list_any (λ (r : TagRow). bytes_eq r.title title && holds page r) rows

-- a text is among some
abbrev pub has_text : List ℕ → List (List ℕ) → Bool
has_text text texts = list_any (λ (t : List ℕ). bytes_eq t text) texts

-- ---- tests

pub or_false : (b : Bool) → (b || false) ≡ b
or_false true = refl
or_false false = refl

-- what is told already
pub absorbed : (a b : Bool) → (b ≡ true → a ≡ true) → a ≡ (a || b)
absorbed true b rest = refl
absorbed false true rest = rest refl
absorbed false false rest = refl

spread : (a h p : Bool) → (a && (h || (p || false))) ≡ ((a && h) || (a && p))
spread false h p = refl
spread true true p = refl
spread true false true = refl
spread true false false = refl

last_test : (a p : Bool) → ((a && (p || false)) || false) ≡ (a && p)
last_test false p = refl
last_test true true = refl
last_test true false = refl

-- ---- ids

abbrev row_key : TagRow → ℕ
row_key r = r.id

-- no two rows of tags have the same id
pub row_ids : (store : Store) → IsReady store → Apart (λ (r : TagRow). r.id) (tag_rows store.items)
row_ids store r =
    rows (tags_of store)
    (subst Once (sym (stores.child_list store store.ids.item r.good r.ascending r.below r.first tags_root))
    (children_once store.items tags_root r.good.tree))
  where
    other_id : (a b : ItemId) → a ≢ b → b.0 ≢ a.0
    other_id a b other same = other (ap (λ (n : ℕ). let id : ItemId = record { 0 = n } in id) (sym same))

    rows : (ts : List Item) → Once (map (λ (t : Item). t.id) ts) → Apart row_key (map (tag_row store.items) ts)
    rows [] once = tt
    rows (t ∷ ts) once = (
      to_map (λ (x : TagRow). x.id ≢ t.id.0) (tag_row store.items) ts
          (weaker (λ (i : Item). t.id ≢ i.id) (λ (i : Item). i.id.0 ≢ t.id.0) ts (λ i other. other_id t.id i.id other)
          (from_map (λ (id : ItemId). t.id ≢ id) (λ (i : Item). i.id) ts once.0)),
      rows ts once.1,
    )

-- a row with the id of one that is found has its title
title_at : (test : TagRow → Bool) (rows : List TagRow) (row : TagRow) → Apart row_key rows → find test rows ≡ Some row
    → AllByRecursion (λ (r : TagRow). (r.id == row.id) ≡ true → r.title ≡ row.title) rows
title_at test [] row apart found = tt
title_at test (x ∷ xs) row apart found = choose (test x) found (title_at test xs row apart.1)
  where
    choose : (b : Bool) → (if b then Some x else find test xs) ≡ Some row
        → (find test xs ≡ Some row
        → AllByRecursion (λ (r : TagRow). (r.id == row.id) ≡ true → r.title ≡ row.title) xs)
        → AllByRecursion (λ (r : TagRow). (r.id == row.id) ≡ true → r.title ≡ row.title) (x ∷ xs)
    choose true here rest =
        let same : x ≡ row = same_Some x row here in (
          λ _. ap (λ (r : TagRow). r.title) same,
          weaker (λ (r : TagRow). r.id ≢ x.id) (λ (r : TagRow). (r.id == row.id) ≡ true → r.title ≡ row.title) xs
              (λ r other is.
              absurd (other (eqb-true r.id row.id is ∙ sym (ap row_key same))))
              apart.0,
        )
    choose false here rest = (
      λ is.
          absurd (found_holds (λ (r : TagRow). r.id ≢ x.id) test xs row apart.0 here (sym (eqb-true x.id row.id is))),
      rest here,
    )

-- ---- a tag more for a page

module _ (page : PageId) (name : List ℕ) (next : ℕ) (other : PageId) (title : List ℕ) where
  -- the page has the tag that it gets
  abbrev gets : Bool
  gets = bytes_eq name title && (page.0 == other.0)

  -- an entry more in one of the rows
  gains : (tag : ℕ) (r : TagRow)
      → (bytes_eq (with_entry tag page next r).title title && holds other (with_entry tag page next r))
      ≡ ((bytes_eq r.title title && holds other r)
      || ((r.id == tag) && (bytes_eq r.title title && (page.0 == other.0))))
  gains tag r = choose (r.id == tag)
    where
      choose : (b : Bool)
          → (bytes_eq (if b
          then record r { entries = r.entries ++ record { id = next; page = Some page } ∷ [] }
          else r).title title
          && holds other (if b
          then record r { entries = r.entries ++ record { id = next; page = Some page } ∷ [] }
          else r))
          ≡ ((bytes_eq r.title title && holds other r) || (b && (bytes_eq r.title title && (page.0 == other.0))))
      choose true =
          ap (λ (b : Bool). bytes_eq r.title title && b)
          (list_any-append (λ (e : TagEntry). is_page other e.page) r.entries
          (record { id = next; page = Some page } ∷ []))
          ∙ spread (bytes_eq r.title title) (holds other r) (page.0 == other.0)
      choose false = sym (or_false (bytes_eq r.title title && holds other r))

  marks_known : (rows : List TagRow) (row : TagRow) → Apart row_key rows → row_with (folded name) rows ≡ Some row
      → row.title ≡ name
      → marks other title (map (with_entry row.id page next) rows) ≡ (marks other title rows || gets)
  marks_known rows row apart found named =
      list_any-map (λ (r : TagRow). bytes_eq r.title title && holds other r) (with_entry row.id page next) rows
      ∙ list_any-alike
      (λ (r : TagRow).
      bytes_eq (with_entry row.id page next r).title title && holds other (with_entry row.id page next r))
      (λ (r : TagRow).
      (bytes_eq r.title title && holds other r)
      || ((r.id == row.id) && (bytes_eq r.title title && (page.0 == other.0))))
      rows (gains row.id)
      ∙ any-or (λ (r : TagRow). bytes_eq r.title title && holds other r)
      (λ (r : TagRow). (r.id == row.id) && (bytes_eq r.title title && (page.0 == other.0))) rows
      ∙ ap (λ (b : Bool). marks other title rows || b)
      (any-where (λ (r : TagRow). (r.id == row.id) && (bytes_eq r.title title && (page.0 == other.0)))
      (λ (r : TagRow). (r.id == row.id) && gets) rows
      (weaker (λ (r : TagRow). (r.id == row.id) ≡ true → r.title ≡ row.title)
      (λ (r : TagRow). ((r.id == row.id) && (bytes_eq r.title title && (page.0 == other.0)))
      ≡ ((r.id == row.id) && gets)) rows (λ r same. agree r (r.id == row.id) refl same)
      (title_at (λ (r : TagRow). bytes_eq (folded r.title) (folded name)) rows row apart found))
      ∙ any-and (λ (r : TagRow). r.id == row.id) gets rows
      ∙ ap (λ (b : Bool). b && gets)
      (found_any (λ (r : TagRow). bytes_eq (folded r.title) (folded name)) (λ (r : TagRow). r.id == row.id) rows row
      found (eq-eqb row.id row.id refl)))
    where
      agree : (r : TagRow) (b : Bool) → (r.id == row.id) ≡ b → ((r.id == row.id) ≡ true → r.title ≡ row.title)
          → (b && (bytes_eq r.title title && (page.0 == other.0))) ≡ (b && gets)
      agree r true is same =
          ap (λ (t : List ℕ). bytes_eq t title && (page.0 == other.0)) (same is ∙ named)
      agree r false is same = refl

  marks_new : (rows : List TagRow)
      → marks other title (rows ++ new_row page name next ∷ []) ≡ (marks other title rows || gets)
  marks_new rows =
      list_any-append (λ (r : TagRow). bytes_eq r.title title && holds other r) rows (new_row page name next ∷ [])
      ∙ ap (λ (b : Bool). marks other title rows || b) (last_test (bytes_eq name title) (page.0 == other.0))

  marks_had : (rows : List TagRow) (row : TagRow) → row_with (folded name) rows ≡ Some row → row.title ≡ name
      → holds page row ≡ true → marks other title rows ≡ (marks other title rows || gets)
  marks_had rows row found named has =
      absorbed (marks other title rows) gets (λ is.
      let parts = and_parts (bytes_eq name title) (page.0 == other.0) is in
      found_any (λ (r : TagRow). bytes_eq (folded r.title) (folded name))
      (λ (r : TagRow). bytes_eq r.title title && holds other r) rows row found
      (and_from (bytes_eq row.title title) (holds other row)
      (ap (λ (t : List ℕ). bytes_eq t title) named ∙ parts.0)
      (ap (λ (p : PageId). holds p row) (sym (same_page page other parts.1)) ∙ has)))

-- ---- titles of which no two have the same fold

-- the titles of the rows are known
abbrev pub AreKnown : (List ℕ → Type 0) → List TagRow → Type 0
AreKnown Known rows = AllByRecursion (λ (r : TagRow). Known r.title) rows

module _ (Known : List ℕ → Type 0) (one : (a b : List ℕ) → Known a → Known b → folded a ≡ folded b → a ≡ b) where
  titled : (name : List ℕ) (rows : List TagRow) (row : TagRow) → Known name → AreKnown Known rows
      → row_with (folded name) rows ≡ Some row → row.title ≡ name
  titled name rows row known all found =
      one row.title name
      (found_holds (λ (r : TagRow). Known r.title) (λ (r : TagRow). bytes_eq (folded r.title) (folded name)) rows row
      all found)
      known
      ((bytes_eq-Decides (folded row.title) (folded name)).0
      (found_passes (λ (r : TagRow). bytes_eq (folded r.title) (folded name)) rows row found))

  pub marks_entered : (page : PageId) (name : List ℕ) (next : ℕ) (rows : List TagRow) → Known name → AreKnown Known rows
      → Apart (λ (r : TagRow). r.id) rows → (other : PageId) (title : List ℕ)
      → marks other title (entered page name next rows)
      ≡ (marks other title rows || (bytes_eq name title && (page.0 == other.0)))
  marks_entered page name next rows known all apart other title = choose (row_with (folded name) rows) refl
    where
      here : (row : TagRow) (b : Bool) → row_with (folded name) rows ≡ Some row → holds page row ≡ b
          → marks other title (if b then rows else map (with_entry row.id page next) rows)
          ≡ (marks other title rows || (bytes_eq name title && (page.0 == other.0)))
      here row true found has =
          marks_had page name next other title rows row found (titled name rows row known all found) has
      here row false found has =
          marks_known page name next other title rows row apart found (titled name rows row known all found)

      choose : (o : Option TagRow) → row_with (folded name) rows ≡ o
          → marks other title (if holds_in page o then rows else with_entry_in o page name next rows)
          ≡ (marks other title rows || (bytes_eq name title && (page.0 == other.0)))
      choose None found = marks_new page name next other title rows
      choose (Some row) found = here row (holds page row) found refl

  pub known_entered : (page : PageId) (name : List ℕ) (next : ℕ) (rows : List TagRow) → Known name → AreKnown Known rows
      → AreKnown Known (entered page name next rows)
  known_entered page name next rows known all =
      choose (holds_in page (row_with (folded name) rows)) (row_with (folded name) rows)
    where
      entry_title : (tag : ℕ) (r : TagRow) → (with_entry tag page next r).title ≡ r.title
      entry_title tag r = own (r.id == tag)
        where
          own : (b : Bool) → (if b
              then record r { entries = r.entries ++ record { id = next; page = Some page } ∷ [] }
              else r).title ≡ r.title
          own true = refl
          own false = refl

      choose : (b : Bool) (o : Option TagRow)
          → AreKnown Known (if b then rows else with_entry_in o page name next rows)
      choose true o = all
      choose false None = all_push (λ (r : TagRow). Known r.title) rows (new_row page name next) all known
      choose false (Some row) =
          to_map (λ (r : TagRow). Known r.title) (with_entry row.id page next) rows
          (weaker (λ (r : TagRow). Known r.title) (λ (r : TagRow). Known (with_entry row.id page next r).title) rows
          (λ r h. subst Known (sym (entry_title row.id r)) h) all)
