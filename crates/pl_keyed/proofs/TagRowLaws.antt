-- The tags as rows: what is found among them, and what a tag more makes of them.
use Rattle.std.proofs.Common.{◌≡◌, ◌≢◌, ◌+◌, ◌++◌, ◌==◌, ◌||◌, ◌∙◌, ℕ, Bool, true, false, List, [], ◌∷◌}
use Rattle.std.proofs.Common.{Option, Some, None, ap, arith, find, if◌then◌else◌, is_some, length, map, refl}
use Rattle.std.proofs.Common.{subst, suc, sym}
use Rattle.std.specs.Prelude.{bytes_eq}
use Rattle.std.specs.List.{AllByRecursion, AllPairs, list_any, sum_by}
use Rattle.std.specs.Option.{option_and_then, option_map, option_or}
use Rattle.std.proofs.Math.Seq.{take-length}
use Rattle.std.proofs.lemmas.Bool.{eq-eqb, ne_eqb}
use Rattle.std.proofs.lemmas.List.{length_push, map_push}
use Rattle.std.proofs.lemmas.List.Elements.{recursion_from_All}
use Rattle.std.proofs.lemmas.List.Sums.{sum_by-cons, sum_by_push}
use Rattle.std.proofs.lemmas.Option.{same_Some}
use Rattle.pl_base.specs.declared.date.Micros.{Micros}
use Rattle.pl_base.specs.declared.id.ItemId.{ItemId}
use Rattle.pl_base.specs.declared.id.PageId.{PageId}
use Rattle.pl_base.specs.Fold.{folded}
use Rattle.pl_base.specs.Store.{Item, item_id}
use Rattle.pl_base.specs.Tags.{tags_root}
use Rattle.pl_base.specs.Tree.{child_items, is_page, last_item}
use Rattle.pl_base.proofs.ItemLaws.{bare}
use Rattle.pl_base.proofs.ListLaws.{find-map, list_any-map, map-alike, map-map}
use Rattle.pl_base.proofs.LookUps.{found_holds}
use Rattle.pl_tree.specs.declared.place.Place.TheVariants.{End}
use Rattle.pl_tree.specs.Changes.{item_of}
use Rattle.pl_tree.specs.Places.{before}
use Rattle.pl_tree.specs.Tagged.{entry_in, new_entry, new_tag, tag_entry, tag_named}
use Rattle.pl_tree.proofs.GoodStores.{tag_lists, with_entry as with_entry_at}
use Rattle.pl_keyed.specs.KnownTags.{last_of}
use Rattle.pl_keyed.specs.TagRows.{TagEntry, TagRow, entered, entry_row, holds_in, new_row, row_with, tag_row}
use Rattle.pl_keyed.specs.TagRows.{tag_rows, with_entry, with_entry_in}

-- ---- rows and lists

abbrev pub row_of : (Item × List Item) → TagRow
row_of p = record { id = (p.0).id.0; title = (p.0).title; entries = map entry_row p.1 }

pub rows_of : (items : List Item) → tag_rows items ≡ map row_of (tag_lists items)
rows_of items = each (child_items items tags_root)
  where
    each : (ts : List Item)
        → map (tag_row items) ts
        ≡ map row_of (map (λ (t : Item). (t, map bare (child_items items t.id))) (map bare ts))
    each [] = refl
    each (t ∷ ts) =
        ap (λ (es : List TagEntry).
        let r : TagRow = record { id = t.id.0; title = t.title; entries = es } in r ∷ map (tag_row items) ts)
        (sym (map-map entry_row bare (child_items items t.id)))
        ∙ ap (λ (rs : List TagRow). row_of (bare t, map bare (child_items items t.id)) ∷ rs) (each ts)

-- ---- looking up

-- the row of the tag folder with the name
pub row_named : (items : List Item) (name : List ℕ)
    → row_with (folded name) (tag_rows items) ≡ option_map (tag_row items) (tag_named name items)
row_named items name =
    find-map (λ (r : TagRow). bytes_eq (folded r.title) (folded name)) (tag_row items) (child_items items tags_root)

pub named : (items : List Item) (name : List ℕ)
    → option_map (λ (t : Item). t.id) (tag_named name items)
    ≡ option_map (λ (r : TagRow). item_id r.id) (row_with (folded name) (tag_rows items))
named items name =
    same (tag_named name items) ∙ ap (option_map (λ (r : TagRow). item_id r.id)) (sym (row_named items name))
  where
    same : (o : Option Item)
        → option_map (λ (t : Item). t.id) o ≡ option_map (λ (r : TagRow). item_id r.id) (option_map (tag_row items) o)
    same None = refl
    same (Some t) = refl

some_found : {X : Type 0} (test : X → Bool) (xs : List X) → is_some (find test xs) ≡ list_any test xs
some_found test [] = refl
some_found test (x ∷ xs) = choose (test x) (some_found test xs)
  where
    choose : (b : Bool) → is_some (find test xs) ≡ list_any test xs
        → is_some (if b then Some x else find test xs) ≡ (b || list_any test xs)
    choose true rest = refl
    choose false rest = rest

pub held : (items : List Item) (page : PageId) (name : List ℕ)
    → is_some (tag_entry page name items) ≡ holds_in page (row_with (folded name) (tag_rows items))
held items page name = same (tag_named name items) ∙ ap (holds_in page) (sym (row_named items name))
  where
    same : (o : Option Item)
        → is_some (option_and_then (entry_in items page) o) ≡ holds_in page (option_map (tag_row items) o)
    same None = refl
    same (Some t) =
        some_found (λ (i : Item). is_page page i.page) (child_items items t.id)
        ∙ sym (list_any-map (λ (e : TagEntry). is_page page e.page) entry_row (child_items items t.id))

-- ---- the last

pub last_map : {X Y : Type 0} (f : X → Y) (xs : List X) → last_of (map f xs) ≡ option_map f (last_of xs)
last_map f [] = refl
last_map f (x ∷ []) = refl
last_map f (x ∷ y ∷ ys) = last_map f (y ∷ ys)

last_id : (ids : List ItemId) → last_item ids ≡ last_of ids
last_id [] = refl
last_id (c ∷ []) = refl
last_id (c ∷ d ∷ ds) = some (last_item ds) ∙ last_id (d ∷ ds)
  where
    some : (o : Option ItemId) → option_or (option_or o (Some d)) (Some c) ≡ option_or o (Some d)
    some None = refl
    some (Some e) = refl

-- what stands before the end is the last
pub before_end : (ids : List ItemId) → before End ids ≡ last_of ids
before_end ids = ap last_item (take-length ids) ∙ last_id ids

-- ---- a tag more

-- an entry more in a tag folder
pub rows_known : (lists : List (Item × List Item)) (folder : ItemId) (page : PageId) (date : Micros) (next : ℕ)
    → map row_of (map (with_entry_at folder (item_of (item_id next) (new_entry page date))) lists)
    ≡ map (with_entry folder.0 page next) (map row_of lists)
rows_known lists folder page date next =
    map-map row_of (with_entry_at folder entry) lists
    ∙ map-alike (λ p. row_of (with_entry_at folder entry p)) (λ p. with_entry folder.0 page next (row_of p)) lists each
    ∙ sym (map-map (with_entry folder.0 page next) row_of lists)
  where
    entry : Item
    entry = item_of (item_id next) (new_entry page date)

    each : (p : Item × List Item) → row_of (with_entry_at folder entry p) ≡ with_entry folder.0 page next (row_of p)
    each p = choose ((p.0).id.0 == folder.0)
      where
        choose : (b : Bool)
            → row_of (if b then (p.0, p.1 ++ entry ∷ []) else p)
            ≡ (if b
            then record (row_of p) { entries = (row_of p).entries ++ record { id = next; page = Some page } ∷ [] }
            else row_of p)
        choose true =
            ap (λ (es : List TagEntry). let r : TagRow = record (row_of p) { entries = es } in r)
            (map_push entry_row p.1 entry)
        choose false = refl

-- a new tag folder
pub rows_new : (lists : List (Item × List Item)) (page : PageId) (name : List ℕ) (date : Micros) (next : ℕ)
    → map row_of
    (lists
    ++ (item_of (item_id next) (new_tag name date), item_of (item_id (next + 1)) (new_entry page date) ∷ []) ∷ [])
    ≡ map row_of lists ++ new_row page name next ∷ []
rows_new lists page name date next =
    map_push row_of lists
    (item_of (item_id next) (new_tag name date), item_of (item_id (next + 1)) (new_entry page date) ∷ [])

-- ---- how many entries there are

abbrev pub entry_sum : List TagRow → ℕ
entry_sum rows = sum_by (λ (r : TagRow). length r.entries) rows

-- no row has the id
none_gets : (id next : ℕ) (page : PageId) (rows : List TagRow) → AllByRecursion (λ (r : TagRow). id ≢ r.id) rows
    → map (with_entry id page next) rows ≡ rows
none_gets id next page [] others = refl
none_gets id next page (r ∷ rows) others =
    rw (ne_eqb r.id id (λ same. others.0 (sym same)), none_gets id next page rows others.1) refl

one_gets : (test : TagRow → Bool) (rows : List TagRow) (row : TagRow) (page : PageId) (next : ℕ)
    → AllPairs (λ (a b : TagRow). a.id ≢ b.id) rows → find test rows ≡ Some row
    → entry_sum (map (with_entry row.id page next) rows) ≡ entry_sum rows + 1
one_gets test [] row page next apart found = absurd (cc)
one_gets test (r ∷ rows) row page next apart found =
    choose (test r) found
    (one_gets test rows row page next (λ i j d before within. apart (suc i) (suc j) d (omega arith) (omega arith)))
  where
    len : TagRow → ℕ
    len = λ (k : TagRow). length k.entries

    others : AllByRecursion (λ (k : TagRow). r.id ≢ k.id) rows
    others =
        recursion_from_All (λ (k : TagRow). r.id ≢ k.id) rows
        (λ k d within. apart 0 (suc k) d (omega arith) (omega arith))

    choose : (b : Bool) → (if b then Some r else find test rows) ≡ Some row
        → (find test rows ≡ Some row → entry_sum (map (with_entry row.id page next) rows) ≡ entry_sum rows + 1)
        → entry_sum (map (with_entry row.id page next) (r ∷ rows)) ≡ entry_sum (r ∷ rows) + 1
    choose true here rest =
        let same : r ≡ row = same_Some r row here in
        let entry : TagEntry = record { id = next; page = Some page } in
        let gets : with_entry row.id page next r ≡ record r { entries = r.entries ++ entry ∷ [] } =
        ap (λ (b : Bool). if b then record r { entries = r.entries ++ entry ∷ [] } else r)
        (eq-eqb r.id row.id (ap (λ (k : TagRow). k.id) same)) in
        let kept : map (with_entry row.id page next) rows ≡ rows =
        none_gets row.id next page rows
        (subst (λ (k : TagRow). AllByRecursion (λ (l : TagRow). k.id ≢ l.id) rows) same others) in
        omega (
          arith,
          sum_by-cons len (with_entry row.id page next r) (map (with_entry row.id page next) rows),
          sum_by-cons len r rows,
          ap len gets,
          length_push r.entries entry,
          ap entry_sum kept,
        )
    choose false here rest =
        let other : r.id ≢ row.id = found_holds (λ (k : TagRow). r.id ≢ k.id) test rows row others here in
        let entry : TagEntry = record { id = next; page = Some page } in
        let kept : with_entry row.id page next r ≡ r =
        ap (λ (b : Bool). if b then record r { entries = r.entries ++ entry ∷ [] } else r) (ne_eqb r.id row.id other) in
        omega (
          arith,
          sum_by-cons len (with_entry row.id page next r) (map (with_entry row.id page next) rows),
          sum_by-cons len r rows,
          ap len kept,
          rest here,
        )

pub count_entered : (rows : List TagRow) (page : PageId) (name : List ℕ) (next : ℕ)
    → AllPairs (λ (a b : TagRow). a.id ≢ b.id) rows
    → entry_sum (entered page name next rows)
    ≡ entry_sum rows + (if holds_in page (row_with (folded name) rows) then 0 else 1)
count_entered rows page name next apart =
    choose (row_with (folded name) rows) (holds_in page (row_with (folded name) rows)) refl
  where
    choose : (o : Option TagRow) (b : Bool) → row_with (folded name) rows ≡ o
        → entry_sum (if b then rows else with_entry_in o page name next rows)
        ≡ entry_sum rows + (if b then 0 else 1)
    choose o true is = omega arith
    choose None false is = sum_by_push (λ (r : TagRow). length r.entries) rows (new_row page name next)
    choose (Some row) false is =
        one_gets (λ (r : TagRow). bytes_eq (folded r.title) (folded name)) rows row page next apart is
