-- A row that was found, seen as what is kept.
use Rattle.std.proofs.Common.{Bor, ◌≡◌, ◌∙◌, ◌==◌, ℕ, Bool, true, List, Option}
use Rattle.std.proofs.Common.{Some, None, ap, find, map, nat_lt, refl, subst, sym}
use Rattle.std.specs.List.{list_any}
use Rattle.std.specs.Option.{IsSome, IsSomeAnd, option_copied, option_map}
use Rattle.pl_base.specs.declared.id.ItemId.{ItemId}
use Rattle.pl_base.specs.declared.id.PageId.{PageId}
use Rattle.pl_base.specs.declared.id.VisitId.{VisitId}
use Rattle.pl_base.specs.declared.item.ItemKind.TheVariants.{Folder}
use Rattle.pl_base.specs.Rows.{Kept, KeptPage, first_id, older_visit, page_behind, visit_at}
use Rattle.pl_base.specs.Store.{Item, Visit}
use Rattle.pl_base.specs.Tree.{IsFolder, has_item, item_at, item_title}
use Rattle.pl_plain.specs.declared.flat.row.FlatPage.{FlatPage}
use Rattle.pl_plain.specs.FlatRows.{page_of}
use Rattle.pl_plain.specs.Latest.{first_of}
use Rattle.pl_base.proofs.ListLaws.{find-map, found_in, list_any-map}
use Rattle.pl_base.proofs.LookUps.{found_some}
use Rattle.pl_plain.proofs.OlderVisits.{id_of-first}

-- none was found
pub none-found : {A B : Type 0} (p : B → Bool) (f : A → B) (xs ys : List A) (found : Option (Bor A)) → found ≡ None
    → option_copied found ≡ find (λ x. p (f x)) ys → ys ≡ xs → None ≡ find p (map f xs)
none-found p f xs ys found none is same =
    let at : None ≡ find (λ x. p (f x)) xs = ap option_copied (sym none) ∙ is ∙ ap (find (λ x. p (f x))) same in
    rw (find-map p f xs, ← at) refl

pub found-none : {A B C : Type 0} (p : B → Bool) (f : A → B) (g : B → C) (xs ys : List A) (found : Option (Bor A))
    → found ≡ None → option_copied found ≡ find (λ x. p (f x)) ys → ys ≡ xs → None ≡ option_map g (find p (map f xs))
found-none p f g xs ys found none is same = ap (option_map g) (none-found p f xs ys found none is same)

-- one was found
pub one-found : {A B : Type 0} (p : B → Bool) (f : A → B) (xs ys : List A) (found : Option (Bor A)) (x : Bor A)
    → found ≡ Some x → option_copied found ≡ find (λ x. p (f x)) ys → ys ≡ xs → Some (f x.now) ≡ find p (map f xs)
one-found p f xs ys found x some is same =
    let at : Some x.now ≡ find (λ x. p (f x)) xs = ap option_copied (sym some) ∙ is ∙ ap (find (λ x. p (f x))) same in
    rw (find-map p f xs, ← at) refl

pub found-some : {A B C : Type 0} (p : B → Bool) (f : A → B) (g : B → C) (xs ys : List A) (found : Option (Bor A))
    (x : Bor A) → found ≡ Some x → option_copied found ≡ find (λ x. p (f x)) ys → ys ≡ xs
    → Some (g (f x.now)) ≡ option_map g (find p (map f xs))
found-some p f g xs ys found x some is same = ap (option_map g) (one-found p f xs ys found x some is same)

-- one was found where there is one
pub found-there : {A B : Type 0} (p : B → Bool) (f : A → B) (xs ys : List A) (found : Option (Bor A))
    → option_copied found ≡ find (λ x. p (f x)) ys → ys ≡ xs → list_any p (map f xs) ≡ true → IsSome found
found-there p f xs ys found is same there =
    let some : IsSome (find (λ x. p (f x)) xs) = found_in (λ x. p (f x)) xs (sym (list_any-map p f xs) ∙ there) in
    is_some-copied found (is ∙ ap (find (λ x. p (f x))) same) some
  where
    is_some-copied : {A : Type 0} {o : Option A} (found : Option (Bor A)) → option_copied found ≡ o → IsSome o
        → IsSome found
    is_some-copied (Some x) is some = refl
    is_some-copied None is some = absurd (cc)

behind_at : (n : ℕ) (pages : List FlatPage)
    → option_map (λ (p : FlatPage). p.id) (find (λ (p : FlatPage). nat_lt n p.id.0) pages)
    ≡ option_map (λ (p : KeptPage). p.page.id) (find (λ (p : KeptPage). nat_lt n p.page.id.0) (map page_of pages))
behind_at n pages =
    rw (find-map (λ (p : KeptPage). nat_lt n p.page.id.0) page_of pages)
    (id_either (find (λ (p : FlatPage). nat_lt n p.id.0) pages))
  where
    id_either : (found : Option FlatPage)
        → option_map (λ (p : FlatPage). p.id) found
        ≡ option_map (λ (p : KeptPage). p.page.id) (option_map page_of found)
    id_either None = refl
    id_either (Some p) = refl

-- the page behind one, and the first
pub page_behind-some : (kept : Kept) (pages : List FlatPage) (after : Option PageId) (page : PageId)
    → kept.pages ≡ map page_of pages → after ≡ Some page
    → option_map (λ (p : FlatPage). p.id) (find (λ (p : FlatPage). nat_lt page.0 p.id.0) pages) ≡ page_behind kept after
page_behind-some kept pages after page rows is = rw (rows, is) (behind_at page.0 pages)

pub page_behind-none : (kept : Kept) (pages : List FlatPage) (after : Option PageId) → kept.pages ≡ map page_of pages
    → after ≡ None → option_map (λ (p : FlatPage). p.id) (find (λ (p : FlatPage). nat_lt 0 p.id.0) pages)
    ≡ page_behind kept after
page_behind-none kept pages after rows is = rw (rows, is) (behind_at 0 pages)

pub first_id-none : (vs : List Visit) → None ≡ first_of vs → None ≡ first_id vs
first_id-none vs none = ap (option_map (λ (v : Visit). v.id)) none ∙ id_of-first vs

pub first_id-some : (vs : List Visit) (v : Visit) → Some v ≡ first_of vs → Some v.id ≡ first_id vs
first_id-some vs v some = ap (option_map (λ (v : Visit). v.id)) some ∙ id_of-first vs

pub older_visit-none : (kept : Kept) (id : VisitId) → None ≡ visit_at kept id → None ≡ older_visit kept id
older_visit-none kept id none = rw (← none) refl

-- ---- items

-- a folder is there
pub folder_there : (items : List Item) (id : ItemId) → IsFolder items id → has_item items id ≡ true
folder_there items id folder = at (item_at items id) refl folder
  where
    at : (o : Option Item) → item_at items id ≡ o → IsSomeAnd o (λ (i : Item). i.kind ≡ Folder)
        → has_item items id ≡ true
    at None is folder = absurd folder
    at (Some i) is folder = found_some (λ (j : Item). j.id.0 == id.0) items i is

pub parent_there : (items : List Item) (parent : Option ItemId) → IsSomeAnd parent (IsFolder items)
    → IsSomeAnd parent (λ id. has_item items id ≡ true)
parent_there items None folder = absurd folder
parent_there items (Some id) folder = folder_there items id folder

-- the title of an item that is there is told
pub title_told : (id : ItemId) (items : List Item) (told : Option (Bor (List ℕ)))
    → option_map (λ (t : Bor (List ℕ)). t.now) told ≡ item_title items id → has_item items id ≡ true → IsSome told
title_told id items told is there =
    some_mapped told
    (subst IsSome (sym is)
    (some_mapped_to (item_at items id) (found_in (λ (i : Item). i.id.0 == id.0) items there)))
  where
    some_mapped : (o : Option (Bor (List ℕ))) → IsSome (option_map (λ (t : Bor (List ℕ)). t.now) o) → IsSome o
    some_mapped None some = absurd (cc)
    some_mapped (Some t) some = refl

    some_mapped_to : (o : Option Item) → IsSome o → IsSome (option_map (λ (i : Item). i.title) o)
    some_mapped_to None some = absurd (cc)
    some_mapped_to (Some i) some = refl

-- an item that is there, and its title
pub told_item : (id : ItemId) (items : List Item) (told : Option (Bor (List ℕ))) (t : Bor (List ℕ))
    → option_map (λ (t : Bor (List ℕ)). t.now) told ≡ item_title items id → told ≡ Some t
    → (i : Item) × (item_at items id ≡ Some i) × (i.title ≡ t.now)
told_item id items told t is some =
    at (item_at items id) refl (sym is ∙ ap (option_map (λ (t : Bor (List ℕ)). t.now)) some)
  where
    at : (o : Option Item) → item_at items id ≡ o → option_map (λ (i : Item). i.title) o ≡ Some t.now
        → (i : Item) × (item_at items id ≡ Some i) × (i.title ≡ t.now)
    at None here title = absurd (cc)
    at (Some i) here title = (i, here, cc)
