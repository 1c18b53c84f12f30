-- The tests of the six roots pass exactly where they stand as they stood at first.
use Rattle.std.proofs.Common.{◌≡◌, ◌∙◌, ◌==◌, ℕ, Bool, true, List, [], ◌∷◌, Option, Some, None}
use Rattle.std.proofs.Common.{ap, length, refl, subst, sym}
use Rattle.std.specs.Option.{IsSome, IsSomeAnd, is_none}
use Rattle.std.proofs.lemmas.Bool.{and_parts, eqb-true, false≢true}
use Rattle.pl_base.specs.declared.date.Micros.{Micros}
use Rattle.pl_base.specs.declared.id.ItemId.{ItemId}
use Rattle.pl_base.specs.declared.id.PageId.{PageId}
use Rattle.pl_base.specs.declared.item.ItemKind.{ItemKind}
use Rattle.pl_base.specs.declared.item.ItemKind.TheVariants.{Folder}
use Rattle.pl_base.specs.Store.{Item, item_id, root_folder, top_folders}
use Rattle.pl_base.specs.Tree.{has_item, item_at}
use Rattle.pl_check.specs.Items.{are_top_folders, has_root, has_top_folder, is_folder, is_plain_folder, is_root}
use Rattle.pl_check.specs.Items.{passes}
use Rattle.pl_base.proofs.ItemLookUps.{folder_kind}
use Rattle.pl_base.proofs.ListLaws.{some_in}
use Rattle.pl_base.proofs.LookUps.{found_passes}
use Rattle.pl_base.proofs.Truths.{no_length, none_there}

pub id_is : (id : ItemId) (n : ℕ) → (id.0 == n) ≡ true → id ≡ item_id n
id_is id n h = ap item_id (eqb-true id.0 n h)

first_moment : (m : Micros) → (m.0 == 0) ≡ true → m ≡ record { 0 = 0 }
first_moment m h = ap (λ (n : ℕ). record { 0 = n }) (eqb-true m.0 0 h)

-- a plain folder is a root but for its id and its children
plain : (i : Item) (n : ℕ) → (i.id.0 == n) ≡ true → is_plain_folder i ≡ true → i ≡ root_folder n i.children
plain i n id h =
    let last = and_parts _ (i.modified.0 == 0) h in
    let fourth = and_parts _ (i.added.0 == 0) last.0 in
    let third = and_parts _ (is_none i.page) fourth.0 in
    let second = and_parts (is_folder i.kind) (length i.title == 0) third.0 in
    alike i.id i.kind i.title i.page i.added i.modified (id_is i.id n id)
    (folder_kind is_folder refl refl i.kind second.0)
    (no_length i.title second.1) (none_there i.page third.1) (first_moment i.added fourth.1)
    (first_moment i.modified last.1)
  where
    alike : (id : ItemId) (kind : ItemKind) (title : List ℕ) (page : Option PageId) (added modified : Micros)
        → id ≡ item_id n → kind ≡ Folder → title ≡ [] → page ≡ None → added ≡ record { 0 = 0 }
        → modified ≡ record { 0 = 0 }
        → ◌≡◌ {A = Item} (record {
          id = id;
          kind = kind;
          title = title;
          page = page;
          added = added;
          modified = modified;
          children = i.children;
        }) (root_folder n i.children)
    alike id kind title page added modified e1 e2 e3 e4 e5 e6 = rw (e1, e2, e3, e4, e5, e6) refl

-- an item with the number that passes the test was found
found : (items : List Item) (n : ℕ) (test : Item → Bool) (o : Option Item) → item_at items (item_id n) ≡ o
    → passes test o ≡ true → (i : Item) × (o ≡ Some i) × ((i.id.0 == n) ≡ true) × (test i ≡ true)
found items n test None at h = absurd (false≢true h)
found items n test (Some i) at h = (i, refl, found_passes (λ (j : Item). j.id.0 == n) items i at, h)

pub top-to : (items : List Item) (n : ℕ) → has_top_folder items n ≡ true
    → IsSomeAnd (item_at items (item_id n)) (λ i. i ≡ root_folder n i.children)
top-to items n h =
    let at = found items n is_plain_folder (item_at items (item_id n)) refl h in
    subst (λ (o : Option Item). IsSomeAnd o (λ i. i ≡ root_folder n i.children)) (sym at.1) (plain at.0 n at.2 at.3)

pub top-from : (items : List Item) (n : ℕ)
    → IsSomeAnd (item_at items (item_id n)) (λ i. i ≡ root_folder n i.children) → has_top_folder items n ≡ true
top-from items n h = choose (item_at items (item_id n)) h
  where
    choose : (o : Option Item) → IsSomeAnd o (λ i. i ≡ root_folder n i.children) → passes is_plain_folder o ≡ true
    choose None h = absurd h
    choose (Some i) h = ap is_plain_folder h

tops : (ids : List ItemId) → are_top_folders ids ≡ true → ids ≡ top_folders
tops [] h = absurd (false≢true h)
tops (a ∷ []) h = absurd (false≢true h)
tops (a ∷ b ∷ []) h = absurd (false≢true h)
tops (a ∷ b ∷ c ∷ []) h = absurd (false≢true h)
tops (a ∷ b ∷ c ∷ d ∷ []) h = absurd (false≢true h)
tops (a ∷ b ∷ c ∷ d ∷ e ∷ f ∷ ids) h = absurd (false≢true h)
tops (a ∷ b ∷ c ∷ d ∷ e ∷ []) h =
    let last = and_parts _ (e.0 == 6) h in
    let fourth = and_parts _ (d.0 == 5) last.0 in
    let third = and_parts _ (c.0 == 4) fourth.0 in
    let second = and_parts (a.0 == 2) (b.0 == 3) third.0 in
    rw (id_is a 2 second.0, id_is b 3 second.1, id_is c 4 third.1, id_is d 5 fourth.1, id_is e 6 last.1) refl

pub root-to : (items : List Item) → has_root items ≡ true
    → item_at items (item_id 1) ≡ Some (root_folder 1 top_folders)
root-to items h =
    let at = found items 1 is_root (item_at items (item_id 1)) refl h in
    let parts = and_parts (is_plain_folder at.0) (are_top_folders at.0.children) at.3 in
    at.1 ∙ ap Some (plain at.0 1 at.2 parts.0 ∙ ap (root_folder 1) (tops at.0.children parts.1))

pub root-from : (items : List Item) → item_at items (item_id 1) ≡ Some (root_folder 1 top_folders)
    → has_root items ≡ true
root-from items h = ap (passes is_root) h

pub root_there : (items : List Item) → has_root items ≡ true → has_item items (item_id 1) ≡ true
root_there items h =
    some_in (λ (i : Item). i.id.0 == 1) items (subst (λ (o : Option Item). IsSome o) (sym (root-to items h)) refl)
