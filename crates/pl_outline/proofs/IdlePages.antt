-- The whole tree of a store is the same where the pages go that have neither a visit nor an item.
use Rattle.std.proofs.Common.{◌≡◌, ◌∙◌, ◌==◌, ℕ, Bool, true, false, List, [], ◌∷◌, Option, Some, None, ap, eq-eqb}
use Rattle.std.proofs.Common.{filter, find, if◌then◌else◌, length, refl, sym}
use Rattle.std.specs.Option.{option_and_then, option_map}
use Rattle.std.proofs.lemmas.Bool.{false≢true, or_right}
use Rattle.pl_base.specs.declared.id.ItemId.{ItemId}
use Rattle.pl_base.specs.declared.id.PageId.{PageId}
use Rattle.pl_base.specs.Good.{is_visited}
use Rattle.pl_base.specs.Marks.{is_referenced}
use Rattle.pl_base.specs.Removal.{is_standing, without_idle_pages}
use Rattle.pl_base.specs.Store.{Item, Page, Store, page_url}
use Rattle.pl_base.specs.Tags.{page_tags}
use Rattle.pl_base.specs.Tree.{is_page, item_at}
use Rattle.pl_base.proofs.IdsLaws.{same_page}
use Rattle.pl_base.proofs.LookUps.{found_any}
use Rattle.pl_nbread.specs.declared.tree.Node.{Node}
use Rattle.pl_outline.specs.Outline.{tags_at, whole, whole_node}
use Rattle.pl_outline.proofs.Bare.{trees_alike, whole_below}
use Rattle.pl_outline.proofs.Preorders.{shown_alike}

module _ (store : Store) where
  abbrev left : Store
  left = without_idle_pages store

  -- a page that an item has is found as before
  found_left : (id : PageId) → is_referenced store id ≡ true → (pages : List Page)
      → find (λ (p : Page). p.id.0 == id.0) (filter (λ (p : Page). is_standing store p.id) pages)
      ≡ find (λ (p : Page). p.id.0 == id.0) pages
  found_left id some [] = refl
  found_left id some (p ∷ ps) = choose (p.id.0 == id.0) refl (is_standing store p.id) refl (found_left id some ps)
    where
      rest : List Page
      rest = filter (λ (q : Page). is_standing store q.id) ps

      choose : (b : Bool) → (p.id.0 == id.0) ≡ b → (k : Bool) → is_standing store p.id ≡ k
          → find (λ (q : Page). q.id.0 == id.0) rest ≡ find (λ (q : Page). q.id.0 == id.0) ps
          → find (λ (q : Page). q.id.0 == id.0) (if k then p ∷ rest else rest)
          ≡ (if b then Some p else find (λ (q : Page). q.id.0 == id.0) ps)
      choose true is true stays others = rw is refl
      choose true is false gone others =
          absurd (false≢true (sym gone ∙ ap (is_standing store) (same_page p.id id is)
          ∙ or_right (is_visited store id) (is_referenced store id) some))
      choose false is true stays others = rw is others
      choose false is false gone others = others

  node_left : (c : ItemId) (i : Item) → item_at store.items c ≡ Some i → (d : ℕ)
      → whole_node left d i ≡ whole_node store d i
  node_left c i there d = choose i.page refl
    where
      made : Option (List ℕ) → List (List ℕ) → Node
      made url tags = record (whole_node store d i) { url = url; tags = tags }

      choose : (o : Option PageId) → i.page ≡ o
          → made (option_and_then (page_url left) o) (tags_at left o)
          ≡ made (option_and_then (page_url store) o) (tags_at store o)
      choose None is = refl
      choose (Some id) is =
          let some : is_referenced store id ≡ true =
          found_any (λ (j : Item). j.id.0 == c.0) (λ (j : Item). is_page id j.page) store.items i there
          (ap (is_page id) is ∙ eq-eqb id.0 id.0 refl) in
          ap (λ (o : Option Page). made (option_map (λ (p : Page). p.url) o) (page_tags store id))
          (found_left id some store.pages)

  pub whole_left : whole (without_idle_pages store) ≡ whole store
  whole_left =
      trees_alike (whole_below left) (whole_below store)
      (λ root. shown_alike (whole_node left) (whole_node store) store.items node_left (length store.items) 0 root)
