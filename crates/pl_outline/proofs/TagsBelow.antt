-- What stands below folders that take items stays where pages get tags.
use Rattle.std.proofs.Common.{◌≡◌, ◌≢◌, ◌∙◌, ◌<◌, ◌+◌, ◌-◌, ◌==◌, ℕ, Bool, true, false, List, []}
use Rattle.std.proofs.Common.{◌∷◌, Option, Some, None, IfSome, ap, arith, if◌then◌else◌, inr, length, refl}
use Rattle.std.proofs.Common.{subst, sym}
use Rattle.std.specs.Prelude.{IsTrue, bytes_eq, unwrap_or}
use Rattle.std.specs.List.{AllByRecursion, list_all, list_any}
use Rattle.std.specs.Option.{is_none, is_some, option_map}
use Rattle.std.proofs.lemmas.Bool.{and_parts, both_ways, ne_eqb}
use Rattle.pl_base.specs.declared.date.Micros.{Micros}
use Rattle.pl_base.specs.declared.id.ItemId.{ItemId}
use Rattle.pl_base.specs.declared.id.PageId.{PageId}
use Rattle.pl_base.specs.Date.{IsDate}
use Rattle.pl_base.specs.Fold.{folded}
use Rattle.pl_base.specs.Good.{IsTree, has_page_at}
use Rattle.pl_base.specs.Store.{Item, Page, Store, item_id}
use Rattle.pl_base.specs.Tags.{is_tags_root, tags_root}
use Rattle.pl_base.specs.Tree.{child_items, children_of, item_at, parent_of}
use Rattle.pl_base.proofs.ListLaws.{weaker}
use Rattle.pl_base.proofs.LookUps.{found_holds}
use Rattle.pl_base.proofs.ItemLookUps.{hold_all, same_item_number}
use Rattle.pl_nbread.specs.declared.tree.Node.{Node}
use Rattle.pl_tree.specs.declared.place.Place.TheVariants.{End}
use Rattle.pl_tree.specs.Changes.{item_of, with_new}
use Rattle.pl_tree.specs.Refused.{is_tag}
use Rattle.pl_tree.specs.Tagged.{new_entry, new_tag, tag_entry, tag_named, tagged_items}
use Rattle.pl_words.specs.TagName.{is_tag_name}
use Rattle.pl_words.proofs.TagTests.{named_by_test}
use Rattle.pl_graft.specs.Import.{tagged_store, with_tag, with_tags, with_tags_of}
use Rattle.pl_graft.specs.Ready.{IsReady, Takes}
use Rattle.pl_graft.proofs.NodeLaws.{IsFormed, pages_tag}
use Rattle.pl_graft.proofs.Ready.{children_tag, ready_tag, takes_tag}
use Rattle.pl_outline.specs.Outline.{preorder}
use Rattle.pl_outline.proofs.OneMore.{children_other, same_below}
use Rattle.pl_outline.proofs.Preorders.{enough, have_parent, own_id}
use Rattle.pl_outline.proofs.ShownNodes.{shown}
use Rattle.pl_outline.proofs.Spines.{child_below, found_below, no_first, no_top, taking}

-- what is shown below a folder, without tags
abbrev pub below_of : Store → ItemId → List Node
below_of store c = preorder (shown store.pages) (length store.items) store.items 0 c

-- ---- what stays

-- a later store, where folders that took items do so still, and the same stands below them
pub record Stays (old new : Store) : Type 0 where
  pub ready : IsReady new
  pub pages : new.pages ≡ old.pages
  pub next_page : new.ids.page ≡ old.ids.page
  pub takes : (c : ItemId) → Takes old c → Takes new c
  pub children : (c : ItemId) → Takes old c → children_of new.items c ≡ children_of old.items c
  pub below : (c : ItemId) → Takes old c → below_of new c ≡ below_of old c

pub stays_same : (store : Store) → IsReady store → Stays store store
stays_same store r =
    record {
      ready = r;
      pages = refl;
      next_page = refl;
      takes = λ c t. t;
      children = λ c t. refl;
      below = λ c t. refl;
    }

pub stays_then : (a b c : Store) → Stays a b → Stays b c → Stays a c
stays_then a b c first next =
    record {
      ready = next.ready;
      pages = next.pages ∙ first.pages;
      next_page = next.next_page ∙ first.next_page;
      takes = λ x t. next.takes x (first.takes x t);
      children = λ x t. next.children x (first.takes x t) ∙ first.children x t;
      below = λ x t. next.below x (first.takes x t) ∙ first.below x t;
    }

-- ---- a tag

module _ (store : Store) (r : IsReady store) (page : PageId) (date : Micros) (name : List ℕ) where
  abbrev items : List Item
  items = store.items

  abbrev next : ℕ
  next = store.ids.item

  tree : IsTree items
  tree = r.good.tree

  -- ids that are not of tags, nor item 1
  abbrev Clear : ItemId → Type 0
  Clear c = (c.0 ≢ 1) × (c.0 ≢ 4) × (is_tag items c ≡ false) × (c.0 < next)

  clear_takes : (c : ItemId) → Takes store c → Clear c
  clear_takes c takes =
      let t = taking items c takes in
      (t.not_first, t.not_tags, t.no_tag, found_below store r c t.folder t.there)

  clear_closed : (c : ItemId) → Clear c → AllByRecursion Clear (children_of items c)
  clear_closed c clear = join (children_of items c) (have_parent items c tree) (child_below store r c)
    where
      join : (xs : List ItemId) → AllByRecursion (λ (x : ItemId). parent_of items x ≡ Some c) xs
          → AllByRecursion (λ (x : ItemId). x.0 < next) xs → AllByRecursion Clear xs
      join [] parents below = tt
      join (x ∷ xs) parents below = (
        (
          no_first store r x c parents.0,
          no_top store r 4 (inr refl) x c parents.0 clear.0,
          ap is_tags_root parents.0 ∙ ne_eqb c.0 4 clear.1,
          below.0,
        ),
        join xs parents.1 below.1,
      )

  -- the folder of a tag is one of tags
  tag_apart : (t : Item) → tag_named name items ≡ Some t → (c : ItemId) → Clear c → c.0 ≢ t.id.0
  tag_apart t found c clear same =
      let parent : parent_of items t.id ≡ Some tags_root =
      found_holds (λ (i : Item). parent_of items i.id ≡ Some tags_root)
      (λ (i : Item). bytes_eq (folded i.title) (folded name)) (child_items items tags_root) t
      (hold_all (λ (i : Item). parent_of items i.id ≡ Some tags_root) (item_at items) (children_of items tags_root)
      (weaker (λ (x : ItemId). parent_of items x ≡ Some tags_root)
      (λ (x : ItemId). (i : Item) → item_at items x ≡ Some i → parent_of items i.id ≡ Some tags_root)
      (children_of items tags_root) (λ x above i is. ap (parent_of items) (own_id items x i is) ∙ above)
      (have_parent items tags_root tree)))
      found in
      let tag : is_tag items t.id ≡ true = ap is_tags_root parent in
      both_ways (is_tag items c) clear.2 (ap (is_tag items) (same_item_number c t.id same) ∙ tag)

  -- as `tagged_items` has it
  abbrev tagged_by : Option Item → List Item
  tagged_by tag =
      with_new (item_id (next + ((if is_none tag then 2 else 1) - 1)))
      (unwrap_or (option_map (λ (i : Item). i.id) tag) (item_id next)) End (new_entry page date)
      (if is_none tag then with_new (item_id next) tags_root End (new_tag name date) items else items)

  abbrev mid : List Item
  mid = with_new (item_id next) tags_root End (new_tag name date) items

  mid_apart : (c : ItemId) → Clear c → (c.0 ≢ 4) × (c.0 ≢ next)
  mid_apart c clear = (clear.1, λ same. omega (arith, clear.3))

  last_apart : (c : ItemId) → Clear c → (c.0 ≢ next) × (c.0 ≢ next + 1)
  last_apart c clear = (λ same. omega (arith, clear.3), λ same. omega (arith, clear.3))

  module _ {N : Type 0} (show : ℕ → Item → N) (many : ℕ) (c : ItemId) (clear : Clear c) where
    known_below : (t : Item) → tag_named name items ≡ Some t
        → preorder show many (tagged_by (Some t)) 0 c ≡ preorder show many items 0 c
    known_below t found =
        same_below items t.id (item_id (next + 0)) (item_of (item_id (next + 0)) (new_entry page date)) refl Clear
        (λ x off. (tag_apart t found x off, λ same. omega (arith, off.3))) clear_closed show many 0 c clear

    new_below : preorder show many (tagged_by None) 0 c ≡ preorder show many items 0 c
    new_below =
        same_below mid (item_id next) (item_id (next + 1)) (item_of (item_id (next + 1)) (new_entry page date)) refl
        Clear last_apart
        (λ x off.
        subst (AllByRecursion Clear)
        (sym (children_other items tags_root (item_id next) (item_of (item_id next) (new_tag name date)) refl x
        (mid_apart x off).0 (mid_apart x off).1)) (clear_closed x off)) show many 0 c clear
        ∙ same_below items tags_root (item_id next) (item_of (item_id next) (new_tag name date)) refl Clear mid_apart
        clear_closed show many 0 c clear

    tagged_below : preorder show many (tagged_items next page name date items) 0 c ≡ preorder show many items 0 c
    tagged_below = choose (tag_named name items) refl
      where
        choose : (o : Option Item) → tag_named name items ≡ o
            → preorder show many (tagged_by o) 0 c ≡ preorder show many items 0 c
        choose None is = new_below
        choose (Some t) is = known_below t is

  tag_below : (c : ItemId) → Takes store c → IsReady (with_tag page date name store)
      → below_of (with_tag page date name store) c ≡ below_of store c
  tag_below c takes = choose (is_some (tag_entry page name items))
    where
      tagged : Store
      tagged = tagged_store page name date store

      choose : (b : Bool) → IsReady (if b then store else tagged)
          → below_of (if b then store else tagged) c ≡ below_of store c
      choose true ready = refl
      choose false ready =
          let many : ℕ = length items + length tagged.items in
          sym (enough (shown store.pages) tagged.items ready.good.tree many 0 c (omega arith))
          ∙ tagged_below (shown store.pages) many c (clear_takes c takes)
          ∙ enough (shown store.pages) items tree many 0 c (omega arith)

  next_page_tag : (with_tag page date name store).ids.page ≡ store.ids.page
  next_page_tag = choose (is_some (tag_entry page name items))
    where
      choose : (b : Bool) → (if b then store else tagged_store page name date store).ids.page ≡ store.ids.page
      choose true = refl
      choose false = refl

  stays_tag : IsDate date → is_tag_name name ≡ true → IsTrue (has_page_at store page)
      → Stays store (with_tag page date name store)
  stays_tag dated named there =
      let ready : IsReady (with_tag page date name store) =
      ready_tag store page date name r (named_by_test name named) dated there in
      record {
        ready = ready;
        pages = pages_tag store page date name;
        next_page = next_page_tag;
        takes = takes_tag store page date name r;
        children = children_tag store page date name r;
        below = λ c takes. tag_below c takes ready;
      }

-- ---- some tags

pub stays_tags : (page : PageId) (date : Micros) → IsDate date → (names : List (List ℕ)) (store : Store)
    → IsReady store → list_all is_tag_name names ≡ true → IsTrue (has_page_at store page)
    → Stays store (with_tags page date names store)
stays_tags page date dated [] store r named there = stays_same store r
stays_tags page date dated (name ∷ names) store r named there =
    let parts = and_parts (is_tag_name name) (list_all is_tag_name names) named in
    let one : Stays store (with_tag page date name store) = stays_tag store r page date name dated parts.0 there in
    stays_then store (with_tag page date name store) (with_tags page date (name ∷ names) store) one
    (stays_tags page date dated names (with_tag page date name store) one.ready parts.1
    (ap (λ (pages : List Page). list_any (λ (p : Page). p.id.0 == page.0) pages) one.pages
    ∙ there))

pub stays_tags_of : (node : Node) → IsFormed node → (page : Option PageId) (store : Store) → IsReady store
    → IfSome page (λ id. IsTrue (has_page_at store id)) → Stays store (with_tags_of page node store)
stays_tags_of node formed None store r there = stays_same store r
stays_tags_of node formed (Some id) store r there =
    stays_tags id node.added formed.added node.tags store r formed.tags there
