-- What stands in the whole tree of a store: each node has the tags of its URL, and an import may take it.
use Rattle.std.proofs.Common.{◌≡◌, ◌∙◌, ◌==◌, ◌||◌, ℕ, All, Bool, true, false}
use Rattle.std.proofs.Common.{List, [], ◌∷◌, Option, Some, None, IfSome, IsTrue, ap, filter, find}
use Rattle.std.proofs.Common.{if◌then◌else◌, is_some, map, refl, sym}
use Rattle.std.specs.List.{AllByRecursion, list_any}
use Rattle.std.specs.Option.{option_and_then, option_map}
use Rattle.std.proofs.lemmas.Bool.{false≢true}
use Rattle.std.proofs.lemmas.List.Elements.{recursion_from_All}
use Rattle.pl_base.specs.declared.id.ItemId.{ItemId}
use Rattle.pl_base.specs.declared.id.PageId.{PageId}
use Rattle.pl_base.specs.Fold.{folded}
use Rattle.pl_base.specs.Good.{HasTags, IsGood, IsGoodItem, has_page_at}
use Rattle.pl_base.specs.Store.{Item, Page, Store, page_url}
use Rattle.pl_base.specs.Tags.{by_fold, has_tag, is_before, page_tags, tags_of}
use Rattle.pl_base.proofs.ListLaws.{all-filter, to_map}
use Rattle.pl_base.proofs.SortLaws.{all_sorted}
use Rattle.pl_marks.proofs.TagEntries.{differ_named, look, tag_entry, tags_found}
use Rattle.pl_nbread.specs.declared.tree.Node.{Node}
use Rattle.pl_graft.specs.Ready.{IsReady}
use Rattle.pl_graft.proofs.NodeLaws.{formed}
use Rattle.pl_outline.specs.Outline.{tags_at, whole_node}
use Rattle.pl_outline.proofs.Bare.{HasPages, retagged, url_tags, whole_below}
use Rattle.pl_outline.proofs.FirstStores.{good_pages}
use Rattle.pl_outline.proofs.PagesMore.{own_page}
use Rattle.pl_outline.proofs.PlainNodes.{whole_formed}
use Rattle.pl_outline.proofs.PlainTrees.{all_listed}
use Rattle.pl_outline.proofs.ShownNodes.{whole_title}
use Rattle.pl_outline.proofs.TagsMade.{MayCome}

-- ---- the tags of a node are those of its URL

own_tags : (store : Store) → HasPages store → (page : Option PageId)
    → IfSome page (λ id. IsTrue (has_page_at store id))
    → tags_at store page ≡ url_tags store (option_and_then (page_url store) page)
own_tags store h None there = refl
own_tags store h (Some id) there = choose (find (λ (p : Page). p.id.0 == id.0) store.pages) refl
  where
    absent : (pages : List Page) → list_any (λ (p : Page). p.id.0 == id.0) pages ≡ true
        → find (λ (p : Page). p.id.0 == id.0) pages ≡ None → ⊥
    absent [] some none = false≢true some
    absent (p ∷ ps) some none = other (p.id.0 == id.0) some none (absent ps)
      where
        other : (b : Bool) → (b || list_any (λ (q : Page). q.id.0 == id.0) ps) ≡ true
            → (if b then Some p else find (λ (q : Page). q.id.0 == id.0) ps) ≡ None
            → (list_any (λ (q : Page). q.id.0 == id.0) ps ≡ true
            → find (λ (q : Page). q.id.0 == id.0) ps ≡ None → ⊥) → ⊥
        other true some none rest = false≢true (sym (ap is_some none))
        other false some none rest = rest some none

    choose : (o : Option Page) → find (λ (p : Page). p.id.0 == id.0) store.pages ≡ o
        → page_tags store id ≡ url_tags store (option_map (λ (p : Page). p.url) o)
    choose None none = absurd (absent store.pages there none)
    choose (Some p) found = ap (page_tags store) (sym (own_page store id p h found))

-- a node has the tags of its URL
abbrev pub HasOwn : Store → Node → Type 0
HasOwn store node = node.tags ≡ url_tags store node.url

-- each node of a store's own tree has
own_below : (store : Store) → All (IsGoodItem store) store.items → HasPages store → (root : ItemId)
    → AllByRecursion (HasOwn store) (whole_below store root)
own_below store items h root =
    recursion_from_All (HasOwn store) (whole_below store root)
    (all_listed store items (whole_node store) (HasOwn store) (λ depth i good. own_tags store h i.page good.page) root)

-- a store's own tree is what its parts say
pub below_retagged : (store : Store) → IsReady store → HasPages store → (root : ItemId)
    → whole_below store root ≡ map (retagged store) (whole_below store root)
below_retagged store ready h root =
    each (whole_below store root) (own_below store ready.good.items h root)
  where
    each : (nodes : List Node) → AllByRecursion (HasOwn store) nodes → nodes ≡ map (retagged store) nodes
    each [] all = refl
    each (b ∷ bs) all =
        ap (λ (tags : List (List ℕ)). let c : Node = record b { tags = tags } in c ∷ bs) all.0
        ∙ ap (λ (cs : List Node). retagged store b ∷ cs) (each bs all.1)

-- ---- an import may take each node

-- the title is the one of a tag of the store
abbrev pub IsKnown : Store → List ℕ → Type 0
IsKnown store title = look (folded title) (map tag_entry (tags_of store)) ≡ Some title

known_tags : (store : Store) → HasTags store → (page : PageId)
    → AllByRecursion (IsKnown store) (page_tags store page)
known_tags store tags page =
    to_map (IsKnown store) (λ (t : Item). t.title) (by_fold (filter (has_tag store page) (tags_of store)))
    (all_sorted is_before (λ (t : Item). IsKnown store t.title) (filter (has_tag store page) (tags_of store))
    (all-filter (λ (t : Item). IsKnown store t.title) (has_tag store page) (tags_of store)
    (tags_found (tags_of store) (differ_named (tags_of store) tags.names))))

known_at : (store : Store) → HasTags store → (page : Option PageId)
    → AllByRecursion (IsKnown store) (tags_at store page)
known_at store tags None = tt
known_at store tags (Some id) = known_tags store tags id

-- a node that an import may take, with the tags that a store has for its URL
pub record MayReturn (store : Store) (node : Node) : Type 0 where
  pub own : HasOwn store node
  pub comes : MayCome (IsKnown store) node

pub whole_returns : (store : Store) → IsGood store → (depth : ℕ) (i : Item) → IsGoodItem store i
    → MayReturn store (whole_node store depth i)
whole_returns store good depth i own =
    record {
      own = own_tags store (good_pages store good) i.page own.page;
      comes = record {
        formed = formed (whole_node store depth i) (whole_formed store good depth i own);
        title = whole_title i.title own.title;
        tags = known_at store good.tags i.page;
      };
    }
