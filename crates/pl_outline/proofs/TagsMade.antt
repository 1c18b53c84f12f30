-- Which URLs have which tags behind an import: those that they had, and those of its nodes.
use Rattle.std.proofs.Common.{◌≡◌, ◌∙◌, ◌==◌, ◌&&◌, ◌||◌, ℕ, Bool, true, false, List, [], ◌∷◌, Option, Some, None}
use Rattle.std.proofs.Common.{IfSome, IsTrue, ap, bytes_eq, if◌then◌else◌, refl, subst, sym}
use Rattle.std.specs.List.{AllByRecursion, list_all, list_any}
use Rattle.std.specs.Option.{is_some}
use Rattle.std.proofs.lemmas.Bool.{and_parts}
use Rattle.pl_base.specs.declared.date.Micros.{Micros}
use Rattle.pl_base.specs.declared.id.ItemId.{ItemId}
use Rattle.pl_base.specs.declared.id.PageId.{PageId}
use Rattle.pl_base.specs.Date.{IsDate}
use Rattle.pl_base.specs.Fold.{folded}
use Rattle.pl_base.specs.Good.{IsTitle, has_page_at}
use Rattle.pl_base.specs.Store.{Page, Store, item_id}
use Rattle.pl_base.specs.Title.{cut_title}
use Rattle.pl_base.specs.Tree.{is_page}
use Rattle.pl_base.specs.Visiting.{page_for, with_page_for}
use Rattle.pl_nbread.specs.declared.tree.Node.{Node}
use Rattle.pl_tree.specs.Tagged.{tag_entry}
use Rattle.pl_words.specs.TagName.{is_tag_name}
use Rattle.pl_words.proofs.TagTests.{named_by_test}
use Rattle.pl_keyed.specs.NamedUrls.{is_url}
use Rattle.pl_keyed.specs.TagRows.{TagRow, tag_rows}
use Rattle.pl_graft.specs.Import.{folder_of, folders_behind, node_row, page_of, tagged_store, with_item_of, with_node}
use Rattle.pl_graft.specs.Import.{with_nodes, with_page_of, with_tag, with_tags, with_tags_of}
use Rattle.pl_graft.specs.Ready.{IsReady, Takes}
use Rattle.pl_graft.proofs.ItemsKept.{items_page_of}
use Rattle.pl_graft.proofs.NodeLaws.{IsFormed, behind_take, folder_takes, node_takes, page_there, pages_tag, there_tag}
use Rattle.pl_graft.proofs.NodeLaws.{pages_tags, ready_item_of, ready_page_of, takes_node, takes_page_of}
use Rattle.pl_graft.proofs.Ready.{ready_tag, tags_row, tags_tag}
use Rattle.pl_outline.proofs.Bare.{HasPages}
use Rattle.pl_outline.proofs.PagesMore.{found_for, has_pages_for, has_pages_same, marks_page, page_for_same}
use Rattle.pl_outline.proofs.PagesMore.{page_of_url}
use Rattle.pl_outline.proofs.TagMarks.{AreKnown, has_text, known_entered, marks, marks_entered, or_false, row_ids}
use Rattle.pl_outline.proofs.ShownNodes.{pages_more_of}

-- a URL has a tag
abbrev pub url_marks : Store → List ℕ → List ℕ → Bool
url_marks store url title = marks (page_for store url).id title (tag_rows store.items)

-- one of the nodes has the URL and the tag
abbrev pub told : List ℕ → List ℕ → List Node → Bool
told url title nodes = list_any (λ (n : Node). has_text title n.tags && is_url url n.url) nodes

-- ---- tests

or_moved : (a b c : Bool) → ((a || b) || c) ≡ (a || (b || c))
or_moved true b c = refl
or_moved false b c = refl

both_or : (m a s b : Bool) → ((m || (a && s)) || (b && s)) ≡ (m || ((a || b) && s))
both_or true a s b = refl
both_or false true true b = refl
both_or false true false true = refl
both_or false true false false = refl
both_or false false s b = refl

-- ---- what stays where a page gets a tag

next_tag : (store : Store) (id : PageId) (date : Micros) (name : List ℕ)
    → (with_tag id date name store).ids.page ≡ store.ids.page
next_tag store id date name = choose (is_some (tag_entry id name store.items))
  where
    choose : (b : Bool) → (if b then store else tagged_store id name date store).ids.page ≡ store.ids.page
    choose true = refl
    choose false = refl

next_tags : (id : PageId) (date : Micros) (names : List (List ℕ)) (store : Store)
    → (with_tags id date names store).ids.page ≡ store.ids.page
next_tags id date [] store = refl
next_tags id date (name ∷ names) store =
    next_tags id date names (with_tag id date name store) ∙ next_tag store id date name

pages_tags_of : (page : Option PageId) (node : Node) (store : Store)
    → (with_tags_of page node store).pages ≡ store.pages
pages_tags_of None node store = refl
pages_tags_of (Some id) node store = pages_tags id node.added node.tags store

next_tags_of : (page : Option PageId) (node : Node) (store : Store)
    → (with_tags_of page node store).ids.page ≡ store.ids.page
next_tags_of None node store = refl
next_tags_of (Some id) node store = next_tags id node.added node.tags store

-- ---- the page of a node

-- the page of a node is that of a URL where the URLs are one
page_is : (url : Option (List ℕ)) (store : Store) (other : List ℕ) → HasPages store
    → is_page (page_for (with_page_of url store) other).id (page_of url store) ≡ is_url other url
page_is None store other h = refl
page_is (Some url) store other h =
    page_of_url (with_page_for store url) (has_pages_for store url h) url other (page_for store url)
    (found_for store url)

marks_page_of : (url : Option (List ℕ)) (store : Store) (other title : List ℕ) → IsReady store → HasPages store
    → marks (page_for (with_page_of url store) other).id title (tag_rows store.items) ≡ url_marks store other title
marks_page_of None store other title ready h = refl
marks_page_of (Some url) store other title ready h = marks_page store ready h other title url

-- ---- titles of which no two have the same fold

-- a store on the way of an import
pub record Stands (Known : List ℕ → Type 0) (store : Store) : Type 0 where
  pub ready : IsReady store
  pub pages : HasPages store
  pub titles : AreKnown Known (tag_rows store.items)

-- a node that an import may take
pub record MayCome (Known : List ℕ → Type 0) (node : Node) : Type 0 where
  pub formed : IsFormed node
  pub title : IsTitle (cut_title node.title)
  pub tags : AllByRecursion Known node.tags

-- a store behind an import of nodes
pub record Behind (Known : List ℕ → Type 0) (store new : Store) (nodes : List Node) : Type 0 where
  pub stands : Stands Known new
  pub marked : (url title : List ℕ) → url_marks new url title ≡ (url_marks store url title || told url title nodes)

module _ (Known : List ℕ → Type 0) (one : (a b : List ℕ) → Known a → Known b → folded a ≡ folded b → a ≡ b) where
  -- a page gets tags
  module _ (id : PageId) (date : Micros) (dated : IsDate date) where
    tag_stands : (store : Store) (name : List ℕ) → Stands Known store → is_tag_name name ≡ true → Known name
        → IsTrue (has_page_at store id) → Stands Known (with_tag id date name store)
    tag_stands store name s named known there =
        record {
          ready = ready_tag store id date name s.ready (named_by_test name named) dated there;
          pages =
              has_pages_same store (with_tag id date name store) (sym (pages_tag store id date name))
              (sym (next_tag store id date name)) s.pages;
          titles =
              subst (AreKnown Known) (sym (tags_tag store id date name s.ready))
              (known_entered Known one id name store.ids.item (tag_rows store.items) known s.titles);
        }

    tag_marks : (store : Store) (name : List ℕ) → Stands Known store → Known name → (other : PageId) (title : List ℕ)
        → marks other title (tag_rows (with_tag id date name store).items)
        ≡ (marks other title (tag_rows store.items) || (bytes_eq name title && (id.0 == other.0)))
    tag_marks store name s known other title =
        ap (marks other title) (tags_tag store id date name s.ready)
        ∙ marks_entered Known one id name store.ids.item (tag_rows store.items) known s.titles (row_ids store s.ready)
        other title

    tags_stand : (names : List (List ℕ)) (store : Store) → Stands Known store → list_all is_tag_name names ≡ true
        → AllByRecursion Known names → IsTrue (has_page_at store id) → Stands Known (with_tags id date names store)
    tags_stand [] store s named known there = s
    tags_stand (name ∷ names) store s named known there =
        let parts = and_parts (is_tag_name name) (list_all is_tag_name names) named in
        tags_stand names (with_tag id date name store) (tag_stands store name s parts.0 known.0 there) parts.1 known.1
        (there_tag store id date name there)

    tags_marks : (names : List (List ℕ)) (store : Store) → Stands Known store → list_all is_tag_name names ≡ true
        → AllByRecursion Known names → IsTrue (has_page_at store id) → (other : PageId) (title : List ℕ)
        → marks other title (tag_rows (with_tags id date names store).items)
        ≡ (marks other title (tag_rows store.items) || (has_text title names && (id.0 == other.0)))
    tags_marks [] store s named known there other title = sym (or_false (marks other title (tag_rows store.items)))
    tags_marks (name ∷ names) store s named known there other title =
        let parts = and_parts (is_tag_name name) (list_all is_tag_name names) named in
        tags_marks names (with_tag id date name store) (tag_stands store name s parts.0 known.0 there) parts.1 known.1
        (there_tag store id date name there) other title
        ∙ ap (λ (b : Bool). b || (has_text title names && (id.0 == other.0)))
        (tag_marks store name s known.0 other title)
        ∙ both_or (marks other title (tag_rows store.items)) (bytes_eq name title) (id.0 == other.0)
        (has_text title names)

  -- ---- a node

  module _ (node : Node) (m : MayCome Known node) where
    tags_of_stand : (page : Option PageId) (item : Store) → Stands Known item
        → IfSome page (λ id. IsTrue (has_page_at item id)) → Stands Known (with_tags_of page node item)
    tags_of_stand None item s there = s
    tags_of_stand (Some id) item s there =
        tags_stand id node.added m.formed.added node.tags item s m.formed.tags m.tags there

    tags_of_mark : (page : Option PageId) (item : Store) → Stands Known item
        → IfSome page (λ id. IsTrue (has_page_at item id)) → (other : PageId) (title : List ℕ)
        → marks other title (tag_rows (with_tags_of page node item).items)
        ≡ (marks other title (tag_rows item.items) || (has_text title node.tags && is_page other page))
    tags_of_mark None item s there other title =
        sym (or_false (marks other title (tag_rows item.items)))
        ∙ ap (λ (b : Bool). marks other title (tag_rows item.items) || b) (sym (and_false (has_text title node.tags)))
      where
        and_false : (b : Bool) → (b && false) ≡ false
        and_false true = refl
        and_false false = refl
    tags_of_mark (Some id) item s there other title =
        tags_marks id node.added m.formed.added node.tags item s m.formed.tags m.tags there other title

    module _ (store : Store) (parent : ItemId) (s : Stands Known store) (takes : Takes store parent) where
      rows_item : tag_rows (with_item_of parent node store).items ≡ tag_rows store.items
      rows_item =
          tags_row (with_page_of node.url store) parent (node_row parent (page_of node.url store) node)
          (cut_title node.title) (ready_page_of node.url store s.ready)
          (takes_page_of node.url store parent takes)
          ∙ ap tag_rows (items_page_of store node.url)

      item_stands : Stands Known (with_item_of parent node store)
      item_stands =
          record {
            ready = ready_item_of store parent node s.ready takes m.formed m.title;
            pages =
                has_pages_same (with_page_of node.url store) (with_item_of parent node store) refl refl
                (pages_more_of node.url store s.pages);
            titles = subst (AreKnown Known) (sym rows_item) s.titles;
          }

      there : IfSome (page_of node.url store) (λ id. IsTrue (has_page_at (with_item_of parent node store) id))
      there = page_there node.url store

      pub node_stands : Stands Known (with_node parent node store)
      node_stands = tags_of_stand (page_of node.url store) (with_item_of parent node store) item_stands there

      pub node_marks : (url title : List ℕ)
          → url_marks (with_node parent node store) url title
          ≡ (url_marks store url title || (has_text title node.tags && is_url url node.url))
      node_marks url title =
          ap (λ (p : Page). marks p.id title (tag_rows (with_node parent node store).items)) same_page_for
          ∙ tags_of_mark (page_of node.url store) (with_item_of parent node store) item_stands there
          (page_for (with_page_of node.url store) url).id title
          ∙ ap (λ (b : Bool).
          marks (page_for (with_page_of node.url store) url).id title (tag_rows (with_item_of parent node store).items)
          || (has_text title node.tags && b))
          (page_is node.url store url s.pages)
          ∙ ap (λ (rows : List TagRow).
          marks (page_for (with_page_of node.url store) url).id title rows
          || (has_text title node.tags && is_url url node.url))
          rows_item
          ∙ ap (λ (b : Bool). b || (has_text title node.tags && is_url url node.url))
          (marks_page_of node.url store url title s.ready s.pages)
        where
          same_page_for : page_for (with_node parent node store) url ≡ page_for (with_page_of node.url store) url
          same_page_for =
              page_for_same (with_node parent node store) (with_page_of node.url store) url
              (pages_tags_of (page_of node.url store) node (with_item_of parent node store))
              (next_tags_of (page_of node.url store) node (with_item_of parent node store))

  -- ---- the nodes of a list

  pub nodes_behind : (root : ItemId) (nodes : List Node) (folders : List ItemId) (store : Store) → Stands Known store
      → Takes store root → AllByRecursion (Takes store) folders → AllByRecursion (MayCome Known) nodes
      → Behind Known store (with_nodes root nodes folders store) nodes
  nodes_behind root [] folders store s takes all may =
      record { stands = s; marked = λ url title. sym (or_false (url_marks store url title)) }
  nodes_behind root (node ∷ nodes) folders store s takes all may =
      let m : MayCome Known node = may.0 in
      let parent : ItemId = folder_of root folders node in
      let new : Store = with_node parent node store in
      let free : Takes store parent = folder_takes store root folders node takes all in
      let still : (folder : ItemId) → Takes store folder → Takes new folder =
      takes_node store parent node s.ready free m.formed m.title in
      let rest : Behind Known new
      (with_nodes root nodes (folders_behind folders node (item_id store.ids.item)) new) nodes =
      nodes_behind root nodes (folders_behind folders node (item_id store.ids.item)) new
      (node_stands node m store parent s free) (still root takes)
      (behind_take store new folders node (item_id store.ids.item) all still
      (node_takes store parent node s.ready free m.formed m.title))
      may.1 in
      record {
        stands = rest.stands;
        marked =
            λ url title. rest.marked url title
            ∙ ap (λ (b : Bool). b || told url title nodes) (node_marks node m store parent s free url title)
            ∙ or_moved (url_marks store url title) (has_text title node.tags && is_url url node.url)
            (told url title nodes);
      }
