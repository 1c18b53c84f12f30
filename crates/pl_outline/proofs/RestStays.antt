-- An import leaves the day and the visits as they are, and the next id of a visit.
use Rattle.std.proofs.Common.{◌≡◌, ◌∙◌, ℕ, Bool, true, false, List, [], ◌∷◌, Option, Some, None, if◌then◌else◌, refl}
use Rattle.std.specs.Option.{is_none, is_some}
use Rattle.pl_base.specs.declared.date.Day.{Day}
use Rattle.pl_base.specs.declared.date.Micros.{Micros}
use Rattle.pl_base.specs.declared.id.ItemId.{ItemId}
use Rattle.pl_base.specs.declared.id.PageId.{PageId}
use Rattle.pl_base.specs.Store.{Store, Visit, item_id}
use Rattle.pl_base.specs.Title.{cut_title}
use Rattle.pl_base.specs.Visiting.{find_page, page_for, with_page_for}
use Rattle.pl_history.proofs.VisitRows.{grown_store}
use Rattle.pl_nbread.specs.declared.tree.Node.{Node}
use Rattle.pl_nbread.specs.declared.tree.Tree.{Tree}
use Rattle.pl_tree.specs.Tagged.{tag_entry}
use Rattle.pl_graft.specs.Import.{folder_of, folders_behind, imported, node_row, page_of, tagged_store, with_list}
use Rattle.pl_graft.specs.Import.{with_node, with_nodes, with_page_of, with_row, with_tag, with_tags, with_tags_of}

-- what of a store no import changes
pub record Rest : Type 0 where
  pub day : Day
  pub visits : List Visit
  pub next_visit : ℕ

abbrev pub rest : Store → Rest
rest store = record { day = store.day; visits = store.visits; next_visit = store.ids.visit }

rest_tags : (id : PageId) (date : Micros) (names : List (List ℕ)) (store : Store)
    → rest (with_tags id date names store) ≡ rest store
rest_tags id date [] store = refl
rest_tags id date (name ∷ names) store =
    rest_tags id date names (with_tag id date name store) ∙ choose (is_some (tag_entry id name store.items))
  where
    choose : (b : Bool) → rest (if b then store else tagged_store id name date store) ≡ rest store
    choose true = refl
    choose false = refl

rest_node : (parent : ItemId) (node : Node) (store : Store) → rest (with_node parent node store) ≡ rest store
rest_node parent node store = choose node.url
  where
    grown : (url : List ℕ) (b : Bool) → rest (if b then grown_store store url else store) ≡ rest store
    grown url true = refl
    grown url false = refl

    choose : (url : Option (List ℕ))
        → rest (with_tags_of (page_of url store) node
        (with_row parent (node_row parent (page_of url store) node) (cut_title node.title) (with_page_of url store)))
        ≡ rest store
    choose None = refl
    choose (Some url) =
        rest_tags (page_for store url).id node.added node.tags
        (with_row parent (node_row parent (Some (page_for store url).id) node) (cut_title node.title)
        (with_page_for store url))
        ∙ grown url (is_none (find_page url store.pages))

rest_nodes : (root : ItemId) (nodes : List Node) (folders : List ItemId) (store : Store)
    → rest (with_nodes root nodes folders store) ≡ rest store
rest_nodes root [] folders store = refl
rest_nodes root (node ∷ nodes) folders store =
    let folder : ItemId = folder_of root folders node in
    rest_nodes root nodes (folders_behind folders node (item_id store.ids.item)) (with_node folder node store)
    ∙ rest_node folder node store

pub rest_tree : (tree : Tree) (store : Store) → rest (imported tree store) ≡ rest store
rest_tree tree store =
    let one : Store = with_list (item_id 2) tree.menu store in
    let two : Store = with_list (item_id 3) tree.toolbar one in
    let three : Store = with_list (item_id 5) tree.unfiled two in
    rest_nodes (item_id 6) tree.mobile [] three ∙ rest_nodes (item_id 5) tree.unfiled [] two
    ∙ rest_nodes (item_id 3) tree.toolbar [] one ∙ rest_nodes (item_id 2) tree.menu [] store
