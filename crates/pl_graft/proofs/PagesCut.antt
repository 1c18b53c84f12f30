-- An import into a store from which pages were left out that it does not name.
use Rattle.std.proofs.Common.{◌≡◌, ◌∙◌, ◌+◌, ◌++◌, ℕ, Bool, true, false, List, [], ◌∷◌, Option, Some, None, ap}
use Rattle.std.proofs.Common.{bytes_eq, filter, if◌then◌else◌, inl, inr, refl, sym, unwrap_or}
use Rattle.std.specs.Option.{is_none, is_some}
use Rattle.std.proofs.lemmas.Bool.{false≢true}
use Rattle.std.proofs.lemmas.List.Elements.{filter-append}
use Rattle.std.proofs.lemmas.Slice.Eq.{bytes_eq-Decides}
use Rattle.pl_base.specs.declared.date.Micros.{Micros}
use Rattle.pl_base.specs.declared.id.ItemId.{ItemId}
use Rattle.pl_base.specs.declared.id.PageId.{PageId}
use Rattle.pl_base.specs.Store.{Page, Store, item_id}
use Rattle.pl_base.specs.Title.{cut_title}
use Rattle.pl_base.specs.Visiting.{find_page, new_page, page_for, with_page_for}
use Rattle.pl_base.proofs.Among.{In}
use Rattle.pl_history.proofs.VisitRows.{grown_store}
use Rattle.pl_nbread.specs.declared.tree.Node.{Node}
use Rattle.pl_nbread.specs.declared.tree.Tree.{Tree}
use Rattle.pl_tree.specs.Tagged.{tag_entry}
use Rattle.pl_graft.specs.Import.{folder_of, folders_behind, imported, node_row, page_of, tagged_store, with_item_of}
use Rattle.pl_graft.specs.Import.{with_list, with_node, with_nodes, with_page_of, with_row, with_tag, with_tags}
use Rattle.pl_graft.specs.Import.{with_tags_of}

module _ (keep : Page → Bool) where
  -- the store with the pages that stay
  abbrev pub cut : Store → Store
  cut store = record store { pages = filter keep store.pages }

  -- pages with the URL stay
  abbrev pub Keeps : List ℕ → Type 0
  Keeps url = (p : Page) → bytes_eq p.url url ≡ true → keep p ≡ true

  -- those with the address of a node stay, if it has one
  abbrev pub KeepsOf : Option (List ℕ) → Type 0
  KeepsOf None = Unit {0}
  KeepsOf (Some url) = Keeps url

  -- ---- its page

  find_cut : (url : List ℕ) → Keeps url → (ps : List Page) → find_page url (filter keep ps) ≡ find_page url ps
  find_cut url keeps [] = refl
  find_cut url keeps (p ∷ ps) = choose (bytes_eq p.url url) refl (keep p) refl (find_cut url keeps ps)
    where
      choose : (b : Bool) → bytes_eq p.url url ≡ b → (k : Bool) → keep p ≡ k
          → find_page url (filter keep ps) ≡ find_page url ps
          → find_page url (if k then p ∷ filter keep ps else filter keep ps)
          ≡ (if b then Some p else find_page url ps)
      choose true is true kept rest = rw is refl
      choose true is false gone rest = absurd (false≢true (sym gone ∙ keeps p is))
      choose false is true kept rest = rw is rest
      choose false is false gone rest = rest

  page_cut : (url : List ℕ) → Keeps url → (store : Store) → page_for (cut store) url ≡ page_for store url
  page_cut url keeps store =
      ap (λ (o : Option Page). unwrap_or o (new_page store url)) (find_cut url keeps store.pages)

  filter_last : (ps : List Page) (p : Page) → keep p ≡ true → filter keep (ps ++ p ∷ []) ≡ filter keep ps ++ p ∷ []
  filter_last ps p kept =
      filter-append keep ps (p ∷ [])
      ∙ ap (λ (b : Bool). filter keep ps ++ (if b then p ∷ [] else [])) kept

  with_page_cut : (url : List ℕ) → Keeps url → (store : Store)
      → with_page_for (cut store) url ≡ cut (with_page_for store url)
  with_page_cut url keeps store =
      ap (λ (o : Option Page). if is_none o then grown_store (cut store) url else cut store)
      (find_cut url keeps store.pages)
      ∙ choose (is_none (find_page url store.pages))
    where
      choose : (b : Bool) → (if b then grown_store (cut store) url else cut store)
          ≡ cut (if b then grown_store store url else store)
      choose true =
          ap (λ (ps : List Page). record store { pages = ps; ids = record store.ids { page = store.ids.page + 1 } })
          (sym (filter_last store.pages (new_page store url)
          (keeps (new_page store url) ((bytes_eq-Decides url url).1 refl))))
      choose false = refl

  page_of_cut : (url : Option (List ℕ)) → KeepsOf url → (store : Store) → page_of url (cut store) ≡ page_of url store
  page_of_cut None keeps store = refl
  page_of_cut (Some url) keeps store = ap (λ (p : Page). Some p.id) (page_cut url keeps store)

  with_page_of_cut : (url : Option (List ℕ)) → KeepsOf url → (store : Store)
      → with_page_of url (cut store) ≡ cut (with_page_of url store)
  with_page_of_cut None keeps store = refl
  with_page_of_cut (Some url) keeps store = with_page_cut url keeps store

  -- ---- its item and its tags

  item_cut : (parent : ItemId) (node : Node) → KeepsOf node.url → (store : Store)
      → with_item_of parent node (cut store) ≡ cut (with_item_of parent node store)
  item_cut parent node keeps store =
      ap (λ (page : Option PageId).
      with_row parent (node_row parent page node) (cut_title node.title) (with_page_of node.url (cut store)))
      (page_of_cut node.url keeps store)
      ∙ ap (λ (s : Store).
      with_row parent (node_row parent (page_of node.url store) node) (cut_title node.title) s)
      (with_page_of_cut node.url keeps store)

  tag_cut : (page : PageId) (date : Micros) (name : List ℕ) (store : Store)
      → with_tag page date name (cut store) ≡ cut (with_tag page date name store)
  tag_cut page date name store = choose (is_some (tag_entry page name store.items))
    where
      choose : (b : Bool) → (if b then cut store else tagged_store page name date (cut store))
          ≡ cut (if b then store else tagged_store page name date store)
      choose true = refl
      choose false = refl

  tags_cut : (page : PageId) (date : Micros) (names : List (List ℕ)) (store : Store)
      → with_tags page date names (cut store) ≡ cut (with_tags page date names store)
  tags_cut page date [] store = refl
  tags_cut page date (name ∷ names) store =
      ap (with_tags page date names) (tag_cut page date name store)
      ∙ tags_cut page date names (with_tag page date name store)

  tags_of_cut : (page : Option PageId) (node : Node) (store : Store)
      → with_tags_of page node (cut store) ≡ cut (with_tags_of page node store)
  tags_of_cut None node store = refl
  tags_of_cut (Some page) node store = tags_cut page node.added node.tags store

  -- ---- nodes

  node_cut : (parent : ItemId) (node : Node) → KeepsOf node.url → (store : Store)
      → with_node parent node (cut store) ≡ cut (with_node parent node store)
  node_cut parent node keeps store =
      ap (λ (page : Option PageId). with_tags_of page node (with_item_of parent node (cut store)))
      (page_of_cut node.url keeps store)
      ∙ ap (with_tags_of (page_of node.url store) node) (item_cut parent node keeps store)
      ∙ tags_of_cut (page_of node.url store) node (with_item_of parent node store)

  nodes_cut : (root : ItemId) (nodes : List Node) (folders : List ItemId)
      → ((n : Node) → In n nodes → KeepsOf n.url) → (store : Store)
      → with_nodes root nodes folders (cut store) ≡ cut (with_nodes root nodes folders store)
  nodes_cut root [] folders keeps store = refl
  nodes_cut root (node ∷ nodes) folders keeps store =
      let behind : List ItemId = folders_behind folders node (item_id store.ids.item) in
      let folder : ItemId = folder_of root folders node in
      ap (with_nodes root nodes behind) (node_cut folder node (keeps node (inl refl)) store)
      ∙ nodes_cut root nodes behind (λ n h. keeps n (inr h)) (with_node folder node store)

  abbrev pub KeepsList : List Node → Type 0
  KeepsList nodes = (n : Node) → In n nodes → KeepsOf n.url

  -- an import of lists whose pages stay
  pub imported_cut : (tree : Tree) → KeepsList tree.menu → KeepsList tree.toolbar → KeepsList tree.unfiled
      → KeepsList tree.mobile → (store : Store) → imported tree (cut store) ≡ cut (imported tree store)
  imported_cut tree menu toolbar unfiled mobile store =
      let one : Store = with_list (item_id 2) tree.menu store in
      let two : Store = with_list (item_id 3) tree.toolbar one in
      let three : Store = with_list (item_id 5) tree.unfiled two in
      ap (λ (s : Store).
      with_list (item_id 6) tree.mobile (with_list (item_id 5) tree.unfiled (with_list (item_id 3) tree.toolbar s)))
      (nodes_cut (item_id 2) tree.menu [] menu store)
      ∙ ap (λ (s : Store). with_list (item_id 6) tree.mobile (with_list (item_id 5) tree.unfiled s))
      (nodes_cut (item_id 3) tree.toolbar [] toolbar one)
      ∙ ap (with_list (item_id 6) tree.mobile) (nodes_cut (item_id 5) tree.unfiled [] unfiled two)
      ∙ nodes_cut (item_id 6) tree.mobile [] mobile three
