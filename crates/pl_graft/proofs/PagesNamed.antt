-- The pages that have an item where a tree is imported into a store without bookmarks: those that it names.
use Rattle.std.proofs.Common.{◌≡◌, ◌<◌, ◌∙◌, ◌+◌, ◌-◌, ◌++◌, ◌==◌, ◌||◌, ◌⊎◌, ℕ, Bool, true, false, List, [], ◌∷◌}
use Rattle.std.proofs.Common.{Option, Some, None, ap, arith, bytes_eq, eq-eqb, if◌then◌else◌, inl, inr, refl}
use Rattle.std.proofs.Common.{subst, sym, unwrap_or}
use Rattle.std.specs.List.{list_any}
use Rattle.std.specs.Option.{is_none, is_some}
use Rattle.std.proofs.Math.Bool.{or-false, or-true, or_assoc}
use Rattle.std.proofs.lemmas.Bool.{eqb-true, false_from_ne_true, ne_eqb}
use Rattle.std.proofs.lemmas.List.Folds.{list_any-append}
use Rattle.std.proofs.lemmas.Slice.Eq.{bytes_eq-Decides}
use Rattle.pl_base.specs.declared.date.Micros.{Micros}
use Rattle.pl_base.specs.declared.id.ItemId.{ItemId}
use Rattle.pl_base.specs.declared.id.PageId.{PageId}
use Rattle.pl_base.specs.Store.{Item, Page, Store, item_id}
use Rattle.pl_base.specs.Title.{cut_title}
use Rattle.pl_base.specs.Tree.{is_page, new_item}
use Rattle.pl_base.specs.Visiting.{find_page, new_page, page_for, with_page_for}
use Rattle.pl_base.proofs.Among.{In, from_found, in_either}
use Rattle.pl_base.proofs.ListLaws.{list_any-alike, list_any-map}
use Rattle.pl_base.proofs.Truths.{or_same}
use Rattle.pl_history.proofs.VisitRows.{grown_store}
use Rattle.pl_nbread.specs.declared.tree.Node.{Node}
use Rattle.pl_nbread.specs.declared.tree.Tree.{Tree}
use Rattle.pl_tree.specs.declared.place.Place.{Place}
use Rattle.pl_tree.specs.declared.place.Place.TheVariants.{End}
use Rattle.pl_tree.specs.Changes.{item_of, put, with_child, with_new}
use Rattle.pl_tree.specs.Tagged as tagged
use Rattle.pl_tree.specs.Tagged.{new_entry, new_tag, tag_entry, tag_id, tag_named, tagged_items, new_items}
use Rattle.pl_base.specs.Tags.{tags_root}
use Rattle.pl_keyed.specs.NamedUrls.{has_url, is_named, is_url}
use Rattle.pl_graft.specs.Import.{folder_of, folders_behind, imported, node_row, page_of, tagged_store}
use Rattle.pl_graft.specs.Import.{with_list, with_node, with_nodes, with_page_of, with_row, with_tag, with_tags}
use Rattle.pl_graft.specs.Import.{with_tags_of}

-- ---- the items that have a page

-- one of the items has the page
abbrev pub refers : PageId → List Item → Bool
refers page items = list_any (λ (i : Item). is_page page i.page) items

child_page : (page : PageId) (place : Place) (id : ItemId) (i : Item) (b : Bool)
    → is_page page (if b then record i { children = put place id i.children } else i).page ≡ is_page page i.page
child_page page place id i true = refl
child_page page place id i false = refl

refers_child : (page : PageId) (parent : ItemId) (place : Place) (id : ItemId) (items : List Item)
    → refers page (with_child parent place id items) ≡ refers page items
refers_child page parent place id items =
    list_any-map (λ (i : Item). is_page page i.page)
    (λ (i : Item). if i.id.0 == parent.0 then record i { children = put place id i.children } else i) items
    ∙ list_any-alike
    (λ (i : Item).
    is_page page (if i.id.0 == parent.0 then record i { children = put place id i.children } else i).page)
    (λ (i : Item). is_page page i.page) items (λ i. child_page page place id i (i.id.0 == parent.0))

-- an item more
refers_more : (page : PageId) (parent : ItemId) (place : Place) (id : ItemId) (new : Item) (items : List Item)
    → refers page (with_child parent place id items ++ new ∷ []) ≡ (refers page items || is_page page new.page)
refers_more page parent place id new items =
    list_any-append (λ (i : Item). is_page page i.page) (with_child parent place id items) (new ∷ [])
    ∙ ap (λ (b : Bool). b || (is_page page new.page || false)) (refers_child page parent place id items)
    ∙ ap (λ (b : Bool). refers page items || b) (or-false (is_page page new.page))

refers_folder : (page : PageId) (b : Bool) (next : ℕ) (name : List ℕ) (date : Micros) (items : List Item)
    → refers page (if b then with_new (item_id next) tags_root End (new_tag name date) items else items)
    ≡ refers page items
refers_folder page true next name date items =
    refers_more page tags_root End (item_id next) (item_of (item_id next) (new_tag name date)) items
    ∙ or-false (refers page items)
refers_folder page false next name date items = refl

-- a tag of a page that has an item
refers_tagged : (page id : PageId) (name : List ℕ) (date : Micros) (store : Store)
    → ((id.0 == page.0) ≡ true → refers page store.items ≡ true)
    → refers page (tagged_store id name date store).items ≡ refers page store.items
refers_tagged page id name date store so =
    let next : ℕ = store.ids.item in
    let at : ItemId = item_id (next + (new_items name store.items - 1)) in
    refers_more page (tag_id next name store.items) End at (item_of at (new_entry id date))
    (tagged.with_tag next name date store.items)
    ∙ ap (λ (b : Bool). b || (id.0 == page.0))
    (refers_folder page (is_none (tag_named name store.items)) next name date store.items)
    ∙ or_same (refers page store.items) (id.0 == page.0) so

-- what tags leave as it is
record SameButTags (page : PageId) (old new : Store) : Type 0 where
  pub refers : refers page new.items ≡ refers page old.items
  pub pages : new.pages ≡ old.pages
  pub next : new.ids.page ≡ old.ids.page
  pub visits : new.visits ≡ old.visits

same_tag : (page id : PageId) (name : List ℕ) (date : Micros) (store : Store)
    → ((id.0 == page.0) ≡ true → refers page store.items ≡ true)
    → SameButTags page store (with_tag id date name store)
same_tag page id name date store so = choose (is_some (tag_entry id name store.items))
  where
    choose : (b : Bool) → SameButTags page store (if b then store else tagged_store id name date store)
    choose true = record { refers = refl; pages = refl; next = refl; visits = refl }
    choose false =
        record { refers = refers_tagged page id name date store so; pages = refl; next = refl; visits = refl }

same_tags : (page id : PageId) (date : Micros) (names : List (List ℕ)) (store : Store)
    → ((id.0 == page.0) ≡ true → refers page store.items ≡ true)
    → SameButTags page store (with_tags id date names store)
same_tags page id date [] store so = record { refers = refl; pages = refl; next = refl; visits = refl }
same_tags page id date (name ∷ names) store so =
    let one : SameButTags page store (with_tag id date name store) = same_tag page id name date store so in
    let rest : SameButTags page (with_tag id date name store) (with_tags id date (name ∷ names) store) =
    same_tags page id date names (with_tag id date name store) (λ is. one.refers ∙ so is) in
    record {
      refers = rest.refers ∙ one.refers;
      pages = rest.pages ∙ one.pages;
      next = rest.next ∙ one.next;
      visits = rest.visits ∙ one.visits;
    }

-- ---- the pages

-- the pages have the same id exactly where they have the same URL
abbrev pub Alike : Page → Page → Type 0
Alike p q = (p.id.0 == q.id.0) ≡ bytes_eq p.url q.url

-- each page has an id and a URL of its own, and an item where its URL is named
pub record IsTold (named : List ℕ → Bool) (store : Store) : Type 0 where
  pub alike : (p q : Page) → In p store.pages → In q store.pages → Alike p q
  pub below : (p : Page) → In p store.pages → p.id.0 < store.ids.page
  pub refers : (p : Page) → In p store.pages → refers p.id store.items ≡ named p.url

-- the URL has no page that is found
unlike : (pages : List Page) (url : List ℕ) → find_page url pages ≡ None → (p : Page) → In p pages
    → bytes_eq p.url url ≡ false
unlike [] url none p h = absurd h
unlike (q ∷ pages) url none p h = choose (bytes_eq q.url url) refl none h (unlike pages url)
  where
    choose : (b : Bool) → bytes_eq q.url url ≡ b → (if b then Some q else find_page url pages) ≡ None
        → In p (q ∷ pages) → (find_page url pages ≡ None → (r : Page) → In r pages → bytes_eq r.url url ≡ false)
        → bytes_eq p.url url ≡ false
    choose true is some here rest = absurd (cc)
    choose false is nothing (inl e) rest = ap (λ (r : Page). bytes_eq r.url url) e ∙ is
    choose false is nothing (inr g) rest = rest nothing p g

swapped : (a b : List ℕ) → bytes_eq a b ≡ false → bytes_eq b a ≡ false
swapped a b apart =
    false_from_ne_true (bytes_eq b a) (λ same.
    let is : bytes_eq a b ≡ true = (bytes_eq-Decides a b).1 (sym ((bytes_eq-Decides b a).0 same)) in
    cc)

-- what is told of the page that a node goes to, and of the pages with it
record HasPage (named : List ℕ → Bool) (url : List ℕ) (id : PageId) (store : Store) : Type 0 where
  pub alike : (p q : Page) → In p store.pages → In q store.pages → Alike p q
  pub below : (p : Page) → In p store.pages → p.id.0 < store.ids.page
  pub is : (p : Page) → In p store.pages → (id.0 == p.id.0) ≡ bytes_eq url p.url
  pub refers :
      (p : Page) → In p store.pages
      → (refers p.id store.items || (id.0 == p.id.0)) ≡ (named p.url || bytes_eq url p.url)

module _ (named : List ℕ → Bool) (url : List ℕ) (store : Store) (t : IsTold named store) where
  has_found : (q : Page) → find_page url store.pages ≡ Some q → HasPage named url q.id store
  has_found q found =
      let there = from_found (λ (p : Page). bytes_eq p.url url) store.pages q found in
      let same : (p : Page) → In p store.pages → (q.id.0 == p.id.0) ≡ bytes_eq url p.url =
      λ p h. t.alike q p there.0 h
      ∙ ap (λ (u : List ℕ). bytes_eq u p.url) ((bytes_eq-Decides q.url url).0 there.1) in
      record {
        alike = t.alike;
        below = t.below;
        is = same;
        refers = λ p h.
            ap (λ (b : Bool). b || (q.id.0 == p.id.0)) (t.refers p h)
            ∙ ap (λ (b : Bool). named p.url || b) (same p h);
      }

  abbrev new : Page
  new = new_page store url

  both_false : (a b : Bool) → a ≡ false → b ≡ false → a ≡ b
  both_false a b is so = is ∙ sym so

  has_new : find_page url store.pages ≡ None → HasPage named url new.id (grown_store store url)
  has_new none =
      record {
        alike = λ p q h g. alike_either p q (in_either store.pages (new ∷ []) p h)
            (in_either store.pages (new ∷ []) q g);
        below = λ p h. below_either p (in_either store.pages (new ∷ []) p h);
        is = λ p h. is_either p (in_either store.pages (new ∷ []) p h);
        refers = λ p h. refers_either p (in_either store.pages (new ∷ []) p h);
      }
    where
      is_old : (p : Page) → In p store.pages → (store.ids.page == p.id.0) ≡ bytes_eq url p.url
      is_old p h =
          both_false (store.ids.page == p.id.0) (bytes_eq url p.url)
          (ne_eqb store.ids.page p.id.0 (λ same. let less = t.below p h in omega arith))
          (swapped p.url url (unlike store.pages url none p h))

      old_is : (p : Page) → In p store.pages → (p.id.0 == store.ids.page) ≡ bytes_eq p.url url
      old_is p h =
          both_false (p.id.0 == store.ids.page) (bytes_eq p.url url)
          (ne_eqb p.id.0 store.ids.page (λ same. let less = t.below p h in omega arith))
          (unlike store.pages url none p h)

      id_here : (p : Page) → p ≡ new → (store.ids.page == p.id.0) ≡ true
      id_here p e = eq-eqb store.ids.page p.id.0 (sym (ap (λ (r : Page). r.id.0) e))

      url_here : (p : Page) → p ≡ new → bytes_eq url p.url ≡ true
      url_here p e = (bytes_eq-Decides url p.url).1 (sym (ap (λ (r : Page). r.url) e))

      Last : Page → Type 0
      Last p = In p store.pages ⊎ In p (new ∷ [])

      is_either : (p : Page) → Last p → (store.ids.page == p.id.0) ≡ bytes_eq url p.url
      is_either p (inl h) = is_old p h
      is_either p (inr (inl e)) = id_here p e ∙ sym (url_here p e)
      is_either p (inr (inr never)) = absurd never

      alike_either : (p q : Page) → Last p → Last q → Alike p q
      alike_either p q (inl h) (inl g) = t.alike p q h g
      alike_either p q (inl h) (inr (inl e)) = subst (λ (r : Page). Alike p r) (sym e) (old_is p h)
      alike_either p q (inl h) (inr (inr never)) = absurd never
      alike_either p q (inr (inl e)) l = subst (λ (r : Page). Alike r q) (sym e) (is_either q l)
      alike_either p q (inr (inr never)) l = absurd never

      below_either : (p : Page) → Last p → p.id.0 < store.ids.page + 1
      below_either p (inl h) = let less = t.below p h in omega arith
      below_either p (inr (inl e)) = let is = ap (λ (r : Page). r.id.0) e in omega arith
      below_either p (inr (inr never)) = absurd never

      refers_either : (p : Page) → Last p
          → (refers p.id store.items || (store.ids.page == p.id.0)) ≡ (named p.url || bytes_eq url p.url)
      refers_either p (inl h) =
          ap (λ (b : Bool). b || (store.ids.page == p.id.0)) (t.refers p h)
          ∙ ap (λ (b : Bool). named p.url || b) (is_old p h)
      refers_either p (inr (inl e)) =
          ap (λ (b : Bool). refers p.id store.items || b) (id_here p e) ∙ or-true (refers p.id store.items)
          ∙ sym (ap (λ (b : Bool). named p.url || b) (url_here p e) ∙ or-true (named p.url))
      refers_either p (inr (inr never)) = absurd never

  has_page_for : HasPage named url (page_for store url).id (with_page_for store url)
  has_page_for = choose (find_page url store.pages) refl
    where
      choose : (o : Option Page) → find_page url store.pages ≡ o
          → HasPage named url (unwrap_or o (new_page store url)).id
          (if is_none o then grown_store store url else store)
      choose None none = has_new none
      choose (Some q) found = has_found q found

-- ---- a node

-- the URLs that were named, and that of a node
abbrev with_url : (List ℕ → Bool) → Option (List ℕ) → List ℕ → Bool
with_url named url u = named u || is_url u url

told_tags : (named : List ℕ → Bool) (id : PageId) (date : Micros) (names : List (List ℕ)) (store : Store)
    → ((p : Page) → In p store.pages → (id.0 == p.id.0) ≡ true → refers p.id store.items ≡ true)
    → IsTold named store → IsTold named (with_tags id date names store)
told_tags named id date names store so t =
    record {
      alike = λ p q h g. t.alike p q (subst (In p) pages_same h) (subst (In q) pages_same g);
      below = λ p h. subst (λ (n : ℕ). p.id.0 < n) (sym next_same) (t.below p (subst (In p) pages_same h));
      refers = λ p h.
          let here : In p store.pages = subst (In p) pages_same h in
          (same_tags p.id id date names store (so p here)).refers ∙ t.refers p here;
    }
  where
    -- a page that is not asked for
    far : PageId
    far = record { 0 = id.0 + 1 }

    apart : (id.0 == far.0) ≡ true → refers far store.items ≡ true
    apart is = absurd (let same = eqb-true id.0 far.0 is in omega arith)

    pages_same : (with_tags id date names store).pages ≡ store.pages
    pages_same = (same_tags far id date names store apart).pages

    next_same : (with_tags id date names store).ids.page ≡ store.ids.page
    next_same = (same_tags far id date names store apart).next

told_node : (named : List ℕ → Bool) (parent : ItemId) (node : Node) (store : Store) → IsTold named store
    → IsTold (with_url named node.url) (with_node parent node store)
told_node named parent node store t = choose node.url
  where
    row_of : Option PageId → Store → Store
    row_of page s = with_row parent (node_row parent page node) (cut_title node.title) s

    choose : (url : Option (List ℕ))
        → IsTold (with_url named url)
        (with_tags_of (page_of url store) node
        (with_row parent (node_row parent (page_of url store) node) (cut_title node.title) (with_page_of url store)))
    choose None =
        record {
          alike = t.alike;
          below = t.below;
          refers = λ p h.
              refers_more p.id parent End (item_id store.ids.item)
              (new_item (item_id store.ids.item) (node_row parent None node) (cut_title node.title)) store.items
              ∙ ap (λ (b : Bool). b || false) (t.refers p h);
        }
    choose (Some url) =
        let s : Store = with_page_for store url in
        let id : PageId = (page_for store url).id in
        let h : HasPage named url id s = has_page_for named url store t in
        let made : (p : Page) → refers p.id (row_of (Some id) s).items ≡ (refers p.id s.items || (id.0 == p.id.0)) =
        λ p. refers_more p.id parent End (item_id s.ids.item)
        (new_item (item_id s.ids.item) (node_row parent (Some id) node) (cut_title node.title)) s.items in
        told_tags (with_url named (Some url)) id node.added node.tags (row_of (Some id) s)
        (λ p at is. made p ∙ ap (λ (b : Bool). refers p.id s.items || b) is ∙ or-true (refers p.id s.items))
        (record {
          alike = h.alike;
          below = h.below;
          refers = λ p at. made p ∙ h.refers p at;
        })

-- ---- nodes

told_as : (named other : List ℕ → Bool) (store : Store) → ((url : List ℕ) → named url ≡ other url)
    → IsTold named store → IsTold other store
told_as named other store same t =
    record { alike = t.alike; below = t.below; refers = λ p h. t.refers p h ∙ same p.url }

told_nodes : (named : List ℕ → Bool) (root : ItemId) (nodes : List Node) (folders : List ItemId) (store : Store)
    → IsTold named store
    → IsTold (λ url. named url || has_url nodes url) (with_nodes root nodes folders store)
told_nodes named root [] folders store t =
    told_as named (λ url. named url || false) store (λ url. sym (or-false (named url))) t
told_nodes named root (node ∷ nodes) folders store t =
    let folder : ItemId = folder_of root folders node in
    let behind : List ItemId = folders_behind folders node (item_id store.ids.item) in
    let next : Store = with_node folder node store in
    told_as (λ url. with_url named node.url url || has_url nodes url)
    (λ url. named url || has_url (node ∷ nodes) url) (with_nodes root nodes behind next)
    (λ url. or_assoc (named url) (is_url url node.url) (has_url nodes url))
    (told_nodes (with_url named node.url) root nodes behind next (told_node named folder node store t))

-- the pages with an item are those that the tree names
pub told_tree : (tree : Tree) (store : Store) → IsTold (λ url. false) store
    → IsTold (is_named tree) (imported tree store)
told_tree tree store t =
    let none : List ℕ → Bool = λ url. false in
    let menu : List ℕ → Bool = λ url. has_url tree.menu url in
    let toolbar : List ℕ → Bool = λ url. menu url || has_url tree.toolbar url in
    let unfiled : List ℕ → Bool = λ url. toolbar url || has_url tree.unfiled url in
    let one : Store = with_list (item_id 2) tree.menu store in
    let two : Store = with_list (item_id 3) tree.toolbar one in
    let three : Store = with_list (item_id 5) tree.unfiled two in
    told_nodes unfiled (item_id 6) tree.mobile [] three
    (told_nodes toolbar (item_id 5) tree.unfiled [] two
    (told_nodes menu (item_id 3) tree.toolbar [] one
    (told_nodes none (item_id 2) tree.menu [] store t)))

-- ---- the visits

visits_tags : (id : PageId) (date : Micros) (names : List (List ℕ)) (store : Store)
    → (with_tags id date names store).visits ≡ store.visits
visits_tags id date [] store = refl
visits_tags id date (name ∷ names) store =
    visits_tags id date names (with_tag id date name store)
    ∙ choose (is_some (tag_entry id name store.items))
  where
    choose : (b : Bool) → (if b then store else tagged_store id name date store).visits ≡ store.visits
    choose true = refl
    choose false = refl

visits_node : (parent : ItemId) (node : Node) (store : Store) → (with_node parent node store).visits ≡ store.visits
visits_node parent node store = choose node.url
  where
    grown : (url : List ℕ) (b : Bool) → (if b then grown_store store url else store).visits ≡ store.visits
    grown url true = refl
    grown url false = refl

    choose : (url : Option (List ℕ))
        → (with_tags_of (page_of url store) node
        (with_row parent (node_row parent (page_of url store) node) (cut_title node.title)
        (with_page_of url store))).visits
        ≡ store.visits
    choose None = refl
    choose (Some url) =
        visits_tags (page_for store url).id node.added node.tags
        (with_row parent (node_row parent (Some (page_for store url).id) node) (cut_title node.title)
        (with_page_for store url))
        ∙ grown url (is_none (find_page url store.pages))

visits_nodes : (root : ItemId) (nodes : List Node) (folders : List ItemId) (store : Store)
    → (with_nodes root nodes folders store).visits ≡ store.visits
visits_nodes root [] folders store = refl
visits_nodes root (node ∷ nodes) folders store =
    let folder : ItemId = folder_of root folders node in
    visits_nodes root nodes (folders_behind folders node (item_id store.ids.item)) (with_node folder node store)
    ∙ visits_node folder node store

-- an import makes no visit
pub visits_tree : (tree : Tree) (store : Store) → (imported tree store).visits ≡ store.visits
visits_tree tree store =
    let one : Store = with_list (item_id 2) tree.menu store in
    let two : Store = with_list (item_id 3) tree.toolbar one in
    let three : Store = with_list (item_id 5) tree.unfiled two in
    visits_nodes (item_id 6) tree.mobile [] three ∙ visits_nodes (item_id 5) tree.unfiled [] two
    ∙ visits_nodes (item_id 3) tree.toolbar [] one ∙ visits_nodes (item_id 2) tree.menu [] store
