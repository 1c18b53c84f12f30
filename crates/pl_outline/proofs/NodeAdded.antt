-- One node more at the end of an open folder.
use Rattle.std.proofs.Common.{◌≡◌, ◌≢◌, ◌∙◌, ◌<◌, ◌≤◌, ◌+◌, ◌++◌, ◌==◌, ℕ, Bool, true, false, List, [], ◌∷◌}
use Rattle.std.proofs.Common.{Option, Some, ap, arith, if◌then◌else◌, length, map, refl, subst, suc, sym, take}
use Rattle.std.proofs.Common.{zero}
use Rattle.std.specs.List.{All, AllByRecursion, AllPairs}
use Rattle.std.specs.List.Sorted.{IsStrictlyIncreasing}
use Rattle.std.proofs.Math.Seq.{take-nil}
use Rattle.std.proofs.lemmas.List.{append-nil, length-take}
use Rattle.std.proofs.lemmas.List.Elements.{recursion_from_All}
use Rattle.pl_base.specs.declared.id.ItemId.{ItemId}
use Rattle.pl_base.specs.declared.item.ItemRow.{ItemRow}
use Rattle.pl_base.specs.Good.{IsGoodItem, IsTitle}
use Rattle.pl_base.specs.Store.{Item, Page, Store, item_id}
use Rattle.pl_base.specs.Title.{cut_title}
use Rattle.pl_base.specs.Tree.{children_of, item_at, new_item}
use Rattle.pl_base.proofs.ListLaws.{weaker}
use Rattle.pl_base.proofs.LookUps.{found_holds}
use Rattle.pl_base.proofs.ItemLookUps.{folder_kind}
use Rattle.pl_nbread.specs.declared.tree.Node.{Node}
use Rattle.pl_nbread.specs.WellFormed.{is_folder}
use Rattle.pl_graft.specs.Import.{folders_behind, innermost, node_row, page_of, with_item_of, with_node}
use Rattle.pl_graft.specs.Import.{with_page_of, with_row}
use Rattle.pl_graft.specs.Ready.{IsReady, Takes}
use Rattle.pl_graft.proofs.ItemsKept.{items_page_of}
use Rattle.pl_graft.proofs.NodeLaws.{IsFormed, behind_take, folder_takes, item_page_of, page_there, ready_item_of}
use Rattle.pl_graft.proofs.NodeLaws.{ready_page_of, takes_page_of}
use Rattle.pl_graft.proofs.Ready.{takes_new, takes_root, takes_row}
use Rattle.pl_outline.specs.Outline.{preorder}
use Rattle.pl_outline.proofs.Bare.{HasPages, bare}
use Rattle.pl_outline.proofs.OneMore.{children_here, children_other, one_behind, same_below}
use Rattle.pl_outline.proofs.Preorders.{enough, shown_alike}
use Rattle.pl_outline.proofs.ShownNodes.{pages_more_of, shown, shown_grown, shown_new, shown_page, whole_title}
use Rattle.pl_outline.proofs.Spines.{IsLast, IsRootNumber, IsTaking, Spine, found_below, inner_taking}
use Rattle.pl_outline.proofs.Spines.{innermost_newest, none_yet, off_apart, off_closed, off_root, spine_take, taking}
use Rattle.pl_outline.proofs.Spines.{IsOff, way_down}
use Rattle.pl_outline.proofs.TagsBelow.{Stays, below_of, stays_tags_of}

-- the folders that are open in a store that is ready
pub record GoesOn (store : Store) (n : ℕ) (folders : List ItemId) : Type 0 where
  pub ready : IsReady store
  pub pages : HasPages store
  pub takes : AllByRecursion (Takes store) (item_id n ∷ folders)
  pub spine : Spine store.items (item_id n) folders

-- the same pages
pub has_pages_as : (old new : Store) → new.pages ≡ old.pages → new.ids.page ≡ old.ids.page → HasPages old
    → HasPages new
has_pages_as old new same next h =
    record {
      ascending =
          subst (λ (ps : List Page). IsStrictlyIncreasing (map (λ (p : Page). p.id.0) ps)) (sym same) h.ascending;
      below =
          subst (λ (ps : List Page). All (λ (p : Page). p.id.0 < new.ids.page) ps) (sym same)
          (subst (λ (k : ℕ). All (λ (p : Page). p.id.0 < k) old.pages) (sym next) h.below);
      urls = subst (λ (ps : List Page). AllPairs (λ (p q : Page). p.url ≢ q.url) ps) (sym same) h.urls;
    }

-- ---- a page more

page_below : (url : Option (List ℕ)) (store : Store) → IsReady store → (c : ItemId)
    → below_of (with_page_of url store) c ≡ below_of store c
page_below url store r c =
    ap (λ (js : List Item). preorder (shown (with_page_of url store).pages) (length js) js 0 c)
    (items_page_of store url)
    ∙ shown_alike (shown (with_page_of url store).pages) (shown store.pages) store.items
    (λ x i is d. shown_page url store d i (good x i is).page) (length store.items) 0 c
  where
    good : (x : ItemId) (i : Item) → item_at store.items x ≡ Some i → IsGoodItem store i
    good x i is =
        found_holds (IsGoodItem store) (λ (j : Item). j.id.0 == x.0) store.items i
        (recursion_from_All (IsGoodItem store) store.items r.good.items) is

page_goes_on : (url : Option (List ℕ)) (store : Store) (n : ℕ) (folders : List ItemId) → GoesOn store n folders
    → GoesOn (with_page_of url store) n folders
page_goes_on url store n folders g =
    record {
      ready = ready_page_of url store g.ready;
      pages = pages_more_of url store g.pages;
      takes =
          weaker (Takes store) (Takes (with_page_of url store)) (item_id n ∷ folders) (takes_page_of url store) g.takes;
      spine = subst (λ (js : List Item). Spine js (item_id n) folders) (sym (items_page_of store url)) g.spine;
    }

-- ---- an item more

module _ (store : Store) (n : ℕ) (is : IsRootNumber n) (folders : List ItemId) (g : GoesOn store n folders)
    (row : ItemRow) (title : List ℕ) where
  abbrev root : ItemId
  root = item_id n

  abbrev parent : ItemId
  parent = innermost root folders

  abbrev id : ItemId
  id = item_id store.ids.item

  abbrev new : Item
  new = new_item id row title

  abbrev after : Store
  after = with_row parent row title store

  inner : IsTaking store.items parent
  inner = inner_taking store g.ready n is folders g.spine g.takes

  apart : parent.0 ≢ id.0
  apart same =
      let below : parent.0 < store.ids.item = found_below store g.ready parent inner.folder inner.there in
      omega (arith, same)

  abbrev Off : ItemId → Type 0
  Off = IsOff store.ids.item (root ∷ folders)

  row_below : IsReady after
      → below_of after root ≡ below_of store root ++ shown store.pages (length folders) new ∷ []
  row_below ready =
      let many : ℕ = length folders + 1 + (length store.items + length after.items) in
      sym (enough (shown store.pages) after.items ready.good.tree many 0 root (omega arith))
      ∙ one_behind store.items parent id new refl Off
      (off_apart store g.ready n is folders g.spine g.takes)
      (off_closed store g.ready n is folders g.spine g.takes) (shown store.pages) (none_yet store g.ready) refl
      inner.folder inner.there apart (shown_grown store.pages parent id) folders root many 0 (length folders)
      (way_down store g.ready n is folders g.spine g.takes id refl) refl (omega arith) (omega arith)
      ∙ ap (λ (ns : List Node). ns ++ shown store.pages (length folders) new ∷ [])
      (enough (shown store.pages) store.items g.ready.good.tree many 0 root (omega arith))

  row_other : IsReady after → (m : ℕ) → IsRootNumber m → m ≢ n
      → below_of after (item_id m) ≡ below_of store (item_id m)
  row_other ready m is_root other =
      let many : ℕ = length store.items + length after.items in
      sym (enough (shown store.pages) after.items ready.good.tree many 0 (item_id m)
      (omega arith))
      ∙ same_below store.items parent id new refl Off
      (off_apart store g.ready n is folders g.spine g.takes)
      (off_closed store g.ready n is folders g.spine g.takes) (shown store.pages) many 0 (item_id m)
      (off_root store g.ready n is folders g.spine g.takes m is_root other)
      ∙ enough (shown store.pages) store.items g.ready.good.tree many 0 (item_id m)
      (omega arith)

  -- the spine goes on
  link : (c f : ItemId) (fs : List ItemId) → IsLast store.items c f → Spine store.items f fs → Takes store c
      → innermost f fs ≡ parent → IsLast after.items c f
  link c f fs l s takes ends =
      let t : IsTaking store.items c = taking store.items c takes in
      let below : c.0 < store.ids.item = found_below store g.ready c t.folder t.there in
      record {
        front = l.front;
        is =
            children_other store.items parent id new refl c
            (λ same. omega (
              arith,
              l.above,
              innermost_newest store.items f fs s,
              ap (λ (z : ItemId). z.0) ends,
            )) (λ same. omega arith)
            ∙ l.is;
        above = l.above;
        late = l.late;
      }

  kept_spine : (c : ItemId) (fs : List ItemId) → Spine store.items c fs → AllByRecursion (Takes store) (c ∷ fs)
      → innermost c fs ≡ parent → Spine after.items c fs
  kept_spine c [] s takes ends = tt
  kept_spine c (f ∷ fs) s takes ends =
      (link c f fs s.0 s.1 takes.0 ends, kept_spine f fs s.1 takes.1 ends)

  longer_spine : (c : ItemId) (fs : List ItemId) → Spine store.items c fs → AllByRecursion (Takes store) (c ∷ fs)
      → innermost c fs ≡ parent → Spine after.items c (fs ++ id ∷ [])
  longer_spine c [] s takes ends =
      let t : IsTaking store.items c = taking store.items c takes.0 in (
        record {
          front = children_of store.items c;
          is =
              subst (λ (z : ItemId). children_of after.items z ≡ children_of store.items z ++ id ∷ []) (sym ends)
              (children_here store.items parent id new refl inner.folder apart inner.there);
          above = found_below store g.ready c t.folder t.there;
          late = omega (arith, g.ready.first);
        },
        tt,
      )
  longer_spine c (f ∷ fs) s takes ends =
      (link c f fs s.0 s.1 takes.0 ends, longer_spine f fs s.1 takes.1 ends)

  row_spine : (b : Bool) → Spine after.items root (folders ++ (if b then id ∷ [] else []))
  row_spine true = longer_spine root folders g.spine g.takes refl
  row_spine false =
      subst (Spine after.items root) (sym (append-nil folders)) (kept_spine root folders g.spine g.takes refl)

-- ---- tags

spine_stays : (old later : Store) → Stays old later → (c : ItemId) (fs : List ItemId)
    → AllByRecursion (Takes old) (c ∷ fs) → Spine old.items c fs → Spine later.items c fs
spine_stays old later stays c [] takes s = tt
spine_stays old later stays c (f ∷ fs) takes s = (
  record {
    front = s.0.front;
    is = stays.children c takes.0 ∙ s.0.is;
    above = s.0.above;
    late = s.0.late;
  },
  spine_stays old later stays f fs takes.1 s.1,
)

-- ---- the node

take_first : (P : ItemId → Type 0) (k : ℕ) (ids : List ItemId) → AllByRecursion P ids → AllByRecursion P (take k ids)
take_first P k [] all = rw take-nil tt
take_first P zero (c ∷ cs) all = tt
take_first P (suc k) (c ∷ cs) all = (all.0, take_first P k cs all.1)

-- what a store is with a node more
pub record IsAdded (store new : Store) (n : ℕ) (folders : List ItemId) (node : Node) : Type 0 where
  pub goes_on : GoesOn new n (folders_behind folders node (item_id store.ids.item))
  pub below : below_of new (item_id n) ≡ below_of store (item_id n) ++ bare node ∷ []
  pub others :
      (m : ℕ) → IsRootNumber m → m ≢ n → below_of new (item_id m) ≡ below_of store (item_id m)

module _ (store : Store) (n : ℕ) (is : IsRootNumber n) (folders : List ItemId) (g : GoesOn store n folders)
    (node : Node) (deep : node.depth ≤ length folders) (f : IsFormed node) (title : IsTitle node.title) where
  abbrev top : ItemId
  top = item_id n

  abbrev open_now : List ItemId
  open_now = take node.depth folders

  abbrev last : ItemId
  last = innermost top open_now

  abbrev page : Store
  page = with_page_of node.url store

  abbrev line : ItemRow
  line = node_row last (page_of node.url store) node

  abbrev item : Store
  item = with_item_of last node store

  abbrev whole : Store
  whole = with_node last node store

  abbrev made : ItemId
  made = item_id page.ids.item

  first : GoesOn store n open_now
  first =
      record {
        ready = g.ready;
        pages = g.pages;
        takes = (g.takes.0, take_first (Takes store) node.depth folders g.takes.1);
        spine = spine_take store.items top node.depth folders g.spine;
      }

  paged : GoesOn page n open_now
  paged = page_goes_on node.url store n open_now first

  item_ready : IsReady item
  item_ready =
      ready_item_of store last node g.ready (folder_takes store top folders node g.takes.0 g.takes.1) f
      (whole_title node.title title)

  last_taking : Takes page last
  last_taking = takes_page_of node.url store last (folder_takes store top folders node g.takes.0 g.takes.1)

  item_takes : AllByRecursion (Takes item) (top ∷ folders_behind folders node made)
  item_takes = (
    takes_row page last line (cut_title node.title) paged.ready last_taking top paged.takes.0,
    behind_take page item folders node made
        (weaker (Takes store) (Takes page) folders (takes_page_of node.url store) g.takes.1)
        (takes_row page last line (cut_title node.title) paged.ready last_taking)
        (λ b. takes_new page last line (cut_title node.title) paged.ready last_taking
        (folder_kind is_folder refl refl node.kind b)),
  )

  item_spine : Spine item.items top (folders_behind folders node made)
  item_spine = row_spine page n is open_now paged line (cut_title node.title) (is_folder node.kind)

  stays : Stays item whole
  stays = stays_tags_of node f (page_of node.url store) item item_ready (page_there node.url store)

  whole_goes_on : GoesOn whole n (folders_behind folders node made)
  whole_goes_on =
      record {
        ready = stays.ready;
        pages = has_pages_as page whole stays.pages stays.next_page paged.pages;
        takes = weaker (Takes item) (Takes whole) (top ∷ folders_behind folders node made) stays.takes item_takes;
        spine = spine_stays item whole stays top (folders_behind folders node made) item_takes item_spine;
      }

  pub node_added : IsAdded store whole n folders node
  node_added =
      record {
        goes_on =
            subst (λ (k : ℕ). GoesOn whole n (folders_behind folders node (item_id k))) (item_page_of node.url store)
            whole_goes_on;
        below =
            stays.below top item_takes.0
            ∙ row_below page n is open_now paged line (cut_title node.title) item_ready
            ∙ ap (λ (ns : List Node).
            ns ++ shown page.pages (length open_now) (new_item made line (cut_title node.title)) ∷ [])
            (page_below node.url store g.ready top)
            ∙ ap (λ (d : ℕ).
            below_of store top ++ shown page.pages d (new_item made line (cut_title node.title)) ∷ []) depth
            ∙ ap (λ (k : Node). below_of store top ++ k ∷ []) (shown_new store last made node g.pages title.1);
        others =
            λ m root other. stays.below (item_id m) (takes_root item m item_ready root)
            ∙ row_other page n is open_now paged line (cut_title node.title) item_ready m root other
            ∙ page_below node.url store g.ready (item_id m);
      }
    where
      depth : length open_now ≡ node.depth
      depth = omega (arith, length-take node.depth folders)
