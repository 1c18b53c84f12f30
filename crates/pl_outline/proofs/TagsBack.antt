-- An import of a tree into a store without bookmarks gives each URL the tags that the nodes have for it.
use Rattle.std.proofs.Common.{◌≡◌, ◌∙◌, ◌&&◌, ◌||◌, inl, inr, ℕ, Bool, true, false}
use Rattle.std.proofs.Common.{List, [], ◌∷◌, Option, Some, None, ap, bytes_eq, filter, if◌then◌else◌}
use Rattle.std.proofs.Common.{map, refl, subst, sym}
use Rattle.std.specs.List.{AllByRecursion, list_any}
use Rattle.std.proofs.lemmas.Bool.{false≢true, or_left, or_right}
use Rattle.std.proofs.lemmas.List.Sorted.{list_any-IsPermutation}
use Rattle.std.proofs.lemmas.Option.{none-some, same_Some}
use Rattle.std.proofs.lemmas.Slice.Eq.{bytes_eq-Decides}
use Rattle.pl_base.specs.declared.id.PageId.{PageId}
use Rattle.pl_base.specs.Fold.{folded}
use Rattle.pl_base.specs.Good.{HasTags}
use Rattle.pl_base.specs.Store.{Item, Store, item_id}
use Rattle.pl_base.specs.Tags.{by_fold, has_tag, is_before, page_tags, tags_of}
use Rattle.pl_base.specs.Tree.{child_items, is_page}
use Rattle.pl_base.specs.Visiting.{page_for}
use Rattle.pl_base.proofs.ListLaws.{any-and, list_any-map, weaker}
use Rattle.pl_base.proofs.SortLaws.{sorted_moves}
use Rattle.pl_base.proofs.LookUps.{both}
use Rattle.pl_marks.proofs.TagEntries.{Differ, differ_filter, differ_named, look, one_list, order_ascends, order_looks}
use Rattle.pl_marks.proofs.TagEntries.{tag_entry, tags_found, titles_are}
use Rattle.pl_nbread.specs.declared.tree.Node.{Node}
use Rattle.pl_nbread.specs.declared.tree.Tree.{Tree}
use Rattle.pl_keyed.specs.NamedUrls.{has_url, is_named, is_url}
use Rattle.pl_keyed.specs.TagRows.{TagEntry, TagRow, entry_row, holds, tag_row, tag_rows}
use Rattle.pl_graft.specs.Import.{imported, with_list}
use Rattle.pl_graft.proofs.Ready.{takes_root}
use Rattle.pl_outline.proofs.Bare.{AreStorable, url_tags}
use Rattle.pl_outline.proofs.FirstStores.{IsFirst}
use Rattle.pl_outline.proofs.OwnTags.{HasOwn, IsKnown, MayReturn}
use Rattle.pl_outline.proofs.Spines.{IsRootNumber}
use Rattle.pl_outline.proofs.TagMarks.{AreKnown, has_text, marks}
use Rattle.pl_outline.proofs.TagsMade.{Behind, MayCome, Stands, nodes_behind, told, url_marks}

shared : (a b c : Bool) → ((a && c) || (b && c)) ≡ ((a || b) && c)
shared true b true = refl
shared true true false = refl
shared true false false = refl
shared false b c = refl

-- ---- the tags of a page in order are known by which they are

abbrev title_of : Item → List ℕ
title_of t = t.title

text_is : (t : List ℕ) → bytes_eq t t ≡ true
text_is t = (bytes_eq-Decides t t).1 refl

-- what is looked up is among the titles, and has the fold
looked_up : (q title : List ℕ) (ts : List Item) → look q (map tag_entry ts) ≡ Some title
    → (has_text title (map title_of ts) ≡ true) × (folded title ≡ q)
looked_up q title [] found = absurd (none-some title found)
looked_up q title (t ∷ ts) found = choose (bytes_eq (folded t.title) q) refl found (looked_up q title ts)
  where
    choose : (b : Bool) → bytes_eq (folded t.title) q ≡ b
        → (if b then Some t.title else look q (map tag_entry ts)) ≡ Some title
        → (look q (map tag_entry ts) ≡ Some title
        → (has_text title (map title_of ts) ≡ true) × (folded title ≡ q))
        → (has_text title (map title_of (t ∷ ts)) ≡ true) × (folded title ≡ q)
    choose true is here rest =
        let same : t.title ≡ title = same_Some t.title title here in (
          or_left (bytes_eq t.title title) (has_text title (map title_of ts)) ((bytes_eq-Decides t.title title).1 same),
          ap folded (sym same) ∙ (bytes_eq-Decides (folded t.title) q).0 is,
        )
    choose false is here rest =
        let r = rest here in
        (or_right (bytes_eq t.title title) (has_text title (map title_of ts)) r.0, r.1)

-- a title among them is looked up by its fold
looks_up : (title : List ℕ) (ts us : List Item)
    → AllByRecursion (λ (t : Item). look (folded t.title) (map tag_entry us) ≡ Some t.title) ts
    → has_text title (map title_of ts) ≡ true → look (folded title) (map tag_entry us) ≡ Some title
looks_up title [] us all some = absurd (false≢true some)
looks_up title (t ∷ ts) us all some = choose (bytes_eq t.title title) refl some (looks_up title ts us all.1)
  where
    choose : (b : Bool) → bytes_eq t.title title ≡ b → (b || has_text title (map title_of ts)) ≡ true
        → (has_text title (map title_of ts) ≡ true → look (folded title) (map tag_entry us) ≡ Some title)
        → look (folded title) (map tag_entry us) ≡ Some title
    choose true is some rest =
        subst (λ (x : List ℕ). look (folded x) (map tag_entry us) ≡ Some x)
        ((bytes_eq-Decides t.title title).0 is) all.0
    choose false is some rest = rest some

-- tags with the same titles are the same in order
same_titles : (ts us : List Item) → Differ ts → Differ us
    → ((title : List ℕ) → has_text title (map title_of ts) ≡ has_text title (map title_of us))
    → map title_of (by_fold ts) ≡ map title_of (by_fold us)
same_titles ts us differ other same =
    sym (titles_are ts (map tag_entry (by_fold ts)) refl)
    ∙ titles_are us (map tag_entry (by_fold ts))
    (one_list (map tag_entry (by_fold ts)) (map tag_entry (by_fold us)) (order_ascends ts differ)
    (order_ascends us other)
    (λ q. order_looks q ts differ ∙ alike q (look q (map tag_entry ts)) (look q (map tag_entry us)) refl refl
    ∙ sym (order_looks q us other)))
  where
    alike : (q : List ℕ) (o p : Option (List ℕ)) → look q (map tag_entry ts) ≡ o → look q (map tag_entry us) ≡ p → o ≡ p
    alike q (Some title) p first second =
        let r = looked_up q title ts first in
        sym (looks_up title us us (tags_found us other) (sym (same title) ∙ r.0))
        ∙ ap (λ (f : List ℕ). look f (map tag_entry us)) r.1 ∙ second
    alike q None None first second = refl
    alike q None (Some title) first second =
        let r = looked_up q title us second in
        absurd (none-some title (sym first ∙ ap (λ (f : List ℕ). look f (map tag_entry ts)) (sym r.1)
        ∙ looks_up title ts ts (tags_found ts differ) (same title ∙ r.0)))

-- ---- the tags of a page, by the rows

titles_marked : (store : Store) (page : PageId) (title : List ℕ)
    → has_text title (map title_of (filter (has_tag store page) (tags_of store)))
    ≡ marks page title (tag_rows store.items)
titles_marked store page title =
    each (tags_of store)
    ∙ sym (list_any-map (λ (r : TagRow). bytes_eq r.title title && holds page r) (tag_row store.items) (tags_of store))
  where
    test : (t : Item) → has_tag store page t ≡ holds page (tag_row store.items t)
    test t = sym (list_any-map (λ (e : TagEntry). is_page page e.page) entry_row (child_items store.items t.id))

    one : (t : Item) (ts : List Item) (b : Bool)
        → has_text title (map title_of (if b
        then t ∷ filter (has_tag store page) ts
        else filter (has_tag store page) ts))
        ≡ ((bytes_eq t.title title && b) || has_text title (map title_of (filter (has_tag store page) ts)))
    one t ts true = turn (bytes_eq t.title title)
      where
        turn : (a : Bool)
            → (a || has_text title (map title_of (filter (has_tag store page) ts)))
            ≡ ((a && true) || has_text title (map title_of (filter (has_tag store page) ts)))
        turn true = refl
        turn false = refl
    one t ts false = turn (bytes_eq t.title title)
      where
        turn : (a : Bool)
            → has_text title (map title_of (filter (has_tag store page) ts))
            ≡ ((a && false) || has_text title (map title_of (filter (has_tag store page) ts)))
        turn true = refl
        turn false = refl

    each : (ts : List Item)
        → has_text title (map title_of (filter (has_tag store page) ts))
        ≡ list_any (λ (t : Item). bytes_eq t.title title && holds page (tag_row store.items t)) ts
    each [] = refl
    each (t ∷ ts) =
        one t ts (has_tag store page t)
        ∙ ap (λ (b : Bool).
        (bytes_eq t.title title && b) || has_text title (map title_of (filter (has_tag store page) ts)))
        (test t)
        ∙ ap (λ (b : Bool). (bytes_eq t.title title && holds page (tag_row store.items t)) || b) (each ts)

-- and in order
tags_marked : (store : Store) (page : PageId) (title : List ℕ)
    → has_text title (page_tags store page) ≡ marks page title (tag_rows store.items)
tags_marked store page title =
    list_any-map (λ (t : List ℕ). bytes_eq t title) title_of (by_fold tags)
    ∙ sym (list_any-IsPermutation (λ (t : Item). bytes_eq t.title title) tags (by_fold tags)
    (sorted_moves is_before tags))
    ∙ sym (list_any-map (λ (t : List ℕ). bytes_eq t title) title_of tags)
    ∙ titles_marked store page title
  where
    tags : List Item
    tags = filter (has_tag store page) (tags_of store)

-- two stores whose rows tell the same of a URL have the same tags at it
same_tags : (a b : Store) (url : List ℕ) → HasTags a → HasTags b
    → ((title : List ℕ) → url_marks a url title ≡ has_text title (url_tags b (Some url)))
    → url_tags a (Some url) ≡ url_tags b (Some url)
same_tags a b url tags_a tags_b same =
    same_titles (filter (has_tag a p) (tags_of a)) (filter (has_tag b q) (tags_of b))
    (differ_filter (has_tag a p) (tags_of a) (differ_named (tags_of a) tags_a.names))
    (differ_filter (has_tag b q) (tags_of b) (differ_named (tags_of b) tags_b.names))
    (λ title.
    titles_marked a p title ∙ same title ∙ tags_marked b q title ∙ sym (titles_marked b q title))
  where
    p : PageId
    p = (page_for a url).id

    q : PageId
    q = (page_for b url).id

-- ---- what the nodes of a store tell of a URL

module _ (store : Store) where
  told_own : (url title : List ℕ) (nodes : List Node) → AllByRecursion (HasOwn store) nodes
      → told url title nodes ≡ (has_url nodes url && has_text title (url_tags store (Some url)))
  told_own url title nodes all =
      each nodes all
      ∙ any-and (λ (n : Node). is_url url n.url) (has_text title (url_tags store (Some url))) nodes
    where
      turn : (a b : Bool) → (a && b) ≡ (b && a)
      turn true true = refl
      turn true false = refl
      turn false true = refl
      turn false false = refl

      with_test : (v : List ℕ) (b : Bool) → bytes_eq v url ≡ b
          → (has_text title (url_tags store (Some v)) && b)
          ≡ (b && has_text title (url_tags store (Some url)))
      with_test v true is =
          ap (λ (u : List ℕ). has_text title (url_tags store (Some u)) && true) ((bytes_eq-Decides v url).0 is)
          ∙ turn (has_text title (url_tags store (Some url))) true
      with_test v false is = turn (has_text title (url_tags store (Some v))) false

      one : (o : Option (List ℕ))
          → (has_text title (url_tags store o) && is_url url o)
          ≡ (is_url url o && has_text title (url_tags store (Some url)))
      one None = refl
      one (Some v) = with_test v (bytes_eq v url) refl

      each : (ns : List Node) → AllByRecursion (HasOwn store) ns
          → told url title ns
          ≡ list_any (λ (n : Node). is_url url n.url && has_text title (url_tags store (Some url))) ns
      each [] own = refl
      each (n ∷ ns) own =
          ap (λ (b : Bool). b || told url title ns)
          (ap (λ (tags : List (List ℕ)). has_text title tags && is_url url n.url) own.0 ∙ one n.url)
          ∙ ap (λ (b : Bool). (is_url url n.url && has_text title (url_tags store (Some url))) || b) (each ns own.1)

-- each node's URL is one of those that the nodes have
urls_there : (nodes : List Node)
    → AllByRecursion (λ (b : Node). (url : List ℕ) → b.url ≡ Some url → has_url nodes url ≡ true) nodes
urls_there [] = tt
urls_there (b ∷ bs) = (
  λ url is. or_left (is_url url b.url) (has_url bs url) (ap (is_url url) is ∙ text_is url),
  weaker (λ (c : Node). (url : List ℕ) → c.url ≡ Some url → has_url bs url ≡ true)
      (λ (c : Node). (url : List ℕ) → c.url ≡ Some url → has_url (b ∷ bs) url ≡ true) bs
      (λ c there url is. or_right (is_url url b.url) (has_url bs url) (there url is)) (urls_there bs),
)

-- ---- the import

-- a list that may return
pub record AllMayReturn (store : Store) (nodes : List Node) : Type 0 where
  pub storable : AreStorable nodes
  pub each : AllByRecursion (MayReturn store) nodes

-- a tree whose lists may return
pub record TreeMayReturn (store : Store) (tree : Tree) : Type 0 where
  pub menu : AllMayReturn store tree.menu
  pub toolbar : AllMayReturn store tree.toolbar
  pub unfiled : AllMayReturn store tree.unfiled
  pub mobile : AllMayReturn store tree.mobile

module _ (store : Store) (tags : HasTags store) (tree : Tree) (may : TreeMayReturn store tree) (start : Store)
    (first : IsFirst start) where
  one_title : (a b : List ℕ) → IsKnown store a → IsKnown store b → folded a ≡ folded b → a ≡ b
  one_title a b known other same =
      same_Some a b (sym known ∙ ap (λ (q : List ℕ). look q (map tag_entry (tags_of store))) same ∙ other)

  start_stands : Stands (IsKnown store) start
  start_stands =
      record {
        ready = first.ready;
        pages = first.pages;
        titles = subst (λ (js : List Item). AreKnown (IsKnown store) (tag_rows js)) (sym first.items) tt;
      }

  list_behind : (old : Store) → Stands (IsKnown store) old → (n : ℕ) → IsRootNumber n → (nodes : List Node)
      → AllMayReturn store nodes → Behind (IsKnown store) old (with_list (item_id n) nodes old) nodes
  list_behind old s n is nodes m =
      nodes_behind (IsKnown store) one_title (item_id n) nodes [] old s (takes_root old n s.ready is) tt
      (weaker (MayReturn store) (MayCome (IsKnown store)) nodes (λ b r. r.comes) m.each)

  -- the store with the first lists
  abbrev menu_in : Store
  menu_in = with_list (item_id 2) tree.menu start

  abbrev toolbar_in : Store
  toolbar_in = with_list (item_id 3) tree.toolbar menu_in

  abbrev unfiled_in : Store
  unfiled_in = with_list (item_id 5) tree.unfiled toolbar_in

  menu_behind : Behind (IsKnown store) start menu_in tree.menu
  menu_behind = list_behind start start_stands 2 (inl refl) tree.menu may.menu

  toolbar_behind : Behind (IsKnown store) menu_in toolbar_in tree.toolbar
  toolbar_behind = list_behind menu_in menu_behind.stands 3 (inr (inl refl)) tree.toolbar may.toolbar

  unfiled_behind : Behind (IsKnown store) toolbar_in unfiled_in tree.unfiled
  unfiled_behind = list_behind toolbar_in toolbar_behind.stands 5 (inr (inr (inl refl))) tree.unfiled may.unfiled

  pub all_behind : Behind (IsKnown store) unfiled_in (imported tree start) tree.mobile
  all_behind = list_behind unfiled_in unfiled_behind.stands 6 (inr (inr (inr refl))) tree.mobile may.mobile

  all_marked : (url title : List ℕ)
      → url_marks (imported tree start) url title ≡ (is_named tree url && has_text title (url_tags store (Some url)))
  all_marked url title =
      step (imported tree start) unfiled_in tree.mobile all_behind may.mobile
      (has_url tree.menu url || has_url tree.toolbar url || has_url tree.unfiled url)
      (step unfiled_in toolbar_in tree.unfiled unfiled_behind may.unfiled
      (has_url tree.menu url || has_url tree.toolbar url)
      (step toolbar_in menu_in tree.toolbar toolbar_behind may.toolbar (has_url tree.menu url)
      (step menu_in start tree.menu menu_behind may.menu false none)))
    where
      none : url_marks start url title ≡ false
      none = ap (λ (js : List Item). marks (page_for start url).id title (tag_rows js)) first.items

      step : (new old : Store) (nodes : List Node) → Behind (IsKnown store) old new nodes → AllMayReturn store nodes
          → (b : Bool) → url_marks old url title ≡ (b && has_text title (url_tags store (Some url)))
          → url_marks new url title
          ≡ ((b || has_url nodes url) && has_text title (url_tags store (Some url)))
      step new old nodes behind m b so_far =
          behind.marked url title
          ∙ ap (λ (t : Bool). t || told url title nodes) so_far
          ∙ ap (λ (t : Bool). (b && has_text title (url_tags store (Some url))) || t)
          (told_own store url title nodes (weaker (MayReturn store) (HasOwn store) nodes (λ n r. r.own) m.each))
          ∙ shared b (has_url nodes url) (has_text title (url_tags store (Some url)))

  -- a URL that the tree names has the tags that it had
  back_at : (url : List ℕ) → is_named tree url ≡ true
      → url_tags (imported tree start) (Some url) ≡ url_tags store (Some url)
  back_at url is =
      same_tags (imported tree start) store url all_behind.stands.ready.good.tags tags
      (λ title. all_marked url title
      ∙ ap (λ (b : Bool). b && has_text title (url_tags store (Some url))) is)

  -- each node of a list has the tags that the store has for its URL behind the import
  pub tags_back : (nodes : List Node) → ((url : List ℕ) → has_url nodes url ≡ true → is_named tree url ≡ true)
      → AllMayReturn store nodes
      → AllByRecursion (λ (b : Node). url_tags (imported tree start) b.url ≡ b.tags) nodes
  tags_back nodes names m =
      both (MayReturn store) (λ (b : Node). (url : List ℕ) → b.url ≡ Some url → has_url nodes url ≡ true)
      (λ (b : Node). url_tags (imported tree start) b.url ≡ b.tags) nodes
      (λ b r there. back b.url there ∙ sym r.own) m.each (urls_there nodes)
    where
      back : (o : Option (List ℕ)) → ((url : List ℕ) → o ≡ Some url → has_url nodes url ≡ true)
          → url_tags (imported tree start) o ≡ url_tags store o
      back None there = refl
      back (Some url) there = back_at url (names url (there url refl))
