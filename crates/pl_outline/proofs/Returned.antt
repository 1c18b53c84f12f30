-- A tree that is imported into a store without bookmarks is read from it again: the whole tree of a good
-- store, and what a bookmark file keeps of it.
use Rattle.std.proofs.Common.{◌≡◌, ◌∙◌, ◌||◌, ℕ, Bool, true, List, [], ◌∷◌, ap, map, refl, sym}
use Rattle.std.specs.List.{AllByRecursion}
use Rattle.std.proofs.lemmas.Bool.{or_left, or_right}
use Rattle.std.proofs.lemmas.List.Elements.{recursion_from_All}
use Rattle.pl_base.specs.declared.id.ItemId.{ItemId}
use Rattle.pl_base.specs.Good.{HasTags, IsGood}
use Rattle.pl_base.specs.Store.{Store, item_id, opening}
use Rattle.pl_base.proofs.ListLaws.{map-map}
use Rattle.pl_nbread.specs.declared.tree.Node.{Node}
use Rattle.pl_nbread.specs.declared.tree.Tree.{Tree}
use Rattle.pl_keyed.specs.NamedUrls.{has_url, is_named}
use Rattle.pl_graft.specs.Import.{imported}
use Rattle.pl_graft.specs.Restored.{emptied, restored}
use Rattle.pl_outline.specs.BroughtBack.{IsBroughtBack}
use Rattle.pl_outline.specs.Outline.{bookmarks, listed, node_of, whole, whole_node}
use Rattle.pl_outline.proofs.Bare.{bare, retagged, url_tags, whole_below}
use Rattle.pl_outline.proofs.FirstStores.{IsFirst, emptied_first, opening_first}
use Rattle.pl_outline.proofs.IdlePages.{whole_left}
use Rattle.pl_outline.proofs.ImportedBare.{bare_below, imported_menu, imported_mobile, imported_toolbar}
use Rattle.pl_outline.proofs.ImportedBare.{imported_unfiled}
use Rattle.pl_outline.proofs.KeptNodes.{bookmarks_are, bookmarks_kept, kept_returns, kept_tree}
use Rattle.pl_outline.proofs.OwnTags.{IsKnown, MayReturn, below_retagged, whole_returns}
use Rattle.pl_outline.proofs.PlainTrees.{all_listed, storable, whole_storable}
use Rattle.pl_outline.proofs.RestStays.{Rest, rest, rest_tree}
use Rattle.pl_outline.proofs.TagsBack.{AllMayReturn, TreeMayReturn, all_behind, tags_back}
use Rattle.pl_outline.proofs.TagsBelow.{below_of}
use Rattle.pl_outline.proofs.TagsMade.{Stands}

-- ---- a tree that may return

module _ (store : Store) (tags : HasTags store) (tree : Tree) (may : TreeMayReturn store tree) (start : Store)
    (first : IsFirst start) where
  abbrev after : Store
  after = imported tree start

  -- a list is the same again where its nodes are but for their tags
  list_back : (root : ItemId) (nodes : List Node) → AllMayReturn store nodes
      → ((url : List ℕ) → has_url nodes url ≡ true → is_named tree url ≡ true)
      → below_of after root ≡ map bare nodes → whole_below after root ≡ nodes
  list_back root nodes m names same =
      below_retagged after behind.ready behind.pages root
      ∙ sym (map-map (retagged after) bare (whole_below after root))
      ∙ ap (map (retagged after)) (bare_below after root ∙ same)
      ∙ map-map (retagged after) bare nodes
      ∙ each nodes (tags_back store tags tree may start first nodes names m)
    where
      behind : Stands (IsKnown store) after
      behind = (all_behind store tags tree may start first).stands

      each : (ns : List Node) → AllByRecursion (λ (b : Node). url_tags after b.url ≡ b.tags) ns
          → map (retagged after) ns ≡ ns
      each [] all = refl
      each (b ∷ bs) all =
          ap (λ (names : List (List ℕ)). let c : Node = record b { tags = names } in c ∷ map (retagged after) bs) all.0
          ∙ ap (λ (cs : List Node). b ∷ cs) (each bs all.1)

  named_in : (a b c d : Bool) → (a ≡ true → (a || b || c || d) ≡ true) × ((b ≡ true → (a || b || c || d) ≡ true)
      × ((c ≡ true → (a || b || c || d) ≡ true) × (d ≡ true → (a || b || c || d) ≡ true)))
  named_in a b c d = (
    λ is. or_left (a || b || c) d (or_left (a || b) c (or_left a b is)),
    (
      λ is. or_left (a || b || c) d (or_left (a || b) c (or_right a b is)),
      (λ is. or_left (a || b || c) d (or_right (a || b) c is), λ is. or_right (a || b || c) d is),
    ),
  )

  pub returned : tree.skipped ≡ 0 → whole (imported tree start) ≡ tree
  returned none =
      let names = λ (url : List ℕ).
      named_in (has_url tree.menu url) (has_url tree.toolbar url) (has_url tree.unfiled url) (has_url tree.mobile url) in
      let menu : whole_below after (item_id 2) ≡ tree.menu =
      list_back (item_id 2) tree.menu may.menu (λ url. (names url).0)
      (imported_menu tree may.menu.storable may.toolbar.storable may.unfiled.storable may.mobile.storable start first) in
      let toolbar : whole_below after (item_id 3) ≡ tree.toolbar =
      list_back (item_id 3) tree.toolbar may.toolbar (λ url. (names url).1.0)
      (imported_toolbar tree may.menu.storable may.toolbar.storable may.unfiled.storable may.mobile.storable start first)
      in
      let unfiled : whole_below after (item_id 5) ≡ tree.unfiled =
      list_back (item_id 5) tree.unfiled may.unfiled (λ url. (names url).1.1.0)
      (imported_unfiled tree may.menu.storable may.toolbar.storable may.unfiled.storable may.mobile.storable start first)
      in
      let mobile : whole_below after (item_id 6) ≡ tree.mobile =
      list_back (item_id 6) tree.mobile may.mobile (λ url. (names url).1.1.1)
      (imported_mobile tree may.menu.storable may.toolbar.storable may.unfiled.storable may.mobile.storable start first)
      in
      λ i. record {
        menu = menu i;
        toolbar = toolbar i;
        unfiled = unfiled i;
        mobile = mobile i;
        skipped = sym none i;
      }

-- ---- the trees of a good store

module _ (store : Store) (good : IsGood store) where
  abbrev may_return : Node → Type 0
  may_return = MayReturn store

  whole_list : (root : ItemId) → AllMayReturn store (whole_below store root)
  whole_list root =
      record {
        storable = whole_storable store good root;
        each =
            recursion_from_All may_return (whole_below store root)
            (all_listed store good.items (whole_node store) may_return (whole_returns store good) root);
      }

  kept_list : (root : ItemId) → AllMayReturn store (listed store root)
  kept_list root =
      record {
        storable = storable store good root;
        each =
            recursion_from_All may_return (listed store root)
            (all_listed store good.items (node_of store) may_return
            (λ depth i own. kept_returns store (whole_node store depth i) (whole_returns store good depth i own)) root);
      }

  whole_returned : (start : Store) → IsFirst start → whole (imported (whole store) start) ≡ whole store
  whole_returned start first =
      returned store good.tags (whole store)
      (record {
        menu = whole_list (item_id 2);
        toolbar = whole_list (item_id 3);
        unfiled = whole_list (item_id 5);
        mobile = whole_list (item_id 6);
      })
      start first refl

  -- the whole tree comes back by a restore
  pub comes_back : (first : Store) → IsGood first → IsBroughtBack (whole store) first
  comes_back first other =
      let stays : rest (restored (whole store) first) ≡ rest first = rest_tree (whole store) (emptied first) in
      record {
        again =
            whole_left (imported (whole store) (emptied first))
            ∙ whole_returned (emptied first) (emptied_first first other);
        day = ap (λ (r : Rest). r.day) stays;
        visits = ap (λ (r : Rest). r.visits) stays;
        visit_ids = ap (λ (r : Rest). r.next_visit) stays;
      }

  -- the bookmarks come back by an import into the store before its first command
  pub bookmarks_returned : bookmarks (imported (bookmarks store) opening) ≡ bookmarks store
  bookmarks_returned =
      sym (bookmarks_are (imported (bookmarks store) opening))
      ∙ ap kept_tree
      (returned store good.tags (bookmarks store)
      (record {
        menu = kept_list (item_id 2);
        toolbar = kept_list (item_id 3);
        unfiled = kept_list (item_id 5);
        mobile = kept_list (item_id 6);
      })
      opening opening_first refl)
      ∙ bookmarks_kept store
