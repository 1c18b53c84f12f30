-- A restore is the same where the pages that neither stand nor are named go before it.
use Rattle.std.proofs.Common.{◌≡◌, ◌≢◌, ◌<◌, ◌∙◌, ◌==◌, ◌||◌, ℕ, Bool, true, false, List, [], ◌∷◌, Option, Some}
use Rattle.std.proofs.Common.{None, ap, arith, bytes_eq, eq-eqb, inl, inr, map, refl, suc, sym}
use Rattle.std.specs.List.{AllPairs, list_any}
use Rattle.std.proofs.Math.Bool.{or-false}
use Rattle.std.proofs.lemmas.Bool.{eqb-true, or_left, or_right}
use Rattle.std.proofs.lemmas.List.Elements.{recursion_from_All}
use Rattle.std.proofs.lemmas.List.Kept.{AllPairs-from_increasing}
use Rattle.std.proofs.lemmas.Slice.Eq.{bytes_eq-Decides}
use Rattle.pl_base.specs.Good.{IsGood, is_visited}
use Rattle.pl_base.specs.Removal.{is_standing}
use Rattle.pl_base.specs.Store.{Page, Store, Visit}
use Rattle.pl_base.proofs.Among.{In, all_from_in, any_from_in, at_in}
use Rattle.pl_base.proofs.ListLaws.{AllPairs-from_map, filter-where, from_map}
use Rattle.pl_base.proofs.Truths.{same_tests}
use Rattle.pl_nbread.specs.declared.tree.Node.{Node}
use Rattle.pl_nbread.specs.declared.tree.Tree.{Tree}
use Rattle.pl_keyed.specs.NamedUrls.{has_url, is_named, is_url}
use Rattle.pl_graft.specs.Import.{imported}
use Rattle.pl_graft.specs.Restored.{emptied, restored}
use Rattle.pl_graft.specs.Spared.{is_spared, spared}
use Rattle.pl_graft.proofs.PagesCut.{Keeps, KeepsOf, cut, imported_cut}
use Rattle.pl_graft.proofs.PagesNamed.{IsTold, refers, told_tree, visits_tree}

-- ---- pages that differ

-- of those that all differ, two with the same key are one
once : {K : Type 0} (key : Page → K) (ps : List Page) → AllPairs (λ (p q : Page). key p ≢ key q) ps → (p q : Page)
    → In p ps → In q ps → key p ≡ key q → p ≡ q
once key [] pairs p q h g same = absurd h
once key (x ∷ ps) pairs p q (inl e) (inl f) same = e ∙ sym f
once key (x ∷ ps) pairs p q (inl e) (inr g) same =
    absurd (at_in (λ (r : Page). key x ≢ key r) ps q (recursion_from_All (λ (r : Page). key x ≢ key r) ps
    (λ k d within. pairs 0 (suc k) d (omega arith) (omega arith))) g (ap key (sym e) ∙ same))
once key (x ∷ ps) pairs p q (inr h) (inl f) same =
    absurd (at_in (λ (r : Page). key x ≢ key r) ps p (recursion_from_All (λ (r : Page). key x ≢ key r) ps
    (λ k d within. pairs 0 (suc k) d (omega arith) (omega arith))) h (ap key (sym f) ∙ sym same))
once key (x ∷ ps) pairs p q (inr h) (inr g) same =
    once key ps (λ i j d before within. pairs (suc i) (suc j) d (omega arith) (omega arith)) p q h g same

ids_differ : (store : Store) → IsGood store → AllPairs (λ (p q : Page). p.id.0 ≢ q.id.0) store.pages
ids_differ store good i j d before within same =
    let less = AllPairs-from_map (λ m n. m < n) (λ (p : Page). p.id.0) store.pages
    (AllPairs-from_increasing (map (λ (p : Page). p.id.0) store.pages) good.page_ids.ascending) i j d before within in
    omega arith

-- a good store without bookmarks
told_first : (store : Store) → IsGood store → IsTold (λ url. false) (emptied store)
told_first store good =
    record {
      alike = λ p q h g.
          same_tests (p.id.0 == q.id.0) (bytes_eq p.url q.url)
          (λ is. (bytes_eq-Decides p.url q.url).1 (ap (λ (r : Page). r.url)
          (once (λ (r : Page). r.id.0) store.pages (ids_differ store good) p q h g (eqb-true p.id.0 q.id.0 is))))
          (λ is. eq-eqb p.id.0 q.id.0 (ap (λ (r : Page). r.id.0)
          (once (λ (r : Page). r.url) store.pages good.urls p q h g ((bytes_eq-Decides p.url q.url).0 is))));
      below = λ p h.
          (at_in (λ (q : Page). (0 < q.id.0) × (q.id.0 < store.ids.page)) store.pages p
          (from_map (λ n. (0 < n) × (n < store.ids.page)) (λ (q : Page). q.id.0) store.pages
          (recursion_from_All (λ n. (0 < n) × (n < store.ids.page)) (map (λ (q : Page). q.id.0) store.pages)
          good.page_ids.given)) h).1;
      refers = λ p h. refl;
    }

-- ---- pages that are named stay

module _ (tree : Tree) (store : Store) where
  stays : (url : List ℕ) → is_named tree url ≡ true → Keeps (is_spared tree store) url
  stays url named p is =
      or_right (is_standing store p.id) (is_named tree p.url)
      (ap (is_named tree) ((bytes_eq-Decides p.url url).0 is) ∙ named)

  stays_of : (nodes : List Node) → ((url : List ℕ) → has_url nodes url ≡ true → is_named tree url ≡ true)
      → (n : Node) → In n nodes → (url : Option (List ℕ)) → n.url ≡ url → KeepsOf (is_spared tree store) url
  stays_of nodes names n h None is = tt
  stays_of nodes names n h (Some url) is =
      stays url (names url (any_from_in (λ (m : Node). is_url url m.url) nodes n h
      (ap (is_url url) is ∙ (bytes_eq-Decides url url).1 refl)))

  list_stays : (nodes : List Node) → ((url : List ℕ) → has_url nodes url ≡ true → is_named tree url ≡ true)
      → (n : Node) → In n nodes → KeepsOf (is_spared tree store) n.url
  list_stays nodes names n h = stays_of nodes names n h n.url refl

  pub imported_spared : imported tree (spared tree store) ≡ cut (is_spared tree store) (imported tree store)
  imported_spared =
      imported_cut (is_spared tree store) tree
      (list_stays tree.menu (λ url is.
      first (has_url tree.menu url) (has_url tree.toolbar url) (has_url tree.unfiled url) (has_url tree.mobile url) is))
      (list_stays tree.toolbar (λ url is.
      second (has_url tree.menu url) (has_url tree.toolbar url) (has_url tree.unfiled url) (has_url tree.mobile url) is))
      (list_stays tree.unfiled (λ url is.
      or_left (has_url tree.menu url || has_url tree.toolbar url || has_url tree.unfiled url) (has_url tree.mobile url)
      (or_right (has_url tree.menu url || has_url tree.toolbar url) (has_url tree.unfiled url) is)))
      (list_stays tree.mobile (λ url is.
      or_right (has_url tree.menu url || has_url tree.toolbar url || has_url tree.unfiled url)
      (has_url tree.mobile url) is))
      store
    where
      first : (a b c d : Bool) → a ≡ true → (a || b || c || d) ≡ true
      first a b c d is = rw is refl

      second : (a b c d : Bool) → b ≡ true → (a || b || c || d) ≡ true
      second true b c d is = refl
      second false b c d is = rw is refl

-- a restore is an import into the store without the pages that neither stand nor are named
pub restored_spared : (tree : Tree) (store : Store) → IsGood store
    → restored tree store ≡ imported tree (spared tree (emptied store))
restored_spared tree store good =
    let first : Store = emptied store in
    let whole : Store = imported tree first in
    let told : IsTold (is_named tree) whole = told_tree tree first (told_first store good) in
    ap (λ (ps : List Page). record whole { pages = ps })
    (filter-where (λ (p : Page). is_standing whole p.id) (is_spared tree first) whole.pages
    (all_from_in (λ (p : Page). is_standing whole p.id ≡ is_spared tree first p) whole.pages (λ p h.
    ap (λ (vs : List Visit). list_any (λ (v : Visit). v.page.0 == p.id.0) vs || refers p.id whole.items)
    (visits_tree tree first)
    ∙ ap (λ (b : Bool). is_visited first p.id || b) (told.refers p h)
    ∙ ap (λ (b : Bool). b || is_named tree p.url) (sym (or-false (is_visited first p.id))))))
    ∙ sym (imported_spared tree first)
