-- What holds of the rows behind a restore: each page stands there, and each that waited got an item.
use Rattle.std.proofs.Common.{◌≡◌, ◌∙◌, ◌++◌, ◌==◌, ◌||◌, All, Bool, true, false, List, ap, get_or}
use Rattle.std.proofs.Common.{refl, subst, sym}
use Rattle.std.specs.List.{list_any}
use Rattle.std.proofs.lemmas.Bool.{false≢true}
use Rattle.std.proofs.lemmas.List.Elements.{filter_passes, recursion_from_All}
use Rattle.pl_base.specs.declared.id.PageId.{PageId}
use Rattle.pl_base.specs.Good.{HasGoodItems, is_visited}
use Rattle.pl_base.specs.Removal.{is_standing, without_idle_pages}
use Rattle.pl_base.specs.Rows.{IsWellKept, Kept, KeptPage, store_of}
use Rattle.pl_base.specs.Store.{Page, Store, Visit}
use Rattle.pl_base.proofs.ListLaws.{All-from_map, all_stay}
use Rattle.pl_marks.specs.Alike.{is_one_of}
use Rattle.pl_history.specs.Settled.{AreSettledBut}
use Rattle.pl_history.proofs.ItemMarks.{has_reference}
use Rattle.pl_nbread.specs.declared.tree.Tree.{Tree}
use Rattle.pl_keyed.specs.NamedUrls.{is_named}
use Rattle.pl_graft.specs.Gained.{Grows, gained, has_new_item}
use Rattle.pl_graft.specs.Import.{imported}
use Rattle.pl_graft.specs.Restored.{emptied, restored}
use Rattle.pl_graft.specs.Spared.{spared}
use Rattle.pl_editing.specs.Waiting.{AreWaiting}
use Rattle.pl_editing.proofs.ImportSettled.{HaveNewItems, grafted_settled, has_as_before, new_items}
use Rattle.pl_editing.proofs.ListParts.{left}

-- ---- the store

module _ (tree : Tree) (store : Store) where
  -- each page has a visit or an item
  restored_stand : All (λ (p : Page). is_standing (restored tree store) p.id ≡ true) (restored tree store).pages
  restored_stand =
      let made : Store = imported tree (emptied store) in
      filter_passes (λ (p : Page). is_standing made p.id) made.pages

  -- so none goes
  pub restored_stays : without_idle_pages (restored tree store) ≡ restored tree store
  restored_stays =
      let last : Store = restored tree store in
      ap (λ (ps : List Page). record last { pages = ps })
      (all_stay (λ (p : Page). is_standing last p.id) last.pages
      (recursion_from_All (λ (p : Page). is_standing last p.id ≡ true) last.pages restored_stand))

-- ---- the rows

-- each page that waited has a new item
waiting_come : (tree : Tree) (store : Store) (old new : Kept) (waiting : List PageId)
    → store_of old ≡ spared tree (emptied store) → store_of new ≡ restored tree store
    → store_of new ≡ imported tree (store_of old) → Grows old new → AreWaiting tree waiting (store_of old)
    → HaveNewItems waiting old new.items
waiting_come tree store old new waiting cleared is grafted g wait k d within among =
    let p : KeptPage = get_or old.pages k d in
    let id : PageId = p.page.id in
    let Stands : Page → Type 0 = λ (q : Page). is_standing (store_of new) q.id ≡ true in
    let stand : All (λ (q : KeptPage). Stands q.page) (old.pages ++ g.added) =
    subst (All (λ (q : KeptPage). Stands q.page)) g.pages
    (All-from_map Stands (λ (q : KeptPage). q.page) new.pages
    (subst (λ (s : Store). All (λ (q : Page). is_standing s q.id ≡ true) s.pages) (sym is) (restored_stand tree store)))
    in
    let unvisited : is_visited (store_of new) id ≡ false =
    ap (list_any (λ (v : Visit). v.page.0 == id.0)) g.visits
    ∙ (All-from_map (λ (q : Page). is_one_of waiting q.id ≡ true
    → (is_visited (store_of old) q.id ≡ false) × (is_named tree q.url ≡ true)) (λ (q : KeptPage). q.page) old.pages
    wait k d within among).0 in
    let referenced : has_reference new.items id ≡ true =
    ap (λ (b : Bool). b || has_reference new.items id) (sym unvisited)
    ∙ left (λ (q : KeptPage). Stands q.page) old.pages g.added stand k d within in
    let before : has_reference old.items id ≡ false =
    ap (λ (s : Store). has_reference s.items id) cleared in
    choose (has_new_item old.ids.item new.items id) refl
    (λ none.
    sym before
    ∙ sym (has_as_before old.ids.item old.items new.items id (new_items tree old new grafted) none) ∙ referenced)
  where
    choose : (b : Bool) → {c : Bool} → c ≡ b → (c ≡ false → false ≡ true) → c ≡ true
    choose true is other = is
    choose false is other = absurd (false≢true (other is))

-- all is settled but the pages with a new item
pub restored_settled : (tree : Tree) (store : Store) (old new : Kept) (waiting : List PageId) → IsWellKept old
    → IsWellKept new → AreSettledBut waiting old → AreWaiting tree waiting (store_of old)
    → store_of old ≡ spared tree (emptied store) → store_of new ≡ restored tree store
    → store_of new ≡ imported tree (store_of old) → Grows old new → HasGoodItems (store_of new)
    → AreSettledBut (gained (store_of old) (store_of new)) new
restored_settled tree store old new waiting h well before wait cleared is grafted g good =
    grafted_settled tree old new waiting h well before
    (waiting_come tree store old new waiting cleared is grafted g wait) grafted g good
