-- Another title keeps the items those of a good store.
use Rattle.std.proofs.Common.{◌≡◌, ◌≢◌, ◌==◌, ◌∙◌, ℕ, Bool, true, false, List}
use Rattle.std.proofs.Common.{◌∷◌, ap, sym, subst, arith, refl, if◌then◌else◌, map}
use Rattle.std.specs.Option.{option_map}
use Rattle.std.proofs.lemmas.Bool.{ne_eqb}
use Rattle.pl_base.specs.declared.date.Micros.{Micros}
use Rattle.pl_base.specs.declared.id.ItemId.{ItemId}
use Rattle.pl_base.specs.Date.{IsDate}
use Rattle.pl_base.specs.Good.{HasGoodItems, HasRoots, HasTags, IsGoodItem, IsTitle, IsTree, child_ids}
use Rattle.pl_base.specs.Store.{Item, Store, item_id}
use Rattle.pl_base.specs.Tree.{item_at, retitled}
use Rattle.pl_base.proofs.ItemLaws.{bare}
use Rattle.pl_base.proofs.Among.{In, from_map, in_map}
use Rattle.pl_base.proofs.KeyCounts.{Once}
use Rattle.pl_tree.proofs.Causes.{MayChange}
use Rattle.pl_tree.proofs.KeptItems.{all_good, good_again, good_item, good_still}
use Rattle.pl_tree.proofs.KeptRoots.{kept_roots, top_range}
use Rattle.pl_tree.proofs.KeptTags.{kept_tags}
use Rattle.pl_tree.proofs.LookedUp.{id_key}
use Rattle.pl_tree.proofs.MappedItems.{changed_at, changed_id, changed_other, child_ids_map, has_map, same_at}
use Rattle.pl_tree.proofs.TagItems.{change_apart}
use Rattle.pl_tree.proofs.TreeLaws.{Reaches, child_known, child_once, each_once, is_tree, reaches}

module _ (old : Store) (item : ItemId) (title : List ℕ) (date : Micros) (good : HasGoodItems old)
    (may : MayChange old.items item) where
  abbrev items : List Item
  items = old.items

  abbrev change : Item → Item
  change i = record i { title = title; modified = date }

  abbrev titled : Item → Item
  titled = changed_at item change

  abbrev news : List Item
  news = map titled items

  abbrev store : Store
  store = record old { items = retitled item title date items }

  titled_id : (i : Item) → (titled i).id ≡ i.id
  titled_id = changed_id item change (λ i. refl)

  titled_children : (i : Item) → (titled i).children ≡ i.children
  titled_children i = choose (i.id.0 == item.0)
    where
      choose : (b : Bool) → (if b then change i else i).children ≡ i.children
      choose true = refl
      choose false = refl

  same_ids : child_ids news ≡ child_ids items
  same_ids = child_ids_map titled titled_children items

  found_as_before : (x : ItemId) → x.0 ≢ item.0 → item_at news x ≡ item_at items x
  found_as_before x other =
      same_at titled titled_id items x (λ i h e.
      changed_other item change i (ne_eqb i.id.0 item.0 (λ same. other (ap id_key (sym e) ∙ same))))

  roots : HasRoots store
  roots =
      kept_roots old store (found_as_before (item_id 1) (λ same. omega (arith, may.no_root)))
      (λ n h.
      let range = top_range n h in
      ap (option_map bare) (found_as_before (item_id n) (λ same. omega (arith, may.no_root))))
      good.roots

  tags : HasTags store
  tags =
      kept_tags old store (child_once items good.tree)
      (λ x is. found_as_before x (change_apart items item x may is)) good.tags

  reach : Reaches news
  reach holds one closed j h =
      let before : (i : Item) → In i items → holds i.id ≡ true =
      reaches items good.tree holds one (λ i g there c f.
      closed (titled i) (in_map titled items i g) (ap holds (titled_id i) ∙ there) c
      (subst (In c) (sym (titled_children i)) f))
      in
      let s = from_map titled items j h in
      let i : Item = s.0 in
      ap (λ (k : Item). holds k.id) s.2 ∙ ap holds (titled_id i) ∙ before i s.1

  tree : IsTree store.items
  tree =
      is_tree news
      (λ c h. has_map titled titled_id items c ∙ child_known items good.tree c (subst (In c) same_ids h))
      (subst (λ (cs : List ItemId). Once id_key (item_id 1 ∷ cs)) (sym same_ids) (each_once items good.tree))
      reach

  pub retitled_good : IsTitle title → IsDate date → HasGoodItems store
  retitled_good named dated =
      record {
        items =
            all_good store (λ j h.
            let s = from_map titled items j h in
            let i : Item = s.0 in
            let before : IsGoodItem old i = good_item old i good.items s.1 in
            subst (IsGoodItem store) (sym s.2) (choose i (i.id.0 == item.0) before));
        roots = roots;
        tree = tree;
        tags = tags;
      }
    where
      choose : (i : Item) (b : Bool) → IsGoodItem old i → IsGoodItem store (if b then change i else i)
      choose i true before = good_again old store i title date i.children refl before named dated before.children
      choose i false before = good_still old store i refl before
