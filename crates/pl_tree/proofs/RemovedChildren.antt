-- What the children are where an item is removed, by their rows.
use Rattle.std.proofs.Common.{◌≡◌, ◌≢◌, ◌<◌, ◌==◌, ◌∙◌, Bool, true, false, List, [], ◌∷◌, Option, Some, None, ap}
use Rattle.std.proofs.Common.{filter, if◌then◌else◌, map, refl, subst, sym}
use Rattle.std.specs.Prelude.{not}
use Rattle.std.specs.List.{cons_option, filter_map}
use Rattle.std.specs.Option.{option_map}
use Rattle.std.proofs.lemmas.Bool.{ne_eqb, eqb-false, not_from_false}
use Rattle.pl_base.specs.declared.id.ItemId.{ItemId}
use Rattle.pl_base.specs.Store.{Item}
use Rattle.pl_base.specs.Tree.{child_items, children_of, item_at, leaving, removed, without_id}
use Rattle.pl_base.proofs.ItemLaws.{bare}
use Rattle.pl_base.proofs.ListLaws.{all-filter}
use Rattle.pl_base.proofs.Among.{In, from_filter, from_filter_map, from_map}
use Rattle.pl_base.proofs.KeyCounts.{Ascends}
use Rattle.pl_tree.proofs.ChildLists.{from_without}
use Rattle.pl_tree.proofs.LookedUp.{child_of, children_in, found_at, id_key, item_key}
use Rattle.pl_tree.proofs.MappedItems.{ascends_map, at_filter, at_map}
use Rattle.pl_tree.proofs.TagItems.{among_children}
use Rattle.pl_tree.proofs.TagRows.{child_rows}

ascends_filter : (q : Item → Bool) (items : List Item) → Ascends item_key items → Ascends item_key (filter q items)
ascends_filter q [] up = tt
ascends_filter q (i ∷ items) up = choose (q i) (ascends_filter q items up.1)
  where
    choose : (b : Bool) → Ascends item_key (filter q items)
        → Ascends item_key (if b then i ∷ filter q items else filter q items)
    choose true rest = (all-filter (λ (j : Item). i.id.0 < j.id.0) q items up.0, rest)
    choose false rest = rest

module _ (items : List Item) (item : ItemId) where
  abbrev left : Item → Item
  left = leaving item

  abbrev stays : Item → Bool
  stays i = not (i.id.0 == item.0)

  abbrev news : List Item
  news = removed item items

  pub ascends_left : Ascends item_key items → Ascends item_key news
  ascends_left up = ascends_map left (λ i. refl) (filter stays items) (ascends_filter stays items up)

  at_left : (x : ItemId) → x.0 ≢ item.0 → item_at news x ≡ option_map left (item_at items x)
  at_left x other =
      at_map left (λ i. refl) (filter stays items) x
      ∙ ap (option_map left)
      (at_filter (λ (id : ItemId). not (id.0 == item.0)) items x
      (not_from_false (x.0 == item.0) (ne_eqb x.0 item.0 other)))

  pub children_left : (p : ItemId) → p.0 ≢ item.0 → children_of news p ≡ without_id item (children_of items p)
  children_left p other = ap children_in (at_left p other) ∙ choose (item_at items p)
    where
      choose : (o : Option Item) → children_in (option_map left o) ≡ without_id item (children_in o)
      choose None = refl
      choose (Some i) = refl

  made : (cs : List ItemId)
      → map bare (filter_map (item_at news) (without_id item cs))
      ≡ filter stays (map bare (filter_map (item_at items) cs))
  made [] = refl
  made (c ∷ cs) = choose (c.0 == item.0) refl (item_at items c) refl (made cs)
    where
      choose : (b : Bool) → (c.0 == item.0) ≡ b → (o : Option Item) → item_at items c ≡ o
          → map bare (filter_map (item_at news) (without_id item cs))
          ≡ filter stays (map bare (filter_map (item_at items) cs))
          → map bare (filter_map (item_at news) (if not b then c ∷ without_id item cs else without_id item cs))
          ≡ filter stays (map bare (cons_option o (filter_map (item_at items) cs)))
      choose true is None found rest = rest
      choose true is (Some i) found rest =
          let same : (i.id.0 == item.0) ≡ true = ap (λ (d : ItemId). d.0 == item.0) (found_at items c i found).1 ∙ is in
          rw same rest
      choose false is None found rest =
          let gone : item_at news c ≡ None = at_left c (eqb-false c.0 item.0 is) ∙ ap (option_map left) found in
          rw gone rest
      choose false is (Some i) found rest =
          let there : item_at news c ≡ Some (left i) =
          at_left c (eqb-false c.0 item.0 is) ∙ ap (option_map left) found
          in
          let other : (i.id.0 == item.0) ≡ false =
          ap (λ (d : ItemId). d.0 == item.0) (found_at items c i found).1 ∙ is
          in
          rw (there, other) (ap (λ (js : List Item). bare i ∷ js) rest)

  pub rows_left : (p : ItemId) → p.0 ≢ item.0 → child_rows news p ≡ filter stays (child_rows items p)
  rows_left p other =
      ap (λ (cs : List ItemId). map bare (filter_map (item_at news) cs)) (children_left p other)
      ∙ made (children_of items p)

  -- a child was one before
  pub from_left : (p : ItemId) (j : Item) → Ascends item_key items → In j (child_items news p)
      → (i : Item) × In i (child_items items p) × (j ≡ left i) × (i.id.0 ≢ item.0)
  from_left p j up h =
      let r = from_filter_map (item_at news) (children_of news p) j h in
      let c : ItemId = r.0 in
      let q = child_of news p c r.1 in
      let s = from_map left (filter stays items) q.0 q.1 in
      let k : Item = s.0 in
      let child = from_without item k.children c (subst (λ (m : Item). In c m.children) s.2 q.3) in
      let found = found_at news c j r.2 in
      let t = from_map left (filter stays items) j found.0 in
      let i : Item = t.0 in
      let is_c : i.id ≡ c = ap (λ (m : Item). m.id) (sym t.2) ∙ found.1 in
      let is_p : k.id ≡ p = ap (λ (m : Item). m.id) (sym s.2) ∙ q.2 in (
        i,
        subst (λ (id : ItemId). In i (child_items items id)) is_p
            (among_children items k i up (from_filter stays items k s.1).0 (from_filter stays items i t.1).0
            (subst (λ (d : ItemId). In d k.children) (sym is_c) child.0)),
        t.2,
        λ same. child.1 (ap id_key (sym is_c) ∙ same),
      )
