-- What the children are where a folder has a new one, by their rows.
use Rattle.std.proofs.Common.{◌≡◌, ◌≢◌, ◌<◌, ◌++◌, ◌==◌, ◌∙◌, ◌⊎◌, inl, inr, false, List, [], ◌∷◌}
use Rattle.std.proofs.Common.{Option, Some, None, ap, arith, eq-eqb, map, refl, subst, sym}
use Rattle.std.specs.List.{AllByRecursion, filter_map}
use Rattle.std.specs.Option.{option_map}
use Rattle.std.proofs.Math.Seq.{drop-length, take-length}
use Rattle.std.proofs.lemmas.Bool.{cases_eq, ne_eqb}
use Rattle.std.proofs.lemmas.List.Elements.{filter_map-append}
use Rattle.std.proofs.lemmas.Option.{same_Some}
use Rattle.pl_base.specs.declared.id.ItemId.{ItemId}
use Rattle.pl_base.specs.Good.{child_ids}
use Rattle.pl_base.specs.Store.{Item}
use Rattle.pl_base.specs.Tree.{child_items, children_of, item_at}
use Rattle.pl_base.proofs.ItemLaws.{bare}
use Rattle.pl_base.proofs.Among.{In, from_filter_map, from_map, in_either}
use Rattle.pl_tree.specs.declared.place.Place.TheVariants.{End}
use Rattle.pl_tree.specs.Changes.{put}
use Rattle.pl_base.proofs.KeyCounts.{Ascends}
use Rattle.pl_tree.proofs.ChildLists.{bare_grown, from_grown, grown, grown_id}
use Rattle.pl_tree.proofs.LookedUp.{child_of, children_in, filter_map-alike, found_at, id_key}
use Rattle.pl_tree.proofs.LookedUp.{in_child_ids, item_key}
use Rattle.pl_tree.proofs.MappedItems.{ascends_map, at_map, at_push, bare_at, changed_here, changed_other, same_at}
use Rattle.pl_tree.proofs.TagItems.{among_children}
use Rattle.pl_tree.proofs.TagRows.{child_rows}

-- ---- lists

bare_made : (at : ItemId → Option Item) (ids : List ItemId)
    → map bare (filter_map at ids) ≡ filter_map (λ c. option_map bare (at c)) ids
bare_made at [] = refl
bare_made at (c ∷ cs) = choose (at c) refl (bare_made at cs)
  where
    choose : (o : Option Item) → at c ≡ o → map bare (filter_map at cs) ≡ filter_map (λ d. option_map bare (at d)) cs
        → map bare (filter_map at (c ∷ cs)) ≡ filter_map (λ d. option_map bare (at d)) (c ∷ cs)
    choose None is rest = rw is rest
    choose (Some i) is rest = rw is (ap (λ (js : List Item). bare i ∷ js) rest)

-- items that are found alike but for their children
pub bare_alike : (f g : ItemId → Option Item) (ids : List ItemId)
    → ((c : ItemId) → In c ids → option_map bare (f c) ≡ option_map bare (g c))
    → map bare (filter_map f ids) ≡ map bare (filter_map g ids)
bare_alike f g ids alike =
    bare_made f ids
    ∙ filter_map-alike (λ c. option_map bare (f c)) (λ c. option_map bare (g c)) ids alike
    ∙ sym (bare_made g ids)

map-append : (xs ys : List Item) → map bare (xs ++ ys) ≡ map bare xs ++ map bare ys
map-append [] ys = refl
map-append (x ∷ xs) ys = ap (λ (js : List Item). bare x ∷ js) (map-append xs ys)

-- a last item with a greater id
ascends_push : (items : List Item) (row : Item) → Ascends item_key items
    → ((i : Item) → In i items → i.id.0 < row.id.0) → Ascends item_key (items ++ row ∷ [])
ascends_push [] row up above = (tt, tt)
ascends_push (i ∷ items) row up above =
    (further items up.0, ascends_push items row up.1 (λ j h. above j (inr h)))
  where
    further : (js : List Item) → AllByRecursion (λ (j : Item). i.id.0 < j.id.0) js
        → AllByRecursion (λ (j : Item). i.id.0 < j.id.0) (js ++ row ∷ [])
    further [] all = (above i (inl refl), tt)
    further (j ∷ js) all = (all.0, further js all.1)

pub put_end : (id : ItemId) (ids : List ItemId) → put End id ids ≡ ids ++ id ∷ []
put_end id ids = rw (take-length ids, drop-length ids) refl

-- ---- a new item at the end

module _ (items : List Item) (id parent : ItemId) (row : Item) (own : row.id ≡ id) (leaf : row.children ≡ [])
    (up : Ascends item_key items) (fresh : (i : Item) → In i items → i.id.0 < id.0)
    (known : (c : ItemId) → In c (child_ids items) → c.0 < id.0) where
  abbrev grow : Item → Item
  grow = grown parent End id

  grow_id : (i : Item) → (grow i).id ≡ i.id
  grow_id = grown_id parent End id

  abbrev news : List Item
  news = map grow items ++ row ∷ []

  pub ascends_new : Ascends item_key news
  ascends_new =
      ascends_push (map grow items) row (ascends_map grow grow_id items up) (λ j h.
      let r = from_map grow items j h in
      let below = fresh r.0 r.1 in
      omega (arith, ap item_key r.2, ap id_key (grow_id r.0), ap id_key own))

  row_apart : (x : ItemId) → x.0 < id.0 → (row.id.0 == x.0) ≡ false
  row_apart x below = ne_eqb row.id.0 x.0 (λ same. omega (arith, ap id_key own))

  pub at_old : (x : ItemId) → x.0 < id.0 → item_at news x ≡ option_map grow (item_at items x)
  at_old x below = at_push (map grow items) row x (row_apart x below) ∙ at_map grow grow_id items x

  at_other : (x : ItemId) → x.0 < id.0 → x.0 ≢ parent.0 → item_at news x ≡ item_at items x
  at_other x below other =
      at_push (map grow items) row x (row_apart x below)
      ∙ same_at grow grow_id items x (λ i h e.
      changed_other parent (λ (j : Item). record j { children = put End id j.children }) i
      (ne_eqb i.id.0 parent.0 (λ same. other (ap id_key (sym e) ∙ same))))

  pub at_new : item_at news id ≡ Some row
  at_new = last items fresh
    where
      last : (is : List Item) → ((i : Item) → In i is → i.id.0 < id.0) → item_at (map grow is ++ row ∷ []) id ≡ Some row
      last [] below = rw (eq-eqb row.id.0 id.0 (ap id_key own)) refl
      last (i ∷ is) below =
          let first = below i (inl refl) in
          rw (ne_eqb (grow i).id.0 id.0 (λ same. omega (arith, ap id_key (grow_id i))))
          (last is (λ j h. below j (inr h)))

  bare_old : (x : ItemId) → x.0 < id.0 → option_map bare (item_at news x) ≡ option_map bare (item_at items x)
  bare_old x below =
      ap (option_map bare) (at_push (map grow items) row x (row_apart x below))
      ∙ bare_at grow grow_id items x (λ i h e. bare_grown parent End id i)

  pub child_below : (p c : ItemId) → In c (children_of items p) → c.0 < id.0
  child_below p c h = let r = child_of items p c h in known c (in_child_ids items r.0 c r.1 r.3)

  -- of the parent, by their ids
  pub ids_parent : (folder : Item) → item_at items parent ≡ Some folder → parent.0 < id.0
      → children_of news parent ≡ children_of items parent ++ id ∷ []
  ids_parent folder there below =
      let found = found_at items parent folder there in
      ap children_in (at_old parent below ∙ ap (option_map grow) there)
      ∙ ap (λ (j : Item). j.children)
      (changed_here parent (λ (j : Item). record j { children = put End id j.children }) folder
      (eq-eqb folder.id.0 parent.0 (ap id_key found.1)))
      ∙ put_end id folder.children
      ∙ ap (λ (ds : List ItemId). ds ++ id ∷ []) (sym (ap children_in there))

  pub ids_other : (p : ItemId) → p.0 < id.0 → p.0 ≢ parent.0 → children_of news p ≡ children_of items p
  ids_other p below other = ap children_in (at_other p below other)

  pub ids_new : children_of news id ≡ []
  ids_new = ap children_in at_new ∙ leaf

  -- of a folder that is not the parent
  pub rows_other : (p : ItemId) → p.0 < id.0 → p.0 ≢ parent.0 → child_rows news p ≡ child_rows items p
  rows_other p below other =
      ap (λ (o : Option Item). map bare (filter_map (item_at news) (children_in o))) (at_other p below other)
      ∙ bare_alike (item_at news) (item_at items) (children_of items p) (λ c h. bare_old c (child_below p c h))

  pub rows_new : child_rows news id ≡ []
  rows_new =
      ap (λ (o : Option Item). map bare (filter_map (item_at news) (children_in o))) at_new
      ∙ ap (λ (cs : List ItemId). map bare (filter_map (item_at news) cs)) leaf

  pub rows_parent : (folder : Item) → item_at items parent ≡ Some folder → parent.0 < id.0
      → child_rows news parent ≡ child_rows items parent ++ bare row ∷ []
  rows_parent folder there below =
      let cs : List ItemId = children_of items parent in
      ap (λ (ds : List ItemId). map bare (filter_map (item_at news) ds)) (ids_parent folder there below)
      ∙ ap (map bare) (filter_map-append (item_at news) cs (id ∷ []))
      ∙ map-append (filter_map (item_at news) cs) (filter_map (item_at news) (id ∷ []))
      ∙ ap (λ (js : List Item). js ++ map bare (filter_map (item_at news) (id ∷ [])))
      (bare_alike (item_at news) (item_at items) cs (λ c h. bare_old c (child_below parent c h)))
      ∙ ap (λ (js : List Item). child_rows items parent ++ map bare js) one
    where
      one : filter_map (item_at news) (id ∷ []) ≡ row ∷ []
      one = rw at_new refl

  -- a child was one before, or is the new item in the parent
  abbrev pub IsFrom : ItemId → Item → Type 0
  IsFrom p j = ((i : Item) × In i (child_items items p) × (j ≡ grow i)) ⊎ ((p.0 ≡ parent.0) × (j ≡ row))

  module _ (p : ItemId) (j : Item) (c : ItemId) (found : item_at news c ≡ Some j) (i : Item) (there : In i items)
      (is : i.id ≡ p) where
    from_old : In c i.children → IsFrom p j
    from_old f =
        let r = found_at news c j found in
        elim (in_either (map grow items) (row ∷ []) j r.0) as (λ _. IsFrom p j) [
          | inl g ↦
              let s = from_map grow items j g in
              let k : Item = s.0 in
              let same : k.id ≡ c = sym (grow_id k) ∙ ap (λ (m : Item). m.id) (sym s.2) ∙ r.1 in
              inl (
                k,
                subst (λ (q : ItemId). In k (child_items items q)) is
                    (among_children items i k up there s.1 (subst (λ (d : ItemId). In d i.children) (sym same) f)),
                s.2,
              )
          | inr (inl e) ↦
              let below = known c (in_child_ids items i c there f) in
              absurd (omega (arith, ap item_key e, ap id_key r.1, ap id_key own))
          | inr (inr g) ↦ absurd g
        ]

    from_new : c ≡ id → In c (grow i).children → IsFrom p j
    from_new e g =
        elim (cases_eq i.id.0 parent.0) as (λ _. IsFrom p j) [
          | inl same ↦
              inr (
                ap id_key (sym is) ∙ same,
                same_Some j row (sym found ∙ ap (item_at news) e ∙ at_new),
              )
          | inr other ↦
              from_old
              (subst (λ (k : Item). In c k.children)
              (changed_other parent (λ (k : Item). record k { children = put End id k.children }) i
              (ne_eqb i.id.0 parent.0 other)) g)
        ]

  pub from_children : (p : ItemId) (j : Item) → p.0 < id.0 → In j (child_items news p) → IsFrom p j
  from_children p j below h =
      let r = from_filter_map (item_at news) (children_of news p) j h in
      let c : ItemId = r.0 in
      let q = child_of news p c r.1 in
      let k : Item = q.0 in
      elim (in_either (map grow items) (row ∷ []) k q.1) as (λ _. IsFrom p j) [
        | inl g ↦
            let s = from_map grow items k g in
            let i : Item = s.0 in
            let is : i.id ≡ p = sym (grow_id i) ∙ ap (λ (m : Item). m.id) (sym s.2) ∙ q.2 in
            let child : In c (grow i).children = subst (λ (m : Item). In c m.children) s.2 q.3 in
            elim (from_grown parent End id i c child) as (λ _. IsFrom p j) [
              | inl f ↦ from_old p j c r.2 i s.1 is f
              | inr e ↦ from_new p j c r.2 i s.1 is e child
            ]
        | inr (inl e) ↦ absurd (omega (arith, ap item_key e, ap id_key q.2, ap id_key own))
        | inr (inr g) ↦ absurd g
      ]
