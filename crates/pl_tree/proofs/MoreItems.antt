-- What folders take items, and what the tags are, where there is one more item at the end of a
-- folder.
use Rattle.std.proofs.Common.{◌≡◌, ◌≢◌, ◌<◌, ◌+◌, ◌++◌, ◌==◌, ◌∙◌, inl, inr, ℕ, false, List, [], ◌∷◌, Option, Some}
use Rattle.std.proofs.Common.{ap, arith, eq-eqb, if◌then◌else◌, map, refl, subst, sym}
use Rattle.std.specs.Option.{option_map}
use Rattle.std.proofs.lemmas.Bool.{both_ways, cases_eq, false_from_ne_true, ne_eqb}
use Rattle.std.proofs.lemmas.List.{map_push}
use Rattle.pl_base.specs.declared.id.ItemId.{ItemId}
use Rattle.pl_base.specs.declared.item.ItemKind.TheVariants.{Folder}
use Rattle.pl_base.specs.Good.{child_ids}
use Rattle.pl_base.specs.Store.{Item}
use Rattle.pl_base.specs.Tags.{tags_root}
use Rattle.pl_base.specs.Tree.{children_of, item_at}
use Rattle.pl_base.proofs.ItemLaws.{bare, ids_changed}
use Rattle.pl_base.proofs.ItemLookUps.{same_item_number}
use Rattle.pl_base.proofs.ListLaws.{map-map}
use Rattle.pl_base.proofs.Among.{In, from_map, in_either}
use Rattle.pl_tree.specs.declared.place.Place.TheVariants.{End}
use Rattle.pl_tree.specs.Changes.{put}
use Rattle.pl_tree.specs.Refused.{is_tag}
use Rattle.pl_base.proofs.KeyCounts.{Ascends, Once}
use Rattle.pl_tree.proofs.Causes.{Takes}
use Rattle.pl_tree.proofs.ChildLists.{bare_grown, from_grown, grown, grown_id}
use Rattle.pl_tree.proofs.InsertedChildren.{ascends_new, at_new, at_old, child_below, ids_other, rows_new, rows_other}
use Rattle.pl_tree.proofs.InsertedChildren.{rows_parent}
use Rattle.pl_tree.proofs.KeptTags.{tag_is}
use Rattle.pl_tree.proofs.LookedUp.{at_id, children_in, found_at, from_child_ids, id_key, in_child_ids}
use Rattle.pl_tree.proofs.LookedUp.{item_key}
use Rattle.pl_tree.proofs.TagItems.{a_tag}
use Rattle.pl_tree.proofs.TagRows.{child_rows, row_child}

-- a tag folder with its entries, without the children of each
abbrev pub listed : List Item → Item → Item × List Item
listed items t = (t, child_rows items t.id)

-- all of them
abbrev pub tag_lists : List Item → List (Item × List Item)
tag_lists items = map (listed items) (child_rows items tags_root)

-- a tag with an entry more, if it is this folder
abbrev pub with_entry : ItemId → Item → (Item × List Item) → Item × List Item
with_entry folder entry p = if (p.0).id.0 == folder.0 then (p.0, p.1 ++ entry ∷ []) else p

map_alike : {X Y : Type 0} (f g : X → Y) (xs : List X) → ((x : X) → In x xs → f x ≡ g x) → map f xs ≡ map g xs
map_alike f g [] alike = refl
map_alike f g (x ∷ xs) alike = rw (alike x (inl refl), map_alike f g xs (λ y h. alike y (inr h))) refl

-- ---- folders that take items

no_tag : (items : List Item) (p : ItemId) → Ascends item_key items → (In p (children_of items tags_root) → ⊥)
    → is_tag items p ≡ false
no_tag items p up none =
    false_from_ne_true (is_tag items p) (λ is.
    let t = a_tag items p is in
    none
    (subst (λ (o : Option Item). In p (children_in o)) (sym (at_id items t.root tags_root up t.there t.is)) t.child))

-- one that is still a folder, and that the tags root has only where it had it
pub still_takes : (olds news : List Item) (p : ItemId) (folder : Item) → Once id_key (child_ids olds)
    → Ascends item_key news → Takes olds p → item_at news p ≡ Some folder → folder.kind ≡ Folder
    → (In p (children_of news tags_root) → In p (children_of olds tags_root)) → Takes news p
still_takes olds news p folder once up t there kind back =
    record {
      folder = folder;
      there = there;
      kind = kind;
      not_first = t.not_first;
      not_tags = t.not_tags;
      no_tag = no_tag news p up (λ h. both_ways (is_tag olds p) t.no_tag (tag_is olds once p (back h)));
    }

-- ---- an item more

-- the ids lie below the one behind the new one
pub fresh_more : (items : List Item) (id parent : ItemId) (row : Item) → row.id ≡ id
    → ((i : Item) → In i items → i.id.0 < id.0) → (i : Item)
    → In i (map (grown parent End id) items ++ row ∷ []) → i.id.0 < id.0 + 1
fresh_more items id parent row own fresh i h =
    elim (in_either (map (grown parent End id) items) (row ∷ []) i h) as (λ _. i.id.0 < id.0 + 1) [
      | inl g ↦
          let r = from_map (grown parent End id) items i g in
          let below = fresh r.0 r.1 in
          omega (arith, ap item_key r.2, ap id_key (grown_id parent End id r.0))
      | inr (inl e) ↦ omega (arith, ap item_key e, ap id_key own)
      | inr (inr g) ↦ absurd g
    ]

module _ (items : List Item) (id parent : ItemId) (row : Item) (own : row.id ≡ id) (leaf : row.children ≡ [])
    (up : Ascends item_key items) (fresh : (i : Item) → In i items → i.id.0 < id.0)
    (known : (c : ItemId) → In c (child_ids items) → c.0 < id.0) where
  abbrev grow : Item → Item
  grow = grown parent End id

  abbrev news : List Item
  news = map grow items ++ row ∷ []

  pub ids_more : map item_key news ≡ map item_key items ++ id.0 ∷ []
  ids_more =
      map_push item_key (map grow items) row
      ∙ ap (λ (ns : List ℕ). ns ++ row.id.0 ∷ [])
      (ids_changed parent (λ (i : Item). record i { children = put End id i.children }) items (λ i. refl))
      ∙ ap (λ (n : ℕ). map item_key items ++ n ∷ []) (ap id_key own)

  pub known_more : (c : ItemId) → In c (child_ids news) → c.0 < id.0 + 1
  known_more c h =
      let r = from_child_ids news c h in
      let j : Item = r.0 in
      elim (in_either (map grow items) (row ∷ []) j r.1) as (λ _. c.0 < id.0 + 1) [
        | inl g ↦
            let s = from_map grow items j g in
            let i : Item = s.0 in
            elim (from_grown parent End id i c (subst (λ (k : Item). In c k.children) s.2 r.2))
            as (λ _. c.0 < id.0 + 1) [
              | inl f ↦
                  let below = known c (in_child_ids items i c s.1 f) in
                  omega arith
              | inr e ↦ omega (arith, ap id_key e)
            ]
        | inr (inl e) ↦
            absurd (subst (λ (ds : List ItemId). In c ds) (ap (λ (k : Item). k.children) e ∙ leaf) r.2)
        | inr (inr g) ↦ absurd g
      ]

  -- an item that was there is so but for its children
  pub found_more : (p : ItemId) (i : Item) → p.0 < id.0 → item_at items p ≡ Some i → item_at news p ≡ Some (grow i)
  found_more p i below there =
      at_old items id parent row own leaf up fresh known p below ∙ ap (option_map grow) there

  pub kind_more : (i : Item) → (grow i).kind ≡ i.kind
  kind_more i = ap (λ (k : Item). k.kind) (bare_grown parent End id i)

  pub takes_below : (p : ItemId) → Takes items p → p.0 < id.0
  takes_below p t =
      let found = found_at items p t.folder t.there in
      let below = fresh t.folder found.0 in
      omega (arith, ap id_key found.1)

  -- a new folder takes items where the tags root has it not
  pub new_takes : 4 < id.0 → 4 ≢ parent.0 → row.kind ≡ Folder → Takes news id
  new_takes late apart kind =
      record {
        folder = row;
        there = at_new items id parent row own leaf up fresh known;
        kind = kind;
        not_first = λ same. omega arith;
        not_tags = λ same. omega arith;
        no_tag =
            no_tag news id (ascends_new items id parent row own leaf up fresh known) (λ h.
            let below = child_below items id parent row own leaf up fresh known tags_root id
            (subst (In id) (ids_other items id parent row own leaf up fresh known tags_root late apart) h) in
            omega arith);
      }

  -- ---- the tags

  tag_below : (t : Item) → In t (child_rows items tags_root) → t.id.0 < id.0
  tag_below t h =
      child_below items id parent row own leaf up fresh known tags_root t.id (row_child items tags_root t h)

  same_tags : 4 < id.0 → 4 ≢ parent.0 → child_rows news tags_root ≡ child_rows items tags_root
  same_tags late apart = rows_other items id parent row own leaf up fresh known tags_root late apart

  -- where the folder is of no tag
  pub lists_other : 4 < id.0 → 4 ≢ parent.0
      → ((t : Item) → In t (child_rows items tags_root) → t.id.0 ≢ parent.0) → tag_lists news ≡ tag_lists items
  lists_other late apart others =
      ap (map (listed news)) (same_tags late apart)
      ∙ map_alike (listed news) (listed items) (child_rows items tags_root) (λ t h.
      ap (λ (es : List Item). let p : Item × List Item = (t, es) in p)
      (rows_other items id parent row own leaf up fresh known t.id (tag_below t h) (others t h)))

  pub lists_entry : (folder : Item) → 4 < id.0 → 4 ≢ parent.0 → item_at items parent ≡ Some folder
      → tag_lists news ≡ map (with_entry parent (bare row)) (tag_lists items)
  lists_entry folder late apart there =
      ap (map (listed news)) (same_tags late apart)
      ∙ map_alike (listed news) (λ (t : Item). with_entry parent (bare row) (listed items t))
      (child_rows items tags_root) each
      ∙ sym (map-map (with_entry parent (bare row)) (listed items) (child_rows items tags_root))
    where
      each : (t : Item) → In t (child_rows items tags_root)
          → listed news t ≡ with_entry parent (bare row) (listed items t)
      each t h =
          elim (cases_eq t.id.0 parent.0) as (λ _. listed news t ≡ with_entry parent (bare row) (listed items t)) [
            | inl same ↦
                let e : t.id ≡ parent = same_item_number t.id parent same in
                let below : parent.0 < id.0 = subst (λ (c : ItemId). c.0 < id.0) e (tag_below t h) in
                let rows : child_rows news t.id ≡ child_rows items t.id ++ bare row ∷ [] =
                ap (child_rows news) e
                ∙ rows_parent items id parent row own leaf up fresh known folder there below
                ∙ ap (λ (c : ItemId). child_rows items c ++ bare row ∷ []) (sym e) in
                rw (eq-eqb t.id.0 parent.0 same)
                (ap (λ (es : List Item). let p : Item × List Item = (t, es) in p) rows)
            | inr other ↦
                rw (ne_eqb t.id.0 parent.0 other)
                (ap (λ (es : List Item). let p : Item × List Item = (t, es) in p)
                (rows_other items id parent row own leaf up fresh known t.id (tag_below t h) other))
          ]

-- where none is this folder
pub lists_apart : (items : List Item) (folder : ItemId) (entry : Item)
    → ((t : Item) → In t (child_rows items tags_root) → t.id.0 ≢ folder.0)
    → map (with_entry folder entry) (tag_lists items) ≡ tag_lists items
lists_apart items folder entry others =
    map-map (with_entry folder entry) (listed items) (child_rows items tags_root)
    ∙ map_alike (λ (t : Item). with_entry folder entry (listed items t)) (listed items) (child_rows items tags_root)
    (λ t h. rw (ne_eqb t.id.0 folder.0 (others t h)) refl)

-- a tag folder more, with no entry yet
pub lists_folder : (items : List Item) (id : ItemId) (row root : Item) (own : row.id ≡ id) (leaf : row.children ≡ [])
    (up : Ascends item_key items) (fresh : (i : Item) → In i items → i.id.0 < id.0)
    (known : (c : ItemId) → In c (child_ids items) → c.0 < id.0) → 4 < id.0 → item_at items tags_root ≡ Some root
    → ((c : ItemId) → In c (children_of items tags_root) → c.0 ≢ 4)
    → tag_lists (map (grown tags_root End id) items ++ row ∷ []) ≡ tag_lists items ++ (bare row, []) ∷ []
lists_folder items id row root own leaf up fresh known late there apart =
    ap (map (listed news)) (rows_parent items id tags_root row own leaf up fresh known root there late)
    ∙ map_push (listed news) (child_rows items tags_root) (bare row)
    ∙ ap (λ (ls : List (Item × List Item)). ls ++ (bare row, child_rows news row.id) ∷ []) olds
    ∙ ap (λ (es : List Item). tag_lists items ++ (bare row, es) ∷ [])
    (ap (child_rows news) own ∙ rows_new items id tags_root row own leaf up fresh known)
  where
    news : List Item
    news = map (grown tags_root End id) items ++ row ∷ []

    olds : map (listed news) (child_rows items tags_root) ≡ tag_lists items
    olds =
        map_alike (listed news) (listed items) (child_rows items tags_root) (λ t h.
        let c = row_child items tags_root t h in
        ap (λ (es : List Item). let p : Item × List Item = (t, es) in p)
        (rows_other items id tags_root row own leaf up fresh known t.id
        (child_below items id tags_root row own leaf up fresh known tags_root t.id c) (apart t.id c)))
