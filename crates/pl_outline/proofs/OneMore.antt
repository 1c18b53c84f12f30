-- What stands below a folder where there is an item more at the end of a folder.
use Rattle.std.proofs.Common.{◌≡◌, ◌≢◌, ◌∙◌, ◌<◌, ◌+◌, ◌++◌, ◌==◌, ℕ, Bool, true, false, List, [], ◌∷◌}
use Rattle.std.proofs.Common.{Option, Some, None, ap, append_assoc, arith, eq-eqb, if◌then◌else◌, length, map}
use Rattle.std.proofs.Common.{refl, subst, suc, sym, zero}
use Rattle.std.specs.List.{AllByRecursion, filter_map, flat_map}
use Rattle.std.specs.Option.{option_map}
use Rattle.std.proofs.lemmas.Bool.{ne_eqb}
use Rattle.std.proofs.lemmas.List.{append-nil}
use Rattle.std.proofs.lemmas.List.Concat.{flat_map-append}
use Rattle.std.proofs.lemmas.List.Elements.{filter_map-append}
use Rattle.pl_base.specs.declared.id.ItemId.{ItemId}
use Rattle.pl_base.specs.Store.{Item}
use Rattle.pl_base.specs.Tree.{children_of, item_at}
use Rattle.pl_base.proofs.ListLaws.{weaker}
use Rattle.pl_tree.proofs.InsertedChildren.{put_end}
use Rattle.pl_tree.specs.declared.place.Place.TheVariants.{End}
use Rattle.pl_tree.specs.Changes.{put, with_child}
use Rattle.pl_graft.specs.Import.{innermost}
use Rattle.pl_outline.specs.Outline.{preorder}
use Rattle.pl_outline.proofs.Preorders.{flat_found, found_alike, own_id}

-- as `children_of` has it
abbrev pub children_in : Option Item → List ItemId
children_in None = []
children_in (Some i) = i.children

-- ---- what is found

found_last : (items : List Item) (new : Item) (c : ItemId) → item_at items c ≡ None → (new.id.0 == c.0) ≡ true
    → item_at (items ++ new ∷ []) c ≡ Some new
found_last [] new c none is = rw is refl
found_last (i ∷ items) new c none is = choose (i.id.0 == c.0) none (found_last items new c)
  where
    choose : (b : Bool) → (if b then Some i else item_at items c) ≡ None
        → (item_at items c ≡ None → (new.id.0 == c.0) ≡ true → item_at (items ++ new ∷ []) c ≡ Some new)
        → (if b then Some i else item_at (items ++ new ∷ []) c) ≡ Some new
    choose true some rest = absurd (cc)
    choose false none rest = rest none is

found_front : (items : List Item) (new : Item) (c : ItemId) → (new.id.0 == c.0) ≡ false
    → item_at (items ++ new ∷ []) c ≡ item_at items c
found_front [] new c other = ap (λ (b : Bool). if b then Some new else None) other
found_front (i ∷ items) new c other =
    ap (λ (o : Option Item). if i.id.0 == c.0 then Some i else o) (found_front items new c other)

found_changed : (g : Item → Item) → ((i : Item) → (g i).id ≡ i.id) → (items : List Item) (c : ItemId)
    → item_at (map g items) c ≡ option_map g (item_at items c)
found_changed g same [] c = refl
found_changed g same (i ∷ items) c =
    ap (λ (b : Bool). if b then Some (g i) else item_at (map g items) c) (ap (λ (x : ItemId). x.0 == c.0) (same i))
    ∙ choose (i.id.0 == c.0) (found_changed g same items c)
  where
    choose : (b : Bool) → item_at (map g items) c ≡ option_map g (item_at items c)
        → (if b then Some (g i) else item_at (map g items) c)
        ≡ option_map g (if b then Some i else item_at items c)
    choose true rest = refl
    choose false rest = rest

-- an item with this child more, if it is the folder
abbrev pub grown : ItemId → ItemId → Item → Item
grown p id i = if i.id.0 == p.0 then record i { children = put End id i.children } else i

-- the items with one more at the end of a folder
abbrev pub more : ItemId → ItemId → Item → List Item → List Item
more p id new items = with_child p End id items ++ new ∷ []

-- a folder on the way down to the one with a child more, and its last child, which is the next on
-- the way; `R` holds of its other children
pub record LeadsTo (items : List Item) (p id : ItemId) (R : ItemId → Type 0) (root f : ItemId) : Type 0 where
  pub front : List ItemId
  pub is : children_of items root ≡ front ++ f ∷ []
  pub beside : AllByRecursion R front
  pub folder : Item
  pub there : item_at items f ≡ Some folder
  pub apart : root.0 ≢ p.0
  pub other : root.0 ≢ id.0
  pub inner : f.0 ≢ id.0

-- the way from a root down, where these folders are open
abbrev pub WayDown : List Item → ItemId → ItemId → (ItemId → Type 0) → ItemId → List ItemId → Type 0
WayDown items p id R root [] = AllByRecursion R (children_of items root)
WayDown items p id R root (f ∷ fs) = LeadsTo items p id R root f × WayDown items p id R f fs

module _ (items : List Item) (p id : ItemId) (new : Item) (own : new.id ≡ id) where
  abbrev news : List Item
  news = more p id new items

  grown_id : (i : Item) → (grown p id i).id ≡ i.id
  grown_id i = choose (i.id.0 == p.0)
    where
      choose : (b : Bool) → (if b then record i { children = put End id i.children } else i).id ≡ i.id
      choose true = refl
      choose false = refl

  grown_other : (i : Item) → i.id.0 ≢ p.0 → grown p id i ≡ i
  grown_other i other =
      ap (λ (b : Bool). if b then record i { children = put End id i.children } else i) (ne_eqb i.id.0 p.0 other)

  new_apart : (c : ItemId) → c.0 ≢ id.0 → (new.id.0 == c.0) ≡ false
  new_apart c other =
      ne_eqb new.id.0 c.0 (λ same. other (sym same ∙ ap (λ (x : ItemId). x.0) own))

  -- an item that was there is found, maybe with a child more
  pub at_old : (c : ItemId) → c.0 ≢ id.0 → item_at news c ≡ option_map (grown p id) (item_at items c)
  at_old c other =
      found_front (map (grown p id) items) new c (new_apart c other)
      ∙ found_changed (grown p id) grown_id items c

  -- one that is not the folder is the same
  pub at_other : (c : ItemId) → c.0 ≢ p.0 → c.0 ≢ id.0 → item_at news c ≡ item_at items c
  at_other c apart other = at_old c other ∙ choose (item_at items c) refl
    where
      choose : (o : Option Item) → item_at items c ≡ o → option_map (grown p id) o ≡ o
      choose None is = refl
      choose (Some i) is =
          ap (λ (j : Item). Some j)
          (grown_other i (λ same. apart (ap (λ (x : ItemId). x.0) (sym (own_id items c i is)) ∙ same)))

  pub children_other : (c : ItemId) → c.0 ≢ p.0 → c.0 ≢ id.0 → children_of news c ≡ children_of items c
  children_other c apart other = ap children_in (at_other c apart other)

  pub children_here : (i : Item) → p.0 ≢ id.0 → item_at items p ≡ Some i
      → children_of news p ≡ children_of items p ++ id ∷ []
  children_here i other is =
      ap children_in (at_old p other ∙ ap (option_map (grown p id)) is)
      ∙ ap (λ (b : Bool). (if b then record i { children = put End id i.children } else i).children)
      (eq-eqb i.id.0 p.0 (ap (λ (x : ItemId). x.0) (own_id items p i is)))
      ∙ put_end id i.children
      ∙ ap (λ (cs : List ItemId). cs ++ id ∷ []) (sym (ap children_in is))

  pub at_new : item_at items id ≡ None → item_at news id ≡ Some new
  at_new fresh =
      found_last (map (grown p id) items) new id
      (found_changed (grown p id) grown_id items id ∙ ap (option_map (grown p id)) fresh)
      (eq-eqb new.id.0 id.0 (ap (λ (x : ItemId). x.0) own))

  -- ---- what is the same

  -- of ids that are neither the folder nor the new one, and whose children are such ids
  module _ (R : ItemId → Type 0) (apart : (c : ItemId) → R c → (c.0 ≢ p.0) × (c.0 ≢ id.0))
      (closed : (c : ItemId) → R c → AllByRecursion R (children_of items c)) {N : Type 0} (show : ℕ → Item → N) where
    -- what is shown of an item and those below it
    abbrev part : List Item → ℕ → ℕ → Item → List N
    part js many d i = show d i ∷ preorder show many js (d + 1) i.id

    same_parts : (many d : ℕ) (cs : List ItemId)
        → ((c : ItemId) → R c → preorder show many news (d + 1) c ≡ preorder show many items (d + 1) c)
        → AllByRecursion R cs
        → flat_map (part news many d) (filter_map (item_at news) cs)
        ≡ flat_map (part items many d) (filter_map (item_at items) cs)
    same_parts many d cs same all =
        ap (flat_map (part news many d))
        (found_alike (item_at news) (item_at items) cs
        (weaker R (λ (c : ItemId). item_at news c ≡ item_at items c) cs
        (λ c r. let a = apart c r in at_other c a.0 a.1) all))
        ∙ flat_found (part news many d) (part items many d) (item_at items) cs
        (weaker R (λ (c : ItemId). (i : Item) → item_at items c ≡ Some i → part news many d i ≡ part items many d i) cs
        (λ c r i is. ap (λ (ns : List N). show d i ∷ ns) (same i.id (subst R (sym (own_id items c i is)) r))) all)

    pub same_below : (many d : ℕ) (c : ItemId) → R c
        → preorder show many news d c ≡ preorder show many items d c
    same_below zero d c r = refl
    same_below (suc many) d c r =
        let a = apart c r in
        ap (λ (cs : List ItemId). flat_map (part news many d) (filter_map (item_at news) cs))
        (children_other c a.0 a.1)
        ∙ same_parts many d (children_of items c) (same_below many (d + 1)) (closed c r)

    -- ---- what is new

    module _ (fresh : item_at items id ≡ None) (leaf : new.children ≡ []) (last : Item)
        (there : item_at items p ≡ Some last) (other : p.0 ≢ id.0)
        (shown : (d : ℕ) (i : Item) → show d (grown p id i) ≡ show d i) where
      none_below : (many d : ℕ) → preorder show many news d id ≡ []
      none_below zero d = refl
      none_below (suc many) d =
          ap (λ (cs : List ItemId). flat_map (part news many d) (filter_map (item_at news) cs))
          (ap children_in (at_new fresh) ∙ leaf)

      new_part : (many d : ℕ) → flat_map (part news many d) (filter_map (item_at news) (id ∷ [])) ≡ show d new ∷ []
      new_part many d =
          rw (at_new fresh)
          (append-nil (part news many d new)
          ∙ ap (λ (ns : List N). show d new ∷ ns)
          (ap (preorder show many news (d + 1)) own ∙ none_below many (d + 1)))

      at_end : (many d : ℕ)
          → AllByRecursion R (children_of items p)
          → preorder show (suc many) news d p ≡ preorder show (suc many) items d p ++ show d new ∷ []
      at_end many d all =
          let cs : List ItemId = children_of items p in
          ap (λ (ds : List ItemId). flat_map (part news many d) (filter_map (item_at news) ds))
          (children_here last other there)
          ∙ ap (flat_map (part news many d)) (filter_map-append (item_at news) cs (id ∷ []))
          ∙ flat_map-append (part news many d) (filter_map (item_at news) cs) (filter_map (item_at news) (id ∷ []))
          ∙ ap (λ (ns : List N). ns ++ flat_map (part news many d) (filter_map (item_at news) (id ∷ [])))
          (same_parts many d cs (same_below many (d + 1)) all)
          ∙ ap (λ (ns : List N). preorder show (suc many) items d p ++ ns) (new_part many d)

      -- one folder with its last
      with_last : (js : List Item) (many d : ℕ) (root f : ItemId) (front : List ItemId) (i : Item)
          → children_of js root ≡ front ++ f ∷ [] → item_at js f ≡ Some i
          → preorder show (suc many) js d root
          ≡ flat_map (part js many d) (filter_map (item_at js) front) ++ part js many d i
      with_last js many d root f front i is found =
          ap (λ (ds : List ItemId). flat_map (part js many d) (filter_map (item_at js) ds)) is
          ∙ ap (flat_map (part js many d)) (filter_map-append (item_at js) front (f ∷ []))
          ∙ flat_map-append (part js many d) (filter_map (item_at js) front) (filter_map (item_at js) (f ∷ []))
          ∙ ap (λ (ns : List N). flat_map (part js many d) (filter_map (item_at js) front) ++ ns) one
        where
          one : flat_map (part js many d) (filter_map (item_at js) (f ∷ [])) ≡ part js many d i
          one = rw found (append-nil (part js many d i))

      pub one_behind : (folders : List ItemId) (root : ItemId) (many d e : ℕ) → WayDown items p id R root folders
          → innermost root folders ≡ p → length folders < many → e ≡ d + length folders
          → preorder show many news d root ≡ preorder show many items d root ++ show e new ∷ []
      one_behind folders root zero d e way ends less deep = absurd (omega arith)
      one_behind [] root (suc many) d e way ends less deep =
          let deep' : e ≡ d = omega arith in
          rw (ends, deep') (at_end many d (subst (λ (c : ItemId). AllByRecursion R (children_of items c)) ends way))
      one_behind (f ∷ fs) root (suc many) d e way ends less deep =
          let l = way.0 in
          let i : Item = l.folder in
          let front : List N = flat_map (part items many d) (filter_map (item_at items) l.front) in
          with_last news many d root f l.front (grown p id i) (children_other root l.apart l.other ∙ l.is)
          (at_old f l.inner ∙ ap (option_map (grown p id)) l.there)
          ∙ ap (λ (ns : List N). ns ++ part news many d (grown p id i))
          (same_parts many d l.front (same_below many (d + 1)) l.beside)
          ∙ ap (λ (n : N). front ++ n ∷ preorder show many news (d + 1) (grown p id i).id) (shown d i)
          ∙ ap (λ (c : ItemId). front ++ show d i ∷ preorder show many news (d + 1) c)
          (grown_id i ∙ own_id items f i l.there)
          ∙ ap (λ (ns : List N). front ++ show d i ∷ ns)
          (one_behind fs f many (d + 1) e way.1 ends (omega arith) (omega arith))
          ∙ sym (append_assoc front (show d i ∷ preorder show many items (d + 1) f) (show e new ∷ []))
          ∙ ap (λ (c : ItemId). (front ++ show d i ∷ preorder show many items (d + 1) c) ++ show e new ∷ [])
          (sym (own_id items f i l.there))
          ∙ ap (λ (ns : List N). ns ++ show e new ∷ []) (sym (with_last items many d root f l.front i l.is l.there))
