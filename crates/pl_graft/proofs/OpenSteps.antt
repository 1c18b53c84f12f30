-- Folders that are open, once a node is put at the end of one.
use Rattle.std.proofs.Common.{◌≡◌, ◌≢◌, ◌∙◌, ◌<◌, ◌+◌, ◌++◌, ◌==◌, ℕ, All, Bool, true, false, List, [], ◌∷◌}
use Rattle.std.proofs.Common.{Option, Some, None, add-one, ap, arith, drop, eq-eqb, get_or, if◌then◌else◌}
use Rattle.std.proofs.Common.{length, map, option_to_list, refl}
use Rattle.std.proofs.Common.{subst, sym, take}
use Rattle.std.specs.List.{AllByRecursion, AllPairs, take-map}
use Rattle.std.specs.Option.{IsSome}
use Rattle.std.proofs.lemmas.Bool.{eqb-true, ne_eqb}
use Rattle.std.proofs.lemmas.List.{append-nil, get_or_append_left, length-append, map-append, take-append-drop}
use Rattle.std.proofs.lemmas.List.{take_all}
use Rattle.std.proofs.lemmas.List.Elements.{All-append, All-from_recursion, All-nil, All-pop, All-push, All-take}
use Rattle.std.proofs.lemmas.List.Elements.{recursion_from_All}
use Rattle.std.proofs.lemmas.List.Quantifiers.{all_pairs_push}
use Rattle.std.proofs.Math.Seq.{get_or-append_seam}
use Rattle.pl_base.specs.declared.id.ItemId.{ItemId}
use Rattle.pl_base.specs.declared.item.ItemKind.{ItemKind}
use Rattle.pl_base.specs.declared.item.ItemKind.TheVariants.{Bookmark, Folder, Separator}
use Rattle.pl_base.specs.Store.{Item, Store, item_id}
use Rattle.pl_base.specs.Tree.{children_of, item_at, last_item}
use Rattle.pl_base.proofs.ItemLookUps.{last_push}
use Rattle.pl_nbread.specs.declared.tree.Node.{Node}
use Rattle.pl_nbread.specs.WellFormed.{is_folder}
use Rattle.pl_tree.specs.declared.place.Place.TheVariants.{End}
use Rattle.pl_tree.specs.Places.{before}
use Rattle.pl_graft.specs.declared.grafting.Open.{Open}
use Rattle.pl_graft.specs.Import.{folder_of, folders_behind, innermost}
use Rattle.pl_graft.specs.OpenFolders.{AreOpen, IsOpen, inner_of, opened, root_of}
use Rattle.pl_graft.specs.Ready.{Takes}
use Rattle.pl_graft.specs.Standing.{Puts}
use Rattle.pl_graft.proofs.Ready.{IsReady}

-- ---- the folder of a node

-- the innermost place around a node
pub taken : (places cut front : List Open) (popped : Option Open) (top : Open) (count : ℕ) → cut ≡ take count places
    → cut ≡ front ++ option_to_list popped → popped ≡ Some top → take count places ≡ front ++ top ∷ []
taken places cut front popped top count cuts pops is =
    sym cuts ∙ pops ∙ ap (λ (o : Option Open). front ++ option_to_list o) is

-- the places behind it
pub pushed_are : (front back new : List Open) (top : Open) (kind : ItemKind) (id : ItemId) → back ≡ front ++ top ∷ []
    → new ≡ back ++ opened kind id → new ≡ (front ++ top ∷ []) ++ opened kind id
pushed_are front back new top kind id put opens = opens ∙ ap (λ (os : List Open). os ++ opened kind id) put

innermost_last : (root : ItemId) (folders front : List ItemId) (last : ItemId) → root ∷ folders ≡ front ++ last ∷ []
    → innermost root folders ≡ last
innermost_last root [] [] last same = cc
innermost_last root [] (f ∷ fs) last same = absurd (omega (arith, ap length same, length-append fs (last ∷ [])))
innermost_last root (i ∷ is) [] last same = absurd (omega (arith, ap length same))
innermost_last root (i ∷ is) (f ∷ fs) last same =
    let rest : i ∷ is ≡ fs ++ last ∷ [] = cc in
    innermost_last i is fs last rest

-- the folders around a node, where so many are open
pub around : (places : List Open) (depth : ℕ) → depth < length places
    → map (λ (o : Open). o.folder) (take (depth + 1) places) ≡ root_of places ∷ take depth (inner_of places)
around [] depth within = absurd (omega (arith, within))
around (o ∷ os) depth within =
    rw add-one
    (ap (λ (fs : List ItemId). o.folder ∷ fs) (sym (take-map (λ (p : Open). p.folder) depth os)))

pub top_is : (places front : List Open) (top : Open) (node : Node) → node.depth < length places
    → take (node.depth + 1) places ≡ front ++ top ∷ []
    → folder_of (root_of places) (inner_of places) node ≡ top.folder
top_is places front top node within taken =
    innermost_last (root_of places) (take node.depth (inner_of places)) (map (λ (o : Open). o.folder) front) top.folder
    (sym (around places node.depth within) ∙ ap (map (λ (o : Open). o.folder)) taken
    ∙ map-append (λ (o : Open). o.folder) front (top ∷ []))

folder_opened : (kind : ItemKind) (id : ItemId)
    → map (λ (o : Open). o.folder) (opened kind id) ≡ (if is_folder kind then id ∷ [] else [])
folder_opened Bookmark id = refl
folder_opened Folder id = refl
folder_opened Separator id = refl

pub folders_are : (places front new : List Open) (top : Open) (node : Node) (last : Option ItemId) (id : ItemId)
    → node.depth < length places → take (node.depth + 1) places ≡ front ++ top ∷ []
    → new ≡ (front ++ record { folder = top.folder; last = last } ∷ []) ++ opened node.kind id
    → map (λ (o : Open). o.folder) new ≡ root_of places ∷ folders_behind (inner_of places) node id
folders_are places front new top node last id within taken is =
    let folder : Open → ItemId = λ (o : Open). o.folder in
    let put : Open = record { folder = top.folder; last = last } in
    ap (map folder) is
    ∙ map-append folder (front ++ put ∷ []) (opened node.kind id)
    ∙ ap (λ (fs : List ItemId). fs ++ map folder (opened node.kind id))
    (map-append folder front (put ∷ []) ∙ sym (map-append folder front (top ∷ []))
    ∙ ap (map folder) (sym taken) ∙ around places node.depth within)
    ∙ ap (λ (fs : List ItemId). root_of places ∷ (take node.depth (inner_of places) ++ fs)) (folder_opened node.kind id)

-- ---- each stands once

abbrev Apart : Open → Open → Type 0
Apart a b = a.folder ≢ b.folder

pairs_prefix : (xs ys : List Open) → AllPairs Apart (xs ++ ys) → AllPairs Apart xs
pairs_prefix xs ys pairs i j d less within =
    let low : i < length xs = omega arith in
    rw (get_or_append_left xs ys d i low, get_or_append_left xs ys d j within) at (pairs i j d less
    (omega (arith, length-append xs ys, within)))

pairs_last : (xs : List Open) (y : Open) → AllPairs Apart (xs ++ y ∷ []) → All (λ (x : Open). Apart x y) xs
pairs_last xs y pairs k d within =
    rw (get_or_append_left xs (y ∷ []) d k within, get_or-append_seam xs y [] d) at (pairs k (length xs) d within
    (omega (arith, length-append xs (y ∷ []))))

-- ---- a folder that takes items is there

some_item : (items : List Item) (id : ItemId) (next : ℕ) → AllByRecursion (λ (i : Item). i.id.0 < next) items
    → IsSome (item_at items id) → id.0 < next
some_item [] id next below some = absurd (cc)
some_item (i ∷ items) id next below some =
    choose (i.id.0 == id.0) refl some (some_item items id next below.1)
  where
    choose : (b : Bool) → (i.id.0 == id.0) ≡ b → IsSome (if b then Some i else item_at items id)
        → (IsSome (item_at items id) → id.0 < next) → id.0 < next
    choose true same here later = omega (arith, eqb-true i.id.0 id.0 same, below.0)
    choose false apart here later = later here

taking_is : (store : Store) (folder : ItemId) → Takes store folder → IsSome (item_at store.items folder)
taking_is store folder takes = choose (item_at store.items folder) refl
  where
    choose : (o : Option Item) → item_at store.items folder ≡ o → IsSome o
    choose None none = let refused = rw none at takes in absurd (cc)
    choose (Some i) some = refl

pub taking_below : (store : Store) (folder : ItemId) → IsReady store → Takes store folder
    → folder.0 < store.ids.item
taking_below store folder is takes =
    some_item store.items folder store.ids.item
    (recursion_from_All (λ (i : Item). i.id.0 < store.ids.item) store.items is.below)
    (taking_is store folder takes)

-- ---- the folders afterwards

before_end : (ids : List ItemId) (id : ItemId) → before End (ids ++ id ∷ []) ≡ Some id
before_end ids id =
    ap last_item (take_all (length (ids ++ id ∷ [])) (ids ++ id ∷ []) (omega arith)) ∙ last_push ids id

module _ (old new : Store) (top : Open) (kind : ItemKind) (id : ItemId) (is : IsReady old)
    (named : id ≡ item_id old.ids.item) (puts : Puts top.folder kind id old new) where
  abbrev put : Open
  put = record { folder = top.folder; last = Some id }

  other_open : (o : Open) → IsOpen old o → Apart o top → IsOpen new o
  other_open o here apart =
      record {
        takes = puts.takes o.folder here.takes;
        last_child =
            here.last_child
            ∙ ap (before End) (sym (puts.children o.folder here.takes
            ∙ ap (λ (b : Bool).
            if b then children_of old.items o.folder ++ id ∷ [] else children_of old.items o.folder)
            (ne_eqb o.folder.0 top.folder.0 (λ same. apart (ap item_id same)))));
      }

  top_open : IsOpen old top → IsOpen new put
  top_open here =
      record {
        takes = puts.takes top.folder here.takes;
        last_child =
            sym (ap (before End) (puts.children top.folder here.takes
            ∙ ap (λ (b : Bool).
            if b then children_of old.items top.folder ++ id ∷ [] else children_of old.items top.folder)
            (eq-eqb top.folder.0 top.folder.0 refl))
            ∙ before_end (children_of old.items top.folder) id);
      }

  new_open : (k : ItemKind) → k ≡ kind → All (IsOpen new) (opened k id)
  new_open Bookmark same = All-nil (IsOpen new)
  new_open Folder same =
      let place : Open = record { folder = id; last = None } in
      All-from_recursion (IsOpen new) (place ∷ [])
      (record { takes = puts.opened (sym same); last_child = sym (ap (before End) (puts.empty (sym same))) }, tt)
  new_open Separator same = All-nil (IsOpen new)

  each_open : (front : List Open) → All (IsOpen old) (front ++ top ∷ []) → All (λ (o : Open). Apart o top) front
      → All (IsOpen new) ((front ++ put ∷ []) ++ opened kind id)
  each_open front all apart =
      let parts = All-pop (IsOpen old) (front ++ top ∷ []) front (Some top) refl all in
      All-append (IsOpen new) (front ++ put ∷ []) (opened kind id)
      (All-push (IsOpen new) front put
      (λ k d within. other_open (get_or front k d) (parts.0 k d within) (apart k d within)) (top_open parts.1))
      (new_open kind refl)

  each_below : (front : List Open) → All (IsOpen old) (front ++ top ∷ [])
      → All (λ (o : Open). o.folder ≢ id) (front ++ put ∷ [])
  each_below front all =
      let parts = All-pop (IsOpen old) (front ++ top ∷ []) front (Some top) refl all in
      All-push (λ (o : Open). o.folder ≢ id) front put
      (λ k d within same.
      let less = taking_below old (get_or front k d).folder is (parts.0 k d within).takes in
      absurd (omega (arith, ap (λ (i : ItemId). i.0) (same ∙ named), less)))
      (λ same.
      let less = taking_below old top.folder is parts.1.takes in
      absurd (omega (arith, ap (λ (i : ItemId). i.0) (same ∙ named), less)))

  once_with : (k : ItemKind) (places : List Open) → AllPairs Apart places → All (λ (o : Open). o.folder ≢ id) places
      → AllPairs Apart (places ++ opened k id)
  once_with Bookmark places once apart = rw (append-nil places) once
  once_with Folder places once apart =
      all_pairs_push Apart places (record { folder = id; last = None }) once apart
  once_with Separator places once apart = rw (append-nil places) once

  pub opens : (front : List Open) → All (IsOpen old) (front ++ top ∷ []) → AllPairs Apart (front ++ top ∷ [])
      → AreOpen new ((front ++ put ∷ []) ++ opened kind id)
  opens front all once =
      let apart : All (λ (o : Open). Apart o top) front = pairs_last front top once in
      record {
        each = each_open front all apart;
        once =
            once_with kind (front ++ put ∷ [])
            (all_pairs_push Apart front put (pairs_prefix front (top ∷ []) once) apart) (each_below front all);
      }

-- the first of some places that are open
pub first_open : (store : Store) (places front : List Open) (top : Open) (count : ℕ) → AreOpen store places
    → take count places ≡ front ++ top ∷ []
    → All (IsOpen store) (front ++ top ∷ []) × AllPairs Apart (front ++ top ∷ [])
first_open store places front top count are taken = (
  subst (All (IsOpen store)) taken (All-take (IsOpen store) count places are.each),
  subst (AllPairs Apart) taken
      (pairs_prefix (take count places) (drop count places) (rw (take-append-drop count places) are.once)),
)
