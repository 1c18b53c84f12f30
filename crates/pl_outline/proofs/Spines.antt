-- The open folders of a list: each is the last child of the one before it.
use Rattle.std.proofs.Common.{◌≡◌, ◌≢◌, ◌∙◌, ◌<◌, ◌≤◌, ◌++◌, ◌==◌, ◌||◌, ◌⊎◌, ℕ, Bool, true, false, List, []}
use Rattle.std.proofs.Common.{◌∷◌, Option, Some, None, ap, append_assoc, arith, if◌then◌else◌, inl, inr}
use Rattle.std.proofs.Common.{map, refl, subst, suc, sym, take, zero}
use Rattle.std.specs.List.{AllByRecursion}
use Rattle.std.proofs.lemmas.Bool.{eqb-false, or_parts}
use Rattle.std.proofs.lemmas.List.Elements.{recursion_from_All}
use Rattle.std.proofs.lemmas.Option.{none-some, same_Some}
use Rattle.pl_base.specs.declared.id.ItemId.{ItemId}
use Rattle.pl_base.specs.declared.refusal.Refusal.{Refusal}
use Rattle.pl_base.specs.declared.refusal.Refusal.TheVariants.{Fixed, NoItem}
use Rattle.pl_base.specs.Good.{IsTree}
use Rattle.pl_base.specs.Store.{Item, Store, item_id, top_folders}
use Rattle.pl_base.specs.Tags.{tags_root}
use Rattle.pl_base.specs.Tree.{child_items, children_of, first_item, item_at, parent_of, sibling_behind}
use Rattle.pl_base.proofs.LookUps.{found_holds}
use Rattle.pl_base.proofs.OneParent.{root_alone}
use Rattle.pl_base.proofs.ItemLookUps.{same_item_number}
use Rattle.pl_base.proofs.ChildrenRun.{parent_here, sibling_here}
use Rattle.pl_base.proofs.Truths.{neither}
use Rattle.pl_tree.specs.Refused.{folder_refusal, is_closed, is_tag, parent_refusal}
use Rattle.pl_tree.proofs.GoodStores as stores
use Rattle.pl_graft.specs.Import.{innermost}
use Rattle.pl_graft.specs.Ready.{IsReady, Takes}
use Rattle.pl_outline.proofs.OneMore.{WayDown, children_in}
use Rattle.pl_outline.proofs.Preorders.{have_parent, own_id}

-- ---- folders that take items

if_none : (b : Bool) (x : Refusal) → (if b then Some x else None) ≡ None → b ≡ false
if_none true x none = absurd (cc)
if_none false x none = refl

-- what is told of a folder that takes items
pub record IsTaking (items : List Item) (c : ItemId) : Type 0 where
  pub folder : Item
  pub there : item_at items c ≡ Some folder
  pub not_first : c.0 ≢ 1
  pub not_tags : c.0 ≢ 4
  pub no_tag : is_tag items c ≡ false

pub taking : (items : List Item) (c : ItemId) → parent_refusal items c ≡ None → IsTaking items c
taking items c none =
    let parts = neither (folder_refusal items c) (if is_closed items c then Some (Fixed c) else None) none in
    let free = if_none (is_closed items c) (Fixed c) parts.1 in
    let first = or_parts ((c.0 == 1) || (c.0 == tags_root.0)) (is_tag items c) free in
    let second = or_parts (c.0 == 1) (c.0 == tags_root.0) first.0 in
    let found = some_found (item_at items c) refl parts.0 in
    record {
      folder = found.0;
      there = found.1;
      not_first = eqb-false c.0 1 second.0;
      not_tags = eqb-false c.0 4 second.1;
      no_tag = first.1;
    }
  where
    some_found : (o : Option Item) → item_at items c ≡ o → folder_refusal items c ≡ None
        → (i : Item) × (item_at items c ≡ Some i)
    some_found None is none = let h : Some (NoItem c) ≡ None = rw is at none in absurd (cc)
    some_found (Some i) is none = (i, is)

-- ---- spines

-- a folder is the last child of another, and newer
pub record IsLast (items : List Item) (root f : ItemId) : Type 0 where
  pub front : List ItemId
  pub is : children_of items root ≡ front ++ f ∷ []
  pub above : root.0 < f.0
  pub late : 6 < f.0

-- each is the last child of the one before it
abbrev pub Spine : List Item → ItemId → List ItemId → Type 0
Spine items root [] = Unit {0}
Spine items root (f ∷ fs) = IsLast items root f × Spine items f fs

pub spine_take : (items : List Item) (root : ItemId) (n : ℕ) (folders : List ItemId) → Spine items root folders
    → Spine items root (take n folders)
spine_take items root zero folders spine = tt
spine_take items root (suc n) [] spine = tt
spine_take items root (suc n) (f ∷ fs) spine = (spine.0, spine_take items f n fs spine.1)

-- the innermost is the newest
pub innermost_newest : (items : List Item) (root : ItemId) (folders : List ItemId) → Spine items root folders
    → root.0 ≤ (innermost root folders).0
innermost_newest items root [] spine = omega arith
innermost_newest items root (f ∷ fs) spine =
    omega (arith, spine.0.above, innermost_newest items f fs spine.1)

-- ---- ids that are not on the spine

-- not one of these
abbrev pub NoneOf : ItemId → List ItemId → Type 0
NoneOf c ids = AllByRecursion (λ (s : ItemId). c.0 ≢ s.0) ids

abbrev pub IsOff : ℕ → List ItemId → ItemId → Type 0
IsOff next spine c = (c.0 ≢ 1) × (c.0 < next) × NoneOf c spine

first_there : (ids : List ItemId) (f : ItemId) → first_item (ids ++ f ∷ []) ≡ None → ⊥
first_there [] f none = absurd (cc)
first_there (c ∷ cs) f none = absurd (cc)

module _ (items : List Item) (tree : IsTree items) where
  last_parent : (root f : ItemId) → IsLast items root f → parent_of items f ≡ Some root
  last_parent root f l = parent_here items root l.front f [] tree l.is

  -- a child of an id that is not on the spine
  off_spine : (root : ItemId) (folders : List ItemId) → Spine items root folders → (x c : ItemId)
      → parent_of items x ≡ Some c → NoneOf c (root ∷ folders) → NoneOf x folders
  off_spine root [] spine x c parent off = tt
  off_spine root (f ∷ fs) spine x c parent off = (
    λ same.
        let one : x ≡ f = same_item_number x f same in
        let above : c ≡ root =
        same_Some c root (sym parent ∙ ap (parent_of items) one ∙ last_parent root f spine.0) in
        off.0 (ap (λ (z : ItemId). z.0) above),
    off_spine f fs spine.1 x c parent off.1,
  )

  -- a child of the innermost
  off_inner : (root : ItemId) (folders : List ItemId) → Spine items root folders → (x : ItemId)
      → parent_of items x ≡ Some (innermost root folders) → NoneOf x folders
  off_inner root [] spine x parent = tt
  off_inner root (f ∷ fs) spine x parent = (
    λ same.
        let one : x ≡ f = same_item_number x f same in
        let above : innermost f fs ≡ root =
        same_Some (innermost f fs) root (sym parent ∙ ap (parent_of items) one ∙ last_parent root f spine.0) in
        omega (
          arith,
          spine.0.above,
          innermost_newest items f fs spine.1,
          ap (λ (z : ItemId). z.0) above,
        ),
    off_inner f fs spine.1 x parent,
  )

  -- a child that is not the last
  off_last : (root : ItemId) (folders : List ItemId) → Spine items root folders → (x : ItemId)
      → (sibling_behind items x ≡ None → ⊥) → NoneOf x folders
  off_last root [] spine x behind = tt
  off_last root (f ∷ fs) spine x behind = (
    λ same.
        behind
        (ap (sibling_behind items) (same_item_number x f same)
        ∙ sibling_here items root spine.0.front f [] tree spine.0.is),
    off_last f fs spine.1 x behind,
  )

-- ---- the way down

-- a root's number
abbrev pub IsRootNumber : ℕ → Type 0
IsRootNumber n = (n ≡ 2) ⊎ (n ≡ 3) ⊎ (n ≡ 5) ⊎ (n ≡ 6)

pub low : (n : ℕ) → IsRootNumber n → n < 7
low n (inl e) = omega arith
low n (inr (inl e)) = omega arith
low n (inr (inr (inl e))) = omega arith
low n (inr (inr (inr e))) = omega arith

pub high : (n : ℕ) → IsRootNumber n → 1 < n
high n (inl e) = omega arith
high n (inr (inl e)) = omega arith
high n (inr (inr (inl e))) = omega arith
high n (inr (inr (inr e))) = omega arith

module _ (store : Store) (r : IsReady store) where
  abbrev items : List Item
  items = store.items

  abbrev next : ℕ
  next = store.ids.item

  tree : IsTree items
  tree = r.good.tree

  pub found_below : (c : ItemId) (i : Item) → item_at items c ≡ Some i → c.0 < next
  found_below c i is =
      let below : i.id.0 < next =
      found_holds (λ (j : Item). j.id.0 < next) (λ (j : Item). j.id.0 == c.0) items i
      (recursion_from_All (λ (j : Item). j.id.0 < next) items r.below) is in
      omega (arith, ap (λ (z : ItemId). z.0) (own_id items c i is))

  pub none_yet : item_at items (item_id next) ≡ None
  none_yet = choose (item_at items (item_id next)) refl
    where
      choose : (o : Option Item) → item_at items (item_id next) ≡ o → o ≡ None
      choose None is = refl
      choose (Some i) is = absurd (omega (arith, found_below (item_id next) i is))

  -- each child is older than the next item, and is not item 1
  pub child_below : (c : ItemId) → AllByRecursion (λ (x : ItemId). x.0 < next) (children_of items c)
  child_below c =
      subst (AllByRecursion (λ (x : ItemId). x.0 < next))
      (stores.child_list store next r.good r.ascending r.below r.first c)
      (ids_below (child_items items c)
      (recursion_from_All (λ (i : Item). i.id.0 < next) (child_items items c)
      (stores.children_below store next r.good r.ascending r.below r.first c)))
    where
      ids_below : (js : List Item) → AllByRecursion (λ (i : Item). i.id.0 < next) js
          → AllByRecursion (λ (x : ItemId). x.0 < next) (map (λ (i : Item). i.id) js)
      ids_below [] all = tt
      ids_below (j ∷ js) all = (all.0, ids_below js all.1)

  pub no_first : (x c : ItemId) → parent_of items x ≡ Some c → x.0 ≢ 1
  no_first x c parent same =
      none-some c
      (sym (root_alone items tree) ∙ ap (parent_of items) (sym (same_item_number x (item_id 1) same)) ∙ parent)

  first_children : children_of items (item_id 1) ≡ top_folders
  first_children = ap children_in r.good.roots.root

  -- the parent of each of the five
  pub top_parent : (n : ℕ) → (IsRootNumber n) ⊎ (n ≡ 4) → parent_of items (item_id n) ≡ Some (item_id 1)
  top_parent n (inl (inl e)) =
      ap (λ (k : ℕ). parent_of items (item_id k)) e
      ∙ parent_here items (item_id 1) [] (item_id 2) (item_id 3 ∷ item_id 4 ∷ item_id 5 ∷ item_id 6 ∷ []) tree
      first_children
  top_parent n (inl (inr (inl e))) =
      ap (λ (k : ℕ). parent_of items (item_id k)) e
      ∙ parent_here items (item_id 1) (item_id 2 ∷ []) (item_id 3) (item_id 4 ∷ item_id 5 ∷ item_id 6 ∷ []) tree
      first_children
  top_parent n (inr e) =
      ap (λ (k : ℕ). parent_of items (item_id k)) e
      ∙ parent_here items (item_id 1) (item_id 2 ∷ item_id 3 ∷ []) (item_id 4) (item_id 5 ∷ item_id 6 ∷ []) tree
      first_children
  top_parent n (inl (inr (inr (inl e)))) =
      ap (λ (k : ℕ). parent_of items (item_id k)) e
      ∙ parent_here items (item_id 1) (item_id 2 ∷ item_id 3 ∷ item_id 4 ∷ []) (item_id 5) (item_id 6 ∷ []) tree
      first_children
  top_parent n (inl (inr (inr (inr e)))) =
      ap (λ (k : ℕ). parent_of items (item_id k)) e
      ∙ parent_here items (item_id 1) (item_id 2 ∷ item_id 3 ∷ item_id 4 ∷ item_id 5 ∷ []) (item_id 6) [] tree
      first_children

  -- what is no child of item 1 has no child among the five
  pub no_top : (n : ℕ) → (IsRootNumber n) ⊎ (n ≡ 4) → (x c : ItemId) → parent_of items x ≡ Some c → c.0 ≢ 1 → x.0 ≢ n
  no_top n is x c parent other same =
      other
      (ap (λ (z : ItemId). z.0)
      (same_Some c (item_id 1)
      (sym parent ∙ ap (parent_of items) (same_item_number x (item_id n) same) ∙ top_parent n is)))

  -- ---- with the spine of a root

  module _ (n : ℕ) (is : IsRootNumber n) (folders : List ItemId) (spine : Spine items (item_id n) folders)
      (open_all : AllByRecursion (Takes store) (item_id n ∷ folders)) where
    abbrev Off : ItemId → Type 0
    Off = IsOff next (item_id n ∷ folders)

    abbrev inner : ItemId
    inner = innermost (item_id n) folders

    pub off_closed : (c : ItemId) → Off c → AllByRecursion Off (children_of items c)
    off_closed c off =
        join (children_of items c) (have_parent items c tree) (child_below c)
      where
        join : (xs : List ItemId) → AllByRecursion (λ (x : ItemId). parent_of items x ≡ Some c) xs
            → AllByRecursion (λ (x : ItemId). x.0 < next) xs → AllByRecursion Off xs
        join [] parents below = tt
        join (x ∷ xs) parents below = (
          (
            no_first x c parents.0,
            below.0,
            (
              no_top n (inl is) x c parents.0 off.0,
              off_spine items tree (item_id n) folders spine x c parents.0 off.2,
            ),
          ),
          join xs parents.1 below.1,
        )

    pub inner_taking : IsTaking items inner
    inner_taking = taking items inner (last_takes (item_id n) folders open_all.0 open_all.1)
      where
        last_takes : (root : ItemId) (fs : List ItemId) → Takes store root → AllByRecursion (Takes store) fs
            → Takes store (innermost root fs)
        last_takes root [] here all = here
        last_takes root (f ∷ fs) here all = last_takes f fs all.0 all.1

    -- the innermost folder is on the spine
    not_inner : (root : ItemId) (fs : List ItemId) (c : ItemId) → NoneOf c (root ∷ fs) → c.0 ≢ (innermost root fs).0
    not_inner root [] c off = off.0
    not_inner root (f ∷ fs) c off = not_inner f fs c off.1

    pub off_apart : (c : ItemId) → Off c → (c.0 ≢ inner.0) × (c.0 ≢ next)
    off_apart c off = (not_inner (item_id n) folders c off.2, λ same. omega (arith, off.1))

    -- another root is not on the spine
    pub off_root : (m : ℕ) → IsRootNumber m → m ≢ n → Off (item_id m)
    off_root m root other = (
      λ same. omega (arith, high m root),
      omega (arith, low m root, r.first),
      (other, later (item_id n) folders spine),
    )
      where
        later : (root' : ItemId) (fs : List ItemId) → Spine items root' fs → NoneOf (item_id m) fs
        later root' [] s = tt
        later root' (f ∷ fs) s = (λ same. omega (arith, low m root, s.0.late), later f fs s.1)

    module _ (id : ItemId) (named : id.0 ≡ next) where
      abbrev Way : ItemId → List ItemId → Type 0
      Way = WayDown items inner id Off

      -- what stands beside the spine is not on it
      way : (root : ItemId) (fs : List ItemId) → Spine items root fs → AllByRecursion (Takes store) (root ∷ fs)
          → innermost root fs ≡ inner → Way root fs
      way root [] s takes ends =
          let t : IsTaking items root = taking items root takes.0 in
          join (children_of items root) (have_parent items root tree) (child_below root)
        where
          join : (xs : List ItemId) → AllByRecursion (λ (x : ItemId). parent_of items x ≡ Some root) xs
              → AllByRecursion (λ (x : ItemId). x.0 < next) xs → AllByRecursion Off xs
          join [] parents below = tt
          join (x ∷ xs) parents below = (
            (
              no_first x root parents.0,
              below.0,
              (
                no_top n (inl is) x root parents.0 (taking items root takes.0).not_first,
                off_inner items tree (item_id n) folders spine x
                    (parents.0 ∙ ap (λ (c : ItemId). Some c) ends),
              ),
            ),
            join xs parents.1 below.1,
          )
      way root (f ∷ fs) s takes ends =
          let l = s.0 in
          let t : IsTaking items root = taking items root takes.0 in
          let u : IsTaking items f = taking items f takes.1.0 in
          let here : root.0 < next = found_below root t.folder t.there in
          let there : f.0 < next = found_below f u.folder u.there in
          let last : f.0 ≤ (innermost f fs).0 = innermost_newest items f fs s.1 in (
            record {
              front = l.front;
              is = l.is;
              beside =
                  join [] l.front l.is
                  (front_of l.front f
                  (subst (AllByRecursion (λ (x : ItemId). x.0 < next)) l.is (child_below root)));
              folder = u.folder;
              there = u.there;
              apart = λ same. omega (arith, l.above, ap (λ (z : ItemId). z.0) ends);
              other = λ same. omega arith;
              inner = λ same. omega arith;
            },
            way f fs s.1 takes.1 ends,
          )
        where
          front_of : (xs : List ItemId) (y : ItemId) → AllByRecursion (λ (x : ItemId). x.0 < next) (xs ++ y ∷ [])
              → AllByRecursion (λ (x : ItemId). x.0 < next) xs
          front_of [] y all = tt
          front_of (x ∷ xs) y all = (all.0, front_of xs y all.1)

          join : (before xs : List ItemId) → children_of items root ≡ before ++ (xs ++ f ∷ [])
              → AllByRecursion (λ (x : ItemId). x.0 < next) xs → AllByRecursion Off xs
          join before [] whole below = tt
          join before (x ∷ xs) whole below =
              let parent : parent_of items x ≡ Some root = parent_here items root before x (xs ++ f ∷ []) tree whole in (
                (
                  no_first x root parent,
                  below.0,
                  (
                    no_top n (inl is) x root parent (taking items root takes.0).not_first,
                    off_last items tree (item_id n) folders spine x (λ none.
                        first_there xs f (sym (sibling_here items root before x (xs ++ f ∷ []) tree whole) ∙ none)),
                  ),
                ),
                join (before ++ x ∷ []) xs (whole ∙ sym (append_assoc before (x ∷ []) (xs ++ f ∷ []))) below.1,
              )

      pub way_down : Way (item_id n) folders
      way_down = way (item_id n) folders spine open_all refl
