-- What holds where a change of the tree is not refused.
use Rattle.std.proofs.Common.{◌≡◌, ◌≢◌, ◌<◌, ◌==◌, ◌||◌, ◌∙◌, Bool, true, false, List, Option, Some, None}
use Rattle.std.proofs.Common.{ap, refl, if◌then◌else◌}
use Rattle.std.specs.Prelude.{not}
use Rattle.std.specs.Option.{option_or}
use Rattle.std.proofs.lemmas.Bool.{eqb-false, leb-false, ne_eqb, not-false, or_parts}
use Rattle.pl_base.specs.declared.id.ItemId.{ItemId}
use Rattle.pl_base.specs.declared.item.ItemKind.{ItemKind}
use Rattle.pl_base.specs.declared.item.ItemKind.TheVariants.{Bookmark, Folder, Separator}
use Rattle.pl_base.specs.declared.refusal.Refusal.{Refusal}
use Rattle.pl_base.specs.declared.refusal.Refusal.TheVariants.{Fixed, Inside, NoItem, NotAFolder}
use Rattle.pl_base.specs.Store.{Item}
use Rattle.pl_base.specs.Tags.{tags_root}
use Rattle.pl_base.specs.Tree.{has_item, item_at, lies_in}
use Rattle.pl_base.proofs.Truths.{neither}
use Rattle.pl_tree.specs.Refused.{folder_refusal, inside_refusal, is_closed, is_entry, is_fixed, is_folder_kind}
use Rattle.pl_tree.specs.Refused.{is_root, is_tag, item_refusal, parent_refusal}

pub if_none : {A : Type 0} (b : Bool) (x : A) → (if b then Some x else None) ≡ None → b ≡ false
if_none true x none = absurd (cc)
if_none false x none = refl

is_folder : (kind : ItemKind) → is_folder_kind kind ≡ true → kind ≡ Folder
is_folder Folder is = refl
is_folder Bookmark is = absurd (cc)
is_folder Separator is = absurd (cc)

-- as `folder_refusal` has it
abbrev of_folder : ItemId → Option Item → Option Refusal
of_folder id None = Some (NoItem id)
of_folder id (Some i) = if is_folder_kind i.kind then None else Some (NotAFolder id)

-- the folder that takes an item
pub record Takes (items : List Item) (id : ItemId) : Type 0 where
  pub folder : Item
  pub there : item_at items id ≡ Some folder
  pub kind : folder.kind ≡ Folder
  pub not_first : id.0 ≢ 1
  pub not_tags : id.0 ≢ 4
  pub no_tag : is_tag items id ≡ false

a_folder : (id : ItemId) (i : Item) → of_folder id (Some i) ≡ None → i.kind ≡ Folder
a_folder id i none = choose (is_folder_kind i.kind) refl none
  where
    choose : (b : Bool) → is_folder_kind i.kind ≡ b → (if b then None else Some (NotAFolder id)) ≡ None
        → i.kind ≡ Folder
    choose true is none = is_folder i.kind is
    choose false is none = absurd (cc)

pub takes : (items : List Item) (id : ItemId) → parent_refusal items id ≡ None → Takes items id
takes items id none =
    let parts = neither (folder_refusal items id) (if is_closed items id then Some (Fixed id) else None) none in
    let free = if_none (is_closed items id) (Fixed id) parts.1 in
    let first = or_parts ((id.0 == 1) || (id.0 == tags_root.0)) (is_tag items id) free in
    let second = or_parts (id.0 == 1) (id.0 == tags_root.0) first.0 in
    choose (item_at items id) refl parts.0 (eqb-false id.0 1 second.0) (eqb-false id.0 4 second.1) first.1
  where
    choose : (o : Option Item) → item_at items id ≡ o → of_folder id o ≡ None → id.0 ≢ 1 → id.0 ≢ 4
        → is_tag items id ≡ false → Takes items id
    choose None is none not_first not_tags no_tag = absurd (cc)
    choose (Some i) is none not_first not_tags no_tag =
        record {
          folder = i;
          there = is;
          kind = a_folder id i none;
          not_first = not_first;
          not_tags = not_tags;
          no_tag = no_tag;
        }

-- such a folder is not refused
pub not_refused : (items : List Item) (id : ItemId) → Takes items id → parent_refusal items id ≡ None
not_refused items id t =
    let fixed : Bool → Option Refusal = λ (b : Bool). if b then Some (Fixed id) else None in
    let free : is_closed items id ≡ false =
    rw (ne_eqb id.0 1 t.not_first, ne_eqb id.0 tags_root.0 t.not_tags, t.no_tag) refl in
    let found : folder_refusal items id ≡ None =
    ap (of_folder id) t.there
    ∙ ap (λ (k : ItemKind). let o : Option Refusal = if is_folder_kind k then None else Some (NotAFolder id) in o)
    t.kind in
    ap (λ (o : Option Refusal). option_or o (fixed (is_closed items id))) found ∙ ap fixed free

-- the item that may change
pub record MayChange (items : List Item) (id : ItemId) : Type 0 where
  pub there : has_item items id ≡ true
  pub no_root : 6 < id.0
  pub no_tag : is_tag items id ≡ false
  pub no_entry : is_entry items id ≡ false

pub may_change : (items : List Item) (id : ItemId) → item_refusal items id ≡ None → MayChange items id
may_change items id none = choose (not (has_item items id)) refl none
  where
    choose : (b : Bool) → not (has_item items id) ≡ b
        → (if b then Some (NoItem id) else if is_fixed items id then Some (Fixed id) else None) ≡ None
        → MayChange items id
    choose true is none = absurd (cc)
    choose false is none =
        let free = if_none (is_fixed items id) (Fixed id) none in
        let first = or_parts (is_root id || is_tag items id) (is_entry items id) free in
        let second = or_parts (is_root id) (is_tag items id) first.0 in
        record {
          there = not-false (has_item items id) is;
          no_root = leb-false id.0 6 second.0;
          no_tag = second.1;
          no_entry = first.1;
        }

pub not_inside : (items : List Item) (item parent : ItemId) → inside_refusal items item parent ≡ None
    → lies_in items item parent ≡ false
not_inside items item parent none = if_none (lies_in items item parent) (Inside item) none
