-- Each node that is found is formed.
use Rattle.std.proofs.Common.{◌≡◌, ◌∙◌, ◌&&◌, ℕ, suc, Bool, true, false, List, []}
use Rattle.std.proofs.Common.{nat_le, refl}
use Rattle.std.proofs.Common.{Option, Some, None, option_and_then, if◌then◌else◌}
use Rattle.std.proofs.Common.{Ordering, Less, Equal, Greater}
use Rattle.std.specs.Prelude.{codes, unwrap_or}
use Rattle.std.specs.Cmp.Lexicographic.{slice_cmp}
use Rattle.std.specs.List.{list_all}
use Rattle.std.specs.Ordering.{match_ordering, nat_cmp}
use Rattle.std.proofs.lemmas.Bool.{and_from}
use Rattle.std.proofs.lemmas.List.Folds.{list_all-append}
use Rattle.pl_base.specs.declared.date.Micros.{Micros}
use Rattle.pl_base.specs.declared.item.ItemKind.{ItemKind}
use Rattle.pl_base.specs.declared.item.ItemKind.TheVariants.{Bookmark, Folder, Separator}
use Rattle.pl_base.specs.Date.{last_date}
use Rattle.pl_nbread.specs.WellFormed.{is_date, is_formed}
use Rattle.pl_nbread.proofs.TagsInText.{tags_named, tags_once}
use Rattle.pl_backup.specs.BackupTree.{Found, added, array_found, bookmark_found, children_found}
use Rattle.pl_backup.specs.BackupTree.{if_date, items_found, kind, modified, num, object_found, text, url}
use Rattle.pl_backup.specs.BackupTree.{value_found}
use Rattle.serde_json.specs.Data.{Data, Items, Members, array, boolean, item, member, no_items}
use Rattle.serde_json.specs.Data.{no_members, null, number, object, string}
use Rattle.serde_json.specs.Find.{as_u64}

-- ---- dates

in_range : (told : Option ℕ) (other : Micros) → is_date other ≡ true
    → is_date (unwrap_or (option_and_then if_date told) other) ≡ true
in_range None other fine = fine
in_range (Some micros) other fine = choose (nat_le micros last_date) refl
  where
    choose : (v : Bool) → nat_le micros last_date ≡ v
        → is_date (unwrap_or (if v then Some (record { 0 = micros }) else None) other) ≡ true
    choose true is = is
    choose false is = fine

added_dated : (fields : Members) → is_date (added fields) ≡ true
added_dated fields = in_range (option_and_then as_u64 (num (codes "dateAdded") fields)) (record { 0 = 0 }) refl

modified_dated : (fields : Members) → is_date (modified fields) ≡ true
modified_dated fields =
    in_range (option_and_then as_u64 (num (codes "lastModified") fields)) (added fields) (added_dated fields)

-- ---- what is found

abbrev pub Formed : Found → Type 0
Formed found = list_all is_formed found.nodes ≡ true

module _ (depth : ℕ) (fields : Members) (below : Found) (fine : Formed below) where
  bookmark_formed : (url : Option (List ℕ)) → Formed (bookmark_found depth url fields)
  bookmark_formed None = refl
  bookmark_formed (Some url) =
      and_from _ _
      (and_from _ _ (and_from _ _ (and_from _ _ (added_dated fields) (modified_dated fields))
      (tags_named (unwrap_or (text (codes "tags") fields) [])))
      (tags_once (unwrap_or (text (codes "tags") fields) [])))
      refl

  plain : (is_date (added fields) && is_date (modified fields) && true && true) ≡ true
  plain = and_from _ _ (and_from _ _ (and_from _ _ (added_dated fields) (modified_dated fields)) refl) refl

  object_formed : (kind : Option ItemKind) → Formed (object_found depth kind fields below)
  object_formed None = refl
  object_formed (Some Bookmark) = bookmark_formed (url fields)
  object_formed (Some Separator) = and_from _ _ plain refl
  object_formed (Some Folder) = and_from _ _ plain fine

formed_chosen : (o : Ordering) (a b c : Found) → Formed a → Formed b → Formed c → Formed (match_ordering o a b c)
formed_chosen Less a b c p q r = p
formed_chosen Equal a b c p q r = q
formed_chosen Greater a b c p q r = r

mutual
  value_formed : (depth : ℕ) (value : Data) → Formed (value_found depth value)
  value_formed depth null = refl
  value_formed depth (boolean b) = refl
  value_formed depth (number n) = refl
  value_formed depth (string s) = refl
  value_formed depth (array items) = refl
  value_formed depth (object fields) =
      object_formed depth fields (children_found (suc depth) fields) (children_formed (suc depth) fields)
      (kind fields)

  items_formed : (depth : ℕ) (items : Items) → Formed (items_found depth items)
  items_formed depth no_items = refl
  items_formed depth (item value more) =
      list_all-append is_formed (value_found depth value).nodes (items_found depth more).nodes
      ∙ and_from _ _ (value_formed depth value) (items_formed depth more)

  pub children_formed : (depth : ℕ) (fields : Members) → Formed (children_found depth fields)
  children_formed depth no_members = refl
  children_formed depth (member key value more) =
      formed_chosen (slice_cmp nat_cmp (codes "children") key) (children_found depth more) (array_found depth value)
      (children_found depth more) (children_formed depth more) (array_formed depth value) (children_formed depth more)

  array_formed : (depth : ℕ) (value : Data) → Formed (array_found depth value)
  array_formed depth null = refl
  array_formed depth (boolean b) = refl
  array_formed depth (number n) = refl
  array_formed depth (string s) = refl
  array_formed depth (object fields) = refl
  array_formed depth (array items) = items_formed depth items
