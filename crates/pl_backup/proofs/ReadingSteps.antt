-- Steps of the reader: what bytes are, one value more of a list, one child more of the top.
use Rattle.std.proofs.Common.{◌≡◌, ◌∙◌, ◌≤◌, ◌<◌, ◌+◌, ℕ, suc, Bool, true, false, List, [], ◌∷◌, ◌++◌}
use Rattle.std.proofs.Common.{ap, arith, refl, sym}
use Rattle.std.proofs.Common.{Option, Some, None, option_and_then, if◌then◌else◌}
use Rattle.std.proofs.Common.{Ordering, Less, Equal, Greater}
use Rattle.std.specs.Prelude.{codes, unwrap_or}
use Rattle.std.specs.Cmp.Lexicographic.{slice_cmp}
use Rattle.std.specs.Ordering.{match_ordering, nat_cmp}
use Rattle.std.specs.Str.{IsUtf8, is_utf8}
use Rattle.std.proofs.lemmas.List.{append_assoc, append-nil}
use Rattle.std.proofs.lemmas.Str.{IsUtf8-from_is_utf8, is_utf8-from_IsUtf8}
use Rattle.pl_base.specs.declared.item.ItemKind.{ItemKind}
use Rattle.pl_base.specs.declared.item.ItemKind.TheVariants.{Bookmark, Folder, Separator}
use Rattle.pl_backup.specs.declared.found.Found as declared
use Rattle.pl_backup.specs.BackupTree.{Found, array_found, bookmark_found, children_found, items_found}
use Rattle.pl_backup.specs.BackupTree.{joined, kind, node, nothing, object_found, url, value_found, value_of}
use Rattle.pl_backup.specs.Reading.{HasFound, children, fields, opens, opens_by, own, own_by}
use Rattle.pl_backup.specs.Weights.{items_weight, members_weight, weight}
use Rattle.pl_backup.proofs.FoundWeights.{AtMost, member_weight, value_few}
use Rattle.serde_json.specs.Data.{Data, Items, Members, array, boolean, item, member, no_items}
use Rattle.serde_json.specs.Data.{no_members, null, number, object, string}
use Rattle.serde_json.specs.Find.{as_array, get_member}
use Rattle.serde_json.specs.Read.{read}

-- ---- what bytes are

pub value_read : (bytes : List ℕ) (value : Data) → IsUtf8 bytes → read bytes ≡ Some value
    → value_of bytes ≡ Some value
value_read bytes value utf8 is = rw (is_utf8-from_IsUtf8 bytes utf8) is

pub no_value : (bytes : List ℕ) → (IsUtf8 bytes → read bytes ≡ None) → value_of bytes ≡ None
no_value bytes refused = choose (is_utf8 bytes) refl
  where
    choose : (v : Bool) → is_utf8 bytes ≡ v → (if v then read bytes else None) ≡ None
    choose true is = refused (IsUtf8-from_is_utf8 bytes is)
    choose false is = refl

-- ---- a value in a list

listed : (depth : ℕ) (found : Option Data) → Found
listed depth None = nothing
listed depth (Some value) = array_found depth value

chosen : (o : Ordering) (depth : ℕ) (a b : Found) (x y : Option Data) → a ≡ listed depth x → b ≡ listed depth y
    → match_ordering o a b a ≡ listed depth (match_ordering o x y x)
unfolding listed
chosen Less depth a b x y p q = p
chosen Equal depth a b x y p q = q
chosen Greater depth a b x y p q = p

children_are : (depth : ℕ) (these : Members)
    → children_found depth these ≡ listed depth (get_member (codes "children") these)
unfolding listed
children_are depth no_members = refl
children_are depth (member key value more) =
    chosen (slice_cmp nat_cmp (codes "children") key) depth (children_found depth more) (array_found depth value)
    (get_member (codes "children") more) (Some value) (children_are depth more) refl

listed_is : (depth : ℕ) (found : Option Data)
    → listed depth found ≡ items_found depth (unwrap_or (option_and_then as_array found) no_items)
unfolding listed
listed_is depth None = refl
listed_is depth (Some null) = refl
listed_is depth (Some (boolean b)) = refl
listed_is depth (Some (number n)) = refl
listed_is depth (Some (string s)) = refl
listed_is depth (Some (array items)) = refl
listed_is depth (Some (object these)) = refl

pub children_found_are : (depth : ℕ) (value : Data)
    → children_found depth (fields value) ≡ items_found depth (children value)
children_found_are depth null = refl
children_found_are depth (boolean b) = refl
children_found_are depth (number n) = refl
children_found_are depth (string s) = refl
children_found_are depth (array items) = refl
children_found_are depth (object these) =
    children_are depth these ∙ listed_is depth (get_member (codes "children") these)

bookmark_alone : (depth : ℕ) (these : Members) (address : Option (List ℕ))
    → bookmark_found depth address these ≡ joined (bookmark_found depth address these) nothing
bookmark_alone depth these None = refl
bookmark_alone depth these (Some address) = refl

by_kind : (k : Option ItemKind) (depth : ℕ) (these : Members) (below : Found)
    → object_found depth k these below
    ≡ joined (own_by k depth these) (if opens_by k then below else nothing)
by_kind None depth these below = refl
by_kind (Some Bookmark) depth these below = bookmark_alone depth these (url these)
by_kind (Some Folder) depth these below =
    let same : below.skipped ≡ 0 + below.skipped = omega arith in
    ap (λ n. record { nodes = node depth Folder None [] these ∷ below.nodes; skipped = n }) same
by_kind (Some Separator) depth these below = refl

value_apart : (depth : ℕ) (value : Data)
    → value_found depth value
    ≡ joined (own depth value)
    (if opens value then items_found (suc depth) (children value) else nothing)
value_apart depth null = refl
value_apart depth (boolean b) = refl
value_apart depth (number n) = refl
value_apart depth (string s) = refl
value_apart depth (array items) = refl
value_apart depth (object these) =
    by_kind (kind these) depth these (children_found (suc depth) these)
    ∙ ap (λ below. joined (own_by (kind these) depth these) (if opens_by (kind these) then below else nothing))
    (children_found_are (suc depth) (object these))

-- ---- a list that is read

closed : (depth : ℕ) (value : Data) → opens value ≡ false
    → value_found depth value ≡ joined (own depth value) nothing
closed depth value shut =
    value_apart depth value
    ∙ ap (λ v. joined (own depth value) (if v then items_found (suc depth) (children value) else nothing)) shut

opened : (depth : ℕ) (value : Data) → opens value ≡ true
    → value_found depth value ≡ joined (own depth value) (items_found (depth + 1) (children value))
opened depth value is =
    let next : suc depth ≡ depth + 1 = omega arith in
    value_apart depth value
    ∙ ap (λ v. joined (own depth value) (if v then items_found (suc depth) (children value) else nothing)) is
    ∙ ap (λ n. joined (own depth value) (items_found n (children value))) next

-- a value was read that is no folder
pub closed_found : (depth : ℕ) (value : Data) (old new : declared.Found) → opens value ≡ false
    → HasFound (own depth value) old new → HasFound (value_found depth value) old new
closed_found depth value old new shut this =
    let is = closed depth value shut in
    record {
      nodes =
          this.nodes
          ∙ ap (λ ns. old.nodes.items ++ ns)
          (sym (ap (λ (f : Found). f.nodes) is ∙ append-nil (own depth value).nodes));
      skipped = omega (arith, this.skipped, ap (λ (f : Found). f.skipped) is);
    }

-- a folder was read, and what stands in it
pub opened_found : (depth : ℕ) (value : Data) (old between new : declared.Found) → opens value ≡ true
    → HasFound (own depth value) old between → HasFound (items_found (depth + 1) (children value)) between new
    → HasFound (value_found depth value) old new
opened_found depth value old between new is this inner =
    let both = opened depth value is in
    record {
      nodes =
          inner.nodes ∙ ap (λ ns. ns ++ (items_found (depth + 1) (children value)).nodes) this.nodes
          ∙ append_assoc old.nodes.items (own depth value).nodes (items_found (depth + 1) (children value)).nodes
          ∙ ap (λ (f : Found). old.nodes.items ++ f.nodes) (sym both);
      skipped = omega (arith, this.skipped, inner.skipped, ap (λ (f : Found). f.skipped) both);
    }

-- what was read of a list, and what is left of it
pub record Reads (depth : ℕ) (all : Items) (old : declared.Found) (left : Items) (now : declared.Found) : Type 0 where
  pub nodes : now.nodes.items ++ (items_found depth left).nodes ≡ old.nodes.items ++ (items_found depth all).nodes
  pub skipped : now.skipped + (items_found depth left).skipped ≡ old.skipped + (items_found depth all).skipped
  pub room : now.skipped + items_weight left ≤ old.skipped + items_weight all
  pub lighter : items_weight left ≤ items_weight all

pub begins : (depth : ℕ) (all : Items) (old : declared.Found) → Reads depth all old all old
begins depth all old = record { nodes = refl; skipped = refl; room = omega arith; lighter = omega arith }

pub reads_more : (depth : ℕ) (all : Items) (old now new : declared.Found) (value : Data) (more : Items)
    → Reads depth all old (item value more) now → HasFound (value_found depth value) now new
    → Reads depth all old more new
reads_more depth all old now new value more front this = record {
  nodes =
      ap (λ ns. ns ++ (items_found depth more).nodes) this.nodes
      ∙ append_assoc now.nodes.items (value_found depth value).nodes (items_found depth more).nodes
      ∙ front.nodes;
  skipped = omega (arith, this.skipped, front.skipped);
  room = omega (arith, this.skipped, front.room, (value_few depth value).skipped);
  lighter = omega (arith, front.lighter);
}

pub reads_all : (depth : ℕ) (all : Items) (old now : declared.Found) → Reads depth all old no_items now
    → HasFound (items_found depth all) old now
reads_all depth all old now front = record {
  nodes = sym (append-nil now.nodes.items) ∙ front.nodes;
  skipped = omega (arith, front.skipped);
}

-- ---- weights

children_light : (n : ℕ) (found : Option Data) → AtMost n found
    → items_weight (unwrap_or (option_and_then as_array found) no_items) ≤ n
children_light n None small = omega arith
children_light n (Some null) small = omega arith
children_light n (Some (boolean b)) small = omega arith
children_light n (Some (number x)) small = omega arith
children_light n (Some (string s)) small = omega arith
children_light n (Some (array items)) small = omega arith
children_light n (Some (object these)) small = omega arith

-- the children of a value weigh less than the value
pub children_weight : (value : Data) → items_weight (children value) < weight value
children_weight null = omega arith
children_weight (boolean b) = omega arith
children_weight (number n) = omega arith
children_weight (string s) = omega arith
children_weight (array items) = omega arith
children_weight (object these) =
    omega (
      arith,
      children_light (members_weight these) (get_member (codes "children") these)
          (member_weight (codes "children") these),
    )

-- no value weighs nothing
pub some_weight : (value : Data) → 1 ≤ weight value
some_weight null = omega arith
some_weight (boolean b) = omega arith
some_weight (number n) = omega arith
some_weight (string s) = omega arith
some_weight (array items) = omega arith
some_weight (object these) = omega arith

bookmark_one : (depth : ℕ) (these : Members) (address : Option (List ℕ))
    → (bookmark_found depth address these).skipped ≤ 1
bookmark_one depth these None = omega arith
bookmark_one depth these (Some address) = omega arith

one_by_kind : (k : Option ItemKind) (depth : ℕ) (these : Members) → (own_by k depth these).skipped ≤ 1
one_by_kind None depth these = omega arith
one_by_kind (Some Bookmark) depth these = bookmark_one depth these (url these)
one_by_kind (Some Folder) depth these = omega arith
one_by_kind (Some Separator) depth these = omega arith

-- there is room for what stands in a value
pub inner_room : (depth : ℕ) (all : Items) (old now new : declared.Found) (value : Data) (more : Items)
    → Reads depth all old (item value more) now → HasFound (own depth value) now new
    → new.skipped + items_weight (children value) ≤ old.skipped + items_weight all
inner_room depth all old now new value more front this =
    omega (
      arith,
      this.skipped,
      front.room,
      one_by_kind (kind (fields value)) depth (fields value),
      children_weight value,
    )

-- what stands in a value of a list weighs less than the list
pub inner_weight : (depth : ℕ) (all : Items) (old now : declared.Found) (value : Data) (more : Items)
    → Reads depth all old (item value more) now → items_weight (children value) + 1 ≤ items_weight all
inner_weight depth all old now value more front = omega (arith, front.lighter, children_weight value)
