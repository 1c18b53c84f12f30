-- The values of nodes read back from their text, and nest no deeper than is read.
use Rattle.std.proofs.Common.{◌≡◌, ◌≤◌, ◌<◌, ◌+◌, ◌*◌, ◌^◌, ℕ, zero, suc, true, List, [], ◌∷◌, arith}
use Rattle.std.proofs.Common.{drop, refl, take}
use Rattle.std.specs.Prelude.{codes, unwrap_or}
use Rattle.std.specs.List.{AllByRecursion}
use Rattle.std.specs.Str.{IsUtf8}
use Rattle.std.proofs.lemmas.Bool.{leb-true}
use Rattle.json.proofs.Printed.Utf8.{IsUtf8-are_ascii, are_ascii}
use Rattle.pl_base.specs.declared.date.Micros.{Micros}
use Rattle.pl_base.specs.declared.item.ItemKind.{ItemKind}
use Rattle.pl_base.specs.declared.item.ItemKind.TheVariants.{Bookmark, Folder, Separator}
use Rattle.pl_base.specs.Date.{last_date}
use Rattle.pl_base.specs.Tags.{comma_joined}
use Rattle.pl_base.proofs.ListLaws.{all_take}
use Rattle.pl_nbread.specs.declared.tree.Node.{Node}
use Rattle.pl_nbread.specs.WellFormed.{goes_on, is_date}
use Rattle.pl_nbread.proofs.NodeLaws.{goes_later, url_text}
use Rattle.pl_nbread.proofs.TagsRead.{tags_text}
use Rattle.pl_backup.specs.BackupText.{Placed, bookmark, container, count_below, dates, folder, items, put_front}
use Rattle.pl_backup.specs.BackupText.{separator, tags, text, titled, values}
use Rattle.pl_backup.specs.ReadsBack.{deepest}
use Rattle.pl_backup.proofs.ListsRead.{Falls, IsAt, children_at, falls_below, room}
use Rattle.pl_backup.proofs.NodesRead.{IsFit, link}
use Rattle.pl_backup.proofs.ValuesRead.{ItemsReadBack, MembersReadBack, ReadsBack, ascend}
use Rattle.serde_json.specs.Data.{Data, Items, Members, depth, items_depth, members_depth, no_members}

-- ---- members

small_date : (micros : Micros) → is_date micros ≡ true → micros.0 < 2 ^ 64
small_date micros own = let most : micros.0 ≤ last_date = leb-true micros.0 last_date own in omega arith

pub titled_kept : (title type : List ℕ) (code : ℕ) (more : Members) → IsUtf8 title → IsUtf8 type → code < 2 ^ 64
    → MembersReadBack more → MembersReadBack (titled title type code more)
titled_kept title type code more named typed few kept = (refl, (named, (refl, (typed, (refl, (few, kept))))))

tags_kept : (names : List (List ℕ)) (more : Members) → IsUtf8 (comma_joined names) → MembersReadBack more
    → MembersReadBack (tags names more)
tags_kept [] more joined kept = kept
tags_kept (tag ∷ names) more joined kept = (refl, (joined, kept))

dates_kept : (node : Node) (more : Members) → IsFit node → MembersReadBack more
    → MembersReadBack (dates node.added node.modified more)
dates_kept node more own kept =
    (refl, (small_date node.added own.formed.added, (refl, (small_date node.modified own.formed.modified, kept))))

pub plain : (text : List ℕ) → are_ascii text ≡ true → IsUtf8 text
plain = IsUtf8-are_ascii

-- ---- nodes

-- a value reads back, and nests no deeper than its depth in the tree allows
pub record IsReadable (placed : Placed) : Type 0 where
  pub reads : ReadsBack placed.value
  pub nests : depth placed.value + 2 * placed.depth ≤ 2 + 2 * deepest

abbrev at : Node → Data → Placed
at node value = record { depth = node.depth; value = value }

link_ascends : (first last : Micros) (names : List (List ℕ)) (title address : List ℕ)
    → ascend (link first last names title address) ≡ true
link_ascends first last [] title address = refl
link_ascends first last (tag ∷ names) title address = refl

link_depth : (first last : Micros) (names : List (List ℕ)) (title address : List ℕ)
    → members_depth (link first last names title address) ≡ 0
link_depth first last [] title address = refl
link_depth first last (tag ∷ names) title address = refl

bookmark_kept : (node : Node) → IsFit node → IsReadable (at node (bookmark node))
bookmark_kept node own =
    let type : List ℕ = codes "text/x-moz-place" in
    let address : List ℕ = unwrap_or node.url [] in
    let uri : Members = text (codes "uri") address no_members in
    let kind : Members = titled node.title type 1 uri in
    let kind_kept = titled_kept node.title type 1 uri own.title (plain type refl) (omega arith)
    (refl, (url_text node.url own.url, tt)) in
    record {
      reads = (
        link_ascends node.added node.modified node.tags node.title address,
        dates_kept node (tags node.tags kind) own
            (tags_kept node.tags kind (tags_text node.tags own.formed.named) kind_kept),
      );
      nests = omega (arith, link_depth node.added node.modified node.tags node.title address, own.shallow);
    }

separator_kept : (node : Node) → IsFit node → IsReadable (at node (separator node))
separator_kept node own =
    let type : List ℕ = codes "text/x-moz-place-separator" in
    let kind_kept = titled_kept node.title type 3 no_members own.title (plain type refl) (omega arith) tt in
    record {
      reads = (refl, dates_kept node (titled node.title type 3 no_members) own kind_kept);
      nests = omega (arith, own.shallow);
    }

folder_kept : (node : Node) (children : Items) → IsFit node → ItemsReadBack children
    → items_depth children + 2 * suc node.depth ≤ 2 + 2 * deepest → IsReadable (at node (folder node children))
folder_kept node children own kept low =
    let type : List ℕ = codes "text/x-moz-place-container" in
    let kind_kept = titled_kept node.title type 2 no_members own.title (plain type refl) (omega arith) tt in
    record {
      reads = (refl, (refl, (kept, dates_kept node (container node.title) own kind_kept)));
      nests = omega (arith, low);
    }

-- ---- lists

pub items_kept : (left : List Placed) → AllByRecursion IsReadable left → ItemsReadBack (items left)
items_kept [] all = tt
items_kept (placed ∷ left) all = (all.0.reads, items_kept left all.1)

pub items_nest : (here : ℕ) (left : List Placed) → AllByRecursion (IsAt here) left → AllByRecursion IsReadable left
    → 2 * here ≤ 2 + 2 * deepest → items_depth (items left) + 2 * here ≤ 2 + 2 * deepest
items_nest here [] at all low = omega (arith, low)
items_nest here (placed ∷ left) at all low =
    let first : depth placed.value + 2 * placed.depth ≤ 2 + 2 * deepest = all.0.nests in
    let same : placed.depth ≡ here = at.0 in
    omega (arith, items_nest here left at.1 all.1 low)

all_drop : (P : Placed → Type 0) (n : ℕ) (left : List Placed) → AllByRecursion P left
    → AllByRecursion P (drop n left)
all_drop P zero left all = all
all_drop P (suc n) [] all = tt
all_drop P (suc n) (placed ∷ left) all = all_drop P n left all.1

put_kept : (kind : ItemKind) (node : Node) (behind : List Placed) → IsFit node
    → Falls (room kind node.depth) behind → AllByRecursion IsReadable behind
    → AllByRecursion IsReadable (put_front kind node behind)
put_kept Bookmark node behind own falls all = (bookmark_kept node own, all)
put_kept Separator node behind own falls all = (separator_kept node own, all)
put_kept Folder node behind own falls all =
    let count : ℕ = count_below node.depth behind in
    let inner : List Placed = take count behind in
    let kept = all_take IsReadable count behind all in
    let low : 2 * suc node.depth ≤ 2 + 2 * deepest = omega (arith, own.shallow) in (
      folder_kept node (items inner) own (items_kept inner kept)
          (items_nest (suc node.depth) inner (children_at node.depth behind falls) kept low),
      all_drop IsReadable count behind all,
    )

pub values_kept : (nodes : List Node) → goes_on nodes ≡ true → AllByRecursion IsFit nodes
    → AllByRecursion IsReadable (values nodes)
values_kept [] goes own = tt
values_kept (node ∷ nodes) goes own =
    put_kept node.kind node (values nodes) own.0 (falls_below node nodes goes)
    (values_kept nodes (goes_later node nodes goes) own.1)
