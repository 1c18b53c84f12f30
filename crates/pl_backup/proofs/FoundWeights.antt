-- What is counted of a value is no more than its weight: the values that are skipped, and the tags.
use Rattle.std.proofs.Common.{◌≡◌, ◌≤◌, ◌+◌, ℕ, suc, List, [], ◌∷◌, ◌++◌}
use Rattle.std.proofs.Common.{arith, length, map, sum}
use Rattle.std.proofs.Common.{Option, Some, None, option_and_then}
use Rattle.std.proofs.Common.{Ordering, Less, Equal, Greater}
use Rattle.std.specs.Prelude.{⊤, codes, unwrap_or}
use Rattle.std.specs.Cmp.Lexicographic.{slice_cmp}
use Rattle.std.specs.List.{sum_by}
use Rattle.std.specs.Ordering.{match_ordering, nat_cmp}
use Rattle.std.proofs.lemmas.List.Sums.{sum-map, sum_by-cons}
use Rattle.pl_base.specs.declared.item.ItemKind.{ItemKind}
use Rattle.pl_base.specs.declared.item.ItemKind.TheVariants.{Bookmark, Folder, Separator}
use Rattle.pl_nbread.specs.declared.tree.Node.{Node}
use Rattle.pl_nbread.proofs.TagsInText.{tags_in-le}
use Rattle.pl_backup.specs.BackupTree.{Found, array_found, children_found, items_found, kind}
use Rattle.pl_backup.specs.BackupTree.{bookmark_found, object_found, tags, text, url, value_found}
use Rattle.pl_backup.specs.Weights.{items_weight, members_weight, weight}
use Rattle.serde_json.specs.Data.{Data, Items, Members, array, boolean, item, member, no_items}
use Rattle.serde_json.specs.Data.{no_members, null, number, object, string}
use Rattle.serde_json.specs.Find.{as_str, get_member}

-- ---- members

abbrev pub AtMost : ℕ → Option Data → Type 0
AtMost n None = ⊤
AtMost n (Some value) = weight value ≤ n

chosen : (o : Ordering) (n : ℕ) (a b c : Option Data) → AtMost n a → AtMost n b → AtMost n c
    → AtMost n (match_ordering o a b c)
chosen Less n a b c p q r = p
chosen Equal n a b c p q r = q
chosen Greater n a b c p q r = r

more : (m n : ℕ) → m ≤ n → (o : Option Data) → AtMost m o → AtMost n o
more m n room None small = tt
more m n room (Some value) small = omega arith

pub member_weight : (key : List ℕ) (fields : Members) → AtMost (members_weight fields) (get_member key fields)
member_weight key no_members = tt
member_weight key (member other value fields) =
    let behind = more (members_weight fields) (weight value + members_weight fields) (omega arith)
    (get_member key fields) (member_weight key fields) in
    chosen (slice_cmp nat_cmp key other) _ (get_member key fields) (Some value) (get_member key fields)
    behind (omega arith) behind

text_bytes : (n : ℕ) (found : Option Data) → AtMost n found
    → length (unwrap_or (option_and_then as_str found) []) ≤ n
text_bytes n None small = omega arith
text_bytes n (Some null) small = omega arith
text_bytes n (Some (boolean b)) small = omega arith
text_bytes n (Some (number x)) small = omega arith
text_bytes n (Some (string s)) small = omega arith
text_bytes n (Some (array items)) small = omega arith
text_bytes n (Some (object fields)) small = omega arith

-- ---- tags

tags_few : (fields : Members) → length (tags fields) ≤ 1 + members_weight fields
tags_few fields =
    omega (
      arith,
      tags_in-le (unwrap_or (text (codes "tags") fields) []),
      text_bytes (members_weight fields) (get_member (codes "tags") fields) (member_weight (codes "tags") fields),
    )

-- the tags of nodes
abbrev pub tags_count : List Node → ℕ
tags_count [] = 0
tags_count (node ∷ nodes) = length node.tags + tags_count nodes

pub count_both : (xs ys : List Node) → tags_count (xs ++ ys) ≡ tags_count xs + tags_count ys
count_both [] ys = omega arith
count_both (x ∷ xs) ys = omega (arith, count_both xs ys)

summed : (nodes : List Node) → sum_by (λ (n : Node). length n.tags) nodes ≡ tags_count nodes
summed [] = omega arith
summed (node ∷ nodes) = omega (arith, sum_by-cons (λ (n : Node). length n.tags) node nodes, summed nodes)

pub count_is : (nodes : List Node) → sum (map (λ (n : Node). length n.tags) nodes) ≡ tags_count nodes
count_is nodes = omega (arith, sum-map (λ (n : Node). length n.tags) nodes, summed nodes)

-- ---- what is found

-- what was found weighs no more
pub record Few (n : ℕ) (found : Found) : Type 0 where
  pub skipped : found.skipped ≤ n
  pub tags : tags_count found.nodes ≤ n

module _ (depth : ℕ) (fields : Members) (below : Found) (few : Few (members_weight fields) below) where
  bookmark_few : (url : Option (List ℕ)) → Few (1 + members_weight fields) (bookmark_found depth url fields)
  bookmark_few None = record { skipped = omega arith; tags = omega arith }
  bookmark_few (Some url) = record { skipped = omega arith; tags = omega (arith, tags_few fields) }

  object_few : (kind : Option ItemKind) → Few (1 + members_weight fields) (object_found depth kind fields below)
  object_few None = record { skipped = omega arith; tags = omega arith }
  object_few (Some Bookmark) = bookmark_few (url fields)
  object_few (Some Separator) = record { skipped = omega arith; tags = omega arith }
  object_few (Some Folder) = record { skipped = omega (arith, few.skipped); tags = omega (arith, few.tags) }

few_chosen : (o : Ordering) (n : ℕ) (a b c : Found) → Few n a → Few n b → Few n c
    → Few n (match_ordering o a b c)
few_chosen Less n a b c p q r = p
few_chosen Equal n a b c p q r = q
few_chosen Greater n a b c p q r = r

few_more : (m n : ℕ) (found : Found) → m ≤ n → Few m found → Few n found
few_more m n found room few = record { skipped = omega (arith, few.skipped); tags = omega (arith, few.tags) }

mutual
  pub value_few : (depth : ℕ) (value : Data) → Few (weight value) (value_found depth value)
  value_few depth null = record { skipped = omega arith; tags = omega arith }
  value_few depth (boolean b) = record { skipped = omega arith; tags = omega arith }
  value_few depth (number n) = record { skipped = omega arith; tags = omega arith }
  value_few depth (string s) = record { skipped = omega arith; tags = omega arith }
  value_few depth (array items) = record { skipped = omega arith; tags = omega arith }
  value_few depth (object fields) =
      object_few depth fields (children_found (suc depth) fields) (children_few (suc depth) fields) (kind fields)

  pub items_few : (depth : ℕ) (items : Items) → Few (items_weight items) (items_found depth items)
  items_few depth no_items = record { skipped = omega arith; tags = omega arith }
  items_few depth (item value more) =
      record {
        skipped = omega (arith, (value_few depth value).skipped, (items_few depth more).skipped);
        tags =
            omega (
              arith,
              count_both (value_found depth value).nodes (items_found depth more).nodes,
              (value_few depth value).tags,
              (items_few depth more).tags,
            );
      }

  pub children_few : (depth : ℕ) (fields : Members)
      → Few (members_weight fields) (children_found depth fields)
  children_few depth no_members = record { skipped = omega arith; tags = omega arith }
  children_few depth (member key value more) =
      let behind = few_more (members_weight more) (weight value + members_weight more) (children_found depth more)
      (omega arith) (children_few depth more) in
      few_chosen (slice_cmp nat_cmp (codes "children") key) _ (children_found depth more) (array_found depth value)
      (children_found depth more) behind
      (few_more (weight value) (weight value + members_weight more) (array_found depth value) (omega arith)
      (array_few depth value)) behind

  pub array_few : (depth : ℕ) (value : Data) → Few (weight value) (array_found depth value)
  array_few depth null = record { skipped = omega arith; tags = omega arith }
  array_few depth (boolean b) = record { skipped = omega arith; tags = omega arith }
  array_few depth (number n) = record { skipped = omega arith; tags = omega arith }
  array_few depth (string s) = record { skipped = omega arith; tags = omega arith }
  array_few depth (object fields) = record { skipped = omega arith; tags = omega arith }
  array_few depth (array items) =
      few_more (items_weight items) (1 + items_weight items) (items_found depth items) (omega arith)
      (items_few depth items)
