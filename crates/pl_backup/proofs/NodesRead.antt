-- The value of a node is read as that node.
use Rattle.std.proofs.Common.{◌≡◌, ◌∙◌, ◌≤◌, ℕ, suc, true, false, not, List, [], ◌∷◌, Option, Some, None, ap}
use Rattle.std.proofs.Common.{is_some, refl, sym}
use Rattle.std.specs.Prelude.{codes, unwrap_or, if◌then◌else◌}
use Rattle.std.specs.Option.{option_and_then}
use Rattle.std.specs.Str.{IsUtf8}
use Rattle.std.proofs.lemmas.Bool.{leb-true}
use Rattle.std.proofs.lemmas.Str.{IsUtf8-from_is_utf8}
use Rattle.pl_base.specs.declared.date.Micros.{Micros}
use Rattle.pl_base.specs.declared.item.ItemKind.{ItemKind}
use Rattle.pl_base.specs.declared.item.ItemKind.TheVariants.{Bookmark, Folder, Separator}
use Rattle.pl_base.specs.Address.{canon}
use Rattle.pl_base.specs.Tags.{comma_joined}
use Rattle.pl_nbread.specs.declared.tree.Node.{Node}
use Rattle.pl_nbread.specs.BookmarkTree.{tags_in}
use Rattle.pl_nbread.specs.Listed.{IsOwn}
use Rattle.pl_nbread.specs.WellFormed.{is_bookmark, is_date, is_formed}
use Rattle.pl_nbread.proofs.NodeLaws.{IsFormed, formed}
use Rattle.pl_nbread.proofs.TagsRead.{tags_read}
use Rattle.pl_backup.specs.BackupText.{dates, titled}
use Rattle.pl_backup.specs.BackupText as spec
use Rattle.pl_backup.specs.BackupTree.{above, added, bookmark_found, items_found, kind, modified, nothing}
use Rattle.pl_backup.specs.BackupTree.{if_date, object_found, title, url, value_found}
use Rattle.pl_backup.specs.BackupTree as read
use Rattle.pl_backup.specs.ReadsBack.{HasTexts, deepest, is_shallow}
use Rattle.serde_json.specs.Data.{Items, Members, no_members}

-- ---- what holds of each node

pub record IsFit (node : Node) : Type 0 where
  pub shallow : node.depth ≤ deepest
  pub title : IsUtf8 node.title
  pub formed : IsFormed node
  pub url : IsOwn node.url
  pub bare : is_bookmark node.kind ≡ false → node.tags ≡ []

pub fit : (node : Node) → is_formed node ≡ true → is_shallow node ≡ true → HasTexts node → IsFit node
fit node is shallow texts = record {
  shallow = leb-true node.depth deepest shallow;
  title = IsUtf8-from_is_utf8 node.title texts.title;
  formed = formed node is;
  url = texts.url;
  bare = texts.tags;
}

same_node : (node : Node) (kind : ItemKind) (url : Option (List ℕ)) (title : List ℕ) (added modified : Micros)
    (tags : List (List ℕ)) → kind ≡ node.kind → url ≡ node.url → title ≡ node.title → added ≡ node.added
    → modified ≡ node.modified → tags ≡ node.tags
    → record {
      depth = node.depth;
      kind = kind;
      url = url;
      title = title;
      added = added;
      modified = modified;
      tags = tags;
    }
    ≡ node
same_node node kind url title added modified tags a b c d e f =
    λ i. record {
      depth = node.depth;
      kind = a i;
      url = b i;
      title = c i;
      added = d i;
      modified = e i;
      tags = f i;
    }

-- ---- dates

abbrev zero_date : Micros
zero_date = record { 0 = 0 }

date_read : (micros default : Micros) → is_date micros ≡ true → unwrap_or (if_date micros.0) default ≡ micros
date_read micros default own = rw own refl

-- the date on which a node was added
abbrev first_date : Node → Micros
first_date node = unwrap_or (if_date node.added.0) zero_date

-- and on which it was changed
abbrev last_date : Node → Micros
last_date node = unwrap_or (if_date node.modified.0) (first_date node)

-- ---- addresses

url_read : (o : Option (List ℕ)) → is_some o ≡ true → IsOwn o → option_and_then canon (Some (unwrap_or o [])) ≡ o
url_read None there own = absurd cc
url_read (Some text) there own = own.1

no_url : (o : Option (List ℕ)) → not (is_some o) ≡ true → None ≡ o
no_url None missing = refl
no_url (Some text) missing = absurd cc

taken : (depth : ℕ) (o : Option (List ℕ)) (ms : Members) → is_some o ≡ true
    → bookmark_found depth o ms ≡ above (read.node depth Bookmark o (read.tags ms) ms) nothing
taken depth None ms there = absurd cc
taken depth (Some text) ms there = refl

linked_as : (node : Node) (kind : ItemKind) → IsFit node → node.kind ≡ kind
    → (if is_bookmark kind then is_some node.url else not (is_some node.url)) ≡ true
linked_as node kind own is = rw is at own.formed.linked

bare_as : (node : Node) (kind : ItemKind) → IsFit node → node.kind ≡ kind → is_bookmark kind ≡ false → [] ≡ node.tags
bare_as node kind own is other = sym (own.bare (ap is_bookmark is ∙ other))

-- ---- bookmarks

abbrev pub link : Micros → Micros → List (List ℕ) → List ℕ → List ℕ → Members
link first last tags name address =
    dates first last (spec.tags tags (titled name (codes "text/x-moz-place") 1 (spec.text (codes "uri") address no_members)))

link_kind : (first last : Micros) (tags : List (List ℕ)) (name address : List ℕ)
    → kind (link first last tags name address) ≡ Some Bookmark
link_kind first last [] name address = refl
link_kind first last (tag ∷ tags) name address = refl

link_title : (first last : Micros) (tags : List (List ℕ)) (name address : List ℕ)
    → title (link first last tags name address) ≡ name
link_title first last [] name address = refl
link_title first last (tag ∷ tags) name address = refl

link_url : (first last : Micros) (tags : List (List ℕ)) (name address : List ℕ)
    → url (link first last tags name address) ≡ option_and_then canon (Some address)
link_url first last [] name address = refl
link_url first last (tag ∷ tags) name address = refl

link_tags : (first last : Micros) (tags : List (List ℕ)) (name address : List ℕ)
    → read.tags (link first last tags name address) ≡ tags_in (comma_joined tags)
link_tags first last [] name address = refl
link_tags first last (tag ∷ tags) name address = refl

pub bookmark_read : (node : Node) → IsFit node → node.kind ≡ Bookmark
    → value_found node.depth (spec.bookmark node) ≡ above node nothing
bookmark_read node own is =
    let address : List ℕ = unwrap_or node.url [] in
    let ms : Members = link node.added node.modified node.tags node.title address in
    let there = linked_as node Bookmark own is in
    ap (λ k. object_found node.depth k ms (read.children_found (suc node.depth) ms))
    (link_kind node.added node.modified node.tags node.title address)
    ∙ ap (λ o. bookmark_found node.depth o ms)
    (link_url node.added node.modified node.tags node.title address ∙ url_read node.url there own.url)
    ∙ taken node.depth node.url ms there
    ∙ ap (λ (n : Node). above n nothing)
    (same_node node Bookmark node.url (title ms) (added ms) (modified ms) (read.tags ms) (sym is) refl
    (link_title node.added node.modified node.tags node.title address)
    (date_read node.added zero_date own.formed.added)
    (date_read node.modified (first_date node) own.formed.modified)
    (link_tags node.added node.modified node.tags node.title address
    ∙ tags_read node.tags own.formed.named own.formed.once))

-- ---- others

pub separator_read : (node : Node) → IsFit node → node.kind ≡ Separator
    → value_found node.depth (spec.separator node) ≡ above node nothing
separator_read node own is =
    ap (λ (n : Node). above n nothing)
    (same_node node Separator None node.title (first_date node) (last_date node) [] (sym is) (no_url node.url (linked_as node Separator own is)) refl
    (date_read node.added zero_date own.formed.added)
    (date_read node.modified (first_date node) own.formed.modified) (bare_as node Separator own is refl))

pub folder_read : (node : Node) (children : Items) → IsFit node → node.kind ≡ Folder
    → value_found node.depth (spec.folder node children) ≡ above node (items_found (suc node.depth) children)
folder_read node children own is =
    ap (λ (n : Node). above n (items_found (suc node.depth) children))
    (same_node node Folder None node.title (first_date node) (last_date node) [] (sym is) (no_url node.url (linked_as node Folder own is)) refl
    (date_read node.added zero_date own.formed.added)
    (date_read node.modified (first_date node) own.formed.modified) (bare_as node Folder own is refl))
