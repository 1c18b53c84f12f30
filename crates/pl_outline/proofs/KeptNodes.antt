-- What a bookmark file keeps of nodes is kept as it is, and the bookmarks of a store are what it keeps
-- of the whole tree.
use Rattle.std.proofs.Common.{◌≡◌, ◌∙◌, ◌*◌, ◌/◌, ℕ, [], ap, arith, length, map, refl}
use Rattle.std.proofs.lemmas.Str.{IsUtf8-nil}
use Rattle.std.proofs.Math.Nat.{div-mul-le_self}
use Rattle.pl_base.specs.declared.date.Micros.{Micros}
use Rattle.pl_base.specs.declared.id.ItemId.{ItemId}
use Rattle.pl_base.specs.declared.item.ItemKind.{ItemKind}
use Rattle.pl_base.specs.declared.item.ItemKind.TheVariants.{Bookmark, Folder, Separator}
use Rattle.pl_base.specs.Date.{IsDate}
use Rattle.pl_base.specs.Store.{Store}
use Rattle.pl_nbread.specs.declared.tree.Node.{Node}
use Rattle.pl_nbread.specs.declared.tree.Tree.{Tree}
use Rattle.pl_outline.specs.Outline.{bookmarks, in_seconds, kept, listed, node_of, whole, whole_node, whole_seconds}
use Rattle.pl_outline.proofs.Bare.{trees_alike, whole_below}
use Rattle.pl_outline.proofs.OwnTags.{MayReturn}
use Rattle.pl_outline.proofs.Preorders.{mapped, shown_alike}
use Rattle.pl_outline.proofs.ShownNodes.{whole_title}

-- a node of each kind
abbrev of_kind : ItemKind → Node → Node
of_kind kind node = record node { kind = kind }

-- ---- kept twice

twice_whole : (date : Micros) → whole_seconds (whole_seconds date) ≡ whole_seconds date
twice_whole date = ap (λ (n : ℕ). let m : Micros = record { 0 = n } in m) same
  where
    same : date.0 / 1_000_000 * 1_000_000 / 1_000_000 * 1_000_000 ≡ date.0 / 1_000_000 * 1_000_000
    same = omega arith

twice_in_seconds : (node : Node) → in_seconds (in_seconds node) ≡ in_seconds node
twice_in_seconds node =
    let dated : Micros → Micros → Node = λ a m. record node { added = a; modified = m } in
    ap (λ (a : Micros). dated a (whole_seconds (whole_seconds node.modified))) (twice_whole node.added)
    ∙ ap (dated (whole_seconds node.added)) (twice_whole node.modified)

kept_twice : (node : Node) → kept (kept node) ≡ kept node
kept_twice node = choose node.kind
  where
    choose : (kind : ItemKind) → kept (kept (of_kind kind node)) ≡ kept (of_kind kind node)
    choose Bookmark = twice_in_seconds (of_kind Bookmark node)
    choose Folder = twice_in_seconds (of_kind Folder node)
    choose Separator = refl

-- ---- trees

-- what a bookmark file keeps of each node
abbrev pub kept_tree : Tree → Tree
kept_tree tree =
    record {
      menu = map kept tree.menu;
      toolbar = map kept tree.toolbar;
      unfiled = map kept tree.unfiled;
      mobile = map kept tree.mobile;
      skipped = tree.skipped;
    }

module _ (store : Store) where
  whole_kept : (root : ItemId) → map kept (whole_below store root) ≡ listed store root
  whole_kept root = mapped kept (whole_node store) (length store.items) store.items 0 root

  listed_kept : (root : ItemId) → map kept (listed store root) ≡ listed store root
  listed_kept root =
      mapped kept (node_of store) (length store.items) store.items 0 root
      ∙ shown_alike (λ d i. kept (node_of store d i)) (node_of store) store.items
      (λ c i is d. kept_twice (whole_node store d i)) (length store.items) 0 root

  pub bookmarks_are : kept_tree (whole store) ≡ bookmarks store
  bookmarks_are = trees_alike (λ root. map kept (whole_below store root)) (listed store) whole_kept

  pub bookmarks_kept : kept_tree (bookmarks store) ≡ bookmarks store
  bookmarks_kept = trees_alike (λ root. map kept (listed store root)) (listed store) listed_kept

-- ---- what may return

whole_date : (date : Micros) → IsDate date → IsDate (whole_seconds date)
whole_date date is = omega (arith, div-mul-le_self date.0 1_000_000)

-- what is kept of a node may return where the node may
pub kept_returns : (store : Store) (node : Node) → MayReturn store node → MayReturn store (kept node)
kept_returns store node r = choose node.kind r
  where
    titled : (kind : ItemKind) → MayReturn store (of_kind kind node) → MayReturn store (in_seconds (of_kind kind node))
    titled kind m =
        record {
          own = m.own;
          comes = record {
            formed = record {
              bookmark = m.comes.formed.bookmark;
              added = whole_date node.added m.comes.formed.added;
              modified = whole_date node.modified m.comes.formed.modified;
              tags = m.comes.formed.tags;
            };
            title = m.comes.title;
            tags = m.comes.tags;
          };
        }

    choose : (kind : ItemKind) → MayReturn store (of_kind kind node) → MayReturn store (kept (of_kind kind node))
    choose Bookmark m = titled Bookmark m
    choose Folder m = titled Folder m
    choose Separator m =
        record {
          own = refl;
          comes = record {
            formed = record { bookmark = refl; added = omega arith; modified = omega arith; tags = refl };
            title = whole_title [] (IsUtf8-nil, omega arith);
            tags = tt;
          };
        }
