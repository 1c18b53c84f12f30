-- The lists of a tree, one after another.
use Rattle.pl_base.specs.Store.{Store, item_id}
use Rattle.pl_nbread.specs.declared.tree.Tree.{Tree}
use Rattle.pl_graft.specs.Import.{imported, with_list}
use Rattle.pl_graft.specs.Standing.{HasRoom}
use Rattle.pl_graft.proofs.Rooms.{room_before}
use Rattle.pl_graft.proofs.Slots.{at_most_list}

-- with the menu's list
abbrev pub with_menu : Tree → Store → Store
with_menu tree store = with_list (item_id 2) tree.menu store

-- and with the toolbar's
abbrev pub with_toolbar : Tree → Store → Store
with_toolbar tree store = with_list (item_id 3) tree.toolbar (with_menu tree store)

-- and with the unfiled bookmarks
abbrev pub with_unfiled : Tree → Store → Store
with_unfiled tree store = with_list (item_id 5) tree.unfiled (with_toolbar tree store)

pub unfiled_room : (tree : Tree) (store : Store) → HasRoom (imported tree store) → HasRoom (with_unfiled tree store)
unfiled_room tree store room =
    room_before (with_unfiled tree store) (imported tree store)
    (at_most_list (with_unfiled tree store) (item_id 6) tree.mobile) room

pub toolbar_room : (tree : Tree) (store : Store) → HasRoom (imported tree store) → HasRoom (with_toolbar tree store)
toolbar_room tree store room =
    room_before (with_toolbar tree store) (with_unfiled tree store)
    (at_most_list (with_toolbar tree store) (item_id 5) tree.unfiled) (unfiled_room tree store room)

pub menu_room : (tree : Tree) (store : Store) → HasRoom (imported tree store) → HasRoom (with_menu tree store)
menu_room tree store room =
    room_before (with_menu tree store) (with_toolbar tree store)
    (at_most_list (with_menu tree store) (item_id 3) tree.toolbar) (toolbar_room tree store room)
