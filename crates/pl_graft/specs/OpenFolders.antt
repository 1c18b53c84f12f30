-- The folders that are open while a list is imported.
use Rattle.std.specs.Prelude.{◌≡◌, ◌≢◌, ◌<◌, ℕ, true, List, [], ◌∷◌, None, map, if◌then◌else◌}
use Rattle.std.specs.List.{All, AllPairs, list_all}
use Rattle.pl_base.specs.declared.id.ItemId.{ItemId}
use Rattle.pl_base.specs.declared.item.ItemKind.{ItemKind}
use Rattle.pl_base.specs.Store.{Store, item_id}
use Rattle.pl_base.specs.Tree.{children_of}
use Rattle.pl_nbread.specs.declared.tree.Node.{Node}
use Rattle.pl_nbread.specs.WellFormed.{goes_on, is_folder, is_formed}
use Rattle.pl_tree.specs.declared.place.Place.TheVariants.{End}
use Rattle.pl_tree.specs.Places.{before}
use Rattle.pl_graft.specs.declared.grafting.Open.{Open}
use Rattle.pl_graft.specs.Ready.{Takes}

-- the first of them, a root
abbrev pub root_of : List Open → ItemId
root_of [] = item_id 0
root_of (o ∷ os) = o.folder

-- the others, each within the one before it
abbrev pub inner_of : List Open → List ItemId
inner_of [] = []
inner_of (o ∷ os) = map (λ (p : Open). p.folder) os

-- a folder that an item with this id opens
abbrev pub opened : ItemKind → ItemId → List Open
opened kind id = if is_folder kind then record { folder = id; last = None } ∷ [] else []

-- the folder takes items, and its last child is known
pub record IsOpen (store : Store) (place : Open) : Type 0 where
  pub takes : Takes store place.folder
  pub last_child : place.last ≡ before End (children_of store.items place.folder)

-- each is open, and stands once
pub record AreOpen (store : Store) (places : List Open) : Type 0 where
  pub each : All (IsOpen store) places
  pub once : AllPairs (λ (a b : Open). a.folder ≢ b.folder) places

-- ---- what is left of a list

-- so many folders are open around the first node, and maybe more
abbrev pub Begins : ℕ → List Node → Type 0
Begins count [] = Unit {0}
Begins count (node ∷ nodes) = node.depth < count

-- the nodes may go on where so many folders are open
pub record MayGoOn (count : ℕ) (nodes : List Node) : Type 0 where
  pub begins : Begins count nodes
  pub follow : goes_on nodes ≡ true
  pub formed : list_all is_formed nodes ≡ true
