-- Every tree of bookmarks that a text gives is well formed.
use Rattle.std.proofs.Common.{◌<◌, ℕ, List, length, map}
use Rattle.pl_nbread.specs.declared.open_list.Root.{Root}
use Rattle.pl_nbread.specs.declared.open_list.Root.TheVariants.{Menu, Toolbar, Unfiled, Mobile}
use Rattle.pl_nbread.specs.BookmarkFile.{file_limit}
use Rattle.pl_nbread.specs.BookmarkTree.{levels, made_of, nodes_in, tree_in}
use Rattle.pl_nbread.specs.Parts.{part_of}
use Rattle.pl_nbread.specs.Tokens.{tokens}
use Rattle.pl_nbread.specs.WellFormed.{AreWellFormed, IsWellFormed}
use Rattle.pl_nbread.proofs.WellFormedDepths.{depths_begin, depths_go_on}
use Rattle.pl_nbread.proofs.WellFormedNodes.{nodes_formed}
use Rattle.pl_nbread.proofs.WellFormedTags.{few_tags}

module _ (text : List ℕ) (short : length text < file_limit) where
  list_formed : (root : Root) → IsWellFormed (nodes_in root (made_of (map part_of (tokens text))))
  list_formed root = record {
    begins = depths_begin root (levels (map part_of (tokens text)));
    goes_on = depths_go_on root (levels (map part_of (tokens text)));
    formed = nodes_formed root (levels (map part_of (tokens text)));
    few_tags = few_tags root text short;
  }

  -- the four lists are well formed
  pub well_formed : AreWellFormed (tree_in text)
  well_formed = record {
    menu = list_formed Menu;
    toolbar = list_formed Toolbar;
    unfiled = list_formed Unfiled;
    mobile = list_formed Mobile;
  }
