use Rattle.pl_tagged.proofs.entries.tagged.Goals as goal

pub tag_folder-requires : goal.tag_folder-requires
tag_folder-requires g c =
    record {
      good =
          record {
            items = c.requires.good.items;
            roots = c.requires.good.roots;
            tree = c.requires.good.tree;
            tags = c.requires.good.tags;
          };
    }
