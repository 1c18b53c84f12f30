use Rattle.std.proofs.Common.{◌≡◌, ◌++◌, All, take}
use Rattle.pl_words.specs.TagName.{tag_named}
use Rattle.pl_place.specs.declared.key.Key.TheVariants as keys
use Rattle.pl_place.specs.Canonical.{ReadsBack, for_each, itself}
use Rattle.pl_place.proofs.writer.Pairs.push_tags.Given as goal

abbrev pub invariant-loop-tag : goal.invariant-loop-tag
invariant-loop-tag l =
    record {
      pairs : l.self ≡ l.fn.self ++ for_each keys.Tag (take l.tag-index l.tags);
      own : All (ReadsBack tag_named itself) (take l.tag-index l.tags);
    }
