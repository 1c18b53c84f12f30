use Rattle.std.proofs.Common.{◌≡◌, ◌≤◌, ◌-◌, length, map}
use denote.Text.{Utf8}
use denote.Shadow.{shadow}
use Rattle.pl_nbread.specs.BookmarkTree.{tree_in}
use Rattle.pl_nbread.specs.Building.{IsWithin, yields}
use Rattle.pl_nbread.specs.Parts.{part_of}
use Rattle.pl_nbread.specs.Tokens.{tokens}
use Rattle.pl_nbread.proofs.reader.tree_in.Given as goal

abbrev pub invariant-loop-text : goal.invariant-loop-text
invariant-loop-text l = record {
  text : shadow (Utf8 l.text);
  tree : yields l.builder (map part_of (tokens l.text)) ≡ tree_in l.body;
  within : IsWithin (length l.body - length l.text) l.builder;
  shorter : length l.text ≤ length l.body;
}

abbrev pub decreases-loop-text : goal.decreases-loop-text
decreases-loop-text l = length l.text
