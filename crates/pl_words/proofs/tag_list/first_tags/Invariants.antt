use Rattle.std.proofs.Common.{◌≡◌, ℕ, List}
use Rattle.std.specs.BTreeSet.{contains}
use Rattle.std.specs.Cmp.Lexicographic.{slice_cmp}
use Rattle.std.specs.Ordering.{nat_cmp}
use Rattle.pl_words.specs.TagLists.{firsts, is_same_tag}
use Rattle.pl_words.proofs.TagListLaws.{has_fold}
use Rattle.pl_words.proofs.tag_list.first_tags.Given as goal

abbrev pub invariant-loop-tag : goal.invariant-loop-tag
invariant-loop-tag l = record {
  tags : l.tags.items ≡ firsts is_same_tag l.yielded;
  seen : (fold : List ℕ) → contains (slice_cmp nat_cmp) l.seen fold ≡ has_fold l.tags.items fold;
}
