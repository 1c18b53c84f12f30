use Rattle.std.proofs.Common.{◌≡◌, length}
use Rattle.pl_place.specs.Draft.{Gathers}
use Rattle.pl_place.proofs.DraftLemmas.{pieces_from, texts_of}
use Rattle.pl_place.proofs.reader.gathered.Given as goal

abbrev pub invariant-loop-piece : goal.invariant-loop-piece
invariant-loop-piece l = record {
  number : l.number ≡ length l.yielded;
  gathers : Gathers (pieces_from (texts_of l.yielded)) l.draft;
}
