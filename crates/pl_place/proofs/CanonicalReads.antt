-- A canonical text reads as its query, and as no other.
use Rattle.std.proofs.Common.{◌++◌, ap, subst, sym}
use Rattle.std.specs.List.{join_with_byte}
use Rattle.pl_place.specs.declared.query.Query.{Query}
use Rattle.pl_place.specs.Canonical.{ReadsAlone, canonical}
use Rattle.pl_place.specs.PlaceText.{Reads, place_prefix}
use Rattle.pl_place.proofs.FineSaid.{IsReadBack, fine_said}
use Rattle.pl_place.proofs.OneQuery.{reads_alone}
use Rattle.pl_place.proofs.ReadPieces.{read_as_said, text_of_said}
use Rattle.pl_place.proofs.SaidPairs.{pairs_are, said}
use Rattle.pl_place.proofs.ToldBack.{said_back}

pub canonical_reads : (q : Query) → IsReadBack q → ReadsAlone q (canonical q)
canonical_reads q back =
    reads_alone q (canonical q)
    (subst (λ text. Reads text q) (ap (λ ps. place_prefix ++ join_with_byte 38 ps) (sym (pairs_are q)))
    (said_back q back (text_of_said (said q)) (read_as_said (said q) (fine_said q back))))
