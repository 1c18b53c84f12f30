-- How the text of a URL begins.
use Rattle.std.proofs.Common.{◌≡◌, ℕ, true, nat_eq, List, ◌++◌}
use Rattle.std.proofs.Common.{drop, codes, if◌then◌else◌, append_assoc}
use Rattle.std.specs.List.{starts_with, concat}
use Rattle.pl_base.specs.Address.{prefix}
use Rattle.pl_base.proofs.ListLaws.{starts_with-append}
use Rattle.url.specs.Parts.{Parts, has_authority, pieces, serialize}

two_pieces : (xs ys rest : List ℕ) → starts_with nat_eq (xs ++ (ys ++ rest)) (xs ++ ys) ≡ true
two_pieces xs ys rest = rw (← append_assoc xs ys rest) (starts_with-append (xs ++ ys) rest)

-- the text begins with the prefix
pub starts_with-prefix : (url : Parts) → starts_with nat_eq (serialize url) (prefix url) ≡ true
starts_with-prefix url =
    two_pieces url.scheme (if has_authority url then codes "://" else codes ":") (concat (drop 2 (pieces url)))
