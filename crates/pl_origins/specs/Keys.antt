-- The key of an origin among those that were seen.
use Rattle.std.specs.Prelude.{◌≡◌, ◌&&◌, ◌++◌, IsTrue, bytes_eq}
use Rattle.std.specs.Hash as fed
use Rattle.std.proofs.lemmas.Bool.{and_parts}
use Rattle.std.proofs.lemmas.Slice.Eq.{bytes_eq-Decides}
use Rattle.pl_base.specs.Totals as totals
use Rattle.pl_origins.specs.declared.names.Origin.{Origin}

-- the prefix and the host
abbrev pub key_of : Origin → totals.Origin
key_of origin = (origin.prefix, origin.host)

-- equal origins have the same hash
pub hashed : (a b : Origin) → IsTrue (bytes_eq a.prefix b.prefix && bytes_eq a.host b.host)
    → fed.str a.prefix ++ fed.str a.host ≡ fed.str b.prefix ++ fed.str b.host
hashed a b equal =
    let parts = and_parts (bytes_eq a.prefix b.prefix) (bytes_eq a.host b.host) equal in
    let first : a.prefix ≡ b.prefix = (bytes_eq-Decides a.prefix b.prefix).0 parts.0 in
    let second : a.host ≡ b.host = (bytes_eq-Decides a.host b.host).0 parts.1 in
    cc
