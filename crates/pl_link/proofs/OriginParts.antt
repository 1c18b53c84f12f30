-- What the parts of a URL tell of its origin.
use Rattle.std.proofs.Common.{◌≡◌, ℕ, List, Some, Result, Ok, Err}
use Rattle.std.specs.Result.{IsOkAnd}
use Rattle.pl_base.specs.Address.{host_and_port, origin_of_url, prefix, record_of}
use Rattle.pl_base.proofs.OriginLaws.{origin_of_url-from}
use Rattle.pl_link.specs.declared.parts.Parts.{Parts}
use Rattle.pl_link.specs.Parts.{ArePartsOf}

ok_weaker : {T E : Type 0} (r : Result T E) (P Q : T → Type 0) → ((x : T) → P x → Q x) → IsOkAnd r P → IsOkAnd r Q
ok_weaker (Ok x) P Q weaker so = weaker x so
ok_weaker (Err e) P Q weaker so = so

pub origin_by_parts : (url : List ℕ) (parts : Parts) → IsOkAnd (record_of url) (λ found. ArePartsOf found parts)
    → origin_of_url url ≡ Some (parts.prefix, parts.host)
origin_by_parts url parts are =
    origin_of_url-from url parts.prefix parts.host
    (ok_weaker (record_of url) (λ found. ArePartsOf found parts)
    (λ found. (parts.prefix ≡ prefix found) × (parts.host ≡ host_and_port found))
    (λ found are. (are.prefix, are.host)) are)
