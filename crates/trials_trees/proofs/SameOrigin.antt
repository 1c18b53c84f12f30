-- URLs have the same origin where their parts say so.
use Rattle.std.proofs.Common.{◌≡◌, ◌&&◌, ℕ, Bool, List, Option, Some, ap, bytes_eq, sym}
use Rattle.std.specs.Option.{option_map}
use Rattle.pl_base.specs.Address.{same_origin}
use Rattle.pl_base.proofs.OriginLaws.{same_origin-by_texts}
use Rattle.pl_link.specs.declared.parts.Parts.{Parts}
use Rattle.pl_link.proofs.OriginParts.{origin_by_parts}
use Rattle.pl_marks.specs.UrlParts.{HasParts}

pub same_origin-by_parts : (text url : List ℕ) (own parts : Parts) (alike : Bool) (kept_url : Option (List ℕ))
    → HasParts text own → HasParts url parts
    → alike ≡ (bytes_eq own.prefix parts.prefix && bytes_eq own.host parts.host) → Some text ≡ kept_url
    → Some alike ≡ option_map (λ (other : List ℕ). same_origin other url) kept_url
same_origin-by_parts text url own parts alike kept_url owns has is stands =
    rw (← stands, is) (ap (λ (b : Bool). Some b)
    (sym (same_origin-by_texts text url (own.prefix, own.host) (parts.prefix, parts.host)
    (origin_by_parts text own owns) (origin_by_parts url parts has))))
