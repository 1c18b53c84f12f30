-- What the parts of a URL of the store are.
use Rattle.std.specs.Prelude.{◌≡◌}
use Rattle.pl_base.specs.Address as address
use Rattle.url.specs.Parts as url
use Rattle.pl_link.specs.declared.parts.Parts.{Parts}

-- the parts are those of this URL record
pub record ArePartsOf (found : url.Parts) (parts : Parts) : Type 0 where
  pub prefix : parts.prefix ≡ address.prefix found
  pub host : parts.host ≡ address.host_and_port found
  pub rev_host : parts.rev_host ≡ address.reversed_host found
  pub is_place : parts.is_place ≡ address.is_place found
