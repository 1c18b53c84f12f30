-- What the parts of a URL tell of it.
use Rattle.std.proofs.Common.{◌≡◌, ℕ, List}
use Rattle.pl_base.specs.Address.{is_place, is_place_url, record_of}
use Rattle.pl_link.specs.declared.parts.Parts.{Parts}
use Rattle.pl_link.specs.Parts.{ArePartsOf}
use Rattle.pl_link.proofs.PlaceUrls.{passes_by}
use Rattle.pl_marks.specs.UrlParts.{HasParts}

pub is_place-by_parts : (text : List ℕ) (parts : Parts) → HasParts text parts → parts.is_place ≡ is_place_url text
is_place-by_parts text parts are =
    passes_by (record_of text) is_place (λ found. ArePartsOf found parts) parts.is_place (λ found are. are.is_place) are
