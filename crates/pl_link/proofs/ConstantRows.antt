-- The constants of the crate are those of the definitions.
use Rattle.std.proofs.Common.{◌≡◌, refl}
use Rattle.pl_base.specs.Address.{longest_url, text_limit}
use Rattle.pl_link.specs.declared.canon.TheConstants.{LONGEST_URL, TEXT_LIMIT}

longest_url_is : LONGEST_URL ≡ longest_url
longest_url_is = refl

text_limit_is : TEXT_LIMIT ≡ text_limit
text_limit_is = refl
