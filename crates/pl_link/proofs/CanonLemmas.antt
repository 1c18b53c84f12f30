-- When a text has a canonical URL, and which.
use Rattle.std.proofs.Common.{◌≡◌, ℕ, ◌<◌, ◌≤◌, List, length, Some, None, Ok, refl, ap}
use Rattle.std.proofs.lemmas.Bool.{lt-ltb, le-leb, lt-leb}
use Rattle.std.proofs.lemmas.Slice.Eq.{bytes_eq-Decides}
use Rattle.url.specs.Parts.{Parts, serialize, IsValid}
use Rattle.url.proofs.Theorems.{parse_url_idempotent}
use Rattle.pl_base.specs.Address.{canon, longest_url, record_of, serialized, text_limit}

-- the text of a URL that was parsed gives that URL
pub record_of-serialize : (text : List ℕ) (url : Parts) → IsValid url → record_of text ≡ Ok url
    → record_of (serialize url) ≡ Ok url
record_of-serialize text url valid parsed = parse_url_idempotent None None text url tt valid parsed

short_url : (text url : List ℕ) → length text < text_limit → serialized (record_of text) ≡ Some url
    → serialized (record_of url) ≡ Some url → length url ≤ longest_url → canon text ≡ Some url
short_url text url short given own fits =
    rw (
      lt-ltb (length text) text_limit short,
      given,
      own,
      (bytes_eq-Decides url url).1 refl,
      le-leb (length url) longest_url fits,
    )

long_url : (text url : List ℕ) → length text < text_limit → serialized (record_of text) ≡ Some url
    → serialized (record_of url) ≡ Some url → longest_url < length url → canon text ≡ None
long_url text url short given own long =
    rw (
      lt-ltb (length text) text_limit short,
      given,
      own,
      (bytes_eq-Decides url url).1 refl,
      lt-leb (length url) longest_url long,
    )

-- a text that is not too long has the URL that it gives, unless that is too long
pub canon-fits : (text : List ℕ) (url : Parts) → length text < text_limit → IsValid url → record_of text ≡ Ok url
    → length (serialize url) ≤ longest_url → canon text ≡ Some (serialize url)
canon-fits text url short valid parsed =
    short_url text (serialize url) short (ap serialized parsed)
    (ap serialized (record_of-serialize text url valid parsed))

pub canon-long : (text : List ℕ) (url : Parts) → length text < text_limit → IsValid url → record_of text ≡ Ok url
    → longest_url < length (serialize url) → canon text ≡ None
canon-long text url short valid parsed =
    long_url text (serialize url) short (ap serialized parsed)
    (ap serialized (record_of-serialize text url valid parsed))
