-- Cases of addresses, their parts and their origins, worked out by hand from the URL Standard.
use Rattle.std.proofs.Common.{◌≡◌, List, ℕ, [], ◌∷◌, Some, None, Ok, Err, true, false, refl, map}
use Rattle.std.specs.Prelude.{codes, replicate, length}
use Rattle.url.proofs.OnLiterals.{url_on_literals}
use Rattle.url.specs.Parser.{Parsed}
use Rattle.url.specs.Parts.{Parts}
use Rattle.pl_base.specs.Address.{canon, host_and_port, is_place_url, is_unrecorded_url, prefix, record_of}
use Rattle.pl_base.specs.Address.{reversed_host, same_origin, unrecorded_schemes}

-- the prefix, the host with its port and the reversed host of an address
abbrev parts_of : Parsed Parts → List (List ℕ)
parts_of (Ok url) = prefix url ∷ host_and_port url ∷ reversed_host url ∷ []
parts_of (Err e) = []

abbrev parts : List ℕ → List (List ℕ)
parts text = parts_of (record_of text)

-- ---- addresses

-- the URL of an address is its own
own_url : canon (codes "https://a.example/") ≡ Some (codes "https://a.example/")
unfolding url_on_literals
own_url = refl

no_text : canon [] ≡ None
unfolding url_on_literals
no_text = refl

without_scheme : canon (codes "//a.example/") ≡ None
unfolding url_on_literals
without_scheme = refl

-- ---- parts

no_address : parts (codes "no url") ≡ []
unfolding url_on_literals
no_address = refl

-- the host is there and empty
of_a_file : parts (codes "file:///x") ≡ codes "file://" ∷ [] ∷ codes "." ∷ []
unfolding url_on_literals
of_a_file = refl

of_a_script : parts (codes "javascript:void(0)") ≡ codes "javascript:" ∷ [] ∷ codes "." ∷ []
unfolding url_on_literals
of_a_script = refl

-- a path that begins with two slashes is no host
of_a_guarded_path : parts (codes "unix:/.//a.example/x") ≡ codes "unix:" ∷ [] ∷ codes "." ∷ []
unfolding url_on_literals
of_a_guarded_path = refl

-- of 2001:db8::1, whose brackets are part of its text
of_numbers : parts (codes "http://[2001:DB8::1]:8080/")
    ≡ codes "http://" ∷ codes "[2001:db8::1]:8080" ∷ codes "]1::8bd:1002[." ∷ []
unfolding url_on_literals
of_numbers = refl

-- the port that the scheme has by itself is none
own_port : parts (codes "http://a.example:80/") ≡ codes "http://" ∷ codes "a.example" ∷ codes "elpmaxe.a." ∷ []
unfolding url_on_literals
own_port = refl

-- ---- schemes

-- with a host too, and no longer one
queries : map is_place_url (codes "PLACE:x" ∷ codes "place://a/" ∷ codes "places:x" ∷ codes "no url" ∷ [])
    ≡ true ∷ true ∷ false ∷ false ∷ []
unfolding url_on_literals
queries = refl

how_many_are_unrecorded : length unrecorded_schemes ≡ 12
how_many_are_unrecorded = refl

unrecorded :
    map is_unrecorded_url
    (codes "about:x" ∷ codes "blob:x" ∷ codes "chrome:x" ∷ codes "data:," ∷ codes "imap:x" ∷ codes "javascript:x"
    ∷ codes "mailbox:x" ∷ codes "moz-anno:x" ∷ codes "news:x" ∷ codes "page-icon:x" ∷ codes "resource:x"
    ∷ codes "view-source:x" ∷ [])
    ≡ replicate 12 true
unfolding url_on_literals
unrecorded = refl

recorded : map is_unrecorded_url (codes "file:///x" ∷ codes "mailto:x" ∷ codes "newsgroup:x" ∷ codes "no url" ∷ [])
    ≡ false ∷ false ∷ false ∷ false ∷ []
unfolding url_on_literals
recorded = refl

-- ---- origins

-- all addresses of a scheme without hosts have one origin
without_hosts : same_origin (codes "mailto:a@a.example") (codes "mailto:b@b.example") ≡ true
unfolding url_on_literals
without_hosts = refl

-- the host without `www.` is another one, and so is an empty one
by_host : same_origin (codes "https://www.a.example/") (codes "https://a.example/") ≡ false
unfolding url_on_literals
by_host = refl

-- what is no address has no origin, not even that of itself
of_no_address : same_origin (codes "no url") (codes "no url") ≡ false
unfolding url_on_literals
of_no_address = refl
