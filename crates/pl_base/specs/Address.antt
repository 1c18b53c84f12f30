-- Addresses and their parts, by the URL Standard as the crate `url` has it.
use Rattle.std.specs.Prelude.{ℕ, ◌&&◌, not, Bool, false, List, [], ◌∷◌, ◌++◌}
use Rattle.std.specs.Prelude.{length, reverse, codes, decimal, bytes_eq, nat_lt}
use Rattle.std.specs.Prelude.{nat_le, Option, Some, None, Ok, Err, if◌then◌else◌}
use Rattle.std.specs.List.{list_any}
use Rattle.url.specs.declared.host.Host.{Host}
use Rattle.url.specs.Host.{host_text}
use Rattle.url.specs.Parser.{Parsed, parse_url}
use Rattle.url.specs.Parts.{Parts, serialize, has_authority, host_or_empty}

-- the URL record of an absolute address
abbrev pub record_of : List ℕ → Parsed Parts
record_of text = parse_url None text

-- the serialization of the record that a text gives
abbrev pub serialized : Parsed Parts → Option (List ℕ)
serialized (Ok url) = Some (serialize url)
serialized (Err e) = None

-- the answer is this text
abbrev pub is_text : List ℕ → Option (List ℕ) → Bool
is_text text None = false
is_text text (Some other) = bytes_eq other text

-- the bytes of the longest URL of the store
abbrev pub longest_url : ℕ
longest_url = 65_536

-- a URL that the store can keep: its own serialization, if that is not too long
abbrev pub is_store_url : List ℕ → Bool
is_store_url url = is_text url (serialized (record_of url)) && nat_le (length url) longest_url

-- the URL, where the store can keep it
abbrev pub if_store_url : Option (List ℕ) → Option (List ℕ)
if_store_url None = None
if_store_url (Some url) = if is_store_url url then Some url else None

-- a text of so many bytes or more is not read
abbrev pub text_limit : ℕ
text_limit = 16_777_216

-- the identity of an address: its serialization, where the store can keep it
abbrev pub canon : List ℕ → Option (List ℕ)
canon text =
    if nat_lt (length text) text_limit then if_store_url (serialized (record_of text)) else None

-- ---- the parts of an address, read off its record

-- the scheme with `://` where an authority follows, and with `:` elsewhere
abbrev pub prefix : Parts → List ℕ
prefix url = url.scheme ++ (if has_authority url then codes "://" else codes ":")

-- a port with its colon
abbrev port_text : Option ℕ → List ℕ
port_text None = []
port_text (Some port) = codes ":" ++ decimal port

-- a host and its port, if there is a host
abbrev host_with_port : Option (Host (List ℕ)) → Option ℕ → List ℕ
host_with_port None port = []
host_with_port (Some host) port = host_text host ++ port_text port

-- the host with its port, without user name and password; empty where the record has no host
abbrev pub host_and_port : Parts → List ℕ
host_and_port url = host_with_port url.host url.port

-- the host without its port, its characters reversed, and a full stop: the
-- `rev_host` of `moz_places`
abbrev pub reversed_host : Parts → List ℕ
reversed_host url = reverse (host_text (host_or_empty url)) ++ codes "."

-- an address with this scheme holds a query
abbrev pub is_place : Parts → Bool
is_place url = bytes_eq url.scheme (codes "place")

-- the record is one of an address that holds a query
abbrev is_place_record : Parsed Parts → Bool
is_place_record (Ok url) = is_place url
is_place_record (Err e) = false

-- the text is an address that holds a query
abbrev pub is_place_url : List ℕ → Bool
is_place_url text = is_place_record (record_of text)

-- the schemes whose visits are not recorded
abbrev pub unrecorded_schemes : List (List ℕ)
unrecorded_schemes =
    codes "about" ∷ codes "blob" ∷ codes "chrome" ∷ codes "data" ∷ codes "imap" ∷ codes "javascript"
    ∷ codes "mailbox" ∷ codes "moz-anno" ∷ codes "news" ∷ codes "page-icon" ∷ codes "resource"
    ∷ codes "view-source" ∷ []

-- visits to the address are recorded
abbrev pub is_recorded : Parts → Bool
is_recorded url = not (list_any (bytes_eq url.scheme) unrecorded_schemes)

-- the record is one of an address whose visits are not recorded
abbrev is_unrecorded_record : Parsed Parts → Bool
is_unrecorded_record (Ok url) = not (is_recorded url)
is_unrecorded_record (Err e) = false

-- the text is an address whose visits are not recorded
abbrev pub is_unrecorded_url : List ℕ → Bool
is_unrecorded_url text = is_unrecorded_record (record_of text)

-- ---- origins

-- the prefix and the host of an address
abbrev pub origin_of_record : Parsed Parts → Option (List ℕ × List ℕ)
origin_of_record (Ok url) = Some (prefix url, host_and_port url)
origin_of_record (Err e) = None

-- the origin of a URL; a text that is no URL has none
abbrev pub origin_of_url : List ℕ → Option (List ℕ × List ℕ)
origin_of_url text = origin_of_record (record_of text)

-- two origins are there, and are equal
abbrev pub are_same : Option (List ℕ × List ℕ) → Option (List ℕ × List ℕ) → Bool
are_same (Some a) (Some b) = bytes_eq a.0 b.0 && bytes_eq a.1 b.1
are_same None b = false
are_same (Some a) None = false

-- two URLs have the same origin: the same prefix and the same host
abbrev pub same_origin : List ℕ → List ℕ → Bool
same_origin a b = are_same (origin_of_url a) (origin_of_url b)
