-- Worked rows of scripts: lines of days and of what goes, the ends of lines, the texts of replies,
-- and whole runs.
use Rattle.std.proofs.Common.{◌≡◌, ℕ, List, ◌++◌, map, refl, [], ◌∷◌, true, Ok, Err}
use Rattle.std.specs.Prelude.{codes, negsuc}
use Rattle.std.specs.Fmt.{digits}
use Rattle.std.specs.List.{flat_map}
use Rattle.std.specs.Str.{chars, is_utf8}
use Rattle.std.specs.Str.Lossy.{utf8_error_len, utf8_lossy, utf8_valid_len}
use lib.Utf8.{encode}
use Rattle.caseless.proofs.Computing.{caseless}
use Rattle.percent_encoding.proofs.OnLiterals.{percent_encoding_on_literals}
use Rattle.percent_encoding.specs.Percent.{percent_decode}
use Rattle.jiff_fmt.proofs.OnLiterals.{jiff_fmt_on_literals}
use Rattle.url.proofs.OnLiterals.{url_on_literals}
use Rattle.pl_base.specs.declared.id.IdKind.TheVariants.{Item as ItemIds, Page as PageIds, Visit as VisitIds}
use Rattle.pl_base.specs.declared.refusal.Refusal.{Refusal}
use Rattle.pl_base.specs.declared.refusal.Refusal.TheVariants.{BadDate, BadLine, BadUrl, DayBack, Full, NoIds}
use Rattle.pl_base.specs.declared.refusal.Refusal.TheVariants.{NotRecorded, NoVisit}
use Rattle.pl_base.specs.Live.{slot_limit}
use Rattle.pl_base.specs.Store.{opening}
use Rattle.pl_step.specs.declared.command.Command.TheVariants.{Day, Expire, Fill, Forget, Origin, Stats, Trim, Unvisit}
use Rattle.pl_step.specs.declared.reply.Reply.TheVariants.{Day as DayReply, Origin as OriginReply, Stats as StatsReply}
use Rattle.pl_step.specs.declared.reply.Reply.TheVariants.{Imported, Refused, Removed, Visit}
use Rattle.pl_step.specs.Run.{replies}
use Rattle.pl_script.specs.Reply.{reply_text}
use Rattle.pl_script.specs.Script.{script}

-- ---- lines

-- whether a day is one of the range is asked behind the form of the whole line
days : script (codes "day\t2932896\nday\t1970-01-02\nday\t2932897\nday\t2024-02-30\nday\t2932897\t\n"
    ++ codes "day\t2024-02-30\tx\nday\t2024-2-30\nday\t18446744073709551616\nday\t\nday\n")
    ≡ Ok (Day (record { 0 = 2_932_896 })) ∷ Ok (Day (record { 0 = 1 })) ∷ Err BadDate ∷ Err BadDate ∷ Err (BadLine 13)
    ∷ Err (BadLine 16) ∷ Err (BadLine 5) ∷ Err (BadLine 5) ∷ Err (BadLine 5) ∷ Err (BadLine 4) ∷ []
unfolding jiff_fmt_on_literals
days = refl

expiring : script (codes "expire\t0\nexpire\t9999-12-31\nexpire\t1969-12-31\nexpire\t-1\nexpire\nexpire\t1\t\n")
    ≡ Ok (Expire (record { 0 = 0 })) ∷ Ok (Expire (record { 0 = 2_932_896 })) ∷ Err BadDate ∷ Err (BadLine 8)
    ∷ Err (BadLine 7) ∷ Err (BadLine 10) ∷ []
unfolding jiff_fmt_on_literals
expiring = refl

-- the least and the greatest number of 32 bits, and what is none
numbers : script (codes "unvisit\t0\nunvisit\t4294967295\nunvisit\t4294967296\nunvisit\nunvisit\t1\t\n"
    ++ codes "trim\t0\ntrim\t4294967295\ntrim\t4294967296\ntrim\t\ntrim\t1\t2\n")
    ≡ Ok (Unvisit (record { 0 = 0 })) ∷ Ok (Unvisit (record { 0 = 4_294_967_295 })) ∷ Err (BadLine 9) ∷ Err (BadLine 8)
    ∷ Err (BadLine 11) ∷ Ok (Trim 0) ∷ Ok (Trim 4_294_967_295) ∷ Err (BadLine 6) ∷ Err (BadLine 6) ∷ Err (BadLine 8)
    ∷ []
numbers = refl

addresses : script (codes "forget\t HTTPS://A.Example\nforget\tno url\nforget\t\nforget\nforget\tno url\t\n"
    ++ codes "origin\thttps://a.example/x\norigin\tno url\norigin\norigin\t\\x\nstats\nstats\t\nStats\n")
    ≡ Ok (Forget (codes "https://a.example/")) ∷ Err BadUrl ∷ Err BadUrl ∷ Err (BadLine 7) ∷ Err (BadLine 15)
    ∷ Ok (Origin (codes "https://a.example/x")) ∷ Err BadUrl ∷ Err (BadLine 7) ∷ Err (BadLine 8) ∷ Ok Stats
    ∷ Err (BadLine 7) ∷ Err (BadLine 1) ∷ []
unfolding url_on_literals
addresses = refl

-- one CR before an LF is dropped, and none elsewhere; U+FEFF is part of a word
ends_of_lines : script (codes "\r\n#\r\nstats\r\nstats\r\r\n" ++ 239 ∷ 187 ∷ 191 ∷ codes "stats\n stats\nstats\r")
    ≡ Ok Stats ∷ Err (BadLine 1) ∷ Err (BadLine 1) ∷ Err (BadLine 1) ∷ Err (BadLine 1) ∷ []
ends_of_lines = refl

-- é, its first byte alone, and a byte of no character
texts : script (codes "fill\t" ++ 195 ∷ 169 ∷ codes "\nfill\t" ++ 195 ∷ codes "\nfill\t" ++ 255 ∷ [])
    ≡ Ok (Fill (195 ∷ 169 ∷ [])) ∷ Err (BadLine 6) ∷ Err (BadLine 6) ∷ []
unfolding is_utf8 chars encode
texts = refl

-- ---- texts of replies

new_day : reply_text (DayReply (record { 0 = 20_000 }) 3) ≡ codes "day\t20000\tchanged\t3\n"
unfolding digits
new_day = refl

visited : reply_text (Visit (record { 0 = 12 }) (record { 0 = 3 }) (negsuc 0))
    ≡ codes "visit\t12\tpage\t3\tfrecency\t-1\n"
unfolding digits
visited = refl

an_origin : reply_text (OriginReply (codes "https://") (codes "a.example:8080") (codes "elpmaxe.a.") 100 2 true)
    ≡ codes "origin\thttps://\ta.example:8080\telpmaxe.a.\t100\t2\t1\n"
unfolding digits
an_origin = refl

how_much : reply_text (StatsReply 1 2 6 1 100 556)
    ≡ codes "stats\tpages\t1\tvisits\t2\titems\t6\torigins\t1\tsum\t100\tslots\t556\n"
unfolding digits
how_much = refl

gone : reply_text (Removed 2 1) ≡ codes "removed\tvisits\t2\tpages\t1\n"
unfolding digits
gone = refl

brought_in : reply_text (Imported 4 2 1) ≡ codes "imported\titems\t4\ttags\t2\tskipped\t1\n"
unfolding digits
brought_in = refl

abbrev refused : Refusal → List ℕ
refused refusal = reply_text (Refused refusal)

without_value : map refused (BadUrl ∷ NotRecorded ∷ []) ≡ codes "refused\t1\n" ∷ codes "refused\t2\n" ∷ []
unfolding digits
without_value = refl

with_value :
    map refused
    (NoVisit (record { 0 = 9 }) ∷ DayBack (record { 0 = 20_000 }) ∷ Full 4_194_305 ∷ NoIds PageIds ∷ NoIds VisitIds
    ∷ NoIds ItemIds ∷ BadLine 262_145 ∷ [])
    ≡ codes "refused\t3\t9\n" ∷ codes "refused\t10\t20000\n" ∷ codes "refused\t12\t4194305\n" ∷ codes "refused\t13\t1\n"
    ∷ codes "refused\t13\t2\n" ∷ codes "refused\t13\t3\n" ∷ codes "refused\t14\t262145\n" ∷ []
unfolding digits
with_value = refl

-- ---- whole runs, on the store before its first command

abbrev said : List ℕ → List ℕ
said bytes = flat_map reply_text (replies slot_limit opening (script bytes))

-- a visit is four days old and then five; no day comes back
ages : said (codes "day\t20000\nvisit\thttps://a.example/\t1\t1727654400000000\nday\t20001\nday\t20000\n"
    ++ codes "page\thttps://a.example/\n")
    ≡ codes "day\t20000\tchanged\t0\nvisit\t1\tpage\t1\tfrecency\t100\nday\t20001\tchanged\t1\nrefused\t10\t20001\n"
    ++ codes "page\t1\t70\t1\t1727654400000000\t0\t0\t0\thttps://a.example/\t\t\n"
unfolding url_on_literals
ages = refl

-- the visit goes, and the bookmark keeps the page, which stays typed
expired_visit : said (codes "bookmark\t2\tend\thttps://a.example/\tA\t0\nvisit\thttps://a.example/\t2\t0\nexpire\t1\n"
    ++ codes "page\thttps://a.example/\nforget\thttps://b.example/\nunvisit\t1\n")
    ≡ codes "item\t7\nvisit\t1\tpage\t1\tfrecency\t2075\nremoved\tvisits\t1\tpages\t0\n"
    ++ codes "page\t1\t340\t0\t-\t1\t0\t1\thttps://a.example/\t\t\nrefused\t4\nrefused\t3\t1\n"
unfolding url_on_literals
expired_visit = refl

-- of three pages two go; the one that stays is alone in its origin, at its mean
trimmed : said (codes "visit\thttps://a.example/\t1\t0\nvisit\thttps://b.example/\t1\t1\n"
    ++ codes "visit\thttps://c.example/\t1\t2\nbookmark\t2\tend\thttps://a.example/\tA\t0\ntrim\t1\n"
    ++ codes "origin\thttps://a.example/x\norigin\thttps://b.example/\nstats\n")
    ≡ codes "visit\t1\tpage\t1\tfrecency\t100\nvisit\t2\tpage\t2\tfrecency\t100\nvisit\t3\tpage\t3\tfrecency\t100\n"
    ++ codes "item\t7\nremoved\tvisits\t2\tpages\t2\norigin\thttps://\ta.example\telpmaxe.a.\t175\t1\t1\nrefused\t4\n"
    ++ codes "stats\tpages\t1\tvisits\t1\titems\t7\torigins\t1\tsum\t175\tslots\t12\n"
unfolding url_on_literals
trimmed = refl

-- two origins just at their mean, and a text that no group begins with
filled_in : said (codes "visit\thttps://mozilla.org/\t1\t0\nvisit\thttps://example.org/\t1\t0\nfill\tMoz\nfill\tzzz\n")
    ≡ codes "visit\t1\tpage\t1\tfrecency\t100\nvisit\t2\tpage\t2\tfrecency\t100\nfill\tmozilla.org\t100\nnofill\n"
unfolding url_on_literals
filled_in = refl

-- a tag is asked for in other letters, told as it was written, and searched
tag_found : said (codes "tag\thttps://a.example/\tRed\t0\ntag\thttps://a.example/\tRED\t0\n"
    ++ codes "visit\thttps://a.example/\t1\t0\nquery\tplace:tag=red\nbar\t10\t+ RED\nuntag\thttps://a.example/\tred\n"
    ++ codes "query\tplace:tag=red\n")
    ≡ codes "ok\nrefused\t15\nvisit\t1\tpage\t1\tfrecency\t175\nrows\t1\nrow\t1\thttps://a.example/\t\t0\t1\t175\tRed\n"
    ++ codes "rows\t1\npage\t1\t175\thttps://a.example/\t\nok\nrows\t0\n"
unfolding caseless chars encode is_utf8 percent_decode url_on_literals utf8_error_len utf8_lossy utf8_valid_len
tag_found = refl

written_again : said (codes "place\tplace:maxResults=3&foo=1&tag=%20b\nplace\tplace:maxResults=3&type=2\n")
    ≡ codes "place\tplace:tag=b&maxResults=3\nrefused\t11\t2\n"
unfolding url_on_literals percent_encoding_on_literals caseless chars encode is_utf8
written_again = refl
