-- Worked rows of whole scripts: from the bytes of the input to the bytes of the replies, by the
-- definitions alone, to texts that were worked out by hand.
use Rattle.std.proofs.Common.{◌≡◌, ℕ, List, ◌++◌, refl, [], ◌∷◌, true, false, Option, None, Some, Ok, Err}
use Rattle.std.proofs.Common.{replicate}
use Rattle.std.specs.Prelude.{codes, decimal, pos, negsuc}
use Rattle.std.specs.Fmt.{digits}
use Rattle.std.specs.List.{flat_map, range_with_len}
use Rattle.url.proofs.OnLiterals.{url_on_literals}
use Rattle.pl_base.specs.declared.date.Micros.{Micros}
use Rattle.pl_base.specs.declared.id.VisitId.{VisitId}
use Rattle.pl_base.specs.declared.item.ItemKind.{ItemKind}
use Rattle.pl_base.specs.declared.item.ItemKind.TheVariants.{Bookmark as ABookmark, Folder as AFolder}
use Rattle.pl_base.specs.declared.item.ItemKind.TheVariants.{Separator as ASeparator}
use Rattle.pl_base.specs.declared.refusal.Refusal.TheVariants.{BadLine, NoPage, BadDate, BadUrl}
use Rattle.pl_base.specs.declared.refusal.Refusal.TheVariants.{NoItem, NotAFolder, Fixed, BadPlace, Inside}
use Rattle.pl_base.specs.declared.refusal.Refusal.TheVariants.{BadTag, DupTag, NoTag, TooMany}
use Rattle.pl_base.specs.declared.transition.Transition.TheVariants.{Link}
use Rattle.pl_base.specs.Live.{slot_limit}
use Rattle.pl_base.specs.Store.{item_id, opening}
use Rattle.pl_tree.specs.declared.place.Place.TheVariants.{End, Number}
use Rattle.pl_step.specs.declared.command.Command.{Command}
use Rattle.pl_step.specs.declared.command.Command.TheVariants.{Visit, Title, Page, Folder, Bookmark}
use Rattle.pl_step.specs.declared.command.Command.TheVariants.{Separator, Move, Retitle, Remove, Tag, Untag}
use Rattle.pl_step.specs.declared.command.Command.TheVariants.{List as ListItems}
use Rattle.pl_step.specs.declared.reply.ListRow.{ListRow}
use Rattle.pl_step.specs.declared.reply.Reply.TheVariants.{Page as PageReply, Done, Item, Refused}
use Rattle.pl_step.specs.declared.reply.Reply.TheVariants.{List as ListReply}
use Rattle.pl_step.specs.Run.{replies}
use Rattle.pl_script.specs.Reply.{reply_text}
use Rattle.pl_script.specs.Script.{script}

-- what is said of a script on the store before its first command
abbrev said : List ℕ → List ℕ
said bytes = flat_map reply_text (replies slot_limit opening (script bytes))

-- ten more visits to the page, at the dates from 1 to 10
abbrev ten_more : List ℕ → List ℕ
ten_more transition =
    flat_map (λ date. codes "visit\thttps://a.example/\t" ++ transition ++ codes "\t" ++ decimal date ++ codes "\n")
    (range_with_len 1 10)

nothing : said (codes "") ≡ codes ""
nothing = refl

one_link : said (codes "visit\thttps://www.mozilla.org/\t1\t0\n") ≡ codes "visit\t1\tpage\t1\tfrecency\t100\n"
unfolding url_on_literals
one_link = refl

-- Ten links push the typed visit out of the sample, 2,000 points of eleven visits; one that arrives
-- late with an early date is counted and not sampled.
typed_then_links : said (codes "visit\thttps://a.example/\t2\t0\n" ++ ten_more (codes "1")
    ++ codes "visit\thttps://a.example/\t2\t0\n")
    ≡ codes "visit\t1\tpage\t1\tfrecency\t2000\nvisit\t2\tpage\t1\tfrecency\t2100\n"
    ++ codes "visit\t3\tpage\t1\tfrecency\t2200\nvisit\t4\tpage\t1\tfrecency\t2300\n"
    ++ codes "visit\t5\tpage\t1\tfrecency\t2400\nvisit\t6\tpage\t1\tfrecency\t2500\n"
    ++ codes "visit\t7\tpage\t1\tfrecency\t2600\nvisit\t8\tpage\t1\tfrecency\t2700\n"
    ++ codes "visit\t9\tpage\t1\tfrecency\t2800\nvisit\t10\tpage\t1\tfrecency\t2900\n"
    ++ codes "visit\t11\tpage\t1\tfrecency\t1100\nvisit\t12\tpage\t1\tfrecency\t1200\n"
unfolding url_on_literals
typed_then_links = refl

-- A link's 100 points are shared with the reloads, rounded up, until ten reloads add nothing.
link_then_reloads : said (codes "visit\thttps://a.example/\t1\t0\n" ++ ten_more (codes "9"))
    ≡ codes "visit\t1\tpage\t1\tfrecency\t100\nvisit\t2\tpage\t1\tfrecency\t50\n"
    ++ codes "visit\t3\tpage\t1\tfrecency\t34\nvisit\t4\tpage\t1\tfrecency\t25\n"
    ++ codes "visit\t5\tpage\t1\tfrecency\t20\nvisit\t6\tpage\t1\tfrecency\t17\n"
    ++ codes "visit\t7\tpage\t1\tfrecency\t15\nvisit\t8\tpage\t1\tfrecency\t13\n"
    ++ codes "visit\t9\tpage\t1\tfrecency\t12\nvisit\t10\tpage\t1\tfrecency\t10\n"
    ++ codes "visit\t11\tpage\t1\tfrecency\t-1\n"
unfolding url_on_literals
link_then_reloads = refl

-- a second page has the next id, and a redirect from no visit counts its own 50 points
two_pages : said (codes "visit\thttps://a.example/\t2\t0\nvisit\thttps://b.example/\t5\t1\n")
    ≡ codes "visit\t1\tpage\t1\tfrecency\t2000\nvisit\t2\tpage\t2\tfrecency\t50\n"
unfolding url_on_literals
two_pages = refl

-- one page by two texts of its address
one_address : said (codes "visit\thttps://a.example\t1\t0\nvisit\t HTTPS://A.Example:443\t1\t0")
    ≡ codes "visit\t1\tpage\t1\tfrecency\t100\nvisit\t2\tpage\t1\tfrecency\t200\n"
unfolding url_on_literals
one_address = refl

-- a scheme that is not recorded, a text that is no address, and neither takes an id
refusals : said (codes "visit\tabout:blank\t1\t0\nvisit\tno url\t1\t0\nvisit\thttps://a.example/\t4\t0\n")
    ≡ codes "refused\t2\nrefused\t1\nvisit\t1\tpage\t1\tfrecency\t0\n"
unfolding url_on_literals
refusals = refl

-- columns of what is not of its form, missing or too many; a comment and empty lines have no reply
faulty_lines : said (codes "# a comment\n\nvisits\nvisit\nvisit\ta\\x\t1\t0\n"
    ++ codes "visit\ta\t10\t0\nvisit\ta\t1\t01\r\nvisit\ta\t1\t0\t\n\r")
    ≡ codes "refused\t14\t1\nrefused\t14\t6\nrefused\t14\t7\nrefused\t14\t9\n"
    ++ codes "refused\t14\t11\nrefused\t14\t13\nrefused\t14\t1\n"
unfolding url_on_literals
faulty_lines = refl

-- ---- what lines are read as

-- a link at date 0 to the page, from a visit
abbrev link_from : Option VisitId → Command
link_from source = Visit (codes "https://a.example/") Link (record { 0 = 0 }) source

abbrev visit_id : ℕ → VisitId
visit_id n = record { 0 = n }

-- a visit has the source that its line names; any number of 32 bits is an id
sources : script (codes "visit\thttps://a.example/\t1\t0\nvisit\thttps://a.example/\t1\t0\t9\n"
    ++ codes "visit\thttps://a.example/\t1\t0\t0\nvisit\thttps://a.example/\t1\t0\t4294967295\n"
    ++ codes "visit\thttps://a.example/\t1\t0\t4294967296\nvisit\thttps://a.example/\t1\t0\t\n"
    ++ codes "visit\thttps://a.example/\t1\t0\t9\t\n")
    ≡ Ok (link_from None) ∷ Ok (link_from (Some (visit_id 9)))
    ∷ Ok (link_from (Some (visit_id 0))) ∷ Ok (link_from (Some (visit_id 4_294_967_295)))
    ∷ Err (BadLine 30) ∷ Err (BadLine 30) ∷ Err (BadLine 32) ∷ []
unfolding url_on_literals
sources = refl

-- a date that is later than the last one is a number, and is refused behind what is not of its form
-- and before what is no address
late_dates : script (codes "visit\thttps://a.example/\t1\t253402300800000000\n"
    ++ codes "visit\thttps://a.example/\t1\t18446744073709551615\nvisit\tno url\t1\t253402300800000000\t9\n"
    ++ codes "visit\thttps://a.example/\t1\t18446744073709551616\n"
    ++ codes "visit\thttps://a.example/\t1\t253402300800000000\tx\n"
    ++ codes "visit\thttps://a.example/\t1\t253402300800000000\t9\t\n"
    ++ codes "visit\thttps://a.example/\t1\t253402300799999999")
    ≡ Err BadDate ∷ Err BadDate ∷ Err BadDate ∷ Err (BadLine 28) ∷ Err (BadLine 47) ∷ Err (BadLine 49)
    ∷ Ok (Visit (codes "https://a.example/") Link (record { 0 = 253_402_300_799_999_999 }) None) ∷ []
unfolding url_on_literals
late_dates = refl

-- a title may have each escape, and may be empty
titles_and_pages : script (codes "title\thttps://a.example\ta\\\\b\\tc\\nd\\re\ntitle\thttps://a.example/\t\n"
    ++ codes "page\t HTTPS://A.Example:443\n")
    ≡ Ok (Title (codes "https://a.example/") (codes "a\\b\tc\nd\re"))
    ∷ Ok (Title (codes "https://a.example/") (codes "")) ∷ Ok (Page (codes "https://a.example/")) ∷ []
unfolding url_on_literals
titles_and_pages = refl

-- columns of what is missing, not of its form or too many; an address that is no URL is refused
-- behind these
faulty_titles_and_pages : said (codes "title\ntitle\thttps://a.example/\ntitle\ta\\x\tb\n"
    ++ codes "title\thttps://a.example/\t\\\ntitle\tno url\tb\tc\ntitle\tno url\tb\n"
    ++ codes "titles\tno url\tb\npage\npage\ta\\x\npage\tno url\t\npage\t\n")
    ≡ codes "refused\t14\t6\nrefused\t14\t25\nrefused\t14\t7\n"
    ++ codes "refused\t14\t26\nrefused\t14\t16\nrefused\t1\n"
    ++ codes "refused\t14\t1\nrefused\t14\t5\nrefused\t14\t6\nrefused\t14\t13\nrefused\t1\n"
unfolding url_on_literals
faulty_titles_and_pages = refl

-- ---- lines of the bookmark tree

abbrev at : ℕ → Micros
at n = record { 0 = n }

-- each line, with the least and the greatest numbers of 32 bits, and with a place at the end
items : script (codes "folder\t2\tend\tA\\tB\t0\nbookmark\t4294967295\t0\t HTTPS://A.Example:443\t\t7\n"
    ++ codes "separator\t0\t4294967295\t253402300799999999\nmove\t7\t3\tend\t1\nmove\t7\t3\t1\t1\n"
    ++ codes "retitle\t7\t\\\\\t3\nremove\t8\nlist\t2")
    ≡ Ok (Folder (item_id 2) End (codes "A\tB") (at 0))
    ∷ Ok (Bookmark (item_id 4_294_967_295) (Number 0) (codes "https://a.example/") [] (at 7))
    ∷ Ok (Separator (item_id 0) (Number 4_294_967_295) (at 253_402_300_799_999_999))
    ∷ Ok (Move (item_id 7) (item_id 3) End (at 1)) ∷ Ok (Move (item_id 7) (item_id 3) (Number 1) (at 1))
    ∷ Ok (Retitle (item_id 7) (codes "\\") (at 3)) ∷ Ok (Remove (item_id 8)) ∷ Ok (ListItems (item_id 2)) ∷ []
unfolding url_on_literals
items = refl

-- columns of what is not of its form, missing or too many
faulty_items : script (codes "folder\nfolder\t02\tend\tA\t0\nfolder\t2\tEnd\tA\t0\nfolder\t2\t00\tA\t0\n"
    ++ codes "folder\t2\t4294967296\tA\t0\nfolder\t2\tend\ta\\x\t0\nfolder\t2\tend\tA\n"
    ++ codes "folder\t2\tend\tA\t0\t\nbookmark\t2\tend\tno url\tA\nseparator\t2\t\t0\n"
    ++ codes "separator\t2\tend\tA\t0\nmove\t7\tend\t0\nretitle\t7\tA\nremove\nremove\t7\t8\n"
    ++ codes "list\t\nlist\tend\nlists\t2\n")
    ≡ Err (BadLine 7) ∷ Err (BadLine 8) ∷ Err (BadLine 10) ∷ Err (BadLine 10)
    ∷ Err (BadLine 10) ∷ Err (BadLine 14) ∷ Err (BadLine 15)
    ∷ Err (BadLine 18) ∷ Err (BadLine 24) ∷ Err (BadLine 13)
    ∷ Err (BadLine 17) ∷ Err (BadLine 8) ∷ Err (BadLine 12) ∷ Err (BadLine 7) ∷ Err (BadLine 10)
    ∷ Err (BadLine 6) ∷ Err (BadLine 6) ∷ Err (BadLine 1) ∷ []
unfolding url_on_literals
faulty_items = refl

-- a late date is refused behind the form of the whole line, and before an address that is no URL
late_items : script (codes "folder\t2\tend\tA\t253402300800000000\nfolder\t2\tend\tA\t253402300800000000\t\n"
    ++ codes "bookmark\t2\tend\tno url\tA\t253402300800000000\nbookmark\t2\tend\tno url\tA\t0\n"
    ++ codes "separator\t2\tend\t253402300800000000\nmove\t7\t2\tend\t253402300800000000\n"
    ++ codes "retitle\t7\tA\t253402300800000000\n")
    ≡ Err BadDate ∷ Err (BadLine 35) ∷ Err BadDate ∷ Err BadUrl ∷ Err BadDate ∷ Err BadDate ∷ Err BadDate ∷ []
unfolding url_on_literals
late_items = refl

-- ---- lines of tags

-- each line; blanks at the ends of the text are no part of the name, written as they are or as
-- escapes
tags : script (codes "tag\t HTTPS://A.Example:443\t  a b \t7\nuntag\thttps://a.example/\t\\na\\\\b\\t\n"
    ++ codes "tag\thttps://a.example/\tA\t253402300799999999\nuntag\thttps://a.example\tA")
    ≡ Ok (Tag (codes "https://a.example/") (codes "a b") (at 7))
    ∷ Ok (Untag (codes "https://a.example/") (codes "a\\b"))
    ∷ Ok (Tag (codes "https://a.example/") (codes "A") (at 253_402_300_799_999_999))
    ∷ Ok (Untag (codes "https://a.example/") (codes "A")) ∷ []
unfolding url_on_literals
tags = refl

-- nothing, nothing but blanks, a comma, and 101 bytes; 100 between blanks are a name
no_tags : script (codes "tag\thttps://a.example/\t\t0\ntag\thttps://a.example/\t \\t\t0\n"
    ++ codes "tag\thttps://a.example/\ta,b\t0\nuntag\thttps://a.example/\t\nuntag\thttps://a.example/\t,\n"
    ++ codes "untag\thttps://a.example/\t" ++ replicate 101 97
    ++ codes "\nuntag\thttps://a.example/\t " ++ replicate 100 97 ++ codes " \n")
    ≡ Err BadTag ∷ Err BadTag ∷ Err BadTag ∷ Err BadTag ∷ Err BadTag ∷ Err BadTag
    ∷ Ok (Untag (codes "https://a.example/") (replicate 100 97)) ∷ []
unfolding url_on_literals
no_tags = refl

-- columns of what is not of its form, missing or too many
faulty_tags : script (codes "tag\ntag\ta\ntag\ta\tb\ntag\ta\\x\tb\t0\ntag\ta\t\\\t0\ntag\ta\tb\t\ntag\ta\tb\t01\n"
    ++ codes "tag\ta\tb\t0\t\nuntag\nuntag\ta\nuntag\ta\t\\x\nuntag\ta\tb\t0\nuntag\ta\tb\t\n"
    ++ codes "tags\ta\tb\t0\nTag\ta\tb\t0\n")
    ≡ Err (BadLine 4) ∷ Err (BadLine 6) ∷ Err (BadLine 8) ∷ Err (BadLine 5) ∷ Err (BadLine 7)
    ∷ Err (BadLine 9) ∷ Err (BadLine 9) ∷ Err (BadLine 11) ∷ Err (BadLine 6) ∷ Err (BadLine 8)
    ∷ Err (BadLine 9) ∷ Err (BadLine 11) ∷ Err (BadLine 11) ∷ Err (BadLine 1) ∷ Err (BadLine 1) ∷ []
unfolding url_on_literals
faulty_tags = refl

-- the form of the whole line, then a late date, then an address that is no URL, and last a text
-- that names no tag
causes_of_tags : script (codes "tag\tno url\t\t253402300800000000\t\ntag\tno url\t\t253402300800000000\n"
    ++ codes "tag\thttps://a.example/\t,\t253402300800000000\ntag\tno url\t\t0\ntag\thttps://a.example/\t,\t0\n"
    ++ codes "untag\tno url\t,\t\nuntag\tno url\t,\nuntag\thttps://a.example/\t,\n")
    ≡ Err (BadLine 32) ∷ Err BadDate ∷ Err BadDate ∷ Err BadUrl ∷ Err BadTag
    ∷ Err (BadLine 16) ∷ Err BadUrl ∷ Err BadTag ∷ []
unfolding url_on_literals
causes_of_tags = refl

-- ---- texts of replies

done : reply_text Done ≡ codes "ok\n"
done = refl

no_page : reply_text (Refused NoPage) ≡ codes "refused\t4\n"
unfolding digits
no_page = refl

bad_date : reply_text (Refused BadDate) ≡ codes "refused\t16\n"
unfolding digits
bad_date = refl

dup_tag : reply_text (Refused DupTag) ≡ codes "refused\t15\n"
unfolding digits
dup_tag = refl

bad_tag : reply_text (Refused BadTag) ≡ codes "refused\t17\n"
unfolding digits
bad_tag = refl

too_many : reply_text (Refused (TooMany 50_001)) ≡ codes "refused\t19\t50001\n"
unfolding digits
too_many = refl

no_tag : reply_text (Refused NoTag) ≡ codes "refused\t18\n"
unfolding digits
no_tag = refl

no_item : reply_text (Refused (NoItem (item_id 7))) ≡ codes "refused\t5\t7\n"
unfolding digits
no_item = refl

not_a_folder : reply_text (Refused (NotAFolder (item_id 10))) ≡ codes "refused\t6\t10\n"
unfolding digits
not_a_folder = refl

fixed : reply_text (Refused (Fixed (item_id 1))) ≡ codes "refused\t7\t1\n"
unfolding digits
fixed = refl

-- the position, and the length that it is past
bad_place : reply_text (Refused (BadPlace 9 4)) ≡ codes "refused\t8\t9\t4\n"
unfolding digits
bad_place = refl

inside : reply_text (Refused (Inside (item_id 4_294_967_295))) ≡ codes "refused\t9\t4294967295\n"
unfolding digits
inside = refl

inserted : reply_text (Item (item_id 7)) ≡ codes "item\t7\n"
unfolding digits
inserted = refl

abbrev row : ItemKind → ℕ → List ℕ → Option (List ℕ) → ListRow
row kind id title url = record { kind = kind; id = item_id id; title = title; url = url }

no_rows : reply_text (ListReply []) ≡ codes "rows\t0\n"
unfolding digits
no_rows = refl

-- texts have the four escapes, and a separator's title is not told
three_rows : reply_text (ListReply (row ABookmark 12 (codes "a\tb\r") (Some (codes "data:,\\"))
    ∷ row AFolder 7 (codes "F\n") None ∷ row ASeparator 8 (codes "S") None ∷ []))
    ≡ codes "rows\t3\nbookmark\t12\ta\\tb\\r\tdata:,\\\\\nfolder\t7\tF\\n\t\nseparator\t8\t\t\n"
unfolding digits
three_rows = refl

-- a page that was never visited has no last date
unvisited_page
    : reply_text (PageReply (record { 0 = 7 }) (negsuc 0) 0 None false true true (codes "about:blank") [] [])
    ≡ codes "page\t7\t-1\t0\t-\t0\t1\t1\tabout:blank\t\t\n"
unfolding digits
unvisited_page = refl

-- each text of a page has the four escapes
escaped_texts
    : reply_text (PageReply (record { 0 = 1 }) (pos 25) 2 (Some (record { 0 = 0 })) true false false
    (codes "data:,\\") (codes "a\tb\nc\rd\"") (codes "x,\\"))
    ≡ codes "page\t1\t25\t2\t0\t1\t0\t0\tdata:,\\\\\ta\\tb\\nc\\rd\"\tx,\\\\\n"
unfolding digits
escaped_texts = refl

-- ---- titles, pages and sources on the store before its first command

-- a source that is not there; a title and a page of no page
nothing_there : said (codes "visit\thttps://a.example/\t1\t0\t9\ntitle\thttps://a.example/\tA\n"
    ++ codes "page\thttps://a.example/\n")
    ≡ codes "refused\t3\t9\nrefused\t4\nrefused\t4\n"
unfolding url_on_literals
nothing_there = refl

-- a redirect by a typed visit counts as one, and hides the page that it left
redirected : said (codes "visit\thttps://a.example/\t2\t0\nvisit\thttps://b.example/\t5\t1\t1\n"
    ++ codes "page\thttps://a.example/\n")
    ≡ codes "visit\t1\tpage\t1\tfrecency\t2000\nvisit\t2\tpage\t2\tfrecency\t2000\n"
    ++ codes "page\t1\t25\t1\t0\t1\t1\t0\thttps://a.example/\t\t\n"
unfolding url_on_literals
redirected = refl

-- a title is told as it was written; the last date is the latest, and a reload is not counted
titled : said (codes "visit\thttps://a.example/\t1\t7\ntitle\thttps://a.example\tb\\\\c\\t\n"
    ++ codes "visit\thttps://a.example/\t9\t5\npage\thttps://a.example\n")
    ≡ codes "visit\t1\tpage\t1\tfrecency\t100\nok\nvisit\t2\tpage\t1\tfrecency\t50\n"
    ++ codes "page\t1\t50\t1\t7\t0\t0\t0\thttps://a.example/\tb\\\\c\\t\t\n"
unfolding url_on_literals
titled = refl

-- ---- the bookmark tree on the store before its first command

-- items in two folders: a new one at the front, one that is moved behind the others of its folder,
-- and one that goes with its folder
tree : said (codes "folder\t2\tend\tA\t5\nfolder\t7\tend\tB\t5\nbookmark\t2\t0\thttps://a.example\tT\t6\n"
    ++ codes "separator\t2\tend\t7\nretitle\t10\tS\t8\nlist\t2\nmove\t7\t2\tend\t9\nmove\t10\t7\t0\t9\n"
    ++ codes "list\t2\nlist\t7\nremove\t7\nlist\t2\nlist\t10\n")
    ≡ codes "item\t7\nitem\t8\nitem\t9\nitem\t10\nok\n"
    ++ codes "rows\t3\nbookmark\t9\tT\thttps://a.example/\nfolder\t7\tA\t\nseparator\t10\t\t\nok\nok\n"
    ++ codes "rows\t2\nbookmark\t9\tT\thttps://a.example/\nfolder\t7\tA\t\n"
    ++ codes "rows\t2\nseparator\t10\t\t\nfolder\t8\tB\t\nok\n"
    ++ codes "rows\t1\nbookmark\t9\tT\thttps://a.example/\nrefused\t5\t10\n"
unfolding url_on_literals
tree = refl

-- each refusal of the tree, of which none takes an id
refused_items : said (codes "bookmark\t2\tend\thttps://a.example/\tT\t0\nlist\t7\nfolder\t1\tend\tA\t0\n"
    ++ codes "folder\t2\t2\tA\t0\nfolder\t2\t1\tA\t0\nmove\t8\t8\tend\t0\nmove\t2\t8\tend\t0\n"
    ++ codes "remove\t9\nseparator\t3\t0\t0\n")
    ≡ codes "item\t7\nrefused\t6\t7\nrefused\t7\t1\nrefused\t8\t2\t1\nitem\t8\nrefused\t9\t8\n"
    ++ codes "refused\t7\t2\nrefused\t5\t9\nitem\t9\n"
unfolding url_on_literals
refused_items = refl

-- ---- tags on the store before its first command

-- no page, a page without the tag, and one that gets it: a folder of the tags root by the trimmed
-- name, with an entry
tagged : said (codes "untag\thttps://a.example/\tb\nbookmark\t2\tend\thttps://a.example/\tT\t0\n"
    ++ codes "untag\thttps://a.example/\tb\ntag\thttps://a.example\t b \t5\npage\thttps://a.example/\n"
    ++ codes "list\t4\nlist\t8\n")
    ≡ codes "refused\t4\nitem\t7\nrefused\t18\nok\n"
    ++ codes "page\t1\t140\t0\t-\t0\t0\t1\thttps://a.example/\t\tb\n"
    ++ codes "rows\t1\nfolder\t8\tb\t\nrows\t1\nbookmark\t9\t\thttps://a.example/\n"
unfolding url_on_literals
tagged = refl
