-- Worked rows of the lines of queries and of the address bar, and of their replies, to texts that
-- were worked out by hand.
use Rattle.std.proofs.Common.{◌≡◌, ℕ, List, ◌++◌, refl, [], ◌∷◌, Option, None, Some, Ok, Err}
use Rattle.std.specs.Prelude.{codes, pos, negsuc, ℤ}
use Rattle.std.specs.Fmt.{digits}
use Rattle.url.proofs.OnLiterals.{url_on_literals}
use Rattle.pl_base.specs.declared.date.Micros.{Micros}
use Rattle.pl_base.specs.declared.refusal.Refusal.TheVariants.{BadLine, BadQuery}
use Rattle.pl_place.specs.ReadQuery.{query_of}
use Rattle.pl_query.specs.declared.result_row.ResultRow.{ResultRow}
use Rattle.pl_step.specs.declared.command.Command.TheVariants.{Query, Place, Bar, Fill}
use Rattle.pl_step.specs.declared.reply.BarRow.{BarRow}
use Rattle.pl_step.specs.declared.reply.Reply.TheVariants.{Rows, NoFill, Refused}
use Rattle.pl_step.specs.declared.reply.Reply.TheVariants.{Place as PlaceReply, Bar as BarReply, Fill as FillReply}
use Rattle.pl_script.specs.Reply.{reply_text}
use Rattle.pl_script.specs.Script.{script}

-- ---- what lines are read as

-- a text that holds a query without conditions
queries : script (codes "query\tplace:\nplace\tplace:\n") ≡ Ok (Query (query_of [])) ∷ Ok (Place (query_of [])) ∷ []
unfolding url_on_literals
queries = refl

-- the piece that is not of its form, and 0 where the text does not begin as it has to
no_queries : script (codes "query\tplace:sort=9\nquery\tplace:&sort=9\nquery\tx\nplace\tplace:sort=9\nplace\t\n")
    ≡ Err (BadQuery 1) ∷ Err (BadQuery 2) ∷ Err (BadQuery 0) ∷ Err (BadQuery 1) ∷ Err (BadQuery 0) ∷ []
unfolding url_on_literals
no_queries = refl

-- columns of what is missing, not of its form or too many, before the text is read
faulty_queries : script (codes "query\nquery\tx\\q\nquery\tx\t\nplace\nplace\t\\\nplace\tplace:\tx\n")
    ≡ Err (BadLine 6) ∷ Err (BadLine 7) ∷ Err (BadLine 9) ∷ Err (BadLine 6) ∷ Err (BadLine 7) ∷ Err (BadLine 14) ∷ []
unfolding url_on_literals
faulty_queries = refl

-- the least and the greatest number of pages; a text may be empty
bars : script (codes "bar\t1\ta\\tb\nbar\t1000\t\n") ≡ Ok (Bar 1 (codes "a\tb")) ∷ Ok (Bar 1_000 []) ∷ []
unfolding url_on_literals
bars = refl

-- columns of what is missing, not of its form or too many
faulty_bars : script (codes "bar\t0\ta\nbar\t1001\ta\nbar\t01\ta\nbar\t-1\ta\nbar\t\ta\nbar\t18446744073709551617\ta\n"
    ++ codes "bar\nbar\t10\nbar\t10\t\\x\nbar\t10\ta\t\n")
    ≡ Err (BadLine 5) ∷ Err (BadLine 5) ∷ Err (BadLine 5) ∷ Err (BadLine 5) ∷ Err (BadLine 5) ∷ Err (BadLine 5)
    ∷ Err (BadLine 4) ∷ Err (BadLine 7) ∷ Err (BadLine 8) ∷ Err (BadLine 10) ∷ []
unfolding url_on_literals
faulty_bars = refl

fills : script (codes "fill\ta.ex\nfill\t\nfill\nfill\ta\\\nfill\ta\tb\n")
    ≡ Ok (Fill (codes "a.ex")) ∷ Ok (Fill []) ∷ Err (BadLine 5) ∷ Err (BadLine 6) ∷ Err (BadLine 8) ∷ []
unfolding url_on_literals
fills = refl

-- ---- texts of replies

abbrev found : ℕ → List ℕ → List ℕ → Option Micros → ℕ → ℤ → List ℕ → ResultRow
found id url title date count frecency tags = record {
  id = id;
  url = url;
  title = title;
  date = date;
  count = count;
  frecency = frecency;
  tags = tags;
}

-- a page that was never visited has no date; each text has the four escapes
found_rows : reply_text (Rows (found 3 (codes "data:,\\") (codes "a\tb") None 2 (negsuc 0) (codes "x,y\n")
    ∷ found 12 (codes "about:blank") [] (Some (record { 0 = 7 })) 0 (pos 100) [] ∷ []))
    ≡ codes "rows\t2\nrow\t3\tdata:,\\\\\ta\\tb\t-\t2\t-1\tx,y\\n\nrow\t12\tabout:blank\t\t7\t0\t100\t\n"
unfolding digits
found_rows = refl

abbrev offered : ℕ → ℤ → List ℕ → List ℕ → BarRow
offered id frecency url title = record { id = record { 0 = id }; frecency = frecency; url = url; title = title }

offered_pages : reply_text (BarReply (offered 3 (pos 2_000) (codes "https://a.example/") (codes "A\r")
    ∷ offered 12 (negsuc 0) (codes "data:,\\") [] ∷ []))
    ≡ codes "rows\t2\npage\t3\t2000\thttps://a.example/\tA\\r\npage\t12\t-1\tdata:,\\\\\t\n"
unfolding digits
offered_pages = refl

nothing_found : reply_text (Rows []) ≡ codes "rows\t0\n"
unfolding digits
nothing_found = refl

nothing_offered : reply_text (BarReply []) ≡ codes "rows\t0\n"
unfolding digits
nothing_offered = refl

canonical_text : reply_text (PlaceReply (codes "place:terms=a\\b")) ≡ codes "place\tplace:terms=a\\\\b\n"
canonical_text = refl

filled : reply_text (FillReply (codes "a.example/") 2_100) ≡ codes "fill\ta.example/\t2100\n"
unfolding digits
filled = refl

not_filled : reply_text NoFill ≡ codes "nofill\n"
not_filled = refl

no_query : reply_text (Refused (BadQuery 18_446_744_073_709_551_615)) ≡ codes "refused\t11\t18446744073709551615\n"
unfolding digits
no_query = refl
