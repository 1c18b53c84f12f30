-- The fields of each line of a reply are read from its text again.
use Rattle.std.proofs.Common.{◌≡◌, ◌∙◌, ◌<◌, ◌≤◌, ◌+◌, ◌-◌, ◌%◌, ◌/◌, ℕ, Bool, true, false, List, [], ◌∷◌, ◌++◌, ap}
use Rattle.std.proofs.Common.{append_assoc, arith, eqb, get_or, length, length-append, map, refl, subst, sym, zero, suc}
use Rattle.std.proofs.Common.{drop, Option, None, Some, take, ⊎_elim}
use Rattle.std.specs.Prelude.{ℤ, pos, negsuc, codes, decimal, if◌then◌else◌, nat_le, nat_lt}
use Rattle.std.specs.Fmt.{digits, digits_onto, digit_glyph, signed_decimal}
use Rattle.std.specs.List.{All, flat_map, join_with_byte, list_all, slice_split}
use Rattle.std.specs.Str.Lines.{lines, lines_of_parts, strip_carriage_return}
use Rattle.std.proofs.lemmas.Bool.{cases_eq, cases_lt, cond-false, ne_eqb}
use Rattle.std.proofs.lemmas.Bool.Decides.{nat_tests}
use Rattle.std.proofs.lemmas.List.{get_or_past}
use Rattle.std.proofs.lemmas.List.Elements.{All-append, All-cons, All-get_or, All-head, All-nil, All-tail, All-weaker}
use Rattle.std.proofs.lemmas.List.Sums.{AllPass-from_list_all}
use Rattle.std.proofs.lemmas.List.Splits.{length-slice_split, slice_split_at, slice_split_none}
use Rattle.pl_base.specs.declared.date.Micros.{Micros}
use Rattle.pl_base.specs.declared.id.PageId.{PageId}
use Rattle.pl_base.specs.declared.item.ItemKind.{ItemKind}
use Rattle.pl_base.specs.declared.item.ItemKind.TheVariants.{Bookmark, Folder, Separator}
use Rattle.pl_base.specs.Refusal.{refusal_number, refusal_values}
use Rattle.pl_step.specs.declared.reply.BarRow.{BarRow}
use Rattle.pl_step.specs.declared.reply.ListRow.{ListRow}
use Rattle.pl_step.specs.declared.reply.Reply.{Reply}
use Rattle.pl_step.specs.declared.reply.Reply.TheVariants.{Day, Visit, Done, Page, Origin, Stats}
use Rattle.pl_step.specs.declared.reply.Reply.TheVariants.{Removed, Item, Refused}
use Rattle.pl_step.specs.declared.reply.Reply.TheVariants.{Rows, Place, Bar, Fill, NoFill, Imported, Restored}
use Rattle.pl_step.specs.declared.reply.Reply.TheVariants.{List as ListReply}
use Rattle.pl_query.specs.declared.result_row.ResultRow.{ResultRow}
use Rattle.pl_script.specs.Reply.{AreLinesOf, IsFoundAgain, IsOfferedAgain, IsReadAgain, IsToldAgain, TellsTexts}
use Rattle.pl_script.specs.Reply.{bar_fields, found_fields, found_in, found_texts}
use Rattle.pl_script.specs.Reply.{date_text, fields_in, kind_word, line_text, more_fields, reply_fields, reply_lines}
use Rattle.pl_script.specs.Reply.{reply_text, row_fields, told_texts, told_title, told_url, truth_text}
use Rattle.pl_script.specs.Script.{escape_of, escaped, escaped_as, fields_of, text_of}

-- the byte ends no line
record Goes (b : ℕ) : Type 0 where
  lf : eqb b 10 ≡ false
  cr : eqb b 13 ≡ false

-- nor does it end a field
record Stays (b : ℕ) : Type 0 where
  tab : eqb b 9 ≡ false
  goes : Goes b

abbrev Are : List (List ℕ) → Type 0
Are [] = Unit {0}
Are (field ∷ fields) = All Stays field × Are fields

-- ---- the bytes of a field

high : (b : ℕ) → 14 ≤ b → Stays b
high b above = record {
  tab = ne_eqb b 9 (omega arith);
  goes = record { lf = ne_eqb b 10 (omega arith); cr = ne_eqb b 13 (omega arith) };
}

glyph : (d : ℕ) → Stays (digit_glyph false d)
glyph d = either (nat_lt d 10)
  where
    either : (b : Bool) → Stays (if b then 48 + d else 87 + d)
    either true = high (48 + d) (omega arith)
    either false = high (87 + d) (omega arith)

of_digits : (k n : ℕ) (acc : List ℕ) → All Stays acc → All Stays (digits_onto k 10 false n acc)
of_digits zero n acc stay = stay
of_digits (suc k) n acc stay =
    let more = All-cons Stays (digit_glyph false (n % 10)) acc (glyph (n % 10)) stay in
    either (eqb (n / 10) 0) _ _ more (of_digits k (n / 10) (digit_glyph false (n % 10) ∷ acc) more)
  where
    either : (b : Bool) (xs ys : List ℕ) → All Stays xs → All Stays ys → All Stays (if b then xs else ys)
    either true xs ys all rest = all
    either false xs ys all rest = rest

of_number : (n : ℕ) → All Stays (decimal n)
unfolding digits
of_number n = of_digits 64 n [] (All-nil Stays)

of_signed : (z : ℤ) → All Stays (signed_decimal z)
of_signed (pos n) = of_number n
of_signed (negsuc n) = All-cons Stays 45 (decimal (suc n)) (high 45 (omega arith)) (of_number (suc n))

of_date : (date : Option Micros) → All Stays (date_text date)
of_date None = All-cons Stays 45 [] (high 45 (omega arith)) (All-nil Stays)
of_date (Some date) = of_number date.0

of_truth : (b : Bool) → All Stays (truth_text b)
of_truth true = All-cons Stays 49 [] (high 49 (omega arith)) (All-nil Stays)
of_truth false = All-cons Stays 48 [] (high 48 (omega arith)) (All-nil Stays)

of_word : (bytes : List ℕ) → list_all (nat_le 14) bytes ≡ true → All Stays bytes
of_word bytes is = All-weaker (λ b. nat_le 14 b ≡ true) Stays (λ b above. high b (grind (arith, nat_tests))) bytes
    (AllPass-from_list_all (nat_le 14) bytes is)

one_escaped : (b : ℕ) → All Stays (escaped_as b (escape_of b))
one_escaped b =
    let at = λ (c : ℕ) (is : b ≡ c) (stay : All Stays (escaped_as c (escape_of c))).
    subst (λ x. All Stays (escaped_as x (escape_of x))) (sym is) stay in
    ⊎_elim (λ is. at 92 is (of_word (92 ∷ 92 ∷ []) refl)) (λ backslash.
    ⊎_elim (λ is. at 9 is (of_word (92 ∷ 116 ∷ []) refl)) (λ tab.
    ⊎_elim (λ is. at 10 is (of_word (92 ∷ 110 ∷ []) refl)) (λ lf.
    ⊎_elim (λ is. at 13 is (of_word (92 ∷ 114 ∷ []) refl)) (λ cr.
    rw (ne_eqb b 92 backslash, ne_eqb b 9 tab, ne_eqb b 10 lf, ne_eqb b 13 cr)
    (All-cons Stays b [] (record {
      tab = ne_eqb b 9 tab;
      goes = record { lf = ne_eqb b 10 lf; cr = ne_eqb b 13 cr };
    }) (All-nil Stays)))
    (cases_eq b 13)) (cases_eq b 10)) (cases_eq b 9)) (cases_eq b 92)

of_text : (text : List ℕ) → All Stays (escaped text)
of_text [] = All-nil Stays
of_text (b ∷ text) = All-append Stays (escaped_as b (escape_of b)) (escaped text) (one_escaped b) (of_text text)

of_numbers : (ns : List ℕ) → Are (map decimal ns)
of_numbers [] = tt
of_numbers (n ∷ ns) = (of_number n, of_numbers ns)

-- ---- the line

goes_on : (field : List ℕ) (fields : List (List ℕ)) → Are (field ∷ fields)
    → All Goes (join_with_byte 9 (field ∷ fields))
goes_on field [] are = All-weaker Stays Goes (λ b stay. stay.goes) field are.0
goes_on field (next ∷ fields) are =
    All-append Goes field (9 ∷ join_with_byte 9 (next ∷ fields))
    (All-weaker Stays Goes (λ b stay. stay.goes) field are.0)
    (All-cons Goes 9 (join_with_byte 9 (next ∷ fields)) (record { lf = refl; cr = refl })
    (goes_on next fields are.1))

fields_again : (field : List ℕ) (fields : List (List ℕ)) → Are (field ∷ fields)
    → slice_split (λ b. eqb b 9) (join_with_byte 9 (field ∷ fields)) ≡ field ∷ fields
fields_again field [] are =
    slice_split_none (λ b. eqb b 9) field (All-weaker Stays (λ b. eqb b 9 ≡ false) (λ b stay. stay.tab) field are.0)
fields_again field (next ∷ fields) are =
    slice_split_at (λ b. eqb b 9) field 9 (join_with_byte 9 (next ∷ fields))
    (All-weaker Stays (λ b. eqb b 9 ≡ false) (λ b stay. stay.tab) field are.0) refl
    ∙ ap (λ more. field ∷ more) (fields_again next fields are.1)

-- the last byte is no CR
no_cr : (line : List ℕ) → All Goes line → (i : ℕ) → eqb (get_or line i 0) 13 ≡ false
no_cr line goes i =
    ⊎_elim (λ within. (All-get_or Goes line i 0 within goes).cr)
    (λ past. ap (λ b. eqb b 13) (get_or_past line i 0 past)) (cases_lt i (length line))

-- a line and those behind it
first_of : (line : List ℕ) (parts : List (List ℕ)) → 0 < length parts
    → lines_of_parts (line ∷ parts) ≡ strip_carriage_return line ∷ lines_of_parts parts
first_of line [] some = absurd (omega (arith, some))
first_of line (part ∷ parts) some = refl

first_line : (line more : List ℕ) → All Goes line → lines (line ++ 10 ∷ more) ≡ line ∷ lines more
first_line line more goes =
    let parts = slice_split (λ b. eqb b 10) more in
    let some = length-slice_split (λ b. eqb b 10) more in
    ap lines_of_parts (slice_split_at (λ b. eqb b 10) line 10 more
    (All-weaker Goes (λ b. eqb b 10 ≡ false) (λ b go. go.lf) line goes) refl)
    ∙ first_of line parts (omega (arith, some))
    ∙ ap (λ l. l ∷ lines_of_parts parts) (cond-false _ _ _ (no_cr line goes (length line - 1)))

-- each has a field, and the bytes of its fields stay in them
abbrev AreLines : List (List (List ℕ)) → Type 0
AreLines [] = Unit {0}
AreLines ([] ∷ more) = ⊥
AreLines ((field ∷ fields) ∷ more) = Are (field ∷ fields) × AreLines more

lines_again : (all : List (List (List ℕ))) → AreLines all → AreLinesOf all (flat_map line_text all)
lines_again [] are = refl
lines_again ([] ∷ more) are = absurd are
lines_again ((field ∷ fields) ∷ more) are =
    let line = join_with_byte 9 (field ∷ fields) in
    let behind = flat_map line_text more in
    ap fields_in (append_assoc line (10 ∷ []) behind)
    ∙ ap (map (λ l. (fields_of l).left)) (first_line line behind (goes_on field fields are.0))
    ∙ ap (λ l. l ∷ fields_in behind) (fields_again field fields are.0)
    ∙ ap (λ l. (field ∷ fields) ∷ l) (lines_again more are.1)

-- ---- the lines of a reply

of_kind : (kind : ItemKind) → All Stays (kind_word kind)
of_kind Bookmark = of_word (codes "bookmark") refl
of_kind Folder = of_word (codes "folder") refl
of_kind Separator = of_word (codes "separator") refl

of_rows : (rows : List ListRow) → AreLines (map row_fields rows)
of_rows [] = tt
of_rows (row ∷ rows) =
    let texts : Are (map escaped (told_texts row)) =
    (of_text (told_title row.kind row.title), (of_text (told_url row.kind row.url), tt)) in
    ((of_kind row.kind, (of_number row.id.0, texts)), of_rows rows)

of_found : (rows : List ResultRow) → AreLines (map found_fields rows)
of_found [] = tt
of_found (row ∷ rows) =
    let numbers : Are (date_text row.date ∷ decimal row.count ∷ signed_decimal row.frecency ∷ escaped row.tags ∷ []) =
    (of_date row.date, (of_number row.count, (of_signed row.frecency, (of_text row.tags, tt)))) in
    ((of_word (codes "row") refl, (of_number row.id, (of_text row.url, (of_text row.title, numbers)))), of_found rows)

of_bar : (rows : List BarRow) → AreLines (map bar_fields rows)
of_bar [] = tt
of_bar (row ∷ rows) =
    let texts : Are (escaped row.url ∷ escaped row.title ∷ []) = (of_text row.url, (of_text row.title, tt)) in
    ((of_word (codes "page") refl, (of_number row.id.0, (of_signed row.frecency, texts))), of_bar rows)

-- what is told of a tree that was taken in
of_tree_counts : (items tags skipped : ℕ) → Are (codes "items" ∷ decimal items ∷ codes "tags" ∷ decimal tags
    ∷ codes "skipped" ∷ decimal skipped ∷ [])
of_tree_counts items tags skipped =
    let left : Are (codes "skipped" ∷ decimal skipped ∷ []) = (of_word (codes "skipped") refl, (of_number skipped, tt)) in
    let made : Are (codes "tags" ∷ decimal tags ∷ codes "skipped" ∷ decimal skipped ∷ []) =
    (of_word (codes "tags") refl, (of_number tags, left)) in
    (of_word (codes "items") refl, (of_number items, made))

of_reply : (reply : Reply) → AreLines (reply_lines reply)
of_reply (Day day changed) =
    let moved : Are (codes "changed" ∷ decimal changed ∷ []) =
    (of_word (codes "changed") refl, (of_number changed, tt)) in
    ((of_word (codes "day") refl, (of_number day.0, moved)), tt)
of_reply (Visit id page frecency) =
    let scored : Are (codes "frecency" ∷ signed_decimal frecency ∷ []) =
    (of_word (codes "frecency") refl, (of_signed frecency, tt)) in
    ((of_word (codes "visit") refl, (of_number id.0, (of_word (codes "page") refl, (of_number page.0, scored)))), tt)
of_reply Done = ((of_word (codes "ok") refl, tt), tt)
of_reply (Page id frecency count last typed hidden bookmarked url title tags) =
    let texts : Are (escaped url ∷ escaped title ∷ escaped tags ∷ []) =
    (of_text url, (of_text title, (of_text tags, tt))) in
    let marks : Are (truth_text typed ∷ truth_text hidden ∷ truth_text bookmarked
    ∷ escaped url ∷ escaped title ∷ escaped tags ∷ []) =
    (of_truth typed, (of_truth hidden, (of_truth bookmarked, texts))) in
    let numbers : Are (decimal id.0 ∷ signed_decimal frecency ∷ decimal count ∷ date_text last
    ∷ truth_text typed ∷ truth_text hidden ∷ truth_text bookmarked
    ∷ escaped url ∷ escaped title ∷ escaped tags ∷ []) =
    (of_number id.0, (of_signed frecency, (of_number count, (of_date last, marks)))) in
    ((of_word (codes "page") refl, numbers), tt)
of_reply (Origin prefix host reversed total pages passes) =
    let numbers : Are (decimal total ∷ decimal pages ∷ truth_text passes ∷ []) =
    (of_number total, (of_number pages, (of_truth passes, tt))) in
    ((of_word (codes "origin") refl, (of_text prefix, (of_text host, (of_text reversed, numbers)))), tt)
of_reply (Stats pages visits items origins sum slots) =
    let totals : Are (codes "origins" ∷ decimal origins ∷ codes "sum" ∷ decimal sum ∷ codes "slots" ∷ decimal slots ∷ []) = (
      of_word (codes "origins") refl,
      (
        of_number origins,
        (
          of_word (codes "sum") refl,
          (
            of_number sum,
            (of_word (codes "slots") refl, (of_number slots, tt)),
          ),
        ),
      ),
    ) in
    let rows : Are (codes "visits" ∷ decimal visits ∷ codes "items" ∷ decimal items
    ∷ codes "origins" ∷ decimal origins ∷ codes "sum" ∷ decimal sum ∷ codes "slots" ∷ decimal slots ∷ []) =
    (of_word (codes "visits") refl, (of_number visits, (of_word (codes "items") refl, (of_number items, totals)))) in
    ((of_word (codes "stats") refl, (of_word (codes "pages") refl, (of_number pages, rows))), tt)
of_reply (Removed visits pages) =
    let gone : Are (codes "pages" ∷ decimal pages ∷ []) = (of_word (codes "pages") refl, (of_number pages, tt)) in
    ((of_word (codes "removed") refl, (of_word (codes "visits") refl, (of_number visits, gone))), tt)
of_reply (Item id) = ((of_word (codes "item") refl, (of_number id.0, tt)), tt)
of_reply (ListReply rows) = ((of_word (codes "rows") refl, (of_number (length rows), tt)), of_rows rows)
of_reply (Rows rows) = ((of_word (codes "rows") refl, (of_number (length rows), tt)), of_found rows)
of_reply (Place text) = ((of_word (codes "place") refl, (of_text text, tt)), tt)
of_reply (Bar rows) = ((of_word (codes "rows") refl, (of_number (length rows), tt)), of_bar rows)
of_reply (Fill group total) = ((of_word (codes "fill") refl, (of_text group, (of_number total, tt))), tt)
of_reply NoFill = ((of_word (codes "nofill") refl, tt), tt)
of_reply (Imported items tags skipped) = ((of_word (codes "imported") refl, of_tree_counts items tags skipped), tt)
of_reply (Restored items tags skipped) = ((of_word (codes "restored") refl, of_tree_counts items tags skipped), tt)
of_reply (Refused refusal) =
    ((of_word (codes "refused") refl, (of_number (refusal_number refusal), of_numbers (refusal_values refusal))), tt)

pub read_again : (reply : Reply) (text : List ℕ) → text ≡ reply_text reply → AreLinesOf (reply_lines reply) text
read_again reply text is =
    subst (AreLinesOf (reply_lines reply)) (sym is) (lines_again (reply_lines reply) (of_reply reply))

pub never_empty : (reply : Reply) (text : List ℕ) → text ≡ reply_text reply → 0 < length text
never_empty reply text is =
    rw is (omega (
      arith,
      length-append (line_text (reply_fields reply)) (flat_map line_text (more_fields reply)),
      length-append (join_with_byte 9 (reply_fields reply)) (10 ∷ []),
    ))

-- the texts of a page's line
pub tells_texts : (id : PageId) (frecency : ℤ) (count : ℕ) (last : Option Micros) (typed hidden bookmarked : Bool)
    (url title tags text : List ℕ)
    → text ≡ reply_text (Page id frecency count last typed hidden bookmarked url title tags)
    → IsReadAgain url → IsReadAgain title → IsReadAgain tags
    → TellsTexts (Page id frecency count last typed hidden bookmarked url title tags) text
tells_texts id frecency count last typed hidden bookmarked url title tags text is u ti ta =
    let one = read_again (Page id frecency count last typed hidden bookmarked url title tags) text is in
    ap (map (λ fields. map text_of (drop 8 fields))) one
    ∙ rw (u, ti, ta) refl

-- the texts of an origin's line
pub tells_origin : (prefix host reversed : List ℕ) (total pages : ℕ) (passes : Bool) (text : List ℕ)
    → text ≡ reply_text (Origin prefix host reversed total pages passes)
    → IsReadAgain prefix → IsReadAgain host → IsReadAgain reversed
    → TellsTexts (Origin prefix host reversed total pages passes) text
tells_origin prefix host reversed total pages passes text is p h r =
    let one = read_again (Origin prefix host reversed total pages passes) text is in
    ap (map (λ fields. map text_of (take 3 (drop 1 fields)))) one ∙ rw (p, h, r) refl

told_again : (rows : List ListRow) → All IsToldAgain rows
    → map (λ fields. map text_of (drop 2 fields)) (map row_fields rows)
    ≡ map (λ row. map (λ told. Some told) (told_texts row)) rows
told_again [] told = refl
told_again (row ∷ rows) told =
    let first = All-head IsToldAgain row rows told in
    rw (first.title, first.url) (ap (λ more. (Some (told_title row.kind row.title)
    ∷ Some (told_url row.kind row.url) ∷ []) ∷ more) (told_again rows (All-tail IsToldAgain row rows told)))

-- those of the lines of a list
pub tells_rows : (rows : List ListRow) (text : List ℕ) → text ≡ reply_text (ListReply rows) → All IsToldAgain rows
    → TellsTexts (ListReply rows) text
tells_rows rows text is told =
    ap (λ all. map (λ fields. map text_of (drop 2 fields)) (drop 1 all)) (read_again (ListReply rows) text is)
    ∙ told_again rows told

found_again : (rows : List ResultRow) → All IsFoundAgain rows
    → map (λ fields. map text_of (found_in fields)) (map found_fields rows)
    ≡ map (λ row. map (λ told. Some told) (found_texts row)) rows
found_again [] told = refl
found_again (row ∷ rows) told =
    let first = All-head IsFoundAgain row rows told in
    rw (first.url, first.title, first.tags)
    (ap (λ more. (Some row.url ∷ Some row.title ∷ Some row.tags ∷ []) ∷ more)
    (found_again rows (All-tail IsFoundAgain row rows told)))

-- those of the rows that answer a query
pub tells_found : (rows : List ResultRow) (text : List ℕ) → text ≡ reply_text (Rows rows) → All IsFoundAgain rows
    → TellsTexts (Rows rows) text
tells_found rows text is told =
    ap (λ all. map (λ fields. map text_of (found_in fields)) (drop 1 all)) (read_again (Rows rows) text is)
    ∙ found_again rows told

offered_again : (rows : List BarRow) → All IsOfferedAgain rows
    → map (λ fields. map text_of (drop 3 fields)) (map bar_fields rows)
    ≡ map (λ (row : BarRow). Some row.url ∷ Some row.title ∷ []) rows
offered_again [] told = refl
offered_again (row ∷ rows) told =
    let first = All-head IsOfferedAgain row rows told in
    rw (first.url, first.title)
    (ap (λ more. (Some row.url ∷ Some row.title ∷ []) ∷ more)
    (offered_again rows (All-tail IsOfferedAgain row rows told)))

-- those of the pages that the address bar offers
pub tells_offered : (rows : List BarRow) (text : List ℕ) → text ≡ reply_text (Bar rows) → All IsOfferedAgain rows
    → TellsTexts (Bar rows) text
tells_offered rows text is told =
    ap (λ all. map (λ fields. map text_of (drop 3 fields)) (drop 1 all)) (read_again (Bar rows) text is)
    ∙ offered_again rows told

-- a canonical text
pub tells_place : (canonical text : List ℕ) → text ≡ reply_text (Place canonical) → IsReadAgain canonical
    → TellsTexts (Place canonical) text
tells_place canonical text is again =
    ap (map (λ fields. map text_of (drop 1 fields))) (read_again (Place canonical) text is) ∙ rw again refl

-- a group of hosts
pub tells_fill : (group : List ℕ) (total : ℕ) (text : List ℕ) → text ≡ reply_text (Fill group total)
    → IsReadAgain group → TellsTexts (Fill group total) text
tells_fill group total text is again =
    ap (map (λ fields. map text_of (take 1 (drop 1 fields)))) (read_again (Fill group total) text is) ∙ rw again refl
