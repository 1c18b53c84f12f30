-- Worked rows of place texts: the numbers of what a query names, forms of values, and texts as they
-- are written again.
use Rattle.std.proofs.Common.{◌≡◌, ℕ, ◌++◌, true, false, List, [], ◌∷◌, None, Some, map, refl, replicate}
use Rattle.std.specs.Prelude.{codes, negsuc, pos}
use Rattle.std.specs.Fmt.{digits}
use Rattle.std.specs.Str.{chars, is_utf8}
use lib.Utf8.{encode}
use Rattle.caseless.proofs.Computing.{caseless}
use Rattle.percent_encoding.proofs.OnLiterals.{percent_encoding_on_literals}
use Rattle.pl_base.specs.NumberText.{number_32_of}
use Rattle.pl_base.specs.Store.{item_id}
use Rattle.pl_place.specs.declared.key.Key.TheVariants as key
use Rattle.pl_place.specs.declared.kinds.QueryType.TheVariants.{Bookmarks, History}
use Rattle.pl_place.specs.declared.kinds.ResultType.TheVariants.{Pages, Visits}
use Rattle.pl_place.specs.declared.kinds.TimeRef.TheVariants.{Epoch, Now, Today}
use Rattle.pl_place.specs.Canonical.{canonical}
use Rattle.pl_place.specs.Kinds.{query_type_at, result_type_at, sort_at, sort_number, sorts, time_ref_at}
use Rattle.pl_place.specs.PlaceText.{pieces_of, refused_piece, told}
use Rattle.pl_place.specs.ReadQuery.{query_of}
use Rattle.pl_place.specs.Values.{domain_of, root_named, signed_of, truth_of}

-- ---- numbers

codes_of_orders : map sort_number sorts
    ≡ 0 ∷ 1 ∷ 2 ∷ 3 ∷ 4 ∷ 5 ∷ 6 ∷ 7 ∷ 8 ∷ 11 ∷ 12 ∷ 13 ∷ 14 ∷ 17 ∷ 18 ∷ 21 ∷ 22 ∷ []
codes_of_orders = refl

no_orders : map sort_at (9 ∷ 10 ∷ 15 ∷ 16 ∷ 19 ∷ 20 ∷ 23 ∷ [])
    ≡ None ∷ None ∷ None ∷ None ∷ None ∷ None ∷ None ∷ []
no_orders = refl

references : map time_ref_at (0 ∷ 1 ∷ 2 ∷ 3 ∷ []) ≡ Some Epoch ∷ Some Today ∷ Some Now ∷ None ∷ []
references = refl

what_is_listed : map result_type_at (0 ∷ 1 ∷ 2 ∷ []) ≡ Some Pages ∷ Some Visits ∷ None ∷ []
what_is_listed = refl

of_what : map query_type_at (0 ∷ 1 ∷ 2 ∷ []) ≡ Some History ∷ Some Bookmarks ∷ None ∷ []
of_what = refl

-- ---- values

truth_values : map truth_of (codes "1" ∷ codes "true" ∷ codes "0" ∷ codes "false" ∷ [])
    ≡ Some true ∷ Some true ∷ Some false ∷ Some false ∷ []
truth_values = refl

no_truth_values : map truth_of (codes "True" ∷ codes "01" ∷ codes "2" ∷ codes "1 " ∷ [] ∷ [])
    ≡ None ∷ None ∷ None ∷ None ∷ None ∷ []
no_truth_values = refl

root_names_are :
    map root_named
    (codes "root________" ∷ codes "menu________" ∷ codes "toolbar_____" ∷ codes "tags________" ∷ codes "unfiled_____"
    ∷ codes "mobile______" ∷ codes "menu_______" ∷ [])
    ≡ Some (item_id 1) ∷ Some (item_id 2) ∷ Some (item_id 3) ∷ Some (item_id 4) ∷ Some (item_id 5) ∷ Some (item_id 6)
    ∷ None ∷ []
root_names_are = refl

-- the last and the first number of 32 bits with a sign, and those past them
with_a_sign :
    map (signed_of 32)
    (codes "2147483647" ∷ codes "2147483648" ∷ codes "-2147483648" ∷ codes "-2147483649" ∷ codes "-0" ∷ [])
    ≡ Some (pos 2_147_483_647) ∷ None ∷ Some (negsuc 2_147_483_647) ∷ None ∷ Some (pos 0) ∷ []
with_a_sign = refl

no_numbers : map (signed_of 32) (codes "-" ∷ codes "--1" ∷ codes "+1" ∷ codes "-01" ∷ codes "1-" ∷ [] ∷ [])
    ≡ None ∷ None ∷ None ∷ None ∷ None ∷ None ∷ []
no_numbers = refl

-- a leading zero is refused wherever a number stands
leading_zeros :
    map refused_piece
    (codes "place:parent=07" ∷ codes "place:transition=01" ∷ codes "place:type=00" ∷ codes "place:queryType=01"
    ∷ codes "place:endTimeRef=00" ∷ codes "place:minVisits=-01" ∷ codes "place:sort=022" ∷ [])
    ≡ Some 1 ∷ Some 1 ∷ Some 1 ∷ Some 1 ∷ Some 1 ∷ Some 1 ∷ Some 1 ∷ []
unfolding percent_encoding_on_literals
leading_zeros = refl

-- a hundred bytes are a tag, also between blanks, and one more are none
longest_tag :
    map refused_piece
    ((codes "place:tag=" ++ replicate 100 97) ∷ (codes "place:tag=%20" ++ replicate 100 97 ++ codes "%09")
    ∷ (codes "place:tag=" ++ replicate 101 97) ∷ [])
    ≡ None ∷ None ∷ Some 1 ∷ []
unfolding percent_encoding_on_literals is_utf8 chars encode
longest_tag = refl

-- the last piece of a key counts, also where it says nothing
last_number : told number_32_of key.MaxResults (pieces_of (codes "place:maxResults=5&sort=1&maxResults=0")) ≡ Some 0
unfolding percent_encoding_on_literals
last_number = refl

last_domain : told domain_of key.Domain (pieces_of (codes "place:domain=a&domain=B.c&Domain=d")) ≡ Some (codes "b.c")
unfolding percent_encoding_on_literals is_utf8 chars encode
last_domain = refl

-- ---- texts that are read and written again

abbrev written : List ℕ → List ℕ
written text = canonical (query_of (pieces_of text))

-- a reference of the beginning has no time in that of the end
other_time : written (codes "place:beginTimeRef=1&endTime=0") ≡ codes "place:endTime=0"
unfolding percent_encoding_on_literals digits
other_time = refl

-- the empty domain is one, and its host may be asked for
empty_domain : written (codes "place:domain=&domainIsHost=1") ≡ codes "place:domainIsHost=1&domain="
unfolding percent_encoding_on_literals is_utf8 chars encode digits
empty_domain = refl

-- of a key that gathers the first one stands, by whichever of its two names
folders_once : written (codes "place:parent=7&parent=menu________&parent=2") ≡ codes "place:parent=7&parent=2"
unfolding percent_encoding_on_literals digits
folders_once = refl

tags_taken_back : written (codes "place:tag=b&!tags=1&!tags=false") ≡ codes "place:tag=b"
unfolding percent_encoding_on_literals is_utf8 chars encode digits caseless
tags_taken_back = refl

-- empty terms are no condition, and take earlier ones back
terms_taken_back : map written (codes "place:terms=a&terms=" ∷ codes "place:terms=&terms=a" ∷ [])
    ≡ codes "place:" ∷ codes "place:terms=a" ∷ []
unfolding percent_encoding_on_literals is_utf8 chars encode digits
terms_taken_back = refl

-- a time and a number of visits are written though they say 0, and nothing else that says 0 is
zeros :
    written
    (codes "place:excludeQueries=0&maxResults=0&sort=0&type=0&queryType=0&minVisits=0&maxVisits=0&"
    ++ codes "endTime=0&endTimeRef=0")
    ≡ codes "place:endTime=0&minVisits=0&maxVisits=0"
unfolding percent_encoding_on_literals digits
zeros = refl
