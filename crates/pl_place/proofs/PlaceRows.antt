-- Worked rows of place texts.
use Rattle.std.proofs.Common.{◌≡◌, ℕ, pos, negsuc, false, List, [], ◌∷◌, Some, None, map, refl}
use Rattle.std.specs.Prelude.{codes}
use Rattle.std.specs.Option.{option_and_then}
use Rattle.std.specs.Str.{chars, is_utf8}
use lib.Utf8.{encode}
use Rattle.percent_encoding.proofs.OnLiterals.{percent_encoding_on_literals}
use Rattle.pl_base.specs.declared.transition.Transition.TheVariants.{Link, RedirectTemporary}
use Rattle.pl_base.specs.NumberText.{number_32_of}
use Rattle.pl_base.specs.Store.{item_id}
use Rattle.pl_place.specs.declared.key.Key.TheVariants as key
use Rattle.pl_place.specs.declared.kinds.TimeRef.TheVariants.{Epoch, Today}
use Rattle.pl_place.specs.declared.sort.Direction.TheVariants.{Descending}
use Rattle.pl_place.specs.declared.sort.Sort.TheVariants.{By}
use Rattle.pl_place.specs.declared.sort.SortKey.TheVariants.{Frecency}
use Rattle.pl_words.specs.TagLists.{firsts}
use Rattle.pl_place.specs.PlaceText.{all_told, by_number, is_told, pieces_of, refused_piece, told, with_time}
use Rattle.pl_place.specs.QueryForm.{is_same_item}
use Rattle.pl_place.specs.Values.{count_asked, count_of, domain_of, parent_of, sort_of, text_of, time_of}
use Rattle.pl_place.specs.Values.{time_ref_of, transition_of}

-- ---- what is refused

no_place : refused_piece (codes "http:sort=9") ≡ Some 0
no_place = refl

nothing_said : refused_piece (codes "place:") ≡ None
unfolding percent_encoding_on_literals
nothing_said = refl

-- no order has the code 9
no_order : refused_piece (codes "place:sort=9") ≡ Some 1
unfolding percent_encoding_on_literals
no_order = refl

-- an empty piece counts, and so does one whose key is not known
empty_counts : refused_piece (codes "place:&foo=1&sort=9&sort=10") ≡ Some 3
unfolding percent_encoding_on_literals
empty_counts = refl

-- a key is not decoded, so this one is not known
key_stays : refused_piece (codes "place:%73ort=9") ≡ None
unfolding percent_encoding_on_literals
key_stays = refl

leading_zero : refused_piece (codes "place:maxResults=03") ≡ Some 1
unfolding percent_encoding_on_literals
leading_zero = refl

no_value : refused_piece (codes "place:maxResults") ≡ Some 1
unfolding percent_encoding_on_literals
no_value = refl

no_text : refused_piece (codes "place:terms=%FF") ≡ Some 1
unfolding percent_encoding_on_literals is_utf8 chars encode
no_text = refl

past_64_bits :
    map refused_piece
    (codes "place:beginTime=9223372036854775808" ∷ codes "place:beginTime=-9223372036854775809" ∷ [])
    ≡ Some 1 ∷ Some 1 ∷ []
unfolding percent_encoding_on_literals
past_64_bits = refl

-- ---- what is read

whole : List ℕ
whole = codes "place:maxResults=3&sort=22&foo=1&terms=a b"

taken : refused_piece whole ≡ None
unfolding whole percent_encoding_on_literals is_utf8 chars encode
taken = refl

results : told number_32_of key.MaxResults (pieces_of whole) ≡ Some 3
unfolding whole percent_encoding_on_literals
results = refl

order : told sort_of key.Sort (pieces_of whole) ≡ Some (By Frecency Descending)
unfolding whole percent_encoding_on_literals
order = refl

terms : told text_of key.Terms (pieces_of whole) ≡ Some (codes "a b")
unfolding whole percent_encoding_on_literals is_utf8 chars encode
terms = refl

-- a value goes on behind further `=`, and its escapes are decoded once
escapes : told text_of key.Terms (pieces_of (codes "place:terms=a%3D=%2541")) ≡ Some (codes "a==%41")
unfolding percent_encoding_on_literals is_utf8 chars encode
escapes = refl

first_of_64_bits :
    told time_of key.BeginTime (pieces_of (codes "place:beginTime=-9223372036854775808"))
    ≡ Some (negsuc 9223372036854775807)
unfolding percent_encoding_on_literals
first_of_64_bits = refl

last_of_64_bits :
    told time_of key.EndTime (pieces_of (codes "place:endTime=9223372036854775807"))
    ≡ Some (pos 9223372036854775807)
unfolding percent_encoding_on_literals
last_of_64_bits = refl

minus_0 : told time_of key.BeginTime (pieces_of (codes "place:beginTime=-0")) ≡ Some (pos 0)
unfolding percent_encoding_on_literals
minus_0 = refl

-- a reference without its time says nothing
without_time :
    with_time None (told time_ref_of key.BeginTimeRef (pieces_of (codes "place:beginTimeRef=1"))) ≡ Epoch
unfolding percent_encoding_on_literals
without_time = refl

with_its_time :
    with_time (Some (pos 0)) (told time_ref_of key.BeginTimeRef (pieces_of (codes "place:beginTimeRef=1"))) ≡ Today
unfolding percent_encoding_on_literals
with_its_time = refl

-- a number of visits below 0 is of its form, and no condition
no_condition :
    option_and_then count_asked (told count_of key.MaxVisits (pieces_of (codes "place:maxVisits=-1"))) ≡ None
unfolding percent_encoding_on_literals
no_condition = refl

-- the last of a key that does not gather counts
last_counts : is_told key.OnlyBookmarked (pieces_of (codes "place:onlyBookmarked=true&onlyBookmarked=0")) ≡ false
unfolding percent_encoding_on_literals
last_counts = refl

domain_in_lower_case :
    told domain_of key.Domain (pieces_of (codes "place:domain=Mozilla.ORG")) ≡ Some (codes "mozilla.org")
unfolding percent_encoding_on_literals is_utf8 chars encode
domain_in_lower_case = refl

-- of a key that gathers, all count, each once
folders :
    firsts is_same_item
    (all_told parent_of key.Parent (pieces_of (codes "place:parent=menu________&parent=7&parent=2")))
    ≡ item_id 2 ∷ item_id 7 ∷ []
unfolding percent_encoding_on_literals
folders = refl

by_their_numbers :
    by_number (all_told transition_of key.Transition (pieces_of (codes "place:transition=6&transition=1&transition=6")))
    ≡ Link ∷ RedirectTemporary ∷ []
unfolding percent_encoding_on_literals
by_their_numbers = refl
