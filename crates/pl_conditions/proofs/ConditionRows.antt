-- Conditions at values that are worked out by hand.
use Rattle.std.proofs.Common.{◌≡◌, true, false, [], ◌∷◌, Some, None, codes, negsuc, pos, refl}
use lib.Utf8.{encode}
use Rattle.std.specs.Str.{chars}
use Rattle.caseless.proofs.Computing.{caseless}
use Rattle.pl_base.specs.Store.{Store, item_id, opening, root_folder}
use Rattle.pl_place.specs.declared.kinds.TimeRef.TheVariants.{Epoch, Today, Now}
use Rattle.pl_conditions.specs.Conditions.{is_host_in, is_in_parents, is_not_after, is_not_before, words_asked}

-- ---- hosts

the_domain_itself : is_host_in (codes "mozilla.org") false (codes "mozilla.org") ≡ true
the_domain_itself = refl

below_the_domain : is_host_in (codes "mozilla.org") false (codes "docs.mozilla.org") ≡ true
below_the_domain = refl

the_host_alone : is_host_in (codes "mozilla.org") true (codes "docs.mozilla.org") ≡ false
the_host_alone = refl

another_name_that_ends_so : is_host_in (codes "mozilla.org") false (codes "notmozilla.org") ≡ false
another_name_that_ends_so = refl

a_part_of_the_domain : is_host_in (codes "mozilla.org") false (codes "org") ≡ false
a_part_of_the_domain = refl

no_host : is_host_in (codes "mozilla.org") false [] ≡ false
no_host = refl

-- ---- times, on the second day of 1970

second_day : Store
second_day = record opening { day = record { 0 = 1 } }

a_moment_before_the_day : is_not_before second_day (Some (negsuc 0)) Today (record { 0 = 86_399_999_999 }) ≡ true
unfolding second_day
a_moment_before_the_day = refl

two_moments_before_the_day : is_not_before second_day (Some (negsuc 0)) Today (record { 0 = 86_399_999_998 }) ≡ false
unfolding second_day
two_moments_before_the_day = refl

the_last_moment_of_the_day : is_not_after second_day (Some (pos 0)) Now (record { 0 = 172_799_999_999 }) ≡ true
unfolding second_day
the_last_moment_of_the_day = refl

the_moment_after_the_day : is_not_after second_day (Some (pos 0)) Now (record { 0 = 172_800_000_000 }) ≡ false
unfolding second_day
the_moment_after_the_day = refl

before_all_dates : is_not_before second_day (Some (negsuc 86_400_000_000)) Today (record { 0 = 0 }) ≡ true
unfolding second_day
before_all_dates = refl

no_date_is_so_early : is_not_after second_day (Some (negsuc 0)) Epoch (record { 0 = 0 }) ≡ false
unfolding second_day
no_date_is_so_early = refl

no_time : is_not_before second_day None Epoch (record { 0 = 0 }) ≡ true
no_time = refl

-- ---- folders

a_child_of_one : is_in_parents opening (item_id 5 ∷ item_id 1 ∷ []) (root_folder 3 []) ≡ true
a_child_of_one = refl

a_child_of_none : is_in_parents opening (item_id 3 ∷ []) (root_folder 3 []) ≡ false
a_child_of_none = refl

no_child : is_in_parents opening (item_id 1 ∷ []) (root_folder 1 []) ≡ false
no_child = refl

no_folders : is_in_parents opening [] (root_folder 1 []) ≡ true
no_folders = refl

-- ---- words

two_words : words_asked (Some (codes " Fire  FOX ")) ≡ codes "fire" ∷ codes "fox" ∷ []
unfolding caseless chars encode
two_words = refl

blanks_alone : words_asked (Some (codes "  ")) ≡ []
unfolding caseless chars encode
blanks_alone = refl

no_terms : words_asked None ≡ []
no_terms = refl
