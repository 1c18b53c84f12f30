-- The tags that commas join are read as those tags.
use Rattle.std.proofs.Common.{◌≡◌, ◌∙◌, ◌++◌, ℕ, true, false, not, List, [], ◌∷◌, Option, ap, arith, codes, refl, sym}
use Rattle.std.specs.List.{AllByRecursion, cons_option, filter, filter_map, list_all, list_any}
use Rattle.std.specs.Str.{IsUtf8}
use Rattle.std.proofs.lemmas.Bool.{and_parts, not-true, or_parts}
use Rattle.std.proofs.lemmas.Str.{IsUtf8-append, IsUtf8-from_ascii, IsUtf8-nil, is_utf8-from_IsUtf8}
use Rattle.std.proofs.lemmas.Str.Ascii.{IsAscii-cons, IsAscii-nil}
use Rattle.pl_base.specs.Good.{IsTagName}
use Rattle.pl_base.specs.Tags.{comma_joined}
use Rattle.pl_base.proofs.ListLaws.{all_stay}
use Rattle.pl_words.specs.TagLists.{each_once, firsts, is_same_tag}
use Rattle.pl_words.specs.TagName.{is_tag_name, tag_named}
use Rattle.pl_words.proofs.JoinedTags.{cut_again}
use Rattle.pl_words.proofs.TagNames.{name_trimmed}
use Rattle.pl_words.proofs.TagTests.{named_by_test, tag_is_named}
use Rattle.pl_nbread.specs.BookmarkTree.{tags_in}

all_named : (tags : List (List ℕ)) → list_all is_tag_name tags ≡ true → AllByRecursion IsTagName tags
all_named [] own = tt
all_named (tag ∷ tags) own = let parts = and_parts _ _ own in (named_by_test tag parts.0, all_named tags parts.1)

names_read : (tags : List (List ℕ)) → AllByRecursion IsTagName tags → filter_map tag_named tags ≡ tags
names_read [] named = refl
names_read (tag ∷ tags) named =
    ap (λ (o : Option (List ℕ)). cons_option o (filter_map tag_named tags))
    (tag_is_named tag tag (sym (name_trimmed tag named.0)) named.0)
    ∙ ap (λ (more : List (List ℕ)). tag ∷ more) (names_read tags named.1)

others : (tag : List ℕ) (tags : List (List ℕ)) → list_any (is_same_tag tag) tags ≡ false
    → AllByRecursion (λ y. not (is_same_tag tag y) ≡ true) tags
others tag [] none = tt
others tag (other ∷ tags) none = let parts = or_parts _ _ none in (ap not parts.0, others tag tags parts.1)

each_first : (tags : List (List ℕ)) → each_once is_same_tag tags ≡ true → firsts is_same_tag tags ≡ tags
each_first [] once = refl
each_first (tag ∷ tags) once =
    let parts = and_parts _ _ once in
    ap (λ (more : List (List ℕ)). tag ∷ filter (λ y. not (is_same_tag tag y)) more) (each_first tags parts.1)
    ∙ ap (λ (more : List (List ℕ)). tag ∷ more)
    (all_stay (λ y. not (is_same_tag tag y)) tags (others tag tags (not-true _ parts.0)))

-- no text, no tags
pub no_tags : tags_in [] ≡ []
no_tags = rw (is_utf8-from_IsUtf8 [] IsUtf8-nil) refl

pub tags_read : (tags : List (List ℕ)) → list_all is_tag_name tags ≡ true → each_once is_same_tag tags ≡ true
    → tags_in (comma_joined tags) ≡ tags
tags_read [] own once = no_tags
tags_read (tag ∷ tags) own once =
    let named = all_named (tag ∷ tags) own in
    ap (λ (parts : List (List ℕ)). firsts is_same_tag (filter_map tag_named parts)) (cut_again tag tags named)
    ∙ ap (firsts is_same_tag) (names_read (tag ∷ tags) named) ∙ each_first (tag ∷ tags) once

-- ---- their text

joined_text : (tags : List (List ℕ)) → AllByRecursion IsTagName tags → IsUtf8 (comma_joined tags)
joined_text [] named = IsUtf8-nil
joined_text (tag ∷ []) named = named.0.text
joined_text (tag ∷ next ∷ tags) named =
    IsUtf8-append tag (codes "," ++ comma_joined (next ∷ tags)) named.0.text
    (IsUtf8-append (codes ",") (comma_joined (next ∷ tags)) (IsUtf8-from_ascii (codes ",") (IsAscii-cons 44 [] (omega arith) IsAscii-nil))
    (joined_text (next ∷ tags) named.1))

pub tags_text : (tags : List (List ℕ)) → list_all is_tag_name tags ≡ true → IsUtf8 (comma_joined tags)
tags_text tags own = joined_text tags (all_named tags own)
