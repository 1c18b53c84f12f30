-- Which texts name a tag, as a test.
use Rattle.std.proofs.Common.{◌≡◌, ◌≢◌, ◌==◌, ℕ, true, false, not, List, All, ap, Some, None}
use Rattle.std.proofs.Common.{length, ⊎_elim}
use Rattle.std.specs.List.{list_any}
use Rattle.std.proofs.lemmas.Bool.{and_from, and_parts, cases_Bool, cond-false, cond-true, le-leb, leb-true, lt-ltb}
use Rattle.std.proofs.lemmas.Bool.{ltb-true, ne_eqb, not-true}
use Rattle.std.proofs.lemmas.List.Folds.{list_any_none}
use Rattle.std.proofs.lemmas.Str.{IsUtf8-from_is_utf8, is_utf8-from_IsUtf8}
use Rattle.pl_base.specs.Good.{IsTagName}
use Rattle.pl_words.specs.TagName.{is_tag_name, tag_named, trimmed}
use Rattle.pl_words.proofs.TagNames.{no_commas}

-- a name by the test is one
pub named_by_test : (name : List ℕ) → is_tag_name name ≡ true → IsTagName name
named_by_test name is =
    let before = and_parts _ _ (and_parts _ _ is).0 in
    let commas = and_parts _ _ before.0 in
    let few = and_parts _ _ commas.0 in
    let some = and_parts _ _ few.0 in
    record {
      text = IsUtf8-from_is_utf8 name some.0;
      some = ltb-true 0 (length name) some.1;
      few = leb-true (length name) 100 few.1;
      no_comma = no_commas name (not-true (list_any (λ b. b == 44) name) commas.1);
      no_blank_before = before.1;
      no_blank_after = (and_parts _ _ is).1;
    }

no_comma_found : (name : List ℕ) → All (λ b. b ≢ 44) name → list_any (λ b. b == 44) name ≡ false
no_comma_found name none = list_any_none (λ b. b == 44) name (λ k d within. ne_eqb _ _ (none k d within))

-- each name is one by the test
pub test_of_name : (name : List ℕ) → IsTagName name → is_tag_name name ≡ true
test_of_name name tag =
    and_from _ _
    (and_from _ _
    (and_from _ _
    (and_from _ _ (and_from _ _ (is_utf8-from_IsUtf8 name tag.text) (lt-ltb 0 (length name) tag.some))
    (le-leb (length name) 100 tag.few))
    (ap not (no_comma_found name tag.no_comma)))
    tag.no_blank_before)
    tag.no_blank_after

-- ---- what a text names

pub tag_is_named : (text name : List ℕ) → name ≡ trimmed text → IsTagName name → tag_named text ≡ Some name
tag_is_named text name is tag =
    rw (← is) (cond-true _ _ _ (test_of_name name tag))

pub no_tag_is_named : (text : List ℕ) → ¬ (IsTagName (trimmed text)) → tag_named text ≡ None
no_tag_is_named text none =
    cond-false _ _ _
    (⊎_elim (λ is. absurd (none (named_by_test (trimmed text) is))) (λ no. no)
    (cases_Bool (is_tag_name (trimmed text))))
