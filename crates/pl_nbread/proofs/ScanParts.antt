-- That what was read at the front of a text was seen.
use Rattle.std.proofs.Common.{◌≡◌, ◌≢◌, ◌∙◌, ◌<◌, ◌≤◌, ℕ, zero, suc, false, List, [], ◌∷◌}
use Rattle.std.proofs.Common.{◌++◌, Some, None, ap, arith, drop, length, nat_eq, refl, subst, sym}
use Rattle.std.specs.Prelude.{codes, Option, if◌then◌else◌}
use Rattle.std.specs.Borrow.{Bor}
use Rattle.std.specs.List.{before_first, starts_with}
use Rattle.std.specs.Str.Pattern.{LacksTextAt}
use borrow.Author.Tests.{ne_eqb}
use Rattle.std.proofs.Math.Seq.{drop-nil}
use Rattle.std.proofs.lemmas.Str.Pattern.{starts_text}
use Rattle.pl_nbread.specs.declared.attributes.Attributes.{Attributes}
use Rattle.pl_nbread.specs.declared.part.Part.{Part}
use Rattle.pl_nbread.specs.declared.part.Part.TheVariants as seen
use Rattle.pl_nbread.specs.Parts.{part_of}
use Rattle.pl_nbread.specs.Scanned.{Finds, FindsAttributes, IsSeen, Sees, Tells}
use Rattle.pl_nbread.specs.Tokens.{Attribute, Read, Token, attributes, begins_with_letter, behind_comment}
use Rattle.pl_nbread.specs.Tokens.{ends_tag_name, from_first, front, is_less, tag_at, tag_or_text, tag_with}
use Rattle.pl_nbread.proofs.TokenLaws.{front-text, front_shorter, less_at-text}

-- ---- comments

not_here : (text : List ℕ) → LacksTextAt (codes "-->") text 0 → starts_with nat_eq text (codes "-->") ≡ false
not_here text lacks = sym (starts_text false (codes "-->") text lacks)

comment_on : (b : ℕ) (text : List ℕ) → LacksTextAt (codes "-->") (b ∷ text) 0
    → behind_comment (b ∷ text) ≡ behind_comment text
comment_on b text lacks =
    ap (λ v. if v then drop 2 text else behind_comment text) (not_here (b ∷ text) lacks)

-- behind the first end of a comment
pub comment_found : (at : ℕ) (text rest : List ℕ) → ((k : ℕ) → k < at → LacksTextAt (codes "-->") text k)
    → drop at text ≡ codes "-->" ++ rest → rest ≡ behind_comment text
comment_found at [] rest lacks found = absurd (omega (arith, ap length (sym (drop-nil at) ∙ found)))
comment_found zero (b ∷ text) rest lacks found = sym (ap behind_comment found)
comment_found (suc at) (b ∷ text) rest lacks found =
    comment_found at text rest (λ k l. lacks (suc k) (omega arith)) found
    ∙ sym (comment_on b text (lacks 0 (omega arith)))

pub comment_open : (text : List ℕ) → ((k : ℕ) → k ≤ length text → LacksTextAt (codes "-->") text k)
    → [] ≡ behind_comment text
comment_open [] lacks = refl
comment_open (b ∷ text) lacks =
    comment_open text (λ k l. lacks (suc k) (omega arith)) ∙ sym (comment_on b text (lacks 0 (omega arith)))

-- ---- tags

with_found : (tag : List Attribute → Token) (found : Option (Read (List Attribute))) (a : Attributes)
    (rest : Bor (List ℕ)) (part : Part) → Finds found (Some (a, rest))
    → ((all : List Attribute) → Tells a all → Sees (part_of (tag all)) part)
    → IsSeen (tag_with tag found) (part, rest)
with_found tag None a rest part finds sees = absurd finds
with_found tag (Some read) a rest part finds sees =
    record { part = sees read.what finds.0; behind = finds.1 }

with_none : (tag : List Attribute → Token) (found : Option (Read (List Attribute))) (rest : Bor (List ℕ))
    → Finds found None → rest.now ≡ [] → IsSeen (tag_with tag found) (seen.Other, rest)
with_none tag None rest finds none = record { part = tt; behind = none }
with_none tag (Some read) rest finds none = absurd finds

-- a tag whose name and attributes were read
pub tag_found : (tag : List ℕ → List Attribute → Token) (text name behind : List ℕ) (a : Attributes)
    (rest : Bor (List ℕ)) (part : Part) → name ≡ before_first ends_tag_name text
    → behind ≡ from_first ends_tag_name text → FindsAttributes behind (Some (a, rest))
    → ((all : List Attribute) → Tells a all → Sees (part_of (tag name all)) part)
    → IsSeen (tag_at tag text) (part, rest)
tag_found tag text name behind a rest part name_is behind_is finds sees =
    subst (λ n. IsSeen (tag_with (tag n) (attributes (from_first ends_tag_name text))) (part, rest)) name_is
    (with_found (tag name) (attributes (from_first ends_tag_name text)) a rest part
    (subst (λ b. FindsAttributes b (Some (a, rest))) behind_is finds) sees)

-- a tag that the text's end cuts off
pub tag_none : (tag : List ℕ → List Attribute → Token) (text behind : List ℕ) (rest : Bor (List ℕ))
    → behind ≡ from_first ends_tag_name text → FindsAttributes behind None → rest.now ≡ []
    → IsSeen (tag_at tag text) (seen.Other, rest)
tag_none tag text behind rest behind_is finds none =
    with_none (tag (before_first ends_tag_name text)) (attributes (from_first ends_tag_name text)) rest
    (subst (λ b. FindsAttributes b None) behind_is finds) none

-- ---- text

-- `<` that begins nothing
pub less_seen : (text less behind : Bor (List ℕ)) → ((rest : List ℕ) → text.now ≢ 33 ∷ rest)
    → ((rest : List ℕ) → text.now ≢ 47 ∷ rest) → begins_with_letter text.now ≡ false → less.now ≡ 60 ∷ []
    → behind.now ≡ text.now → IsSeen (tag_or_text text.now) (seen.Text less, behind)
less_seen text less behind bang slash letter less_is behind_is =
    choose text.now bang slash letter behind_is
  where
    choose : (bytes : List ℕ) → ((rest : List ℕ) → bytes ≢ 33 ∷ rest) → ((rest : List ℕ) → bytes ≢ 47 ∷ rest)
        → begins_with_letter bytes ≡ false → behind.now ≡ bytes → IsSeen (tag_or_text bytes) (seen.Text less, behind)
    choose [] bang slash letter same = record { part = less_is; behind = same }
    choose (b ∷ bytes) bang slash letter same =
        subst (λ read. IsSeen read (seen.Text less, behind))
        (sym (less_at-text b bytes (ne_eqb b 33 (λ e. bang bytes (ap (λ x. x ∷ bytes) e)))
        (ne_eqb b 47 (λ e. slash bytes (ap (λ x. x ∷ bytes) e))) letter))
        (record { part = less_is; behind = same })

-- text up to the next `<`
pub run_seen : (text : List ℕ) (run behind : Bor (List ℕ)) → ((rest : List ℕ) → text ≢ 60 ∷ rest)
    → run.now ≡ before_first is_less text → behind.now ≡ from_first is_less text → (b : ℕ) (bytes : List ℕ)
    → text ≡ b ∷ bytes → IsSeen (front b bytes) (seen.Text run, behind)
run_seen text run behind less run_is behind_is b bytes is =
    subst (λ read. IsSeen read (seen.Text run, behind))
    (sym (front-text b bytes (ne_eqb b 60 (λ e. less bytes (is ∙ ap (λ x. x ∷ bytes) e)))))
    (record { part = run_is ∙ ap (before_first is_less) is; behind = behind_is ∙ ap (from_first is_less) is })

pub run_shorter : (text behind : List ℕ) → 0 < length text → ((rest : List ℕ) → text ≢ 60 ∷ rest)
    → behind ≡ from_first is_less text → length behind < length text
run_shorter [] behind some less is = absurd (omega arith)
run_shorter (b ∷ bytes) behind some less is =
    let read : (front b bytes).behind ≡ from_first is_less (b ∷ bytes) =
    ap (λ (r : Read (Option Token)). r.behind)
    (front-text b bytes (ne_eqb b 60 (λ e. less bytes (ap (λ x. x ∷ bytes) e)))) in
    omega (arith, front_shorter b bytes, ap length read, ap length is)
