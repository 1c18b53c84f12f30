-- What the loop over attributes keeps: those that were noted, in front of those that are left.
use Rattle.std.proofs.Common.{◌≡◌, ◌≢◌, ◌∙◌, ◌-◌, ◌<◌, ℕ, Bool, true, false, List, [], ◌∷◌}
use Rattle.std.proofs.Common.{◌++◌, Some, None, IsTrue, ap, arith, cond, drop, length, nat_lt, refl, rules}
use Rattle.std.proofs.Common.{subst, sym}
use Rattle.std.specs.Prelude.{Option, if◌then◌else◌}
use Rattle.std.specs.Borrow.{Bor}
use Rattle.std.specs.Char.{IsScalar, char_set_contains}
use Rattle.std.specs.List.{find, list_all}
use Rattle.std.specs.Option.{option_map}
use Rattle.std.specs.Str.Pattern.{FindsPrefixBy}
use borrow.Author.Tests.{ne_eqb}
use Rattle.std.proofs.lemmas.Bool.Decides.{nat_tests}
use Rattle.std.proofs.lemmas.List.{append-nil, length-drop}
use Rattle.std.proofs.lemmas.Str.Ascii.{encode_ascii}
use Rattle.std.proofs.lemmas.Str.Pattern.{drop_at_char}
use Rattle.pl_nbread.specs.declared.attributes.Attributes.{Attributes}
use Rattle.pl_nbread.specs.BookmarkTree.{raw}
use Rattle.pl_nbread.specs.Parts.{is_name}
use Rattle.pl_nbread.specs.Scanned.{Finds, FindsAttributes, Tells, first_said}
use Rattle.pl_nbread.specs.Tokens.{Attribute, Read, attribute_at, attributes, ends_name, is_greater, is_stray}
use Rattle.pl_nbread.specs.Tokens.{with_attribute}
use Rattle.pl_nbread.proofs.ScanSteps.{low}
use Rattle.pl_nbread.proofs.TokenLaws.{IsRest, attribute_shorter, attributes-end, attributes-more}
use Rattle.pl_nbread.proofs.TokenLaws.{attributes-stray}
use Rattle.pl_nbread.proofs.TokenLaws.{attributes_dropped, rest_is}

-- ---- one attribute more

pub raw_more : (known : List ℕ) (before : List Attribute) (a : Attribute)
    → raw known (before ++ a ∷ []) ≡ first_said (raw known before) known a.name a.value
raw_more known [] a = choose (is_name known a.name)
  where
    choose : (v : Bool) → option_map (λ (x : Attribute). x.value) (cond v (Some a) None)
        ≡ (if v then Some a.value else None)
    choose true = refl
    choose false = refl
raw_more known (x ∷ before) a = choose (raw_more known before a) (is_name known x.name)
  where
    found : List Attribute → Option Attribute
    found all = find (λ (y : Attribute). is_name known y.name) all

    said : Option Attribute → Option (List ℕ)
    said one = option_map (λ (y : Attribute). y.value) one

    choose : raw known (before ++ a ∷ []) ≡ first_said (raw known before) known a.name a.value → (v : Bool)
        → option_map (λ (y : Attribute). y.value)
        (cond v (Some x) (find (λ (y : Attribute). is_name known y.name) (before ++ a ∷ [])))
        ≡ first_said (option_map (λ (y : Attribute). y.value)
        (cond v (Some x) (find (λ (y : Attribute). is_name known y.name) before))) known a.name a.value
    choose more true = refl
    choose more false = more

-- ---- those that were noted

abbrev pub with_front : List Attribute → Option (Read (List Attribute)) → Option (Read (List Attribute))
with_front [] found = found
with_front (a ∷ seen) found = with_attribute a (with_front seen found)

front_more : (seen : List Attribute) (a : Attribute) (found : Option (Read (List Attribute)))
    → with_front seen (with_attribute a found) ≡ with_front (seen ++ a ∷ []) found
front_more [] a found = refl
front_more (x ∷ seen) a found = ap (with_attribute x) (front_more seen a found)

front_none : (seen : List Attribute) → with_front seen None ≡ None
front_none [] = refl
front_none (a ∷ seen) = ap (with_attribute a) (front_none seen)

front_some : (seen what : List Attribute) (behind : List ℕ)
    → with_front seen (Some (record { what = what; behind = behind }))
    ≡ Some (record { what = seen ++ what; behind = behind })
front_some [] what behind = refl
front_some (a ∷ seen) what behind = ap (with_attribute a) (front_some seen what behind)

-- so far these were noted, and this is left
pub record IsNoted (text left : List ℕ) (found : Attributes) : Type 0 where
  pub seen : List Attribute
  pub tells : Tells found seen
  pub whole : attributes text ≡ with_front seen (attributes left)

pub noted_end : (text left : List ℕ) (found : Attributes) (behind : Bor (List ℕ)) → IsNoted text left found
    → left ≡ 62 ∷ behind.now → FindsAttributes text (Some (found, behind))
noted_end text left found behind noted is =
    let all : attributes text ≡ Some (record { what = noted.seen ++ []; behind = behind.now }) =
    noted.whole ∙ ap (λ rest. with_front noted.seen (attributes rest)) is
    ∙ ap (with_front noted.seen) (attributes-end 62 behind.now refl)
    ∙ front_some noted.seen [] behind.now in
    subst (λ one. Finds one (Some (found, behind))) (sym all)
    (subst (Tells found) (sym (append-nil noted.seen)) noted.tells, refl)

pub noted_none : (text left : List ℕ) (found : Attributes) → IsNoted text left found → length left ≡ 0
    → FindsAttributes text None
noted_none text [] found noted is =
    subst (λ one. Finds one None) (sym (noted.whole ∙ front_none noted.seen)) tt
noted_none text (b ∷ left) found noted is = absurd (omega arith)

-- ---- what stands in front

-- what `strip_prefix` of one of some characters leaves
pub strip_one_of : (ends text : List ℕ) (n : ℕ) (behind : List ℕ) → IsTrue (list_all (λ c. nat_lt c 128) ends)
    → ((test : ℕ → Bool) → ((c : ℕ) → char_set_contains ends c ≡ test c) → FindsPrefixBy test text (Some n))
    → behind ≡ drop n text → (c : ℕ) × (char_set_contains ends c ≡ true) × (text ≡ c ∷ behind)
strip_one_of ends text n behind all h is =
    let found : FindsPrefixBy (char_set_contains ends) text (Some n) = h (char_set_contains ends) (λ c. refl) in (
      found.0,
      found.1,
      drop_at_char found.0 text 0 n found.2 (low ends all found.0 found.1) ∙ ap (λ rest. found.0 ∷ rest) (sym is),
    )

-- where it finds none, the first byte is none of them
pub strips_none : (ends : List ℕ) (b : ℕ) (text : List ℕ) → IsTrue (list_all (λ c. nat_lt c 128) ends)
    → ((test : ℕ → Bool) → ((c : ℕ) → char_set_contains ends c ≡ test c) → FindsPrefixBy test (b ∷ text) None)
    → char_set_contains ends b ≡ false
strips_none ends b text all h = choose (char_set_contains ends b) refl
  where
    choose : (v : Bool) → char_set_contains ends b ≡ v → char_set_contains ends b ≡ false
    choose true is =
        let small : b < 128 = low ends all b is in
        let scalar : IsScalar b = search rules in
        h (char_set_contains ends) (λ c. refl) b text scalar (ap (λ front. front ++ text) (sym (encode_ascii b small)))
    choose false is = is

pub stray : (b : ℕ) → char_set_contains (9 ∷ 10 ∷ 12 ∷ 13 ∷ 32 ∷ 47 ∷ 61 ∷ []) b ≡ is_stray b
stray b = grind (arith, nat_tests)

not_greater : (b : ℕ) → is_stray b ≡ true → is_greater b ≡ false
not_greater b is = grind (arith, nat_tests)

pub noted_stray : (text left behind : List ℕ) (found : Attributes) (c : ℕ) → IsNoted text left found
    → is_stray c ≡ true → left ≡ c ∷ behind → IsNoted text behind found
noted_stray text left behind found c noted is whole = record {
  seen = noted.seen;
  tells = noted.tells;
  whole =
      noted.whole ∙ ap (λ rest. with_front noted.seen (attributes rest)) whole
      ∙ ap (with_front noted.seen) (attributes-stray c behind (not_greater c is) is);
}

goes_on : (b : ℕ) → is_greater b ≡ false → is_stray b ≡ false → ends_name b ≡ false
goes_on b is too = grind (arith, nat_tests)

attributes-step : (b : ℕ) (text : List ℕ) → is_greater b ≡ false → is_stray b ≡ false
    → attributes (b ∷ text)
    ≡ with_attribute (attribute_at (b ∷ text)).what (attributes (attribute_at (b ∷ text)).behind)
attributes-step b text is too =
    let behind : List ℕ = (attribute_at (b ∷ text)).behind in
    attributes-more b text is too
    ∙ ap (with_attribute (attribute_at (b ∷ text)).what)
    (attributes_dropped (length text - length behind) text
    ∙ ap attributes (sym (rest_is behind text (attribute_shorter b text (goes_on b is too)))))

pub noted_more : (text : List ℕ) (b : ℕ) (left : List ℕ) (found next : Attributes)
    → (noted : IsNoted text (b ∷ left) found) → is_greater b ≡ false → is_stray b ≡ false
    → Tells next (noted.seen ++ (attribute_at (b ∷ left)).what ∷ [])
    → IsNoted text (attribute_at (b ∷ left)).behind next
noted_more text b left found next noted is too tells = record {
  seen = noted.seen ++ (attribute_at (b ∷ left)).what ∷ [];
  tells = tells;
  whole =
      noted.whole ∙ ap (with_front noted.seen) (attributes-step b left is too)
      ∙ front_more noted.seen (attribute_at (b ∷ left)).what (attributes (attribute_at (b ∷ left)).behind);
}

pub behind_shorter : (b : ℕ) (left : List ℕ) → is_greater b ≡ false → is_stray b ≡ false
    → length (attribute_at (b ∷ left)).behind < length (b ∷ left)
behind_shorter b left is too =
    let rest : IsRest (attribute_at (b ∷ left)).behind left = attribute_shorter b left (goes_on b is too) in
    omega (arith, ap length rest.is, length-drop rest.count left)

-- ---- a turn of the loop

-- the characters that are passed over
abbrev pub strays : List ℕ
strays = 9 ∷ 10 ∷ 12 ∷ 13 ∷ 32 ∷ 47 ∷ 61 ∷ []

-- no stray byte stands in front
abbrev pub StripsNone : List ℕ → Type 0
StripsNone text =
    (test : ℕ → Bool) → ((c : ℕ) → char_set_contains strays c ≡ test c) → FindsPrefixBy test text None

no_greater : (b : ℕ) (text : List ℕ) → ((rest : List ℕ) → b ∷ text ≢ 62 ∷ rest) → is_greater b ≡ false
no_greater b text none = ne_eqb b 62 (λ e. none text (ap (λ x. x ∷ text) e))

no_stray : (b : ℕ) (text : List ℕ) → StripsNone (b ∷ text) → is_stray b ≡ false
no_stray b text none = sym (stray b) ∙ strips_none strays b text refl none

pub noted_next : (text left behind name value : List ℕ) (found next : Attributes) → IsNoted text left found
    → 0 < length left → ((rest : List ℕ) → left ≢ 62 ∷ rest) → StripsNone left
    → name ≡ (attribute_at left).what.name → value ≡ (attribute_at left).what.value
    → behind ≡ (attribute_at left).behind
    → ((before : List Attribute) → Tells found before
    → Tells next (before ++ record { name = name; value = value } ∷ []))
    → IsNoted text behind next
noted_next text [] behind name value found next noted some greater strips name_is value_is behind_is tells =
    absurd (omega arith)
noted_next text (b ∷ left) behind name value found next noted some greater strips name_is value_is behind_is tells =
    let one : ◌≡◌ {A = Attribute} (record { name = name; value = value }) (attribute_at (b ∷ left)).what =
    λ i. record { name = name_is i; value = value_is i } in
    subst (λ rest. IsNoted text rest next) (sym behind_is)
    (noted_more text b left found next noted (no_greater b left greater) (no_stray b left strips)
    (subst (λ a. Tells next (noted.seen ++ a ∷ [])) one (tells noted.seen noted.tells)))

pub next_shorter : (left behind : List ℕ) → 0 < length left → ((rest : List ℕ) → left ≢ 62 ∷ rest)
    → StripsNone left → behind ≡ (attribute_at left).behind → length behind < length left
next_shorter [] behind some greater strips behind_is = absurd (omega arith)
next_shorter (b ∷ left) behind some greater strips behind_is =
    let shorter : length (attribute_at (b ∷ left)).behind < length (b ∷ left) =
    behind_shorter b left (no_greater b left greater) (no_stray b left strips) in
    subst (λ rest. length rest < length (b ∷ left)) (sym behind_is) shorter
