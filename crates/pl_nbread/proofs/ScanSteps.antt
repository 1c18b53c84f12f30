-- What the calls that cut a text give, in the words of its tokens.
use Rattle.std.proofs.Common.{◌≡◌, ◌≢◌, ◌∙◌, ◌+◌, ◌==◌, ◌<◌, ◌≤◌, ℕ, Bool, true, false, List, [], ◌∷◌}
use Rattle.std.proofs.Common.{◌||◌, ◌&&◌, not, Some, None, IsTrue, ap, arith, cond, drop, get_or, length}
use Rattle.std.proofs.Common.{nat_eq, nat_lt, refl, sym, take}
use Rattle.std.specs.Prelude.{Option, unwrap_or, if◌then◌else◌}
use Rattle.std.specs.Borrow.{Bor}
use Rattle.std.specs.Char.{char_set_contains, is_ascii_whitespace}
use Rattle.std.specs.List.{before_first, list_all, position_or_len, prefix_len, starts_with}
use Rattle.std.specs.Option.{MatchOption}
use Rattle.std.specs.Str.{IsCharBoundary, IsTrimAsciiStart, NoCharPasses}
use Rattle.std.specs.Str.Pattern.{FindsBy}
use borrow.Author.Tests.{ne_eqb}
use Rattle.std.proofs.lemmas.Bool.{true≢false}
use Rattle.std.proofs.lemmas.Bool.Decides.{nat_tests}
use Rattle.std.proofs.lemmas.List.{drop_all, get_or-take, length-take, take_all}
use Rattle.std.proofs.lemmas.List.Sums.{position_or_len_is}
use Rattle.std.proofs.lemmas.Str.{NoCharPasses-byte}
use Rattle.std.proofs.lemmas.Str.Ascii.{trim_ascii_start_is}
use Rattle.std.proofs.lemmas.Str.Pattern.{IsSplitOnceResult, split_once_first}
use Rattle.pl_base.specs.Good.{is_blank}
use Rattle.pl_words.specs.TagName.{trimmed_front}
use Rattle.pl_nbread.specs.Tokens.{Read, ends_bare_value, ends_name, ends_tag_name, behind_first, from_first}
use Rattle.pl_nbread.specs.Tokens.{is_less, is_quote, value_at, value_behind}

-- ---- up to one of some characters

-- each of them is ASCII
pub low : (ends : List ℕ) → IsTrue (list_all (λ c. nat_lt c 128) ends) → (c : ℕ)
    → char_set_contains ends c ≡ true → c < 128
low [] all c is = absurd (true≢false (sym is))
low (d ∷ ends) all c is = choose (low ends) (nat_lt d 128) refl (d == c) refl all is
  where
    choose : (IsTrue (list_all (λ c. nat_lt c 128) ends) → (c : ℕ) → char_set_contains ends c ≡ true → c < 128)
        → (l : Bool) → nat_lt d 128 ≡ l → (e : Bool) → (d == c) ≡ e → IsTrue (l && list_all (λ c. nat_lt c 128) ends)
        → (e || char_set_contains ends c) ≡ true → c < 128
    choose more true small true same all is = grind (arith, nat_tests)
    choose more true small false same all is = more all c is
    choose more false small e same all is = absurd (true≢false (sym all))

fails : (test : ℕ → Bool) (text : List ℕ) (k : ℕ) → ((c : ℕ) → test c ≡ true → c < 128) → NoCharPasses test text
    → k < length text → test (get_or text k 0) ≡ false
fails test text k small none within = choose (test (get_or text k 0)) refl
  where
    choose : (v : Bool) → test (get_or text k 0) ≡ v → test (get_or text k 0) ≡ false
    choose true is = NoCharPasses-byte test text k none within (small (get_or text k 0) is)
    choose false is = is

-- what `find` of one of these characters gives
abbrev pub FindsOneOf : List ℕ → List ℕ → Option ℕ → Type 0
FindsOneOf ends text r =
    MatchOption r ((test : ℕ → Bool) → ((c : ℕ) → char_set_contains ends c ≡ test c) → FindsBy test text None)
    (λ i. (j : ℕ)
    × ((test : ℕ → Bool) → ((c : ℕ) → char_set_contains ends c ≡ test c) → FindsBy test text (Some (i, j)))
    × (i ≤ j) × IsCharBoundary text i × IsCharBoundary text j)

pub find_is : (ends text : List ℕ) (r : Option ℕ) → IsTrue (list_all (λ c. nat_lt c 128) ends)
    → FindsOneOf ends text r
    → unwrap_or r (length text) ≡ position_or_len (char_set_contains ends) text
find_is ends text None all h =
    let own : ℕ → Bool = char_set_contains ends in
    sym (position_or_len_is own text (length text) 0 (omega arith)
    (λ k l. fails own text k (low ends all) (h own (λ c. refl)) l) (λ l. absurd (omega arith)))
find_is ends text (Some i) all h =
    let own : ℕ → Bool = char_set_contains ends in
    let found : FindsBy own text (Some (i, h.0)) = h.1 own (λ c. refl) in
    sym (position_or_len_is own text i 0 h.3.0
    (λ k l. ap own (sym (get_or-take i text k 0 l))
    ∙ fails own (take i text) k (low ends all) found.0 (omega (arith, length-take i text, h.3.0)))
    (λ l. ap own (found.1.2.byte (low ends all found.1.0 found.1.1)) ∙ found.1.1))

same_prefix : (p q : ℕ → Bool) → ((b : ℕ) → p b ≡ q b) → (text : List ℕ) → prefix_len p text ≡ prefix_len q text
same_prefix p q same [] = refl
same_prefix p q same (b ∷ text) =
    ap (λ v. cond v (1 + prefix_len p text) 0) (same b) ∙ ap (λ n. cond (q b) (1 + n) 0) (same_prefix p q same text)

pub same_position : (p q : ℕ → Bool) → ((b : ℕ) → p b ≡ q b) → (text : List ℕ)
    → position_or_len p text ≡ position_or_len q text
same_position p q same text = same_prefix (λ b. not (p b)) (λ b. not (q b)) (λ b. ap not (same b)) text

pub same_front : (p q : ℕ → Bool) → ((b : ℕ) → p b ≡ q b) → (text : List ℕ)
    → before_first p text ≡ before_first q text
same_front p q same text = ap (λ n. take n text) (same_position p q same text)

pub same_behind : (p q : ℕ → Bool) → ((b : ℕ) → p b ≡ q b) → (text : List ℕ) → from_first p text ≡ from_first q text
same_behind p q same text = ap (λ n. drop n text) (same_position p q same text)

pub value_ends : (b : ℕ) → char_set_contains (9 ∷ 10 ∷ 12 ∷ 13 ∷ 32 ∷ 62 ∷ []) b ≡ ends_bare_value b
value_ends b = grind (arith, nat_tests)

pub name_ends : (b : ℕ) → char_set_contains (9 ∷ 10 ∷ 12 ∷ 13 ∷ 32 ∷ 47 ∷ 62 ∷ 61 ∷ []) b ≡ ends_name b
name_ends b = grind (arith, nat_tests)

pub tag_name_ends : (b : ℕ) → char_set_contains (9 ∷ 10 ∷ 12 ∷ 13 ∷ 32 ∷ 47 ∷ 62 ∷ []) b ≡ ends_tag_name b
tag_name_ends b = grind (arith, nat_tests)

pub less_only : (b : ℕ) → char_set_contains (60 ∷ []) b ≡ is_less b
less_only b = grind (arith, nat_tests)

-- ---- values

pub trimmed_is : (text part : List ℕ) → IsTrimAsciiStart text part → part ≡ trimmed_front text
trimmed_is text part h =
    trim_ascii_start_is text part h
    ∙ ap (λ n. drop n text) (same_prefix is_ascii_whitespace is_blank (λ b. grind (arith, nat_tests)) text)

pub first_is_not : (c : ℕ) (text : List ℕ) → ((rest : List ℕ) → text ≢ c ∷ rest)
    → starts_with nat_eq text (c ∷ []) ≡ false
first_is_not c [] none = refl
first_is_not c (b ∷ text) none =
    let other : nat_eq c b ≡ false = ne_eqb c b (λ e. none text (ap (λ x. x ∷ text) (sym e))) in
    ap (λ v. v && true) other

pub behind_equals : (text front value : List ℕ) → front ≡ trimmed_front text → front ≡ 61 ∷ value
    → value_behind text ≡ value_at (trimmed_front value)
behind_equals text front value trimmed is =
    ap (λ f. if starts_with nat_eq f (61 ∷ []) then value_at (trimmed_front (drop 1 f))
    else record { what = []; behind = text }) (sym trimmed ∙ is)

pub no_equals : (text front : List ℕ) → front ≡ trimmed_front text → ((rest : List ℕ) → front ≢ 61 ∷ rest)
    → value_behind text ≡ record { what = []; behind = text }
no_equals text front trimmed none =
    ap (λ v. if v then value_at (trimmed_front (drop 1 (trimmed_front text))) else record { what = []; behind = text })
    (first_is_not 61 (trimmed_front text) (λ rest e. none rest (trimmed ∙ e)))

same_quote : (q : ℕ) (text : List ℕ) → position_or_len (nat_eq q) text ≡ position_or_len (λ b. b == q) text
same_quote q text = same_position (nat_eq q) (λ b. b == q) (λ b. grind (arith, nat_tests)) text

quoted : (q : ℕ) → is_quote q ≡ true → (text : List ℕ)
    → value_at (q ∷ text) ≡ record { what = before_first (nat_eq q) text; behind = behind_first (nat_eq q) text }
quoted q quote text =
    ap (λ v. if v then record { what = before_first (nat_eq q) text; behind = behind_first (nat_eq q) text }
    else record { what = before_first ends_bare_value (q ∷ text); behind = from_first ends_bare_value (q ∷ text) }) quote

unquoted : (q : ℕ) (whole nothing : Bor (List ℕ)) (r : Option (Bor (List ℕ) × Bor (List ℕ))) → q < 128
    → nothing.now ≡ [] → IsSplitOnceResult q whole.now r
    → ((unwrap_or r (whole, nothing)).0.now ≡ before_first (nat_eq q) whole.now)
    × ((unwrap_or r (whole, nothing)).1.now ≡ behind_first (nat_eq q) whole.now)
unquoted q whole nothing None small none h =
    let all : position_or_len (nat_eq q) whole.now ≡ length whole.now =
    same_quote q whole.now ∙ split_once_first q whole.now None h small in (
      sym (take_all (position_or_len (nat_eq q) whole.now) whole.now (omega (arith, all))),
      none ∙ sym (drop_all (position_or_len (nat_eq q) whole.now + 1) whole.now (omega (arith, all))),
    )
unquoted q whole nothing (Some x) small none h =
    let found = split_once_first q whole.now (Some x) h small in (
      found.1 ∙ ap (λ n. take n whole.now) (sym (same_quote q whole.now)),
      found.2 ∙ ap (λ n. drop (n + 1) whole.now) (sym (same_quote q whole.now)),
    )

-- what stands in quotes, where the text from the first quote on is split at the next one
pub in_quotes : (q : ℕ) (text : List ℕ) (whole nothing : Bor (List ℕ)) (r : Option (Bor (List ℕ) × Bor (List ℕ)))
    (out : Bor (List ℕ) × Bor (List ℕ)) → out ≡ unwrap_or r (whole, nothing) → is_quote q ≡ true → q < 128
    → text ≡ q ∷ whole.now → nothing.now ≡ [] → IsSplitOnceResult q whole.now r
    → (out.0.now ≡ (value_at text).what) × (out.1.now ≡ (value_at text).behind)
in_quotes q text whole nothing r out out_is quote small is none h =
    let value : value_at text
    ≡ record { what = before_first (nat_eq q) whole.now; behind = behind_first (nat_eq q) whole.now } =
    ap value_at is ∙ quoted q quote whole.now in
    let found = unquoted q whole nothing r small none h in (
      ap (λ (o : Bor (List ℕ) × Bor (List ℕ)). o.0.now) out_is
          ∙ found.0
          ∙ ap (λ (v : Read (List ℕ)). v.what) (sym value),
      ap (λ (o : Bor (List ℕ) × Bor (List ℕ)). o.1.now) out_is
          ∙ found.1
          ∙ ap (λ (v : Read (List ℕ)). v.behind) (sym value),
    )

pub bare : (text : List ℕ) → ((rest : List ℕ) → text ≢ 34 ∷ rest) → ((rest : List ℕ) → text ≢ 39 ∷ rest)
    → value_at text ≡ record { what = before_first ends_bare_value text; behind = from_first ends_bare_value text }
bare [] double single = refl
bare (b ∷ text) double single =
    let no_double : (b == 34) ≡ false = ne_eqb b 34 (λ e. double text (ap (λ x. x ∷ text) e)) in
    let no_single : (b == 39) ≡ false = ne_eqb b 39 (λ e. single text (ap (λ x. x ∷ text) e)) in
    let none : is_quote b ≡ false = ap (λ v. v || (b == 39)) no_double ∙ no_single in
    ap (λ v. if v then record { what = before_first (nat_eq b) text; behind = behind_first (nat_eq b) text }
    else record { what = before_first ends_bare_value (b ∷ text); behind = from_first ends_bare_value (b ∷ text) }) none
