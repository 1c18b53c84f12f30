-- What was escaped is decoded again.
use Rattle.std.proofs.Common.{◌≡◌, ◌≢◌, ◌∙◌, ◌-◌, ◌<◌, ◌≤◌, ◌+◌, ◌==◌, ◌&&◌, ℕ, Bool, true, false, not, List, [], ◌∷◌}
use Rattle.std.proofs.Common.{◌++◌, ⊎_elim, ap, append-nil, arith, cond, drop, length, refl}
use Rattle.std.proofs.Common.{slice_index, subst, sym}
use Rattle.std.specs.Prelude.{codes}
use Rattle.std.specs.Char.{is_ascii_digit}
use Rattle.std.specs.List.{list_all, prefix_len, suffix_len}
use Rattle.std.proofs.lemmas.Bool.{and_from, and_parts, cases_eq, ne_eqb, true≢false}
use Rattle.std.proofs.lemmas.List.{length-append, take_all}
use Rattle.std.proofs.Math.Seq.{get_or-append_right}
use Rattle.std.proofs.lemmas.List.Folds.{list_all-append}
use Rattle.std.proofs.lemmas.List.Sums.{suffix_len_is}
use lib.Utf8.{encode}
use Rattle.pl_base.specs.Good.{is_blank}
use Rattle.pl_words.specs.TagName.{trimmed, trimmed_back, trimmed_front}
use Rattle.pl_nbread.specs.References.{decoded}
use Rattle.pl_nbread.proofs.ReferenceSteps.{none_at}
use Rattle.pl_nbwrite.specs.BookmarkText.{edge, escape, escaped, title_end, title_text}
use Rattle.pl_nbwrite.proofs.EscapeSteps.{escape-plain}

-- ---- a byte

-- a byte that is not escaped
pub record StandsFor (b : ℕ) : Type 0 where
  pub amp : b ≢ 38
  pub less : b ≢ 60
  pub greater : b ≢ 62
  pub quote : b ≢ 34
  pub apostrophe : b ≢ 39
  pub tab : b ≢ 9
  pub line : b ≢ 10
  pub page : b ≢ 12
  pub back : b ≢ 13

pub stands : (b : ℕ) → StandsFor b → escape b ≡ b ∷ []
stands b own =
    escape-plain b own.amp own.less own.greater own.quote own.apostrophe own.tab own.line own.page own.back

-- what holds of each that is escaped, and of each that is not, holds of all
pub each_byte : (Q : ℕ → Type 0) → Q 38 → Q 60 → Q 62 → Q 34 → Q 39 → Q 9 → Q 10 → Q 12 → Q 13
    → ((b : ℕ) → StandsFor b → Q b) → (b : ℕ) → Q b
each_byte Q amp less greater quote apostrophe tab line page back other b =
    ⊎_elim (λ is. subst Q (sym is) amp) (λ n1.
    ⊎_elim (λ is. subst Q (sym is) less) (λ n2.
    ⊎_elim (λ is. subst Q (sym is) greater) (λ n3.
    ⊎_elim (λ is. subst Q (sym is) quote) (λ n4.
    ⊎_elim (λ is. subst Q (sym is) apostrophe) (λ n5.
    ⊎_elim (λ is. subst Q (sym is) tab) (λ n6.
    ⊎_elim (λ is. subst Q (sym is) line) (λ n7.
    ⊎_elim (λ is. subst Q (sym is) page) (λ n8.
    ⊎_elim (λ is. subst Q (sym is) back) (λ n9.
    other b (record { amp = n1; less = n2; greater = n3; quote = n4; apostrophe = n5; tab = n6; line = n7; page = n8; back = n9 }))
    (cases_eq b 13)) (cases_eq b 12)) (cases_eq b 10)) (cases_eq b 9)) (cases_eq b 39)) (cases_eq b 34)) (cases_eq b 62))
    (cases_eq b 60)) (cases_eq b 38)

-- ---- decoded

pub decoded-plain : (b : ℕ) (text : List ℕ) → b ≢ 38 → decoded (b ∷ text) ≡ b ∷ decoded text
decoded-plain b text other = rw (none_at b text (ne_eqb 38 b (λ is. other (sym is)))) refl

abbrev Reads : List ℕ → ℕ → Type 0
Reads piece b = (rest : List ℕ) → decoded (piece ++ rest) ≡ b ∷ decoded rest

amp : Reads (codes "&amp;") 38
unfolding encode
amp rest = refl

less : Reads (codes "&lt;") 60
unfolding encode
less rest = refl

greater : Reads (codes "&gt;") 62
unfolding encode
greater rest = refl

quote : Reads (codes "&quot;") 34
unfolding encode
quote rest = refl

apostrophe : Reads (codes "&#39;") 39
unfolding encode
apostrophe rest = refl

tab : Reads (codes "&#9;") 9
unfolding encode
tab rest = refl

line : Reads (codes "&#10;") 10
unfolding encode
line rest = refl

page : Reads (codes "&#12;") 12
unfolding encode
page rest = refl

back : Reads (codes "&#13;") 13
unfolding encode
back rest = refl

space : Reads (codes "&#32;") 32
unfolding encode
space rest = refl

pub decoded-escape : (b : ℕ) → Reads (escape b) b
decoded-escape b =
    each_byte (λ (x : ℕ). Reads (escape x) x) amp less greater quote apostrophe tab line page back
    (λ x own rest. ap (λ (l : List ℕ). decoded (l ++ rest)) (stands x own) ∙ decoded-plain x rest own.amp) b

edge-other : (b : ℕ) → b ≢ 32 → edge b ≡ escape b
edge-other b other = rw (ne_eqb b 32 other) refl

-- what holds at an edge: of a space, and of each other byte as it is escaped
at_edge : (Q : ℕ → List ℕ → Type 0) → Q 32 (codes "&#32;") → ((b : ℕ) → Q b (escape b)) → (b : ℕ) → Q b (edge b)
at_edge Q own others b =
    ⊎_elim (λ is. subst (λ (x : ℕ). Q x (edge x)) (sym is) own)
    (λ other. subst (Q b) (sym (edge-other b other)) (others b)) (cases_eq b 32)

decoded-edge : (b : ℕ) → Reads (edge b) b
decoded-edge b = at_edge (λ (x : ℕ) (l : List ℕ). Reads l x) space decoded-escape b

pub decoded-escaped : (text : List ℕ) → decoded (escaped text) ≡ text
decoded-escaped [] = refl
decoded-escaped (b ∷ text) =
    decoded-escape b (escaped text) ∙ ap (λ (l : List ℕ). b ∷ l) (decoded-escaped text)

decoded-end : (text : List ℕ) → decoded (title_end text) ≡ text
decoded-end [] = refl
decoded-end (b ∷ []) = ap decoded (sym (append-nil (edge b))) ∙ decoded-edge b []
decoded-end (b ∷ c ∷ text) =
    decoded-escape b (title_end (c ∷ text)) ∙ ap (λ (l : List ℕ). b ∷ l) (decoded-end (c ∷ text))

pub decoded-title : (title : List ℕ) → decoded (title_text title) ≡ title
decoded-title [] = refl
decoded-title (b ∷ text) = decoded-edge b (title_end text) ∙ ap (λ (l : List ℕ). b ∷ l) (decoded-end text)

pub decoded-digits : (text : List ℕ) → list_all is_ascii_digit text ≡ true → decoded text ≡ text
decoded-digits [] all = refl
decoded-digits (b ∷ text) all =
    let parts = and_parts (is_ascii_digit b) (list_all is_ascii_digit text) all in
    decoded-plain b text (λ is. true≢false (sym parts.0 ∙ ap is_ascii_digit is))
    ∙ ap (λ (l : List ℕ). b ∷ l) (decoded-digits text parts.1)

-- ---- what stays within a title and a value

-- neither `<` nor `"`
abbrev pub is_calm : ℕ → Bool
is_calm b = not (b == 60) && not (b == 34)

pub calm-escape : (b : ℕ) → list_all is_calm (escape b) ≡ true
calm-escape b =
    each_byte (λ (x : ℕ). list_all is_calm (escape x) ≡ true) refl refl refl refl refl refl refl refl refl
    (λ x own. ap (list_all is_calm) (stands x own) ∙ rw (ne_eqb x 60 own.less, ne_eqb x 34 own.quote) refl) b

pub calm-both : (a b : List ℕ) → list_all is_calm a ≡ true → list_all is_calm b ≡ true → list_all is_calm (a ++ b) ≡ true
calm-both a b first second = list_all-append is_calm a b ∙ and_from _ _ first second

calm-edge : (b : ℕ) → list_all is_calm (edge b) ≡ true
calm-edge b = at_edge (λ (x : ℕ) (l : List ℕ). list_all is_calm l ≡ true) refl calm-escape b

pub calm-escaped : (text : List ℕ) → list_all is_calm (escaped text) ≡ true
calm-escaped [] = refl
calm-escaped (b ∷ text) = calm-both (escape b) (escaped text) (calm-escape b) (calm-escaped text)

calm-end : (text : List ℕ) → list_all is_calm (title_end text) ≡ true
calm-end [] = refl
calm-end (b ∷ []) = calm-edge b
calm-end (b ∷ c ∷ text) = calm-both (escape b) (title_end (c ∷ text)) (calm-escape b) (calm-end (c ∷ text))

pub calm-title : (title : List ℕ) → list_all is_calm (title_text title) ≡ true
calm-title [] = refl
calm-title (b ∷ text) = calm-both (edge b) (title_end text) (calm-edge b) (calm-end text)

-- ---- a title has no blank at an end

pub record HasEnds (text : List ℕ) : Type 0 where
  pub some : 0 < length text
  pub front : is_blank (slice_index text 0) ≡ false
  pub back : is_blank (slice_index text (length text - 1)) ≡ false

plain_blank : (b : ℕ) → StandsFor b → b ≢ 32 → is_blank b ≡ false
plain_blank b own other =
    rw (ne_eqb b 9 own.tab, ne_eqb b 10 own.line, ne_eqb b 12 own.page, ne_eqb b 13 own.back, ne_eqb b 32 other) refl

ends-escape : (b : ℕ) → b ≢ 32 → HasEnds (escape b)
ends-escape b =
    each_byte (λ (x : ℕ). x ≢ 32 → HasEnds (escape x))
    (λ _. record { some = omega arith; front = refl; back = refl })
    (λ _. record { some = omega arith; front = refl; back = refl })
    (λ _. record { some = omega arith; front = refl; back = refl })
    (λ _. record { some = omega arith; front = refl; back = refl })
    (λ _. record { some = omega arith; front = refl; back = refl })
    (λ _. record { some = omega arith; front = refl; back = refl })
    (λ _. record { some = omega arith; front = refl; back = refl })
    (λ _. record { some = omega arith; front = refl; back = refl })
    (λ _. record { some = omega arith; front = refl; back = refl })
    (λ x plain other. subst HasEnds (sym (stands x plain))
    (record { some = omega arith; front = plain_blank x plain other; back = plain_blank x plain other }))
    b

ends-edge : (b : ℕ) → HasEnds (edge b)
ends-edge b =
    ⊎_elim
    (λ is. subst (λ (x : ℕ). HasEnds (edge x)) (sym is) (record { some = omega arith; front = refl; back = refl }))
    (λ other. subst HasEnds (sym (edge-other b other)) (ends-escape b other)) (cases_eq b 32)

-- the last byte is that of the second part
back_of : (a b : List ℕ) → 0 < length b
    → slice_index (a ++ b) (length (a ++ b) - 1) ≡ slice_index b (length b - 1)
back_of a b some =
    let long : length a ≤ length (a ++ b) - 1 = omega (arith, length-append a b) in
    let same : length (a ++ b) - 1 - length a ≡ length b - 1 = omega (arith, length-append a b) in
    get_or-append_right a b (length (a ++ b) - 1) 0 long ∙ ap (slice_index b) same

front_of : (a b : List ℕ) → 0 < length a → slice_index (a ++ b) 0 ≡ slice_index a 0
front_of [] b some = absurd (omega arith)
front_of (x ∷ a) b some = refl

-- what ends well
abbrev EndsWell : List ℕ → Type 0
EndsWell text = (0 < length text) × (is_blank (slice_index text (length text - 1)) ≡ false)

ends-end : (b : ℕ) (text : List ℕ) → EndsWell (title_end (b ∷ text))
ends-end b [] = ((ends-edge b).some, (ends-edge b).back)
ends-end b (c ∷ text) =
    let more = ends-end c text in (
      omega (arith, more.0, length-append (escape b) (title_end (c ∷ text))),
      ap is_blank (back_of (escape b) (title_end (c ∷ text)) more.0) ∙ more.1,
    )

ends-title : (b : ℕ) (text : List ℕ) → HasEnds (title_text (b ∷ text))
ends-title b [] = subst HasEnds (sym (append-nil (edge b))) (ends-edge b)
ends-title b (c ∷ text) =
    let more = ends-end c text in
    let own = ends-edge b in
    record {
      some = omega (arith, own.some, length-append (edge b) (title_end (c ∷ text)));
      front = ap is_blank (front_of (edge b) (title_end (c ∷ text)) own.some) ∙ own.front;
      back = ap is_blank (back_of (edge b) (title_end (c ∷ text)) more.0) ∙ more.1;
    }

front_whole : (text : List ℕ) → HasEnds text → trimmed_front text ≡ text
front_whole [] ends = refl
front_whole (b ∷ text) ends = ap (λ (p : Bool). drop (cond p (1 + prefix_len is_blank text) 0) (b ∷ text)) ends.front

-- a text without a blank at an end stays as it is
trimmed-whole : (text : List ℕ) → HasEnds text → trimmed text ≡ text
trimmed-whole text ends =
    let last : suffix_len is_blank text ≡ length text - length text =
    suffix_len_is is_blank text (length text) 0 (omega arith) (λ k from within. absurd (omega arith)) (λ _. ends.back) in
    ap trimmed_back (front_whole text ends)
    ∙ take_all (length text - suffix_len is_blank text) text (omega (arith, last))

pub trimmed-title : (title : List ℕ) → trimmed (title_text title) ≡ title_text title
trimmed-title [] = refl
trimmed-title (b ∷ text) = trimmed-whole (title_text (b ∷ text)) (ends-title b text)
