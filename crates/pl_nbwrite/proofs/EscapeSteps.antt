-- How texts and titles are escaped, character by character.
use Rattle.std.proofs.Common.{◌≡◌, ◌≢◌, ◌∙◌, ◌<◌, ◌≤◌, ℕ, List, [], ◌∷◌, ◌++◌}
use Rattle.std.proofs.Common.{ap, append-nil, append_assoc, arith, refl, sym}
use Rattle.std.specs.Prelude.{codes, encode_utf8}
use Rattle.std.proofs.lemmas.Bool.{ne_eqb}
use Rattle.std.proofs.lemmas.Grind.{flat_map-append}
use Rattle.std.proofs.lemmas.Str.{encode_ascii}
use Rattle.pl_base.specs.Tags.{comma_joined}
use Rattle.pl_words.proofs.WrittenBytes.{written-plain}
use Rattle.pl_nbwrite.specs.BookmarkText.{edge, escape, escaped, title_end, title_text}
use Rattle.pl_nbwrite.specs.Written.{comma_before}

-- ---- characters

pub escape-plain : (b : ℕ) → b ≢ 38 → b ≢ 60 → b ≢ 62 → b ≢ 34 → b ≢ 39 → b ≢ 9 → b ≢ 10 → b ≢ 12 → b ≢ 13
    → escape b ≡ b ∷ []
escape-plain b amp lt gt quot apos tab lf ff cr =
    rw (
      ne_eqb b 38 amp,
      ne_eqb b 60 lt,
      ne_eqb b 62 gt,
      ne_eqb b 34 quot,
      ne_eqb b 39 apos,
      ne_eqb b 9 tab,
      ne_eqb b 10 lf,
      ne_eqb b 12 ff,
      ne_eqb b 13 cr,
    ) refl

-- no byte beyond ASCII is escaped
pub escape-high : (b : ℕ) → 128 ≤ b → escape b ≡ b ∷ []
escape-high b high =
    escape-plain b (omega arith) (omega arith) (omega arith) (omega arith) (omega arith) (omega arith) (omega arith)
    (omega arith) (omega arith)

-- a character that is not escaped is written as it is
pub escaped-plain : (c : ℕ) → escape c ≡ c ∷ [] → escaped (encode_utf8 c) ≡ encode_utf8 c
escaped-plain c plain = written-plain escape escape-high c plain

pub escaped-low : (c : ℕ) → c < 128 → escaped (encode_utf8 c) ≡ escape c
escaped-low c low = ap escaped (encode_ascii c low) ∙ append-nil (escape c)

-- ---- titles

pub title-other : (title : List ℕ) → ((rest : List ℕ) → title ≢ 32 ∷ rest) → title_text title ≡ title_end title
title-other [] other = refl
title-other (b ∷ []) other = append-nil (edge b)
title-other (b ∷ c ∷ bytes) other =
    let plain : b ≢ 32 = λ is. other (c ∷ bytes) (ap (λ (x : ℕ). x ∷ c ∷ bytes) is) in
    rw (ne_eqb b 32 plain) refl

pub title_end-space : (front : List ℕ) → title_end (front ++ 32 ∷ []) ≡ escaped front ++ codes "&#32;"
title_end-space [] = refl
title_end-space (b ∷ []) = ap (λ (x : List ℕ). x ++ codes "&#32;") (sym (append-nil (escape b)))
title_end-space (b ∷ c ∷ front) =
    ap (λ (x : List ℕ). escape b ++ x) (title_end-space (c ∷ front))
    ∙ sym (append_assoc (escape b) (escaped (c ∷ front)) (codes "&#32;"))

pub title_end-other : (text : List ℕ) → ((front : List ℕ) → text ≢ front ++ 32 ∷ []) → title_end text ≡ escaped text
title_end-other [] other = refl
title_end-other (b ∷ []) other =
    let plain : b ≢ 32 = λ is. other [] (ap (λ (x : ℕ). x ∷ []) is) in
    rw (ne_eqb b 32 plain) (sym (append-nil (escape b)))
title_end-other (b ∷ c ∷ bytes) other =
    ap (λ (x : List ℕ). escape b ++ x)
    (title_end-other (c ∷ bytes) (λ front is. other (b ∷ front) (ap (λ (x : List ℕ). b ∷ x) is)))

-- ---- tags

pub names-step : (tag : List ℕ) (tags : List (List ℕ))
    → escaped (comma_joined (tag ∷ tags)) ≡ escaped tag ++ (comma_before tags ++ escaped (comma_joined tags))
names-step tag [] = sym (append-nil (escaped tag))
names-step tag (next ∷ tags) = flat_map-append escape tag (44 ∷ comma_joined (next ∷ tags))
