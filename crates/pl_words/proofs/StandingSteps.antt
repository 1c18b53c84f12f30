-- How well a word stands in a text, byte by byte.
use Rattle.std.proofs.Common.{◌≡◌, ◌≢◌, ◌∙◌, ◌+◌, ◌-◌, ◌<◌, ◌≤◌, ◌&&◌, ◌||◌, ◌==◌, ℕ, Bool, true}
use Rattle.std.proofs.Common.{false, List, [], ◌∷◌, add-one, ap, ap₂, arith, drop, drop-cons}
use Rattle.std.proofs.Common.{get_or, if◌then◌else◌, length, nat_eq, not, refl, sym, take}
use Rattle.std.specs.Char.{is_ascii_alphabetic}
use Rattle.std.specs.List.{starts_with}
use Rattle.std.proofs.lemmas.List.{drop_all, take_rest}
use Rattle.std.proofs.lemmas.Bool.{eq-eqb, ne_eqb, true≢false}
use Rattle.pl_words.specs.declared.stands.Standing.{Standing}
use Rattle.pl_words.specs.declared.stands.Standing.TheVariants.{Boundary, Inside, Nowhere}
use Rattle.pl_words.specs.Pieces.{is_boundary, occurs, occurs_behind, standing}

-- ---- whether it begins at a place

-- the bytes from the n-th on, as a slice gives them
abbrev pub behind : ℕ → List ℕ → List ℕ
behind n bytes = take (length bytes - n) (drop n bytes)

-- by its first byte and the others
pub begins_here : (word text : List ℕ) (place : ℕ) → 1 ≤ length word → place < length text
    → starts_with nat_eq (drop place text) word
    ≡ ((get_or word 0 0 == get_or text place 0)
    && starts_with nat_eq (behind (place + 1) text) (behind 1 word))
begins_here [] text place some within = absurd (omega arith)
begins_here (b ∷ word) text place some within =
    rw (take_rest text (place + 1), take_rest (b ∷ word) 1, drop-cons text place 0, add-one) refl

-- it does not begin where another byte stands, nor where its other bytes do not
pub other_first : (word text : List ℕ) (place : ℕ) → 1 ≤ length word → place < length text
    → get_or text place 0 ≢ get_or word 0 0 → starts_with nat_eq (drop place text) word ≡ false
other_first word text place some within other =
    begins_here word text place some within
    ∙ ap (λ t. t && starts_with nat_eq (behind (place + 1) text) (behind 1 word))
    (ne_eqb (get_or word 0 0) (get_or text place 0) (λ same. other (sym same)))

pub same_first : (word text : List ℕ) (place : ℕ) → 1 ≤ length word → place < length text
    → get_or text place 0 ≡ get_or word 0 0
    → starts_with nat_eq (drop place text) word
    ≡ starts_with nat_eq (behind (place + 1) text) (behind 1 word)
same_first word text place some within same =
    begins_here word text place some within
    ∙ ap (λ t. t && starts_with nat_eq (behind (place + 1) text) (behind 1 word))
    (eq-eqb (get_or word 0 0) (get_or text place 0) (sym same))

-- ---- what was seen in front of a place, and what comes from there on

-- the best of what was seen, of a place on a boundary and of one within
abbrev pub best : Standing → Bool → Bool → Standing
best seen boundary inside = if boundary then Boundary else if inside then Inside else seen

-- with what the rest of a text has, whose front may be a boundary
abbrev best_at : Standing → Bool → List ℕ → List ℕ → Standing
best_at seen front word rest = best seen (occurs_behind front word rest) (occurs word rest)

-- with what comes from the place on
abbrev pub best_from : Standing → List ℕ → List ℕ → ℕ → Standing
best_from seen word text place =
    best_at seen (is_boundary text place) word (drop place text)

pub at_start : (word text : List ℕ) → standing word text ≡ best_from Nowhere word text 0
at_start word text = refl

pub nothing_sought : (word text : List ℕ) → length word < 1 → standing word text ≡ Boundary
nothing_sought (b ∷ word) text none = absurd (omega arith)
nothing_sought [] [] none = refl
nothing_sought [] (b ∷ text) none = refl

-- the place behind a byte
next_boundary : (text : List ℕ) (place : ℕ)
    → is_boundary text (place + 1) ≡ not (is_ascii_alphabetic (get_or text place 0))
next_boundary text place =
    ap₂ (λ front before. front || not (is_ascii_alphabetic (get_or text before 0)))
    (ne_eqb (place + 1) 0 (λ same. omega arith)) (omega arith)

-- ---- one byte more

on_boundary : (seen : Standing) (front here behind ahead : Bool) → front ≡ true → here ≡ true
    → best seen ((front && here) || behind) (here || ahead) ≡ Boundary
on_boundary seen front here behind ahead is begins = rw (is, begins) refl

within_text : (seen : Standing) (front here behind ahead : Bool) → front ≡ false → here ≡ true
    → best seen ((front && here) || behind) (here || ahead) ≡ best Inside behind ahead
within_text seen true here behind ahead is begins = absurd (true≢false is)
within_text seen false false behind ahead is begins = absurd (true≢false (sym begins))
within_text seen false true true ahead is begins = refl
within_text seen false true false true is begins = refl
within_text seen false true false false is begins = refl

elsewhere : (seen : Standing) (front here behind ahead : Bool) → here ≡ false
    → best seen ((front && here) || behind) (here || ahead) ≡ best seen behind ahead
elsewhere seen front true behind ahead none = absurd (true≢false none)
elsewhere seen true false behind ahead none = refl
elsewhere seen false false behind ahead none = refl

module _ (seen : Standing) (word text : List ℕ) (place : ℕ) (within : place < length text) where
  abbrev b : ℕ
  b = get_or text place 0

  abbrev rest : List ℕ
  rest = drop (place + 1) text

  -- at the place stand a byte and the rest
  split : drop place text ≡ b ∷ rest
  split = rw add-one (drop-cons text place 0 within)

  from_byte : best_from seen word text place ≡ best_at seen (is_boundary text place) word (b ∷ rest)
  from_byte = ap (best_at seen (is_boundary text place) word) split

  begins : (is : Bool) → starts_with nat_eq (drop place text) word ≡ is
      → starts_with nat_eq (b ∷ rest) word ≡ is
  begins is here = ap (λ bs. starts_with nat_eq bs word) (sym split) ∙ here

  -- the rest begins on a boundary where the byte is no letter
  rest_is : (now : Standing)
      → best_at now (not (is_ascii_alphabetic b)) word rest ≡ best_from now word text (place + 1)
  rest_is now = ap (λ front. best_at now front word rest) (sym (next_boundary text place))

  pub stands_on_boundary : is_boundary text place ≡ true
      → starts_with nat_eq (drop place text) word ≡ true → best_from seen word text place ≡ Boundary
  stands_on_boundary front here =
      from_byte
      ∙ on_boundary seen (is_boundary text place) (starts_with nat_eq (b ∷ rest) word)
      (occurs_behind (not (is_ascii_alphabetic b)) word rest) (occurs word rest) front
      (begins true here)

  pub stands_within : is_boundary text place ≡ false
      → starts_with nat_eq (drop place text) word ≡ true
      → best_from seen word text place ≡ best_from Inside word text (place + 1)
  stands_within front here =
      from_byte
      ∙ within_text seen (is_boundary text place) (starts_with nat_eq (b ∷ rest) word)
      (occurs_behind (not (is_ascii_alphabetic b)) word rest) (occurs word rest) front
      (begins true here)
      ∙ rest_is Inside

  pub stands_elsewhere : starts_with nat_eq (drop place text) word ≡ false
      → best_from seen word text place ≡ best_from seen word text (place + 1)
  stands_elsewhere none =
      from_byte
      ∙ elsewhere seen (is_boundary text place) (starts_with nat_eq (b ∷ rest) word)
      (occurs_behind (not (is_ascii_alphabetic b)) word rest) (occurs word rest) (begins false none)
      ∙ rest_is seen

pub nothing_left : (seen : Standing) (word text : List ℕ) (place : ℕ) → 1 ≤ length word
    → length text ≤ place → best_from seen word text place ≡ seen
nothing_left seen word text place some past =
    ap (best_at seen (is_boundary text place) word) (drop_all place text past)
    ∙ none (is_boundary text place) word some
  where
    none : (front : Bool) (word : List ℕ) → 1 ≤ length word → best_at seen front word [] ≡ seen
    none front [] some = absurd (omega arith)
    none true (b ∷ word) some = refl
    none false (b ∷ word) some = refl
