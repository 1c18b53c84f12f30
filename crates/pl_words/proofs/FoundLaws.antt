-- A word that stands on a boundary of a text stands in it.
use Rattle.std.proofs.Common.{◌≡◌, ◌&&◌, ◌||◌, ℕ, Bool, true, false, List, [], ◌∷◌, nat_eq, not}
use Rattle.std.proofs.Common.{refl, sym}
use Rattle.std.specs.Char.{is_ascii_alphabetic}
use Rattle.std.specs.List.{starts_with}
use Rattle.std.proofs.lemmas.Bool.{true≢false}
use Rattle.pl_words.specs.Pieces.{found, occurs, occurs_behind}

occurs_somewhere : (front : Bool) (word text : List ℕ) → occurs_behind front word text ≡ true
    → occurs word text ≡ true
occurs_somewhere true word [] is = is
occurs_somewhere false word [] is = absurd (true≢false (sym is))
occurs_somewhere front word (b ∷ text) is =
    either front (starts_with nat_eq (b ∷ text) word)
    (occurs_behind (not (is_ascii_alphabetic b)) word text) (occurs word text) is
    (occurs_somewhere (not (is_ascii_alphabetic b)) word text)
  where
    either : (front here behind ahead : Bool) → ((front && here) || behind) ≡ true
        → (behind ≡ true → ahead ≡ true) → (here || ahead) ≡ true
    either front true behind ahead is goes_on = refl
    either true false behind ahead is goes_on = goes_on is
    either false false behind ahead is goes_on = goes_on is

pub found_somewhere : (word text : List ℕ) → found true word text ≡ true
    → found false word text ≡ true
found_somewhere word text = occurs_somewhere true word text
