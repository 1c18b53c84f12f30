-- A text that is not the name of a key.
use Rattle.std.proofs.Common.{◌≡◌, ℕ, List, false, sym}
use Rattle.std.proofs.lemmas.Slice.Eq.{bytes_eq-Decides}
use Rattle.std.specs.Prelude.{bytes_eq}
use Rattle.pl_place.specs.declared.key.Key.{Key}
use Rattle.pl_place.specs.Keys.{key_name}
use Rattle.pl_base.proofs.Truths.{no_test}

pub unlike_text : (name text : List ℕ) → (text ≡ name → ⊥) → bytes_eq name text ≡ false
unlike_text name text other =
    no_test (bytes_eq name text) (λ same. other (sym ((bytes_eq-Decides name text).0 same)))

pub unlike : (k : Key) (text : List ℕ) → (text ≡ key_name k → ⊥) → bytes_eq (key_name k) text ≡ false
unlike k text other = unlike_text (key_name k) text other
