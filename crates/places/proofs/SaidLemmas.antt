-- One piece said after another.
use Rattle.std.specs.Option.{option_map}
use Rattle.std.proofs.Common.{◌≡◌, ◌≤◌, ◌+◌, ◌-◌, ℕ, List, ◌++◌, length, take, drop, Some}
use Rattle.std.proofs.Common.{None, Option, refl, ap, sym, ◌∙◌, append_assoc, arith, length-drop}
use Rattle.std.proofs.lemmas.List.{take_all}
use Rattle.std.proofs.Math.Seq.{take-add}
use Rattle.places.specs.Said.{Says}

pub says_both : (before : Option (List ℕ)) (x y : List ℕ)
    → option_map (λ said. said ++ y) (option_map (λ said. said ++ x) before)
    ≡ option_map (λ said. said ++ (x ++ y)) before
says_both None x y = refl
says_both (Some said) x y = ap Some (append_assoc said x y)

pub says_more : (a b c : Option (List ℕ)) (x y : List ℕ) → Says a x b → Says b y c → Says a (x ++ y) c
says_more a b c x y first then_ = then_ ∙ ap (option_map (λ said. said ++ y)) first ∙ says_both a x y

-- a longer front is a front and what was said behind it
pub take_further : (bytes : List ℕ) (s n : ℕ) → s ≤ length bytes
    → take (s + n) bytes ≡ take s bytes ++ take n (take (length bytes - s) (drop s bytes))
take_further bytes s n within =
    let shorter = length-drop s bytes in
    let rest : take (length bytes - s) (drop s bytes) ≡ drop s bytes =
    take_all (length bytes - s) (drop s bytes) (omega arith) in
    take-add s n bytes ∙ ap (λ tail. take s bytes ++ take n tail) (sym rest)
