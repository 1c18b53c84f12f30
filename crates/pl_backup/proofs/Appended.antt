-- A text that is appended to, piece by piece.
use Rattle.std.proofs.Common.{◌≡◌, ◌∙◌, ◌++◌, ℕ, List, ap, append_assoc, sym}
use Rattle.pl_base.proofs.ListLaws.{append_twice}

-- two pieces that stood first in what was to come
pub taken : (a b c p q left whole : List ℕ) → b ≡ a ++ p → c ≡ b ++ q → whole ≡ p ++ (q ++ left)
    → c ++ left ≡ a ++ whole
taken a b c p q left whole first second is =
    ap (λ (x : List ℕ). x ++ left) (append_twice a b c p q first second) ∙ append_assoc a (p ++ q) left
    ∙ ap (λ (x : List ℕ). a ++ x) (append_assoc p q left ∙ sym is)
