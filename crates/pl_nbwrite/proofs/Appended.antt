-- A text that is appended to, piece by piece.
use Rattle.std.proofs.Common.{◌≡◌, ◌∙◌, ◌++◌, ℕ, List, ap, append_assoc, sym}

-- a piece of what is still to come
pub carried : (a b piece left more whole : List ℕ) → a ++ left ≡ whole → left ≡ piece ++ more → b ≡ a ++ piece
    → b ++ more ≡ whole
carried a b piece left more whole before step pushed =
    ap (λ (x : List ℕ). x ++ more) pushed ∙ append_assoc a piece more ∙ ap (λ (x : List ℕ). a ++ x) (sym step) ∙ before

-- what was written so far, and a piece
pub grown : (s t whole piece : List ℕ) → s ≡ whole → t ≡ s ++ piece → t ≡ whole ++ piece
grown s t whole piece before pushed = pushed ∙ ap (λ (x : List ℕ). x ++ piece) before
