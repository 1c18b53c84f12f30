-- Of a line that is too long its first 262,146 bytes tell the entry.
use Rattle.std.specs.Str.Lines.{strip_carriage_return}
use Rattle.std.proofs.Common.{◌≡◌, ◌<◌, ◌≤◌, ◌+◌, ◌-◌, ℕ, Bool, true, false, cond, eqb, List, [], ◌∷◌, length, get_or}
use Rattle.std.proofs.Common.{take, Some, None, Option, Err, refl, ap, sym, ◌∙◌, arith, ⊎_elim}
use Rattle.std.proofs.lemmas.Bool.{cases_lt, cond-true, lt-ltb}
use Rattle.std.proofs.lemmas.List.{get_or-take, length-take-le, take_all}
use Rattle.pl_base.specs.declared.refusal.Refusal.TheVariants.{BadLine}
use Rattle.pl_step.specs.declared.command.Command.{Command}
use Rattle.pl_step.specs.Parsed.{Parsed}
use Rattle.pl_script.specs.Script.{entry, longest_line}
use Rattle.places.specs.Limits.{kept_of_line}

too_long : ℕ → Option (Parsed Command)
too_long first = cond (eqb first 35) None (Some (Err (BadLine (longest_line + 1))))

entry_long : (line : List ℕ) → longest_line < length line → entry line ≡ too_long (get_or line 0 0)
unfolding too_long
entry_long [] long = absurd (omega arith)
entry_long (b ∷ line) long =
    ap (λ found. cond (eqb b 35) None (Some found)) (cond-true _ _ _ (lt-ltb longest_line (length (b ∷ line)) long))

-- a line of more than one byte and the same less a CR at its end begin alike
abbrev IsNearly : List ℕ → List ℕ → Type 0
IsNearly line stripped = (length line ≤ length stripped + 1) × (get_or stripped 0 0 ≡ get_or line 0 0)

choice : (c : Bool) (line front : List ℕ) → IsNearly line front → IsNearly line (cond c front line)
choice true line front near = near
choice false line front near = (omega arith, refl)

nearly_stripped : (line : List ℕ) → 1 < length line → IsNearly line (strip_carriage_return line)
nearly_stripped line some =
    choice (eqb (get_or line (length line - 1) 0) 13) line (take (length line - 1) line) (
      omega (arith, length-take-le (length line - 1) line (omega arith)),
      get_or-take (length line - 1) line 0 0 (omega arith),
    )

pub entry-kept : (line : List ℕ) → entry (take kept_of_line line) ≡ entry line
entry-kept line =
    ⊎_elim
    (λ long.
    let kept = length-take-le kept_of_line line (omega arith) in
    entry_long (take kept_of_line line) (omega arith) ∙ ap too_long (get_or-take kept_of_line line 0 0 (omega arith))
    ∙ sym (entry_long line (omega arith)))
    (λ short. ap entry (take_all kept_of_line line short))
    (cases_lt kept_of_line (length line))

pub entry-kept_stripped : (line : List ℕ)
    → entry (strip_carriage_return (take kept_of_line line)) ≡ entry (strip_carriage_return line)
entry-kept_stripped line =
    ⊎_elim
    (λ long.
    let kept = length-take-le kept_of_line line (omega arith) in
    let front = nearly_stripped (take kept_of_line line) (omega arith) in
    let whole = nearly_stripped line (omega arith) in
    entry_long (strip_carriage_return (take kept_of_line line)) (omega (arith, front.0))
    ∙ ap too_long (front.1 ∙ get_or-take kept_of_line line 0 0 (omega arith) ∙ sym whole.1)
    ∙ sym (entry_long (strip_carriage_return line) (omega (arith, whole.0))))
    (λ short. ap (λ l. entry (strip_carriage_return l)) (take_all kept_of_line line short))
    (cases_lt kept_of_line (length line))
