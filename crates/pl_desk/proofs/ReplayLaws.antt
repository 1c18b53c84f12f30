-- Laws of the replay of recorded calls, with one call more.
use Rattle.std.specs.Prelude.{◌≡◌, ℕ, List, [], ◌∷◌, ◌++◌}
use Rattle.std.proofs.Common.{refl, subst, sym}
use Rattle.pl_desk.specs.MemDesk.{Reaches, Recorded, Takes, after_deed, file_after}

-- what a read gives after one call more
pub file_after_push : (file : List ℕ) (calls : List Recorded) (call : Recorded)
    → file_after file (calls ++ call ∷ []) ≡ after_deed call.deed (file_after file calls)
file_after_push file [] call = refl
file_after_push file (c ∷ calls) call = file_after_push (after_deed c.deed file) calls call

-- what a stop may leave after one call more is what that call makes of a file that it might have
-- left before
pub reaches_push : (held old : List ℕ) (calls : List Recorded) (call : Recorded) (new : List ℕ)
    → Reaches held old (calls ++ call ∷ []) new
    → (mid : List ℕ) × Reaches held old calls mid × Takes call.deed (file_after held calls) mid new
reaches_push held old [] call new (mid, takes, same) =
    (old, refl, subst (λ (l : List ℕ). Takes call.deed held old l) (sym same) takes)
reaches_push held old (c ∷ calls) call new (mid, takes, reaches) =
    let later = reaches_push (after_deed c.deed held) mid calls call new reaches in
    (later.0, (mid, takes, later.1), later.2)

-- and what the call makes of such a file is one that a stop may leave
pub push_reaches : (held old : List ℕ) (calls : List Recorded) (call : Recorded) (mid new : List ℕ)
    → Reaches held old calls mid → Takes call.deed (file_after held calls) mid new
    → Reaches held old (calls ++ call ∷ []) new
push_reaches held old [] call mid new same takes =
    (new, subst (λ (l : List ℕ). Takes call.deed held l new) same takes, refl)
push_reaches held old (c ∷ calls) call mid new (first, takes, reaches) last =
    (first, takes, push_reaches (after_deed c.deed held) first calls call mid new reaches last)
