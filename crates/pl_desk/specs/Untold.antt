-- What a desk says of its content that tells nothing of it, and the laws of such a desk.
use Rattle.std.specs.Prelude.{◌≡◌, ◌↔◌, ◌≤◌, ℕ, List, Option, Some, None, IsSome}
use Rattle.std.proofs.lemmas.Option.{none-some}
use Rattle.pl_desk.specs.Desk.{Follows, Torn}
use Rattle.pl_desk.specs.Overwritten.{torn_same}

-- what a read gives, and what was said
abbrev pub untold : {D : Type 0} → D → Option (List ℕ)
untold desk = None

-- any file may be left
abbrev pub AnyFile : {D : Type 0} → D → List ℕ → Type 0
AnyFile desk file = Unit {0}

-- and anything shown
abbrev pub AnyShown : {D : Type 0} → D → ℕ → List ℕ → List ℕ → Type 0
AnyShown desk t file line = Unit {0}

module _ {D : Type 0} where
  -- neither is told
  pub told_together : (desk : D) → IsSome (untold desk) ↔ IsSome (untold desk)
  told_together desk = (λ told. told, λ told. told)

  -- this moment is one of those since an earlier one
  pub counts_now : (desk : D) (t : ℕ) (file line : List ℕ) → t ≤ 0 → AnyFile desk file
      → untold desk ≡ Some line → AnyShown desk t file line
  counts_now desk t file line le left said = tt

  -- a stop may always show what a read gives now, and what was said
  pub shown_now : (desk : D) (t : ℕ) (file line : List ℕ) → t ≤ 0 → untold desk ≡ Some file
      → untold desk ≡ Some line → AnyShown desk t file line
  shown_now desk t file line le held said = tt

  -- since this moment there is no other
  pub only_now : (desk : D) (line_now file line : List ℕ) → untold desk ≡ Some line_now
      → AnyShown desk 0 file line → AnyFile desk file × (line ≡ line_now)
  only_now desk line_now file line same shown = absurd (none-some line_now same)

  -- a write may leave any file as it was
  pub torn_left : (old new : D) (at n : ℕ) → Follows (Torn at n) (AnyFile old) (AnyFile new)
  torn_left old new at n file left = (file, tt, torn_same at n file)
