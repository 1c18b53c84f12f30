-- Laws of the replay of recorded calls.
use Rattle.std.specs.Prelude.{◌≡◌, ℕ, ◌+◌, ◌≤◌, List, [], ◌∷◌, length, Some, IsSome, ◌↔◌}
use Rattle.std.proofs.Common.{refl, sym, ◌∙◌, subst, arith}
use Rattle.std.proofs.lemmas.List.{take_all, length-map, get_or_past}
use Rattle.std.proofs.lemmas.Option.{same_Some}
use Rattle.pl_desk.specs.Overwritten.{torn_overwritten, torn_same}
use Rattle.pl_desk.specs.MemDesk.{Deed, nothing, wrote, tore, synced, Recorded, DeskState}
use Rattle.pl_desk.specs.MemDesk.{after_deed, file_after, Takes, Reaches, LeftAfter, begun_at}
use Rattle.pl_desk.specs.MemDesk.{said_len_at, IsShown, ShownSince, held_by, MayLeave}

-- each call makes of what a read gave what a read gives
takes_held : (deed : Deed) (held : List ℕ) → Takes deed held held (after_deed deed held)
takes_held nothing held = refl
takes_held (wrote at bytes) held = torn_overwritten 0 at bytes held
takes_held (tore at n) held = torn_same at n held
takes_held synced held = refl

-- what a read gives may always be left
pub reaches_held : (held : List ℕ) (calls : List Recorded)
    → Reaches held held calls (file_after held calls)
reaches_held held [] = refl
reaches_held held (call ∷ calls) = (
  after_deed call.deed held,
  takes_held call.deed held,
  reaches_held (after_deed call.deed held) calls,
)

-- past the last call all has been said
pub said_len_past : (calls : List Recorded) (said : List ℕ) (k : ℕ) → length calls ≤ k
    → said_len_at calls said k ≡ length said
said_len_past calls said k past =
    get_or_past (begun_at calls) k (length said)
    (omega (arith, length-map calls (λ (call : Recorded). call.said_before)))

-- the laws of a desk, for one in memory: its content is told
pub told_together : (desk : DeskState) → IsSome (Some (held_by desk)) ↔ IsSome (Some desk.said)
told_together desk = (λ told. refl, λ told. refl)

-- at the end of all calls
shown_last : (desk : DeskState) (file : List ℕ) → MayLeave desk file
    → IsShown desk.first desk.calls desk.said (length desk.calls) file desk.said
shown_last desk file left =
    let here = said_len_past desk.calls desk.said (length desk.calls) (omega arith) in
    let after = said_len_past desk.calls desk.said (length desk.calls + 1) (omega arith) in
    record {
      within = omega arith;
      left =
          subst (λ (calls : List Recorded). LeftAfter desk.first calls file)
          (sym (take_all (length desk.calls) desk.calls (omega arith))) left;
      len = length desk.said;
      no_less = omega (arith, here);
      no_more = omega (arith, here, after);
      front = sym (take_all (length desk.said) desk.said (omega arith));
    }

-- this moment is one of those since an earlier one
pub counts_now : (desk : DeskState) (t : ℕ) (file line : List ℕ) → t ≤ length desk.calls
    → MayLeave desk file → Some desk.said ≡ Some line → ShownSince desk t file line
counts_now desk t file line le left same = (
  length desk.calls,
  le,
  subst
      (λ (l : List ℕ). IsShown desk.first desk.calls desk.said (length desk.calls) file l)
      (same_Some _ _ same) (shown_last desk file left),
)

-- a stop may always show what a read gives and what was said
pub shown_now : (desk : DeskState) (t : ℕ) (file line : List ℕ) → t ≤ length desk.calls
    → Some (held_by desk) ≡ Some file → Some desk.said ≡ Some line → ShownSince desk t file line
shown_now desk t file line le held same =
    counts_now desk t file line le
    (subst (MayLeave desk) (same_Some _ _ held) (reaches_held desk.first desk.calls)) same

-- since this moment there is no other
pub only_now : (desk : DeskState) (line_now file line : List ℕ) → Some desk.said ≡ Some line_now
    → ShownSince desk (length desk.calls) file line → MayLeave desk file × (line ≡ line_now)
only_now desk line_now file line same (k, le, shown) =
    let here = said_len_past desk.calls desk.said k le in
    let after = said_len_past desk.calls desk.said (k + 1) (omega arith) in (
      subst (λ (calls : List Recorded). LeftAfter desk.first calls file) (take_all k desk.calls le)
          shown.left,
      shown.front ∙ take_all shown.len desk.said
          (omega (arith, here, after, shown.no_less, shown.no_more)) ∙ same_Some _ _ same,
    )
