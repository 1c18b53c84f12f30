-- What `stopped` gives is what the clock allows.
use Rattle.std.proofs.Common.{◌≡◌, ◌≢◌, ◌⊎◌, inl, inr, ⊎_elim, ℕ, zero, suc, ◌+◌, ◌<◌, List, [], ◌∷◌, length, take}
use Rattle.std.proofs.Common.{replicate, get_or, refl, sym, ap, subst, arith, add-one}
use Rattle.std.proofs.lemmas.List.{length-replicate}
use Rattle.pl_desk.specs.Desk.{overwritten, Torn}
use Rattle.pl_desk.specs.MemDesk.{Deed, nothing, wrote, tore, synced, Recorded, DeskState, after_deed, Takes, Reaches}
use Rattle.pl_desk.specs.MemDesk.{LeftAfter, said_len_at, line_at, ShownSince}
use Rattle.pl_desk.specs.Overwritten.{torn_overwritten}
use Rattle.pl_desk.specs.Record.{calls_of, deed_of}
use Rattle.pl_desk.specs.Stopped.{filled_by, closed_by, image_after, deed_at, IsQuiet, stopped_in, LeftIn}
use Rattle.pl_desk.specs.declared.record.Recorded.{Recorded as RecordedInMemory}

-- fillers in a range are bytes that a stop may leave there
torn_filled : (filler at n : ℕ) (image : List ℕ) → Torn at n image (overwritten filler at (replicate n filler) image)
torn_filled filler at n image =
    subst (λ (m : ℕ). Torn at m image (overwritten filler at (replicate n filler) image)) (length-replicate n filler)
    (torn_overwritten filler at (replicate n filler) image)

takes_closed : (filler : ℕ) (deed : Deed) (held image : List ℕ)
    → Takes deed held image (closed_by filler deed held image)
takes_closed filler nothing held image = refl
takes_closed filler (wrote at bytes) held image = torn_filled filler at (length bytes) image
takes_closed filler (tore at n) held image = torn_filled filler at n image
takes_closed filler synced held image = refl

-- within a call: what a stop may leave when it begins, or, where it does something, when it ends
within_call : (filler : ℕ) (deed : Deed) (held image : List ℕ)
    → (filled_by filler deed image ≡ image) ⊎ (deed ≢ nothing) × Takes deed held image (filled_by filler deed image)
within_call filler nothing held image = inl refl
within_call filler (wrote at bytes) held image = inr (λ same. cc, torn_filled filler at (length bytes) image)
within_call filler (tore at n) held image = inr (λ same. cc, torn_filled filler at n image)
within_call filler synced held image = inl refl

reaches_within : (filler : ℕ) (held image : List ℕ) (calls : List Recorded) (k : ℕ) → k < length calls
    → Reaches held image (take k calls)
    (filled_by filler (deed_at calls k) (image_after filler held image (take k calls)))
    ⊎ (deed_at calls k ≢ nothing)
    × Reaches held image (take (suc k) calls)
    (filled_by filler (deed_at calls k) (image_after filler held image (take k calls)))
reaches_within filler held image [] k below = absurd (omega arith)
reaches_within filler held image (call ∷ later) zero below =
    ⊎_elim (λ same. inl same) (λ takes. inr (takes.0, (filled_by filler call.deed image, takes.1, refl)))
    (within_call filler call.deed held image)
reaches_within filler held image (call ∷ later) (suc k) below =
    let next = takes_closed filler call.deed held image in
    ⊎_elim (λ begins. inl (closed_by filler call.deed held image, next, begins))
    (λ ends. inr (ends.0, (closed_by filler call.deed held image, next, ends.1)))
    (reaches_within filler (after_deed call.deed held) (closed_by filler call.deed held image) later k (omega arith))

-- the same of a call in the record
within_record : (desk : DeskState) (call filler : ℕ) → call < length desk.calls
    → LeftAfter desk.first (take call desk.calls) (stopped_in desk call filler)
    ⊎ (deed_at desk.calls call ≢ nothing)
    × LeftAfter desk.first (take (call + 1) desk.calls) (stopped_in desk call filler)
within_record desk call filler below =
    ⊎_elim (λ begins. inl begins)
    (λ ends. inr (
      ends.0,
      subst (λ (n : ℕ). LeftAfter desk.first (take n desk.calls) (stopped_in desk call filler))
          (sym (add-one call)) ends.1,
    ))
    (reaches_within filler desk.first desk.first desk.calls call below)

pub left_in : (desk : DeskState) (call filler : ℕ) → call < length desk.calls
    → LeftIn desk call (stopped_in desk call filler)
left_in desk call filler below =
    ⊎_elim (λ begins. inl begins) (λ ends. inr ends.1) (within_record desk call filler below)

-- with what had been said when the call began
pub shown_in : (desk : DeskState) (call filler : ℕ) → call < length desk.calls → IsQuiet desk.calls desk.said
    → ShownSince desk call (stopped_in desk call filler) (line_at desk call)
shown_in desk call filler below quiet = elim (within_record desk call filler below) [
  | inl begins ↦ (
    call,
    omega arith,
    record {
      within = omega (arith, below);
      left = begins;
      len = said_len_at desk.calls desk.said call;
      no_less =
          omega arith;
      no_more = omega arith;
      front = refl;
    },
  )
  | inr ends ↦
      let same = quiet call ends.0 in (
        call + 1,
        omega arith,
        record {
          within = omega (arith, below);
          left = ends.1;
          len =
              said_len_at desk.calls desk.said call;
          no_less = omega (arith, same);
          no_more = omega (arith, same);
          front =
              refl;
        },
      )
]

-- what a call did, as it stands in the record
pub deed_read : (items : List RecordedInMemory) (k : ℕ) (call : RecordedInMemory) → k < length items
    → call ≡ get_or items k call → deed_of call.deed ≡ deed_at (calls_of items) k
deed_read [] k call below is = absurd (omega arith)
deed_read (first ∷ later) zero call below is = ap (λ (c : RecordedInMemory). deed_of c.deed) is
deed_read (first ∷ later) (suc k) call below is = deed_read later k call (omega arith) is
