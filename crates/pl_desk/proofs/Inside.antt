-- One call more in the record of a desk in memory.
use Rattle.std.proofs.Common.{◌≡◌, ◌⊎◌, ⊎_elim, inl, inr, ℕ, zero, suc, ◌+◌, ◌<◌, ◌≤◌, List, [], ◌∷◌, ◌++◌, length, All}
use Rattle.std.proofs.Common.{get_or, refl, sym, ◌∙◌, ap, subst, arith}
use Rattle.std.proofs.lemmas.Bool.{cases_eq, cases_lt}
use Rattle.std.proofs.lemmas.List.{map_push, length-map, length_push, get_or_append_left, get_or_default, get_or_push}
use Rattle.std.proofs.lemmas.List.Elements.{All-push, All-same, All-weaker}
use Rattle.pl_desk.specs.declared.record.Recorded.{Recorded as RecordedInMemory}
use Rattle.pl_desk.specs.MemDesk.{Recorded, nothing, after_deed, file_after, begun_at, said_len_at}
use Rattle.pl_desk.specs.Replay.{said_len_past}
use Rattle.pl_desk.specs.Stopped.{deed_at, IsQuiet}
use Rattle.pl_desk.specs.Record.{call_of, calls_of}
use Rattle.pl_desk.proofs.ReplayLaws.{file_after_push}

pub calls_push : (old new : List RecordedInMemory) (call : RecordedInMemory) → new ≡ old ++ call ∷ []
    → calls_of new ≡ calls_of old ++ call_of call ∷ []
calls_push old new call is = ap calls_of is ∙ map_push call_of old call

pub within_push : (old new : List Recorded) (call : Recorded) (n m : ℕ) → new ≡ old ++ call ∷ [] → n ≤ m
    → call.said_before ≤ m → All (λ k. k ≤ n) (begun_at old) → All (λ k. k ≤ m) (begun_at new)
within_push old new call n m is le begins within =
    All-same (λ k. k ≤ m) (begun_at new) (begun_at old ++ call.said_before ∷ [])
    (ap begun_at is ∙ map_push (λ (c : Recorded). c.said_before) old call)
    (All-push (λ k. k ≤ m) (begun_at old) call.said_before
    (All-weaker (λ k. k ≤ n) (λ k. k ≤ m) (λ k below. omega (arith, le, below)) (begun_at old) within) begins)

pub replayed_push : (first file file' : List ℕ) (old new : List Recorded) (call : Recorded) → new ≡ old ++ call ∷ []
    → file ≡ file_after first old → file' ≡ after_deed call.deed file → file' ≡ file_after first new
replayed_push first file file' old new call is replayed done =
    done ∙ ap (after_deed call.deed) replayed ∙ sym (file_after_push first old call) ∙ ap (file_after first) (sym is)

-- how much had been said when an earlier call began, or this one
pub said_len_push : (calls : List Recorded) (call : Recorded) (said said' : List ℕ) (k : ℕ)
    → call.said_before ≡ length said → k ≤ length calls
    → said_len_at (calls ++ call ∷ []) said' k ≡ said_len_at calls said k
said_len_push calls call said said' k begins le =
    let sizes = length-map calls (λ (c : Recorded). c.said_before) in
    let pushed =
    ap (λ (l : List ℕ). get_or l k (length said')) (map_push (λ (c : Recorded). c.said_before) calls call) in
    elim (cases_lt k (length calls)) [
      | inl lt ↦ pushed ∙ get_or_append_left (begun_at calls) (call.said_before ∷ []) (length said') k
          (omega (arith, lt, sizes))
          ∙ get_or_default (begun_at calls) k (length said') (length said) (omega (arith, lt, sizes))
      | inr ge ↦ pushed ∙ get_or_push (begun_at calls) call.said_before (length said') k (omega (arith, ge, le, sizes))
          ∙ begins ∙ sym (said_len_past calls said k ge)
    ]

-- what an earlier call did, and what this one does
deed_push : (calls : List Recorded) (call : Recorded) (k : ℕ) → k < length calls
    → deed_at (calls ++ call ∷ []) k ≡ deed_at calls k
deed_push [] call k lt = absurd (omega arith)
deed_push (c ∷ calls) call zero lt = refl
deed_push (c ∷ calls) call (suc k) lt = deed_push calls call k (omega arith)

deed_last : (calls : List Recorded) (call : Recorded) → deed_at (calls ++ call ∷ []) (length calls) ≡ call.deed
deed_last [] call = refl
deed_last (c ∷ calls) call = deed_last calls call

-- a call that does nothing to the file, or that says nothing
pub quiet_push : (old new : List Recorded) (call : Recorded) (said said' : List ℕ) → new ≡ old ++ call ∷ []
    → call.said_before ≡ length said → (call.deed ≡ nothing) ⊎ (length said' ≡ length said) → IsQuiet old said
    → IsQuiet new said'
quiet_push old new call said said' is begins one quiet =
    subst (λ (l : List Recorded). IsQuiet l said') (sym is) (λ k acts. elim (cases_lt k (length old)) [
      | inl lt ↦
          said_len_push old call said said' (k + 1) begins (omega (arith, lt))
          ∙ quiet k (λ none. acts (deed_push old call k lt ∙ none))
          ∙ sym (said_len_push old call said said' k begins (omega (arith, lt)))
      | inr ge ↦
          let size = length_push old call in
          let after = said_len_past (old ++ call ∷ []) said' (k + 1) (omega (arith, ge, size)) in
          elim (cases_eq k (length old)) [
            | inl last ↦
                let begun =
                said_len_push old call said said' k begins (omega (arith, last)) ∙ said_len_past old said k ge in
                ⊎_elim (λ none. absurd (acts (ap (deed_at (old ++ call ∷ [])) last ∙ deed_last old call ∙ none)))
                (λ same. after ∙ same ∙ sym begun) one
            | inr past ↦ after ∙ sym (said_len_past (old ++ call ∷ []) said' k (omega (arith, ge, past, size)))
          ]
    ])
