-- What one call more does to the clock of a desk in memory.
use Rattle.std.proofs.Common.{◌≡◌, ◌⊎◌, ℕ, ◌+◌, ◌-◌, ◌<◌, ◌≤◌, Some, List, [], ◌∷◌, ◌++◌, length, take, All, refl, sym}
use Rattle.std.proofs.Common.{◌∙◌, ap, subst, inl, inr, ⊎_elim, arith, length-append, append-nil}
use Rattle.std.proofs.lemmas.Bool.{cases_eq, cases_lt}
use Rattle.std.proofs.lemmas.List.{take_at, take_all, length-map, take-append-le, length_push}
use Rattle.std.proofs.lemmas.List.Elements.{All-get_or}
use Rattle.std.proofs.Math.Seq.{take-append-add}
use Rattle.pl_desk.specs.Desk.{Elapses}
use Rattle.pl_desk.specs.MemDesk.{Deed, Recorded, nothing, file_after, Takes, LeftAfter, begun_at, said_len_at, IsShown}
use Rattle.pl_desk.specs.Replay.{said_len_past, counts_now}
use Rattle.pl_desk.proofs.Inside.{said_len_push}
use Rattle.pl_desk.proofs.ReplayLaws.{push_reaches}

-- what a stop from the end of the first t calls on might have shown
abbrev pub Since : List ℕ → List Recorded → List ℕ → ℕ → List ℕ → List ℕ → Type 0
Since first calls said t file line = (k : ℕ) × (t ≤ k) × IsShown first calls said k file line

-- a call that shows less
pub weaker : (before now : ℕ) (past since : ℕ → List ℕ → List ℕ → Type 0) (shows more : List ℕ → List ℕ → Type 0)
    → ((file line : List ℕ) → shows file line → more file line) → Elapses before now past since shows
    → Elapses before now past since more
weaker before now past since shows more leads time = record {
  later = time.later;
  nothing_else =
      λ t file line le shown. ⊎_elim (λ was. inl was) (λ here. inr (leads file line here))
      (time.nothing_else t file line le shown);
  keeps = time.keeps;
}

take-nil : (k : ℕ) → take {A = ℕ} k [] ≡ []
take-nil k = take_all {A = ℕ} k [] (omega arith)

module _ (first : List ℕ) (calls : List Recorded) (said more : List ℕ) (call : Recorded)
    (begins : call.said_before ≡ length said) (within : All (λ n. n ≤ length said) (begun_at calls)) where
  abbrev calls' : List Recorded
  calls' = calls ++ call ∷ []

  size : length calls' ≡ length calls + 1
  size = length_push calls call

  sizes : length (begun_at calls) ≡ length calls
  sizes = length-map calls (λ (c : Recorded). c.said_before)

  -- how much had been said when an earlier call began, or this one
  len_same : (said' : List ℕ) (k : ℕ) → k ≤ length calls → said_len_at calls' said' k ≡ said_len_at calls said k
  len_same said' k le = said_len_push calls call said said' k begins le

  len_within : (k : ℕ) → said_len_at calls said k ≤ length said
  len_within k = elim (cases_lt k (length calls)) [
    | inl lt ↦ All-get_or (λ n. n ≤ length said) (begun_at calls) k (length said) (omega (arith, lt, sizes)) within
    | inr ge ↦ let is = said_len_past calls said k ge in omega (arith, is)
  ]

  -- what was shown before the call's end is shown still
  keeps : (k : ℕ) (file line : List ℕ) → IsShown first calls said k file line
      → IsShown first calls' (said ++ more) k file line
  keeps k file line shown =
      let here = len_same (said ++ more) k shown.within in
      let below : shown.len ≤ length said = omega (arith, shown.no_more, len_within k, len_within (k + 1)) in
      record {
        within = omega (arith, shown.within, size);
        left =
            subst (λ (l : List Recorded). LeftAfter first l file)
            (sym (take-append-le k calls (call ∷ []) shown.within)) shown.left;
        len = shown.len;
        no_less = omega (arith, here, shown.no_less);
        no_more = elim (cases_lt k (length calls)) [
          | inl lt ↦ let next = len_same (said ++ more) (k + 1) (omega (arith, lt)) in
              omega (arith, here, next, shown.no_more)
          | inr ge ↦ let now = said_len_past calls said k ge in
              let next = said_len_past calls said (k + 1) (omega (arith, ge)) in
              omega (arith, here, now, next, shown.no_more)
        ];
        front = shown.front ∙ sym (take-append-le shown.len said more below);
      }

  -- what is shown of an earlier call was shown before
  earlier : (k : ℕ) (file line : List ℕ) → k < length calls → IsShown first calls' (said ++ more) k file line
      → IsShown first calls said k file line
  earlier k file line lt shown =
      let here = len_same (said ++ more) k (omega (arith, lt)) in
      let next = len_same (said ++ more) (k + 1) (omega (arith, lt)) in
      let below : shown.len ≤ length said =
      omega (arith, shown.no_more, here, next, len_within k, len_within (k + 1)) in
      record {
        within = omega (arith, lt);
        left =
            subst (λ (l : List Recorded). LeftAfter first l file)
            (take-append-le k calls (call ∷ []) (omega (arith, lt))) shown.left;
        len = shown.len;
        no_less = omega (arith, here, shown.no_less);
        no_more = omega (arith, here, next, shown.no_more);
        front = shown.front ∙ take-append-le shown.len said more below;
      }

  -- a front of what was said and of what the call says
  front_of : (len : ℕ) → length said ≤ len → len ≤ length (said ++ more)
      → (k : ℕ) × (k ≤ length more) × (take len (said ++ more) ≡ said ++ take k more)
  front_of len no_less no_more =
      let is : len ≡ length said + (len - length said) = omega (arith, no_less) in (
        len - length said,
        omega (arith, no_less, no_more, length-append said more),
        ap (λ (n : ℕ). take n (said ++ more)) is ∙ take-append-add said more (len - length said),
      )

  -- all was said when the call began, or it is over and what it says is said too
  begun_last : (k : ℕ) → length calls ≤ k
      → (said_len_at calls' (said ++ more) k ≡ length said)
      ⊎ (said_len_at calls' (said ++ more) k ≡ length (said ++ more))
  begun_last k ge = elim (cases_eq k (length calls)) [
    | inl last ↦ inl (len_same (said ++ more) k (omega (arith, last)) ∙ said_len_past calls said k ge)
    | inr past ↦ inr (said_len_past calls' (said ++ more) k (omega (arith, ge, past, size)))
  ]

  left_last : (k : ℕ) (file : List ℕ) → length calls ≤ k → k ≤ length calls' → LeftAfter first (take k calls') file
      → LeftAfter first calls file ⊎ LeftAfter first calls' file
  left_last k file ge le left = elim (cases_eq k (length calls)) [
    | inl last ↦ inl (subst (λ (l : List Recorded). LeftAfter first l file) (take_at calls (call ∷ []) k (sym last))
        left)
    | inr past ↦ inr (subst (λ (l : List Recorded). LeftAfter first l file)
        (take_all k calls' (omega (arith, ge, past, size))) left)
  ]

  -- What is shown since is what was shown, or a file that may be left at the call's beginning or at
  -- its end, and a front of what it says.
  pub shown_then : (t : ℕ) (file line : List ℕ) → t ≤ length calls → Since first calls' (said ++ more) t file line
      → Since first calls said t file line
      ⊎ ((LeftAfter first calls file ⊎ LeftAfter first calls' file)
      × ((k : ℕ) × (k ≤ length more) × (line ≡ said ++ take k more)))
  shown_then t file line le (k, since, shown) = elim (cases_lt k (length calls)) [
    | inl lt ↦ inl (k, since, earlier k file line lt shown)
    | inr ge ↦
        let begun = begun_last k ge in
        let next = said_len_past calls' (said ++ more) (k + 1) (omega (arith, ge, size)) in
        let longer = length-append said more in
        let front =
        front_of shown.len (omega (arith, begun, longer, shown.no_less))
        (omega (arith, begun, next, longer, shown.no_more)) in
        inr (left_last k file ge shown.within shown.left, (front.0, front.1, shown.front ∙ front.2))
  ]

  -- at the call's beginning
  now : (t : ℕ) (file line : List ℕ) → t ≤ length calls → LeftAfter first calls file → Some said ≡ Some line
      → Since first calls said t file line
  now t file line le left same =
      counts_now (record { first = first; calls = calls; said = said; fails = []; device_faults = 0; line_faults = 0 })
      t file line le left same

  -- what a call that says nothing does
  pub passes : more ≡ [] → Elapses (length calls) (length calls') (Since first calls said) (Since first calls' said)
      (λ file line. LeftAfter first calls' file × (Some said ≡ Some line))
  passes silent =
      let same : said ++ more ≡ said = ap (λ (l : List ℕ). said ++ l) silent ∙ append-nil said in
      record {
        later = omega (arith, size);
        nothing_else = λ t file line le shown.
            elim (shown_then t file line le
            (subst (λ (l : List ℕ). Since first calls' l t file line) (sym same) shown)) [
              | inl past ↦ inl past
              | inr here ↦
                  let line_is : said ≡ line =
                  sym (here.1.2 ∙ ap (λ (l : List ℕ). said ++ take here.1.0 l) silent
                  ∙ ap (λ (l : List ℕ). said ++ l) (take-nil here.1.0) ∙ append-nil said) in
                  elim here.0 [
                    | inl before ↦ inl (now t file line le before (ap Some line_is))
                    | inr after ↦ inr (after, ap Some line_is)
                  ]
            ];
        keeps =
            λ t file line le shown. (
              shown.0,
              shown.1,
              subst (λ (l : List ℕ). IsShown first calls' l shown.0 file line) same (keeps shown.0 file line shown.2),
            );
      }

  -- what a call does that says something and nothing to the file
  pub says : call.deed ≡ nothing
      → Elapses (length calls) (length calls') (Since first calls said) (Since first calls' (said ++ more))
      (λ file line. LeftAfter first calls' file
      × ((k : ℕ) × (k ≤ length more) × (Some (said ++ take k more) ≡ Some line)))
  says quiet = record {
    later = omega (arith, size);
    nothing_else = λ t file line le shown.
        elim (shown_then t file line le shown) [
          | inl past ↦ inl past
          | inr here ↦
              let left : LeftAfter first calls' file = elim here.0 [
                | inl before ↦ push_reaches first first calls call file file before
                    (subst (λ (d : Deed). Takes d (file_after first calls) file file) (sym quiet) refl)
                | inr after ↦ after
              ] in
              inr (left, (here.1.0, here.1.1, ap Some (sym here.1.2)))
        ];
    keeps = λ t file line le shown. (shown.0, shown.1, keeps shown.0 file line shown.2);
  }
