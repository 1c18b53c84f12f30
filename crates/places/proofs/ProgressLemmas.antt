-- A run goes on by the bytes of its input.
use Rattle.std.specs.Str.Lines.{strip_carriage_return}
use Rattle.std.proofs.Common.{◌≡◌, ◌≢◌, ⊎_elim, ◌<◌, ◌≤◌, ◌+◌, ℕ, List, [], ◌∷◌, ◌++◌, length, take, drop, Option}
use Rattle.std.proofs.Common.{option_to_list, refl, ap, sym, ◌∙◌, append_assoc, append-nil, arith, length-append}
use Rattle.std.proofs.Common.{get_or, add-one, drop-cons}
use Rattle.std.proofs.lemmas.Grind.{flat_map-append}
use Rattle.std.proofs.Math.Seq.{take-add}
use Rattle.std.proofs.lemmas.Bool.{cases_eq}
use Rattle.std.proofs.lemmas.List.{length-take, take-append-drop, take-append-le, take_all}
use Rattle.pl_base.specs.Store.{Store}
use Rattle.pl_base.specs.Live.{slot_limit}
use Rattle.pl_step.specs.declared.command.Command.{Command}
use Rattle.pl_step.specs.Run.{replies, after}
use Rattle.pl_step.specs.Parsed.{Parsed}
use Rattle.pl_step.specs.Step.{step}
use Rattle.pl_store.specs.Keeper.{keeper_limit, keeper_store}
use Rattle.pl_script.specs.Reply.{reply_text}
use Rattle.pl_script.specs.Script.{script}
use Rattle.places.specs.declared.script_run.ScriptRun.{ScriptRun}
use Rattle.places.specs.Limits.{kept_of_line}
use Rattle.places.specs.Lines.{ended_lines, entries_of, entries_in, open_line}
use Rattle.places.specs.Progress.{IsAt, ended_entries}
use Rattle.places.specs.Said.{Says, texts}
use Rattle.places.proofs.LineLemmas.{ended_lines-lf, ended_lines-on, entries_of-append, entries_of-one, open_line-lf}
use Rattle.places.proofs.LineLemmas.{open_line-on, script-is}
use Rattle.places.proofs.LongLines.{entry-kept, entry-kept_stripped}
use Rattle.places.proofs.SaidLemmas.{says_more}

-- ---- runs, one after another

pub replies-append : (store : Store) (xs ys : List (Parsed Command))
    → replies slot_limit store (xs ++ ys) ≡ replies slot_limit store xs
    ++ replies slot_limit (after slot_limit store xs) ys
replies-append store [] ys = refl
replies-append store (x ∷ xs) ys =
    ap (λ rest. (step slot_limit store x).0 ∷ rest) (replies-append (step slot_limit store x).1 xs ys)

pub after-append : (store : Store) (xs ys : List (Parsed Command))
    → after slot_limit store (xs ++ ys) ≡ after slot_limit (after slot_limit store xs) ys
after-append store [] ys = refl
after-append store (x ∷ xs) ys = after-append (step slot_limit store x).1 xs ys

pub texts-append : (store : Store) (xs ys : List (Parsed Command))
    → texts (replies slot_limit store (xs ++ ys)) ≡ texts (replies slot_limit store xs)
    ++ texts (replies slot_limit (after slot_limit store xs) ys)
texts-append store xs ys =
    ap texts (replies-append store xs ys)
    ∙ flat_map-append reply_text (replies slot_limit store xs) (replies slot_limit (after slot_limit store xs) ys)

-- ---- lines

pub ended_lf : (bytes : List ℕ)
    → ended_entries (bytes ++ 10 ∷ []) ≡ ended_entries bytes ++ entries_in (strip_carriage_return (open_line bytes))
ended_lf bytes =
    ap entries_of (ended_lines-lf bytes)
    ∙ entries_of-append (ended_lines bytes) (strip_carriage_return (open_line bytes) ∷ [])
    ∙ ap (λ more. ended_entries bytes ++ more) (entries_of-one (strip_carriage_return (open_line bytes)))

ended_on : (bytes : List ℕ) (b : ℕ) → b ≢ 10 → ended_entries (bytes ++ b ∷ []) ≡ ended_entries bytes
ended_on bytes b on = ap entries_of (ended_lines-on bytes b on)

pub kept_stripped : (bytes kept line : List ℕ) → kept ≡ take kept_of_line (open_line bytes)
    → line ≡ strip_carriage_return kept → entries_in line ≡ entries_in (strip_carriage_return (open_line bytes))
kept_stripped bytes kept line is stripped =
    ap entries_in stripped ∙ ap (λ l. entries_in (strip_carriage_return l)) is
    ∙ ap option_to_list (entry-kept_stripped (open_line bytes))

pub kept_open : (bytes kept : List ℕ) → kept ≡ take kept_of_line (open_line bytes)
    → entries_in kept ≡ entries_in (open_line bytes)
kept_open bytes kept is = ap entries_in is ∙ ap option_to_list (entry-kept (open_line bytes))

-- of a line of fewer bytes than may be kept all are kept, and of a longer one no more
keeps_all : (n : ℕ) (line kept : List ℕ) (b : ℕ) → kept ≡ take n line → length kept < n
    → kept ++ b ∷ [] ≡ take n (line ++ b ∷ [])
keeps_all n line kept b is short =
    let long = length-take n line in
    let kept_len = ap length is in
    let more = length-append line (b ∷ []) in
    let all : take n line ≡ line = take_all n line (omega arith) in
    ap (λ l. l ++ b ∷ []) (is ∙ all) ∙ sym (take_all n (line ++ b ∷ []) (omega arith))

keeps_front : (n : ℕ) (line kept : List ℕ) (b : ℕ) → kept ≡ take n line → n ≤ length kept
    → kept ≡ take n (line ++ b ∷ [])
keeps_front n line kept b is long =
    let all = length-take n line in
    let kept_len = ap length is in
    is ∙ sym (take-append-le n line (b ∷ []) (omega arith))

-- ---- more of the input

one_further : (bytes : List ℕ) (b : ℕ)
    → (ys : List (Parsed Command)) × (ended_entries (bytes ++ b ∷ []) ≡ ended_entries bytes ++ ys)
one_further bytes b =
    ⊎_elim
    (λ lf. (
      entries_in (strip_carriage_return (open_line bytes)),
      ap (λ c. ended_entries (bytes ++ c ∷ [])) lf ∙ ended_lf bytes,
    ))
    (λ on. ([], ended_on bytes b on ∙ sym (append-nil (ended_entries bytes))))
    (cases_eq b 10)

pub ended_further : (bytes piece : List ℕ)
    → (ys : List (Parsed Command)) × (ended_entries (bytes ++ piece) ≡ ended_entries bytes ++ ys)
ended_further bytes [] = ([], ap ended_entries (append-nil bytes) ∙ sym (append-nil (ended_entries bytes)))
ended_further bytes (b ∷ piece) =
    let one = one_further bytes b in
    let rest = ended_further (bytes ++ b ∷ []) piece in (
      one.0 ++ rest.0,
      ap ended_entries (sym (append_assoc bytes (b ∷ []) piece)) ∙ rest.1
          ∙ ap (λ xs. xs ++ rest.0) one.1 ∙ append_assoc (ended_entries bytes) one.0 rest.0,
    )

pub around : (bytes piece : List ℕ) (i : ℕ) → i < length piece
    → ((bytes ++ take i piece) ++ get_or piece i 0 ∷ []) ++ drop (i + 1) piece ≡ bytes ++ piece
around bytes piece i within =
    append_assoc (bytes ++ take i piece) (get_or piece i 0 ∷ []) (drop (i + 1) piece)
    ∙ append_assoc bytes (take i piece) (get_or piece i 0 ∷ drop (i + 1) piece)
    ∙ ap (λ rest. bytes ++ (take i piece ++ rest)) (sym (rw (add-one, drop-cons piece i 0)))
    ∙ ap (λ all. bytes ++ all) (take-append-drop i piece)

pub taken_further : (bytes piece : List ℕ) (i : ℕ) → i < length piece
    → (bytes ++ take i piece) ++ get_or piece i 0 ∷ [] ≡ bytes ++ take (i + 1) piece
taken_further bytes piece i within =
    append_assoc bytes (take i piece) (get_or piece i 0 ∷ [])
    ∙ ap (λ rest. bytes ++ (take i piece ++ rest)) (ap (take 1) (sym (drop-cons piece i 0 within)))
    ∙ ap (λ all. bytes ++ all) (sym (take-add i 1 piece))

module _ (start : Store) where
  -- ---- answers behind what was answered

  says_further : (xs ys : List (Parsed Command)) (store : Store) (begun said now : Option (List ℕ))
      → store ≡ after slot_limit start xs → Says begun (texts (replies slot_limit start xs)) said
      → Says said (texts (replies slot_limit store ys)) now
      → Says begun (texts (replies slot_limit start (xs ++ ys))) now
  says_further xs ys store begun said now at before more =
      rw (texts-append start xs ys, ← at) (says_more _ _ _ _ _ before more)

  -- ---- the steps of a run

  pub line_ended : (bytes line : List ℕ) (begun said now : Option (List ℕ)) (old new : ScriptRun)
      → IsAt start bytes begun old said → line ≡ strip_carriage_return old.line.items
      → keeper_limit new.keeper ≡ keeper_limit old.keeper
      → keeper_store new.keeper ≡ after (keeper_limit old.keeper) (keeper_store old.keeper) (entries_in line)
      → new.line.items ≡ []
      → Says said (texts (replies (keeper_limit old.keeper) (keeper_store old.keeper) (entries_in line))) now
      → IsAt start (bytes ++ 10 ∷ []) begun new now
  line_ended bytes line begun said now old new at is limit store empty says =
      let same = kept_stripped bytes old.line.items line at.line is in
      let more = entries_in (strip_carriage_return (open_line bytes)) in
      let store_now : keeper_store new.keeper ≡ after slot_limit (keeper_store old.keeper) (entries_in line) =
      store ∙ ap (λ (most : ℕ). after most (keeper_store old.keeper) (entries_in line)) at.limit in
      record {
        limit = limit ∙ at.limit;
        store = rw (ended_lf bytes, after-append start (ended_entries bytes) more, ← at.store, ← same) store_now;
        line = rw (open_line-lf bytes) empty;
        text =
            rw (ended_lf bytes) (says_further (ended_entries bytes) more (keeper_store old.keeper) begun said now
            at.store
            at.text (rw (at.limit, same) at says));
      }

  pub line_kept : (bytes : List ℕ) (b : ℕ) (begun said : Option (List ℕ)) (old new : ScriptRun)
      → IsAt start bytes begun old said → b ≢ 10 → new.keeper ≡ old.keeper → length old.line.items < kept_of_line
      → new.line.items ≡ old.line.items ++ b ∷ [] → IsAt start (bytes ++ b ∷ []) begun new said
  line_kept bytes b begun said old new at on keeper short pushed =
      record {
        limit = rw keeper at.limit;
        store = rw (ended_on bytes b on, keeper) at.store;
        line =
            pushed ∙ keeps_all kept_of_line (open_line bytes) old.line.items b at.line short
            ∙ ap (take kept_of_line) (sym (open_line-on bytes b on));
        text = rw (ended_on bytes b on) at.text;
      }

  pub line_passed : (bytes : List ℕ) (b : ℕ) (begun said : Option (List ℕ)) (run : ScriptRun)
      → IsAt start bytes begun run said → b ≢ 10 → kept_of_line ≤ length run.line.items
      → IsAt start (bytes ++ b ∷ []) begun run said
  line_passed bytes b begun said run at on long = record {
    limit = at.limit;
    store = rw (ended_on bytes b on) at.store;
    line =
        keeps_front kept_of_line (open_line bytes) run.line.items b at.line long
        ∙ ap (take kept_of_line) (sym (open_line-on bytes b on));
    text = rw (ended_on bytes b on) at.text;
  }

  pub finished : (bytes line : List ℕ) (begun said now : Option (List ℕ)) (run : ScriptRun)
      → IsAt start bytes begun run said → line ≡ run.line.items
      → Says said (texts (replies (keeper_limit run.keeper) (keeper_store run.keeper) (entries_in line))) now
      → Says begun (texts (replies slot_limit start (script bytes))) now
  finished bytes line begun said now run at is says =
      let same = ap entries_in is ∙ kept_open bytes run.line.items at.line in
      rw (script-is bytes) (says_further (ended_entries bytes) (entries_in (open_line bytes)) (keeper_store run.keeper)
      begun said now at.store at.text (rw (at.limit, same) at says))

  pub finished_store : (bytes line : List ℕ) (begun said : Option (List ℕ)) (run : ScriptRun) (store : Store)
      → IsAt start bytes begun run said → line ≡ run.line.items
      → store ≡ after (keeper_limit run.keeper) (keeper_store run.keeper) (entries_in line)
      → store ≡ after slot_limit start (script bytes)
  finished_store bytes line begun said run store at is stepped =
      rw (
        script-is bytes,
        after-append start (ended_entries bytes) (entries_in (open_line bytes)),
        ← at.store,
        ← ap entries_in is ∙ kept_open bytes run.line.items at.line,
      )
      (stepped ∙ ap (λ (most : ℕ). after most (keeper_store run.keeper) (entries_in line)) at.limit)
