-- How much the commits of entries write, of some of them and of more.
use Rattle.std.specs.Option.{option_map}
use Rattle.std.specs.Prelude.{IfSome}
use Rattle.std.specs.Str.Lines.{strip_carriage_return}
use Rattle.std.proofs.Common.{◌≡◌, ◌≤◌, ◌<◌, ◌+◌, ℕ, List, [], ◌∷◌, ◌++◌, length, take, drop, get_or, Some, None, Option}
use Rattle.std.proofs.Common.{Ok, ap, append-nil, arith, length-append, refl, sym, subst, ◌∙◌}
use Rattle.std.proofs.lemmas.List.{length-take-le}
use Rattle.pl_base.specs.Store.{Store}
use Rattle.pl_base.specs.Live.{slot_limit}
use Rattle.pl_step.specs.declared.command.Command.{Command}
use Rattle.pl_step.specs.declared.reply.Reply.{Reply}
use Rattle.pl_step.specs.Parsed.{Parsed}
use Rattle.pl_step.specs.Run.{after}
use Rattle.pl_step.specs.Step.{perform, step}
use Rattle.pl_store.specs.Bounds.{most_bytes}
use Rattle.pl_store.specs.Keeper.{keeper_limit, keeper_store}
use Rattle.pl_script.specs.Script.{script}
use Rattle.places.specs.declared.script_run.ScriptRun.{ScriptRun}
use Rattle.places.specs.Bounded.{WritesFew, entries_bytes, entry_bytes, sum_of}
use Rattle.places.specs.Ending.{WritesRead}
use Rattle.places.specs.Lines.{entries_in, open_line}
use Rattle.places.specs.Progress.{HasRead, IsAt, ended_entries, entries_read}
use Rattle.pl_task.specs.Task.{script_limit}
use Rattle.places.proofs.EndingLemmas.{IsBehind, at_end, halves, none_left, piece_of, read_so_far}
use Rattle.places.proofs.LineLemmas.{script-is}
use Rattle.places.proofs.ProgressLemmas.{around, ended_further, ended_lf, kept_open, kept_stripped}

-- ---- sums

from_less : (told : Option ℕ) (before later now : ℕ) → before ≤ later → IfSome told (λ most. now ≤ before + most)
    → IfSome told (λ most. now ≤ later + most)
from_less None before later now less few = tt
from_less (Some most) before later now less few = omega (arith, less, few)

within : (told : Option ℕ) (before now : ℕ) → now ≤ before → IfSome told (λ most. now ≤ before + most)
within None before now none = tt
within (Some most) before now none = omega (arith, none)

sum_then : (a b : Option ℕ) (before between now : ℕ) → IfSome a (λ most. between ≤ before + most)
    → IfSome b (λ most. now ≤ between + most) → IfSome (sum_of a b) (λ most. now ≤ before + most)
sum_then None b before between now first next = tt
sum_then (Some x) None before between now first next = tt
sum_then (Some x) (Some y) before between now first next = omega (arith, first, next)

sum_none : (b : Option ℕ) → sum_of (Some 0) b ≡ b
sum_none None = refl
sum_none (Some y) = ap Some (omega arith)

none_sum : (a : Option ℕ) → sum_of a (Some 0) ≡ a
none_sum None = refl
none_sum (Some x) = ap Some (omega arith)

sum_assoc : (a b c : Option ℕ) → sum_of (sum_of a b) c ≡ sum_of a (sum_of b c)
sum_assoc None b c = refl
sum_assoc (Some x) None c = refl
sum_assoc (Some x) (Some y) None = refl
sum_assoc (Some x) (Some y) (Some z) = ap Some (omega arith)

entries_bytes-append : (limit : ℕ) (store : Store) (xs ys : List (Parsed Command))
    → entries_bytes limit store (xs ++ ys)
    ≡ sum_of (entries_bytes limit store xs) (entries_bytes limit (after limit store xs) ys)
entries_bytes-append limit store [] ys = sym (sum_none (entries_bytes limit store ys))
entries_bytes-append limit store (entry ∷ xs) ys =
    let next : Store = (step limit store entry).1 in
    ap (sum_of (entry_bytes limit store entry)) (entries_bytes-append limit next xs ys)
    ∙ sym (sum_assoc (entry_bytes limit store entry) (entries_bytes limit next xs)
    (entries_bytes limit (after limit next xs) ys))

-- ---- one answer

-- nothing was written
pub writes_none : (limit : ℕ) (store : Store) (entries : List (Parsed Command)) (before now : ℕ) → now ≤ before
    → WritesFew limit store entries before now
writes_none limit store entries before now none = within (entries_bytes limit store entries) before now none

-- a command was committed
pub writes_command : (limit : ℕ) (store next : Store) (command : Command) (reply : Reply) (bytes before now : ℕ)
    → (reply, next) ≡ perform limit store command → IfSome (most_bytes store command reply) (λ most. bytes ≤ most)
    → now ≤ before + bytes → WritesFew limit store (Ok command ∷ []) before now
writes_command limit store next command reply bytes before now stepped few wrote =
    subst (λ (told : Option ℕ). IfSome told (λ most. now ≤ before + most))
    (ap (λ (d : Reply × Store). most_bytes store command d.0) stepped
    ∙ sym (none_sum (most_bytes store command (perform limit store command).0)))
    (of_commit (most_bytes store command reply) few)
  where
    of_commit : (told : Option ℕ) → IfSome told (λ most. bytes ≤ most) → IfSome told (λ most. now ≤ before + most)
    of_commit None few = tt
    of_commit (Some most) few = omega (arith, few, wrote)

-- ---- entries behind others

module _ (start : Store) (before : ℕ) where
  writes_then : (xs ys : List (Parsed Command)) (between now : ℕ) → WritesFew slot_limit start xs before between
      → WritesFew slot_limit (after slot_limit start xs) ys between now
      → WritesFew slot_limit start (xs ++ ys) before now
  writes_then xs ys between now first next =
      subst (λ (told : Option ℕ). IfSome told (λ most. now ≤ before + most))
      (sym (entries_bytes-append slot_limit start xs ys))
      (sum_then (entries_bytes slot_limit start xs) (entries_bytes slot_limit (after slot_limit start xs) ys) before
      between now first next)

  writes_further : (xs ys : List (Parsed Command)) (now : ℕ) → WritesFew slot_limit start xs before now
      → WritesFew slot_limit start (xs ++ ys) before now
  writes_further xs ys now few =
      writes_then xs ys now now few (writes_none slot_limit (after slot_limit start xs) ys now now (omega arith))

  pub writes_later : (bytes piece : List ℕ) (now : ℕ) → WritesFew slot_limit start (ended_entries bytes) before now
      → WritesFew slot_limit start (ended_entries (bytes ++ piece)) before now
  writes_later bytes piece now few =
      let further = ended_further bytes piece in
      rw further.1 (writes_further (ended_entries bytes) further.0 now few)

  pub writes_within : (bytes piece : List ℕ) (i now : ℕ) → i < length piece
      → WritesFew slot_limit start (ended_entries ((bytes ++ take i piece) ++ get_or piece i 0 ∷ [])) before now
      → WritesFew slot_limit start (ended_entries (bytes ++ piece)) before now
  writes_within bytes piece i now within few =
      rw (← around bytes piece i within)
      (writes_later ((bytes ++ take i piece) ++ get_or piece i 0 ∷ []) (drop (i + 1) piece) now few)

  -- of the script whose front was read
  writes_script : (bytes rest : List ℕ) (now : ℕ) → WritesFew slot_limit start (ended_entries bytes) before now
      → WritesFew slot_limit start (script (bytes ++ rest)) before now
  writes_script bytes rest now few =
      rw (script-is (bytes ++ rest))
      (writes_further (ended_entries (bytes ++ rest)) (entries_in (open_line (bytes ++ rest))) now
      (writes_later bytes rest now few))

  writes_read : (read rest : List ℕ) (now : ℕ) → WritesFew slot_limit start (ended_entries read) before now
      → WritesFew slot_limit start (entries_read read rest) before now
  writes_read read [] now few = rw append-nil at (writes_script read [] now few)
  writes_read read (b ∷ rest) now few = few

  -- a line that ends with LF, and the last one
  pub line_writes : (bytes line : List ℕ) (begun said : Option (List ℕ)) (run : ScriptRun) (old now : ℕ)
      → IsAt start bytes begun run said → line ≡ strip_carriage_return run.line.items
      → WritesFew slot_limit start (ended_entries bytes) before old
      → WritesFew (keeper_limit run.keeper) (keeper_store run.keeper) (entries_in line) old now
      → WritesFew slot_limit start (ended_entries (bytes ++ 10 ∷ [])) before now
  line_writes bytes line begun said run old now at is few more =
      rw (ended_lf bytes)
      (writes_then (ended_entries bytes) (entries_in (strip_carriage_return (open_line bytes))) old now few
      (rw (at.limit, at.store, kept_stripped bytes run.line.items line at.line is) at more))

  pub last_writes : (bytes line : List ℕ) (begun said : Option (List ℕ)) (run : ScriptRun) (old now : ℕ)
      → IsAt start bytes begun run said → line ≡ run.line.items
      → WritesFew slot_limit start (ended_entries bytes) before old
      → WritesFew (keeper_limit run.keeper) (keeper_store run.keeper) (entries_in line) old now
      → WritesFew slot_limit start (script bytes) before now
  last_writes bytes line begun said run old now at is few more =
      rw (script-is bytes)
      (writes_then (ended_entries bytes) (entries_in (open_line bytes)) old now few
      (rw (at.limit, at.store, ap entries_in is ∙ kept_open bytes run.line.items at.line) at more))

  -- ---- what was read

  writes_front : (bytes read rest : List ℕ) (left : Option (List ℕ)) (now : ℕ) → HasRead bytes read rest left
      → WritesFew slot_limit start (ended_entries read) before now → WritesRead start bytes left before now
  writes_front bytes read rest left now has few = record {
    read = read;
    rest = rest;
    has_read = has;
    few = writes_read read rest now few;
    whole =
        subst (λ (all : List ℕ). WritesFew slot_limit start (script all) before now) (sym has.order)
        (writes_script read rest now few);
  }

  -- nothing was
  pub writes_unread : (bytes : List ℕ) (left : Option (List ℕ)) (now : ℕ) → left ≡ Some bytes → now ≤ before
      → WritesRead start bytes left before now
  writes_unread bytes left now told none =
      writes_front bytes [] bytes left now
      (record { order = refl; rest_left = told; in_limit = omega arith })
      (writes_none slot_limit start [] before now none)

  module _ (read : ℕ) (bytes begun piece : List ℕ) (left left_now said : Option (List ℕ)) (run : ScriptRun)
      (behind : IsBehind start read bytes begun left run said) (now : ℕ) where
    -- so much so far
    pub writes_so_far : left_now ≡ left → read ≤ script_limit
        → WritesFew slot_limit start (ended_entries (take read bytes)) before now
        → WritesRead start bytes left_now before now
    writes_so_far same below few =
        writes_front bytes (take read bytes) (drop read bytes) left_now now
        (read_so_far start read bytes begun left left_now said run behind same below) few

    -- a piece more
    pub writes_piece : left ≡ option_map (λ rest. piece ++ rest) left_now
        → WritesFew slot_limit start (ended_entries (take read bytes ++ piece)) before now
        → WritesFew slot_limit start (ended_entries (take (read + length piece) bytes)) before now
    writes_piece taken few =
        subst (λ (front : List ℕ). WritesFew slot_limit start (ended_entries front) before now)
        (sym (piece_of read bytes piece left_now behind.in_input (sym behind.rest_left ∙ taken)).front) few

    pub writes_in_piece : left ≡ option_map (λ rest. piece ++ rest) left_now → read + length piece ≤ script_limit
        → WritesFew slot_limit start (ended_entries (take read bytes ++ piece)) before now
        → WritesRead start bytes left_now before now
    writes_in_piece taken below few =
        let part = piece_of read bytes piece left_now behind.in_input (sym behind.rest_left ∙ taken) in
        let order : (take read bytes ++ piece) ++ drop (read + length piece) bytes ≡ bytes =
        ap (λ front. front ++ drop (read + length piece) bytes) (sym part.front)
        ∙ halves (read + length piece) bytes in
        writes_front bytes (take read bytes ++ piece) (drop (read + length piece) bytes) left_now now (record {
          order = sym order;
          rest_left = part.rest_left;
          in_limit =
              omega (arith, length-append (take read bytes) piece, length-take-le read bytes behind.in_input, below);
        }) few

    -- all
    pub writes_at_end : left ≡ option_map (λ rest. piece ++ rest) left_now → IfSome left (λ rest. rest ≡ [])
        → length piece ≡ 0 → read ≤ script_limit
        → WritesFew slot_limit start (script (take read bytes)) before now
        → WritesRead start bytes left_now before now
    writes_at_end taken ended nothing below few =
        let whole = at_end start read bytes begun piece left said run behind ended in
        let all : WritesFew slot_limit start (script bytes) before now =
        subst (λ (front : List ℕ). WritesFew slot_limit start (script front) before now) whole.0 few in
        record {
          read = bytes;
          rest = [];
          has_read = record {
            order = sym (append-nil bytes);
            rest_left = none_left start read bytes begun piece left left_now said run behind nothing taken ended;
            in_limit = omega (arith, whole.1, below);
          };
          few = all;
          whole = all;
        }

-- ---- from more bytes on, and of the same store

pub writes_from : (start : Store) (bytes : List ℕ) (left : Option (List ℕ)) (before later now : ℕ) → before ≤ later
    → WritesRead start bytes left before now → WritesRead start bytes left later now
writes_from start bytes left before later now less wrote = record {
  read = wrote.read;
  rest = wrote.rest;
  has_read = wrote.has_read;
  few =
      from_less (entries_bytes slot_limit start (entries_read wrote.read wrote.rest)) before later now less wrote.few;
  whole = from_less (entries_bytes slot_limit start (script bytes)) before later now less wrote.whole;
}
